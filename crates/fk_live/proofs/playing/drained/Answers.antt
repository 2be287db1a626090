use Rattle.std.proofs.Common.{subst}
use Rattle.fk_spec.specs.Next.{IsHistory}
use Rattle.fk_spec.specs.Plan.{plan_of}
use Rattle.fk_spec.specs.Start.{clock_of}
use Rattle.fk_world.specs.World.{View}
use Rattle.fk_live.proofs.Closing.{answered_by_drain, drain_has_time}
use Rattle.fk_live.proofs.playing.drained.Goals as goal

pub drain-requires : goal.drain-requires
drain-requires g c = drain_has_time c.args.world.deployment (clock_of c.args.world.past) c.requires.meant c.requires.early

pub returns-clause-run : goal.returns-clause-run
returns-clause-run g c =
    answered_by_drain c.args.world c.drain.new.self (subst (λ (v : View). IsHistory (plan_of v.deployment) v.past) c.world.view_is c.world.invariant.past)
    c.requires.undisturbed c.in_ok-drain.ensures.deployment c.in_ok-drain.ensures.drained
