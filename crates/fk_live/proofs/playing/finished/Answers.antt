use Rattle.std.proofs.Common.{◌∙◌, sym, subst}
use Rattle.fk_spec.specs.Next.{IsHistory}
use Rattle.fk_spec.specs.Plan.{plan_of}
use Rattle.fk_world.specs.World.{View}
use Rattle.fk_live.proofs.Closing.{answered_at_end}
use Rattle.fk_live.proofs.playing.finished.Goals as goal

pub returns-in-None-clause-run : goal.returns-in-None-clause-run
returns-in-None-clause-run g c =
    answered_at_end c.args.world (subst (λ (v : View). IsHistory (plan_of v.deployment) v.past) c.world.view_is c.world.invariant.past)
    c.requires.undisturbed (sym c.next_of_drain.ensures ∙ c.in-None.is)
