use Rattle.std.proofs.Common.{◌≡◌, true, sym, subst}
use Rattle.fk_queue.specs.Lanes.{is_session}
use Rattle.fk_queue.specs.Posts.{post_of}
use Rattle.fk_engine.proofs.Turns.{busy_turn, idle_turn, session_is}
use Rattle.fk_engine.proofs.turning.take.Goals as goal
use Rattle.fk_base.proofs.Logic.{ok_each}

pub idle-requires : goal.idle-requires
idle-requires g c = subst (λ s. is_session (post_of c.args.services.now.post).sessions s ≡ true) (session_is c.args.client.now) c.requires.session

pub returns-then-idle : goal.returns-then-idle
returns-then-idle g c = idle_turn _ _ _ (sym c.if-idle.ensures.idle) c.new.ensures

pub step-requires : goal.step-requires
step-requires g c = c.requires.turn (sym c.if-idle.ensures.idle)

pub returns : goal.returns
returns g c = ok_each c.step.result c.step.ensures (λ x h. busy_turn _ _ _ _ _ _ (sym c.if-idle.ensures.idle) h)
