-- A leader's operation leaves what its publication shows.
use Rattle.std.proofs.Common.{◌≡◌, refl}
use Rattle.fk_lead.specs.Meaning as leader
use Rattle.fk_lead.specs.Next.{next_with}
use Rattle.fk_print.specs.declared.op.Op.{Op}
use Rattle.fk_print.specs.declared.op.Op.TheVariants as op
use Rattle.fk_engine.specs.declared.times.Times.{Times}
use Rattle.fk_engine.specs.Machines.{Meaning, Follower, Leader, Teller, Beat, after_step, leader_lines, lines_by, step_op}
use Rattle.fk_engine.specs.Reads.{Read}
use Rattle.fk_watch.specs.Services.{Services}

leader_shows : (s : leader.Swept) (o : Op) (m : leader.Meaning) → leader_lines o (next_with s o m) ≡ leader_lines o m
leader_shows s (op.PublishOk n tx) m = refl
leader_shows s o m = refl

lines_stay : (s : Services) (t : Times) (r : Read) (m : Meaning) → lines_by (step_op s t r m) (after_step s t r m) ≡ lines_by (step_op s t r m) m
lines_stay s t r (Follower m) = refl
lines_stay s t r (Leader m) = leader_shows r.swept (step_op s t r (Leader m)) m
lines_stay s t r (Teller m) = refl
lines_stay s t r (Beat m) = refl

-- the lines of an operation are those of the function before it
pub lines_after : (s : Services) (t : Times) (r : Read) (m : Meaning) (o : Op) (n : Meaning) → o ≡ step_op s t r m → n ≡ after_step s t r m → lines_by o n ≡ lines_by o m
lines_after s t r m o n a b = rw (a, b) (lines_stay s t r m)
