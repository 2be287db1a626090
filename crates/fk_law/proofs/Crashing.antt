-- A function that crashes is gone.
use Rattle.std.proofs.Common.{◌≡◌, ℕ, List, refl, Option, Some, None}
use Rattle.fk_print.specs.declared.entry.Entry.{Entry}
use Rattle.fk_print.specs.declared.op.Op.TheVariants as op
use Rattle.fk_spec.specs.Plan.{Plan}
use Rattle.fk_spec.specs.Start.{request_of}
use Rattle.fk_spec.specs.Follower as rules
use Rattle.fk_spec.specs.Follower.{next_for}
use Rattle.fk_tree.specs.declared.request.Request.{Request}
use Rattle.fk_spec.specs.Function.{Absent, follow_on, Beating, Following, Leading, Place, Telling, moved}

crashed_follower : (p : Plan) (h : List Entry) (n : ℕ) (f : rules.Follower) (o : Option Request) → (let g = next_for p h o (op.Crash n) f in follow_on g.stage g) ≡ Absent
crashed_follower p h n f None = refl
crashed_follower p h n f (Some r) = refl

pub crashed : (p : Plan) (h : List Entry) (n : ℕ) (x : Place) → moved p h (op.Crash n) x ≡ Absent
crashed p h n Absent = refl
crashed p h n (Following f) = crashed_follower p h n f (request_of p f.session f.k h)
crashed p h n (Leading t s) = refl
crashed p h n (Telling w t s) = refl
crashed p h n (Beating c s) = refl
