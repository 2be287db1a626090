-- Where a follower stands after one more entry, with all that it holds.
use Rattle.std.proofs.Common.{◌≡◌, ◌≢◌, ℕ, List, refl, sym, subst, Option, Some, None}
use Rattle.fk_tree.specs.declared.request.Request.{Request}
use Rattle.fk_print.specs.declared.entry.Entry.{Entry}
use Rattle.fk_print.specs.declared.op.Op.{Op}
use Rattle.fk_print.specs.declared.op.Op.TheVariants as op
use Rattle.fk_spec.specs.Plan.{Plan}
use Rattle.fk_spec.specs.Start.{Start, Task, Follows, Leads, Notifies, Probes, started_in, request_of}
use Rattle.fk_spec.specs.Follower.{Follower, begin, next_with, next_for}
use Rattle.fk_spec.specs.Follower as follower
use Rattle.fk_spec.specs.Leader.{next_leader}
use Rattle.fk_spec.specs.Leader as leader
use Rattle.fk_spec.specs.Function.{Place, Absent, Following, Leading, Telling, Beating, actor, placed, telling, follow_on, lead_on, tell_on, beat_on, moved, place_by}
use Rattle.fk_spec.specs.Teller.{Note}
use Rattle.fk_spec.specs.Teller as teller
use Rattle.fk_spec.specs.Heartbeat as heartbeat
use Rattle.fk_law.proofs.Moving.{place_step, follower_start}

abbrev pub OnStanding : (Follower → Type 0) → Place → Type 0
OnStanding Q (Following f) = Q f
OnStanding Q _ = Unit {0}

follow_standing : (Q : Follower → Type 0) (s : follower.Stage) (g : Follower) → Q g → OnStanding Q (follow_on s g)
follow_standing Q follower.Ended g i = tt
follow_standing Q s g i = i

lead_standing : (Q : Follower → Type 0) (t : ℕ) (s : leader.Stage) → OnStanding Q (lead_on t s)
lead_standing Q t leader.Ended = tt
lead_standing Q t s = tt

tell_standing : (Q : Follower → Type 0) (w t : ℕ) (s : teller.Stage) → OnStanding Q (tell_on w t s)
tell_standing Q w t teller.Ended = tt
tell_standing Q w t s = tt

beat_standing : (Q : Follower → Type 0) (c : ℕ) (s : heartbeat.Stage) → OnStanding Q (beat_on c s)
beat_standing Q c heartbeat.Ended = tt
beat_standing Q c s = tt

telling_standing : (Q : Follower → Type 0) (w : ℕ) (o : Option Note) → OnStanding Q (telling w o)
telling_standing Q w None = tt
telling_standing Q w (Some x) = tt

moved_standing : (p : Plan) (h : List Entry) (o : Op) (f : Follower) (Q : Follower → Type 0) → ((r : Request) → request_of p f.session f.k h ≡ Some r → Q (next_with p h r o f)) → OnStanding Q (moved p h o (Following f))
moved_standing p h o f Q b = asked (request_of p f.session f.k h) refl
  where
    asked : (r : Option Request) → request_of p f.session f.k h ≡ r → OnStanding Q (moved p h o (Following f))
    asked None e = subst (λ (r : Option Request). let g = next_for p h r o f in OnStanding Q (follow_on g.stage g)) (sym e) tt
    asked (Some r) e = subst (λ (r : Option Request). let g = next_for p h r o f in OnStanding Q (follow_on g.stage g)) (sym e) (follow_standing Q (next_with p h r o f).stage (next_with p h r o f) (b r e))

pub standing_step : (p : Plan) (n : ℕ) (h : List Entry) (o : Op) (x : Place) (Q : Follower → Type 0)
    → ((f : Follower) → x ≡ Following f → actor o ≢ Some n → Q f)
    → ((c k : ℕ) → o ≡ op.Follower n c k → Q (begin c k))
    → ((f : Follower) (r : Request) → x ≡ Following f → actor o ≡ Some n → request_of p f.session f.k h ≡ Some r → Q (next_with p h r o f))
    → OnStanding Q (place_by p n h o (actor o) x)
standing_step p n h o x Q kept begun moves = place_step p n h o x (OnStanding Q) (λ a. stays x refl a) starts (λ a. goes x refl a)
  where
    stays : (y : Place) → x ≡ y → actor o ≢ Some n → OnStanding Q y
    stays (Following f) e a = kept f e a
    stays Absent e a = tt
    stays (Leading t s) e a = tt
    stays (Telling w t s) e a = tt
    stays (Beating c s) e a = tt

    placed_so : (s : Start) (t : Task) → s.task ≡ t → started_in o ≡ Some s → s.function ≡ n → OnStanding Q (placed p h t)
    placed_so s (Follows c k) d e f = begun c k (follower_start n o s c k e f d)
    placed_so s (Leads t) d e f = tt
    placed_so s (Notifies w) d e f = telling_standing Q w _
    placed_so s (Probes c) d e f = tt

    starts : (s : Start) → started_in o ≡ Some s → s.function ≡ n → OnStanding Q (placed p h s.task)
    starts s e f = placed_so s s.task refl e f

    goes : (y : Place) → x ≡ y → actor o ≡ Some n → OnStanding Q (moved p h o y)
    goes (Following f) e a = moved_standing p h o f Q (λ r i. moves f r e a i)
    goes Absent e a = tt
    goes (Leading t s) e a = lead_standing Q t (next_leader p h t o s)
    goes (Telling w t s) e a = tell_standing Q w t _
    goes (Beating c s) e a = beat_standing Q c _
