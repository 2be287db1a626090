-- The message of a push tells the request that its session's lane was given.
use Rattle.std.specs.Prelude.{◌==◌, option_map}
use Rattle.std.proofs.Common.{◌≡◌, ℕ, Bool, true, false, cond, List, [], ◌∷◌, refl, ◌∙◌, subst, arith, Option, Some, None}
use Rattle.fk_tree.specs.declared.request.Request.{Request}
use Rattle.fk_print.specs.declared.entry.Entry.{Entry}
use Rattle.fk_print.specs.declared.op.Op.{Op}
use Rattle.fk_print.specs.declared.op.Op.TheVariants as op
use Rattle.fk_wire.specs.declared.message.Pushed.{Pushed}
use Rattle.fk_stand.specs.Messages.{push_by, push_here, push_message_of, push_with}
use Rattle.fk_spec.specs.Plan.{Plan}
use Rattle.fk_spec.specs.Start.{clock_of, or_else, request_of}
use Rattle.fk_spec.specs.Follower.{Follower}
use Rattle.fk_spec.specs.Function.{Absent, Beating, Following, Leading, Place, Telling, place_of}
use Rattle.fk_spec.specs.Next.{IsHistory}
use Rattle.fk_law.proofs.Sending.{request_stays, request_was_sent}
use Rattle.std.proofs.lemmas.Option.{same_Some}

-- a message's request is the one of its session and its number
abbrev TellsRequest : Plan → List Entry → Pushed → Type 0
TellsRequest p h x = request_of p x.session x.k h ≡ Some x.request

none_some : (x : Pushed) → None ≡ Some x → ⊥
none_some x e = grind arith

-- a push of a follower tells the request that it asks for
by_request : (p : Plan) (h : List Entry) (n moment : ℕ) (f : Follower) (x : Pushed) (o : Option Request) → request_of p f.session f.k h ≡ o → option_map (push_with n moment f) o ≡ Some x → TellsRequest p h x
by_request p h n moment f x None a e = absurd (none_some x e)
by_request p h n moment f x (Some r) a e = subst (TellsRequest p h) (same_Some (push_with n moment f r) x e) a

-- so does that of each function
by_place : (p : Plan) (h : List Entry) (n : ℕ) (x : Pushed) (y : Place) → push_by p h n y ≡ Some x → TellsRequest p h x
by_place p h n x (Following f) e = by_request p h n (clock_of h) f x (request_of p f.session f.k h) refl e
by_place p h n x Absent e = absurd (none_some x e)
by_place p h n x (Leading t s) e = absurd (none_some x e)
by_place p h n x (Telling w t s) e = absurd (none_some x e)
by_place p h n x (Beating c s) e = absurd (none_some x e)

-- the message that a line puts tells its request
line_tells : (p : Plan) (t : ℕ) (h : List Entry) (o : Op) (x : Pushed) → push_here p t h o ≡ Some x → TellsRequest p h x
line_tells p t h (op.Push n s) x e = by_number (s == t) e
  where
    by_number : (b : Bool) → cond b (push_by p h n (place_of p n h)) None ≡ Some x → TellsRequest p h x
    by_number true f = by_place p h n x (place_of p n h) f
    by_number false f = absurd (none_some x f)
line_tells p t h o x e = absurd (none_some x e)

-- so it stays
request_on : (p : Plan) (e : Entry) (h : List Entry) (x : Pushed) → IsHistory p (e ∷ h) → TellsRequest p h x → TellsRequest p (e ∷ h) x
request_on p e h x l i = request_stays p x.session x.k e h (request_was_sent p x.session x.k h x.request l.0 i).1 ∙ i

tells_step : (p : Plan) (t : ℕ) (h : List Entry) (x : Pushed) (o : Option Pushed) → ((y : Pushed) → o ≡ Some y → TellsRequest p h y) → (push_message_of p t h ≡ Some x → TellsRequest p h x) → or_else o (push_message_of p t h) ≡ Some x → TellsRequest p h x
tells_step p t h x None f i e = i e
tells_step p t h x (Some y) f i e = subst (TellsRequest p h) (same_Some y x e) (f y refl)

-- so a push's message tells it
pub message_tells_its_request : (p : Plan) (t : ℕ) (h : List Entry) (x : Pushed) → IsHistory p h → push_message_of p t h ≡ Some x → request_of p x.session x.k h ≡ Some x.request
message_tells_its_request p t [] x l e = absurd (none_some x e)
message_tells_its_request p t (e ∷ h) x l m = request_on p e h x l (tells_step p t h x (push_here p t h e.op) (λ y a. line_tells p t h e.op y a) (λ a. message_tells_its_request p t h x l.0 a) m)
