-- Refusals, and the tree of their numbers.
use Rattle.std.specs.Prelude.{◌≡◌, ℕ, ◌≤◌, ◌++◌, true, List, ◌∷◌, Some}
use Rattle.fk_base.specs.declared.code.Code.{Code}
use Rattle.fk_tree.specs.Check.{check}
use Rattle.fk_tree.specs.Edit.{view_after}
use Rattle.fk_tree.specs.declared.request.Request.{Request}
use Rattle.fk_print.specs.declared.entry.Entry.{Entry}
use Rattle.fk_print.specs.declared.op.Op.TheVariants as op
use Rattle.fk_spec.specs.Plan.{Plan}
use Rattle.fk_spec.specs.Start.{pushes_of, request_of}
use Rattle.fk_spec.specs.Stored.{committed_of, up_to}
use Rattle.fk_spec.specs.Follower.{Follower}
use Rattle.fk_spec.specs.Follower as follower
use Rattle.fk_spec.specs.Function.{Following, place_of}
use Rattle.fk_spec.specs.Next.{IsHistory}
use Rattle.fk_law.specs.Due.{IsDue}

-- A follower that is about to refuse as its session was closed: it was closed at the refusal's number.
abbrev pub ClosedAtItsNumber : Type 0
ClosedAtItsNumber = (p : Plan) (n at : ℕ) (h : List Entry) (f : Follower) → IsHistory p h → place_of p n h ≡ Following f → f.stage ≡ follower.Expire at → (view_after (up_to at (committed_of p h))).closed f.session ≡ true

-- Where a request is refused, its check on what the commits up to the refusal's number leave gives the code
-- and the place.
abbrev pub RefusalHoldsAtItsNumber : Type 0
RefusalHoldsAtItsNumber =
    (p : Plan) (n place at : ℕ) (code : Code) (h : List Entry) (f : Follower) (r : Request) → IsHistory p h → IsDue p h (op.RefuseOk n code place at) → place_of p n h ≡ Following f → request_of p f.session f.k h ≡ Some r
    → check (view_after (up_to at (committed_of p h))) f.session r ≡ Some (record { code = code; place = place })

-- It holds in every longer history, where the refusal's number is at most that of the last push.
abbrev pub RefusalHoldsForEver : Type 0
RefusalHoldsForEver =
    (p : Plan) (n place at : ℕ) (code : Code) (e : Entry) (h more : List Entry) (f : Follower) (r : Request) → IsHistory p (more ++ e ∷ h) → e.op ≡ op.RefuseOk n code place at → at ≤ pushes_of h → place_of p n h ≡ Following f → request_of p f.session f.k h ≡ Some r
    → check (view_after (up_to at (committed_of p (more ++ e ∷ h)))) f.session r ≡ Some (record { code = code; place = place })
