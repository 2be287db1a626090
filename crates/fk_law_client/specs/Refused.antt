-- Refusals hold in every longer history.
use Rattle.std.specs.Prelude.{◌≡◌, ℕ, ◌≤◌, ◌++◌, List, ◌∷◌, Some}
use Rattle.fk_base.specs.declared.code.Code.{Code}
use Rattle.fk_tree.specs.Check.{check}
use Rattle.fk_tree.specs.Edit.{view_after}
use Rattle.fk_tree.specs.declared.request.Request.{Request}
use Rattle.fk_print.specs.declared.entry.Entry.{Entry}
use Rattle.fk_print.specs.declared.op.Op.TheVariants as op
use Rattle.fk_spec.specs.Plan.{Plan}
use Rattle.fk_spec.specs.Start.{pushes_of, request_of}
use Rattle.fk_spec.specs.Settling.{mark_of}
use Rattle.fk_spec.specs.Stored.{committed_of, up_to}
use Rattle.fk_spec.specs.Follower.{Follower}
use Rattle.fk_spec.specs.Function.{Following, place_of}
use Rattle.fk_spec.specs.Next.{IsHistory}
use Rattle.fk_law.specs.Due.{IsDue}
use Rattle.fk_law_watch.specs.FirstNumbers.{ReadsAreReads}

-- The mark is at most the number of the last push.
abbrev pub MarkWasPushed : Type 0
MarkWasPushed = (p : Plan) (h : List Entry) → IsHistory p h → mark_of h ≤ pushes_of h

-- The number of a refusal is too.
abbrev pub RefusalNumberWasPushed : Type 0
RefusalNumberWasPushed = (p : Plan) (n place at : ℕ) (code : Code) (h : List Entry) → ReadsAreReads p → IsHistory p h → IsDue p h (op.RefuseOk n code place at) → at ≤ pushes_of h

-- So the check of a refused request gives its code and its place on what the commits up to the refusal's
-- number leave in every longer history.
abbrev pub RefusalHoldsInLongerHistories : Type 0
RefusalHoldsInLongerHistories =
    (p : Plan) (n place at : ℕ) (code : Code) (e : Entry) (h more : List Entry) (f : Follower) (r : Request) → ReadsAreReads p → IsHistory p (more ++ e ∷ h) → e.op ≡ op.RefuseOk n code place at → place_of p n h ≡ Following f → request_of p f.session f.k h ≡ Some r
    → check (view_after (up_to at (committed_of p (more ++ e ∷ h)))) f.session r ≡ Some (record { code = code; place = place })
