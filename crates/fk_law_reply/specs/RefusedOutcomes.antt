-- A refused request: its code at its number.
use Rattle.std.specs.Prelude.{◌≡◌, ℕ, ◌≤◌, ◌++◌, List, ◌∷◌, Some}
use Rattle.fk_base.specs.declared.code.Code.{Code}
use Rattle.fk_tree.specs.Check.{check}
use Rattle.fk_tree.specs.Edit.{view_after}
use Rattle.fk_tree.specs.declared.request.Request.{Request}
use Rattle.fk_print.specs.declared.entry.Entry.{Entry}
use Rattle.fk_print.specs.declared.op.Op.TheVariants as op
use Rattle.fk_spec.specs.Plan.{Plan}
use Rattle.fk_spec.specs.Start.{request_of, seen_with}
use Rattle.fk_spec.specs.Settling.{Refused, outcome_of}
use Rattle.fk_spec.specs.Stored.{committed_of, up_to}
use Rattle.fk_spec.specs.Follower.{Follower}
use Rattle.fk_spec.specs.Function.{Following, place_of}
use Rattle.fk_spec.specs.Next.{IsHistory}
use Rattle.fk_law_watch.specs.FirstNumbers.{ReadsAreReads}

-- request k of session c was refused by a function that stood before its refusal
pub record IsRefusedBy (c k place at : ℕ) (code : Code) (p : Plan) (h : List Entry) : Type 0 where
  pub entry : Entry
  pub before : List Entry
  pub after : List Entry
  pub whole : h ≡ after ++ entry ∷ before
  pub function : ℕ
  pub refuses : entry.op ≡ op.RefuseOk function code place at
  pub follower : Follower
  pub stands : place_of p function before ≡ Following follower
  pub its_session : follower.session ≡ c
  pub its_number : follower.k ≡ k

-- A request whose outcome is a refusal was refused so.
abbrev pub RefusedWasRefused : Type 0
RefusedWasRefused = (p : Plan) (c k place at : ℕ) (code : Code) (h : List Entry) → IsHistory p h → outcome_of c k h ≡ Some (Refused code place at) → IsRefusedBy c k place at code p h

-- Its code and its place are the first check that fails on what the commits up to its number leave.
abbrev pub RefusedHoldsAtItsNumber : Type 0
RefusedHoldsAtItsNumber =
    (p : Plan) (c k place at : ℕ) (code : Code) (h : List Entry) (r : Request) → ReadsAreReads p → IsHistory p h → outcome_of c k h ≡ Some (Refused code place at) → request_of p c k h ≡ Some r
    → check (view_after (up_to at (committed_of p h))) c r ≡ Some (record { code = code; place = place })

-- That number is at least what the client had seen when it sent the request.
abbrev pub RefusedBeyondSeen : Type 0
RefusedBeyondSeen = (p : Plan) (c k place at : ℕ) (code : Code) (h : List Entry) → IsHistory p h → outcome_of c k h ≡ Some (Refused code place at) → seen_with c k h ≤ at
