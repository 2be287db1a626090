-- The watches that a client holds by its lines are those that it holds.
use Rattle.std.specs.Prelude.{◌≡◌, ℕ, ◌⊎◌, true, List, [], ◌∷◌, Some}
use Rattle.fk_print.specs.declared.entry.Entry.{Entry}
use Rattle.fk_spec.specs.Plan.{Plan}
use Rattle.fk_spec.specs.Watches.{Watch}
use Rattle.fk_spec.specs.Client.{client_of, contains}
use Rattle.fk_spec.specs.Holding.{Holding, held_at, held_by}
use Rattle.fk_spec.specs.PublicLines.{lines_of}
use Rattle.fk_spec.specs.Next.{IsHistory}
use Rattle.fk_law_watch.specs.SetWatches.{first_of}
use Rattle.fk_law_reply.specs.Plans.{HasFittingVerbs}
use Rattle.fk_law_held.specs.Held.{known_watch}

-- one of these
abbrev pub IsIn : Holding → List Holding → Type 0
IsIn x [] = ⊥
IsIn x (w ∷ ws) = (x ≡ w) ⊎ IsIn x ws

-- a holding is of a watch of these numbers: of its path, its kind and its first number
pub record IsOfHeld (p : Plan) (h : List Entry) (held : List ℕ) (x : Holding) : Type 0 where
  pub id : ℕ
  pub holds : contains id held ≡ true
  pub watch : Watch
  pub known : known_watch p id h ≡ Some watch
  pub its_path : watch.path ≡ x.path
  pub its_kind : watch.kind ≡ x.kind
  pub first : first_of p id h ≡ Some x.at

-- the watches of these numbers are these holdings
pub record Matches (p : Plan) (h : List Entry) (held : List ℕ) (ws : List Holding) : Type 0 where
  pub there : (id n : ℕ) (w : Watch) → contains id held ≡ true → known_watch p id h ≡ Some w → first_of p id h ≡ Some n → held_at w.path w.kind ws ≡ Some (record { path = w.path; kind = w.kind; at = n })
  pub back : (x : Holding) → IsIn x ws → IsOfHeld p h held x

-- So it is of each client.
abbrev pub HeldByLinesIsHeld : Type 0
HeldByLinesIsHeld = (p : Plan) (c : ℕ) (h : List Entry) → HasFittingVerbs p → IsHistory p h → Matches p h (client_of p c h).held (held_by p c (lines_of h))
