-- How watches fire by the transaction lines.
use Rattle.std.specs.Prelude.{◌≡◌, ℕ, ◌≤◌, true, List, Some}
use Rattle.fk_print.specs.declared.entry.Entry.{Entry}
use Rattle.fk_spec.specs.Plan.{Plan}
use Rattle.fk_spec.specs.Settling.{mark_of}
use Rattle.fk_spec.specs.Watches.{Firing, firing_of}
use Rattle.fk_spec.specs.Client.{client_of, contains}
use Rattle.fk_spec.specs.Holding.{Fired, Holding, firing_among, held_by}
use Rattle.fk_spec.specs.PublicLines.{lines_of, txs_of}
use Rattle.fk_spec.specs.Promises.{NoReadPassesAWatch}
use Rattle.fk_spec.specs.Next.{IsHistory}
use Rattle.fk_law_watch.specs.SetWatches.{first_of}
use Rattle.fk_law_reply.specs.Plans.{HasFittingVerbs}
use Rattle.fk_law_held.specs.Matching.{IsIn}

-- a held watch that fired at this number or below
pub record FiredBy (p : Plan) (c : ℕ) (h : List Entry) (n : ℕ) : Type 0 where
  pub id : ℕ
  pub holds : contains id (client_of p c h).held ≡ true
  pub firing : Firing
  pub fired : firing_of p id h ≡ Some firing
  pub before : firing.tx ≤ n

-- What a client holds by its lines, and has fired by the transaction lines, is a watch that fired there or below.
abbrev pub FiredByLinesHasFired : Type 0
FiredByLinesHasFired = (p : Plan) (c : ℕ) (h : List Entry) (x : Holding) (f : Fired) → HasFittingVerbs p → IsHistory p h → IsIn x (held_by p c (lines_of h)) → firing_among x (txs_of h) ≡ Some f → FiredBy p c h f.tx

-- A watch that fired at a push up to the mark has fired so by the transaction lines.
abbrev pub FiringStandsInTheLines : Type 0
FiringStandsInTheLines =
    (p : Plan) (id n : ℕ) (h : List Entry) (f : Firing) → HasFittingVerbs p → IsHistory p h → firing_of p id h ≡ Some f → first_of p id h ≡ Some n → f.tx ≤ mark_of h
    → firing_among (record { path = f.watch.path; kind = f.watch.kind; at = n }) (txs_of h) ≡ Some (record { tx = f.tx; change = f.change })

-- At each answer to a read and each ok reply to a write, its client holds no watch that has fired at its number
-- or below.
abbrev pub NoReadPassesAHeldWatch : Type 0
NoReadPassesAHeldWatch = (p : Plan) (h : List Entry) → HasFittingVerbs p → IsHistory p h → NoReadPassesAWatch p h
