-- What is locked for a request, against what it reads and edits.
use Rattle.std.specs.Prelude.{◌≡◌, ◌==◌, ℕ, true, if◌then◌else◌, List, [], ◌∷◌, ◌++◌, Option, Some, None}
use Rattle.fk_base.specs.Path.{PathNames, parent, is_root}
use Rattle.fk_tree.specs.Sorted.{has_path}
use Rattle.fk_tree.specs.View.{View}
use Rattle.fk_tree.specs.Fill.{final_path}
use Rattle.fk_tree.specs.Locks.{lock_paths}
use Rattle.fk_tree.specs.Touch.{edited_paths}
use Rattle.fk_tree.specs.declared.applied.Applied.{Applied}
use Rattle.fk_tree.specs.declared.node.Node.{Node}
use Rattle.fk_tree.specs.declared.request.Request.{Request}
use Rattle.fk_tree.specs.declared.request.Request.TheVariants as request
use Rattle.fk_tree.specs.Rows.{is_of}
use Rattle.fk_law_tree.specs.Fitting.{Fits}
use Rattle.fk_law_tree.specs.Reading.{reads, AgreeOn}

-- each of these paths is among those
abbrev pub Within : List PathNames → List PathNames → Type 0
Within ps qs = (p : PathNames) → has_path p ps ≡ true → has_path p qs ≡ true

-- a request that fits edits only what is locked for it, where what it removes is among the owned paths
abbrev pub EditsAreLocked : Type 0
EditsAreLocked = (v : View) (owned : List PathNames) (a : Applied) → Fits v a → Within a.gone owned → Within (edited_paths a) (lock_paths v owned a.request)

-- the final path under a parent that has an owner
abbrev pub owned_final : PathNames → Option Node → List PathNames
owned_final p None = []
owned_final p (Some d) = if d.owner == 0 then [] else final_path p true d.made ∷ []

-- what is read and not locked: the final path of a sequential create under a parent that has an owner
abbrev pub unlocked : View → Request → List PathNames
unlocked v (request.Create p bytes seq eph) = if seq then (if is_root p then [] else owned_final p (v.node (parent p))) else []
unlocked v _ = []

-- a request reads only what is locked for it, but for that path
abbrev pub ReadsAreLocked : Type 0
ReadsAreLocked = (v : View) (owned : List PathNames) (session : ℕ) (r : Request) → Within (reads v session r) (lock_paths v owned r ++ unlocked v r)

-- a request that fits edits what it reads
abbrev pub ReadsAreEdited : Type 0
ReadsAreEdited = (v : View) (a : Applied) → Fits v a → Within (reads v a.session a.request) (edited_paths a)

-- each path whose node the session of a close owns is among these
abbrev pub ListsOwned : View → ℕ → Request → List PathNames → Type 0
ListsOwned v session (request.Close evict) ps = (p : PathNames) → is_of session (v.node p) ≡ true → has_path p ps ≡ true
ListsOwned v session _ ps = Unit {0}

-- what a request that fits removes is among the owned paths, where these list all
abbrev pub GoneIsOwned : Type 0
GoneIsOwned = (v : View) (owned : List PathNames) (a : Applied) → Fits v a → ListsOwned v a.session a.request owned → Within a.gone owned

-- What fits a view fits each other view with the same nodes where it edits, and its session closed in
-- both or in none; of a close, where it still removes all that its session owns.
abbrev pub FitsByItsEdits : Type 0
FitsByItsEdits =
    (v w : View) (a : Applied) → Fits v a → v.closed a.session ≡ w.closed a.session → AgreeOn v w (edited_paths a) → ListsOwned w a.session a.request a.gone
    → Fits w a

-- two views with the same nodes where a request is locked give the same lock paths
abbrev pub LocksReadLocked : Type 0
LocksReadLocked = (v w : View) (owned : List PathNames) (r : Request) → AgreeOn v w (lock_paths v owned r) → lock_paths v owned r ≡ lock_paths w owned r
