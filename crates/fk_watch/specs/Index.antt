-- The numbers of watches by their paths and sessions.
use Rattle.std.specs.Prelude.{◌≡◌, ℕ, ◌==◌, Bool, ◌&&◌, if◌then◌else◌, Option, Some, None, is_some}
use Rattle.std.specs.BTreeMap as tree
use Rattle.std.specs.BTreeMap.{BTreeMap}
use Rattle.std.specs.Ordering.{nat_cmp}
use Rattle.fk_base.specs.Path.{PathNames, path_cmp, same_path}

-- the numbers of a path's watches, by their sessions
abbrev pub Numbers : Type 0
Numbers = BTreeMap ℕ ℕ

-- the numbers of each path's watches
abbrev pub Index : Type 0
Index = BTreeMap PathNames Numbers

-- a session's number, where a path has numbers
abbrev pub number_at : ℕ → Option Numbers → Option ℕ
number_at s None = None
number_at s (Some numbers) = tree.get nat_cmp numbers s

-- the number of the watch that a session has on a path
abbrev pub number_in : Index → PathNames → ℕ → Option ℕ
number_in index p s = number_at s (tree.get path_cmp index p)

-- whether a path has a place in the index; it may be empty
abbrev pub has_place : PathNames → Index → Bool
has_place p index = is_some (tree.get path_cmp index p)

-- two indexes have the same numbers
abbrev pub KeepsNumbers : Index → Index → Type 0
KeepsNumbers index other = (p : PathNames) (s : ℕ) → number_in other p s ≡ number_in index p s

-- the number that a session has on a path is this one, and the others stay
abbrev pub SetsNumber : PathNames → ℕ → Option ℕ → Index → Index → Type 0
SetsNumber path session o index other = (p : PathNames) (s : ℕ)
    → number_in other p s ≡ (if same_path p path && (s == session) then o else number_in index p s)
