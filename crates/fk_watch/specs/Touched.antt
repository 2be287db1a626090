-- The last sweeps of paths, and the paths of touches.
use Rattle.std.specs.Prelude.{◌≡◌, ℕ, Bool, true, List, is_some}
use Rattle.std.specs.BTreeMap.{is_at}
use Rattle.std.specs.Map.{lookup}
use Rattle.fk_base.specs.Path.{PathNames, path_cmp}
use Rattle.fk_tree.specs.Watch.{has_touch}
use Rattle.fk_tree.specs.declared.change.Touch.{Touch}
use Rattle.fk_watch.specs.Kept.{last_in}

-- whether a path has a place among these
abbrev pub has_sweep : PathNames → List (PathNames × ℕ) → Bool
has_sweep p sweeps = is_some (lookup (is_at (path_cmp p)) sweeps)

-- each touched path has a place
abbrev pub HaveSweeps : List Touch → List (PathNames × ℕ) → Type 0
HaveSweeps ts sweeps = (p : PathNames) → has_touch p ts ≡ true → has_sweep p sweeps ≡ true

-- no path loses its place
abbrev pub KeepsPlaces : List (PathNames × ℕ) → List (PathNames × ℕ) → Type 0
KeepsPlaces sweeps others = (p : PathNames) → has_sweep p sweeps ≡ true → has_sweep p others ≡ true

-- each path keeps its last sweep
abbrev pub KeepsLasts : List (PathNames × ℕ) → List (PathNames × ℕ) → Type 0
KeepsLasts sweeps others = (p : PathNames) → last_in p others ≡ last_in p sweeps
