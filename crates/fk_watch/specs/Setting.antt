-- Set watches and their index.
use Rattle.std.specs.Prelude.{◌≡◌, ℕ, ◌==◌, Bool, ◌&&◌, if◌then◌else◌, List, Option, Some}
use Rattle.std.specs.BTreeMap.{is_at}
use Rattle.std.specs.Map.{lookup}
use Rattle.std.specs.Ordering.{nat_cmp}
use Rattle.fk_base.specs.Path.{PathNames, same_path}
use Rattle.fk_tree.specs.Watch.{same_kind}
use Rattle.fk_tree.specs.declared.change.Kind.{Kind}
use Rattle.fk_tree.specs.declared.change.Kind.TheVariants as kind
use Rattle.fk_watch.specs.declared.watch.Watch.{Watch}
use Rattle.fk_watch.specs.Index.{Index, number_in}

-- what stands under a number
abbrev pub at : {X : Type 0} → ℕ → List (ℕ × X) → Option X
at n es = lookup (is_at (nat_cmp n)) es

-- what stands under this number is this, and the rest stays
abbrev pub SetsAt : {X : Type 0} → ℕ → Option X → List (ℕ × X) → List (ℕ × X) → Type 0
SetsAt number o es fs = (n : ℕ) → at n fs ≡ (if n == number then o else at n es)

-- a session's watch of a path and kind
abbrev pub watch_on : ℕ → PathNames → Kind → Watch
watch_on session path kind = record { session = session; path = path; kind = kind }

-- the number of a session's watch of a path and kind, where each kind has an index
abbrev pub numbered : Index → Index → Kind → PathNames → ℕ → Option ℕ
numbered on_data on_child kind.Data p s = number_in on_data p s
numbered on_data on_child kind.Child p s = number_in on_child p s

-- whether a watch is of this kind, path and session
abbrev pub is_watch : Kind → PathNames → ℕ → Watch → Bool
is_watch k p s w = same_kind k w.kind && (same_path p w.path && (s == w.session))

-- the indexes have the numbers of the set watches and no others
pub record IsIndexed (ws : List (ℕ × Watch)) (on_data on_child : Index) : Type 0 where
  pub there : (n : ℕ) (w : Watch) → at n ws ≡ Some w → numbered on_data on_child w.kind w.path w.session ≡ Some n
  pub back : (k : Kind) (p : PathNames) (s n : ℕ) → numbered on_data on_child k p s ≡ Some n
      → at n ws ≡ Some (watch_on s p k)

-- the number of a watch is this one, and the others stay
abbrev pub SetsNumbered : Watch → Option ℕ → Index → Index → Index → Index → Type 0
SetsNumbered w o on_data on_child new_data new_child = (k : Kind) (p : PathNames) (s : ℕ)
    → numbered new_data new_child k p s ≡ (if is_watch k p s w then o else numbered on_data on_child k p s)

-- the numbers stay
abbrev pub KeepsNumbered : Index → Index → Index → Index → Type 0
KeepsNumbered on_data on_child new_data new_child = (k : Kind) (p : PathNames) (s : ℕ)
    → numbered new_data new_child k p s ≡ numbered on_data on_child k p s

-- none of these watches is this one
abbrev pub HasNot : Watch → List (ℕ × Watch) → Type 0
HasNot w ws = (n : ℕ) → at n ws ≡ Some w → ⊥
