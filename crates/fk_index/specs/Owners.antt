-- The paths that each session owns: an ordered map of them for each owner. A path that isn't marked
-- there has a place alone, as if it weren't there.
use Rattle.std.specs.Prelude.{◌≡◌, ◌<◌, ℕ, ◌==◌, Bool, true, false, if◌then◌else◌, ◌&&◌, ◌||◌, List, [], ◌∷◌, Option, Some, None, is_some}
use Rattle.std.specs.BTreeMap as tree
use Rattle.std.specs.BTreeMap.{BTreeMap}
use Rattle.std.specs.Ordering.{nat_cmp}
use Rattle.fk_base.specs.Path.{PathNames, path_cmp, same_path}
use Rattle.fk_tree.specs.Rows.{is_of}
use Rattle.fk_tree.specs.declared.edit.What.{What}
use Rattle.fk_tree.specs.declared.edit.What.TheVariants as what
use Rattle.fk_tree.specs.declared.node.Node.{Node}
use Rattle.fk_tree.specs.Sorted.{has_path}
use Rattle.fk_store.specs.Answers.{has_owner}
use Rattle.fk_index.specs.Slots.{Slots, record_at}

abbrev pub Marks : Type 0
Marks = BTreeMap PathNames Bool

abbrev pub Owners : Type 0
Owners = BTreeMap ℕ Marks

abbrev pub mark_in : PathNames → Option Marks → Option Bool
mark_in p None = None
mark_in p (Some marks) = tree.get path_cmp marks p

-- the mark at a session's place of a path
abbrev pub mark_at : Owners → ℕ → PathNames → Option Bool
mark_at o s p = mark_in p (tree.get nat_cmp o s)

abbrev pub is_set : Option Bool → Bool
is_set None = false
is_set (Some b) = b

-- whether a path is marked as a session's
abbrev pub is_marked : Owners → ℕ → PathNames → Bool
is_marked o s p = is_set (mark_at o s p)

-- whether a session has a place for a path
abbrev pub has_place : Owners → ℕ → PathNames → Bool
has_place o s p = is_some (mark_at o s p)

-- IN THE MAP OF ONE OWNER
abbrev pub KeepMarksIn : Marks → Marks → Type 0
KeepMarksIn m n = (p : PathNames) → is_set (tree.get path_cmp n p) ≡ is_set (tree.get path_cmp m p)

abbrev pub KeepsPlacesIn : Marks → Marks → Type 0
KeepsPlacesIn m n = (p : PathNames) → is_some (tree.get path_cmp m p) ≡ true → is_some (tree.get path_cmp n p) ≡ true

abbrev pub IsMarkedIn : Marks → Marks → PathNames → Option Bool → Type 0
IsMarkedIn m n p b = (q : PathNames) → tree.get path_cmp n q ≡ (if same_path q p then b else tree.get path_cmp m q)

-- OF ALL OWNERS
-- the same paths are marked
abbrev pub KeepMarks : Owners → Owners → Type 0
KeepMarks o n = (s : ℕ) (p : PathNames) → is_marked n s p ≡ is_marked o s p

-- no place is lost
abbrev pub KeepsPlaces : Owners → Owners → Type 0
KeepsPlaces o n = (s : ℕ) (p : PathNames) → has_place o s p ≡ true → has_place n s p ≡ true

-- one mark is this, and the others stay
abbrev pub IsMarked : Owners → Owners → ℕ → PathNames → Option Bool → Type 0
IsMarked o n s p b = (t : ℕ) (q : PathNames) → mark_at n t q ≡ (if (s == t) && same_path q p then b else mark_at o t q)

-- exactly the paths whose node a session owns are marked as that session's
abbrev pub AreOwned : Slots → Owners → Type 0
AreOwned m o = (s : ℕ) (p : PathNames) → 0 < s → is_marked o s p ≡ has_owner s (record_at m p)

-- the owner of a node; 0 where there is none
abbrev pub owner_of : Option Node → ℕ
owner_of None = 0
owner_of (Some n) = n.owner

-- the marked ones of these paths
abbrev pub marked_keys : List (PathNames × Bool) → List PathNames
marked_keys [] = []
marked_keys (e ∷ es) = if e.1 then e.0 ∷ marked_keys es else marked_keys es

-- the owner of a node has a place for its path
abbrev pub HasPlaces : Owners → Option Node → PathNames → Type 0
HasPlaces o x p = (s : ℕ) → 0 < s → is_of s x ≡ true → has_place o s p ≡ true

-- the marks and the places of other paths stay
abbrev pub KeepOtherMarks : Owners → Owners → PathNames → Type 0
KeepOtherMarks o n k = (s : ℕ) (p : PathNames) → same_path p k ≡ false → is_marked n s p ≡ is_marked o s p

abbrev pub KeepOtherPlaces : Owners → Owners → PathNames → Type 0
KeepOtherPlaces o n k = (s : ℕ) (p : PathNames) → same_path p k ≡ false → has_place n s p ≡ has_place o s p

-- a path is marked as this owner's alone, where it is one
abbrev pub IsOf : Owners → PathNames → ℕ → Type 0
IsOf o p owner = (s : ℕ) → 0 < s → is_marked o s p ≡ (owner == s)

-- exactly the marked paths
abbrev pub AreMarkedIn : Marks → List PathNames → Type 0
AreMarkedIn m ps = (p : PathNames) → has_path p ps ≡ is_set (tree.get path_cmp m p)

abbrev pub AreMarked : Owners → ℕ → List PathNames → Type 0
AreMarked o s ps = (p : PathNames) → has_path p ps ≡ is_marked o s p

-- the owner of a new node has a place for its path
abbrev pub has_place_for : Owners → PathNames → What → Bool
has_place_for o p (what.Make bytes owner) = (owner == 0) || has_place o owner p
has_place_for o p _ = true
