-- Touches put together one after another, each pair once.
use Rattle.std.specs.Prelude.{◌≡◌, Bool, false, if◌then◌else◌, ◌||◌, List, [], ◌∷◌, ◌++◌}
use Rattle.std.specs.BTreeSet.{BTreeSet, contains}
use Rattle.fk_base.specs.Path.{PathNames, path_cmp, same_path}
use Rattle.fk_tree.specs.Touch.{same_touch}
use Rattle.fk_tree.specs.declared.change.Change.{Change}
use Rattle.fk_tree.specs.declared.change.Change.TheVariants as change
use Rattle.fk_tree.specs.declared.change.Touch.{Touch}
use Rattle.fk_tree.specs.declared.touch_set.TouchSet.{TouchSet}

abbrev pub is_there : Touch → List Touch → Bool
is_there t [] = false
is_there t (u ∷ us) = same_touch t u || is_there t us

-- at the end, where it isn't there yet
abbrev pub put_one : Touch → List Touch → List Touch
put_one t us = if is_there t us then us else us ++ t ∷ []

abbrev pub all_put : List Touch → List Touch → List Touch
all_put [] us = us
all_put (t ∷ ts) us = all_put ts (put_one t us)

-- the paths that are touched in one way
abbrev pub set_of : Change → TouchSet → BTreeSet PathNames
set_of change.Created s = s.created
set_of change.Changed s = s.changed
set_of change.Deleted s = s.deleted
set_of change.Child s = s.child

-- one path more in a set
abbrev pub IsNoted : BTreeSet PathNames → PathNames → BTreeSet PathNames → Type 0
IsNoted old p after = (q : PathNames) → contains path_cmp after q ≡ (contains path_cmp old q || same_path q p)

abbrev pub is_indexed : Touch → TouchSet → Bool
is_indexed t s = contains path_cmp (set_of t.change s) t.path

-- a pair is found exactly where it is there
abbrev pub AreIndexed : TouchSet → Type 0
AreIndexed s = (t : Touch) → is_indexed t s ≡ is_there t s.touches

-- these touches were put, one after another
abbrev pub Puts : List Touch → TouchSet → TouchSet → Type 0
Puts ts old after = (after.touches ≡ all_put ts old.touches) × AreIndexed after
