-- Watches on their way from set to fired.
use Rattle.std.specs.Prelude.{◌≡◌, ℕ, ◌==◌, Bool, true, false, if◌then◌else◌, ◌&&◌, List, [], Option, Some, None, is_some, IfSome}
use Rattle.std.specs.BTreeMap as tree
use Rattle.std.specs.Ordering.{nat_cmp}
use Rattle.fk_base.specs.Path.{PathNames, path_cmp, same_path}
use Rattle.fk_tree.specs.Watch.{takes, same_kind}
use Rattle.fk_tree.specs.declared.change.Change.{Change}
use Rattle.fk_tree.specs.declared.change.Kind.{Kind}
use Rattle.fk_tree.specs.declared.change.Touch.{Touch}
use Rattle.fk_user.specs.Ids.{has_id}
use Rattle.fk_watch.specs.declared.watch.Watch.{Watch}
use Rattle.fk_watch.specs.declared.watch.Firing.{Firing}
use Rattle.fk_watch.specs.Index.{Index, Numbers}
use Rattle.fk_watch.specs.Setting.{at}
use Rattle.fk_watch.specs.Sweeping.{fires, not_of, or_else}

-- a set watch as a change fires it; what is there stays where no watch is set
abbrev pub fired_by : ℕ → Change → Option Watch → Option Firing → Option Firing
fired_by tx c None o = o
fired_by tx c (Some w) o = Some (record { watch = w; tx = tx; change = c })

-- the watches with these numbers fire
abbrev pub fired_among : ℕ → Change → List (ℕ × Watch) → List ℕ → ℕ → Option Firing → Option Firing
fired_among tx c ws ns n o = if has_id n ns then fired_by tx c (at n ws) o else o

-- the watch with this number fires, if there is one, and the rest stays
abbrev pub FiresNumber : ℕ → Change → ℕ → List (ℕ × Watch) → List (ℕ × Firing) → List (ℕ × Firing) → Type 0
FiresNumber tx c number ws fs gs = (n : ℕ)
    → at n gs ≡ (if n == number then fired_by tx c (at n ws) (at n fs) else at n fs)

-- the watches with these numbers fire, and the rest stays
abbrev pub FiresAmong : ℕ → Change → List ℕ → List (ℕ × Watch) → List (ℕ × Firing) → List (ℕ × Firing) → Type 0
FiresAmong tx c ns ws fs gs = (n : ℕ) → at n gs ≡ fired_among tx c ws ns n (at n fs)

-- the numbers that are kept, if any
abbrev pub numbers_in : Option Numbers → List ℕ
numbers_in None = []
numbers_in (Some numbers) = tree.values numbers

-- the numbers of a path's watches in an index
abbrev pub numbers_on : PathNames → Index → List ℕ
numbers_on p index = numbers_in (tree.get path_cmp index p)

-- the watches of a touched path in the index of a kind fire, where that kind takes the change
abbrev pub fired_on : ℕ → Kind → Touch → List (ℕ × Watch) → Index → ℕ → Option Firing → Option Firing
fired_on tx k t ws index n o = if takes k t.change then fired_among tx t.change ws (numbers_on t.path index) n o else o

-- the numbers of a path's watches are kept by rising sessions
abbrev pub AreOrdered : PathNames → Index → Type 0
AreOrdered p index = IfSome (tree.get path_cmp index p) (λ numbers. tree.IsOrdered nat_cmp numbers)

-- whether a watch is one of this path and kind
abbrev pub is_on : Kind → PathNames → Option Watch → Bool
is_on k p None = false
is_on k p (Some w) = same_path p w.path && same_kind k w.kind

-- a set watch as a touch fires it, if it does; else what is there stays
abbrev pub touched_by : ℕ → Touch → Option Watch → Option Firing → Option Firing
touched_by tx t None o = o
touched_by tx t (Some w) o =
    if same_path t.path w.path && takes w.kind t.change then fired_by tx t.change (Some w) o else o

-- no set watch has fired for another transaction
abbrev pub IsClear : ℕ → List (ℕ × Watch) → List (ℕ × Firing) → Type 0
IsClear tx ws fs = (n : ℕ) → is_some (at n ws) ≡ true → not_of tx (at n fs) ≡ None

-- what other transactions fired stays, where no set watch has fired for one of them
abbrev pub KeepsOthers : ℕ → List (ℕ × Watch) → List (ℕ × Firing) → List (ℕ × Firing) → Type 0
KeepsOthers tx ws fs gs = IsClear tx ws fs → (n : ℕ) → not_of tx (at n gs) ≡ not_of tx (at n fs)

-- the set watches that these touches fire do so, beside what had fired
abbrev pub FiresAll : ℕ → List Touch → List (ℕ × Watch) → List (ℕ × Firing) → List (ℕ × Firing) → Type 0
FiresAll tx ts ws fs gs = (n : ℕ) → at n gs ≡ or_else (fires tx ts (at n ws)) (at n fs)
