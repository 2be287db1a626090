-- What stands under numbers, as pairs of a number and a value.
use Rattle.std.specs.Prelude.{◌≡◌, ℕ, if◌then◌else◌, List, Option}
use Rattle.std.specs.BTreeMap.{is_at}
use Rattle.std.specs.Ordering.{nat_cmp}
use Rattle.fk_watch.specs.Setting.{at}

-- this stands under a number from now on
abbrev pub IsUpdated : {X : Type 0} → List (ℕ × X) → List (ℕ × X) → ℕ → Option X → Type 0
IsUpdated es fs k o = (q : ℕ) → at q fs ≡ (if is_at (nat_cmp k) q then o else at q es)
