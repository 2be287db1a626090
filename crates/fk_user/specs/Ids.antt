-- Numbers in rising order, each once.
use Rattle.std.specs.Prelude.{ℕ, Bool, List}
use Rattle.std.specs.Ordering.{nat_cmp}
use Rattle.fk_tree.specs.Sorted.{has, rises, with_key, without_key}

-- whether the number is in the list
abbrev pub has_id : ℕ → List ℕ → Bool
has_id = has nat_cmp

-- the list with the number at its place; one that is there already isn't added
abbrev pub with_id : ℕ → List ℕ → List ℕ
with_id = with_key nat_cmp

-- the list without the number
abbrev pub without_id : ℕ → List ℕ → List ℕ
without_id = without_key nat_cmp

-- each number is below those after it
abbrev pub ids_rise : List ℕ → Bool
ids_rise = rises nat_cmp
