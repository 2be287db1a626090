-- What is asked of a list of commands.
use Rattle.std.proofs.Common.{◌≡◌, ◌<◌, ◌≤◌, ◌+◌, ℕ, zero, suc, add-one, List, [], ◌∷◌, length, get_or, true, Option, Some, None, refl, arith}
use Rattle.std.specs.Prelude.{is_some}
use Rattle.fk_script.specs.declared.command.Command.{Command}
use Rattle.fk_spec.specs.Plan.{Ask, ask_of, asks_of, item_after, nth}
use Rattle.fk_client.specs.Meaning.{asks_read}

within : (cs : List Command) (n : ℕ) (d : Command) → n < length cs → item_after (asks_of cs) n ≡ Some (ask_of (get_or cs n d))
within [] n d l = let none : ⊥ = omega arith in absurd none
within (c ∷ cs) zero d l = refl
within (c ∷ cs) (suc n) d l = let less : n < length cs = omega arith in within cs n d less

past : (cs : List Command) (n : ℕ) → length cs ≤ n → item_after (asks_of cs) n ≡ None
past [] n l = refl
past (c ∷ cs) zero l = let none : ⊥ = omega arith in absurd none
past (c ∷ cs) (suc n) l = let less : length cs ≤ n = omega arith in past cs n less

-- the place of a command is one more than how many come before it
pub item_within : (cs : List Command) (n : ℕ) (d : Command) → n < length cs → nth (asks_of cs) (n + 1) ≡ Some (ask_of (get_or cs n d))
item_within cs n d l = rw add-one (within cs n d l)

pub item_past : (cs : List Command) (n : ℕ) → length cs ≤ n → nth (asks_of cs) (n + 1) ≡ None
item_past cs n l = rw add-one (past cs n l)

pub read_next : (a : Option Ask) → asks_read a ≡ true → is_some a ≡ true
read_next None e = grind arith
read_next (Some a) e = refl
