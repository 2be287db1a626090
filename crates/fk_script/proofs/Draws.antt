-- The states that draws leave, and what is made of them one more at a time.
use Rattle.std.proofs.Common.{◌≡◌, ℕ, zero, suc, ◌+◌, ◌*◌, ◌/◌, ◌%◌, [], ◌∷◌, ◌++◌, refl, sym, ◌∙◌, ap, arith, add-one, add-suc, add-zero}
use Rattle.std.proofs.Math.Nat.{add-mul-mod_self_left}
use Rattle.fk_script.specs.Generate.{next_state, state_after, generated_command, generated_commands, generated_turn, generated_turns}

spread : (x : ℕ) → x * 1103515245 + 12345 ≡ ((x % 2147483648) * 1103515245 + 12345) + 2147483648 * (x / 2147483648 * 1103515245)
spread x = omega arith

-- a state counts only by what is left of it at the modulus
pub reduced : (x : ℕ) → ((x % 2147483648) * 1103515245 + 12345) % 2147483648 ≡ next_state x
reduced x = sym (ap (λ n. n % 2147483648) (spread x) ∙ add-mul-mod_self_left ((x % 2147483648) * 1103515245 + 12345) 2147483648 (x / 2147483648 * 1103515245))

-- draws go on from draws
pub state_after-add : (number m n : ℕ) → state_after (state_after number m) n ≡ state_after number (m + n)
state_after-add number m zero = ap (state_after number) (sym (add-zero m))
state_after-add number m (suc n) = ap next_state (state_after-add number m n) ∙ ap (state_after number) (sym (add-suc m n))

-- two draws more
twice_more : (n : ℕ) → 2 * (n + 1) ≡ suc (suc (2 * n))
twice_more n = omega arith

pub two_more : (number n : ℕ) → state_after number (2 * (n + 1)) ≡ next_state (next_state (state_after number (2 * n)))
two_more number n = ap (state_after number) (twice_more n)

-- and what they give
pub command_more : (number n : ℕ) → generated_commands number (n + 1)
    ≡ generated_commands number n ++ generated_command (n + 1) (next_state (state_after number (2 * n)) / 65536) (next_state (next_state (state_after number (2 * n))) / 65536) ∷ []
command_more number n = rw add-one refl

pub turn_more : (number n : ℕ) → generated_turns number (n + 1)
    ≡ generated_turns number n ++ generated_turn (n + 1) (next_state (state_after number (2 * n)) / 65536) (next_state (next_state (state_after number (2 * n))) / 65536) ∷ []
turn_more number n = rw add-one refl

-- so many draws behind so many
behind : (number m n k : ℕ) → m + n ≡ k → state_after (state_after number m) n ≡ state_after number k
behind number m n k e = state_after-add number m n ∙ ap (state_after number) e

-- where each client's commands begin, and where the turns do
pub second_client : (number size : ℕ) → state_after (state_after number (2 * size)) (2 * size) ≡ state_after number (4 * size)
second_client number size = behind number (2 * size) (2 * size) (4 * size) (omega arith)

pub third_client : (number size : ℕ) → state_after (state_after number (4 * size)) (2 * size) ≡ state_after number (6 * size)
third_client number size = behind number (4 * size) (2 * size) (6 * size) (omega arith)

pub behind_clients : (number size : ℕ) → state_after (state_after number (6 * size)) (2 * size) ≡ state_after number (8 * size)
behind_clients number size = behind number (6 * size) (2 * size) (8 * size) (omega arith)
