-- One read after another, and one write after another.
use Rattle.std.proofs.Common.{◌≡◌, ℕ, ◌+◌, ◌-◌, ◌<◌, ◌≤◌, min, false, eqb, List, [], ◌++◌, length, take, drop, Option, Some, None, refl, sym, ◌∙◌, ap, arith, append_assoc}
use Rattle.std.proofs.lemmas.List.{append-nil, take-append-drop, drop-take, drop-drop}
use Rattle.std.proofs.lemmas.Bool.Decides.{nat_tests}
use Rattle.std.proofs.lemmas.Grind.{common_steps}
use Rattle.std.specs.Io.KnownBytes.{Appends, Consumes}

pub consumes_none : (x : Option (List ℕ)) → Consumes x x []
consumes_none None = tt
consumes_none (Some xs) = refl

-- the second read goes on where the first ended
pub consumes_more : (x y z : Option (List ℕ)) (a b : List ℕ) → Consumes x y a → Consumes y z b → Consumes x z (a ++ b)
consumes_more None y z a b g h = tt
consumes_more (Some x) None z a b g h = absurd g
consumes_more (Some x) (Some y) None a b g h = absurd h
consumes_more (Some x) (Some y) (Some z) a b g h = rw append_assoc (rw (g, h) refl)

pub appends_none : (x : Option (List ℕ)) (piece : List ℕ) → Appends x x (take 0 piece)
appends_none None piece = tt
appends_none (Some xs) piece = sym (append-nil xs)

take_both : (piece : List ℕ) (i n : ℕ) → take (i + n) piece ≡ take i piece ++ take n (drop i piece)
take_both piece i n = sym (take-append-drop i (take (i + n) piece)) ∙ rw drop-take (ap (λ xs. xs ++ take n (drop i piece)) (front piece i n))
  where
    front : (p : List ℕ) (j m : ℕ) → take j (take (j + m) p) ≡ take j p
    front p j m = grind (arith, common_steps)

-- the second write goes on where the first ended
pub appends_more : (piece : List ℕ) (i n : ℕ) (x y z : Option (List ℕ)) → Appends x y (take i piece) → Appends y z (take n (drop i piece)) → Appends x z (take (i + n) piece)
appends_more piece i n None y z g h = tt
appends_more piece i n (Some x) None z g h = absurd g
appends_more piece i n (Some x) (Some y) None g h = absurd h
appends_more piece i n (Some x) (Some y) (Some z) g h = rw take_both (rw (h, g, append_assoc) refl)

-- all behind the place i
pub take_rest : (piece : List ℕ) (i : ℕ) → take (length piece - i) (drop i piece) ≡ drop i piece
take_rest piece i = grind (arith, common_steps)

-- The next bytes, copied to the front of a buffer, and those that are left behind them are what was left.
pub give_more : (all into : List ℕ) (i n : ℕ) → 0 < length into → n ≡ min (length into) (length (drop i all)) → false ≡ eqb (length (drop i all)) 0
    → (0 < n) × (n ≤ length (take n (drop i all) ++ drop n into)) × (drop i all ≡ take n (take n (drop i all) ++ drop n into) ++ drop (i + n) all)
give_more all into i n room count some = (grind (arith, nat_tests), grind (arith, common_steps), sym (rw (front, ← drop-drop) (take-append-drop n (drop i all))))
  where
    front : take n (take n (drop i all) ++ drop n into) ≡ take n (drop i all)
    front = grind (arith, common_steps)
