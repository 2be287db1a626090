-- The item of a list at a place.
use Rattle.std.proofs.Common.{◌≡◌, ◌<◌, ◌≤◌, ℕ, zero, suc, List, [], ◌∷◌, Some, None, length, get_or, refl, arith}
use Rattle.fk_base.specs.Path.{PathNames}
use Rattle.fk_spec.specs.Plan.{item_after}

pub item_here : (ps : List PathNames) (n : ℕ) (d : PathNames) → n < length ps → item_after ps n ≡ Some (get_or ps n d)
item_here [] n d l = let none : ⊥ = omega arith in absurd none
item_here (p ∷ ps) zero d l = refl
item_here (p ∷ ps) (suc n) d l = item_here ps n d (omega arith)

pub item_beyond : (ps : List PathNames) (n : ℕ) → length ps ≤ n → item_after ps n ≡ None
item_beyond [] n l = refl
item_beyond (p ∷ ps) zero l = let none : ⊥ = omega arith in absurd none
item_beyond (p ∷ ps) (suc n) l = item_beyond ps n (omega arith)
