-- Where a watch function stands after each watch that it tells.
use Rattle.std.proofs.Common.{◌≡◌, ◌<◌, ◌≤◌, ℕ, ◌+◌, false, List, [], ◌∷◌, refl, sym, ◌∙◌, ap, length, get_or, drop, drop_of_length-le}
use Rattle.std.proofs.lemmas.List.{drop_more}
use Rattle.fk_wire.specs.declared.fired.Fired.{Fired}
use Rattle.fk_spec.specs.Teller.{to_tell}
use Rattle.fk_spec.specs.Teller as stage
use Rattle.fk_spec.specs.Watches.{Firing}
use Rattle.fk_watch.specs.Notes.{firing_as, firings_as}
use Rattle.fk_watch.specs.Telling.{is_end}

-- where a watch is left, it tells the first that is
pub to_next : (tx : ℕ) (xs : List Fired) (i : ℕ) (x : Fired) → i < length xs → x ≡ get_or xs i x → to_tell (firings_as tx (drop i xs)) ≡ stage.Tell (firing_as tx x) (firings_as tx (drop (i + 1) xs))
to_next tx xs i x l e = ap (λ ys. to_tell (firings_as tx ys)) (drop_more xs i x l) ∙ ap (λ y. stage.Tell (firing_as tx y) (firings_as tx (drop (i + 1) xs))) (sym e)

-- else all are told
pub to_none : (tx : ℕ) (xs : List Fired) (i : ℕ) → length xs ≤ i → to_tell (firings_as tx (drop i xs)) ≡ stage.Told
to_none tx xs i l = ap (λ ys. to_tell (firings_as tx ys)) (drop_of_length-le xs l)

-- before that it hasn't ended
pub going : (fs : List Firing) → is_end (to_tell fs) ≡ false
going [] = refl
going (f ∷ fs) = refl
