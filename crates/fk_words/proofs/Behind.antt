-- What stands behind the front of a word.
use Rattle.std.proofs.Common.{◌≡◌, ◌≢◌, ℕ, ◌+◌, List, [], ◌∷◌, ◌++◌, length, drop, Option, Some, None, refl, sym, ap, ◌∙◌}
use Rattle.std.specs.Prelude.{◌==◌, Bool, true, false, if◌then◌else◌, option_map}
use Rattle.std.specs.Option.{MatchOption}
use Rattle.std.specs.Borrow.{Bor}
use Rattle.std.specs.Str.Pattern.{FindsTextPrefix}
use Rattle.std.proofs.lemmas.Bool.{eq-eqb}
use Rattle.fk_words.specs.Words.{Word, behind}
use Rattle.fk_words.proofs.Shapes.{behind_is}

behind_front : (p v : Word) → behind p (p ++ v) ≡ Some v
behind_front [] v = refl
behind_front (c ∷ cs) v = rw (eq-eqb c c refl) (behind_front cs v)

behind_other : (p w : Word) → ((rest : Word) → w ≢ p ++ rest) → None ≡ behind p w
behind_other p w lacks = by (behind p w) refl
  where
    by : (o : Option Word) → behind p w ≡ o → None ≡ behind p w
    by None e = sym e
    by (Some v) e = absurd (lacks v (behind_is p w v e))

-- what `strip_prefix` gives
pub stripped : (p w : Word) (r : Option (Bor Word))
    → MatchOption r (FindsTextPrefix p w None) (λ x. (n : ℕ) × FindsTextPrefix p w (Some n) × (x.now ≡ drop n w) × (length x.now + n ≡ length w)) → option_map (λ s. s.now) r ≡ behind p w
stripped p w None h = behind_other p w h
stripped p w (Some x) h = sym (ap (behind p) (h.1.1 ∙ ap (λ (v : Word). p ++ v) (sym h.2)) ∙ behind_front p x.now)
