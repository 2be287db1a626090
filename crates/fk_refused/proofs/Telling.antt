-- What is not so.
use Rattle.std.proofs.Common.{◌≡◌, Bool, true, false, sym, ◌∙◌, ap, arith, Some, None}
use Rattle.std.proofs.lemmas.Bool.{false≢true}

-- a test that tells two values apart
pub apart : {A : Type 0} {x y : A} → (f : A → Bool) → x ≡ y → f x ≡ true → f y ≡ false → ⊥
apart f e a b = false≢true (sym b ∙ sym (ap f e) ∙ a)

pub none_some : {A : Type 0} {x : A} → None ≡ Some x → ⊥
none_some e = grind arith

pub some_none : {A : Type 0} {x : A} → Some x ≡ None → ⊥
some_none e = grind arith
