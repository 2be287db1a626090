-- One item more of a list that is read.
use Rattle.std.proofs.Common.{◌≡◌, ℕ, ◌<◌, ◌+◌, ◌-◌, List, [], ◌∷◌, ◌++◌, length, Option, Some, refl, arith, length-append}
use Prim.Native.Nat.{suc}
use Rattle.std.specs.List.{AllByRecursion}
use Rattle.fk_print.specs.Words.{Text}
use Rattle.fk_read.specs.ReadAct.{take_onto}

pub take_more : {A : Type 0} (f : List Text → Option (A × List Text)) (count done : ℕ) (items new : List A) (words rest : List Text) (x : A)
    → done < count → f words ≡ Some (x, rest) → new ≡ items ++ x ∷ []
    → take_onto f (count - done) items words ≡ take_onto f (count - (done + 1)) new rest
take_more f count done items new words rest x low read pushed =
    let e : count - done ≡ suc (count - (done + 1)) = omega arith in
    rw (e, read, pushed) refl

pub each_more : {A : Type 0} (P : A → Type 0) (items new : List A) (x : A) → AllByRecursion P items → P x → new ≡ items ++ x ∷ [] → AllByRecursion P new
each_more {A = A} P items new x all here pushed = rw pushed (step items all)
  where
    step : (xs : List A) → AllByRecursion P xs → AllByRecursion P (xs ++ x ∷ [])
    step [] a = (here, tt)
    step (y ∷ ys) a = (a.0, step ys a.1)

pub length_more : {A : Type 0} (items new : List A) (x : A) (done : ℕ) → length items ≡ done → new ≡ items ++ x ∷ [] → length new ≡ done + 1
length_more items new x done counted pushed = rw (pushed, length-append, counted) refl
