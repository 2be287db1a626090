-- Heads of lanes and their messages.
use Rattle.std.proofs.Common.{◌≡◌, ℕ, true, List, [], ◌∷◌, Option, Some, None, refl}
use Rattle.std.specs.Prelude.{is_some}
use Rattle.fk_queue.specs.Letters.{first_bytes, first_number}
use Rattle.fk_queue.specs.declared.letter.Letter.{Letter}
use Rattle.fk_engine.specs.Heads.{IsHead, IsReadable}

-- the head's bytes are a text of its message
pub head_is : {M : Type 0} (text : List ℕ → M → Type 0) (xs : List Letter) (m : M) → IsHead text xs (Some m) → text (first_bytes xs) m
head_is text [] m h = absurd h
head_is text (x ∷ xs) m h = h

-- where there is a head, the message of its bytes is its message
pub is_head : {M : Type 0} (text : List ℕ → M → Type 0) (xs : List Letter) (m : M) → is_some (first_number xs) ≡ true → text (first_bytes xs) m → IsHead text xs (Some m)
is_head text [] m s h = absurd (cc)
is_head text (x ∷ xs) m s h = h

-- where there is a head, it has a message
pub some_head : {M : Type 0} (text : List ℕ → M → Type 0) (xs : List Letter) → is_some (first_number xs) ≡ true → IsReadable text xs → (m : M) × text (first_bytes xs) m
some_head text [] s r = absurd (cc)
some_head text (x ∷ xs) s r = r

-- where there is no head, there is no message
pub no_head : {M : Type 0} (text : List ℕ → M → Type 0) (xs : List Letter) → first_number xs ≡ None → IsHead text xs None
no_head text [] e = tt
no_head text (x ∷ xs) e = absurd (cc)

pub none_told : {M : Type 0} (text : List ℕ → M → Type 0) (xs : List Letter) (o : Option M) → first_number xs ≡ None → IsHead text xs o → o ≡ None
none_told text [] None e h = refl
none_told text [] (Some m) e h = absurd h
none_told text (x ∷ xs) o e h = absurd (cc)

pub some_told : {M : Type 0} (text : List ℕ → M → Type 0) (xs : List Letter) (k : ℕ) (o : Option M) → first_number xs ≡ Some k → IsHead text xs o → (m : M) × (o ≡ Some m)
some_told text [] k o e h = absurd (cc)
some_told text (x ∷ xs) k None e h = absurd h
some_told text (x ∷ xs) k (Some m) e h = (m, refl)
