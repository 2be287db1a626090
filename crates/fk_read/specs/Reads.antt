-- What a reader of words answers.
use Rattle.std.specs.Prelude.{◌≡◌, ℕ, List, [], ◌∷◌, Option, Some, None, ⊤}
use Rattle.std.specs.Option.{option_map}
use Rattle.std.specs.declared.result.Result.{Result}
use Rattle.std.specs.declared.result.Result.TheVariants.{Ok, Err}
use denote.Ref.{Bor}
use Rattle.fk_print.specs.Words.{Text}
use Rattle.fk_read.specs.declared.unread.Unread.{Unread}
use Rattle.fk_read.specs.declared.unread.Unread.TheVariants as unread

-- Exactly what the words say, nothing where they say nothing, unless memory ran out.
abbrev pub Reads : {A : Type 0} → Result A Unread → Option A → Type 0
Reads (Ok x) said = said ≡ Some x
Reads (Err unread.Malformed) said = said ≡ None
Reads (Err unread.NoMemory) said = ⊤

-- The same of the words at the front, where these words are left.
abbrev pub Takes : {A : Type 0} → Result A Unread → List Text → Option (A × List Text) → Type 0
Takes (Ok x) rest said = said ≡ Some (x, rest)
Takes (Err unread.Malformed) rest said = said ≡ None
Takes (Err unread.NoMemory) rest said = ⊤

-- The first word itself.
abbrev pub TakesWord : Result (Bor (List ℕ)) Unread → List Text → List Text → Type 0
TakesWord (Ok word) rest words = words ≡ word.now ∷ rest
TakesWord (Err unread.Malformed) rest words = words ≡ []
TakesWord (Err unread.NoMemory) rest words = ⊤

-- the first word, where it says something, and the words behind it
unfoldable pub take : {A : Type 0} → (Text → Option A) → List Text → Option (A × List Text)
take read [] = None
take read (word ∷ words) = option_map (λ x. (x, words)) (read word)

-- what is read on
abbrev pub then_read : {A B : Type 0} → Option (A × List Text) → (A → List Text → Option B) → Option B
then_read None read = None
then_read (Some taken) read = read taken.0 taken.1

-- what is read behind a word
abbrev pub then_word : {B : Type 0} → List Text → (Text → List Text → Option B) → Option B
then_word [] read = None
then_word (word ∷ words) read = read word words

-- one reading where a word says something, another where it doesn't
abbrev pub option_or_else : {A B : Type 0} → Option A → (A → B) → B → B
option_or_else None read other = other
option_or_else (Some x) read other = read x
