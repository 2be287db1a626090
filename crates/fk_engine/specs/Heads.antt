-- The message at the head of a lane.
use Rattle.std.specs.Prelude.{ℕ, ⊤, List, [], ◌∷◌, Option, Some, None}
use Rattle.fk_queue.specs.declared.letter.Letter.{Letter}

-- The first of these letters is a text of this message; none where there is no letter. `text` says which bytes are a
-- message's text.
abbrev pub IsHead : {M : Type 0} → (List ℕ → M → Type 0) → List Letter → Option M → Type 0
IsHead text [] None = ⊤
IsHead text [] (Some m) = ⊥
IsHead text (x ∷ xs) None = ⊥
IsHead text (x ∷ xs) (Some m) = text x.bytes m

-- the first of these letters, where there is one, is the text of a message
abbrev pub IsReadable : {M : Type 0} → (List ℕ → M → Type 0) → List Letter → Type 0
IsReadable text [] = ⊤
IsReadable {M} text (x ∷ xs) = (m : M) × text x.bytes m
