-- The message at the head of a client's inbox.
use Rattle.std.specs.Prelude.{⊤, List, [], ◌∷◌, Option, Some, None}
use Rattle.fk_queue.specs.declared.letter.Letter.{Letter}
use Rattle.fk_wire.specs.TellText.{IsTellText}
use Rattle.fk_wire.specs.declared.message.Tell.{Tell}

-- The first of these letters is the text of this message; none where there is no letter.
abbrev pub IsTold : List Letter → Option Tell → Type 0
IsTold [] None = ⊤
IsTold [] (Some m) = ⊥
IsTold (x ∷ xs) None = ⊥
IsTold (x ∷ xs) (Some m) = IsTellText x.bytes m

-- the first of these letters, where there is one, is the text of a message
abbrev pub IsReadable : List Letter → Type 0
IsReadable [] = ⊤
IsReadable (x ∷ xs) = (m : Tell) × IsTellText x.bytes m
