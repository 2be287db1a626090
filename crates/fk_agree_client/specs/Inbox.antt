-- A client's inbox as the post has it, and as the rules have it.
use Rattle.std.specs.Prelude.{◌≡◌, ℕ, ⊤, List, [], ◌∷◌, Option, Some, None}
use Rattle.fk_print.specs.declared.entry.Entry.{Entry}
use Rattle.fk_queue.specs.declared.lane.Lane.TheVariants as lane
use Rattle.fk_queue.specs.declared.letter.Letter.{Letter}
use Rattle.fk_wire.specs.TellText.{IsTell, tell_text}
use Rattle.fk_wire.specs.declared.message.Tell.{Tell}
use Rattle.fk_wire.specs.declared.version.Version.TheVariants as version
use Rattle.fk_stand.specs.Messages.{tell_of}
use Rattle.fk_stand.specs.Posts.{lane_after}
use Rattle.fk_spec.specs.Plan.{Plan}
use Rattle.fk_spec.specs.Lanes.{Message, inbox_of}
use Rattle.fk_spec.specs.Next.{IsHistory}
use Rattle.fk_client.specs.Told.{IsTold}

-- this letter is the text of what this message tells
pub record Says (p : Plan) (h : List Entry) (x : Letter) (m : Message) : Type 0 where
  pub tell : Tell
  pub told : tell_of p h m ≡ Some tell
  pub text : x.bytes ≡ tell_text version.Two tell

-- these letters are the texts of these messages, one by one
abbrev pub AllSay : Plan → List Entry → List Letter → List Message → Type 0
AllSay p h [] [] = ⊤
AllSay p h [] (m ∷ ms) = ⊥
AllSay p h (x ∷ xs) [] = ⊥
AllSay p h (x ∷ xs) (m ∷ ms) = Says p h x m × AllSay p h xs ms

-- In every history the letters of a client's inbox are the texts of the messages that the rules have there.
abbrev pub InboxSaysItsMessages : Type 0
InboxSaysItsMessages = (p : Plan) (c : ℕ) (h : List Entry) → IsHistory p h → AllSay p h (lane_after p (lane.Inbox c) h).waiting (inbox_of p c h)

-- what each of these messages tells can be written
abbrev pub CanBeSaid : Plan → List Entry → List Message → Type 0
CanBeSaid p h [] = ⊤
CanBeSaid p h (m ∷ ms) = ((t : Tell) → tell_of p h m ≡ Some t → IsTell t) × CanBeSaid p h ms

-- the first of these messages tells this; none where there is no message
abbrev pub FirstTells : Plan → List Entry → List Message → Option Tell → Type 0
FirstTells p h [] None = ⊤
FirstTells p h [] (Some t) = ⊥
FirstTells p h (m ∷ ms) None = ⊥
FirstTells p h (m ∷ ms) (Some t) = tell_of p h m ≡ Some t

-- Where what an inbox tells can be written, what is read at its head is what the first message tells.
abbrev pub HeadIsWhatItTells : Type 0
HeadIsWhatItTells =
    (p : Plan) (c : ℕ) (h : List Entry) (told : Option Tell) → IsHistory p h → CanBeSaid p h (inbox_of p c h) → IsTold (lane_after p (lane.Inbox c) h).waiting told
    → FirstTells p h (inbox_of p c h) told
