-- What a line sends can be written as messages.
use Rattle.std.specs.Prelude.{◌≡◌, ℕ, List, Some}
use Rattle.fk_print.specs.declared.entry.Entry.{Entry}
use Rattle.fk_print.specs.declared.op.Op.{Op}
use Rattle.fk_wire.specs.NoteText.{IsNote}
use Rattle.fk_wire.specs.PushedText.{IsPushed}
use Rattle.fk_wire.specs.TellText.{IsTell}
use Rattle.fk_wire.specs.declared.message.Pushed.{Pushed}
use Rattle.fk_wire.specs.declared.message.Tell.{Tell}
use Rattle.fk_stand.specs.Messages.{push_here, tell_of}
use Rattle.fk_spec.specs.Plan.{Plan}
use Rattle.fk_spec.specs.Lanes.{Message, posted_in}
use Rattle.fk_spec.specs.Teller.{Note, note_in}
use Rattle.fk_agree.specs.Heads.{note_as}

-- Each push, each note and each message of an inbox that this line makes is a message that can be written.
pub record Sends (p : Plan) (h : List Entry) (o : Op) : Type 0 where
  pub pushes : (t : ℕ) (x : Pushed) → push_here p t h o ≡ Some x → IsPushed x
  pub notes : (w : ℕ) (x : Note) → note_in p w h o ≡ Some x → IsNote (note_as x)
  pub tells : (c : ℕ) (m : Message) (t : Tell) → posted_in p c h o ≡ Some m → tell_of p h m ≡ Some t → IsTell t
