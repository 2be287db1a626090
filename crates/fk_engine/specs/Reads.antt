-- What an event reads beyond what its entry tells.
use Rattle.std.specs.Prelude.{List, [], Option, None}
use Rattle.fk_base.specs.Path.{PathNames}
use Rattle.fk_lead.specs.Meaning.{Swept, nothing_swept}
use Rattle.fk_wire.specs.declared.message.Note.{Note}
use Rattle.fk_wire.specs.declared.message.Pushed.{Pushed}
use Rattle.fk_wire.specs.declared.message.Sent.{Sent}
use Rattle.fk_wire.specs.declared.message.Tell.{Tell}

-- The paths that the table gives for a session's nodes, what a sweep gives, the message at the head of the client's
-- inbox, and the one at the head of the lane that is delivered. What an event doesn't read is left as it is here.
pub record Read : Type 0 where
  pub owned : List PathNames
  pub swept : Swept
  pub told : Option Tell
  pub sent : Option Sent
  pub pushed : Option Pushed
  pub note : Option Note

abbrev pub nothing_read : Read
nothing_read = record { owned = []; swept = nothing_swept; told = None; sent = None; pushed = None; note = None }
