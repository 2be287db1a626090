-- What a leader sends can be read.
use Rattle.std.specs.Prelude.{⊤}
use Rattle.fk_wire.specs.Readable.{IsNoteReadable, IsTellReadable}
use Rattle.fk_spec.specs.Leader.{Stage}
use Rattle.fk_spec.specs.Leader as stage
use Rattle.fk_lead.specs.Meaning.{Meaning}
use Rattle.fk_lead.specs.Services.{note_of, reply_tell}

abbrev pub is_readable_at : Meaning → Stage → Type 0
is_readable_at m stage.Commit = ⊤
is_readable_at m stage.Pending = ⊤
is_readable_at m stage.Drop = ⊤
is_readable_at m stage.Sweep = ⊤
is_readable_at m (stage.Put path others) = ⊤
is_readable_at m stage.Publish = ⊤
is_readable_at m stage.Notify = IsNoteReadable (note_of m)
is_readable_at m stage.Reply = IsTellReadable (reply_tell m.tx m.message)
is_readable_at m stage.Done = ⊤
is_readable_at m stage.Ack = ⊤
is_readable_at m stage.Ended = ⊤

-- Where its operation sends a note or a reply, that is a message whose text is read back.
abbrev pub IsReadable : Meaning → Type 0
IsReadable m = is_readable_at m m.stage
