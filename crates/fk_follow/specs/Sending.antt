-- What a follower sends can be read.
use Rattle.std.specs.Prelude.{ℕ, ⊤, Option, Some, None}
use Rattle.fk_wire.specs.Readable.{IsPushedReadable, IsTellReadable}
use Rattle.fk_wire.specs.declared.message.Tell.{Tell}
use Rattle.fk_spec.specs.Follower.{Stage}
use Rattle.fk_spec.specs.Follower as stage
use Rattle.fk_follow.specs.Meaning.{Meaning}
use Rattle.fk_stand.specs.Messages.{outcome_tell}
use Rattle.fk_follow.specs.Services.{push_at}

-- nothing is told, or a message whose text is read back
abbrev pub IsToldReadable : Option Tell → Type 0
IsToldReadable None = ⊤
IsToldReadable (Some m) = IsTellReadable m

abbrev pub is_readable_at : ℕ → Meaning → Stage → Type 0
is_readable_at now m stage.Session = ⊤
is_readable_at now m stage.Owned = ⊤
is_readable_at now m (stage.Lock path) = ⊤
is_readable_at now m stage.Push = IsPushedReadable (push_at now m)
is_readable_at now m (stage.Refuse r at) = ⊤
is_readable_at now m (stage.Expire at) = ⊤
is_readable_at now m (stage.Commit tx) = ⊤
is_readable_at now m stage.Lost = ⊤
is_readable_at now m stage.Reply = IsToldReadable (outcome_tell m.follower.k m.outcome)
is_readable_at now m stage.Ack = ⊤
is_readable_at now m stage.Ended = ⊤

-- Where its operation at this moment sends a push or a reply, that is a message whose text is read back.
abbrev pub IsReadable : ℕ → Meaning → Type 0
IsReadable now m = is_readable_at now m m.follower.stage
