-- What a follower means: its invocation, its message, and where it stands as a history sees it.
use Rattle.std.specs.Prelude.{ℕ, Bool, true, false, if◌then◌else◌, List, [], ◌∷◌}
use Rattle.fk_base.specs.Path.{PathNames, same_path}
use Rattle.fk_store.specs.declared.outcome.Outcome.{Outcome}
use Rattle.fk_store.specs.declared.outcome.Outcome.TheVariants as kept
use Rattle.fk_wire.specs.declared.message.Sent.{Sent}
use Rattle.fk_spec.specs.Follower.{Follower, Stage, begin}
use Rattle.fk_spec.specs.Follower as stage

-- a path that was locked, and when its lock was granted
pub record Own : Type 0 where
  pub path : PathNames
  pub moment : ℕ

-- `owns` are its locks in the order of their grants. Before a commit `moment` is that of its push. Before a loss is
-- settled `outcome` is that loss, and before a reply it is what was kept of the request. Else they are 0 and Nothing.
pub record Meaning : Type 0 where
  pub inv : ℕ
  pub message : Sent
  pub follower : Follower
  pub owns : List Own
  pub moment : ℕ
  pub outcome : Outcome

-- a follower that starts on message k of a session
abbrev pub started : ℕ → ℕ → ℕ → Sent → Meaning
started inv session k message = record {
  inv = inv;
  message = message;
  follower = begin session k;
  owns = [];
  moment = 0;
  outcome = kept.Nothing;
}

abbrev pub is_end : Stage → Bool
is_end stage.Session = false
is_end stage.Owned = false
is_end (stage.Lock path) = false
is_end stage.Push = false
is_end (stage.Refuse refusal at) = false
is_end (stage.Expire at) = false
is_end (stage.Commit tx) = false
is_end stage.Lost = false
is_end stage.Reply = false
is_end stage.Ack = false
is_end stage.Ended = true

abbrev pub is_ended : Meaning → Bool
is_ended m = is_end m.follower.stage

-- the moment of the last of these grants on a path, else m
abbrev pub own_moment : PathNames → List Own → ℕ → ℕ
own_moment p [] m = m
own_moment p (o ∷ os) m = own_moment p os (if same_path o.path p then o.moment else m)
