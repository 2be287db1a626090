-- A leader's sweep.
use Rattle.std.specs.Prelude.{◌≡◌, ℕ, nat_lt, false, if◌then◌else◌, ⊤, List, Option}
use Rattle.fk_tree.specs.declared.change.Touch.{Touch}
use Rattle.fk_spec.specs.Leader.{Stage}
use Rattle.fk_spec.specs.Leader as stage
use Rattle.fk_watch.specs.Answers.{AreFired, IsEpoch}
use Rattle.fk_watch.specs.Meaning.{Watches, failed}
use Rattle.fk_watch.specs.Sweeping.{swept_for}
use Rattle.fk_watch.specs.declared.watch.Firing.{Firing}
use Rattle.fk_lead.specs.Meaning.{Meaning, Swept, touches_of}

-- the watches after a sweep that doesn't want memory: one that comes late changes nothing
abbrev pub swept_at : ℕ → List Touch → Watches → Watches
swept_at tx ts w = if w.armed then failed w else if nat_lt w.swept tx then swept_for tx ts w else w

-- what is listed of these fired watches: those of push `tx`, and the epoch; there is one such list and one epoch
pub record AreSwept (tx : ℕ) (all : ℕ → Option Firing) (s : Swept) : Type 0 where
  pub fired : AreFired tx all s.fired
  pub epoch : IsEpoch all s.epoch

-- `s` is what a sweep gives where it doesn't fail: late or not, it gives what is fired after it
abbrev pub IsSweepOf : ℕ → List Touch → Watches → Swept → Type 0
IsSweepOf tx ts w s = w.armed ≡ false → AreSwept tx (swept_at tx ts w).fired s

abbrev pub given_at : Watches → Meaning → Swept → Stage → Type 0
given_at w m s stage.Sweep = IsSweepOf m.tx (touches_of m) w s
given_at w m s stage.Commit = ⊤
given_at w m s stage.Pending = ⊤
given_at w m s stage.Drop = ⊤
given_at w m s (stage.Put path others) = ⊤
given_at w m s stage.Publish = ⊤
given_at w m s stage.Notify = ⊤
given_at w m s stage.Reply = ⊤
given_at w m s stage.Done = ⊤
given_at w m s stage.Ack = ⊤
given_at w m s stage.Ended = ⊤

-- `s` is what these watches give a leader at its next operation; a sweep alone asks for it.
abbrev pub IsGiven : Watches → Meaning → Swept → Type 0
IsGiven w m s = given_at w m s m.stage
