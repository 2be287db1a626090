-- A function: what it means, whether it has ended, its operation, and what comes after that.
use Rattle.std.specs.Prelude.{◌≡◌, Bool, List, [], ◌∷◌, ⊤}
use Rattle.fk_print.specs.declared.line.Line.{Line}
use Rattle.fk_print.specs.declared.line.Line.TheVariants as line
use Rattle.fk_print.specs.declared.op.Op.{Op}
use Rattle.fk_print.specs.declared.op.Op.TheVariants as op
use Rattle.fk_spec.specs.Next.{printed_of}
use Rattle.fk_follow.specs.Fit.{IsFit as FollowerIsFit, IsRead as FollowerReads}
use Rattle.fk_follow.specs.Meaning as follower
use Rattle.fk_follow.specs.Next.{after_step as follower_after}
use Rattle.fk_follow.specs.Operation.{step_op as follower_op}
use Rattle.fk_follow.specs.Sending.{IsReadable as FollowerSends}
use Rattle.fk_follow.specs.Services.{post_after_step as follower_post, table_after_step as follower_table}
use Rattle.fk_follow.specs.Standing.{follower_of}
use Rattle.fk_lead.specs.Fit.{IsFit as LeaderIsFit}
use Rattle.fk_lead.specs.Meaning as leader
use Rattle.fk_lead.specs.Next.{after_step as leader_after}
use Rattle.fk_lead.specs.Operation.{step_op as leader_op}
use Rattle.fk_lead.specs.Sending.{IsReadable as LeaderSends}
use Rattle.fk_lead.specs.Services.{post_after_step as leader_post, table_after_step as leader_table, user_after_step as leader_user, watches_after_step as leader_watches}
use Rattle.fk_lead.specs.Standing.{leader_of}
use Rattle.fk_lead.specs.Sweeping.{IsGiven as LeaderReads}
use Rattle.fk_watch.specs.Beating as beat
use Rattle.fk_watch.specs.BeatingFit.{IsFit as BeatIsFit, IsReadable as BeatSends}
use Rattle.fk_watch.specs.BeatingStanding.{beat_of}
use Rattle.fk_watch.specs.Telling as teller
use Rattle.fk_watch.specs.TellingFit.{IsFit as TellerIsFit, IsReadable as TellerSends}
use Rattle.fk_watch.specs.TellingStanding.{teller_of}
use Rattle.fk_engine.specs.declared.machine.Machine.{Machine}
use Rattle.fk_engine.specs.declared.machine.Machine.TheVariants as machine
use Rattle.fk_engine.specs.declared.times.Times.{Times}
use Rattle.fk_engine.specs.Reads.{Read}
use Rattle.fk_watch.specs.Services.{Services}

pub data Meaning : Type 0 where
  Follower : follower.Meaning → Meaning
  Leader : leader.Meaning → Meaning
  Teller : teller.Meaning → Meaning
  Beat : beat.Meaning → Meaning

-- what a function's fields mean
abbrev pub machine_of : Machine → Meaning
machine_of (machine.Follower f) = Follower (follower_of f)
machine_of (machine.Leader l) = Leader (leader_of l)
machine_of (machine.Teller t) = Teller (teller_of t)
machine_of (machine.Beat b) = Beat (beat_of b)

abbrev pub is_ended : Meaning → Bool
is_ended (Follower m) = follower.is_ended m
is_ended (Leader m) = leader.is_ended m
is_ended (Teller m) = teller.is_ended m
is_ended (Beat m) = beat.is_ended m

-- what its operation needs
abbrev pub IsFit : Services → Times → Meaning → Type 0
IsFit s t (Follower m) = FollowerIsFit s.table s.post t.clock m
IsFit s t (Leader m) = LeaderIsFit s.table s.post m
IsFit s t (Teller m) = TellerIsFit s.post m
IsFit s t (Beat m) = BeatIsFit s.table s.post m

-- These lists are what the services give it at its operation, where it asks for such.
abbrev pub IsReadAt : Services → Read → Meaning → Type 0
IsReadAt s r (Follower m) = FollowerReads s.table r.owned m
IsReadAt s r (Leader m) = LeaderReads s.watches m r.swept
IsReadAt s r (Teller m) = ⊤
IsReadAt s r (Beat m) = ⊤

-- The operation that it makes on these services.
abbrev pub step_op : Services → Times → Read → Meaning → Op
step_op s t r (Follower m) = follower_op s.table s.post t.clock t.lock r.owned m
step_op s t r (Leader m) = leader_op s.table s.post s.watches s.user r.swept m
step_op s t r (Teller m) = teller.step_op s.post s.watches m
step_op s t r (Beat m) = beat.step_op s.table s.post t.clock t.beat m

-- The function after it.
abbrev pub after_step : Services → Times → Read → Meaning → Meaning
after_step s t r (Follower m) = Follower (follower_after s.table s.post t.clock t.lock r.owned m)
after_step s t r (Leader m) = Leader (leader_after s.table s.post s.watches s.user r.swept m)
after_step s t r (Teller m) = Teller (teller.after_step s.post s.watches m)
after_step s t r (Beat m) = Beat (beat.after_step s.table s.post t.clock t.beat m)

-- The services after it.
abbrev pub services_after : Services → Times → Meaning → Services
services_after s t (Follower m) = record s {
  table = follower_table s.table t.clock t.lock m;
  post = follower_post s.post t.clock m;
}
services_after s t (Leader m) = record {
  table = leader_table s.table m;
  post = leader_post s.post m;
  watches = leader_watches s.watches m;
  user = leader_user s.user m;
}
services_after s t (Teller m) = record s {
  post = teller.post_after_step s.post m;
  watches = teller.watches_after_step s.watches m;
}
services_after s t (Beat m) = record s {
  table = beat.table_after_step s.table t.clock m;
  post = beat.post_after_step s.post m;
}

-- What it sends with it can be read.
abbrev pub IsReadable : Times → Meaning → Type 0
IsReadable t (Follower m) = FollowerSends t.clock m
IsReadable t (Leader m) = LeaderSends m
IsReadable t (Teller m) = TellerSends m.stage
IsReadable t (Beat m) = BeatSends m.inv m.stage

-- a leader's publication shows its push
abbrev pub leader_lines : Op → leader.Meaning → List Line
leader_lines (op.PublishOk n tx) m = line.Tx (printed_of (leader.applied_of m)) ∷ []
leader_lines o m = []

-- the public lines of an operation
abbrev pub lines_by : Op → Meaning → List Line
lines_by o (Follower m) = []
lines_by o (Leader m) = leader_lines o m
lines_by o (Teller m) = []
lines_by o (Beat m) = []

-- ---- what it does

-- whatever it reads, this is its operation
abbrev pub IsOpOf : Services → Times → Meaning → Op → Type 0
IsOpOf s t m o = (r : Read) → IsReadAt s r m → o ≡ step_op s t r m

-- whatever it reads, this is the function after it
abbrev pub Leads : Services → Times → Meaning → Meaning → Type 0
Leads s t m n = (r : Read) → IsReadAt s r m → n ≡ after_step s t r m

-- it reads something
abbrev pub IsGiven : Services → Meaning → Type 0
IsGiven s m = (r : Read) × IsReadAt s r m
