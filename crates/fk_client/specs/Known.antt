-- What a client keeps of a command that it sent, as the rules know it, and its read.
use Rattle.std.specs.Prelude.{ℕ, ◌+◌, ◌==◌, Bool, false, if◌then◌else◌, ◌&&◌, List, [], ◌∷◌, Option, Some, None}
use Rattle.fk_spec.specs.Locks.{Loss}
use Rattle.fk_spec.specs.Settling.{Committed, Refused, Passed}
use Rattle.fk_spec.specs.Client.{Keeping, Reading, Result, Open, Settled, Plain, Expired, Target, is_open, is_ready, number_looked_for}
use Rattle.fk_client.specs.declared.looking.Target as looking
use Rattle.fk_client.specs.declared.reading.Reading as reading
use Rattle.fk_client.specs.declared.unanswered.Outcome.{Outcome}
use Rattle.fk_client.specs.declared.unanswered.Outcome.TheVariants as outcome
use Rattle.fk_client.specs.declared.unanswered.Unanswered.{Unanswered}

abbrev pub loss_of : List (List ℕ) → ℕ → ℕ → ℕ → Loss
loss_of path own found moment = record { path = path; own = own; found = found; moment = moment }

-- an outcome as the rules know it, which keep nothing of a commit but its number
abbrev pub known : Outcome → Result
known outcome.Open = Open
known (outcome.Done tx name version made) = Settled (Committed tx)
known (outcome.Refused code at place) = Settled (Refused code place at)
known (outcome.Lost path own found moment) = Settled (Passed (Some (loss_of path own found moment)))
known (outcome.Plain code) = Plain code
known (outcome.Expired at) = Expired at

-- what a command is kept with before anything is told of it; so the second doesn't come
abbrev pub kept_as : Result → Outcome
kept_as Open = outcome.Open
kept_as (Settled o) = outcome.Open
kept_as (Plain code) = outcome.Plain code
kept_as (Expired at) = outcome.Expired at

abbrev pub unanswered : ℕ → ℕ → Outcome → Unanswered
unanswered command k o = record { command = command; k = k; outcome = o }

-- a command is kept with its outcome
abbrev pub by_outcome : Keeping Unanswered Outcome
by_outcome = record {
  command = λ s. s.command;
  awaits = λ k s. (s.k == k) && is_open (known s.outcome);
  number = λ s. number_looked_for (known s.outcome);
  is_ready = λ s. is_ready (known s.outcome);
  kept = λ command k r. unanswered command k (kept_as r);
  told = λ o s. record s { outcome = o };
}

-- whether what stands first is ready
abbrev pub is_first_ready : List Unanswered → Bool
is_first_ready [] = false
is_first_ready (s ∷ ss) = by_outcome.is_ready s

-- the place of the first open command that was sent under this number, else how many there are
abbrev pub place_of : ℕ → List Unanswered → ℕ
place_of k [] = 0
place_of k (s ∷ ss) = if by_outcome.awaits k s then 0 else place_of k ss + 1

-- a read as the rules have it
abbrev pub reading_as : reading.Reading → Reading
reading_as r = record { node = r.node; stamp = r.stamp; looked = r.looked }

abbrev pub reading_in : Option reading.Reading → Option Reading
reading_in None = None
reading_in (Some r) = Some (reading_as r)

-- what is looked for, as the rules have it
abbrev pub target_as : looking.Target → Target
target_as t = record { command = t.command; number = t.number }

abbrev pub target_in : Option looking.Target → Option Target
target_in None = None
target_in (Some t) = Some (target_as t)
