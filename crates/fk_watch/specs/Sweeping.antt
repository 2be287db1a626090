-- What a sweep fires, and what is left once it is told.
use Rattle.std.specs.Prelude.{ℕ, ◌==◌, if◌then◌else◌, List, Option, Some, None}
use Rattle.fk_tree.specs.Watch.{first_taken, has_touch}
use Rattle.fk_tree.specs.declared.change.Change.{Change}
use Rattle.fk_tree.specs.declared.change.Touch.{Touch}
use Rattle.fk_watch.specs.declared.watch.Watch.{Watch}
use Rattle.fk_watch.specs.declared.watch.Firing.{Firing}
use Rattle.fk_watch.specs.Meaning.{Watches}

-- a watch as it fires with a change, if there is one
abbrev pub firing : ℕ → Watch → Option Change → Option Firing
firing tx w None = None
firing tx w (Some c) = Some (record { watch = w; tx = tx; change = c })

-- How the touches of a transaction fire a set watch: it shows the first of them that is of its path and that its
-- kind takes.
abbrev pub fires : ℕ → List Touch → Option Watch → Option Firing
fires tx ts None = None
fires tx ts (Some w) = firing tx w (first_taken w.path w.kind ts)

-- the second where there is no first
abbrev pub unless : {A B : Type 0} → Option A → Option B → Option B
unless None o = o
unless (Some x) o = None

-- the first, or else the second
abbrev pub or_else : {A : Type 0} → Option A → Option A → Option A
or_else None o = o
or_else (Some x) o = Some x

-- A sweep moves the watches that the touches fire from set to fired, and is the last one of each touched path.
abbrev pub swept_for : ℕ → List Touch → Watches → Watches
swept_for tx ts m = record m {
  set = λ n. unless (fires tx ts (m.set n)) (m.set n);
  fired = λ n. or_else (fires tx ts (m.set n)) (m.fired n);
  swept = tx;
  last = λ p. if has_touch p ts then tx else m.last p;
}

-- a fired watch, unless that transaction fired it
abbrev pub not_of : ℕ → Option Firing → Option Firing
not_of tx None = None
not_of tx (Some f) = if f.tx == tx then None else Some f

-- a fired watch, if that transaction fired it
abbrev pub only_of : ℕ → Option Firing → Option Firing
only_of tx None = None
only_of tx (Some f) = if f.tx == tx then Some f else None

-- the watches that the transaction fired are told
abbrev pub told_for : ℕ → Watches → Watches
told_for tx m = record m { fired = λ n. not_of tx (m.fired n) }
