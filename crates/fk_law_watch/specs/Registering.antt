-- Registrations: what a line that sets a watch says of the entries before it.
use Rattle.std.specs.Prelude.{◌≡◌, ℕ, ◌≤◌, List, ◌∷◌, Option, Some, None}
use Rattle.fk_print.specs.declared.entry.Entry.{Entry}
use Rattle.fk_print.specs.declared.op.Op.{Op}
use Rattle.fk_print.specs.declared.op.Op.TheVariants as op
use Rattle.fk_spec.specs.Plan.{Plan, asked}
use Rattle.fk_spec.specs.Shown.{seen_by}
use Rattle.fk_spec.specs.Watches.{Watch, watch_asked, last_sweep}
use Rattle.fk_spec.specs.Sight.{watch_number}
use Rattle.fk_spec.specs.Client.{number_read, client_of, Reading}
use Rattle.fk_spec.specs.Next.{IsHistory}

abbrev pub number_from : ℕ → List Entry → Option Reading → ℕ
number_from c h None = 0
number_from c h (Some r) = number_read (seen_by c h) r

-- the number of client c's read, 0 where it makes none
abbrev pub number_of_read : Plan → ℕ → List Entry → ℕ
number_of_read p c h = number_from c h (client_of p c h).reading

-- A registration of watch `id`: its command asks for the watch, no sweep beyond the read's number touched
-- its path, and a watch that is set already keeps its number.
pub record IsRegistration (p : Plan) (h : List Entry) (c command id : ℕ) : Type 0 where
  pub watch : Watch
  pub wanted : watch_asked id c (asked p c command) ≡ Some watch
  pub unswept : last_sweep p watch.path h ≤ number_of_read p c h
  pub numbered : id ≡ watch_number p c h watch.path watch.kind
  pub its_id : watch.id ≡ id
  pub its_session : watch.session ≡ c

abbrev pub Registers : Plan → List Entry → Op → Type 0
Registers p h (op.WatchSet session command watch) = IsRegistration p h session command watch
Registers p h _ = Unit {0}

-- A watch is set by a read that asks for it, whose number no sweep of its path passed.
abbrev pub WatchesAreRegistered : Type 0
WatchesAreRegistered = (p : Plan) (e : Entry) (h : List Entry) → IsHistory p (e ∷ h) → Registers p h e.op
