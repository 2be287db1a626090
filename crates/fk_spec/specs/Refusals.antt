-- Every refusal shows its cause.
use Rattle.std.specs.Prelude.{◌≡◌, ℕ, ◌==◌, nat_le, Bool, true, false, if◌then◌else◌, ◌&&◌, ◌||◌, List, [], ◌∷◌, Option, Some, None}
use Rattle.fk_base.specs.Times.{has_passed}
use Rattle.fk_base.specs.Path.{PathNames, same_path}
use Rattle.fk_base.specs.declared.code.Code.{Code}
use Rattle.fk_base.specs.declared.code.Code.TheVariants as code
use Rattle.fk_tree.specs.Check.{Refusal, check}
use Rattle.fk_print.specs.declared.entry.Entry.{Entry}
use Rattle.fk_print.specs.declared.line.Act.{Act}
use Rattle.fk_print.specs.declared.line.Act.TheVariants as act
use Rattle.fk_print.specs.declared.line.Line.{Line}
use Rattle.fk_print.specs.declared.line.Line.TheVariants as line
use Rattle.fk_print.specs.declared.line.Printed.{Printed}
use Rattle.fk_print.specs.declared.line.Shown.{Shown}
use Rattle.fk_print.specs.declared.line.Shown.TheVariants as shown
use Rattle.fk_print.specs.declared.op.Op.{Op}
use Rattle.fk_print.specs.declared.op.Op.TheVariants as op
use Rattle.fk_spec.specs.Plan.{Plan, Ask, Want, Unfit, Writes, Reads, asked}
use Rattle.fk_spec.specs.Shown.{seen_by}
use Rattle.fk_spec.specs.Start.{Task, Follows, clock_of, or_else, probes_session, task_of}
use Rattle.fk_spec.specs.Client.{is_unfit}
use Rattle.fk_spec.specs.PublicLines.{tx_with, txs_of}
use Rattle.fk_spec.specs.Published.{published_view}
use Rattle.fk_spec.specs.Promises.{sent_as}

-- What the client had seen. -----------------------------------------------------------------------

abbrev pub seen_if : Bool → ℕ → Option ℕ
seen_if here n = if here then Some n else None

abbrev pub seen_at_in : ℕ → ℕ → List Entry → Op → Option ℕ
seen_at_in c i h (op.Send session command k) = seen_if ((session == c) && (command == i)) (seen_by c h)
seen_at_in c i h (op.Local session command) = seen_if ((session == c) && (command == i)) (seen_by c h)
seen_at_in c i h _ = None

-- what client c had seen when it sent or refused command i
abbrev pub seen_at : ℕ → ℕ → List Entry → Option ℕ
seen_at c i [] = None
seen_at c i (e ∷ h) = or_else (seen_at_in c i h e.op) (seen_at c i h)

abbrev pub IsAtMost : Option ℕ → ℕ → Type 0
IsAtMost None m = ⊥
IsAtMost (Some n) m = nat_le n m ≡ true

-- A code at a number. -----------------------------------------------------------------------------

-- A write's code and place are the first check that fails on the tree of its number. A read is refused
-- for its closed session alone (NONODE is the tree's answer to it). Both at a number that is at least what
-- the client had seen.
abbrev pub CodeFits : List Entry → ℕ → Refusal → ℕ → Option ℕ → Want → Type 0
CodeFits h c r at seen Unfit = ⊥
CodeFits h c r at seen (Writes w) = (check (published_view h at) c w ≡ Some r) × IsAtMost seen at
CodeFits h c r at seen (Reads q watch) = expires r.code
  where
    expires : Code → Type 0
    expires code.SessionExpired = ((published_view h at).closed c ≡ true) × IsAtMost seen at
    expires _ = Unit {0}

-- A lock that passed on. --------------------------------------------------------------------------

abbrev pub grants : ℕ → PathNames → ℕ → List Entry → Op → Bool
grants n path moment h (op.LockOk function q) = (function == n) && same_path q path && (clock_of h == moment)
grants n path moment h _ = false

-- whether function n was granted this path at this moment
abbrev pub was_granted : ℕ → PathNames → ℕ → List Entry → Bool
was_granted n path moment [] = false
was_granted n path moment (e ∷ h) = grants n path moment h e.op || was_granted n path moment h

-- whether function n was granted the path at `own`, and another function later at `moment`
abbrev pub granted_later : ℕ → PathNames → ℕ → ℕ → ℕ → List Entry → Bool
granted_later n path own found moment [] = false
granted_later n path own found moment (e ∷ h) = (grants found path moment h e.op && was_granted n path own h) || granted_later n path own found moment h

abbrev pub misses : ℕ → PathNames → ℕ → ℕ → Op → Bool
misses n path found moment (op.CommitLock function tx q holder since) = (function == n) && same_path q path && (holder == found) && (since == moment)
misses n path found moment (op.RefuseLock function code place at q holder since) = (function == n) && same_path q path && (holder == found) && (since == moment)
misses n path found moment _ = false

-- whether function n found this lock to have passed on
abbrev pub has_missed : ℕ → PathNames → ℕ → ℕ → List Entry → Bool
has_missed n path found moment [] = false
has_missed n path found moment (e ∷ h) = misses n path found moment e.op || has_missed n path found moment h

abbrev pub settles_lost : ℕ → Op → Bool
settles_lost n (op.LostOk function) = function == n
settles_lost n _ = false

abbrev pub has_lost : ℕ → List Entry → Bool
has_lost n [] = false
has_lost n (e ∷ h) = settles_lost n e.op || has_lost n h

abbrev pub is_follower : ℕ → Option ℕ → Option Task → Bool
is_follower c (Some k) (Some (Follows session n)) = (session == c) && (n == k)
is_follower c _ _ = false

-- A lock is lost where a follower of the command was granted it, another function was granted it later,
-- when more than the lock time had passed, and that follower found this and settled its request so.
pub record LockIsLost (p : Plan) (h : List Entry) (c i : ℕ) (path : PathNames) (own found moment : ℕ) : Type 0 where
  pub function : ℕ
  pub follows : is_follower c (sent_as c i h) (task_of function h) ≡ true
  pub passed : granted_later function path own found moment h ≡ true
  pub beyond : has_passed p.lock own moment ≡ true
  pub missed : has_missed function path found moment h ≡ true
  pub settled : has_lost function h ≡ true

-- Failures. ---------------------------------------------------------------------------------------

abbrev pub fails_send : ℕ → ℕ → Op → Bool
fails_send c i (op.SendFault session command) = (session == c) && (command == i)
fails_send c i _ = false

-- whether the sending of command i failed
abbrev pub has_failed_send : ℕ → ℕ → List Entry → Bool
has_failed_send c i [] = false
has_failed_send c i (e ∷ h) = fails_send c i e.op || has_failed_send c i h

-- whether this operation is a failed read or registration of command i
abbrev pub fails_read : ℕ → ℕ → Op → Bool
fails_read c i (op.ReadFault session command) = (session == c) && (command == i)
fails_read c i (op.WatchFault session command) = (session == c) && (command == i)
fails_read c i _ = false

-- Evictions. --------------------------------------------------------------------------------------

abbrev pub finds_late : ℕ → Op → Bool
finds_late n (op.ProbeLate function ping moment) = function == n
finds_late n _ = false

abbrev pub has_found_late : ℕ → List Entry → Bool
has_found_late n [] = false
has_found_late n (e ∷ h) = finds_late n e.op || has_found_late n h

abbrev pub evicts_late : ℕ → ℕ → List Entry → Op → Bool
evicts_late c k h (op.Evict function n) = (n == k) && probes_session c (task_of function h) && has_found_late function h
evicts_late c k h _ = false

-- whether request k of session c is a close by a heartbeat that found the session late
abbrev pub is_evicted_late : ℕ → ℕ → List Entry → Bool
is_evicted_late c k [] = false
is_evicted_late c k (e ∷ h) = evicts_late c k h e.op || is_evicted_late c k h

abbrev pub is_eviction : Act → Bool
is_eviction (act.Close evict gone) = evict
is_eviction _ = false

abbrev pub EvictionFits : List Entry → ℕ → Option Printed → Type 0
EvictionFits h c None = ⊥
EvictionFits h c (Some x) = (x.session ≡ c) × (is_eviction x.act ≡ true) × (is_evicted_late c x.k h ≡ true)

-- Each line. --------------------------------------------------------------------------------------

abbrev pub is_bad_arguments : Shown → Bool
is_bad_arguments (shown.Plain code.BadArguments) = true
is_bad_arguments _ = false

abbrev pub RefusedAs : List Entry → ℕ → ℕ → Refusal → ℕ → Option Ask → Type 0
RefusedAs h c i r at None = ⊥
RefusedAs h c i r at (Some a) = CodeFits h c r at (seen_at c i h) a.want

-- The cause of what a reply shows; `h` is the whole history, `k` its entries up to the reply's own, whose
-- operation is `o`.
abbrev pub CauseFits : Plan → List Entry → List Entry → Op → ℕ → ℕ → Shown → Type 0
CauseFits p h k o c i (shown.Refused code at place) = RefusedAs h c i (record { code = code; place = place }) at (asked p c i)
CauseFits p h k o c i (shown.Lost path own found moment) = LockIsLost p h c i path own found moment
CauseFits p h k o c i (shown.Plain code.BadArguments) = Unit {0}
CauseFits p h k o c i (shown.Plain code.ConnectionLoss) = has_failed_send c i k ≡ true
CauseFits p h k o c i (shown.Plain code.SystemError) = fails_read c i o ≡ true
CauseFits p h k o c i (shown.Plain code) = ⊥
CauseFits p h k o c i s = Unit {0}

-- BADARGUMENTS comes exactly where the command is unfit; every other refusal has its cause.
abbrev pub RefusalFits : Plan → List Entry → List Entry → Op → Line → Type 0
RefusalFits p h k o (line.Reply session command verb shown) = (is_bad_arguments shown ≡ is_unfit (asked p session command)) × CauseFits p h k o session command shown
RefusalFits p h k o (line.Expired session tx) = EvictionFits h session (tx_with tx (txs_of h))
RefusalFits p h k o _ = Unit {0}

abbrev pub LinesRefused : Plan → List Entry → List Entry → Op → List Line → Type 0
LinesRefused p h k o [] = Unit {0}
LinesRefused p h k o (l ∷ ls) = RefusalFits p h k o l × LinesRefused p h k o ls

abbrev pub RefusalsIn : Plan → List Entry → List Entry → Type 0
RefusalsIn p h [] = Unit {0}
RefusalsIn p h (e ∷ k) = LinesRefused p h (e ∷ k) e.op e.lines × RefusalsIn p h k

-- each refusal has its printed cause
abbrev pub RefusalsFit : Plan → List Entry → Type 0
RefusalsFit p h = RefusalsIn p h h
