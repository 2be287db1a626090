-- What is read of the table, in a follower's words.
use Rattle.std.specs.Prelude.{◌≡◌, ℕ, Bool, true, false, if◌then◌else◌, List, Option, Some, None}
use Rattle.fk_base.specs.Path.{PathNames}
use Rattle.fk_store.specs.Answers.{AreOwned}
use Rattle.fk_store.specs.Locks.{is_free}
use Rattle.fk_store.specs.Meaning.{Meaning, lock_of, or_no_record}
use Rattle.fk_tree.specs.Tree.{map_some}
use Rattle.fk_tree.specs.declared.request.Request.{Request}
use Rattle.fk_follow.specs.Sketches.{node_for}
use Rattle.fk_follow.specs.declared.reading.Took.{Took}
use Rattle.fk_follow.specs.declared.reading.Took.TheVariants as took
use Rattle.fk_settle.specs.declared.settling.Verdict.{Verdict}
use Rattle.fk_settle.specs.declared.settling.Verdict.TheVariants as verdict

-- what a table gives for a session's nodes: their paths, and none where it is armed
abbrev pub IsGiven : Meaning → ℕ → Option (List PathNames) → Type 0
IsGiven t session None = t.armed ≡ true
IsGiven t session (Some owned) = AreOwned t session owned

-- what a call of a table gives: nothing where the table is armed
abbrev pub unless_armed : {A : Type 0} → Meaning → A → Option A
unless_armed t x = if t.armed then None else Some x

-- what a request reads of the record of a path
abbrev pub granted_for : Meaning → Request → PathNames → Took
granted_for t r p = took.Granted (map_some (node_for r) (or_no_record (t.nodes p)).node) (or_no_record (t.nodes p)).last

-- what becomes of taking a lock for a request
abbrev pub took_of : Meaning → Request → PathNames → ℕ → ℕ → Took
took_of t r p now time =
    if t.armed then took.Failed
    else if is_free now time (lock_of t p) then granted_for t r p
    else took.Busy (lock_of t p)

-- whether a lock had passed on
abbrev pub is_passed : Verdict → Bool
is_passed verdict.Done = false
is_passed (verdict.Settled settled) = false
is_passed (verdict.Passed path holder moment) = true
is_passed verdict.Failed = false
