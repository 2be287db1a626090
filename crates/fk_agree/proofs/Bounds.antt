-- Counts of a history shorter than 2^62 are within the limits of messages.
use Rattle.std.specs.Prelude.{◌-◌, ◌^◌}
use Rattle.std.proofs.Common.{ℕ, ◌+◌, ◌<◌, ◌≤◌, List, length, arith}
use Rattle.fk_print.specs.declared.entry.Entry.{Entry}
use Rattle.fk_base.specs.Limits.{IsNumber}
use Rattle.fk_queue.specs.declared.lane.Lane.{Lane}
use Rattle.fk_stand.specs.Posts.{lane_after}
use Rattle.fk_stand.proofs.Counting.{lanes_are_bounded}
use Rattle.fk_spec.specs.Plan.{Plan}
use Rattle.fk_spec.specs.Settling.{mark_of}
use Rattle.fk_spec.specs.Next.{IsHistory}
use Rattle.fk_law.proofs.Leading.{done_is_removed_or_one_more, done_were_pushed, mark_behind_sweep}
use Rattle.fk_law_watch.proofs.Counting.{pushes_are_bounded}

pub is_number : (n m : ℕ) → m < 2 ^ 62 → n ≤ m + 1 → IsNumber n
is_number n m a b = omega (arith, a, b)

pub can_be_given : (n m : ℕ) → m < 2 ^ 62 → n ≤ m → n < 2 ^ 63 - 1
can_be_given n m a b = omega (arith, a, b)

pub mark_low : (p : Plan) (h : List Entry) → IsHistory p h → mark_of h ≤ length h + 1
mark_low p h l =
    let a = mark_behind_sweep p h l in
    let b = done_is_removed_or_one_more p h l in
    let c = done_were_pushed p h l in
    let d = pushes_are_bounded h in
    omega (arith, a.0, a.1, b.0, c, d)

pub lane_low : (p : Plan) (l : Lane) (h : List Entry) → length h < 2 ^ 62 → (lane_after p l h).given < 2 ^ 63 - 1
lane_low p l h a = can_be_given (lane_after p l h).given (length h) a (lanes_are_bounded p l h)
