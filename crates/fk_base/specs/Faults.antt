-- The counts of faults that a source and a sink keep.
use Rattle.std.specs.Prelude.{ℕ, ◌+◌, ◌-◌, ◌^◌, ◌≤◌, min}

-- one more, up to where a count stays
abbrev pub one_more : ℕ → ℕ
one_more count = min (count + 1) (2 ^ 64 - 1)

-- A count rose, or stands where it stays.
abbrev pub Rose : ℕ → ℕ → Type 0
Rose before after = one_more before ≤ after
