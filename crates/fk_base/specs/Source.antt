-- What a source gives: the bytes that it has left, where it tells them, before and after.
use Rattle.std.specs.Prelude.{◌≡◌, ℕ, ◌<◌, ◌≤◌, List, length, take, Option}
use Rattle.std.specs.Io.KnownBytes.{Consumes, IsAtEnd, Keeps}
use Rattle.fk_base.specs.declared.source.Got.{Got}
use Rattle.fk_base.specs.declared.source.Got.TheVariants as got

-- The next bytes were moved into the buffer, one at least; or none are left; or nothing was taken.
abbrev pub ReadGives : Option (List ℕ) → Option (List ℕ) → List ℕ → Got → Type 0
ReadGives old new into (got.Bytes n) = (0 < n) × (n ≤ length into) × Consumes old new (take n into)
ReadGives old new into got.End = IsAtEnd new × Keeps old new
ReadGives old new into got.Failed = Keeps old new

-- These many bytes were taken.
abbrev pub TakesCount : Option (List ℕ) → Option (List ℕ) → ℕ → Type 0
TakesCount old new n = (bytes : List ℕ) × (length bytes ≡ n) × Consumes old new bytes

-- No more bytes than these many were taken.
abbrev pub TakesAtMost : Option (List ℕ) → Option (List ℕ) → ℕ → Type 0
TakesAtMost old new n = (bytes : List ℕ) × (length bytes ≤ n) × Consumes old new bytes
