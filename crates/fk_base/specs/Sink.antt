-- What a sink takes: the bytes that it has taken, where it tells them, before and after.
use Rattle.std.specs.Prelude.{ℕ, ◌<◌, ◌≤◌, List, length, take, Option}
use Rattle.std.specs.Io.KnownBytes.{Appends, Keeps}
use Rattle.fk_base.specs.declared.sink.Put.{Put}
use Rattle.fk_base.specs.declared.sink.Put.TheVariants as put

-- The first bytes of the piece were appended, one at least, or nothing was.
abbrev pub WriteTakes : Option (List ℕ) → Option (List ℕ) → List ℕ → Put → Type 0
WriteTakes old new piece (put.Took n) = (0 < n) × (n ≤ length piece) × Appends old new (take n piece)
WriteTakes old new piece put.Failed = Keeps old new

-- The piece was appended up to a byte that wasn't.
abbrev pub AppendsFront : Option (List ℕ) → Option (List ℕ) → List ℕ → Type 0
AppendsFront old new piece = (n : ℕ) × (n < length piece) × Appends old new (take n piece)
