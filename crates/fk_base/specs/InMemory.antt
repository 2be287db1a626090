-- A source and a sink in memory, of which chosen calls fail.
use Rattle.std.specs.Prelude.{ℕ, ◌==◌, nat_lt, Bool, if◌then◌else◌, ◌||◌, List, length}
use Rattle.std.specs.List.{list_any}
use Rattle.fk_base.specs.Faults.{one_more}
use Rattle.fk_base.specs.declared.calls.Calls.{Calls}

-- The next call fails where its number, from 1, is listed.
abbrev pub fails_next : Calls → Bool
fails_next c = list_any (λ n. n == one_more c.made) c.failing

-- the calls after one more, which failed or didn't
abbrev pub called : Bool → Calls → Calls
called failed c = record { made = one_more c.made; failing = c.failing; faults = if failed then one_more c.faults else c.faults }

-- what a source has left, and its calls
pub record Supply : Type 0 where
  pub left : List ℕ
  pub calls : Calls

-- what a sink has taken, how many more bytes it has room for, and its calls
pub record Store : Type 0 where
  pub taken : List ℕ
  pub room : ℕ
  pub calls : Calls

-- A sink refuses a piece where the call is to fail, or where the piece has no room.
abbrev pub refuses : Store → List ℕ → Bool
refuses s piece = fails_next s.calls || nat_lt s.room (length piece)
