-- Functions that have ended.
use Rattle.std.specs.Prelude.{◌≡◌, ℕ, Bool, true, List}
use Rattle.fk_print.specs.declared.entry.Entry.{Entry}
use Rattle.fk_spec.specs.Plan.{Plan}
use Rattle.fk_spec.specs.Function.{Absent, place_of}

-- a function has ended, and a history says that function n is no more in flight
pub record HasEnded (p : Plan) (n : ℕ) (h : List Entry) (ended : Bool) : Type 0 where
  pub is_so : ended ≡ true
  pub absent : place_of p n h ≡ Absent
