-- How far a drain came that wanted memory.
use Rattle.std.specs.Prelude.{◌≡◌, List, ◌∷◌, ◌++◌, Some}
use Rattle.fk_print.specs.declared.entry.Entry.{Entry}
use Rattle.fk_print.specs.declared.event.Event.{Event}
use Rattle.fk_spec.specs.Plan.{Plan}
use Rattle.fk_spec.specs.Schedule.{Plays, drain_begin, next_of_drain}

-- The first of these events, in order, lead from h to k.
pub record PlaysSome (es : List Event) (h k : List Entry) : Type 0 where
  pub made : List Event
  pub left : List Event
  pub whole : made ++ left ≡ es
  pub plays : Plays made h k

-- Each entry behind h, up to k, is what a drain does next.
pub data GoesTo (p : Plan) (h : List Entry) : List Entry → Type 0 where
  Stays : GoesTo p h h
  Goes : (k : List Entry) (x : Entry) → GoesTo p h k → next_of_drain p k ≡ Some x.event → GoesTo p h (x ∷ k)

-- A drain leads from h to k, or a front of it does: it stopped while it began, or behind that.
pub data DrainsTo (p : Plan) (h k : List Entry) : Type 0 where
  Begins : PlaysSome (drain_begin p h) h k → DrainsTo p h k
  Empties : (b : List Entry) → Plays (drain_begin p h) h b → GoesTo p b k → DrainsTo p h k
