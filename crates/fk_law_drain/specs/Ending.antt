-- Each drain comes to its end.
use Rattle.std.specs.Prelude.{List}
use Rattle.fk_print.specs.declared.entry.Entry.{Entry}
use Rattle.fk_spec.specs.Plan.{Plan}
use Rattle.fk_spec.specs.Schedule.{Empties}
use Rattle.fk_spec.specs.Next.{IsHistory}
use Rattle.fk_law_reply.specs.Plans.{HasFittingVerbs}
use Rattle.fk_law_drain.specs.Draining.{IsOfDrain}

-- From each history of a drain the drain leads to one where it does nothing next.
abbrev pub DrainsEnd : Type 0
DrainsEnd = (p : Plan) (h : List Entry) → HasFittingVerbs p → IsHistory p h → IsOfDrain p h → (k : List Entry) × Empties p h k × IsHistory p k
