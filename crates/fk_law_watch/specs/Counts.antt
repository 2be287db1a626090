-- What is counted of the lines of a history: at most one a line.
use Rattle.std.specs.Prelude.{ℕ, ◌≤◌, List, length}
use Rattle.fk_print.specs.declared.entry.Entry.{Entry}
use Rattle.fk_spec.specs.Plan.{Plan}
use Rattle.fk_spec.specs.Start.{pushes_of, sends_of, starts_of}
use Rattle.fk_spec.specs.Lanes.{notes_of}
use Rattle.fk_spec.specs.Watches.{given_of}
use Rattle.fk_spec.specs.Next.{IsHistory}

-- No history has more starts than entries.
abbrev pub StartsAreBounded : Type 0
StartsAreBounded = (h : List Entry) → starts_of h ≤ length h

-- Nor more pushes.
abbrev pub PushesAreBounded : Type 0
PushesAreBounded = (h : List Entry) → pushes_of h ≤ length h

-- Nor more messages of a session's lane.
abbrev pub SendsAreBounded : Type 0
SendsAreBounded = (c : ℕ) (h : List Entry) → sends_of c h ≤ length h

-- Nor more notes.
abbrev pub NotesAreBounded : Type 0
NotesAreBounded = (h : List Entry) → notes_of h ≤ length h

-- Nor more numbers that were given to watches.
abbrev pub GivenAreBounded : Type 0
GivenAreBounded = (p : Plan) (h : List Entry) → IsHistory p h → given_of h ≤ length h
