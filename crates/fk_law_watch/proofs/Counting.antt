-- What is counted of the lines of a history is at most one a line.
use Rattle.std.proofs.Common.{ℕ, suc, ◌≤◌, [], ◌∷◌, Option, arith, length}
use Rattle.fk_print.specs.declared.op.Op.{Op}
use Rattle.fk_spec.specs.Start.{Origin, Push, Start, count_push, count_sent, count_start, pushed_in, pushes_of, sends_of, sent_in, started_in, starts_of}
use Rattle.fk_spec.specs.Lanes.{note_count, notes_of}
use Rattle.fk_law_watch.specs.Counts.{NotesAreBounded, PushesAreBounded, SendsAreBounded, StartsAreBounded}

start_once : (o : Option Start) (n m : ℕ) → n ≤ m → count_start o n ≤ suc m
start_once o n m l = grind arith

push_once : (o : Option Push) (n m : ℕ) → n ≤ m → count_push o n ≤ suc m
push_once o n m l = grind arith

sent_once : (o : Option Origin) (n m : ℕ) → n ≤ m → count_sent o n ≤ suc m
sent_once o n m l = grind arith

note_once : (o : Op) (n m : ℕ) → n ≤ m → note_count o n ≤ suc m
note_once o n m l = grind arith

pub starts_are_bounded : StartsAreBounded
starts_are_bounded [] = omega arith
starts_are_bounded (e ∷ h) = start_once (started_in e.op) (starts_of h) (length h) (starts_are_bounded h)

pub pushes_are_bounded : PushesAreBounded
pushes_are_bounded [] = omega arith
pushes_are_bounded (e ∷ h) = push_once (pushed_in 0 e.op) (pushes_of h) (length h) (pushes_are_bounded h)

pub sends_are_bounded : SendsAreBounded
sends_are_bounded c [] = omega arith
sends_are_bounded c (e ∷ h) = sent_once (sent_in c h e.op) (sends_of c h) (length h) (sends_are_bounded c h)

pub notes_are_bounded : NotesAreBounded
notes_are_bounded [] = omega arith
notes_are_bounded (e ∷ h) = note_once e.op (notes_of h) (length h) (notes_are_bounded h)
