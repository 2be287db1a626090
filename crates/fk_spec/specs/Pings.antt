-- The heartbeat's pings and the clients' answers.
use Rattle.std.specs.Prelude.{ℕ, ◌==◌, if◌then◌else◌, List, [], ◌∷◌, max}
use Rattle.fk_print.specs.declared.entry.Entry.{Entry}
use Rattle.fk_print.specs.declared.op.Op.{Op}
use Rattle.fk_print.specs.declared.op.Op.TheVariants as op
use Rattle.fk_spec.specs.Start.{clock_of, probes_session, task_of}

-- a noted ping: its number, which is its heartbeat's, and its moment
pub record Noted : Type 0 where
  pub ping : ℕ
  pub moment : ℕ

abbrev pub noted_in : ℕ → List Entry → Op → Noted → Noted
noted_in c h (op.NoteOk function) x = if probes_session c (task_of function h) then record { ping = function; moment = clock_of h } else x
noted_in c h _ x = x

-- the last noted ping of session c
abbrev pub noted_of : ℕ → List Entry → Noted
noted_of c [] = record { ping = 0; moment = 0 }
noted_of c (e ∷ h) = noted_in c h e.op (noted_of c h)

abbrev pub pong_in : ℕ → Op → ℕ → ℕ
pong_in c (op.Pong session ping) n = if session == c then max ping n else n
pong_in c _ n = n

-- the greatest ping that client c answered
abbrev pub pong_of : ℕ → List Entry → ℕ
pong_of c [] = 0
pong_of c (e ∷ h) = pong_in c e.op (pong_of c h)
