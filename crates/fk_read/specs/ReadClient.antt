-- What the words of a client's operation say, behind its name.
use Rattle.std.specs.Prelude.{ℕ, if◌then◌else◌, List, codes, Option, Some}
use Rattle.std.specs.Str.{bytes_eq}
use Rattle.fk_print.specs.Words.{Text}
use Rattle.fk_print.specs.declared.op.Op.{Op}
use Rattle.fk_print.specs.declared.op.Op.TheVariants as op
use Rattle.fk_read.specs.Reads.{option_or_else, take, then_read, then_word}
use Rattle.fk_read.specs.ReadWords.{number_of, small_of}

abbrev pub take_op : ℕ → List Text → Option Op
take_op c words = then_word words λ word rest. then_read (take number_of rest) λ k rest.
    if bytes_eq word (codes "done") then (then_read (take number_of rest) λ t rest. Some (op.TakeDone c k t))
    else if bytes_eq word (codes "evicted") then (then_read (take number_of rest) λ t rest. Some (op.TakeEvicted c k t))
    else if bytes_eq word (codes "refused") then Some (op.TakeRefused c k)
    else if bytes_eq word (codes "lost") then Some (op.TakeLost c k)
    else if bytes_eq word (codes "watch") then Some (op.TakeWatch c k)
    else Some (op.TakePing c k)

abbrev pub look_op : ℕ → List Text → Option Op
look_op c words = then_read (take small_of words) λ i rest. then_read (take number_of rest) λ m rest. then_word rest λ word rest.
    if bytes_eq word (codes "ok") then Some (op.LookOk c i m)
    else if bytes_eq word (codes "behind") then Some (op.LookBehind c i m)
    else (then_read (take number_of rest) λ id rest. Some (op.LookHeld c i m id))

abbrev pub watch_op : ℕ → List Text → Option Op
watch_op c words = then_read (take small_of words) λ i rest. then_word rest λ word rest.
    option_or_else (number_of word) (λ id. Some (op.WatchSet c i id)) (then_read (take number_of rest) λ t rest. Some (op.WatchSwept c i t))

abbrev pub client_fault : ℕ → List Text → Option Op
client_fault c words = then_word words λ word rest.
    if bytes_eq word (codes "pong") then Some (op.PongFault c)
    else if bytes_eq word (codes "take") then Some (op.TakeFault c)
    else (then_read (take small_of rest) λ i rest.
    if bytes_eq word (codes "look") then Some (op.LookFault c i)
    else if bytes_eq word (codes "send") then Some (op.SendFault c i)
    else if bytes_eq word (codes "read") then Some (op.ReadFault c i)
    else Some (op.WatchFault c i))

-- behind its first word
abbrev pub client_op : ℕ → Text → List Text → Option Op
client_op c word words =
    if bytes_eq word (codes "pong") then (then_read (take number_of words) λ p rest. Some (op.Pong c p))
    else if bytes_eq word (codes "take") then take_op c words
    else if bytes_eq word (codes "look") then look_op c words
    else if bytes_eq word (codes "send") then (then_read (take small_of words) λ i rest. then_read (take number_of rest) λ k rest. Some (op.Send c i k))
    else if bytes_eq word (codes "read") then (then_read (take small_of words) λ i rest. then_read (take number_of rest) λ s rest. Some (op.Read c i s))
    else if bytes_eq word (codes "watch") then watch_op c words
    else if bytes_eq word (codes "local") then (then_read (take small_of words) λ i rest. Some (op.Local c i))
    else client_fault c words
