-- When a history leaves nothing to do.
use Rattle.std.specs.Prelude.{ℕ, suc, ◌==◌, ◌&&◌, Bool, true, List, [], ◌∷◌}
use Rattle.fk_print.specs.declared.entry.Entry.{Entry}
use Rattle.fk_spec.specs.Plan.{Ask, Plan, asks_in}
use Rattle.fk_spec.specs.Function.{in_flight}
use Rattle.fk_spec.specs.Client.{Client, client_of, is_none_sent, next_asked}
use Rattle.fk_queue.specs.Meaning.{waiting_in}
use Rattle.fk_stand.specs.Posts.{post_after}
use Rattle.fk_client.specs.Idle.{owes_none}
use Rattle.fk_client.specs.Meaning.{is_none_next}
use Rattle.fk_engine.specs.Drain.{is_none_listed}

-- whether a client that is to ask this has answered all its commands and owes no ping
abbrev pub is_done : {S : Type 0} → List Ask → Client S → Bool
is_done asks x = (is_none_sent x.sent && is_none_next (next_asked asks x)) && owes_none x.owed

-- whether each of so many clients is done; they are numbered from c on
abbrev pub are_done : Plan → List (List Ask) → ℕ → List Entry → Bool
are_done p [] c h = true
are_done p (x ∷ xs) c h = is_done (asks_in p c) (client_of p c h) && are_done p xs (suc c) h

-- No function is in flight, no message waits in any lane of the queues, and every client has answered all its commands
-- and owes no ping.
abbrev pub is_quiet : Plan → List Entry → Bool
is_quiet p h = is_none_listed (in_flight p h) && (waiting_in (post_after p h 0) == 0) && are_done p p.asks 1 h
