-- A world that is quiet.
use Rattle.std.specs.Prelude.{◌==◌, ◌&&◌}
use Rattle.std.proofs.Common.{◌≡◌, ℕ, suc, Bool, true, false, List, [], ◌∷◌, length, refl, ◌∙◌, ap, arith}
use Rattle.std.proofs.lemmas.Bool.{eqb-true}
use Rattle.fk_print.specs.declared.entry.Entry.{Entry}
use Rattle.fk_script.specs.declared.deployment.Deployment.{Deployment}
use Rattle.fk_spec.specs.Plan.{Ask, Plan, asks_in, plan_of}
use Rattle.fk_spec.specs.Function.{in_flight}
use Rattle.fk_spec.specs.Client.{Client, client_of, next_asked}
use Rattle.fk_queue.proofs.Counting.{no_blocks_where_none_waits}
use Rattle.fk_queue.specs.Meaning.{blocks_in, waiting_in}
use Rattle.fk_queue.specs.Meaning as post
use Rattle.fk_stand.specs.Posts.{post_after}
use Rattle.fk_client.specs.Idle.{owes_none}
use Rattle.fk_client.specs.Knowing.{client_known}
use Rattle.fk_client.specs.Meaning as client
use Rattle.fk_client.specs.Meaning.{is_none_next}
use Rattle.fk_client.specs.declared.unanswered.Unanswered.{Unanswered}
use Rattle.fk_engine.specs.Drain as drain
use Rattle.fk_engine.specs.Drain.{is_none_listed}
use Rattle.fk_engine.specs.Engine as engine
use Rattle.fk_engine.specs.Flights.{AreInFlight}
use Rattle.fk_agree_client.specs.Standing.{IsClient}
use Rattle.fk_agree_engine.proofs.Asks.{AreFrom, all_clients, are_in_flight, first_of, rest_of}
use Rattle.fk_world.specs.Quiet.{are_done, is_done, is_quiet}
use Rattle.fk_world.specs.World.{IsSound}
use Rattle.fk_client.proofs.Same.{same_none}

done_known : (asks : List Ask) (x : Client Unanswered) → is_done asks x ≡ is_done asks (client_known x)
done_known asks x = ap (λ b. (b && is_none_next (next_asked asks x)) && owes_none x.owed) (same_none x.sent)

done_is : (p : Plan) (c : ℕ) (h : List Entry) (m : client.Meaning) → IsClient p c h m → drain.is_done m ≡ is_done (asks_in p c) (client_of p c h)
done_is p c h m s = ap drain.is_done s.is ∙ done_known (asks_in p c) s.client ∙ ap (is_done (asks_in p c)) s.holds.known

dones_are : (p : Plan) (h : List Entry) (ms : List client.Meaning) (xs : List (List Ask)) (c : ℕ) → AreFrom p c h ms → length ms ≡ length xs → drain.are_done ms ≡ are_done p xs c h
dones_are p h [] [] c f l = refl
dones_are p h [] (y ∷ ys) c f l = absurd (omega (arith, l))
dones_are p h (m ∷ ms) [] c f l = absurd (omega (arith, l))
dones_are p h (m ∷ ms) (y ∷ ys) c f l =
    ap (λ b. b && drain.are_done ms) (done_is p c h m (first_of p c h m ms f))
    ∙ ap (λ b. is_done (asks_in p c) (client_of p c h) && b) (dones_are p h ms ys (suc c) (rest_of p c h m ms f) (omega (arith, l)))

pub quiet_is : (d : Deployment) (m : engine.Meaning) (b : Bool) → IsSound d m → m.spent ≡ false → ((ns : List ℕ) → AreInFlight m.parts.functions ns → b ≡ drain.is_quiet ns m.parts) → b ≡ is_quiet (plan_of d) m.past
quiet_is d m b a s f =
    let p = plan_of d in
    let h = m.past in
    let w = a.stands s in
    f (in_flight p h) (are_in_flight p h m.parts w)
    ∙ ap (λ (q : post.Meaning). is_none_listed (in_flight p h) && (waiting_in q == 0) && drain.are_done m.parts.clients) w.services.post
    ∙ ap (λ z. is_none_listed (in_flight p h) && (waiting_in (post_after p h 0) == 0) && z) (dones_are p h m.parts.clients p.asks 1 (all_clients p h m.parts w) w.clients.count)

-- In a quiet world no message takes a block.
pub no_blocks_where_quiet : (p : Plan) (h : List Entry) → is_quiet p h ≡ true → blocks_in (post_after p h 0) ≡ 0
no_blocks_where_quiet p h q = no_blocks_where_none_waits (length p.asks) (post_after p h 0).lanes (eqb-true _ _ (second (is_none_listed (in_flight p h)) (waiting_in (post_after p h 0) == 0) (are_done p p.asks 1 h) q))
  where
    second : (a b c : Bool) → (a && b && c) ≡ true → b ≡ true
    second a b c e = grind (arith, e)
