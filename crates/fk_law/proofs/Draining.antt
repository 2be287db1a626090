-- The events of a drain name clients.
use Rattle.std.proofs.Common.{◌≡◌, ℕ, suc, ◌+◌, ◌≤◌, ◌++◌, true, List, [], ◌∷◌, length, refl, subst, arith, Option, Some, None}
use Rattle.std.proofs.lemmas.Bool.{cond_both}
use Rattle.std.proofs.lemmas.Bool.Decides.{nat_tests}
use Rattle.fk_print.specs.declared.entry.Entry.{Entry}
use Rattle.fk_print.specs.declared.event.Event.{Event}
use Rattle.fk_print.specs.declared.event.Event.TheVariants as event
use Rattle.fk_spec.specs.Plan.{Plan, Ask, is_client}
use Rattle.fk_spec.specs.Start.{or_else}
use Rattle.fk_spec.specs.Lanes.{session_head, leader_head, watch_head}
use Rattle.fk_spec.specs.Function.{in_flight}
use Rattle.fk_spec.specs.Client.{client_op}
use Rattle.fk_spec.specs.Next.{names_client}
use Rattle.fk_spec.specs.Schedule.{crashes, is_idle, step_of_first, lead_where, tell_where, deliver_where, deliver_first, client_first, next_of_drain}
use Rattle.fk_law.specs.Sessions.{NameClients, DrainsBeginWithClients, DrainsNameClients}

crashes_name : (p : Plan) (ns : List ℕ) (m : ℕ) → NameClients p (crashes ns ++ event.Clock m ∷ [])
crashes_name p [] m = (refl, tt)
crashes_name p (n ∷ ns) m = (refl, crashes_name p ns m)

pub drains_begin_with_clients : DrainsBeginWithClients
drains_begin_with_clients p h = crashes_name p (in_flight p h) _

-- the event, where there is one, names a client
abbrev Names : Plan → Option Event → Type 0
Names p None = Unit {0}
Names p (Some v) = names_client p v ≡ true

either_names : (p : Plan) (o q : Option Event) → Names p o → Names p q → Names p (or_else o q)
either_names p None q i j = j
either_names p (Some v) q i j = i

step_names : (p : Plan) (ns : List ℕ) → Names p (step_of_first ns)
step_names p [] = tt
step_names p (n ∷ ns) = refl

lead_names : (p : Plan) (o : Option ℕ) → Names p (lead_where o)
lead_names p None = tt
lead_names p (Some t) = refl

tell_names : (p : Plan) (o : Option ℕ) → Names p (tell_where o)
tell_names p None = tt
tell_names p (Some w) = refl

deliver_names : (p : Plan) (c : ℕ) (o : Option ℕ) → is_client p c ≡ true → Names p (deliver_where c o)
deliver_names p c None i = tt
deliver_names p c (Some k) i = i

-- where these are the clients from c on, c is one
is_here : (p : Plan) (n c : ℕ) → 1 ≤ c → c + suc n ≡ length p.asks + 1 → is_client p c ≡ true
is_here p n c i e = grind (arith, nat_tests)

deliver_first_names : (p : Plan) (xs : List (List Ask)) (c : ℕ) (h : List Entry) → 1 ≤ c → c + length xs ≡ length p.asks + 1 → Names p (deliver_first xs c h)
deliver_first_names p [] c h i e = tt
deliver_first_names p (x ∷ xs) c h i e = either_names p (deliver_where c (session_head c h)) _ (deliver_names p c (session_head c h) (is_here p (length xs) c i e)) (deliver_first_names p xs (suc c) h (omega arith) (omega (arith, e)))

client_first_names : (p : Plan) (xs : List (List Ask)) (c : ℕ) (h : List Entry) → 1 ≤ c → c + length xs ≡ length p.asks + 1 → Names p (client_first p xs c h)
client_first_names p [] c h i e = tt
client_first_names p (x ∷ xs) c h i e = cond_both (is_idle (client_op p c h)) (client_first p xs (suc c) h) (Some (event.Client c)) (Names p) (λ _. client_first_names p xs (suc c) h (omega arith) (omega (arith, e))) (λ _. is_here p (length xs) c i e)

drain_names : (p : Plan) (h : List Entry) → Names p (next_of_drain p h)
drain_names p h =
    either_names p (step_of_first (in_flight p h)) _ (step_names p (in_flight p h))
    (either_names p (tell_where (watch_head h)) _ (tell_names p (watch_head h))
    (either_names p (lead_where (leader_head h)) _ (lead_names p (leader_head h))
    (either_names p (deliver_first p.asks 1 h) (client_first p p.asks 1 h) (deliver_first_names p p.asks 1 h (omega arith) (omega arith)) (client_first_names p p.asks 1 h (omega arith) (omega arith)))))

pub drains_name_clients : DrainsNameClients
drains_name_clients p h v e = subst (Names p) e (drain_names p h)
