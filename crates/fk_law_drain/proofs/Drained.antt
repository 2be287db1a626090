-- Where a drain does nothing next, all is answered.
use Rattle.std.specs.Prelude.{◌==◌, ◌&&◌, ◌||◌, if◌then◌else◌, nat_lt}
use Rattle.std.proofs.Common.{◌≡◌, ℕ, zero, suc, ◌+◌, ◌≤◌, ◌⊎◌, inl, inr, Bool, true, false, List, [], ◌∷◌, length, refl, sym, ◌∙◌, ap, subst, arith, Option, Some, None}
use Rattle.std.proofs.lemmas.Bool.{false≢true, cond_both}
use Rattle.std.proofs.lemmas.Bool.Decides.{nat_tests}
use Rattle.std.proofs.lemmas.Option.{same_Some, none-some}
use Rattle.fk_tree.specs.Ask.{path_asked}
use Rattle.fk_tree.specs.Watch.{kind_asked}
use Rattle.fk_tree.specs.declared.request.Query.{Query}
use Rattle.fk_print.specs.declared.entry.Entry.{Entry}
use Rattle.fk_print.specs.declared.event.Event.{Event}
use Rattle.fk_print.specs.declared.event.Event.TheVariants as event
use Rattle.fk_print.specs.declared.op.Op.{Op}
use Rattle.fk_print.specs.declared.op.Op.TheVariants as op
use Rattle.fk_script.specs.declared.deployment.Turn.{Turn}
use Rattle.fk_spec.specs.Plan.{Plan, Ask, Want, Unfit, Writes, Reads, asked, asks_in, item_after, nth, or_empty, plan_of}
use Rattle.fk_spec.specs.Shown.{seen_by}
use Rattle.fk_spec.specs.Start.{or_else, pushes_of, sends_of}
use Rattle.fk_spec.specs.Settling.{Committed, Refused, Passed}
use Rattle.fk_spec.specs.Lanes.{Message, Done, Evicted, Kept, Watch, Ping, follows_session, head_among, inbox_of, leader_head, leads, removed_by, session_head, watch_head}
use Rattle.fk_spec.specs.Sight.{Sight, first_message, sight_of}
use Rattle.fk_spec.specs.Client.{begin_asked, begin_op, by_result, client_of, client_op, first_held, held_op, is_open, is_ready, is_write, look_op, look_or, may_begin, next_asked, number_looked_for, number_read, pong_or, register_asked, register_for, register_op, take_op, take_or, target_of, target_sent, target_with, watch_or, without_ready, Client, Expired, Open, Plain, Reading, Result, Sent, Settled, Target}
use Rattle.fk_spec.specs.Function.{in_flight}
use Rattle.fk_spec.specs.Schedule.{client_first, deliver_first, deliver_where, is_answered, is_idle, lead_where, next_of_drain, step_of_first, tell_where, ClientAnswered, ClientsAnswered, CommandsAnswered, Emptied, Empties, Goes, TakesTurns}
use Rattle.fk_spec.specs.Next.{IsHistory}
use Rattle.fk_law.proofs.Leading.{done_is_removed_or_one_more}
use Rattle.fk_law.proofs.Outcomes.{applied_is_committed}
use Rattle.fk_law.proofs.Pushing.{push_bound}
use Rattle.fk_law_client.specs.Lines.{IsAmong, kept_after}
use Rattle.fk_law_client.proofs.Kept.{client_after}
use Rattle.fk_law_reply.specs.Plans.{HasFittingVerbs}
use Rattle.fk_law_reply.specs.Reads.{IsMadeRead}
use Rattle.fk_law_reply.proofs.Finding.{reads_show_the_tree}
use Rattle.fk_law_reply.proofs.Plans.{deployments_have_fitting_verbs}
use Rattle.fk_law_drain.specs.Answering.{keeps_command}
use Rattle.fk_law_drain.specs.Delivering.{awaits_outcome, is_outcome_told, IsReplied, IsUnderWay}
use Rattle.fk_law_drain.specs.Drained.{DrainedIsAnswered, DrainedDeploymentIsAnswered, ScheduledIsAnswered}
use Rattle.fk_law_drain.proofs.Answering.{begun_are_answered_or_kept}
use Rattle.fk_law_drain.proofs.Awaiting.{open_are_given}
use Rattle.fk_law_drain.proofs.Delivering.{removed_message_is_replied_or_committed}
use Rattle.fk_base.proofs.Logic.{itself}

-- What an idle client has. -----------------------------------------------------------------------------

pong_idle : (c : ℕ) (owed : List ℕ) (o : Op) → is_idle (pong_or c owed o) ≡ true → (owed ≡ []) × (is_idle o ≡ true)
pong_idle c [] o e = (refl, e)
pong_idle c (x ∷ xs) o e = absurd (false≢true e)

takes_something : (c : ℕ) (m : Message) → is_idle (take_op c m) ≡ true → ⊥
takes_something c (Done k t) e = false≢true e
takes_something c (Evicted k t) e = false≢true e
takes_something c (Kept k (Passed loss)) e = false≢true e
takes_something c (Kept k (Committed t)) e = false≢true e
takes_something c (Kept k (Refused cd place at)) e = false≢true e
takes_something c (Watch w) e = false≢true e
takes_something c (Ping n) e = false≢true e

take_idle : (c : ℕ) (m : Option Message) (o : Op) → is_idle (take_or c m o) ≡ true → (m ≡ None) × (is_idle o ≡ true)
take_idle c None o e = (refl, e)
take_idle c (Some m) o e = absurd (takes_something c m e)

looks : (s : Sight) (held : List ℕ) (t : Target) → is_idle (look_op s held t) ≡ true → ⊥
looks s held t e =
    cond_both (nat_lt s.mark t.number) (op.LookBehind s.session t.command s.mark) (held_op s.session t.command s.mark (first_held s.epoch held)) (λ z. is_idle z ≡ true → ⊥)
    (λ _ f. false≢true f) (λ _. by_held (first_held s.epoch held)) e
  where
    by_held : (o : Option ℕ) → is_idle (held_op s.session t.command s.mark o) ≡ true → ⊥
    by_held None f = false≢true f
    by_held (Some id) f = false≢true f

look_idle : (s : Sight) (held : List ℕ) (t : Option Target) (o : Op) → is_idle (look_or s held t o) ≡ true → (t ≡ None) × (is_idle o ≡ true)
look_idle s held None o e = (refl, e)
look_idle s held (Some t) o e = absurd (looks s held t e)

registers_something : (s : Sight) (i n : ℕ) (q : Query) → is_idle (register_op s i n (path_asked q) (kind_asked q)) ≡ true → ⊥
registers_something s i n q e =
    cond_both (nat_lt n (s.sweep (path_asked q))) (op.WatchSwept s.session i (s.sweep (path_asked q))) (op.WatchSet s.session i (s.watch (path_asked q) (kind_asked q))) (λ z. is_idle z ≡ true → ⊥)
    (λ _ f. false≢true f) (λ _ f. false≢true f) e

want_registers : (s : Sight) (i n : ℕ) (w : Want) (q : Query) (b : Bool) → w ≡ Reads q b → is_idle (register_for s i n w) ≡ true → ⊥
want_registers s i n w q b f e = registers_something s i n q (subst (λ z. is_idle (register_for s i n z) ≡ true) f e)

asked_registers : (s : Sight) (i n : ℕ) (o : Option Ask) (a : Ask) (q : Query) (b : Bool) → o ≡ Some a → a.want ≡ Reads q b → is_idle (register_asked s i n o) ≡ true → ⊥
asked_registers s i n None a q b f g e = absurd (none-some a f)
asked_registers s i n (Some x) a q b f g e = want_registers s i n x.want q b (ap (λ z. z.want) (same_Some x a f) ∙ g) e

watch_idle : (p : Plan) (c : ℕ) (h : List Entry) (o : Op) (r : Option Reading) → ((x : Reading) → r ≡ Some x → IsMadeRead p c h (seen_by c h) (client_of p c h).begun x) → is_idle (watch_or (sight_of p c h) (client_of p c h) r o) ≡ true → (r ≡ None) × (is_idle o ≡ true)
watch_idle p c h o None f e = (refl, e)
watch_idle p c h o (Some r) f e = let m = f r refl in absurd (asked_registers (sight_of p c h) ((client_of p c h).begun + 1) (number_read (seen_by c h) r) (asked p c ((client_of p c h).begun + 1)) m.ask m.query m.watch m.is_asked m.reads e)

begins_something : (s : Sight) (i : ℕ) (closed : Bool) (w : Want) → is_idle (begin_op s i closed w) ≡ true → ⊥
begins_something s i closed Unfit e = false≢true e
begins_something s i true (Writes r) e = false≢true e
begins_something s i false (Writes r) e = false≢true e
begins_something s i true (Reads q b) e = false≢true e
begins_something s i false (Reads q b) e = false≢true e

-- a client that keeps no command has begun all
begin_idle : (s : Sight) (x : Client Sent) (o : Option Ask) → x.sent ≡ [] → is_idle (begin_asked by_result s x o) ≡ true → o ≡ None
begin_idle s x None e f = refl
begin_idle s x (Some a) e f = absurd (begins_something s (x.begun + 1) x.closed a.want (subst (λ z. is_idle (if z then begin_op s (x.begun + 1) x.closed a.want else op.Idle) ≡ true) (ap (may_begin by_result s.asks a) e ∙ allowed (is_write a.verb)) f))
  where
    allowed : (b : Bool) → (if b then true else true) ≡ true
    allowed true = refl
    allowed false = refl

no_message : (ms : List Message) → first_message ms ≡ None → ms ≡ []
no_message [] e = refl
no_message (m ∷ ms) e = absurd (none-some m (sym e))

-- What an idle client keeps. ---------------------------------------------------------------------------

-- the first of these isn't ready
abbrev IsFirstUnready : List Sent → Type 0
IsFirstUnready [] = Unit {0}
IsFirstUnready (s ∷ ss) = is_ready s.result ≡ false

unready_first : (ss : List Sent) → IsFirstUnready (without_ready by_result ss)
unready_first [] = tt
unready_first (s ∷ ss) = cond_both (is_ready s.result) (without_ready by_result ss) (s ∷ ss) IsFirstUnready (λ _. unready_first ss) (λ e. e)

first_is_unready : (p : Plan) (c : ℕ) (h : List Entry) → IsFirstUnready (client_of p c h).sent
first_is_unready p c [] = tt
first_is_unready p c (e ∷ h) = client_after p c e h (λ x. IsFirstUnready x.sent) (first_is_unready p c h) (λ _. unready_first (kept_after p c h e.op))

-- what is neither ready nor looked for is open
is_unknown : (r : Result) → is_ready r ≡ false → number_looked_for r ≡ None → is_open r ≡ true
is_unknown Open e f = refl
is_unknown (Plain cd) e f = absurd (false≢true (sym e))
is_unknown (Expired at) e f = absurd (false≢true (sym e))
is_unknown (Settled (Passed loss)) e f = absurd (false≢true (sym e))
is_unknown (Settled (Committed t)) e f = absurd (none-some t (sym f))
is_unknown (Settled (Refused cd place at)) e f = absurd (none-some at (sym f))

not_sought : (i : ℕ) (o : Option ℕ) → target_with i o ≡ None → o ≡ None
not_sought i None e = refl
not_sought i (Some n) e = absurd (none-some (record { command = i; number = n }) (sym e))

pub empty_head : (given removed : ℕ) → head_among given removed ≡ None → given ≤ removed
empty_head given removed e = grind (arith, nat_tests)

-- where its lane, its inbox and the leader lane are empty, no command that a client sent is open
open_is_answered : (p : Plan) (c : ℕ) (h : List Entry) (s : Sent) (ss : List Sent) → HasFittingVerbs p → IsHistory p h → session_head c h ≡ None → leader_head h ≡ None → inbox_of p c h ≡ [] → (client_of p c h).sent ≡ s ∷ ss → is_open s.result ≡ true → ⊥
open_is_answered p c h s ss v l a b i e f = by_reply (removed_message_is_replied_or_committed p c s.k h v l g.0 (let x = g.1 in let y = empty_head (sends_of c h) (removed_by (follows_session c) h) a in omega (arith, x, y)))
  where
    g : (1 ≤ s.k) × (s.k ≤ sends_of c h)
    g = open_are_given p c h l s (subst (λ z. IsAmong s z) (sym e) (inl refl)) f

    waits : awaits_outcome s.k (client_of p c h).sent ≡ true
    waits = ap (awaits_outcome s.k) e ∙ first (itself s.k) f (awaits_outcome s.k ss)
      where
        first : (s.k == s.k) ≡ true → is_open s.result ≡ true → (d : Bool) → (((s.k == s.k) && is_open s.result) || d) ≡ true
        first x y d = rw (x, y) refl

    by_reply : IsReplied p c s.k h ⊎ IsUnderWay c s.k h → ⊥
    by_reply (inl r) = false≢true (subst (λ z. is_outcome_told s.k z ≡ true) i (r waits))
    by_reply (inr u) =
        let x = applied_is_committed p c s.k u.tx h l u.outcome in
        let y = push_bound p u.tx h x.2.push l x.2.pushed in
        let n = (done_is_removed_or_one_more p h l).0 in
        let m = empty_head (pushes_of h) (removed_by leads h) b in
        let k = y.1 in
        let t = u.undone in
        omega (arith, n, m, k, t)

keeps_none : (p : Plan) (c : ℕ) (h : List Entry) (ss : List Sent) → HasFittingVerbs p → IsHistory p h → session_head c h ≡ None → leader_head h ≡ None → inbox_of p c h ≡ [] → (client_of p c h).sent ≡ ss → target_sent by_result ss ≡ None → ss ≡ []
keeps_none p c h [] v l a b i e f = refl
keeps_none p c h (s ∷ ss) v l a b i e f = absurd (open_is_answered p c h s ss v l a b i e (is_unknown s.result (subst IsFirstUnready e (first_is_unready p c h)) (not_sought s.command (number_looked_for s.result) f)))

-- Clients. ---------------------------------------------------------------------------------------------

record IsFinished (p : Plan) (c : ℕ) (h : List Entry) : Type 0 where
  pub pings : (client_of p c h).owed ≡ []
  pub inbox : inbox_of p c h ≡ []
  pub kept : (client_of p c h).sent ≡ []
  pub all_begun : asked p c ((client_of p c h).begun + 1) ≡ None

idle_is_finished : (p : Plan) (c : ℕ) (h : List Entry) → HasFittingVerbs p → IsHistory p h → session_head c h ≡ None → leader_head h ≡ None → is_idle (client_op p c h) ≡ true → IsFinished p c h
idle_is_finished p c h v l a b e = record { pings = pinged.0; inbox = inbox; kept = kept; all_begun = begin_idle s x (next_asked s.asks x) kept read.1 }
  where
    s : Sight
    s = sight_of p c h

    x : Client Sent
    x = client_of p c h

    pinged : (x.owed ≡ []) × (is_idle (take_or s.session s.head (look_or s x.held (target_of by_result s.seen x x.reading) (watch_or s x x.reading (begin_asked by_result s x (next_asked s.asks x))))) ≡ true)
    pinged = pong_idle s.session x.owed _ e

    taken : (s.head ≡ None) × (is_idle (look_or s x.held (target_of by_result s.seen x x.reading) (watch_or s x x.reading (begin_asked by_result s x (next_asked s.asks x)))) ≡ true)
    taken = take_idle s.session s.head _ pinged.1

    looked : (target_of by_result s.seen x x.reading ≡ None) × (is_idle (watch_or s x x.reading (begin_asked by_result s x (next_asked s.asks x))) ≡ true)
    looked = look_idle s x.held (target_of by_result s.seen x x.reading) _ taken.1

    read : (x.reading ≡ None) × (is_idle (begin_asked by_result s x (next_asked s.asks x)) ≡ true)
    read = watch_idle p c h _ x.reading (λ r f. reads_show_the_tree p c h r v.reads l f) looked.1

    inbox : inbox_of p c h ≡ []
    inbox = no_message (inbox_of p c h) taken.0

    kept : x.sent ≡ []
    kept = keeps_none p c h x.sent v l a b inbox refl (subst (λ z. target_of by_result s.seen x z ≡ None) read.0 looked.0)

begun_all : (xs : List Ask) (n : ℕ) → item_after xs n ≡ None → length xs ≤ n
begun_all [] n e = omega arith
begun_all (x ∷ xs) zero e = absurd (none-some x (sym e))
begun_all (x ∷ xs) (suc n) e = let a = begun_all xs n e in omega (arith, a)

begun_all_of : (xs : List Ask) (n : ℕ) → nth xs (n + 1) ≡ None → length xs ≤ n
begun_all_of xs n e = begun_all xs n (subst (λ z. nth xs z ≡ None) one_more e)
  where
    one_more : n + 1 ≡ suc n
    one_more = omega arith

commands_answered : (c : ℕ) (h : List Entry) (xs : List Ask) (n m : ℕ) → n + length xs ≤ m → ((i : ℕ) → 1 ≤ i → i ≤ m → is_answered c i h ≡ true) → CommandsAnswered c xs (suc n) h
commands_answered c h [] n m a f = tt
commands_answered c h (x ∷ xs) n m a f = (f (suc n) (omega arith) (omega (arith, a)), commands_answered c h xs (suc n) m (omega (arith, a)) f)

finished_answered : (p : Plan) (c : ℕ) (h : List Entry) (xs : List Ask) → IsHistory p h → session_head c h ≡ None → asks_in p c ≡ xs → IsFinished p c h → ClientAnswered p c xs h
finished_answered p c h xs l a e x = record { commands = commands_answered c h xs 0 (client_of p c h).begun all answered; lane = a; inbox = x.inbox; pings = x.pings }
  where
    all : 0 + length xs ≤ (client_of p c h).begun
    all = let b = begun_all_of xs (client_of p c h).begun (subst (λ z. nth z ((client_of p c h).begun + 1) ≡ None) e x.all_begun) in omega (arith, b)

    or_none : (b : Bool) → (b || false) ≡ true → b ≡ true
    or_none true f = refl
    or_none false f = f

    answered : (i : ℕ) → 1 ≤ i → i ≤ (client_of p c h).begun → is_answered c i h ≡ true
    answered i f g = or_none (is_answered c i h) (subst (λ z. (is_answered c i h || keeps_command i z) ≡ true) x.kept (begun_are_answered_or_kept p c i h l f g))

-- Drains. ----------------------------------------------------------------------------------------------

neither : {A : Type 0} → (o q : Option A) → or_else o q ≡ None → (o ≡ None) × (q ≡ None)
neither None q e = (refl, e)
neither (Some x) q e = absurd (none-some x (sym e))

pub no_step : (ns : List ℕ) → step_of_first ns ≡ None → ns ≡ []
no_step [] e = refl
no_step (n ∷ ns) e = absurd (none-some (event.Step n) (sym e))

pub no_note : (o : Option ℕ) → tell_where o ≡ None → o ≡ None
no_note None e = refl
no_note (Some w) e = absurd (none-some event.Watch (sym e))

pub no_push : (o : Option ℕ) → lead_where o ≡ None → o ≡ None
no_push None e = refl
no_push (Some t) e = absurd (none-some event.Leader (sym e))

no_request : (c : ℕ) (o : Option ℕ) → deliver_where c o ≡ None → o ≡ None
no_request c None e = refl
no_request c (Some k) e = absurd (none-some (event.Deliver c) (sym e))

no_turn : (c : ℕ) (b : Bool) (q : Option Event) → (if b then q else Some (event.Client c)) ≡ None → (b ≡ true) × (q ≡ None)
no_turn c true q e = (refl, e)
no_turn c false q e = absurd (none-some (event.Client c) (sym e))

-- these are the plan's clients beyond the first n
clients_answered : (p : Plan) (h : List Entry) (xs : List (List Ask)) (n : ℕ) → HasFittingVerbs p → IsHistory p h → leader_head h ≡ None → ((m : ℕ) → item_after xs m ≡ item_after p.asks (n + m)) → deliver_first xs (suc n) h ≡ None → client_first p xs (suc n) h ≡ None → ClientsAnswered p xs (suc n) h
clients_answered p h [] n v l b k d t = tt
clients_answered p h (x ∷ xs) n v l b k d t =
    (finished_answered p (suc n) h x l lane its_asks (idle_is_finished p (suc n) h v l lane b turn.0), clients_answered p h xs (suc n) v l b rest requests.1 turn.1)
  where
    requests : (deliver_where (suc n) (session_head (suc n) h) ≡ None) × (deliver_first xs (suc (suc n)) h ≡ None)
    requests = neither (deliver_where (suc n) (session_head (suc n) h)) (deliver_first xs (suc (suc n)) h) d

    lane : session_head (suc n) h ≡ None
    lane = no_request (suc n) (session_head (suc n) h) requests.0

    turn : (is_idle (client_op p (suc n) h) ≡ true) × (client_first p xs (suc (suc n)) h ≡ None)
    turn = no_turn (suc n) (is_idle (client_op p (suc n) h)) (client_first p xs (suc (suc n)) h) t

    first : n + 0 ≡ n
    first = omega arith

    its_asks : asks_in p (suc n) ≡ x
    its_asks = ap or_empty (sym (k 0 ∙ ap (item_after p.asks) first))

    rest : (m : ℕ) → item_after xs m ≡ item_after p.asks (suc n + m)
    rest m = k (suc m) ∙ ap (item_after p.asks) further
      where
        further : n + suc m ≡ suc n + m
        further = omega arith

pub drained_is_answered : DrainedIsAnswered
drained_is_answered p h v l e = record { clients = clients_answered p h p.asks 0 v l leader (λ m. ap (item_after p.asks) (none_before m)) sessions.0 sessions.1; leader = leader; watch = no_note (watch_head h) notes.0; functions = no_step (in_flight p h) steps.0 }
  where
    none_before : (m : ℕ) → m ≡ 0 + m
    none_before m = omega arith

    steps : (step_of_first (in_flight p h) ≡ None) × (or_else (tell_where (watch_head h)) (or_else (lead_where (leader_head h)) (or_else (deliver_first p.asks 1 h) (client_first p p.asks 1 h))) ≡ None)
    steps = neither (step_of_first (in_flight p h)) _ e

    notes : (tell_where (watch_head h) ≡ None) × (or_else (lead_where (leader_head h)) (or_else (deliver_first p.asks 1 h) (client_first p p.asks 1 h)) ≡ None)
    notes = neither (tell_where (watch_head h)) _ steps.1

    pushes : (lead_where (leader_head h) ≡ None) × (or_else (deliver_first p.asks 1 h) (client_first p p.asks 1 h) ≡ None)
    pushes = neither (lead_where (leader_head h)) _ notes.1

    leader : leader_head h ≡ None
    leader = no_push (leader_head h) pushes.0

    sessions : (deliver_first p.asks 1 h ≡ None) × (client_first p p.asks 1 h ≡ None)
    sessions = neither (deliver_first p.asks 1 h) (client_first p p.asks 1 h) pushes.1

pub drained_deployment_is_answered : DrainedDeploymentIsAnswered
drained_deployment_is_answered d h l e = drained_is_answered (plan_of d) h (deployments_have_fitting_verbs d) l e

-- Schedules. -------------------------------------------------------------------------------------------

pub emptied : (p : Plan) (h k : List Entry) → Empties p h k → next_of_drain p k ≡ None
emptied p h _ (Emptied _ e) = e
emptied p h k (Goes _ _ x e r) = emptied p (x ∷ h) k r

turns_end : (p : Plan) (ts : List Turn) (h k : List Entry) → TakesTurns p ts h k → next_of_drain p k ≡ None
turns_end p [] h k r = emptied p r.begun k r.empties
turns_end p (t ∷ ts) h k r = turns_end p ts r.0 k r.2

pub scheduled_is_answered : ScheduledIsAnswered
scheduled_is_answered d h l s = drained_deployment_is_answered d h l (turns_end (plan_of d) d.turns [] h s)
