-- What an operation of a client says of the entries before it: the only place where the rule of a client's next
-- operation is opened.
use Rattle.std.specs.Prelude.{nat_lt, if◌then◌else◌}
use Rattle.std.proofs.Common.{◌≡◌, ℕ, ◌+◌, ◌<◌, ◌≤◌, inl, inr, Bool, true, false, List, [], ◌∷◌, refl, sym, ◌∙◌, ap, subst, arith, Option, Some, None}
use Rattle.std.proofs.lemmas.Bool.{cond_both, ltb-false}
use Rattle.std.proofs.lemmas.Bool.Decides.{nat_tests}
use Rattle.std.proofs.lemmas.Option.{none-some}
use Rattle.fk_tree.specs.Ask.{path_asked}
use Rattle.fk_tree.specs.Watch.{kind_asked}
use Rattle.fk_print.specs.declared.entry.Entry.{Entry}
use Rattle.fk_print.specs.declared.op.Op.{Op}
use Rattle.fk_print.specs.declared.op.Op.TheVariants as op
use Rattle.fk_spec.specs.Plan.{Plan, Ask, Want, Unfit, Writes, Reads, asked, asks_in}
use Rattle.fk_spec.specs.Shown.{seen_by}
use Rattle.fk_spec.specs.Start.{request_in, sends_of, written}
use Rattle.fk_spec.specs.Settling.{Committed, Refused, Passed, mark_of}
use Rattle.fk_spec.specs.Stored.{stamp_of}
use Rattle.fk_spec.specs.Watches.{last_sweep}
use Rattle.fk_spec.specs.Lanes.{inbox_of, Message, Done, Evicted, Kept, Watch, Ping}
use Rattle.fk_spec.specs.Sight.{first_message, watch_number, sight_of}
use Rattle.fk_spec.specs.Client.{by_result, number_read, target_sent, target_of, pong_or, take_op, take_or, held_op, look_op, look_or, register_for, register_asked, watch_or, may_begin, local_if, begin_op, begin_asked, failed_op, client_in, client_of, client_op, Reading, Target}
use Rattle.fk_spec.specs.Schedule.{is_idle}
use Rattle.fk_law.specs.Due.{IsDue}
use Rattle.fk_law.specs.Operations.{target_by, held_in_epoch, HasNoMessage, LooksFor, WaitsToRegister, Begins, IsTurnOf}

abbrev Turns : Plan → ℕ → List Entry → Op → Type 0
Turns p c h o = IsDue p h o × IsTurnOf c o

below : (a b : ℕ) → nat_lt a b ≡ true → a < b
below a b e = grind (arith, nat_tests)

-- Looks. -----------------------------------------------------------------------------------------------

held_turns : (p : Plan) (c i : ℕ) (h : List Entry) (f : LooksFor p c i h) (o : Option ℕ) → f.number ≤ mark_of h → held_in_epoch p c h ≡ o → Turns p c h (held_op c i (mark_of h) o)
held_turns p c i h f None b e = ((f, refl, b, e), refl)
held_turns p c i h f (Some id) b e = ((f, refl, b, e), refl)

look_turns : (p : Plan) (c : ℕ) (h : List Entry) (t : Target) → target_by p c h ≡ Some t → HasNoMessage p c h → Turns p c h (look_op (sight_of p c h) (client_of p c h).held t)
look_turns p c h t q m =
    cond_both (nat_lt (mark_of h) t.number) (op.LookBehind c t.command (mark_of h)) (held_op c t.command (mark_of h) (held_in_epoch p c h)) (Turns p c h)
    (λ e. ((looks, refl, below (mark_of h) t.number e), refl))
    (λ e. held_turns p c t.command h looks (held_in_epoch p c h) (ltb-false (mark_of h) t.number e) refl)
  where
    looks : LooksFor p c t.command h
    looks = record { number = t.number; target = q; first = m }

target_turns : (p : Plan) (c : ℕ) (h : List Entry) (t : Option Target) (o : Op) → target_by p c h ≡ t → HasNoMessage p c h → (target_by p c h ≡ None → Turns p c h o) → Turns p c h (look_or (sight_of p c h) (client_of p c h).held t o)
target_turns p c h None o q m d = d q
target_turns p c h (Some t) o q m d = look_turns p c h t q m

-- Registrations. ---------------------------------------------------------------------------------------

-- a read for which nothing is looked for was looked at
read_looked : (p : Plan) (c : ℕ) (h : List Entry) (r : Reading) → target_of by_result (seen_by c h) (client_of p c h) (Some r) ≡ None → r.looked ≡ true
read_looked p c h r q = by_flag r.looked refl q
  where
    by_flag : (b : Bool) → r.looked ≡ b → (if b then target_sent by_result (client_of p c h).sent else Some (record { command = (client_of p c h).begun + 1; number = number_read (seen_by c h) r })) ≡ None → r.looked ≡ true
    by_flag true e v = e
    by_flag false e v = absurd (none-some (record { command = (client_of p c h).begun + 1; number = number_read (seen_by c h) r }) (sym v))

register_turns : (p : Plan) (c i n : ℕ) (h : List Entry) (w : WaitsToRegister p c i h) → n ≡ number_read (seen_by c h) w.reading → Turns p c h (register_for (sight_of p c h) i n (Reads w.query w.watch))
register_turns p c i n h w q =
    cond_both (nat_lt n (last_sweep p (path_asked w.query) h)) (op.WatchSwept c i (last_sweep p (path_asked w.query) h)) (op.WatchSet c i (watch_number p c h (path_asked w.query) (kind_asked w.query))) (Turns p c h)
    (λ e. ((w, subst (λ z. z < last_sweep p (path_asked w.query) h) q (below n (last_sweep p (path_asked w.query) h) e), refl), refl))
    (λ e. ((w, subst (λ z. last_sweep p (path_asked w.query) h ≤ z) q (ltb-false n (last_sweep p (path_asked w.query) h) e), refl), refl))

wait_turns : (p : Plan) (c : ℕ) (h : List Entry) (r : Reading) (a : Option Ask) → asked p c ((client_of p c h).begun + 1) ≡ a → (client_of p c h).reading ≡ Some r → target_by p c h ≡ None → HasNoMessage p c h → Turns p c h (register_asked (sight_of p c h) ((client_of p c h).begun + 1) (number_read (seen_by c h) r) a)
wait_turns p c h r None e f t m = (tt, tt)
wait_turns p c h r (Some a) e f t m = by_want a.want refl
  where
    by_want : (w : Want) → a.want ≡ w → Turns p c h (register_for (sight_of p c h) ((client_of p c h).begun + 1) (number_read (seen_by c h) r) w)
    by_want Unfit g = (tt, tt)
    by_want (Writes x) g = (tt, tt)
    by_want (Reads q b) g = register_turns p c ((client_of p c h).begun + 1) (number_read (seen_by c h) r) h (record {
      first = m;
      unsought = t;
      next = refl;
      reading = r;
      made = f;
      looked = read_looked p c h r (subst (λ z. target_of by_result (seen_by c h) (client_of p c h) z ≡ None) f t);
      ask = a;
      is_asked = e;
      query = q;
      watch = b;
      reads = g;
    }) refl

-- Beginnings. ------------------------------------------------------------------------------------------

write_turns : (p : Plan) (c i : ℕ) (h : List Entry) (b : Begins p c i h) (closed : Bool) → (client_of p c h).closed ≡ closed → ((client_of p c h).closed ≡ false → Turns p c h (op.Send c i (sends_of c h + 1))) → Turns p c h (local_if closed c i (op.Send c i (sends_of c h + 1)))
write_turns p c i h b true e d = ((b, inr e), refl)
write_turns p c i h b false e d = d e

read_turns : (p : Plan) (c i s : ℕ) (h : List Entry) (b : Begins p c i h) (closed : Bool) → (client_of p c h).closed ≡ closed → ((client_of p c h).closed ≡ false → Turns p c h (op.Read c i s)) → Turns p c h (local_if closed c i (op.Read c i s))
read_turns p c i s h b true e d = ((b, inr e), refl)
read_turns p c i s h b false e d = d e

begin_turns : (p : Plan) (c i : ℕ) (h : List Entry) (b : Begins p c i h) (w : Want) → b.ask.want ≡ w → Turns p c h (begin_op (sight_of p c h) i (client_of p c h).closed w)
begin_turns p c i h b Unfit e = ((b, inl e), refl)
begin_turns p c i h b (Writes r) e = write_turns p c i h b (client_of p c h).closed refl (λ f. ((refl, r, ap written b.is_asked ∙ ap request_in e, (record { begins = b; request = r; writes = e; session_open = f }, refl)), refl))
begin_turns p c i h b (Reads q w) e = read_turns p c i (stamp_of (path_asked q) h) h b (client_of p c h).closed refl (λ f. ((record { begins = b; query = q; watch = w; reads = e; session_open = f }, refl), refl))

next_turns : (p : Plan) (c : ℕ) (h : List Entry) (a : Option Ask) → asked p c ((client_of p c h).begun + 1) ≡ a → (client_of p c h).reading ≡ None → target_by p c h ≡ None → HasNoMessage p c h → Turns p c h (begin_asked by_result (sight_of p c h) (client_of p c h) a)
next_turns p c h None e f t m = (tt, tt)
next_turns p c h (Some a) e f t m =
    cond_both (may_begin by_result (asks_in p c) a (client_of p c h).sent) (begin_op (sight_of p c h) ((client_of p c h).begun + 1) (client_of p c h).closed a.want) op.Idle (Turns p c h)
    (λ b. begin_turns p c ((client_of p c h).begun + 1) h (record { first = m; unsought = t; next = refl; reads_nothing = f; ask = a; is_asked = e; allowed = b }) a.want refl)
    (λ _. (tt, tt))

rest_turns : (p : Plan) (c : ℕ) (h : List Entry) (r : Option Reading) → (client_of p c h).reading ≡ r → HasNoMessage p c h → target_by p c h ≡ None → Turns p c h (watch_or (sight_of p c h) (client_of p c h) r (begin_asked by_result (sight_of p c h) (client_of p c h) (asked p c ((client_of p c h).begun + 1))))
rest_turns p c h None e m t = next_turns p c h (asked p c ((client_of p c h).begun + 1)) refl e t m
rest_turns p c h (Some r) e m t = wait_turns p c h r (asked p c ((client_of p c h).begun + 1)) refl e t m

-- Messages. --------------------------------------------------------------------------------------------

message_turns : (p : Plan) (c : ℕ) (h : List Entry) (m : Message) (ms : List Message) → inbox_of p c h ≡ m ∷ ms → (client_of p c h).owed ≡ [] → Turns p c h (take_op c m)
message_turns p c h (Done k t) ms e f = ((ms, e, f), refl)
message_turns p c h (Evicted k t) ms e f = ((ms, e, f), refl)
message_turns p c h (Kept k (Passed loss)) ms e f = ((loss, ms, e, f), refl)
message_turns p c h (Kept k (Committed t)) ms e f = ((Committed t, ms, e, f), refl)
message_turns p c h (Kept k (Refused cd place at)) ms e f = ((Refused cd place at, ms, e, f), refl)
message_turns p c h (Watch watch) ms e f = ((ms, e, f), refl)
message_turns p c h (Ping ping) ms e f = ((ms, e, f), refl)

take_turns : (p : Plan) (c : ℕ) (h : List Entry) (ms : List Message) (o : Op) → inbox_of p c h ≡ ms → (client_of p c h).owed ≡ [] → (HasNoMessage p c h → Turns p c h o) → Turns p c h (take_or c (first_message ms) o)
take_turns p c h [] o e f d = d (record { pings = f; inbox = e })
take_turns p c h (m ∷ ms) o e f d = message_turns p c h m ms e f

pong_turns : (p : Plan) (c : ℕ) (h : List Entry) (pings : List ℕ) (o : Op) → (client_of p c h).owed ≡ pings → ((client_of p c h).owed ≡ [] → Turns p c h o) → Turns p c h (pong_or c pings o)
pong_turns p c h [] o e d = d e
pong_turns p c h (n ∷ ns) o e d = ((ns, e), refl)

-- what client c makes in its turn says so, and is nothing or an operation of its own
pub client_turns : (p : Plan) (c : ℕ) (h : List Entry) → Turns p c h (client_op p c h)
client_turns p c h =
    let x = client_of p c h in
    let s = sight_of p c h in
    let o = watch_or s x x.reading (begin_asked by_result s x (asked p c (x.begun + 1))) in
    let l = look_or s x.held (target_by p c h) o in
    pong_turns p c h x.owed (take_or c s.head l) refl
    (λ e. take_turns p c h (inbox_of p c h) l refl e
    (λ m. target_turns p c h (target_by p c h) o refl m (rest_turns p c h x.reading refl m)))

-- Failures. --------------------------------------------------------------------------------------------

pub failed_due : (p : Plan) (h : List Entry) (o : Op) → IsDue p h o → IsDue p h (failed_op o)
failed_due p h (op.Pong d ping) a = tt
failed_due p h (op.TakeDone d k t) a = a.2
failed_due p h (op.TakeEvicted d k t) a = a.2
failed_due p h (op.TakeRefused d k) a = a.3
failed_due p h (op.TakeLost d k) a = a.3
failed_due p h (op.TakeWatch d id) a = a.2
failed_due p h (op.TakePing d ping) a = a.2
failed_due p h (op.LookOk d i mark) a = a.0
failed_due p h (op.LookBehind d i mark) a = a.0
failed_due p h (op.LookHeld d i mark id) a = a.0
failed_due p h (op.Send d i k) a = a.3.0
failed_due p h (op.Read d i stamp) a = a.0
failed_due p h (op.WatchSet d i id) a = a.0
failed_due p h (op.WatchSwept d i t) a = a.0
failed_due p h o a = a

-- Whose it is. ----------------------------------------------------------------------------------------

pub client_turn : (p : Plan) (c : ℕ) (h : List Entry) → IsTurnOf c (client_op p c h)
client_turn p c h = (client_turns p c h).1

-- the operation of a client's turn, where it isn't idle, is its own
pub turn_is_own : (c : ℕ) (o : Op) → IsTurnOf c o → is_idle o ≡ false → client_in o ≡ Some c
turn_is_own c op.Idle i e = absurd (grind arith)
turn_is_own c o i e = grind arith
