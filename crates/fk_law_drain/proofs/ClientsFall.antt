-- Each turn of a client in a drain leaves it less to do.
use Rattle.std.specs.Prelude.{◌==◌, ◌*◌, ◌&&◌, if◌then◌else◌, nat_lt, max}
use Rattle.std.proofs.Common.{◌≡◌, ℕ, zero, suc, ◌+◌, ◌<◌, ◌≤◌, ◌++◌, Bool, true, false, List, [], ◌∷◌, length, refl, sym, ◌∙◌, ap, subst, arith, Option, Some, None}
use Rattle.std.proofs.lemmas.Bool.{false≢true, cond_both}
use Rattle.std.proofs.lemmas.Bool.Decides.{nat_tests}
use Rattle.std.proofs.lemmas.Option.{none-some}
use Rattle.fk_base.specs.Path.{PathNames}
use Rattle.fk_tree.specs.Ask.{path_asked}
use Rattle.fk_tree.specs.Sorted.{has_path}
use Rattle.fk_tree.specs.Touch.{edited_paths}
use Rattle.fk_tree.specs.Watch.{has_touch}
use Rattle.fk_tree.specs.declared.request.Query.{Query}
use Rattle.fk_print.specs.declared.entry.Entry.{Entry}
use Rattle.fk_print.specs.declared.op.Op.{Op}
use Rattle.fk_print.specs.declared.op.Op.TheVariants as op
use Rattle.fk_spec.specs.Plan.{Plan, Ask, Reads, asked, asks_in, item_after, nth}
use Rattle.fk_spec.specs.Shown.{seen_by}
use Rattle.fk_spec.specs.Settling.{Outcome, Committed, Passed, mark_of}
use Rattle.fk_spec.specs.Stored.{stamp_of}
use Rattle.fk_spec.specs.Watches.{last_sweep, sweep_of_path, touches_from}
use Rattle.fk_spec.specs.Lanes.{Message, Done, Evicted, Kept, Ping, Watch, inbox_after, inbox_of, leader_head, posted_in, takes, watch_head, without_first}
use Rattle.fk_spec.specs.Sight.{sight_of}
use Rattle.fk_spec.specs.Client.{acted_by, by_result, client_by, client_in, client_of, close_if, flushed, is_close, is_open, is_ready, kept_outcome, looked, looked_at, looked_for, number_looked_for, number_read, path_read, path_wanted, registers, settle_with, settled_as, target_of, target_sent, target_with, with_told, without, without_ready, Client, Expired, Open, Plain, Reading, Result, Sent, Settled, Target}
use Rattle.fk_spec.specs.Next.{IsHistory}
use Rattle.fk_law.specs.Due.{IsDue}
use Rattle.fk_law.proofs.Sending.{committed_is_filled}
use Rattle.fk_law.proofs.Stamping.{published_are_stamped}
use Rattle.fk_law_tree.proofs.Touching.{touch_paths}
use Rattle.fk_law_watch.proofs.Reading.{ReadSo, reads_so}
use Rattle.fk_law_watch.proofs.Sweeps.{last_sweep_of_a_path, swept_committed}
use Rattle.fk_law.specs.Operations.{BeginsRead, IsTurnOf, LooksFor, OperationSays, WaitsToRegister}
use Rattle.fk_law_client.proofs.Tracking.{seen_grows}
use Rattle.fk_law_reply.specs.Plans.{HasFittingVerbs}
use Rattle.fk_law_reply.specs.Reads.{IsMadeRead}
use Rattle.fk_law_reply.proofs.Finding.{reads_show_the_tree}
use Rattle.fk_law_drain.specs.Falling.{client_weight, outcomes_of, read_left}
use Rattle.fk_law_drain.proofs.Awaiting.{takes_now}
use Rattle.fk_law_drain.proofs.Holding.{no_look_is_held}
use Rattle.fk_law_drain.proofs.Looking.{committed_is_published, looked_for_is_published}
use Rattle.fk_base.proofs.Logic.{itself}
use Rattle.fk_law_client.proofs.Kept.{own_client}
use Rattle.fk_law_client.proofs.Lines.{none_sent_sought}
use Rattle.fk_law_reply.proofs.Ledger.{own_begun}

-- Outcomes. --------------------------------------------------------------------------------------------

outcome_more : (s : Sent) (ss : List Sent) → outcomes_of ss ≤ outcomes_of (s ∷ ss)
outcome_more s ss = cond_both (is_open s.result) (outcomes_of ss) (suc (outcomes_of ss)) (λ z. outcomes_of ss ≤ z) (λ _. omega arith) (λ _. omega arith)

outcome_most : (s : Sent) (ss : List Sent) → outcomes_of (s ∷ ss) ≤ outcomes_of ss + 1
outcome_most s ss = cond_both (is_open s.result) (outcomes_of ss) (suc (outcomes_of ss)) (λ z. z ≤ outcomes_of ss + 1) (λ _. omega arith) (λ _. omega arith)

outcomes_unready : (ss : List Sent) → outcomes_of (without_ready by_result ss) ≤ outcomes_of ss
outcomes_unready [] = omega arith
outcomes_unready (s ∷ ss) = let a = outcomes_unready ss in let b = outcome_more s ss in cond_both (is_ready s.result) (without_ready by_result ss) (s ∷ ss) (λ z. outcomes_of z ≤ outcomes_of (s ∷ ss)) (λ _. omega (arith, a, b)) (λ _. omega arith)

outcomes_told : (k : ℕ) (r : Result) (ss : List Sent) → outcomes_of (with_told by_result k r ss) ≤ outcomes_of ss + 1
outcomes_told k r [] = omega arith
outcomes_told k r (s ∷ ss) = cond_both ((s.k == k) && is_open s.result) (record s { result = r } ∷ ss) (s ∷ with_told by_result k r ss) (λ z. outcomes_of z ≤ outcomes_of (s ∷ ss) + 1) (λ _. told) (λ _. later (is_open s.result) (outcomes_told k r ss))
  where
    told : outcomes_of (record s { result = r } ∷ ss) ≤ outcomes_of (s ∷ ss) + 1
    told = let a = outcome_most (record s { result = r }) ss in let b = outcome_more s ss in omega (arith, a, b)

    later : (b : Bool) → outcomes_of (with_told by_result k r ss) ≤ outcomes_of ss + 1 → (if b then outcomes_of (with_told by_result k r ss) else suc (outcomes_of (with_told by_result k r ss))) ≤ (if b then outcomes_of ss else suc (outcomes_of ss)) + 1
    later true a = a
    later false a = omega (arith, a)

-- what was looked for is an outcome less
outcome_looked : (s : Sent) (ss : List Sent) (n : ℕ) → number_looked_for s.result ≡ Some n → outcomes_of (s ∷ ss) ≡ suc (outcomes_of ss)
outcome_looked s ss n e = ap (λ b. if b then outcomes_of ss else suc (outcomes_of ss)) (closed s.result e)
  where
    closed : (r : Result) → number_looked_for r ≡ Some n → is_open r ≡ false
    closed Open e = absurd (none-some n e)
    closed (Settled o) e = refl
    closed (Plain cd) e = refl
    closed (Expired at) e = refl

-- Reads. -----------------------------------------------------------------------------------------------

read_low : (p : Plan) (c : ℕ) (h : List Entry) (o : Option Reading) → 1 ≤ read_left p c h o
read_low p c h None = omega arith
read_low p c h (Some r) = both (nat_lt (number_read (seen_by c h) r) (last_sweep p (path_read (asked p c ((client_of p c h).begun + 1))) h)) r.looked
  where
    both : (a b : Bool) → 1 ≤ (if a then 3 else 0) + (if b then 1 else 2)
    both true true = omega arith
    both true false = omega arith
    both false true = omega arith
    both false false = omega arith

flag_falls : (a b : Bool) (n : ℕ) → (a ≡ true → b ≡ true) → (if a then 3 else 0) + n ≤ (if b then 3 else 0) + n
flag_falls true true n f = omega arith
flag_falls false true n f = omega arith
flag_falls false false n f = omega arith
flag_falls true false n f = absurd (false≢true (f refl))

-- the sweeps of a client's turn are those before
same_sweep : (p : Plan) (path : PathNames) (e : Entry) (h : List Entry) (c : ℕ) → client_in e.op ≡ Some c → last_sweep p path (e ∷ h) ≡ last_sweep p path h
same_sweep p path e h c q = by_op e.op q
  where
    by_op : (o : Op) → client_in o ≡ Some c → sweep_of_path p path h o (last_sweep p path h) ≡ last_sweep p path h
    by_op (op.SweepOk n t fired) q = absurd (none-some c q)
    by_op o q = refl

-- a read that is kept takes no more operations
read_stays : (p : Plan) (d c : ℕ) (e : Entry) (h : List Entry) (o : Option Reading) → client_in e.op ≡ Some c → (client_of p d (e ∷ h)).begun ≡ (client_of p d h).begun → read_left p d (e ∷ h) o ≤ read_left p d h o
read_stays p d c e h None q b = omega arith
read_stays p d c e h (Some r) q b =
    subst (λ z. (if nat_lt (number_read (seen_by d (e ∷ h)) r) (last_sweep p (path_read (asked p d (z + 1))) (e ∷ h)) then 3 else 0) + (if r.looked then 1 else 2) ≤ read_left p d h (Some r)) (sym b)
    (subst (λ z. (if nat_lt (number_read (seen_by d (e ∷ h)) r) z then 3 else 0) + (if r.looked then 1 else 2) ≤ read_left p d h (Some r)) (sym (same_sweep p path e h c q))
    (flag_falls (nat_lt (number_read (seen_by d (e ∷ h)) r) (last_sweep p path h)) (nat_lt (number_read (seen_by d h) r) (last_sweep p path h)) (if r.looked then 1 else 2) (less (seen_by d h) (seen_by d (e ∷ h)) r.stamp (last_sweep p path h) (seen_grows d e.lines (seen_by d h)))))
  where
    path : PathNames
    path = path_read (asked p d ((client_of p d h).begun + 1))

    less : (a b s t : ℕ) → a ≤ b → nat_lt (max b s) t ≡ true → nat_lt (max a s) t ≡ true
    less a b s t l f = grind (arith, nat_tests)

-- Own turns. -------------------------------------------------------------------------------------------

-- what it weighs, with what it keeps before it prints what is ready
abbrev acted_weight : Plan → ℕ → Entry → List Entry → Client Sent → ℕ
acted_weight p c e h y = 40 * length (inbox_of p c (e ∷ h)) + 20 * length y.owed + 8 * outcomes_of y.sent + read_left p c (e ∷ h) y.reading

weight_most : (p : Plan) (c : ℕ) (e : Entry) (h : List Entry) → client_in e.op ≡ Some c → client_weight p (e ∷ h) c ≤ acted_weight p c e h (acted_by (sight_of p c h) e.op (client_of p c h))
weight_most p c e h q = let y = acted_by (sight_of p c h) e.op (client_of p c h) in let a = outcomes_unready y.sent in subst (λ z. 40 * length (inbox_of p c (e ∷ h)) + 20 * length z.owed + 8 * outcomes_of z.sent + read_left p c (e ∷ h) z.reading ≤ acted_weight p c e h y) (sym (own_client p c e h q)) (omega (arith, a))

-- an operation that sends no request
abbrev pub NoSend : Op → Type 0
NoSend (op.Send d i k) = ⊥
NoSend (op.Evict n k) = ⊥
NoSend _ = Unit {0}

-- a client's turn: it begins a command more, or has less to do
pub data TurnFalls (p : Plan) (c : ℕ) (e : Entry) (h : List Entry) : Type 0 where
  BeginsMore : (client_of p c h).begun < length (asks_in p c) → (client_of p c (e ∷ h)).begun ≡ (client_of p c h).begun + 1 → TurnFalls p c e h
  HasLess : NoSend e.op → (client_of p c (e ∷ h)).begun ≡ (client_of p c h).begun → client_weight p (e ∷ h) c < client_weight p h c → TurnFalls p c e h

asked_below : (xs : List Ask) (n : ℕ) (a : Ask) → nth xs (n + 1) ≡ Some a → n < length xs
asked_below xs n a e = below xs n (subst (λ z. nth xs z ≡ Some a) one_more e)
  where
    one_more : n + 1 ≡ suc n
    one_more = omega arith

    below : (ys : List Ask) (m : ℕ) → item_after ys m ≡ Some a → m < length ys
    below [] m e = absurd (none-some a e)
    below (y ∷ ys) zero e = omega arith
    below (y ∷ ys) (suc m) e = let b = below ys m e in omega (arith, b)

begins : (p : Plan) (c i : ℕ) (e : Entry) (h : List Entry) (a : Ask) (o : Op) → e.op ≡ o → client_in o ≡ Some c → i ≡ (client_of p c h).begun + 1 → asked p c i ≡ Some a → (acted_by (sight_of p c h) o (client_of p c h)).begun ≡ (client_of p c h).begun + 1 → TurnFalls p c e h
begins p c i e h a o q f n g b = BeginsMore (asked_below (asks_in p c) (client_of p c h).begun a (subst (λ z. asked p c z ≡ Some a) n g)) (own_begun p c e h o q f ∙ b)

has_less : (p : Plan) (c : ℕ) (e : Entry) (h : List Entry) (o : Op) → NoSend o → e.op ≡ o → client_in o ≡ Some c → (acted_by (sight_of p c h) o (client_of p c h)).begun ≡ (client_of p c h).begun → acted_weight p c e h (acted_by (sight_of p c h) o (client_of p c h)) < client_weight p h c → TurnFalls p c e h
has_less p c e h o k q f b l = HasLess (subst NoSend (sym q) k) (own_begun p c e h o q f ∙ b) (let a = weight_most p c e h (ap client_in q ∙ f) in let m = subst (λ z. acted_weight p c e h (acted_by (sight_of p c h) z (client_of p c h)) < client_weight p h c) (sym q) l in omega (arith, a, m))

-- Inboxes. ---------------------------------------------------------------------------------------------

none_posted : (p : Plan) (d c : ℕ) (h : List Entry) (o : Op) → client_in o ≡ Some c → posted_in p d h o ≡ None
none_posted p d c h (op.Reply n s k) q = absurd (none-some c q)
none_posted p d c h (op.Tell n s w) q = absurd (none-some c q)
none_posted p d c h (op.Ping n s) q = absurd (none-some c q)
none_posted p d c h o q = refl

inbox_kept : (p : Plan) (d c : ℕ) (e : Entry) (h : List Entry) → client_in e.op ≡ Some c → takes d e.op ≡ false → inbox_of p d (e ∷ h) ≡ inbox_of p d h
inbox_kept p d c e h q t = ap (λ b. inbox_after b (inbox_of p d h) (posted_in p d h e.op)) t ∙ ap (λ z. inbox_after false (inbox_of p d h) z) (none_posted p d c h e.op q)

inbox_less : (p : Plan) (c : ℕ) (e : Entry) (h : List Entry) (m : Message) (ms : List Message) → takes c e.op ≡ true → inbox_of p c h ≡ m ∷ ms → length (inbox_of p c (e ∷ h)) + 1 ≡ length (inbox_of p c h)
inbox_less p c e h m ms t q = ap (λ b. length (inbox_after b (inbox_of p c h) (posted_in p c h e.op)) + 1) t ∙ (ap (λ z. length (without_first z) + 1) q ∙ (one_more (length ms) ∙ sym (ap length q)))
  where
    one_more : (n : ℕ) → n + 1 ≡ suc n
    one_more n = omega arith

-- a turn that takes a message
takes_less : (p : Plan) (c d : ℕ) (e : Entry) (h : List Entry) (m : Message) (ms : List Message) (o : Op) → NoSend o → e.op ≡ o → client_in o ≡ Some c → d ≡ c → takes c o ≡ (d == c) → inbox_of p d h ≡ m ∷ ms → (acted_by (sight_of p c h) o (client_of p c h)).begun ≡ (client_of p c h).begun → (acted_by (sight_of p c h) o (client_of p c h)).reading ≡ None → length (acted_by (sight_of p c h) o (client_of p c h)).owed ≤ length (client_of p c h).owed + 1 → outcomes_of (acted_by (sight_of p c h) o (client_of p c h)).sent ≤ outcomes_of (client_of p c h).sent + 1 → TurnFalls p c e h
takes_less p c d e h m ms o k q f g t b n r w s =
    has_less p c e h o k q f n
    (let i = inbox_less p c e h m ms (takes_now c d e o q g t) (subst (λ z. inbox_of p z h ≡ m ∷ ms) g b) in
    let y = read_low p c h (client_of p c h).reading in
    subst (λ z. 40 * length (inbox_of p c (e ∷ h)) + 20 * length (acted_by (sight_of p c h) o (client_of p c h)).owed + 8 * outcomes_of (acted_by (sight_of p c h) o (client_of p c h)).sent + read_left p c (e ∷ h) z < client_weight p h c) (sym r) (omega (arith, i, y, w, s)))

settled_sent : (k : ℕ) (o : Option Outcome) (x : Client Sent) → outcomes_of (settle_with by_result k (settled_as o) x).sent ≤ outcomes_of x.sent + 1
settled_sent k None x = omega arith
settled_sent k (Some o) x = outcomes_told k (Settled o) x.sent

settled_begun : (k : ℕ) (o : Option Outcome) (x : Client Sent) → ((settle_with by_result k (settled_as o) x).begun ≡ x.begun) × ((settle_with by_result k (settled_as o) x).reading ≡ None) × ((settle_with by_result k (settled_as o) x).owed ≡ x.owed)
settled_begun k None x = (refl, refl, refl)
settled_begun k (Some o) x = (refl, refl, refl)

-- Looks and reads. -------------------------------------------------------------------------------------

looked_begun : (p : Plan) (c : ℕ) (h : List Entry) (ss : List Sent) (x : Client Sent) → ((looked_for by_result (asks_in p c) ss x).begun ≡ x.begun) × ((looked_for by_result (asks_in p c) ss x).reading ≡ x.reading) × ((looked_for by_result (asks_in p c) ss x).owed ≡ x.owed)
looked_begun p c h [] x = (refl, refl, refl)
looked_begun p c h (s ∷ ss) x = closing (is_close (asked p c s.command))
  where
    closing : (b : Bool) → ((close_if b (record x { sent = ss })).begun ≡ x.begun) × ((close_if b (record x { sent = ss })).reading ≡ x.reading) × ((close_if b (record x { sent = ss })).owed ≡ x.owed)
    closing true = (refl, refl, refl)
    closing false = (refl, refl, refl)

looked_outcomes : (p : Plan) (c : ℕ) (h : List Entry) (ss : List Sent) (x : Client Sent) (t : Target) → x.sent ≡ ss → target_sent by_result ss ≡ Some t → outcomes_of (looked_for by_result (asks_in p c) ss x).sent + 1 ≡ outcomes_of x.sent
looked_outcomes p c h [] x t e q = absurd (none-some t q)
looked_outcomes p c h (s ∷ ss) x t e q = closing (is_close (asked p c s.command))
  where
    sought : (o : Option ℕ) → number_looked_for s.result ≡ o → target_with s.command o ≡ Some t → outcomes_of (s ∷ ss) ≡ suc (outcomes_of ss)
    sought None f g = absurd (none-some t g)
    sought (Some n) f g = outcome_looked s ss n f

    less : outcomes_of ss + 1 ≡ outcomes_of x.sent
    less = let a = sought (number_looked_for s.result) refl q in let b = ap outcomes_of e in omega (arith, a, b)

    closing : (b : Bool) → outcomes_of (close_if b (record x { sent = ss })).sent + 1 ≡ outcomes_of x.sent
    closing true = less
    closing false = less

-- a look that is ok prints the line of a command that was sent, or it comes to the read
look_falls : (p : Plan) (c d i m : ℕ) (e : Entry) (h : List Entry) → HasFittingVerbs p → IsHistory p (e ∷ h) → e.op ≡ op.LookOk d i m → d ≡ c → LooksFor p c i h → (r : Option Reading) → (client_of p c h).reading ≡ r → TurnFalls p c e h
look_falls p c d i m e h v l q g f None n =
    let x = client_of p c h in
    let b = looked_begun p c h x.sent x in
    let y = looked_outcomes p c h x.sent x (record { command = i; number = f.number }) refl (subst (λ z. target_of by_result (seen_by c h) x z ≡ Some (record { command = i; number = f.number })) n f.target) in
    let k = inbox_kept p c d e h (ap client_in q) (ap (takes c) q) in
    let s = ap length k in
    has_less p c e h (op.LookOk d i m) tt q (ap Some g)
    (subst (λ z. (looked by_result (asks_in p c) z x).begun ≡ x.begun) (sym n) b.0)
    (subst (λ z. acted_weight p c e h (looked by_result (asks_in p c) z x) < client_weight p h c) (sym n)
    (subst (λ z. 40 * length (inbox_of p c (e ∷ h)) + 20 * length z + 8 * outcomes_of (looked_for by_result (asks_in p c) x.sent x).sent + read_left p c (e ∷ h) (looked_for by_result (asks_in p c) x.sent x).reading < client_weight p h c) (sym b.2)
    (subst (λ z. 40 * length (inbox_of p c (e ∷ h)) + 20 * length x.owed + 8 * outcomes_of (looked_for by_result (asks_in p c) x.sent x).sent + read_left p c (e ∷ h) z < client_weight p h c) (sym (b.1 ∙ n))
    (let w = ap (read_left p c h) n in omega (arith, s, y, w)))))
look_falls p c d i m e h v l q g f (Some r) n = by_looked r.looked refl
  where
    x : Client Sent
    x = client_of p c h

    none_sent : x.sent ≡ []
    none_sent = (subst (ReadSo x.sent (seen_by c h) (mark_of h)) n (reads_so p c h v.reads l.0)).0

    target : (if r.looked then target_sent by_result x.sent else Some (record { command = x.begun + 1; number = number_read (seen_by c h) r })) ≡ Some (record { command = i; number = f.number })
    target = subst (λ z. target_of by_result (seen_by c h) x z ≡ Some (record { command = i; number = f.number })) n f.target

    made : IsMadeRead p c h (seen_by c h) x.begun r
    made = reads_show_the_tree p c h r v.reads l.0 n

    by_registers : (b : Bool) → registers (asked p c (x.begun + 1)) r.node ≡ b → r.looked ≡ false → TurnFalls p c e h
    by_registers false w u = begins p c (x.begun + 1) e h made.ask (op.LookOk d i m) q (ap Some g) refl made.is_asked (subst (λ z. (looked by_result (asks_in p c) z x).begun ≡ x.begun + 1) (sym n) (ap (λ b. (looked_at b r x).begun) w))
    by_registers true w u =
        has_less p c e h (op.LookOk d i m) tt q (ap Some g)
        (subst (λ z. (looked by_result (asks_in p c) z x).begun ≡ x.begun) (sym n) (ap (λ b. (looked_at b r x).begun) w))
        (subst (λ z. acted_weight p c e h (looked by_result (asks_in p c) z x) < client_weight p h c) (sym n)
        (subst (λ b. acted_weight p c e h (looked_at b r x) < client_weight p h c) (sym w) lighter))
      where
        begun : (client_of p c (e ∷ h)).begun ≡ x.begun
        begun = own_begun p c e h (op.LookOk d i m) q (ap Some g) ∙ subst (λ z. (looked by_result (asks_in p c) z x).begun ≡ x.begun) (sym n) (ap (λ b. (looked_at b r x).begun) w)

        sooner : read_left p c (e ∷ h) (Some (record r { looked = true })) + 1 ≤ read_left p c (e ∷ h) (Some r)
        sooner = subst (λ b. read_left p c (e ∷ h) (Some (record r { looked = true })) + 1 ≤ (if nat_lt (number_read (seen_by c (e ∷ h)) r) (last_sweep p (path_read (asked p c ((client_of p c (e ∷ h)).begun + 1))) (e ∷ h)) then 3 else 0) + (if b then 1 else 2)) (sym u) (omega arith)

        lighter : acted_weight p c e h (record x { reading = Some (record r { looked = true }) }) < client_weight p h c
        lighter =
            let k = inbox_kept p c d e h (ap client_in q) (ap (takes c) q) in
            let s = ap length k in
            let y = read_stays p c d e h (Some r) (ap client_in q) begun in
            let z = sooner in
            let w = ap (read_left p c h) n in
            omega (arith, s, y, z, w)

    by_looked : (b : Bool) → r.looked ≡ b → TurnFalls p c e h
    by_looked true u = absurd (none_sent_sought x.sent (record { command = i; number = f.number }) none_sent (subst (λ b. (if b then target_sent by_result x.sent else Some (record { command = x.begun + 1; number = number_read (seen_by c h) r })) ≡ Some (record { command = i; number = f.number })) u target))
    by_looked false u = by_registers (registers (asked p c (x.begun + 1)) r.node) refl u

-- where no push waits, a path's record is as new as its last sweep
sweep_is_stamped : (p : Plan) (path : PathNames) (h : List Entry) → IsHistory p h → leader_head h ≡ None → last_sweep p path h ≤ stamp_of path h
sweep_is_stamped p path h l b = by_number (last_sweep p path h) refl
  where
    by_number : (n : ℕ) → last_sweep p path h ≡ n → n ≤ stamp_of path h
    by_number zero e = omega arith
    by_number (suc n) e =
        let w = (last_sweep_of_a_path p path (last_sweep p path h) h l).0 (subst (λ z. 1 ≤ z) (sym e) (omega arith)) in
        let c = swept_committed p (last_sweep p path h) h l w.0 in
        let a = committed_is_filled p (last_sweep p path h) h l c in
        let m = committed_is_published p (last_sweep p path h) h l b c in
        let t : has_path path (edited_paths a.0) ≡ true = sym (touch_paths a.0 path) ∙ (ap (λ z. has_touch path (touches_from z)) (sym a.1) ∙ w.1) in
        subst (λ z. z ≤ stamp_of path h) e (published_are_stamped p (last_sweep p path h) h a.0 path l a.1 m t)

path_of_read : (o : Option Ask) (a : Ask) (q : Query) (b : Bool) → o ≡ Some a → a.want ≡ Reads q b → path_read o ≡ path_asked q
path_of_read o a q b e f = ap path_read e ∙ ap path_wanted f

read_falls : (p : Plan) (c d i s : ℕ) (e : Entry) (h : List Entry) → IsHistory p (e ∷ h) → leader_head h ≡ None → e.op ≡ op.Read d i s → d ≡ c → (r : BeginsRead p c i h) → s ≡ stamp_of (path_asked r.query) h → TurnFalls p c e h
read_falls p c d i s e h l b q g r t = has_less p c e h (op.Read d i s) tt q (ap Some g) refl lighter
  where
    x : Client Sent
    x = client_of p c h

    read : Reading
    read = record { node = (sight_of p c h).node (path_read (asked p c i)); stamp = s; looked = false }

    begun : (client_of p c (e ∷ h)).begun ≡ x.begun
    begun = own_begun p c e h (op.Read d i s) q (ap Some g)

    its_path : path_read (asked p c ((client_of p c (e ∷ h)).begun + 1)) ≡ path_asked r.query
    its_path = ap (λ z. path_read (asked p c (z + 1))) begun ∙ (ap (λ z. path_read (asked p c z)) (sym r.begins.next) ∙ path_of_read (asked p c i) r.begins.ask r.query r.watch r.begins.is_asked r.reads)

    unswept : nat_lt (number_read (seen_by c (e ∷ h)) read) (last_sweep p (path_read (asked p c ((client_of p c (e ∷ h)).begun + 1))) (e ∷ h)) ≡ false
    unswept = subst (λ z. nat_lt (number_read (seen_by c (e ∷ h)) read) (last_sweep p z (e ∷ h)) ≡ false) (sym its_path) (subst (λ z. nat_lt (number_read (seen_by c (e ∷ h)) read) z ≡ false) (sym (same_sweep p (path_asked r.query) e h d (ap client_in q))) (below (seen_by c (e ∷ h)) s (last_sweep p (path_asked r.query) h) (subst (λ z. last_sweep p (path_asked r.query) h ≤ z) (sym t) (sweep_is_stamped p (path_asked r.query) h l.0 b))))
      where
        below : (a s t : ℕ) → t ≤ s → nat_lt (max a s) t ≡ false
        below a s t l = grind (arith, nat_tests)

    lighter : acted_weight p c e h (record x { reading = Some read }) < client_weight p h c
    lighter =
        let k = inbox_kept p c d e h (ap client_in q) (ap (takes c) q) in
        let n = ap length k in
        let y = ap (λ a. (if a then 3 else 0) + 2) unswept in
        let w = ap (read_left p c h) r.begins.reads_nothing in
        omega (arith, n, y, w)

swept_falls : (p : Plan) (c d i t : ℕ) (e : Entry) (h : List Entry) → IsHistory p (e ∷ h) → e.op ≡ op.WatchSwept d i t → d ≡ c → (w : WaitsToRegister p c i h) → number_read (seen_by c h) w.reading < t → t ≡ last_sweep p (path_asked w.query) h → TurnFalls p c e h
swept_falls p c d i t e h l q g w a b = has_less p c e h (op.WatchSwept d i t) tt q (ap Some g) refl lighter
  where
    x : Client Sent
    x = client_of p c h

    its_path : path_read (asked p c (x.begun + 1)) ≡ path_asked w.query
    its_path = ap (λ z. path_read (asked p c z)) (sym w.next) ∙ path_of_read (asked p c i) w.ask w.query w.watch w.is_asked w.reads

    passed : nat_lt (number_read (seen_by c h) w.reading) (last_sweep p (path_read (asked p c (x.begun + 1))) h) ≡ true
    passed = subst (λ z. nat_lt (number_read (seen_by c h) w.reading) (last_sweep p z h) ≡ true) (sym its_path) (less (number_read (seen_by c h) w.reading) (last_sweep p (path_asked w.query) h) (subst (λ z. number_read (seen_by c h) w.reading < z) b a))
      where
        less : (a b : ℕ) → a < b → nat_lt a b ≡ true
        less a b l = grind (arith, nat_tests)

    full : 4 ≤ read_left p c h x.reading
    full = subst (λ z. 4 ≤ read_left p c h z) (sym w.made) (subst (λ a. 4 ≤ (if a then 3 else 0) + (if w.reading.looked then 1 else 2)) (sym passed) (either w.reading.looked))
      where
        either : (b : Bool) → 4 ≤ 3 + (if b then 1 else 2)
        either true = omega arith
        either false = omega arith

    lighter : acted_weight p c e h (record x { reading = None }) < client_weight p h c
    lighter =
        let k = inbox_kept p c d e h (ap client_in q) (ap (takes c) q) in
        let n = ap length k in
        let y = full in
        omega (arith, n, y)

without_most : (n : ℕ) (xs : List ℕ) → length (without n xs) ≤ length xs
without_most n [] = omega arith
without_most n (x ∷ xs) = let a = without_most n xs in cond_both (x == n) (without n xs) (x ∷ without n xs) (λ z. length z ≤ length (x ∷ xs)) (λ _. omega (arith, a)) (λ _. omega (arith, a))

pong_falls : (p : Plan) (c d n : ℕ) (e : Entry) (h : List Entry) (others : List ℕ) → e.op ≡ op.Pong d n → d ≡ c → (client_of p c h).owed ≡ n ∷ others → TurnFalls p c e h
pong_falls p c d n e h others q g o = has_less p c e h (op.Pong d n) tt q (ap Some g) refl lighter
  where
    x : Client Sent
    x = client_of p c h

    less : length (without n x.owed) + 1 ≤ length x.owed
    less = subst (λ z. length (without n z) + 1 ≤ length z) (sym o) (subst (λ b. length (if b then without n others else n ∷ without n others) + 1 ≤ length (n ∷ others)) (sym (itself n)) (let a = without_most n others in omega (arith, a)))

    lighter : acted_weight p c e h (record x { owed = without n x.owed }) < client_weight p h c
    lighter =
        let k = inbox_kept p c d e h (ap client_in q) (ap (takes c) q) in
        let s = ap length k in
        let y = less in
        let r = read_stays p c d e h x.reading (ap client_in q) (own_begun p c e h (op.Pong d n) q (ap Some g)) in
        omega (arith, s, y, r)

pinged_owed : (n : ℕ) (b : Bool) (owed : List ℕ) → length (if b then owed else owed ++ n ∷ []) ≤ length owed + 1
pinged_owed n true owed = omega arith
pinged_owed n false owed = let a = appended owed in omega (arith, a)
  where
    appended : (xs : List ℕ) → length (xs ++ n ∷ []) ≡ length xs + 1
    appended [] = omega arith
    appended (x ∷ xs) = let a = appended xs in omega (arith, a)

-- A client's turn, where the lanes are empty, leaves it less to do.
pub turn_falls : (p : Plan) (c : ℕ) (e : Entry) (h : List Entry) (o : Op) → HasFittingVerbs p → IsHistory p (e ∷ h) → leader_head h ≡ None → watch_head h ≡ None → e.op ≡ o → client_in o ≡ Some c → IsTurnOf c o → IsDue p h o → OperationSays p c h o → TurnFalls p c e h
turn_falls p c e h (op.Pong d ping) v l b n q f t i a = pong_falls p c d ping e h a.0 q t a.1
turn_falls p c e h (op.TakeDone d k u) v l b n q f t i a = takes_less p c d e h (Done k u) i.0 (op.TakeDone d k u) tt q f t refl i.1 refl refl (omega arith) (outcomes_told k (Settled (Committed u)) (client_of p c h).sent)
turn_falls p c e h (op.TakeEvicted d k u) v l b n q f t i a = takes_less p c d e h (Evicted k u) i.0 (op.TakeEvicted d k u) tt q f t refl i.1 refl refl (omega arith) (omega arith)
turn_falls p c e h (op.TakeRefused d k) v l b n q f t i a = let s = settled_begun k (kept_outcome (sight_of p c h).head) (client_of p c h) in takes_less p c d e h (Kept k i.0) i.1 (op.TakeRefused d k) tt q f t refl i.2 s.0 s.1 (let y = ap length s.2 in omega (arith, y)) (settled_sent k (kept_outcome (sight_of p c h).head) (client_of p c h))
turn_falls p c e h (op.TakeLost d k) v l b n q f t i a = let s = settled_begun k (kept_outcome (sight_of p c h).head) (client_of p c h) in takes_less p c d e h (Kept k (Passed i.0)) i.1 (op.TakeLost d k) tt q f t refl i.2 s.0 s.1 (let y = ap length s.2 in omega (arith, y)) (settled_sent k (kept_outcome (sight_of p c h).head) (client_of p c h))
turn_falls p c e h (op.TakeWatch d w) v l b n q f t i a = takes_less p c d e h (Watch w) i.0 (op.TakeWatch d w) tt q f t refl i.1 refl refl (omega arith) (omega arith)
turn_falls p c e h (op.TakePing d ping) v l b n q f t i a = takes_less p c d e h (Ping ping) i.0 (op.TakePing d ping) tt q f t refl i.1 refl refl (pinged_owed ping (client_of p c h).closed (client_of p c h).owed) (omega arith)
turn_falls p c e h (op.LookOk d j m) v l b n q f t i a = look_falls p c d j m e h v l q t a.0 (client_of p c h).reading refl
turn_falls p c e h (op.LookBehind d j m) v l b n q f t i a = absurd (let y = looked_for_is_published p c h (record { command = j; number = a.0.number }) v l.0 b a.0.target in let z = a.2 in omega (arith, y, z))
turn_falls p c e h (op.LookHeld d j m w) v l b n q f t i a = absurd (none-some w (sym (no_look_is_held p c h l.0 b n a.0.first.inbox) ∙ a.3))
turn_falls p c e h (op.Send d j k) v l b n q f t i a = begins p c j e h a.0.begins.ask (op.Send d j k) q f a.0.begins.next a.0.begins.is_asked a.0.begins.next
turn_falls p c e h (op.Read d j s) v l b n q f t i a = read_falls p c d j s e h l b q t a.0 a.1
turn_falls p c e h (op.WatchSet d j w) v l b n q f t i a = begins p c j e h a.0.ask (op.WatchSet d j w) q f a.0.next a.0.is_asked refl
turn_falls p c e h (op.WatchSwept d j u) v l b n q f t i a = swept_falls p c d j u e h l q t a.0 a.1 a.2
turn_falls p c e h (op.Local d j) v l b n q f t i a = begins p c j e h a.0.ask (op.Local d j) q f a.0.next a.0.is_asked a.0.next
turn_falls p c e h op.Idle v l b n q f t i a = absurd (none-some c f)
turn_falls p c e h o v l b n q f t i a = absurd t

-- Other clients. ---------------------------------------------------------------------------------------

pub other_client : (p : Plan) (d c : ℕ) (e : Entry) (h : List Entry) → client_in e.op ≡ Some c → (c == d) ≡ false → client_of p d (e ∷ h) ≡ client_of p d h
other_client p d c e h q n = subst (λ z. client_by (sight_of p d h) z e.op (client_of p d h) ≡ client_of p d h) (sym q) (ap (λ b. if b then flushed by_result (acted_by (sight_of p d h) e.op (client_of p d h)) else client_of p d h) n)

other_takes : (d c : ℕ) (o : Op) → client_in o ≡ Some c → (c == d) ≡ false → takes d o ≡ false
other_takes d c o q n = grind (arith, nat_tests)

-- another client's turn leaves a client no more to do
pub weight_other : (p : Plan) (d c : ℕ) (e : Entry) (h : List Entry) → client_in e.op ≡ Some c → (c == d) ≡ false → client_weight p (e ∷ h) d ≤ client_weight p h d
weight_other p d c e h q n =
    let x = other_client p d c e h q n in
    let k = ap length (inbox_kept p d c e h q (other_takes d c e.op q n)) in
    let r = read_stays p d c e h (client_of p d h).reading q (ap (λ z. z.begun) x) in
    subst (λ z. 40 * length (inbox_of p d (e ∷ h)) + 20 * length z.owed + 8 * outcomes_of z.sent + read_left p d (e ∷ h) z.reading ≤ client_weight p h d) (sym x) (omega (arith, k, r))
