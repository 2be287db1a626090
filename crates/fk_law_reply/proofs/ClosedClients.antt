-- A client that knows its session as closed is right.
use Rattle.std.specs.Prelude.{◌==◌, ◌||◌, nat_eq, nat_le}
use Rattle.std.proofs.Common.{◌≡◌, ℕ, ◌+◌, ◌≤◌, ◌++◌, ◌⊎◌, inl, inr, if◌then◌else◌, Bool, true, false, cond, List, [], ◌∷◌, refl, sym, ◌∙◌, ap, subst, arith, Option, Some, None}
use Rattle.std.proofs.lemmas.Bool.{false≢true}
use Rattle.std.proofs.lemmas.Bool.Decides.{nat_tests}
use Rattle.std.proofs.lemmas.Option.{same_Some, none-some}
use Rattle.fk_base.specs.declared.code.Code.{Code}
use Rattle.fk_base.specs.declared.code.Code.TheVariants as code
use Rattle.fk_tree.specs.Check.{Refusal, check, check_open}
use Rattle.fk_tree.specs.Edit.{closes, view_after}
use Rattle.fk_tree.specs.View.{View}
use Rattle.fk_tree.specs.declared.applied.Applied.{Applied}
use Rattle.fk_tree.specs.declared.reply.Reply.{Reply}
use Rattle.fk_tree.specs.declared.reply.Reply.TheVariants as reply
use Rattle.fk_tree.specs.declared.request.Request.{Request}
use Rattle.fk_tree.specs.declared.request.Request.TheVariants as request
use Rattle.fk_tree.specs.Apply.{reply_of}
use Rattle.fk_print.specs.declared.entry.Entry.{Entry}
use Rattle.fk_print.specs.declared.line.Line.{Line}
use Rattle.fk_print.specs.declared.line.Line.TheVariants as line
use Rattle.fk_print.specs.declared.op.Op.{Op}
use Rattle.fk_print.specs.declared.op.Op.TheVariants as op
use Rattle.fk_spec.specs.Plan.{Plan, Unfit, Writes, asked, asks_in}
use Rattle.fk_spec.specs.Shown.{number_or, seen_by, seen_in, seen_lines, shown_number}
use Rattle.fk_spec.specs.Start.{request_of}
use Rattle.fk_spec.specs.Settling.{Outcome, Committed, Refused, Passed, mark_of}
use Rattle.fk_spec.specs.Stored.{applied_as, committed_as, committed_of, up_to}
use Rattle.fk_spec.specs.Lanes.{Evicted, inbox_of, is_evict}
use Rattle.fk_spec.specs.Sight.{sight_of}
use Rattle.fk_spec.specs.Client.{acted_by, by_result, client_in, client_of, close_if, is_close, is_unfit, is_unfit_want, kept_outcome, local_result, looked, looked_at, looked_for, number_looked_for, ready_first, registers, settle_with, settled_as, target_of, target_sent, target_with, Client, Result, Open, Settled, Plain, Expired, Reading, Sent}
use Rattle.fk_spec.specs.Replies.{first_line, looked_lines, own_lines, reply_line, reply_lines, shown_applied, shown_reply, shown_result, wording}
use Rattle.fk_spec.specs.Next.{IsHistory}
use Rattle.fk_law.specs.Due.{IsDue, IsPushOf}
use Rattle.fk_law.proofs.Due.{client_operations_say, due}
use Rattle.fk_law.proofs.Growing.{numbers_never_fall}
use Rattle.fk_law.proofs.Outcomes.{outcome_is_of_a_settled}
use Rattle.fk_law.proofs.Publishing.{of_push}
use Rattle.fk_law.proofs.Refusing.{closed_on, closed_one}
use Rattle.fk_law.proofs.Sending.{committed_is_filled, push_asks_for_its_request}
use Rattle.fk_law.proofs.Settled.{reached}
use Rattle.fk_law.proofs.Printing.{lines_are}
use Rattle.fk_law_watch.proofs.Reading.{next_is}
use Rattle.fk_law_client.specs.Inboxes.{IsPublishedPush}
use Rattle.fk_law_client.specs.Kept.{KeptFrom, Before, Told, Begun, begun_by}
use Rattle.fk_law_client.specs.Lines.{IsAmong, kept_after}
use Rattle.fk_law.specs.Operations.{OperationSays}
use Rattle.fk_law_client.specs.Tracking.{IsTrueResult}
use Rattle.fk_law_client.proofs.Kept.{among_unready, client_after, kept_commands_have_their_source}
use Rattle.fk_law_client.proofs.Messages.{inbox_messages}
use Rattle.fk_law_client.proofs.Seen.{seen_published}
use Rattle.fk_law_client.proofs.Tracking.{first_true, seen_grows, sent_tracked}
use Rattle.fk_law_reply.specs.ClosedClients.{IsClosedAt, ClosedClientsAreRight, KnownClosed, ExpiredMetAClosedSession, ExpiredByAnOperation}
use Rattle.fk_law_reply.specs.Ledger.{IsEntered}
use Rattle.fk_law_reply.specs.Plans.{HasFittingVerbs}
use Rattle.fk_law_reply.proofs.Ledger.{its_message, kept_commands_are_entered, tracked_among}
use Rattle.fk_law_reply.proofs.RefusedOutcomes.{refused_holds_at_its_number}

-- Where a session is closed. ---------------------------------------------------------------------------

abbrev ClosedIn : ℕ → ℕ → List Applied → Type 0
ClosedIn n c done = (view_after (up_to n done)).closed c ≡ true

-- it stays closed at each greater number
more_step : (n m c : ℕ) (a : Applied) (done : List Applied) → n ≤ m → (ClosedIn n c done → ClosedIn m c done) → ClosedIn n c (a ∷ done) → ClosedIn m c (a ∷ done)
more_step n m c a done b f = by_tests (nat_le a.tx n) refl (nat_le a.tx m) refl
  where
    both : (x y z w : Bool) → (z ≡ true → w ≡ true) → (if x then (y || z) else z) ≡ true → (if x then (y || w) else w) ≡ true
    both true true z w g e = refl
    both true false z w g e = g e
    both false y z w g e = g e

    later : (x y z : Bool) → z ≡ true → (if x then (y || z) else z) ≡ true
    later true true z e = refl
    later true false z e = e
    later false y z e = e

    by_tests : (x : Bool) → nat_le a.tx n ≡ x → (y : Bool) → nat_le a.tx m ≡ y → (view_after (cond x (a ∷ up_to n done) (up_to n done))).closed c ≡ true → (view_after (cond y (a ∷ up_to m done) (up_to m done))).closed c ≡ true
    by_tests true u true v i = both (closes a.request) (a.session == c) ((view_after (up_to n done)).closed c) ((view_after (up_to m done)).closed c) f i
    by_tests true u false v i = absurd (grind (arith, nat_tests))
    by_tests false u true v i = later (closes a.request) (a.session == c) ((view_after (up_to m done)).closed c) (f i)
    by_tests false u false v i = f i

closed_more : (n m c : ℕ) (done : List Applied) → n ≤ m → ClosedIn n c done → ClosedIn m c done
closed_more n m c [] b i = i
closed_more n m c (a ∷ done) b i = more_step n m c a done b (closed_more n m c done b) i

closes_there : (t c : ℕ) (a : Applied) (done : List Applied) → a.tx ≡ t → a.session ≡ c → closes a.request ≡ true → ClosedIn t c (a ∷ done)
closes_there t c a done e f g = let x : nat_le a.tx t ≡ true = grind (arith, nat_tests) in let y : (a.session == c) ≡ true = grind (arith, nat_tests) in rw (x, g, y) refl

-- a commit that closes
closed_by : (t c : ℕ) (a : Applied) (done : List Applied) → applied_as t done ≡ Some a → a.session ≡ c → closes a.request ≡ true → ClosedIn t c done
closed_by t c a [] q e f = absurd (none-some a q)
closed_by t c a (b ∷ done) q e f = by_test (λ w. closed_by t c a done w e f) (nat_eq b.tx t) refl q
  where
    by_test : (applied_as t done ≡ Some a → ClosedIn t c done) → (x : Bool) → nat_eq b.tx t ≡ x → (if x then Some b else applied_as t done) ≡ Some a → ClosedIn t c (b ∷ done)
    by_test g true u w = let s = same_Some b a w in closes_there t c b done (grind (arith, nat_tests)) (ap (λ z. z.session) s ∙ e) (ap (λ z. closes z.request) s ∙ f)
    by_test g false u w = closed_one t c b done (g w)

-- what a commit is of
pub applied_is : (p : Plan) (t n c k : ℕ) (h : List Entry) (a : Applied) (r : Request) → IsHistory p h → IsPushOf t n c k h → committed_as p t h ≡ Some a → request_of p c k h ≡ Some r → (a.session ≡ c) × (a.k ≡ k) × (a.request ≡ r)
applied_is p t n c k h a r l i q f =
    let x = of_push p t h a l q in
    let y = push_asks_for_its_request p t n c k h l i in
    let z = same_Some (record { session = a.session; k = a.k; moment = a.moment; request = a.request }) (record { session = c; k = k; moment = i.push.moment; request = y.0 }) (sym x.pushed ∙ y.2) in
    (ap (λ v. v.session) z, ap (λ v. v.k) z, ap (λ v. v.request) z ∙ same_Some y.0 r (sym y.1 ∙ f))

published_close : (p : Plan) (c k t : ℕ) (b : Bool) (h : List Entry) (r : Request) → IsHistory p h → IsPublishedPush p c k t b h → request_of p c k h ≡ Some r → closes r ≡ true → IsClosedAt p c h t
published_close p c k t b h r l x q f =
    let a = committed_is_filled p t h l x.committed in
    let y = applied_is p t x.function c k h a.0 r l x.is_of a.1 q in
    closed_by t c a.0 (committed_of p h) a.1 y.0 (ap closes y.2 ∙ f)

pub evict_is : (r : Request) → is_evict (Some r) ≡ true → r ≡ request.Close true
evict_is (request.Close true) e = refl
evict_is (request.Close false) e = absurd (false≢true e)
evict_is (request.Create p bytes seq eph) e = absurd (false≢true e)
evict_is (request.Set p bytes version) e = absurd (false≢true e)
evict_is (request.Delete p version) e = absurd (false≢true e)
evict_is (request.Multi ps) e = absurd (false≢true e)

pub evicted_request : (p : Plan) (c k t : ℕ) (h : List Entry) → IsHistory p h → IsPublishedPush p c k t true h → request_of p c k h ≡ Some (request.Close true)
evicted_request p c k t h l x = let y = push_asks_for_its_request p t x.function c k h l x.is_of in y.1 ∙ ap Some (evict_is y.0 (ap is_evict (sym y.1) ∙ x.evicting))

abbrev pub at_closed : Refusal
at_closed = record { code = code.SessionExpired; place = 0 }

-- a close is refused for its closed session alone
refused_close : (v : View) (c place : ℕ) (cd : Code) (b : Bool) → check v c (request.Close b) ≡ Some (record { code = cd; place = place }) → v.closed c ≡ true
refused_close v c place cd b e = by_flag (v.closed c) refl e
  where
    by_flag : (x : Bool) → v.closed c ≡ x → (if x then Some at_closed else check_open v c (request.Close b)) ≡ Some (record { code = cd; place = place }) → v.closed c ≡ true
    by_flag true f g = f
    by_flag false f g = absurd (none-some (record { code = cd; place = place }) g)

-- An operation that closes a client. -------------------------------------------------------------------

-- the session was closed at a number that the client is shown now
record ClosesNow (p : Plan) (c : ℕ) (e : Entry) (h : List Entry) : Type 0 where
  pub number : ℕ
  pub shown : number ≤ seen_by c (e ∷ h)
  pub closed : IsClosedAt p c h number

line_shows : (c n m : ℕ) (o : Option ℕ) → o ≡ Some n → n ≤ (if c == c then number_or m o else m)
line_shows c n m None e = absurd (none-some n e)
line_shows c n m (Some k) e = let s = same_Some k n e in grind (arith, nat_tests)

first_shows : (p : Plan) (h : List Entry) (c n : ℕ) (s : Sent) (ss xs : List Sent) (rest : List Line) (m : ℕ) → xs ≡ s ∷ ss → shown_number (shown_result p h s.result) ≡ Some n → n ≤ seen_lines c (first_line (wording p c h) xs ++ rest) m
first_shows p h c n s ss xs rest m e q =
    subst (λ z. n ≤ seen_lines c (first_line (wording p c h) z ++ rest) m) (sym e)
    (let a = line_shows c n m (shown_number (shown_result p h s.result)) q in let b = seen_grows c rest (seen_in c (reply_line (wording p c h) s) m) in omega (arith, a, b))

pub reply_number : (t : ℕ) (r : Reply) → shown_number (shown_reply t r) ≡ Some t
reply_number t (reply.Created path) = refl
reply_number t (reply.Version version) = refl
reply_number t reply.Deleted = refl
reply_number t reply.Closed = refl
reply_number t (reply.Multi replies) = refl

applied_number : (t : ℕ) (o : Option Applied) → shown_number (shown_applied t o) ≡ Some t
applied_number t None = refl
applied_number t (Some a) = reply_number t (reply_of a)

pub sought_shown : (p : Plan) (h : List Entry) (n : ℕ) (r : Result) → number_looked_for r ≡ Some n → shown_number (shown_result p h r) ≡ Some n
sought_shown p h n Open e = absurd (none-some n e)
sought_shown p h n (Settled (Committed t)) e = applied_number t (committed_as p t h) ∙ e
sought_shown p h n (Settled (Refused cd place at)) e = e
sought_shown p h n (Settled (Passed loss)) e = absurd (none-some n e)
sought_shown p h n (Plain cd) e = absurd (none-some n e)
sought_shown p h n (Expired at) e = absurd (none-some n e)

pub first_sought : (s : Sent) (i n : ℕ) → target_with s.command (number_looked_for s.result) ≡ Some (record { command = i; number = n }) → number_looked_for s.result ≡ Some n
first_sought s i n q = by_number (number_looked_for s.result) q
  where
    by_number : (o : Option ℕ) → target_with s.command o ≡ Some (record { command = i; number = n }) → o ≡ Some n
    by_number None w = absurd (none-some _ w)
    by_number (Some m) w = ap (λ t. Some t.number) (same_Some (record { command = s.command; number = m }) (record { command = i; number = n }) w)

pub writes_same : (r s : Request) → Writes r ≡ Writes s → r ≡ s
writes_same r s e = cc

close_known : (p : Plan) (c n : ℕ) (h : List Entry) (s : Sent) (x : IsEntered p c (client_of p c h).begun h s) → HasFittingVerbs p → IsHistory p h → IsTrueResult p c s.k h s.result → is_close (asked p c s.command) ≡ true → number_looked_for s.result ≡ Some n → IsClosedAt p c h n
close_known p c n h s x v l t f q = by_result s.result t q
  where
    asks : 1 ≤ s.k → request_of p c s.k h ≡ Some (request.Close false)
    asks b = let m = its_message p c (client_of p c h).begun h s x b in m.asks ∙ ap Some (writes_same m.request (request.Close false) (sym m.writes ∙ (v.closes c s.command x.ask x.is_asked).wants (ap is_close (sym x.is_asked) ∙ f)))

    by_result : (r : Result) → IsTrueResult p c s.k h r → number_looked_for r ≡ Some n → IsClosedAt p c h n
    by_result Open i e = absurd (none-some n e)
    by_result (Settled (Committed u)) i e = subst (IsClosedAt p c h) (same_Some u n e) (published_close p c s.k u false h (request.Close false) l i (asks (reached p i.function c s.k h l i.is_of.task).0) refl)
    by_result (Settled (Refused cd place at)) i e = subst (IsClosedAt p c h) (same_Some at n e) (refused_close (view_after (up_to at (committed_of p h))) c place cd false (refused_holds_at_its_number p c s.k place at cd h (request.Close false) v.reads l i (asks (outcome_is_of_a_settled p c s.k h (Refused cd place at) l i).0)))
    by_result (Settled (Passed loss)) i e = absurd (none-some n e)
    by_result (Plain cd) i e = absurd (none-some n e)
    by_result (Expired at) i e = absurd (none-some n e)

look_closes : (p : Plan) (c i n : ℕ) (e : Entry) (h : List Entry) (xs : List Sent) → HasFittingVerbs p → IsHistory p (e ∷ h) → (client_of p c h).sent ≡ xs → e.lines ≡ first_line (wording p c h) (client_of p c h).sent ++ reply_lines (wording p c h) (ready_first by_result (kept_after p c h e.op)) → target_sent by_result xs ≡ Some (record { command = i; number = n }) → (looked_for by_result (asks_in p c) xs (client_of p c h)).closed ≡ true → ((client_of p c h).closed ≡ true) ⊎ ClosesNow p c e h
look_closes p c i n e h [] v l q g t f = inl f
look_closes p c i n e h (s ∷ ss) v l q g t f = by_verb (is_close (asked p c s.command)) refl f
  where
    among : IsAmong s (client_of p c h).sent
    among = subst (IsAmong s) (sym q) (inl refl)

    sought : number_looked_for s.result ≡ Some n
    sought = first_sought s i n t

    known : is_close (asked p c s.command) ≡ true → ClosesNow p c e h
    known w =
        let k = sent_tracked p c h v.reads l.0 in
        record {
          number = n;
          shown = subst (λ ls. n ≤ seen_lines c ls (seen_by c h)) (sym g) (first_shows p h c n s ss (client_of p c h).sent (reply_lines (wording p c h) (ready_first by_result (kept_after p c h e.op))) (seen_by c h) q (sought_shown p h n s.result sought));
          closed = close_known p c n h s (kept_commands_are_entered p c h s l.0 among) v l.0 (tracked_among p c h k.answered k.last (client_of p c h).sent _ _ s k.tracked among) w sought;
        }

    by_verb : (b : Bool) → is_close (asked p c s.command) ≡ b → (close_if b (record (client_of p c h) { sent = ss })).closed ≡ true → ((client_of p c h).closed ≡ true) ⊎ ClosesNow p c e h
    by_verb true w z = inr (known w)
    by_verb false w z = inl z

looks_closes : (p : Plan) (c i n : ℕ) (e : Entry) (h : List Entry) (r : Option Reading) → HasFittingVerbs p → IsHistory p (e ∷ h) → (client_of p c h).reading ≡ r → e.lines ≡ looked_lines (wording p c h) (seen_by c h) (client_of p c h) (client_of p c h).reading ++ reply_lines (wording p c h) (ready_first by_result (kept_after p c h e.op)) → target_of by_result (seen_by c h) (client_of p c h) r ≡ Some (record { command = i; number = n }) → (looked by_result (asks_in p c) r (client_of p c h)).closed ≡ true → ((client_of p c h).closed ≡ true) ⊎ ClosesNow p c e h
looks_closes p c i n e h None v l q g t f = look_closes p c i n e h (client_of p c h).sent v l refl (g ∙ ap (λ r. looked_lines (wording p c h) (seen_by c h) (client_of p c h) r ++ reply_lines (wording p c h) (ready_first by_result (kept_after p c h e.op))) q) t f
looks_closes p c i n e h (Some r) v l q g t f = inl (registering (registers (asked p c ((client_of p c h).begun + 1)) r.node) f)
  where
    registering : (b : Bool) → (looked_at b r (client_of p c h)).closed ≡ true → (client_of p c h).closed ≡ true
    registering true z = z
    registering false z = z

kept_closed : (k : ℕ) (o : Option Outcome) (x : Client Sent) → (settle_with by_result k (settled_as o) x).closed ≡ x.closed
kept_closed k None x = refl
kept_closed k (Some o) x = refl

expiry_shows : (p : Plan) (c t m : ℕ) (b : Bool) (rest : List Line) → b ≡ false → t ≤ seen_lines c ((if b then [] else line.Expired c t ∷ []) ++ rest) m
expiry_shows p c t m true rest e = absurd (false≢true (sym e))
expiry_shows p c t m false rest e = let a = seen_grows c rest (seen_in c (line.Expired c t) m) in let b : t ≤ seen_in c (line.Expired c t) m = grind (arith, nat_tests) in omega (arith, a, b)

eviction_closes : (p : Plan) (c k t : ℕ) (e : Entry) (h : List Entry) (b : Bool) → IsHistory p (e ∷ h) → (client_of p c h).closed ≡ b → IsPublishedPush p c k t true h → e.lines ≡ (if (client_of p c h).closed then [] else line.Expired c t ∷ []) ++ reply_lines (wording p c h) (ready_first by_result (kept_after p c h e.op)) → ((client_of p c h).closed ≡ true) ⊎ ClosesNow p c e h
eviction_closes p c k t e h true l f x g = inl f
eviction_closes p c k t e h false l f x g = inr (record {
  number = t;
  shown = subst (λ ls. t ≤ seen_lines c ls (seen_by c h)) (sym g) (expiry_shows p c t (seen_by c h) (client_of p c h).closed (reply_lines (wording p c h) (ready_first by_result (kept_after p c h e.op))) f);
  closed = published_close p c k t true h (request.Close true) l.0 x (evicted_request p c k t h l.0 x) refl;
})

closes_now : (p : Plan) (c : ℕ) (e : Entry) (h : List Entry) (o : Op) → HasFittingVerbs p → IsHistory p (e ∷ h) → client_in o ≡ Some c → OperationSays p c h o → IsDue p h o → e.lines ≡ own_lines (wording p c h) (sight_of p c h) (client_of p c h) o ++ reply_lines (wording p c h) (ready_first by_result (kept_after p c h e.op)) → (acted_by (sight_of p c h) o (client_of p c h)).closed ≡ true → ((client_of p c h).closed ≡ true) ⊎ ClosesNow p c e h
closes_now p c e h (op.TakeEvicted d k t) v l q a i g f = let s : d ≡ c = same_Some d c q in eviction_closes p c k t e h (client_of p c h).closed l refl (first_true p c h (inbox_of p c h) i.0 (Evicted k t) (subst (λ z. inbox_of p z h ≡ Evicted k t ∷ i.0) s i.1) (inbox_messages p c h l.0)) g
closes_now p c e h (op.LookOk d j m) v l q a i g f = looks_closes p c j a.0.number e h (client_of p c h).reading v l refl g a.0.target f
closes_now p c e h (op.TakeRefused d k) v l q a i g f = inl (sym (kept_closed k (kept_outcome (sight_of p c h).head) (client_of p c h)) ∙ f)
closes_now p c e h (op.TakeLost d k) v l q a i g f = inl (sym (kept_closed k (kept_outcome (sight_of p c h).head) (client_of p c h)) ∙ f)
closes_now p c e h o v l q a i g f = inl f

-- Histories. -------------------------------------------------------------------------------------------

closed_later : (p : Plan) (c n m : ℕ) (e : Entry) (h : List Entry) → IsHistory p (e ∷ h) → n ≤ m → IsClosedAt p c h n → IsClosedAt p c (e ∷ h) m
closed_later p c n m e h l b i = closed_more n m c (committed_of p (e ∷ h)) b (closed_on p n c h e.op l.0 (due p e h l) i)

closed_step : (p : Plan) (c : ℕ) (e : Entry) (h : List Entry) → HasFittingVerbs p → IsHistory p (e ∷ h) → ((client_of p c h).closed ≡ true → IsClosedAt p c h (seen_by c h)) → (client_of p c (e ∷ h)).closed ≡ true → IsClosedAt p c (e ∷ h) (seen_by c (e ∷ h))
closed_step p c e h v l i = client_after p c e h (λ x. x.closed ≡ true → IsClosedAt p c (e ∷ h) (seen_by c (e ∷ h))) old (λ q f. either (closes_now p c e h e.op v l q (client_operations_say p c e h l q) (due p e h l) (lines_are p e h l ∙ next_is p h c e.op q) f))
  where
    old : (client_of p c h).closed ≡ true → IsClosedAt p c (e ∷ h) (seen_by c (e ∷ h))
    old f = closed_later p c (seen_by c h) (seen_by c (e ∷ h)) e h l (seen_grows c e.lines (seen_by c h)) (i f)

    either : ((client_of p c h).closed ≡ true) ⊎ ClosesNow p c e h → IsClosedAt p c (e ∷ h) (seen_by c (e ∷ h))
    either (inl f) = old f
    either (inr x) = closed_later p c x.number (seen_by c (e ∷ h)) e h l x.shown x.closed

pub closed_clients_are_right : ClosedClientsAreRight
closed_clients_are_right p c [] v l f = absurd (false≢true f)
closed_clients_are_right p c (e ∷ h) v l f = closed_step p c e h v l (closed_clients_are_right p c h v l.0) f

-- Commands that met a closed session. ------------------------------------------------------------------

pub known_stays : (p : Plan) (c i : ℕ) (e : Entry) (h : List Entry) (r : Result) → IsHistory p (e ∷ h) → KnownClosed p h c i r → KnownClosed p (e ∷ h) c i r
known_stays p c i e h (Expired at) l x = let g = (numbers_never_fall h (e ∷ [])).mark in let b = x.1 in (x.0, omega (arith, g, b), closed_later p c at at e h l (omega arith) x.2)
known_stays p c i e h Open l x = tt
known_stays p c i e h (Settled o) l x = tt
known_stays p c i e h (Plain cd) l x = tt

local_known : (p : Plan) (c i seen : ℕ) (h : List Entry) (b : Bool) → is_unfit (asked p c i) ≡ b → seen ≤ mark_of h → (b ≡ false → IsClosedAt p c h seen) → KnownClosed p h c i (local_result b seen)
local_known p c i seen h true e a f = tt
local_known p c i seen h false e a f = (e, a, f refl)

begun_known : (p : Plan) (c : ℕ) (h : List Entry) (o : Op) (s : Sent) → HasFittingVerbs p → IsHistory p h → OperationSays p c h o → begun_by p c (seen_by c h) o ≡ Some s → KnownClosed p h c s.command s.result
begun_known p c h (op.Send d i k) s v l a g = subst (λ z. KnownClosed p h c z.command z.result) (same_Some _ s g) tt
begun_known p c h (op.SendFault d i) s v l a g = subst (λ z. KnownClosed p h c z.command z.result) (same_Some _ s g) tt
begun_known p c h (op.Local d i) s v l a g = subst (λ z. KnownClosed p h c z.command z.result) (same_Some _ s g) (local_known p c i (seen_by c h) h (is_unfit (asked p c i)) refl (seen_published p c h v.reads l) (λ e. closed_clients_are_right p c h v l (either e a.1)))
  where
    either : is_unfit (asked p c i) ≡ false → (a.0.ask.want ≡ Unfit) ⊎ ((client_of p c h).closed ≡ true) → (client_of p c h).closed ≡ true
    either e (inl w) = absurd (false≢true (sym e ∙ (ap is_unfit a.0.is_asked ∙ ap is_unfit_want w)))
    either e (inr w) = w
begun_known p c h o s v l a g = absurd (grind arith)

abbrev KnownAt : Plan → ℕ → List Entry → Type 0
KnownAt p c h = (s : Sent) → IsAmong s (client_of p c h).sent → KnownClosed p h c s.command s.result

acted_known : (p : Plan) (c : ℕ) (e : Entry) (h : List Entry) → HasFittingVerbs p → IsHistory p (e ∷ h) → client_in e.op ≡ Some c → KnownAt p c h → (s : Sent) → IsAmong s (kept_after p c h e.op) → KnownClosed p (e ∷ h) c s.command s.result
acted_known p c e h v l q i s a = by_source (kept_commands_have_their_source p c h e.op s a)
  where
    by_source : KeptFrom p c h e.op s → KnownClosed p (e ∷ h) c s.command s.result
    by_source (Before b) = known_stays p c s.command e h s.result l (i s b)
    by_source (Told t) = subst (λ z. KnownClosed p (e ∷ h) c z.command z.result) (sym t.told) tt
    by_source (Begun f) = known_stays p c s.command e h s.result l (begun_known p c h e.op s v l.0 (client_operations_say p c e h l q) f)

known_step : (p : Plan) (c : ℕ) (e : Entry) (h : List Entry) → HasFittingVerbs p → IsHistory p (e ∷ h) → KnownAt p c h → KnownAt p c (e ∷ h)
known_step p c e h v l i =
    client_after p c e h (λ x. (s : Sent) → IsAmong s x.sent → KnownClosed p (e ∷ h) c s.command s.result)
    (λ s a. known_stays p c s.command e h s.result l (i s a))
    (λ q s a. acted_known p c e h v l q i s (among_unready s (kept_after p c h e.op) a))

pub expired_met_a_closed_session : ExpiredMetAClosedSession
expired_met_a_closed_session p c [] s v l a = absurd a
expired_met_a_closed_session p c (e ∷ h) s v l a = known_step p c e h v l (λ x b. expired_met_a_closed_session p c h x v l.0 b) s a

pub expired_by_an_operation : ExpiredByAnOperation
expired_by_an_operation p c e h s v l q a = acted_known p c e h v l q (λ x b. expired_met_a_closed_session p c h x v l.0 b) s a
