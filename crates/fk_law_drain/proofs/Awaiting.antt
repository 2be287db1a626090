-- A client waits for what became of its requests until a message of its inbox tells it.
use Rattle.std.specs.Prelude.{◌==◌, ◌&&◌, ◌||◌, if◌then◌else◌}
use Rattle.std.proofs.Common.{◌≡◌, ℕ, ◌+◌, ◌≤◌, ◌++◌, inl, inr, Bool, true, false, List, [], ◌∷◌, refl, sym, ◌∙◌, ap, subst, arith, Option, Some, None}
use Rattle.std.proofs.lemmas.Bool.{false≢true, cond_both, or_right, eqb-true}
use Rattle.std.proofs.lemmas.Bool.Decides.{nat_tests}
use Rattle.std.proofs.lemmas.Option.{same_Some, none-some}
use Rattle.fk_base.specs.declared.code.Code.TheVariants as code
use Rattle.fk_tree.specs.declared.request.Request.TheVariants as request
use Rattle.fk_print.specs.declared.entry.Entry.{Entry}
use Rattle.fk_print.specs.declared.op.Op.{Op}
use Rattle.fk_print.specs.declared.op.Op.TheVariants as op
use Rattle.fk_spec.specs.Plan.{Plan, Ask, Want, Unfit, Writes, Reads, asked}
use Rattle.fk_spec.specs.Shown.{seen_by}
use Rattle.fk_spec.specs.Start.{Follows, Leads, count_sent, request_from, request_in, request_of, sends_of, sent_in, task_of, written}
use Rattle.fk_spec.specs.Start as start
use Rattle.fk_spec.specs.Settling.{Outcome, Committed, Passed, outcome_of, settled_of}
use Rattle.fk_spec.specs.Lanes.{Message, Done, Evicted, Kept, Watch, Ping, inbox_after, inbox_of, is_evict, kept_message, posted_in, reply_message, takes, with_posted, without_first}
use Rattle.fk_spec.specs.Sight.{first_message, sight_of}
use Rattle.fk_spec.specs.Client.{acted_by, by_result, client_by, client_in, client_of, flushed, is_open, is_unfit, kept_outcome, local_result, settle_with, settled_as, with_told, without_ready, Client, Open, Plain, Sent, Settled}
use Rattle.fk_spec.specs.Follower.{Follower}
use Rattle.fk_spec.specs.Follower as follower
use Rattle.fk_spec.specs.Function.{Place, Absent, Following, Leading, Telling, Beating, place_of}
use Rattle.fk_spec.specs.Next.{IsHistory}
use Rattle.fk_law.specs.Due.{IsDue, IsPushOf, Replies}
use Rattle.fk_law.specs.Progress.{progress}
use Rattle.fk_law.specs.Settled.{Answered}
use Rattle.fk_law.proofs.Due.{client_operations_say, due}
use Rattle.fk_law.proofs.Outcomes.{settled_have_an_outcome}
use Rattle.fk_law.proofs.Settled.{answered_at, reached}
use Rattle.fk_law.proofs.Starting.{follower_task, leader_task}
use Rattle.fk_law_client.specs.Kept.{KeptFrom, Before, Told, Begun, begun_by}
use Rattle.fk_law_client.specs.Lines.{IsAmong, kept_after}
use Rattle.fk_law.specs.Operations.{OperationSays}
use Rattle.fk_law_client.specs.Tracking.{AreTracked, IsSentSo, IsSentWith, later}
use Rattle.fk_law_client.proofs.Kept.{among_unready, kept_commands_have_their_source}
use Rattle.fk_law_client.proofs.Tracking.{sent_tracked}
use Rattle.fk_law_reply.specs.Plans.{HasFittingVerbs}
use Rattle.fk_law_drain.specs.Delivering.{IsReplied, awaits_outcome, is_outcome_told, tells_outcome}
use Rattle.fk_base.proofs.Logic.{itself}

-- What is awaited. -------------------------------------------------------------------------------------

-- a command among these that was sent with message k, of which nothing is known
pub record IsAwaited (k : ℕ) (ss : List Sent) : Type 0 where
  pub sent : Sent
  pub among : IsAmong sent ss
  pub number : sent.k ≡ k
  pub unknown : is_open sent.result ≡ true

both : (a b : ℕ) (o : Bool) → ((a == b) && o) ≡ true → (a ≡ b) × (o ≡ true)
both a b o e = (grind (arith, nat_tests), grind (arith, nat_tests))

pub awaited : (k : ℕ) (ss : List Sent) → awaits_outcome k ss ≡ true → IsAwaited k ss
awaited k [] e = absurd (false≢true e)
awaited k (s ∷ ss) e = by_test (λ f. awaited k ss f) ((s.k == k) && is_open s.result) refl e
  where
    further : IsAwaited k ss → IsAwaited k (s ∷ ss)
    further x = record { sent = x.sent; among = inr x.among; number = x.number; unknown = x.unknown }

    by_test : (awaits_outcome k ss ≡ true → IsAwaited k ss) → (b : Bool) → ((s.k == k) && is_open s.result) ≡ b → (b || awaits_outcome k ss) ≡ true → IsAwaited k (s ∷ ss)
    by_test f true g _ = let w = both s.k k (is_open s.result) g in record { sent = s; among = inl refl; number = w.0; unknown = w.1 }
    by_test f false g x = further (f x)

tested : (a b : ℕ) (o : Bool) (rest : Bool) → a ≡ b → o ≡ true → (((a == b) && o) || rest) ≡ true
tested a b o rest e f = grind (arith, nat_tests)

pub is_awaited : (k : ℕ) (s : Sent) (ss : List Sent) → IsAmong s ss → s.k ≡ k → is_open s.result ≡ true → awaits_outcome k ss ≡ true
is_awaited k s [] i e f = absurd i
is_awaited k s (x ∷ xs) (inl i) e f = tested x.k k (is_open x.result) (awaits_outcome k xs) (ap (λ z. z.k) (sym i) ∙ e) (ap (λ z. is_open z.result) (sym i) ∙ f)
is_awaited k s (x ∷ xs) (inr i) e f = or_right ((x.k == k) && is_open x.result) (awaits_outcome k xs) (is_awaited k s xs i e f)

-- A command of which nothing is known was sent. --------------------------------------------------------

-- a number of a message of session c
abbrev pub IsGiven : ℕ → ℕ → List Entry → Type 0
IsGiven c k h = (1 ≤ k) × (k ≤ sends_of c h)

pub given_stays : (c k : ℕ) (e : Entry) (h : List Entry) → IsGiven c k h → IsGiven c k (e ∷ h)
given_stays c k e h g = let a = counts (sent_in c h e.op) (sends_of c h) in let b = g.1 in (g.0, omega (arith, a, b))
  where
    counts : (o : Option start.Origin) (n : ℕ) → n ≤ count_sent o n
    counts o n = grind arith

begun_open : (p : Plan) (c : ℕ) (h : List Entry) (o : Op) (s : Sent) → client_in o ≡ Some c → OperationSays p c h o → begun_by p c (seen_by c h) o ≡ Some s → is_open s.result ≡ true → (s.k ≡ sends_of c h + 1) × (count_sent (sent_in c h o) (sends_of c h) ≡ sends_of c h + 1)
begun_open p c h (op.Send d i k) s q a f g = (ap (λ z. z.k) (sym (same_Some (record { command = i; k = k; result = Open }) s f)) ∙ a.1, counted (same_Some d c q))
  where
    counted : d ≡ c → count_sent (sent_in c h (op.Send d i k)) (sends_of c h) ≡ sends_of c h + 1
    counted e = grind (arith, nat_tests)
begun_open p c h (op.SendFault d i) s q a f g = absurd (false≢true (ap (λ z. is_open z.result) (same_Some (record { command = i; k = 0; result = Plain code.ConnectionLoss }) s f) ∙ g))
begun_open p c h (op.Local d i) s q a f g = absurd (known (is_unfit (asked p c i)) (ap (λ z. is_open z.result) (same_Some (record { command = i; k = 0; result = local_result (is_unfit (asked p c i)) (seen_by c h) }) s f) ∙ g))
  where
    known : (b : Bool) → is_open (local_result b (seen_by c h)) ≡ true → ⊥
    known true e = false≢true e
    known false e = false≢true e
begun_open p c h o s q a f g = absurd (none-some s f)

-- A client after an entry is as it was, where the entry isn't its own, or as its own operation leaves it.
pub client_either : (p : Plan) (c : ℕ) (e : Entry) (h : List Entry) (P : Client Sent → Type 0) → ((client_in e.op ≡ Some c → ⊥) → P (client_of p c h)) → (client_in e.op ≡ Some c → P (flushed by_result (acted_by (sight_of p c h) e.op (client_of p c h)))) → P (client_of p c (e ∷ h))
client_either p c e h P other own = by_client (client_in e.op) refl
  where
    none_is : client_in e.op ≡ None → client_in e.op ≡ Some c → ⊥
    none_is q f = none-some c (sym q ∙ f)

    others : (s : ℕ) → client_in e.op ≡ Some s → (s == c) ≡ false → client_in e.op ≡ Some c → ⊥
    others s q g f = let w : s ≡ c = same_Some s c (sym q ∙ f) in grind (arith, nat_tests)

    by_client : (o : Option ℕ) → client_in e.op ≡ o → P (client_by (sight_of p c h) o e.op (client_of p c h))
    by_client None q = other (none_is q)
    by_client (Some s) q = cond_both (s == c) (flushed by_result (acted_by (sight_of p c h) e.op (client_of p c h))) (client_of p c h) P (λ t. own (q ∙ ap Some (eqb-true s c t))) (λ t. other (others s q t))

abbrev OpenAreGiven : ℕ → List Entry → List Sent → Type 0
OpenAreGiven c h ss = (s : Sent) → IsAmong s ss → is_open s.result ≡ true → IsGiven c s.k h

open_after : (p : Plan) (c : ℕ) (e : Entry) (h : List Entry) → IsHistory p (e ∷ h) → client_in e.op ≡ Some c → OpenAreGiven c h (client_of p c h).sent → OpenAreGiven c (e ∷ h) (kept_after p c h e.op)
open_after p c e h l q i s a f = by_source (kept_commands_have_their_source p c h e.op s a)
  where
    by_source : KeptFrom p c h e.op s → IsGiven c s.k (e ∷ h)
    by_source (Before b) = given_stays c s.k e h (i s b f)
    by_source (Told t) = absurd (false≢true (ap (λ z. is_open z.result) (sym t.told) ∙ f))
    by_source (Begun b) = let w = begun_open p c h e.op s q (client_operations_say p c e h l q) b f in let x = w.0 in let y = w.1 in (omega (arith, x), omega (arith, x, y))

pub open_are_given : (p : Plan) (c : ℕ) (h : List Entry) → IsHistory p h → OpenAreGiven c h (client_of p c h).sent
open_are_given p c [] l s a f = absurd a
open_are_given p c (e ∷ h) l s a f =
    client_either p c e h (λ x. OpenAreGiven c (e ∷ h) x.sent)
    (λ _ y b g. given_stays c y.k e h (open_are_given p c h l.0 y b g))
    (λ q y b g. open_after p c e h l q (open_are_given p c h l.0) y (among_unready y (kept_after p c h e.op) b) g) s a f

-- nothing that wasn't awaited comes to be, of a message that was sent
awaited_before : (p : Plan) (c k : ℕ) (e : Entry) (h : List Entry) → IsHistory p (e ∷ h) → client_in e.op ≡ Some c → k ≤ sends_of c h → awaits_outcome k (kept_after p c h e.op) ≡ true → awaits_outcome k (client_of p c h).sent ≡ true
awaited_before p c k e h l q b i = by_source (awaited k (kept_after p c h e.op) i)
  where
    by_kept : (x : IsAwaited k (kept_after p c h e.op)) → KeptFrom p c h e.op x.sent → awaits_outcome k (client_of p c h).sent ≡ true
    by_kept x (Before a) = is_awaited k x.sent (client_of p c h).sent a x.number x.unknown
    by_kept x (Told t) = absurd (false≢true (ap (λ z. is_open z.result) (sym t.told) ∙ x.unknown))
    by_kept x (Begun f) = let w = (begun_open p c h e.op x.sent q (client_operations_say p c e h l q) f x.unknown).0 in let n = x.number in absurd (omega (arith, w, n, b))

    by_source : IsAwaited k (kept_after p c h e.op) → awaits_outcome k (client_of p c h).sent ≡ true
    by_source x = by_kept x (kept_commands_have_their_source p c h e.op x.sent x.among)

awaited_unready : (k : ℕ) (ss : List Sent) → awaits_outcome k (without_ready by_result ss) ≡ true → awaits_outcome k ss ≡ true
awaited_unready k ss i = let x = awaited k (without_ready by_result ss) i in is_awaited k x.sent ss (among_unready x.sent ss x.among) x.number x.unknown

-- Each message is awaited once. ------------------------------------------------------------------------

none_beyond : (p : Plan) (c k : ℕ) (h : List Entry) (n last : ℕ) (ss : List Sent) (begun top : ℕ) → 1 ≤ k → k ≤ last → AreTracked p c h n last ss begun top → awaits_outcome k ss ≡ false
none_beyond p c k h n last [] begun top a b x = refl
none_beyond p c k h n last (s ∷ ss) begun top a b x = neither (s.k == k) (is_open s.result) (awaits_outcome k ss) (another x.1) (none_beyond p c k h (n + 1) (later last s.k) ss begun top a (farther x.1) x.3)
  where
    another : IsSentSo c last h s → (s.k == k) ≡ false
    another (inl e) = grind (arith, nat_tests)
    another (inr e) = let d = e.0 in grind (arith, nat_tests)

    farther : IsSentSo c last h s → k ≤ later last s.k
    farther (inl e) = grind (arith, nat_tests)
    farther (inr e) = let d = e.0 in grind (arith, nat_tests)

    neither : (a b c : Bool) → a ≡ false → c ≡ false → ((a && b) || c) ≡ false
    neither false b c e f = f
    neither true b c e f = absurd (false≢true (sym e))

-- what is told is awaited no more
told_once : (p : Plan) (c k : ℕ) (h : List Entry) (w : Outcome) (n last : ℕ) (ss : List Sent) (begun top : ℕ) → 1 ≤ k → AreTracked p c h n last ss begun top → awaits_outcome k (with_told by_result k (Settled w) ss) ≡ false
told_once p c k h w n last [] begun top a x = refl
told_once p c k h w n last (s ∷ ss) begun top a x = by_test (told_once p c k h w (n + 1) (later last s.k) ss begun top a x.3) ((s.k == k) && is_open s.result) refl
  where
    none_open : (a b : Bool) → b ≡ false → ((a && false) || b) ≡ false
    none_open true b e = e
    none_open false b e = e

    reached_so : ((s.k == k) && is_open s.result) ≡ true → k ≤ later last s.k
    reached_so e = grind (arith, nat_tests)

    first : (b c : Bool) → b ≡ false → c ≡ false → (b || c) ≡ false
    first false c e f = f
    first true c e f = absurd (false≢true (sym e))

    by_test : awaits_outcome k (with_told by_result k (Settled w) ss) ≡ false → (b : Bool) → ((s.k == k) && is_open s.result) ≡ b → awaits_outcome k (if b then record s { result = Settled w } ∷ ss else s ∷ with_told by_result k (Settled w) ss) ≡ false
    by_test f true e = none_open (s.k == k) (awaits_outcome k ss) (none_beyond p c k h (n + 1) (later last s.k) ss begun top a (reached_so e) x.3)
    by_test f false e = first ((s.k == k) && is_open s.result) (awaits_outcome k (with_told by_result k (Settled w) ss)) e f

-- a message that is awaited was sent with a command
sent_with : (p : Plan) (c k : ℕ) (h : List Entry) (n last : ℕ) (ss : List Sent) (begun top : ℕ) → 1 ≤ k → AreTracked p c h n last ss begun top → awaits_outcome k ss ≡ true → (i : ℕ) × IsSentWith c i k h
sent_with p c k h n last [] begun top a x e = absurd (false≢true e)
sent_with p c k h n last (s ∷ ss) begun top a x e = by_test (λ f. sent_with p c k h (n + 1) (later last s.k) ss begun top a x.3 f) ((s.k == k) && is_open s.result) refl e
  where
    it : s.k ≡ k → IsSentSo c last h s → (i : ℕ) × IsSentWith c i k h
    it f (inl g) = absurd (omega (arith, a, f, g))
    it f (inr g) = (s.command, subst (λ z. IsSentWith c s.command z h) f g.1)

    by_test : (awaits_outcome k ss ≡ true → (i : ℕ) × IsSentWith c i k h) → (b : Bool) → ((s.k == k) && is_open s.result) ≡ b → (b || awaits_outcome k ss) ≡ true → (i : ℕ) × IsSentWith c i k h
    by_test f true g _ = it (both s.k k (is_open s.result) g).0 x.1
    by_test f false g y = f y

-- what a command asks for doesn't evict
no_command_evicts : (p : Plan) (c i : ℕ) → HasFittingVerbs p → is_evict (written (asked p c i)) ≡ false
no_command_evicts p c i v = by_ask (asked p c i) refl
  where
    by_want : (a : Ask) (w : Want) → asked p c i ≡ Some a → a.want ≡ w → is_evict (request_in w) ≡ false
    by_want a (Writes (request.Close evict)) e f = ap (λ z. is_evict (request_in z)) (sym f ∙ (v.closes c i a e).wants ((v.closes c i a e).verb (request.Close evict) f refl))
    by_want a (Writes (request.Create path bytes seq eph)) e f = refl
    by_want a (Writes (request.Set path bytes version)) e f = refl
    by_want a (Writes (request.Delete path version)) e f = refl
    by_want a (Writes (request.Multi parts)) e f = refl
    by_want a (Reads q watch) e f = refl
    by_want a Unfit e f = refl

    by_ask : (o : Option Ask) → asked p c i ≡ o → is_evict (written o) ≡ false
    by_ask None e = refl
    by_ask (Some a) e = by_want a a.want e refl

-- a request that is awaited doesn't evict
no_evict : (p : Plan) (c k : ℕ) (h : List Entry) → HasFittingVerbs p → IsHistory p h → 1 ≤ k → awaits_outcome k (client_of p c h).sent ≡ true → is_evict (request_of p c k h) ≡ false
no_evict p c k h v l a e =
    let t = sent_tracked p c h v.reads l in
    let w = sent_with p c k h t.answered t.last (client_of p c h).sent (client_of p c h).begun (sends_of c h) a t.tracked e in
    ap (λ z. is_evict (request_from p c z)) w.1.origin ∙ no_command_evicts p c w.0 v

-- Inboxes. ---------------------------------------------------------------------------------------------

told_more : (k : ℕ) (ms : List Message) (m : Message) → is_outcome_told k ms ≡ true → is_outcome_told k (ms ++ m ∷ []) ≡ true
told_more k [] m e = absurd (false≢true e)
told_more k (x ∷ xs) m e = by_first (tells_outcome k x) (λ f. told_more k xs m f) e
  where
    by_first : (b : Bool) → (is_outcome_told k xs ≡ true → is_outcome_told k (xs ++ m ∷ []) ≡ true) → (b || is_outcome_told k xs) ≡ true → (b || is_outcome_told k (xs ++ m ∷ [])) ≡ true
    by_first true f g = refl
    by_first false f g = f g

told_last : (k : ℕ) (ms : List Message) (m : Message) → tells_outcome k m ≡ true → is_outcome_told k (ms ++ m ∷ []) ≡ true
told_last k [] m e = or_false (tells_outcome k m) e
  where
    or_false : (a : Bool) → a ≡ true → (a || false) ≡ true
    or_false a e = grind arith
told_last k (x ∷ xs) m e = or_right (tells_outcome k x) (is_outcome_told k (xs ++ m ∷ [])) (told_last k xs m e)

told_posted : (k : ℕ) (ms : List Message) (o : Option Message) → is_outcome_told k ms ≡ true → is_outcome_told k (with_posted ms o) ≡ true
told_posted k ms None e = e
told_posted k ms (Some m) e = told_more k ms m e

takes_own : (c : ℕ) (o : Op) → takes c o ≡ true → client_in o ≡ Some c
takes_own c o e = grind (arith, nat_tests)

own_taken : (c : ℕ) (o : Op) (b : Bool) → (client_in o ≡ Some c → ⊥) → takes c o ≡ b → b ≡ false
own_taken c o true f e = absurd (f (takes_own c o e))
own_taken c o false f e = refl

-- an inbox from which nothing is taken
told_untaken : (p : Plan) (c k : ℕ) (e : Entry) (h : List Entry) → takes c e.op ≡ false → is_outcome_told k (inbox_of p c h) ≡ true → is_outcome_told k (inbox_of p c (e ∷ h)) ≡ true
told_untaken p c k e h t i = subst (λ b. is_outcome_told k (inbox_after b (inbox_of p c h) (posted_in p c h e.op)) ≡ true) (sym t) (told_posted k (inbox_of p c h) (posted_in p c h e.op) i)

-- an inbox of which the first message, which tells it not, is taken
told_taken : (p : Plan) (c k : ℕ) (e : Entry) (h : List Entry) (m : Message) (ms : List Message) → takes c e.op ≡ true → inbox_of p c h ≡ m ∷ ms → tells_outcome k m ≡ false → is_outcome_told k (inbox_of p c h) ≡ true → is_outcome_told k (inbox_of p c (e ∷ h)) ≡ true
told_taken p c k e h m ms t q f i =
    subst (λ b. is_outcome_told k (inbox_after b (inbox_of p c h) (posted_in p c h e.op)) ≡ true) (sym t)
    (subst (λ x. is_outcome_told k (without_first x) ≡ true) (sym q) (rest (tells_outcome k m) f (subst (λ x. is_outcome_told k x ≡ true) q i)))
  where
    rest : (b : Bool) → b ≡ false → (b || is_outcome_told k ms) ≡ true → is_outcome_told k ms ≡ true
    rest true g x = absurd (false≢true (sym g))
    rest false g x = x

-- One entry. -------------------------------------------------------------------------------------------

-- what is told is awaited no more by client c
told_by : (p : Plan) (c j : ℕ) (h : List Entry) (w : Outcome) → HasFittingVerbs p → IsHistory p h → 1 ≤ j → awaits_outcome j (with_told by_result j (Settled w) (client_of p c h).sent) ≡ false
told_by p c j h w v l a = let t = sent_tracked p c h v.reads l in told_once p c j h w t.answered t.last (client_of p c h).sent (client_of p c h).begun (sends_of c h) a t.tracked

-- what remains awaited after an operation that tells the outcome of message j isn't that of j
another_told : (p : Plan) (c j k : ℕ) (h : List Entry) (w : Outcome) → HasFittingVerbs p → IsHistory p h → 1 ≤ k → awaits_outcome k (with_told by_result j (Settled w) (client_of p c h).sent) ≡ true → (j == k) ≡ false
another_told p c j k h w v l a e = by_test (j == k) refl
  where
    by_test : (b : Bool) → (j == k) ≡ b → b ≡ false
    by_test false f = refl
    by_test true f = let g = eqb-true j k f in absurd (false≢true (sym (told_by p c k h w v l a) ∙ subst (λ z. awaits_outcome k (with_told by_result z (Settled w) (client_of p c h).sent) ≡ true) g e))

kept_told : (p : Plan) (c k d j : ℕ) (e : Entry) (h : List Entry) (w : Outcome) (ms : List Message) → HasFittingVerbs p → IsHistory p h → 1 ≤ k → takes c e.op ≡ true → inbox_of p c h ≡ Kept j w ∷ ms → awaits_outcome k (settle_with by_result j (settled_as (kept_outcome (sight_of p c h).head)) (client_of p c h)).sent ≡ true → is_outcome_told k (inbox_of p c h) ≡ true → is_outcome_told k (inbox_of p c (e ∷ h)) ≡ true
kept_told p c k d j e h w ms v l a t q i f =
    told_taken p c k e h (Kept j w) ms t q (another_told p c j k h w v l a (subst (λ z. awaits_outcome k (settle_with by_result j (settled_as (kept_outcome (first_message z))) (client_of p c h)).sent ≡ true) q i)) f

pub takes_now : (c d : ℕ) (e : Entry) (o : Op) → e.op ≡ o → d ≡ c → takes c o ≡ (d == c) → takes c e.op ≡ true
takes_now c d e o q f t = ap (takes c) q ∙ (t ∙ equal f)
  where
    equal : d ≡ c → (d == c) ≡ true
    equal f = grind (arith, nat_tests)

taken_told : (p : Plan) (c k : ℕ) (e : Entry) (h : List Entry) (o : Op) → HasFittingVerbs p → IsHistory p (e ∷ h) → e.op ≡ o → client_in o ≡ Some c → IsDue p h o → 1 ≤ k → awaits_outcome k (kept_after p c h o) ≡ true → is_outcome_told k (inbox_of p c h) ≡ true → is_outcome_told k (inbox_of p c (e ∷ h)) ≡ true
taken_told p c k e h (op.TakeDone d j t) v l q f i a x y =
    let s = same_Some d c f in
    told_taken p c k e h (Done j t) i.0 (takes_now c d e (op.TakeDone d j t) q s refl) (subst (λ z. inbox_of p z h ≡ Done j t ∷ i.0) s i.1) (another_told p c j k h (Committed t) v l.0 a x) y
taken_told p c k e h (op.TakeRefused d j) v l q f i a x y =
    let s = same_Some d c f in
    kept_told p c k d j e h i.0 i.1 v l.0 a (takes_now c d e (op.TakeRefused d j) q s refl) (subst (λ z. inbox_of p z h ≡ Kept j i.0 ∷ i.1) s i.2) x y
taken_told p c k e h (op.TakeLost d j) v l q f i a x y =
    let s = same_Some d c f in
    kept_told p c k d j e h (Passed i.0) i.1 v l.0 a (takes_now c d e (op.TakeLost d j) q s refl) (subst (λ z. inbox_of p z h ≡ Kept j (Passed i.0) ∷ i.1) s i.2) x y
taken_told p c k e h (op.TakeEvicted d j t) v l q f i a x y =
    let s = same_Some d c f in
    told_taken p c k e h (Evicted j t) i.0 (takes_now c d e (op.TakeEvicted d j t) q s refl) (subst (λ z. inbox_of p z h ≡ Evicted j t ∷ i.0) s i.1) refl y
taken_told p c k e h (op.TakeWatch d w) v l q f i a x y =
    let s = same_Some d c f in
    told_taken p c k e h (Watch w) i.0 (takes_now c d e (op.TakeWatch d w) q s refl) (subst (λ z. inbox_of p z h ≡ Watch w ∷ i.0) s i.1) refl y
taken_told p c k e h (op.TakePing d w) v l q f i a x y =
    let s = same_Some d c f in
    told_taken p c k e h (Ping w) i.0 (takes_now c d e (op.TakePing d w) q s refl) (subst (λ z. inbox_of p z h ≡ Ping w ∷ i.0) s i.1) refl y
taken_told p c k e h o v l q f i a x y = told_untaken p c k e h (ap (takes c) q) y

-- A request stays replied to.
pub replied_stays : (p : Plan) (c k : ℕ) (e : Entry) (h : List Entry) → HasFittingVerbs p → IsHistory p (e ∷ h) → IsGiven c k h → IsReplied p c k h → IsReplied p c k (e ∷ h)
replied_stays p c k e h v l g i =
    client_either p c e h (λ x. awaits_outcome k x.sent ≡ true → is_outcome_told k (inbox_of p c (e ∷ h)) ≡ true)
    (λ f a. told_untaken p c k e h (own_taken c e.op (takes c e.op) f refl) (i a))
    (λ q a.
    let b = awaited_unready k (kept_after p c h e.op) a in
    taken_told p c k e h e.op v l refl q (due p e h l) g.0 b (i (awaited_before p c k e h l q g.1 b)))

-- Replies. ---------------------------------------------------------------------------------------------

posted_now : (p : Plan) (n c k : ℕ) (e : Entry) (h : List Entry) (m : Message) → e.op ≡ op.Reply n c k → reply_message (is_evict (request_of p c k h)) k (outcome_of c k h) (task_of n h) ≡ Some m → tells_outcome k m ≡ true → is_outcome_told k (inbox_of p c (e ∷ h)) ≡ true
posted_now p n c k e h m q r t =
    subst (λ o. is_outcome_told k (inbox_after (takes c o) (inbox_of p c h) (posted_in p c h o)) ≡ true) (sym q)
    (by_own (c == c) (itself c))
  where
    by_own : (b : Bool) → b ≡ true → is_outcome_told k (with_posted (inbox_of p c h) (if b then reply_message (is_evict (request_of p c k h)) k (outcome_of c k h) (task_of n h) else None)) ≡ true
    by_own true f = subst (λ z. is_outcome_told k (with_posted (inbox_of p c h) z) ≡ true) (sym r) (told_last k (inbox_of p c h) m t)
    by_own false f = absurd (false≢true f)

-- a follower's reply tells the outcome that it kept
follower_replies : (p : Plan) (n c k : ℕ) (e : Entry) (h : List Entry) (f : Follower) → IsHistory p h → e.op ≡ op.Reply n c k → place_of p n h ≡ Following f → f.stage ≡ follower.Reply → f.session ≡ c → f.k ≡ k → is_outcome_told k (inbox_of p c (e ∷ h)) ≡ true
follower_replies p n c k e h f l q b s g d = told (settled_have_an_outcome p c k h l low high)
  where
    task : task_of n h ≡ Some (Follows c k)
    task = subst (λ z. task_of n h ≡ Some (Follows z k)) g (subst (λ z. task_of n h ≡ Some (Follows f.session z)) d (follower_task p n h f l b))

    low : 1 ≤ k
    low = (reached p n c k h l task).0

    high : k ≤ settled_of c h
    high = subst (λ z. k ≤ settled_of z h) g (subst (λ z. z ≤ settled_of f.session h) d (subst (λ z. Answered (settled_of f.session h) f.k (progress z)) s (answered_at p n h f l b)))

    told : (o : Outcome) × (outcome_of c k h ≡ Some o) → is_outcome_told k (inbox_of p c (e ∷ h)) ≡ true
    told w = posted_now p n c k e h (Kept k w.0) q (ap (reply_message (is_evict (request_of p c k h)) k (outcome_of c k h)) task ∙ ap (kept_message k) w.1) (itself k)

-- a leader's reply tells that its push is done, where its request doesn't evict
leader_replies : (p : Plan) (n t c k : ℕ) (e : Entry) (h : List Entry) → e.op ≡ op.Reply n c k → task_of n h ≡ Some (Leads t) → is_evict (request_of p c k h) ≡ false → is_outcome_told k (inbox_of p c (e ∷ h)) ≡ true
leader_replies p n t c k e h q b f = posted_now p n c k e h (Done k t) q (ap (reply_message (is_evict (request_of p c k h)) k (outcome_of c k h)) b ∙ ap (λ z. Some (if z then Evicted k t else Done k t)) f) (itself k)

pushed_low : (p : Plan) (t n c k : ℕ) (h : List Entry) → IsHistory p h → IsPushOf t n c k h → 1 ≤ k
pushed_low p t n c k h l i = (reached p n c k h l i.task).0

-- A request is replied to, once its reply is sent.
pub replied_now : (p : Plan) (n c k : ℕ) (e : Entry) (h : List Entry) → HasFittingVerbs p → IsHistory p (e ∷ h) → e.op ≡ op.Reply n c k → IsReplied p c k (e ∷ h)
replied_now p n c k e h v l q = by_place (place_of p n h) refl (subst (IsDue p h) q (due p e h l))
  where
    unchanged : client_of p c (e ∷ h) ≡ client_of p c h
    unchanged = ap (λ o. client_by (sight_of p c h) (client_in o) o (client_of p c h)) q

    by_place : (x : Place) → place_of p n h ≡ x → Replies c k h x → IsReplied p c k (e ∷ h)
    by_place (Following f) b i a = follower_replies p n c k e h f l.0 q b i.0 i.1 i.2
    by_place (Leading t s) b i a = leader_replies p n t c k e h q (leader_task p n h t s l.0 b) (no_evict p c k h v l.0 (pushed_low p t i.1 c k h l.0 i.2) (subst (λ z. awaits_outcome k z.sent ≡ true) unchanged a))
    by_place Absent b i a = absurd i
    by_place (Telling u t s) b i a = absurd i
    by_place (Beating u s) b i a = absurd i
