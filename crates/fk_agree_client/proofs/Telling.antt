-- What commits told a client is what their pushes were committed as.
use Rattle.std.specs.Prelude.{⊤, ◌==◌, ◌++◌, if◌then◌else◌}
use Rattle.std.proofs.Common.{◌≡◌, ℕ, ◌+◌, ◌≤◌, inl, inr, Bool, true, false, cond, List, [], ◌∷◌, refl, sym, ◌∙◌, ap, subst, arith, Option, Some, None}
use Rattle.std.proofs.lemmas.Bool.Decides.{nat_tests}
use Rattle.std.proofs.lemmas.Option.{same_Some, none-some}
use Rattle.fk_base.specs.Path.{PathNames}
use Rattle.fk_base.specs.declared.code.Code.TheVariants as code
use Rattle.fk_tree.specs.Apply.{reply_of, reply_to}
use Rattle.fk_tree.specs.declared.applied.Applied.{Applied}
use Rattle.fk_tree.specs.declared.applied.Made.{Made}
use Rattle.fk_tree.specs.declared.request.Request.{Request}
use Rattle.fk_tree.specs.declared.request.Request.TheVariants as request
use Rattle.fk_print.specs.declared.entry.Entry.{Entry}
use Rattle.fk_print.specs.declared.op.Op.{Op}
use Rattle.fk_print.specs.declared.op.Op.TheVariants as op
use Rattle.fk_settle.specs.Transaction.{applied_as}
use Rattle.fk_wire.specs.declared.message.Pushed.{Pushed}
use Rattle.fk_wire.specs.declared.message.Tell.{Tell}
use Rattle.fk_wire.specs.declared.message.Tell.TheVariants as tell
use Rattle.fk_stand.specs.Messages.{done_tell, push_message_of}
use Rattle.fk_spec.specs.Plan.{Plan, Ask, Want, Unfit, Writes, Reads, asks_in, nth}
use Rattle.fk_spec.specs.Start as start
use Rattle.fk_spec.specs.Start.{request_from, request_in, request_of, written}
use Rattle.fk_spec.specs.Settling.{Outcome, Committed, Refused, Passed}
use Rattle.fk_spec.specs.Stored.{committed_as}
use Rattle.fk_spec.specs.Lanes.{Message, Done, Kept, inbox_of}
use Rattle.fk_spec.specs.Client.{Client, Plain, Reading, Sent, acted, client_in, client_of, close_if, is_close, is_open, is_unfit, local_result, next_asked, looked, looked_at, looked_for, registers, settle_with, with_told, without_ready}
use Rattle.fk_spec.specs.Replies.{shown_reply}
use Rattle.fk_spec.specs.Next.{IsHistory}
use Rattle.fk_law.specs.Due.{IsDue}
use Rattle.fk_law.proofs.Publishing.{of_push}
use Rattle.fk_law.proofs.Sending.{committed_is_filled, committed_never_changes, push_asks_for_its_request}
use Rattle.fk_law.proofs.Settled.{reached}
use Rattle.fk_law_client.specs.Inboxes.{IsPublishedPush}
use Rattle.fk_law_client.specs.Tracking.{AreTracked, IsSentSo, KeepsTrack, later}
use Rattle.fk_law_client.proofs.Messages.{inbox_messages}
use Rattle.fk_law_client.proofs.Tracking.{first_true, sent_tracked}
use Rattle.fk_law_watch.specs.FirstNumbers.{ReadsAreReads}
use Rattle.fk_client.specs.Knowing.{all_known, client_known}
use Rattle.fk_client.specs.Known.{by_outcome, kept_as, known, unanswered}
use Rattle.fk_client.specs.Shown.{reply_told, shown_commit, shown_done}
use Rattle.fk_client.specs.Sighting.{outcome_told}
use Rattle.fk_client.specs.declared.unanswered.Outcome as client
use Rattle.fk_client.specs.declared.unanswered.Outcome.TheVariants as outcome
use Rattle.fk_client.specs.declared.unanswered.Unanswered.{Unanswered}
use Rattle.fk_agree.proofs.Carried.{push_is_its_commit}
use Rattle.fk_agree_client.specs.Inbox.{FirstTells}
use Rattle.fk_agree_client.specs.Standing.{AllTell, TellsItsCommit}
use Rattle.fk_agree_client.proofs.Inbox.{mapped}
use Rattle.fk_agree_client.proofs.Reading.{told_sight}
use Rattle.fk_base.proofs.Logic.{and_left, by_test}

-- It stays. ----------------------------------------------------------------------------------------------

tells_stays : (p : Plan) (e : Entry) (h : List Entry) (a : Option Ask) (o : client.Outcome) → IsHistory p (e ∷ h) → TellsItsCommit p h a o → TellsItsCommit p (e ∷ h) a o
tells_stays p e h a (outcome.Done tx name version made) l i = (i.0, committed_never_changes p tx h (e ∷ []) i.0 l i.1, i.2)
tells_stays p e h a outcome.Open l i = tt
tells_stays p e h a (outcome.Refused code at place) l i = tt
tells_stays p e h a (outcome.Lost path own found moment) l i = tt
tells_stays p e h a (outcome.Plain code) l i = tt
tells_stays p e h a (outcome.Expired at) l i = tt

pub all_stay : (p : Plan) (e : Entry) (h : List Entry) (asks : List Ask) (ss : List Unanswered) → IsHistory p (e ∷ h) → AllTell p h asks ss → AllTell p (e ∷ h) asks ss
all_stay p e h asks [] l i = tt
all_stay p e h asks (s ∷ ss) l i = (tells_stays p e h (nth asks s.command) s.outcome l i.0, all_stay p e h asks ss l i.1)

-- What a commit tells. -----------------------------------------------------------------------------------

asks_write : (w : Want) (r : Request) (tx version : ℕ) (name : PathNames) (made : List Made) → request_in w ≡ Some r → shown_done tx name version made w ≡ shown_reply tx (reply_told name version made r)
asks_write Unfit r tx version name made q = absurd (none-some r q)
asks_write (Writes s) r tx version name made q = ap (λ z. shown_reply tx (reply_told name version made z)) (same_Some s r q)
asks_write (Reads a watch) r tx version name made q = absurd (none-some r q)

commit_shows : (o : Option Ask) (r : Request) (tx version : ℕ) (name : PathNames) (made : List Made) → written o ≡ Some r → shown_commit tx name version made o ≡ shown_reply tx (reply_told name version made r)
commit_shows None r tx version name made q = absurd (none-some r q)
commit_shows (Some a) r tx version name made q = asks_write a.want r tx version name made q

replies_to : (a : Applied) (r : Request) → reply_told a.name a.version a.made r ≡ reply_to a r
replies_to a (request.Create path bytes seq eph) = refl
replies_to a (request.Set path bytes version) = refl
replies_to a (request.Delete path version) = refl
replies_to a (request.Close evict) = refl
replies_to a (request.Multi parts) = refl

pushed_one : (x y : start.Pushed) → Some x ≡ Some y → x ≡ y
pushed_one x y e = same_Some x y e

-- a published push of the client's request k, with its message and what it was committed as
record IsToldCommit (p : Plan) (c k tx : ℕ) (h : List Entry) (x : Pushed) : Type 0 where
  pub applied : Applied
  pub committed : committed_as p tx h ≡ Some applied
  pub is : applied_as tx x ≡ applied
  pub request : request_of p c k h ≡ Some applied.request
  pub first : 1 ≤ k

told_commit : (p : Plan) (c k tx : ℕ) (h : List Entry) (x : Pushed) → IsHistory p h → IsPublishedPush p c k tx false h → push_message_of p tx h ≡ Some x → IsToldCommit p c k tx h x
told_commit p c k tx h x l i m =
    let a = committed_is_filled p tx h l i.committed in
    let f = of_push p tx h a.0 l a.1 in
    let r = push_asks_for_its_request p tx i.function c k h l i.is_of in
    let g = ap (λ z. z.request) (pushed_one _ _ (sym r.2 ∙ f.pushed)) in
    record { applied = a.0; committed = a.1; is = push_is_its_commit p tx h x a.0 l m a.1; request = r.1 ∙ ap Some g; first = (reached p i.function c k h l i.is_of.task).0 }

-- a command that awaits it was sent with its request
told_of : (p : Plan) (c k tx : ℕ) (h : List Entry) (x : Pushed) (i : ℕ) → IsToldCommit p c k tx h x → request_of p c k h ≡ written (nth (asks_in p c) i) → TellsItsCommit p h (nth (asks_in p c) i) (outcome.Done tx x.name x.version x.made)
told_of p c k tx h x i t q = (
  t.applied,
  t.committed,
  commit_shows (nth (asks_in p c) i) t.applied.request tx x.version x.name x.made (sym q ∙ t.request)
      ∙ subst (λ a. shown_reply tx (reply_told x.name x.version x.made a.request) ≡ shown_reply tx (reply_of a)) t.is (ap (shown_reply tx) (replies_to (applied_as tx x) x.request)),
)

-- Each command that awaits what is told. -----------------------------------------------------------------

abbrev WouldTell : Plan → List Entry → List Ask → ℕ → client.Outcome → List Unanswered → Type 0
WouldTell p h asks k o [] = ⊤
WouldTell p h asks k o (s ∷ ss) = (by_outcome.awaits k s ≡ true → TellsItsCommit p h (nth asks s.command) o) × WouldTell p h asks k o ss

all_told : (p : Plan) (h : List Entry) (asks : List Ask) (k : ℕ) (o : client.Outcome) (ss : List Unanswered) → AllTell p h asks ss → WouldTell p h asks k o ss → AllTell p h asks (with_told by_outcome k o ss)
all_told p h asks k o [] i w = tt
all_told p h asks k o (s ∷ ss) i w = by_await (by_outcome.awaits k s) refl (all_told p h asks k o ss i.1 w.1)
  where
    by_await : (b : Bool) → by_outcome.awaits k s ≡ b → AllTell p h asks (with_told by_outcome k o ss) → AllTell p h asks (if b then by_outcome.told o s ∷ ss else s ∷ with_told by_outcome k o ss)
    by_await true e r = (w.0 e, i.1)
    by_await false e r = (i.0, r)

-- what isn't a commit tells nothing of one
abbrev IsNoCommit : client.Outcome → Type 0
IsNoCommit o = (p : Plan) (h : List Entry) (a : Option Ask) → TellsItsCommit p h a o

would : (p : Plan) (h : List Entry) (asks : List Ask) (k : ℕ) (o : client.Outcome) (ss : List Unanswered) → IsNoCommit o → WouldTell p h asks k o ss
would p h asks k o [] n = tt
would p h asks k o (s ∷ ss) n = (λ e. n p h (nth asks s.command), would p h asks k o ss n)

sent_so : (p : Plan) (c last k : ℕ) (h : List Entry) (s : Sent) → 1 ≤ k → s.k ≡ k → IsSentSo c last h s → request_of p c k h ≡ written (nth (asks_in p c) s.command)
sent_so p c last k h s b e (inl z) = absurd (omega (arith, b, e, z))
sent_so p c last k h s b e (inr z) = ap (λ j. request_of p c j h) (sym e) ∙ ap (request_from p c) z.1.origin

awaited : (k : ℕ) (s : Unanswered) → by_outcome.awaits k s ≡ true → s.k ≡ k
awaited k s e = let b = and_left (s.k == k) (is_open (known s.outcome)) e in grind (arith, nat_tests)

tracked_would : (p : Plan) (c k tx : ℕ) (h : List Entry) (x : Pushed) (ss : List Unanswered) (n last begun top : ℕ) → IsToldCommit p c k tx h x → AreTracked p c h n last (all_known ss) begun top → WouldTell p h (asks_in p c) k (outcome.Done tx x.name x.version x.made) ss
tracked_would p c k tx h x [] n last begun top t z = tt
tracked_would p c k tx h x (s ∷ ss) n last begun top t z = (
  λ e. told_of p c k tx h x s.command t (sent_so p c last k h (record { command = s.command; k = s.k; result = known s.outcome }) t.first (awaited k s e) z.1),
  tracked_would p c k tx h x ss (n + 1) (later last s.k) begun top t z.3,
)

done_would : (p : Plan) (c k tx : ℕ) (h : List Entry) (x : Pushed) (y : Client Unanswered) → ReadsAreReads p → IsHistory p h → client_known y ≡ client_of p c h → IsToldCommit p c k tx h x → WouldTell p h (asks_in p c) k (outcome.Done tx x.name x.version x.made) y.sent
done_would p c k tx h x y v l q t =
    let z : KeepsTrack p c h (client_known y).sent (client_known y).begun (start.sends_of c h) = subst (λ w. KeepsTrack p c h w.sent w.begun (start.sends_of c h)) (sym q) (sent_tracked p c h v l) in
    tracked_would p c k tx h x y.sent z.answered z.last y.begun (start.sends_of c h) t z.tracked

-- After an operation. ------------------------------------------------------------------------------------

more_tell : (p : Plan) (h : List Entry) (asks : List Ask) (ss : List Unanswered) (s : Unanswered) → AllTell p h asks ss → TellsItsCommit p h (nth asks s.command) s.outcome → AllTell p h asks (ss ++ s ∷ [])
more_tell p h asks [] s i t = (t, tt)
more_tell p h asks (x ∷ ss) s i t = (i.0, more_tell p h asks ss s i.1 t)

pub ready_gone : (p : Plan) (h : List Entry) (asks : List Ask) (ss : List Unanswered) → AllTell p h asks ss → AllTell p h asks (without_ready by_outcome ss)
ready_gone p h asks [] i = tt
ready_gone p h asks (s ∷ ss) i = by_test (by_outcome.is_ready s) (λ b. AllTell p h asks (cond b (without_ready by_outcome ss) (s ∷ ss))) (λ _. ready_gone p h asks ss i.1) (λ _. i)

local_tells : (p : Plan) (h : List Entry) (a : Option Ask) (b : Bool) (seen : ℕ) → TellsItsCommit p h a (kept_as (local_result b seen))
local_tells p h a true seen = tt
local_tells p h a false seen = tt

settled_tell : (p : Plan) (h : List Entry) (asks : List Ask) (k : ℕ) (o : Option client.Outcome) (x : Client Unanswered) → AllTell p h asks x.sent → ((r : client.Outcome) → o ≡ Some r → WouldTell p h asks k r x.sent) → AllTell p h asks (settle_with by_outcome k o x).sent
settled_tell p h asks k None x i w = i
settled_tell p h asks k (Some r) x i w = all_told p h asks k r x.sent i (w r refl)

closed_tell : (p : Plan) (h : List Entry) (asks : List Ask) (b : Bool) (x : Client Unanswered) → AllTell p h asks x.sent → AllTell p h asks (close_if b x).sent
closed_tell p h asks true x i = i
closed_tell p h asks false x i = i

looked_for_tell : (p : Plan) (h : List Entry) (asks : List Ask) (ss : List Unanswered) (x : Client Unanswered) → AllTell p h asks ss → AllTell p h asks x.sent → AllTell p h asks (looked_for by_outcome asks ss x).sent
looked_for_tell p h asks [] x i j = j
looked_for_tell p h asks (s ∷ ss) x i j = closed_tell p h asks (is_close (nth asks s.command)) (record x { sent = ss }) i.1

looked_at_tell : (p : Plan) (h : List Entry) (asks : List Ask) (b : Bool) (r : Reading) (x : Client Unanswered) → AllTell p h asks x.sent → AllTell p h asks (looked_at b r x).sent
looked_at_tell p h asks true r x i = i
looked_at_tell p h asks false r x i = i

looked_tell : (p : Plan) (h : List Entry) (asks : List Ask) (r : Option Reading) (x : Client Unanswered) → AllTell p h asks x.sent → AllTell p h asks (looked by_outcome asks r x).sent
looked_tell p h asks None x i = looked_for_tell p h asks x.sent x i i
looked_tell p h asks (Some r) x i = looked_at_tell p h asks (registers (next_asked asks x) r.node) r x i

-- what the message that is taken tells of its command is true
abbrev ToldIsTrue : Plan → ℕ → List Entry → Option Tell → Client Unanswered → ℕ → Type 0
ToldIsTrue p c h told x k = (r : client.Outcome) → outcome_told told ≡ Some r → WouldTell p h (asks_in p c) k r x.sent

done_is_true : (p : Plan) (c k tx : ℕ) (h : List Entry) (ms : List Message) (told : Option Tell) (x : Client Unanswered) → ReadsAreReads p → IsHistory p h → client_known x ≡ client_of p c h → inbox_of p c h ≡ Done k tx ∷ ms → FirstTells p h (Done k tx ∷ ms) told → ToldIsTrue p c h told x k
done_is_true p c k tx h ms None x v l q g i = absurd i
done_is_true p c k tx h ms (Some t) x v l q g i =
    let y = mapped (done_tell k tx) (push_message_of p tx h) t i in
    let z = told_commit p c k tx h y.0 l (first_true p c h (inbox_of p c h) ms (Done k tx) g (inbox_messages p c h l)) y.1 in
    λ r e. subst (λ o. WouldTell p h (asks_in p c) k o x.sent) (same_Some (outcome.Done tx y.0.name y.0.version y.0.made) r (ap (λ w. outcome_told (Some w)) y.2 ∙ e)) (done_would p c k tx h y.0 x v l q z)

kept_is_true : (p : Plan) (c k : ℕ) (h : List Entry) (o : Outcome) (ms : List Message) (told : Option Tell) (x : Client Unanswered) → FirstTells p h (Kept k o ∷ ms) told → ToldIsTrue p c h told x k
kept_is_true p c k h o ms None x i = absurd i
kept_is_true p c k h (Committed tx) ms (Some t) x i = absurd (none-some t i)
kept_is_true p c k h (Refused code place at) ms (Some t) x i = λ r e. subst (λ z. WouldTell p h (asks_in p c) k z x.sent) (same_Some (outcome.Refused code at place) r (ap (λ w. outcome_told (Some w)) (same_Some _ t i) ∙ e)) (would p h (asks_in p c) k (outcome.Refused code at place) x.sent (λ p h a. tt))
kept_is_true p c k h (Passed None) ms (Some t) x i = absurd (none-some t i)
kept_is_true p c k h (Passed (Some loss)) ms (Some t) x i = λ r e. subst (λ z. WouldTell p h (asks_in p c) k z x.sent) (same_Some (outcome.Lost loss.path loss.own loss.found loss.moment) r (ap (λ w. outcome_told (Some w)) (same_Some (tell.Lost k loss.path loss.own loss.found loss.moment) t i) ∙ e)) (would p h (asks_in p c) k (outcome.Lost loss.path loss.own loss.found loss.moment) x.sent (λ p h a. tt))

pub acted_tell : (p : Plan) (c : ℕ) (h : List Entry) (told : Option Tell) (x : Client Unanswered) (o : Op) → ReadsAreReads p → IsHistory p h → client_known x ≡ client_of p c h → IsDue p h o → client_in o ≡ Some c → FirstTells p h (inbox_of p c h) told → AllTell p h (asks_in p c) x.sent
    → AllTell p h (asks_in p c) (acted by_outcome (told_sight p c h told) (outcome_told told) o x).sent
acted_tell p c h told x (op.TakeDone d k tx) v l q i e r a =
    let g = subst (λ z. inbox_of p z h ≡ Done k tx ∷ i.0) (same_Some d c e) i.1 in
    settled_tell p h (asks_in p c) k (outcome_told told) x a (done_is_true p c k tx h i.0 told x v l q g (subst (λ ms. FirstTells p h ms told) g r))
acted_tell p c h told x (op.TakeRefused d k) v l q i e r a =
    let g = subst (λ z. inbox_of p z h ≡ Kept k i.0 ∷ i.1) (same_Some d c e) i.2 in
    settled_tell p h (asks_in p c) k (outcome_told told) x a (kept_is_true p c k h i.0 i.1 told x (subst (λ ms. FirstTells p h ms told) g r))
acted_tell p c h told x (op.TakeLost d k) v l q i e r a =
    let g = subst (λ z. inbox_of p z h ≡ Kept k (Passed i.0) ∷ i.1) (same_Some d c e) i.2 in
    settled_tell p h (asks_in p c) k (outcome_told told) x a (kept_is_true p c k h (Passed i.0) i.1 told x (subst (λ ms. FirstTells p h ms told) g r))
acted_tell p c h told x (op.LookOk d j m) v l q i e r a = looked_tell p h (asks_in p c) x.reading x a
acted_tell p c h told x (op.Local d j) v l q i e r a = more_tell p h (asks_in p c) x.sent (unanswered j 0 (kept_as (local_result (is_unfit (nth (asks_in p c) j)) (told_sight p c h told).seen))) a (local_tells p h (nth (asks_in p c) j) (is_unfit (nth (asks_in p c) j)) (told_sight p c h told).seen)
acted_tell p c h told x (op.Send d j k) v l q i e r a = more_tell p h (asks_in p c) x.sent (unanswered j k outcome.Open) a tt
acted_tell p c h told x (op.SendFault d j) v l q i e r a = more_tell p h (asks_in p c) x.sent (unanswered j 0 (kept_as (Plain code.ConnectionLoss))) a tt
acted_tell p c h told x o v l q i e r a = a
