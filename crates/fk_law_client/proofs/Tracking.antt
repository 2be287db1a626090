-- What a client keeps of the commands that it sent or refused itself.
use Rattle.std.specs.Prelude.{◌==◌, ◌<◌, ◌&&◌}
use Rattle.std.proofs.Common.{◌≡◌, ℕ, ◌+◌, ◌≤◌, ◌⊎◌, inl, inr, ◌++◌, Bool, true, false, List, [], ◌∷◌, refl, sym, ◌∙◌, ap, subst, arith, Option, Some, None}
use Rattle.std.proofs.lemmas.Bool.{false≢true, cond_both, eqb-true}
use Rattle.std.proofs.lemmas.Bool.Decides.{nat_tests}
use Rattle.std.proofs.lemmas.Option.{same_Some}
use Rattle.fk_base.specs.declared.code.Code.TheVariants as code
use Rattle.fk_print.specs.declared.entry.Entry.{Entry}
use Rattle.fk_print.specs.declared.line.Line.{Line}
use Rattle.fk_print.specs.declared.op.Op.{Op}
use Rattle.fk_print.specs.declared.op.Op.TheVariants as op
use Rattle.fk_spec.specs.Plan.{Plan, Ask, Want, Unfit, Writes, Reads, asked, asks_in}
use Rattle.fk_spec.specs.Shown.{seen_by, seen_in, seen_lines}
use Rattle.fk_spec.specs.Start.{sends_of, sent_in, count_sent}
use Rattle.fk_spec.specs.Settling.{Outcome, Committed, Refused, Passed, mark_of}
use Rattle.fk_spec.specs.Lanes.{Message, Done, Kept, inbox_of}
use Rattle.fk_spec.specs.Sight.{first_message, sight_of}
use Rattle.fk_spec.specs.Client.{is_open, is_ready, by_result, with_told, without_ready, is_unfit, registers, is_close, is_write, settle_with, local_result, close_if, looked_for, looked_at, looked, flushed, kept_outcome, settled_as, acted_by, client_in, client_by, client_of, Result, Sent, Reading, Client, Open, Settled, Plain, Expired}
use Rattle.fk_spec.specs.Replies.{verb_asked}
use Rattle.fk_spec.specs.Next.{IsHistory}
use Rattle.fk_law.specs.Due.{IsDue}
use Rattle.fk_law.proofs.Due.{due}
use Rattle.fk_law.proofs.Growing.{numbers_never_fall}
use Rattle.fk_law.proofs.Outcomes.{outcome_never_changes}
use Rattle.fk_law.proofs.Sending.{origin_stays}
use Rattle.fk_law_watch.specs.FirstNumbers.{ReadsAreReads}
use Rattle.fk_law_watch.proofs.Reading.{ReadSo, reads_so}
use Rattle.fk_law_client.specs.Inboxes.{IsPublishedPush, IsTrueMessage, AreTrueMessages}
use Rattle.fk_law_client.specs.Tracking.{IsSentWith, IsTrueResult, later, IsSentSo, AreTracked, KeepsTrack, SentCommandsAreTracked}
use Rattle.fk_law_client.proofs.Acting.{ActsAs, BeginsSo, IsLooked, ReadsTree, entry_acts}
use Rattle.fk_law_client.proofs.Messages.{published_push_stays, inbox_messages}

-- What was seen grows. ---------------------------------------------------------------------------------

seen_more : (c : ℕ) (l : Line) (n : ℕ) → n ≤ seen_in c l n
seen_more c l n = grind (arith, nat_tests)

pub seen_grows : (c : ℕ) (ls : List Line) (n : ℕ) → n ≤ seen_lines c ls n
seen_grows c [] n = omega arith
seen_grows c (l ∷ ls) n = let a = seen_more c l n in let b = seen_grows c ls (seen_in c l n) in omega (arith, a, b)

-- What is kept stays true. -----------------------------------------------------------------------------

sent_with_stays : (p : Plan) (c i k : ℕ) (e : Entry) (h : List Entry) (top : ℕ) → IsHistory p (e ∷ h) → k ≤ sends_of c h → IsSentWith c i k h → IsSentWith c i k (e ∷ h)
sent_with_stays p c i k e h top l b x = record { seen = x.seen; origin = origin_stays c k e h b ∙ x.origin }

result_stays : (p : Plan) (c k : ℕ) (e : Entry) (h : List Entry) (r : Result) → IsHistory p (e ∷ h) → IsTrueResult p c k h r → IsTrueResult p c k (e ∷ h) r
result_stays p c k e h Open l x = tt
result_stays p c k e h (Settled (Committed t)) l x = published_push_stays p c k t false e h l x
result_stays p c k e h (Settled (Refused cd place at)) l x = outcome_never_changes p c k h (e ∷ []) (Refused cd place at) l x
result_stays p c k e h (Settled (Passed loss)) l x = outcome_never_changes p c k h (e ∷ []) (Passed loss) l x
result_stays p c k e h (Plain cd) l x = x
result_stays p c k e h (Expired at) l x = let a = x.1 in let b = seen_grows c e.lines (seen_by c h) in (x.0, omega (arith, a, b))

-- the last number is at most the top
tracked_top : (p : Plan) (c : ℕ) (h : List Entry) (n last : ℕ) (ss : List Sent) (begun top : ℕ) → AreTracked p c h n last ss begun top → last ≤ top
tracked_top p c h n last [] begun top x = x.1
tracked_top p c h n last (s ∷ ss) begun top x = below x.1 (tracked_top p c h (n + 1) (later last s.k) ss begun top x.3)
  where
    below : IsSentSo c last h s → later last s.k ≤ top → last ≤ top
    below (inl a) b = grind (arith, nat_tests)
    below (inr a) b = let d = a.0 in grind (arith, nat_tests)

its_top : (c last k top : ℕ) (i : ℕ) (h : List Entry) → last < k → later last k ≤ top → k ≤ top
its_top c last k top i h a b = grind (arith, nat_tests)

tracked_stays : (p : Plan) (c : ℕ) (e : Entry) (h : List Entry) (n last : ℕ) (ss : List Sent) (begun : ℕ) → IsHistory p (e ∷ h) → AreTracked p c h n last ss begun (sends_of c h) → AreTracked p c (e ∷ h) n last ss begun (sends_of c h)
tracked_stays p c e h n last [] begun l x = x
tracked_stays p c e h n last (s ∷ ss) begun l x = (x.0, so x.1 (tracked_top p c h (n + 1) (later last s.k) ss begun (sends_of c h) x.3), result_stays p c s.k e h s.result l x.2, tracked_stays p c e h (n + 1) (later last s.k) ss begun l x.3)
  where
    so : IsSentSo c last h s → later last s.k ≤ sends_of c h → IsSentSo c last (e ∷ h) s
    so (inl a) b = inl a
    so (inr a) b = inr (a.0, sent_with_stays p c s.command s.k e h last l (its_top c last s.k (sends_of c h) n h a.0 b) a.1)

tracked_raised : (p : Plan) (c : ℕ) (h : List Entry) (n last : ℕ) (ss : List Sent) (begun top more : ℕ) → top ≤ more → AreTracked p c h n last ss begun top → AreTracked p c h n last ss begun more
tracked_raised p c h n last [] begun top more a x = let b = x.1 in (x.0, omega (arith, a, b))
tracked_raised p c h n last (s ∷ ss) begun top more a x = (x.0, x.1, x.2, tracked_raised p c h (n + 1) (later last s.k) ss begun top more a x.3)

-- What operations do. ----------------------------------------------------------------------------------

raise : (p : Plan) (c : ℕ) (h : List Entry) (ss : List Sent) (begun top more : ℕ) → top ≤ more → KeepsTrack p c h ss begun top → KeepsTrack p c h ss begun more
raise p c h ss begun top more a x = record { answered = x.answered; last = x.last; tracked = tracked_raised p c h x.answered x.last ss begun top more a x.tracked }

-- a new command at the end: not a message, or the next one
abbrev IsNewSo : ℕ → ℕ → ℕ → List Entry → Sent → Type 0
IsNewSo c top more h s = (s.k ≡ 0) ⊎ ((s.k ≡ top + 1) × (s.k ≤ more) × IsSentWith c s.command s.k h)

later_top : (last k top more : ℕ) → last ≤ top → top ≤ more → (k ≡ 0) ⊎ (k ≤ more) → later last k ≤ more
later_top last k top more a b (inl d) = grind (arith, nat_tests)
later_top last k top more a b (inr d) = grind (arith, nat_tests)

appended : (p : Plan) (c : ℕ) (h : List Entry) (n last : ℕ) (ss : List Sent) (begun top more : ℕ) (s : Sent) → top ≤ more → s.command ≡ begun + 1 → IsNewSo c top more h s → IsTrueResult p c s.k h s.result → AreTracked p c h n last ss begun top → AreTracked p c h n last (ss ++ s ∷ []) s.command more
appended p c h n last [] begun top more s a q i r x = (q ∙ ap (λ z. z + 1) (sym x.0), so i, r, (q2, later_top last s.k top more x.1 a (small i)))
  where
    q2 : n + 1 ≡ s.command
    q2 = ap (λ z. z + 1) x.0 ∙ sym q

    so : IsNewSo c top more h s → IsSentSo c last h s
    so (inl b) = inl b
    so (inr b) = let d = x.1 in let f = b.0 in inr (omega (arith, d, f), b.2)

    small : IsNewSo c top more h s → (s.k ≡ 0) ⊎ (s.k ≤ more)
    small (inl b) = inl b
    small (inr b) = inr b.1
appended p c h n last (y ∷ ss) begun top more s a q i r x = (x.0, x.1, x.2, appended p c h (n + 1) (later last y.k) ss begun top more s a q i r x.3)

append : (p : Plan) (c : ℕ) (h : List Entry) (ss : List Sent) (begun top more : ℕ) (s : Sent) → top ≤ more → s.command ≡ begun + 1 → IsNewSo c top more h s → IsTrueResult p c s.k h s.result → KeepsTrack p c h ss begun top → KeepsTrack p c h (ss ++ s ∷ []) s.command more
append p c h ss begun top more s a q i r x = record { answered = x.answered; last = x.last; tracked = appended p c h x.answered x.last ss begun top more s a q i r x.tracked }

settled_tracked : (p : Plan) (c k : ℕ) (h : List Entry) (r : Result) (n last : ℕ) (ss : List Sent) (begun top : ℕ) → IsTrueResult p c k h r → AreTracked p c h n last ss begun top → AreTracked p c h n last (with_told by_result k r ss) begun top
settled_tracked p c k h r n last [] begun top t x = x
settled_tracked p c k h r n last (s ∷ ss) begun top t x =
    cond_both ((s.k == k) && is_open s.result) (record s { result = r } ∷ ss) (s ∷ with_told by_result k r ss) (λ z. AreTracked p c h n last z begun top)
    (λ b. (x.0, x.1, subst (λ z. IsTrueResult p c z h r) (sym (its_number s.k k (is_open s.result) b)) t, x.3))
    (λ _. (x.0, x.1, x.2, settled_tracked p c k h r (n + 1) (later last s.k) ss begun top t x.3))
  where
    its_number : (a b : ℕ) (o : Bool) → ((a == b) && o) ≡ true → a ≡ b
    its_number a b o e = grind (arith, nat_tests)

settle : (p : Plan) (c k : ℕ) (h : List Entry) (r : Result) (ss : List Sent) (begun top : ℕ) → IsTrueResult p c k h r → KeepsTrack p c h ss begun top → KeepsTrack p c h (with_told by_result k r ss) begun top
settle p c k h r ss begun top t x = record { answered = x.answered; last = x.last; tracked = settled_tracked p c k h r x.answered x.last ss begun top t x.tracked }

drop_first : (p : Plan) (c : ℕ) (h : List Entry) (s : Sent) (ss : List Sent) (begun top : ℕ) → KeepsTrack p c h (s ∷ ss) begun top → KeepsTrack p c h ss begun top
drop_first p c h s ss begun top x = record { answered = x.answered + 1; last = later x.last s.k; tracked = x.tracked.3 }

drop_ready : (p : Plan) (c : ℕ) (h : List Entry) (ss : List Sent) (begun top : ℕ) → KeepsTrack p c h ss begun top → KeepsTrack p c h (without_ready by_result ss) begun top
drop_ready p c h [] begun top x = x
drop_ready p c h (s ∷ ss) begun top x = cond_both (is_ready s.result) (without_ready by_result ss) (s ∷ ss) (λ z. KeepsTrack p c h z begun top) (λ _. drop_ready p c h ss begun top (drop_first p c h s ss begun top x)) (λ _. x)

-- a command that is answered at once, while none is unanswered
answer : (p : Plan) (c : ℕ) (h : List Entry) (ss : List Sent) (begun top : ℕ) → ss ≡ [] → KeepsTrack p c h ss begun top → KeepsTrack p c h ss (begun + 1) top
answer p c h ss begun top e x = subst (λ z. KeepsTrack p c h z (begun + 1) top) (sym e) (record { answered = begun + 1; last = x.last; tracked = (refl, tracked_top p c h x.answered x.last ss begun top x.tracked) })

-- One operation of a client. ---------------------------------------------------------------------------

abbrev pub TracksAt : Plan → ℕ → List Entry → ℕ → Client Sent → Type 0
TracksAt p c h top x = KeepsTrack p c h x.sent x.begun top

looked_for_tracked : (p : Plan) (c : ℕ) (h : List Entry) (top : ℕ) (ss : List Sent) (x : Client Sent) → x.sent ≡ ss → TracksAt p c h top x → TracksAt p c h top (looked_for by_result (asks_in p c) ss x)
looked_for_tracked p c h top [] x e t = t
looked_for_tracked p c h top (s ∷ ss) x e t = closing (is_close (asked p c s.command))
  where
    rest : KeepsTrack p c h ss x.begun top
    rest = drop_first p c h s ss x.begun top (subst (λ z. KeepsTrack p c h z x.begun top) e t)

    closing : (b : Bool) → TracksAt p c h top (close_if b (record x { sent = ss }))
    closing true = rest
    closing false = rest

looked_at_tracked : (p : Plan) (c : ℕ) (h : List Entry) (top : ℕ) (b : Bool) (r : Reading) (x : Client Sent) → x.sent ≡ [] → TracksAt p c h top x → TracksAt p c h top (looked_at b r x)
looked_at_tracked p c h top true r x e t = t
looked_at_tracked p c h top false r x e t = answer p c h x.sent x.begun top e t

looked_tracked : (p : Plan) (c : ℕ) (h : List Entry) (top seen mark : ℕ) (r : Option Reading) (x : Client Sent) → ReadSo x.sent seen mark r → TracksAt p c h top x → TracksAt p c h top (looked by_result (asks_in p c) r x)
looked_tracked p c h top seen mark None x w t = looked_for_tracked p c h top x.sent x refl t
looked_tracked p c h top seen mark (Some r) x w t = looked_at_tracked p c h top (registers (asked p c (x.begun + 1)) r.node) r x w.0 t

kept_tracked : (p : Plan) (c k : ℕ) (h : List Entry) (top : ℕ) (o : Option Outcome) (x : Client Sent) → ((w : Outcome) → o ≡ Some w → IsTrueResult p c k h (Settled w)) → TracksAt p c h top x → TracksAt p c h top (settle_with by_result k (settled_as o) x)
kept_tracked p c k h top None x i t = t
kept_tracked p c k h top (Some w) x i t = settle p c k h (Settled w) x.sent x.begun top (i w refl) t

pub none_read : (ss : List Sent) (seen mark : ℕ) (r : Option Reading) → ReadSo ss seen mark r → IsLooked r → ss ≡ []
none_read ss seen mark None w i = absurd i
none_read ss seen mark (Some r) w i = w.0

pub none_unanswered : (p : Plan) (c : ℕ) (x : Client Sent) (i : ℕ) → ReadsAreReads p → BeginsSo p c x i → ReadsTree (asked p c i) → x.sent ≡ []
none_unanswered p c x i k b r = by_ask (asked p c i) refl r b.2
  where
    by_want : (a : Ask) (w : Want) → a.want ≡ w → asked p c i ≡ Some a → ReadsTree (Some (record a { want = w })) → is_write a.verb ≡ true → x.sent ≡ []
    by_want a (Reads q v) f e z d = absurd (false≢true (sym (k c i a q v e f) ∙ d))
    by_want a Unfit f e z d = absurd z
    by_want a (Writes u) f e z d = absurd z

    by_ask : (o : Option Ask) → asked p c i ≡ o → ReadsTree o → (is_write (verb_asked o) ≡ true) ⊎ (x.sent ≡ []) → x.sent ≡ []
    by_ask None e z d = absurd z
    by_ask (Some a) e z (inl d) = by_want a a.want refl e z d
    by_ask (Some a) e z (inr d) = d

-- what an operation needs of the inbox, and of the message that it sends
abbrev TellsSo : Plan → ℕ → List Entry → ℕ → Option Message → Op → Type 0
TellsSo p c h top m (op.TakeDone d k t) = IsPublishedPush p c k t false h
TellsSo p c h top m (op.TakeRefused d k) = (w : Outcome) → kept_outcome m ≡ Some w → IsTrueResult p c k h (Settled w)
TellsSo p c h top m (op.TakeLost d k) = (w : Outcome) → kept_outcome m ≡ Some w → IsTrueResult p c k h (Settled w)
TellsSo p c h top m (op.Send d i k) = (k ≡ top + 1) × IsSentWith c i k h
TellsSo p c h top m _ = Unit {0}

-- how many messages there are after this operation of client c, which had `top`
abbrev top_after : ℕ → Op → ℕ
top_after top (op.Send d i k) = top + 1
top_after top _ = top

local_true : (p : Plan) (c : ℕ) (h : List Entry) (b : Bool) (seen : ℕ) → seen ≤ seen_by c h → IsTrueResult p c 0 h (local_result b seen)
local_true p c h true seen a = refl
local_true p c h false seen a = (refl, a)

-- `h` are the entries before, `k` those with the operation's own
own_step : (p : Plan) (c : ℕ) (h k : List Entry) (seen mark top : ℕ) (x : Client Sent) (o : Op) → ReadsAreReads p → ActsAs p c x seen mark o → ReadSo x.sent seen mark x.reading → TellsSo p c k top (sight_of p c h).head o → seen_by c h ≤ seen_by c k → TracksAt p c k top x → TracksAt p c k (top_after top o) (acted_by (sight_of p c h) o x)
own_step p c h k seen mark top x (op.Send d i n) v a w t g z = append p c k x.sent x.begun top (top + 1) (record { command = i; k = n; result = Open }) (omega arith) a.0 (inr (t.0, (let b = t.0 in omega (arith, b)), t.1)) tt z
own_step p c h k seen mark top x (op.SendFault d i) v a w t g z = append p c k x.sent x.begun top top (record { command = i; k = 0; result = Plain code.ConnectionLoss }) (omega arith) a.0 (inl refl) refl z
own_step p c h k seen mark top x (op.Local d i) v a w t g z = append p c k x.sent x.begun top top (record { command = i; k = 0; result = local_result (is_unfit (asked p c i)) (seen_by c h) }) (omega arith) a.0 (inl refl) (local_true p c k (is_unfit (asked p c i)) (seen_by c h) g) z
own_step p c h k seen mark top x (op.TakeDone d n u) v a w t g z = settle p c n k (Settled (Committed u)) x.sent x.begun top t z
own_step p c h k seen mark top x (op.TakeRefused d n) v a w t g z = kept_tracked p c n k top (kept_outcome (sight_of p c h).head) x t z
own_step p c h k seen mark top x (op.TakeLost d n) v a w t g z = kept_tracked p c n k top (kept_outcome (sight_of p c h).head) x t z
own_step p c h k seen mark top x (op.LookOk d i m) v a w t g z = looked_tracked p c k top seen mark x.reading x w z
own_step p c h k seen mark top x (op.WatchSet d i id) v a w t g z = answer p c k x.sent x.begun top (none_read x.sent seen mark x.reading w a.1) z
own_step p c h k seen mark top x (op.WatchFault d i) v a w t g z = answer p c k x.sent x.begun top (none_read x.sent seen mark x.reading w a.1) z
own_step p c h k seen mark top x (op.ReadFault d i) v a w t g z = answer p c k x.sent x.begun top (none_unanswered p c x i v a.0 a.1) z
own_step p c h k seen mark top x o v a w t g z = z

-- Histories. -------------------------------------------------------------------------------------------

kept_true : (p : Plan) (c k : ℕ) (h : List Entry) (w : Outcome) → IsTrueMessage p c h (Kept k w) → IsTrueResult p c k h (Settled w)
kept_true p c k h (Committed t) i = absurd (i.1 tt)
kept_true p c k h (Refused cd place at) i = i.0
kept_true p c k h (Passed loss) i = i.0

pub first_true : (p : Plan) (c : ℕ) (h : List Entry) (ms rest : List Message) (m : Message) → ms ≡ m ∷ rest → AreTrueMessages p c h ms → IsTrueMessage p c h m
first_true p c h ms rest m e i = (subst (AreTrueMessages p c h) e i).0

kept_first : (p : Plan) (c k : ℕ) (e : Entry) (h : List Entry) (ms rest : List Message) (o : Outcome) → IsHistory p (e ∷ h) → ms ≡ Kept k o ∷ rest → AreTrueMessages p c h ms → (w : Outcome) → kept_outcome (first_message ms) ≡ Some w → IsTrueResult p c k (e ∷ h) (Settled w)
kept_first p c k e h ms rest o l q i w f =
    let s : o ≡ w = same_Some o w (sym (ap (λ z. kept_outcome (first_message z)) q) ∙ f) in
    result_stays p c k e h (Settled w) l (subst (λ z. IsTrueResult p c k h (Settled z)) s (kept_true p c k h o (first_true p c h ms rest (Kept k o) q i)))

sent_now : (p : Plan) (c i k : ℕ) (e : Entry) (h : List Entry) → e.op ≡ op.Send c i k → k ≡ sends_of c h + 1 → IsSentWith c i k (e ∷ h)
sent_now p c i k e h q f = record { seen = seen_by c h; origin = rw (q, f) (grind (arith, nat_tests)) }

tells_so : (p : Plan) (c : ℕ) (e : Entry) (h : List Entry) (o : Op) → IsHistory p (e ∷ h) → e.op ≡ o → client_in o ≡ Some c → IsDue p h o → TellsSo p c (e ∷ h) (sends_of c h) (sight_of p c h).head o
tells_so p c e h (op.TakeDone d k t) l q f i = let s : d ≡ c = same_Some d c f in published_push_stays p c k t false e h l (first_true p c h (inbox_of p c h) i.0 (Done k t) (subst (λ z. inbox_of p z h ≡ Done k t ∷ i.0) s i.1) (inbox_messages p c h l.0))
tells_so p c e h (op.TakeRefused d k) l q f i = let s : d ≡ c = same_Some d c f in kept_first p c k e h (inbox_of p c h) i.1 i.0 l (subst (λ z. inbox_of p z h ≡ Kept k i.0 ∷ i.1) s i.2) (inbox_messages p c h l.0)
tells_so p c e h (op.TakeLost d k) l q f i = let s : d ≡ c = same_Some d c f in kept_first p c k e h (inbox_of p c h) i.1 (Passed i.0) l (subst (λ z. inbox_of p z h ≡ Kept k (Passed i.0) ∷ i.1) s i.2) (inbox_messages p c h l.0)
tells_so p c e h (op.Send d j k) l q f i = let s : d ≡ c = same_Some d c f in let n = subst (λ z. k ≡ sends_of z h + 1) s i.0 in (n, sent_now p c j k e h (q ∙ ap (λ z. op.Send z j k) s) n)
tells_so p c e h o l q f i = tt

top_is : (c : ℕ) (h : List Entry) (o : Op) → client_in o ≡ Some c → top_after (sends_of c h) o ≡ count_sent (sent_in c h o) (sends_of c h)
top_is c h o e = grind (arith, nat_tests)

client_step : (p : Plan) (c : ℕ) (e : Entry) (h : List Entry) (o : Option ℕ) → client_in e.op ≡ o → (client_in e.op ≡ Some c → TracksAt p c (e ∷ h) (sends_of c (e ∷ h)) (flushed by_result (acted_by (sight_of p c h) e.op (client_of p c h)))) → TracksAt p c (e ∷ h) (sends_of c (e ∷ h)) (client_of p c h) → TracksAt p c (e ∷ h) (sends_of c (e ∷ h)) (client_by (sight_of p c h) o e.op (client_of p c h))
client_step p c e h None q f w = w
client_step p c e h (Some s) q f w = cond_both (s == c) (flushed by_result (acted_by (sight_of p c h) e.op (client_of p c h))) (client_of p c h) (TracksAt p c (e ∷ h) (sends_of c (e ∷ h))) (λ t. f (q ∙ ap Some (eqb-true s c t))) (λ _. w)

-- what client c keeps after its own operation, before it prints what is ready
pub acted_tracked : (p : Plan) (c : ℕ) (e : Entry) (h : List Entry) → ReadsAreReads p → IsHistory p (e ∷ h) → client_in e.op ≡ Some c → KeepsTrack p c h (client_of p c h).sent (client_of p c h).begun (sends_of c h) → TracksAt p c (e ∷ h) (sends_of c (e ∷ h)) (acted_by (sight_of p c h) e.op (client_of p c h))
acted_tracked p c e h v l q before =
    let x = client_of p c h in
    let y = acted_by (sight_of p c h) e.op x in
    let old : TracksAt p c (e ∷ h) (sends_of c h) x = record { answered = before.answered; last = before.last; tracked = tracked_stays p c e h before.answered before.last x.sent x.begun l before.tracked } in
    subst (λ z. TracksAt p c (e ∷ h) z y) (top_is c h e.op q)
    (own_step p c h (e ∷ h) (seen_by c h) (mark_of h) (sends_of c h) x e.op v (entry_acts p c e h l q) (reads_so p c h v l.0) (tells_so p c e h e.op l refl q (due p e h l)) (seen_grows c e.lines (seen_by c h)) old)

tracked_step : (p : Plan) (c : ℕ) (e : Entry) (h : List Entry) → ReadsAreReads p → IsHistory p (e ∷ h) → TracksAt p c h (sends_of c h) (client_of p c h) → TracksAt p c (e ∷ h) (sends_of c (e ∷ h)) (client_of p c (e ∷ h))
tracked_step p c e h v l before = client_step p c e h (client_in e.op) refl own (raise p c (e ∷ h) x.sent x.begun (sends_of c h) (sends_of c (e ∷ h)) ((numbers_never_fall h (e ∷ [])).sends c) old)
  where
    x : Client Sent
    x = client_of p c h

    old : TracksAt p c (e ∷ h) (sends_of c h) x
    old = record { answered = before.answered; last = before.last; tracked = tracked_stays p c e h before.answered before.last x.sent x.begun l before.tracked }

    own : client_in e.op ≡ Some c → TracksAt p c (e ∷ h) (sends_of c (e ∷ h)) (flushed by_result (acted_by (sight_of p c h) e.op x))
    own q = let y = acted_by (sight_of p c h) e.op x in drop_ready p c (e ∷ h) y.sent y.begun (sends_of c (e ∷ h)) (acted_tracked p c e h v l q before)

pub sent_tracked : SentCommandsAreTracked
sent_tracked p c [] v l = record { answered = 0; last = 0; tracked = (refl, omega arith) }
sent_tracked p c (e ∷ h) v l = tracked_step p c e h v l (sent_tracked p c h v l.0)
