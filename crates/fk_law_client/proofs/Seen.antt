-- What a client was shown is published.
use Rattle.std.specs.Prelude.{◌==◌, ◌&&◌, max}
use Rattle.std.proofs.Common.{◌≡◌, ℕ, ◌+◌, ◌≤◌, ◌++◌, Bool, true, false, List, [], ◌∷◌, refl, sym, ◌∙◌, ap, subst, arith, Option, Some, None}
use Rattle.std.proofs.lemmas.Bool.{false≢true, cond_both, eqb-true}
use Rattle.std.proofs.lemmas.Bool.Decides.{nat_tests}
use Rattle.std.proofs.lemmas.Option.{same_Some}
use Rattle.fk_base.specs.declared.code.Code.TheVariants as code
use Rattle.fk_tree.specs.Apply.{reply_of}
use Rattle.fk_tree.specs.Ask.{answer_from}
use Rattle.fk_tree.specs.declared.applied.Applied.{Applied}
use Rattle.fk_tree.specs.declared.node.Node.{Node}
use Rattle.fk_tree.specs.declared.reply.Answer.{Answer}
use Rattle.fk_tree.specs.declared.reply.Answer.TheVariants as answer
use Rattle.fk_tree.specs.declared.reply.Reply.{Reply}
use Rattle.fk_tree.specs.declared.reply.Reply.TheVariants as reply
use Rattle.fk_print.specs.declared.entry.Entry.{Entry}
use Rattle.fk_print.specs.declared.line.Line.{Line}
use Rattle.fk_print.specs.declared.line.Line.TheVariants as line
use Rattle.fk_print.specs.declared.line.Shown.{Shown}
use Rattle.fk_print.specs.declared.line.Shown.TheVariants as shown
use Rattle.fk_print.specs.declared.op.Op.{Op}
use Rattle.fk_print.specs.declared.op.Op.TheVariants as op
use Rattle.fk_spec.specs.Plan.{Plan, Ask, Want, Unfit, Writes, Reads, asked, asks_in}
use Rattle.fk_spec.specs.Shown.{seen_by, seen_in, seen_lines, shown_number, number_or}
use Rattle.fk_spec.specs.Locks.{Loss}
use Rattle.fk_spec.specs.Settling.{Outcome, Committed, Refused, Passed, mark_of}
use Rattle.fk_spec.specs.Stored.{committed_as}
use Rattle.fk_spec.specs.Watches.{Firing, firing_of}
use Rattle.fk_spec.specs.Lanes.{Evicted, Watch, inbox_of}
use Rattle.fk_spec.specs.Sight.{sight_of}
use Rattle.fk_spec.specs.Client.{is_open, number_looked_for, is_ready, by_result, with_told, ready_first, is_unfit, registers, is_close, contains, settle_with, local_result, close_if, looked_for, looked_at, looked, kept_outcome, settled_as, acted_by, client_in, client_of, Result, Sent, Reading, Client, Open, Settled, Plain, Expired}
use Rattle.fk_spec.specs.Replies.{shown_reply, shown_applied, shown_loss, shown_result, line_for, reply_line, reply_lines, first_line, shown_answer, shown_read, shown_asked, read_line, read_lines, looked_lines, notice_of, own_lines, wording, client_lines}
use Rattle.fk_spec.specs.Next.{IsHistory, next_lines}
use Rattle.fk_law.specs.Due.{IsDue}
use Rattle.fk_law.proofs.Due.{due}
use Rattle.fk_law.proofs.Leading.{mark_grows}
use Rattle.fk_law_watch.specs.FirstNumbers.{ReadsAreReads}
use Rattle.fk_law_watch.proofs.Reading.{ReadSo, reads_so, seen_append, client_unseen, none_unseen, next_is}
use Rattle.fk_law_watch.proofs.Telling.{announced_has_fired}
use Rattle.fk_law_client.specs.Shown.{SeenIsPublished}
use Rattle.fk_law_client.specs.Tracking.{IsTrueResult, later, AreTracked}
use Rattle.fk_law_client.proofs.Acting.{ActsAs, LooksSo, IsUpTo, HeadUpTo, IsLooked, entry_acts}
use Rattle.fk_law_client.proofs.Messages.{inbox_messages}
use Rattle.fk_law_client.proofs.Tracking.{first_true, sent_tracked}

-- Lines that show numbers up to a mark. ----------------------------------------------------------------

-- after these lines client c has seen at most m, where it had before
abbrev ShowUpTo : ℕ → ℕ → List Line → Type 0
ShowUpTo c m ls = (n : ℕ) → n ≤ m → seen_lines c ls n ≤ m

append_up : (c m : ℕ) (xs ys : List Line) → ShowUpTo c m xs → ShowUpTo c m ys → ShowUpTo c m (xs ++ ys)
append_up c m xs ys i j n a = subst (λ z. z ≤ m) (sym (seen_append c xs ys n)) (j (seen_lines c xs n) (i n a))

number_up : (m n : ℕ) (o : Option ℕ) → IsUpTo m o → n ≤ m → number_or n o ≤ m
number_up m n None i a = a
number_up m n (Some k) i a = grind (arith, nat_tests)

line_up : (p : Plan) (c i m : ℕ) (s : Shown) → IsUpTo m (shown_number s) → ShowUpTo c m (line_for c (asks_in p c) i s ∷ [])
line_up p c i m s u n a = cond_both (c == c) (number_or n (shown_number s)) n (λ z. z ≤ m) (λ _. number_up m n (shown_number s) u a) (λ _. a)

pub max_up : (a b m : ℕ) → a ≤ m → b ≤ m → max a b ≤ m
max_up a b m i j = grind (arith, nat_tests)

-- Numbers that are shown. ------------------------------------------------------------------------------

reply_up : (m t : ℕ) (r : Reply) → t ≤ m → IsUpTo m (shown_number (shown_reply t r))
reply_up m t (reply.Created path) a = a
reply_up m t (reply.Version version) a = a
reply_up m t reply.Deleted a = a
reply_up m t reply.Closed a = a
reply_up m t (reply.Multi replies) a = a

applied_up : (m t : ℕ) (o : Option Applied) → t ≤ m → IsUpTo m (shown_number (shown_applied t o))
applied_up m t None a = a
applied_up m t (Some x) a = reply_up m t (reply_of x) a

loss_up : (m : ℕ) (o : Option Loss) → IsUpTo m (shown_number (shown_loss o))
loss_up m None = tt
loss_up m (Some x) = tt

-- a closed session was met at a number up to m
abbrev MetUpTo : ℕ → Result → Type 0
MetUpTo m (Expired at) = at ≤ m
MetUpTo m _ = Unit {0}

abbrev AllMetUpTo : ℕ → List Sent → Type 0
AllMetUpTo m [] = Unit {0}
AllMetUpTo m (s ∷ ss) = MetUpTo m s.result × AllMetUpTo m ss

result_up : (p : Plan) (h : List Entry) (m : ℕ) (r : Result) → IsUpTo m (number_looked_for r) → MetUpTo m r → IsUpTo m (shown_number (shown_result p h r))
result_up p h m Open i j = tt
result_up p h m (Settled (Committed t)) i j = applied_up m t (committed_as p t h) i
result_up p h m (Settled (Refused cd place at)) i j = i
result_up p h m (Settled (Passed loss)) i j = loss_up m loss
result_up p h m (Plain cd) i j = tt
result_up p h m (Expired at) i j = j

ready_up : (m : ℕ) (r : Result) → is_ready r ≡ true → IsUpTo m (number_looked_for r)
ready_up m Open e = tt
ready_up m (Settled (Committed t)) e = absurd (false≢true e)
ready_up m (Settled (Refused cd place at)) e = absurd (false≢true e)
ready_up m (Settled (Passed loss)) e = tt
ready_up m (Plain cd) e = tt
ready_up m (Expired at) e = tt

ready_lines_up : (p : Plan) (h : List Entry) (c m : ℕ) (ss : List Sent) → AllMetUpTo m ss → ShowUpTo c m (reply_lines (wording p c h) (ready_first by_result ss))
ready_lines_up p h c m [] i = λ n a. a
ready_lines_up p h c m (s ∷ ss) i =
    cond_both (is_ready s.result) (s ∷ ready_first by_result ss) [] (λ z. ShowUpTo c m (reply_lines (wording p c h) z))
    (λ b n a. ready_lines_up p h c m ss i.1 (seen_in c (reply_line (wording p c h) s) n) (line_up p c s.command m (shown_result p h s.result) (result_up p h m s.result (ready_up m s.result b) i.0) n a))
    (λ _ n a. a)

answer_up : (m n : ℕ) (a : Answer) → n ≤ m → IsUpTo m (shown_number (shown_answer n a))
answer_up m n (answer.Got bytes stat) e = e
answer_up m n (answer.Stated stat) e = e
answer_up m n (answer.Listed names) e = e
answer_up m n answer.NoNode e = e

want_up : (m n : ℕ) (found : Option Node) (w : Want) → n ≤ m → IsUpTo m (shown_number (shown_read n found w))
want_up m n found (Reads q watch) e = answer_up m n (answer_from q found) e
want_up m n found Unfit e = tt
want_up m n found (Writes r) e = tt

asked_up : (m n : ℕ) (found : Option Node) (a : Option Ask) → n ≤ m → IsUpTo m (shown_number (shown_asked n found a))
asked_up m n found None e = tt
asked_up m n found (Some a) e = want_up m n found a.want e

-- What operations print. -------------------------------------------------------------------------------

read_up : (p : Plan) (h : List Entry) (c i m : ℕ) (r : Reading) → max (seen_by c h) r.stamp ≤ m → ShowUpTo c m (read_line c (asks_in p c) (seen_by c h) i r ∷ [])
read_up p h c i m r e = let n = max (seen_by c h) r.stamp in line_up p c i m (shown_asked n r.node (asked p c i)) (asked_up m n r.node (asked p c i) e)

first_up : (p : Plan) (h : List Entry) (c m : ℕ) (ss : List Sent) → HeadUpTo m ss → AllMetUpTo m ss → ShowUpTo c m (first_line (wording p c h) ss)
first_up p h c m [] i j = λ n a. a
first_up p h c m (s ∷ ss) i j = line_up p c s.command m (shown_result p h s.result) (result_up p h m s.result i j.0)

looked_up : (p : Plan) (h : List Entry) (c m : ℕ) (x : Client Sent) (r : Option Reading) → x.reading ≡ r → LooksSo x (seen_by c h) m → ReadSo x.sent (seen_by c h) m r → AllMetUpTo m x.sent → ShowUpTo c m (looked_lines (wording p c h) (seen_by c h) x r)
looked_up p h c m x None e a w j = first_up p h c m x.sent (a.0 e) j
looked_up p h c m x (Some r) e a w j = cond_both (registers (asked p c (x.begun + 1)) r.node) [] (read_line c (asks_in p c) (seen_by c h) (x.begun + 1) r ∷ []) (ShowUpTo c m) (λ _ n b. b) (λ _. read_up p h c (x.begun + 1) m r (by_look r.looked refl))
  where
    by_look : (b : Bool) → r.looked ≡ b → max (seen_by c h) r.stamp ≤ m
    by_look true f = w.1 f
    by_look false f = a.1 r e f

reads_up : (p : Plan) (h : List Entry) (c i m : ℕ) (ss : List Sent) (r : Option Reading) → IsLooked r → ReadSo ss (seen_by c h) m r → ShowUpTo c m (read_lines c (asks_in p c) (seen_by c h) i r)
reads_up p h c i m ss None l w = absurd l
reads_up p h c i m ss (Some r) l w = read_up p h c i m r (w.1 l)

notice_up : (c m : ℕ) (f : Option Firing) → ((x : Firing) → f ≡ Some x → x.tx ≤ m) → ShowUpTo c m (notice_of c f)
notice_up c m None i n a = a
notice_up c m (Some f) i n a = let b = i f refl in cond_both (c == c) (max f.tx n) n (λ z. z ≤ m) (λ _. max_up f.tx n m b a) (λ _. a)

-- what an operation needs of the inbox
abbrev TellsUpTo : Plan → List Entry → ℕ → Op → Type 0
TellsUpTo p h m (op.TakeEvicted d k t) = t ≤ m
TellsUpTo p h m (op.TakeWatch d id) = (f : Firing) → firing_of p id h ≡ Some f → f.tx ≤ m
TellsUpTo p h m _ = Unit {0}

own_up : (p : Plan) (h : List Entry) (c m : ℕ) (x : Client Sent) (o : Op) → ActsAs p c x (seen_by c h) m o → ReadSo x.sent (seen_by c h) m x.reading → TellsUpTo p h m o → AllMetUpTo m x.sent → ShowUpTo c m (own_lines (wording p c h) (sight_of p c h) x o)
own_up p h c m x (op.TakeEvicted d k t) a w u j = cond_both x.closed [] (line.Expired c t ∷ []) (ShowUpTo c m) (λ _ n b. b) (λ _ n b. cond_both (c == c) (max t n) n (λ z. z ≤ m) (λ _. max_up t n m u b) (λ _. b))
own_up p h c m x (op.TakeWatch d id) a w u j = cond_both (contains id x.held) (notice_of c (firing_of p id h)) [] (ShowUpTo c m) (λ _. notice_up c m (firing_of p id h) u) (λ _ n b. b)
own_up p h c m x (op.LookOk d i k) a w u j = looked_up p h c m x x.reading refl a w j
own_up p h c m x (op.WatchSet d i id) a w u j = reads_up p h c i m x.sent x.reading a.1 w
own_up p h c m x (op.ReadFault d i) a w u j = line_up p c i m (shown.Plain code.SystemError) tt
own_up p h c m x (op.WatchFault d i) a w u j = line_up p c i m (shown.Plain code.SystemError) tt
own_up p h c m x o a w u j = λ n b. b

-- What stays unanswered. -------------------------------------------------------------------------------

settled_met : (m k : ℕ) (o : Outcome) (ss : List Sent) → AllMetUpTo m ss → AllMetUpTo m (with_told by_result k (Settled o) ss)
settled_met m k o [] i = tt
settled_met m k o (s ∷ ss) i = cond_both ((s.k == k) && is_open s.result) (record s { result = Settled o } ∷ ss) (s ∷ with_told by_result k (Settled o) ss) (AllMetUpTo m) (λ _. (tt, i.1)) (λ _. (i.0, settled_met m k o ss i.1))

kept_met : (m k : ℕ) (o : Option Outcome) (x : Client Sent) → AllMetUpTo m x.sent → AllMetUpTo m (settle_with by_result k (settled_as o) x).sent
kept_met m k None x i = i
kept_met m k (Some o) x i = settled_met m k o x.sent i

append_met : (m : ℕ) (ss : List Sent) (s : Sent) → MetUpTo m s.result → AllMetUpTo m ss → AllMetUpTo m (ss ++ s ∷ [])
append_met m [] s j i = (j, tt)
append_met m (x ∷ ss) s j i = (i.0, append_met m ss s j i.1)

local_met : (m seen : ℕ) (b : Bool) → seen ≤ m → MetUpTo m (local_result b seen)
local_met m seen true a = tt
local_met m seen false a = a

looked_for_met : (p : Plan) (c m : ℕ) (ss : List Sent) (x : Client Sent) → x.sent ≡ ss → AllMetUpTo m ss → AllMetUpTo m (looked_for by_result (asks_in p c) ss x).sent
looked_for_met p c m [] x e i = subst (AllMetUpTo m) (sym e) tt
looked_for_met p c m (s ∷ ss) x e i = closing (is_close (asked p c s.command))
  where
    closing : (b : Bool) → AllMetUpTo m (close_if b (record x { sent = ss })).sent
    closing true = i.1
    closing false = i.1

looked_at_met : (m : ℕ) (b : Bool) (r : Reading) (x : Client Sent) → AllMetUpTo m x.sent → AllMetUpTo m (looked_at b r x).sent
looked_at_met m true r x i = i
looked_at_met m false r x i = i

looked_met : (p : Plan) (c m : ℕ) (r : Option Reading) (x : Client Sent) → AllMetUpTo m x.sent → AllMetUpTo m (looked by_result (asks_in p c) r x).sent
looked_met p c m None x i = looked_for_met p c m x.sent x refl i
looked_met p c m (Some r) x i = looked_at_met m (registers (asked p c (x.begun + 1)) r.node) r x i

acted_met : (p : Plan) (c m : ℕ) (h : List Entry) (x : Client Sent) (o : Op) → seen_by c h ≤ m → AllMetUpTo m x.sent → AllMetUpTo m (acted_by (sight_of p c h) o x).sent
acted_met p c m h x (op.Send d i k) a j = append_met m x.sent (record { command = i; k = k; result = Open }) tt j
acted_met p c m h x (op.SendFault d i) a j = append_met m x.sent (record { command = i; k = 0; result = Plain code.ConnectionLoss }) tt j
acted_met p c m h x (op.Local d i) a j = append_met m x.sent (record { command = i; k = 0; result = local_result (is_unfit (asked p c i)) (seen_by c h) }) (local_met m (seen_by c h) (is_unfit (asked p c i)) a) j
acted_met p c m h x (op.TakeDone d k t) a j = settled_met m k (Committed t) x.sent j
acted_met p c m h x (op.TakeRefused d k) a j = kept_met m k (kept_outcome (sight_of p c h).head) x j
acted_met p c m h x (op.TakeLost d k) a j = kept_met m k (kept_outcome (sight_of p c h).head) x j
acted_met p c m h x (op.LookOk d i k) a j = looked_met p c m x.reading x j
acted_met p c m h x o a j = j

met_up : (p : Plan) (c k m : ℕ) (h : List Entry) (r : Result) → seen_by c h ≤ m → IsTrueResult p c k h r → MetUpTo m r
met_up p c k m h Open a i = tt
met_up p c k m h (Settled o) a i = tt
met_up p c k m h (Plain cd) a i = tt
met_up p c k m h (Expired at) a i = let b = i.1 in omega (arith, a, b)

tracked_met : (p : Plan) (c m : ℕ) (h : List Entry) (n last : ℕ) (ss : List Sent) (begun top : ℕ) → seen_by c h ≤ m → AreTracked p c h n last ss begun top → AllMetUpTo m ss
tracked_met p c m h n last [] begun top a x = tt
tracked_met p c m h n last (s ∷ ss) begun top a x = (met_up p c s.k m h s.result a x.2, tracked_met p c m h (n + 1) (later last s.k) ss begun top a x.3)

-- Histories. -------------------------------------------------------------------------------------------

tells_up : (p : Plan) (c : ℕ) (h : List Entry) (o : Op) → IsHistory p h → client_in o ≡ Some c → IsDue p h o → TellsUpTo p h (mark_of h) o
tells_up p c h (op.TakeEvicted d k t) l f i = let s : d ≡ c = same_Some d c f in (first_true p c h (inbox_of p c h) i.0 (Evicted k t) (subst (λ z. inbox_of p z h ≡ Evicted k t ∷ i.0) s i.1) (inbox_messages p c h l)).published
tells_up p c h (op.TakeWatch d id) l f i =
    let s : d ≡ c = same_Some d c f in
    let a = announced_has_fired p id h l (first_true p c h (inbox_of p c h) i.0 (Watch id) (subst (λ z. inbox_of p z h ≡ Watch id ∷ i.0) s i.1) (inbox_messages p c h l)) in
    λ g q. subst (λ z. z.tx ≤ mark_of h) (same_Some a.0 g (sym a.1 ∙ q)) a.2
tells_up p c h o l f i = tt

lines_up : (p : Plan) (c : ℕ) (e : Entry) (h : List Entry) → ReadsAreReads p → IsHistory p (e ∷ h) → client_in e.op ≡ Some c → seen_by c h ≤ mark_of h → seen_lines c (client_lines p c h e.op) (seen_by c h) ≤ mark_of h
lines_up p c e h v l q a =
    let x = client_of p c h in
    let t = sent_tracked p c h v l.0 in
    let j = tracked_met p c (mark_of h) h t.answered t.last x.sent x.begun _ a t.tracked in
    append_up c (mark_of h) (own_lines (wording p c h) (sight_of p c h) x e.op) (reply_lines (wording p c h) (ready_first by_result (acted_by (sight_of p c h) e.op x).sent))
    (own_up p h c (mark_of h) x e.op (entry_acts p c e h l q) (reads_so p c h v l.0) (tells_up p c h e.op l.0 q (due p e h l)) j)
    (ready_lines_up p h c (mark_of h) (acted_by (sight_of p c h) e.op x).sent (acted_met p c (mark_of h) h x e.op a j))
    (seen_by c h) a

seen_step : (p : Plan) (c : ℕ) (e : Entry) (h : List Entry) → ReadsAreReads p → IsHistory p (e ∷ h) → seen_by c h ≤ mark_of h → seen_by c (e ∷ h) ≤ mark_of (e ∷ h)
seen_step p c e h v l a = omega (arith, grown, up)
  where
    grown : mark_of h ≤ mark_of (e ∷ h)
    grown = mark_grows (mark_of h) e.op

    lines : e.lines ≡ next_lines p h e.op
    lines = ap (λ x. x.lines) l.1.0 ∙ ap (next_lines p h) (sym (ap (λ x. x.op) l.1.0))

    by_own : (s : ℕ) (b : Bool) → (s == c) ≡ b → client_in e.op ≡ Some s → seen_lines c (client_lines p s h e.op) (seen_by c h) ≤ mark_of h
    by_own s true f q = let g = eqb-true s c f in subst (λ z. seen_lines c (client_lines p z h e.op) (seen_by c h) ≤ mark_of h) (sym g) (lines_up p c e h v l (q ∙ ap Some g) a)
    by_own s false f q = subst (λ z. z ≤ mark_of h) (sym (client_unseen p h c s e.op (seen_by c h) f)) a

    by_client : (o : Option ℕ) → client_in e.op ≡ o → seen_lines c (next_lines p h e.op) (seen_by c h) ≤ mark_of h
    by_client None q = subst (λ z. z ≤ mark_of h) (sym (none_unseen p h c (seen_by c h) e.op q)) a
    by_client (Some s) q = subst (λ ls. seen_lines c ls (seen_by c h) ≤ mark_of h) (sym (next_is p h s e.op q)) (by_own s (s == c) refl q)

    up : seen_by c (e ∷ h) ≤ mark_of h
    up = subst (λ ls. seen_lines c ls (seen_by c h) ≤ mark_of h) (sym lines) (by_client (client_in e.op) refl)

pub seen_published : SeenIsPublished
seen_published p c [] v l = omega arith
seen_published p c (e ∷ h) v l = seen_step p c e h v l (seen_published p c h v l.0)
