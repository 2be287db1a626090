-- No client's view of the tree falls.
use Rattle.std.specs.Prelude.{◌==◌, nat_le, ◌&&◌, max}
use Rattle.std.proofs.Common.{◌≡◌, ℕ, ◌+◌, ◌⊎◌, inl, inr, ◌++◌, Bool, true, false, List, [], ◌∷◌, refl, sym, ◌∙◌, ap, subst, arith, Option, Some, None}
use Rattle.std.proofs.lemmas.Bool.{cond_both, eqb-true}
use Rattle.std.proofs.lemmas.Bool.Decides.{nat_tests}
use Rattle.std.proofs.lemmas.Option.{same_Some, none-some}
use Rattle.fk_base.specs.declared.code.Code.TheVariants as code
use Rattle.fk_tree.specs.Ask.{answer_from}
use Rattle.fk_tree.specs.declared.applied.Applied.{Applied}
use Rattle.fk_tree.specs.declared.node.Node.{Node}
use Rattle.fk_tree.specs.declared.reply.Answer.{Answer}
use Rattle.fk_tree.specs.declared.reply.Answer.TheVariants as answer
use Rattle.fk_tree.specs.declared.request.Request.{Request}
use Rattle.fk_print.specs.declared.entry.Entry.{Entry}
use Rattle.fk_print.specs.declared.line.Line.{Line}
use Rattle.fk_print.specs.declared.line.Line.TheVariants as line
use Rattle.fk_print.specs.declared.line.Shown.{Shown}
use Rattle.fk_print.specs.declared.line.Shown.TheVariants as shown
use Rattle.fk_print.specs.declared.line.Verb.{Verb}
use Rattle.fk_print.specs.declared.op.Op.{Op}
use Rattle.fk_print.specs.declared.op.Op.TheVariants as op
use Rattle.fk_spec.specs.Plan.{Plan, Ask, Want, Unfit, Writes, Reads, asked, asks_in}
use Rattle.fk_spec.specs.Shown.{seen_by, seen_lines, shown_number}
use Rattle.fk_spec.specs.Start.{written}
use Rattle.fk_spec.specs.Settling.{Outcome, Committed, mark_of}
use Rattle.fk_spec.specs.Stored.{committed_as}
use Rattle.fk_spec.specs.Watches.{Firing, firing_of}
use Rattle.fk_spec.specs.Sight.{sight_of}
use Rattle.fk_spec.specs.Client.{is_open, is_ready, by_result, with_told, without_ready, ready_first, is_unfit, registers, is_close, is_write, contains, settle_with, local_result, close_if, looked_for, looked_at, looked, flushed, kept_outcome, settled_as, acted_by, client_in, client_by, client_of, Result, Sent, Reading, Client, Open, Settled, Plain, Expired}
use Rattle.fk_spec.specs.Replies.{verb_asked, line_for, reply_line, reply_lines, first_line, shown_answer, shown_read, shown_asked, read_line, read_lines, looked_lines, notice_of, own_lines, wording}
use Rattle.fk_spec.specs.PublicLines.{Each, lines_of, lines_onto, seen_before}
use Rattle.fk_spec.specs.Promises.{reads_at, IsAtLeast, ViewKept}
use Rattle.fk_spec.specs.Next.{IsHistory, next_lines, lines_of_client, tx_lines}
use Rattle.fk_law.specs.Due.{IsDue}
use Rattle.fk_law.proofs.Due.{due}
use Rattle.fk_law_watch.proofs.Reading.{next_is}
use Rattle.fk_law_client.specs.Views.{WritesAreWrites, EachViewNeverFalls}
use Rattle.fk_law_client.proofs.Acting.{ActsAs, entry_acts}

-- Lines and the lines before them. ---------------------------------------------------------------------

-- each of these lines keeps the view, after the lines before it
abbrev AllKept : List Line → List Line → Type 0
AllKept [] before = Unit {0}
AllKept (l ∷ ls) before = ViewKept l before × AllKept ls (l ∷ before)

each_onto : (ls before : List Line) → Each ViewKept before → AllKept ls before → Each ViewKept (lines_onto ls before)
each_onto [] before i k = i
each_onto (l ∷ ls) before i k = each_onto ls (l ∷ before) (k.0, i) k.1

kept_append : (xs ys before : List Line) → AllKept xs before → ((b : List Line) → AllKept ys b) → AllKept (xs ++ ys) before
kept_append [] ys before i j = j before
kept_append (x ∷ xs) ys before i j = (i.0, kept_append xs ys (x ∷ before) i.1 j)

seen_onto : (c : ℕ) (ls before : List Line) → seen_before c (lines_onto ls before) ≡ seen_lines c ls (seen_before c before)
seen_onto c [] before = refl
seen_onto c (l ∷ ls) before = seen_onto c ls (l ∷ before)

pub seen_is : (c : ℕ) (h : List Entry) → seen_before c (lines_of h) ≡ seen_by c h
seen_is c [] = refl
seen_is c (e ∷ h) = seen_onto c e.lines (lines_of h) ∙ ap (seen_lines c e.lines) (seen_is c h)

-- Commands that aren't reads. --------------------------------------------------------------------------

abbrev IsWritten : Plan → ℕ → ℕ → Type 0
IsWritten p c i = is_write (verb_asked (asked p c i)) ≡ true

-- each of these commands is a write
abbrev AreWritten : Plan → ℕ → List Sent → Type 0
AreWritten p c [] = Unit {0}
AreWritten p c (s ∷ ss) = IsWritten p c s.command × AreWritten p c ss

append_written : (p : Plan) (c : ℕ) (ss : List Sent) (s : Sent) → AreWritten p c ss → IsWritten p c s.command → AreWritten p c (ss ++ s ∷ [])
append_written p c [] s i j = (j, tt)
append_written p c (x ∷ ss) s i j = (i.0, append_written p c ss s i.1 j)

settled_written : (p : Plan) (c k : ℕ) (r : Result) (ss : List Sent) → AreWritten p c ss → AreWritten p c (with_told by_result k r ss)
settled_written p c k r [] i = tt
settled_written p c k r (s ∷ ss) i = cond_both ((s.k == k) && is_open s.result) (record s { result = r } ∷ ss) (s ∷ with_told by_result k r ss) (AreWritten p c) (λ _. i) (λ _. (i.0, settled_written p c k r ss i.1))

unready_written : (p : Plan) (c : ℕ) (ss : List Sent) → AreWritten p c ss → AreWritten p c (without_ready by_result ss)
unready_written p c [] i = tt
unready_written p c (s ∷ ss) i = cond_both (is_ready s.result) (without_ready by_result ss) (s ∷ ss) (AreWritten p c) (λ _. unready_written p c ss i.1) (λ _. i)

ready_written : (p : Plan) (c : ℕ) (ss : List Sent) → AreWritten p c ss → AreWritten p c (ready_first by_result ss)
ready_written p c [] i = tt
ready_written p c (s ∷ ss) i = cond_both (is_ready s.result) (s ∷ ready_first by_result ss) [] (AreWritten p c) (λ _. (i.0, ready_written p c ss i.1)) (λ _. tt)

kept_written : (p : Plan) (c k : ℕ) (o : Option Outcome) (x : Client Sent) → AreWritten p c x.sent → AreWritten p c (settle_with by_result k (settled_as o) x).sent
kept_written p c k None x i = i
kept_written p c k (Some o) x i = settled_written p c k (Settled o) x.sent i

looked_for_written : (p : Plan) (c : ℕ) (ss : List Sent) (x : Client Sent) → x.sent ≡ ss → AreWritten p c ss → AreWritten p c (looked_for by_result (asks_in p c) ss x).sent
looked_for_written p c [] x e i = subst (AreWritten p c) (sym e) tt
looked_for_written p c (s ∷ ss) x e i = closing (is_close (asked p c s.command))
  where
    closing : (b : Bool) → AreWritten p c (close_if b (record x { sent = ss })).sent
    closing true = i.1
    closing false = i.1

looked_at_written : (p : Plan) (c : ℕ) (b : Bool) (r : Reading) (x : Client Sent) → AreWritten p c x.sent → AreWritten p c (looked_at b r x).sent
looked_at_written p c true r x i = i
looked_at_written p c false r x i = i

looked_written : (p : Plan) (c : ℕ) (r : Option Reading) (x : Client Sent) → AreWritten p c x.sent → AreWritten p c (looked by_result (asks_in p c) r x).sent
looked_written p c None x i = looked_for_written p c x.sent x refl i
looked_written p c (Some r) x i = looked_at_written p c (registers (asked p c (x.begun + 1)) r.node) r x i

-- Lines of a client. -----------------------------------------------------------------------------------

written_kept : (p : Plan) (h : List Entry) (c : ℕ) (s : Sent) (before : List Line) → IsWritten p c s.command → ViewKept (reply_line (wording p c h) s) before
written_kept p h c s before i = rw i tt

replies_kept : (p : Plan) (h : List Entry) (c : ℕ) (ss : List Sent) (before : List Line) → AreWritten p c ss → AllKept (reply_lines (wording p c h) ss) before
replies_kept p h c [] before i = tt
replies_kept p h c (s ∷ ss) before i = (written_kept p h c s before i.0, replies_kept p h c ss (reply_line (wording p c h) s ∷ before) i.1)

answer_at_least : (seen n : ℕ) (a : Answer) → nat_le seen n ≡ true → IsAtLeast seen (shown_number (shown_answer n a))
answer_at_least seen n (answer.Got bytes stat) e = e
answer_at_least seen n (answer.Stated stat) e = e
answer_at_least seen n (answer.Listed names) e = e
answer_at_least seen n answer.NoNode e = e

want_at_least : (seen n : ℕ) (found : Option Node) (w : Want) → nat_le seen n ≡ true → IsAtLeast seen (shown_number (shown_read n found w))
want_at_least seen n found (Reads q watch) e = answer_at_least seen n (answer_from q found) e
want_at_least seen n found Unfit e = tt
want_at_least seen n found (Writes r) e = tt

asked_at_least : (seen n : ℕ) (found : Option Node) (a : Option Ask) → nat_le seen n ≡ true → IsAtLeast seen (shown_number (shown_asked n found a))
asked_at_least seen n found None e = tt
asked_at_least seen n found (Some a) e = want_at_least seen n found a.want e

at_least_reads : (seen : ℕ) (v : Verb) (s : Shown) → IsAtLeast seen (shown_number s) → IsAtLeast seen (reads_at v s)
at_least_reads seen v s i = cond_both (is_write v) None (shown_number s) (IsAtLeast seen) (λ _. tt) (λ _. i)

at_least_max : (a b : ℕ) → nat_le a (max a b) ≡ true
at_least_max a b = grind (arith, nat_tests)

-- a reply that shows at least what its client has seen
shown_kept : (p : Plan) (h : List Entry) (c i : ℕ) (s : Shown) → IsAtLeast (seen_by c h) (shown_number s) → ViewKept (line_for c (asks_in p c) i s) (lines_of h)
shown_kept p h c i s a = subst (λ n. IsAtLeast n (reads_at (verb_asked (asked p c i)) s)) (sym (seen_is c h)) (at_least_reads (seen_by c h) (verb_asked (asked p c i)) s a)

read_kept : (p : Plan) (h : List Entry) (c i : ℕ) (r : Reading) → ViewKept (read_line c (asks_in p c) (seen_by c h) i r) (lines_of h)
read_kept p h c i r = let n = max (seen_by c h) r.stamp in shown_kept p h c i (shown_asked n r.node (asked p c i)) (asked_at_least (seen_by c h) n r.node (asked p c i) (at_least_max (seen_by c h) r.stamp))

first_kept : (p : Plan) (h : List Entry) (c : ℕ) (ss : List Sent) (before : List Line) → AreWritten p c ss → AllKept (first_line (wording p c h) ss) before
first_kept p h c [] before i = tt
first_kept p h c (s ∷ ss) before i = (written_kept p h c s before i.0, tt)

looked_kept : (p : Plan) (h : List Entry) (c : ℕ) (x : Client Sent) (r : Option Reading) → AreWritten p c x.sent → AllKept (looked_lines (wording p c h) (seen_by c h) x r) (lines_of h)
looked_kept p h c x None i = first_kept p h c x.sent (lines_of h) i
looked_kept p h c x (Some r) i = cond_both (registers (asked p c (x.begun + 1)) r.node) [] (read_line c (asks_in p c) (seen_by c h) (x.begun + 1) r ∷ []) (λ ls. AllKept ls (lines_of h)) (λ _. tt) (λ _. (read_kept p h c (x.begun + 1) r, tt))

reads_kept : (p : Plan) (h : List Entry) (c i : ℕ) (r : Option Reading) → AllKept (read_lines c (asks_in p c) (seen_by c h) i r) (lines_of h)
reads_kept p h c i None = tt
reads_kept p h c i (Some r) = (read_kept p h c i r, tt)

notice_kept : (c : ℕ) (f : Option Firing) (before : List Line) → AllKept (notice_of c f) before
notice_kept c None before = tt
notice_kept c (Some f) before = (tt, tt)

own_kept : (p : Plan) (h : List Entry) (c : ℕ) (x : Client Sent) (o : Op) → AreWritten p c x.sent → AllKept (own_lines (wording p c h) (sight_of p c h) x o) (lines_of h)
own_kept p h c x (op.TakeEvicted d k t) i = cond_both x.closed [] (line.Expired c t ∷ []) (λ ls. AllKept ls (lines_of h)) (λ _. tt) (λ _. (tt, tt))
own_kept p h c x (op.TakeWatch d id) i = cond_both (contains id x.held) (notice_of c (firing_of p id h)) [] (λ ls. AllKept ls (lines_of h)) (λ _. notice_kept c (firing_of p id h) (lines_of h)) (λ _. tt)
own_kept p h c x (op.LookOk d j m) i = looked_kept p h c x x.reading i
own_kept p h c x (op.WatchSet d j id) i = reads_kept p h c j x.reading
own_kept p h c x (op.ReadFault d j) i = (shown_kept p h c j (shown.Plain code.SystemError) tt, tt)
own_kept p h c x (op.WatchFault d j) i = (shown_kept p h c j (shown.Plain code.SystemError) tt, tt)
own_kept p h c x o i = tt

-- One operation of a client. ---------------------------------------------------------------------------

-- the commands that stay unanswered are writes, and what is printed keeps the view
abbrev StepSo : Plan → List Entry → ℕ → List Line → List Sent → Type 0
StepSo p h c own ss = AreWritten p c (without_ready by_result ss) × AllKept (own ++ reply_lines (wording p c h) (ready_first by_result ss)) (lines_of h)

writes_step : (p : Plan) (h : List Entry) (c : ℕ) (own : List Line) (ss : List Sent) → AllKept own (lines_of h) → AreWritten p c ss → StepSo p h c own ss
writes_step p h c own ss k i = (unready_written p c ss i, kept_append own (reply_lines (wording p c h) (ready_first by_result ss)) (lines_of h) k (λ b. replies_kept p h c (ready_first by_result ss) b (ready_written p c ss i)))

abbrev IsNew : ℕ → Result → Type 0
IsNew seen (Plain cd) = Unit {0}
IsNew seen (Expired at) = at ≡ seen
IsNew seen _ = ⊥

le_self : (n : ℕ) → nat_le n n ≡ true
le_self n = grind (arith, nat_tests)

-- a command that is refused at once while nothing is unanswered
alone_step : (p : Plan) (h : List Entry) (c i : ℕ) (r : Result) (ss : List Sent) → ss ≡ [] → IsNew (seen_by c h) r → StepSo p h c [] (ss ++ record { command = i; k = 0; result = r } ∷ [])
alone_step p h c i (Plain cd) ss e n = rw e (tt, (shown_kept p h c i (shown.Plain cd) tt, tt))
alone_step p h c i (Expired at) ss e n = rw e (tt, (shown_kept p h c i (shown.Refused code.SessionExpired at 0) (subst (λ m. nat_le (seen_by c h) m ≡ true) (sym n) (le_self (seen_by c h))), tt))
alone_step p h c i Open ss e n = absurd n
alone_step p h c i (Settled o) ss e n = absurd n

refused_step : (p : Plan) (h : List Entry) (c i : ℕ) (r : Result) (ss : List Sent) → AreWritten p c ss → IsNew (seen_by c h) r → IsWritten p c i ⊎ (ss ≡ []) → StepSo p h c [] (ss ++ record { command = i; k = 0; result = r } ∷ [])
refused_step p h c i r ss w n (inl j) = writes_step p h c [] (ss ++ record { command = i; k = 0; result = r } ∷ []) tt (append_written p c ss (record { command = i; k = 0; result = r }) w j)
refused_step p h c i r ss w n (inr e) = alone_step p h c i r ss e n

local_new : (b : Bool) (seen : ℕ) → IsNew seen (local_result b seen)
local_new true seen = tt
local_new false seen = refl

own_step : (p : Plan) (h : List Entry) (c seen mark : ℕ) (x : Client Sent) (o : Op) → ActsAs p c x seen mark o → ((d i k : ℕ) → o ≡ op.Send d i k → IsWritten p c i) → AreWritten p c x.sent → StepSo p h c (own_lines (wording p c h) (sight_of p c h) x o) (acted_by (sight_of p c h) o x).sent
own_step p h c seen mark x (op.Send d i k) a s w = writes_step p h c [] (x.sent ++ record { command = i; k = k; result = Open } ∷ []) tt (append_written p c x.sent (record { command = i; k = k; result = Open }) w (s d i k refl))
own_step p h c seen mark x (op.SendFault d i) a s w = refused_step p h c i (Plain code.ConnectionLoss) x.sent w tt a.2
own_step p h c seen mark x (op.Local d i) a s w = refused_step p h c i (local_result (is_unfit (asked p c i)) (seen_by c h)) x.sent w (local_new (is_unfit (asked p c i)) (seen_by c h)) a.2
own_step p h c seen mark x (op.TakeDone d k t) a s w = writes_step p h c [] (with_told by_result k (Settled (Committed t)) x.sent) tt (settled_written p c k (Settled (Committed t)) x.sent w)
own_step p h c seen mark x (op.TakeRefused d k) a s w = writes_step p h c [] (settle_with by_result k (settled_as (kept_outcome (sight_of p c h).head)) x).sent tt (kept_written p c k (kept_outcome (sight_of p c h).head) x w)
own_step p h c seen mark x (op.TakeLost d k) a s w = writes_step p h c [] (settle_with by_result k (settled_as (kept_outcome (sight_of p c h).head)) x).sent tt (kept_written p c k (kept_outcome (sight_of p c h).head) x w)
own_step p h c seen mark x (op.LookOk d i m) a s w = writes_step p h c (own_lines (wording p c h) (sight_of p c h) x (op.LookOk d i m)) (looked by_result (asks_in p c) x.reading x).sent (own_kept p h c x (op.LookOk d i m) w) (looked_written p c x.reading x w)
own_step p h c seen mark x o a s w = writes_step p h c (own_lines (wording p c h) (sight_of p c h) x o) x.sent (own_kept p h c x o w) w

-- Histories. -------------------------------------------------------------------------------------------

written_is : (a : Option Ask) (r : Request) → written a ≡ Some r → (v : Ask) × (a ≡ Some v) × (v.want ≡ Writes r)
written_is None r e = absurd (none-some r e)
written_is (Some a) r e = (a, refl, wants a.want e)
  where
    wants : (w : Want) → written (Some (record a { want = w })) ≡ Some r → w ≡ Writes r
    wants Unfit f = absurd (none-some r f)
    wants (Reads q b) f = absurd (none-some r f)
    wants (Writes s) f = ap Writes (same_Some s r f)

sends_written : (p : Plan) (h : List Entry) (c d i k : ℕ) (o : Op) → WritesAreWrites p → IsDue p h o → client_in o ≡ Some c → o ≡ op.Send d i k → IsWritten p c i
sends_written p h c d i k o v b e f =
    let u = subst (IsDue p h) f b in
    let g = written_is (asked p d i) u.1 u.2 in
    subst (λ z. IsWritten p z i) (same_Some d c (sym (ap client_in f) ∙ e)) (subst (λ z. is_write (verb_asked z) ≡ true) (sym g.1) (v d i g.0 u.1 g.1 g.2))

entry_step : (p : Plan) (c : ℕ) (e : Entry) (h : List Entry) → WritesAreWrites p → IsHistory p (e ∷ h) → client_in e.op ≡ Some c → AreWritten p c (client_of p c h).sent → StepSo p h c (own_lines (wording p c h) (sight_of p c h) (client_of p c h) e.op) (acted_by (sight_of p c h) e.op (client_of p c h)).sent
entry_step p c e h v l q w = own_step p h c (seen_by c h) (mark_of h) (client_of p c h) e.op (entry_acts p c e h l q) (λ d i k f. sends_written p h c d i k e.op v (due p e h l) q f) w

client_written : (p : Plan) (c : ℕ) (e : Entry) (h : List Entry) (o : Option ℕ) → client_in e.op ≡ o → (client_in e.op ≡ Some c → AreWritten p c (flushed by_result (acted_by (sight_of p c h) e.op (client_of p c h))).sent) → AreWritten p c (client_of p c h).sent → AreWritten p c (client_by (sight_of p c h) o e.op (client_of p c h)).sent
client_written p c e h None q f w = w
client_written p c e h (Some s) q f w = cond_both (s == c) (flushed by_result (acted_by (sight_of p c h) e.op (client_of p c h))) (client_of p c h) (λ y. AreWritten p c y.sent) (λ t. f (q ∙ ap Some (eqb-true s c t))) (λ _. w)

are_written : (p : Plan) (c : ℕ) (h : List Entry) → WritesAreWrites p → IsHistory p h → AreWritten p c (client_of p c h).sent
are_written p c [] v l = tt
are_written p c (e ∷ h) v l = let w = are_written p c h v l.0 in client_written p c e h (client_in e.op) refl (λ q. (entry_step p c e h v l q w).0) w

txs_kept : (a : Option Applied) (before : List Line) → AllKept (tx_lines a) before
txs_kept None before = tt
txs_kept (Some a) before = (tt, tt)

none_kept : (p : Plan) (h : List Entry) (o : Op) (before : List Line) → client_in o ≡ None → AllKept (next_lines p h o) before
none_kept p h (op.PublishOk m t) before e = txs_kept (committed_as p t h) before
none_kept p h o before e = subst (λ s. AllKept (lines_of_client p h o s) before) (sym e) tt

entry_kept : (p : Plan) (e : Entry) (h : List Entry) → WritesAreWrites p → IsHistory p (e ∷ h) → AllKept e.lines (lines_of h)
entry_kept p e h v l = subst (λ ls. AllKept ls (lines_of h)) (sym lines) (by_client (client_in e.op) refl)
  where
    lines : e.lines ≡ next_lines p h e.op
    lines = ap (λ x. x.lines) l.1.0 ∙ ap (next_lines p h) (sym (ap (λ x. x.op) l.1.0))

    by_client : (o : Option ℕ) → client_in e.op ≡ o → AllKept (next_lines p h e.op) (lines_of h)
    by_client None q = none_kept p h e.op (lines_of h) q
    by_client (Some c) q = subst (λ ls. AllKept ls (lines_of h)) (sym (next_is p h c e.op q)) (entry_step p c e h v l q (are_written p c h v l.0)).1

pub views_kept : EachViewNeverFalls
views_kept p [] v l = tt
views_kept p (e ∷ h) v l = each_onto e.lines (lines_of h) (views_kept p h v l.0) (entry_kept p e h v l)
