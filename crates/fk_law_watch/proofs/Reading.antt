-- A client's read is made while no command is unanswered, and is looked at before a watch is set.
use Rattle.std.specs.Prelude.{◌==◌, if◌then◌else◌, max}
use Rattle.std.proofs.Common.{◌≡◌, ℕ, ◌+◌, ◌≤◌, ◌++◌, Bool, true, false, List, [], ◌∷◌, refl, sym, ◌∙◌, ap, subst, arith, Option, Some, None}
use Rattle.std.proofs.lemmas.Bool.{false≢true, cond_both}
use Rattle.std.proofs.lemmas.Bool.Decides.{nat_tests}
use Rattle.std.proofs.lemmas.Option.{same_Some, none-some}
use Rattle.fk_tree.specs.declared.applied.Applied.{Applied}
use Rattle.fk_print.specs.declared.entry.Entry.{Entry}
use Rattle.fk_print.specs.declared.line.Line.{Line}
use Rattle.fk_print.specs.declared.line.Line.TheVariants as line
use Rattle.fk_print.specs.declared.op.Op.{Op}
use Rattle.fk_print.specs.declared.op.Op.TheVariants as op
use Rattle.fk_spec.specs.Plan.{Plan, asked, asks_in}
use Rattle.fk_spec.specs.Shown.{seen_by, seen_in, seen_lines}
use Rattle.fk_spec.specs.Settling.{Outcome, mark_of, mark_in}
use Rattle.fk_spec.specs.Stored.{committed_as}
use Rattle.fk_spec.specs.Watches.{Firing, firing_of}
use Rattle.fk_spec.specs.Sight.{sight_of, Sight}
use Rattle.fk_spec.specs.Client.{by_result, without_ready, ready_first, registers, is_close, is_write, target_sent, target_of, contains, all_go_on, is_none_sent, settle_with, close_if, looked_for, looked_at, flushed, kept_outcome, settled_as, acted_by, client_in, client_by, client_of, Sent, Reading, Client, Target}
use Rattle.fk_spec.specs.Replies.{reply_line, reply_lines, first_line, read_line, read_lines, looked_lines, notice_of, own_lines, wording, client_lines}
use Rattle.fk_spec.specs.Next.{IsHistory, next_lines, lines_of_client, tx_lines}
use Rattle.fk_law.specs.Operations.{BeginsRead, OperationSays}
use Rattle.fk_law.proofs.Due.{client_operations_say}
use Rattle.fk_law.proofs.Leading.{mark_grows}
use Rattle.fk_law_watch.specs.FirstNumbers.{ReadsAreReads, WatchesAreSetUpToTheMark}
use Rattle.fk_law_watch.specs.Registering.{number_from, number_of_read}

-- What a client's operations say of it. ----------------------------------------------------------------

abbrev IsLookedAt : Client Sent → ℕ → ℕ → Type 0
IsLookedAt x seen mark = (r : Reading) → x.reading ≡ Some r → x.sent ≡ [] → max seen r.stamp ≤ mark

abbrev WasLookedAt : Client Sent → Type 0
WasLookedAt x = (r : Reading) → x.reading ≡ Some r → x.sent ≡ [] → r.looked ≡ true

-- what these operations of client c, standing so, say of it
abbrev ActsAs : Client Sent → ℕ → ℕ → Op → Type 0
ActsAs x seen mark (op.LookOk c i m) = IsLookedAt x seen mark
ActsAs x seen mark (op.WatchSet c i id) = WasLookedAt x
ActsAs x seen mark (op.Send c i k) = x.reading ≡ None
ActsAs x seen mark (op.SendFault c i) = x.reading ≡ None
ActsAs x seen mark (op.Local c i) = x.reading ≡ None
ActsAs x seen mark (op.Read c i s) = x.sent ≡ []
ActsAs x seen mark _ = Unit {0}

pub cons_nil : (s : Sent) (ss : List Sent) → s ∷ ss ≡ [] → ⊥
cons_nil s ss e = grind arith

-- what is looked for while nothing is unanswered is the read's number
target_read : (s : Sight) (x : Client Sent) (r : Option Reading) (t : Target) → x.reading ≡ r → target_of by_result s.seen x r ≡ Some t → t.number ≤ s.mark → IsLookedAt x s.seen s.mark
target_read s x r t e q b = λ z f g. by_look z (sym e ∙ f) g (subst (λ y. target_of by_result s.seen x y ≡ Some t) (sym e ∙ f) q)
  where
    by_sent : (ss : List Sent) → ss ≡ [] → target_sent by_result ss ≡ Some t → ⊥
    by_sent [] g u = none-some t u
    by_sent (y ∷ ss) g u = cons_nil y ss g

    by_look : (z : Reading) → r ≡ Some z → x.sent ≡ [] → target_of by_result s.seen x (Some z) ≡ Some t → max s.seen z.stamp ≤ s.mark
    by_look z f g u = by_flag z.looked u
      where
        by_flag : (b : Bool) → (if b then target_sent by_result x.sent else Some (record { command = x.begun + 1; number = max s.seen z.stamp })) ≡ Some t → max s.seen z.stamp ≤ s.mark
        by_flag true v = absurd (by_sent x.sent g v)
        by_flag false v = subst (λ y. y.number ≤ s.mark) (sym (same_Some (record { command = x.begun + 1; number = max s.seen z.stamp }) t v)) b

pub none_sent : (ss : List Sent) → is_none_sent ss ≡ true → ss ≡ []
none_sent [] e = refl
none_sent (s ∷ ss) e = absurd (false≢true e)

-- a read is begun while nothing is unanswered
reads_alone : (p : Plan) (c i : ℕ) (h : List Entry) → ReadsAreReads p → BeginsRead p c i h → (client_of p c h).sent ≡ []
reads_alone p c i h k b = none_sent (client_of p c h).sent (shown (is_write b.begins.ask.verb) (k c i b.begins.ask b.query b.watch b.begins.is_asked b.reads) b.begins.allowed)
  where
    shown : (w : Bool) → w ≡ false → (if w then all_go_on by_result (asks_in p c) (client_of p c h).sent else is_none_sent (client_of p c h).sent) ≡ true → is_none_sent (client_of p c h).sent ≡ true
    shown true f g = absurd (false≢true (sym f))
    shown false f g = g

acts_as : (p : Plan) (c : ℕ) (h : List Entry) (o : Op) → ReadsAreReads p → OperationSays p c h o → ActsAs (client_of p c h) (seen_by c h) (mark_of h) o
acts_as p c h (op.LookOk d i m) k a = target_read (sight_of p c h) (client_of p c h) (client_of p c h).reading (record { command = i; number = a.0.number }) refl a.0.target a.2
acts_as p c h (op.WatchSet d i id) k a = λ r e _. subst (λ z. z.looked ≡ true) (same_Some a.0.reading r (sym a.0.made ∙ e)) a.0.looked
acts_as p c h (op.Send d i n) k a = a.0.begins.reads_nothing
acts_as p c h (op.SendFault d i) k a = a.begins.reads_nothing
acts_as p c h (op.Local d i) k a = a.0.reads_nothing
acts_as p c h (op.Read d i s) k a = reads_alone p c i h k a.0
acts_as p c h o k a = tt

-- an operation of client c says this of it
entry_acts : (p : Plan) (c : ℕ) (e : Entry) (h : List Entry) → ReadsAreReads p → IsHistory p (e ∷ h) → client_in e.op ≡ Some c → ActsAs (client_of p c h) (seen_by c h) (mark_of h) e.op
entry_acts p c e h k l a = acts_as p c h e.op k (client_operations_say p c e h l a)

-- What a line shows to other clients. ------------------------------------------------------------------

pub seen_append : (c : ℕ) (xs ys : List Line) (n : ℕ) → seen_lines c (xs ++ ys) n ≡ seen_lines c ys (seen_lines c xs n)
seen_append c [] ys n = refl
seen_append c (x ∷ xs) ys n = seen_append c xs ys (seen_in c x n)

line_unseen : (p : Plan) (h : List Entry) (c s : ℕ) (x : Sent) (n : ℕ) → (s == c) ≡ false → seen_in c (reply_line (wording p s h) x) n ≡ n
line_unseen p h c s x n e = rw e refl

replies_unseen : (p : Plan) (h : List Entry) (c s : ℕ) (ss : List Sent) (n : ℕ) → (s == c) ≡ false → seen_lines c (reply_lines (wording p s h) ss) n ≡ n
replies_unseen p h c s [] n e = refl
replies_unseen p h c s (x ∷ ss) n e = ap (seen_lines c (reply_lines (wording p s h) ss)) (line_unseen p h c s x n e) ∙ replies_unseen p h c s ss n e

first_unseen : (p : Plan) (h : List Entry) (c s : ℕ) (ss : List Sent) (n : ℕ) → (s == c) ≡ false → seen_lines c (first_line (wording p s h) ss) n ≡ n
first_unseen p h c s [] n e = refl
first_unseen p h c s (x ∷ ss) n e = rw e refl

looked_unseen : (p : Plan) (h : List Entry) (c s : ℕ) (x : Client Sent) (r : Option Reading) (n : ℕ) → (s == c) ≡ false → seen_lines c (looked_lines (wording p s h) (seen_by s h) x r) n ≡ n
looked_unseen p h c s x None n e = first_unseen p h c s x.sent n e
looked_unseen p h c s x (Some r) n e = cond_both (registers (asked p s (x.begun + 1)) r.node) [] (read_line s (asks_in p s) (seen_by s h) (x.begun + 1) r ∷ []) (λ ls. seen_lines c ls n ≡ n) (λ _. refl) (λ _. rw e refl)

notice_unseen : (c s n : ℕ) (o : Option Firing) → (s == c) ≡ false → seen_lines c (notice_of s o) n ≡ n
notice_unseen c s n None e = refl
notice_unseen c s n (Some f) e = rw e refl

read_unseen : (p : Plan) (h : List Entry) (c s i n : ℕ) (r : Option Reading) → (s == c) ≡ false → seen_lines c (read_lines s (asks_in p s) (seen_by s h) i r) n ≡ n
read_unseen p h c s i n None e = refl
read_unseen p h c s i n (Some r) e = rw e refl

expired_unseen : (c s t n : ℕ) (closed : Bool) → (s == c) ≡ false → seen_lines c (if closed then [] else line.Expired s t ∷ []) n ≡ n
expired_unseen c s t n true e = refl
expired_unseen c s t n false e = rw e refl

own_unseen : (p : Plan) (h : List Entry) (c s : ℕ) (x : Client Sent) (o : Op) (n : ℕ) → (s == c) ≡ false → seen_lines c (own_lines (wording p s h) (sight_of p s h) x o) n ≡ n
own_unseen p h c s x (op.TakeEvicted d k t) n e = expired_unseen c s t n x.closed e
own_unseen p h c s x (op.TakeWatch d id) n e = cond_both (contains id x.held) (notice_of s (firing_of p id h)) [] (λ ls. seen_lines c ls n ≡ n) (λ _. notice_unseen c s n (firing_of p id h) e) (λ _. refl)
own_unseen p h c s x (op.LookOk d i m) n e = looked_unseen p h c s x x.reading n e
own_unseen p h c s x (op.WatchSet d i id) n e = read_unseen p h c s i n x.reading e
own_unseen p h c s x (op.ReadFault d i) n e = rw e refl
own_unseen p h c s x (op.WatchFault d i) n e = rw e refl
own_unseen p h c s x o n e = refl

pub client_unseen : (p : Plan) (h : List Entry) (c s : ℕ) (o : Op) (n : ℕ) → (s == c) ≡ false → seen_lines c (client_lines p s h o) n ≡ n
client_unseen p h c s o n e =
    let x = client_of p s h in
    seen_append c (own_lines (wording p s h) (sight_of p s h) x o) (reply_lines (wording p s h) (ready_first by_result (acted_by (sight_of p s h) o x).sent)) n
    ∙ replies_unseen p h c s (ready_first by_result (acted_by (sight_of p s h) o x).sent) (seen_lines c (own_lines (wording p s h) (sight_of p s h) x o) n) e
    ∙ own_unseen p h c s x o n e

txs_unseen : (c n : ℕ) (a : Option Applied) → seen_lines c (tx_lines a) n ≡ n
txs_unseen c n None = refl
txs_unseen c n (Some a) = refl

pub none_unseen : (p : Plan) (h : List Entry) (c n : ℕ) (o : Op) → client_in o ≡ None → seen_lines c (next_lines p h o) n ≡ n
none_unseen p h c n (op.PublishOk m t) e = txs_unseen c n (committed_as p t h)
none_unseen p h c n o e = ap (λ s. seen_lines c (lines_of_client p h o s) n) e

-- A client's read. -------------------------------------------------------------------------------------

-- while a read is made no command is unanswered, and once it was looked at its number is published
abbrev pub ReadSo : List Sent → ℕ → ℕ → Option Reading → Type 0
ReadSo sent seen mark None = Unit {0}
ReadSo sent seen mark (Some r) = (sent ≡ []) × (r.looked ≡ true → max seen r.stamp ≤ mark)

abbrev pub ReadsSo : Plan → ℕ → List Entry → Type 0
ReadsSo p c h = ReadSo (client_of p c h).sent (seen_by c h) (mark_of h) (client_of p c h).reading

more_marked : (ss : List Sent) (seen m k : ℕ) (r : Option Reading) → m ≤ k → ReadSo ss seen m r → ReadSo ss seen k r
more_marked ss seen m k None a i = tt
more_marked ss seen m k (Some r) a i = (i.0, λ b. let c = i.1 b in omega (arith, a, c))

kept_read : (p : Plan) (k : ℕ) (o : Option Outcome) (x : Client Sent) → (flushed by_result (settle_with by_result k (settled_as o) x)).reading ≡ None
kept_read p k None x = refl
kept_read p k (Some o) x = refl

pub looked_read : (p : Plan) (c : ℕ) (ss : List Sent) (x : Client Sent) → (flushed by_result (looked_for by_result (asks_in p c) ss x)).reading ≡ x.reading
looked_read p c [] x = refl
looked_read p c (s ∷ ss) x = closing (is_close (asked p c s.command))
  where
    closing : (b : Bool) → (flushed by_result (close_if b (record x { sent = ss }))).reading ≡ x.reading
    closing true = refl
    closing false = refl

no_read : (ss : List Sent) (seen mark : ℕ) (r : Option Reading) → r ≡ None → ReadSo ss seen mark r
no_read ss seen mark r e = subst (ReadSo ss seen mark) (sym e) tt

-- what client c prints with its own operation, standing so
abbrev pub lines_by : Plan → List Entry → ℕ → Client Sent → Op → List Line
lines_by p h c x o = own_lines (wording p c h) (sight_of p c h) x o ++ reply_lines (wording p c h) (ready_first by_result (acted_by (sight_of p c h) o x).sent)

abbrev AfterOwn : Plan → List Entry → ℕ → Client Sent → Op → ℕ → ℕ → Type 0
AfterOwn p h c x o seen mark = ReadSo (flushed by_result (acted_by (sight_of p c h) o x)).sent (seen_lines c (lines_by p h c x o) seen) (mark_in o mark) (flushed by_result (acted_by (sight_of p c h) o x)).reading

looked_step : (p : Plan) (h : List Entry) (c : ℕ) (x : Client Sent) (r : Reading) (d i m seen mark : ℕ) → x.reading ≡ Some r → x.sent ≡ [] → max seen r.stamp ≤ mark → (g : Bool) → ReadSo (flushed by_result (looked_at g r x)).sent (seen_lines c ((if g then [] else read_line c (asks_in p c) (seen_by c h) (x.begun + 1) r ∷ []) ++ reply_lines (wording p c h) (ready_first by_result (looked_at g r x).sent)) seen) mark (flushed by_result (looked_at g r x)).reading
looked_step p h c x r d i m seen mark e f a true = rw f (refl, λ _. a)
looked_step p h c x r d i m seen mark e f a false = tt

own_step : (p : Plan) (h : List Entry) (c : ℕ) (seen mark : ℕ) (o : Op) (rd : Option Reading) (ss : List Sent) (b : ℕ) (hd ow : List ℕ) (cl : Bool) → client_in o ≡ Some c → ActsAs (record { begun = b; sent = ss; held = hd; owed = ow; reading = rd; closed = cl }) seen mark o → ReadSo ss seen mark rd → AfterOwn p h c (record { begun = b; sent = ss; held = hd; owed = ow; reading = rd; closed = cl }) o seen mark
own_step p h c seen mark (op.Read d i s) rd ss b hd ow cl e a w = (ap (without_ready by_result) a, λ z. absurd (false≢true z))
own_step p h c seen mark (op.TakeRefused d k) rd ss b hd ow cl e a w = no_read _ _ _ _ (kept_read p k (kept_outcome (sight_of p c h).head) (record { begun = b; sent = ss; held = hd; owed = ow; reading = rd; closed = cl }))
own_step p h c seen mark (op.TakeLost d k) rd ss b hd ow cl e a w = no_read _ _ _ _ (kept_read p k (kept_outcome (sight_of p c h).head) (record { begun = b; sent = ss; held = hd; owed = ow; reading = rd; closed = cl }))
own_step p h c seen mark (op.LookOk d i m) None ss b hd ow cl e a w = no_read _ _ _ _ (looked_read p c ss (record { begun = b; sent = ss; held = hd; owed = ow; reading = None; closed = cl }))
own_step p h c seen mark (op.LookOk d i m) (Some r) [] b hd ow cl e a w = looked_step p h c (record { begun = b; sent = []; held = hd; owed = ow; reading = Some r; closed = cl }) r d i m seen mark refl refl (a r refl refl) (registers (asked p c (b + 1)) r.node)
own_step p h c seen mark (op.LookOk d i m) (Some r) (s ∷ ss) b hd ow cl e a w = absurd (cons_nil s ss w.0)
own_step p h c seen mark (op.Send d i k) rd ss b hd ow cl e a w = no_read _ _ _ rd a
own_step p h c seen mark (op.SendFault d i) rd ss b hd ow cl e a w = no_read _ _ _ rd a
own_step p h c seen mark (op.Local d i) rd ss b hd ow cl e a w = no_read _ _ _ rd a
own_step p h c seen mark (op.TakeDone d k t) rd ss b hd ow cl e a w = tt
own_step p h c seen mark (op.TakeEvicted d k t) rd ss b hd ow cl e a w = tt
own_step p h c seen mark (op.TakeWatch d id) rd ss b hd ow cl e a w = tt
own_step p h c seen mark (op.TakePing d n) rd ss b hd ow cl e a w = tt
own_step p h c seen mark (op.WatchSet d i id) rd ss b hd ow cl e a w = tt
own_step p h c seen mark (op.WatchSwept d i t) rd ss b hd ow cl e a w = tt
own_step p h c seen mark (op.ReadFault d i) rd ss b hd ow cl e a w = tt
own_step p h c seen mark (op.WatchFault d i) rd ss b hd ow cl e a w = tt
own_step p h c seen mark (op.PublishOk n t) rd ss b hd ow cl e a w = absurd (none-some c e)
own_step p h c seen mark o None ss b hd ow cl e a w = tt
own_step p h c seen mark o (Some r) [] b hd ow cl e a w = (refl, w.1)
own_step p h c seen mark o (Some r) (s ∷ ss) b hd ow cl e a w = absurd (cons_nil s ss w.0)

pub next_is : (p : Plan) (h : List Entry) (s : ℕ) (o : Op) → client_in o ≡ Some s → next_lines p h o ≡ client_lines p s h o
next_is p h s (op.PublishOk n t) e = absurd (none-some s e)
next_is p h s o e = ap (lines_of_client p h o) e

-- client c's read after one more operation with these lines
abbrev After : Plan → ℕ → List Entry → Op → List Line → Option ℕ → Type 0
After p c h o ls k = ReadSo (client_by (sight_of p c h) k o (client_of p c h)).sent (seen_lines c ls (seen_by c h)) (mark_in o (mark_of h)) (client_by (sight_of p c h) k o (client_of p c h)).reading

read_step : (p : Plan) (c : ℕ) (h : List Entry) (o : Op) → (client_in o ≡ Some c → ActsAs (client_of p c h) (seen_by c h) (mark_of h) o) → ReadsSo p c h → After p c h o (next_lines p h o) (client_in o)
read_step p c h o a w = by_client (client_in o) refl
  where
    x : Client Sent
    x = client_of p c h

    more : ReadSo x.sent (seen_by c h) (mark_in o (mark_of h)) x.reading
    more = more_marked x.sent (seen_by c h) (mark_of h) (mark_in o (mark_of h)) x.reading (mark_grows (mark_of h) o) w

    same : (s : ℕ) → (s == c) ≡ true → s ≡ c
    same s f = grind (arith, nat_tests)

    own : client_in o ≡ Some c → AfterOwn p h c x o (seen_by c h) (mark_of h)
    own q = own_step p h c (seen_by c h) (mark_of h) o x.reading x.sent x.begun x.held x.owed x.closed q (a q) w

    by_client : (k : Option ℕ) → client_in o ≡ k → After p c h o (next_lines p h o) k
    by_client None q = subst (λ n. ReadSo x.sent n (mark_in o (mark_of h)) x.reading) (sym (none_unseen p h c (seen_by c h) o q)) more
    by_client (Some s) q =
        subst (λ ls. After p c h o ls (Some s)) (sym (next_is p h s o q))
        (cond_both (s == c) (flushed by_result (acted_by (sight_of p c h) o x)) x (λ y. ReadSo y.sent (seen_lines c (client_lines p s h o) (seen_by c h)) (mark_in o (mark_of h)) y.reading)
        (λ f. let g = same s f in subst (λ z. ReadSo (flushed by_result (acted_by (sight_of p c h) o x)).sent (seen_lines c (client_lines p z h o) (seen_by c h)) (mark_in o (mark_of h)) (flushed by_result (acted_by (sight_of p c h) o x)).reading) (sym g) (own (q ∙ ap Some g)))
        (λ f. subst (λ n. ReadSo x.sent n (mark_in o (mark_of h)) x.reading) (sym (client_unseen p h c s o (seen_by c h) f)) more))

pub reads_so : (p : Plan) (c : ℕ) (h : List Entry) → ReadsAreReads p → IsHistory p h → ReadsSo p c h
reads_so p c [] k l = tt
reads_so p c (e ∷ h) k l = subst (λ ls. After p c h e.op ls (client_in e.op)) (sym lines) (read_step p c h e.op (entry_acts p c e h k l) (reads_so p c h k l.0))
  where
    lines : e.lines ≡ next_lines p h e.op
    lines = ap (λ x. x.lines) l.1.0 ∙ ap (next_lines p h) (sym (ap (λ x. x.op) l.1.0))

pub watches_are_set_up_to_the_mark : WatchesAreSetUpToTheMark
watches_are_set_up_to_the_mark p c i id e h k l q = by_read (client_of p c h).reading refl
  where
    own : client_in e.op ≡ Some c
    own = ap client_in q

    looked_first : WasLookedAt (client_of p c h)
    looked_first = subst (ActsAs (client_of p c h) (seen_by c h) (mark_of h)) q (entry_acts p c e h k l own)

    by_read : (r : Option Reading) → (client_of p c h).reading ≡ r → number_of_read p c h ≤ mark_of h
    by_read None f = subst (λ z. number_from c h z ≤ mark_of h) (sym f) (omega arith)
    by_read (Some r) f =
        let w = subst (ReadSo (client_of p c h).sent (seen_by c h) (mark_of h)) f (reads_so p c h k l.0) in
        subst (λ z. number_from c h z ≤ mark_of h) (sym f) (w.1 (looked_first r f w.0))
