-- What each public line is: the only place where the rules of what is printed are opened.
use Rattle.std.specs.Prelude.{if◌then◌else◌}
use Rattle.std.proofs.Common.{◌≡◌, ℕ, ◌+◌, ◌≤◌, ◌++◌, inl, inr, Bool, true, false, List, [], ◌∷◌, refl, sym, ◌∙◌, ap, subst, arith, Option, Some, None}
use Rattle.std.proofs.lemmas.Bool.{cond_both}
use Rattle.std.proofs.lemmas.Option.{same_Some, none-some}
use Rattle.fk_tree.specs.declared.applied.Applied.{Applied}
use Rattle.fk_print.specs.declared.entry.Entry.{Entry}
use Rattle.fk_print.specs.declared.line.Line.{Line}
use Rattle.fk_print.specs.declared.line.Line.TheVariants as line
use Rattle.fk_print.specs.declared.op.Op.{Op}
use Rattle.fk_print.specs.declared.op.Op.TheVariants as op
use Rattle.fk_spec.specs.Plan.{Plan, asked, asks_in}
use Rattle.fk_spec.specs.Shown.{seen_by}
use Rattle.fk_spec.specs.Settling.{mark_of}
use Rattle.fk_spec.specs.Stored.{committed_as}
use Rattle.fk_spec.specs.Watches.{Firing, firing_of}
use Rattle.fk_spec.specs.Sight.{sight_of}
use Rattle.fk_spec.specs.Client.{by_result, client_in, client_of, contains, is_ready, number_looked_for, number_read, ready_first, registers, target_of, target_sent, target_with, Reading, Sent, Target}
use Rattle.fk_spec.specs.Replies.{client_lines, first_line, looked_lines, notice_of, own_lines, read_line, read_lines, reply_lines, shown_result, wording}
use Rattle.fk_spec.specs.PublicLines.{Each, lines_of, lines_onto, txs_among, txs_of}
use Rattle.fk_spec.specs.Next.{lines_of_client, next_lines, tx_lines}
use Rattle.fk_law.proofs.Printing.{lines_are}
use Rattle.fk_law_watch.proofs.Reading.{ReadSo, next_is, reads_so}
use Rattle.fk_law.specs.Operations.{OperationSays}
use Rattle.fk_law_client.specs.Lines.{IsAmong, IsLookedLine, IsPublication, Ready, Looked, Answers, Failed, LineIs, LineIsAfter, EachAfter, ClientLinesAre, OtherLinesAre, kept_after}
use Rattle.fk_law.proofs.Due.{client_operations_say}

-- Lines one after another. -----------------------------------------------------------------------------

pub each_onto : (P : Line → List Line → Type 0) (ls before : List Line) → Each P before → EachAfter P ls before → Each P (lines_onto ls before)
each_onto P [] before i k = i
each_onto P (l ∷ ls) before i k = each_onto P ls (l ∷ before) (k.0, i) k.1

pub each_mapped : (P Q : Line → List Line → Type 0) (ls before : List Line) → ((l : Line) (b : List Line) → P l b → Q l b) → EachAfter P ls before → EachAfter Q ls before
each_mapped P Q [] before f k = tt
each_mapped P Q (l ∷ ls) before f k = (f l before k.0, each_mapped P Q ls (l ∷ before) f k.1)

pub each_kept : (P Q : Line → List Line → Type 0) (ls : List Line) → ((l : Line) (b : List Line) → P l b → Q l b) → Each P ls → Each Q ls
each_kept P Q [] f k = tt
each_kept P Q (l ∷ ls) f k = (f l ls k.0, each_kept P Q ls f k.1)

-- The lines of a client. -------------------------------------------------------------------------------

abbrev AllLinesAre : Plan → ℕ → List Entry → Op → List Line → Type 0
AllLinesAre p c h o [] = Unit {0}
AllLinesAre p c h o (l ∷ ls) = LineIs p c h o l × AllLinesAre p c h o ls

append_are : (p : Plan) (c : ℕ) (h : List Entry) (o : Op) (xs ys : List Line) → AllLinesAre p c h o xs → AllLinesAre p c h o ys → AllLinesAre p c h o (xs ++ ys)
append_are p c h o [] ys i j = j
append_are p c h o (x ∷ xs) ys i j = (i.0, append_are p c h o xs ys i.1 j)

same_txs : (p : Plan) (c : ℕ) (h : List Entry) (o : Op) (l : Line) (before : List Line) → LineIs p c h o l → txs_among before ≡ txs_of h → txs_among (l ∷ before) ≡ txs_of h
same_txs p c h o (line.Tx x) before i e = absurd i
same_txs p c h o (line.Reply s k v sh) before i e = e
same_txs p c h o (line.Notice s t k w q) before i e = e
same_txs p c h o (line.Expired s t) before i e = e

after_txs : (p : Plan) (c : ℕ) (h : List Entry) (o : Op) (ls before : List Line) → AllLinesAre p c h o ls → txs_among before ≡ txs_of h → EachAfter (LineIsAfter p c h o) ls before
after_txs p c h o [] before i e = tt
after_txs p c h o (l ∷ ls) before i e = ((i.0, e), after_txs p c h o ls (l ∷ before) i.1 (same_txs p c h o l before i.0 e))

-- each of these is kept after the operation
abbrev AreKept : Plan → ℕ → List Entry → Op → List Sent → Type 0
AreKept p c h o ss = (s : Sent) → IsAmong s ss → IsAmong s (kept_after p c h o)

ready_are : (p : Plan) (c : ℕ) (h : List Entry) (o : Op) (ss : List Sent) → AreKept p c h o ss → AllLinesAre p c h o (reply_lines (wording p c h) (ready_first by_result ss))
ready_are p c h o [] k = tt
ready_are p c h o (s ∷ ss) k =
    cond_both (is_ready s.result) (s ∷ ready_first by_result ss) [] (λ z. AllLinesAre p c h o (reply_lines (wording p c h) z))
    (λ e. ((refl, refl, Ready (record { kept = s; among = k s (inl refl); command = refl; ready = e; shows = refl })), ready_are p c h o ss (λ x i. k x (inr i))))
    (λ _. tt)

first_are : (p : Plan) (c i n : ℕ) (h : List Entry) (o : Op) (ss : List Sent) → (client_of p c h).sent ≡ ss → (client_of p c h).reading ≡ None → target_sent by_result ss ≡ Some (record { command = i; number = n }) → n ≤ mark_of h → AllLinesAre p c h o (first_line (wording p c h) ss)
first_are p c i n h o [] e f q b = tt
first_are p c i n h o (s ∷ ss) e f q b = ((refl, refl, Looked (by_number (number_looked_for s.result) refl q)), tt)
  where
    by_number : (m : Option ℕ) → number_looked_for s.result ≡ m → target_with s.command m ≡ Some (record { command = i; number = n }) → IsLookedLine p c s.command h (shown_result p h s.result)
    by_number None g w = absurd (none-some _ w)
    by_number (Some m) g w = record {
      kept = s;
      others = ss;
      sent = e;
      reads_nothing = f;
      command = refl;
      number = m;
      sought = g;
      published = subst (λ t. t.number ≤ mark_of h) (sym (same_Some (record { command = s.command; number = m }) (record { command = i; number = n }) w)) b;
      shows = refl;
    }

pub none_sent_sought : (ss : List Sent) (t : Target) → ss ≡ [] → target_sent by_result ss ≡ Some t → ⊥
none_sent_sought [] t e q = none-some t q
none_sent_sought (s ∷ ss) t e q = grind arith

-- what is looked for while a read is made is the read's number
pub read_sought : (p : Plan) (c i n : ℕ) (h : List Entry) (r : Reading) → (client_of p c h).sent ≡ [] → target_of by_result (seen_by c h) (client_of p c h) (Some r) ≡ Some (record { command = i; number = n }) → number_read (seen_by c h) r ≡ n
read_sought p c i n h r e q = by_flag r.looked q
  where
    by_flag : (b : Bool) → (if b then target_sent by_result (client_of p c h).sent else Some (record { command = (client_of p c h).begun + 1; number = number_read (seen_by c h) r })) ≡ Some (record { command = i; number = n }) → number_read (seen_by c h) r ≡ n
    by_flag true w = absurd (none_sent_sought (client_of p c h).sent (record { command = i; number = n }) e w)
    by_flag false w = ap (λ t. t.number) (same_Some (record { command = (client_of p c h).begun + 1; number = number_read (seen_by c h) r }) (record { command = i; number = n }) w)

looked_are : (p : Plan) (c i n : ℕ) (h : List Entry) (o : Op) (r : Option Reading) → (client_of p c h).reading ≡ r → ReadSo (client_of p c h).sent (seen_by c h) (mark_of h) r → target_of by_result (seen_by c h) (client_of p c h) r ≡ Some (record { command = i; number = n }) → n ≤ mark_of h → AllLinesAre p c h o (looked_lines (wording p c h) (seen_by c h) (client_of p c h) r)
looked_are p c i n h o None e w q b = first_are p c i n h o (client_of p c h).sent refl e q b
looked_are p c i n h o (Some r) e w q b =
    cond_both (registers (asked p c ((client_of p c h).begun + 1)) r.node) [] (read_line c (asks_in p c) (seen_by c h) ((client_of p c h).begun + 1) r ∷ []) (AllLinesAre p c h o)
    (λ _. tt)
    (λ _. ((refl, refl, Answers (record { reading = r; made = e; next = refl; published = subst (λ z. z ≤ mark_of h) (sym (read_sought p c i n h r w.0 q)) b; shows = refl })), tt))

notice_are : (p : Plan) (c id : ℕ) (h : List Entry) (o : Op) (f : Option Firing) → o ≡ op.TakeWatch c id → contains id (client_of p c h).held ≡ true → firing_of p id h ≡ f → AllLinesAre p c h o (notice_of c f)
notice_are p c id h o None q e g = tt
notice_are p c id h o (Some f) q e g = ((refl, record { watch = id; taken = q; held = e; firing = f; fired = g; its_tx = refl; its_kind = refl; its_change = refl; its_path = refl }), tt)

set_are : (p : Plan) (c i : ℕ) (h : List Entry) (o : Op) (r : Reading) (x : Option Reading) → x ≡ Some r → (client_of p c h).reading ≡ Some r → i ≡ (client_of p c h).begun + 1 → number_read (seen_by c h) r ≤ mark_of h → AllLinesAre p c h o (read_lines c (asks_in p c) (seen_by c h) i x)
set_are p c i h o r None e f q b = tt
set_are p c i h o r (Some y) e f q b = let s = same_Some y r e in ((refl, refl, Answers (record { reading = y; made = f ∙ sym e; next = q; published = subst (λ z. number_read (seen_by c h) z ≤ mark_of h) (sym s) b; shows = refl })), tt)

read_published : (c : ℕ) (h : List Entry) (ss : List Sent) (r : Reading) (x : Option Reading) → x ≡ Some r → ReadSo ss (seen_by c h) (mark_of h) x → r.looked ≡ true → number_read (seen_by c h) r ≤ mark_of h
read_published c h ss r None e w b = absurd (none-some r e)
read_published c h ss r (Some y) e w b = let s = same_Some y r e in subst (λ z. number_read (seen_by c h) z ≤ mark_of h) s (w.1 (subst (λ z. z.looked ≡ true) (sym s) b))

own_are : (p : Plan) (c : ℕ) (h : List Entry) (o : Op) → client_in o ≡ Some c → OperationSays p c h o → ReadSo (client_of p c h).sent (seen_by c h) (mark_of h) (client_of p c h).reading → AllLinesAre p c h o (own_lines (wording p c h) (sight_of p c h) (client_of p c h) o)
own_are p c h (op.TakeEvicted d k t) q a w =
    cond_both (client_of p c h).closed [] (line.Expired c t ∷ []) (AllLinesAre p c h (op.TakeEvicted d k t)) (λ _. tt)
    (λ e. ((refl, record { k = k; taken = ap (λ z. op.TakeEvicted z k t) (same_Some d c q); unknown = e }), tt))
own_are p c h (op.TakeWatch d id) q a w =
    cond_both (contains id (client_of p c h).held) (notice_of c (firing_of p id h)) [] (AllLinesAre p c h (op.TakeWatch d id))
    (λ e. notice_are p c id h (op.TakeWatch d id) (firing_of p id h) (ap (λ z. op.TakeWatch z id) (same_Some d c q)) e refl) (λ _. tt)
own_are p c h (op.LookOk d i m) q a w = looked_are p c i a.0.number h (op.LookOk d i m) (client_of p c h).reading refl w a.0.target a.2
own_are p c h (op.WatchSet d i id) q a w = set_are p c i h (op.WatchSet d i id) a.0.reading (client_of p c h).reading a.0.made a.0.made a.0.next (read_published c h (client_of p c h).sent a.0.reading (client_of p c h).reading a.0.made w a.0.looked)
own_are p c h (op.ReadFault d i) q a w = ((refl, refl, Failed (record { failed = inl (ap (λ z. op.ReadFault z i) (same_Some d c q)); shows = refl })), tt)
own_are p c h (op.WatchFault d i) q a w = ((refl, refl, Failed (record { failed = inr (ap (λ z. op.WatchFault z i) (same_Some d c q)); shows = refl })), tt)
own_are p c h o q a w = tt

-- Entries. ---------------------------------------------------------------------------------------------

pub client_lines_are : ClientLinesAre
client_lines_are p c e h v l q =
    subst (λ ls. EachAfter (LineIsAfter p c h e.op) ls (lines_of h)) (sym (lines_are p e h l ∙ next_is p h c e.op q))
    (after_txs p c h e.op (client_lines p c h e.op) (lines_of h)
    (append_are p c h e.op (own_lines (wording p c h) (sight_of p c h) (client_of p c h) e.op) (reply_lines (wording p c h) (ready_first by_result (kept_after p c h e.op)))
    (own_are p c h e.op q (client_operations_say p c e h l q) (reads_so p c h v l.0))
    (ready_are p c h e.op (kept_after p c h e.op) (λ _ i. i)))
    refl)

txs_are : (p : Plan) (h : List Entry) (n t : ℕ) (a : Option Applied) (before : List Line) → committed_as p t h ≡ a → EachAfter (λ l b. IsPublication p h (op.PublishOk n t) l) (tx_lines a) before
txs_are p h n t None before e = tt
txs_are p h n t (Some a) before e = (record { function = n; tx = t; published = refl; push = a; committed = e; line_is = refl }, tt)

none_are : (p : Plan) (h : List Entry) (o : Op) (before : List Line) → client_in o ≡ None → EachAfter (λ l b. IsPublication p h o l) (next_lines p h o) before
none_are p h (op.PublishOk n t) before e = txs_are p h n t (committed_as p t h) before refl
none_are p h o before e = subst (λ s. EachAfter (λ l b. IsPublication p h o l) (lines_of_client p h o s) before) (sym e) tt

pub other_lines_are : OtherLinesAre
other_lines_are p e h l q = subst (λ ls. EachAfter (λ x b. IsPublication p h e.op x) ls (lines_of h)) (sym (lines_are p e h l)) (none_are p h e.op (lines_of h) q)
