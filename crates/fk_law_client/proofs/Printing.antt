-- Each client's replies are in the order of its commands.
use Rattle.std.specs.Prelude.{◌==◌, if◌then◌else◌, ◌&&◌}
use Rattle.std.proofs.Common.{◌≡◌, ℕ, ◌+◌, ◌≤◌, ◌++◌, Bool, true, false, List, [], ◌∷◌, refl, sym, ◌∙◌, ap, subst, arith, Option, Some, None}
use Rattle.std.proofs.lemmas.Bool.{false≢true, cond_both, eqb-true}
use Rattle.std.proofs.lemmas.Bool.Decides.{nat_tests}
use Rattle.fk_base.specs.declared.code.Code.TheVariants as code
use Rattle.fk_tree.specs.declared.applied.Applied.{Applied}
use Rattle.fk_print.specs.declared.entry.Entry.{Entry}
use Rattle.fk_print.specs.declared.line.Line.{Line}
use Rattle.fk_print.specs.declared.line.Line.TheVariants as line
use Rattle.fk_print.specs.declared.line.Shown.{Shown}
use Rattle.fk_print.specs.declared.line.Shown.TheVariants as shown
use Rattle.fk_print.specs.declared.line.Verb.{Verb}
use Rattle.fk_print.specs.declared.op.Op.{Op}
use Rattle.fk_print.specs.declared.op.Op.TheVariants as op
use Rattle.fk_spec.specs.Plan.{Plan, asked, asks_in}
use Rattle.fk_spec.specs.Shown.{seen_by}
use Rattle.fk_spec.specs.Settling.{Outcome, Committed, mark_of}
use Rattle.fk_spec.specs.Stored.{committed_as}
use Rattle.fk_spec.specs.Watches.{Firing, firing_of}
use Rattle.fk_spec.specs.Sight.{sight_of}
use Rattle.fk_spec.specs.Client.{is_open, is_ready, by_result, with_told, without_ready, ready_first, is_unfit, registers, is_close, contains, settle_with, local_result, close_if, looked_for, looked_at, looked, flushed, kept_outcome, settled_as, acted_by, client_in, client_by, client_of, Result, Sent, Reading, Client, Open, Settled, Plain}
use Rattle.fk_spec.specs.Replies.{shown_result, verb_asked, reply_line, reply_lines, first_line, read_line, read_lines, looked_lines, notice_of, failed_line, own_lines, wording, client_lines}
use Rattle.fk_spec.specs.PublicLines.{Each, lines_of, lines_onto}
use Rattle.fk_spec.specs.Promises.{is_earlier, all_earlier}
use Rattle.fk_spec.specs.Next.{IsHistory, next_lines, lines_of_client, tx_lines}
use Rattle.fk_law.proofs.Printing.{lines_are}
use Rattle.fk_law_watch.specs.FirstNumbers.{ReadsAreReads}
use Rattle.fk_law_watch.proofs.Reading.{ReadSo, reads_so, next_is}
use Rattle.fk_law_client.specs.Ordering.{IsInOrder, RepliesAreInOrder}
use Rattle.fk_law_client.proofs.Acting.{ActsAs, IsLooked, entry_acts}
use Rattle.fk_law_client.proofs.Tracking.{none_read, none_unanswered}

-- Lines in order. --------------------------------------------------------------------------------------

abbrev AllOrdered : List Line → List Line → Type 0
AllOrdered [] before = Unit {0}
AllOrdered (l ∷ ls) before = IsInOrder l before × AllOrdered ls (l ∷ before)

each_onto : (ls before : List Line) → Each IsInOrder before → AllOrdered ls before → Each IsInOrder (lines_onto ls before)
each_onto [] before i k = i
each_onto (l ∷ ls) before i k = each_onto ls (l ∷ before) (k.0, i) k.1

ordered_append : (xs ys before : List Line) → AllOrdered xs before → AllOrdered ys (lines_onto xs before) → AllOrdered (xs ++ ys) before
ordered_append [] ys before i j = j
ordered_append (x ∷ xs) ys before i j = (i.0, ordered_append xs ys (x ∷ before) i.1 j)

onto_append : (xs ys before : List Line) → lines_onto (xs ++ ys) before ≡ lines_onto ys (lines_onto xs before)
onto_append [] ys before = refl
onto_append (x ∷ xs) ys before = onto_append xs ys (x ∷ before)

both : (a b : Bool) → (if a then b else false) ≡ true → (a ≡ true) × (b ≡ true)
both true b e = (refl, e)
both false b e = absurd (false≢true e)

joined : (a b : Bool) → a ≡ true → b ≡ true → (if a then b else false) ≡ true
joined true b e f = f
joined false b e f = e

line_more : (c i j : ℕ) (l : Line) → i ≤ j → is_earlier c i l ≡ true → is_earlier c j l ≡ true
line_more c i j l a e = grind (arith, nat_tests)

earlier_more : (c i j : ℕ) (b : List Line) → i ≤ j → all_earlier c i b ≡ true → all_earlier c j b ≡ true
earlier_more c i j [] a e = refl
earlier_more c i j (l ∷ ls) a e = let x = both (is_earlier c i l) (all_earlier c i ls) e in joined (is_earlier c j l) (all_earlier c j ls) (line_more c i j l a x.0) (earlier_more c i j ls a x.1)

own_earlier : (c n : ℕ) (v : Verb) (s : Shown) → is_earlier c (n + 1 + 1) (line.Reply c (n + 1) v s) ≡ true
own_earlier c n v s = grind (arith, nat_tests)

reply_earlier : (c n : ℕ) (v : Verb) (s : Shown) (b : List Line) → all_earlier c (n + 1) b ≡ true → all_earlier c (n + 1 + 1) (line.Reply c (n + 1) v s ∷ b) ≡ true
reply_earlier c n v s b e = joined (is_earlier c (n + 1 + 1) (line.Reply c (n + 1) v s)) (all_earlier c (n + 1 + 1) b) (own_earlier c n v s) (earlier_more c (n + 1) (n + 1 + 1) b (omega arith) e)

-- What is unanswered. ----------------------------------------------------------------------------------

-- these are the commands after command n up to `begun`, in order
abbrev LeadTo : ℕ → List Sent → ℕ → Type 0
LeadTo n [] begun = n ≡ begun
LeadTo n (s ∷ ss) begun = (s.command ≡ n + 1) × LeadTo (n + 1) ss begun

-- they come after all that the client has answered
record IsOrdered (c : ℕ) (ss : List Sent) (begun : ℕ) (before : List Line) : Type 0 where
  pub answered : ℕ
  pub leads : LeadTo answered ss begun
  pub earlier : all_earlier c (answered + 1) before ≡ true

-- the first of them is answered
first_ordered : (c : ℕ) (s : Sent) (ss : List Sent) (begun : ℕ) (b : List Line) (v : Verb) (sh : Shown) → IsOrdered c (s ∷ ss) begun b → (all_earlier c s.command b ≡ true) × IsOrdered c ss begun (line.Reply c s.command v sh ∷ b)
first_ordered c s ss begun b v sh x = (
  subst (λ z. all_earlier c z b ≡ true) (sym x.leads.0) x.earlier,
  record { answered = x.answered + 1; leads = x.leads.1; earlier = subst (λ z. all_earlier c (x.answered + 1 + 1) (line.Reply c z v sh ∷ b) ≡ true) (sym x.leads.0) (reply_earlier c x.answered v sh b x.earlier) },
)

-- the next command is answered, while none is unanswered
answer_ordered : (c i : ℕ) (ss : List Sent) (begun : ℕ) (b : List Line) (v : Verb) (sh : Shown) → i ≡ begun + 1 → ss ≡ [] → IsOrdered c ss begun b → (all_earlier c i b ≡ true) × IsOrdered c ss (begun + 1) (line.Reply c i v sh ∷ b)
answer_ordered c i ss begun b v sh q e x = subst (λ z. (all_earlier c i b ≡ true) × IsOrdered c z (begun + 1) (line.Reply c i v sh ∷ b)) (sym e) (earlier, record { answered = begun + 1; leads = refl; earlier = subst (λ z. all_earlier c (begun + 1 + 1) (line.Reply c z v sh ∷ b) ≡ true) (sym q) (reply_earlier c begun v sh b at) })
  where
    none : IsOrdered c [] begun b
    none = subst (λ z. IsOrdered c z begun b) e x

    at : all_earlier c (begun + 1) b ≡ true
    at = subst (λ z. all_earlier c (z + 1) b ≡ true) none.leads none.earlier

    earlier : all_earlier c i b ≡ true
    earlier = subst (λ z. all_earlier c z b ≡ true) (sym q) at

ready_ordered : (p : Plan) (h : List Entry) (c : ℕ) (ss : List Sent) (begun : ℕ) (b : List Line) → IsOrdered c ss begun b → AllOrdered (reply_lines (wording p c h) (ready_first by_result ss)) b × IsOrdered c (without_ready by_result ss) begun (lines_onto (reply_lines (wording p c h) (ready_first by_result ss)) b)
ready_ordered p h c [] begun b x = (tt, x)
ready_ordered p h c (s ∷ ss) begun b x = by_ready (is_ready s.result) (let y = first_ordered c s ss begun b (verb_asked (asked p c s.command)) (shown_result p h s.result) x in let z = ready_ordered p h c ss begun (reply_line (wording p c h) s ∷ b) y.1 in ((y.0, z.0), z.1))
  where
    by_ready : (d : Bool) → AllOrdered (reply_lines (wording p c h) (s ∷ ready_first by_result ss)) b × IsOrdered c (without_ready by_result ss) begun (lines_onto (reply_lines (wording p c h) (s ∷ ready_first by_result ss)) b) → AllOrdered (reply_lines (wording p c h) (if d then s ∷ ready_first by_result ss else [])) b × IsOrdered c (if d then without_ready by_result ss else s ∷ ss) begun (lines_onto (reply_lines (wording p c h) (if d then s ∷ ready_first by_result ss else [])) b)
    by_ready true i = i
    by_ready false i = (tt, x)

append_leads : (n : ℕ) (ss : List Sent) (begun : ℕ) (s : Sent) → s.command ≡ begun + 1 → LeadTo n ss begun → LeadTo n (ss ++ s ∷ []) s.command
append_leads n [] begun s q x = (q ∙ ap (λ z. z + 1) (sym x), ap (λ z. z + 1) x ∙ sym q)
append_leads n (y ∷ ss) begun s q x = (x.0, append_leads (n + 1) ss begun s q x.1)

settled_leads : (n k : ℕ) (r : Result) (ss : List Sent) (begun : ℕ) → LeadTo n ss begun → LeadTo n (with_told by_result k r ss) begun
settled_leads n k r [] begun x = x
settled_leads n k r (s ∷ ss) begun x = cond_both ((s.k == k) && is_open s.result) (record s { result = r } ∷ ss) (s ∷ with_told by_result k r ss) (λ z. LeadTo n z begun) (λ _. x) (λ _. (x.0, settled_leads (n + 1) k r ss begun x.1))

append_ordered : (c : ℕ) (ss : List Sent) (begun : ℕ) (b : List Line) (s : Sent) → s.command ≡ begun + 1 → IsOrdered c ss begun b → IsOrdered c (ss ++ s ∷ []) s.command b
append_ordered c ss begun b s q x = record { answered = x.answered; leads = append_leads x.answered ss begun s q x.leads; earlier = x.earlier }

settled_ordered : (c k : ℕ) (r : Result) (ss : List Sent) (begun : ℕ) (b : List Line) → IsOrdered c ss begun b → IsOrdered c (with_told by_result k r ss) begun b
settled_ordered c k r ss begun b x = record { answered = x.answered; leads = settled_leads x.answered k r ss begun x.leads; earlier = x.earlier }

-- One operation. ---------------------------------------------------------------------------------------

-- with these lines, the client comes to stand so
abbrev StepSo : ℕ → List Line → List Line → Client Sent → Type 0
StepSo c ls b y = AllOrdered ls b × IsOrdered c y.sent y.begun (lines_onto ls b)

kept_step : (c k : ℕ) (o : Option Outcome) (x : Client Sent) (b : List Line) → IsOrdered c x.sent x.begun b → StepSo c [] b (settle_with by_result k (settled_as o) x)
kept_step c k None x b i = (tt, i)
kept_step c k (Some o) x b i = (tt, settled_ordered c k (Settled o) x.sent x.begun b i)

for_step : (p : Plan) (h : List Entry) (c : ℕ) (ss : List Sent) (x : Client Sent) (b : List Line) → x.sent ≡ ss → IsOrdered c x.sent x.begun b → StepSo c (first_line (wording p c h) ss) b (looked_for by_result (asks_in p c) ss x)
for_step p h c [] x b e i = (tt, i)
for_step p h c (s ∷ ss) x b e i = closing (is_close (asked p c s.command)) (first_ordered c s ss x.begun b (verb_asked (asked p c s.command)) (shown_result p h s.result) (subst (λ z. IsOrdered c z x.begun b) e i))
  where
    closing : (d : Bool) → (all_earlier c s.command b ≡ true) × IsOrdered c ss x.begun (reply_line (wording p c h) s ∷ b) → StepSo c (reply_line (wording p c h) s ∷ []) b (close_if d (record x { sent = ss }))
    closing true y = ((y.0, tt), y.1)
    closing false y = ((y.0, tt), y.1)

at_step : (c : ℕ) (d : Bool) (r : Reading) (x : Client Sent) (v : Verb) (sh : Shown) (b : List Line) → x.sent ≡ [] → IsOrdered c x.sent x.begun b → StepSo c (if d then [] else line.Reply c (x.begun + 1) v sh ∷ []) b (looked_at d r x)
at_step c true r x v sh b e i = (tt, i)
at_step c false r x v sh b e i = let y = answer_ordered c (x.begun + 1) x.sent x.begun b v sh refl e i in ((y.0, tt), y.1)

look_step : (p : Plan) (h : List Entry) (c seen mark : ℕ) (r : Option Reading) (x : Client Sent) (b : List Line) → ReadSo x.sent seen mark r → IsOrdered c x.sent x.begun b → StepSo c (looked_lines (wording p c h) (seen_by c h) x r) b (looked by_result (asks_in p c) r x)
look_step p h c seen mark None x b w i = for_step p h c x.sent x b refl i
look_step p h c seen mark (Some r) x b w i = at_step c (registers (asked p c (x.begun + 1)) r.node) r x _ _ b w.0 i

notice_step : (c : ℕ) (f : Option Firing) (ss : List Sent) (begun : ℕ) (b : List Line) → IsOrdered c ss begun b → AllOrdered (notice_of c f) b × IsOrdered c ss begun (lines_onto (notice_of c f) b)
notice_step c None ss begun b i = (tt, i)
notice_step c (Some f) ss begun b i = ((tt, tt), record { answered = i.answered; leads = i.leads; earlier = i.earlier })

set_step : (p : Plan) (h : List Entry) (c i : ℕ) (r : Option Reading) (ss : List Sent) (begun : ℕ) (b : List Line) → IsLooked r → i ≡ begun + 1 → ss ≡ [] → IsOrdered c ss begun b → AllOrdered (read_lines c (asks_in p c) (seen_by c h) i r) b × IsOrdered c ss (begun + 1) (lines_onto (read_lines c (asks_in p c) (seen_by c h) i r) b)
set_step p h c i None ss begun b l q e z = absurd l
set_step p h c i (Some r) ss begun b l q e z = let y = answer_ordered c i ss begun b _ _ q e z in ((y.0, tt), y.1)

failed_step : (p : Plan) (c i : ℕ) (ss : List Sent) (begun : ℕ) (b : List Line) → i ≡ begun + 1 → ss ≡ [] → IsOrdered c ss begun b → AllOrdered (failed_line c (asks_in p c) i ∷ []) b × IsOrdered c ss (begun + 1) (failed_line c (asks_in p c) i ∷ b)
failed_step p c i ss begun b q e z = let y = answer_ordered c i ss begun b (verb_asked (asked p c i)) (shown.Plain code.SystemError) q e z in ((y.0, tt), y.1)

own_step : (p : Plan) (c : ℕ) (h : List Entry) (seen mark : ℕ) (x : Client Sent) (o : Op) (b : List Line) → ReadsAreReads p → ActsAs p c x seen mark o → ReadSo x.sent seen mark x.reading → IsOrdered c x.sent x.begun b → StepSo c (own_lines (wording p c h) (sight_of p c h) x o) b (acted_by (sight_of p c h) o x)
own_step p c h seen mark x (op.Send d i k) b v a w z = (tt, append_ordered c x.sent x.begun b (record { command = i; k = k; result = Open }) a.0 z)
own_step p c h seen mark x (op.SendFault d i) b v a w z = (tt, append_ordered c x.sent x.begun b (record { command = i; k = 0; result = Plain code.ConnectionLoss }) a.0 z)
own_step p c h seen mark x (op.Local d i) b v a w z = (tt, append_ordered c x.sent x.begun b (record { command = i; k = 0; result = local_result (is_unfit (asked p c i)) (seen_by c h) }) a.0 z)
own_step p c h seen mark x (op.TakeDone d k t) b v a w z = (tt, settled_ordered c k (Settled (Committed t)) x.sent x.begun b z)
own_step p c h seen mark x (op.TakeRefused d k) b v a w z = kept_step c k (kept_outcome (sight_of p c h).head) x b z
own_step p c h seen mark x (op.TakeLost d k) b v a w z = kept_step c k (kept_outcome (sight_of p c h).head) x b z
own_step p c h seen mark x (op.TakeEvicted d k t) b v a w z = cond_both x.closed [] (line.Expired c t ∷ []) (λ ls. AllOrdered ls b × IsOrdered c x.sent x.begun (lines_onto ls b)) (λ _. (tt, z)) (λ _. ((tt, tt), record { answered = z.answered; leads = z.leads; earlier = z.earlier }))
own_step p c h seen mark x (op.TakeWatch d id) b v a w z = cond_both (contains id x.held) (notice_of c (firing_of p id h)) [] (λ ls. AllOrdered ls b × IsOrdered c x.sent x.begun (lines_onto ls b)) (λ _. notice_step c (firing_of p id h) x.sent x.begun b z) (λ _. (tt, z))
own_step p c h seen mark x (op.LookOk d i m) b v a w z = look_step p h c seen mark x.reading x b w z
own_step p c h seen mark x (op.WatchSet d i id) b v a w z = set_step p h c i x.reading x.sent x.begun b a.1 a.0 (none_read x.sent seen mark x.reading w a.1) z
own_step p c h seen mark x (op.WatchFault d i) b v a w z = failed_step p c i x.sent x.begun b a.0 (none_read x.sent seen mark x.reading w a.1) z
own_step p c h seen mark x (op.ReadFault d i) b v a w z = failed_step p c i x.sent x.begun b a.0.0 (none_unanswered p c x i v a.0 a.1) z
own_step p c h seen mark x o b v a w z = (tt, z)

-- Lines of other clients. ------------------------------------------------------------------------------

-- a line that is no reply to client c
abbrev IsNotTo : ℕ → Line → Type 0
IsNotTo c (line.Reply session command verb shown) = (session == c) ≡ false
IsNotTo c _ = Unit {0}

abbrev NoneTo : ℕ → List Line → Type 0
NoneTo c [] = Unit {0}
NoneTo c (l ∷ ls) = IsNotTo c l × NoneTo c ls

none_append : (c : ℕ) (xs ys : List Line) → NoneTo c xs → NoneTo c ys → NoneTo c (xs ++ ys)
none_append c [] ys i j = j
none_append c (x ∷ xs) ys i j = (i.0, none_append c xs ys i.1 j)

skips : (c i : ℕ) (l : Line) → IsNotTo c l → is_earlier c i l ≡ true
skips c i (line.Reply s k v sh) e = rw e refl
skips c i (line.Tx x) e = refl
skips c i (line.Notice s t k w q) e = refl
skips c i (line.Expired s t) e = refl

none_earlier : (c i : ℕ) (ls b : List Line) → NoneTo c ls → all_earlier c i b ≡ true → all_earlier c i (lines_onto ls b) ≡ true
none_earlier c i [] b n e = e
none_earlier c i (l ∷ ls) b n e = none_earlier c i ls (l ∷ b) n.1 (joined (is_earlier c i l) (all_earlier c i b) (skips c i l n.0) e)

replies_none : (p : Plan) (h : List Entry) (c s : ℕ) (ss : List Sent) → (s == c) ≡ false → NoneTo c (reply_lines (wording p s h) ss)
replies_none p h c s [] e = tt
replies_none p h c s (x ∷ ss) e = (e, replies_none p h c s ss e)

first_none : (p : Plan) (h : List Entry) (c s : ℕ) (ss : List Sent) → (s == c) ≡ false → NoneTo c (first_line (wording p s h) ss)
first_none p h c s [] e = tt
first_none p h c s (x ∷ ss) e = (e, tt)

looked_none : (p : Plan) (h : List Entry) (c s : ℕ) (x : Client Sent) (r : Option Reading) → (s == c) ≡ false → NoneTo c (looked_lines (wording p s h) (seen_by s h) x r)
looked_none p h c s x None e = first_none p h c s x.sent e
looked_none p h c s x (Some r) e = cond_both (registers (asked p s (x.begun + 1)) r.node) [] (read_line s (asks_in p s) (seen_by s h) (x.begun + 1) r ∷ []) (NoneTo c) (λ _. tt) (λ _. (e, tt))

reads_none : (p : Plan) (h : List Entry) (c s i : ℕ) (r : Option Reading) → (s == c) ≡ false → NoneTo c (read_lines s (asks_in p s) (seen_by s h) i r)
reads_none p h c s i None e = tt
reads_none p h c s i (Some r) e = (e, tt)

notice_none : (c s : ℕ) (f : Option Firing) → NoneTo c (notice_of s f)
notice_none c s None = tt
notice_none c s (Some f) = (tt, tt)

own_none : (p : Plan) (h : List Entry) (c s : ℕ) (x : Client Sent) (o : Op) → (s == c) ≡ false → NoneTo c (own_lines (wording p s h) (sight_of p s h) x o)
own_none p h c s x (op.TakeEvicted d k t) e = cond_both x.closed [] (line.Expired s t ∷ []) (NoneTo c) (λ _. tt) (λ _. (tt, tt))
own_none p h c s x (op.TakeWatch d id) e = cond_both (contains id x.held) (notice_of s (firing_of p id h)) [] (NoneTo c) (λ _. notice_none c s (firing_of p id h)) (λ _. tt)
own_none p h c s x (op.LookOk d i m) e = looked_none p h c s x x.reading e
own_none p h c s x (op.WatchSet d i id) e = reads_none p h c s i x.reading e
own_none p h c s x (op.ReadFault d i) e = (e, tt)
own_none p h c s x (op.WatchFault d i) e = (e, tt)
own_none p h c s x o e = tt

txs_none : (c : ℕ) (a : Option Applied) → NoneTo c (tx_lines a)
txs_none c None = tt
txs_none c (Some a) = (tt, tt)

next_none : (p : Plan) (h : List Entry) (c : ℕ) (o : Op) → client_in o ≡ None → NoneTo c (next_lines p h o)
next_none p h c (op.PublishOk m t) e = txs_none c (committed_as p t h)
next_none p h c o e = subst (λ s. NoneTo c (lines_of_client p h o s)) (sym e) tt

txs_ordered : (a : Option Applied) (b : List Line) → AllOrdered (tx_lines a) b
txs_ordered None b = tt
txs_ordered (Some a) b = (tt, tt)

none_ordered : (p : Plan) (h : List Entry) (o : Op) (b : List Line) → client_in o ≡ None → AllOrdered (next_lines p h o) b
none_ordered p h (op.PublishOk m t) b e = txs_ordered (committed_as p t h) b
none_ordered p h o b e = subst (λ s. AllOrdered (lines_of_client p h o s) b) (sym e) tt

-- Histories. -------------------------------------------------------------------------------------------

abbrev OrderedAt : Plan → ℕ → List Entry → Type 0
OrderedAt p c h = IsOrdered c (client_of p c h).sent (client_of p c h).begun (lines_of h)

own_so : (p : Plan) (c : ℕ) (e : Entry) (h : List Entry) → ReadsAreReads p → IsHistory p (e ∷ h) → client_in e.op ≡ Some c → OrderedAt p c h → StepSo c (client_lines p c h e.op) (lines_of h) (flushed by_result (acted_by (sight_of p c h) e.op (client_of p c h)))
own_so p c e h v l q z =
    let x = client_of p c h in
    let y = acted_by (sight_of p c h) e.op x in
    let own = own_lines (wording p c h) (sight_of p c h) x e.op in
    let rest = reply_lines (wording p c h) (ready_first by_result y.sent) in
    let a = own_step p c h (seen_by c h) (mark_of h) x e.op (lines_of h) v (entry_acts p c e h l q) (reads_so p c h v l.0) z in
    let r = ready_ordered p h c y.sent y.begun (lines_onto own (lines_of h)) a.1 in
    (ordered_append own rest (lines_of h) a.0 r.0, subst (IsOrdered c (without_ready by_result y.sent) y.begun) (sym (onto_append own rest (lines_of h))) r.1)

other_so : (c : ℕ) (ls b : List Line) (ss : List Sent) (begun : ℕ) → NoneTo c ls → IsOrdered c ss begun b → IsOrdered c ss begun (lines_onto ls b)
other_so c ls b ss begun n x = record { answered = x.answered; leads = x.leads; earlier = none_earlier c (x.answered + 1) ls b n x.earlier }

abbrev After : Plan → ℕ → Entry → List Entry → Option ℕ → List Line → Type 0
After p c e h k ls = IsOrdered c (client_by (sight_of p c h) k e.op (client_of p c h)).sent (client_by (sight_of p c h) k e.op (client_of p c h)).begun (lines_onto ls (lines_of h))

ordered_step : (p : Plan) (c : ℕ) (e : Entry) (h : List Entry) → ReadsAreReads p → IsHistory p (e ∷ h) → OrderedAt p c h → After p c e h (client_in e.op) e.lines
ordered_step p c e h v l z = subst (After p c e h (client_in e.op)) (sym (lines_are p e h l)) (by_client (client_in e.op) refl)
  where
    x : Client Sent
    x = client_of p c h

    own : (s : ℕ) → client_in e.op ≡ Some s → s ≡ c → IsOrdered c (flushed by_result (acted_by (sight_of p c h) e.op x)).sent (flushed by_result (acted_by (sight_of p c h) e.op x)).begun (lines_onto (client_lines p s h e.op) (lines_of h))
    own s q g = subst (λ y. IsOrdered c (flushed by_result (acted_by (sight_of p c h) e.op x)).sent (flushed by_result (acted_by (sight_of p c h) e.op x)).begun (lines_onto (client_lines p y h e.op) (lines_of h))) (sym g) (own_so p c e h v l (q ∙ ap Some g) z).1

    other : (s : ℕ) → (s == c) ≡ false → IsOrdered c x.sent x.begun (lines_onto (client_lines p s h e.op) (lines_of h))
    other s f = let y = client_of p s h in other_so c (client_lines p s h e.op) (lines_of h) x.sent x.begun (none_append c (own_lines (wording p s h) (sight_of p s h) y e.op) (reply_lines (wording p s h) (ready_first by_result (acted_by (sight_of p s h) e.op y).sent)) (own_none p h c s y e.op f) (replies_none p h c s (ready_first by_result (acted_by (sight_of p s h) e.op y).sent) f)) z

    by_client : (k : Option ℕ) → client_in e.op ≡ k → After p c e h k (next_lines p h e.op)
    by_client None q = other_so c (next_lines p h e.op) (lines_of h) x.sent x.begun (next_none p h c e.op q) z
    by_client (Some s) q = subst (After p c e h (Some s)) (sym (next_is p h s e.op q))
        (cond_both (s == c) (flushed by_result (acted_by (sight_of p c h) e.op x)) x (λ y. IsOrdered c y.sent y.begun (lines_onto (client_lines p s h e.op) (lines_of h))) (λ f. own s q (eqb-true s c f)) (λ f. other s f))

ordered_at : (p : Plan) (c : ℕ) (h : List Entry) → ReadsAreReads p → IsHistory p h → OrderedAt p c h
ordered_at p c [] v l = record { answered = 0; leads = refl; earlier = refl }
ordered_at p c (e ∷ h) v l = ordered_step p c e h v l (ordered_at p c h v l.0)

entry_ordered : (p : Plan) (e : Entry) (h : List Entry) → ReadsAreReads p → IsHistory p (e ∷ h) → AllOrdered e.lines (lines_of h)
entry_ordered p e h v l = subst (λ ls. AllOrdered ls (lines_of h)) (sym (lines_are p e h l)) (by_client (client_in e.op) refl)
  where
    by_client : (o : Option ℕ) → client_in e.op ≡ o → AllOrdered (next_lines p h e.op) (lines_of h)
    by_client None q = none_ordered p h e.op (lines_of h) q
    by_client (Some c) q = subst (λ ls. AllOrdered ls (lines_of h)) (sym (next_is p h c e.op q)) (own_so p c e h v l q (ordered_at p c h v l.0)).0

pub replies_ordered : RepliesAreInOrder
replies_ordered p [] v l = tt
replies_ordered p (e ∷ h) v l = each_onto e.lines (lines_of h) (replies_ordered p h v l.0) (entry_ordered p e h v l)
