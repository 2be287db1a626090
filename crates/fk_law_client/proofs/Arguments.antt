-- Unfit commands, and they alone, are refused for their arguments.
use Rattle.std.specs.Prelude.{◌==◌, ◌&&◌}
use Rattle.std.proofs.Common.{◌≡◌, ℕ, ◌+◌, ◌++◌, Bool, true, false, List, [], ◌∷◌, refl, sym, ◌∙◌, ap, subst, Option, Some, None}
use Rattle.std.proofs.lemmas.Bool.{false≢true, cond_both, eqb-true}
use Rattle.fk_base.specs.declared.code.Code.TheVariants as code
use Rattle.fk_tree.specs.Apply.{reply_of}
use Rattle.fk_tree.specs.Ask.{answer_from}
use Rattle.fk_tree.specs.declared.applied.Applied.{Applied}
use Rattle.fk_tree.specs.declared.node.Node.{Node}
use Rattle.fk_tree.specs.declared.reply.Answer.{Answer}
use Rattle.fk_tree.specs.declared.reply.Answer.TheVariants as answer
use Rattle.fk_tree.specs.declared.reply.Reply.{Reply}
use Rattle.fk_tree.specs.declared.reply.Reply.TheVariants as reply
use Rattle.fk_print.specs.declared.entry.Entry.{Entry}
use Rattle.fk_print.specs.declared.line.Line.{Line}
use Rattle.fk_print.specs.declared.line.Line.TheVariants as line
use Rattle.fk_print.specs.declared.line.Shown.TheVariants as shown
use Rattle.fk_print.specs.declared.op.Op.{Op}
use Rattle.fk_print.specs.declared.op.Op.TheVariants as op
use Rattle.fk_spec.specs.Plan.{Plan, Ask, Want, Unfit, Writes, Reads, asked, asks_in}
use Rattle.fk_spec.specs.Shown.{seen_by}
use Rattle.fk_spec.specs.Locks.{Loss}
use Rattle.fk_spec.specs.Settling.{Outcome, Committed, Refused, Passed, mark_of}
use Rattle.fk_spec.specs.Stored.{committed_as}
use Rattle.fk_spec.specs.Watches.{Firing, firing_of}
use Rattle.fk_spec.specs.Sight.{sight_of}
use Rattle.fk_spec.specs.Client.{is_open, is_ready, by_result, with_told, without_ready, ready_first, is_unfit, registers, is_close, number_read, contains, settle_with, local_result, close_if, looked_for, looked_at, looked, flushed, kept_outcome, settled_as, acted_by, client_in, client_by, client_of, Result, Sent, Reading, Client, Open, Settled, Plain, Expired}
use Rattle.fk_spec.specs.Replies.{shown_reply, shown_applied, shown_loss, shown_result, reply_lines, first_line, shown_answer, shown_asked, read_line, read_lines, looked_lines, notice_of, own_lines, wording, client_lines}
use Rattle.fk_spec.specs.PublicLines.{Each, lines_of, lines_onto}
use Rattle.fk_spec.specs.Refusals.{is_bad_arguments}
use Rattle.fk_spec.specs.Next.{IsHistory, next_lines, lines_of_client, tx_lines}
use Rattle.fk_law_watch.proofs.Reading.{next_is}
use Rattle.fk_law_client.specs.Unfit.{UnfitIsRefused, UnfitCommandsAreRefused}
use Rattle.fk_law_client.proofs.Acting.{ActsAs, IsLooked, ReadsTree, entry_acts}
use Rattle.fk_base.proofs.Logic.{and_right}

abbrev AllFit : Plan → List Line → Type 0
AllFit p [] = Unit {0}
AllFit p (l ∷ ls) = UnfitIsRefused p l [] × AllFit p ls

fits_here : (p : Plan) (l : Line) (b : List Line) → UnfitIsRefused p l [] → UnfitIsRefused p l b
fits_here p (line.Reply s i v sh) b e = e
fits_here p (line.Tx x) b e = tt
fits_here p (line.Notice s t k w q) b e = tt
fits_here p (line.Expired s t) b e = tt

each_onto : (p : Plan) (ls b : List Line) → Each (UnfitIsRefused p) b → AllFit p ls → Each (UnfitIsRefused p) (lines_onto ls b)
each_onto p [] b i k = i
each_onto p (l ∷ ls) b i k = each_onto p ls (l ∷ b) (fits_here p l b k.0, i) k.1

fit_append : (p : Plan) (xs ys : List Line) → AllFit p xs → AllFit p ys → AllFit p (xs ++ ys)
fit_append p [] ys i j = j
fit_append p (x ∷ xs) ys i j = (i.0, fit_append p xs ys i.1 j)

-- What is kept of a command. ---------------------------------------------------------------------------

-- what is known of a command, where it is unfit or isn't
abbrev FitsSo : Bool → Result → Type 0
FitsSo u (Plain cd) = is_bad_arguments (shown.Plain cd) ≡ u
FitsSo u _ = u ≡ false

abbrev AllSo : Plan → ℕ → List Sent → Type 0
AllSo p c [] = Unit {0}
AllSo p c (s ∷ ss) = FitsSo (is_unfit (asked p c s.command)) s.result × AllSo p c ss

open_fits : (u : Bool) (r : Result) → is_open r ≡ true → FitsSo u r → u ≡ false
open_fits u Open e i = i
open_fits u (Settled o) e i = i
open_fits u (Expired at) e i = i
open_fits u (Plain cd) e i = absurd (false≢true e)

settled_so : (p : Plan) (c k : ℕ) (o : Outcome) (ss : List Sent) → AllSo p c ss → AllSo p c (with_told by_result k (Settled o) ss)
settled_so p c k o [] i = tt
settled_so p c k o (s ∷ ss) i = cond_both ((s.k == k) && is_open s.result) (record s { result = Settled o } ∷ ss) (s ∷ with_told by_result k (Settled o) ss) (AllSo p c) (λ e. (open_fits (is_unfit (asked p c s.command)) s.result (and_right (s.k == k) (is_open s.result) e) i.0, i.1)) (λ _. (i.0, settled_so p c k o ss i.1))

append_so : (p : Plan) (c : ℕ) (ss : List Sent) (s : Sent) → FitsSo (is_unfit (asked p c s.command)) s.result → AllSo p c ss → AllSo p c (ss ++ s ∷ [])
append_so p c [] s j i = (j, tt)
append_so p c (x ∷ ss) s j i = (i.0, append_so p c ss s j i.1)

local_so : (u : Bool) (seen : ℕ) → FitsSo u (local_result u seen)
local_so true seen = refl
local_so false seen = refl

unready_so : (p : Plan) (c : ℕ) (ss : List Sent) → AllSo p c ss → AllSo p c (without_ready by_result ss)
unready_so p c [] i = tt
unready_so p c (s ∷ ss) i = cond_both (is_ready s.result) (without_ready by_result ss) (s ∷ ss) (AllSo p c) (λ _. unready_so p c ss i.1) (λ _. i)

-- Lines. -----------------------------------------------------------------------------------------------

reply_fits : (t : ℕ) (r : Reply) → is_bad_arguments (shown_reply t r) ≡ false
reply_fits t (reply.Created path) = refl
reply_fits t (reply.Version version) = refl
reply_fits t reply.Deleted = refl
reply_fits t reply.Closed = refl
reply_fits t (reply.Multi replies) = refl

applied_fits : (t : ℕ) (o : Option Applied) → is_bad_arguments (shown_applied t o) ≡ false
applied_fits t None = refl
applied_fits t (Some a) = reply_fits t (reply_of a)

loss_fits : (o : Option Loss) → is_bad_arguments (shown_loss o) ≡ false
loss_fits None = refl
loss_fits (Some l) = refl

result_fits : (p : Plan) (h : List Entry) (u : Bool) (r : Result) → FitsSo u r → is_bad_arguments (shown_result p h r) ≡ u
result_fits p h u Open i = sym i
result_fits p h u (Settled (Committed t)) i = applied_fits t (committed_as p t h) ∙ sym i
result_fits p h u (Settled (Refused cd place at)) i = sym i
result_fits p h u (Settled (Passed loss)) i = loss_fits loss ∙ sym i
result_fits p h u (Plain cd) i = i
result_fits p h u (Expired at) i = sym i

answer_fits : (n : ℕ) (a : Answer) → is_bad_arguments (shown_answer n a) ≡ false
answer_fits n (answer.Got bytes stat) = refl
answer_fits n (answer.Stated stat) = refl
answer_fits n (answer.Listed names) = refl
answer_fits n answer.NoNode = refl

reads_fit : (n : ℕ) (found : Option Node) (a : Option Ask) → ReadsTree a → (is_bad_arguments (shown_asked n found a) ≡ is_unfit a) × (is_unfit a ≡ false)
reads_fit n found None i = absurd i
reads_fit n found (Some a) i = by_want a.want i
  where
    by_want : (w : Want) → ReadsTree (Some (record a { want = w })) → (is_bad_arguments (shown_asked n found (Some (record a { want = w }))) ≡ is_unfit (Some (record a { want = w }))) × (is_unfit (Some (record a { want = w })) ≡ false)
    by_want (Reads q b) j = (answer_fits n (answer_from q found), refl)
    by_want Unfit j = absurd j
    by_want (Writes r) j = absurd j

replies_fit : (p : Plan) (h : List Entry) (c : ℕ) (ss : List Sent) → AllSo p c ss → AllFit p (reply_lines (wording p c h) (ready_first by_result ss))
replies_fit p h c [] i = tt
replies_fit p h c (s ∷ ss) i = cond_both (is_ready s.result) (s ∷ ready_first by_result ss) [] (λ z. AllFit p (reply_lines (wording p c h) z)) (λ _. (result_fits p h (is_unfit (asked p c s.command)) s.result i.0, replies_fit p h c ss i.1)) (λ _. tt)

first_fits : (p : Plan) (h : List Entry) (c : ℕ) (ss : List Sent) → AllSo p c ss → AllFit p (first_line (wording p c h) ss)
first_fits p h c [] i = tt
first_fits p h c (s ∷ ss) i = (result_fits p h (is_unfit (asked p c s.command)) s.result i.0, tt)

-- a read that is made is the next command
abbrev MakesRead : Plan → ℕ → ℕ → Option Reading → Type 0
MakesRead p c i None = Unit {0}
MakesRead p c i (Some r) = ReadsTree (asked p c (i + 1))

looked_fits : (p : Plan) (h : List Entry) (c : ℕ) (x : Client Sent) (r : Option Reading) → MakesRead p c x.begun r → AllSo p c x.sent → AllFit p (looked_lines (wording p c h) (seen_by c h) x r)
looked_fits p h c x None m i = first_fits p h c x.sent i
looked_fits p h c x (Some r) m i = cond_both (registers (asked p c (x.begun + 1)) r.node) [] (read_line c (asks_in p c) (seen_by c h) (x.begun + 1) r ∷ []) (AllFit p) (λ _. tt) (λ _. ((reads_fit (number_read (seen_by c h) r) r.node (asked p c (x.begun + 1)) m).0, tt))

set_fits : (p : Plan) (h : List Entry) (c i n : ℕ) (r : Option Reading) → i ≡ n + 1 → MakesRead p c n r → AllFit p (read_lines c (asks_in p c) (seen_by c h) i r)
set_fits p h c i n None q m = tt
set_fits p h c i n (Some r) q m = ((reads_fit (number_read (seen_by c h) r) r.node (asked p c i) (subst (λ z. ReadsTree (asked p c z)) (sym q) m)).0, tt)

fault_reads : (p : Plan) (c i n : ℕ) (r : Option Reading) → i ≡ n + 1 → IsLooked r → MakesRead p c n r → ReadsTree (asked p c i)
fault_reads p c i n None q l m = absurd l
fault_reads p c i n (Some r) q l m = subst (λ z. ReadsTree (asked p c z)) (sym q) m

notice_fits : (p : Plan) (c : ℕ) (f : Option Firing) → AllFit p (notice_of c f)
notice_fits p c None = tt
notice_fits p c (Some f) = (tt, tt)

own_fits : (p : Plan) (h : List Entry) (c seen mark : ℕ) (x : Client Sent) (o : Op) → ActsAs p c x seen mark o → MakesRead p c x.begun x.reading → AllSo p c x.sent → AllFit p (own_lines (wording p c h) (sight_of p c h) x o)
own_fits p h c seen mark x (op.TakeEvicted d k t) a m i = cond_both x.closed [] (line.Expired c t ∷ []) (AllFit p) (λ _. tt) (λ _. (tt, tt))
own_fits p h c seen mark x (op.TakeWatch d id) a m i = cond_both (contains id x.held) (notice_of c (firing_of p id h)) [] (AllFit p) (λ _. notice_fits p c (firing_of p id h)) (λ _. tt)
own_fits p h c seen mark x (op.LookOk d j n) a m i = looked_fits p h c x x.reading m i
own_fits p h c seen mark x (op.WatchSet d j id) a m i = set_fits p h c j x.begun x.reading a.0 m
own_fits p h c seen mark x (op.ReadFault d j) a m i = (sym (reads_fit 0 None (asked p c j) a.1).1, tt)
own_fits p h c seen mark x (op.WatchFault d j) a m i = (sym (reads_fit 0 None (asked p c j) (fault_reads p c j x.begun x.reading a.0 a.1 m)).1, tt)
own_fits p h c seen mark x o a m i = tt

-- Operations. ------------------------------------------------------------------------------------------

abbrev StandsSo : Plan → ℕ → Client Sent → Type 0
StandsSo p c x = AllSo p c x.sent × MakesRead p c x.begun x.reading

none_made : (p : Plan) (c i : ℕ) (r : Option Reading) → r ≡ None → MakesRead p c i r
none_made p c i r e = subst (MakesRead p c i) (sym e) tt

kept_none : (p : Plan) (c i k : ℕ) (o : Option Outcome) (x : Client Sent) → AllSo p c x.sent → StandsSo p c (settle_with by_result k (settled_as o) x)
kept_none p c i k None x s = (s, tt)
kept_none p c i k (Some o) x s = (settled_so p c k o x.sent s, tt)

looked_so : (p : Plan) (c : ℕ) (r : Option Reading) (x : Client Sent) → x.reading ≡ r → StandsSo p c x → StandsSo p c (looked by_result (asks_in p c) r x)
looked_so p c None x e s = for_first x.sent refl
  where
    closing : (b : Bool) (ss : List Sent) → AllSo p c ss → StandsSo p c (close_if b (record x { sent = ss }))
    closing true ss i = (i, s.1)
    closing false ss i = (i, s.1)

    for_first : (ss : List Sent) → x.sent ≡ ss → StandsSo p c (looked_for by_result (asks_in p c) ss x)
    for_first [] q = s
    for_first (y ∷ ss) q = closing (is_close (asked p c y.command)) ss (subst (AllSo p c) q s.0).1
looked_so p c (Some r) x e s = at_read (registers (asked p c (x.begun + 1)) r.node) (subst (MakesRead p c x.begun) e s.1)
  where
    at_read : (b : Bool) → ReadsTree (asked p c (x.begun + 1)) → StandsSo p c (looked_at b r x)
    at_read true m = (s.0, m)
    at_read false m = (s.0, tt)

acted_so : (p : Plan) (c seen mark : ℕ) (h : List Entry) (x : Client Sent) (o : Op) → ActsAs p c x seen mark o → StandsSo p c x → StandsSo p c (acted_by (sight_of p c h) o x)
acted_so p c seen mark h x (op.Send d i k) a s = (append_so p c x.sent (record { command = i; k = k; result = Open }) a.3 s.0, none_made p c i x.reading a.1)
acted_so p c seen mark h x (op.SendFault d i) a s = (append_so p c x.sent (record { command = i; k = 0; result = Plain code.ConnectionLoss }) (sym a.3) s.0, none_made p c i x.reading a.1)
acted_so p c seen mark h x (op.Local d i) a s = (append_so p c x.sent (record { command = i; k = 0; result = local_result (is_unfit (asked p c i)) (seen_by c h) }) (local_so (is_unfit (asked p c i)) (seen_by c h)) s.0, none_made p c i x.reading a.1)
acted_so p c seen mark h x (op.Read d i n) a s = (s.0, subst (λ z. ReadsTree (asked p c z)) a.0.0 a.1)
acted_so p c seen mark h x (op.TakeDone d k t) a s = (settled_so p c k (Committed t) x.sent s.0, tt)
acted_so p c seen mark h x (op.TakeRefused d k) a s = kept_none p c 0 k (kept_outcome (sight_of p c h).head) x s.0
acted_so p c seen mark h x (op.TakeLost d k) a s = kept_none p c 0 k (kept_outcome (sight_of p c h).head) x s.0
acted_so p c seen mark h x (op.TakeEvicted d k t) a s = (s.0, tt)
acted_so p c seen mark h x (op.TakeWatch d id) a s = (s.0, tt)
acted_so p c seen mark h x (op.TakePing d n) a s = (s.0, tt)
acted_so p c seen mark h x (op.LookOk d i m) a s = looked_so p c x.reading x refl s
acted_so p c seen mark h x (op.WatchSet d i id) a s = (s.0, tt)
acted_so p c seen mark h x (op.WatchSwept d i t) a s = (s.0, tt)
acted_so p c seen mark h x (op.ReadFault d i) a s = (s.0, tt)
acted_so p c seen mark h x (op.WatchFault d i) a s = (s.0, tt)
acted_so p c seen mark h x o a s = s

-- Histories. -------------------------------------------------------------------------------------------

own_stands : (p : Plan) (c : ℕ) (e : Entry) (h : List Entry) → IsHistory p (e ∷ h) → client_in e.op ≡ Some c → StandsSo p c (client_of p c h) → StandsSo p c (flushed by_result (acted_by (sight_of p c h) e.op (client_of p c h)))
own_stands p c e h l q s = let z = acted_so p c (seen_by c h) (mark_of h) h (client_of p c h) e.op (entry_acts p c e h l q) s in (unready_so p c (acted_by (sight_of p c h) e.op (client_of p c h)).sent z.0, z.1)

client_stands : (p : Plan) (c : ℕ) (e : Entry) (h : List Entry) (o : Option ℕ) → client_in e.op ≡ o → (client_in e.op ≡ Some c → StandsSo p c (flushed by_result (acted_by (sight_of p c h) e.op (client_of p c h)))) → StandsSo p c (client_of p c h) → StandsSo p c (client_by (sight_of p c h) o e.op (client_of p c h))
client_stands p c e h None q f w = w
client_stands p c e h (Some s) q f w = cond_both (s == c) (flushed by_result (acted_by (sight_of p c h) e.op (client_of p c h))) (client_of p c h) (StandsSo p c) (λ t. f (q ∙ ap Some (eqb-true s c t))) (λ _. w)

stands : (p : Plan) (c : ℕ) (h : List Entry) → IsHistory p h → StandsSo p c (client_of p c h)
stands p c [] l = (tt, tt)
stands p c (e ∷ h) l = let w = stands p c h l.0 in client_stands p c e h (client_in e.op) refl (λ q. own_stands p c e h l q w) w

txs_fit : (p : Plan) (a : Option Applied) → AllFit p (tx_lines a)
txs_fit p None = tt
txs_fit p (Some a) = (tt, tt)

none_fit : (p : Plan) (h : List Entry) (o : Op) → client_in o ≡ None → AllFit p (next_lines p h o)
none_fit p h (op.PublishOk m t) e = txs_fit p (committed_as p t h)
none_fit p h o e = subst (λ s. AllFit p (lines_of_client p h o s)) (sym e) tt

client_fits : (p : Plan) (c : ℕ) (e : Entry) (h : List Entry) → IsHistory p (e ∷ h) → client_in e.op ≡ Some c → AllFit p (client_lines p c h e.op)
client_fits p c e h l q =
    let x = client_of p c h in
    let s = stands p c h l.0 in
    let a = entry_acts p c e h l q in
    fit_append p (own_lines (wording p c h) (sight_of p c h) x e.op) (reply_lines (wording p c h) (ready_first by_result (acted_by (sight_of p c h) e.op x).sent)) (own_fits p h c (seen_by c h) (mark_of h) x e.op a s.1 s.0)
    (replies_fit p h c (acted_by (sight_of p c h) e.op x).sent (acted_so p c (seen_by c h) (mark_of h) h x e.op a s).0)

entry_fits : (p : Plan) (e : Entry) (h : List Entry) → IsHistory p (e ∷ h) → AllFit p e.lines
entry_fits p e h l = subst (AllFit p) (sym lines) (by_client (client_in e.op) refl)
  where
    lines : e.lines ≡ next_lines p h e.op
    lines = ap (λ x. x.lines) l.1.0 ∙ ap (next_lines p h) (sym (ap (λ x. x.op) l.1.0))

    by_client : (o : Option ℕ) → client_in e.op ≡ o → AllFit p (next_lines p h e.op)
    by_client None q = none_fit p h e.op q
    by_client (Some c) q = subst (AllFit p) (sym (next_is p h c e.op q)) (client_fits p c e h l q)

pub unfit_refused : UnfitCommandsAreRefused
unfit_refused p [] l = tt
unfit_refused p (e ∷ h) l = each_onto p e.lines (lines_of h) (unfit_refused p h l.0) (entry_fits p e h l)
