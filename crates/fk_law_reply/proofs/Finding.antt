-- A read shows the tree of the number at which it is answered.
use Rattle.std.specs.Prelude.{◌==◌, nat_le, if◌then◌else◌, max}
use Rattle.std.proofs.Common.{◌≡◌, ℕ, ◌+◌, ◌≤◌, ◌++◌, Bool, true, false, List, [], ◌∷◌, refl, sym, ◌∙◌, ap, subst, arith, Option, Some, None}
use Rattle.std.proofs.lemmas.Bool.{cond_both, eqb-true}
use Rattle.std.proofs.lemmas.Bool.Decides.{nat_tests}
use Rattle.std.proofs.lemmas.Option.{same_Some, none-some}
use Rattle.fk_base.specs.Path.{PathNames}
use Rattle.fk_tree.specs.Ask.{path_asked}
use Rattle.fk_tree.specs.Edit.{view_after}
use Rattle.fk_print.specs.declared.entry.Entry.{Entry}
use Rattle.fk_print.specs.declared.line.Line.{Line}
use Rattle.fk_print.specs.declared.op.Op.{Op}
use Rattle.fk_print.specs.declared.op.Op.TheVariants as op
use Rattle.fk_spec.specs.Plan.{Plan, asked, asks_in}
use Rattle.fk_spec.specs.Shown.{seen_by, seen_lines}
use Rattle.fk_spec.specs.Settling.{Outcome, mark_of, swept_of}
use Rattle.fk_spec.specs.Stored.{committed_of, record_of, stamp_of, up_to}
use Rattle.fk_spec.specs.Sight.{sight_of}
use Rattle.fk_spec.specs.Client.{acted_by, by_result, client_by, client_in, client_of, flushed, kept_outcome, looked_at, number_read, path_read, read_by, ready_first, registers, settle_with, settled_as, Client, Reading, Sent}
use Rattle.fk_spec.specs.Replies.{client_lines, read_line, reply_lines, wording}
use Rattle.fk_spec.specs.Next.{IsHistory, next_lines}
use Rattle.fk_law.proofs.Growing.{numbers_never_fall}
use Rattle.fk_law.proofs.Leading.{mark_behind_sweep}
use Rattle.fk_law.proofs.Publishing.{published_tree_is_shown}
use Rattle.fk_law.proofs.Stamping.{final_below_the_sweep, record_is_the_node}
use Rattle.fk_law.proofs.TxLines.{stamps_are_swept}
use Rattle.fk_law.proofs.Printing.{lines_are}
use Rattle.fk_law_watch.specs.FirstNumbers.{ReadsAreReads}
use Rattle.fk_law_watch.proofs.Reading.{ReadSo, client_unseen, next_is, none_unseen, reads_so, looked_read, lines_by, cons_nil}
use Rattle.fk_law.specs.Operations.{BeginsRead, OperationSays}
use Rattle.fk_law_client.proofs.Acting.{begins_to_read}
use Rattle.fk_law.proofs.Due.{client_operations_say}
use Rattle.fk_law_client.proofs.Seen.{seen_published}
use Rattle.fk_law_client.proofs.Tracking.{none_unanswered}
use Rattle.fk_law_reply.specs.Reads.{IsMadeRead, ReadsShowTheTree}

-- When it is made. -------------------------------------------------------------------------------------

abbrev FoundAt : Plan → List Entry → PathNames → ℕ → Type 0
FoundAt p h q n = (n ≤ swept_of h) × (record_of p q h ≡ (view_after (up_to n (committed_of p h))).node q)

-- a record shows the tree of the greater of its stamp and a published number
found_at : (p : Plan) (h : List Entry) (q : PathNames) (seen : ℕ) → IsHistory p h → seen ≤ mark_of h → FoundAt p h q (max seen (stamp_of q h))
found_at p h q seen l b = by_order (nat_le seen (stamp_of q h)) refl
  where
    low : stamp_of q h ≤ swept_of h
    low = stamps_are_swept p q h l

    by_order : (d : Bool) → nat_le seen (stamp_of q h) ≡ d → FoundAt p h q (max seen (stamp_of q h))
    by_order true e = let s : stamp_of q h ≡ max seen (stamp_of q h) = grind (arith, nat_tests) in subst (FoundAt p h q) s (low, refl)
    by_order false e =
        let s : seen ≡ max seen (stamp_of q h) = grind (arith, nat_tests) in
        let a : stamp_of q h ≤ seen = grind (arith, nat_tests) in
        let m = (mark_behind_sweep p h l).0 in
        subst (FoundAt p h q) s (omega (arith, b, m), record_is_the_node p seen h q l a b ∙ ap (λ v. v.node q) (published_tree_is_shown p seen h l b))

made_now : (p : Plan) (c i stamp : ℕ) (h : List Entry) → ReadsAreReads p → IsHistory p h → (r : BeginsRead p c i h) → stamp ≡ stamp_of (path_asked r.query) h → IsMadeRead p c h (seen_by c h) (client_of p c h).begun (read_by (sight_of p c h) (asked p c i) stamp)
made_now p c i stamp h v l r e = record {
  ask = r.begins.ask;
  is_asked = ap (asked p c) (sym r.begins.next) ∙ r.begins.is_asked;
  query = r.query;
  watch = r.watch;
  reads = r.reads;
  swept = subst (λ n. max (seen_by c h) n ≤ swept_of h) (sym e) found.0;
  shows = ap (λ q. record_of p q h) path ∙ subst (λ n. record_of p (path_asked r.query) h ≡ (view_after (up_to (max (seen_by c h) n) (committed_of p h))).node (path_asked r.query)) (sym e) found.1;
}
  where
    found : FoundAt p h (path_asked r.query) (max (seen_by c h) (stamp_of (path_asked r.query) h))
    found = found_at p h (path_asked r.query) (seen_by c h) l (seen_published p c h v l)

    path : path_read (asked p c i) ≡ path_asked r.query
    path = ap path_read r.begins.is_asked ∙ subst (λ w. path_read (Some (record r.begins.ask { want = w })) ≡ path_asked r.query) (sym r.reads) refl

-- It stays. --------------------------------------------------------------------------------------------

made_stays : (p : Plan) (c : ℕ) (e : Entry) (h : List Entry) (seen begun : ℕ) (r : Reading) → IsHistory p (e ∷ h) → IsMadeRead p c h seen begun r → IsMadeRead p c (e ∷ h) seen begun r
made_stays p c e h seen begun r l x = record {
  ask = x.ask;
  is_asked = x.is_asked;
  query = x.query;
  watch = x.watch;
  reads = x.reads;
  swept = (let g = (numbers_never_fall h (e ∷ [])).swept in let b = x.swept in omega (arith, g, b));
  shows = x.shows ∙ ap (λ done. (view_after done).node (path_asked x.query)) (sym (final_below_the_sweep p (number_read seen r) h (e ∷ []) l x.swept));
}

looked_made : (p : Plan) (c : ℕ) (h : List Entry) (seen begun : ℕ) (r : Reading) → IsMadeRead p c h seen begun r → IsMadeRead p c h seen begun (record r { looked = true })
looked_made p c h seen begun r x = record { ask = x.ask; is_asked = x.is_asked; query = x.query; watch = x.watch; reads = x.reads; swept = x.swept; shows = x.shows }

kept_read : (k : ℕ) (o : Option Outcome) (x : Client Sent) → (flushed by_result (settle_with by_result k (settled_as o) x)).reading ≡ None
kept_read k None x = refl
kept_read k (Some o) x = refl

-- A client's read after an entry. -----------------------------------------------------------------------

-- this holds of a read, where one is made
abbrev OnReading : (ℕ → ℕ → Reading → Type 0) → ℕ → ℕ → Option Reading → Type 0
OnReading P seen begun None = Unit {0}
OnReading P seen begun (Some r) = P seen begun r

none_made : (P : ℕ → ℕ → Reading → Type 0) (seen begun : ℕ) (r : Option Reading) → r ≡ None → OnReading P seen begun r
none_made P seen begun r e = subst (OnReading P seen begun) (sym e) tt

abbrev AfterOwn : (ℕ → ℕ → Reading → Type 0) → Plan → List Entry → ℕ → Client Sent → Op → ℕ → Type 0
AfterOwn P p h c x o seen = OnReading P (seen_lines c (lines_by p h c x o) seen) (flushed by_result (acted_by (sight_of p c h) o x)).begun (flushed by_result (acted_by (sight_of p c h) o x)).reading

-- what an operation needs of a client: its read is made or looked at now, or it begins something while none is made
abbrev NeedsSo : (ℕ → ℕ → Reading → Type 0) → Plan → List Entry → ℕ → ℕ → Client Sent → Op → Type 0
NeedsSo P p h c seen x (op.Read d i s) = (x.sent ≡ []) × P seen x.begun (read_by (sight_of p c h) (asked p c i) s)
NeedsSo P p h c seen x (op.LookOk d i m) = (r : Reading) → x.reading ≡ Some r → registers (asked p c (x.begun + 1)) r.node ≡ true → P seen x.begun (record r { looked = true })
NeedsSo P p h c seen x (op.Send d i n) = x.reading ≡ None
NeedsSo P p h c seen x (op.SendFault d i) = x.reading ≡ None
NeedsSo P p h c seen x (op.Local d i) = x.reading ≡ None
NeedsSo P p h c seen x _ = Unit {0}

read_step : (P : ℕ → ℕ → Reading → Type 0) (p : Plan) (h : List Entry) (c seen begun : ℕ) (r : Reading) (ss : List Sent) → ss ≡ [] → P seen begun r → OnReading P (seen_lines c (reply_lines (wording p c h) (ready_first by_result ss)) seen) begun (Some r)
read_step P p h c seen begun r ss e m = subst (λ z. P (seen_lines c (reply_lines (wording p c h) (ready_first by_result z)) seen) begun r) (sym e) m

look_step : (P : ℕ → ℕ → Reading → Type 0) (p : Plan) (h : List Entry) (c : ℕ) (x : Client Sent) (r : Reading) (seen : ℕ) → x.sent ≡ [] → (g : Bool) → (g ≡ true → P seen x.begun (record r { looked = true })) → OnReading P (seen_lines c ((if g then [] else read_line c (asks_in p c) (seen_by c h) (x.begun + 1) r ∷ []) ++ reply_lines (wording p c h) (ready_first by_result (looked_at g r x).sent)) seen) (flushed by_result (looked_at g r x)).begun (flushed by_result (looked_at g r x)).reading
look_step P p h c x r seen f true m = rw f (m refl)
look_step P p h c x r seen f false m = tt

own_step : (P : ℕ → ℕ → Reading → Type 0) (p : Plan) (h : List Entry) (c seen mark : ℕ) (o : Op) (rd : Option Reading) (ss : List Sent) (b : ℕ) (hd ow : List ℕ) (cl : Bool) → client_in o ≡ Some c → NeedsSo P p h c seen (record { begun = b; sent = ss; held = hd; owed = ow; reading = rd; closed = cl }) o → ReadSo ss seen mark rd → OnReading P seen b rd → AfterOwn P p h c (record { begun = b; sent = ss; held = hd; owed = ow; reading = rd; closed = cl }) o seen
own_step P p h c seen mark (op.Read d i s) rd ss b hd ow cl e a w m = read_step P p h c seen b (read_by (sight_of p c h) (asked p c i) s) ss a.0 a.1
own_step P p h c seen mark (op.TakeRefused d n) rd ss b hd ow cl e a w m = none_made P _ _ _ (kept_read n (kept_outcome (sight_of p c h).head) (record { begun = b; sent = ss; held = hd; owed = ow; reading = rd; closed = cl }))
own_step P p h c seen mark (op.TakeLost d n) rd ss b hd ow cl e a w m = none_made P _ _ _ (kept_read n (kept_outcome (sight_of p c h).head) (record { begun = b; sent = ss; held = hd; owed = ow; reading = rd; closed = cl }))
own_step P p h c seen mark (op.LookOk d i n) None ss b hd ow cl e a w m = none_made P _ _ _ (looked_read p c ss (record { begun = b; sent = ss; held = hd; owed = ow; reading = None; closed = cl }))
own_step P p h c seen mark (op.LookOk d i n) (Some r) [] b hd ow cl e a w m = look_step P p h c (record { begun = b; sent = []; held = hd; owed = ow; reading = Some r; closed = cl }) r seen refl (registers (asked p c (b + 1)) r.node) (a r refl)
own_step P p h c seen mark (op.LookOk d i n) (Some r) (s ∷ ss) b hd ow cl e a w m = absurd (cons_nil s ss w.0)
own_step P p h c seen mark (op.Send d i n) rd ss b hd ow cl e a w m = none_made P _ _ rd a
own_step P p h c seen mark (op.SendFault d i) rd ss b hd ow cl e a w m = none_made P _ _ rd a
own_step P p h c seen mark (op.Local d i) rd ss b hd ow cl e a w m = none_made P _ _ rd a
own_step P p h c seen mark (op.TakeDone d n t) rd ss b hd ow cl e a w m = tt
own_step P p h c seen mark (op.TakeEvicted d n t) rd ss b hd ow cl e a w m = tt
own_step P p h c seen mark (op.TakeWatch d id) rd ss b hd ow cl e a w m = tt
own_step P p h c seen mark (op.TakePing d n) rd ss b hd ow cl e a w m = tt
own_step P p h c seen mark (op.WatchSet d i id) rd ss b hd ow cl e a w m = tt
own_step P p h c seen mark (op.WatchSwept d i t) rd ss b hd ow cl e a w m = tt
own_step P p h c seen mark (op.ReadFault d i) rd ss b hd ow cl e a w m = tt
own_step P p h c seen mark (op.WatchFault d i) rd ss b hd ow cl e a w m = tt
own_step P p h c seen mark o None ss b hd ow cl e a w m = tt
own_step P p h c seen mark o (Some r) [] b hd ow cl e a w m = m
own_step P p h c seen mark o (Some r) (s ∷ ss) b hd ow cl e a w m = absurd (cons_nil s ss w.0)

needs_so : (P : ℕ → ℕ → Reading → Type 0) (p : Plan) (c : ℕ) (h : List Entry) (o : Op) → ReadsAreReads p → client_in o ≡ Some c → OperationSays p c h o
    → ((i m : ℕ) (r : Reading) → o ≡ op.LookOk c i m → (client_of p c h).reading ≡ Some r → registers (asked p c ((client_of p c h).begun + 1)) r.node ≡ true → P (seen_by c h) (client_of p c h).begun (record r { looked = true }))
    → ((i s : ℕ) → o ≡ op.Read c i s → P (seen_by c h) (client_of p c h).begun (read_by (sight_of p c h) (asked p c i) s))
    → NeedsSo P p h c (seen_by c h) (client_of p c h) o
needs_so P p c h (op.Read d i s) v q a look read = let b = begins_to_read p c i h a.0 in (none_unanswered p c (client_of p c h) i v b.0 b.1, read i s (ap (λ z. op.Read z i s) (same_Some d c q)))
needs_so P p c h (op.LookOk d i m) v q a look read = λ r e f. look i m r (ap (λ z. op.LookOk z i m) (same_Some d c q)) e f
needs_so P p c h (op.Send d i n) v q a look read = a.0.begins.reads_nothing
needs_so P p c h (op.SendFault d i) v q a look read = a.begins.reads_nothing
needs_so P p c h (op.Local d i) v q a look read = a.0.reads_nothing
needs_so P p c h o v q a look read = tt

-- client c's read after one more operation with these lines
abbrev After : (ℕ → ℕ → Reading → Type 0) → Plan → ℕ → Entry → List Entry → List Line → Option ℕ → Type 0
After P p c e h ls k = OnReading P (seen_lines c ls (seen_by c h)) (client_by (sight_of p c h) k e.op (client_of p c h)).begun (client_by (sight_of p c h) k e.op (client_of p c h)).reading

after_step : (P : ℕ → ℕ → Reading → Type 0) (p : Plan) (c : ℕ) (e : Entry) (h : List Entry) → ReadsAreReads p → IsHistory p (e ∷ h) → OnReading P (seen_by c h) (client_of p c h).begun (client_of p c h).reading → (client_in e.op ≡ Some c → NeedsSo P p h c (seen_by c h) (client_of p c h) e.op) → After P p c e h (next_lines p h e.op) (client_in e.op)
after_step P p c e h v l old needs = by_client (client_in e.op) refl
  where
    x : Client Sent
    x = client_of p c h

    own : client_in e.op ≡ Some c → AfterOwn P p h c x e.op (seen_by c h)
    own q = own_step P p h c (seen_by c h) (mark_of h) e.op x.reading x.sent x.begun x.held x.owed x.closed q (needs q) (reads_so p c h v l.0) old

    by_client : (k : Option ℕ) → client_in e.op ≡ k → After P p c e h (next_lines p h e.op) k
    by_client None q = subst (λ n. OnReading P n x.begun x.reading) (sym (none_unseen p h c (seen_by c h) e.op q)) old
    by_client (Some s) q =
        subst (λ ls. After P p c e h ls (Some s)) (sym (next_is p h s e.op q))
        (cond_both (s == c) (flushed by_result (acted_by (sight_of p c h) e.op x)) x (λ y. OnReading P (seen_lines c (client_lines p s h e.op) (seen_by c h)) y.begun y.reading)
        (λ f. let g = eqb-true s c f in subst (λ z. OnReading P (seen_lines c (client_lines p z h e.op) (seen_by c h)) (flushed by_result (acted_by (sight_of p c h) e.op x)).begun (flushed by_result (acted_by (sight_of p c h) e.op x)).reading) (sym g) (own (q ∙ ap Some g)))
        (λ f. subst (λ n. OnReading P n x.begun x.reading) (sym (client_unseen p h c s e.op (seen_by c h) f)) old))

made_on : (P : ℕ → ℕ → Reading → Type 0) (seen begun : ℕ) (o : Option Reading) → ((r : Reading) → o ≡ Some r → P seen begun r) → OnReading P seen begun o
made_on P seen begun None f = tt
made_on P seen begun (Some r) f = f r refl

-- What holds of a client's read still holds after an entry, where it holds of a read that is looked at or made now.
pub reading_after : (p : Plan) (c : ℕ) (e : Entry) (h : List Entry) (P : ℕ → ℕ → Reading → Type 0) → ReadsAreReads p → IsHistory p (e ∷ h)
    → ((r : Reading) → (client_of p c h).reading ≡ Some r → P (seen_by c h) (client_of p c h).begun r)
    → ((i m : ℕ) (r : Reading) → e.op ≡ op.LookOk c i m → (client_of p c h).reading ≡ Some r → registers (asked p c ((client_of p c h).begun + 1)) r.node ≡ true → P (seen_by c h) (client_of p c h).begun (record r { looked = true }))
    → ((i s : ℕ) → e.op ≡ op.Read c i s → P (seen_by c h) (client_of p c h).begun (read_by (sight_of p c h) (asked p c i) s))
    → (r : Reading) → (client_of p c (e ∷ h)).reading ≡ Some r → P (seen_by c (e ∷ h)) (client_of p c (e ∷ h)).begun r
reading_after p c e h P v l old look read r q =
    subst (OnReading P (seen_by c (e ∷ h)) (client_of p c (e ∷ h)).begun) q
    (subst (λ ls. After P p c e h ls (client_in e.op)) (sym (lines_are p e h l))
    (after_step P p c e h v l (made_on P (seen_by c h) (client_of p c h).begun (client_of p c h).reading old) (λ f. needs_so P p c h e.op v f (client_operations_say p c e h l f) look read)))

-- Histories. -------------------------------------------------------------------------------------------

made_at_read : (p : Plan) (c i s : ℕ) (e : Entry) (h : List Entry) → ReadsAreReads p → IsHistory p (e ∷ h) → e.op ≡ op.Read c i s → IsMadeRead p c (e ∷ h) (seen_by c h) (client_of p c h).begun (read_by (sight_of p c h) (asked p c i) s)
made_at_read p c i s e h v l q = let a = subst (OperationSays p c h) q (client_operations_say p c e h l (ap client_in q)) in made_stays p c e h (seen_by c h) (client_of p c h).begun (read_by (sight_of p c h) (asked p c i) s) l (made_now p c i s h v l.0 a.0 a.1)

pub reads_show_the_tree : ReadsShowTheTree
reads_show_the_tree p c [] r v l q = absurd (none-some r q)
reads_show_the_tree p c (e ∷ h) r v l q =
    let old : (x : Reading) → (client_of p c h).reading ≡ Some x → IsMadeRead p c (e ∷ h) (seen_by c h) (client_of p c h).begun x = λ x f. made_stays p c e h (seen_by c h) (client_of p c h).begun x l (reads_show_the_tree p c h x v l.0 f) in
    reading_after p c e h (λ seen begun x. IsMadeRead p c (e ∷ h) seen begun x) v l old
    (λ i m x _ f _. looked_made p c (e ∷ h) (seen_by c h) (client_of p c h).begun x (old x f))
    (λ i s f. made_at_read p c i s e h v l f)
    r q
