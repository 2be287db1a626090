-- No read passes a fired watch.
use Rattle.std.specs.Prelude.{nat_lt}
use Rattle.std.proofs.Common.{◌≡◌, ℕ, ◌+◌, ◌<◌, ◌≤◌, ◌++◌, inl, inr, if◌then◌else◌, Bool, true, false, List, [], ◌∷◌, refl, sym, ◌∙◌, ap, subst, arith, Option, Some, None}
use Rattle.std.proofs.lemmas.Bool.{false≢true, cond_both}
use Rattle.std.proofs.lemmas.Bool.Decides.{nat_tests}
use Rattle.std.proofs.lemmas.Option.{same_Some, none-some}
use Rattle.fk_base.specs.declared.code.Code.TheVariants as code
use Rattle.fk_tree.specs.Ask.{answer_from}
use Rattle.fk_tree.specs.declared.node.Node.{Node}
use Rattle.fk_tree.specs.declared.reply.Answer.{Answer}
use Rattle.fk_tree.specs.declared.reply.Answer.TheVariants as answer
use Rattle.fk_print.specs.declared.entry.Entry.{Entry}
use Rattle.fk_print.specs.declared.line.Line.{Line}
use Rattle.fk_print.specs.declared.line.Line.TheVariants as line
use Rattle.fk_print.specs.declared.line.Printed.{Printed}
use Rattle.fk_print.specs.declared.line.Shown.{Shown}
use Rattle.fk_print.specs.declared.line.Shown.TheVariants as shown
use Rattle.fk_print.specs.declared.line.Verb.{Verb}
use Rattle.fk_print.specs.declared.op.Op.{Op}
use Rattle.fk_print.specs.declared.op.Op.TheVariants as op
use Rattle.fk_spec.specs.Plan.{Plan, Ask, Want, Unfit, Writes, Reads, asked, asks_in}
use Rattle.fk_spec.specs.Shown.{seen_by, shown_number}
use Rattle.fk_spec.specs.Locks.{Loss}
use Rattle.fk_spec.specs.Settling.{Committed, Refused, Passed, mark_of}
use Rattle.fk_spec.specs.Sight.{sight_of}
use Rattle.fk_spec.specs.Watches.{Firing, firing_of}
use Rattle.fk_spec.specs.Client.{by_result, client_in, client_of, contains, is_ready, is_write, number_read, ready_first, registers, target_of, target_sent, Result, Open, Settled, Plain, Expired, Reading, Sent}
use Rattle.fk_spec.specs.Replies.{first_line, looked_lines, notice_of, own_lines, read_line, read_lines, reply_line, reply_lines, shown_answer, shown_asked, shown_loss, shown_read, shown_result, verb_asked, wording}
use Rattle.fk_spec.specs.Holding.{Fired, Holding, firing_among, held_by, is_beyond, passes_none}
use Rattle.fk_spec.specs.PublicLines.{lines_of, txs_among, txs_of}
use Rattle.fk_spec.specs.Promises.{PassesNone, WatchesKept, passes_to}
use Rattle.fk_spec.specs.Next.{IsHistory}
use Rattle.fk_law.proofs.Printing.{lines_are}
use Rattle.fk_law_watch.proofs.Reading.{next_is}
use Rattle.fk_law_client.specs.Lines.{EachAfter, IsPublication, kept_after}
use Rattle.fk_law.specs.Operations.{OperationSays}
use Rattle.fk_law_client.proofs.Lines.{each_mapped, each_onto, other_lines_are, read_sought}
use Rattle.fk_law.proofs.Due.{client_operations_say}
use Rattle.fk_law_reply.specs.Plans.{HasFittingVerbs}
use Rattle.fk_law_reply.proofs.ClosedClients.{first_sought, sought_shown}
use Rattle.fk_law_held.specs.Firings.{NoReadPassesAHeldWatch}
use Rattle.fk_law_held.specs.Matching.{IsIn}
use Rattle.fk_law_held.proofs.Announcing.{look_passes_no_held_watch, read_number, waiting_read_is_clean}
use Rattle.fk_law_held.proofs.Firings.{fired_by_lines_has_fired}

-- What passes none. ------------------------------------------------------------------------------------

-- each held watch that has fired did so beyond this number
abbrev FiresBeyond : Plan → ℕ → List Entry → ℕ → Type 0
FiresBeyond p c h n = (id : ℕ) (f : Firing) → contains id (client_of p c h).held ≡ true → firing_of p id h ≡ Some f → n < f.tx

all_pass : (n : ℕ) (xs : List Printed) (ws : List Holding) → ((w : Holding) → IsIn w ws → is_beyond n (firing_among w xs) ≡ true) → passes_none n xs ws ≡ true
all_pass n xs [] f = refl
all_pass n xs (w ∷ ws) f = rw (f w (inl refl)) (all_pass n xs ws (λ x i. f x (inr i)))

passes : (p : Plan) (c n m : ℕ) (h : List Entry) → HasFittingVerbs p → IsHistory p h → n ≤ m → FiresBeyond p c h m → passes_none n (txs_of h) (held_by p c (lines_of h)) ≡ true
passes p c n m h v l b f = all_pass n (txs_of h) (held_by p c (lines_of h)) (λ w i. by_fired w i (firing_among w (txs_of h)) refl)
  where
    by_fired : (w : Holding) → IsIn w (held_by p c (lines_of h)) → (o : Option Fired) → firing_among w (txs_of h) ≡ o → is_beyond n (firing_among w (txs_of h)) ≡ true
    by_fired w i None e = subst (λ o. is_beyond n o ≡ true) (sym e) refl
    by_fired w i (Some g) e =
        let x = fired_by_lines_has_fired p c h w g v l i e in
        let a = f x.id x.firing x.holds x.fired in
        let k = x.before in
        let d : n < g.tx = omega (arith, a, k, b) in
        subst (λ o. is_beyond n o ≡ true) (sym e) (less n g.tx d)
      where
        less : (a b : ℕ) → a < b → nat_lt a b ≡ true
        less a b k = grind (arith, nat_tests)

passes_shown : (verb : Verb) (s : Shown) (n : ℕ) → passes_to verb s ≡ Some n → shown_number s ≡ Some n
passes_shown verb (shown.Refused code.NoNode at place) n e = by_write (is_write verb) e
  where
    by_write : (b : Bool) → (if b then None else Some at) ≡ Some n → Some at ≡ Some n
    by_write true f = absurd (none-some n f)
    by_write false f = f
passes_shown verb (shown.Refused cd at place) n e = absurd (grind arith)
passes_shown verb (shown.Created t path) n e = e
passes_shown verb (shown.Version t version) n e = e
passes_shown verb (shown.Done t) n e = e
passes_shown verb (shown.Multi t replies) n e = e
passes_shown verb (shown.Got at bytes stat) n e = e
passes_shown verb (shown.Stated at stat) n e = e
passes_shown verb (shown.Listed at names) n e = e
passes_shown verb (shown.Plain cd) n e = absurd (none-some n e)
passes_shown verb (shown.Lost path own found moment) n e = absurd (none-some n e)

shown_passes : (p : Plan) (c m : ℕ) (h : List Entry) (verb : Verb) (s : Shown) → HasFittingVerbs p → IsHistory p h → ((n : ℕ) → shown_number s ≡ Some n → n ≤ m) → FiresBeyond p c h m → PassesNone (txs_of h) (held_by p c (lines_of h)) (passes_to verb s)
shown_passes p c m h verb s v l b f = by_number (passes_to verb s) refl
  where
    by_number : (o : Option ℕ) → passes_to verb s ≡ o → PassesNone (txs_of h) (held_by p c (lines_of h)) o
    by_number None e = tt
    by_number (Some n) e = passes p c n m h v l (b n (passes_shown verb s n e)) f

-- Lines. -----------------------------------------------------------------------------------------------

ready_kept : (p : Plan) (c : ℕ) (h : List Entry) (s : Sent) (b : List Line) → is_ready s.result ≡ true → WatchesKept p (reply_line (wording p c h) s) b
ready_kept p c h s b e = by_result s.result e
  where
    by_loss : (o : Option Loss) → PassesNone (txs_among b) (held_by p c b) (passes_to (verb_asked (asked p c s.command)) (shown_loss o))
    by_loss None = tt
    by_loss (Some x) = tt

    by_result : (r : Result) → is_ready r ≡ true → PassesNone (txs_among b) (held_by p c b) (passes_to (verb_asked (asked p c s.command)) (shown_result p h r))
    by_result Open f = absurd (false≢true f)
    by_result (Settled (Committed t)) f = absurd (false≢true f)
    by_result (Settled (Refused cd place at)) f = absurd (false≢true f)
    by_result (Settled (Passed loss)) f = by_loss loss
    by_result (Plain cd) f = tt
    by_result (Expired at) f = tt

readies_kept : (p : Plan) (c : ℕ) (h : List Entry) (ss : List Sent) (b : List Line) → EachAfter (WatchesKept p) (reply_lines (wording p c h) (ready_first by_result ss)) b
readies_kept p c h [] b = tt
readies_kept p c h (s ∷ ss) b = cond_both (is_ready s.result) (s ∷ ready_first by_result ss) [] (λ z. EachAfter (WatchesKept p) (reply_lines (wording p c h) z) b) (λ e. (ready_kept p c h s b e, readies_kept p c h ss (reply_line (wording p c h) s ∷ b))) (λ _. tt)

pub each_append : (P : Line → List Line → Type 0) (xs ys b : List Line) → EachAfter P xs b → ((z : List Line) → EachAfter P ys z) → EachAfter P (xs ++ ys) b
each_append P [] ys b i f = f b
each_append P (x ∷ xs) ys b i f = (i.0, each_append P xs ys (x ∷ b) i.1 f)

answer_number : (n m : ℕ) (a : Answer) → shown_number (shown_answer n a) ≡ Some m → m ≤ n
answer_number n m (answer.Got bytes stat) e = let s = same_Some n m e in omega (arith, s)
answer_number n m (answer.Stated stat) e = let s = same_Some n m e in omega (arith, s)
answer_number n m (answer.Listed names) e = let s = same_Some n m e in omega (arith, s)
answer_number n m answer.NoNode e = let s = same_Some n m e in omega (arith, s)

asked_number : (n m : ℕ) (found : Option Node) (a : Option Ask) → shown_number (shown_asked n found a) ≡ Some m → m ≤ n
asked_number n m found None e = absurd (none-some m e)
asked_number n m found (Some a) e = by_want a.want e
  where
    by_want : (w : Want) → shown_number (shown_read n found w) ≡ Some m → m ≤ n
    by_want (Reads q b) f = answer_number n m (answer_from q found) f
    by_want Unfit f = absurd (none-some m f)
    by_want (Writes r) f = absurd (none-some m f)

read_kept : (p : Plan) (c i m : ℕ) (h : List Entry) (r : Reading) → HasFittingVerbs p → IsHistory p h → number_read (seen_by c h) r ≤ m → FiresBeyond p c h m → WatchesKept p (read_line c (asks_in p c) (seen_by c h) i r) (lines_of h)
read_kept p c i m h r v l b f = shown_passes p c m h (verb_asked (asked p c i)) (shown_asked (number_read (seen_by c h) r) r.node (asked p c i)) v l (λ n e. let a = asked_number (number_read (seen_by c h) r) n r.node (asked p c i) e in omega (arith, a, b)) f

first_kept : (p : Plan) (c i n : ℕ) (h : List Entry) (xs : List Sent) → HasFittingVerbs p → IsHistory p h → target_sent by_result xs ≡ Some (record { command = i; number = n }) → n ≤ mark_of h → FiresBeyond p c h (mark_of h) → EachAfter (WatchesKept p) (first_line (wording p c h) xs) (lines_of h)
first_kept p c i n h [] v l q b f = tt
first_kept p c i n h (s ∷ ss) v l q b f = (shown_passes p c (mark_of h) h (verb_asked (asked p c s.command)) (shown_result p h s.result) v l (λ m e. let z = same_Some m n (sym e ∙ sought_shown p h n s.result (first_sought s i n q)) in omega (arith, z, b)) f, tt)

look_kept : (p : Plan) (c i n : ℕ) (h : List Entry) (r : Option Reading) → HasFittingVerbs p → IsHistory p h → (client_of p c h).reading ≡ r → target_of by_result (seen_by c h) (client_of p c h) r ≡ Some (record { command = i; number = n }) → n ≤ mark_of h → FiresBeyond p c h (mark_of h) → EachAfter (WatchesKept p) (looked_lines (wording p c h) (seen_by c h) (client_of p c h) r) (lines_of h)
look_kept p c i n h None v l e q b f = first_kept p c i n h (client_of p c h).sent v l q b f
look_kept p c i n h (Some r) v l e q b f =
    cond_both (registers (asked p c ((client_of p c h).begun + 1)) r.node) [] (read_line c (asks_in p c) (seen_by c h) ((client_of p c h).begun + 1) r ∷ []) (λ ls. EachAfter (WatchesKept p) ls (lines_of h)) (λ _. tt)
    (λ _. (read_kept p c ((client_of p c h).begun + 1) (mark_of h) h r v l (let z = read_sought p c i n h r (read_number p c h r v.reads l e).0 q in omega (arith, z, b)) f, tt))

set_kept : (p : Plan) (c i : ℕ) (h : List Entry) (o : Option Reading) → HasFittingVerbs p → IsHistory p h → (client_of p c h).reading ≡ o → ((r : Reading) → o ≡ Some r → r.looked ≡ true) → EachAfter (WatchesKept p) (read_lines c (asks_in p c) (seen_by c h) i o) (lines_of h)
set_kept p c i h None v l e f = tt
set_kept p c i h (Some r) v l e f = (read_kept p c i (number_read (seen_by c h) r) h r v l (omega arith) (λ id x g k. waiting_read_is_clean p c id h r x v.reads l e (f r refl) g k), tt)

notice_kept : (p : Plan) (c : ℕ) (f : Option Firing) (b : List Line) → EachAfter (WatchesKept p) (notice_of c f) b
notice_kept p c None b = tt
notice_kept p c (Some f) b = (tt, tt)

own_kept : (p : Plan) (c : ℕ) (e : Entry) (h : List Entry) (o : Op) → HasFittingVerbs p → IsHistory p (e ∷ h) → e.op ≡ o → client_in o ≡ Some c → OperationSays p c h o → EachAfter (WatchesKept p) (own_lines (wording p c h) (sight_of p c h) (client_of p c h) o) (lines_of h)
own_kept p c e h (op.TakeEvicted d k t) v l q f a = cond_both (client_of p c h).closed [] (line.Expired c t ∷ []) (λ ls. EachAfter (WatchesKept p) ls (lines_of h)) (λ _. tt) (λ _. (tt, tt))
own_kept p c e h (op.TakeWatch d j) v l q f a = cond_both (contains j (client_of p c h).held) (notice_of c (firing_of p j h)) [] (λ ls. EachAfter (WatchesKept p) ls (lines_of h)) (λ _. notice_kept p c (firing_of p j h) (lines_of h)) (λ _. tt)
own_kept p c e h (op.LookOk d i m) v l q f a = look_kept p c i a.0.number h (client_of p c h).reading v l.0 refl a.0.target a.2 (λ id x g k. look_passes_no_held_watch p c i m id e h x l (q ∙ ap (λ z. op.LookOk z i m) (same_Some d c f)) g k)
own_kept p c e h (op.WatchSet d i id) v l q f a = set_kept p c i h (client_of p c h).reading v l.0 refl (λ r g. subst (λ z. z.looked ≡ true) (same_Some a.0.reading r (sym a.0.made ∙ g)) a.0.looked)
own_kept p c e h (op.ReadFault d i) v l q f a = (tt, tt)
own_kept p c e h (op.WatchFault d i) v l q f a = (tt, tt)
own_kept p c e h o v l q f a = tt

tx_kept : (p : Plan) (h : List Entry) (o : Op) (l : Line) (b : List Line) → IsPublication p h o l → WatchesKept p l b
tx_kept p h o l b x = subst (λ z. WatchesKept p z b) (sym x.line_is) tt

entry_kept : (p : Plan) (e : Entry) (h : List Entry) → HasFittingVerbs p → IsHistory p (e ∷ h) → EachAfter (WatchesKept p) e.lines (lines_of h)
entry_kept p e h v l = by_client (client_in e.op) refl
  where
    by_client : (o : Option ℕ) → client_in e.op ≡ o → EachAfter (WatchesKept p) e.lines (lines_of h)
    by_client None q = each_mapped (λ x b. IsPublication p h e.op x) (WatchesKept p) e.lines (lines_of h) (tx_kept p h e.op) (other_lines_are p e h l q)
    by_client (Some c) q =
        subst (λ ls. EachAfter (WatchesKept p) ls (lines_of h)) (sym (lines_are p e h l ∙ next_is p h c e.op q))
        (each_append (WatchesKept p) (own_lines (wording p c h) (sight_of p c h) (client_of p c h) e.op) (reply_lines (wording p c h) (ready_first by_result (kept_after p c h e.op))) (lines_of h) (own_kept p c e h e.op v l refl q (client_operations_say p c e h l q)) (λ z. readies_kept p c h (kept_after p c h e.op) z))

pub no_read_passes_a_held_watch : NoReadPassesAHeldWatch
no_read_passes_a_held_watch p [] v l = tt
no_read_passes_a_held_watch p (e ∷ h) v l = each_onto (WatchesKept p) e.lines (lines_of h) (no_read_passes_a_held_watch p h v l.0) (entry_kept p e h v l)
