-- The transaction lines are the commits up to the mark.
use Rattle.std.specs.Prelude.{◌||◌, nat_eq}
use Rattle.std.proofs.Common.{◌≡◌, ◌≢◌, ℕ, zero, suc, ◌+◌, ◌<◌, ◌≤◌, Bool, true, false, List, [], ◌∷◌, ◌++◌, ◌⊎◌, inl, inr, max, refl, sym, ◌∙◌, ap, subst, arith, Option, Some, None}
use Rattle.std.proofs.lemmas.Bool.{false≢true, cond_both}
use Rattle.std.proofs.lemmas.Bool.Decides.{nat_tests}
use Rattle.fk_tree.specs.declared.applied.Applied.{Applied}
use Rattle.fk_print.specs.declared.entry.Entry.{Entry}
use Rattle.fk_print.specs.declared.line.Line.{Line}
use Rattle.fk_print.specs.declared.line.Line.TheVariants as line
use Rattle.fk_print.specs.declared.op.Op.{Op}
use Rattle.fk_print.specs.declared.op.Op.TheVariants as op
use Rattle.fk_spec.specs.Plan.{Plan, asked, asks_in}
use Rattle.fk_spec.specs.Shown.{seen_by}
use Rattle.fk_spec.specs.Settling.{is_committed, commits, mark_of, mark_in}
use Rattle.fk_spec.specs.Stored.{committed_of, committed_in, committed_as, applied_as, with_filled}
use Rattle.fk_spec.specs.Watches.{Firing, firing_of}
use Rattle.fk_spec.specs.Sight.{sight_of}
use Rattle.fk_spec.specs.Client.{by_result, ready_first, registers, contains, acted_by, client_in, client_of, Sent, Reading, Client}
use Rattle.fk_spec.specs.Replies.{reply_lines, first_line, read_line, read_lines, looked_lines, notice_of, own_lines, wording}
use Rattle.fk_spec.specs.Next.{IsHistory, next_lines, lines_of_client, tx_lines, printed_of}
use Rattle.fk_spec.specs.PublicLines.{lines_onto, lines_of, txs_among, txs_of}
use Rattle.fk_law.specs.Due.{IsDue}
use Rattle.fk_law.specs.LeaderLane.{is_published, publishes}
use Rattle.fk_law.specs.Numbered.{with_some, numbered}
use Rattle.fk_law.specs.Publishing.{all_printed, TxsAreTheCommits}
use Rattle.fk_law.proofs.Due.{due}
use Rattle.fk_law.proofs.Leading.{published_are_swept, published_up_to_the_mark, published_are_committed, commits_are_beyond_the_sweep}
use Rattle.fk_law.proofs.Sending.{was_committed, committed_is_filled}
use Rattle.fk_law.proofs.Leaving.{commit_is}

-- Lines of clients. -----------------------------------------------------------------------------------

-- no transaction line is among these
abbrev NoTxs : List Line → Type 0
NoTxs [] = Unit {0}
NoTxs (line.Tx x ∷ ls) = ⊥
NoTxs (l ∷ ls) = NoTxs ls

no_txs_onto : (ls before : List Line) → NoTxs ls → txs_among (lines_onto ls before) ≡ txs_among before
no_txs_onto [] before i = refl
no_txs_onto (line.Tx x ∷ ls) before i = absurd i
no_txs_onto (line.Reply session command verb shown ∷ ls) before i = no_txs_onto ls (line.Reply session command verb shown ∷ before) i
no_txs_onto (line.Notice session tx kind what path ∷ ls) before i = no_txs_onto ls (line.Notice session tx kind what path ∷ before) i
no_txs_onto (line.Expired session tx ∷ ls) before i = no_txs_onto ls (line.Expired session tx ∷ before) i

no_txs_both : (ls ms : List Line) → NoTxs ls → NoTxs ms → NoTxs (ls ++ ms)
no_txs_both [] ms i j = j
no_txs_both (line.Tx x ∷ ls) ms i j = absurd i
no_txs_both (line.Reply session command verb shown ∷ ls) ms i j = no_txs_both ls ms i j
no_txs_both (line.Notice session tx kind what path ∷ ls) ms i j = no_txs_both ls ms i j
no_txs_both (line.Expired session tx ∷ ls) ms i j = no_txs_both ls ms i j

no_reply_txs : (p : Plan) (h : List Entry) (c : ℕ) (ss : List Sent) → NoTxs (reply_lines (wording p c h) ss)
no_reply_txs p h c [] = tt
no_reply_txs p h c (s ∷ ss) = no_reply_txs p h c ss

no_first_txs : (p : Plan) (h : List Entry) (c : ℕ) (ss : List Sent) → NoTxs (first_line (wording p c h) ss)
no_first_txs p h c [] = tt
no_first_txs p h c (s ∷ ss) = tt

no_read_txs : (p : Plan) (h : List Entry) (c i : ℕ) (r : Option Reading) → NoTxs (read_lines c (asks_in p c) (seen_by c h) i r)
no_read_txs p h c i None = tt
no_read_txs p h c i (Some r) = tt

no_looked_txs : (p : Plan) (h : List Entry) (c : ℕ) (x : Client Sent) (r : Option Reading) → NoTxs (looked_lines (wording p c h) (seen_by c h) x r)
no_looked_txs p h c x None = no_first_txs p h c x.sent
no_looked_txs p h c x (Some r) = cond_both (registers (asked p c (x.begun + 1)) r.node) [] (read_line c (asks_in p c) (seen_by c h) (x.begun + 1) r ∷ []) NoTxs (λ _. tt) (λ _. tt)

no_notice_txs : (c : ℕ) (f : Option Firing) → NoTxs (notice_of c f)
no_notice_txs c None = tt
no_notice_txs c (Some f) = tt

no_own_txs : (p : Plan) (h : List Entry) (c : ℕ) (x : Client Sent) (o : Op) → NoTxs (own_lines (wording p c h) (sight_of p c h) x o)
no_own_txs p h c x (op.TakeEvicted session k tx) = cond_both x.closed [] (line.Expired c tx ∷ []) NoTxs (λ _. tt) (λ _. tt)
no_own_txs p h c x (op.TakeWatch session watch) = cond_both (contains watch x.held) (notice_of c (firing_of p watch h)) [] NoTxs (λ _. no_notice_txs c (firing_of p watch h)) (λ _. tt)
no_own_txs p h c x (op.LookOk session command mark) = no_looked_txs p h c x x.reading
no_own_txs p h c x (op.WatchSet session command watch) = no_read_txs p h c command x.reading
no_own_txs p h c x o = tt

no_client_txs : (p : Plan) (h : List Entry) (o : Op) (c : Option ℕ) → NoTxs (lines_of_client p h o c)
no_client_txs p h o None = tt
no_client_txs p h o (Some c) =
    let ss = ready_first by_result (acted_by (sight_of p c h) o (client_of p c h)).sent in
    no_txs_both (own_lines (wording p c h) (sight_of p c h) (client_of p c h) o) (reply_lines (wording p c h) ss) (no_own_txs p h c (client_of p c h) o) (no_reply_txs p h c ss)

-- The lines of an entry. ------------------------------------------------------------------------------

pub lines_are : (p : Plan) (e : Entry) (h : List Entry) → IsHistory p (e ∷ h) → e.lines ≡ next_lines p h e.op
lines_are p e h l = ap (λ x. x.lines) l.1.0 ∙ ap (next_lines p h) (sym (ap (λ x. x.op) l.1.0))

txs_more : (p : Plan) (e : Entry) (h : List Entry) → IsHistory p (e ∷ h) → txs_of (e ∷ h) ≡ txs_among (lines_onto (next_lines p h e.op) (lines_of h))
txs_more p e h l = ap (λ ls. txs_among (lines_onto ls (lines_of h))) (lines_are p e h l)

-- Numbers that no commit has. -------------------------------------------------------------------------

none_between_step : (m n : ℕ) (done : List Applied) → m ≤ suc n → applied_as (suc n) done ≡ None ⊎ (m ≡ suc n) → (m ≤ n → numbered n done ≡ numbered m done) → numbered (suc n) done ≡ numbered m done
none_between_step m n done b (inr e) i = ap (λ k. numbered k done) (sym e)
none_between_step m n done b (inl e) i = by_last (nat_eq m (suc n)) refl
  where
    by_last : (z : Bool) → nat_eq m (suc n) ≡ z → numbered (suc n) done ≡ numbered m done
    by_last true f = let s : m ≡ suc n = grind (arith, nat_tests) in ap (λ k. numbered k done) (sym s)
    by_last false f = let s : m ≢ suc n = grind (arith, nat_tests) in ap (λ o. with_some o (numbered n done)) e ∙ i (omega (arith, b, s))

-- the number m itself, or one beyond it that no commit has
last_or_none : (m n : ℕ) (done : List Applied) → m ≤ suc n → ((k : ℕ) → m < k → k ≤ suc n → applied_as k done ≡ None) → applied_as (suc n) done ≡ None ⊎ (m ≡ suc n)
last_or_none m n done b f = by_last (nat_eq m (suc n)) refl
  where
    by_last : (z : Bool) → nat_eq m (suc n) ≡ z → applied_as (suc n) done ≡ None ⊎ (m ≡ suc n)
    by_last true e = inr (grind (arith, nat_tests))
    by_last false e = let s : m ≢ suc n = grind (arith, nat_tests) in inl (f (suc n) (omega (arith, b, s)) (omega arith))

none_between : (m n : ℕ) (done : List Applied) → m ≤ n → ((k : ℕ) → m < k → k ≤ n → applied_as k done ≡ None) → numbered n done ≡ numbered m done
none_between zero zero done b f = refl
none_between (suc m) zero done b f = absurd (omega (arith, b))
none_between m (suc n) done b f = none_between_step m n done b (last_or_none m n done b f) (λ c. none_between m n done c (λ k u v. f k u (omega (arith, v))))

-- a commit beyond a number counts for nothing up to it
other_applied : (t k : ℕ) (a : Applied) (done : List Applied) → a.tx ≡ t → k < t → applied_as k (a ∷ done) ≡ applied_as k done
other_applied t k a done e b = let s : nat_eq a.tx k ≡ false = grind (arith, nat_tests) in rw s refl

beyond_counts_not : (n t : ℕ) (a : Applied) (done : List Applied) → a.tx ≡ t → n < t → numbered n (a ∷ done) ≡ numbered n done
beyond_counts_not zero t a done e b = refl
beyond_counts_not (suc n) t a done e b = ap (λ o. with_some o (numbered n (a ∷ done))) (other_applied t (suc n) a done e b) ∙ ap (with_some (applied_as (suc n) done)) (beyond_counts_not n t a done e (omega (arith, b)))

-- Each entry. -----------------------------------------------------------------------------------------

abbrev ArePrinted : ℕ → List Applied → List Line → Type 0
ArePrinted mark done ls = txs_among ls ≡ all_printed (numbered mark done)

-- a publication: no commit lies between the mark and its number
pub published_none : (p : Plan) (n t : ℕ) (e : Entry) (h : List Entry) → IsHistory p (e ∷ h) → e.op ≡ op.PublishOk n t → IsDue p h (op.PublishOk n t) → (k : ℕ) → mark_of h < k → k < t → (o : Option Applied) → committed_as p k h ≡ o → o ≡ None
published_none p n t e h l b d k u v None q = refl
published_none p n t e h l b d k u v (Some a) q = absurd (omega (arith, u, low))
  where
    mark : mark_of (e ∷ h) ≡ max t (mark_of h)
    mark = ap (λ o. mark_in o (mark_of h)) b

    published : (publishes k (op.PublishOk n t) || is_published k h) ≡ true
    published = subst (λ o. (publishes k o || is_published k h) ≡ true) b (published_up_to_the_mark p k (e ∷ h) l (more (commits k e.op) (is_committed k h) (was_committed p k h a q)) (subst (λ z. k ≤ z) (sym mark) (omega (arith, v))))
      where
        more : (x y : Bool) → y ≡ true → (x || y) ≡ true
        more true y e = refl
        more false y e = e

    earlier : (x y : Bool) → x ≡ false → (x || y) ≡ true → y ≡ true
    earlier true y f e = absurd (false≢true (sym f))
    earlier false y f e = e

    not_it : nat_eq t k ≡ false
    not_it = grind (arith, nat_tests)

    low : k ≤ mark_of h
    low = (published_are_committed p k h l.0 (earlier (nat_eq t k) (is_published k h) not_it published)).1

publish_step : (p : Plan) (n t : ℕ) (e : Entry) (h : List Entry) → IsHistory p (e ∷ h) → e.op ≡ op.PublishOk n t → IsDue p h (op.PublishOk n t) → ArePrinted (mark_of h) (committed_of p h) (lines_of h) → ArePrinted (max t (mark_of h)) (committed_of p h) (lines_onto (tx_lines (committed_as p t h)) (lines_of h))
publish_step p n zero e h l b d i = absurd (omega (arith, d.1))
publish_step p n (suc m) e h l b d i =
    let c = committed_is_filled p (suc m) h l.0 (published_are_swept p n (suc m) h l.0 d).0 in
    let w : max (suc m) (mark_of h) ≡ suc m = let v = d.1 in omega (arith, v) in
    let g : numbered m (committed_of p h) ≡ numbered (mark_of h) (committed_of p h) = none_between (mark_of h) m (committed_of p h) (let v = d.1 in omega (arith, v)) (λ k u v. published_none p n (suc m) e h l b d k u (omega (arith, v)) (committed_as p k h) refl) in
    subst (λ z. ArePrinted z (committed_of p h) (lines_onto (tx_lines (committed_as p (suc m) h)) (lines_of h))) (sym w)
    (subst (λ o. txs_among (lines_onto (tx_lines o) (lines_of h)) ≡ all_printed (with_some o (numbered m (committed_of p h)))) (sym c.1)
    (ap (λ xs. printed_of c.0 ∷ xs) (i ∙ ap all_printed (sym g))))

printed_step : (p : Plan) (e : Entry) (h : List Entry) (o : Op) → e.op ≡ o → IsHistory p (e ∷ h) → IsDue p h o → ArePrinted (mark_of h) (committed_of p h) (lines_of h) → ArePrinted (mark_in o (mark_of h)) (committed_in p h o (committed_of p h)) (lines_onto (next_lines p h o) (lines_of h))
printed_step p e h (op.PublishOk n t) b l d i = publish_step p n t e h l b d i
printed_step p e h (op.CommitOk a t) b l d i =
    let c = commit_is p a t h l.0 d in
    subst (λ z. ArePrinted (mark_of h) (with_filled (committed_of p h) t z) (lines_of h)) (sym c.is)
    (i ∙ ap all_printed (sym (beyond_counts_not (mark_of h) t _ (committed_of p h) refl (commits_are_beyond_the_sweep p a t h l.0 d).2)))
printed_step p e h o b l d i = no_txs_onto (lines_of_client p h o (client_in o)) (lines_of h) (no_client_txs p h o (client_in o)) ∙ i

pub txs_are_the_commits : TxsAreTheCommits
txs_are_the_commits p [] l = refl
txs_are_the_commits p (e ∷ h) l = txs_more p e h l ∙ printed_step p e h e.op refl l (due p e h l) (txs_are_the_commits p h l.0)
