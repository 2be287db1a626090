-- The tree of the transaction lines, and that each request is published once.
use Rattle.std.specs.Prelude.{◌||◌, nat_le, nat_eq}
use Rattle.std.proofs.Common.{◌≡◌, ◌≢◌, ℕ, zero, suc, ◌+◌, ◌-◌, ◌<◌, ◌≤◌, Bool, true, false, cond, List, [], ◌∷◌, max, refl, sym, ◌∙◌, ap, subst, arith, Option, Some, None}
use Rattle.std.proofs.lemmas.Bool.{false≢true, lt-ltb}
use Rattle.std.proofs.lemmas.Bool.Decides.{nat_tests}
use Rattle.fk_tree.specs.Apply.{apply, apply_nodes, apply_parts, IsFilled}
use Rattle.fk_tree.specs.Check.{check}
use Rattle.fk_tree.specs.Edit.{closes, view_after}
use Rattle.fk_tree.specs.Fill.{fill_made, fill_parts, after_part}
use Rattle.fk_tree.specs.Tree.{Nodes, Tree}
use Rattle.fk_tree.specs.View.{View, look}
use Rattle.fk_tree.specs.declared.applied.Applied.{Applied}
use Rattle.fk_tree.specs.declared.applied.Made.{Made}
use Rattle.fk_tree.specs.declared.request.Part.{Part}
use Rattle.fk_tree.specs.declared.request.Part.TheVariants as part
use Rattle.fk_tree.specs.declared.request.Request.{Request}
use Rattle.fk_tree.specs.declared.request.Request.TheVariants as request
use Rattle.fk_print.specs.declared.entry.Entry.{Entry}
use Rattle.fk_print.specs.declared.op.Op.{Op}
use Rattle.fk_print.specs.declared.op.Op.TheVariants as op
use Rattle.fk_law_tree.specs.Fitting.{Fits}
use Rattle.fk_law_tree.specs.Following.{AllFit, tree_after}
use Rattle.fk_law_tree.proofs.Growing.{is_filled}
use Rattle.fk_spec.specs.Plan.{Plan}
use Rattle.fk_spec.specs.Start.{Pushed, pushed_of}
use Rattle.fk_spec.specs.Settling.{is_committed, commits, settled_of, mark_of}
use Rattle.fk_spec.specs.Stored.{committed_of, committed_in, committed_as, applied_as, with_filled, filled_after}
use Rattle.fk_spec.specs.Next.{IsHistory, printed_of, act_by}
use Rattle.fk_spec.specs.Promises.{TxFits, TxsFit, ShowsApplied}
use Rattle.fk_spec.specs.Published.{applied_shown, request_shown, name_shown, gone_shown, made_shown, parts_made, tree_of, published_tree, published_as, filled_on}
use Rattle.fk_spec.specs.PublicLines.{greatest_tx, greatest_request}
use Rattle.fk_law.specs.Due.{IsDue, IsPushOf}
use Rattle.fk_law.specs.Numbered.{with_some, numbered}
use Rattle.fk_law.specs.Publishing.{all_printed, PublishedTreeIsShown, EachRequestOnce}
use Rattle.fk_law.proofs.Due.{due}
use Rattle.fk_law.proofs.Pushing.{push_bound}
use Rattle.fk_law.proofs.Settled.{commit_of, reached}
use Rattle.fk_law.proofs.Committing.{its_push_stays, its_push_is_one, committed_settled}
use Rattle.fk_law.proofs.Rising.{its_push_before, pushed_before, commits_rise_in_a_session}
use Rattle.fk_law.proofs.Living.{committer_is_live}
use Rattle.fk_law.proofs.Sending.{committed_other, was_committed, pushed_never_changes, push_asks_for_its_request, tx_is}
use Rattle.fk_law.proofs.Editing.{one_applied}
use Rattle.fk_law.proofs.Closes.{commit_fits_at_its_number}
use Rattle.fk_law.proofs.Numbered.{numbered_leave_the_same, numbered_fit, numbered_tree_is_shown}
use Rattle.fk_law.proofs.Printing.{txs_are_the_commits}

-- What a line shows applies as its commit does. -------------------------------------------------------

parts_shown : (a : Applied) (r : Request) (ms : List Made) (ps : List Part) (v : View) (s : ℕ) (t : Nodes)
    → apply_parts (record { tx = a.tx; moment = a.moment; session = a.session; k = a.k; request = r; name = []; version = 0; gone = []; made = ms }) ps (parts_made ps) t ≡ apply_parts a ps (fill_parts v s ps) t
parts_shown a r ms [] v s t = refl
parts_shown a r ms (part.Create p bytes eph ∷ ps) v s t = parts_shown a r ms ps (after_part v s (part.Create p bytes eph)) s _
parts_shown a r ms (part.Set p bytes version ∷ ps) v s t = parts_shown a r ms ps (after_part v s (part.Set p bytes version)) s _
parts_shown a r ms (part.Delete p version ∷ ps) v s t = parts_shown a r ms ps (after_part v s (part.Delete p version)) s _

nodes_shown : (a : Applied) (v : View) (r : Request) (t : Nodes) → a.made ≡ fill_made v a.session r
    → apply_nodes (record { tx = a.tx; moment = a.moment; session = a.session; k = a.k; request = request_shown (act_by a r); name = name_shown (act_by a r); version = 0; gone = gone_shown (act_by a r); made = made_shown (act_by a r) }) (request_shown (act_by a r)) t ≡ apply_nodes a r t
nodes_shown a v (request.Create p bytes seq eph) t m = refl
nodes_shown a v (request.Set p bytes version) t m = refl
nodes_shown a v (request.Delete p version) t m = refl
nodes_shown a v (request.Close evict) t m = refl
nodes_shown a v (request.Multi ps) t m = parts_shown a (request.Multi ps) (parts_made ps) ps v a.session t ∙ ap (λ ms. apply_parts a ps ms t) (sym m)

closes_shown : (a : Applied) (r : Request) → closes (request_shown (act_by a r)) ≡ closes r
closes_shown a (request.Create p bytes seq eph) = refl
closes_shown a (request.Set p bytes version) = refl
closes_shown a (request.Delete p version) = refl
closes_shown a (request.Close evict) = refl
closes_shown a (request.Multi ps) = refl

shown_applies : (a : Applied) (v : View) (t : Tree) → Fits v a → apply t (applied_shown (printed_of a)) ≡ apply t a
shown_applies a v t f = λ i. record { nodes = (nodes_shown a v a.request t.nodes f.made) i; closed = (ap (λ b. cond b (a.session ∷ t.closed) t.closed) (closes_shown a a.request)) i }

-- The tree. -------------------------------------------------------------------------------------------

all_count_step : (n m : ℕ) (done : List Applied) (o : Option Applied) → applied_as (suc m) done ≡ o → suc m ≤ n → AllFit (with_some o (numbered m done)) → (AllFit (numbered m done) → tree_of n (all_printed (numbered m done)) ≡ tree_after (numbered m done)) → tree_of n (all_printed (with_some o (numbered m done))) ≡ tree_after (with_some o (numbered m done))
all_count_step n m done None e b f i = i f
all_count_step n m done (Some a) e b f i =
    let t = tx_is (suc m) done a e in
    let c : nat_le a.tx n ≡ true = grind (arith, nat_tests) in
    rw c (shown_applies a (view_after (numbered m done)) (tree_of n (all_printed (numbered m done))) f.0 ∙ ap (λ x. apply x a) (i f.1))

all_count : (n m : ℕ) (done : List Applied) → m ≤ n → AllFit (numbered m done) → tree_of n (all_printed (numbered m done)) ≡ tree_after (numbered m done)
all_count n zero done b f = refl
all_count n (suc m) done b f = all_count_step n m done (applied_as (suc m) done) refl b f (λ g. all_count n m done (omega (arith, b)) g)

none_counts_step : (n m : ℕ) (done : List Applied) (o : Option Applied) → applied_as (suc m) done ≡ o → n ≤ m → tree_of n (all_printed (numbered m done)) ≡ tree_after (numbered n done) → tree_of n (all_printed (with_some o (numbered m done))) ≡ tree_after (numbered n done)
none_counts_step n m done None e b i = i
none_counts_step n m done (Some a) e b i = let t = tx_is (suc m) done a e in let c : nat_le a.tx n ≡ false = grind (arith, nat_tests) in rw c i

-- the lines up to a number are the commits up to it
tree_step : (n m : ℕ) (done : List Applied) → AllFit (numbered (suc m) done) → (n ≤ m → tree_of n (all_printed (numbered m done)) ≡ tree_after (numbered n done)) → n ≤ suc m → tree_of n (all_printed (numbered (suc m) done)) ≡ tree_after (numbered n done)
tree_step n m done f i b = by_last (nat_eq n (suc m)) refl
  where
    by_last : (z : Bool) → nat_eq n (suc m) ≡ z → tree_of n (all_printed (numbered (suc m) done)) ≡ tree_after (numbered n done)
    by_last true e = let s : n ≡ suc m = grind (arith, nat_tests) in subst (λ z. tree_of z (all_printed (numbered (suc m) done)) ≡ tree_after (numbered z done)) (sym s) (all_count (suc m) (suc m) done (omega arith) f)
    by_last false e = let s : n ≢ suc m = grind (arith, nat_tests) in none_counts_step n m done (applied_as (suc m) done) refl (omega (arith, b, s)) (i (omega (arith, b, s)))

tree_is : (n m : ℕ) (done : List Applied) → ((k : ℕ) → AllFit (numbered k done)) → n ≤ m → tree_of n (all_printed (numbered m done)) ≡ tree_after (numbered n done)
tree_is zero zero done f b = refl
tree_is (suc n) zero done f b = absurd (omega (arith, b))
tree_is n (suc m) done f b = tree_step n m done (f (suc m)) (λ c. tree_is n m done f c) b

published_is : (p : Plan) (n : ℕ) (h : List Entry) → IsHistory p h → n ≤ mark_of h → published_tree h n ≡ tree_after (numbered n (committed_of p h))
published_is p n h l v = ap (tree_of n) (txs_are_the_commits p h l) ∙ tree_is n (mark_of h) (committed_of p h) (λ k. numbered_fit p k h l) v

pub published_tree_is_shown : PublishedTreeIsShown
published_tree_is_shown p n h l v = ap look (published_is p n h l v) ∙ ((numbered_tree_is_shown p n h l).shown ∙ numbered_leave_the_same p n h l)

-- What a commit is of. --------------------------------------------------------------------------------

pub record IsOfPush (p : Plan) (t : ℕ) (h : List Entry) (a : Applied) : Type 0 where
  pub function : ℕ
  pub is_of : IsPushOf t function a.session a.k h
  pub pushed : pushed_of p t h ≡ Some (record { session = a.session; k = a.k; moment = a.moment; request = a.request })

of_push_step : (p : Plan) (t : ℕ) (h : List Entry) (a : Applied) (o : Op) → IsHistory p h → IsDue p h o → (committed_as p t h ≡ Some a → IsOfPush p t h a) → applied_as t (committed_in p h o (committed_of p h)) ≡ Some a → IsOfPush p t h a
of_push_step p t h a (op.CommitOk u s) l d i q = by_push (nat_eq s t) refl
  where
    by_push : (z : Bool) → nat_eq s t ≡ z → IsOfPush p t h a
    by_push false e = i (sym (committed_other p t h (op.CommitOk u s) (committed_of p h) e) ∙ q)
    by_push true e =
        let g : s ≡ t = grind (arith, nat_tests) in
        let x = committer_is_live p u s h l d in
        let r = push_asks_for_its_request p s x.function x.session x.k h l x.is_of in
        let y : Pushed = record { session = x.session; k = x.k; moment = x.is_of.push.moment; request = r.0 } in
        let f : filled_after (committed_of p h) s y ≡ a = one_applied t (filled_after (committed_of p h) s y) a (committed_of p h) g (sym (ap (λ v. applied_as t (with_filled (committed_of p h) s v)) r.2) ∙ q) in
        subst (λ v. IsOfPush p v h a) g (subst (IsOfPush p s h) f (record { function = x.function; is_of = x.is_of; pushed = r.2 }))
of_push_step p t h a o l d i q = i q

pub of_push : (p : Plan) (t : ℕ) (h : List Entry) (a : Applied) → IsHistory p h → committed_as p t h ≡ Some a → IsOfPush p t h a
of_push p t [] a l q = absurd (grind arith)
of_push p t (e ∷ h) a l q =
    let x = of_push_step p t h a e.op l.0 (due p e h l) (λ v. of_push p t h a l.0 v) q in
    record { function = x.function; is_of = its_push_stays p t x.function a.session a.k e h l x.is_of; pushed = pushed_never_changes p t x.function a.session a.k h (e ∷ []) l x.is_of ∙ x.pushed }

-- The requests of a session are committed in their order. ---------------------------------------------

request_step : (p : Plan) (t n s m c k j : ℕ) (h : List Entry) (o : Op) → IsHistory p h → IsDue p h o → IsPushOf t n c k h → IsPushOf s m c j h → s < t → (is_committed t h ≡ true → is_committed s h ≡ true → j < k)
    → (commits t o || is_committed t h) ≡ true → (commits s o || is_committed s h) ≡ true → j < k
request_step p t n s m c k j h (op.CommitOk a u) l d x y b i v w = by_push (nat_eq u t) refl (nat_eq u s) refl v w
  where
    own : u ≡ t → settled_of c h + 1 ≡ k
    own e = let f = commit_of p a u d.0 d.1 d.2 h l d.3 in let g = its_push_is_one t n c k d.0 d.1 d.2 h x (subst (λ z. IsPushOf z d.0 d.1 d.2 h) e f) in rw (g.1, g.2) d.4

    late : u ≡ s → is_committed t h ≡ true → t < s
    late e v = commits_rise_in_a_session p a s m c j t n k h l (subst (λ z. IsDue p h (op.CommitOk a z)) e d) y x v

    by_push : (z : Bool) → nat_eq u t ≡ z → (q : Bool) → nat_eq u s ≡ q → (z || is_committed t h) ≡ true → (q || is_committed s h) ≡ true → j < k
    by_push true e true f v w = let g : u ≡ t = grind (arith, nat_tests) in let r : u ≡ s = grind (arith, nat_tests) in absurd (omega (arith, b, g, r))
    by_push true e false f v w = let g = own (grind (arith, nat_tests)) in let r = committed_settled p s m c j h l w y in omega (arith, g, r)
    by_push false e true f v w = let g = late (grind (arith, nat_tests)) v in absurd (omega (arith, b, g))
    by_push false e false f v w = i v w
request_step p t n s m c k j h o l d x y b i v w = i v w

requests_rise : (p : Plan) (t n s m c k j : ℕ) (h : List Entry) → IsHistory p h → IsPushOf t n c k h → IsPushOf s m c j h → is_committed t h ≡ true → is_committed s h ≡ true → s < t → j < k
requests_rise p t n s m c k j [] l x y v w b = absurd (false≢true v)
requests_rise p t n s m c k j (e ∷ h) l x y v w b =
    let f = its_push_before p t n c k e h l (push_bound p t (e ∷ h) x.push l x.pushed).1 (pushed_before p t h e.op l.0 (due p e h l) v) x in
    let g = its_push_before p s m c j e h l (push_bound p s (e ∷ h) y.push l y.pushed).1 (pushed_before p s h e.op l.0 (due p e h l) w) y in
    request_step p t n s m c k j h e.op l.0 (due p e h l) f g b (λ a c2. requests_rise p t n s m c k j h l.0 f g a c2 b) v w

-- Each line. ------------------------------------------------------------------------------------------

greatest_step : (m : ℕ) (done : List Applied) (o : Option Applied) → applied_as (suc m) done ≡ o → greatest_tx (all_printed (numbered m done)) ≤ m → greatest_tx (all_printed (with_some o (numbered m done))) ≤ suc m
greatest_step m done None e i = omega (arith, i)
greatest_step m done (Some a) e i = let t = tx_is (suc m) done a e in omega (arith, t, i)

pub greatest_at_most : (m : ℕ) (done : List Applied) → greatest_tx (all_printed (numbered m done)) ≤ m
greatest_at_most zero done = omega arith
greatest_at_most (suc m) done = greatest_step m done (applied_as (suc m) done) refl (greatest_at_most m done)

least_step : (c k m : ℕ) (done : List Applied) (o : Option Applied) → ((a : Applied) → o ≡ Some a → a.session ≡ c → a.k < k) → greatest_request c (all_printed (numbered m done)) < k → greatest_request c (all_printed (with_some o (numbered m done))) < k
least_step c k m done None f i = i
least_step c k m done (Some a) f i = by_session (nat_eq a.session c) refl
  where
    by_session : (z : Bool) → nat_eq a.session c ≡ z → cond z (max a.k (greatest_request c (all_printed (numbered m done)))) (greatest_request c (all_printed (numbered m done))) < k
    by_session true e = let g = f a refl (grind (arith, nat_tests)) in omega (arith, g, i)
    by_session false e = i

below_request : (c k m : ℕ) (done : List Applied) → 0 < k → ((n : ℕ) (a : Applied) → n ≤ m → applied_as n done ≡ Some a → a.session ≡ c → a.k < k) → greatest_request c (all_printed (numbered m done)) < k
below_request c k zero done b f = b
below_request c k (suc m) done b f = least_step c k m done (applied_as (suc m) done) (λ a e s. f (suc m) a (omega arith) e s) (below_request c k m done b (λ n a v e s. f n a (omega (arith, v)) e s))

tree_before : (p : Plan) (m : ℕ) (h : List Entry) (a : Applied) → IsHistory p h → suc m ≤ mark_of h → committed_as p (suc m) h ≡ Some a → published_tree h (a.tx - 1) ≡ tree_after (numbered m (committed_of p h))
tree_before p m h a l v q = let n = tx_is (suc m) (committed_of p h) a q in ap (published_tree h) (omega (arith, n)) ∙ published_is p m h l (omega (arith, v))

filled_before : (p : Plan) (m : ℕ) (h : List Entry) (a : Applied) → IsHistory p h → committed_as p (suc m) h ≡ Some a → IsFilled (tree_after (numbered m (committed_of p h))) a
filled_before p m h a l q = is_filled (tree_after (numbered m (committed_of p h))) a (subst (λ z. Fits z a) (sym ((numbered_tree_is_shown p m h l).shown ∙ numbered_leave_the_same p m h l)) (commit_fits_at_its_number p m (suc m) h a l q (omega arith)))

-- a push is published as it was committed
pub published_at : (p : Plan) (m : ℕ) (h : List Entry) (a : Applied) → IsHistory p h → suc m ≤ mark_of h → committed_as p (suc m) h ≡ Some a → published_as p a.tx h ≡ Some a
published_at p m h a l v q =
    ap (λ t. filled_on t a.tx (pushed_of p a.tx h)) (tree_before p m h a l v q)
    ∙ (ap (filled_on (tree_after (numbered m (committed_of p h))) a.tx) (ap (λ t. pushed_of p t h) (tx_is (suc m) (committed_of p h) a q) ∙ (of_push p (suc m) h a l q).pushed)
    ∙ ap Some (sym (filled_before p m h a l q).filled))

line_fits : (p : Plan) (m : ℕ) (h : List Entry) (a : Applied) → IsHistory p h → suc m ≤ mark_of h → committed_as p (suc m) h ≡ Some a → TxFits p h (printed_of a) (all_printed (numbered m (committed_of p h)))
line_fits p m h a l v q = record {
  rises = lt-ltb (greatest_tx (all_printed (numbered m done))) a.tx (let g = greatest_at_most m done in omega (arith, g, number));
  in_order = lt-ltb (greatest_request a.session (all_printed (numbered m done))) a.k (below_request a.session a.k m done (reached p x.function a.session a.k h l x.is_of.task).0 earlier);
  applied = subst (ShowsApplied h (printed_of a)) (sym (published_at p m h a l v q)) (refl, ap (λ t. check (look t) a.session a.request) (tree_before p m h a l v q) ∙ (filled_before p m h a l q).passes);
}
  where
    done : List Applied
    done = committed_of p h

    number : a.tx ≡ suc m
    number = tx_is (suc m) done a q

    x : IsOfPush p (suc m) h a
    x = of_push p (suc m) h a l q

    earlier : (n : ℕ) (c : Applied) → n ≤ m → applied_as n done ≡ Some c → c.session ≡ a.session → c.k < a.k
    earlier n c w e s =
        let y = of_push p n h c l e in
        requests_rise p (suc m) x.function n y.function a.session a.k c.k h l x.is_of (subst (λ z. IsPushOf n y.function z c.k h) s y.is_of) (was_committed p (suc m) h a q) (was_committed p n h c e) (omega (arith, w))

lines_step : (p : Plan) (m : ℕ) (h : List Entry) (o : Option Applied) → IsHistory p h → suc m ≤ mark_of h → committed_as p (suc m) h ≡ o → TxsFit p h (all_printed (numbered m (committed_of p h))) → TxsFit p h (all_printed (with_some o (numbered m (committed_of p h))))
lines_step p m h None l v q i = i
lines_step p m h (Some a) l v q i = (line_fits p m h a l v q, i)

lines_fit : (p : Plan) (m : ℕ) (h : List Entry) → IsHistory p h → m ≤ mark_of h → TxsFit p h (all_printed (numbered m (committed_of p h)))
lines_fit p zero h l v = tt
lines_fit p (suc m) h l v = lines_step p m h (committed_as p (suc m) h) l v refl (lines_fit p m h l (omega (arith, v)))

pub each_request_once : EachRequestOnce
each_request_once p h l = subst (TxsFit p h) (sym (txs_are_the_commits p h l)) (lines_fit p (mark_of h) h l (omega arith))
