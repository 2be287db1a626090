-- The transaction line of a request, and the numbers of the lines.
use Rattle.std.specs.Prelude.{nat_eq}
use Rattle.std.proofs.Common.{◌≡◌, ◌≢◌, ℕ, zero, suc, ◌≤◌, Bool, true, false, List, [], ◌∷◌, max, refl, sym, ◌∙◌, ap, subst, arith, Option, Some, None, if◌then◌else◌}
use Rattle.std.proofs.lemmas.Bool.{false≢true, cond_both}
use Rattle.std.proofs.lemmas.Bool.Decides.{nat_tests}
use Rattle.std.proofs.lemmas.Option.{same_Some}
use Rattle.fk_base.specs.Path.{PathNames, same_path}
use Rattle.fk_tree.specs.declared.applied.Applied.{Applied}
use Rattle.fk_print.specs.declared.entry.Entry.{Entry}
use Rattle.fk_print.specs.declared.op.Op.{Op}
use Rattle.fk_print.specs.declared.op.Op.TheVariants as op
use Rattle.fk_spec.specs.Plan.{Plan}
use Rattle.fk_spec.specs.Settling.{Committed, is_committed, mark_of, mark_in, outcome_of, swept_of}
use Rattle.fk_spec.specs.Stored.{committed_of, committed_as, applied_as, stamp_of, stamp_in}
use Rattle.fk_spec.specs.Leader as leader
use Rattle.fk_spec.specs.Next.{IsHistory, printed_of}
use Rattle.fk_spec.specs.Promises.{is_tx_for, tx_for}
use Rattle.fk_spec.specs.Published.{published_as}
use Rattle.fk_spec.specs.PublicLines.{greatest_tx, tx_with}
use Rattle.fk_law.specs.Due.{IsDue, IsApplied, IsPushOf}
use Rattle.fk_law.specs.LeaderLane.{Stands}
use Rattle.fk_law.specs.Numbered.{with_some, numbered}
use Rattle.fk_law.specs.Publishing.{all_printed}
use Rattle.fk_law.specs.TxLines.{PublishedAsCommitted, GreatestTxIsTheMark, PublishedRequestHasItsLine, UncommittedRequestHasNoLine, StampsAreSwept, PublishedPushHasItsLine}
use Rattle.fk_law.proofs.Due.{due}
use Rattle.fk_law.proofs.Pushing.{push_bound}
use Rattle.fk_law.proofs.Committing.{committed_push, its_push_is_one}
use Rattle.fk_law.proofs.Growing.{numbers_never_fall}
use Rattle.fk_law.proofs.Leading.{leader_stands_where_it_may, published_are_swept}
use Rattle.fk_law.proofs.Outcomes.{one_commit_for_each_request}
use Rattle.fk_law.proofs.Sending.{committed_is_filled, tx_is, was_committed}
use Rattle.fk_law.proofs.Growing.{committed_stays}
use Rattle.fk_law.proofs.Printing.{txs_are_the_commits}
use Rattle.fk_law.proofs.Publishing.{of_push, greatest_at_most, published_at}

-- Published as committed. -----------------------------------------------------------------------------

pub published_as_committed : PublishedAsCommitted
published_as_committed p zero h a l v q = let x = (of_push p 0 h a l q).is_of in let b = (push_bound p 0 h x.push l x.pushed).1 in absurd (omega (arith, b))
published_as_committed p (suc m) h a l v q = subst (λ z. published_as p z h ≡ Some a) (tx_is (suc m) (committed_of p h) a q) (published_at p m h a l v q)

-- The greatest line. ----------------------------------------------------------------------------------

mark_step : (p : Plan) (h : List Entry) (o : Op) → IsHistory p h → IsDue p h o → (1 ≤ mark_of h → is_committed (mark_of h) h ≡ true) → 1 ≤ mark_in o (mark_of h) → is_committed (mark_in o (mark_of h)) h ≡ true
mark_step p h (op.PublishOk n t) l d i b =
    let x = published_are_swept p n t h l d in
    let f : max t (mark_of h) ≡ t = (let v = x.2 in grind (arith, nat_tests)) in
    subst (λ z. is_committed z h ≡ true) (sym f) x.0
mark_step p h o l d i b = i b

-- the mark is a committed push
mark_committed : (p : Plan) (h : List Entry) → IsHistory p h → 1 ≤ mark_of h → is_committed (mark_of h) h ≡ true
mark_committed p [] l b = absurd (omega (arith, b))
mark_committed p (e ∷ h) l b = committed_stays (mark_of (e ∷ h)) h (e ∷ []) (mark_step p h e.op l.0 (due p e h l) (mark_committed p h l.0) b)

greatest_step : (m : ℕ) (done : List Applied) (o : Option Applied) → applied_as (suc m) done ≡ o → (a : Applied) → o ≡ Some a → greatest_tx (all_printed (with_some o (numbered m done))) ≡ suc m
greatest_step m done None e a q = absurd (grind arith)
greatest_step m done (Some b) e a q = let t = tx_is (suc m) done b e in let g = greatest_at_most m done in grind (arith, nat_tests)

greatest_is : (p : Plan) (m : ℕ) (h : List Entry) → IsHistory p h → (1 ≤ m → is_committed m h ≡ true) → greatest_tx (all_printed (numbered m (committed_of p h))) ≡ m
greatest_is p zero h l c = refl
greatest_is p (suc m) h l c = let x = committed_is_filled p (suc m) h l (c (omega arith)) in greatest_step m (committed_of p h) (committed_as p (suc m) h) refl x.0 x.1

pub greatest_tx_is_the_mark : GreatestTxIsTheMark
greatest_tx_is_the_mark p h l = ap greatest_tx (txs_are_the_commits p h l) ∙ greatest_is p (mark_of h) h l (mark_committed p h l)

-- The line of a request. ------------------------------------------------------------------------------

-- each commit up to m that is of request k of session c is this one, or none is
abbrev AllAre : Plan → List Entry → ℕ → ℕ → ℕ → Option Applied → Type 0
AllAre p h c k m o = (t : ℕ) (b : Applied) → t ≤ m → committed_as p t h ≡ Some b → b.session ≡ c → b.k ≡ k → o ≡ Some b

for_it : (c k : ℕ) (b : Applied) → is_tx_for c k (printed_of b) ≡ true → (b.session ≡ c) × (b.k ≡ k)
for_it c k b e = grind (arith, nat_tests)

it_is : (c k : ℕ) (b : Applied) → b.session ≡ c → b.k ≡ k → is_tx_for c k (printed_of b) ≡ true
it_is c k b e f = grind (arith, nat_tests)

none_step : (p : Plan) (h : List Entry) (c k m : ℕ) (x : Option Applied) → committed_as p (suc m) h ≡ x → ((b : Applied) → x ≡ Some b → b.session ≡ c → b.k ≡ k → ⊥) → tx_for c k (all_printed (numbered m (committed_of p h))) ≡ None → tx_for c k (all_printed (with_some x (numbered m (committed_of p h)))) ≡ None
none_step p h c k m None e f i = i
none_step p h c k m (Some b) e f i =
    cond_both (is_tx_for c k (printed_of b)) (Some (printed_of b)) (tx_for c k (all_printed (numbered m (committed_of p h)))) (λ z. z ≡ None)
    (λ g. let w = for_it c k b g in absurd (f b refl w.0 w.1)) (λ _. i)

none_for : (p : Plan) (h : List Entry) (c k m : ℕ) → ((t : ℕ) (b : Applied) → committed_as p t h ≡ Some b → b.session ≡ c → b.k ≡ k → ⊥) → tx_for c k (all_printed (numbered m (committed_of p h))) ≡ None
none_for p h c k zero f = refl
none_for p h c k (suc m) f = none_step p h c k m (committed_as p (suc m) h) refl (f (suc m)) (none_for p h c k m f)

some_step : (p : Plan) (h : List Entry) (c k t m : ℕ) (a : Applied) (x : Option Applied) → committed_as p (suc m) h ≡ x → committed_as p t h ≡ Some a → a.session ≡ c → a.k ≡ k → t ≤ suc m → ((b : Applied) → x ≡ Some b → b.session ≡ c → b.k ≡ k → b ≡ a) → (t ≤ m → tx_for c k (all_printed (numbered m (committed_of p h))) ≡ Some (printed_of a)) → tx_for c k (all_printed (with_some x (numbered m (committed_of p h)))) ≡ Some (printed_of a)
some_step p h c k t m a None e q s r b f i = i (by_last (nat_eq t (suc m)) refl)
  where
    none_some : (u v : ℕ) → u ≡ v → committed_as p u h ≡ Some a → committed_as p v h ≡ None → ⊥
    none_some u v w y z = let g : committed_as p v h ≡ Some a = subst (λ n. committed_as p n h ≡ Some a) w y in grind arith

    by_last : (z : Bool) → nat_eq t (suc m) ≡ z → t ≤ m
    by_last true w = absurd (none_some t (suc m) (grind (arith, nat_tests)) q e)
    by_last false w = let g : t ≢ suc m = grind (arith, nat_tests) in omega (arith, b, g)
some_step p h c k t m a (Some y) e q s r b f i =
    cond_both (is_tx_for c k (printed_of y)) (Some (printed_of y)) (tx_for c k (all_printed (numbered m (committed_of p h)))) (λ z. z ≡ Some (printed_of a))
    (λ g. let w = for_it c k y g in ap (λ z. Some (printed_of z)) (f y refl w.0 w.1)) (λ g. i (by_last g (nat_eq t (suc m)) refl))
  where
    same : (u v : ℕ) → u ≡ v → committed_as p u h ≡ Some a → committed_as p v h ≡ Some y → a ≡ y
    same u v w x z = same_Some a y (sym (subst (λ n. committed_as p n h ≡ Some a) w x) ∙ z)

    by_last : is_tx_for c k (printed_of y) ≡ false → (z : Bool) → nat_eq t (suc m) ≡ z → t ≤ m
    by_last g true w = let n = same t (suc m) (grind (arith, nat_tests)) q e in absurd (false≢true (sym g ∙ it_is c k y (ap (λ z. z.session) (sym n) ∙ s) (ap (λ z. z.k) (sym n) ∙ r)))
    by_last g false w = let n : t ≢ suc m = grind (arith, nat_tests) in omega (arith, b, n)

some_for : (p : Plan) (h : List Entry) (c k t m : ℕ) (a : Applied) → committed_as p t h ≡ Some a → a.session ≡ c → a.k ≡ k → t ≤ m → (1 ≤ t) → ((u : ℕ) (b : Applied) → committed_as p u h ≡ Some b → b.session ≡ c → b.k ≡ k → b ≡ a) → tx_for c k (all_printed (numbered m (committed_of p h))) ≡ Some (printed_of a)
some_for p h c k t zero a q s r b d f = absurd (omega (arith, b, d))
some_for p h c k t (suc m) a q s r b d f = some_step p h c k t m a (committed_as p (suc m) h) refl q s r b (f (suc m)) (λ v. some_for p h c k t m a q s r v d f)

-- a commit of a request: its push
its_commit : (p : Plan) (t : ℕ) (h : List Entry) (b : Applied) (c k : ℕ) → IsHistory p h → committed_as p t h ≡ Some b → b.session ≡ c → b.k ≡ k → (n : ℕ) × IsPushOf t n c k h
its_commit p t h b c k l q s r = let x = of_push p t h b l q in (x.function, subst (λ z. IsPushOf t x.function z k h) s (subst (λ z. IsPushOf t x.function b.session z h) r x.is_of))

pub published_request_has_its_line : PublishedRequestHasItsLine
published_request_has_its_line p t n c k h a l i q b =
    ap (tx_for c k) (txs_are_the_commits p h l)
    ∙ some_for p h c k t (mark_of h) a q (sym own.1) (sym own.2) b (push_bound p t h i.push l i.pushed).1 only
  where
    own : (n ≡ (of_push p t h a l q).function) × (c ≡ a.session) × (k ≡ a.k)
    own = let x = of_push p t h a l q in its_push_is_one t n c k x.function a.session a.k h i x.is_of

    only : (u : ℕ) (y : Applied) → committed_as p u h ≡ Some y → y.session ≡ c → y.k ≡ k → y ≡ a
    only u y w s r =
        let z = its_commit p u h y c k l w s r in
        let e = one_commit_for_each_request p t n u z.0 c k h l i z.1 (was_committed p t h a q) (was_committed p u h y w) in
        same_Some y a (sym w ∙ (ap (λ v. committed_as p v h) (sym e) ∙ q))

pub uncommitted_request_has_no_line : UncommittedRequestHasNoLine
uncommitted_request_has_no_line p c k h l f = ap (tx_for c k) (txs_are_the_commits p h l) ∙ none_for p h c k (mark_of h) none
  where
    none : (t : ℕ) (b : Applied) → committed_as p t h ≡ Some b → b.session ≡ c → b.k ≡ k → ⊥
    none t b q s r =
        let x = its_commit p t h b c k l q s r in
        let z = committed_push p t h l (was_committed p t h b q) in
        let g = its_push_is_one t x.0 c k z.function z.session z.k h x.1 z.is_of in
        f (subst IsApplied (sym (subst (λ y. outcome_of c y h ≡ Some (Committed t)) (sym g.2) (subst (λ y. outcome_of y z.k h ≡ Some (Committed t)) (sym g.1) z.outcome))) tt)

-- The line of a push. ---------------------------------------------------------------------------------

with_step : (p : Plan) (h : List Entry) (t m : ℕ) (a : Applied) (x : Option Applied) → committed_as p (suc m) h ≡ x → committed_as p t h ≡ Some a → t ≤ suc m → (t ≤ m → tx_with t (all_printed (numbered m (committed_of p h))) ≡ Some (printed_of a)) → tx_with t (all_printed (with_some x (numbered m (committed_of p h)))) ≡ Some (printed_of a)
with_step p h t m a None e q b i = i (by_last (nat_eq t (suc m)) refl)
  where
    none : (u v : ℕ) → u ≡ v → committed_as p u h ≡ Some a → committed_as p v h ≡ None → ⊥
    none u v w y z = let g : committed_as p v h ≡ Some a = subst (λ n. committed_as p n h ≡ Some a) w y in grind arith

    by_last : (z : Bool) → nat_eq t (suc m) ≡ z → t ≤ m
    by_last true w = absurd (none t (suc m) (grind (arith, nat_tests)) q e)
    by_last false w = let g : t ≢ suc m = grind (arith, nat_tests) in omega (arith, b, g)
with_step p h t m a (Some y) e q b i = by_number (nat_eq y.tx t) refl
  where
    number : y.tx ≡ suc m
    number = tx_is (suc m) (committed_of p h) y e

    by_number : (z : Bool) → nat_eq y.tx t ≡ z → (if z then Some (printed_of y) else tx_with t (all_printed (numbered m (committed_of p h)))) ≡ Some (printed_of a)
    by_number true w = let n = number in let s : suc m ≡ t = grind (arith, nat_tests) in ap (λ v. Some (printed_of v)) (same_Some y a (sym e ∙ subst (λ n. committed_as p n h ≡ Some a) (sym s) q))
    by_number false w = let n = number in let s : t ≢ suc m = grind (arith, nat_tests) in i (omega (arith, b, s))

with_for : (p : Plan) (h : List Entry) (t m : ℕ) (a : Applied) → committed_as p t h ≡ Some a → 1 ≤ t → t ≤ m → tx_with t (all_printed (numbered m (committed_of p h))) ≡ Some (printed_of a)
with_for p h t zero a q d b = absurd (omega (arith, b, d))
with_for p h t (suc m) a q d b = with_step p h t m a (committed_as p (suc m) h) refl q b (λ v. with_for p h t m a q d v)

pub published_push_has_its_line : PublishedPushHasItsLine
published_push_has_its_line p t h a l q b = let x = (of_push p t h a l q).is_of in ap (tx_with t) (txs_are_the_commits p h l) ∙ with_for p h t (mark_of h) a q (push_bound p t h x.push l x.pushed).1 b

-- Stamps. ---------------------------------------------------------------------------------------------

put_swept : (h : List Entry) (t : ℕ) (path : PathNames) (others : List PathNames) → Stands h t (leader.Put path others) → t ≤ swept_of h
put_swept h t path others i = i.1

stamp_step : (p : Plan) (path : PathNames) (h : List Entry) (o : Op) → IsHistory p h → IsDue p h o → stamp_of path h ≤ swept_of h → stamp_in path o (stamp_of path h) ≤ swept_of h
stamp_step p path h (op.PutOk n t q) l d i =
    let b = put_swept h t q d.0 (leader_stands_where_it_may p n t (leader.Put q d.0) h l d.1) in
    cond_both (same_path q path) (max t (stamp_of path h)) (stamp_of path h) (λ z. z ≤ swept_of h) (λ _. grind (arith, nat_tests)) (λ _. i)
stamp_step p path h o l d i = i

pub stamps_are_swept : StampsAreSwept
stamps_are_swept p path [] l = omega arith
stamps_are_swept p path (e ∷ h) l =
    let a = stamp_step p path h e.op l.0 (due p e h l) (stamps_are_swept p path h l.0) in
    let g = (numbers_never_fall h (e ∷ [])).swept in
    omega (arith, a, g)
