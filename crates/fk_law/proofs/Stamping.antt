-- User records show the tree of their numbers.
use Rattle.std.specs.Prelude.{nat_le, nat_eq}
use Rattle.std.proofs.Common.{◌≡◌, ◌≢◌, ℕ, ◌<◌, ◌≤◌, ◌++◌, Bool, true, false, cond, List, [], ◌∷◌, max, refl, sym, ◌∙◌, ap, subst, arith, Option, Some, None}
use Rattle.std.proofs.lemmas.Bool.{false≢true}
use Rattle.std.proofs.lemmas.Bool.Decides.{nat_tests}
use Rattle.fk_base.specs.Path.{PathNames, same_path}
use Rattle.fk_tree.specs.Edit.{edited, effects, view_after}
use Rattle.fk_tree.specs.Sorted.{has_path}
use Rattle.fk_tree.specs.Touch.{edited_paths}
use Rattle.fk_tree.specs.declared.applied.Applied.{Applied}
use Rattle.fk_tree.proofs.Order.{same_path_is}
use Rattle.fk_tree.proofs.Looking.{same_flip}
use Rattle.fk_print.specs.declared.entry.Entry.{Entry}
use Rattle.fk_print.specs.declared.op.Op.{Op}
use Rattle.fk_print.specs.declared.op.Op.TheVariants as op
use Rattle.fk_law_tree.proofs.Counting.{unedited_stays}
use Rattle.fk_spec.specs.Plan.{Plan}
use Rattle.fk_spec.specs.Settling.{is_committed, commits, mark_of, mark_in, swept_of}
use Rattle.fk_spec.specs.Stored.{committed_of, committed_in, committed_as, applied_as, with_filled, stamp_of, stamp_in, up_to}
use Rattle.fk_spec.specs.Leader.{next_leader, to_put, to_notify, after_put, paths_to_put}
use Rattle.fk_spec.specs.Leader as leader
use Rattle.fk_spec.specs.Watches.{Firing, swept_by}
use Rattle.fk_spec.specs.Function.{Leading, place_of, actor}
use Rattle.fk_spec.specs.Next.{IsHistory}
use Rattle.fk_law.specs.Due.{IsDue}
use Rattle.fk_law.specs.LeaderLane.{Stands}
use Rattle.fk_law.specs.Stamping.{PublishedAreStamped, RecordIsTheNode, FinalBelowTheSweep}
use Rattle.fk_law.proofs.Due.{due}
use Rattle.fk_law.proofs.Moving.{OnLeader, leader_step}
use Rattle.fk_law.proofs.Leading.{leader_stands_where_it_may, commits_are_beyond_the_sweep}
use Rattle.fk_law.proofs.Sending.{committed_is_filled, committed_other, committed_never_changes}
use Rattle.fk_law.proofs.Growing.{numbers_never_fall}
use Rattle.fk_law.proofs.Leaving.{commit_is}
use Rattle.fk_law.proofs.Printing.{published_none}
use Rattle.fk_law.proofs.Numbered.{AllOnce, all_once}
use Rattle.fk_law.proofs.Publishing.{published_tree_is_shown}
use Rattle.fk_base.proofs.Logic.{by_test}

-- Stamps. ---------------------------------------------------------------------------------------------

stamp_grows : (q : PathNames) (o : Op) (n : ℕ) → n ≤ stamp_in q o n
stamp_grows q o n = grind (arith, nat_tests)

-- the paths that a leader has still to put
abbrev Left : leader.Stage → List PathNames
Left (leader.Put path others) = path ∷ others
Left _ = []

abbrev Puts : leader.Stage → Type 0
Puts (leader.Put path others) = Unit {0}
Puts leader.Publish = Unit {0}
Puts _ = ⊥

-- before a put or the publication: each path of the push that isn't left to put is stamped
abbrev StampedSo : Plan → ℕ → List Entry → leader.Stage → Type 0
StampedSo p t h s = Puts s → (a : Applied) → committed_as p t h ≡ Some a → (q : PathNames) → has_path q (edited_paths a) ≡ true → has_path q (Left s) ≡ false → t ≤ stamp_of q h

left_to_put : (t : ℕ) (ps : List PathNames) (q : PathNames) (x : ℕ) → (has_path q ps ≡ false → t ≤ x) → Puts (to_put ps) → has_path q (Left (to_put ps)) ≡ false → t ≤ x
left_to_put t [] q x f u v = f v
left_to_put t (p ∷ ps) q x f u v = f v

one_some : (a b : Applied) (o : Option Applied) → o ≡ Some a → o ≡ Some b → a ≡ b
one_some a b o e f = grind arith

notify_puts_none : (fs : List Firing) → Puts (to_notify fs) → ⊥
notify_puts_none [] u = u
notify_puts_none (f ∷ fs) u = u

swept_stamped : (p : Plan) (t : ℕ) (h : List Entry) (a : Applied) (q : PathNames) (x : ℕ) → committed_as p t h ≡ Some a → has_path q (edited_paths a) ≡ true → let s = to_put (paths_to_put (committed_as p t h)) in Puts s → has_path q (Left s) ≡ false → t ≤ x
swept_stamped p t h a q x e i u v = left_to_put t (paths_to_put (committed_as p t h)) q x (λ w. absurd (false≢true (sym w ∙ (ap (λ o. has_path q (paths_to_put o)) e ∙ i)))) u v

put_stamped : (p : Plan) (t : ℕ) (h : List Entry) (path : PathNames) (others : List PathNames) (a : Applied) (q : PathNames) (x : ℕ) → StampedSo p t h (leader.Put path others) → committed_as p t h ≡ Some a → has_path q (edited_paths a) ≡ true → stamp_of q h ≤ x → (same_path q path ≡ true → t ≤ x) → has_path q others ≡ false → t ≤ x
put_stamped p t h path others a q x i e j b f v = by_path (same_path q path) refl
  where
    by_path : (z : Bool) → same_path q path ≡ z → t ≤ x
    by_path true g = f g
    by_path false g = let w = i tt a e q j (rw g v) in omega (arith, w, b)

stamped_moves : (p : Plan) (n t : ℕ) (h : List Entry) (o : Op) (s : leader.Stage) → IsDue p h o → place_of p n h ≡ Leading t s → actor o ≡ Some n → StampedSo p t h s → Puts (next_leader p h t o s) → (a : Applied) → committed_as p t h ≡ Some a → (q : PathNames) → has_path q (edited_paths a) ≡ true → has_path q (Left (next_leader p h t o s)) ≡ false → t ≤ stamp_in q o (stamp_of q h)
stamped_moves p n t h (op.SweepOk m u fired) s d b c i w a e q j v = swept_stamped p t h a q _ e j w v
stamped_moves p n t h (op.SweepMiss m u swept fired) s d b c i w a e q j v = swept_stamped p t h a q _ e j w v
stamped_moves p n t h (op.PutOk m u path) s d b c i w a e q j v =
    let g : s ≡ leader.Put path d.0 = grind arith in
    let k : t ≡ u = grind arith in
    let x : has_path q (Left (to_put d.0)) ≡ false = subst (λ z. has_path q (Left (after_put z)) ≡ false) g v in
    let y : Puts (to_put d.0) = subst (λ z. Puts (after_put z)) g w in
    left_to_put t d.0 q (stamp_in q (op.PutOk m u path) (stamp_of q h)) (put_stamped p t h path d.0 a q (stamp_in q (op.PutOk m u path) (stamp_of q h)) (subst (StampedSo p t h) g i) e j (stamp_grows q (op.PutOk m u path) (stamp_of q h)) (λ f. at_path (same_flip path q ∙ f) k)) y x
  where
    at_path : same_path path q ≡ true → t ≡ u → t ≤ cond (same_path path q) (max u (stamp_of q h)) (stamp_of q h)
    at_path f k = rw f (omega (arith, k))
stamped_moves p n t h (op.PutMiss m u path stamp) s d b c i w a e q j v =
    let g : s ≡ leader.Put path d.0 = grind arith in
    let k : t ≡ u = grind arith in
    let x : has_path q (Left (to_put d.0)) ≡ false = subst (λ z. has_path q (Left (after_put z)) ≡ false) g v in
    let y : Puts (to_put d.0) = subst (λ z. Puts (after_put z)) g w in
    let r = d.2 in
    left_to_put t d.0 q (stamp_of q h) (put_stamped p t h path d.0 a q (stamp_of q h) (subst (StampedSo p t h) g i) e j (omega arith) (λ f. let z = subst (λ y. u ≤ stamp_of y h) (sym (same_path_is q path f)) r in omega (arith, k, z))) y x
stamped_moves p n t h (op.PublishOk m u) s d b c i w a e q j v = absurd (notify_puts_none (swept_by p m h).fired w)
stamped_moves p n t h (op.PublishMiss m u mark) s d b c i w a e q j v = absurd (notify_puts_none (swept_by p m h).fired w)
stamped_moves p n t h o s d b c i w a e q j v = absurd w

-- where a leader puts, its push is committed
puts_committed : (h : List Entry) (t : ℕ) (s : leader.Stage) → Stands h t s → Puts s → is_committed t h ≡ true
puts_committed h t (leader.Put path others) i u = i.0
puts_committed h t leader.Publish i u = i.0
puts_committed h t s i u = absurd u

same_commit : (p : Plan) (t : ℕ) (e : Entry) (h : List Entry) (a : Applied) → IsHistory p (e ∷ h) → is_committed t h ≡ true → committed_as p t (e ∷ h) ≡ Some a → committed_as p t h ≡ Some a
same_commit p t e h a l c q =
    let x = committed_is_filled p t h l.0 c in
    x.1 ∙ ap Some (one_some x.0 a (committed_as p t (e ∷ h)) (committed_never_changes p t h (e ∷ []) x.0 l x.1) q)

no_commit_puts : (p : Plan) (t : ℕ) (h : List Entry) (o : Op) (s : leader.Stage) → Puts (next_leader p h t o s) → commits t o ≡ false
no_commit_puts p t h (op.CommitOk n u) s w = absurd w
no_commit_puts p t h o s w = refl

stamped_step : (p : Plan) (n : ℕ) (e : Entry) (h : List Entry) → IsHistory p (e ∷ h) → OnLeader (λ t s. StampedSo p t h s) (place_of p n h) → OnLeader (λ t s. StampedSo p t (e ∷ h) s) (place_of p n (e ∷ h))
stamped_step p n e h l i =
    leader_step p n h e.op (place_of p n h) (λ t s. StampedSo p t (e ∷ h) s)
    (λ t s b _ w a q x u v. let y = at t s b w a (same_commit p t e h a l (puts_committed h t s (leader_stands_where_it_may p n t s h l.0 b) w) q) x u v in let g = stamp_grows x e.op (stamp_of x h) in omega (arith, y, g))
    (λ t _ w. absurd w)
    (λ t s b c w a q x u v. stamped_moves p n t h e.op s (due p e h l) b c (at t s b) w a (sym (committed_other p t h e.op (committed_of p h) (no_commit_puts p t h e.op s w)) ∙ q) x u v)
  where
    at : (t : ℕ) (s : leader.Stage) → place_of p n h ≡ Leading t s → StampedSo p t h s
    at t s b = subst (OnLeader (λ t s. StampedSo p t h s)) b i

stamped : (p : Plan) (n : ℕ) (h : List Entry) → IsHistory p h → OnLeader (λ t s. StampedSo p t h s) (place_of p n h)
stamped p n [] l = tt
stamped p n (e ∷ h) l = stamped_step p n e h l (stamped p n h l.0)

-- Commits up to the mark. -----------------------------------------------------------------------------

at_publish : (p : Plan) (n t : ℕ) (h : List Entry) (a : Applied) (q : PathNames) → IsHistory p h → IsDue p h (op.PublishOk n t) → committed_as p t h ≡ Some a → has_path q (edited_paths a) ≡ true → t ≤ stamp_of q h
at_publish p n t h a q l d e i = subst (OnLeader (λ t s. StampedSo p t h s)) d.0 (stamped p n h l) tt a e q i refl

published_step : (p : Plan) (t : ℕ) (e : Entry) (h : List Entry) (a : Applied) (q : PathNames) (o : Op) → e.op ≡ o → IsHistory p (e ∷ h) → IsDue p h o → (committed_as p t h ≡ Some a → t ≤ mark_of h → t ≤ stamp_of q h) → applied_as t (committed_in p h o (committed_of p h)) ≡ Some a → t ≤ mark_in o (mark_of h) → has_path q (edited_paths a) ≡ true → t ≤ stamp_in q o (stamp_of q h)
published_step p t e h a q (op.PublishOk n u) b l d i c m v = by_old (nat_le t (mark_of h)) refl
  where
    none_some : (x : Applied) (y : Option Applied) → y ≡ Some x → y ≡ None → ⊥
    none_some x y f g = grind arith

    by_push : (z : Bool) → nat_eq t u ≡ z → mark_of h < t → t ≤ stamp_of q h
    by_push true f w = let s : t ≡ u = grind (arith, nat_tests) in subst (λ z. z ≤ stamp_of q h) (sym s) (at_publish p n u h a q l.0 d (subst (λ z. committed_as p z h ≡ Some a) s c) v)
    by_push false f w = let s : t ≢ u = grind (arith, nat_tests) in absurd (none_some a (committed_as p t h) c (published_none p n u e h l b d t w (let x = d.1 in omega (arith, m, s, w, x)) (committed_as p t h) refl))

    by_old : (z : Bool) → nat_le t (mark_of h) ≡ z → t ≤ stamp_of q h
    by_old true f = i c (grind (arith, nat_tests))
    by_old false f = by_push (nat_eq t u) refl (grind (arith, nat_tests))
published_step p t e h a q (op.CommitOk n u) b l d i c m v = by_push (nat_eq u t) refl
  where
    by_push : (z : Bool) → nat_eq u t ≡ z → t ≤ stamp_of q h
    by_push true f = let s : u ≡ t = grind (arith, nat_tests) in let w = (commits_are_beyond_the_sweep p n u h l.0 d).2 in absurd (omega (arith, s, w, m))
    by_push false f = i (sym (committed_other p t h (op.CommitOk n u) (committed_of p h) f) ∙ c) m
published_step p t e h a q o b l d i c m v = let w = i c m in let g = stamp_grows q o (stamp_of q h) in omega (arith, w, g)

pub published_are_stamped : PublishedAreStamped
published_are_stamped p t [] a q l c m v = absurd (grind arith)
published_are_stamped p t (e ∷ h) a q l c m v = published_step p t e h a q e.op refl l (due p e h l) (λ d n. published_are_stamped p t h a q l.0 d n v) c m v

-- Records. --------------------------------------------------------------------------------------------

-- no commit beyond s and up to n edits the path
abbrev NoneBetween : ℕ → ℕ → PathNames → List Applied → Type 0
NoneBetween s n q [] = Unit {0}
NoneBetween s n q (a ∷ done) = (s < a.tx → a.tx ≤ n → has_path q (edited_paths a) ≡ false) × NoneBetween s n q done

between_step : (s n : ℕ) (q : PathNames) (a : Applied) (done : List Applied) → s ≤ n → (s < a.tx → a.tx ≤ n → has_path q (edited_paths a) ≡ false) → (view_after (up_to s done)).node q ≡ (view_after (up_to n done)).node q → (view_after (up_to s (a ∷ done))).node q ≡ (view_after (up_to n (a ∷ done))).node q
between_step s n q a done b f i = by_tests (nat_le a.tx s) refl (nat_le a.tx n) refl
  where
    by_tests : (x : Bool) → nat_le a.tx s ≡ x → (y : Bool) → nat_le a.tx n ≡ y → (view_after (cond x (a ∷ up_to s done) (up_to s done))).node q ≡ (view_after (cond y (a ∷ up_to n done) (up_to n done))).node q
    by_tests true u true v = ap (edited a.tx a.moment q (effects a)) i
    by_tests true u false v = absurd (grind (arith, nat_tests))
    by_tests false u true v = i ∙ sym (unedited_stays (view_after (up_to n done)) a q (f (grind (arith, nat_tests)) (grind (arith, nat_tests))))
    by_tests false u false v = i

pub same_between : (s n : ℕ) (q : PathNames) (done : List Applied) → s ≤ n → NoneBetween s n q done → (view_after (up_to s done)).node q ≡ (view_after (up_to n done)).node q
same_between s n q [] b f = refl
same_between s n q (a ∷ done) b f = between_step s n q a done b f.0 (same_between s n q done b f.1)

-- each commit is found by its number
abbrev AllFound : List Applied → List Applied → Type 0
AllFound done [] = Unit {0}
AllFound done (a ∷ rest) = (applied_as a.tx done ≡ Some a) × AllFound done rest

found_one : (done : List Applied) (a b : Applied) → applied_as b.tx done ≡ None → applied_as a.tx done ≡ Some a → applied_as a.tx (b ∷ done) ≡ Some a
found_one done a b u f = by_push (nat_eq b.tx a.tx) refl
  where
    none_some : (x : Applied) (y : Option Applied) → y ≡ Some x → y ≡ None → ⊥
    none_some x y f g = grind arith

    by_push : (z : Bool) → nat_eq b.tx a.tx ≡ z → cond z (Some b) (applied_as a.tx done) ≡ Some a
    by_push true e = let s : b.tx ≡ a.tx = grind (arith, nat_tests) in absurd (none_some a (applied_as a.tx done) f (subst (λ z. applied_as z done ≡ None) s u))
    by_push false e = f

found_on : (done rest : List Applied) (b : Applied) → applied_as b.tx done ≡ None → AllFound done rest → AllFound (b ∷ done) rest
found_on done [] b u f = tt
found_on done (a ∷ rest) b u f = (found_one done a b u f.0, found_on done rest b u f.1)

found_first : (b : Applied) (done : List Applied) → applied_as b.tx (b ∷ done) ≡ Some b
found_first b done = let s : nat_eq b.tx b.tx ≡ true = grind (arith, nat_tests) in rw s refl

pub all_found : (done : List Applied) → AllOnce done → AllFound done done
all_found [] u = tt
all_found (b ∷ done) u = (found_first b done, found_on done done b u.0 (all_found done u.1))

pub none_between : (s n : ℕ) (q : PathNames) (done rest : List Applied) → AllFound done rest → ((a : Applied) → applied_as a.tx done ≡ Some a → s < a.tx → a.tx ≤ n → has_path q (edited_paths a) ≡ false) → NoneBetween s n q rest
none_between s n q done [] f g = tt
none_between s n q done (a ∷ rest) f g = (g a f.0, none_between s n q done rest f.1 g)

pub record_is_the_node : RecordIsTheNode
record_is_the_node p n h q l s m =
    same_between (stamp_of q h) n q (committed_of p h) s (none_between (stamp_of q h) n q (committed_of p h) (committed_of p h) (all_found (committed_of p h) (all_once p h l)) unedited)
    ∙ sym (ap (λ v. v.node q) (published_tree_is_shown p n h l m))
  where
    unedited : (a : Applied) → committed_as p a.tx h ≡ Some a → stamp_of q h < a.tx → a.tx ≤ n → has_path q (edited_paths a) ≡ false
    unedited a e u v = by_test (has_path q (edited_paths a)) (λ z. z ≡ false) (λ w. let x = published_are_stamped p a.tx h a q l e (omega (arith, v, m)) w in absurd (omega (arith, u, x))) (λ _. refl)

-- What is final. --------------------------------------------------------------------------------------

pub beyond_not : (n : ℕ) (a : Applied) (done : List Applied) → n < a.tx → up_to n (a ∷ done) ≡ up_to n done
beyond_not n a done b = let s : nat_le a.tx n ≡ false = grind (arith, nat_tests) in rw s refl

final_step : (p : Plan) (n : ℕ) (h : List Entry) (o : Op) → IsHistory p h → IsDue p h o → n ≤ swept_of h → up_to n (committed_in p h o (committed_of p h)) ≡ up_to n (committed_of p h)
final_step p n h (op.CommitOk a t) l d b =
    let c = commit_is p a t h l d in
    let w = (commits_are_beyond_the_sweep p a t h l d).1 in
    subst (λ z. up_to n (with_filled (committed_of p h) t z) ≡ up_to n (committed_of p h)) (sym c.is) (beyond_not n _ (committed_of p h) (omega (arith, b, w)))
final_step p n h o l d b = refl

pub final_below_the_sweep : FinalBelowTheSweep
final_below_the_sweep p n h [] l b = refl
final_below_the_sweep p n h (e ∷ more) l b = final_step p n (more ++ h) e.op l.0 (due p e (more ++ h) l) (let g = (numbers_never_fall h more).swept in omega (arith, b, g)) ∙ final_below_the_sweep p n h more l.0 b
