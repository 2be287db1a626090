-- Refusals hold for ever.
use Rattle.std.specs.Prelude.{nat_le, nat_eq}
use Rattle.std.proofs.Common.{◌≡◌, ◌≢◌, ℕ, ◌+◌, ◌≤◌, ◌++◌, Bool, true, false, cond, List, [], ◌∷◌, refl, sym, ◌∙◌, ap, subst, arith, Some}
use Rattle.std.proofs.lemmas.Bool.{false≢true}
use Rattle.std.proofs.lemmas.Bool.Decides.{nat_tests}
use Rattle.fk_base.specs.Path.{PathNames}
use Rattle.fk_base.specs.declared.code.Code.{Code}
use Rattle.fk_tree.specs.Check.{Refusal, check}
use Rattle.fk_tree.specs.Edit.{view_after}
use Rattle.fk_tree.specs.Sorted.{has_path}
use Rattle.fk_tree.specs.Touch.{edited_paths}
use Rattle.fk_tree.specs.declared.applied.Applied.{Applied}
use Rattle.fk_tree.specs.declared.request.Request.{Request}
use Rattle.fk_print.specs.declared.entry.Entry.{Entry}
use Rattle.fk_print.specs.declared.op.Op.{Op}
use Rattle.fk_print.specs.declared.op.Op.TheVariants as op
use Rattle.fk_law_tree.proofs.Counting.{unedited_stays}
use Rattle.fk_spec.specs.Plan.{Plan}
use Rattle.fk_spec.specs.Start.{pushes_of, pushed_in, request_of}
use Rattle.fk_spec.specs.Locks.{last_grant, granted, granted_in}
use Rattle.fk_spec.specs.Settling.{settled_of}
use Rattle.fk_spec.specs.Stored.{committed_of, committed_in, with_filled, filled_after, up_to}
use Rattle.fk_spec.specs.Follower.{Follower, node_in, paths_of}
use Rattle.fk_spec.specs.Follower as follower
use Rattle.fk_spec.specs.Function.{Following, place_of}
use Rattle.fk_spec.specs.Next.{IsHistory}
use Rattle.fk_law.specs.Due.{IsDue, HoldsAll, IsPushOf, Refuses}
use Rattle.fk_law.specs.Losing.{IsLive}
use Rattle.fk_law.specs.Progress.{Works, progress}
use Rattle.fk_law.specs.Refusing.{RefusalHoldsForEver}
use Rattle.fk_law.proofs.Due.{due}
use Rattle.fk_law.proofs.Starting.{follower_task}
use Rattle.fk_law.proofs.Pushing.{push_bound}
use Rattle.fk_law.proofs.Settled.{task_at_most_next}
use Rattle.fk_law.proofs.Committing.{its_push_is_one, is_push_of_it}
use Rattle.fk_law.proofs.Rising.{history_before, its_push_before, own_same}
use Rattle.fk_law.proofs.Losing.{no_more_locks, refused_now}
use Rattle.fk_law.proofs.Deciding.{same_follower}
use Rattle.fk_law.proofs.Recording.{records_are_of_its_grants}
use Rattle.fk_law.proofs.Seeing.{works_apart}
use Rattle.fk_law.proofs.Leaving.{IsSeen, IsCommit, commit_is}
use Rattle.fk_law.proofs.Fitting.{seen, was_live}
use Rattle.fk_law.proofs.Numbering.{closed_apart}
use Rattle.fk_law.proofs.Refusing.{IsRefused, refused_holds, seen_refusal, own_each, closed_refusal, closed_at_its_number, closed_on}
use Rattle.fk_law.proofs.Closes.{count_more}
use Rattle.fk_base.proofs.Logic.{by_test}

-- Each live push up to the refusal's number is of another session, and its function wasn't granted any of
-- the paths.
abbrev IsFinal : ℕ → ℕ → List PathNames → List Entry → Type 0
IsFinal c at ps h = (t : ℕ) (x : IsLive t h) → t ≤ at → (x.session ≢ c) × ((q : PathNames) → has_path q (granted x.function h) ≡ true → has_path q ps ≡ false)

granted_back : (n : ℕ) (q : PathNames) (o : Op) (ps : List PathNames) → ((path : PathNames) → o ≡ op.LockOk n path → ⊥) → has_path q (granted_in n o ps) ≡ true → has_path q ps ≡ true
granted_back n q (op.LockOk m path) ps f g = grind (arith, nat_tests, f path)
granted_back n q o ps f g = g

-- a live push that was pushed before
record WasLive (t : ℕ) (e : Entry) (h : List Entry) (x : IsLive t (e ∷ h)) : Type 0 where
  pub live : IsLive t h
  pub function : live.function ≡ x.function
  pub session : live.session ≡ x.session
  pub is_of : IsPushOf t x.function x.session x.k h
  pub granted_then : (q : PathNames) → has_path q (granted x.function (e ∷ h)) ≡ true → has_path q (granted x.function h) ≡ true

before : (p : Plan) (t : ℕ) (e : Entry) (h : List Entry) → IsHistory p (e ∷ h) → (x : IsLive t (e ∷ h)) → t ≤ pushes_of h → WasLive t e h x
before p t e h l x b =
    let w = its_push_before p t x.function x.session x.k e h l (push_bound p t (e ∷ h) x.is_of.push l x.is_of.pushed).1 b x.is_of in
    let y = was_live p t e h l x w in
    let s = its_push_is_one t y.function y.session y.k x.function x.session x.k h y.is_of w in
    record { live = y; function = s.0; session = s.1; is_of = w; granted_then = λ q g. granted_back x.function q e.op (granted x.function h) (λ path c. no_more_locks p t x.function path h l.0 (subst (IsDue p h) c (due p e h l)) (is_push_of_it t x.function x.session x.k h w)) g }

final_on : (p : Plan) (c at : ℕ) (ps : List PathNames) (e : Entry) (h : List Entry) → IsHistory p (e ∷ h) → at ≤ pushes_of h → IsFinal c at ps h → IsFinal c at ps (e ∷ h)
final_on p c at ps e h l b f t x v =
    let w = before p t e h l x (omega (arith, b, v)) in
    let i = f t w.live v in
    (λ s. i.0 (w.session ∙ s), λ q g. i.1 q (subst (λ m. has_path q (granted m h) ≡ true) (sym w.function) (w.granted_then q g)))

-- One more commit. ------------------------------------------------------------------------------------

-- it leaves the session open, and each of the paths as it was
abbrev LeavesAt : ℕ → ℕ → List PathNames → List Applied → List Applied → Type 0
LeavesAt c at ps done next = ((q : PathNames) → has_path q ps ≡ true → (view_after (up_to at next)).node q ≡ (view_after (up_to at done)).node q) × ((view_after (up_to at next)).closed c ≡ (view_after (up_to at done)).closed c)

commit_leaves : (p : Plan) (c at t : ℕ) (ps : List PathNames) (h : List Entry) → IsSeen p h → IsFinal c at ps h → (x : IsCommit p t h) → LeavesAt c at ps (committed_of p h) (filled_after (committed_of p h) t x.pushed ∷ committed_of p h)
commit_leaves p c at t ps h s f x = by_number (nat_le t at) refl
  where
    done : List Applied
    done = committed_of p h

    A : Applied
    A = filled_after done t x.pushed

    unedited : t ≤ at → (q : PathNames) → has_path q ps ≡ true → has_path q (edited_paths A) ≡ false
    unedited b q v = by_test (has_path q (edited_paths A)) (λ z. z ≡ false) (λ w. absurd (false≢true (sym ((f t x.live b).1 q ((s.pushes t x.live x.pushed x.is).1 q w)) ∙ v))) (λ _. refl)

    other : t ≤ at → nat_eq A.session c ≡ false
    other b = let w = (f t x.live b).0 in let u = x.session in not_same (nat_eq A.session c) refl (λ e. w (sym u ∙ e))
      where
        not_same : (z : Bool) → nat_eq A.session c ≡ z → (A.session ≡ c → ⊥) → nat_eq A.session c ≡ false
        not_same true e g = absurd (g (grind (arith, nat_tests)))
        not_same false e g = e

    by_number : (z : Bool) → nat_le t at ≡ z → LeavesAt c at ps done (A ∷ done)
    by_number true e =
        let b : t ≤ at = grind (arith, nat_tests) in (
          λ q v. ap (λ z. (view_after (cond z (A ∷ up_to at done) (up_to at done))).node q) e ∙ unedited_stays (view_after (up_to at done)) A q (unedited b q v),
          ap (λ z. (view_after (cond z (A ∷ up_to at done) (up_to at done))).closed c) e ∙ closed_apart (view_after (up_to at done)) A c (other b),
        )
    by_number false e = (λ q v. ap (λ z. (view_after (cond z (A ∷ up_to at done) (up_to at done))).node q) e, ap (λ z. (view_after (cond z (A ∷ up_to at done) (up_to at done))).closed c) e)

leaves_at : (p : Plan) (c at : ℕ) (ps : List PathNames) (h : List Entry) (o : Op) → IsHistory p h → IsDue p h o → IsSeen p h → IsFinal c at ps h → LeavesAt c at ps (committed_of p h) (committed_in p h o (committed_of p h))
leaves_at p c at ps h (op.CommitOk a t) l d s f = let x = commit_is p a t h l d in subst (λ z. LeavesAt c at ps (committed_of p h) (with_filled (committed_of p h) t z)) (sym x.is) (commit_leaves p c at t ps h s f x)
leaves_at p c at ps h o l d s f = (λ q v. refl, refl)

-- Longer histories. -----------------------------------------------------------------------------------

record Lasts (p : Plan) (c at : ℕ) (r : Request) (x : Refusal) (h : List Entry) : Type 0 where
  pub refused : IsRefused p c at r x h
  pub pushed : at ≤ pushes_of h
  pub final : IsFinal c at (paths_of refused.records) h

lasts_on : (p : Plan) (c at : ℕ) (r : Request) (x : Refusal) (e : Entry) (h : List Entry) → IsHistory p (e ∷ h) → Lasts p c at r x h → Lasts p c at r x (e ∷ h)
lasts_on p c at r x e h l i = record {
  refused = record { records = i.refused.records; owned = i.refused.owned; shows = i.refused.shows; locked = i.refused.locked; agree = λ q v. i.refused.agree q v ∙ sym (s.0 q v); open_then = s.1 ∙ i.refused.open_then };
  pushed = (let u = i.pushed in let v = count_more (pushed_in 0 e.op) (pushes_of h) in omega (arith, u, v));
  final = final_on p c at (paths_of i.refused.records) e h l i.pushed i.final;
}
  where
    s : LeavesAt c at (paths_of i.refused.records) (committed_of p h) (committed_of p (e ∷ h))
    s = leaves_at p c at (paths_of i.refused.records) h e.op l.0 (due p e h l) (seen p h l.0) i.final

lasts : (p : Plan) (c at : ℕ) (r : Request) (x : Refusal) (h more : List Entry) → IsHistory p (more ++ h) → Lasts p c at r x h → Lasts p c at r x (more ++ h)
lasts p c at r x h [] l i = i
lasts p c at r x h (e ∷ more) l i = lasts_on p c at r x e (more ++ h) l (lasts p c at r x h more l.0 i)

closed_for_ever : (p : Plan) (c at : ℕ) (h more : List Entry) → IsHistory p (more ++ h) → (view_after (up_to at (committed_of p h))).closed c ≡ true → (view_after (up_to at (committed_of p (more ++ h)))).closed c ≡ true
closed_for_ever p c at h [] l i = i
closed_for_ever p c at h (e ∷ more) l i = closed_on p at c (more ++ h) e.op l.0 (due p e (more ++ h) l) (closed_for_ever p c at h more l.0 i)

-- where a follower refuses, no live push up to its number stands in the way
final_now : (p : Plan) (n place at : ℕ) (cd : Code) (e : Entry) (h : List Entry) (f : Follower) → IsHistory p (e ∷ h) → e.op ≡ op.RefuseOk n cd place at → at ≤ pushes_of h → place_of p n h ≡ Following f → progress f.stage ≡ Works → settled_of f.session h + 1 ≡ f.k → HoldsAll n h → IsFinal f.session at (paths_of f.granted) (e ∷ h)
final_now p n place at cd e h f l b v g w z o t x u = (session, apart)
  where
    y : WasLive t e h x
    y = before p t e h l x (omega (arith, u, v))

    settled : f.k ≤ settled_of f.session (e ∷ h)
    settled = rw b (refused_now n f.session f.k (settled_of f.session h) h cd place at (follower_task p n h f l.0 g) z)

    session : x.session ≢ f.session
    session s =
        let m : x.k ≤ settled_of f.session h + 1 = subst (λ c. x.k ≤ settled_of c h + 1) s (task_at_most_next p x.function x.session x.k h l.0 y.is_of.task) in
        let q : settled_of f.session (e ∷ h) + 1 ≡ x.k = subst (λ c. settled_of c (e ∷ h) + 1 ≡ x.k) s x.next in
        absurd (omega (arith, m, q, settled, z))

    apart : (q : PathNames) → has_path q (granted x.function (e ∷ h)) ≡ true → has_path q (paths_of f.granted) ≡ false
    apart q i = by_test (has_path q (paths_of f.granted)) (λ z. z ≡ false)
        (λ j. absurd (works_apart p n h f l.0 g w t y.live (own_same n y.live.function (last_grant q h) (own_each n h o q (ap (has_path q) (sym (records_are_of_its_grants p n h f l.0 g)) ∙ j)) (y.live.own q (subst (λ m. has_path q (granted m h) ≡ true) (sym y.function) (y.granted_then q i))))))
        (λ _. refl)

refused_now_lasts : (p : Plan) (n place at : ℕ) (cd : Code) (e : Entry) (h : List Entry) (f : Follower) (r : Request) (x : Refusal) → IsHistory p (e ∷ h) → e.op ≡ op.RefuseOk n cd place at → at ≤ pushes_of h → (y : IsRefused p f.session at r x h) → IsFinal f.session at (paths_of y.records) (e ∷ h) → Lasts p f.session at r x (e ∷ h)
refused_now_lasts p n place at cd e h f r x l g v y i = record {
  refused = record {
    records = y.records;
    owned = y.owned;
    shows = y.shows;
    locked = y.locked;
    agree = subst (λ done. (q : PathNames) → has_path q (paths_of y.records) ≡ true → node_in y.records q ≡ (view_after (up_to at done)).node q) (sym same) y.agree;
    open_then = subst (λ done. (view_after (up_to at done)).closed f.session ≡ false) (sym same) y.open_then;
  };
  pushed = (let u = count_more (pushed_in 0 e.op) (pushes_of h) in omega (arith, u, v));
  final = i;
}
  where
    same : committed_of p (e ∷ h) ≡ committed_of p h
    same = ap (λ o. committed_in p h o (committed_of p h)) g

refusal_lasts : (p : Plan) (n place at : ℕ) (cd : Code) (e : Entry) (h more : List Entry) (f : Follower) (r : Request) (s : follower.Stage) → f.stage ≡ s → IsHistory p (e ∷ h) → IsHistory p (more ++ e ∷ h) → e.op ≡ op.RefuseOk n cd place at → at ≤ pushes_of h → place_of p n h ≡ Following f → settled_of f.session h + 1 ≡ f.k → Refuses n cd place at h s → request_of p f.session f.k h ≡ Some r
    → check (view_after (up_to at (committed_of p (more ++ e ∷ h)))) f.session r ≡ Some (record { code = cd; place = place })
refusal_lasts p n place at cd e h more f r (follower.Refuse x a) w l m g v i z d q =
    let y = subst (λ t. (y : IsRefused p f.session t r x h) × (y.records ≡ f.granted)) d.2 (seen_refusal p n a x h f r l.0 i w z d.3 q) in
    let j = refused_now_lasts p n place at cd e h f r x l g v y.0 (subst (λ gs. IsFinal f.session at (paths_of gs) (e ∷ h)) (sym y.1) (final_now p n place at cd e h f l g v i (ap progress w) z d.3)) in
    refused_holds p f.session at r x (more ++ e ∷ h) m (lasts p f.session at r x (e ∷ h) more m j).refused ∙ (λ k. Some (record { code = (d.0) k; place = (d.1) k }))
refusal_lasts p n place at cd e h more f r (follower.Expire a) w l m g v i z d q =
    closed_refusal (view_after (up_to at (committed_of p (more ++ e ∷ h)))) f.session r (closed_for_ever p f.session at (e ∷ h) more m (closed_on p at f.session h e.op l.0 (due p e h l) (subst (λ y. (view_after (up_to y (committed_of p h))).closed f.session ≡ true) d.2 (closed_at_its_number p n a h f l.0 i w))))
    ∙ sym (λ j. Some (record { code = (d.0) j; place = (d.1) j }))
refusal_lasts p n place at cd e h more f r s w l m g v i z d q = absurd d

pub refusal_holds_for_ever : RefusalHoldsForEver
refusal_holds_for_ever p n place at cd e h more f r l g v i q =
    let m = history_before p (e ∷ h) more l in
    let d : IsDue p h (op.RefuseOk n cd place at) = subst (IsDue p h) g (due p e h m) in
    let x = same_follower p h n n d.0 f d.1 refl i in
    refusal_lasts p n place at cd e h more f r f.stage refl m l g v i (subst (λ y. settled_of y.session h + 1 ≡ y.k) x d.2) (subst (λ y. Refuses n cd place at h y.stage) x d.3) q
