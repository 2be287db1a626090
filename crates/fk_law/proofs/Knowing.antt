-- What a follower knows of its session's commits.
use Rattle.std.specs.Prelude.{◌==◌, ◌||◌, nat_eq}
use Rattle.std.proofs.Common.{◌≡◌, ℕ, ◌+◌, ◌≤◌, Bool, true, false, cond, List, [], ◌∷◌, refl, sym, ◌∙◌, ap, subst, arith, Some}
use Rattle.std.proofs.lemmas.Bool.{false≢true}
use Rattle.std.proofs.lemmas.Bool.Decides.{nat_tests}
use Rattle.fk_print.specs.declared.entry.Entry.{Entry}
use Rattle.fk_print.specs.declared.op.Op.{Op}
use Rattle.fk_print.specs.declared.op.Op.TheVariants as op
use Rattle.fk_spec.specs.Plan.{Plan}
use Rattle.fk_spec.specs.Start.{is_session}
use Rattle.fk_spec.specs.Settling.{is_committed, commits, settled_in, settled_of, count_settling, session_of_push, last_of_session, last_for}
use Rattle.fk_spec.specs.Follower.{Follower}
use Rattle.fk_spec.specs.Function.{Following, place_of, actor}
use Rattle.fk_spec.specs.Next.{IsHistory}
use Rattle.fk_law.specs.Due.{IsDue, IsPushOf}
use Rattle.fk_law.specs.Progress.{Progress, Works, progress, progress_after}
use Rattle.fk_law.specs.Knowing.{LastIsCommitted, LastIsTheGreatest, CommitIsBeyondTheLast, AtWorkKnowsTheLast}
use Rattle.fk_law.proofs.Due.{due}
use Rattle.fk_law.proofs.Numbers.{less_or_not}
use Rattle.fk_law.proofs.Moving.{OnWhole, whole_step, last_after}
use Rattle.fk_law.proofs.Starting.{follower_task}
use Rattle.fk_law.proofs.Closing.{settled_so}
use Rattle.fk_law.proofs.Pushing.{push_bound}
use Rattle.fk_law.proofs.Settled.{commit_of, session_of_its_push, task_at_most_next}
use Rattle.fk_law.proofs.Committing.{its_push_is_one, its_push_stays}
use Rattle.fk_law.proofs.Rising.{commits_rise_in_a_session, its_push_before, pushed_before}

-- The last commit of a session. -----------------------------------------------------------------------

-- a session's last commit is one of its pushes
pub record IsLastOf (c : ℕ) (t : ℕ) (h : List Entry) : Type 0 where
  pub function : ℕ
  pub k : ℕ
  pub is_of : IsPushOf t function c k h
  pub committed : is_committed t h ≡ true

last_stays : (p : Plan) (c t : ℕ) (e : Entry) (h : List Entry) → IsHistory p (e ∷ h) → IsLastOf c t h → IsLastOf c t (e ∷ h)
last_stays p c t e h l x = record { function = x.function; k = x.k; is_of = its_push_stays p t x.function c x.k e h l x.is_of; committed = (let y = x.committed in grind arith) }

last_new : (p : Plan) (c n t : ℕ) (e : Entry) (h : List Entry) → IsHistory p (e ∷ h) → e.op ≡ op.CommitOk n t → (d : IsDue p h (op.CommitOk n t)) → d.1 ≡ c → IsLastOf c t (e ∷ h)
last_new p c n t e h l b d f = record { function = d.0; k = d.2; is_of = its_push_stays p t d.0 c d.2 e h l (subst (λ z. IsPushOf t d.0 z d.2 h) f (commit_of p n t d.0 d.1 d.2 h l.0 d.3)); committed = rw b (grind (arith, nat_tests)) }

pub last_for_is : (c n t d : ℕ) (h : List Entry) → session_of_push t h ≡ Some d → last_for c h (op.CommitOk n t) (last_of_session c h) ≡ cond (d == c) t (last_of_session c h)
last_for_is c n t d h e = ap (λ o. cond (is_session c o) t (last_of_session c h)) e

last_commit : (p : Plan) (c n t : ℕ) (e : Entry) (h : List Entry) → IsHistory p (e ∷ h) → e.op ≡ op.CommitOk n t → IsDue p h (op.CommitOk n t) → (1 ≤ last_of_session c h → IsLastOf c (last_of_session c h) h) → 1 ≤ last_for c h (op.CommitOk n t) (last_of_session c h) → IsLastOf c (last_for c h (op.CommitOk n t) (last_of_session c h)) (e ∷ h)
last_commit p c n t e h l b d i a = by_session (nat_eq d.1 c) refl
  where
    s : last_for c h (op.CommitOk n t) (last_of_session c h) ≡ cond (nat_eq d.1 c) t (last_of_session c h)
    s = last_for_is c n t d.1 h (session_of_its_push t d.0 d.1 d.2 h (commit_of p n t d.0 d.1 d.2 h l.0 d.3))

    by_session : (z : Bool) → nat_eq d.1 c ≡ z → IsLastOf c (last_for c h (op.CommitOk n t) (last_of_session c h)) (e ∷ h)
    by_session true f = let g : last_for c h (op.CommitOk n t) (last_of_session c h) ≡ t = s ∙ ap (λ z. cond z t (last_of_session c h)) f in subst (λ z. IsLastOf c z (e ∷ h)) (sym g) (last_new p c n t e h l b d (grind (arith, nat_tests)))
    by_session false f =
        let g : last_for c h (op.CommitOk n t) (last_of_session c h) ≡ last_of_session c h = s ∙ ap (λ z. cond z t (last_of_session c h)) f in
        subst (λ z. IsLastOf c z (e ∷ h)) (sym g) (last_stays p c (last_of_session c h) e h l (i (subst (λ z. 1 ≤ z) g a)))

last_step : (p : Plan) (c : ℕ) (e : Entry) (h : List Entry) (o : Op) → e.op ≡ o → IsHistory p (e ∷ h) → IsDue p h o → (1 ≤ last_of_session c h → IsLastOf c (last_of_session c h) h) → 1 ≤ last_for c h o (last_of_session c h) → IsLastOf c (last_for c h o (last_of_session c h)) (e ∷ h)
last_step p c e h (op.CommitOk n t) b l d i a = last_commit p c n t e h l b d i a
last_step p c e h o b l d i a = last_stays p c (last_of_session c h) e h l (i a)

pub last_of : (p : Plan) (c : ℕ) (h : List Entry) → IsHistory p h → 1 ≤ last_of_session c h → IsLastOf c (last_of_session c h) h
last_of p c [] l b = absurd (omega (arith, b))
last_of p c (e ∷ h) l b = last_step p c e h e.op refl l (due p e h l) (last_of p c h l.0) b

pub last_is_committed : LastIsCommitted
last_is_committed p c h l b = (last_of p c h l b).committed

pub commit_is_beyond_the_last : CommitIsBeyondTheLast
commit_is_beyond_the_last p a t n c k h l d x = less_or_not (last_of_session c h) t (λ b.
    let low = (push_bound p t h x.push l x.pushed).1 in
    let y = last_of p c h l (omega (arith, low, b)) in
    let g = commits_rise_in_a_session p a t n c k (last_of_session c h) y.function y.k h l d x y.is_of y.committed in
    omega (arith, g, b))

greatest_commit : (p : Plan) (a u t n c k : ℕ) (h : List Entry) → IsHistory p h → IsDue p h (op.CommitOk a u) → IsPushOf t n c k h → (is_committed t h ≡ true → t ≤ last_of_session c h) → ((u == t) || is_committed t h) ≡ true → t ≤ last_for c h (op.CommitOk a u) (last_of_session c h)
greatest_commit p a u t n c k h l d x i v = subst (λ z. t ≤ z) (sym s) (by_session (nat_eq d.1 c) refl (nat_eq u t) refl v)
  where
    w : IsPushOf u d.0 d.1 d.2 h
    w = commit_of p a u d.0 d.1 d.2 h l d.3

    s : last_for c h (op.CommitOk a u) (last_of_session c h) ≡ cond (nat_eq d.1 c) u (last_of_session c h)
    s = last_for_is c a u d.1 h (session_of_its_push u d.0 d.1 d.2 h w)

    by_session : (z : Bool) → nat_eq d.1 c ≡ z → (y : Bool) → nat_eq u t ≡ y → (y || is_committed t h) ≡ true → t ≤ cond z u (last_of_session c h)
    by_session true f true g v = let q : u ≡ t = grind (arith, nat_tests) in omega (arith, q)
    by_session true f false g v = let q : d.1 ≡ c = grind (arith, nat_tests) in let r = commits_rise_in_a_session p a u d.0 c d.2 t n k h l d (subst (λ z. IsPushOf u d.0 z d.2 h) q w) x v in omega (arith, r)
    by_session false f true g v = let q : u ≡ t = grind (arith, nat_tests) in let r = its_push_is_one t d.0 d.1 d.2 n c k h (subst (λ z. IsPushOf z d.0 d.1 d.2 h) q w) x in absurd (other r.1 f)
      where
        other : d.1 ≡ c → nat_eq d.1 c ≡ false → ⊥
        other a b = grind (arith, nat_tests)
    by_session false f false g v = i v

greatest_step : (p : Plan) (t n c k : ℕ) (h : List Entry) (o : Op) → IsHistory p h → IsDue p h o → IsPushOf t n c k h → (is_committed t h ≡ true → t ≤ last_of_session c h) → (commits t o || is_committed t h) ≡ true → t ≤ last_for c h o (last_of_session c h)
greatest_step p t n c k h (op.CommitOk a u) l d x i v = greatest_commit p a u t n c k h l d x i v
greatest_step p t n c k h o l d x i v = i v

pub last_is_the_greatest : LastIsTheGreatest
last_is_the_greatest p t n c k [] l v x = absurd (false≢true v)
last_is_the_greatest p t n c k (e ∷ h) l v x =
    let a = (push_bound p t (e ∷ h) x.push l x.pushed).1 in
    let b = pushed_before p t h e.op l.0 (due p e h l) v in
    let y = its_push_before p t n c k e h l a b x in
    greatest_step p t n c k h e.op l.0 (due p e h l) y (λ z. last_is_the_greatest p t n c k h l.0 z y) v

-- Followers at work. ----------------------------------------------------------------------------------

last_keeps_op : (p : Plan) (c k : ℕ) (h : List Entry) (o : Op) → IsHistory p h → IsDue p h o → k ≤ settled_of c h + 1 → count_settling c (settled_in h o) (settled_of c h) + 1 ≡ k → last_for c h o (last_of_session c h) ≡ last_of_session c h
last_keeps_op p c k h (op.CommitOk a t) l d b s = let g = session_of_its_push t d.0 d.1 d.2 h (commit_of p a t d.0 d.1 d.2 h l d.3) in grind (arith, nat_tests)
last_keeps_op p c k h o l d b s = refl

abbrev KnowsSo : ℕ → ℕ → ℕ → ℕ → Progress → Type 0
KnowsSo last settled k l Works = settled + 1 ≡ k → l ≡ last
KnowsSo last settled k l _ = Unit {0}

abbrev KnowsIn : List Entry → ℕ → ℕ → ℕ → Progress → Type 0
KnowsIn h c k l q = KnowsSo (last_of_session c h) (settled_of c h) k l q

knows_keeps : (a b s r k l : ℕ) (q : Progress) → (r + 1 ≡ k → (s + 1 ≡ k) × (b ≡ a)) → KnowsSo a s k l q → KnowsSo b r k l q
knows_keeps a b s r k l q f i = grind arith

knows_moves : (p : Plan) (n : ℕ) (h : List Entry) (o : Op) (f : Follower) → IsDue p h o → place_of p n h ≡ Following f → actor o ≡ Some n → KnowsSo (last_of_session f.session h) (settled_of f.session h) f.k f.last (progress f.stage) → KnowsSo (last_of_session f.session h) (settled_of f.session h) f.k (last_after h o f) (progress_after o (progress f.stage))
knows_moves p n h o f d e a i = grind (arith, nat_tests)

knows_step : (p : Plan) (n : ℕ) (e : Entry) (h : List Entry) → IsHistory p (e ∷ h) → OnWhole (KnowsIn h) (place_of p n h) → OnWhole (KnowsIn (e ∷ h)) (place_of p n (e ∷ h))
knows_step p n e h l i =
    whole_step p n h e.op (place_of p n h) (KnowsIn (e ∷ h))
    (λ f b _. keeps f b f.last (progress f.stage) (subst (OnWhole (KnowsIn h)) b i))
    (λ c k _. tt)
    (λ f b a. keeps f b (last_after h e.op f) (progress_after e.op (progress f.stage)) (knows_moves p n h e.op f (due p e h l) b a (subst (OnWhole (KnowsIn h)) b i)))
  where
    keeps : (f : Follower) → place_of p n h ≡ Following f → (x : ℕ) (q : Progress) → KnowsIn h f.session f.k x q → KnowsIn (e ∷ h) f.session f.k x q
    keeps f b x q i =
        let m = task_at_most_next p n f.session f.k h l.0 (follower_task p n h f l.0 b) in
        knows_keeps (last_of_session f.session h) (last_of_session f.session (e ∷ h)) (settled_of f.session h) (settled_of f.session (e ∷ h)) f.k x q
        (λ s. (settled_so p f.session f.k e h m s, last_keeps_op p f.session f.k h e.op l.0 (due p e h l) m s)) i

knows : (p : Plan) (n : ℕ) (h : List Entry) → IsHistory p h → OnWhole (KnowsIn h) (place_of p n h)
knows p n [] l = tt
knows p n (e ∷ h) l = knows_step p n e h l (knows p n h l.0)

pub at_work_knows_the_last : AtWorkKnowsTheLast
at_work_knows_the_last p n h f l b w s = subst (λ q. KnowsIn h f.session f.k f.last q) w (subst (OnWhole (KnowsIn h)) b (knows p n h l)) s
