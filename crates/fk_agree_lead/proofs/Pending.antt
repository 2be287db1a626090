-- A push stands in its session's list of pending commits where the rules say that it is pending.
use Rattle.std.specs.Prelude.{◌==◌, ◌&&◌, ◌||◌, not}
use Rattle.std.proofs.Common.{◌≡◌, ℕ, ◌++◌, Bool, true, false, cond, List, [], ◌∷◌, refl, sym, ◌∙◌, ap, subst, arith}
use Rattle.std.proofs.lemmas.Bool.{false≢true}
use Rattle.std.proofs.lemmas.Bool.Decides.{nat_tests}
use Rattle.fk_print.specs.declared.entry.Entry.{Entry}
use Rattle.fk_print.specs.declared.op.Op.{Op}
use Rattle.fk_print.specs.declared.op.Op.TheVariants as op
use Rattle.fk_store.specs.Writes.{without}
use Rattle.fk_lead.specs.Operation.{is_pending}
use Rattle.fk_stand.specs.Tables.{pending_in, pending_of}
use Rattle.fk_spec.specs.Plan.{Plan}
use Rattle.fk_spec.specs.Start.{is_session}
use Rattle.fk_spec.specs.Settling as rules
use Rattle.fk_spec.specs.Settling.{commits, finishes, is_committed, is_finished, session_of_push}
use Rattle.fk_spec.specs.Leader as leader
use Rattle.fk_spec.specs.Next.{IsHistory}
use Rattle.fk_law.specs.Due.{IsDue, IsPushOf}
use Rattle.fk_law.proofs.Committing.{committed_push, commits_once, its_push_is_one, its_push_stays}
use Rattle.fk_law.proofs.Due.{due}
use Rattle.fk_law.proofs.Leading.{leader_stands_where_it_may}
use Rattle.fk_law.proofs.Leaving.{commit_is}
use Rattle.fk_law.proofs.Settled.{session_of_its_push}

-- Lists. ------------------------------------------------------------------------------------------------

-- a number that is put at the end
listed_last : (t s : ℕ) (ts : List ℕ) → is_pending t (ts ++ s ∷ []) ≡ (is_pending t ts || (s == t))
listed_last t s [] = one (s == t)
  where
    one : (b : Bool) → (b || false) ≡ b
    one true = refl
    one false = refl
listed_last t s (x ∷ ts) = one (x == t) (listed_last t s ts)
  where
    one : (b : Bool) → is_pending t (ts ++ s ∷ []) ≡ (is_pending t ts || (s == t)) → (b || is_pending t (ts ++ s ∷ [])) ≡ ((b || is_pending t ts) || (s == t))
    one true i = refl
    one false i = i

-- a number that is taken out
listed_without : (t s : ℕ) (ts : List ℕ) → is_pending t (without s ts) ≡ (is_pending t ts && not (s == t))
listed_without t s [] = refl
listed_without t s (x ∷ ts) = one (x == s) (x == t) (s == t) refl refl refl (listed_without t s ts)
  where
    swapped : (b : Bool) → (b && false) ≡ false
    swapped true = refl
    swapped false = refl

    one : (a b c : Bool) → (x == s) ≡ a → (x == t) ≡ b → (s == t) ≡ c → is_pending t (without s ts) ≡ (is_pending t ts && not c) → is_pending t (cond a (without s ts) (x ∷ without s ts)) ≡ ((b || is_pending t ts) && not c)
    one true true true e f g i = i ∙ swapped (is_pending t ts)
    one true false c e f g i = i
    one true true false e f g i = absurd (grind (arith, nat_tests))
    one false true true e f g i = absurd (grind (arith, nat_tests))
    one false true false e f g i = ap (λ z. z || is_pending t (without s ts)) f
    one false false c e f g i = ap (λ z. z || is_pending t (without s ts)) f ∙ i

-- What is finished was committed. -----------------------------------------------------------------------

finished_step : (p : Plan) (t : ℕ) (h : List Entry) (o : Op) → IsHistory p h → IsDue p h o → (is_finished t h ≡ true → is_committed t h ≡ true) → (finishes t o || is_finished t h) ≡ true → (commits t o || is_committed t h) ≡ true
finished_step p t h (op.DoneOk n s) l d i e = let c = (leader_stands_where_it_may p n s leader.Done h l d.0).0 in grind (arith, nat_tests)
finished_step p t h o l d i e = grind arith

-- so each that is finished
finished_committed : (p : Plan) (t : ℕ) (h : List Entry) → IsHistory p h → is_finished t h ≡ true → is_committed t h ≡ true
finished_committed p t [] l e = absurd (false≢true e)
finished_committed p t (e ∷ h) l f = finished_step p t h e.op l.0 (due p e h l) (finished_committed p t h l.0) f

-- a push that commits isn't finished
unfinished : (p : Plan) (n t : ℕ) (h : List Entry) → IsHistory p h → IsDue p h (op.CommitOk n t) → is_finished t h ≡ false
unfinished p n t h l d = by_finish (is_finished t h) refl
  where
    by_finish : (b : Bool) → is_finished t h ≡ b → b ≡ false
    by_finish false e = refl
    by_finish true e = absurd (false≢true (sym (commits_once p n t h l d) ∙ finished_committed p t h l e))

-- What is listed is pending. ----------------------------------------------------------------------------

-- committed and not finished
abbrev IsPending : Bool → Bool → Type 0
IsPending c f = (c ≡ true) × (f ≡ false)

listed_step : (p : Plan) (c t : ℕ) (h : List Entry) (o : Op) → IsHistory p h → IsDue p h o → (is_pending t (pending_of c h) ≡ true → IsPending (is_committed t h) (is_finished t h)) → is_pending t (pending_in c h o (pending_of c h)) ≡ true → IsPending (commits t o || is_committed t h) (finishes t o || is_finished t h)
listed_step p c t h (op.CommitOk n s) l d i e = by_session (is_session c (session_of_push s h)) e
  where
    by_number : (b : Bool) → (s == t) ≡ b → (is_pending t (pending_of c h) || b) ≡ true → IsPending (b || is_committed t h) (is_finished t h)
    by_number true f g = let x : s ≡ t = grind (arith, nat_tests) in (refl, subst (λ z. is_finished z h ≡ false) x (unfinished p n s h l d))
    by_number false f g = i (sym (swapped (is_pending t (pending_of c h))) ∙ g)
      where
        swapped : (b : Bool) → (b || false) ≡ b
        swapped true = refl
        swapped false = refl

    more : IsPending (is_committed t h) (is_finished t h) → IsPending ((s == t) || is_committed t h) (is_finished t h)
    more x = (grind (arith, x.0), x.1)

    by_session : (b : Bool) → is_pending t (cond b (pending_of c h ++ s ∷ []) (pending_of c h)) ≡ true → IsPending ((s == t) || is_committed t h) (is_finished t h)
    by_session true f = by_number (s == t) refl (sym (listed_last t s (pending_of c h)) ∙ f)
    by_session false f = more (i f)
listed_step p c t h (op.DoneOk n s) l d i e = by_number (s == t) (sym (listed_without t s (pending_of c h)) ∙ e)
  where
    by_number : (b : Bool) → (is_pending t (pending_of c h) && not b) ≡ true → IsPending (is_committed t h) (b || is_finished t h)
    by_number true f = absurd (grind arith)
    by_number false f = i (grind arith)
listed_step p c t h o l d i e = i e

-- each number of the list
listed_pending : (p : Plan) (c t : ℕ) (h : List Entry) → IsHistory p h → is_pending t (pending_of c h) ≡ true → IsPending (is_committed t h) (is_finished t h)
listed_pending p c t [] l e = absurd (false≢true e)
listed_pending p c t (e ∷ h) l f = listed_step p c t h e.op l.0 (due p e h l) (listed_pending p c t h l.0) f

-- What is pending is listed. ----------------------------------------------------------------------------

pending_step : (p : Plan) (c t : ℕ) (h : List Entry) (o : Op) → (commits t o ≡ true → is_session c (session_of_push t h) ≡ true) → (IsPending (is_committed t h) (is_finished t h) → is_pending t (pending_of c h) ≡ true) → IsPending (commits t o || is_committed t h) (finishes t o || is_finished t h) → is_pending t (pending_in c h o (pending_of c h)) ≡ true
pending_step p c t h (op.CommitOk n s) k i e = by_number (s == t) refl k e
  where
    last : (b : Bool) → (b || true) ≡ true
    last true = refl
    last false = refl

    more : (a b : Bool) → a ≡ true → (a || b) ≡ true
    more a b f = rw f refl

    by_number : (b : Bool) → (s == t) ≡ b → (b ≡ true → is_session c (session_of_push t h) ≡ true) → IsPending (b || is_committed t h) (is_finished t h) → is_pending t (cond (is_session c (session_of_push s h)) (pending_of c h ++ s ∷ []) (pending_of c h)) ≡ true
    by_number true f k x =
        let g : s ≡ t = grind (arith, nat_tests) in
        ap (λ z. is_pending t (cond (is_session c (session_of_push z h)) (pending_of c h ++ s ∷ []) (pending_of c h))) g
        ∙ (ap (λ b. is_pending t (cond b (pending_of c h ++ s ∷ []) (pending_of c h))) (k refl)
        ∙ (listed_last t s (pending_of c h) ∙ (ap (λ b. is_pending t (pending_of c h) || b) f ∙ last (is_pending t (pending_of c h)))))
    by_number false f k x = by_session (is_session c (session_of_push s h))
      where
        by_session : (b : Bool) → is_pending t (cond b (pending_of c h ++ s ∷ []) (pending_of c h)) ≡ true
        by_session true = listed_last t s (pending_of c h) ∙ more (is_pending t (pending_of c h)) (s == t) (i x)
        by_session false = i x
pending_step p c t h (op.DoneOk n s) k i e = by_number (s == t) refl e
  where
    by_number : (b : Bool) → (s == t) ≡ b → IsPending (is_committed t h) (b || is_finished t h) → is_pending t (without s (pending_of c h)) ≡ true
    by_number true f x = absurd (false≢true (sym x.1))
    by_number false f x = listed_without t s (pending_of c h) ∙ (ap (λ b. is_pending t (pending_of c h) && not b) f ∙ ap (λ b. b && true) (i x))
pending_step p c t h o k i e = i e

-- a push that commits, or has committed, is of the session that it is said to be of
same_session : (p : Plan) (t n c k m d j : ℕ) (e : Entry) (h : List Entry) → IsHistory p (e ∷ h) → IsPushOf t n c k (e ∷ h) → IsPushOf t m d j h → d ≡ c
same_session p t n c k m d j e h l w v = sym (its_push_is_one t n c k m d j (e ∷ h) w (its_push_stays p t m d j e h l v)).1

-- a commit is of its push's session
commit_session : (p : Plan) (t n c k : ℕ) (e : Entry) (h : List Entry) (o : Op) → e.op ≡ o → IsHistory p (e ∷ h) → IsDue p h o → IsPushOf t n c k (e ∷ h) → commits t o ≡ true → is_session c (session_of_push t h) ≡ true
commit_session p t n c k e h (op.CommitOk m s) g l d w f =
    let v = (commit_is p m s h l.0 d).live in
    let x : s ≡ t = grind (arith, nat_tests) in
    let y = subst (λ z. IsPushOf z v.function v.session v.k h) x v.is_of in
    let z = same_session p t n c k v.function v.session v.k e h l w y in
    ap (is_session c) (session_of_its_push t v.function v.session v.k h y) ∙ grind (arith, nat_tests)
commit_session p t n c k e h o g l d w f = absurd (grind arith)

-- whose a committed push was before
was_of : (p : Plan) (t n c k : ℕ) (e : Entry) (h : List Entry) → IsHistory p (e ∷ h) → IsPushOf t n c k (e ∷ h) → is_committed t h ≡ true → (m j : ℕ) × IsPushOf t m c j h
was_of p t n c k e h l w x =
    let y = committed_push p t h l.0 x in
    (y.function, y.k, subst (λ d. IsPushOf t y.function d y.k h) (same_session p t n c k y.function y.session y.k e h l w y.is_of) y.is_of)

-- each commit that no leader finished
pending_listed : (p : Plan) (t n c k : ℕ) (h : List Entry) → IsHistory p h → IsPushOf t n c k h → IsPending (is_committed t h) (is_finished t h) → is_pending t (pending_of c h) ≡ true
pending_listed p t n c k [] l w e = absurd (false≢true e.0)
pending_listed p t n c k (e ∷ h) l w f = pending_step p c t h e.op (commit_session p t n c k e h e.op refl l (due p e h l) w) (λ x. let y = was_of p t n c k e h l w x.0 in pending_listed p t y.0 c y.1 h l.0 y.2 x) f

-- Both. -------------------------------------------------------------------------------------------------

-- a push is listed where it is pending
pub pending_the_same : (p : Plan) (t n c k : ℕ) (h : List Entry) → IsHistory p h → IsPushOf t n c k h → is_pending t (pending_of c h) ≡ rules.is_pending t h
pending_the_same p t n c k h l w = by_both (is_pending t (pending_of c h)) (is_committed t h) (is_finished t h) (listed_pending p c t h l) (pending_listed p t n c k h l w)
  where
    by_both : (a b d : Bool) → (a ≡ true → IsPending b d) → (IsPending b d → a ≡ true) → a ≡ (b && not d)
    by_both true b d f g = let x = f refl in rw (x.0, x.1) refl
    by_both false true false f g = g (refl, refl)
    by_both false true true f g = refl
    by_both false false d f g = refl
