-- How a follower locks, and what it decides.
use Rattle.std.proofs.Common.{◌≡◌, ℕ, suc, ◌+◌, ◌≤◌, ◌++◌, ◌⊎◌, inl, inr, true, false, List, [], ◌∷◌, length, append_assoc, refl, sym, ◌∙◌, ap, subst, arith, Option, Some, None}
use Rattle.std.proofs.lemmas.Bool.{cond_both}
use Rattle.std.proofs.lemmas.Bool.Decides.{nat_tests}
use Rattle.std.proofs.lemmas.Option.{same_Some}
use Rattle.fk_base.specs.Path.{PathNames, parent}
use Rattle.fk_tree.specs.Check.{Refusal, check}
use Rattle.fk_tree.specs.Edit.{closes}
use Rattle.fk_tree.specs.Locks.{numbered_path, numbered_paths, lock_paths}
use Rattle.fk_tree.specs.declared.request.Request.{Request}
use Rattle.fk_tree.specs.declared.request.Request.TheVariants as request
use Rattle.fk_tree.proofs.Order.{same_path_self}
use Rattle.fk_print.specs.declared.entry.Entry.{Entry}
use Rattle.fk_print.specs.declared.op.Op.{Op}
use Rattle.fk_print.specs.declared.op.Op.TheVariants as op
use Rattle.fk_spec.specs.Plan.{Plan, item_after}
use Rattle.fk_spec.specs.Start.{seen_with, seen_from, request_of, sends_of}
use Rattle.fk_spec.specs.Settling.{settled_in, settled_of, last_of_session}
use Rattle.fk_spec.specs.Stored.{committed_of, owned_after}
use Rattle.fk_spec.specs.Follower.{Follower, Granted, node_in, view_of, next_stage, next_with, to_lock, to_begin, with_granted, paths_of}
use Rattle.fk_spec.specs.Follower as follower
use Rattle.fk_spec.specs.Function.{Following, place_of, actor}
use Rattle.fk_spec.specs.Next.{IsHistory}
use Rattle.fk_law.specs.Due.{IsDue}
use Rattle.fk_law.specs.Seeing.{next_lock, DecidesSo, FollowerDecidesFromItsViews, Locks, GrantsAreTheFirstLockPaths}
use Rattle.fk_law.proofs.Due.{due}
use Rattle.fk_law.proofs.Moving.{ahead}
use Rattle.fk_law.proofs.Standing.{OnStanding, standing_step}
use Rattle.fk_law.proofs.Starting.{follower_task}
use Rattle.fk_law.proofs.Settled.{reached, task_at_most_next}
use Rattle.fk_law.proofs.Committing.{counts_more}
use Rattle.fk_law.proofs.Sending.{origin_stays, request_stays}

-- Lists. ----------------------------------------------------------------------------------------------

-- one list begins the other
abbrev pub Begins : List PathNames → List PathNames → Type 0
Begins xs ys = (zs : List PathNames) × (ys ≡ xs ++ zs)

after_all : (xs zs : List PathNames) → item_after (xs ++ zs) (length xs) ≡ item_after zs 0
after_all [] zs = refl
after_all (x ∷ xs) zs = after_all xs zs

length_paths : (gs : List Granted) → length (paths_of gs) ≡ length gs
length_paths [] = refl
length_paths (g ∷ gs) = ap suc (length_paths gs)

pub paths_more : (gs : List Granted) (g : Granted) → paths_of (gs ++ g ∷ []) ≡ paths_of gs ++ g.path ∷ []
paths_more [] g = refl
paths_more (x ∷ gs) g = ap (λ ps. x.path ∷ ps) (paths_more gs g)

-- what is left after the first, where they begin the list
pub left_over : (gs : List Granted) (ps zs : List PathNames) → ps ≡ paths_of gs ++ zs → item_after ps (length gs) ≡ item_after zs 0
left_over gs ps zs e = rw (e, sym (length_paths gs)) (after_all (paths_of gs) zs)

pub first_left : (zs : List PathNames) (p : PathNames) → item_after zs 0 ≡ Some p → (ws : List PathNames) × (zs ≡ p ∷ ws)
first_left [] p e = absurd (grind arith)
first_left (z ∷ zs) p e = (zs, ap (λ x. x ∷ zs) (same_Some z p e))

pub none_left : (zs : List PathNames) → item_after zs 0 ≡ None → zs ≡ []
none_left [] e = refl
none_left (z ∷ zs) e = absurd (grind arith)

heads : (x y : PathNames) (xs ys : List PathNames) → (x ∷ xs) ≡ (y ∷ ys) → x ≡ y
heads x y xs ys e = cc

-- A granted path continues the lock paths. ------------------------------------------------------------

one_more : (gs : List Granted) (g : Granted) (ps zs : List PathNames) → ps ≡ paths_of gs ++ g.path ∷ zs → Begins (paths_of (gs ++ g ∷ [])) ps
one_more gs g ps zs e = (zs, e ∙ (sym (append_assoc (paths_of gs) (g.path ∷ []) zs) ∙ ap (λ xs. xs ++ zs) (sym (paths_more gs g))))

numbered_grow : (gs : List Granted) (g : Granted) (p : PathNames) (zs : List PathNames) → numbered_paths p (node_in gs (parent p)) ≡ paths_of gs ++ g.path ∷ zs → Begins (paths_of (gs ++ g ∷ [])) (numbered_paths p (node_in (gs ++ g ∷ []) (parent p)))
numbered_grow gs g [] zs e = one_more gs g _ zs e
numbered_grow [] g (x ∷ p) zs e = (numbered_path (x ∷ p) (node_in (g ∷ []) (parent (x ∷ p))), ap (λ q. q ∷ numbered_path (x ∷ p) (node_in (g ∷ []) (parent (x ∷ p)))) (heads (parent (x ∷ p)) g.path _ zs e))
numbered_grow (f ∷ gs) g (x ∷ p) zs e = one_more (f ∷ gs) g _ zs (ap (numbered_paths (x ∷ p)) same ∙ e)
  where
    first : (hs : List Granted) → node_in (f ∷ hs) (parent (x ∷ p)) ≡ f.node
    first hs = let h : f.path ≡ parent (x ∷ p) = sym (heads (parent (x ∷ p)) f.path _ _ e) in rw (h, same_path_self (parent (x ∷ p))) refl

    same : node_in (f ∷ (gs ++ g ∷ [])) (parent (x ∷ p)) ≡ node_in (f ∷ gs) (parent (x ∷ p))
    same = first (gs ++ g ∷ []) ∙ sym (first gs)

locks_grow : (gs : List Granted) (g : Granted) (owned : List PathNames) (r : Request) (zs : List PathNames) → lock_paths (view_of gs) owned r ≡ paths_of gs ++ g.path ∷ zs → Begins (paths_of (gs ++ g ∷ [])) (lock_paths (view_of (gs ++ g ∷ [])) owned r)
locks_grow gs g owned (request.Create p bytes true eph) zs e = numbered_grow gs g p zs e
locks_grow gs g owned (request.Create p bytes false eph) zs e = one_more gs g _ zs e
locks_grow gs g owned (request.Set p bytes version) zs e = one_more gs g _ zs e
locks_grow gs g owned (request.Delete p version) zs e = one_more gs g _ zs e
locks_grow gs g owned (request.Close evict) zs e = one_more gs g _ zs e
locks_grow gs g owned (request.Multi xs) zs e = one_more gs g _ zs e

-- Where it stands. ------------------------------------------------------------------------------------

abbrev pub InOrder : Request → Follower → Type 0
InOrder r f = Begins (paths_of f.granted) (lock_paths (view_of f.granted) f.owned r)

-- Before its session line its request is settled, or it was granted nothing; at work it was granted the
-- first of its lock paths, and stands where they bring it.
abbrev pub StandsSo : ℕ → ℕ → Request → Follower → follower.Stage → Type 0
StandsSo settled seen r f follower.Session = (f.k ≤ settled) ⊎ (f.granted ≡ [])
StandsSo settled seen r f follower.Owned = DecidesSo seen r f follower.Owned
StandsSo settled seen r f (follower.Lock path) = InOrder r f × DecidesSo seen r f (follower.Lock path)
StandsSo settled seen r f follower.Push = InOrder r f × DecidesSo seen r f follower.Push
StandsSo settled seen r f (follower.Refuse x at) = InOrder r f × DecidesSo seen r f (follower.Refuse x at)
StandsSo settled seen r f _ = Unit {0}

locks_so : (settled seen : ℕ) (r : Request) (g : Follower) → InOrder r g → StandsSo settled seen r g (next_stage seen r g (next_lock r g))
locks_so settled seen r g b = by_next (next_lock r g) refl
  where
    by_check : (o : Option Refusal) → check (view_of g.granted) g.session r ≡ o → next_lock r g ≡ None → StandsSo settled seen r g (follower.decided seen g o)
    by_check None c e = (b, (e, c))
    by_check (Some x) c e = (b, (e, c, refl))

    by_next : (o : Option PathNames) → next_lock r g ≡ o → StandsSo settled seen r g (next_stage seen r g o)
    by_next None e = by_check (check (view_of g.granted) g.session r) refl e
    by_next (Some path) e = (b, e)

nothing_begins : (gs : List Granted) (ps : List PathNames) → gs ≡ [] → Begins (paths_of gs) ps
nothing_begins gs ps e = (ps, ap (λ xs. paths_of xs ++ ps) (sym e))

begins_so : (settled seen : ℕ) (r : Request) (g : Follower) → g.granted ≡ [] → let f = to_begin seen r g in StandsSo settled seen r f f.stage
begins_so settled seen r g e =
    cond_both (closes r) (record g { stage = follower.Owned }) (to_lock seen r g) (λ f. StandsSo settled seen r f f.stage)
    (λ c. (c, e))
    (λ _. locks_so settled seen r g (nothing_begins g.granted (lock_paths (view_of g.granted) g.owned r) e))

granted_so : (p : Plan) (h : List Entry) (settled seen : ℕ) (r : Request) (f : Follower) (path : PathNames) → InOrder r f → next_lock r f ≡ Some path → let g = to_lock seen r (with_granted p h path f) in StandsSo settled seen r g g.stage
granted_so p h settled seen r f path b e =
    let w = first_left b.0 path (sym (left_over f.granted (lock_paths (view_of f.granted) f.owned r) b.0 b.1) ∙ e) in
    locks_so settled seen r (with_granted p h path f) (locks_grow f.granted _ f.owned r w.0 (b.1 ∙ ap (λ zs. paths_of f.granted ++ zs) w.1))

pub same_follower : (p : Plan) (h : List Entry) (m n : ℕ) (g f : Follower) → place_of p m h ≡ Following g → Some m ≡ Some n → place_of p n h ≡ Following f → g ≡ f
same_follower p h m n g f a e b = grind arith

-- what stood so stands so where more is settled
stays_so : (s z seen : ℕ) (r : Request) (f : Follower) (x : follower.Stage) → s ≤ z → StandsSo s seen r f x → StandsSo z seen r f x
stays_so s z seen r f follower.Session b (inl i) = inl (omega (arith, b, i))
stays_so s z seen r f follower.Session b (inr i) = inr i
stays_so s z seen r f follower.Owned b i = i
stays_so s z seen r f (follower.Lock path) b i = i
stays_so s z seen r f follower.Push b i = i
stays_so s z seen r f (follower.Refuse x at) b i = i
stays_so s z seen r f (follower.Expire at) b i = i
stays_so s z seen r f (follower.Commit t) b i = i
stays_so s z seen r f follower.Lost b i = i
stays_so s z seen r f follower.Reply b i = i
stays_so s z seen r f follower.Ack b i = i
stays_so s z seen r f follower.Ended b i = i

pub unsettled_nothing : (s seen : ℕ) (r : Request) (f : Follower) → s + 1 ≡ f.k → StandsSo s seen r f follower.Session → f.granted ≡ []
unsettled_nothing s seen r f e (inl i) = absurd (omega (arith, e, i))
unsettled_nothing s seen r f e (inr i) = i

moves_so : (p : Plan) (n seen : ℕ) (h : List Entry) (r : Request) (o : Op) (f : Follower) → seen ≡ seen_with f.session f.k h → IsDue p h o → place_of p n h ≡ Following f → actor o ≡ Some n → f.k ≤ settled_of f.session h + 1
    → StandsSo (settled_of f.session h) seen r f f.stage → let g = next_with p h r o f in StandsSo (settled_of f.session h) seen r g g.stage
moves_so p n seen h r (op.SessionNew m) f v d b a k i =
    let e = same_follower p h m n d.0 f d.1 a b in
    let s : f.stage ≡ follower.Session = subst (λ x. x.stage ≡ follower.Session) e d.2 in
    let z : settled_of f.session h + 1 ≡ f.k = subst (λ x. settled_of x.session h + 1 ≡ x.k) e d.3 in
    subst (λ y. let g = to_begin y r (record f { last = last_of_session f.session h }) in StandsSo (settled_of f.session h) seen r g g.stage) v
    (begins_so (settled_of f.session h) seen r (record f { last = last_of_session f.session h }) (unsettled_nothing (settled_of f.session h) seen r f z (subst (StandsSo (settled_of f.session h) seen r f) s i)))
moves_so p n seen h r (op.Owned m count) f v d b a k i =
    let e = same_follower p h m n d.0 f d.1 a b in
    let s : f.stage ≡ follower.Owned = subst (λ x. x.stage ≡ follower.Owned) e d.2 in
    let j : StandsSo (settled_of f.session h) seen r f follower.Owned = subst (StandsSo (settled_of f.session h) seen r f) s i in
    let g = record f { owned = owned_after f.session (committed_of p h) } in
    subst (λ y. let x = to_lock y r g in StandsSo (settled_of f.session h) seen r x x.stage) v
    (locks_so (settled_of f.session h) seen r g (nothing_begins f.granted (lock_paths (view_of f.granted) g.owned r) j.1))
moves_so p n seen h r (op.LockOk m path) f v d b a k i =
    let e = same_follower p h m n d.0 f d.1 a b in
    let s : f.stage ≡ follower.Lock path = subst (λ x. x.stage ≡ follower.Lock path) e d.2 in
    let j : StandsSo (settled_of f.session h) seen r f (follower.Lock path) = subst (StandsSo (settled_of f.session h) seen r f) s i in
    subst (λ y. let x = to_lock y r (with_granted p h path f) in StandsSo (settled_of f.session h) seen r x x.stage) v
    (granted_so p h (settled_of f.session h) seen r f path j.0 j.1)
moves_so p n seen h r (op.LockBusy m path holder moment) f v d b a k i = i
moves_so p n seen h r (op.CommitSettled m t settled) f v d b a k i = inl (grind (arith, nat_tests))
moves_so p n seen h r (op.RefuseSettled m code place at settled) f v d b a k i = inl (grind (arith, nat_tests))
moves_so p n seen h r (op.LostSettled m settled) f v d b a k i = inl (grind (arith, nat_tests))
moves_so p n seen h r o f v d b a k i = tt

abbrev StandsIn : Plan → List Entry → ℕ → ℕ → Follower → Type 0
StandsIn p h c k f = (r : Request) → request_of p c k h ≡ Some r → StandsSo (settled_of c h) (seen_with c k h) r f f.stage

abbrev Stands : Plan → List Entry → Follower → Type 0
Stands p h f = StandsIn p h f.session f.k f

stands_step : (p : Plan) (n : ℕ) (e : Entry) (h : List Entry) → IsHistory p (e ∷ h) → OnStanding (Stands p h) (place_of p n h) → OnStanding (Stands p (e ∷ h)) (place_of p n (e ∷ h))
stands_step p n e h l i =
    standing_step p n h e.op (place_of p n h) (Stands p (e ∷ h))
    (λ f b _. later f f b (at f b))
    (λ c k _ r q. inr refl)
    (λ f r b a q. goes f r b a q)
  where
    at : (f : Follower) → place_of p n h ≡ Following f → Stands p h f
    at f b = subst (OnStanding (Stands p h)) b i

    sent : (f : Follower) → place_of p n h ≡ Following f → f.k ≤ sends_of f.session h
    sent f b = (reached p n f.session f.k h l.0 (follower_task p n h f l.0 b)).2

    later : (f g : Follower) → place_of p n h ≡ Following f → StandsIn p h f.session f.k g → StandsIn p (e ∷ h) f.session f.k g
    later f g b j r q =
        subst (λ v. StandsSo (settled_of f.session (e ∷ h)) v r g g.stage) (sym (ap seen_from (origin_stays f.session f.k e h (sent f b))))
        (stays_so (settled_of f.session h) (settled_of f.session (e ∷ h)) (seen_with f.session f.k h) r g g.stage (counts_more f.session (settled_in h e.op) (settled_of f.session h) (settled_of f.session h) (omega arith)) (j r (sym (request_stays p f.session f.k e h (sent f b)) ∙ q)))

    same : (r s : Request) (o : Option Request) → o ≡ Some r → o ≡ Some s → r ≡ s
    same r s o a b = grind arith

    goes : (f : Follower) (r : Request) → place_of p n h ≡ Following f → actor e.op ≡ Some n → request_of p f.session f.k h ≡ Some r → Stands p (e ∷ h) (next_with p h r e.op f)
    goes f r b a q =
        let g = next_with p h r e.op f in
        let x = ahead p h r e.op f in
        let m = moves_so p n (seen_with f.session f.k h) h r e.op f refl (due p e h l) b a (task_at_most_next p n f.session f.k h l.0 (follower_task p n h f l.0 b)) (at f b r q) in
        subst (λ c. StandsIn p (e ∷ h) c g.k g) (sym x.0) (subst (λ k. StandsIn p (e ∷ h) f.session k g) (sym x.1)
        (later f g b (λ s u. subst (λ y. StandsSo (settled_of f.session h) (seen_with f.session f.k h) y g g.stage) (same r s (request_of p f.session f.k h) q u) m)))

stands : (p : Plan) (n : ℕ) (h : List Entry) → IsHistory p h → OnStanding (Stands p h) (place_of p n h)
stands p n [] l = tt
stands p n (e ∷ h) l = stands_step p n e h l (stands p n h l.0)

pub stands_at : (p : Plan) (n : ℕ) (h : List Entry) (f : Follower) (r : Request) → IsHistory p h → place_of p n h ≡ Following f → request_of p f.session f.k h ≡ Some r → StandsSo (settled_of f.session h) (seen_with f.session f.k h) r f f.stage
stands_at p n h f r l b q = subst (OnStanding (Stands p h)) b (stands p n h l) r q

decides_of : (s seen : ℕ) (r : Request) (f : Follower) (x : follower.Stage) → StandsSo s seen r f x → DecidesSo seen r f x
decides_of s seen r f follower.Owned i = i
decides_of s seen r f (follower.Lock path) i = i.1
decides_of s seen r f follower.Push i = i.1
decides_of s seen r f (follower.Refuse x at) i = i.1
decides_of s seen r f x i = tt

pub follower_decides_from_its_views : FollowerDecidesFromItsViews
follower_decides_from_its_views p n h f r l b q = decides_of (settled_of f.session h) (seen_with f.session f.k h) r f f.stage (stands_at p n h f r l b q)

pub in_order_of : (s seen : ℕ) (r : Request) (f : Follower) (x : follower.Stage) → Locks x → StandsSo s seen r f x → InOrder r f
in_order_of s seen r f (follower.Lock path) w i = i.0
in_order_of s seen r f follower.Push w i = i.0
in_order_of s seen r f (follower.Refuse x at) w i = i.0
in_order_of s seen r f x w i = absurd w

pub grants_are_the_first_lock_paths : GrantsAreTheFirstLockPaths
grants_are_the_first_lock_paths p n h f r l b q w = in_order_of (settled_of f.session h) (seen_with f.session f.k h) r f f.stage w (stands_at p n h f r l b q)
