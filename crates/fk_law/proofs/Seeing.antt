-- What a follower at work has seen is current, and a close has listed all that its session owns.
use Rattle.std.specs.Prelude.{◌==◌}
use Rattle.std.proofs.Common.{◌≡◌, ◌≢◌, ℕ, ◌+◌, ◌++◌, true, false, cond, ◌||◌, List, [], ◌∷◌, refl, sym, ◌∙◌, ap, subst, arith, Option, Some, None}
use Rattle.std.proofs.lemmas.Bool.{false≢true, or_right}
use Rattle.fk_base.specs.Path.{PathNames, path_cmp, parent, last_name, same_path}
use Rattle.fk_tree.specs.Edit.{closes}
use Rattle.fk_tree.specs.Fill.{final_path}
use Rattle.fk_tree.specs.Locks.{with_parent, with_parents, parts_lock_paths, numbered_paths, lock_paths}
use Rattle.fk_tree.specs.Sorted.{has_path, rises, in_path_order}
use Rattle.fk_tree.specs.declared.node.Node.{Node}
use Rattle.fk_tree.specs.declared.request.Request.{Request}
use Rattle.fk_tree.specs.declared.request.Request.TheVariants as request
use Rattle.fk_tree.specs.Rows.{is_of}
use Rattle.fk_tree.proofs.Order.{path_total, path_exact, same_path_is, same_path_self, child_parts, child_apart}
use Rattle.fk_tree.proofs.Rising.{below_absent}
use Rattle.fk_tree.proofs.Looking.{same_flip}
use Rattle.fk_print.specs.declared.entry.Entry.{Entry}
use Rattle.fk_print.specs.declared.op.Op.{Op}
use Rattle.fk_print.specs.declared.op.Op.TheVariants as op
use Rattle.fk_law_tree.proofs.Lists.{ordered_rises}
use Rattle.fk_law_tree.proofs.Members.{or_left}
use Rattle.fk_spec.specs.Plan.{Plan}
use Rattle.fk_spec.specs.Start.{Follows, clock_of, task_of, push_of, request_of, seen_with}
use Rattle.fk_spec.specs.Locks.{is_push_of, last_grant, grant_in}
use Rattle.fk_spec.specs.Settling.{settled_of, last_of_session}
use Rattle.fk_spec.specs.Stored.{committed_of, stored_view}
use Rattle.fk_spec.specs.Follower.{Follower, Granted, node_in, view_of, next_with, to_lock, to_begin, paths_of}
use Rattle.fk_spec.specs.Follower as follower
use Rattle.fk_spec.specs.Function.{Following, place_of, actor}
use Rattle.fk_spec.specs.Next.{IsHistory}
use Rattle.fk_law.specs.Due.{IsDue}
use Rattle.fk_law.specs.Losing.{IsOwn, IsLive}
use Rattle.fk_law.specs.Progress.{Works, progress, progress_after}
use Rattle.fk_law.specs.Seeing.{IsCurrent, AreCurrent, Locks}
use Rattle.fk_law.proofs.Due.{due}
use Rattle.fk_law.proofs.Moving.{ahead}
use Rattle.fk_law.proofs.Standing.{OnStanding, standing_step}
use Rattle.fk_law.proofs.Starting.{follower_task}
use Rattle.fk_law.proofs.Settled.{reached, task_at_most_next}
use Rattle.fk_law.proofs.Committing.{at_work_unpushed, is_push_of_it}
use Rattle.fk_law.proofs.Closing.{settled_so}
use Rattle.fk_law.proofs.Rising.{own_before}
use Rattle.fk_law.proofs.Sending.{request_stays}
use Rattle.fk_law.proofs.Clients.{follows_from_1}
use Rattle.fk_law.proofs.Deciding.{StandsSo, stands_at, in_order_of, left_over, first_left, same_follower, unsettled_nothing}
use Rattle.fk_law.proofs.Recording.{granted_after}
use Rattle.fk_law.proofs.Filling.{owned_has, not_none}
use Rattle.fk_law.proofs.Leaving.{Sees, Lists, IsSeen, Leaves, leaves, owned_back}
use Rattle.fk_base.proofs.Logic.{and_left, and_right, by_test}

-- No path is locked twice. ----------------------------------------------------------------------------

abbrev IsOnce : List PathNames → Type 0
IsOnce [] = Unit {0}
IsOnce (q ∷ qs) = (has_path q qs ≡ false) × IsOnce qs

rising_once : (qs : List PathNames) → rises path_cmp qs ≡ true → IsOnce qs
rising_once [] r = tt
rising_once (q ∷ qs) r = (below_absent path_total path_exact q qs (and_left _ _ r), rising_once qs (and_right _ _ r))

-- a path isn't its parent, nor is what stands beside it
beside_once : (d q : PathNames) (n : List ℕ) → q ≡ d ++ n ∷ [] → IsOnce (d ∷ q ∷ [])
beside_once d q n e = (ap (λ x. same_path d x || false) e ∙ (ap (λ b. b || false) (same_flip d (d ++ n ∷ []) ∙ child_apart d n)), (refl, tt))

parent_once : (p : PathNames) → IsOnce (with_parent p)
parent_once [] = (refl, tt)
parent_once (n ∷ p) = beside_once (parent (n ∷ p)) (n ∷ p) (last_name (n ∷ p)) (child_parts n p)

numbered_once : (p : PathNames) (o : Option Node) → IsOnce (numbered_paths p o)
numbered_once [] o = (refl, tt)
numbered_once (n ∷ p) None = (refl, tt)
numbered_once (n ∷ p) (Some d) = by_test (d.owner == 0) (λ b. IsOnce (parent (n ∷ p) ∷ cond b (final_path (n ∷ p) true d.made ∷ []) [])) (λ _. beside_once (parent (n ∷ p)) (final_path (n ∷ p) true d.made) _ refl) (λ _. (refl, tt))

once_locks : (gs : List Granted) (owned : List PathNames) (r : Request) → IsOnce (lock_paths (view_of gs) owned r)
once_locks gs owned (request.Create p bytes true eph) = numbered_once p (node_in gs (parent p))
once_locks gs owned (request.Create p bytes false eph) = parent_once p
once_locks gs owned (request.Set p bytes version) = (refl, tt)
once_locks gs owned (request.Delete p version) = parent_once p
once_locks gs owned (request.Close evict) = rising_once (in_path_order (with_parents owned)) (ordered_rises (with_parents owned))
once_locks gs owned (request.Multi xs) = rising_once (in_path_order (parts_lock_paths xs)) (ordered_rises (parts_lock_paths xs))

has_between : (q : PathNames) (ps zs : List PathNames) → has_path q (ps ++ q ∷ zs) ≡ true
has_between q [] zs = or_left _ _ (same_path_self q)
has_between q (p ∷ ps) zs = or_right (same_path q p) _ (has_between q ps zs)

once_before : (q : PathNames) (ps zs : List PathNames) → IsOnce (ps ++ q ∷ zs) → has_path q ps ≡ false
once_before q [] zs i = refl
once_before q (p ∷ ps) zs i = by_test (same_path q p) (λ b. (b || has_path q ps) ≡ false) (λ e. absurd (false≢true (sym i.0 ∙ (ap (λ x. has_path x (ps ++ q ∷ zs)) (sym (same_path_is q p e)) ∙ has_between q ps zs)))) (λ _. once_before q ps zs i.1)

-- the path that a follower locks next wasn't granted to it
pub lock_is_new : (s seen : ℕ) (r : Request) (f : Follower) (path : PathNames) → StandsSo s seen r f (follower.Lock path) → has_path path (paths_of f.granted) ≡ false
lock_is_new s seen r f path i =
    let b = in_order_of s seen r f (follower.Lock path) tt i in
    let w = first_left b.0 path (sym (left_over f.granted (lock_paths (view_of f.granted) f.owned r) b.0 b.1) ∙ i.1) in
    once_before path (paths_of f.granted) w.0 (subst IsOnce (b.1 ∙ ap (λ zs. paths_of f.granted ++ zs) w.1) (once_locks f.granted f.owned r))

-- Records. --------------------------------------------------------------------------------------------

-- at this path what was current stays so
abbrev Stays : Plan → ℕ → Entry → List Entry → PathNames → Type 0
Stays p n e h q = IsOwn n (last_grant q (e ∷ h)) → IsOwn n (last_grant q h) × Leaves q (committed_of p h) (committed_of p (e ∷ h))

record_stays : (p : Plan) (n : ℕ) (e : Entry) (h : List Entry) (g : Granted) → Stays p n e h g.path → (IsOwn n (last_grant g.path h) → IsCurrent p h g) → IsOwn n (last_grant g.path (e ∷ h)) → IsCurrent p (e ∷ h) g
record_stays p n e h g s i o = let w = s o in let c = i w.0 in record { node = c.node ∙ sym w.1.0; last = c.last ∙ sym w.1.1 }

records_stay : (p : Plan) (n : ℕ) (e : Entry) (h : List Entry) (gs : List Granted) → ((q : PathNames) → has_path q (paths_of gs) ≡ true → Stays p n e h q) → AreCurrent p n h gs → AreCurrent p n (e ∷ h) gs
records_stay p n e h [] s i = tt
records_stay p n e h (g ∷ gs) s i = (record_stays p n e h g (s g.path (or_left _ _ (same_path_self g.path))) i.0, records_stay p n e h gs (λ q b. s q (or_right (same_path q g.path) _ b)) i.1)

one_record_more : (p : Plan) (n : ℕ) (h : List Entry) (gs : List Granted) (g : Granted) → AreCurrent p n h gs → IsCurrent p h g → AreCurrent p n h (gs ++ g ∷ [])
one_record_more p n h [] g i c = (λ _. c, tt)
one_record_more p n h (x ∷ gs) g i c = (i.0, one_record_more p n h gs g i.1 c)

-- Views. ----------------------------------------------------------------------------------------------

own_back : (n : ℕ) (q : PathNames) (h : List Entry) (o : Op) → actor o ≢ Some n → IsOwn n (grant_in q (clock_of h) o (last_grant q h)) → IsOwn n (last_grant q h)
own_back n q h (op.LockOk m path) a i = own_before n m path q h (λ e. a (ap Some e)) i
own_back n q h o a i = i

other_path : (m : ℕ) (path q : PathNames) (h : List Entry) → same_path path q ≡ false → grant_in q (clock_of h) (op.LockOk m path) (last_grant q h) ≡ last_grant q h
other_path m path q h e = rw e refl

apart_of : (path q : PathNames) (ps : List PathNames) → has_path path ps ≡ false → has_path q ps ≡ true → same_path path q ≡ false
apart_of path q ps a b = by_test (same_path path q) (λ z. z ≡ false) (λ e. absurd (false≢true (sym a ∙ ap (λ x. has_path x ps) (same_path_is path q e) ∙ b))) (λ _. refl)

-- a follower at work has pushed nothing, so what commits isn't its own
pub works_apart : (p : Plan) (n : ℕ) (h : List Entry) (f : Follower) → IsHistory p h → place_of p n h ≡ Following f → progress f.stage ≡ Works → (t : ℕ) (x : IsLive t h) → n ≢ x.function
works_apart p n h f l b w t x e = false≢true (sym (at_work_unpushed p t n h f l b w) ∙ subst (λ m. is_push_of m (push_of t h) ≡ true) (sym e) (is_push_of_it t x.function x.session x.k h x.is_of))

sees_moves : (p : Plan) (n : ℕ) (e : Entry) (h : List Entry) (r : Request) (o : Op) (f : Follower) → e.op ≡ o → IsDue p h o → place_of p n h ≡ Following f → actor o ≡ Some n
    → StandsSo (settled_of f.session h) (seen_with f.session f.k h) r f f.stage → Sees p n h f → progress_after o (progress f.stage) ≡ Works → AreCurrent p n (e ∷ h) (next_with p h r o f).granted
sees_moves p n e h r (op.SessionNew m) f u d b a i s w =
    let x = same_follower p h m n d.0 f d.1 a b in
    let z : settled_of f.session h + 1 ≡ f.k = subst (λ y. settled_of y.session h + 1 ≡ y.k) x d.3 in
    let g = unsettled_nothing (settled_of f.session h) (seen_with f.session f.k h) r f z (subst (StandsSo (settled_of f.session h) (seen_with f.session f.k h) r f) (subst (λ y. y.stage ≡ follower.Session) x d.2) i) in
    subst (AreCurrent p n (e ∷ h)) (sym (granted_after p h r m f ∙ g)) tt
sees_moves p n e h r (op.Owned m count) f u d b a i s w =
    let x = same_follower p h m n d.0 f d.1 a b in
    let j : StandsSo (settled_of f.session h) (seen_with f.session f.k h) r f follower.Owned = subst (StandsSo (settled_of f.session h) (seen_with f.session f.k h) r f) (subst (λ y. y.stage ≡ follower.Owned) x d.2) i in
    subst (AreCurrent p n (e ∷ h)) (sym j.1) tt
sees_moves p n e h r (op.LockOk m path) f u d b a i s w =
    let x = same_follower p h m n d.0 f d.1 a b in
    let y : f.stage ≡ follower.Lock path = subst (λ y. y.stage ≡ follower.Lock path) x d.2 in
    let new = lock_is_new (settled_of f.session h) (seen_with f.session f.k h) r f path (subst (StandsSo (settled_of f.session h) (seen_with f.session f.k h) r f) y i) in
    one_record_more p n (e ∷ h) f.granted _
    (records_stay p n e h f.granted (λ q c v. (subst (IsOwn n) (ap (λ z. grant_in q (clock_of h) z (last_grant q h)) u ∙ other_path m path q h (apart_of path q (paths_of f.granted) new c)) v, rw u (refl, refl))) (s (ap progress y)))
    (record { node = rw u refl; last = rw u refl })
sees_moves p n e h r (op.LockBusy m path holder moment) f u d b a i s w = records_stay p n e h f.granted (λ q c v. (subst (IsOwn n) (ap (λ z. grant_in q (clock_of h) z (last_grant q h)) u) v, rw u (refl, refl))) (s w)
sees_moves p n e h r o f u d b a i s w = absurd (grind arith)

pub sees_step : (p : Plan) (n : ℕ) (e : Entry) (h : List Entry) → IsHistory p (e ∷ h) → IsSeen p h → OnStanding (Sees p n (e ∷ h)) (place_of p n (e ∷ h))
sees_step p n e h l i =
    standing_step p n h e.op (place_of p n h) (Sees p n (e ∷ h))
    (λ f b a w. records_stay p n e h f.granted (λ q _ v. let o = own_back n q h e.op a v in (o, leaves p n h q e.op l.0 (due p e h l) i (λ m t _ x. works_apart p n h f l.0 b w t x) o)) (at f b w))
    (λ c k _ w. tt)
    (λ f r b a q w. sees_moves p n e h r e.op f refl (due p e h l) b a (stands_at p n h f r l.0 b q) (at f b) (sym (ahead p h r e.op f).2 ∙ w))
  where
    at : (f : Follower) → place_of p n h ≡ Following f → Sees p n h f
    at f b = subst (OnStanding (Sees p n h)) b (i.views n)

-- Lists. ----------------------------------------------------------------------------------------------

-- what a close lists of its session c with message k
abbrev ListsIn : Plan → List Entry → ℕ → ℕ → Follower → Type 0
ListsIn p h c k f = (r : Request) → request_of p c k h ≡ Some r → closes r ≡ true → Locks f.stage → settled_of c h + 1 ≡ k → (q : PathNames) → is_of c ((stored_view p h).node q) ≡ true → has_path q f.owned ≡ true

begins_no_list : (seen : ℕ) (r : Request) (f : Follower) → closes r ≡ true → Locks (to_begin seen r f).stage → ⊥
begins_no_list seen r f c w = subst (λ b. Locks (cond b (record f { stage = follower.Owned }) (to_lock seen r f)).stage) c w

lists_move : (p : Plan) (n : ℕ) (h : List Entry) (r : Request) (o : Op) (f : Follower) → f.session ≢ 0 → IsDue p h o → place_of p n h ≡ Following f → actor o ≡ Some n → closes r ≡ true
    → (Locks f.stage → (q : PathNames) → is_of f.session ((stored_view p h).node q) ≡ true → has_path q f.owned ≡ true)
    → Locks (next_with p h r o f).stage → (q : PathNames) → is_of f.session ((stored_view p h).node q) ≡ true → has_path q (next_with p h r o f).owned ≡ true
lists_move p n h r (op.SessionNew m) f z d b a c i w q v = absurd (begins_no_list (seen_with f.session f.k h) r (record f { last = last_of_session f.session h }) c w)
lists_move p n h r (op.Owned m count) f z d b a c i w q v = owned_has f.session (committed_of p h) q z ∙ v
lists_move p n h r (op.LockOk m path) f z d b a c i w q v = i (subst Locks (sym (subst (λ y. y.stage ≡ follower.Lock path) (same_follower p h m n d.0 f d.1 a b) d.2)) tt) q v
lists_move p n h r (op.LockBusy m path holder moment) f z d b a c i w q v = i w q v
lists_move p n h r o f z d b a c i w q v = absurd w

pub lists_step : (p : Plan) (n : ℕ) (e : Entry) (h : List Entry) → IsHistory p (e ∷ h) → IsSeen p h → OnStanding (Lists p (e ∷ h)) (place_of p n (e ∷ h))
lists_step p n e h l i =
    standing_step p n h e.op (place_of p n h) (Lists p (e ∷ h))
    (λ f b _. later f f b (at f b))
    (λ c k _ r _ _ w. absurd w)
    (λ f r b a q. goes f r b a q)
  where
    at : (f : Follower) → place_of p n h ≡ Following f → Lists p h f
    at f b = subst (OnStanding (Lists p h)) b (i.lists n)

    task : (f : Follower) → place_of p n h ≡ Following f → task_of n h ≡ Some (Follows f.session f.k)
    task f b = follower_task p n h f l.0 b

    client : (f : Follower) → place_of p n h ≡ Following f → f.session ≢ 0
    client f b = not_none f.session (follows_from_1 p n f.session f.k h l.0 (task f b))

    later : (f g : Follower) → place_of p n h ≡ Following f → ListsIn p h f.session f.k g → ListsIn p (e ∷ h) f.session f.k g
    later f g b j r q c w s x v =
        let m = task_at_most_next p n f.session f.k h l.0 (task f b) in
        j r (sym (request_stays p f.session f.k e h (reached p n f.session f.k h l.0 (task f b)).2) ∙ q) c w (settled_so p f.session f.k e h m s) x
        (owned_back p f.session f.k h x e.op l.0 (due p e h l) (client f b) m s v)

    same : (r s : Request) (o : Option Request) → o ≡ Some r → o ≡ Some s → r ≡ s
    same r s o a b = grind arith

    goes : (f : Follower) (r : Request) → place_of p n h ≡ Following f → actor e.op ≡ Some n → request_of p f.session f.k h ≡ Some r → Lists p (e ∷ h) (next_with p h r e.op f)
    goes f r b a q =
        let g = next_with p h r e.op f in
        let x = ahead p h r e.op f in
        subst (λ c. ListsIn p (e ∷ h) c g.k g) (sym x.0) (subst (λ k. ListsIn p (e ∷ h) f.session k g) (sym x.1)
        (later f g b (λ s u c w v. lists_move p n h r e.op f (client f b) (due p e h l) b a (subst (λ y. closes y ≡ true) (same s r (request_of p f.session f.k h) u q) c) (λ y. at f b s u c y v) w)))
