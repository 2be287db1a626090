-- A step of the function in flight keeps a history of a drain calm.
use Rattle.std.specs.Prelude.{◌==◌, ◌||◌, if◌then◌else◌, nat_lt}
use Rattle.std.proofs.Common.{◌≡◌, ◌≢◌, ℕ, ◌+◌, ◌≤◌, ◌++◌, ◌⊎◌, inl, inr, Bool, true, false, List, [], ◌∷◌, refl, sym, ◌∙◌, ap, subst, arith, Option, Some, None}
use Rattle.std.proofs.lemmas.Bool.{false≢true}
use Rattle.std.proofs.lemmas.Bool.Decides.{nat_tests}
use Rattle.std.proofs.lemmas.Option.{same_Some, none-some}
use Rattle.fk_base.specs.Path.{PathNames, same_path}
use Rattle.fk_tree.specs.Sorted.{has_path}
use Rattle.fk_tree.specs.declared.request.Request.{Request}
use Rattle.fk_print.specs.declared.entry.Entry.{Entry}
use Rattle.fk_print.specs.declared.op.Op.{Op}
use Rattle.fk_print.specs.declared.op.Op.TheVariants as op
use Rattle.fk_spec.specs.Plan.{Plan}
use Rattle.fk_spec.specs.Start.{Task, clock_of, count_start, request_of, starts_of}
use Rattle.fk_spec.specs.Locks.{Grant, grant_in, granted, granted_in, has_released, last_grant, may_grant, releases}
use Rattle.fk_spec.specs.Settling.{count_settling, settled_in, settled_of}
use Rattle.fk_spec.specs.Lanes.{follows_session, leads, notifies, removed_by, removed_in}
use Rattle.fk_spec.specs.Follower.{Follower, next_for, next_with}
use Rattle.fk_spec.specs.Follower as follower
use Rattle.fk_spec.specs.Leader.{next_leader}
use Rattle.fk_spec.specs.Leader as leader
use Rattle.fk_spec.specs.Teller.{next_teller}
use Rattle.fk_spec.specs.Teller as teller
use Rattle.fk_spec.specs.Function.{Place, Absent, Following, Leading, Telling, Beating, actor, follow_on, is_absent, lead_on, moved, place_of, tell_on}
use Rattle.fk_spec.specs.Next.{IsHistory}
use Rattle.fk_law.specs.Due.{Acks, Commits, IsDue, Replies}
use Rattle.fk_law.specs.Losing.{IsOwn}
use Rattle.fk_law.specs.Progress.{Ends, progress, progress_after}
use Rattle.fk_law.proofs.Deciding.{same_follower}
use Rattle.fk_law.proofs.Due.{due}
use Rattle.fk_law.proofs.Growing.{numbers_never_fall}
use Rattle.fk_law.proofs.Losing.{has_last, same_sym}
use Rattle.fk_law.proofs.Moving.{IsAhead, ahead, last_after, place_step}
use Rattle.fk_law.proofs.Pushing.{at_commit}
use Rattle.fk_law.proofs.Sending.{sent_has_a_request}
use Rattle.fk_law.proofs.Settled.{reached}
use Rattle.fk_law.proofs.Starting.{follower_task, no_start, own_operation_moves_it}
use Rattle.fk_law_drain.specs.Draining.{HoldsLocks, IsCalm, IsHolder, IsUnhindered, SettlesNext, WorksOnTheHead}
use Rattle.fk_law_drain.proofs.Unhindered.{GoesOn}

-- Where a follower stands after its own operation. -----------------------------------------------------

-- a follower of a lane has a request
pub its_request : (p : Plan) (n : ℕ) (h : List Entry) (f : Follower) → IsHistory p h → place_of p n h ≡ Following f → (r : Request) × (request_of p f.session f.k h ≡ Some r)
its_request p n h f l b = let r = reached p n f.session f.k h l (follower_task p n h f l b) in sent_has_a_request p f.session f.k h l r.0 r.2

pub follower_after : (p : Plan) (n : ℕ) (e : Entry) (h : List Entry) (f : Follower) (r : Request) → actor e.op ≡ Some n → place_of p n h ≡ Following f → request_of p f.session f.k h ≡ Some r → place_of p n (e ∷ h) ≡ follow_on (next_with p h r e.op f).stage (next_with p h r e.op f)
follower_after p n e h f r a b q = own_operation_moves_it p n e h a ∙ (ap (moved p h e.op) b ∙ ap (λ z. let g = next_for p h z e.op f in follow_on g.stage g) q)

follow_keeps : (P : Place → Type 0) (s : follower.Stage) (g : Follower) → P Absent → (progress s ≢ Ends → P (Following g)) → P (follow_on s g)
follow_keeps P follower.Ended g a b = a
follow_keeps P follower.Session g a b = b (λ e. absurd (grind arith))
follow_keeps P follower.Owned g a b = b (λ e. absurd (grind arith))
follow_keeps P (follower.Lock path) g a b = b (λ e. absurd (grind arith))
follow_keeps P follower.Push g a b = b (λ e. absurd (grind arith))
follow_keeps P (follower.Refuse x at) g a b = b (λ e. absurd (grind arith))
follow_keeps P (follower.Expire at) g a b = b (λ e. absurd (grind arith))
follow_keeps P (follower.Commit t) g a b = b (λ e. absurd (grind arith))
follow_keeps P follower.Lost g a b = b (λ e. absurd (grind arith))
follow_keeps P follower.Reply g a b = b (λ e. absurd (grind arith))
follow_keeps P follower.Ack g a b = b (λ e. absurd (grind arith))

-- a follower that holds locks after its operation stands
holder_after : (s : follower.Stage) (g : Follower) → s ≡ g.stage → HoldsLocks (progress s) → IsHolder (follow_on s g)
holder_after follower.Ended g e i = absurd i
holder_after follower.Session g e i = absurd i
holder_after follower.Owned g e i = subst (λ z. HoldsLocks (progress z)) e i
holder_after (follower.Lock path) g e i = subst (λ z. HoldsLocks (progress z)) e i
holder_after follower.Push g e i = subst (λ z. HoldsLocks (progress z)) e i
holder_after (follower.Refuse x at) g e i = subst (λ z. HoldsLocks (progress z)) e i
holder_after (follower.Expire at) g e i = absurd i
holder_after (follower.Commit t) g e i = subst (λ z. HoldsLocks (progress z)) e i
holder_after follower.Lost g e i = absurd i
holder_after follower.Reply g e i = absurd i
holder_after follower.Ack g e i = absurd i

-- Lanes. -----------------------------------------------------------------------------------------------

-- an operation that removes no message
abbrev pub NotAck : Op → Type 0
NotAck (op.AckOk n) = ⊥
NotAck _ = Unit {0}

pub not_removed : (w : Option Task → Bool) (h : List Entry) (o : Op) (r : ℕ) → NotAck o → removed_in w h o r ≡ r
not_removed w h (op.AckOk n) r i = absurd i
not_removed w h o r i = refl

settles_next : (p : Plan) (n : ℕ) (h : List Entry) (f : Follower) (o : Op) → IsDue p h o → place_of p n h ≡ Following f → actor o ≡ Some n → IsUnhindered (Following f) o → SettlesNext (settled_of f.session h) f.k (progress f.stage) → SettlesNext (count_settling f.session (settled_in h o) (settled_of f.session h)) f.k (progress_after o (progress f.stage))
settles_next p n h f (op.SessionNew m) d b a u i = let y = same_follower p h m n d.0 f d.1 a b in subst (λ z. settled_of z.session h + 1 ≡ z.k) y d.3
settles_next p n h f (op.SessionClosed m) d b a u i = let y = same_follower p h m n d.0 f d.1 a b in subst (λ z. settled_of z.session h + 1 ≡ z.k) y d.3
settles_next p n h f (op.Owned m count) d b a u i = let y = same_follower p h m n d.0 f d.1 a b in subst (λ z. SettlesNext (settled_of f.session h) f.k (progress z)) (subst (λ z. z.stage ≡ follower.Owned) y d.2) i
settles_next p n h f (op.LockOk m path) d b a u i = let y = same_follower p h m n d.0 f d.1 a b in subst (λ z. SettlesNext (settled_of f.session h) f.k (progress z)) (subst (λ z. z.stage ≡ follower.Lock path) y d.2) i
settles_next p n h f (op.Push m t) d b a u i = let y = same_follower p h m n d.0 f d.1 a b in subst (λ z. SettlesNext (settled_of f.session h) f.k (progress z)) (subst (λ z. z.stage ≡ follower.Push) y d.2) i
settles_next p n h f (op.LockBusy m path holder moment) d b a u i = absurd u
settles_next p n h f (op.CommitLock m t path holder moment) d b a u i = absurd u
settles_next p n h f (op.RefuseLock m cd place at path holder moment) d b a u i = absurd u
settles_next p n h f o d b a u i = tt

follower_works : (p : Plan) (n : ℕ) (e : Entry) (h : List Entry) (f : Follower) → IsHistory p (e ∷ h) → place_of p n h ≡ Following f → actor e.op ≡ Some n → IsUnhindered (Following f) e.op → (f.k ≡ removed_by (follows_session f.session) h + 1) × SettlesNext (settled_of f.session h) f.k (progress f.stage) → WorksOnTheHead (e ∷ h) (place_of p n (e ∷ h))
follower_works p n e h f l b a u w = subst (WorksOnTheHead (e ∷ h)) (sym (follower_after p n e h f r.0 a b r.1)) (follow_keeps (WorksOnTheHead (e ∷ h)) g.stage g tt going)
  where
    r : (r : Request) × (request_of p f.session f.k h ≡ Some r)
    r = its_request p n h f l.0 b

    g : Follower
    g = next_with p h r.0 e.op f

    x : IsAhead f (progress_after e.op (progress f.stage)) (last_after h e.op f) g
    x = ahead p h r.0 e.op f

    unacked : (o : Op) → progress_after o (progress f.stage) ≢ Ends → NotAck o
    unacked (op.AckOk m) i = absurd (i refl)
    unacked o i = tt

    going : progress g.stage ≢ Ends → WorksOnTheHead (e ∷ h) (Following g)
    going i =
        let s = settles_next p n h f e.op (due p e h l) b a u w.1 in
        let q = not_removed (follows_session f.session) h e.op (removed_by (follows_session f.session) h) (unacked e.op (λ z. i (x.2 ∙ z))) in (
          x.1 ∙ (w.0 ∙ ap (λ z. z + 1) (sym q ∙ ap (λ z. removed_by (follows_session z) (e ∷ h)) (sym x.0))),
          subst (λ z. SettlesNext (settled_of z (e ∷ h)) g.k (progress g.stage)) (sym x.0) (subst (λ z. SettlesNext (settled_of f.session (e ∷ h)) z (progress g.stage)) (sym x.1) (subst (SettlesNext (settled_of f.session (e ∷ h)) f.k) (sym x.2) s)),
        )

lead_keeps : (h : List Entry) (t : ℕ) (s : leader.Stage) → t ≡ removed_by leads h + 1 → WorksOnTheHead h (lead_on t s)
lead_keeps h t leader.Ended e = tt
lead_keeps h t s e = e

tell_keeps : (h : List Entry) (w t : ℕ) (s : teller.Stage) → w ≡ removed_by notifies h + 1 → WorksOnTheHead h (tell_on w t s)
tell_keeps h w t teller.Ended e = tt
tell_keeps h w t s e = e

leader_works : (p : Plan) (n t : ℕ) (e : Entry) (h : List Entry) (s : leader.Stage) → place_of p n h ≡ Leading t s → actor e.op ≡ Some n → t ≡ removed_by leads h + 1 → (o : Op) → e.op ≡ o → WorksOnTheHead (e ∷ h) (place_of p n (e ∷ h))
leader_works p n t e h s b a w o q = subst (WorksOnTheHead (e ∷ h)) (sym (own_operation_moves_it p n e h a ∙ ap (moved p h e.op) b)) (by_op o q)
  where
    by_op : (o : Op) → e.op ≡ o → WorksOnTheHead (e ∷ h) (moved p h e.op (Leading t s))
    by_op (op.AckOk m) q = subst (λ z. WorksOnTheHead (e ∷ h) (moved p h z (Leading t s))) (sym q) tt
    by_op o q = lead_keeps (e ∷ h) t (next_leader p h t e.op s) (w ∙ ap (λ z. removed_in leads h z (removed_by leads h) + 1) (sym q))

teller_works : (p : Plan) (n m t : ℕ) (e : Entry) (h : List Entry) (s : teller.Stage) → place_of p n h ≡ Telling m t s → actor e.op ≡ Some n → m ≡ removed_by notifies h + 1 → (o : Op) → e.op ≡ o → WorksOnTheHead (e ∷ h) (place_of p n (e ∷ h))
teller_works p n m t e h s b a w o q = subst (WorksOnTheHead (e ∷ h)) (sym (own_operation_moves_it p n e h a ∙ ap (moved p h e.op) b)) (by_op o q)
  where
    by_op : (o : Op) → e.op ≡ o → WorksOnTheHead (e ∷ h) (moved p h e.op (Telling m t s))
    by_op (op.AckOk x) q = subst (λ z. WorksOnTheHead (e ∷ h) (moved p h z (Telling m t s))) (sym q) tt
    by_op o q = tell_keeps (e ∷ h) m t (next_teller e.op s) (w ∙ ap (λ z. removed_in notifies h z (removed_by notifies h) + 1) (sym q))

-- Locks. -----------------------------------------------------------------------------------------------

grant_kept : (lock : ℕ) (e : Entry) (h : List Entry) (g : Option Grant) → may_grant lock h g ≡ true → may_grant lock (e ∷ h) g ≡ true
grant_kept lock e h None i = refl
grant_kept lock e h (Some g) i = later (releases g.holder h e.op) (has_released g.holder h) (nat_lt (g.moment + lock) (clock_of h)) (nat_lt (g.moment + lock) (clock_of (e ∷ h))) (more (numbers_never_fall h (e ∷ [])).clock) i
  where
    more : clock_of h ≤ clock_of (e ∷ h) → nat_lt (g.moment + lock) (clock_of h) ≡ true → nat_lt (g.moment + lock) (clock_of (e ∷ h)) ≡ true
    more a b = grind (arith, nat_tests)

    later : (r a b c : Bool) → (b ≡ true → c ≡ true) → (a || b) ≡ true → ((r || a) || c) ≡ true
    later true a b c f i = refl
    later false true b c f i = refl
    later false false b c f i = f i

-- what function n was granted last may be granted once n has released
released_free : (lock n : ℕ) (h : List Entry) (g : Option Grant) → IsOwn n g → has_released n h ≡ true → may_grant lock h g ≡ true
released_free lock n h None i r = absurd i
released_free lock n h (Some g) i r = subst (λ m. (has_released m h || nat_lt (g.moment + lock) (clock_of h)) ≡ true) (sym i) (subst (λ b. (b || nat_lt (g.moment + lock) (clock_of h)) ≡ true) (sym r) refl)

-- whether a lock may be granted, or function n holds it
abbrev pub IsFree : Plan → ℕ → List Entry → PathNames → Type 0
IsFree p n h path = (may_grant p.lock h (last_grant path h) ≡ true) ⊎ (IsHolder (place_of p n h) × IsOwn n (last_grant path h))

-- the locks of one that holds them stay held, or are released by its operation
holds_on : (p : Plan) (n : ℕ) (h : List Entry) (f : Follower) (o : Op) → IsHistory p h → IsDue p h o → place_of p n h ≡ Following f → actor o ≡ Some n → IsUnhindered (Following f) o → HoldsLocks (progress f.stage) → HoldsLocks (progress_after o (progress f.stage)) ⊎ (releases n h o ≡ true)
holds_on p n h f (op.SessionNew m) l d b a u i = inl tt
holds_on p n h f (op.Owned m count) l d b a u i = inl tt
holds_on p n h f (op.LockOk m path) l d b a u i = inl tt
holds_on p n h f (op.Push m t) l d b a u i = inl tt
holds_on p n h f (op.LockBusy m path holder moment) l d b a u i = absurd u
holds_on p n h f (op.CommitSettled m t s) l d b a u i = absurd u
holds_on p n h f (op.CommitLock m t path holder moment) l d b a u i = absurd u
holds_on p n h f (op.RefuseSettled m cd place at s) l d b a u i = absurd u
holds_on p n h f (op.RefuseLock m cd place at path holder moment) l d b a u i = absurd u
holds_on p n h f (op.LostOk m) l d b a u i = absurd u
holds_on p n h f (op.LostSettled m s) l d b a u i = absurd u
holds_on p n h f (op.Crash m) l d b a u i = absurd u
holds_on p n h f (op.Fault m word) l d b a u i = absurd u
holds_on p n h f (op.AckGone m) l d b a u i = absurd u
holds_on p n h f (op.RefuseOk m cd place at) l d b a u i = inr (its (grind arith))
  where
    its : m ≡ n → (m == n) ≡ true
    its e = grind (arith, nat_tests)
holds_on p n h f (op.CommitOk m t) l d b a u i = inr (at_commit p t n h f l b (its (subst (Commits m t d.0 d.1 d.2 h) (ap (λ z. place_of p z h) (same a) ∙ b) d.3)))
  where
    same : Some m ≡ Some n → m ≡ n
    same e = grind arith

    its : Commits m t d.0 d.1 d.2 h (Following f) → f.stage ≡ follower.Commit t
    its c = c.0
holds_on p n h f (op.SessionClosed m) l d b a u i = absurd (asks (same_follower p h m n d.0 f d.1 a b))
  where
    asks : d.0 ≡ f → ⊥
    asks y = subst (λ z. HoldsLocks (progress z)) (subst (λ z. z.stage ≡ follower.Session) y d.2) i
holds_on p n h f (op.SessionApplied m) l d b a u i = absurd (asks (same_follower p h m n d.0 f d.1 a b))
  where
    asks : d.0 ≡ f → ⊥
    asks y = subst (λ z. HoldsLocks (progress z)) (subst (λ z. z.stage ≡ follower.Session) y d.2) i
holds_on p n h f (op.SessionRefused m) l d b a u i = absurd (asks (same_follower p h m n d.0 f d.1 a b))
  where
    asks : d.0 ≡ f → ⊥
    asks y = subst (λ z. HoldsLocks (progress z)) (subst (λ z. z.stage ≡ follower.Session) y d.2) i
holds_on p n h f (op.SessionPast m) l d b a u i = absurd (asks (same_follower p h m n d.0 f d.1 a b))
  where
    asks : d.0 ≡ f → ⊥
    asks y = subst (λ z. HoldsLocks (progress z)) (subst (λ z. z.stage ≡ follower.Session) y d.2) i
holds_on p n h f (op.Reply m c k) l d b a u i = absurd (subst (λ z. HoldsLocks (progress z)) (replies (subst (Replies c k h) (ap (λ z. place_of p z h) (same a) ∙ b) d)) i)
  where
    same : Some m ≡ Some n → m ≡ n
    same e = grind arith

    replies : Replies c k h (Following f) → f.stage ≡ follower.Reply
    replies x = x.0
holds_on p n h f (op.AckOk m) l d b a u i = absurd (subst (λ z. HoldsLocks (progress z)) (acks (subst (Acks h) (ap (λ z. place_of p z h) (same a) ∙ b) d)) i)
  where
    same : Some m ≡ Some n → m ≡ n
    same e = grind arith

    acks : Acks h (Following f) → f.stage ≡ follower.Ack
    acks x = x.0
holds_on p n h f o l d b a u i = absurd (grind arith)

-- a line that grants no lock
abbrev pub NoGrant : Op → Type 0
NoGrant (op.LockOk n path) = ⊥
NoGrant _ = Unit {0}

pub other_grant : (q : PathNames) (moment : ℕ) (o : Op) (g : Option Grant) → NoGrant o → grant_in q moment o g ≡ g
other_grant q moment (op.LockOk n path) g i = absurd i
other_grant q moment o g i = refl

pub other_granted : (n : ℕ) (o : Op) (ps : List PathNames) → NoGrant o → granted_in n o ps ≡ ps
other_granted n (op.LockOk m path) ps i = absurd i
other_granted n o ps i = refl

-- the last grant after a grant to function n
own_grant : (n m : ℕ) (path q : PathNames) (moment : ℕ) (g : Option Grant) → m ≡ n → same_path path q ≡ true → IsOwn n (grant_in q moment (op.LockOk m path) g)
own_grant n m path q moment g e s = subst (λ b. IsOwn n (if b then Some (record { holder = m; moment = moment }) else g)) (sym s) e

apart_grant : (m : ℕ) (path q : PathNames) (moment : ℕ) (g : Option Grant) → same_path path q ≡ false → grant_in q moment (op.LockOk m path) g ≡ g
apart_grant m path q moment g s = ap (λ b. if b then Some (record { holder = m; moment = moment }) else g) s

-- what n was granted before a grant of another path
granted_before : (n m : ℕ) (path q : PathNames) (ps : List PathNames) → same_path path q ≡ false → has_path q (granted_in n (op.LockOk m path) ps) ≡ true → has_path q ps ≡ true
granted_before n m path q ps s i = by_function (m == n) refl i
  where
    by_old : has_path q (ps ++ path ∷ []) ≡ true → (b : Bool) → has_path q ps ≡ b → b ≡ true
    by_old i true e = refl
    by_old i false e = absurd (false≢true (sym s ∙ same_sym q path (has_last q path ps i e)))

    by_function : (b : Bool) → (m == n) ≡ b → has_path q (if b then ps ++ path ∷ [] else ps) ≡ true → has_path q ps ≡ true
    by_function true e i = by_old i (has_path q ps) refl
    by_function false e i = i

abbrev IsOwnEach : Plan → ℕ → List Entry → Type 0
IsOwnEach p n h = (path : PathNames) → has_path path (granted n h) ≡ true → IsOwn n (last_grant path h)

own_stays : (p : Plan) (n : ℕ) (e : Entry) (h : List Entry) (o : Op) → e.op ≡ o → actor o ≡ Some n → IsOwnEach p n h → IsOwnEach p n (e ∷ h)
own_stays p n e h (op.LockOk m path) q a i w g =
    subst (λ z. IsOwn n (grant_in w (clock_of h) z (last_grant w h))) (sym q) (by_path (same_path path w) refl)
  where
    its : Some m ≡ Some n → m ≡ n
    its e = grind arith

    before : has_path w (granted_in n (op.LockOk m path) (granted n h)) ≡ true
    before = subst (λ z. has_path w (granted_in n z (granted n h)) ≡ true) q g

    by_path : (b : Bool) → same_path path w ≡ b → IsOwn n (grant_in w (clock_of h) (op.LockOk m path) (last_grant w h))
    by_path true s = own_grant n m path w (clock_of h) (last_grant w h) (its a) s
    by_path false s = subst (IsOwn n) (sym (apart_grant m path w (clock_of h) (last_grant w h) s)) (i w (granted_before n m path w (granted n h) s before))
own_stays p n e h o q a i w g = subst (λ z. IsOwn n (grant_in w (clock_of h) z (last_grant w h))) (sym q) (i w (subst (λ z. has_path w (granted_in n z (granted n h)) ≡ true) q g))

-- Steps of functions. ----------------------------------------------------------------------------------

follower_free : (p : Plan) (n : ℕ) (e : Entry) (h : List Entry) (f : Follower) (path : PathNames) → IsHistory p (e ∷ h) → place_of p n h ≡ Following f → actor e.op ≡ Some n → IsUnhindered (Following f) e.op → IsFree p n h path → (o : Op) → e.op ≡ o → IsFree p n (e ∷ h) path
follower_free p n e h f path l b a u i o q = by_op o q i
  where
    r : (r : Request) × (request_of p f.session f.k h ≡ Some r)
    r = its_request p n h f l.0 b

    g : Follower
    g = next_with p h r.0 e.op f

    holds : HoldsLocks (progress_after e.op (progress f.stage)) → IsHolder (place_of p n (e ∷ h))
    holds x = subst IsHolder (sym (follower_after p n e h f r.0 a b r.1)) (holder_after g.stage g refl (subst HoldsLocks (sym (ahead p h r.0 e.op f).2) x))

    held : HoldsLocks (progress_after e.op (progress f.stage)) ⊎ (releases n h e.op ≡ true) → IsOwn n (last_grant path (e ∷ h)) → IsFree p n (e ∷ h) path
    held (inl x) y = inr (holds x, y)
    held (inr x) y = inl (released_free p.lock n (e ∷ h) (last_grant path (e ∷ h)) y (ap (λ z. z || has_released n h) x))

    unchanged : last_grant path (e ∷ h) ≡ last_grant path h → IsFree p n h path → IsFree p n (e ∷ h) path
    unchanged s (inl x) = inl (subst (λ z. may_grant p.lock (e ∷ h) z ≡ true) (sym s) (grant_kept p.lock e h (last_grant path h) x))
    unchanged s (inr x) = held (holds_on p n h f e.op l.0 (due p e h l) b a u (subst IsHolder b x.0)) (subst (IsOwn n) (sym s) x.1)

    by_path : (m : ℕ) (w : PathNames) → e.op ≡ op.LockOk m w → (d : Bool) → same_path w path ≡ d → IsFree p n h path → IsFree p n (e ∷ h) path
    by_path m w q true s x = inr (holds (subst (λ z. HoldsLocks (progress_after z (progress f.stage))) (sym q) tt), subst (λ z. IsOwn n (grant_in path (clock_of h) z (last_grant path h))) (sym q) (own_grant n m w path (clock_of h) (last_grant path h) (its (sym (ap actor q) ∙ a)) s))
      where
        its : Some m ≡ Some n → m ≡ n
        its e = grind arith
    by_path m w q false s x = unchanged (ap (λ z. grant_in path (clock_of h) z (last_grant path h)) q ∙ apart_grant m w path (clock_of h) (last_grant path h) s) x

    by_op : (o : Op) → e.op ≡ o → IsFree p n h path → IsFree p n (e ∷ h) path
    by_op (op.LockOk m w) q x = by_path m w q (same_path w path) refl x
    by_op o q x = unchanged (ap (λ z. grant_in path (clock_of h) z (last_grant path h)) q) x

-- a lock that may be granted stays so where nothing is granted
pub may_stay : (p : Plan) (n : ℕ) (e : Entry) (h : List Entry) (path : PathNames) → NoGrant e.op → may_grant p.lock h (last_grant path h) ≡ true → IsFree p n (e ∷ h) path
may_stay p n e h path g x = inl (subst (λ z. may_grant p.lock (e ∷ h) z ≡ true) (sym (other_grant path (clock_of h) e.op (last_grant path h) g)) (grant_kept p.lock e h (last_grant path h) x))

no_grant : (p : Plan) (n : ℕ) (h : List Entry) (o : Op) → IsDue p h o → actor o ≡ Some n → ((f : Follower) → place_of p n h ≡ Following f → ⊥) → NoGrant o
no_grant p n h (op.LockOk m path) d a i = i d.0 (subst (λ z. place_of p z h ≡ Following d.0) (its a) d.1)
  where
    its : Some m ≡ Some n → m ≡ n
    its e = grind arith
no_grant p n h o d a i = tt

holds_none : (p : Plan) (n : ℕ) (h : List Entry) (path : PathNames) (x : Place) → place_of p n h ≡ x → (IsHolder x → ⊥) → IsFree p n h path → may_grant p.lock h (last_grant path h) ≡ true
holds_none p n h path x b i (inl y) = y
holds_none p n h path x b i (inr y) = absurd (i (subst IsHolder b y.0))

pub same_starts : (p : Plan) (n : ℕ) (e : Entry) (h : List Entry) → actor e.op ≡ Some n → starts_of (e ∷ h) ≡ starts_of h
same_starts p n e h a = ap (λ z. count_start z (starts_of h)) (no_start e.op n a)

stepped_one : (p : Plan) (n m : ℕ) (e : Entry) (h : List Entry) → actor e.op ≡ Some n → ((k : ℕ) → is_absent (place_of p k h) ≡ false → k ≡ n) → is_absent (place_of p m (e ∷ h)) ≡ false → m ≡ n
stepped_one p n m e h a i =
    place_step p m h e.op (place_of p m h) (λ x. is_absent x ≡ false → m ≡ n)
    (λ _ f. i m f)
    (λ s q _ _. absurd (none-some s (sym (no_start e.op n a) ∙ q)))
    (λ b _. same_Some m n (sym b ∙ a))

-- a step of the function in flight
pub step_calm : (p : Plan) (n : ℕ) (e : Entry) (h : List Entry) → IsHistory p (e ∷ h) → IsCalm p n h → is_absent (place_of p n h) ≡ false → GoesOn n (place_of p n h) e.op → IsCalm p n (e ∷ h)
step_calm p n e h l i s g = record {
  last = i.last ∙ sym (same_starts p n e h g.1);
  one = λ m. stepped_one p n m e h g.1 i.one;
  works = by_place (place_of p n h) refl i.works g.0;
  own = λ path _ w. own_stays p n e h e.op refl g.1 (λ q v. i.own q s v) path w;
  free = λ path. free_place path (place_of p n h) refl g.0;
}
  where
    by_place : (x : Place) → place_of p n h ≡ x → WorksOnTheHead h x → IsUnhindered x e.op → WorksOnTheHead (e ∷ h) (place_of p n (e ∷ h))
    by_place (Following f) b w u = follower_works p n e h f l b g.1 u w
    by_place (Leading t r) b w u = leader_works p n t e h r b g.1 w e.op refl
    by_place (Telling m t r) b w u = teller_works p n m t e h r b g.1 w e.op refl
    by_place (Beating c r) b w u = absurd w
    by_place Absent b w u = absurd (false≢true (sym s ∙ ap is_absent b))

    others : (path : PathNames) (x : Place) → place_of p n h ≡ x → (IsHolder x → ⊥) → ((f : Follower) → x ≡ Following f → ⊥) → IsFree p n (e ∷ h) path
    others path x b k v = may_stay p n e h path (no_grant p n h e.op (due p e h l) g.1 (λ f q. v f (sym b ∙ q))) (holds_none p n h path x b k (i.free path))

    free_place : (path : PathNames) (x : Place) → place_of p n h ≡ x → IsUnhindered x e.op → IsFree p n (e ∷ h) path
    free_place path (Following f) b u = follower_free p n e h f path l b g.1 u (i.free path) e.op refl
    free_place path (Leading t r) b u = others path (Leading t r) b (λ k. k) (λ f q. absurd (grind arith))
    free_place path (Telling m t r) b u = others path (Telling m t r) b (λ k. k) (λ f q. absurd (grind arith))
    free_place path (Beating c r) b u = others path (Beating c r) b (λ k. k) (λ f q. absurd (grind arith))
    free_place path Absent b u = others path Absent b (λ k. k) (λ f q. absurd (grind arith))
