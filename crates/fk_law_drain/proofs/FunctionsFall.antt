-- Each step of a function in a drain brings it nearer to its end.
use Rattle.std.specs.Prelude.{◌==◌, ◌-◌}
use Rattle.std.proofs.Common.{◌≡◌, ℕ, zero, suc, ◌+◌, ◌<◌, ◌≤◌, ◌++◌, ◌⊎◌, inl, inr, true, false, List, [], ◌∷◌, length, refl, sym, ◌∙◌, ap, subst, arith, Option, Some, None}
use Rattle.std.proofs.lemmas.Bool.{cond_both}
use Rattle.fk_base.specs.Path.{PathNames, is_root, parent}
use Rattle.fk_base.specs.declared.code.Code.{Code}
use Rattle.fk_tree.specs.Check.{Refusal, check}
use Rattle.fk_tree.specs.Edit.{closes}
use Rattle.fk_tree.specs.Fill.{final_path}
use Rattle.fk_tree.specs.Locks.{lock_paths, numbered_path, numbered_paths, with_parent}
use Rattle.fk_tree.specs.View.{View}
use Rattle.fk_tree.specs.declared.node.Node.{Node}
use Rattle.fk_tree.specs.declared.request.Request.{Request}
use Rattle.fk_tree.specs.declared.request.Request.TheVariants as request
use Rattle.fk_print.specs.declared.entry.Entry.{Entry}
use Rattle.fk_print.specs.declared.op.Op.{Op}
use Rattle.fk_print.specs.declared.op.Op.TheVariants as op
use Rattle.fk_spec.specs.Plan.{Plan, item_after}
use Rattle.fk_spec.specs.Start.{seen_with}
use Rattle.fk_spec.specs.Follower.{Follower, Granted, decided, next_stage, next_with, to_begin, to_lock, view_of, with_granted}
use Rattle.fk_spec.specs.Follower as follower
use Rattle.fk_spec.specs.Leader.{after_put, next_leader, paths_to_put, to_notify, to_put}
use Rattle.fk_spec.specs.Leader as leader
use Rattle.fk_spec.specs.Teller.{after_tell, next_teller, to_tell}
use Rattle.fk_spec.specs.Teller as teller
use Rattle.fk_spec.specs.Settling.{last_of_session}
use Rattle.fk_spec.specs.Stored.{committed_as, committed_of, last_edit, owned_after, stored_view}
use Rattle.fk_spec.specs.Watches.{Firing, swept_by}
use Rattle.fk_spec.specs.Function.{Following, Leading, Telling, actor, place_of}
use Rattle.fk_law.specs.Due.{IsDue, Refuses}
use Rattle.fk_law.specs.Due as due_so
use Rattle.fk_law.proofs.Deciding.{same_follower}
use Rattle.fk_law_drain.specs.Draining.{IsUnhindered}
use Rattle.fk_law_drain.specs.Falling.{follower_class, leader_class, lock_bound, puts_left, teller_class, tells_left}
use Rattle.fk_law_drain.proofs.Stepping.{NotAck}

-- Locks. -----------------------------------------------------------------------------------------------

parents_bound : (p : PathNames) → length (with_parent p) ≤ 2
parents_bound p = cond_both (is_root p) (p ∷ []) (parent p ∷ p ∷ []) (λ z. length z ≤ 2) (λ _. omega arith) (λ _. omega arith)

number_bound : (p : PathNames) (o : Option Node) → length (numbered_path p o) ≤ 1
number_bound p None = omega arith
number_bound p (Some d) = cond_both (d.owner == 0) (final_path p true d.made ∷ []) [] (λ z. length z ≤ 1) (λ _. omega arith) (λ _. omega arith)

numbers_bound : (p : PathNames) (o : Option Node) → length (numbered_paths p o) ≤ 2
numbers_bound p o = let a = number_bound p o in cond_both (is_root p) (p ∷ []) (parent p ∷ numbered_path p o) (λ z. length z ≤ 2) (λ _. omega arith) (λ _. omega (arith, a))

-- no request is locked for more paths than its bound
locks_bound : (v : View) (owned : List PathNames) (r : Request) → length (lock_paths v owned r) ≤ lock_bound owned (Some r)
locks_bound v owned (request.Create p bytes true eph) = numbers_bound p (v.node (parent p))
locks_bound v owned (request.Create p bytes false eph) = parents_bound p
locks_bound v owned (request.Set p bytes version) = omega arith
locks_bound v owned (request.Delete p version) = parents_bound p
locks_bound v owned (request.Close evict) = omega arith
locks_bound v owned (request.Multi ps) = omega arith

item_bound : (xs : List PathNames) (n : ℕ) (x : PathNames) → item_after xs n ≡ Some x → n < length xs
item_bound [] n x e = absurd (grind arith)
item_bound (y ∷ ys) zero x e = omega arith
item_bound (y ∷ ys) (suc n) x e = let a = item_bound ys n x e in omega (arith, a)

-- Followers. -------------------------------------------------------------------------------------------

decided_class : (seen : ℕ) (f : Follower) (o : Option Refusal) → follower_class (decided seen f o) ≡ 5
decided_class seen f None = refl
decided_class seen f (Some r) = refl

lock_class : (seen : ℕ) (r : Request) (f : Follower) → (5 ≤ follower_class (to_lock seen r f).stage) × (follower_class (to_lock seen r f).stage ≤ 6)
lock_class seen r f = by_path (item_after (lock_paths (view_of f.granted) f.owned r) (length f.granted))
  where
    by_path : (o : Option PathNames) → (5 ≤ follower_class (next_stage seen r f o)) × (follower_class (next_stage seen r f o) ≤ 6)
    by_path (Some path) = (omega arith, omega arith)
    by_path None = let a = decided_class seen f (check (view_of f.granted) f.session r) in (omega (arith, a), omega (arith, a))

begin_class : (seen : ℕ) (r : Request) (f : Follower) → (5 ≤ follower_class (to_begin seen r f).stage) × (follower_class (to_begin seen r f).stage ≤ 7)
begin_class seen r f = let a = lock_class seen r f in let x = a.0 in let y = a.1 in cond_both (closes r) (record f { stage = follower.Owned }) (to_lock seen r f) (λ z. (5 ≤ follower_class z.stage) × (follower_class z.stage ≤ 7)) (λ _. (omega arith, omega arith)) (λ _. (omega (arith, x), omega (arith, y)))

-- it stands yet, nearer to its end, or with fewer locks to take
abbrev pub FollowerFalls : Request → Follower → Follower → Type 0
FollowerFalls r f g = (1 ≤ follower_class g.stage) × ((follower_class g.stage < follower_class f.stage) ⊎ ((follower_class g.stage ≡ follower_class f.stage) × (lock_bound g.owned (Some r) - length g.granted < lock_bound f.owned (Some r) - length f.granted)))

appended_length : (gs : List Granted) (g : Granted) → length (gs ++ g ∷ []) ≡ length gs + 1
appended_length [] g = omega arith
appended_length (x ∷ gs) g = let a = appended_length gs g in omega (arith, a)

-- a granted lock leaves one less
granted_falls : (p : Plan) (h : List Entry) (seen : ℕ) (r : Request) (f : Follower) (path : PathNames) → f.stage ≡ follower.Lock path → FollowerFalls r f (to_lock seen r (with_granted p h path f))
granted_falls p h seen r f path e = by_path (item_after (lock_paths (view_of g.granted) g.owned r) (length g.granted)) refl
  where
    g : Follower
    g = with_granted p h path f

    class : follower_class f.stage ≡ 6
    class = ap follower_class e

    by_path : (o : Option PathNames) → item_after (lock_paths (view_of g.granted) g.owned r) (length g.granted) ≡ o → FollowerFalls r f (record g { stage = next_stage seen r g o })
    by_path None q = let a = decided_class seen g (check (view_of g.granted) g.session r) in (omega (arith, a), inl (omega (arith, a, class)))
    by_path (Some x) q =
        let a = item_bound (lock_paths (view_of g.granted) g.owned r) (length g.granted) x q in
        let b = locks_bound (view_of g.granted) g.owned r in
        let c = appended_length f.granted (record { path = path; node = (stored_view p h).node path; last = last_edit p path h }) in
        (omega arith, inr (sym class, less (length g.granted) (length f.granted) (lock_bound f.owned (Some r)) c (omega (arith, a, b))))
      where
        less : (m n b : ℕ) → m ≡ n + 1 → m < b → b - m < b - n
        less m n b e l = omega (arith, e, l)

at_stage : (p : Plan) (n m : ℕ) (h : List Entry) (f g : Follower) (s : follower.Stage) → Some m ≡ Some n → place_of p n h ≡ Following f → place_of p m h ≡ Following g → g.stage ≡ s → f.stage ≡ s
at_stage p n m h f g s e b d q = subst (λ z. z.stage ≡ s) (same_follower p h m n g f d e b) q

falls_to : (r : Request) (f g : Follower) (s : follower.Stage) → f.stage ≡ s → (1 ≤ follower_class g.stage) × (follower_class g.stage < follower_class s) → FollowerFalls r f g
falls_to r f g s e l = (l.0, inl (subst (λ z. follower_class g.stage < follower_class z) (sym e) l.1))

refuses_class : (n place at : ℕ) (cd : Code) (h : List Entry) (s : follower.Stage) → Refuses n cd place at h s → 2 < follower_class s
refuses_class n place at cd h (follower.Refuse r a) i = omega arith
refuses_class n place at cd h (follower.Expire a) i = omega arith
refuses_class n place at cd h s i = absurd i

-- each step of a follower that isn't hindered and isn't its last brings it nearer to its end
pub follower_falls : (p : Plan) (n : ℕ) (h : List Entry) (r : Request) (f : Follower) (o : Op) → IsDue p h o → place_of p n h ≡ Following f → actor o ≡ Some n → IsUnhindered (Following f) o → NotAck o → FollowerFalls r f (next_with p h r o f)
follower_falls p n h r f (op.SessionNew m) d b a u k = falls_to r f (next_with p h r (op.SessionNew m) f) follower.Session (at_stage p n m h f d.0 follower.Session a b d.1 d.2) (let c = begin_class (seen_with f.session f.k h) r (record f { last = last_of_session f.session h }) in let x = c.0 in let y = c.1 in (omega (arith, x), omega (arith, y)))
follower_falls p n h r f (op.SessionClosed m) d b a u k = falls_to r f (next_with p h r (op.SessionClosed m) f) follower.Session (at_stage p n m h f d.0 follower.Session a b d.1 d.2) (omega arith, omega arith)
follower_falls p n h r f (op.SessionApplied m) d b a u k = falls_to r f (next_with p h r (op.SessionApplied m) f) follower.Session (at_stage p n m h f d.0 follower.Session a b d.1 d.2) (omega arith, omega arith)
follower_falls p n h r f (op.SessionRefused m) d b a u k = falls_to r f (next_with p h r (op.SessionRefused m) f) follower.Session (at_stage p n m h f d.0 follower.Session a b d.1 d.2) (omega arith, omega arith)
follower_falls p n h r f (op.SessionPast m) d b a u k = falls_to r f (next_with p h r (op.SessionPast m) f) follower.Session (at_stage p n m h f d.0 follower.Session a b d.1 d.2) (omega arith, omega arith)
follower_falls p n h r f (op.Owned m count) d b a u k = falls_to r f (next_with p h r (op.Owned m count) f) follower.Owned (at_stage p n m h f d.0 follower.Owned a b d.1 d.2) (let c = lock_class (seen_with f.session f.k h) r (record f { owned = owned_after f.session (committed_of p h) }) in let x = c.0 in let y = c.1 in (omega (arith, x), omega (arith, y)))
follower_falls p n h r f (op.LockOk m path) d b a u k = granted_falls p h (seen_with f.session f.k h) r f path (at_stage p n m h f d.0 (follower.Lock path) a b d.1 d.2)
follower_falls p n h r f (op.Push m t) d b a u k = falls_to r f (next_with p h r (op.Push m t) f) follower.Push (at_stage p n m h f d.0 follower.Push a b d.1 d.2) (omega arith, omega arith)
follower_falls p n h r f (op.RefuseOk m cd place at) d b a u k = (omega arith, inl (refuses_class m place at cd h f.stage (subst (λ z. Refuses m cd place at h z.stage) (same_follower p h m n d.0 f d.1 a b) d.3)))
follower_falls p n h r f (op.CommitOk m t) d b a u k = falls_to r f (next_with p h r (op.CommitOk m t) f) (follower.Commit t) (its (subst (due_so.Commits m t d.0 d.1 d.2 h) (ap (λ z. place_of p z h) (same a) ∙ b) d.3)) (omega arith, omega arith)
  where
    same : Some m ≡ Some n → m ≡ n
    same e = grind arith

    its : due_so.Commits m t d.0 d.1 d.2 h (Following f) → f.stage ≡ follower.Commit t
    its c = c.0
follower_falls p n h r f (op.Reply m c j) d b a u k = falls_to r f (next_with p h r (op.Reply m c j) f) follower.Reply (its (subst (due_so.Replies c j h) (ap (λ z. place_of p z h) (same a) ∙ b) d)) (omega arith, omega arith)
  where
    same : Some m ≡ Some n → m ≡ n
    same e = grind arith

    its : due_so.Replies c j h (Following f) → f.stage ≡ follower.Reply
    its c = c.0
follower_falls p n h r f (op.LockBusy m path holder moment) d b a u k = absurd u
follower_falls p n h r f (op.RefuseSettled m cd place at s) d b a u k = absurd u
follower_falls p n h r f (op.RefuseLock m cd place at path holder moment) d b a u k = absurd u
follower_falls p n h r f (op.CommitSettled m t s) d b a u k = absurd u
follower_falls p n h r f (op.CommitLock m t path holder moment) d b a u k = absurd u
follower_falls p n h r f (op.LostOk m) d b a u k = absurd u
follower_falls p n h r f (op.LostSettled m s) d b a u k = absurd u
follower_falls p n h r f (op.AckGone m) d b a u k = absurd u
follower_falls p n h r f (op.AckOk m) d b a u k = absurd k
follower_falls p n h r f (op.Crash m) d b a u k = absurd u
follower_falls p n h r f (op.Fault m word) d b a u k = absurd u
follower_falls p n h r f o d b a u k = absurd (grind arith)

-- Leaders. ---------------------------------------------------------------------------------------------

-- it stands yet, nearer to its end, or with fewer records to put
abbrev pub LeaderFalls : leader.Stage → leader.Stage → Type 0
LeaderFalls s q = (1 ≤ leader_class q) × ((leader_class q < leader_class s) ⊎ ((leader_class q ≡ leader_class s) × (puts_left q < puts_left s)))

put_class : (ps : List PathNames) → (5 ≤ leader_class (to_put ps)) × (leader_class (to_put ps) ≤ 6)
put_class [] = (omega arith, omega arith)
put_class (q ∷ qs) = (omega arith, omega arith)

notify_class : (fs : List Firing) → (3 ≤ leader_class (to_notify fs)) × (leader_class (to_notify fs) ≤ 4)
notify_class [] = (omega arith, omega arith)
notify_class (f ∷ fs) = (omega arith, omega arith)

put_falls : (path : PathNames) (ps : List PathNames) → LeaderFalls (leader.Put path ps) (to_put ps)
put_falls path [] = (omega arith, inl (omega arith))
put_falls path (q ∷ qs) = (omega arith, inr (refl, omega arith))

leads_at : (p : Plan) (n m t u : ℕ) (h : List Entry) (s r : leader.Stage) → m ≡ n → place_of p n h ≡ Leading t s → place_of p m h ≡ Leading u r → s ≡ r
leads_at p n m t u h s r e b d = grind arith

leads_to : (s q r : leader.Stage) → s ≡ r → (1 ≤ leader_class q) × (leader_class q < leader_class r) → LeaderFalls s q
leads_to s q r e l = (l.0, inl (subst (λ z. leader_class q < leader_class z) (sym e) l.1))

-- each step of a leader brings it nearer to its end
pub leader_falls : (p : Plan) (n t : ℕ) (h : List Entry) (s : leader.Stage) (o : Op) → IsDue p h o → place_of p n h ≡ Leading t s → actor o ≡ Some n → IsUnhindered (Leading t s) o → NotAck o → LeaderFalls s (next_leader p h t o s)
leader_falls p n t h s (op.CommitOk m u) d b a w k = leads_to s leader.Sweep leader.Commit (its (subst (due_so.Commits m u d.0 d.1 d.2 h) (ap (λ z. place_of p z h) (same a) ∙ b) d.3)) (omega arith, omega arith)
  where
    same : Some m ≡ Some n → m ≡ n
    same e = grind arith

    its : due_so.Commits m u d.0 d.1 d.2 h (Leading t s) → s ≡ leader.Commit
    its c = c.0
leader_falls p n t h s (op.CommitSettled m u x) d b a w k = leads_to s leader.Pending leader.Commit (its (subst (due_so.Commits m u d.0 d.1 d.2 h) (ap (λ z. place_of p z h) (same a) ∙ b) d.3)) (omega arith, omega arith)
  where
    same : Some m ≡ Some n → m ≡ n
    same e = grind arith

    its : due_so.Commits m u d.0 d.1 d.2 h (Leading t s) → s ≡ leader.Commit
    its c = c.0
leader_falls p n t h s (op.CommitLock m u path holder moment) d b a w k = leads_to s leader.Pending leader.Commit (its (subst (due_so.Commits m u d.0 d.1 d.2 h) (ap (λ z. place_of p z h) (same a) ∙ b) d.3)) (omega arith, omega arith)
  where
    same : Some m ≡ Some n → m ≡ n
    same e = grind arith

    its : due_so.Commits m u d.0 d.1 d.2 h (Leading t s) → s ≡ leader.Commit
    its c = c.0
leader_falls p n t h s (op.PendingYes m u) d b a w k = leads_to s leader.Sweep leader.Pending (leads_at p n m t u h s leader.Pending (grind arith) b d.0) (omega arith, omega arith)
leader_falls p n t h s (op.PendingNo m u) d b a w k = leads_to s leader.Drop leader.Pending (leads_at p n m t u h s leader.Pending (grind arith) b d.0) (omega arith, omega arith)
leader_falls p n t h s (op.DropOk m u) d b a w k = leads_to s leader.Ack leader.Drop (leads_at p n m t u h s leader.Drop (grind arith) b d.0) (omega arith, omega arith)
leader_falls p n t h s (op.DropMiss m u x) d b a w k = leads_to s leader.Ack leader.Drop (leads_at p n m t u h s leader.Drop (grind arith) b d.0) (omega arith, omega arith)
leader_falls p n t h s (op.SweepOk m u x) d b a w k = leads_to s (next_leader p h t (op.SweepOk m u x) s) leader.Sweep (leads_at p n m t u h s leader.Sweep (grind arith) b d.0) (let c = put_class (paths_to_put (committed_as p t h)) in let x = c.0 in let y = c.1 in (omega (arith, x), omega (arith, y)))
leader_falls p n t h s (op.SweepMiss m u x y) d b a w k = leads_to s (next_leader p h t (op.SweepMiss m u x y) s) leader.Sweep (leads_at p n m t u h s leader.Sweep (grind arith) b d.0) (let c = put_class (paths_to_put (committed_as p t h)) in let x = c.0 in let y = c.1 in (omega (arith, x), omega (arith, y)))
leader_falls p n t h s (op.PutOk m u path) d b a w k = subst (λ z. LeaderFalls z (after_put z)) (sym (leads_at p n m t u h s (leader.Put path d.0) (grind arith) b d.1)) (put_falls path d.0)
leader_falls p n t h s (op.PutMiss m u path x) d b a w k = subst (λ z. LeaderFalls z (after_put z)) (sym (leads_at p n m t u h s (leader.Put path d.0) (grind arith) b d.1)) (put_falls path d.0)
leader_falls p n t h s (op.PublishOk m u) d b a w k = leads_to s (to_notify (swept_by p m h).fired) leader.Publish (leads_at p n m t u h s leader.Publish (grind arith) b d.0) (let c = notify_class (swept_by p m h).fired in let x = c.0 in let y = c.1 in (omega (arith, x), omega (arith, y)))
leader_falls p n t h s (op.PublishMiss m u x) d b a w k = leads_to s (to_notify (swept_by p m h).fired) leader.Publish (leads_at p n m t u h s leader.Publish (grind arith) b d.0) (let c = notify_class (swept_by p m h).fired in let x = c.0 in let y = c.1 in (omega (arith, x), omega (arith, y)))
leader_falls p n t h s (op.Notify m u x) d b a w k = leads_to s leader.Reply leader.Notify (leads_at p n m t u h s leader.Notify (grind arith) b d.0) (omega arith, omega arith)
leader_falls p n t h s (op.Reply m c j) d b a w k = leads_to s leader.Done leader.Reply (its (subst (due_so.Replies c j h) (ap (λ z. place_of p z h) (same a) ∙ b) d)) (omega arith, omega arith)
  where
    same : Some m ≡ Some n → m ≡ n
    same e = grind arith

    its : due_so.Replies c j h (Leading t s) → s ≡ leader.Reply
    its c = c.0
leader_falls p n t h s (op.DoneOk m u) d b a w k = leads_to s leader.Ack leader.Done (leads_at p n m t u h s leader.Done (grind arith) b d.0) (omega arith, omega arith)
leader_falls p n t h s (op.DoneMiss m u x) d b a w k = leads_to s leader.Ack leader.Done (leads_at p n m t u h s leader.Done (grind arith) b d.0) (omega arith, omega arith)
leader_falls p n t h s (op.AckGone m) d b a w k = absurd w
leader_falls p n t h s (op.AckOk m) d b a w k = absurd k
leader_falls p n t h s (op.Crash m) d b a w k = absurd w
leader_falls p n t h s (op.Fault m word) d b a w k = absurd w
leader_falls p n t h s o d b a w k = absurd (grind arith)

-- Watch functions. -------------------------------------------------------------------------------------

-- it stands yet, nearer to its end, or with fewer watches to tell
abbrev pub TellerFalls : teller.Stage → teller.Stage → Type 0
TellerFalls s q = (1 ≤ teller_class q) × ((teller_class q < teller_class s) ⊎ ((teller_class q ≡ teller_class s) × (tells_left q < tells_left s)))

tell_falls : (f : Firing) (fs : List Firing) → TellerFalls (teller.Tell f fs) (to_tell fs)
tell_falls f [] = (omega arith, inl (omega arith))
tell_falls f (g ∷ fs) = (omega arith, inr (refl, omega arith))

-- each step of a watch function brings it nearer to its end
pub teller_falls : (p : Plan) (n v t : ℕ) (h : List Entry) (s : teller.Stage) (o : Op) → IsDue p h o → place_of p n h ≡ Telling v t s → actor o ≡ Some n → IsUnhindered (Telling v t s) o → NotAck o → TellerFalls s (next_teller o s)
teller_falls p n v t h s (op.Tell m c id) d b a w k = telling s (subst (due_so.Tells c id) (ap (λ z. place_of p z h) (same a) ∙ b) d)
  where
    same : Some m ≡ Some n → m ≡ n
    same e = grind arith

    telling : (s : teller.Stage) → due_so.Tells c id (Telling v t s) → TellerFalls s (after_tell s)
    telling (teller.Tell f fs) i = tell_falls f fs
    telling teller.Told i = absurd i
    telling teller.Ack i = absurd i
    telling teller.Ended i = absurd i
teller_falls p n v t h s (op.Told m u) d b a w k = (omega arith, inl (subst (λ z. 1 < teller_class z) (told (grind arith) d.1) (omega arith)))
  where
    told : m ≡ n → place_of p m h ≡ Telling d.0 u teller.Told → teller.Told ≡ s
    told e q = grind arith
teller_falls p n v t h s (op.AckGone m) d b a w k = absurd w
teller_falls p n v t h s (op.AckOk m) d b a w k = absurd k
teller_falls p n v t h s (op.Crash m) d b a w k = absurd w
teller_falls p n v t h s (op.Fault m word) d b a w k = absurd w
teller_falls p n v t h s o d b a w k = absurd (grind arith)
