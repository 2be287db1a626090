-- The histories of a drain: one function after another, none hindered.
use Rattle.std.specs.Prelude.{◌==◌, ◌||◌, if◌then◌else◌, nat_lt, max}
use Rattle.std.proofs.Common.{◌≡◌, ◌≢◌, ℕ, zero, suc, ◌+◌, ◌≤◌, ◌<◌, ◌++◌, ◌⊎◌, inl, inr, Bool, true, false, List, [], ◌∷◌, refl, sym, ◌∙◌, ap, subst, arith, Option, Some, None}
use Rattle.std.proofs.lemmas.Bool.{false≢true}
use Rattle.std.proofs.lemmas.Bool.Decides.{nat_tests}
use Rattle.std.proofs.lemmas.Option.{same_Some, none-some}
use Rattle.fk_base.specs.Path.{PathNames}
use Rattle.fk_tree.specs.Sorted.{has_path}
use Rattle.fk_print.specs.declared.entry.Entry.{Entry}
use Rattle.fk_print.specs.declared.event.Event.{Event}
use Rattle.fk_print.specs.declared.event.Event.TheVariants as event
use Rattle.fk_print.specs.declared.op.Op.{Op}
use Rattle.fk_print.specs.declared.op.Op.TheVariants as op
use Rattle.fk_spec.specs.Plan.{Plan}
use Rattle.fk_spec.specs.Start as start
use Rattle.fk_spec.specs.Start.{Follows, Notifies, pushes_of, sends_of, Task, clock_after, clock_of, count_start, started_in, starts_of}
use Rattle.fk_spec.specs.Locks.{Grant, grant_in, granted, has_released, last_grant, may_grant}
use Rattle.fk_spec.specs.Settling.{settled_in}
use Rattle.fk_spec.specs.Lanes.{follows_session, head_among, leader_head, leads, notes_of, notifies, removed_by, session_head, watch_head}
use Rattle.fk_spec.specs.Teller.{Note, note_of}
use Rattle.fk_spec.specs.Client.{client_in, client_op}
use Rattle.fk_spec.specs.Function.{Place, Absent, Following, Leading, Telling, Beating, actor, in_flight, in_flight_to, is_absent, moved, place_by, place_of, placed, started_at, telling}
use Rattle.fk_spec.specs.Schedule.{is_idle, Plays, crashes, drain_begin}
use Rattle.fk_spec.specs.Next.{IsHistory, crash_op, follow_op, lead_op, next_op, tell_op}
use Rattle.fk_law.proofs.Locking.{lock_names_a_granted_path, locks_are_followers}
use Rattle.fk_law.proofs.Moving.{place_step}
use Rattle.fk_law.proofs.Starting.{place_bound, task_bound}
use Rattle.fk_law_drain.specs.Draining.{Begins, Goes, IsCalm, IsHolder, IsUnhindered, WorksOnTheHead, DrainsAreCalm, DrainsAreUnhindered}
use Rattle.fk_law_drain.proofs.Choosing.{Chooses, Delivers, Leads, Steps, Tells, Turns, drain_chooses, none_stands}
use Rattle.fk_law_drain.proofs.Delivering.{head_is}
use Rattle.fk_law_drain.proofs.Stepping.{IsFree, NoGrant, NotAck, may_stay, not_removed, other_granted, step_calm}
use Rattle.fk_law.proofs.Operating.{client_turn, turn_is_own}
use Rattle.fk_law_drain.proofs.Unhindered.{GoesOn, function_goes}
use Rattle.fk_base.proofs.Logic.{itself}
use Rattle.fk_law.proofs.Crashing.{crashed}

-- Starts. ----------------------------------------------------------------------------------------------

none_hold : (p : Plan) (n : ℕ) (h : List Entry) (path : PathNames) → IsHistory p h → in_flight p h ≡ [] → IsFree p n h path → may_grant p.lock h (last_grant path h) ≡ true
none_hold p n h path l a (inl x) = x
none_hold p n h path l a (inr x) = absurd (holds (place_of p n h) (none_stands p n h l a) x.0)
  where
    holds : (y : Place) → is_absent y ≡ true → IsHolder y → ⊥
    holds Absent e k = k
    holds (Following f) e k = false≢true e
    holds (Leading t r) e k = k
    holds (Telling m t r) e k = k
    holds (Beating c r) e k = k

-- a start line of function n, of this task
pub record StartsIt (o : Op) (n : ℕ) (t : Task) : Type 0 where
  pub started : started_in o ≡ Some (record { function = n; task = t })
  pub acts_none : actor o ≡ None
  pub grants : NoGrant o
  pub acks : NotAck o

-- where a function stands that is started
pub started_place : (p : Plan) (n : ℕ) (t : Task) (e : Entry) (h : List Entry) → StartsIt e.op n t → place_of p n (e ∷ h) ≡ placed p h t
started_place p n t e h s =
    ap (λ z. place_by p n h e.op z (place_of p n h)) s.acts_none
    ∙ (ap (λ z. started_at p n h z (place_of p n h)) s.started
    ∙ ap (λ b. if b then placed p h t else place_of p n h) (itself n))

start_calm : (p : Plan) (n : ℕ) (t : Task) (e : Entry) (h : List Entry) → IsHistory p (e ∷ h) → IsCalm p (starts_of h) h → in_flight p h ≡ [] → StartsIt e.op n t → n ≡ starts_of h + 1 → WorksOnTheHead (e ∷ h) (placed p h t) → IsCalm p n (e ∷ h)
start_calm p n t e h l i a s f w = record {
  last = f ∙ sym (ap (λ z. count_start z (starts_of h)) s.started);
  one = λ m. place_step p m h e.op (place_of p m h) (λ x. is_absent x ≡ false → m ≡ n)
      (λ _ b. absurd (false≢true (sym b ∙ none_stands p m h l.0 a)))
      (λ x q b _. sym b ∙ sym (ap (λ z. z.function) (same_Some (record { function = n; task = t }) x (sym s.started ∙ q))))
      (λ b _. absurd (none-some m (sym s.acts_none ∙ b)));
  works = subst (WorksOnTheHead (e ∷ h)) (sym (started_place p n t e h s)) w;
  own = λ path _ g. absurd (new path (subst (λ z. has_path path z ≡ true) (other_granted n e.op (granted n h) s.grants) g));
  free = λ path. may_stay p n e h path s.grants (none_hold p (starts_of h) h path l.0 a (i.free path));
}
  where
    new : (path : PathNames) → has_path path (granted n h) ≡ true → ⊥
    new path g = let x = locks_are_followers p n path h l.0 g in let y = (task_bound p n h (Follows x.0 x.1) l.0 x.2).1 in omega (arith, y, f)

-- Clients. ---------------------------------------------------------------------------------------------

-- an operation of no function
pub record IsIdleOp (o : Op) : Type 0 where
  pub starts : started_in o ≡ None
  pub acts : actor o ≡ None
  pub grants : NoGrant o
  pub acks : NotAck o
  pub settles : (h : List Entry) → settled_in h o ≡ None

pub client_acts : (o : Op) (c : ℕ) → client_in o ≡ Some c → IsIdleOp o
client_acts o c e = record { starts = grind arith; acts = grind arith; grants = grants o c e; acks = acks o c e; settles = λ h. settles h o c e }
  where
    grants : (o : Op) (c : ℕ) → client_in o ≡ Some c → NoGrant o
    grants (op.LockOk n path) c e = absurd (none-some c e)
    grants o c e = tt

    acks : (o : Op) (c : ℕ) → client_in o ≡ Some c → NotAck o
    acks (op.AckOk n) c e = absurd (none-some c e)
    acks o c e = tt

    settles : (h : List Entry) (o : Op) (c : ℕ) → client_in o ≡ Some c → settled_in h o ≡ None
    settles h (op.CommitOk n t) c e = absurd (none-some c e)
    settles h (op.RefuseOk n cd place at) c e = absurd (none-some c e)
    settles h (op.LostOk n) c e = absurd (none-some c e)
    settles h o c e = refl

pub unmoved : (p : Plan) (n : ℕ) (e : Entry) (h : List Entry) → IsIdleOp e.op → place_of p n (e ∷ h) ≡ place_of p n h
unmoved p n e h i = ap (λ z. place_by p n h e.op z (place_of p n h)) i.acts ∙ ap (λ z. started_at p n h z (place_of p n h)) i.starts

turn_calm : (p : Plan) (e : Entry) (h : List Entry) → IsHistory p (e ∷ h) → IsCalm p (starts_of h) h → in_flight p h ≡ [] → IsIdleOp e.op → IsCalm p (starts_of h) (e ∷ h)
turn_calm p e h l i a o = record {
  last = sym (ap (λ z. count_start z (starts_of h)) o.starts);
  one = λ m b. absurd (false≢true (sym b ∙ (ap is_absent (unmoved p m e h o) ∙ none_stands p m h l.0 a)));
  works = absent_works (place_of p (starts_of h) (e ∷ h)) (ap is_absent (unmoved p (starts_of h) e h o) ∙ none_stands p (starts_of h) h l.0 a);
  own = λ path b _. absurd (false≢true (sym b ∙ (ap is_absent (unmoved p (starts_of h) e h o) ∙ none_stands p (starts_of h) h l.0 a)));
  free = λ path. may_stay p (starts_of h) e h path o.grants (none_hold p (starts_of h) h path l.0 a (i.free path));
}
  where
    absent_works : (x : Place) → is_absent x ≡ true → WorksOnTheHead (e ∷ h) x
    absent_works Absent b = tt
    absent_works (Following f) b = absurd (false≢true b)
    absent_works (Leading t r) b = absurd (false≢true b)
    absent_works (Telling m t r) b = absurd (false≢true b)
    absent_works (Beating c r) b = absurd (false≢true b)

-- Events. ----------------------------------------------------------------------------------------------

pub op_at : (p : Plan) (e : Entry) (h : List Entry) (v : Event) → IsHistory p (e ∷ h) → e.event ≡ v → e.op ≡ next_op p h v
op_at p e h v l q = ap (λ x. x.op) l.1.0 ∙ ap (next_op p h) q

calm_last : (p : Plan) (n : ℕ) (h : List Entry) → IsCalm p n h → IsCalm p (starts_of h) h
calm_last p n h i = subst (λ z. IsCalm p z h) i.last i

told_works : (h : List Entry) (w : ℕ) (o : Option Note) → w ≡ removed_by notifies h + 1 → WorksOnTheHead h (telling w o)
told_works h w None e = tt
told_works h w (Some x) e = e

-- what goes on in a step of a drain
pub steps_on : (p : Plan) (n : ℕ) (e : Entry) (h : List Entry) → IsHistory p (e ∷ h) → IsCalm p (starts_of h) h → e.event ≡ event.Step n → is_absent (place_of p n h) ≡ false → GoesOn n (place_of p n h) e.op
steps_on p n e h l i q a = subst (GoesOn n (place_of p n h)) (sym (op_at p e h (event.Step n) l q)) (function_goes p n h l.0 (subst (λ z. IsCalm p z h) (sym (i.one n a)) i) a)

pub teller_starts : (p : Plan) (w : ℕ) (e : Entry) (h : List Entry) → IsHistory p (e ∷ h) → e.event ≡ event.Watch → watch_head h ≡ Some w → StartsIt e.op (starts_of h + 1) (Notifies w)
teller_starts p w e h l q b = subst (λ o. StartsIt o (starts_of h + 1) (Notifies w)) (sym (op_at p e h event.Watch l q ∙ ap (tell_op (starts_of h + 1)) b)) (record { started = refl; acts_none = refl; grants = tt; acks = tt })

pub leader_starts : (p : Plan) (t : ℕ) (e : Entry) (h : List Entry) → IsHistory p (e ∷ h) → e.event ≡ event.Leader → leader_head h ≡ Some t → StartsIt e.op (starts_of h + 1) (start.Leads t)
leader_starts p t e h l q b = subst (λ o. StartsIt o (starts_of h + 1) (start.Leads t)) (sym (op_at p e h event.Leader l q ∙ ap (lead_op (starts_of h + 1)) b)) (record { started = refl; acts_none = refl; grants = tt; acks = tt })

pub follower_starts : (p : Plan) (c k : ℕ) (e : Entry) (h : List Entry) → IsHistory p (e ∷ h) → e.event ≡ event.Deliver c → session_head c h ≡ Some k → StartsIt e.op (starts_of h + 1) (Follows c k)
follower_starts p c k e h l q b = subst (λ o. StartsIt o (starts_of h + 1) (Follows c k)) (sym (op_at p e h (event.Deliver c) l q ∙ ap (follow_op (starts_of h + 1) c) b)) (record { started = refl; acts_none = refl; grants = tt; acks = tt })

pub turns_own : (p : Plan) (c : ℕ) (e : Entry) (h : List Entry) → IsHistory p (e ∷ h) → e.event ≡ event.Client c → is_idle (client_op p c h) ≡ false → client_in e.op ≡ Some c
turns_own p c e h l q a = ap client_in (op_at p e h (event.Client c) l q) ∙ turn_is_own c (client_op p c h) (client_turn p c h) a

head_of : (p : Plan) (w : Option Task → Bool) (given : ℕ) (e : Entry) (h : List Entry) (k : ℕ) → NotAck e.op → head_among given (removed_by w h) ≡ Some k → k ≡ removed_by w (e ∷ h) + 1
head_of p w given e h k a b = sym (head_is given (removed_by w h) k b) ∙ ap (λ z. z + 1) (sym (not_removed w h e.op (removed_by w h) a))

calm_step : (p : Plan) (e : Entry) (h : List Entry) (v : Event) → IsHistory p (e ∷ h) → IsCalm p (starts_of h) h → e.event ≡ v → Chooses p h v → IsCalm p (starts_of (e ∷ h)) (e ∷ h)
calm_step p e h _ l i q (Steps n a) = calm_last p n (e ∷ h) (step_calm p n e h l (subst (λ z. IsCalm p z h) (sym (i.one n a)) i) a (steps_on p n e h l i q a))
calm_step p e h _ l i q (Tells w a b) =
    let s = teller_starts p w e h l q b in
    calm_last p (starts_of h + 1) (e ∷ h) (start_calm p (starts_of h + 1) (Notifies w) e h l i a s refl (told_works (e ∷ h) w (note_of p w h) (head_of p notifies (notes_of h) e h w s.acks b)))
calm_step p e h _ l i q (Leads t a b) =
    let s = leader_starts p t e h l q b in
    calm_last p (starts_of h + 1) (e ∷ h) (start_calm p (starts_of h + 1) (start.Leads t) e h l i a s refl (head_of p leads (pushes_of h) e h t s.acks b))
calm_step p e h _ l i q (Delivers c k a b) =
    let s = follower_starts p c k e h l q b in
    calm_last p (starts_of h + 1) (e ∷ h) (start_calm p (starts_of h + 1) (Follows c k) e h l i a s refl (head_of p (follows_session c) (sends_of c h) e h k s.acks b, tt))
calm_step p e h _ l i q (Turns c a b d f) = calm_last p (starts_of h) (e ∷ h) (turn_calm p e h l i a (client_acts e.op c (turns_own p c e h l q f)))

-- The begin of a drain. --------------------------------------------------------------------------------

abbrev IsIn : ℕ → List ℕ → Type 0
IsIn n [] = ⊥
IsIn n (m ∷ ns) = (n ≡ m) ⊎ IsIn n ns

in_more : (n m : ℕ) (ns : List ℕ) → IsIn n ns → IsIn n (ns ++ m ∷ [])
in_more n m [] i = absurd i
in_more n m (k ∷ ns) (inl e) = inl e
in_more n m (k ∷ ns) (inr i) = inr (in_more n m ns i)

in_last : (n : ℕ) (ns : List ℕ) → IsIn n (ns ++ n ∷ [])
in_last n [] = inl refl
in_last n (k ∷ ns) = inr (in_last n ns)

flies_to : (p : Plan) (m n : ℕ) (h : List Entry) → 1 ≤ n → n ≤ m → is_absent (place_of p n h) ≡ false → IsIn n (in_flight_to p m h)
flies_to p zero n h a b f = absurd (omega (arith, a, b))
flies_to p (suc m) n h a b f = by_number (λ c. flies_to p m n h a c f) (n == suc m) refl
  where
    more : (d : Bool) → IsIn n (in_flight_to p m h) → IsIn n (if d then in_flight_to p m h else in_flight_to p m h ++ (suc m) ∷ [])
    more true i = i
    more false i = in_more n (suc m) (in_flight_to p m h) i

    its : n ≡ suc m → IsIn n (if is_absent (place_of p (suc m) h) then in_flight_to p m h else in_flight_to p m h ++ (suc m) ∷ [])
    its e = subst (λ d. IsIn n (if d then in_flight_to p m h else in_flight_to p m h ++ (suc m) ∷ [])) (sym (subst (λ z. is_absent (place_of p z h) ≡ false) e f)) (subst (λ z. IsIn n (in_flight_to p m h ++ z ∷ [])) e (in_last n (in_flight_to p m h)))

    by_number : (n ≤ m → IsIn n (in_flight_to p m h)) → (d : Bool) → (n == suc m) ≡ d → IsIn n (if is_absent (place_of p (suc m) h) then in_flight_to p m h else in_flight_to p m h ++ (suc m) ∷ [])
    by_number g true e = its (same e)
      where
        same : (n == suc m) ≡ true → n ≡ suc m
        same e = grind (arith, nat_tests)
    by_number g false e = more (is_absent (place_of p (suc m) h)) (g (below e))
      where
        below : (n == suc m) ≡ false → n ≤ m
        below e = grind (arith, nat_tests)

-- all that are in flight are among these, and each lock has run out by this moment
record WillBegin (p : Plan) (ns : List ℕ) (m : ℕ) (h : List Entry) : Type 0 where
  pub flies : (n : ℕ) → is_absent (place_of p n h) ≡ false → IsIn n ns
  pub ran_out : (path : PathNames) (g : Grant) → last_grant path h ≡ Some g → g.moment + p.lock < m

crash_begins : (p : Plan) (n m : ℕ) (ns : List ℕ) (e : Entry) (h : List Entry) → e.op ≡ crash_op n (place_of p n h) → WillBegin p (n ∷ ns) m h → WillBegin p ns m (e ∷ h)
crash_begins p n m ns e h q w = by_absent (is_absent (place_of p n h)) refl
  where
    other : (k : ℕ) → (k ≡ n) ⊎ IsIn k ns → (k ≡ n → ⊥) → IsIn k ns
    other k (inl a) b = absurd (b a)
    other k (inr a) b = a

    by_absent : (d : Bool) → is_absent (place_of p n h) ≡ d → WillBegin p ns m (e ∷ h)
    by_absent true a = record {
      flies = λ k f. let old = sym (ap (λ o. is_absent (place_by p k h o (actor o) (place_of p k h))) idle) ∙ f in other k (w.flies k old) (λ b. false≢true (sym old ∙ (ap (λ z. is_absent (place_of p z h)) b ∙ a)));
      ran_out = λ path g f. w.ran_out path g (sym (ap (λ o. grant_in path (clock_of h) o (last_grant path h)) idle) ∙ f);
    }
      where
        idle : e.op ≡ op.Idle
        idle = q ∙ ap (λ d. if d then op.Idle else op.Crash n) a
    by_absent false a = record {
      flies = λ k f. flies_other k (place_step p k h e.op (place_of p k h) (λ x. is_absent x ≡ false → (k ≢ n) × (is_absent (place_of p k h) ≡ false)) (λ b c. (λ d. b (ap actor crash ∙ ap Some (sym d)), c)) (λ s b _ _. absurd (none-some s (sym (ap started_in crash) ∙ b))) (λ b c. absurd (false≢true (sym c ∙ (ap (λ o. is_absent (moved p h o (place_of p k h))) crash ∙ ap is_absent (crashed p h n (place_of p k h)))))) f);
      ran_out = λ path g f. w.ran_out path g (sym (ap (λ o. grant_in path (clock_of h) o (last_grant path h)) crash) ∙ f);
    }
      where
        crash : e.op ≡ op.Crash n
        crash = q ∙ ap (λ d. if d then op.Idle else op.Crash n) a

        flies_other : (k : ℕ) → (k ≢ n) × (is_absent (place_of p k h) ≡ false) → IsIn k ns
        flies_other k b = other k (w.flies k b.1) b.0

begun_calm : (p : Plan) (m : ℕ) (e : Entry) (h : List Entry) → e.op ≡ op.Clock (max m (clock_of h)) → WillBegin p [] m h → IsCalm p (starts_of (e ∷ h)) (e ∷ h)
begun_calm p m e h q w = record {
  last = refl;
  one = λ k b. absurd (none k b);
  works = by_place (place_of p (starts_of (e ∷ h)) (e ∷ h)) refl;
  own = λ path b _. absurd (none (starts_of (e ∷ h)) b);
  free = λ path. inl (by_grant path (last_grant path (e ∷ h)) refl);
}
  where
    same : (k : ℕ) → place_of p k (e ∷ h) ≡ place_of p k h
    same k = ap (λ o. place_by p k h o (actor o) (place_of p k h)) q

    none : (k : ℕ) → is_absent (place_of p k (e ∷ h)) ≡ false → ⊥
    none k b = w.flies k (ap is_absent (sym (same k)) ∙ b)

    by_place : (x : Place) → place_of p (starts_of (e ∷ h)) (e ∷ h) ≡ x → WorksOnTheHead (e ∷ h) x
    by_place Absent b = tt
    by_place (Following f) b = absurd (none (starts_of (e ∷ h)) (ap is_absent b))
    by_place (Leading t r) b = absurd (none (starts_of (e ∷ h)) (ap is_absent b))
    by_place (Telling v t r) b = absurd (none (starts_of (e ∷ h)) (ap is_absent b))
    by_place (Beating c r) b = absurd (none (starts_of (e ∷ h)) (ap is_absent b))

    later : m ≤ clock_of (e ∷ h)
    later = subst (λ o. m ≤ clock_after o (clock_of h)) (sym q) (omega arith)

    by_grant : (path : PathNames) (g : Option Grant) → last_grant path (e ∷ h) ≡ g → may_grant p.lock (e ∷ h) g ≡ true
    by_grant path None b = refl
    by_grant path (Some g) b = over (has_released g.holder (e ∷ h)) (w.ran_out path g (sym (ap (λ o. grant_in path (clock_of h) o (last_grant path h)) q) ∙ b))
      where
        over : (r : Bool) → g.moment + p.lock < m → (r || nat_lt (g.moment + p.lock) (clock_of (e ∷ h))) ≡ true
        over true a = refl
        over false a = let c = later in grind (arith, nat_tests)

plays_history : (p : Plan) (vs : List Event) (h k : List Entry) → Plays vs h k → IsHistory p k → IsHistory p h
plays_history p [] h k r l = subst (IsHistory p) (sym r) l
plays_history p (v ∷ vs) h k r l = (plays_history p vs (r.0 ∷ h) k r.2 l).0

begins_calm : (p : Plan) (ns : List ℕ) (m : ℕ) (h k : List Entry) → Plays (crashes ns ++ event.Clock m ∷ []) h k → IsHistory p k → WillBegin p ns m h → IsCalm p (starts_of k) k
begins_calm p [] m h k r l w = subst (λ z. IsCalm p (starts_of z) z) r.2 (begun_calm p m r.0 h (op_at p r.0 h (event.Clock m) (plays_history p [] (r.0 ∷ h) k r.2 l) r.1) w)
begins_calm p (n ∷ ns) m h k r l w = begins_calm p ns m (r.0 ∷ h) k r.2 l (crash_begins p n m ns r.0 h (op_at p r.0 h (event.Crash n) (plays_history p (crashes ns ++ event.Clock m ∷ []) (r.0 ∷ h) k r.2 l) r.1) w)

will_begin : (p : Plan) (h : List Entry) → IsHistory p h → WillBegin p (in_flight p h) (clock_of h + p.lock + 1) h
will_begin p h l = record {
  flies = λ n a. let b = place_bound p n h l a in flies_to p (starts_of h) n h b.0 b.1 a;
  ran_out = λ path g e. let b = (lock_names_a_granted_path p path h g l e).2 in omega (arith, b);
}

-- The laws. --------------------------------------------------------------------------------------------

pub drains_are_calm : DrainsAreCalm
drains_are_calm p _ l (Begins g h r) = begins_calm p (in_flight p g) (clock_of g + p.lock + 1) g h r l (will_begin p g (plays_history p (drain_begin p g) g h r l))
drains_are_calm p _ l (Goes h x d e) = calm_step p x h x.event l (drains_are_calm p h l.0 d) refl (drain_chooses p h x.event e)

pub absent_is : (x : Place) → is_absent x ≡ true → x ≡ Absent
absent_is Absent e = refl
absent_is (Following f) e = absurd (false≢true e)
absent_is (Leading t s) e = absurd (false≢true e)
absent_is (Telling w t s) e = absurd (false≢true e)
absent_is (Beating c s) e = absurd (false≢true e)

start_unhindered : (n : ℕ) (t : Task) (o : Op) → StartsIt o n t → IsUnhindered Absent o
start_unhindered n t (op.AckGone m) s = absurd (none-some _ s.started)
start_unhindered n t (op.Crash m) s = absurd (none-some _ s.started)
start_unhindered n t (op.Fault m word) s = absurd (none-some _ s.started)
start_unhindered n t o s = tt

turn_unhindered : (c : ℕ) (o : Op) → client_in o ≡ Some c → IsUnhindered Absent o
turn_unhindered c (op.AckGone m) e = absurd (none-some c e)
turn_unhindered c (op.Crash m) e = absurd (none-some c e)
turn_unhindered c (op.Fault m word) e = absurd (none-some c e)
turn_unhindered c o e = tt

chosen_unhindered : (p : Plan) (x : Entry) (h : List Entry) (v : Event) → IsHistory p (x ∷ h) → IsCalm p (starts_of h) h → x.event ≡ v → Chooses p h v → IsUnhindered (place_of p (starts_of h) h) x.op
chosen_unhindered p x h _ l i q (Steps n a) = subst (λ z. IsUnhindered (place_of p z h) x.op) (i.one n a) (steps_on p n x h l i q a).0
chosen_unhindered p x h _ l i q (Tells w a b) = subst (λ z. IsUnhindered z x.op) (sym (absent_is (place_of p (starts_of h) h) (none_stands p (starts_of h) h l.0 a))) (start_unhindered (starts_of h + 1) (Notifies w) x.op (teller_starts p w x h l q b))
chosen_unhindered p x h _ l i q (Leads t a b) = subst (λ z. IsUnhindered z x.op) (sym (absent_is (place_of p (starts_of h) h) (none_stands p (starts_of h) h l.0 a))) (start_unhindered (starts_of h + 1) (start.Leads t) x.op (leader_starts p t x h l q b))
chosen_unhindered p x h _ l i q (Delivers c k a b) = subst (λ z. IsUnhindered z x.op) (sym (absent_is (place_of p (starts_of h) h) (none_stands p (starts_of h) h l.0 a))) (start_unhindered (starts_of h + 1) (Follows c k) x.op (follower_starts p c k x h l q b))
chosen_unhindered p x h _ l i q (Turns c a b d f) = subst (λ z. IsUnhindered z x.op) (sym (absent_is (place_of p (starts_of h) h) (none_stands p (starts_of h) h l.0 a))) (turn_unhindered c x.op (turns_own p c x h l q f))

pub drains_are_unhindered : DrainsAreUnhindered
drains_are_unhindered p h x l d e = chosen_unhindered p x h x.event l (drains_are_calm p h l.0 d) refl (drain_chooses p h x.event e)
