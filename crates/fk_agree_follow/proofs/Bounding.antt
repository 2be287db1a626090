-- The numbers of what a follower knows, refuses with and lost are those of pushes, functions and moments.
use Rattle.std.specs.Prelude.{◌==◌, ◌&&◌, max}
use Rattle.std.proofs.Common.{◌≡◌, ℕ, ◌+◌, ◌≤◌, ◌++◌, Bool, true, false, cond, List, [], ◌∷◌, length, refl, sym, ◌∙◌, ap, subst, arith, Option, Some, None}
use Rattle.std.proofs.lemmas.Bool.{eqb-true}
use Rattle.std.proofs.lemmas.Option.{same_Some}
use Rattle.fk_base.specs.Path.{PathNames, same_path}
use Rattle.fk_base.specs.declared.code.Code.{Code}
use Rattle.fk_tree.specs.Check.{Refusal, check}
use Rattle.fk_tree.specs.Sorted.{in_path_order}
use Rattle.fk_tree.specs.declared.request.Request.{Request}
use Rattle.fk_tree.specs.Edit.{closes}
use Rattle.fk_tree.specs.Locks.{lock_paths}
use Rattle.fk_print.specs.declared.entry.Entry.{Entry}
use Rattle.fk_print.specs.declared.op.Op.{Op}
use Rattle.fk_print.specs.declared.op.Op.TheVariants as op
use Rattle.fk_spec.specs.Plan.{Plan, item_after}
use Rattle.fk_spec.specs.Start.{Push, Start, clock_after, clock_of, count_start, pushes_of, seen_from, seen_with, sends_of, session_followed, started_in, starts_of, task_of}
use Rattle.fk_spec.specs.Locks.{Grant, Loss, first_passed, grant_in, granted, is_held_by, last_grant, loss_at, loss_in, loss_of, own_moment, own_moment_in, passed_on}
use Rattle.fk_spec.specs.Locks as locks
use Rattle.fk_spec.specs.Settling.{Committed, count_settling, Outcome, Passed, Refused, Settling, last_of_session, outcome_here, outcome_of, session_of_push, settled_in, settled_of, settling}
use Rattle.fk_spec.specs.Stored.{committed_of, last_edit, owned_after, stored_view}
use Rattle.fk_spec.specs.Follower as follower
use Rattle.fk_spec.specs.Follower.{Follower, Granted, decided, greatest_last, next_stage, next_with, refusal_number, to_begin, to_lock, view_of, with_granted}
use Rattle.fk_spec.specs.Function.{Following, is_absent, place_of}
use Rattle.fk_spec.specs.Next.{IsHistory}
use Rattle.fk_law.specs.Due.{IsDue, Refuses}
use Rattle.fk_law.proofs.Due.{due}
use Rattle.fk_law.proofs.Lows.{edit_low, last_low, pushes_grow}
use Rattle.fk_law.proofs.Moving.{ahead}
use Rattle.fk_law.proofs.Outcomes.{outcome_is_of_a_settled}
use Rattle.fk_law.proofs.Sending.{origin_stays}
use Rattle.fk_law.proofs.Settled.{reached, settled_were_sent, settles_the_next}
use Rattle.fk_law.proofs.Standing.{OnStanding, standing_step}
use Rattle.fk_law.proofs.Starting.{follower_task, place_bound}
use Rattle.fk_base.proofs.Logic.{and_left, and_right, by_test}

-- What grows. -------------------------------------------------------------------------------------------

clock_grows : (o : Op) (n : ℕ) → n ≤ clock_after o n
clock_grows (op.Clock m) n = omega arith
clock_grows o n = omega arith

starts_grow : (e : Entry) (h : List Entry) → starts_of h ≤ starts_of (e ∷ h)
starts_grow e h = grow (started_in e.op) (starts_of h)
  where
    grow : (o : Option Start) (n : ℕ) → n ≤ count_start o n
    grow None n = omega arith
    grow (Some x) n = omega arith

-- Commits are pushes. -----------------------------------------------------------------------------------

-- The numbers of a follower. ----------------------------------------------------------------------------

-- a refusal's number, by what its client had seen and how many pushes there are
abbrev AtMost : ℕ → ℕ → follower.Stage → Type 0
AtMost seen n (follower.Refuse r at) = at ≤ max seen n
AtMost seen n (follower.Expire at) = at ≤ max seen n
AtMost seen n _ = Unit {0}

record IsLow (seen n : ℕ) (f : Follower) : Type 0 where
  pub last : f.last ≤ n
  pub granted : greatest_last f.granted ≤ n
  pub at : AtMost seen n f.stage

number_low : (seen n : ℕ) (f : Follower) → f.last ≤ n → greatest_last f.granted ≤ n → refusal_number seen f ≤ max seen n
number_low seen n f a b = omega (arith, a, b)

decided_low : (seen n : ℕ) (f : Follower) (o : Option Refusal) → f.last ≤ n → greatest_last f.granted ≤ n → AtMost seen n (decided seen f o)
decided_low seen n f None a b = tt
decided_low seen n f (Some r) a b = number_low seen n f a b

stage_low : (seen n : ℕ) (r : Request) (f : Follower) (o : Option PathNames) → f.last ≤ n → greatest_last f.granted ≤ n → AtMost seen n (next_stage seen r f o)
stage_low seen n r f (Some p) a b = tt
stage_low seen n r f None a b = decided_low seen n f (check (view_of f.granted) f.session r) a b

lock_low : (seen n : ℕ) (r : Request) (f : Follower) → f.last ≤ n → greatest_last f.granted ≤ n → IsLow seen n (to_lock seen r f)
lock_low seen n r f a b = record { last = a; granted = b; at = stage_low seen n r f (item_after (lock_paths (view_of f.granted) f.owned r) (length f.granted)) a b }

begin_low : (seen n : ℕ) (r : Request) (f : Follower) → f.last ≤ n → greatest_last f.granted ≤ n → IsLow seen n (to_begin seen r f)
begin_low seen n r f a b = by_test (closes r) (λ z. IsLow seen n (cond z (record f { stage = follower.Owned }) (to_lock seen r f))) (λ _. record { last = a; granted = b; at = tt }) (λ _. lock_low seen n r f a b)

greatest_more : (n : ℕ) (gs : List Granted) (g : Granted) → greatest_last gs ≤ n → g.last ≤ n → greatest_last (gs ++ g ∷ []) ≤ n
greatest_more n [] g a b = omega (arith, b)
greatest_more n (x ∷ gs) g a b = let c = greatest_more n gs g (omega (arith, a)) b in omega (arith, a, c)

move_low : (p : Plan) (h : List Entry) (r : Request) (o : Op) (f : Follower) → IsHistory p h → IsLow (seen_with f.session f.k h) (pushes_of h) f → IsLow (seen_with f.session f.k h) (pushes_of h) (next_with p h r o f)
move_low p h r (op.SessionNew m) f l i = begin_low (seen_with f.session f.k h) (pushes_of h) r (record f { last = last_of_session f.session h }) (last_low p f.session h l) i.granted
move_low p h r (op.SessionClosed m) f l i = record { last = i.last; granted = i.granted; at = (let a = last_low p f.session h l in omega (arith, a)) }
move_low p h r (op.Owned m count) f l i = lock_low (seen_with f.session f.k h) (pushes_of h) r (record f { owned = owned_after f.session (committed_of p h) }) i.last i.granted
move_low p h r (op.LockOk m path) f l i = lock_low (seen_with f.session f.k h) (pushes_of h) r (with_granted p h path f) i.last (greatest_more (pushes_of h) f.granted (record { path = path; node = (stored_view p h).node path; last = last_edit p path h }) i.granted (edit_low p path h l))
move_low p h r (op.LockBusy m path holder moment) f l i = i
move_low p h r (op.SessionApplied m) f l i = record { last = i.last; granted = i.granted; at = tt }
move_low p h r (op.SessionRefused m) f l i = record { last = i.last; granted = i.granted; at = tt }
move_low p h r (op.SessionPast m) f l i = record { last = i.last; granted = i.granted; at = tt }
move_low p h r (op.Push m tx) f l i = record { last = i.last; granted = i.granted; at = tt }
move_low p h r (op.CommitOk m tx) f l i = record { last = i.last; granted = i.granted; at = tt }
move_low p h r (op.CommitSettled m tx settled) f l i = record { last = i.last; granted = i.granted; at = tt }
move_low p h r (op.CommitLock m tx path holder moment) f l i = record { last = i.last; granted = i.granted; at = tt }
move_low p h r (op.RefuseOk m cd place at) f l i = record { last = i.last; granted = i.granted; at = tt }
move_low p h r (op.RefuseSettled m cd place at settled) f l i = record { last = i.last; granted = i.granted; at = tt }
move_low p h r (op.RefuseLock m cd place at path holder moment) f l i = record { last = i.last; granted = i.granted; at = tt }
move_low p h r (op.LostOk m) f l i = record { last = i.last; granted = i.granted; at = tt }
move_low p h r (op.LostSettled m settled) f l i = record { last = i.last; granted = i.granted; at = tt }
move_low p h r (op.Reply m c k) f l i = record { last = i.last; granted = i.granted; at = tt }
move_low p h r o f l i = record { last = i.last; granted = i.granted; at = tt }

at_more : (seen m n : ℕ) (s : follower.Stage) → m ≤ n → AtMost seen m s → AtMost seen n s
at_more seen m n (follower.Refuse r at) b i = omega (arith, b, i)
at_more seen m n (follower.Expire at) b i = omega (arith, b, i)
at_more seen m n follower.Session b i = tt
at_more seen m n follower.Owned b i = tt
at_more seen m n (follower.Lock path) b i = tt
at_more seen m n follower.Push b i = tt
at_more seen m n (follower.Commit tx) b i = tt
at_more seen m n follower.Lost b i = tt
at_more seen m n follower.Reply b i = tt
at_more seen m n follower.Ack b i = tt
at_more seen m n follower.Ended b i = tt

more_low : (seen m n : ℕ) (f : Follower) → m ≤ n → IsLow seen m f → IsLow seen n f
more_low seen m n f b i = record { last = (let a = i.last in omega (arith, a, b)); granted = (let a = i.granted in omega (arith, a, b)); at = at_more seen m n f.stage b i.at }

abbrev Low : Plan → List Entry → Follower → Type 0
Low p h f = IsLow (seen_with f.session f.k h) (pushes_of h) f

low_step : (p : Plan) (n : ℕ) (e : Entry) (h : List Entry) → IsHistory p (e ∷ h) → OnStanding (Low p h) (place_of p n h) → OnStanding (Low p (e ∷ h)) (place_of p n (e ∷ h))
low_step p n e h l i =
    standing_step p n h e.op (place_of p n h) (Low p (e ∷ h))
    (λ f b _. later f f b refl refl (at f b))
    (λ c k _. record { last = omega arith; granted = omega arith; at = tt })
    (λ f r b a q. let x = ahead p h r e.op f in later f (next_with p h r e.op f) b x.0 x.1 (move_low p h r e.op f l.0 (at f b)))
  where
    at : (f : Follower) → place_of p n h ≡ Following f → Low p h f
    at f b = subst (OnStanding (Low p h)) b i

    sent : (f : Follower) → place_of p n h ≡ Following f → f.k ≤ sends_of f.session h
    sent f b = (reached p n f.session f.k h l.0 (follower_task p n h f l.0 b)).2

    later : (f g : Follower) → place_of p n h ≡ Following f → g.session ≡ f.session → g.k ≡ f.k → IsLow (seen_with f.session f.k h) (pushes_of h) g → Low p (e ∷ h) g
    later f g b c k i = subst (λ s. IsLow s (pushes_of (e ∷ h)) g) (ap seen_from (sym (origin_stays f.session f.k e h (sent f b))) ∙ (λ j. seen_with (sym c j) (sym k j) (e ∷ h))) (more_low (seen_with f.session f.k h) (pushes_of h) (pushes_of (e ∷ h)) g (pushes_grow e h) i)

low : (p : Plan) (n : ℕ) (h : List Entry) → IsHistory p h → OnStanding (Low p h) (place_of p n h)
low p n [] l = tt
low p n (e ∷ h) l = low_step p n e h l (low p n h l.0)

pub refuses_low : (p : Plan) (n : ℕ) (h : List Entry) (f : Follower) → IsHistory p h → place_of p n h ≡ Following f → AtMost (seen_with f.session f.k h) (pushes_of h) f.stage
refuses_low p n h f l b = (subst (OnStanding (Low p h)) b (low p n h l)).at

-- Losses. -----------------------------------------------------------------------------------------------

-- who has a lock was started, and it was granted up to now
abbrev GrantLow : List Entry → Option Grant → Type 0
GrantLow h None = Unit {0}
GrantLow h (Some g) = (g.holder ≤ starts_of h) × (g.moment ≤ clock_of h)

grant_more : (e : Entry) (h : List Entry) (o : Option Grant) → GrantLow h o → GrantLow (e ∷ h) o
grant_more e h None i = tt
grant_more e h (Some g) i = let a = starts_grow e h in let b = clock_grows e.op (clock_of h) in (let c = i.0 in omega (arith, a, c), let c = i.1 in omega (arith, b, c))

grant_step : (p : Plan) (q : PathNames) (h : List Entry) (o : Op) → IsHistory p h → IsDue p h o → GrantLow h (last_grant q h) → GrantLow h (grant_in q (clock_of h) o (last_grant q h))
grant_step p q h (op.LockOk n path) l d i = by_test (same_path path q) (λ b. GrantLow h (cond b (Some (record { holder = n; moment = clock_of h })) (last_grant q h))) (λ _. ((place_bound p n h l (ap is_absent d.1)).1, omega arith)) (λ _. i)
grant_step p q h o l d i = i

grant_low : (p : Plan) (q : PathNames) (h : List Entry) → IsHistory p h → GrantLow h (last_grant q h)
grant_low p q [] l = tt
grant_low p q (e ∷ h) l = grant_more e h (last_grant q (e ∷ h)) (grant_step p q h e.op l.0 (due p e h l) (grant_low p q h l.0))

found_low : (h : List Entry) (q : PathNames) (o : Option Grant) → GrantLow h o → ((passed_on q o).holder ≤ starts_of h) × ((passed_on q o).moment ≤ clock_of h)
found_low h q None i = (omega arith, omega arith)
found_low h q (Some g) i = i

passed_low : (p : Plan) (n : ℕ) (h : List Entry) (ps : List PathNames) (x : locks.Passed) → IsHistory p h → first_passed n h ps ≡ Some x → (x.holder ≤ starts_of h) × (x.moment ≤ clock_of h)
passed_low p n h [] x l e = absurd (grind arith)
passed_low p n h (q ∷ ps) x l e = one (is_held_by n h (last_grant q h)) e (passed_low p n h ps x l)
  where
    one : (b : Bool) → cond b (first_passed n h ps) (Some (passed_on q (last_grant q h))) ≡ Some x → (first_passed n h ps ≡ Some x → (x.holder ≤ starts_of h) × (x.moment ≤ clock_of h)) → (x.holder ≤ starts_of h) × (x.moment ≤ clock_of h)
    one true f k = k f
    one false f k = subst (λ (y : locks.Passed). (y.holder ≤ starts_of h) × (y.moment ≤ clock_of h)) (same_Some (passed_on q (last_grant q h)) x f) (found_low h q (last_grant q h) (grant_low p q h l))

own_step : (n : ℕ) (path : PathNames) (now : ℕ) (o : Op) (z : ℕ) → z ≤ now → own_moment_in n path now o z ≤ now
own_step n path now (op.LockOk m q) z b = by_test ((m == n) && same_path q path) (λ x. cond x now z ≤ now) (λ _. omega arith) (λ _. b)
own_step n path now o z b = b

own_low : (n : ℕ) (path : PathNames) (h : List Entry) → own_moment n path h ≤ clock_of h
own_low n path [] = omega arith
own_low n path (e ∷ h) = let a = own_step n path (clock_of h) e.op (own_moment n path h) (own_low n path h) in let b = clock_grows e.op (clock_of h) in omega (arith, a, b)

-- a loss has moments up to now, and who was found was started
pub record LossLow (h : List Entry) (x : Loss) : Type 0 where
  pub own : x.own ≤ clock_of h
  pub found : x.found ≤ starts_of h
  pub moment : x.moment ≤ clock_of h

abbrev pub LostLow : List Entry → Option Loss → Type 0
LostLow h None = Unit {0}
LostLow h (Some x) = LossLow h x

loss_more : (e : Entry) (h : List Entry) (o : Option Loss) → LostLow h o → LostLow (e ∷ h) o
loss_more e h None i = tt
loss_more e h (Some x) i =
    let a = starts_grow e h in
    let b = clock_grows e.op (clock_of h) in
    record { own = (let c = i.own in omega (arith, b, c)); found = (let c = i.found in omega (arith, a, c)); moment = (let c = i.moment in omega (arith, b, c)) }

loss_new : (p : Plan) (n m j holder moment : ℕ) (path : PathNames) (ps : List PathNames) (h : List Entry) (o : Option Loss) → IsHistory p h → first_passed j h ps ≡ Some (record { path = path; holder = holder; moment = moment }) → LostLow h o → LostLow h (loss_at n h m path holder moment o)
loss_new p n m j holder moment path ps h o l d i =
    let w = passed_low p j h ps (record { path = path; holder = holder; moment = moment }) l d in
    by_test (m == n) (λ b. LostLow h (cond b (Some (record { path = path; own = own_moment n path h; found = holder; moment = moment })) o)) (λ _. record { own = own_low n path h; found = w.0; moment = w.1 }) (λ _. i)

loss_step : (p : Plan) (n : ℕ) (h : List Entry) (o : Op) → IsHistory p h → IsDue p h o → LostLow h (loss_of n h) → LostLow h (loss_in n h o (loss_of n h))
loss_step p n h (op.CommitLock m tx path holder moment) l d i = loss_new p n m d.0 holder moment path (in_path_order (granted d.0 h)) h (loss_of n h) l d.5 i
loss_step p n h (op.RefuseLock m cd place at path holder moment) l d i = loss_new p n m m holder moment path (in_path_order (granted m h)) h (loss_of n h) l d.4 i
loss_step p n h o l d i = i

pub loss_low : (p : Plan) (n : ℕ) (h : List Entry) → IsHistory p h → LostLow h (loss_of n h)
loss_low p n [] l = tt
loss_low p n (e ∷ h) l = loss_more e h (loss_of n (e ∷ h)) (loss_step p n h e.op l.0 (due p e h l) (loss_low p n h l.0))

-- Outcomes. ---------------------------------------------------------------------------------------------

-- the numbers of an outcome, by what the client had seen
abbrev pub OutcomeLow : ℕ → List Entry → Option Outcome → Type 0
OutcomeLow seen h (Some (Refused cd place at)) = at ≤ max seen (pushes_of h)
OutcomeLow seen h (Some (Passed o)) = LostLow h o
OutcomeLow seen h _ = Unit {0}

outcome_more : (seen : ℕ) (e : Entry) (h : List Entry) (o : Option Outcome) → OutcomeLow seen h o → OutcomeLow seen (e ∷ h) o
outcome_more seen e h None i = tt
outcome_more seen e h (Some (Committed t)) i = tt
outcome_more seen e h (Some (Refused cd place at)) i = let a = pushes_grow e h in omega (arith, a, i)
outcome_more seen e h (Some (Passed o)) i = loss_more e h o i

refused_low : (p : Plan) (n place at : ℕ) (cd : Code) (h : List Entry) (f : Follower) (seen : ℕ) → AtMost seen (pushes_of h) f.stage → (s : follower.Stage) → f.stage ≡ s → Refuses n cd place at h s → at ≤ max seen (pushes_of h)
refused_low p n place at cd h f seen i (follower.Refuse r a) e d = subst (λ z. z ≤ max seen (pushes_of h)) d.2 (subst (AtMost seen (pushes_of h)) e i)
refused_low p n place at cd h f seen i (follower.Expire a) e d = subst (λ z. z ≤ max seen (pushes_of h)) d.2 (subst (AtMost seen (pushes_of h)) e i)
refused_low p n place at cd h f seen i s e d = absurd d

-- a settling of request k of session c, where a line settles one
abbrev SettledLow : ℕ → ℕ → List Entry → Option Settling → Type 0
SettledLow c k h None = Unit {0}
SettledLow c k h (Some s) = s.session ≡ c → settled_of c h + 1 ≡ k → OutcomeLow (seen_with c k h) h (Some s.outcome)

settling_low : (p : Plan) (c k : ℕ) (h : List Entry) (o : Op) → IsHistory p h → IsDue p h o → SettledLow c k h (settled_in h o)
settling_low p c k h (op.CommitOk n t) l d = commits (session_of_push t h)
  where
    commits : (o : Option ℕ) → SettledLow c k h (settling o (Committed t))
    commits None = tt
    commits (Some s) = λ e f. tt
settling_low p c k h (op.RefuseOk n cd place at) l d = subst (λ z. SettledLow c k h (settling (session_followed z) (Refused cd place at))) (sym (follower_task p n h d.0 l d.1)) refuses
  where
    refuses : d.0.session ≡ c → settled_of c h + 1 ≡ k → at ≤ max (seen_with c k h) (pushes_of h)
    refuses e g =
        let j : d.0.k ≡ k = sym d.2 ∙ (ap (λ z. settled_of z h + 1) e ∙ g) in
        refused_low p n place at cd h d.0 (seen_with c k h) (subst (λ z. AtMost z (pushes_of h) d.0.stage) (λ i. seen_with (e i) (j i) h) (refuses_low p n h d.0 l d.1)) d.0.stage refl d.3
settling_low p c k h (op.LostOk n) l d = loses (session_followed (task_of n h))
  where
    loses : (o : Option ℕ) → SettledLow c k h (settling o (Passed (loss_of n h)))
    loses None = tt
    loses (Some s) = λ e f. loss_low p n h l
settling_low p c k h o l d = tt

outcome_step : (p : Plan) (c k : ℕ) (h : List Entry) (s : Option Settling) (o : Option Outcome) → SettledLow c k h s → OutcomeLow (seen_with c k h) h o → OutcomeLow (seen_with c k h) h (outcome_here c k (settled_of c h) s o)
outcome_step p c k h None o i j = j
outcome_step p c k h (Some s) o i j = by_test ((s.session == c) && (settled_of c h + 1 == k)) (λ b. OutcomeLow (seen_with c k h) h (cond b (Some s.outcome) o)) (λ e. i (eqb-true s.session c (and_left (s.session == c) (settled_of c h + 1 == k) e)) (eqb-true (settled_of c h + 1) k (and_right (s.session == c) (settled_of c h + 1 == k) e))) (λ _. j)

-- what is settled was sent before
settled_before : (p : Plan) (c : ℕ) (e : Entry) (h : List Entry) → IsHistory p (e ∷ h) → settled_of c (e ∷ h) ≤ sends_of c h
settled_before p c e h l = by_settling (settled_in h e.op) refl
  where
    by_settling : (o : Option Settling) → settled_in h e.op ≡ o → count_settling c o (settled_of c h) ≤ sends_of c h
    by_settling None f = settled_were_sent p c h l.0
    by_settling (Some s) f = by_test (s.session == c) (λ b. cond b (settled_of c h + 1) (settled_of c h) ≤ sends_of c h) (λ g. subst (λ z. settled_of z h + 1 ≤ sends_of z h) (eqb-true s.session c g) next) (λ _. settled_were_sent p c h l.0)
      where
        next : settled_of s.session h + 1 ≤ sends_of s.session h
        next = let n = settles_the_next p e h s l f in let r = reached p n.function s.session n.k h l.0 n.task in let m = n.next in omega (arith, r.2, m)

pub outcome_low : (p : Plan) (c k : ℕ) (h : List Entry) → IsHistory p h → OutcomeLow (seen_with c k h) h (outcome_of c k h)
outcome_low p c k [] l = tt
outcome_low p c k (e ∷ h) l = by_sent (outcome_step p c k h (settled_in h e.op) (outcome_of c k h) (settling_low p c k h e.op l.0 (due p e h l)) (outcome_low p c k h l.0))
  where
    -- what is settled was sent, so what its client had seen stays
    by_outcome : (o : Option Outcome) → outcome_of c k (e ∷ h) ≡ o → OutcomeLow (seen_with c k h) h o → OutcomeLow (seen_with c k (e ∷ h)) (e ∷ h) o
    by_outcome None f i = tt
    by_outcome (Some o) f i =
        let a = (outcome_is_of_a_settled p c k (e ∷ h) o l f).1 in
        let w = settled_before p c e h l in
        let b : k ≤ sends_of c h = omega (arith, a, w) in
        subst (λ s. OutcomeLow s (e ∷ h) (Some o)) (ap seen_from (sym (origin_stays c k e h b))) (outcome_more (seen_with c k h) e h (Some o) i)

    by_sent : OutcomeLow (seen_with c k h) h (outcome_of c k (e ∷ h)) → OutcomeLow (seen_with c k (e ∷ h)) (e ∷ h) (outcome_of c k (e ∷ h))
    by_sent i = by_outcome (outcome_of c k (e ∷ h)) refl i
