-- Each step of a function in a drain lowers the rank.
use Rattle.std.specs.Prelude.{◌==◌, ◌-◌, if◌then◌else◌}
use Rattle.std.proofs.Common.{◌≡◌, ℕ, ◌+◌, ◌<◌, ◌≤◌, ◌++◌, ◌⊎◌, inl, inr, Bool, true, false, List, [], ◌∷◌, length, refl, sym, ◌∙◌, ap, subst, arith, Option, Some, None}
use Rattle.std.proofs.lemmas.Bool.{false≢true}
use Rattle.std.proofs.lemmas.Bool.Decides.{nat_tests}
use Rattle.std.proofs.lemmas.Option.{none-some}
use Rattle.fk_tree.specs.declared.request.Request.{Request}
use Rattle.fk_print.specs.declared.entry.Entry.{Entry}
use Rattle.fk_print.specs.declared.op.Op.{Op}
use Rattle.fk_print.specs.declared.op.Op.TheVariants as op
use Rattle.fk_spec.specs.Plan.{Plan, asks_in, is_client}
use Rattle.fk_spec.specs.Start as start
use Rattle.fk_spec.specs.Start.{Follows, Notifies, Start, Task, count_push, count_sent, pushed_in, pushes_of, request_of, sends_of, sent_in, started_in, task_of}
use Rattle.fk_spec.specs.Sight.{sight_of}
use Rattle.fk_spec.specs.Lanes.{follows_session, leads, note_count, notes_of, notifies, removed_by, removed_in}
use Rattle.fk_spec.specs.Follower.{Follower, next_with}
use Rattle.fk_spec.specs.Follower as follower
use Rattle.fk_spec.specs.Leader.{next_leader}
use Rattle.fk_spec.specs.Leader as leader
use Rattle.fk_spec.specs.Teller.{next_teller}
use Rattle.fk_spec.specs.Teller as teller
use Rattle.fk_spec.specs.Client.{client_by, client_in, client_of}
use Rattle.fk_spec.specs.Function.{Place, Absent, Following, Leading, Telling, Beating, actor, follow_on, is_absent, lead_on, moved, place_of, tell_on}
use Rattle.fk_spec.specs.Next.{IsHistory}
use Rattle.fk_law.specs.Due.{IsDue}
use Rattle.fk_law.specs.Functions.{IsFor}
use Rattle.fk_law.specs.Progress.{progress, progress_after}
use Rattle.fk_law.proofs.Moving.{IsAhead, ahead, last_after}
use Rattle.fk_law.proofs.Clients.{follows_a_client}
use Rattle.fk_law.proofs.Due.{due}
use Rattle.fk_law.proofs.Leading.{leader_at_or_below_the_head}
use Rattle.fk_law.proofs.Sending.{request_stays}
use Rattle.fk_law.proofs.Settled.{reached}
use Rattle.fk_law.proofs.Starting.{follower_task, leader_task, no_client, own_operation_moves_it, place_for, teller_at_or_below_the_head}
use Rattle.fk_law_drain.specs.Draining.{WorksOnTheHead}
use Rattle.fk_law_drain.specs.Falling.{IsLower, client_sum, client_weight, commands_left, follower_class, follower_rank, leader_class, leader_rank, lock_bound, puts_left, requests_left, teller_class, teller_rank, tells_left}
use Rattle.fk_law_drain.proofs.ClientsFall.{NoSend}
use Rattle.fk_law_drain.proofs.FunctionsFall.{FollowerFalls, LeaderFalls, TellerFalls, follower_falls, leader_falls, teller_falls}
use Rattle.fk_law_drain.proofs.Stepping.{NotAck, follower_after, its_request, not_removed}
use Rattle.fk_law_drain.proofs.Summing.{lower_after, lower_then, sum_falls, sum_same}
use Rattle.fk_law_drain.proofs.Unhindered.{GoesOn}

-- Ranks of several parts. ------------------------------------------------------------------------------

-- what a rank is made of
pub record Parts : Type 0 where
  pub commands : ℕ
  pub requests : ℕ
  pub follower : List ℕ
  pub pushes : ℕ
  pub leader : List ℕ
  pub notes : ℕ
  pub teller : List ℕ
  pub clients : ℕ

abbrev pub whole : Parts → List ℕ
whole x = x.commands ∷ x.requests ∷ (x.follower ++ (x.pushes ∷ (x.leader ++ (x.notes ∷ (x.teller ++ (x.clients ∷ []))))))

abbrev pub parts : Plan → List Entry → Place → Parts
parts p h x = record { commands = client_sum (commands_left p h) p.asks 1; requests = client_sum (requests_left h) p.asks 1; follower = follower_rank p h x; pushes = pushes_of h - removed_by leads h; leader = leader_rank x; notes = notes_of h - removed_by notifies h; teller = teller_rank x; clients = client_sum (client_weight p h) p.asks 1 }

-- The first part that falls.
pub data Falls (x y : Parts) : Type 0 where
  ByCommands : x.commands < y.commands → Falls x y
  ByRequests : x.commands ≡ y.commands → x.requests < y.requests → Falls x y
  ByFollower : x.commands ≡ y.commands → x.requests ≡ y.requests → IsLower x.follower y.follower → Falls x y
  ByPushes : x.commands ≡ y.commands → x.requests ≡ y.requests → x.follower ≡ y.follower → x.pushes < y.pushes → Falls x y
  ByLeader : x.commands ≡ y.commands → x.requests ≡ y.requests → x.follower ≡ y.follower → x.pushes ≡ y.pushes → IsLower x.leader y.leader → Falls x y
  ByNotes : x.commands ≡ y.commands → x.requests ≡ y.requests → x.follower ≡ y.follower → x.pushes ≡ y.pushes → x.leader ≡ y.leader → x.notes < y.notes → Falls x y
  ByTeller : x.commands ≡ y.commands → x.requests ≡ y.requests → x.follower ≡ y.follower → x.pushes ≡ y.pushes → x.leader ≡ y.leader → x.notes ≡ y.notes → IsLower x.teller y.teller → Falls x y
  ByClients : x.commands ≡ y.commands → x.requests ≡ y.requests → x.follower ≡ y.follower → x.pushes ≡ y.pushes → x.leader ≡ y.leader → x.notes ≡ y.notes → x.teller ≡ y.teller → x.clients < y.clients → Falls x y

pub falls : (x y : Parts) → Falls x y → IsLower (whole x) (whole y)
falls x y (ByCommands a) = inl a
falls x y (ByRequests a b) = inr (a, inl b)
falls x y (ByFollower a b c) = inr (a, inr (b, lower_then x.follower y.follower _ _ c))
falls x y (ByPushes a b c d) = inr (a, inr (b, lower_after x.follower y.follower _ _ c (inl d)))
falls x y (ByLeader a b c d e) = inr (a, inr (b, lower_after x.follower y.follower _ _ c (inr (d, lower_then x.leader y.leader _ _ e))))
falls x y (ByNotes a b c d e f) = inr (a, inr (b, lower_after x.follower y.follower _ _ c (inr (d, lower_after x.leader y.leader _ _ e (inl f)))))
falls x y (ByTeller a b c d e f g) = inr (a, inr (b, lower_after x.follower y.follower _ _ c (inr (d, lower_after x.leader y.leader _ _ e (inr (f, lower_then x.teller y.teller _ _ g))))))
falls x y (ByClients a b c d e f g k) = inr (a, inr (b, lower_after x.follower y.follower _ _ c (inr (d, lower_after x.leader y.leader _ _ e (inr (f, lower_after x.teller y.teller _ _ g (inl k)))))))

-- What an operation leaves. ----------------------------------------------------------------------------

-- an operation of no client
pub same_commands : (p : Plan) (e : Entry) (h : List Entry) → client_in e.op ≡ None → client_sum (commands_left p (e ∷ h)) p.asks 1 ≡ client_sum (commands_left p h) p.asks 1
same_commands p e h q = sum_same (commands_left p (e ∷ h)) (commands_left p h) p.asks 1 (λ d. ap (λ z. length (asks_in p d) - z.begun) (ap (λ z. client_by (sight_of p d h) z e.op (client_of p d h)) q))

pub starts_no_client : (o : Op) (x : Start) → started_in o ≡ Some x → client_in o ≡ None
starts_no_client o x a = grind arith

not_sent : (c : ℕ) (h : List Entry) (o : Op) → NoSend o → sent_in c h o ≡ None
not_sent c h (op.Send d i k) s = absurd s
not_sent c h (op.Evict n k) s = absurd s
not_sent c h o s = refl

pub same_requests : (p : Plan) (e : Entry) (h : List Entry) → NoSend e.op → ((c : ℕ) → removed_in (follows_session c) h e.op (removed_by (follows_session c) h) ≡ removed_by (follows_session c) h) → client_sum (requests_left (e ∷ h)) p.asks 1 ≡ client_sum (requests_left h) p.asks 1
same_requests p e h s r = sum_same (requests_left (e ∷ h)) (requests_left h) p.asks 1 (λ d. let a = ap (λ z. count_sent z (sends_of d h)) (not_sent d h e.op s) in let b = r d in ap (λ z. z - removed_by (follows_session d) (e ∷ h)) a ∙ ap (λ z. sends_of d h - z) b)

-- a function in a calm history sends no request
calm_sends_none : (p : Plan) (n : ℕ) (h : List Entry) (o : Op) → IsDue p h o → actor o ≡ Some n → WorksOnTheHead h (place_of p n h) → NoSend o
calm_sends_none p n h (op.Send d i k) d2 a w = absurd (none-some n a)
calm_sends_none p n h (op.Evict m k) d a w = absurd (subst (WorksOnTheHead h) (ap (λ z. place_of p z h) (sym (its a)) ∙ d.1) w)
  where
    its : Some m ≡ Some n → m ≡ n
    its e = grind arith
calm_sends_none p n h o d a w = tt

abbrev pub NoPush : Op → Type 0
NoPush (op.Push n t) = ⊥
NoPush _ = Unit {0}

pub not_pushed : (o : Op) (r : ℕ) → NoPush o → count_push (pushed_in 0 o) r ≡ r
not_pushed (op.Push n t) r i = absurd i
not_pushed o r i = refl

abbrev pub NoNote : Op → Type 0
NoNote (op.Notify n t w) = ⊥
NoNote _ = Unit {0}

pub not_noted : (o : Op) (r : ℕ) → NoNote o → note_count o r ≡ r
not_noted (op.Notify n t w) r i = absurd i
not_noted o r i = refl

its_actor : (m n : ℕ) → Some m ≡ Some n → m ≡ n
its_actor m n e = grind arith

-- only a follower pushes, and only a leader notifies
pushes_none : (p : Plan) (n : ℕ) (h : List Entry) (o : Op) (x : Place) → IsDue p h o → actor o ≡ Some n → place_of p n h ≡ x → ((f : Follower) → x ≡ Following f → ⊥) → NoPush o
pushes_none p n h (op.Push m t) x d a b i = absurd (i d.0 (sym b ∙ (ap (λ z. place_of p z h) (sym (its_actor m n a)) ∙ d.1)))
pushes_none p n h o x d a b i = tt

notes_none : (p : Plan) (n : ℕ) (h : List Entry) (o : Op) (x : Place) → IsDue p h o → actor o ≡ Some n → place_of p n h ≡ x → ((t : ℕ) (s : leader.Stage) → x ≡ Leading t s → ⊥) → NoNote o
notes_none p n h (op.Notify m t w) x d a b i = absurd (i t leader.Notify (sym b ∙ (ap (λ z. place_of p z h) (sym (its_actor m n a)) ∙ d.0)))
notes_none p n h o x d a b i = tt

-- Followers. -------------------------------------------------------------------------------------------

follow_is : (s : follower.Stage) (g : Follower) → 1 ≤ follower_class s → follow_on s g ≡ Following g
follow_is follower.Ended g a = absurd (omega (arith, a))
follow_is s g a = refl

-- the message that a function of a session removes
session_removed : (p : Plan) (n m c k : ℕ) (h : List Entry) → m ≡ n → task_of n h ≡ Some (Follows c k) → (d : ℕ) → (removed_by (follows_session d) h ≤ removed_in (follows_session d) h (op.AckOk m) (removed_by (follows_session d) h)) × ((d ≡ c) → removed_in (follows_session d) h (op.AckOk m) (removed_by (follows_session d) h) ≡ removed_by (follows_session d) h + 1)
session_removed p n m c k h e t d = (grows (follows_session d (task_of m h)), λ f. ap (λ b. if b then removed_by (follows_session d) h + 1 else removed_by (follows_session d) h) (ap (λ z. follows_session d (task_of z h)) e ∙ (ap (follows_session d) t ∙ own f)))
  where
    grows : (b : Bool) → removed_by (follows_session d) h ≤ (if b then removed_by (follows_session d) h + 1 else removed_by (follows_session d) h)
    grows true = omega arith
    grows false = omega arith

    own : d ≡ c → (c == d) ≡ true
    own f = grind (arith, nat_tests)

pub in_range : (p : Plan) (c : ℕ) → is_client p c ≡ true → (1 ≤ c) × (c < 1 + length p.asks)
in_range p c i = (grind (arith, nat_tests), grind (arith, nat_tests))

follower_step_falls : (p : Plan) (n : ℕ) (e : Entry) (h : List Entry) (f : Follower) → IsHistory p (e ∷ h) → place_of p n h ≡ Following f → GoesOn n (Following f) e.op → WorksOnTheHead h (Following f) → (o : Op) → e.op ≡ o → Falls (parts p (e ∷ h) (place_of p n (e ∷ h))) (parts p h (Following f))
follower_step_falls p n e h f l b g w o q = by_op o q
  where
    task : task_of n h ≡ Some (Follows f.session f.k)
    task = follower_task p n h f l.0 b

    r : (r : Request) × (request_of p f.session f.k h ≡ Some r)
    r = its_request p n h f l.0 b

    y : Follower
    y = next_with p h r.0 e.op f

    x : IsAhead f (progress_after e.op (progress f.stage)) (last_after h e.op f) y
    x = ahead p h r.0 e.op f

    commands : client_sum (commands_left p (e ∷ h)) p.asks 1 ≡ client_sum (commands_left p h) p.asks 1
    commands = same_commands p e h (no_client e.op n g.1)

    unsent : NoSend e.op
    unsent = calm_sends_none p n h e.op (due p e h l) g.1 (subst (WorksOnTheHead h) (sym b) w)

    same_request : request_of p y.session y.k (e ∷ h) ≡ Some r.0
    same_request = ap (λ z. request_of p z y.k (e ∷ h)) x.0 ∙ (ap (λ z. request_of p f.session z (e ∷ h)) x.1 ∙ (request_stays p f.session f.k e h (reached p n f.session f.k h l.0 task).2 ∙ r.1))

    lower : FollowerFalls r.0 f y → IsLower (follower_rank p (e ∷ h) (place_of p n (e ∷ h))) (follower_rank p h (Following f))
    lower a =
        subst (λ z. IsLower (follower_rank p (e ∷ h) z) (follower_rank p h (Following f))) (sym (follower_after p n e h f r.0 g.1 b r.1 ∙ follow_is y.stage y a.0))
        (subst (λ z. IsLower (0 ∷ follower_class y.stage ∷ (lock_bound y.owned z - length y.granted) ∷ []) (follower_rank p h (Following f))) (sym same_request)
        (subst (λ z. IsLower (0 ∷ follower_class y.stage ∷ (lock_bound y.owned (Some r.0) - length y.granted) ∷ []) (0 ∷ follower_class f.stage ∷ (lock_bound f.owned z - length f.granted) ∷ [])) (sym r.1) (inr (refl, both a.1))))
      where
        both : (follower_class y.stage < follower_class f.stage) ⊎ ((follower_class y.stage ≡ follower_class f.stage) × (lock_bound y.owned (Some r.0) - length y.granted < lock_bound f.owned (Some r.0) - length f.granted)) → IsLower (follower_class y.stage ∷ (lock_bound y.owned (Some r.0) - length y.granted) ∷ []) (follower_class f.stage ∷ (lock_bound f.owned (Some r.0) - length f.granted) ∷ [])
        both (inl c) = inl c
        both (inr c) = inr (c.0, inl c.1)

    acked : (m : ℕ) → e.op ≡ op.AckOk m → client_sum (requests_left (e ∷ h)) p.asks 1 < client_sum (requests_left h) p.asks 1
    acked m q =
        let s = in_range p f.session (follows_a_client p n f.session f.k h l.0 task) in
        sum_falls (requests_left (e ∷ h)) (requests_left h) p.asks 1 f.session s.0 s.1 (λ d. most d) less
      where
        removed : (d : ℕ) → removed_by (follows_session d) (e ∷ h) ≡ removed_in (follows_session d) h (op.AckOk m) (removed_by (follows_session d) h)
        removed d = ap (λ z. removed_in (follows_session d) h z (removed_by (follows_session d) h)) q

        change : (d : ℕ) → (removed_by (follows_session d) h ≤ removed_in (follows_session d) h (op.AckOk m) (removed_by (follows_session d) h)) × ((d ≡ f.session) → removed_in (follows_session d) h (op.AckOk m) (removed_by (follows_session d) h) ≡ removed_by (follows_session d) h + 1)
        change d = session_removed p n m f.session f.k h (its_actor m n (sym (ap actor q) ∙ g.1)) task d

        sends : (d : ℕ) → sends_of d (e ∷ h) ≡ sends_of d h
        sends d = ap (λ z. count_sent z (sends_of d h)) (not_sent d h e.op unsent)

        most : (d : ℕ) → requests_left (e ∷ h) d ≤ requests_left h d
        most d = let a = sends d in let c = removed d in let k = (change d).0 in omega (arith, a, c, k)

        less : requests_left (e ∷ h) f.session < requests_left h f.session
        less = let a = sends f.session in let c = removed f.session in let k = (change f.session).1 refl in let j = (reached p n f.session f.k h l.0 task).2 in let i = w.0 in omega (arith, a, c, k, j, i)

    going : NotAck e.op → Falls (parts p (e ∷ h) (place_of p n (e ∷ h))) (parts p h (Following f))
    going k = ByFollower commands (same_requests p e h unsent (λ c. not_removed (follows_session c) h e.op (removed_by (follows_session c) h) k)) (lower (follower_falls p n h r.0 f e.op (due p e h l) b g.1 g.0 k))

    by_op : (o : Op) → e.op ≡ o → Falls (parts p (e ∷ h) (place_of p n (e ∷ h))) (parts p h (Following f))
    by_op (op.AckOk m) q = ByRequests commands (acked m q)
    by_op o q = going (subst NotAck (sym q) tt)

-- Leaders. ---------------------------------------------------------------------------------------------

lead_is : (t : ℕ) (s : leader.Stage) → 1 ≤ leader_class s → lead_on t s ≡ Leading t s
lead_is t leader.Ended a = absurd (omega (arith, a))
lead_is t s a = refl

removed_elsewhere : (w : Option Task → Bool) (n : ℕ) (h : List Entry) (t : Task) (o : Op) (r : ℕ) → actor o ≡ Some n → task_of n h ≡ Some t → w (Some t) ≡ false → removed_in w h o r ≡ r
removed_elsewhere w n h t (op.AckOk m) r a b c = ap (λ z. if z then r + 1 else r) (ap (λ z. w (task_of z h)) (its_actor m n a) ∙ (ap w b ∙ c))
removed_elsewhere w n h t o r a b c = refl

removed_here : (w : Option Task → Bool) (n m : ℕ) (h : List Entry) (t : Task) (r : ℕ) → m ≡ n → task_of n h ≡ Some t → w (Some t) ≡ true → removed_in w h (op.AckOk m) r ≡ r + 1
removed_here w n m h t r e b c = ap (λ z. if z then r + 1 else r) (ap (λ z. w (task_of z h)) e ∙ (ap w b ∙ c))

lead_follows_none : (p : Plan) (h : List Entry) (t : ℕ) (s : leader.Stage) → follower_rank p h (lead_on t s) ≡ 1 ∷ 0 ∷ 0 ∷ []
lead_follows_none p h t leader.Ended = refl
lead_follows_none p h t s = refl

leader_step_falls : (p : Plan) (n t : ℕ) (e : Entry) (h : List Entry) (s : leader.Stage) → IsHistory p (e ∷ h) → place_of p n h ≡ Leading t s → GoesOn n (Leading t s) e.op → WorksOnTheHead h (Leading t s) → (o : Op) → e.op ≡ o → Falls (parts p (e ∷ h) (place_of p n (e ∷ h))) (parts p h (Leading t s))
leader_step_falls p n t e h s l b g w o q = by_op o q
  where
    task : task_of n h ≡ Some (start.Leads t)
    task = leader_task p n h t s l.0 b

    after : place_of p n (e ∷ h) ≡ lead_on t (next_leader p h t e.op s)
    after = own_operation_moves_it p n e h g.1 ∙ ap (moved p h e.op) b

    commands : client_sum (commands_left p (e ∷ h)) p.asks 1 ≡ client_sum (commands_left p h) p.asks 1
    commands = same_commands p e h (no_client e.op n g.1)

    requests : client_sum (requests_left (e ∷ h)) p.asks 1 ≡ client_sum (requests_left h) p.asks 1
    requests = same_requests p e h (calm_sends_none p n h e.op (due p e h l) g.1 (subst (WorksOnTheHead h) (sym b) w)) (λ c. removed_elsewhere (follows_session c) n h (start.Leads t) e.op (removed_by (follows_session c) h) g.1 task refl)

    follower : follower_rank p (e ∷ h) (place_of p n (e ∷ h)) ≡ follower_rank p h (Leading t s)
    follower = ap (follower_rank p (e ∷ h)) after ∙ lead_follows_none p (e ∷ h) t (next_leader p h t e.op s)

    pushed : pushes_of (e ∷ h) ≡ pushes_of h
    pushed = not_pushed e.op (pushes_of h) (pushes_none p n h e.op (Leading t s) (due p e h l) g.1 b (λ f z. absurd (grind arith)))

    lower : LeaderFalls s (next_leader p h t e.op s) → IsLower (leader_rank (place_of p n (e ∷ h))) (leader_rank (Leading t s))
    lower a = subst (λ z. IsLower (leader_rank z) (leader_rank (Leading t s))) (sym (after ∙ lead_is t (next_leader p h t e.op s) a.0)) (inr (refl, both a.1))
      where
        both : (leader_class (next_leader p h t e.op s) < leader_class s) ⊎ ((leader_class (next_leader p h t e.op s) ≡ leader_class s) × (puts_left (next_leader p h t e.op s) < puts_left s)) → IsLower (leader_class (next_leader p h t e.op s) ∷ puts_left (next_leader p h t e.op s) ∷ []) (leader_class s ∷ puts_left s ∷ [])
        both (inl c) = inl c
        both (inr c) = inr (c.0, inl c.1)

    acked : (m : ℕ) → e.op ≡ op.AckOk m → pushes_of (e ∷ h) - removed_by leads (e ∷ h) < pushes_of h - removed_by leads h
    acked m q =
        let a = pushed in
        let c = ap (λ z. removed_in leads h z (removed_by leads h)) q ∙ removed_here leads n m h (start.Leads t) (removed_by leads h) (its_actor m n (sym (ap actor q) ∙ g.1)) task refl in
        let j = (leader_at_or_below_the_head p n t h l.0 task).2 in
        omega (arith, a, c, j, w)

    going : NotAck e.op → Falls (parts p (e ∷ h) (place_of p n (e ∷ h))) (parts p h (Leading t s))
    going k = ByLeader commands requests follower (ap (λ z. z - removed_by leads (e ∷ h)) pushed ∙ ap (λ z. pushes_of h - z) (not_removed leads h e.op (removed_by leads h) k)) (lower (leader_falls p n t h s e.op (due p e h l) b g.1 g.0 k))

    by_op : (o : Op) → e.op ≡ o → Falls (parts p (e ∷ h) (place_of p n (e ∷ h))) (parts p h (Leading t s))
    by_op (op.AckOk m) q = ByPushes commands requests follower (acked m q)
    by_op o q = going (subst NotAck (sym q) tt)

-- Watch functions. -------------------------------------------------------------------------------------

tell_is : (w t : ℕ) (s : teller.Stage) → 1 ≤ teller_class s → tell_on w t s ≡ Telling w t s
tell_is w t teller.Ended a = absurd (omega (arith, a))
tell_is w t s a = refl

-- a watch function is neither a follower nor a leader
tell_others : (p : Plan) (h : List Entry) (w t : ℕ) (s : teller.Stage) → (follower_rank p h (tell_on w t s) ≡ 1 ∷ 0 ∷ 0 ∷ []) × (leader_rank (tell_on w t s) ≡ 1 ∷ 0 ∷ 0 ∷ [])
tell_others p h w t teller.Ended = (refl, refl)
tell_others p h w t s = (refl, refl)

teller_step_falls : (p : Plan) (n v t : ℕ) (e : Entry) (h : List Entry) (s : teller.Stage) → IsHistory p (e ∷ h) → place_of p n h ≡ Telling v t s → GoesOn n (Telling v t s) e.op → WorksOnTheHead h (Telling v t s) → (o : Op) → e.op ≡ o → Falls (parts p (e ∷ h) (place_of p n (e ∷ h))) (parts p h (Telling v t s))
teller_step_falls p n v t e h s l b g w o q = by_op o q
  where
    task : task_of n h ≡ Some (Notifies v)
    task = subst (IsFor (task_of n h)) b (place_for p n h l.0)

    after : place_of p n (e ∷ h) ≡ tell_on v t (next_teller e.op s)
    after = own_operation_moves_it p n e h g.1 ∙ ap (moved p h e.op) b

    commands : client_sum (commands_left p (e ∷ h)) p.asks 1 ≡ client_sum (commands_left p h) p.asks 1
    commands = same_commands p e h (no_client e.op n g.1)

    requests : client_sum (requests_left (e ∷ h)) p.asks 1 ≡ client_sum (requests_left h) p.asks 1
    requests = same_requests p e h (calm_sends_none p n h e.op (due p e h l) g.1 (subst (WorksOnTheHead h) (sym b) w)) (λ c. removed_elsewhere (follows_session c) n h (Notifies v) e.op (removed_by (follows_session c) h) g.1 task refl)

    follower : follower_rank p (e ∷ h) (place_of p n (e ∷ h)) ≡ follower_rank p h (Telling v t s)
    follower = ap (follower_rank p (e ∷ h)) after ∙ (tell_others p (e ∷ h) v t (next_teller e.op s)).0

    leader : leader_rank (place_of p n (e ∷ h)) ≡ leader_rank (Telling v t s)
    leader = ap leader_rank after ∙ (tell_others p (e ∷ h) v t (next_teller e.op s)).1

    pushes : pushes_of (e ∷ h) - removed_by leads (e ∷ h) ≡ pushes_of h - removed_by leads h
    pushes = ap (λ z. z - removed_by leads (e ∷ h)) (not_pushed e.op (pushes_of h) (pushes_none p n h e.op (Telling v t s) (due p e h l) g.1 b (λ f z. absurd (grind arith)))) ∙ ap (λ z. pushes_of h - z) (removed_elsewhere leads n h (Notifies v) e.op (removed_by leads h) g.1 task refl)

    noted : notes_of (e ∷ h) ≡ notes_of h
    noted = not_noted e.op (notes_of h) (notes_none p n h e.op (Telling v t s) (due p e h l) g.1 b (λ u r z. absurd (grind arith)))

    lower : TellerFalls s (next_teller e.op s) → IsLower (teller_rank (place_of p n (e ∷ h))) (teller_rank (Telling v t s))
    lower a = subst (λ z. IsLower (teller_rank z) (teller_rank (Telling v t s))) (sym (after ∙ tell_is v t (next_teller e.op s) a.0)) (inr (refl, both a.1))
      where
        both : (teller_class (next_teller e.op s) < teller_class s) ⊎ ((teller_class (next_teller e.op s) ≡ teller_class s) × (tells_left (next_teller e.op s) < tells_left s)) → IsLower (teller_class (next_teller e.op s) ∷ tells_left (next_teller e.op s) ∷ []) (teller_class s ∷ tells_left s ∷ [])
        both (inl c) = inl c
        both (inr c) = inr (c.0, inl c.1)

    acked : (m : ℕ) → e.op ≡ op.AckOk m → notes_of (e ∷ h) - removed_by notifies (e ∷ h) < notes_of h - removed_by notifies h
    acked m q =
        let a = noted in
        let c = ap (λ z. removed_in notifies h z (removed_by notifies h)) q ∙ removed_here notifies n m h (Notifies v) (removed_by notifies h) (its_actor m n (sym (ap actor q) ∙ g.1)) task refl in
        let j = (teller_at_or_below_the_head p n v h l.0 task).2 in
        omega (arith, a, c, j, w)

    going : NotAck e.op → Falls (parts p (e ∷ h) (place_of p n (e ∷ h))) (parts p h (Telling v t s))
    going k = ByTeller commands requests follower pushes leader (ap (λ z. z - removed_by notifies (e ∷ h)) noted ∙ ap (λ z. notes_of h - z) (not_removed notifies h e.op (removed_by notifies h) k)) (lower (teller_falls p n v t h s e.op (due p e h l) b g.1 g.0 k))

    by_op : (o : Op) → e.op ≡ o → Falls (parts p (e ∷ h) (place_of p n (e ∷ h))) (parts p h (Telling v t s))
    by_op (op.AckOk m) q = ByNotes commands requests follower pushes leader (acked m q)
    by_op o q = going (subst NotAck (sym q) tt)

pub step_falls : (p : Plan) (n : ℕ) (e : Entry) (h : List Entry) → IsHistory p (e ∷ h) → is_absent (place_of p n h) ≡ false → GoesOn n (place_of p n h) e.op → WorksOnTheHead h (place_of p n h) → Falls (parts p (e ∷ h) (place_of p n (e ∷ h))) (parts p h (place_of p n h))
step_falls p n e h l a g w = by_place (place_of p n h) refl g w
  where
    by_place : (x : Place) → place_of p n h ≡ x → GoesOn n x e.op → WorksOnTheHead h x → Falls (parts p (e ∷ h) (place_of p n (e ∷ h))) (parts p h x)
    by_place (Following f) b g w = follower_step_falls p n e h f l b g w e.op refl
    by_place (Leading t s) b g w = leader_step_falls p n t e h s l b g w e.op refl
    by_place (Telling v t s) b g w = teller_step_falls p n v t e h s l b g w e.op refl
    by_place (Beating c s) b g w = absurd w
    by_place Absent b g w = absurd (false≢true (sym a ∙ ap is_absent b))
