-- A follower goes on as the rules say, or ends.
use Rattle.std.specs.Prelude.{◌+◌, ◌==◌, ◌&&◌, max}
use Rattle.std.proofs.Common.{◌≡◌, ℕ, ◌≤◌, ◌++◌, inl, inr, ◌⊎◌, Bool, true, false, cond, List, [], ◌∷◌, refl, sym, ◌∙◌, ap, subst, arith, Option, Some}
use Rattle.std.proofs.lemmas.Bool.{eq-eqb, false≢true}
use Rattle.fk_base.specs.Path.{PathNames, same_path}
use Rattle.fk_base.specs.declared.code.Code.TheVariants as code
use Rattle.fk_print.specs.declared.entry.Entry.{Entry}
use Rattle.fk_print.specs.declared.event.Event.{Event}
use Rattle.fk_print.specs.declared.line.Line.{Line}
use Rattle.fk_print.specs.declared.op.Op.{Op}
use Rattle.fk_print.specs.declared.op.Op.TheVariants as op
use Rattle.fk_queue.specs.Letters.{head_number}
use Rattle.fk_queue.specs.Meaning as post
use Rattle.fk_queue.specs.declared.lane.Lane.TheVariants as lane
use Rattle.fk_store.specs.Conds.{session_of}
use Rattle.fk_store.specs.Meaning as table
use Rattle.fk_store.specs.Meaning.{lock_of}
use Rattle.fk_store.specs.declared.outcome.Outcome.TheVariants as kept
use Rattle.fk_follow.specs.Fit.{IsReadAt}
use Rattle.fk_follow.specs.Meaning as follow
use Rattle.fk_follow.specs.Meaning.{Meaning, Own, is_end, is_ended}
use Rattle.fk_follow.specs.Next.{granted_at, last_in, next_with}
use Rattle.fk_follow.specs.Sketches.{follower_for, grant_for}
use Rattle.fk_settle.specs.Held as settle
use Rattle.fk_follow.specs.Operation.{calm_op, locked, step_op}
use Rattle.fk_stand.specs.Messages.{push_with}
use Rattle.fk_wire.specs.SentText.{IsSent}
use Rattle.fk_stand.specs.Messages.{push_message_of}
use Rattle.fk_stand.specs.Posts.{post_after}
use Rattle.fk_stand.specs.Tables.{kept_as, session_record, table_after}
use Rattle.fk_spec.specs.Plan.{Plan}
use Rattle.fk_spec.specs.Start.{clock_of, or_else, request_of, seen_from, seen_with, sends_of, session_followed, task_of}
use Rattle.fk_spec.specs.Locks.{Loss, loss_at, loss_of}
use Rattle.fk_spec.specs.Locks as rules
use Rattle.fk_spec.specs.Settling.{Outcome, Passed, Refused, last_of_session, outcome_here, outcome_of, settled_of, settling}
use Rattle.fk_spec.specs.Stored.{committed_of, last_edit, owned_after, stored_view}
use Rattle.fk_spec.specs.Follower as stage
use Rattle.fk_spec.specs.Follower.{Follower, Stage, commit_locked, refuse_locked, to_begin, to_lock}
use Rattle.fk_spec.specs.Function.{Absent, Following, actor, follow_on, follower_word, moved, place_of}
use Rattle.fk_spec.specs.Next.{IsHistory}
use Rattle.fk_law.specs.Due.{IsDue}
use Rattle.fk_law.specs.Progress.{Works, progress}
use Rattle.fk_law.proofs.Deciding.{same_follower}
use Rattle.fk_law.proofs.Due.{due}
use Rattle.fk_law.proofs.Moving.{ahead}
use Rattle.fk_law.proofs.Sending.{origin_stays, request_stays}
use Rattle.fk_law.proofs.Starting.{own_operation_moves_it}
use Rattle.fk_agree.specs.Ends.{HasEnded}
use Rattle.fk_agree.proofs.Carried.{its_message, message_at}
use Rattle.fk_agree.proofs.Granting.{shows_last, shows_node}
use Rattle.fk_agree.proofs.Serving.{session_is}
use Rattle.fk_agree_follow.specs.Followers.{FollowerEndsByFault, FollowerGoesOn, IsFollower, Keeps}
use Rattle.fk_agree_follow.proofs.Making.{Made, ack_all, by_settling, either, lock_all, made_by, session_all, stage_makes}
use Rattle.fk_agree_follow.proofs.Operating.{calm_follower, follower_faults, given_so, its_client, its_push, its_request, its_session, its_task}
use Rattle.fk_agree_follow.proofs.Reading.{owned_same}
use Rattle.fk_agree_follow.proofs.Sketching.{begins_for, grows_for, locks_for}
use Rattle.fk_agree_follow.proofs.Staying.{was_sent}

-- Where it stands after its operation. ------------------------------------------------------------------

on_stage : (x : Stage) (f : Follower) → is_end x ≡ false → follow_on x f ≡ Following f
on_stage stage.Session f e = refl
on_stage stage.Owned f e = refl
on_stage (stage.Lock path) f e = refl
on_stage stage.Push f e = refl
on_stage (stage.Refuse r at) f e = refl
on_stage (stage.Expire at) f e = refl
on_stage (stage.Commit tx) f e = refl
on_stage stage.Lost f e = refl
on_stage stage.Reply f e = refl
on_stage stage.Ack f e = refl
on_stage stage.Ended f e = absurd (false≢true (sym e))

off_stage : (x : Stage) (f : Follower) → is_end x ≡ true → follow_on x f ≡ Absent
off_stage stage.Session f e = absurd (false≢true e)
off_stage stage.Owned f e = absurd (false≢true e)
off_stage (stage.Lock path) f e = absurd (false≢true e)
off_stage stage.Push f e = absurd (false≢true e)
off_stage (stage.Refuse r at) f e = absurd (false≢true e)
off_stage (stage.Expire at) f e = absurd (false≢true e)
off_stage (stage.Commit tx) f e = absurd (false≢true e)
off_stage stage.Lost f e = absurd (false≢true e)
off_stage stage.Reply f e = absurd (false≢true e)
off_stage stage.Ack f e = absurd (false≢true e)
off_stage stage.Ended f e = refl

abbrev longer : Event → Op → List Line → List Entry → List Entry
longer v o ls h = record { event = v; op = o; lines = ls } ∷ h

-- it is the function still, or has ended
abbrev Goes : Plan → ℕ → List Entry → Meaning → Type 0
Goes p n g m = IsFollower p n g m ⊎ HasEnded p n g (is_ended m)

-- What is left to show of a follower after its operation: it goes on as the rules' follower f does.
record GoesSo (p : Plan) (n : ℕ) (o : Op) (h g : List Entry) (m : Meaning) (f : Follower) (x : Meaning) : Type 0 where
  pub inv : x.inv ≡ m.inv
  pub message : x.message ≡ m.message
  pub follower : x.follower ≡ follower_for m.message.request (stage.next_with p h m.message.request o f)
  pub owns : (path : PathNames) → follow.own_moment path x.owns 0 ≡ rules.own_moment n path g
  pub keeps : Keeps p n g x x.follower.stage

place_is : (p : Plan) (n : ℕ) (v : Event) (o : Op) (ls : List Line) (h : List Entry) (m : Meaning) (i : IsFollower p n h m) → actor o ≡ Some n → let w = stage.next_with p h m.message.request o i.whole in place_of p n (longer v o ls h) ≡ follow_on w.stage w
place_is p n v o ls h m i a =
    own_operation_moves_it p n (record { event = v; op = o; lines = ls }) h a
    ∙ (ap (moved p h o) i.stands ∙ ap (λ r. let g = stage.next_for p h r o i.whole in follow_on g.stage g) (its_request p n h m i))

goes : (p : Plan) (n : ℕ) (v : Event) (o : Op) (ls : List Line) (h : List Entry) (m x : Meaning) → IsHistory p (longer v o ls h) → (i : IsFollower p n h m) → actor o ≡ Some n → GoesSo p n o h (longer v o ls h) m i.whole x → Goes p n (longer v o ls h) x
goes p n v o ls h m x l i a g = by_end (is_end x.follower.stage) refl
  where
    f : Follower
    f = m.follower

    -- the rules' follower after it
    w : Follower
    w = stage.next_with p h m.message.request o i.whole

    session : x.follower.session ≡ f.session
    session = ap (λ z. z.session) g.follower ∙ ((ahead p h m.message.request o i.whole).0 ∙ ap (λ z. z.session) (sym i.sketched))

    number : x.follower.k ≡ f.k
    number = ap (λ z. z.k) g.follower ∙ ((ahead p h m.message.request o i.whole).1 ∙ ap (λ z. z.k) (sym i.sketched))

    ends : is_end w.stage ≡ is_end x.follower.stage
    ends = ap (λ z. is_end z.stage) (sym g.follower)

    sent : f.k ≤ sends_of f.session h
    sent = (was_sent p n h m l.0 i).1

    place : place_of p n (longer v o ls h) ≡ follow_on w.stage w
    place = place_is p n v o ls h m i a

    by_end : (b : Bool) → is_end x.follower.stage ≡ b → Goes p n (longer v o ls h) x
    by_end true e = inr (record { is_so = e; absent = place ∙ off_stage w.stage w (ends ∙ e) })
    by_end false e = inl (record {
      inv = g.inv ∙ i.inv;
      going = e;
      whole = w;
      stands = place ∙ on_stage w.stage w (ends ∙ e);
      sketched = g.follower ∙ ap (λ z. follower_for z.request w) (sym g.message);
      requested = (λ j. request_of p (session j) (number j) (longer v o ls h)) ∙ (request_stays p f.session f.k (record { event = v; op = o; lines = ls }) h sent ∙ (i.requested ∙ ap (λ z. Some z.request) (sym g.message)));
      seen = ap (λ z. z.seen) g.message ∙ (i.seen ∙ (ap seen_from (sym (origin_stays f.session f.k (record { event = v; op = o; lines = ls }) h sent)) ∙ (λ j. seen_with (sym session j) (sym number j) (longer v o ls h))));
      written = subst IsSent (sym g.message) i.written;
      owns = g.owns;
      keeps = g.keeps;
    })

-- What it keeps. ----------------------------------------------------------------------------------------

-- where it is at work it keeps nothing
plain : (p : Plan) (n : ℕ) (g : List Entry) (x : Meaning) (s : Stage) → progress s ≡ Works → x.outcome ≡ kept.Nothing → Keeps p n g x s
plain p n g x stage.Session e k = k
plain p n g x stage.Owned e k = k
plain p n g x (stage.Lock path) e k = k
plain p n g x stage.Push e k = k
plain p n g x (stage.Refuse r at) e k = k
plain p n g x (stage.Expire at) e k = k
plain p n g x (stage.Commit tx) e k = absurd (grind arith)
plain p n g x stage.Lost e k = absurd (grind arith)
plain p n g x stage.Reply e k = absurd (grind arith)
plain p n g x stage.Ack e k = k
plain p n g x stage.Ended e k = k

-- the moment of a path's last grant, after one more
own_append : (q : PathNames) (os : List Own) (o : Own) (z : ℕ) → follow.own_moment q (os ++ o ∷ []) z ≡ cond (same_path o.path q) o.moment (follow.own_moment q os z)
own_append q [] o z = refl
own_append q (x ∷ os) o z = own_append q os o (cond (same_path x.path q) x.moment z)

-- a loss that it finds now
loses : (n k : ℕ) (h : List Entry) (path : PathNames) (holder moment own : ℕ) (o : Option Loss) → k ≡ n → own ≡ rules.own_moment n path h → kept.Lost path own holder moment ≡ kept_as (Some (Passed (loss_at n h k path holder moment o)))
loses n k h path holder moment own o a b =
    ap (λ z. kept.Lost path z holder moment) b
    ∙ sym (ap (λ c. kept_as (Some (Passed (cond c (Some (record { path = path; own = rules.own_moment n path h; found = holder; moment = moment })) o)))) (eq-eqb k n a))

-- its request is settled now
settles : (c k : ℕ) (h : List Entry) (w : Outcome) (s : Option ℕ) → s ≡ Some c → settled_of c h + 1 ≡ k → outcome_here c k (settled_of c h) (settling s w) (outcome_of c k h) ≡ Some w
settles c k h w s a b = ap (λ z. outcome_here c k (settled_of c h) (settling z w) (outcome_of c k h)) a ∙ ap (λ z. cond z (Some w) (outcome_of c k h)) (both (c == c) (settled_of c h + 1 == k) (eq-eqb c c refl) (eq-eqb (settled_of c h + 1) k b))
  where
    both : (x y : Bool) → x ≡ true → y ≡ true → (x && y) ≡ true
    both x y d e = rw (d, e) refl

-- By its operation. -------------------------------------------------------------------------------------

-- where it asks for its session's nodes, it is given them
abbrev OwnedSo : Plan → List Entry → Meaning → List PathNames → Op → Type 0
OwnedSo p h m owned (op.Owned n count) = owned ≡ owned_after m.follower.session (committed_of p h)
OwnedSo p h m owned _ = Unit {0}

-- what it reads of a table as the history says
record Sees (p : Plan) (h : List Entry) (m : Meaning) (t : table.Meaning) : Type 0 where
  pub session : session_of t m.follower.session ≡ session_record p m.follower.session h
  pub nodes : (path : PathNames) → granted_at t path ≡ record { path = path; node = (stored_view p h).node path; last = last_edit p path h }

its_due : (p : Plan) (n k : ℕ) (h : List Entry) (m : Meaning) (f : Follower) → place_of p k h ≡ Following f → k ≡ n → (i : IsFollower p n h m) → f ≡ i.whole
its_due p n k h m f b e i = same_follower p h k n f i.whole b (ap Some e) i.stands

-- what is said of the session, the number or the stage of the rules' follower is said of it
its_stage : (p : Plan) (n k : ℕ) (h : List Entry) (m : Meaning) (f : Follower) (x : Stage) → place_of p k h ≡ Following f → k ≡ n → IsFollower p n h m → f.stage ≡ x → m.follower.stage ≡ x
its_stage p n k h m f x b e i s = ap (λ z. z.stage) i.sketched ∙ (ap (λ z. z.stage) (sym (its_due p n k h m f b e i)) ∙ s)

its_number : (p : Plan) (n k : ℕ) (h : List Entry) (m : Meaning) (f : Follower) (d : ℕ) → place_of p k h ≡ Following f → k ≡ n → IsFollower p n h m → settled_of f.session h + d ≡ f.k → settled_of m.follower.session h + d ≡ m.follower.k
its_number p n k h m f d b e i s = subst (λ z. settled_of z.session h + d ≡ z.k) (sym i.sketched) (subst (λ z. settled_of z.session h + d ≡ z.k) (its_due p n k h m f b e i) s)

its_zero : (p : Plan) (n k : ℕ) (h : List Entry) (m : Meaning) (f : Follower) → place_of p k h ≡ Following f → k ≡ n → IsFollower p n h m → settled_of f.session h ≡ f.k → settled_of m.follower.session h ≡ m.follower.k
its_zero p n k h m f b e i s = subst (λ z. settled_of z.session h ≡ z.k) (sym i.sketched) (subst (λ z. settled_of z.session h ≡ z.k) (its_due p n k h m f b e i) s)

-- it goes to a stage as the rules' follower does
goes_to : {f g : Follower} (x : Stage) → f ≡ g → record f { stage = x } ≡ record g { stage = x }
goes_to x e = λ j. record (e j) { stage = x }

its_seen : (p : Plan) (n : ℕ) (h : List Entry) (m : Meaning) (i : IsFollower p n h m) → m.message.seen ≡ seen_with i.whole.session i.whole.k h
its_seen p n h m i = i.seen ∙ ap (λ f. seen_with f.session f.k h) i.sketched

its_last : (p : Plan) (n : ℕ) (h : List Entry) (m : Meaning) (t : table.Meaning) (i : IsFollower p n h m) → Sees p h m t → last_in t m ≡ last_of_session i.whole.session h
its_last p n h m t i s = ap (λ z. z.last) s.session ∙ ap (λ f. last_of_session f.session h) i.sketched

going : (p : Plan) (n : ℕ) (v : Event) (o : Op) (ls : List Line) (h : List Entry) (m : Meaning) (t : table.Meaning) (owned : List PathNames) → IsHistory p (longer v o ls h) → (i : IsFollower p n h m) → Sees p h m t → IsDue p h o → Made n o → OwnedSo p h m owned o
    → GoesSo p n o h (longer v o ls h) m i.whole (next_with t owned (clock_of h) o m)
going p n v (op.SessionNew k) ls h m t owned l i s d a g =
    let f = i.whole in
    let r = m.message.request in
    let seen = its_seen p n h m i in
    let last = its_last p n h m t i s in
    let e : to_begin m.message.seen r (record m.follower { last = last_in t m }) ≡ follower_for r (to_begin (seen_with f.session f.k h) r (record f { last = last_of_session f.session h })) =
    (λ j. to_begin (seen j) r (record (i.sketched j) { last = last j })) ∙ begins_for (seen_with f.session f.k h) r (record f { last = last_of_session f.session h }) in
    record {
      inv = refl;
      message = refl;
      follower = e;
      owns = i.owns;
      keeps = plain p n (longer v (op.SessionNew k) ls h) (next_with t owned (clock_of h) (op.SessionNew k) m) (to_begin m.message.seen r (record m.follower { last = last_in t m })).stage (ap (λ z. progress z.stage) e ∙ (ahead p h r (op.SessionNew k) f).2) refl;
    }
going p n v (op.SessionClosed k) ls h m t owned l i s d a g =
    let seen = its_seen p n h m i in
    let last = its_last p n h m t i s in
    record {
      inv = refl;
      message = refl;
      follower = λ j. record (i.sketched j) { stage = stage.Expire (max (seen j) (last j)) };
      owns = i.owns;
      keeps = refl;
    }
going p n v (op.SessionApplied k) ls h m t owned l i s d a g = record { inv = refl; message = refl; follower = goes_to stage.Ack i.sketched; owns = i.owns; keeps = refl }
going p n v (op.SessionRefused k) ls h m t owned l i s d a g =
    let z = its_zero p n k h m d.0 d.1 a i d.3 in
    record { inv = refl; message = refl; follower = goes_to stage.Reply i.sketched; owns = i.owns; keeps = ap (λ x. x.outcome) s.session ∙ ap (λ j. kept_as (outcome_of m.follower.session j h)) z }
going p n v (op.SessionPast k) ls h m t owned l i s d a g = record { inv = refl; message = refl; follower = goes_to stage.Ack i.sketched; owns = i.owns; keeps = refl }
going p n v (op.Owned k count) ls h m t owned l i s d a g =
    let f = i.whole in
    let r = m.message.request in
    let seen = its_seen p n h m i in
    let its = g ∙ ap (λ z. owned_after z.session (committed_of p h)) i.sketched in
    let e : to_lock m.message.seen r (record m.follower { owned = owned }) ≡ follower_for r (to_lock (seen_with f.session f.k h) r (record f { owned = owned_after f.session (committed_of p h) })) =
    (λ j. to_lock (seen j) r (record (i.sketched j) { owned = its j })) ∙ locks_for (seen_with f.session f.k h) r (record f { owned = owned_after f.session (committed_of p h) }) in
    record {
      inv = refl;
      message = refl;
      follower = e;
      owns = i.owns;
      keeps = plain p n (longer v (op.Owned k count) ls h) (next_with t owned (clock_of h) (op.Owned k count) m) (to_lock m.message.seen r (record m.follower { owned = owned })).stage (ap (λ z. progress z.stage) e ∙ (ahead p h r (op.Owned k count) f).2) refl;
    }
going p n v (op.LockOk k path) ls h m t owned l i s d a g =
    let f = i.whole in
    let r = m.message.request in
    let seen = its_seen p n h m i in
    let x = record m.follower { granted = m.follower.granted ++ grant_for r (granted_at t path) ∷ [] } in
    let e : to_lock m.message.seen r x ≡ follower_for r (to_lock (seen_with f.session f.k h) r (stage.with_granted p h path f)) =
    (λ j. to_lock (seen j) r (record (i.sketched j) { granted = (i.sketched j).granted ++ grant_for r (s.nodes path j) ∷ [] }))
    ∙ grows_for (seen_with f.session f.k h) r f (record { path = path; node = (stored_view p h).node path; last = last_edit p path h }) in
    record {
      inv = refl;
      message = refl;
      follower = e;
      owns = λ q. own_append q m.owns (record { path = path; moment = clock_of h }) 0 ∙ (ap (cond (same_path path q) (clock_of h)) (i.owns q) ∙ sym (ap (λ b. cond (b && same_path path q) (clock_of h) (rules.own_moment n q h)) (eq-eqb k n a)));
      keeps = plain p n (longer v (op.LockOk k path) ls h) (next_with t owned (clock_of h) (op.LockOk k path) m) (to_lock m.message.seen r x).stage (ap (λ z. progress z.stage) e ∙ (ahead p h r (op.LockOk k path) f).2) refl;
    }
going p n v (op.LockBusy k path holder moment) ls h m t owned l i s d a g =
    let z = its_stage p n k h m d.0 (stage.Lock path) d.1 a i d.2 in
    record { inv = refl; message = refl; follower = i.sketched; owns = i.owns; keeps = subst (Keeps p n (longer v (op.LockBusy k path holder moment) ls h) m) (sym z) (subst (Keeps p n h m) z i.keeps) }
going p n v (op.Push k tx) ls h m t owned l i s d a g =
    let r = m.message.request in
    let b = ap (λ z. place_of p z h) a ∙ i.stands in
    record {
      inv = refl;
      message = refl;
      follower = goes_to (stage.Commit tx) i.sketched;
      owns = i.owns;
      keeps = (
        ap (λ z. or_else z (push_message_of p tx h)) (its_message p tx k h (op.Push k tx) refl ∙ message_at p k tx h i.whole r b (its_request p n h m i))
            ∙ (ap (λ z. Some (push_with z (clock_of h) i.whole r)) (a ∙ sym i.inv) ∙ ap Some (sym (its_push p n (clock_of h) h m i))),
        refl,
      );
    }
going p n v (op.CommitOk k tx) ls h m t owned l i s d a g = record { inv = refl; message = refl; follower = goes_to stage.Ack i.sketched; owns = i.owns; keeps = refl }
going p n v (op.CommitSettled k tx settled) ls h m t owned l i s d a g = record { inv = refl; message = refl; follower = goes_to stage.Session i.sketched; owns = i.owns; keeps = refl }
going p n v (op.CommitLock k tx path holder moment) ls h m t owned l i s d a g = record { inv = refl; message = refl; follower = goes_to stage.Lost i.sketched; owns = i.owns; keeps = loses n k h path holder moment (follow.own_moment path m.owns 0) (loss_of n h) a (i.owns path) }
going p n v (op.RefuseOk k cd place at) ls h m t owned l i s d a g =
    let z = its_number p n k h m d.0 1 d.1 a i d.2 in
    let u : session_followed (task_of k h) ≡ Some m.follower.session = ap (λ y. session_followed (task_of y h)) a ∙ ap session_followed (its_task p n h m l.0 i) in
    record { inv = refl; message = refl; follower = goes_to stage.Reply i.sketched; owns = i.owns; keeps = sym (ap kept_as (settles m.follower.session m.follower.k h (Refused cd place at) (session_followed (task_of k h)) u z)) }
going p n v (op.RefuseSettled k cd place at settled) ls h m t owned l i s d a g = record { inv = refl; message = refl; follower = goes_to stage.Session i.sketched; owns = i.owns; keeps = refl }
going p n v (op.RefuseLock k cd place at path holder moment) ls h m t owned l i s d a g = record { inv = refl; message = refl; follower = goes_to stage.Lost i.sketched; owns = i.owns; keeps = loses n k h path holder moment (follow.own_moment path m.owns 0) (loss_of n h) a (i.owns path) }
going p n v (op.LostOk k) ls h m t owned l i s d a g =
    let z = its_number p n k h m d.0 1 d.1 a i d.3 in
    let y = its_stage p n k h m d.0 stage.Lost d.1 a i d.2 in
    let u : session_followed (task_of k h) ≡ Some m.follower.session = ap (λ y. session_followed (task_of y h)) a ∙ ap session_followed (its_task p n h m l.0 i) in
    record {
      inv = refl;
      message = refl;
      follower = goes_to stage.Reply i.sketched;
      owns = i.owns;
      keeps = subst (Keeps p n h m) y i.keeps ∙ (ap (λ x. kept_as (Some (Passed (loss_of x h)))) (sym a) ∙ sym (ap kept_as (settles m.follower.session m.follower.k h (Passed (loss_of k h)) (session_followed (task_of k h)) u z)));
    }
going p n v (op.LostSettled k settled) ls h m t owned l i s d a g = record { inv = refl; message = refl; follower = goes_to stage.Session i.sketched; owns = i.owns; keeps = refl }
going p n v (op.Reply k c j) ls h m t owned l i s d a g = record { inv = refl; message = refl; follower = goes_to stage.Ack i.sketched; owns = i.owns; keeps = refl }
going p n v (op.AckOk k) ls h m t owned l i s d a g = record { inv = refl; message = refl; follower = goes_to stage.Ended i.sketched; owns = i.owns; keeps = refl }
going p n v (op.AckGone k) ls h m t owned l i s d a g = record { inv = refl; message = refl; follower = goes_to stage.Ended i.sketched; owns = i.owns; keeps = refl }
going p n v o ls h m t owned l i s d a g = absurd a

-- The whole. --------------------------------------------------------------------------------------------

sees : (p : Plan) (n : ℕ) (h : List Entry) (m : Meaning) (t : table.Meaning) → IsHistory p h → IsFollower p n h m → t ≡ table_after p h t.faults → Sees p h m t
sees p n h m t l i s = record {
  session = session_is p m.follower.session h t s (its_client p n h m l i);
  nodes = λ path. ap (λ z. granted_at z path) s ∙ (λ j. record { path = path; node = (shows_node p path h l) j; last = (shows_last p path h l) j });
}

given_at : (p : Plan) (n a b : ℕ) (h : List Entry) (m : Meaning) (owned : List PathNames) (x : Stage) → IsHistory p h → IsFollower p n h m → IsReadAt (table_after p h a) m.follower.session owned x → OwnedSo p h m owned (calm_op (table_after p h a) (post_after p h b) (clock_of h) p.lock owned m.inv m.follower x)
given_at p n a b h m owned stage.Owned l i g = owned_same p m.follower.session a h owned l (its_session p n h m l i) (g refl)
given_at p n a b h m owned stage.Session l i g = session_all (OwnedSo p h m owned) m.inv m.follower.k (session_of (table_after p h a) m.follower.session) tt tt tt tt tt
given_at p n a b h m owned (stage.Lock path) l i g = lock_all (OwnedSo p h m owned) (clock_of h) p.lock m.inv path (lock_of (table_after p h a) path) tt tt
given_at p n a b h m owned stage.Push l i g = tt
given_at p n a b h m owned (stage.Refuse r at) l i g = by_settling (OwnedSo p h m owned) ((session_of (table_after p h a) m.follower.session).settled + 1 == m.follower.k) (settle.first_passed m.inv (table_after p h a) (locked m.follower)) (refuse_locked m.inv r at) (op.RefuseSettled m.inv r.code r.place at (session_of (table_after p h a) m.follower.session).settled) tt tt (λ x. tt)
given_at p n a b h m owned (stage.Expire at) l i g = either (OwnedSo p h m owned) ((session_of (table_after p h a) m.follower.session).settled + 1 == m.follower.k) (op.RefuseOk m.inv code.SessionExpired 0 at) (op.RefuseSettled m.inv code.SessionExpired 0 at (session_of (table_after p h a) m.follower.session).settled) tt tt
given_at p n a b h m owned (stage.Commit tx) l i g = by_settling (OwnedSo p h m owned) ((session_of (table_after p h a) m.follower.session).settled + 1 == m.follower.k) (settle.first_passed m.inv (table_after p h a) (locked m.follower)) (commit_locked m.inv tx) (op.CommitSettled m.inv tx (session_of (table_after p h a) m.follower.session).settled) tt tt (λ x. tt)
given_at p n a b h m owned stage.Lost l i g = either (OwnedSo p h m owned) ((session_of (table_after p h a) m.follower.session).settled + 1 == m.follower.k) (op.LostOk m.inv) (op.LostSettled m.inv (session_of (table_after p h a) m.follower.session).settled) tt tt
given_at p n a b h m owned stage.Reply l i g = tt
given_at p n a b h m owned stage.Ack l i g = ack_all (OwnedSo p h m owned) m.inv m.follower.k (head_number ((post_after p h b).lanes (lane.Session m.follower.session))) tt tt
given_at p n a b h m owned stage.Ended l i g = tt

pub follower_goes_on : FollowerGoesOn
follower_goes_on p n e h m t q u w owned l s i r g = subst (λ o. Goes p n (longer e.event o e.lines h) (next_with t owned (clock_of h) its m)) (sym g) (goes p n e.event its e.lines h m (next_with t owned (clock_of h) its m) history i (made_by n its made) (going p n e.event its e.lines h m t owned history i (sees p n h m t l.0 i s.table) (subst (IsDue p h) g (due p e h l)) made so))
  where
    its : Op
    its = step_op t q (clock_of h) p.lock owned m

    calm : its ≡ calm_op (table_after p h t.faults) (post_after p h q.faults) (clock_of h) p.lock owned m.inv m.follower m.follower.stage
    calm = calm_follower p h t q (clock_of h) p.lock owned m s.table s.post

    history : IsHistory p (longer e.event its e.lines h)
    history = subst (λ o. IsHistory p (longer e.event o e.lines h)) g l

    made : Made n its
    made = subst (Made n) (sym calm) (subst (λ z. Made z (calm_op (table_after p h t.faults) (post_after p h q.faults) (clock_of h) p.lock owned m.inv m.follower m.follower.stage)) i.inv (stage_makes (table_after p h t.faults) (post_after p h q.faults) (clock_of h) p.lock owned m.inv m.follower m.follower.stage i.going))

    so : OwnedSo p h m owned its
    so = subst (OwnedSo p h m owned) (sym calm) (given_at p n t.faults q.faults h m owned m.follower.stage l.0 i (given_so p h t owned m s.table r))

-- After its fault. --------------------------------------------------------------------------------------

pub follower_ends_by_fault : FollowerEndsByFault
follower_ends_by_fault p n now time e h m t q owned i g = record {
  is_so = ap (λ o. is_ended (next_with (table.armed t) owned now o m)) fault;
  absent = own_operation_moves_it p n e h (ap actor (g ∙ fault) ∙ ap Some i.inv) ∙ (ap (moved p h e.op) i.stands ∙ (ap (λ o. moved p h o (Following i.whole)) (g ∙ fault) ∙ ap (λ r. let x = stage.next_for p h r (op.Fault m.inv (follower_word m.follower.stage)) i.whole in follow_on x.stage x) (its_request p n h m i)));
}
  where
    fault : step_op (table.armed t) (post.armed q) now time owned m ≡ op.Fault m.inv (follower_word m.follower.stage)
    fault = follower_faults t q now time owned m i.going
