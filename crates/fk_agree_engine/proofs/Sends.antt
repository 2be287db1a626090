-- What a function sends can be written, where its machine says so.
use Rattle.std.specs.Prelude.{◌==◌, if◌then◌else◌, option_map}
use Rattle.std.proofs.Common.{◌≡◌, ℕ, Bool, true, false, List, refl, sym, ◌∙◌, ap, subst, arith, Option, Some, None}
use Rattle.std.proofs.lemmas.Bool.{eqb-true}
use Rattle.std.proofs.lemmas.Option.{same_Some, none-some}
use Rattle.fk_print.specs.declared.entry.Entry.{Entry}
use Rattle.fk_print.specs.declared.op.Op.{Op}
use Rattle.fk_print.specs.declared.op.Op.TheVariants as op
use Rattle.fk_wire.specs.NoteText.{IsNote}
use Rattle.fk_wire.specs.PushedText.{IsPushed}
use Rattle.fk_wire.specs.TellText.{IsTell}
use Rattle.fk_wire.specs.declared.message.Pushed.{Pushed}
use Rattle.fk_wire.specs.declared.message.Tell.{Tell}
use Rattle.fk_wire.specs.declared.message.Tell.TheVariants as tell
use Rattle.fk_follow.specs.Meaning as follower
use Rattle.fk_follow.specs.Sending.{IsToldReadable}
use Rattle.fk_follow.specs.Sending as follow
use Rattle.fk_follow.specs.Services.{push_at}
use Rattle.fk_lead.specs.Meaning as leader
use Rattle.fk_lead.specs.Sending as lead
use Rattle.fk_lead.specs.Services as leading
use Rattle.fk_lead.specs.Services.{reply_tell}
use Rattle.fk_watch.specs.Beating as beat
use Rattle.fk_watch.specs.BeatingFit as beats
use Rattle.fk_watch.specs.Notes.{watch_tell}
use Rattle.fk_watch.specs.Telling as teller
use Rattle.fk_watch.specs.TellingFit as tells
use Rattle.fk_stand.specs.Messages.{done_tell, outcome_tell, push_by, push_message, push_message_of, push_with, tell_of}
use Rattle.fk_stand.specs.Tables.{kept_as}
use Rattle.fk_spec.specs.Plan.{Plan}
use Rattle.fk_spec.specs.Start.{Follows, Leads, clock_of, request_of, task_of, when}
use Rattle.fk_spec.specs.Settling.{Outcome, outcome_of}
use Rattle.fk_spec.specs.Watches.{Firing, firing_of, swept_by}
use Rattle.fk_spec.specs.Lanes.{Message, Kept, Ping, Watch, is_evict, kept_message, reply_message}
use Rattle.fk_spec.specs.Follower as stage
use Rattle.fk_spec.specs.Leader as leadstage
use Rattle.fk_spec.specs.Teller as tellstage
use Rattle.fk_spec.specs.Teller.{Note}
use Rattle.fk_spec.specs.Heartbeat as beatstage
use Rattle.fk_spec.specs.Function.{Beating, Following, Leading, Telling, actor, place_of}
use Rattle.fk_spec.specs.Next.{IsHistory}
use Rattle.fk_law.specs.Due.{IsDue, IsPushOf, Replies, Tells}
use Rattle.fk_law.proofs.Starting.{leader_task}
use Rattle.fk_agree.specs.Heads.{note_as}
use Rattle.fk_agree.specs.Pushes as Pushes
use Rattle.fk_agree.specs.Sending.{Sends}
use Rattle.fk_agree.proofs.Telling.{message_tells_its_push}
use Rattle.fk_agree_follow.specs.Followers.{IsFollower, Keeps}
use Rattle.fk_agree_follow.proofs.Operating.{its_push, its_request, its_task}
use Rattle.fk_agree_lead.specs.Leaders.{IsLeader}
use Rattle.fk_agree_lead.proofs.Posted.{evicts_the_same}
use Rattle.fk_agree_lead.proofs.Requested.{message_tells_its_request}
use Rattle.fk_agree_notify.specs.Beats.{IsBeat}
use Rattle.fk_agree_notify.specs.Tellers.{IsTeller}
use Rattle.fk_agree_notify.proofs.Fired.{StageFired, fired_where_it_stands}
use Rattle.fk_agree_engine.proofs.Readable.{silent_sends}

-- Places. ------------------------------------------------------------------------------------------------

same_follower : (f g : stage.Follower) → Following f ≡ Following g → f ≡ g
same_follower f g e = cc

same_leading : (t u : ℕ) (x y : leadstage.Stage) → Leading t x ≡ Leading u y → (t ≡ u) × (x ≡ y)
same_leading t u x y e = (cc, cc)

same_telling : (w v t u : ℕ) (x y : tellstage.Stage) → Telling w t x ≡ Telling v u y → x ≡ y
same_telling w v t u x y e = cc

same_beating : (c d : ℕ) (x y : beatstage.Stage) → Beating c x ≡ Beating d y → (c ≡ d) × (x ≡ y)
same_beating c d x y e = (cc, cc)

-- A push. ------------------------------------------------------------------------------------------------

its_message : (p : Plan) (n s : ℕ) (h : List Entry) (m : follower.Meaning) → IsFollower p n h m → push_message p h (op.Push n s) ≡ Some (push_at (clock_of h) m)
its_message p n s h m i =
    ap (push_by p h n) i.stands
    ∙ (ap (option_map (push_with n (clock_of h) i.whole)) (its_request p n h m i)
    ∙ (ap (λ z. Some (push_with z (clock_of h) i.whole m.message.request)) (sym i.inv) ∙ ap Some (sym (its_push p n (clock_of h) h m i))))

push_sends : (p : Plan) (n s : ℕ) (h : List Entry) (m : follower.Meaning) → IsFollower p n h m → IsPushed (push_at (clock_of h) m) → Sends p h (op.Push n s)
push_sends p n s h m i r = record {
  pushes = λ t x q. by_number t x (s == t) q;
  notes = λ w x q. absurd (none-some x q);
  tells = λ c y t q a. absurd (none-some y q);
}
  where
    by_number : (t : ℕ) (x : Pushed) (b : Bool) → (if b then push_message p h (op.Push n s) else None) ≡ Some x → IsPushed x
    by_number t x true q = subst IsPushed (same_Some (push_at (clock_of h) m) x (sym (its_message p n s h m i) ∙ q)) r
    by_number t x false q = absurd (none-some x q)

-- A note. ------------------------------------------------------------------------------------------------

note_sends : (p : Plan) (n t w : ℕ) (h : List Entry) (m : leader.Meaning) → IsLeader p n h m → m.tx ≡ t → IsNote (leading.note_of m) → Sends p h (op.Notify n t w)
note_sends p n t w h m i a r = record {
  pushes = λ u x q. absurd (none-some x q);
  notes = λ u x q. by_number x (w == u) q;
  tells = λ c y z q b. absurd (none-some y q);
}
  where
    its : leading.note_of m ≡ note_as (record { tx = t; fired = (swept_by p n h).fired })
    its = λ j. record { tx = a j; fired = (ap (λ z. z.fired) i.swept) j }

    by_number : (x : Note) (b : Bool) → (if b then Some (record { tx = t; fired = (swept_by p n h).fired }) else None) ≡ Some x → IsNote (note_as x)
    by_number x true q = subst (λ z. IsNote (note_as z)) (same_Some _ x q) (subst IsNote its r)
    by_number x false q = absurd (none-some x q)

-- A reply. -----------------------------------------------------------------------------------------------

-- what is told of a reply is of this message, where it is posted to this client
reply_sends : (p : Plan) (n c k : ℕ) (h : List Entry) → ((m : Message) (t : Tell) → reply_message (is_evict (request_of p c k h)) k (outcome_of c k h) (task_of n h) ≡ Some m → tell_of p h m ≡ Some t → IsTell t) → Sends p h (op.Reply n c k)
reply_sends p n c k h f = record {
  pushes = λ u x q. absurd (none-some x q);
  notes = λ u x q. absurd (none-some x q);
  tells = λ d y t q a. by_client d y t (c == d) refl q a;
}
  where
    by_client : (d : ℕ) (y : Message) (t : Tell) (b : Bool) → (c == d) ≡ b → (if b then reply_message (is_evict (request_of p d k h)) k (outcome_of d k h) (task_of n h) else None) ≡ Some y → tell_of p h y ≡ Some t → IsTell t
    by_client d y t true e q a = f y t (subst (λ z. reply_message (is_evict (request_of p z k h)) k (outcome_of z k h) (task_of n h) ≡ Some y) (sym (eqb-true c d e)) q) a
    by_client d y t false e q a = absurd (none-some y q)

told_readable : (o : Option Tell) (t : Tell) → IsToldReadable o → o ≡ Some t → IsTell t
told_readable None t r q = absurd (none-some t q)
told_readable (Some x) t r q = subst IsTell (same_Some x t q) r.0

kept_readable : (p : Plan) (k : ℕ) (h : List Entry) (o : Option Outcome) (m : Message) (t : Tell) → IsToldReadable (outcome_tell k (kept_as o)) → kept_message k o ≡ Some m → tell_of p h m ≡ Some t → IsTell t
kept_readable p k h None m t r q a = absurd (none-some m q)
kept_readable p k h (Some o) m t r q a = told_readable (outcome_tell k (kept_as (Some o))) t r (subst (λ z. tell_of p h z ≡ Some t) (sym (same_Some (Kept k o) m q)) a)

follower_replies : (p : Plan) (n c k : ℕ) (h : List Entry) (m : follower.Meaning) → IsHistory p h → IsFollower p n h m → m.follower.session ≡ c → m.follower.k ≡ k → m.follower.stage ≡ stage.Reply → follow.IsReadable (clock_of h) m → Sends p h (op.Reply n c k)
follower_replies p n c k h m l i a b s r = reply_sends p n c k h (λ y t q e. kept_readable p k h (outcome_of c k h) y t readable (subst (λ o. reply_message (is_evict (request_of p c k h)) k (outcome_of c k h) o ≡ Some y) task q) e)
  where
    task : task_of n h ≡ Some (Follows c k)
    task = its_task p n h m l i ∙ (λ j. Some (Follows (a j) (b j)))

    outcome : m.outcome ≡ kept_as (outcome_of c k h)
    outcome = subst (Keeps p n h m) s i.keeps ∙ (λ j. kept_as (outcome_of (a j) (b j) h))

    readable : IsToldReadable (outcome_tell k (kept_as (outcome_of c k h)))
    readable = subst (λ z. IsToldReadable (outcome_tell k z)) outcome (subst (λ z. IsToldReadable (outcome_tell z m.outcome)) b (subst (follow.is_readable_at (clock_of h) m) s r))

leader_told : (p : Plan) (k tx : ℕ) (h : List Entry) (x : Pushed) (b : Bool) (o : Option Outcome) (m : Message) (t : Tell) → push_message_of p tx h ≡ Some x → IsTell (if b then tell.Evicted k tx else done_tell k tx x) → reply_message b k o (Some (Leads tx)) ≡ Some m → tell_of p h m ≡ Some t → IsTell t
leader_told p k tx h x true o m t a r q e = subst IsTell (same_Some (tell.Evicted k tx) t (subst (λ z. tell_of p h z ≡ Some t) (sym (same_Some _ m q)) e)) r
leader_told p k tx h x false o m t a r q e = subst IsTell (same_Some (done_tell k tx x) t (sym (ap (option_map (done_tell k tx)) a) ∙ subst (λ z. tell_of p h z ≡ Some t) (sym (same_Some _ m q)) e)) r

leader_replies : (p : Plan) (n c k f : ℕ) (h : List Entry) (m : leader.Meaning) → IsHistory p h → IsLeader p n h m → m.stage ≡ leadstage.Reply → IsPushOf m.tx f c k h → lead.IsReadable m → Sends p h (op.Reply n c k)
leader_replies p n c k f h m l i s w r = reply_sends p n c k h (λ y t q e. leader_told p k m.tx h m.message (is_evict (request_of p c k h)) (outcome_of c k h) y t i.message readable (subst (λ o. reply_message (is_evict (request_of p c k h)) k (outcome_of c k h) o ≡ Some y) task q) e)
  where
    x : Pushes.Tells m.message f c k h
    x = message_tells_its_push p m.tx f c k h m.message l w i.message

    task : task_of n h ≡ Some (Leads m.tx)
    task = leader_task p n h m.tx m.stage l i.stands

    evicts : leading.is_evict m.message.request ≡ is_evict (request_of p c k h)
    evicts = sym (evicts_the_same m.message.request) ∙ (sym (ap is_evict (message_tells_its_request p m.tx h m.message l i.message)) ∙ (λ j. is_evict (request_of p (x.session j) (x.number j) h)))

    said : IsTell (reply_tell m.tx m.message)
    said = (subst (lead.is_readable_at m) s r).0

    readable : IsTell (if is_evict (request_of p c k h) then tell.Evicted k m.tx else done_tell k m.tx m.message)
    readable = subst IsTell (λ j. if evicts j then tell.Evicted (x.number j) m.tx else done_tell (x.number j) m.tx m.message) said

-- What is told of a watch, and a ping. -------------------------------------------------------------------

tell_sends : (p : Plan) (n c id : ℕ) (h : List Entry) (f : Firing) → firing_of p id h ≡ Some f → IsTell (watch_tell f) → Sends p h (op.Tell n c id)
tell_sends p n c id h f a r = record {
  pushes = λ u x q. absurd (none-some x q);
  notes = λ u x q. absurd (none-some x q);
  tells = λ d y t q e. by_client y t (c == d) q e;
}
  where
    by_client : (y : Message) (t : Tell) (b : Bool) → when b (Watch id) ≡ Some y → tell_of p h y ≡ Some t → IsTell t
    by_client y t true q e = subst IsTell (same_Some (watch_tell f) t (sym (ap (option_map watch_tell) a) ∙ subst (λ z. tell_of p h z ≡ Some t) (sym (same_Some (Watch id) y q)) e)) r
    by_client y t false q e = absurd (none-some y q)

ping_sends : (p : Plan) (n c : ℕ) (h : List Entry) → IsTell (tell.Ping n) → Sends p h (op.Ping n c)
ping_sends p n c h r = record {
  pushes = λ u x q. absurd (none-some x q);
  notes = λ u x q. absurd (none-some x q);
  tells = λ d y t q e. by_client y t (c == d) q e;
}
  where
    by_client : (y : Message) (t : Tell) (b : Bool) → when b (Ping n) ≡ Some y → tell_of p h y ≡ Some t → IsTell t
    by_client y t true q e = subst IsTell (same_Some (tell.Ping n) t (subst (λ z. tell_of p h z ≡ Some t) (sym (same_Some (Ping n) y q)) e)) r
    by_client y t false q e = absurd (none-some y q)

-- Each machine. ------------------------------------------------------------------------------------------

pub follower_sends : (p : Plan) (n : ℕ) (h : List Entry) (m : follower.Meaning) (o : Op) → IsHistory p h → IsFollower p n h m → follow.IsReadable (clock_of h) m → actor o ≡ Some n → IsDue p h o → Sends p h o
follower_sends p n h m (op.Push j s) l i r a d =
    let g = same_Some j n a in
    let f = same_follower d.0 i.whole (sym d.1 ∙ (ap (λ z. place_of p z h) g ∙ i.stands)) in
    subst (λ z. Sends p h (op.Push z s)) (sym g) (push_sends p n s h m i (subst (follow.is_readable_at (clock_of h) m) (ap (λ z. z.stage) i.sketched ∙ (sym (ap (λ z. z.stage) f) ∙ d.2)) r).0)
follower_sends p n h m (op.Reply j c k) l i r a d =
    let g = same_Some j n a in
    let e = subst (Replies c k h) (ap (λ z. place_of p z h) g ∙ i.stands) d in
    subst (λ z. Sends p h (op.Reply z c k)) (sym g) (follower_replies p n c k h m l i (ap (λ z. z.session) i.sketched ∙ e.1) (ap (λ z. z.k) i.sketched ∙ e.2) (ap (λ z. z.stage) i.sketched ∙ e.0) r)
follower_sends p n h m (op.Notify j t w) l i r a d = absurd (apart (sym d.0 ∙ (ap (λ z. place_of p z h) (same_Some j n a) ∙ i.stands)))
  where
    apart : Leading t leadstage.Notify ≡ Following i.whole → ⊥
    apart e = grind arith
follower_sends p n h m (op.Tell j c id) l i r a d = absurd (subst (Tells c id) (ap (λ z. place_of p z h) (same_Some j n a) ∙ i.stands) d)
follower_sends p n h m (op.Ping j c) l i r a d = absurd (apart (sym d ∙ (ap (λ z. place_of p z h) (same_Some j n a) ∙ i.stands)))
  where
    apart : Beating c beatstage.Ping ≡ Following i.whole → ⊥
    apart e = grind arith
follower_sends p n h m o l i r a d = silent_sends p h o tt

pub leader_sends : (p : Plan) (n : ℕ) (h : List Entry) (m : leader.Meaning) (o : Op) → IsHistory p h → IsLeader p n h m → lead.IsReadable m → actor o ≡ Some n → IsDue p h o → Sends p h o
leader_sends p n h m (op.Push j s) l i r a d = absurd (apart d.0 (sym d.1 ∙ (ap (λ z. place_of p z h) (same_Some j n a) ∙ i.stands)))
  where
    apart : (f : stage.Follower) → Following f ≡ Leading m.tx m.stage → ⊥
    apart f e = grind arith
leader_sends p n h m (op.Reply j c k) l i r a d =
    let g = same_Some j n a in
    let e = subst (Replies c k h) (ap (λ z. place_of p z h) g ∙ i.stands) d in
    subst (λ z. Sends p h (op.Reply z c k)) (sym g) (leader_replies p n c k e.1 h m l i e.0 e.2 r)
leader_sends p n h m (op.Notify j t w) l i r a d =
    let g = same_Some j n a in
    let e = same_leading t m.tx leadstage.Notify m.stage (sym d.0 ∙ (ap (λ z. place_of p z h) g ∙ i.stands)) in
    subst (λ z. Sends p h (op.Notify z t w)) (sym g) (note_sends p n t w h m i (sym e.0) (subst (lead.is_readable_at m) (sym e.1) r).0)
leader_sends p n h m (op.Tell j c id) l i r a d = absurd (subst (Tells c id) (ap (λ z. place_of p z h) (same_Some j n a) ∙ i.stands) d)
leader_sends p n h m (op.Ping j c) l i r a d = absurd (apart (sym d ∙ (ap (λ z. place_of p z h) (same_Some j n a) ∙ i.stands)))
  where
    apart : Beating c beatstage.Ping ≡ Leading m.tx m.stage → ⊥
    apart e = grind arith
leader_sends p n h m o l i r a d = silent_sends p h o tt

teller_tells : (p : Plan) (n c id : ℕ) (h : List Entry) (m : teller.Meaning) (x : tellstage.Stage) → Tells c id (Telling m.number m.tx x) → StageFired p h m.tx x → tells.IsReadable x → Sends p h (op.Tell n c id)
teller_tells p n c id h m (tellstage.Tell f fs) d s r = tell_sends p n c id h f (subst (λ z. firing_of p z h ≡ Some f) d.1 s.0.0) r
teller_tells p n c id h m tellstage.Told d s r = absurd d
teller_tells p n c id h m tellstage.Ack d s r = absurd d
teller_tells p n c id h m tellstage.Ended d s r = absurd d

pub teller_sends : (p : Plan) (n : ℕ) (h : List Entry) (m : teller.Meaning) (o : Op) → IsHistory p h → IsTeller p n h m → tells.IsReadable m.stage → actor o ≡ Some n → IsDue p h o → Sends p h o
teller_sends p n h m (op.Push j s) l i r a d = absurd (apart d.0 (sym d.1 ∙ (ap (λ z. place_of p z h) (same_Some j n a) ∙ i.stands)))
  where
    apart : (f : stage.Follower) → Following f ≡ Telling m.number m.tx m.stage → ⊥
    apart f e = grind arith
teller_sends p n h m (op.Reply j c k) l i r a d = absurd (subst (Replies c k h) (ap (λ z. place_of p z h) (same_Some j n a) ∙ i.stands) d)
teller_sends p n h m (op.Notify j t w) l i r a d = absurd (apart (sym d.0 ∙ (ap (λ z. place_of p z h) (same_Some j n a) ∙ i.stands)))
  where
    apart : Leading t leadstage.Notify ≡ Telling m.number m.tx m.stage → ⊥
    apart e = grind arith
teller_sends p n h m (op.Tell j c id) l i r a d =
    let g = same_Some j n a in
    subst (λ z. Sends p h (op.Tell z c id)) (sym g) (teller_tells p n c id h m m.stage (subst (Tells c id) (ap (λ z. place_of p z h) g ∙ i.stands) d) (fired_where_it_stands p n m.number m.tx m.stage h l i.stands) r)
teller_sends p n h m (op.Ping j c) l i r a d = absurd (apart (sym d ∙ (ap (λ z. place_of p z h) (same_Some j n a) ∙ i.stands)))
  where
    apart : Beating c beatstage.Ping ≡ Telling m.number m.tx m.stage → ⊥
    apart e = grind arith
teller_sends p n h m o l i r a d = silent_sends p h o tt

pub beat_sends : (p : Plan) (n : ℕ) (h : List Entry) (m : beat.Meaning) (o : Op) → IsHistory p h → IsBeat p n h m → beats.IsReadable m.inv m.stage → actor o ≡ Some n → IsDue p h o → Sends p h o
beat_sends p n h m (op.Push j s) l i r a d = absurd (apart d.0 (sym d.1 ∙ (ap (λ z. place_of p z h) (same_Some j n a) ∙ i.stands)))
  where
    apart : (f : stage.Follower) → Following f ≡ Beating m.session m.stage → ⊥
    apart f e = grind arith
beat_sends p n h m (op.Reply j c k) l i r a d = absurd (subst (Replies c k h) (ap (λ z. place_of p z h) (same_Some j n a) ∙ i.stands) d)
beat_sends p n h m (op.Notify j t w) l i r a d = absurd (apart (sym d.0 ∙ (ap (λ z. place_of p z h) (same_Some j n a) ∙ i.stands)))
  where
    apart : Leading t leadstage.Notify ≡ Beating m.session m.stage → ⊥
    apart e = grind arith
beat_sends p n h m (op.Tell j c id) l i r a d = absurd (subst (Tells c id) (ap (λ z. place_of p z h) (same_Some j n a) ∙ i.stands) d)
beat_sends p n h m (op.Ping j c) l i r a d =
    let g = same_Some j n a in
    let e = same_beating c m.session beatstage.Ping m.stage (sym d ∙ (ap (λ z. place_of p z h) g ∙ i.stands)) in
    subst (λ z. Sends p h (op.Ping z c)) (sym g) (ping_sends p n c h (subst (λ z. IsTell (tell.Ping z)) i.inv (subst (beats.IsReadable m.inv) (sym e.1) r)))
beat_sends p n h m o l i r a d = silent_sends p h o tt
