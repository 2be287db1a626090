-- What the post holds after a leader's operation.
use Rattle.std.specs.Prelude.{◌+◌, if◌then◌else◌, map, option_and_then, option_map}
use Rattle.std.proofs.Common.{◌≡◌, ℕ, Bool, true, false, cond, List, ◌∷◌, refl, sym, ◌∙◌, ap, subst, Option, Some, None}
use Rattle.std.proofs.lemmas.Bool.{eq-eqb, false≢true}
use Rattle.fk_tree.specs.declared.request.Request.{Request}
use Rattle.fk_tree.specs.declared.request.Request.TheVariants as request
use Rattle.fk_print.specs.declared.entry.Entry.{Entry}
use Rattle.fk_print.specs.declared.op.Op.TheVariants as op
use Rattle.fk_queue.specs.Answers.{ack_of, after_ack}
use Rattle.fk_queue.specs.Lanes.{same_lane}
use Rattle.fk_queue.specs.Letters.{head_number}
use Rattle.fk_queue.specs.Meaning.{pushed}
use Rattle.fk_queue.specs.declared.lane.Lane.{Lane}
use Rattle.fk_queue.specs.declared.lane.Lane.TheVariants as lane
use Rattle.fk_store.specs.Meaning as table
use Rattle.fk_user.specs.Meaning as user
use Rattle.fk_watch.specs.Meaning as watches
use Rattle.fk_watch.specs.Notes.{fired_as}
use Rattle.fk_wire.specs.NoteText.{note_text}
use Rattle.fk_wire.specs.TellText.{tell_text}
use Rattle.fk_wire.specs.declared.message.Tell.TheVariants as tell
use Rattle.fk_wire.specs.declared.version.Version.TheVariants as version
use Rattle.fk_lead.specs.Meaning.{Meaning, Swept}
use Rattle.fk_lead.specs.Operation.{calm_op}
use Rattle.fk_lead.specs.Services as lead
use Rattle.fk_lead.specs.Services.{note_of, reply_tell, stage_post}
use Rattle.fk_stand.specs.Messages.{done_tell, push_message_of, tell_of}
use Rattle.fk_stand.specs.Posts.{lane_after, letter_in, post_after}
use Rattle.fk_spec.specs.Plan.{Plan, is_client}
use Rattle.fk_spec.specs.Start.{Leads, request_of, task_of}
use Rattle.fk_spec.specs.Settling.{Outcome, outcome_of}
use Rattle.fk_spec.specs.Follower.{is_number}
use Rattle.fk_spec.specs.Lanes.{follows_session, is_evict, leads, notifies, reply_message}
use Rattle.fk_spec.specs.Leader as leader
use Rattle.fk_spec.specs.Leader.{Stage}
use Rattle.fk_spec.specs.Watches.{swept_by}
use Rattle.fk_spec.specs.Next.{IsHistory}
use Rattle.fk_agree.specs.Letters.{LeavesLane}
use Rattle.fk_agree.proofs.Posting.{letter_is_pushed}
use Rattle.fk_agree.proofs.Serving.{LeavesPost, acked_post, post_left}
use Rattle.fk_agree_lead.specs.Leaders.{IsLeader}
use Rattle.fk_agree_lead.proofs.Making.{may}
use Rattle.fk_agree_lead.proofs.Pushed.{its_push, lead_task}
use Rattle.fk_agree_lead.proofs.Requested.{message_tells_its_request}
use Rattle.fk_agree.proofs.Replying.{replied_elsewhere}

-- A note. -----------------------------------------------------------------------------------------------

-- a note leaves all lanes but that of watches
noted_elsewhere : (p : Plan) (n t w : ℕ) (h : List Entry) (q : Lane) → same_lane q lane.Watch ≡ false → LeavesLane p q h (op.Notify n t w)
noted_elsewhere p n t w h lane.Leader e = record { none = refl; kept = refl }
noted_elsewhere p n t w h lane.Watch e = absurd (false≢true (sym e))
noted_elsewhere p n t w h (lane.Session c) e = record { none = refl; kept = refl }
noted_elsewhere p n t w h (lane.Inbox c) e = record { none = refl; kept = refl }

noted_post : (p : Plan) (n k faults : ℕ) (e : Entry) (h : List Entry) (m : Meaning) → IsLeader p n h m → e.op ≡ op.Notify m.inv m.tx k → pushed lane.Watch (note_text version.Two (note_of m)) (post_after p h faults) ≡ post_after p (e ∷ h) faults
noted_post p n k faults e h m i g = letter_is_pushed p faults lane.Watch (note_text version.Two (note_of m)) e h refl its (λ q x. subst (LeavesLane p q h) (sym g) (noted_elsewhere p m.inv m.tx k h q x))
  where
    its : letter_in p lane.Watch h e.op ≡ Some (note_text version.Two (note_of m))
    its =
        ap (letter_in p lane.Watch h) g
        ∙ ap (λ fs. Some (note_text version.Two (record { tx = m.tx; fired = fs }))) (ap (λ j. map fired_as (swept_by p j h).fired) i.inv ∙ sym (ap (λ z. z.fired) i.swept))

-- A reply. ----------------------------------------------------------------------------------------------

-- an eviction is one in the message and in the rules
pub evicts_the_same : (r : Request) → is_evict (Some r) ≡ lead.is_evict r
evicts_the_same (request.Close evict) = refl
evicts_the_same r = refl

-- the rules tell what the message says
told : (p : Plan) (h : List Entry) (m : Meaning) (b : Bool) → push_message_of p m.tx h ≡ Some m.message → (o : Option Outcome) → option_and_then (tell_of p h) (reply_message b m.message.k o (Some (Leads m.tx))) ≡ Some (if b then tell.Evicted m.message.k m.tx else done_tell m.message.k m.tx m.message)
told p h m true a o = refl
told p h m false a o = ap (option_map (done_tell m.message.k m.tx)) a

replied_post : (p : Plan) (n faults : ℕ) (e : Entry) (h : List Entry) (m : Meaning) → IsHistory p h → IsLeader p n h m → e.op ≡ op.Reply m.inv m.message.session m.message.k → pushed (lane.Inbox m.message.session) (tell_text version.Two (reply_tell m.tx m.message)) (post_after p h faults) ≡ post_after p (e ∷ h) faults
replied_post p n faults e h m l i g = letter_is_pushed p faults (lane.Inbox c) (tell_text version.Two (reply_tell m.tx m.message)) e h client its (λ q x. subst (LeavesLane p q h) (sym g) (replied_elsewhere p m.inv c k h q x))
  where
    c : ℕ
    c = m.message.session

    k : ℕ
    k = m.message.k

    client : is_client p c ≡ true
    client = let x = its_push p n h m l i in ap (is_client p) x.tells.session ∙ x.client

    evicts : is_evict (request_of p c k h) ≡ lead.is_evict m.message.request
    evicts = ap is_evict (message_tells_its_request p m.tx h m.message l i.message) ∙ evicts_the_same m.message.request

    task : task_of m.inv h ≡ Some (Leads m.tx)
    task = ap (λ z. task_of z h) i.inv ∙ lead_task p n h m l i

    its : letter_in p (lane.Inbox c) h e.op ≡ Some (tell_text version.Two (reply_tell m.tx m.message))
    its =
        ap (letter_in p (lane.Inbox c) h) g
        ∙ (ap (λ b. option_map (tell_text version.Two) (option_and_then (tell_of p h) (cond b (reply_message (is_evict (request_of p c k h)) k (outcome_of c k h) (task_of m.inv h)) None))) (eq-eqb c c refl)
        ∙ (ap (λ o. option_map (tell_text version.Two) (option_and_then (tell_of p h) (reply_message (is_evict (request_of p c k h)) k (outcome_of c k h) o))) task
        ∙ (ap (option_map (tell_text version.Two)) (told p h m (is_evict (request_of p c k h)) i.message (outcome_of c k h))
        ∙ ap (λ b. Some (tell_text version.Two (if b then tell.Evicted k m.tx else done_tell k m.tx m.message))) evicts)))

-- An acknowledgement. -----------------------------------------------------------------------------------

-- an acknowledgement of a leader leaves all lanes but its own
acked_elsewhere : (p : Plan) (n t : ℕ) (h : List Entry) (q : Lane) → task_of n h ≡ Some (Leads t) → same_lane q lane.Leader ≡ false → LeavesLane p q h (op.AckOk n)
acked_elsewhere p n t h lane.Leader a e = absurd (false≢true (sym e))
acked_elsewhere p n t h lane.Watch a e = record { none = refl; kept = ap notifies a }
acked_elsewhere p n t h (lane.Session c) a e = record { none = refl; kept = ap (follows_session c) a }
acked_elsewhere p n t h (lane.Inbox c) a e = record { none = refl; kept = refl }

ack_leaves : (p : Plan) (n t faults : ℕ) (e : Entry) (h : List Entry) → task_of n h ≡ Some (Leads t) → e.op ≡ (if is_number t (head_number (lane_after p lane.Leader h)) then op.AckOk n else op.AckGone n) → after_ack (post_after p h faults) lane.Leader (ack_of (post_after p h faults) lane.Leader t) ≡ post_after p (e ∷ h) faults
ack_leaves p n t faults e h a g = acked_post p lane.Leader n t faults e h refl refl (ap leads a) (λ q x. acked_elsewhere p n t h q a x) g

-- Each operation. ---------------------------------------------------------------------------------------

-- the post after each operation
pub post_case : (p : Plan) (n faults : ℕ) (e : Entry) (h : List Entry) (m : Meaning) (t : table.Meaning) (w : watches.Watches) (u : user.Meaning) (s : Swept) (x : Stage) → IsHistory p (e ∷ h) → IsLeader p n h m → e.op ≡ calm_op t (post_after p h faults) w u s m x → stage_post (post_after p h faults) m x ≡ post_after p (e ∷ h) faults
post_case p n faults e h m t w u s leader.Commit l i g = sym (post_left p faults e h (calm_op t (post_after p h faults) w u s m leader.Commit) g (may LeavesPost t (post_after p h faults) w u s m leader.Commit (tt, (λ a. tt), (λ path a b. tt))))
post_case p n faults e h m t w u s leader.Pending l i g = sym (post_left p faults e h (calm_op t (post_after p h faults) w u s m leader.Pending) g (may LeavesPost t (post_after p h faults) w u s m leader.Pending (tt, tt)))
post_case p n faults e h m t w u s leader.Drop l i g = sym (post_left p faults e h (calm_op t (post_after p h faults) w u s m leader.Drop) g (may LeavesPost t (post_after p h faults) w u s m leader.Drop (tt, (λ a. tt))))
post_case p n faults e h m t w u s leader.Sweep l i g = sym (post_left p faults e h (calm_op t (post_after p h faults) w u s m leader.Sweep) g (may LeavesPost t (post_after p h faults) w u s m leader.Sweep ((λ a. tt), (λ a b. tt))))
post_case p n faults e h m t w u s (leader.Put path others) l i g = sym (post_left p faults e h (calm_op t (post_after p h faults) w u s m (leader.Put path others)) g (may LeavesPost t (post_after p h faults) w u s m (leader.Put path others) (tt, (λ a. tt))))
post_case p n faults e h m t w u s leader.Publish l i g = sym (post_left p faults e h (calm_op t (post_after p h faults) w u s m leader.Publish) g (may LeavesPost t (post_after p h faults) w u s m leader.Publish (tt, (λ a. tt))))
post_case p n faults e h m t w u s leader.Notify l i g = noted_post p n ((lane_after p lane.Watch h).given + 1) faults e h m i g
post_case p n faults e h m t w u s leader.Reply l i g = replied_post p n faults e h m l.0 i g
post_case p n faults e h m t w u s leader.Done l i g = sym (post_left p faults e h (calm_op t (post_after p h faults) w u s m leader.Done) g (may LeavesPost t (post_after p h faults) w u s m leader.Done (tt, (λ a. tt))))
post_case p n faults e h m t w u s leader.Ack l i g = ack_leaves p m.inv m.tx faults e h (ap (λ z. task_of z h) i.inv ∙ lead_task p n h m l.0 i) g
post_case p n faults e h m t w u s leader.Ended l i g = sym (post_left p faults e h (calm_op t (post_after p h faults) w u s m leader.Ended) g (may LeavesPost t (post_after p h faults) w u s m leader.Ended tt))
