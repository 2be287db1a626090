-- What the services hold after an operation of a watch function.
use Rattle.std.specs.Prelude.{if◌then◌else◌, option_and_then, option_map}
use Rattle.std.proofs.Common.{◌≡◌, ℕ, Bool, true, false, List, ◌∷◌, refl, sym, ◌∙◌, ap, subst, Some}
use Rattle.std.proofs.lemmas.Bool.{eq-eqb, false≢true}
use Rattle.fk_base.specs.Faults.{one_more}
use Rattle.fk_print.specs.declared.entry.Entry.{Entry}
use Rattle.fk_print.specs.declared.op.Op.TheVariants as op
use Rattle.fk_queue.specs.Lanes.{same_lane}
use Rattle.fk_queue.specs.Letters.{head_number}
use Rattle.fk_queue.specs.Meaning as post
use Rattle.fk_queue.specs.Meaning.{pushed}
use Rattle.fk_queue.specs.declared.lane.Lane.{Lane}
use Rattle.fk_queue.specs.declared.lane.Lane.TheVariants as lane
use Rattle.fk_watch.specs.Meaning as watches
use Rattle.fk_watch.specs.Notes.{watch_tell}
use Rattle.fk_watch.specs.Telling.{Meaning, calm_op, post_after_step, stage_post, stage_watches, watches_after_step}
use Rattle.fk_wire.specs.TellText.{tell_text}
use Rattle.fk_wire.specs.declared.version.Version.TheVariants as version
use Rattle.fk_stand.specs.Messages.{tell_of}
use Rattle.fk_stand.specs.Posts.{lane_after, letter_in, post_after}
use Rattle.fk_stand.specs.Stores.{watches_after}
use Rattle.fk_spec.specs.Plan.{Plan, is_client}
use Rattle.fk_spec.specs.Start.{Notifies, task_of, when}
use Rattle.fk_spec.specs.Follower.{is_number}
use Rattle.fk_spec.specs.Function.{teller_word}
use Rattle.fk_spec.specs.Lanes.{Watch, follows_session, leads, notifies}
use Rattle.fk_spec.specs.Teller as teller
use Rattle.fk_spec.specs.Teller.{Stage}
use Rattle.fk_spec.specs.Watches.{Firing, firing_of}
use Rattle.fk_spec.specs.Next.{IsHistory}
use Rattle.fk_law.specs.Functions.{IsFor}
use Rattle.fk_law.proofs.Starting.{place_for}
use Rattle.fk_agree.specs.Letters.{LeavesLane}
use Rattle.fk_agree.specs.Records.{LeavesRecords}
use Rattle.fk_agree.specs.Stored.{LeavesStore}
use Rattle.fk_agree.specs.Watched.{LeavesWatches}
use Rattle.fk_agree.proofs.Granting.{records_stay}
use Rattle.fk_agree.proofs.Posting.{letter_is_pushed}
use Rattle.fk_agree.proofs.Putting.{store_stays}
use Rattle.fk_agree.proofs.Serving.{acked_post, fault_leaves, other_number, post_left, post_stands, services_stay, watches_stand}
use Rattle.fk_agree.proofs.Watching.{told_is_written, watches_stay}
use Rattle.fk_agree_notify.specs.Tellers.{TellerFaultIsWritten, TellerIsWritten}
use Rattle.fk_agree_notify.proofs.Fired.{StageFired, fired_of_client, fired_where_it_stands}
use Rattle.fk_agree_notify.proofs.Telling.{calm_step, teller_faults}

-- The post. ---------------------------------------------------------------------------------------------

-- a telling leaves all lanes but its client's inbox
told_elsewhere : (p : Plan) (n c id : ℕ) (h : List Entry) (q : Lane) → same_lane q (lane.Inbox c) ≡ false → LeavesLane p q h (op.Tell n c id)
told_elsewhere p n c id h lane.Leader e = record { none = refl; kept = refl }
told_elsewhere p n c id h lane.Watch e = record { none = refl; kept = refl }
told_elsewhere p n c id h (lane.Session d) e = record { none = refl; kept = refl }
told_elsewhere p n c id h (lane.Inbox d) e = record { none = ap (λ b. option_map (tell_text version.Two) (option_and_then (tell_of p h) (when b (Watch id)))) (other_number c d e); kept = refl }

told_post : (p : Plan) (n c id faults : ℕ) (e : Entry) (h : List Entry) (f : Firing) → e.op ≡ op.Tell n c id → is_client p c ≡ true → firing_of p id h ≡ Some f → pushed (lane.Inbox c) (tell_text version.Two (watch_tell f)) (post_after p h faults) ≡ post_after p (e ∷ h) faults
told_post p n c id faults e h f g k a = letter_is_pushed p faults (lane.Inbox c) (tell_text version.Two (watch_tell f)) e h k its (λ q x. subst (LeavesLane p q h) (sym g) (told_elsewhere p n c id h q x))
  where
    its : letter_in p (lane.Inbox c) h e.op ≡ Some (tell_text version.Two (watch_tell f))
    its =
        ap (letter_in p (lane.Inbox c) h) g
        ∙ (ap (λ b. option_map (tell_text version.Two) (option_and_then (tell_of p h) (when b (Watch id)))) (eq-eqb c c refl) ∙ ap (λ o. option_map (tell_text version.Two) (option_map watch_tell o)) a)

-- an acknowledgement of a watch function leaves all lanes but its own
acked_elsewhere : (p : Plan) (n w : ℕ) (h : List Entry) (q : Lane) → task_of n h ≡ Some (Notifies w) → same_lane q lane.Watch ≡ false → LeavesLane p q h (op.AckOk n)
acked_elsewhere p n w h lane.Leader t e = record { none = refl; kept = ap leads t }
acked_elsewhere p n w h lane.Watch t e = absurd (false≢true (sym e))
acked_elsewhere p n w h (lane.Session c) t e = record { none = refl; kept = ap (follows_session c) t }
acked_elsewhere p n w h (lane.Inbox c) t e = record { none = refl; kept = refl }

post_case : (p : Plan) (n faults : ℕ) (e : Entry) (h : List Entry) (m : Meaning) (x : Stage) → IsHistory p h → task_of n h ≡ Some (Notifies m.number) → m.inv ≡ n → StageFired p h m.tx x → e.op ≡ calm_op (post_after p h faults) m x → stage_post (post_after p h faults) m x ≡ post_after p (e ∷ h) faults
post_case p n faults e h m (teller.Tell f fs) l t k i g = told_post p m.inv f.watch.session f.watch.id faults e h f g (fired_of_client p f.watch.id h f l i.0.0) i.0.0
post_case p n faults e h m teller.Told l t k i g = sym (post_left p faults e h (op.Told m.inv m.tx) g tt)
post_case p n faults e h m teller.Ack l t k i g =
    let u : task_of m.inv h ≡ Some (Notifies m.number) = subst (λ z. task_of z h ≡ Some (Notifies m.number)) (sym k) t in
    acked_post p lane.Watch m.inv m.number faults e h refl refl (ap notifies u) (λ q x. acked_elsewhere p m.inv m.number h q u x) g
post_case p n faults e h m teller.Ended l t k i g = sym (post_left p faults e h op.Idle g tt)

-- The table of watches. ---------------------------------------------------------------------------------

watches_case : (p : Plan) (n faults f : ℕ) (e : Entry) (h : List Entry) (m : Meaning) (x : Stage) → IsHistory p (e ∷ h) → e.op ≡ calm_op (post_after p h f) m x → stage_watches (watches_after p h faults) m x ≡ watches_after p (e ∷ h) faults
watches_case p n faults k e h m (teller.Tell f fs) l g = sym (watches_stay p faults e h (subst LeavesWatches (sym g) tt))
watches_case p n faults k e h m teller.Told l g = told_is_written p m.inv m.tx faults e h l g
watches_case p n faults k e h m teller.Ack l g = sym (watches_stay p faults e h (subst LeavesWatches (sym g) (ack_leaves (is_number m.number (head_number (lane_after p lane.Watch h))))))
  where
    ack_leaves : (b : Bool) → LeavesWatches (if b then op.AckOk m.inv else op.AckGone m.inv)
    ack_leaves true = tt
    ack_leaves false = tt
watches_case p n faults k e h m teller.Ended l g = sym (watches_stay p faults e h (subst LeavesWatches (sym g) tt))

-- The table and the user storage. -----------------------------------------------------------------------

leaves_records : (q : post.Meaning) (m : Meaning) (x : Stage) → LeavesRecords (calm_op q m x)
leaves_records q m (teller.Tell f fs) = tt
leaves_records q m teller.Told = tt
leaves_records q m teller.Ack = ack_leaves (is_number m.number (head_number (q.lanes lane.Watch)))
  where
    ack_leaves : (b : Bool) → LeavesRecords (if b then op.AckOk m.inv else op.AckGone m.inv)
    ack_leaves true = tt
    ack_leaves false = tt
leaves_records q m teller.Ended = tt

leaves_store : (q : post.Meaning) (m : Meaning) (x : Stage) → LeavesStore (calm_op q m x)
leaves_store q m (teller.Tell f fs) = tt
leaves_store q m teller.Told = tt
leaves_store q m teller.Ack = ack_leaves (is_number m.number (head_number (q.lanes lane.Watch)))
  where
    ack_leaves : (b : Bool) → LeavesStore (if b then op.AckOk m.inv else op.AckGone m.inv)
    ack_leaves true = tt
    ack_leaves false = tt
leaves_store q m teller.Ended = tt

-- All of them. ------------------------------------------------------------------------------------------

pub teller_is_written : TellerIsWritten
teller_is_written p n e h m t q u w l s i g = record {
  table = s.table ∙ sym (records_stay p t.faults e h (subst LeavesRecords (sym calm) (leaves_records q m m.stage)));
  post = post_stands p (e ∷ h) q.faults (post_after_step q m) (ap (λ z. stage_post z m m.stage) s.post ∙ post_case p n q.faults e h m m.stage l.0 task i.inv fired (calm ∙ ap (λ z. calm_op z m m.stage) s.post));
  user = s.user ∙ sym (store_stays p u.faults e h l (subst LeavesStore (sym calm) (leaves_store q m m.stage)));
  watches = watches_stand p (e ∷ h) w.faults (watches_after_step w m) (ap (λ z. stage_watches z m m.stage) s.watches ∙ watches_case p n w.faults q.faults e h m m.stage l (calm ∙ ap (λ z. calm_op z m m.stage) s.post));
}
  where
    calm : e.op ≡ calm_op q m m.stage
    calm = g ∙ calm_step p h q w m (ap (λ z. z.armed) s.post) (ap (λ z. z.armed) s.watches)

    task : task_of n h ≡ Some (Notifies m.number)
    task = subst (IsFor (task_of n h)) i.stands (place_for p n h l.0)

    fired : StageFired p h m.tx m.stage
    fired = fired_where_it_stands p n m.number m.tx m.stage h l.0 i.stands

-- After a fault. ----------------------------------------------------------------------------------------

-- how often calls of the post, and of the table of watches, have failed
abbrev post_faults : ℕ → Stage → ℕ
post_faults f (teller.Tell g gs) = one_more f
post_faults f teller.Told = f
post_faults f teller.Ack = one_more f
post_faults f teller.Ended = f

failed_post : (p : Plan) (h : List Entry) (m : Meaning) (f : ℕ) (x : Stage) → post.calmed (stage_post (post.armed (post_after p h f)) m x) ≡ post_after p h (post_faults f x)
failed_post p h m f (teller.Tell g gs) = refl
failed_post p h m f teller.Told = refl
failed_post p h m f teller.Ack = refl
failed_post p h m f teller.Ended = refl

abbrev watches_faults : ℕ → Stage → ℕ
watches_faults f (teller.Tell g gs) = f
watches_faults f teller.Told = one_more f
watches_faults f teller.Ack = f
watches_faults f teller.Ended = f

failed_watches : (p : Plan) (h : List Entry) (m : Meaning) (f : ℕ) (x : Stage) → watches.calmed (stage_watches (watches.armed (watches_after p h f)) m x) ≡ watches_after p h (watches_faults f x)
failed_watches p h m f (teller.Tell g gs) = refl
failed_watches p h m f teller.Told = refl
failed_watches p h m f teller.Ack = refl
failed_watches p h m f teller.Ended = refl

pub teller_fault_is_written : TellerFaultIsWritten
teller_fault_is_written p n e h m t q u w l s i g =
    services_stay p e h t (post.calmed (post_after_step (post.armed q) m)) u (watches.calmed (watches_after_step (watches.armed w) m)) l (fault_leaves p m.inv (teller_word m.stage) e h (g ∙ teller_faults q w m i.going))
    (record {
      table = s.table;
      post = post_stands p h (post_faults q.faults m.stage) (post.calmed (post_after_step (post.armed q) m)) (ap (λ z. post.calmed (stage_post (post.armed z) m m.stage)) s.post ∙ failed_post p h m q.faults m.stage);
      user = s.user;
      watches = watches_stand p h (watches_faults w.faults m.stage) (watches.calmed (watches_after_step (watches.armed w) m)) (ap (λ z. watches.calmed (stage_watches (watches.armed z) m m.stage)) s.watches ∙ failed_watches p h m w.faults m.stage);
    })
