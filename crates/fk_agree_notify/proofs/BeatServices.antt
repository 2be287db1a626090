-- What the services hold after an operation of a heartbeat.
use Rattle.std.specs.Prelude.{◌+◌, if◌then◌else◌, nat_le, nat_lt, option_and_then, option_map}
use Rattle.std.proofs.Common.{◌≡◌, ℕ, Bool, true, false, List, ◌∷◌, refl, sym, ◌∙◌, ap, subst, Some, None}
use Rattle.std.proofs.lemmas.Bool.{eq-eqb}
use Rattle.fk_base.specs.Faults.{one_more}
use Rattle.fk_print.specs.declared.entry.Entry.{Entry}
use Rattle.fk_print.specs.declared.op.Op.{Op}
use Rattle.fk_print.specs.declared.op.Op.TheVariants as op
use Rattle.fk_queue.specs.Lanes.{same_lane}
use Rattle.fk_queue.specs.Meaning as post
use Rattle.fk_queue.specs.Meaning.{pushed}
use Rattle.fk_queue.specs.declared.lane.Lane.{Lane}
use Rattle.fk_queue.specs.declared.lane.Lane.TheVariants as lane
use Rattle.fk_settle.specs.Transaction.{transacted, written_unless}
use Rattle.fk_store.specs.Conds.{Miss, found_at, session_of}
use Rattle.fk_store.specs.Meaning as table
use Rattle.fk_store.specs.declared.cond.Cond.TheVariants as cond
use Rattle.fk_store.specs.declared.session_record.SessionRecord.{SessionRecord}
use Rattle.fk_watch.specs.Beating as beating
use Rattle.fk_watch.specs.Beating.{Meaning, calm_op, evict_sent, note_conds, note_writes, post_after_step, stage_post, stage_table, table_after_step}
use Rattle.fk_wire.specs.SentText.{sent_text}
use Rattle.fk_wire.specs.TellText.{tell_text}
use Rattle.fk_wire.specs.declared.message.Tell.TheVariants as tell
use Rattle.fk_wire.specs.declared.version.Version.TheVariants as version
use Rattle.fk_stand.specs.Messages.{sent_from, tell_of}
use Rattle.fk_stand.specs.Posts.{letter_in, post_after}
use Rattle.fk_stand.specs.Tables.{table_after}
use Rattle.fk_spec.specs.Plan.{Plan, is_client}
use Rattle.fk_spec.specs.Start.{Evicted, Probes, clock_of, probes_session, task_of, when}
use Rattle.fk_spec.specs.Function.{beat_word}
use Rattle.fk_spec.specs.Heartbeat as heartbeat
use Rattle.fk_spec.specs.Heartbeat.{Stage, open_op, unanswered_op}
use Rattle.fk_spec.specs.Lanes.{Ping}
use Rattle.fk_spec.specs.Pings.{Noted}
use Rattle.fk_agree.specs.Letters.{LeavesLane}
use Rattle.fk_agree.specs.Records.{LeavesRecords}
use Rattle.fk_agree.specs.Stored.{LeavesStore}
use Rattle.fk_agree.specs.Watched.{LeavesWatches}
use Rattle.fk_agree.proofs.Finishing.{ping_is_written}
use Rattle.fk_agree.proofs.Posting.{letter_is_pushed}
use Rattle.fk_agree.proofs.Putting.{store_stays}
use Rattle.fk_agree.proofs.Serving.{LeavesPost, fault_leaves, other_number, post_left, post_stands, services_stay, table_stands}
use Rattle.fk_agree.proofs.Watching.{watches_stay}
use Rattle.fk_agree.proofs.Held.{left_table}
use Rattle.fk_agree_notify.specs.Beats.{BeatFaultIsWritten, BeatIsWritten}
use Rattle.fk_agree_notify.proofs.Beating.{beat_faults, beat_task, beats_client, calm_beat}
use Rattle.fk_base.proofs.Logic.{by_test}

-- What its operations leave. ----------------------------------------------------------------------------

-- one that changes neither the user storage nor the table of watches
abbrev Spares : Op → Type 0
Spares o = LeavesStore o × LeavesWatches o

late_looks : (P : Op → Type 0) (n beat now : ℕ) (x : Noted) → P (op.ProbeLate n x.ping x.moment) → P (op.ProbeWaiting n) → P (unanswered_op n beat now x)
late_looks P n beat now x a b = by_test (nat_lt (x.moment + beat) now) (λ z. P (if z then op.ProbeLate n x.ping x.moment else op.ProbeWaiting n)) (λ _. a) (λ _. b)

probe_looks : (P : Op → Type 0) (n now beat : ℕ) (r : SessionRecord) → P (op.ProbeClosed n) → P (op.ProbeFresh n) → P (op.ProbeLate n r.ping r.ping_at) → P (op.ProbeWaiting n) → P (beating.probe_op n now beat r)
probe_looks P n now beat r a b c d =
    by_test r.closed (λ z. P (if z then op.ProbeClosed n else open_op n beat now r.pong (beating.noted_in r))) (λ _. a)
    (λ _. by_test (nat_le r.ping r.pong) (λ z. P (if z then op.ProbeFresh n else unanswered_op n beat now (beating.noted_in r))) (λ _. b) (λ _. late_looks P n beat now (beating.noted_in r) c d))

note_either : (P : Op → Type 0) (n : ℕ) (r : SessionRecord) → P (op.NoteOk n) → P (op.NoteMiss n r.ping) → P (beating.note_op n r)
note_either P n r a b = by_test (nat_lt r.ping n) (λ z. P (if z then op.NoteOk n else op.NoteMiss n r.ping)) (λ _. a) (λ _. b)

spares : (t : table.Meaning) (q : post.Meaning) (now beat : ℕ) (m : Meaning) (x : Stage) → Spares (calm_op t q now beat m x)
spares t q now beat m heartbeat.Probe = probe_looks Spares m.inv now beat (session_of t m.session) (tt, tt) (tt, tt) (tt, tt) (tt, tt)
spares t q now beat m heartbeat.Ping = (tt, tt)
spares t q now beat m heartbeat.Note = note_either Spares m.inv (session_of t m.session) (tt, tt) (tt, tt)
spares t q now beat m heartbeat.Evict = (tt, tt)
spares t q now beat m heartbeat.Ended = (tt, tt)

-- The table. --------------------------------------------------------------------------------------------

noted_table : (p : Plan) (n c faults : ℕ) (e : Entry) (h : List Entry) → is_client p c ≡ true → task_of n h ≡ Some (Probes c) → e.op ≡ beating.note_op n (session_of (table_after p h faults) c) → transacted (note_conds n c) (note_writes n c (clock_of h)) (table_after p h faults) ≡ table_after p (e ∷ h) faults
noted_table p n c faults e h k t g = by_ping (nat_lt (session_of (table_after p h faults) c).ping n) refl g
  where
    miss : Miss
    miss = record { place = 0; found = found_at (table_after p h faults) (cond.PingBelow c n) }

    by_ping : (b : Bool) → nat_lt (session_of (table_after p h faults) c).ping n ≡ b → e.op ≡ (if b then op.NoteOk n else op.NoteMiss n (session_of (table_after p h faults) c).ping) → written_unless (if b then None else Some miss) (note_writes n c (clock_of h)) (table_after p h faults) ≡ table_after p (e ∷ h) faults
    by_ping true a f = ping_is_written p n c faults e h f t
    by_ping false a f = left_table p faults e h (op.NoteMiss n (session_of (table_after p h faults) c).ping) f tt

table_case : (p : Plan) (faults beat : ℕ) (q : post.Meaning) (e : Entry) (h : List Entry) (m : Meaning) (x : Stage) → is_client p m.session ≡ true → task_of m.inv h ≡ Some (Probes m.session) → e.op ≡ calm_op (table_after p h faults) q (clock_of h) beat m x → stage_table (table_after p h faults) (clock_of h) m x ≡ table_after p (e ∷ h) faults
table_case p faults beat q e h m heartbeat.Probe k t g = left_table p faults e h (beating.probe_op m.inv (clock_of h) beat (session_of (table_after p h faults) m.session)) g (probe_looks LeavesRecords m.inv (clock_of h) beat (session_of (table_after p h faults) m.session) tt tt tt tt)
table_case p faults beat q e h m heartbeat.Ping k t g = left_table p faults e h (op.Ping m.inv m.session) g tt
table_case p faults beat q e h m heartbeat.Note k t g = noted_table p m.inv m.session faults e h k t g
table_case p faults beat q e h m heartbeat.Evict k t g = left_table p faults e h (op.Evict m.inv ((q.lanes (lane.Session m.session)).given + 1)) g tt
table_case p faults beat q e h m heartbeat.Ended k t g = left_table p faults e h op.Idle g tt

-- The post. ---------------------------------------------------------------------------------------------

pinged_elsewhere : (p : Plan) (n c : ℕ) (h : List Entry) (q : Lane) → same_lane q (lane.Inbox c) ≡ false → LeavesLane p q h (op.Ping n c)
pinged_elsewhere p n c h lane.Leader e = record { none = refl; kept = refl }
pinged_elsewhere p n c h lane.Watch e = record { none = refl; kept = refl }
pinged_elsewhere p n c h (lane.Session d) e = record { none = refl; kept = refl }
pinged_elsewhere p n c h (lane.Inbox d) e = record { none = ap (λ b. option_map (tell_text version.Two) (option_and_then (tell_of p h) (when b (Ping n)))) (other_number c d e); kept = refl }

pinged_post : (p : Plan) (n c faults : ℕ) (e : Entry) (h : List Entry) → e.op ≡ op.Ping n c → is_client p c ≡ true → pushed (lane.Inbox c) (tell_text version.Two (tell.Ping n)) (post_after p h faults) ≡ post_after p (e ∷ h) faults
pinged_post p n c faults e h g k = letter_is_pushed p faults (lane.Inbox c) (tell_text version.Two (tell.Ping n)) e h k its (λ q x. subst (LeavesLane p q h) (sym g) (pinged_elsewhere p n c h q x))
  where
    its : letter_in p (lane.Inbox c) h e.op ≡ Some (tell_text version.Two (tell.Ping n))
    its = ap (letter_in p (lane.Inbox c) h) g ∙ ap (λ b. option_map (tell_text version.Two) (option_and_then (tell_of p h) (when b (Ping n)))) (eq-eqb c c refl)

evicted_elsewhere : (p : Plan) (n c k : ℕ) (h : List Entry) (q : Lane) → task_of n h ≡ Some (Probes c) → same_lane q (lane.Session c) ≡ false → LeavesLane p q h (op.Evict n k)
evicted_elsewhere p n c k h lane.Leader t e = record { none = refl; kept = refl }
evicted_elsewhere p n c k h lane.Watch t e = record { none = refl; kept = refl }
evicted_elsewhere p n c k h (lane.Session d) t e = record { none = ap (λ x. option_map (sent_text version.Two) (sent_from p d (when (probes_session d x) Evicted))) t ∙ ap (λ b. option_map (sent_text version.Two) (sent_from p d (when b Evicted))) (other_number c d e); kept = refl }
evicted_elsewhere p n c k h (lane.Inbox d) t e = record { none = refl; kept = refl }

evicted_post : (p : Plan) (n c k faults : ℕ) (e : Entry) (h : List Entry) → e.op ≡ op.Evict n k → is_client p c ≡ true → task_of n h ≡ Some (Probes c) → pushed (lane.Session c) (sent_text version.Two evict_sent) (post_after p h faults) ≡ post_after p (e ∷ h) faults
evicted_post p n c k faults e h g i t = letter_is_pushed p faults (lane.Session c) (sent_text version.Two evict_sent) e h i its (λ q x. subst (LeavesLane p q h) (sym g) (evicted_elsewhere p n c k h q t x))
  where
    its : letter_in p (lane.Session c) h e.op ≡ Some (sent_text version.Two evict_sent)
    its =
        ap (letter_in p (lane.Session c) h) g
        ∙ (ap (λ x. option_map (sent_text version.Two) (sent_from p c (when (probes_session c x) Evicted))) t ∙ ap (λ b. option_map (sent_text version.Two) (sent_from p c (when b Evicted))) (eq-eqb c c refl))

post_case : (p : Plan) (faults beat : ℕ) (t : table.Meaning) (e : Entry) (h : List Entry) (m : Meaning) (x : Stage) → is_client p m.session ≡ true → task_of m.inv h ≡ Some (Probes m.session) → e.op ≡ calm_op t (post_after p h faults) (clock_of h) beat m x → stage_post (post_after p h faults) m x ≡ post_after p (e ∷ h) faults
post_case p faults beat t e h m heartbeat.Probe k i g = sym (post_left p faults e h (beating.probe_op m.inv (clock_of h) beat (session_of t m.session)) g (probe_looks LeavesPost m.inv (clock_of h) beat (session_of t m.session) tt tt tt tt))
post_case p faults beat t e h m heartbeat.Ping k i g = pinged_post p m.inv m.session faults e h g k
post_case p faults beat t e h m heartbeat.Note k i g = sym (post_left p faults e h (beating.note_op m.inv (session_of t m.session)) g (note_either LeavesPost m.inv (session_of t m.session) tt tt))
post_case p faults beat t e h m heartbeat.Evict k i g = evicted_post p m.inv m.session (((post_after p h faults).lanes (lane.Session m.session)).given + 1) faults e h g k i
post_case p faults beat t e h m heartbeat.Ended k i g = sym (post_left p faults e h op.Idle g tt)

-- All of them. ------------------------------------------------------------------------------------------

pub beat_is_written : BeatIsWritten
beat_is_written p n e h m t q u w l s i g = record {
  table = table_stands p (e ∷ h) t.faults (table_after_step t (clock_of h) m) (ap (λ z. stage_table z (clock_of h) m m.stage) s.table ∙ table_case p t.faults p.beat q e h m m.stage client task (calm ∙ ap (λ z. calm_op z q (clock_of h) p.beat m m.stage) s.table));
  post = post_stands p (e ∷ h) q.faults (post_after_step q m) (ap (λ z. stage_post z m m.stage) s.post ∙ post_case p q.faults p.beat t e h m m.stage client task (calm ∙ ap (λ z. calm_op t z (clock_of h) p.beat m m.stage) s.post));
  user = s.user ∙ sym (store_stays p u.faults e h l (subst LeavesStore (sym calm) (spares t q (clock_of h) p.beat m m.stage).0));
  watches = s.watches ∙ sym (watches_stay p w.faults e h (subst LeavesWatches (sym calm) (spares t q (clock_of h) p.beat m m.stage).1));
}
  where
    calm : e.op ≡ calm_op t q (clock_of h) p.beat m m.stage
    calm = g ∙ calm_beat t q (clock_of h) p.beat m (ap (λ z. z.armed) s.table) (ap (λ z. z.armed) s.post)

    client : is_client p m.session ≡ true
    client = beats_client p n h m l.0 i

    task : task_of m.inv h ≡ Some (Probes m.session)
    task = ap (λ z. task_of z h) i.inv ∙ beat_task p n h m l.0 i

-- After a fault. ----------------------------------------------------------------------------------------

-- how often calls of the table, and of the post, have failed
abbrev table_faults : ℕ → Stage → ℕ
table_faults f heartbeat.Probe = one_more f
table_faults f heartbeat.Ping = f
table_faults f heartbeat.Note = one_more f
table_faults f heartbeat.Evict = f
table_faults f heartbeat.Ended = f

failed_table : (p : Plan) (now : ℕ) (h : List Entry) (m : Meaning) (f : ℕ) (x : Stage) → table.calmed (stage_table (table.armed (table_after p h f)) now m x) ≡ table_after p h (table_faults f x)
failed_table p now h m f heartbeat.Probe = refl
failed_table p now h m f heartbeat.Ping = refl
failed_table p now h m f heartbeat.Note = refl
failed_table p now h m f heartbeat.Evict = refl
failed_table p now h m f heartbeat.Ended = refl

abbrev post_faults : ℕ → Stage → ℕ
post_faults f heartbeat.Probe = f
post_faults f heartbeat.Ping = one_more f
post_faults f heartbeat.Note = f
post_faults f heartbeat.Evict = one_more f
post_faults f heartbeat.Ended = f

failed_post : (p : Plan) (h : List Entry) (m : Meaning) (f : ℕ) (x : Stage) → post.calmed (stage_post (post.armed (post_after p h f)) m x) ≡ post_after p h (post_faults f x)
failed_post p h m f heartbeat.Probe = refl
failed_post p h m f heartbeat.Ping = refl
failed_post p h m f heartbeat.Note = refl
failed_post p h m f heartbeat.Evict = refl
failed_post p h m f heartbeat.Ended = refl

pub beat_fault_is_written : BeatFaultIsWritten
beat_fault_is_written p n e h m t q u w l s i g =
    services_stay p e h (table.calmed (table_after_step (table.armed t) (clock_of h) m)) (post.calmed (post_after_step (post.armed q) m)) u w l (fault_leaves p m.inv (beat_word m.stage) e h (g ∙ beat_faults t q (clock_of h) p.beat m i.going))
    (record {
      table = table_stands p h (table_faults t.faults m.stage) (table.calmed (table_after_step (table.armed t) (clock_of h) m)) (ap (λ z. table.calmed (stage_table (table.armed z) (clock_of h) m m.stage)) s.table ∙ failed_table p (clock_of h) h m t.faults m.stage);
      post = post_stands p h (post_faults q.faults m.stage) (post.calmed (post_after_step (post.armed q) m)) (ap (λ z. post.calmed (stage_post (post.armed z) m m.stage)) s.post ∙ failed_post p h m q.faults m.stage);
      user = s.user;
      watches = s.watches;
    })
