-- A watch function starts, makes its operation, goes on, and has what it needs.
use Rattle.std.specs.Prelude.{◌-◌, ◌<◌, ◌≤◌, ◌^◌, if◌then◌else◌, map, is_some}
use Rattle.std.proofs.Common.{◌≡◌, ℕ, inl, inr, ◌⊎◌, Bool, true, false, List, [], ◌∷◌, length, refl, sym, ◌∙◌, ap, subst, arith, Some}
use Rattle.std.proofs.lemmas.Bool.{false≢true}
use Rattle.fk_print.specs.declared.entry.Entry.{Entry}
use Rattle.fk_print.specs.declared.op.Op.TheVariants as op
use Rattle.fk_queue.specs.Letters.{head_bytes, head_number}
use Rattle.fk_queue.specs.Lanes.{is_session}
use Rattle.fk_queue.specs.Meaning as post
use Rattle.fk_queue.specs.declared.lane.Lane.TheVariants as lane
use Rattle.fk_watch.specs.Meaning as watches
use Rattle.fk_watch.specs.Notes.{fired_as, firings_as}
use Rattle.fk_watch.specs.Telling.{Meaning, calm_op, going_to, is_armed, is_end, is_ended, started, step_op}
use Rattle.fk_watch.specs.TellingFit.{CanTell, IsFit}
use Rattle.fk_base.specs.Limits.{IsNumber}
use Rattle.fk_wire.specs.NoteText.{OneNote}
use Rattle.fk_wire.specs.declared.version.Version.TheVariants as version
use Rattle.fk_wire.proofs.NoteBack.{notes}
use Rattle.fk_wire.proofs.Texts.{one_message}
use Rattle.fk_stand.specs.Posts.{lane_after, post_after}
use Rattle.fk_spec.specs.Plan.{Plan, is_client}
use Rattle.fk_spec.specs.Start.{Notifies, started_in}
use Rattle.fk_spec.specs.Settling.{mark_of}
use Rattle.fk_spec.specs.Failing.{or_fault}
use Rattle.fk_spec.specs.Follower.{ack_op, is_number}
use Rattle.fk_spec.specs.Function.{Telling, actor, fault_op, function_op, is_absent, place_of, tell_on, telling, teller_word, moved}
use Rattle.fk_spec.specs.Lanes.{watch_head}
use Rattle.fk_spec.specs.Teller as teller
use Rattle.fk_spec.specs.Teller.{Stage, next_teller, note_of, teller_op, to_tell}
use Rattle.fk_spec.specs.Watches.{Firing, firing_of}
use Rattle.fk_spec.specs.Next.{IsHistory}
use Rattle.fk_watch.proofs.TellingSteps.{going as begins_going}
use Rattle.fk_law.specs.Due.{IsDue}
use Rattle.fk_law.proofs.Due.{due}
use Rattle.fk_law.proofs.Starting.{others_leave_it, own_operation_moves_it, start_places_it}
use Rattle.fk_law_watch.proofs.Noting.{IsNoteOf, OnTeller, note_published, teller_note}
use Rattle.fk_law_watch.proofs.SetWatches.{given_are_bounded, set_or_fired_were_given}
use Rattle.fk_agree.specs.Heads.{IsTextOfNote, note_as}
use Rattle.fk_agree.proofs.Counting.{heads_are_the_rules}
use Rattle.fk_agree.proofs.Heading.{watch_head_is_its_note}
use Rattle.fk_agree.proofs.Serving.{lane_is}
use Rattle.fk_agree.specs.Ends.{HasEnded}
use Rattle.fk_agree_notify.specs.Tellers.{IsTeller, OthersLeaveTellers, TellerFails, TellerGoesOn, TellerIsFit, TellerMakesItsOperation, TellerStarts}
use Rattle.fk_agree.proofs.Bounds.{is_number as is_limited, lane_low, mark_low}
use Rattle.fk_agree_notify.proofs.Fired.{AllFired, StageFired, fired_of_client, fired_where_it_stands, note_all}
use Rattle.fk_base.proofs.Logic.{by_test}

-- Its operation. ----------------------------------------------------------------------------------------

calm_stage : (q : post.Meaning) (w : watches.Watches) (m : Meaning) (x : Stage) → q.armed ≡ false → w.armed ≡ false → or_fault (is_armed q w x) m.inv (teller_word x) (calm_op q m x) ≡ calm_op q m x
calm_stage q w m (teller.Tell f fs) a b = rw a refl
calm_stage q w m teller.Told a b = rw b refl
calm_stage q w m teller.Ack a b = rw a refl
calm_stage q w m teller.Ended a b = refl

-- where the services are calm
pub calm_step : (p : Plan) (h : List Entry) (q : post.Meaning) (w : watches.Watches) (m : Meaning) → q.armed ≡ false → w.armed ≡ false → step_op q w m ≡ calm_op q m m.stage
calm_step p h q w m a b = calm_stage q w m m.stage a b

rule_stage : (h : List Entry) (n : ℕ) (q : post.Meaning) (m : Meaning) (x : Stage) → m.inv ≡ n → head_number (q.lanes lane.Watch) ≡ watch_head h → calm_op q m x ≡ teller_op h n m.number m.tx x
rule_stage h n q m (teller.Tell f fs) e g = ap (λ z. op.Tell z f.watch.session f.watch.id) e
rule_stage h n q m teller.Told e g = ap (λ z. op.Told z m.tx) e
rule_stage h n q m teller.Ack e g = ap (λ z. ack_op z m.number (head_number (q.lanes lane.Watch))) e ∙ ap (ack_op n m.number) g
rule_stage h n q m teller.Ended e g = refl

pub teller_makes_its_operation : TellerMakesItsOperation
teller_makes_its_operation p n h m t q u w l s i =
    calm_step p h q w m (ap (λ z. z.armed) s.post) (ap (λ z. z.armed) s.watches)
    ∙ (rule_stage h n q m m.stage i.inv (ap head_number (lane_is p h q lane.Watch s.post refl) ∙ (heads_are_the_rules p h l).2) ∙ sym (ap (function_op p h n) i.stands))

fail_stage : (q : post.Meaning) (w : watches.Watches) (m : Meaning) (x : Stage) → is_end x ≡ false → or_fault (is_armed (post.armed q) (watches.armed w) x) m.inv (teller_word x) (calm_op (post.armed q) m x) ≡ op.Fault m.inv (teller_word x)
fail_stage q w m (teller.Tell f fs) e = refl
fail_stage q w m teller.Told e = refl
fail_stage q w m teller.Ack e = refl
fail_stage q w m teller.Ended e = absurd (false≢true (sym e))

pub teller_faults : (q : post.Meaning) (w : watches.Watches) (m : Meaning) → is_ended m ≡ false → step_op (post.armed q) (watches.armed w) m ≡ op.Fault m.inv (teller_word m.stage)
teller_faults q w m e = fail_stage q w m m.stage e

pub teller_fails : TellerFails
teller_fails p n h m q w i = teller_faults q w m i.going ∙ (ap (λ z. op.Fault z (teller_word m.stage)) i.inv ∙ sym (ap (fault_op n) i.stands))

-- It goes on. -------------------------------------------------------------------------------------------

actor_stage : (q : post.Meaning) (w : watches.Watches) (m : Meaning) (x : Stage) → is_end x ≡ false → actor (or_fault (is_armed q w x) m.inv (teller_word x) (calm_op q m x)) ≡ Some m.inv
actor_stage q w m (teller.Tell f fs) e = by_test q.armed (λ b. actor (or_fault b m.inv (teller_word (teller.Tell f fs)) (op.Tell m.inv f.watch.session f.watch.id)) ≡ Some m.inv) (λ _. refl) (λ _. refl)
actor_stage q w m teller.Told e = by_test w.armed (λ b. actor (or_fault b m.inv (teller_word teller.Told) (op.Told m.inv m.tx)) ≡ Some m.inv) (λ _. refl) (λ _. refl)
actor_stage q w m teller.Ack e = by_test q.armed (λ b. actor (or_fault b m.inv (teller_word teller.Ack) (ack_op m.inv m.number (head_number (q.lanes lane.Watch)))) ≡ Some m.inv) (λ _. refl) (λ _. by_head (is_number m.number (head_number (q.lanes lane.Watch))))
  where
    by_head : (b : Bool) → actor (if b then op.AckOk m.inv else op.AckGone m.inv) ≡ Some m.inv
    by_head true = refl
    by_head false = refl
actor_stage q w m teller.Ended e = absurd (false≢true (sym e))

-- its operation is its own
pub teller_acts : (q : post.Meaning) (w : watches.Watches) (m : Meaning) → is_ended m ≡ false → actor (step_op q w m) ≡ Some m.inv
teller_acts q w m e = actor_stage q w m m.stage e

after_place : (p : Plan) (n : ℕ) (g : List Entry) (m : Meaning) (x : Stage) → m.inv ≡ n → place_of p n g ≡ tell_on m.number m.tx x → IsTeller p n g (going_to x m) ⊎ HasEnded p n g (is_ended (going_to x m))
after_place p n g m (teller.Tell f fs) e a = inl (record { inv = e; going = refl; stands = a })
after_place p n g m teller.Told e a = inl (record { inv = e; going = refl; stands = a })
after_place p n g m teller.Ack e a = inl (record { inv = e; going = refl; stands = a })
after_place p n g m teller.Ended e a = inr (record { is_so = refl; absent = a })

pub teller_goes_on : TellerGoesOn
teller_goes_on p n e h m q w i g = after_place p n (e ∷ h) m (next_teller (step_op q w m) m.stage) i.inv (own_operation_moves_it p n e h its ∙ (ap (moved p h e.op) i.stands ∙ ap (λ o. tell_on m.number m.tx (next_teller o m.stage)) g))
  where
    its : actor e.op ≡ Some n
    its = ap actor g ∙ (teller_acts q w m i.going ∙ ap Some i.inv)

pub others_leave_tellers : OthersLeaveTellers
others_leave_tellers p n e h m l i other = record { inv = i.inv; going = i.going; stands = others_leave_it p n e h l (ap is_absent i.stands) other ∙ i.stands }

-- It starts. --------------------------------------------------------------------------------------------

one_note : OneNote
one_note = one_message notes

-- a message lists the watches of a note as they fired
listed_back : (p : Plan) (h : List Entry) (t : ℕ) (fs : List Firing) → AllFired p h t fs → firings_as t (map fired_as fs) ≡ fs
listed_back p h t [] i = refl
listed_back p h t (f ∷ fs) i = λ j. record { watch = f.watch; tx = (sym i.0.1) j; change = f.change } ∷ (listed_back p h t fs i.1) j

starts_on : (p : Plan) (n w : ℕ) (e : Entry) (h : List Entry) (y : teller.Note) → IsHistory p (e ∷ h) → e.op ≡ op.Teller n w → note_of p w h ≡ Some y → IsTeller p n (e ∷ h) (started n w (note_as y))
starts_on p n w e h y l g a = record {
  inv = refl;
  going = begins_going (firings_as y.tx (map fired_as y.fired));
  stands =
      start_places_it p e h (record { function = n; task = Notifies w }) (ap started_in g)
      ∙ (ap (telling w) a ∙ ap (λ fs. Telling w y.tx (to_tell fs)) (sym (listed_back p h y.tx y.fired (note_all p w h y l.0 a))));
}

pub teller_starts : TellerStarts
teller_starts p n w e h x l g r a = subst (λ z. IsTeller p n (e ∷ h) (started n w z)) (sym same) (starts_on p n w e h head.note l g head.noted)
  where
    d : IsDue p h (op.Teller n w)
    d = subst (IsDue p h) g (due p e h l)

    head : IsTextOfNote p w h (head_bytes (lane_after p lane.Watch h))
    head = watch_head_is_its_note p w h l.0 d.1

    same : x ≡ note_as head.note
    same = one_note (head_bytes (lane_after p lane.Watch h)) x (note_as head.note) a (r head.note head.noted, (version.Two, tt, head.text))

-- What it needs. ----------------------------------------------------------------------------------------

tx_low : (p : Plan) (n : ℕ) (h : List Entry) (m : Meaning) → IsHistory p h → length h < 2 ^ 62 → IsTeller p n h m → IsNumber m.tx
tx_low p n h m l b i =
    let x = subst (OnTeller (λ w t s. IsNoteOf p h w t)) i.stands (teller_note p n h l) in
    let y = subst (λ t. t ≤ mark_of h) x.2 (note_published p m.number h x.0 l x.1).published in
    let z = mark_low p h l in
    is_limited m.tx (length h) b (omega (arith, y, z))

can_tell : (p : Plan) (h : List Entry) (q : post.Meaning) (f : Firing) → IsHistory p h → length h < 2 ^ 62 → q ≡ post_after p h q.faults → firing_of p f.watch.id h ≡ Some f → CanTell q f
can_tell p h q f l b s a = record {
  id = (let x = set_or_fired_were_given p f.watch.id h l (inr (ap is_some a)) in let y = given_are_bounded p h l in is_limited f.watch.id (length h) b (omega (arith, x.1, y)));
  session = ap (λ z. is_session z.sessions f.watch.session) s ∙ client;
  inbox = subst (λ x. x.given < 2 ^ 63 - 1) (sym (lane_is p h q (lane.Inbox f.watch.session) s client)) (lane_low p (lane.Inbox f.watch.session) h b);
}
  where
    client : is_client p f.watch.session ≡ true
    client = fired_of_client p f.watch.id h f l a

armed_fit : (q : post.Meaning) (m : Meaning) → IsFit q m → IsFit (post.armed q) m
armed_fit q m f = record {
  going = f.going;
  tx = f.tx;
  next = λ a b c. (let k = f.next a b c in record { id = k.id; session = k.session; inbox = k.inbox });
}

pub teller_is_fit : TellerIsFit
teller_is_fit p n h m t q u w l b s i = (fit, armed_fit q m fit)
  where
    fit : IsFit q m
    fit = record {
      going = i.going;
      tx = tx_low p n h m l b i;
      next = λ f fs e. can_tell p h q f l b s.post (subst (StageFired p h m.tx) e (fired_where_it_stands p n m.number m.tx m.stage h l i.stands)).0.0;
    }
