-- What a step of each function makes, and its fault.
use Rattle.std.proofs.Common.{◌≡◌, ℕ, ◌⊎◌, inl, inr, false, cond, List, ◌∷◌, refl, sym, ◌∙◌, ap, subst, arith, Some, None}
use Rattle.std.proofs.lemmas.Option.{same_Some}
use Rattle.fk_print.specs.declared.entry.Entry.{Entry}
use Rattle.fk_print.specs.declared.event.Event.TheVariants as event
use Rattle.fk_print.specs.declared.op.Op.{Op}
use Rattle.fk_print.specs.declared.op.Op.TheVariants as op
use Rattle.fk_queue.specs.Meaning as post
use Rattle.fk_store.specs.Meaning as table
use Rattle.fk_user.specs.Meaning as user
use Rattle.fk_watch.specs.Meaning as watches
use Rattle.fk_watch.specs.Meaning.{Watches}
use Rattle.fk_stand.specs.Stores.{store_after, watches_after}
use Rattle.fk_spec.specs.Leader as leadstage
use Rattle.fk_watch.specs.Services.{Services}
use Rattle.fk_follow.specs.Meaning as follower
use Rattle.fk_lead.specs.Meaning as leader
use Rattle.fk_watch.specs.Beating as beat
use Rattle.fk_watch.specs.Telling as teller
use Rattle.fk_stand.specs.Standing.{Standing}
use Rattle.fk_stand.specs.Posts.{post_after}
use Rattle.fk_stand.specs.Tables.{table_after}
use Rattle.fk_spec.specs.Plan.{Plan}
use Rattle.fk_spec.specs.Start.{clock_of}
use Rattle.fk_spec.specs.Function.{Beating, Leading, Telling, actor, fault_op, function_op, place_of}
use Rattle.fk_spec.specs.Next.{IsHistory, next_entry, next_lines}
use Rattle.fk_law.specs.Due.{IsDue}
use Rattle.fk_law.proofs.Due.{due}
use Rattle.fk_agree.specs.Ends.{HasEnded}
use Rattle.fk_agree.specs.Sending.{Sends}
use Rattle.fk_engine.specs.declared.times.Times.{Times}
use Rattle.fk_engine.specs.Flights.{unless_ended}
use Rattle.fk_engine.specs.Machines as machine
use Rattle.fk_engine.specs.Machines.{Follower, Leader, Teller, Beat, after_step, is_ended, lines_by, services_after, step_op}
use Rattle.fk_engine.specs.Reads.{Read}
use Rattle.fk_engine.specs.Serving.{armed, calmed}
use Rattle.fk_agree.proofs.Serving.{IsOf}
use Rattle.fk_agree_follow.specs.Followers.{IsFollower}
use Rattle.fk_agree_follow.proofs.Going.{follower_ends_by_fault, follower_goes_on}
use Rattle.fk_agree_follow.proofs.Making.{Made, made_by, stage_makes}
use Rattle.fk_agree_follow.proofs.Operating.{calm_follower, follower_fails, follower_makes_its_operation}
use Rattle.fk_agree_follow.proofs.Writing.{follower_fault_is_written, follower_is_written}
use Rattle.fk_agree_lead.specs.Leaders.{IsLeader, printed_at}
use Rattle.fk_agree_lead.proofs.Going.{all_of, leader_ends_at_its_fault, leader_goes_on}
use Rattle.fk_agree_lead.proofs.Making.{calm_leader, leader_fails, leader_makes_its_operation, may}
use Rattle.fk_agree_lead.proofs.Written.{leader_fault_is_written, leader_is_written, leader_prints_its_lines}
use Rattle.fk_agree_notify.specs.Beats.{IsBeat}
use Rattle.fk_agree_notify.specs.Tellers.{IsTeller}
use Rattle.fk_agree_notify.proofs.BeatServices.{beat_fault_is_written, beat_is_written}
use Rattle.fk_agree_notify.proofs.Beating.{beat_acts, beat_fails, beat_goes_on, beat_makes_its_operation}
use Rattle.fk_agree_notify.proofs.TellerServices.{teller_fault_is_written, teller_is_written}
use Rattle.fk_agree_notify.proofs.Telling.{teller_acts, teller_fails, teller_goes_on, teller_makes_its_operation}
use Rattle.fk_agree_engine.specs.World.{StandsAs}
use Rattle.fk_agree_engine.proofs.Moves.{PublishesNothing, prints_nothing}
use Rattle.fk_agree_engine.proofs.Sends.{beat_sends, follower_sends, leader_sends, teller_sends}

-- the times of a history
abbrev pub times_of : Plan → List Entry → Times
times_of p h = record { clock = clock_of h; lock = p.lock; beat = p.beat }

-- What function n makes of services that stand as a history says.
pub record Steps (p : Plan) (n : ℕ) (h : List Entry) (s : Services) (r : Read) (m : machine.Meaning) : Type 0 where
  pub rule : step_op s (times_of p h) r m ≡ function_op p h n (place_of p n h)
  pub own : actor (step_op s (times_of p h) r m) ≡ Some n
  pub lines : lines_by (step_op s (times_of p h) r m) m ≡ next_lines p h (step_op s (times_of p h) r m)
  pub stands : (e : Entry) → IsHistory p (e ∷ h) → e.op ≡ step_op s (times_of p h) r m → StandsAs p n (e ∷ h) (unless_ended (after_step s (times_of p h) r m))
  pub serves : (e : Entry) → IsHistory p (e ∷ h) → e.op ≡ step_op s (times_of p h) r m → let z = services_after s (times_of p h) m in Standing p (e ∷ h) z.table z.post z.user z.watches
  pub sends : machine.IsReadable (times_of p h) m → Sends p h (step_op s (times_of p h) r m)

-- What its fault leaves.
pub record Faults (p : Plan) (n : ℕ) (h : List Entry) (s : Services) (r : Read) (m : machine.Meaning) : Type 0 where
  pub rule : step_op (armed s) (times_of p h) r m ≡ fault_op n (place_of p n h)
  pub stands : (e : Entry) → IsHistory p (e ∷ h) → e.op ≡ step_op (armed s) (times_of p h) r m → StandsAs p n (e ∷ h) (unless_ended (after_step (armed s) (times_of p h) r m))
  pub serves : (e : Entry) → IsHistory p (e ∷ h) → e.op ≡ step_op (armed s) (times_of p h) r m → let z = calmed (services_after (armed s) (times_of p h) m) in Standing p (e ∷ h) z.table z.post z.user z.watches

-- where its machine goes on it stands, and where it has ended nothing does
going : (p : Plan) (n : ℕ) (g : List Entry) (m : machine.Meaning) → StandsAs p n g (Some m) → is_ended m ≡ false → StandsAs p n g (unless_ended m)
going p n g m s e = subst (StandsAs p n g) (sym (ap (λ b. cond b None (Some m)) e)) s

ended : (p : Plan) (n : ℕ) (g : List Entry) (m : machine.Meaning) → HasEnded p n g (is_ended m) → StandsAs p n g (unless_ended m)
ended p n g m x = subst (StandsAs p n g) (sym (ap (λ b. cond b None (Some m)) x.is_so)) x.absent

-- what the rules say of the operation of function n, where it is the next
is_due : (p : Plan) (n : ℕ) (h : List Entry) → IsHistory p h → IsDue p h (function_op p h n (place_of p n h))
is_due p n h l = due p (next_entry p h (event.Step n)) h (l, (refl, refl))

-- services that a fault left alone, and that were armed for it, are calm again
calm_store : (p : Plan) (g : List Entry) (u : user.Meaning) → u ≡ store_after p g u.faults → user.calmed (user.armed u) ≡ store_after p g (user.calmed (user.armed u)).faults
calm_store p g u s = ap (λ z. user.calmed (user.armed z)) s

calm_watches : (p : Plan) (g : List Entry) (w : Watches) → w ≡ watches_after p g w.faults → watches.calmed (watches.armed w) ≡ watches_after p g (watches.calmed (watches.armed w)).faults
calm_watches p g w s = ap (λ z. watches.calmed (watches.armed z)) s

calm_table : (p : Plan) (g : List Entry) (t : table.Meaning) → t ≡ table_after p g t.faults → table.calmed (table.armed t) ≡ table_after p g (table.calmed (table.armed t)).faults
calm_table p g t s = ap (λ z. table.calmed (table.armed z)) s

calm_rest : (p : Plan) (g : List Entry) (u : user.Meaning) (w : Watches) (t : table.Meaning) (q : post.Meaning) → Standing p g t q u w → Standing p g t q (user.calmed (user.armed u)) (watches.calmed (watches.armed w))
calm_rest p g u w t q s = record { table = s.table; post = s.post; user = calm_store p g u s.user; watches = calm_watches p g w s.watches }

calm_both : (p : Plan) (g : List Entry) (t : table.Meaning) (u : user.Meaning) (q : post.Meaning) (w : Watches) → Standing p g t q u w → Standing p g (table.calmed (table.armed t)) q (user.calmed (user.armed u)) w
calm_both p g t u q w s = record { table = calm_table p g t s.table; post = s.post; user = calm_store p g u s.user; watches = s.watches }

-- The follower. ------------------------------------------------------------------------------------------

follower_or : (p : Plan) (n : ℕ) (g : List Entry) (m : follower.Meaning) → IsFollower p n g m ⊎ HasEnded p n g (follower.is_ended m) → StandsAs p n g (unless_ended (Follower m))
follower_or p n g m (inl i) = going p n g (Follower m) i i.going
follower_or p n g m (inr x) = ended p n g (Follower m) x

follower_prints : (p : Plan) (h : List Entry) (n : ℕ) (o : Op) → Made n o → PublishesNothing o
follower_prints p h n (op.PublishOk k t) i = absurd i
follower_prints p h n o i = tt

pub follower_steps : (p : Plan) (n : ℕ) (h : List Entry) (s : Services) (r : Read) (m : follower.Meaning) → IsHistory p h → Standing p h s.table s.post s.user s.watches → IsFollower p n h m → machine.IsReadAt s r (Follower m) → Steps p n h s r (Follower m)
follower_steps p n h s r m l a i d = record {
  rule = rule;
  own = own;
  lines = sym (prints_nothing p h o n own (follower_prints p h n o made));
  stands = λ e k g. follower_or p n (e ∷ h) _ (follower_goes_on p n e h m s.table s.post s.user s.watches r.owned k a i d g);
  serves = λ e k g. follower_is_written p n e h m s.table s.post s.user s.watches r.owned k a i d g;
  sends = λ z. follower_sends p n h m o l i z own (subst (IsDue p h) (sym rule) (is_due p n h l));
}
  where
    o : Op
    o = step_op s (times_of p h) r (Follower m)

    rule : o ≡ function_op p h n (place_of p n h)
    rule = follower_makes_its_operation p n h m s.table s.post s.user s.watches r.owned l a i d

    made : Made n o
    made = subst (λ z. Made z o) i.inv (subst (Made m.inv) (sym (calm_follower p h s.table s.post (clock_of h) p.lock r.owned m a.table a.post)) (stage_makes (table_after p h s.table.faults) (post_after p h s.post.faults) (clock_of h) p.lock r.owned m.inv m.follower m.follower.stage i.going))

    own : actor o ≡ Some n
    own = made_by n o made

pub follower_faults : (p : Plan) (n : ℕ) (h : List Entry) (s : Services) (r : Read) (m : follower.Meaning) → Standing p h s.table s.post s.user s.watches → IsFollower p n h m → Faults p n h s r (Follower m)
follower_faults p n h s r m a i = record {
  rule = follower_fails p n (clock_of h) p.lock h m s.table s.post r.owned i;
  stands = λ e k g. ended p n (e ∷ h) (after_step (armed s) (times_of p h) r (Follower m)) (follower_ends_by_fault p n (clock_of h) p.lock e h m s.table s.post r.owned i g);
  serves = λ e k g. calm_rest p (e ∷ h) s.user s.watches _ _ (follower_fault_is_written p n e h m s.table s.post s.user s.watches r.owned k a i g);
}

-- The leader. --------------------------------------------------------------------------------------------

leader_or : (p : Plan) (n : ℕ) (g : List Entry) (m : leader.Meaning) → IsLeader p n g m ⊎ HasEnded p n g (leader.is_ended m) → StandsAs p n g (unless_ended (Leader m))
leader_or p n g m (inl i) = going p n g (Leader m) i i.going
leader_or p n g m (inr x) = ended p n g (Leader m) x

pub leader_steps : (p : Plan) (n : ℕ) (h : List Entry) (s : Services) (r : Read) (m : leader.Meaning) → IsHistory p h → Standing p h s.table s.post s.user s.watches → IsLeader p n h m → machine.IsReadAt s r (Leader m) → Steps p n h s r (Leader m)
leader_steps p n h s r m l a i d = record {
  rule = rule;
  own = own;
  lines = leader_lines m o ∙ sym (leader_prints_its_lines p n h m s.table s.post s.user s.watches r.swept l a i);
  stands = λ e k g. leader_or p n (e ∷ h) _ (leader_goes_on p n e h m s.table s.post s.user s.watches r.swept k a i d g);
  serves = λ e k g. leader_is_written p n e h m s.table s.post s.user s.watches r.swept k a i g;
  sends = λ z. leader_sends p n h m o l i z own (subst (IsDue p h) (sym rule) (is_due p n h l));
}
  where
    o : Op
    o = step_op s (times_of p h) r (Leader m)

    rule : o ≡ function_op p h n (place_of p n h)
    rule = leader_makes_its_operation p n h m s.table s.post s.user s.watches r.swept l a i d

    own : actor o ≡ Some n
    own = ap actor (calm_leader p h s.table s.post s.user s.watches r.swept m a) ∙ (may (IsOf m.inv) s.table s.post s.watches s.user r.swept m m.stage (all_of m m.stage i.going) ∙ ap Some i.inv)

    leader_lines : (m : leader.Meaning) (o : Op) → lines_by o (Leader m) ≡ printed_at m o
    leader_lines m (op.PublishOk k t) = refl
    leader_lines m o = refl

pub leader_faults : (p : Plan) (n : ℕ) (h : List Entry) (s : Services) (r : Read) (m : leader.Meaning) → Standing p h s.table s.post s.user s.watches → IsLeader p n h m → Faults p n h s r (Leader m)
leader_faults p n h s r m a i = record {
  rule = leader_fails p n h m s.table s.post s.user s.watches r.swept i;
  stands = λ e k g. ended p n (e ∷ h) (after_step (armed s) (times_of p h) r (Leader m)) (leader_ends_at_its_fault p n e h m s.table s.post s.user s.watches r.swept i g);
  serves = λ e k g. leader_fault_is_written p n e h m s.table s.post s.user s.watches r.swept k a i g;
}

-- The watch function. ------------------------------------------------------------------------------------

teller_or : (p : Plan) (n : ℕ) (g : List Entry) (m : teller.Meaning) → IsTeller p n g m ⊎ HasEnded p n g (teller.is_ended m) → StandsAs p n g (unless_ended (Teller m))
teller_or p n g m (inl i) = going p n g (Teller m) i i.going
teller_or p n g m (inr x) = ended p n g (Teller m) x

-- what a watch function and a heartbeat make publishes nothing
teller_prints : (p : Plan) (h : List Entry) (o : Op) (n : ℕ) (m : teller.Meaning) → IsTeller p n h m → actor o ≡ Some n → IsDue p h o → PublishesNothing o
teller_prints p h (op.PublishOk k t) n m i a d = apart (sym d.0 ∙ (ap (λ z. place_of p z h) (same_Some k n a) ∙ i.stands))
  where
    apart : Leading t leadstage.Publish ≡ Telling m.number m.tx m.stage → ⊥
    apart e = grind arith
teller_prints p h o n m i a d = tt

pub teller_steps : (p : Plan) (n : ℕ) (h : List Entry) (s : Services) (r : Read) (m : teller.Meaning) → IsHistory p h → Standing p h s.table s.post s.user s.watches → IsTeller p n h m → Steps p n h s r (Teller m)
teller_steps p n h s r m l a i = record {
  rule = rule;
  own = own;
  lines = sym (prints_nothing p h o n own (teller_prints p h o n m i own dues));
  stands = λ e k g. teller_or p n (e ∷ h) _ (teller_goes_on p n e h m s.post s.watches i g);
  serves = λ e k g. teller_is_written p n e h m s.table s.post s.user s.watches k a i g;
  sends = λ z. teller_sends p n h m o l i z own dues;
}
  where
    o : Op
    o = step_op s (times_of p h) r (Teller m)

    rule : o ≡ function_op p h n (place_of p n h)
    rule = teller_makes_its_operation p n h m s.table s.post s.user s.watches l a i

    own : actor o ≡ Some n
    own = teller_acts s.post s.watches m i.going ∙ ap Some i.inv

    dues : IsDue p h o
    dues = subst (IsDue p h) (sym rule) (is_due p n h l)

pub teller_faults : (p : Plan) (n : ℕ) (h : List Entry) (s : Services) (r : Read) (m : teller.Meaning) → Standing p h s.table s.post s.user s.watches → IsTeller p n h m → Faults p n h s r (Teller m)
teller_faults p n h s r m a i = record {
  rule = teller_fails p n h m s.post s.watches i;
  stands = λ e k g. teller_or p n (e ∷ h) _ (teller_goes_on p n e h m (post.armed s.post) (watches.armed s.watches) i g);
  serves = λ e k g. calm_both p (e ∷ h) s.table s.user _ _ (teller_fault_is_written p n e h m s.table s.post s.user s.watches k a i g);
}

-- The heartbeat. -----------------------------------------------------------------------------------------

beat_or : (p : Plan) (n : ℕ) (g : List Entry) (m : beat.Meaning) → IsBeat p n g m ⊎ HasEnded p n g (beat.is_ended m) → StandsAs p n g (unless_ended (Beat m))
beat_or p n g m (inl i) = going p n g (Beat m) i i.going
beat_or p n g m (inr x) = ended p n g (Beat m) x

beat_prints : (p : Plan) (h : List Entry) (o : Op) (n : ℕ) (m : beat.Meaning) → IsBeat p n h m → actor o ≡ Some n → IsDue p h o → PublishesNothing o
beat_prints p h (op.PublishOk k t) n m i a d = apart (sym d.0 ∙ (ap (λ z. place_of p z h) (same_Some k n a) ∙ i.stands))
  where
    apart : Leading t leadstage.Publish ≡ Beating m.session m.stage → ⊥
    apart e = grind arith
beat_prints p h o n m i a d = tt

pub beat_steps : (p : Plan) (n : ℕ) (h : List Entry) (s : Services) (r : Read) (m : beat.Meaning) → IsHistory p h → Standing p h s.table s.post s.user s.watches → IsBeat p n h m → Steps p n h s r (Beat m)
beat_steps p n h s r m l a i = record {
  rule = rule;
  own = own;
  lines = sym (prints_nothing p h o n own (beat_prints p h o n m i own dues));
  stands = λ e k g. beat_or p n (e ∷ h) _ (beat_goes_on p n (clock_of h) p.beat e h m s.table s.post i g);
  serves = λ e k g. beat_is_written p n e h m s.table s.post s.user s.watches k a i g;
  sends = λ z. beat_sends p n h m o l i z own dues;
}
  where
    o : Op
    o = step_op s (times_of p h) r (Beat m)

    rule : o ≡ function_op p h n (place_of p n h)
    rule = beat_makes_its_operation p n h m s.table s.post s.user s.watches l a i

    own : actor o ≡ Some n
    own = beat_acts s.table s.post (clock_of h) p.beat m i.going ∙ ap Some i.inv

    dues : IsDue p h o
    dues = subst (IsDue p h) (sym rule) (is_due p n h l)

pub beat_faults : (p : Plan) (n : ℕ) (h : List Entry) (s : Services) (r : Read) (m : beat.Meaning) → Standing p h s.table s.post s.user s.watches → IsBeat p n h m → Faults p n h s r (Beat m)
beat_faults p n h s r m a i = record {
  rule = beat_fails p n (clock_of h) p.beat h m s.table s.post i;
  stands = λ e k g. beat_or p n (e ∷ h) _ (beat_goes_on p n (clock_of h) p.beat e h m (table.armed s.table) (post.armed s.post) i g);
  serves = λ e k g. calm_rest p (e ∷ h) s.user s.watches _ _ (beat_fault_is_written p n e h m s.table s.post s.user s.watches k a i g);
}
