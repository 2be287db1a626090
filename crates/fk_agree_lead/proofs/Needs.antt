-- What a leader's operation needs holds.
use Rattle.std.specs.Prelude.{◌==◌, ◌||◌, ◌-◌, ◌<◌, ◌≤◌, ◌^◌, is_some, map}
use Rattle.std.proofs.Common.{◌≡◌, ℕ, Bool, true, false, List, [], ◌∷◌, length, refl, sym, ◌∙◌, ap, subst, arith}
use Rattle.fk_print.specs.declared.entry.Entry.{Entry}
use Rattle.fk_queue.specs.Lanes.{is_session}
use Rattle.fk_queue.specs.Meaning as post
use Rattle.fk_queue.specs.declared.lane.Lane.TheVariants as lane
use Rattle.fk_store.specs.Meaning as table
use Rattle.fk_user.specs.Meaning as user
use Rattle.fk_watch.specs.Meaning as watches
use Rattle.fk_watch.specs.Notes.{fired_as}
use Rattle.fk_wire.specs.Fired.{AreLimitedFired}
use Rattle.fk_lead.specs.Fit.{HasSession, IsFit, IsLimited}
use Rattle.fk_lead.specs.Meaning.{Meaning}
use Rattle.fk_stand.specs.Standing.{Standing}
use Rattle.fk_spec.specs.Plan.{Plan}
use Rattle.fk_spec.specs.Watches.{Firing, given_of, ids_of, swept_by}
use Rattle.fk_spec.specs.Client.{contains}
use Rattle.fk_spec.specs.Next.{IsHistory}
use Rattle.fk_law.proofs.Leading.{leader_at_or_below_the_head}
use Rattle.fk_law.proofs.Settled.{reached}
use Rattle.fk_law_watch.proofs.Counting.{pushes_are_bounded, sends_are_bounded}
use Rattle.fk_law_watch.proofs.SetWatches.{given_are_bounded}
use Rattle.fk_agree.proofs.Bounds.{is_number as is_limited, lane_low}
use Rattle.fk_agree.proofs.Serving.{lane_is, session_there}
use Rattle.fk_agree_lead.specs.Leaders.{IsLeader, LeaderIsFit}
use Rattle.fk_agree_lead.proofs.Given.{in_hand_was_given}
use Rattle.fk_agree_lead.proofs.Pushed.{HasPush, its_push, lead_task}
use Rattle.fk_base.proofs.Logic.{itself}

-- the numbers of these watches are within the limits of messages
fired_limited : (g l : ℕ) (fs : List Firing) → l < 2 ^ 62 → g ≤ l → ((id : ℕ) → contains id (ids_of fs) ≡ true → id ≤ g) → AreLimitedFired (map fired_as fs)
fired_limited g l [] b c a = tt
fired_limited g l (f ∷ fs) b c a = (let x = a f.watch.id (ap (λ z. z || contains f.watch.id (ids_of fs)) (itself f.watch.id)) in is_limited f.watch.id l b (omega (arith, c, x)), fired_limited g l fs b c (λ id e. a id (later (f.watch.id == id) (contains id (ids_of fs)) e)))
  where
    later : (x y : Bool) → y ≡ true → (x || y) ≡ true
    later true y e = refl
    later false y e = e

-- its numbers are within the limits of messages
limited : (p : Plan) (n : ℕ) (h : List Entry) (m : Meaning) → IsHistory p h → length h < 2 ^ 62 → IsLeader p n h m → HasPush p h m → IsLimited m
limited p n h m l b i x = record {
  tx = (let a = (leader_at_or_below_the_head p n m.tx h l (lead_task p n h m l i)).2 in let c = pushes_are_bounded h in is_limited m.tx (length h) b (omega (arith, a, c)));
  k = (let a = (reached p x.holder x.session x.k h l x.is_of.task).2 in let c = sends_are_bounded x.session h in let d = x.tells.number in is_limited m.message.k (length h) b (omega (arith, a, c, d)));
  fired = subst (λ z. AreLimitedFired z.fired) (sym i.swept) (fired_limited (given_of h) (length h) (swept_by p n h).fired b (given_are_bounded p h l) (λ id e. in_hand_was_given p n id h l e));
}

-- its push's session is there, and the lanes can be given one more
has_session : (p : Plan) (h : List Entry) (t : table.Meaning) (q : post.Meaning) (u : user.Meaning) (w : watches.Watches) (m : Meaning) → length h < 2 ^ 62 → Standing p h t q u w → (x : HasPush p h m) → HasSession t q x.session
has_session p h t q u w m b s x = record {
  table = ap is_some (session_there p x.session h t s.table x.client);
  post = ap (λ z. is_session z.sessions x.session) s.post ∙ x.client;
  notes = subst (λ z. z.given < 2 ^ 63 - 1) (sym (lane_is p h q lane.Watch s.post refl)) (lane_low p lane.Watch h b);
  inbox = subst (λ z. z.given < 2 ^ 63 - 1) (sym (lane_is p h q (lane.Inbox x.session) s.post x.client)) (lane_low p (lane.Inbox x.session) h b);
}

-- so it is where the services fail
armed_fit : (t : table.Meaning) (q : post.Meaning) (m : Meaning) → IsFit t q m → IsFit (table.armed t) (post.armed q) m
armed_fit t q m f = record {
  going = f.going;
  first = f.first;
  session = record { table = f.session.table; post = f.session.post; notes = f.session.notes; inbox = f.session.inbox };
  limits = f.limits;
}

pub leader_is_fit : LeaderIsFit
leader_is_fit p n h m t q u w l b s i = (fit, armed_fit t q m fit)
  where
    x : HasPush p h m
    x = its_push p n h m l i

    fit : IsFit t q m
    fit = record {
      going = i.going;
      first = subst (λ z. 1 ≤ z) (sym x.tells.number) x.first;
      session = subst (HasSession t q) (sym x.tells.session) (has_session p h t q u w m b s x);
      limits = limited p n h m l b i x;
    }
