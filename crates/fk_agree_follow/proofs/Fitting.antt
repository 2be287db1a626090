-- What a follower's operation needs.
use Rattle.std.specs.Prelude.{◌-◌, ◌<◌, ◌^◌, is_some}
use Rattle.std.proofs.Common.{◌≡◌, ◌≢◌, ℕ, ◌≤◌, true, List, length, refl, sym, ◌∙◌, ap, subst, arith, Option, Some, None}
use Rattle.fk_print.specs.declared.entry.Entry.{Entry}
use Rattle.fk_queue.specs.Lanes.{is_session}
use Rattle.fk_queue.specs.Meaning as post
use Rattle.fk_queue.specs.declared.lane.Lane.TheVariants as lane
use Rattle.fk_store.specs.Meaning as table
use Rattle.fk_store.specs.declared.outcome.Outcome.TheVariants as kept
use Rattle.fk_follow.specs.Fit.{HasSession, IsFit, IsLimited, IsLimitedOutcome}
use Rattle.fk_follow.specs.Meaning.{Meaning}
use Rattle.fk_base.specs.Limits.{IsNumber}
use Rattle.fk_stand.specs.Tables.{kept_as}
use Rattle.fk_spec.specs.Plan.{Plan, is_client}
use Rattle.fk_spec.specs.Start.{clock_of, pushes_of, seen_with, sends_of}
use Rattle.fk_spec.specs.Locks.{Loss, loss_of}
use Rattle.fk_spec.specs.Settling.{Committed, Outcome, Passed, Refused, outcome_of, settled_of}
use Rattle.fk_spec.specs.Follower as stage
use Rattle.fk_spec.specs.Follower.{Stage}
use Rattle.fk_spec.specs.Function.{is_absent}
use Rattle.fk_spec.specs.Next.{IsHistory}
use Rattle.fk_law.proofs.Finding.{lost_has_a_loss}
use Rattle.fk_law.proofs.Outcomes.{settled_have_an_outcome}
use Rattle.fk_law.proofs.Starting.{place_bound}
use Rattle.fk_law_watch.proofs.Counting.{pushes_are_bounded, sends_are_bounded, starts_are_bounded}
use Rattle.fk_agree.proofs.Bounds.{is_number, lane_low}
use Rattle.fk_agree.proofs.Serving.{lane_is, session_is, session_there}
use Rattle.fk_agree_follow.specs.Followers.{FollowerIsFit, Keeps}
use Rattle.fk_agree_follow.proofs.Bounding.{LostLow, OutcomeLow, loss_low, outcome_low}
use Rattle.fk_agree_follow.proofs.Operating.{its_client}
use Rattle.fk_agree_follow.proofs.Staying.{was_sent}

-- Its outcome. ------------------------------------------------------------------------------------------

-- a settled request has one
outcome_is : (p : Plan) (c k : ℕ) (h : List Entry) → IsHistory p h → 1 ≤ k → settled_of c h ≡ k → kept_as (outcome_of c (settled_of c h) h) ≢ kept.Nothing
outcome_is p c k h l a e = let o = settled_have_an_outcome p c (settled_of c h) h l (omega (arith, a, e)) (omega arith) in by_outcome o.0 o.1
  where
    by_loss : (x : Option Loss) → outcome_of c (settled_of c h) h ≡ Some (Passed x) → kept_as (Some (Passed x)) ≢ kept.Nothing
    by_loss None f g = lost_has_a_loss p c (settled_of c h) h l f
    by_loss (Some x) f g = grind arith

    by_outcome : (o : Outcome) → outcome_of c (settled_of c h) h ≡ Some o → kept_as (outcome_of c (settled_of c h) h) ≢ kept.Nothing
    by_outcome (Committed t) f g = never (sym (ap kept_as f) ∙ g)
      where
        never : kept.Applied t ≡ kept.Nothing → ⊥
        never e = grind arith
    by_outcome (Refused cd place at) f g = never (sym (ap kept_as f) ∙ g)
      where
        never : kept.Refused cd at place ≡ kept.Nothing → ⊥
        never e = grind arith
    by_outcome (Passed x) f g = by_loss x f (sym (ap kept_as f) ∙ g)

loss_limited : (h : List Entry) (o : Option Loss) → length h < 2 ^ 62 → IsNumber (clock_of h) → LostLow h o → IsLimitedOutcome (kept_as (Some (Passed o)))
loss_limited h None b m i = tt
loss_limited h (Some x) b m i =
    let c = starts_are_bounded h in
    ((let a = i.own in omega (arith, a, m)), is_number x.found (length h) b (let a = i.found in omega (arith, a, c)), (let a = i.moment in omega (arith, a, m)))

outcome_limited : (seen : ℕ) (h : List Entry) (o : Option Outcome) → length h < 2 ^ 62 → IsNumber (clock_of h) → IsNumber seen → OutcomeLow seen h o → IsLimitedOutcome (kept_as o)
outcome_limited seen h None b m s i = tt
outcome_limited seen h (Some (Committed t)) b m s i = tt
outcome_limited seen h (Some (Refused cd place at)) b m s i = let c = pushes_are_bounded h in let d = is_number (pushes_of h) (length h) b (omega (arith, c)) in omega (arith, i, s, d)
outcome_limited seen h (Some (Passed o)) b m s i = loss_limited h o b m i

nothing_limited : (m : Meaning) → m.outcome ≡ kept.Nothing → IsLimitedOutcome m.outcome
nothing_limited m e = subst IsLimitedOutcome (sym e) tt

kept_limited : (p : Plan) (n : ℕ) (h : List Entry) (m : Meaning) (x : Stage) → IsHistory p h → length h < 2 ^ 62 → IsNumber (clock_of h) → IsNumber (seen_with m.follower.session m.follower.k h) → Keeps p n h m x → IsLimitedOutcome m.outcome
kept_limited p n h m (stage.Commit tx) l b c s k = nothing_limited m k.1
kept_limited p n h m stage.Lost l b c s k = subst IsLimitedOutcome (sym k) (loss_limited h (loss_of n h) b c (loss_low p n h l))
kept_limited p n h m stage.Reply l b c s k = subst IsLimitedOutcome (sym k) (outcome_limited (seen_with m.follower.session m.follower.k h) h (outcome_of m.follower.session m.follower.k h) b c s (outcome_low p m.follower.session m.follower.k h l))
kept_limited p n h m stage.Session l b c s k = nothing_limited m k
kept_limited p n h m stage.Owned l b c s k = nothing_limited m k
kept_limited p n h m (stage.Lock path) l b c s k = nothing_limited m k
kept_limited p n h m stage.Push l b c s k = nothing_limited m k
kept_limited p n h m (stage.Refuse r at) l b c s k = nothing_limited m k
kept_limited p n h m (stage.Expire at) l b c s k = nothing_limited m k
kept_limited p n h m stage.Ack l b c s k = nothing_limited m k
kept_limited p n h m stage.Ended l b c s k = nothing_limited m k

-- All of it. --------------------------------------------------------------------------------------------

armed_fit : (t : table.Meaning) (q : post.Meaning) (now : ℕ) (m : Meaning) → IsFit t q now m → IsFit (table.armed t) (post.armed q) now m
armed_fit t q now m f = record {
  going = f.going;
  first = f.first;
  kept = f.kept;
  session = record { table = f.session.table; post = f.session.post; pushes = f.session.pushes; inbox = f.session.inbox };
  limits = f.limits;
}

pub follower_is_fit : FollowerIsFit
follower_is_fit p n h m t q u w l b c s i = (fit, armed_fit t q (clock_of h) m fit)
  where
    client : is_client p m.follower.session ≡ true
    client = its_client p n h m l i

    sent : (1 ≤ m.follower.k) × (m.follower.k ≤ sends_of m.follower.session h)
    sent = was_sent p n h m l i

    there : HasSession t q m.follower.session
    there = record {
      table = ap is_some (session_there p m.follower.session h t s.table client);
      post = ap (λ z. is_session z.sessions m.follower.session) s.post ∙ client;
      pushes = subst (λ x. x.given < 2 ^ 63 - 1) (sym (lane_is p h q lane.Leader s.post refl)) (lane_low p lane.Leader h b);
      inbox = subst (λ x. x.given < 2 ^ 63 - 1) (sym (lane_is p h q (lane.Inbox m.follower.session) s.post client)) (lane_low p (lane.Inbox m.follower.session) h b);
    }

    limits : IsLimited (clock_of h) m
    limits = record {
      inv = (let x = place_bound p n h l (ap is_absent i.stands) in let y = starts_are_bounded h in is_number m.inv (length h) b (omega (arith, x.1, y, i.inv)));
      k = (let y = sends_are_bounded m.follower.session h in is_number m.follower.k (length h) b (omega (arith, sent.1, y)));
      moment = c;
      request = i.written.0.0;
      outcome = kept_limited p n h m m.follower.stage l b c (subst IsNumber i.seen i.written.0.1) i.keeps;
    }

    fit : IsFit t q (clock_of h) m
    fit = record {
      going = i.going;
      first = sent.0;
      kept = λ e f. outcome_is p m.follower.session m.follower.k h l sent.0 (sym (ap (λ r. r.settled) (session_is p m.follower.session h t s.table client)) ∙ e) (sym (ap (λ r. r.outcome) (session_is p m.follower.session h t s.table client)) ∙ f);
      session = there;
      limits = limits;
    }
