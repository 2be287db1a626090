-- What a follower keeps while others make their lines.
use Rattle.std.specs.Prelude.{◌==◌, ◌&&◌}
use Rattle.std.proofs.Common.{◌≡◌, ◌≢◌, ℕ, ◌≤◌, true, cond, List, [], ◌∷◌, refl, sym, ◌∙◌, ap, subst, Option, Some}
use Rattle.std.proofs.lemmas.Bool.{eqb-true}
use Rattle.fk_base.specs.Path.{PathNames, same_path}
use Rattle.fk_print.specs.declared.entry.Entry.{Entry}
use Rattle.fk_print.specs.declared.op.Op.{Op}
use Rattle.fk_print.specs.declared.op.Op.TheVariants as op
use Rattle.fk_follow.specs.Meaning.{Meaning}
use Rattle.fk_follow.specs.Services.{push_at}
use Rattle.fk_stand.specs.Tables.{kept_as}
use Rattle.fk_spec.specs.Plan.{Plan}
use Rattle.fk_spec.specs.Start.{clock_of, seen_from, sends_of}
use Rattle.fk_spec.specs.Locks.{Loss, loss_in, loss_of, own_moment, own_moment_in}
use Rattle.fk_spec.specs.Settling.{Passed, outcome_of, settled_of}
use Rattle.fk_spec.specs.Follower as stage
use Rattle.fk_spec.specs.Follower.{Stage}
use Rattle.fk_spec.specs.Function.{actor, is_absent}
use Rattle.fk_spec.specs.Next.{IsHistory}
use Rattle.fk_law.specs.Progress.{progress}
use Rattle.fk_law.specs.Settled.{Answered}
use Rattle.fk_law.proofs.Outcomes.{outcome_never_changes, settled_have_an_outcome}
use Rattle.fk_law.proofs.Sending.{origin_stays, request_stays}
use Rattle.fk_law.proofs.Settled.{answered_at, reached}
use Rattle.fk_law.proofs.Starting.{others_leave_it}
use Rattle.fk_agree.proofs.Heading.{message_stays}
use Rattle.fk_agree_follow.specs.Followers.{IsFollower, Keeps, OthersLeaveFollowers}
use Rattle.fk_agree_follow.proofs.Operating.{its_task}
use Rattle.fk_base.proofs.Logic.{by_test}

not_its : (n m : ℕ) → (Some m ≢ Some n) → (m == n) ≡ true → ⊥
not_its n m a e = a (ap Some (eqb-true m n e))

loss_kept : (n : ℕ) (h : List Entry) (o : Op) (x : Option Loss) → actor o ≢ Some n → loss_in n h o x ≡ x
loss_kept n h (op.CommitLock m tx path holder moment) x a = by_test (m == n) (λ b. cond b (Some (record { path = path; own = own_moment n path h; found = holder; moment = moment })) x ≡ x) (λ e. absurd (not_its n m a e)) (λ _. refl)
loss_kept n h (op.RefuseLock m cd place at path holder moment) x a = by_test (m == n) (λ b. cond b (Some (record { path = path; own = own_moment n path h; found = holder; moment = moment })) x ≡ x) (λ e. absurd (not_its n m a e)) (λ _. refl)
loss_kept n h o x a = refl

moment_kept : (n : ℕ) (path : PathNames) (now : ℕ) (o : Op) (z : ℕ) → actor o ≢ Some n → own_moment_in n path now o z ≡ z
moment_kept n path now (op.LockOk m q) z a = by_test (m == n) (λ b. cond (b && same_path q path) now z ≡ z) (λ e. absurd (not_its n m a e)) (λ _. refl)
moment_kept n path now o z a = refl

-- the message of a follower was sent
pub was_sent : (p : Plan) (n : ℕ) (h : List Entry) (m : Meaning) → IsHistory p h → IsFollower p n h m → (1 ≤ m.follower.k) × (m.follower.k ≤ sends_of m.follower.session h)
was_sent p n h m l i = let r = reached p n m.follower.session m.follower.k h l (its_task p n h m l i) in (r.0, r.2)

outcome_kept : (p : Plan) (c k : ℕ) (e : Entry) (h : List Entry) → IsHistory p (e ∷ h) → 1 ≤ k → k ≤ settled_of c h → outcome_of c k h ≡ outcome_of c k (e ∷ h)
outcome_kept p c k e h l a b = let o = settled_have_an_outcome p c k h l.0 a b in o.1 ∙ sym (outcome_never_changes p c k h (e ∷ []) o.0 l o.1)

keeps_on : (p : Plan) (n : ℕ) (e : Entry) (h : List Entry) (m : Meaning) (x : Stage) → m.follower.stage ≡ x → IsHistory p (e ∷ h) → IsFollower p n h m → actor e.op ≢ Some n → Keeps p n h m x → Keeps p n (e ∷ h) m x
keeps_on p n e h m (stage.Commit tx) y l i a k = (message_stays p tx e h (push_at m.moment m) l k.0, k.1)
keeps_on p n e h m stage.Lost y l i a k = k ∙ ap (λ o. kept_as (Some (Passed o))) (sym (loss_kept n h e.op (loss_of n h) a))
keeps_on p n e h m stage.Reply y l i a k =
    let b = subst (Answered (settled_of m.follower.session h) m.follower.k) (ap progress y) (subst (λ f. Answered (settled_of f.session h) f.k (progress f.stage)) (sym i.sketched) (answered_at p n h i.whole l.0 i.stands)) in
    k ∙ ap kept_as (outcome_kept p m.follower.session m.follower.k e h l (was_sent p n h m l.0 i).0 b)
keeps_on p n e h m stage.Session y l i a k = k
keeps_on p n e h m stage.Owned y l i a k = k
keeps_on p n e h m (stage.Lock path) y l i a k = k
keeps_on p n e h m stage.Push y l i a k = k
keeps_on p n e h m (stage.Refuse r at) y l i a k = k
keeps_on p n e h m (stage.Expire at) y l i a k = k
keeps_on p n e h m stage.Ack y l i a k = k
keeps_on p n e h m stage.Ended y l i a k = k

pub others_leave_followers : OthersLeaveFollowers
others_leave_followers p n e h m l i other =
    let b = (was_sent p n h m l.0 i).1 in
    record {
      inv = i.inv;
      going = i.going;
      whole = i.whole;
      stands = others_leave_it p n e h l (ap is_absent i.stands) other ∙ i.stands;
      sketched = i.sketched;
      requested = request_stays p m.follower.session m.follower.k e h b ∙ i.requested;
      seen = i.seen ∙ ap seen_from (sym (origin_stays m.follower.session m.follower.k e h b));
      written = i.written;
      owns = λ path. i.owns path ∙ sym (moment_kept n path (clock_of h) e.op (own_moment n path h) other);
      keeps = keeps_on p n e h m m.follower.stage refl l i other i.keeps;
    }
