-- The push of a leader: whose it is, and what it was committed as.
use Rattle.std.proofs.Common.{◌≡◌, ℕ, ◌≤◌, true, List, refl, ◌∙◌, ap, Some}
use Rattle.fk_tree.specs.declared.applied.Applied.{Applied}
use Rattle.fk_print.specs.declared.entry.Entry.{Entry}
use Rattle.fk_print.specs.declared.op.Op.{Op}
use Rattle.fk_lead.specs.Meaning.{Meaning, applied_of}
use Rattle.fk_spec.specs.Plan.{Plan, is_client}
use Rattle.fk_spec.specs.Start.{Leads, task_of}
use Rattle.fk_spec.specs.Settling.{is_committed}
use Rattle.fk_spec.specs.Stored.{committed_as}
use Rattle.fk_spec.specs.Leader.{for_push, for_task, of_push}
use Rattle.fk_spec.specs.Next.{IsHistory}
use Rattle.fk_law.specs.Due.{IsPushOf}
use Rattle.fk_law.proofs.Clients.{follows_a_client}
use Rattle.fk_law.proofs.Leading.{leader_at_or_below_the_head}
use Rattle.fk_law.proofs.Pushing.{push_request, push_there}
use Rattle.fk_law.proofs.Sending.{committed_is_filled}
use Rattle.fk_law.proofs.Settled.{reached}
use Rattle.fk_law.proofs.Starting.{leader_task}
use Rattle.fk_agree.specs.Pushes.{Tells}
use Rattle.fk_agree.proofs.Carried.{push_is_its_commit}
use Rattle.fk_agree.proofs.Telling.{message_tells_its_push}
use Rattle.fk_agree_lead.specs.Leaders.{IsLeader}

-- the function, the session and the request of a leader's push, as its message tells them
pub record HasPush (p : Plan) (h : List Entry) (m : Meaning) : Type 0 where
  pub holder : ℕ
  pub session : ℕ
  pub k : ℕ
  pub is_of : IsPushOf m.tx holder session k h
  pub tells : Tells m.message holder session k h
  pub client : is_client p session ≡ true
  pub first : 1 ≤ k

-- a leader was started on its push
pub lead_task : (p : Plan) (n : ℕ) (h : List Entry) (m : Meaning) → IsHistory p h → IsLeader p n h m → task_of n h ≡ Some (Leads m.tx)
lead_task p n h m l i = leader_task p n h m.tx m.stage l i.stands

-- each leader has its push
pub its_push : (p : Plan) (n : ℕ) (h : List Entry) (m : Meaning) → IsHistory p h → IsLeader p n h m → HasPush p h m
its_push p n h m l i =
    let b = leader_at_or_below_the_head p n m.tx h l (lead_task p n h m l i) in
    let x = push_there p m.tx h l b.0 b.2 in
    let r = push_request p m.tx h x.0 l x.1 in
    let w : IsPushOf m.tx x.0.function r.0 r.1 h = record { push = x.0; pushed = x.1; function = refl; task = r.2 } in
    record {
      holder = x.0.function;
      session = r.0;
      k = r.1;
      is_of = w;
      tells = message_tells_its_push p m.tx x.0.function r.0 r.1 h m.message l w i.message;
      client = follows_a_client p x.0.function r.0 r.1 h l r.2;
      first = (reached p x.0.function r.0 r.1 h l r.2).0;
    }

-- what the rules read of a push's function, session and request
pub of_push_is : (t n c k : ℕ) (h : List Entry) (f : ℕ → ℕ → ℕ → Op) → IsPushOf t n c k h → of_push t h f ≡ f n c k
of_push_is t n c k h f i =
    ap (λ o. for_push h o f) i.pushed
    ∙ (ap (λ o. for_task o (λ session k. f i.push.function session k)) (ap (λ z. task_of z h) i.function ∙ i.task) ∙ ap (λ z. f z c k) i.function)

-- a leader's push as it was committed
pub record HasCommit (p : Plan) (h : List Entry) (m : Meaning) : Type 0 where
  pub applied : Applied
  pub committed : committed_as p m.tx h ≡ Some applied
  pub same : applied_of m ≡ applied

-- a push that is committed is what its message applies
pub its_commit : (p : Plan) (n : ℕ) (h : List Entry) (m : Meaning) → IsHistory p h → IsLeader p n h m → is_committed m.tx h ≡ true → HasCommit p h m
its_commit p n h m l i c =
    let a = committed_is_filled p m.tx h l c in
    record { applied = a.0; committed = a.1; same = push_is_its_commit p m.tx h m.message a.0 l i.message a.1 }
