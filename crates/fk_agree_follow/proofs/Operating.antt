-- A follower makes the operation that the rules name.
use Rattle.std.specs.Prelude.{◌+◌, ◌==◌, if◌then◌else◌, length}
use Rattle.std.proofs.Common.{◌≡◌, ◌≢◌, ℕ, true, false, List, refl, sym, ◌∙◌, ap, subst, arith, Some}
use Rattle.std.proofs.lemmas.Bool.{false≢true}
use Rattle.fk_base.specs.Path.{PathNames}
use Rattle.fk_base.specs.declared.code.Code.TheVariants as code
use Rattle.fk_tree.specs.Sorted.{in_path_order}
use Rattle.fk_print.specs.declared.entry.Entry.{Entry}
use Rattle.fk_print.specs.declared.op.Op.TheVariants as op
use Rattle.fk_queue.specs.Letters.{head_number}
use Rattle.fk_queue.specs.Meaning as post
use Rattle.fk_queue.specs.declared.lane.Lane.TheVariants as lane
use Rattle.fk_store.specs.Meaning as table
use Rattle.fk_follow.specs.Fit.{IsRead, IsReadAt}
use Rattle.fk_follow.specs.Meaning.{Meaning, is_end, is_ended}
use Rattle.fk_follow.specs.Operation as follow
use Rattle.fk_settle.specs.Held as settle
use Rattle.fk_follow.specs.Operation.{calm_op, is_armed, locked, step_op}
use Rattle.fk_follow.specs.Services.{push_at}
use Rattle.fk_stand.specs.Messages.{push_with}
use Rattle.fk_stand.specs.Posts.{post_after}
use Rattle.fk_stand.specs.Tables.{table_after}
use Rattle.fk_spec.specs.Plan.{Plan, is_client}
use Rattle.fk_spec.specs.Start.{Follows, clock_of, request_of, task_of}
use Rattle.fk_spec.specs.Failing.{or_fault}
use Rattle.fk_spec.specs.Locks.{first_passed, granted}
use Rattle.fk_spec.specs.Settling.{settled_of}
use Rattle.fk_spec.specs.Follower as stage
use Rattle.fk_spec.specs.Follower.{Follower, Stage, ack_op, commit_locked, follower_op, refuse_locked}
use Rattle.fk_spec.specs.Function.{fault_op, follower_word, function_op}
use Rattle.fk_spec.specs.Next.{IsHistory}
use Rattle.fk_law.proofs.Clients.{follows_a_client, follows_from_1}
use Rattle.fk_law.proofs.Starting.{follower_task}
use Rattle.fk_agree.proofs.Counting.{heads_are_the_rules, lanes_are_counted}
use Rattle.fk_agree.proofs.Held.{passed_same, settled_is}
use Rattle.fk_agree.proofs.Serving.{lane_is, session_is}
use Rattle.fk_agree_follow.specs.Followers.{FollowerFails, FollowerMakesItsOperation, IsFollower}
use Rattle.fk_agree_follow.proofs.Reading.{lock_same, locked_is, owned_same, session_same}
use Rattle.fk_agree_follow.proofs.Sketching.{locked_for, makes_for, pushes_for}

-- Its session is a client's. ----------------------------------------------------------------------------

pub its_task : (p : Plan) (n : ℕ) (h : List Entry) (m : Meaning) → IsHistory p h → IsFollower p n h m → task_of n h ≡ Some (Follows m.follower.session m.follower.k)
its_task p n h m l i = follower_task p n h i.whole l i.stands ∙ ap (λ f. Some (Follows f.session f.k)) (sym i.sketched)

pub its_client : (p : Plan) (n : ℕ) (h : List Entry) (m : Meaning) → IsHistory p h → IsFollower p n h m → is_client p m.follower.session ≡ true
its_client p n h m l i = follows_a_client p n m.follower.session m.follower.k h l (its_task p n h m l i)

pub its_session : (p : Plan) (n : ℕ) (h : List Entry) (m : Meaning) → IsHistory p h → IsFollower p n h m → m.follower.session ≢ 0
its_session p n h m l i e = let a = follows_from_1 p n m.follower.session m.follower.k h l (its_task p n h m l i) in absurd (omega (arith, a, e))

-- Its request, and what it pushes, are those of the rules' follower. ------------------------------------

pub its_request : (p : Plan) (n : ℕ) (h : List Entry) (m : Meaning) (i : IsFollower p n h m) → request_of p i.whole.session i.whole.k h ≡ Some m.message.request
its_request p n h m i = ap (λ f. request_of p f.session f.k h) (sym i.sketched) ∙ i.requested

pub its_push : (p : Plan) (n moment : ℕ) (h : List Entry) (m : Meaning) (i : IsFollower p n h m) → push_at moment m ≡ push_with m.inv moment i.whole m.message.request
its_push p n moment h m i = ap (λ f. push_with m.inv moment f m.message.request) i.sketched ∙ pushes_for m.inv moment m.message.request i.whole

-- Where the services are calm. --------------------------------------------------------------------------

calm_stage : (t : table.Meaning) (q : post.Meaning) (now time : ℕ) (owned : List PathNames) (n : ℕ) (f : Follower) (x : Stage) → t.armed ≡ false → q.armed ≡ false → or_fault (is_armed t q x) n (follower_word x) (calm_op t q now time owned n f x) ≡ calm_op t q now time owned n f x
calm_stage t q now time owned n f stage.Session a b = rw a refl
calm_stage t q now time owned n f stage.Owned a b = rw a refl
calm_stage t q now time owned n f (stage.Lock path) a b = rw a refl
calm_stage t q now time owned n f stage.Push a b = rw b refl
calm_stage t q now time owned n f (stage.Refuse r at) a b = rw a refl
calm_stage t q now time owned n f (stage.Expire at) a b = rw a refl
calm_stage t q now time owned n f (stage.Commit tx) a b = rw a refl
calm_stage t q now time owned n f stage.Lost a b = rw a refl
calm_stage t q now time owned n f stage.Reply a b = rw b refl
calm_stage t q now time owned n f stage.Ack a b = rw b refl
calm_stage t q now time owned n f stage.Ended a b = refl

-- its operation, by the services as the history says
pub calm_follower : (p : Plan) (h : List Entry) (t : table.Meaning) (q : post.Meaning) (now time : ℕ) (owned : List PathNames) (m : Meaning) → t ≡ table_after p h t.faults → q ≡ post_after p h q.faults
    → step_op t q now time owned m ≡ calm_op (table_after p h t.faults) (post_after p h q.faults) now time owned m.inv m.follower m.follower.stage
calm_follower p h t q now time owned m a b =
    calm_stage t q now time owned m.inv m.follower m.follower.stage (ap (λ z. z.armed) a) (ap (λ z. z.armed) b)
    ∙ (ap (λ z. calm_op z q now time owned m.inv m.follower m.follower.stage) a ∙ ap (λ z. calm_op (table_after p h t.faults) z now time owned m.inv m.follower m.follower.stage) b)

-- Its operation. ----------------------------------------------------------------------------------------

-- what it reads of the table
pub record Reads (p : Plan) (n : ℕ) (h : List Entry) (f : Follower) : Type 0 where
  pub client : is_client p f.session ≡ true
  pub real : f.session ≢ 0
  pub locks : locked f ≡ in_path_order (granted n h)

pub its_reads : (p : Plan) (n : ℕ) (h : List Entry) (m : Meaning) → IsHistory p h → IsFollower p n h m → Reads p n h m.follower
its_reads p n h m l i = record { client = its_client p n h m l i; real = its_session p n h m l i; locks = ap locked i.sketched ∙ (locked_for m.message.request i.whole ∙ locked_is p n h i.whole l i.stands) }

passed_is : (p : Plan) (n faults : ℕ) (h : List Entry) (f : Follower) → Reads p n h f → settle.first_passed n (table_after p h faults) (locked f) ≡ first_passed n h (in_path_order (granted n h))
passed_is p n faults h f i = passed_same p n faults h (locked f) ∙ ap (first_passed n h) i.locks

rule_stage : (p : Plan) (n a b : ℕ) (h : List Entry) (f : Follower) (owned : List PathNames) (x : Stage) → IsHistory p h → Reads p n h f → IsReadAt (table_after p h a) f.session owned x → calm_op (table_after p h a) (post_after p h b) (clock_of h) p.lock owned n f x ≡ follower_op p h n f x
rule_stage p n a b h f owned stage.Session l i g = ap (follow.session_op n f.k) (session_is p f.session h (table_after p h a) refl i.client) ∙ session_same p n f.session f.k h
rule_stage p n a b h f owned stage.Owned l i g = ap (λ ps. op.Owned n (length ps)) (owned_same p f.session a h owned l i.real (g refl))
rule_stage p n a b h f owned (stage.Lock path) l i g = lock_same p n a h path
rule_stage p n a b h f owned stage.Push l i g = ap (λ j. op.Push n (j + 1)) (lanes_are_counted p h l).1.count
rule_stage p n a b h f owned (stage.Refuse r at) l i g =
    ap (λ s. if s + 1 == f.k then refuse_locked n r at (settle.first_passed n (table_after p h a) (locked f)) else op.RefuseSettled n r.code r.place at s) (settled_is p f.session a h i.client)
    ∙ ap (λ o. if settled_of f.session h + 1 == f.k then refuse_locked n r at o else op.RefuseSettled n r.code r.place at (settled_of f.session h)) (passed_is p n a h f i)
rule_stage p n a b h f owned (stage.Expire at) l i g = ap (λ s. if s + 1 == f.k then op.RefuseOk n code.SessionExpired 0 at else op.RefuseSettled n code.SessionExpired 0 at s) (settled_is p f.session a h i.client)
rule_stage p n a b h f owned (stage.Commit tx) l i g =
    ap (λ s. if s + 1 == f.k then commit_locked n tx (settle.first_passed n (table_after p h a) (locked f)) else op.CommitSettled n tx s) (settled_is p f.session a h i.client)
    ∙ ap (λ o. if settled_of f.session h + 1 == f.k then commit_locked n tx o else op.CommitSettled n tx (settled_of f.session h)) (passed_is p n a h f i)
rule_stage p n a b h f owned stage.Lost l i g = ap (λ s. if s + 1 == f.k then op.LostOk n else op.LostSettled n s) (settled_is p f.session a h i.client)
rule_stage p n a b h f owned stage.Reply l i g = refl
rule_stage p n a b h f owned stage.Ack l i g = ap (λ s. ack_op n f.k (head_number s)) (lane_is p h (post_after p h b) (lane.Session f.session) refl i.client) ∙ ap (ack_op n f.k) ((heads_are_the_rules p h l).0 f.session)
rule_stage p n a b h f owned stage.Ended l i g = refl

-- what it is given, of the table as the history says
pub given_so : (p : Plan) (h : List Entry) (t : table.Meaning) (owned : List PathNames) (m : Meaning) → t ≡ table_after p h t.faults → IsRead t owned m → IsReadAt (table_after p h t.faults) m.follower.session owned m.follower.stage
given_so p h t owned m a g = subst (λ z. IsReadAt z m.follower.session owned m.follower.stage) a g

pub follower_makes_its_operation : FollowerMakesItsOperation
follower_makes_its_operation p n h m t q u w owned l s i g =
    calm_follower p h t q (clock_of h) p.lock owned m s.table s.post
    ∙ (ap (λ z. calm_op (table_after p h t.faults) (post_after p h q.faults) (clock_of h) p.lock owned z m.follower m.follower.stage) i.inv
    ∙ (rule_stage p n t.faults q.faults h m.follower owned m.follower.stage l (its_reads p n h m l i) (given_so p h t owned m s.table g)
    ∙ (ap (λ f. follower_op p h n f f.stage) i.sketched ∙ (makes_for p h n m.message.request i.whole i.whole.stage ∙ sym (ap (function_op p h n) i.stands)))))

-- Where the services fail. ------------------------------------------------------------------------------

fail_stage : (t : table.Meaning) (q : post.Meaning) (now time : ℕ) (owned : List PathNames) (n : ℕ) (f : Follower) (x : Stage) → is_end x ≡ false → or_fault (is_armed (table.armed t) (post.armed q) x) n (follower_word x) (calm_op (table.armed t) (post.armed q) now time owned n f x) ≡ op.Fault n (follower_word x)
fail_stage t q now time owned n f stage.Session e = refl
fail_stage t q now time owned n f stage.Owned e = refl
fail_stage t q now time owned n f (stage.Lock path) e = refl
fail_stage t q now time owned n f stage.Push e = refl
fail_stage t q now time owned n f (stage.Refuse r at) e = refl
fail_stage t q now time owned n f (stage.Expire at) e = refl
fail_stage t q now time owned n f (stage.Commit tx) e = refl
fail_stage t q now time owned n f stage.Lost e = refl
fail_stage t q now time owned n f stage.Reply e = refl
fail_stage t q now time owned n f stage.Ack e = refl
fail_stage t q now time owned n f stage.Ended e = absurd (false≢true (sym e))

pub follower_faults : (t : table.Meaning) (q : post.Meaning) (now time : ℕ) (owned : List PathNames) (m : Meaning) → is_ended m ≡ false → step_op (table.armed t) (post.armed q) now time owned m ≡ op.Fault m.inv (follower_word m.follower.stage)
follower_faults t q now time owned m e = fail_stage t q now time owned m.inv m.follower m.follower.stage e

pub follower_fails : FollowerFails
follower_fails p n now time h m t q owned i = follower_faults t q now time owned m i.going ∙ (ap (λ z. op.Fault z (follower_word m.follower.stage)) i.inv ∙ (ap (λ f. op.Fault n (follower_word f.stage)) i.sketched ∙ sym (ap (fault_op n) i.stands)))
