-- The operation that a client makes, and what it comes to, whatever its message tells beside what the rules know.
use Rattle.std.proofs.Common.{◌≡◌, ℕ, true, false, List, ◌∷◌, refl, sym, ◌∙◌, ap, subst, Option, Some, None}
use Rattle.std.proofs.lemmas.Option.{same_Some, none-some}
use Rattle.fk_print.specs.declared.entry.Entry.{Entry}
use Rattle.fk_print.specs.declared.op.Op.{Op}
use Rattle.fk_print.specs.declared.op.Op.TheVariants as op
use Rattle.fk_queue.specs.Meaning as post
use Rattle.fk_store.specs.Meaning as table
use Rattle.fk_user.specs.Meaning as user
use Rattle.fk_watch.specs.Meaning as watches
use Rattle.fk_watch.specs.Meaning.{Watches}
use Rattle.fk_wire.specs.declared.message.Tell.{Tell}
use Rattle.fk_wire.specs.declared.message.Tell.TheVariants as tell
use Rattle.fk_stand.specs.Messages.{done_tell, push_message_of}
use Rattle.fk_stand.specs.Posts.{post_after}
use Rattle.fk_stand.specs.Stores.{store_after, watches_after}
use Rattle.fk_stand.specs.Tables.{table_after}
use Rattle.fk_spec.specs.Plan.{Plan, is_client}
use Rattle.fk_spec.specs.Settling.{Outcome, Committed, Refused, Passed}
use Rattle.fk_spec.specs.Lanes.{Message, Done, Kept, inbox_of}
use Rattle.fk_spec.specs.Client.{Client, Sent, acted, acted_by, by_result, client_in, client_of, client_op, failed_op, flushed, kept_outcome, Settled, op_of_client, settled_as}
use Rattle.fk_spec.specs.Sight.{first_message, sight_of}
use Rattle.fk_spec.specs.Next.{IsHistory}
use Rattle.fk_law.specs.Due.{IsDue}
use Rattle.fk_client.specs.Knowing.{client_known, told_known}
use Rattle.fk_client.specs.Known.{by_outcome}
use Rattle.fk_client.specs.Operation.{calm_op, failed_if, is_armed, step_op}
use Rattle.fk_client.specs.Sighting.{outcome_told}
use Rattle.fk_client.specs.declared.unanswered.Unanswered.{Unanswered}
use Rattle.fk_client.proofs.Same.{comes_to_the_same, makes_the_same}
use Rattle.fk_agree_client.specs.Inbox.{FirstTells}
use Rattle.fk_agree_client.specs.Standing.{standing}
use Rattle.fk_agree_client.proofs.Inbox.{mapped}
use Rattle.fk_agree_client.proofs.Reading.{sights_agree, told_sight}
use Rattle.fk_law_client.proofs.Kept.{own_client}

-- The operation. -----------------------------------------------------------------------------------------

-- on calm services nothing fails
calm_fails : (t : table.Meaning) (q : post.Meaning) (w : Watches) (u : user.Meaning) (o : Op) → t.armed ≡ false → q.armed ≡ false → w.armed ≡ false → u.armed ≡ false → failed_if (is_armed t q w u o) o ≡ o
calm_fails t q w u (op.Pong c n) a b d e = ap (λ z. failed_if z (op.Pong c n)) a
calm_fails t q w u (op.TakeDone c k n) a b d e = ap (λ z. failed_if z (op.TakeDone c k n)) b
calm_fails t q w u (op.TakeEvicted c k n) a b d e = ap (λ z. failed_if z (op.TakeEvicted c k n)) b
calm_fails t q w u (op.TakeRefused c k) a b d e = ap (λ z. failed_if z (op.TakeRefused c k)) b
calm_fails t q w u (op.TakeLost c k) a b d e = ap (λ z. failed_if z (op.TakeLost c k)) b
calm_fails t q w u (op.TakeWatch c n) a b d e = ap (λ z. failed_if z (op.TakeWatch c n)) b
calm_fails t q w u (op.TakePing c n) a b d e = ap (λ z. failed_if z (op.TakePing c n)) b
calm_fails t q w u (op.LookOk c i m) a b d e = ap (λ z. failed_if z (op.LookOk c i m)) e
calm_fails t q w u (op.LookBehind c i m) a b d e = ap (λ z. failed_if z (op.LookBehind c i m)) e
calm_fails t q w u (op.LookHeld c i m n) a b d e = ap (λ z. failed_if z (op.LookHeld c i m n)) e
calm_fails t q w u (op.Send c i k) a b d e = ap (λ z. failed_if z (op.Send c i k)) b
calm_fails t q w u (op.Read c i n) a b d e = ap (λ z. failed_if z (op.Read c i n)) e
calm_fails t q w u (op.WatchSet c i n) a b d e = ap (λ z. failed_if z (op.WatchSet c i n)) d
calm_fails t q w u (op.WatchSwept c i n) a b d e = ap (λ z. failed_if z (op.WatchSwept c i n)) d
calm_fails t q w u o a b d e = refl

-- where each service is to fail, the operation fails
armed_fails : (t : table.Meaning) (q : post.Meaning) (w : Watches) (u : user.Meaning) (o : Op) → failed_if (is_armed (table.armed t) (post.armed q) (watches.armed w) (user.armed u) o) o ≡ failed_op o
armed_fails t q w u (op.Pong c n) = refl
armed_fails t q w u o = refl

-- the operation on services that don't fail
pub calm_is : (p : Plan) (c fq fw fu : ℕ) (h : List Entry) (told : Option Tell) (x : Client Unanswered) → IsHistory p h → is_client p c ≡ true → client_known x ≡ client_of p c h → FirstTells p h (inbox_of p c h) told
    → calm_op (post_after p h fq) (watches_after p h fw) (store_after p h fu) told (standing p c h x) ≡ client_op p c h
calm_is p c fq fw fu h told x l i k r =
    ap (λ s. op_of_client by_outcome s x) (sights_agree p c fq fw fu h told x l i r)
    ∙ (makes_the_same (told_sight p c h told) x ∙ ap (op_of_client by_result (told_sight p c h told)) k)

pub op_is : (p : Plan) (c ft fq fw fu : ℕ) (h : List Entry) (told : Option Tell) (x : Client Unanswered) → IsHistory p h → is_client p c ≡ true → client_known x ≡ client_of p c h → FirstTells p h (inbox_of p c h) told
    → step_op (table_after p h ft) (post_after p h fq) (watches_after p h fw) (store_after p h fu) told (standing p c h x) ≡ client_op p c h
op_is p c ft fq fw fu h told x l i k r =
    calm_fails (table_after p h ft) (post_after p h fq) (watches_after p h fw) (store_after p h fu) (calm_op (post_after p h fq) (watches_after p h fw) (store_after p h fu) told (standing p c h x)) refl refl refl refl
    ∙ calm_is p c fq fw fu h told x l i k r

pub failed_is : (p : Plan) (c ft fq fw fu : ℕ) (h : List Entry) (told : Option Tell) (x : Client Unanswered) → IsHistory p h → is_client p c ≡ true → client_known x ≡ client_of p c h → FirstTells p h (inbox_of p c h) told
    → step_op (table.armed (table_after p h ft)) (post.armed (post_after p h fq)) (watches.armed (watches_after p h fw)) (user.armed (store_after p h fu)) told (standing p c h x) ≡ failed_op (client_op p c h)
failed_is p c ft fq fw fu h told x l i k r =
    armed_fails (table_after p h ft) (post_after p h fq) (watches_after p h fw) (store_after p h fu) (calm_op (post_after p h fq) (watches_after p h fw) (store_after p h fu) told (standing p c h x))
    ∙ ap failed_op (calm_is p c fq fw fu h told x l i k r)

-- What it comes to. --------------------------------------------------------------------------------------

-- what is told of a command by the message that is taken
done_known : (p : Plan) (k tx : ℕ) (h : List Entry) (ms : List Message) (told : Option Tell) → FirstTells p h (Done k tx ∷ ms) told → told_known (outcome_told told) ≡ Some (Settled (Committed tx))
done_known p k tx h ms None i = absurd i
done_known p k tx h ms (Some t) i = let x = mapped (done_tell k tx) (push_message_of p tx h) t i in sym (ap (λ z. told_known (outcome_told (Some z))) x.2)

kept_known : (p : Plan) (k : ℕ) (o : Outcome) (h : List Entry) (ms : List Message) (told : Option Tell) → FirstTells p h (Kept k o ∷ ms) told → told_known (outcome_told told) ≡ Some (Settled o)
kept_known p k o h ms None i = absurd i
kept_known p k (Committed tx) h ms (Some t) i = absurd (none-some t i)
kept_known p k (Refused code place at) h ms (Some t) i = sym (ap (λ z. told_known (outcome_told (Some z))) (same_Some (tell.Refused k code at place) t i))
kept_known p k (Passed None) h ms (Some t) i = absurd (none-some t i)
kept_known p k (Passed (Some loss)) h ms (Some t) i = sym (ap (λ z. told_known (outcome_told (Some z))) (same_Some (tell.Lost k loss.path loss.own loss.found loss.moment) t i))

-- the rules' client comes to the same by what its message tells and by what the rules read there
pub told_fits : (p : Plan) (c : ℕ) (h : List Entry) (told : Option Tell) (o : Op) (y : Client Sent) → IsDue p h o → client_in o ≡ Some c → FirstTells p h (inbox_of p c h) told
    → acted by_result (told_sight p c h told) (told_known (outcome_told told)) o y ≡ acted_by (sight_of p c h) o y
told_fits p c h told (op.TakeDone d k tx) y i e r =
    let s = same_Some d c e in
    ap (λ z. acted by_result (told_sight p c h told) z (op.TakeDone d k tx) y) (done_known p k tx h i.0 told (subst (λ ms. FirstTells p h ms told) (subst (λ z. inbox_of p z h ≡ Done k tx ∷ i.0) s i.1) r))
told_fits p c h told (op.TakeRefused d k) y i e r =
    let s = same_Some d c e in
    let g = subst (λ z. inbox_of p z h ≡ Kept k i.0 ∷ i.1) s i.2 in
    ap (λ z. acted by_result (told_sight p c h told) z (op.TakeRefused d k) y) (kept_known p k i.0 h i.1 told (subst (λ ms. FirstTells p h ms told) g r) ∙ sym (ap (λ ms. settled_as (kept_outcome (first_message ms))) g))
told_fits p c h told (op.TakeLost d k) y i e r =
    let s = same_Some d c e in
    let g = subst (λ z. inbox_of p z h ≡ Kept k (Passed i.0) ∷ i.1) s i.2 in
    ap (λ z. acted by_result (told_sight p c h told) z (op.TakeLost d k) y) (kept_known p k (Passed i.0) h i.1 told (subst (λ ms. FirstTells p h ms told) g r) ∙ sym (ap (λ ms. settled_as (kept_outcome (first_message ms))) g))
told_fits p c h told o y i e r = refl

pub known_after : (p : Plan) (c : ℕ) (e : Entry) (h : List Entry) (told : Option Tell) (x : Client Unanswered) → client_in e.op ≡ Some c → IsDue p h e.op → client_known x ≡ client_of p c h → FirstTells p h (inbox_of p c h) told
    → client_known (flushed by_outcome (acted by_outcome (told_sight p c h told) (outcome_told told) e.op x)) ≡ client_of p c (e ∷ h)
known_after p c e h told x q d k r =
    comes_to_the_same (told_sight p c h told) (outcome_told told) e.op x
    ∙ (ap (λ y. flushed by_result (acted by_result (told_sight p c h told) (told_known (outcome_told told)) e.op y)) k
    ∙ (ap (flushed by_result) (told_fits p c h told e.op (client_of p c h) d q r) ∙ sym (own_client p c e h q)))
