-- The post after an operation of a follower.
use Rattle.std.specs.Prelude.{◌==◌, if◌then◌else◌, option_and_then, option_map}
use Rattle.std.proofs.Common.{◌≡◌, ℕ, Bool, true, false, List, ◌∷◌, refl, sym, ◌∙◌, ap, subst, Option, Some, None}
use Rattle.std.proofs.lemmas.Bool.{eq-eqb, eqb-true, false≢true}
use Rattle.fk_tree.specs.declared.request.Request.{Request}
use Rattle.fk_print.specs.declared.entry.Entry.{Entry}
use Rattle.fk_print.specs.declared.op.Op.TheVariants as op
use Rattle.fk_queue.specs.Answers.{ack_of, after_ack}
use Rattle.fk_queue.specs.Lanes.{same_lane}
use Rattle.fk_queue.specs.Letters.{head_number}
use Rattle.fk_queue.specs.Meaning.{pushed}
use Rattle.fk_queue.specs.declared.lane.Lane.{Lane}
use Rattle.fk_queue.specs.declared.lane.Lane.TheVariants as lane
use Rattle.fk_store.specs.declared.outcome.Outcome as store
use Rattle.fk_follow.specs.Services.{told}
use Rattle.fk_wire.specs.PushedText.{pushed_text}
use Rattle.fk_wire.specs.TellText.{tell_text}
use Rattle.fk_wire.specs.declared.message.Pushed.{Pushed}
use Rattle.fk_wire.specs.declared.message.Tell.{Tell}
use Rattle.fk_wire.specs.declared.version.Version.TheVariants as version
use Rattle.fk_stand.specs.Messages as stand
use Rattle.fk_stand.specs.Messages.{tell_of}
use Rattle.fk_stand.specs.Posts.{letter_in, post_after}
use Rattle.fk_stand.specs.Tables.{kept_as}
use Rattle.fk_spec.specs.Plan.{Plan, is_client}
use Rattle.fk_spec.specs.Start.{Follows, clock_of, request_of, task_of}
use Rattle.fk_spec.specs.Settling.{Committed, Outcome, Passed, Refused, outcome_of}
use Rattle.fk_spec.specs.Follower.{Follower, is_number}
use Rattle.fk_spec.specs.Function.{Following, place_of}
use Rattle.fk_spec.specs.Lanes.{follows_session, is_evict, kept_message, leads, notifies, reply_message}
use Rattle.fk_agree.specs.Letters.{LeavesLane}
use Rattle.fk_agree.proofs.Posting.{letter_is_pushed, post_stays}
use Rattle.fk_agree.proofs.Serving.{acked_post, other_number}
use Rattle.fk_agree.proofs.Carried.{message_at}
use Rattle.fk_agree.proofs.Replying.{replied_elsewhere}

-- A push. -----------------------------------------------------------------------------------------------

pushed_elsewhere : (p : Plan) (n tx : ℕ) (h : List Entry) (q : Lane) → same_lane q lane.Leader ≡ false → LeavesLane p q h (op.Push n tx)
pushed_elsewhere p n tx h lane.Leader e = absurd (false≢true (sym e))
pushed_elsewhere p n tx h lane.Watch e = record { none = refl; kept = refl }
pushed_elsewhere p n tx h (lane.Session c) e = record { none = refl; kept = refl }
pushed_elsewhere p n tx h (lane.Inbox c) e = record { none = refl; kept = refl }

pub pushed_post : (p : Plan) (n tx faults : ℕ) (e : Entry) (h : List Entry) (f : Follower) (r : Request) (x : Pushed) → e.op ≡ op.Push n tx → place_of p n h ≡ Following f → request_of p f.session f.k h ≡ Some r → x ≡ stand.push_with n (clock_of h) f r
    → pushed lane.Leader (pushed_text version.Two x) (post_after p h faults) ≡ post_after p (e ∷ h) faults
pushed_post p n tx faults e h f r x g b q s =
    ap (λ z. pushed lane.Leader (pushed_text version.Two z) (post_after p h faults)) s
    ∙ letter_is_pushed p faults lane.Leader (pushed_text version.Two (stand.push_with n (clock_of h) f r)) e h refl (ap (letter_in p lane.Leader h) g ∙ ap (option_map (pushed_text version.Two)) (message_at p n tx h f r b q)) (λ y x. subst (LeavesLane p y h) (sym g) (pushed_elsewhere p n tx h y x))

-- A reply. ----------------------------------------------------------------------------------------------

told_same : (p : Plan) (k : ℕ) (h : List Entry) (o : Option Outcome) → option_and_then (tell_of p h) (kept_message k o) ≡ stand.outcome_tell k (kept_as o)
told_same p k h None = refl
told_same p k h (Some (Committed t)) = refl
told_same p k h (Some (Refused cd place at)) = refl
told_same p k h (Some (Passed None)) = refl
told_same p k h (Some (Passed (Some x))) = refl

its_reply : (p : Plan) (n c k : ℕ) (h : List Entry) → task_of n h ≡ Some (Follows c k) → letter_in p (lane.Inbox c) h (op.Reply n c k) ≡ option_map (tell_text version.Two) (stand.outcome_tell k (kept_as (outcome_of c k h)))
its_reply p n c k h t =
    ap (λ b. option_map (tell_text version.Two) (option_and_then (tell_of p h) (if b then reply_message (is_evict (request_of p c k h)) k (outcome_of c k h) (task_of n h) else None))) (eq-eqb c c refl)
    ∙ (ap (λ x. option_map (tell_text version.Two) (option_and_then (tell_of p h) (reply_message (is_evict (request_of p c k h)) k (outcome_of c k h) x))) t ∙ ap (option_map (tell_text version.Two)) (told_same p k h (outcome_of c k h)))

nothing_told : (p : Plan) (n c k : ℕ) (h : List Entry) (q : Lane) → letter_in p (lane.Inbox c) h (op.Reply n c k) ≡ None → LeavesLane p q h (op.Reply n c k)
nothing_told p n c k h lane.Leader e = record { none = refl; kept = refl }
nothing_told p n c k h lane.Watch e = record { none = refl; kept = refl }
nothing_told p n c k h (lane.Session d) e = record { none = refl; kept = refl }
nothing_told p n c k h (lane.Inbox d) e = by_session (d == c) refl
  where
    by_session : (b : Bool) → (d == c) ≡ b → LeavesLane p (lane.Inbox d) h (op.Reply n c k)
    by_session true f = subst (λ x. LeavesLane p (lane.Inbox x) h (op.Reply n c k)) (sym (eqb-true d c f)) (record { none = e; kept = refl })
    by_session false f = replied_elsewhere p n c k h (lane.Inbox d) f

pub replied_post : (p : Plan) (n c k faults : ℕ) (e : Entry) (h : List Entry) (o : store.Outcome) → e.op ≡ op.Reply n c k → is_client p c ≡ true → task_of n h ≡ Some (Follows c k) → o ≡ kept_as (outcome_of c k h) → told c (stand.outcome_tell k o) (post_after p h faults) ≡ post_after p (e ∷ h) faults
replied_post p n c k faults e h o g i t w = by_tell (stand.outcome_tell k o) refl
  where
    its : (x : Option Tell) → stand.outcome_tell k o ≡ x → letter_in p (lane.Inbox c) h (op.Reply n c k) ≡ option_map (tell_text version.Two) x
    its x a = its_reply p n c k h t ∙ (ap (λ z. option_map (tell_text version.Two) (stand.outcome_tell k z)) (sym w) ∙ ap (option_map (tell_text version.Two)) a)

    by_tell : (x : Option Tell) → stand.outcome_tell k o ≡ x → told c x (post_after p h faults) ≡ post_after p (e ∷ h) faults
    by_tell None a = sym (post_stays p faults e h (λ q. subst (LeavesLane p q h) (sym g) (nothing_told p n c k h q (its None a))))
    by_tell (Some m) a = letter_is_pushed p faults (lane.Inbox c) (tell_text version.Two m) e h i (ap (letter_in p (lane.Inbox c) h) g ∙ its (Some m) a) (λ q x. subst (LeavesLane p q h) (sym g) (replied_elsewhere p n c k h q x))

-- An acknowledgement. -----------------------------------------------------------------------------------

acked_elsewhere : (p : Plan) (n c k : ℕ) (h : List Entry) (q : Lane) → task_of n h ≡ Some (Follows c k) → same_lane q (lane.Session c) ≡ false → LeavesLane p q h (op.AckOk n)
acked_elsewhere p n c k h lane.Leader t e = record { none = refl; kept = ap leads t }
acked_elsewhere p n c k h lane.Watch t e = record { none = refl; kept = ap notifies t }
acked_elsewhere p n c k h (lane.Session d) t e = record { none = refl; kept = ap (follows_session d) t ∙ other_number c d e }
acked_elsewhere p n c k h (lane.Inbox d) t e = record { none = refl; kept = refl }

pub removed_post : (p : Plan) (n c k faults : ℕ) (e : Entry) (h : List Entry) → e.op ≡ (if is_number k (head_number ((post_after p h faults).lanes (lane.Session c))) then op.AckOk n else op.AckGone n) → is_client p c ≡ true → task_of n h ≡ Some (Follows c k)
    → after_ack (post_after p h faults) (lane.Session c) (ack_of (post_after p h faults) (lane.Session c) k) ≡ post_after p (e ∷ h) faults
removed_post p n c k faults e h g i t = acked_post p (lane.Session c) n k faults e h i refl (ap (follows_session c) t ∙ eq-eqb c c refl) (λ q x. acked_elsewhere p n c k h q t x) g
