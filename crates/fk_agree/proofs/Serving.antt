-- All services at their start, where nothing changes them, and what each holds.
use Rattle.std.specs.Prelude.{◌==◌, if◌then◌else◌}
use Rattle.std.proofs.Common.{◌≡◌, ℕ, Bool, true, false, cond, List, ◌∷◌, length, refl, sym, ◌∙◌, ap, subst, arith, Option, Some, None}
use Rattle.std.proofs.lemmas.Bool.Decides.{nat_tests}
use Rattle.fk_print.specs.declared.entry.Entry.{Entry}
use Rattle.fk_print.specs.declared.op.Op.{Op}
use Rattle.fk_print.specs.declared.op.Op.TheVariants as op
use Rattle.fk_print.specs.declared.op.Word.{Word}
use Rattle.fk_queue.specs.Answers as answers
use Rattle.fk_queue.specs.Answers.{ack_of, after_ack}
use Rattle.fk_queue.specs.Lanes.{is_lane, same_lane}
use Rattle.fk_queue.specs.Letters.{empty_lane, head_number}
use Rattle.fk_queue.specs.Meaning as post
use Rattle.fk_queue.specs.declared.answer.Ack.TheVariants as ack
use Rattle.fk_queue.specs.declared.lane.Lane.{Lane}
use Rattle.fk_queue.specs.declared.lane.Lane.TheVariants as lane
use Rattle.fk_store.specs.Conds.{session_of}
use Rattle.fk_store.specs.Meaning as table
use Rattle.fk_store.specs.Meaning.{or_new_session}
use Rattle.fk_user.specs.Meaning as user
use Rattle.fk_watch.specs.Meaning.{Watches}
use Rattle.fk_stand.specs.Posts.{lane_after, letter_in, post_after, removes}
use Rattle.fk_stand.specs.Stores.{store_after, watches_after}
use Rattle.fk_stand.specs.Tables.{session_record, table_after}
use Rattle.fk_spec.specs.Plan.{Plan, is_client}
use Rattle.fk_spec.specs.Follower.{is_number}
use Rattle.fk_spec.specs.Function.{actor}
use Rattle.fk_agree.specs.Letters.{LeavesLane}
use Rattle.fk_agree.specs.Records.{LeavesRecords}
use Rattle.fk_agree.specs.Services.{LeavesServices, NewServicesStand, ServicesStay}
use Rattle.fk_agree.specs.Stored.{LeavesStore}
use Rattle.fk_agree.specs.Watched.{LeavesWatches}
use Rattle.fk_agree.proofs.Granting.{new_table_stands, records_stay}
use Rattle.fk_agree.proofs.Posting.{head_is_popped, new_post_stands, post_stays}
use Rattle.fk_agree.proofs.Putting.{new_store_stands, store_stays}
use Rattle.fk_agree.proofs.Watching.{new_watches_stand, watches_stay}

pub new_services_stand : NewServicesStand
new_services_stand p = record { table = new_table_stands p; post = new_post_stands p; user = new_store_stands p; watches = new_watches_stand p }

pub services_stay : ServicesStay
services_stay p e h t q u w l k s = record {
  table = s.table ∙ sym (records_stay p t.faults e h k.records);
  post = s.post ∙ sym (post_stays p q.faults e h k.lanes);
  user = s.user ∙ sym (store_stays p u.faults e h l k.store);
  watches = s.watches ∙ sym (watches_stay p w.faults e h k.watches);
}

-- Lines that put no message into a lane and remove none. ------------------------------------------------

abbrev pub LeavesPost : Op → Type 0
LeavesPost (op.Send session command k) = ⊥
LeavesPost (op.Evict function k) = ⊥
LeavesPost (op.Push function tx) = ⊥
LeavesPost (op.Notify function tx note) = ⊥
LeavesPost (op.Reply function session k) = ⊥
LeavesPost (op.Tell function session watch) = ⊥
LeavesPost (op.Ping function session) = ⊥
LeavesPost (op.AckOk function) = ⊥
LeavesPost (op.TakeDone session k tx) = ⊥
LeavesPost (op.TakeEvicted session k tx) = ⊥
LeavesPost (op.TakeRefused session k) = ⊥
LeavesPost (op.TakeLost session k) = ⊥
LeavesPost (op.TakeWatch session watch) = ⊥
LeavesPost (op.TakePing session ping) = ⊥
LeavesPost _ = Unit {0}

pub lane_left : (p : Plan) (l : Lane) (h : List Entry) (o : Op) → LeavesPost o → LeavesLane p l h o
lane_left p lane.Leader h o k = record { none = leader_none o k; kept = leader_kept o k }
  where
    leader_none : (o : Op) → LeavesPost o → letter_in p lane.Leader h o ≡ None
    leader_none (op.Push n t) k = absurd k
    leader_none o k = refl

    leader_kept : (o : Op) → LeavesPost o → removes lane.Leader h o ≡ false
    leader_kept (op.AckOk n) k = absurd k
    leader_kept o k = refl
lane_left p lane.Watch h o k = record { none = watch_none o k; kept = watch_kept o k }
  where
    watch_none : (o : Op) → LeavesPost o → letter_in p lane.Watch h o ≡ None
    watch_none (op.Notify n t w) k = absurd k
    watch_none o k = refl

    watch_kept : (o : Op) → LeavesPost o → removes lane.Watch h o ≡ false
    watch_kept (op.AckOk n) k = absurd k
    watch_kept o k = refl
lane_left p (lane.Session c) h o k = record { none = session_none o k; kept = session_kept o k }
  where
    session_none : (o : Op) → LeavesPost o → letter_in p (lane.Session c) h o ≡ None
    session_none (op.Send d i k) a = absurd a
    session_none (op.Evict n k) a = absurd a
    session_none o a = refl

    session_kept : (o : Op) → LeavesPost o → removes (lane.Session c) h o ≡ false
    session_kept (op.AckOk n) a = absurd a
    session_kept o a = refl
lane_left p (lane.Inbox c) h o k = record { none = inbox_none o k; kept = inbox_kept o k }
  where
    inbox_none : (o : Op) → LeavesPost o → letter_in p (lane.Inbox c) h o ≡ None
    inbox_none (op.Reply n d k) a = absurd a
    inbox_none (op.Tell n d w) a = absurd a
    inbox_none (op.Ping n d) a = absurd a
    inbox_none o a = refl

    inbox_kept : (o : Op) → LeavesPost o → removes (lane.Inbox c) h o ≡ false
    inbox_kept (op.AckOk n) a = absurd a
    inbox_kept (op.TakeDone d k t) a = absurd a
    inbox_kept (op.TakeEvicted d k t) a = absurd a
    inbox_kept (op.TakeRefused d k) a = absurd a
    inbox_kept (op.TakeLost d k) a = absurd a
    inbox_kept (op.TakeWatch d w) a = absurd a
    inbox_kept (op.TakePing d n) a = absurd a
    inbox_kept o a = refl

-- whose operation it is
abbrev pub IsOf : ℕ → Op → Type 0
IsOf n o = actor o ≡ Some n

pub post_left : (p : Plan) (faults : ℕ) (e : Entry) (h : List Entry) (o : Op) → e.op ≡ o → LeavesPost o → post_after p (e ∷ h) faults ≡ post_after p h faults
post_left p faults e h o g k = post_stays p faults e h (λ l. subst (LeavesLane p l h) (sym g) (lane_left p l h o k))

-- a fault leaves them all
pub fault_leaves : (p : Plan) (n : ℕ) (word : Word) (e : Entry) (h : List Entry) → e.op ≡ op.Fault n word → LeavesServices p e h
fault_leaves p n word e h g = record {
  records = subst LeavesRecords (sym g) tt;
  lanes = λ l. subst (LeavesLane p l h) (sym g) (lane_left p l h (op.Fault n word) tt);
  store = subst LeavesStore (sym g) tt;
  watches = subst LeavesWatches (sym g) tt;
}

-- two numbers differ both ways
pub other_number : (c d : ℕ) → (d == c) ≡ false → (c == d) ≡ false
other_number c d e = grind (arith, nat_tests)

-- Services that are what a history says, whatever their count of faults. --------------------------------

pub table_stands : (p : Plan) (h : List Entry) (f : ℕ) (z : table.Meaning) → z ≡ table_after p h f → z ≡ table_after p h z.faults
table_stands p h f z e = e ∙ ap (table_after p h) (sym (ap (λ z. z.faults) e))

pub post_stands : (p : Plan) (h : List Entry) (f : ℕ) (z : post.Meaning) → z ≡ post_after p h f → z ≡ post_after p h z.faults
post_stands p h f z e = e ∙ ap (post_after p h) (sym (ap (λ z. z.faults) e))

pub store_stands : (p : Plan) (h : List Entry) (f : ℕ) (z : user.Meaning) → z ≡ store_after p h f → z ≡ store_after p h z.faults
store_stands p h f z e = e ∙ ap (store_after p h) (sym (ap (λ z. z.faults) e))

pub watches_stand : (p : Plan) (h : List Entry) (f : ℕ) (z : Watches) → z ≡ watches_after p h f → z ≡ watches_after p h z.faults
watches_stand p h f z e = e ∙ ap (watches_after p h) (sym (ap (λ z. z.faults) e))

-- What each holds. --------------------------------------------------------------------------------------

pub lane_is : (p : Plan) (h : List Entry) (q : post.Meaning) (l : Lane) → q ≡ post_after p h q.faults → is_lane (length p.asks) l ≡ true → q.lanes l ≡ lane_after p l h
lane_is p h q l s i = ap (λ z. z.lanes l) s ∙ ap (λ b. cond b (lane_after p l h) empty_lane) i

pub session_is : (p : Plan) (c : ℕ) (h : List Entry) (t : table.Meaning) → t ≡ table_after p h t.faults → is_client p c ≡ true → session_of t c ≡ session_record p c h
session_is p c h t s i = ap (λ z. or_new_session (z.sessions c)) s ∙ ap (λ b. or_new_session (cond b (Some (session_record p c h)) None)) i

pub session_there : (p : Plan) (c : ℕ) (h : List Entry) (t : table.Meaning) → t ≡ table_after p h t.faults → is_client p c ≡ true → t.sessions c ≡ Some (session_record p c h)
session_there p c h t s i = ap (λ z. z.sessions c) s ∙ ap (λ b. cond b (Some (session_record p c h)) None) i

-- After an acknowledgement. -----------------------------------------------------------------------------

-- where a lane's head has the number, it is removed from that lane alone; else nothing is
pub acked_post : (p : Plan) (l : Lane) (n k faults : ℕ) (e : Entry) (h : List Entry) → is_lane (length p.asks) l ≡ true → letter_in p l h (op.AckOk n) ≡ None → removes l h (op.AckOk n) ≡ true → ((q : Lane) → same_lane q l ≡ false → LeavesLane p q h (op.AckOk n))
    → e.op ≡ (if is_number k (head_number ((post_after p h faults).lanes l)) then op.AckOk n else op.AckGone n) → after_ack (post_after p h faults) l (ack_of (post_after p h faults) l k) ≡ post_after p (e ∷ h) faults
acked_post p l n k faults e h i w r o g = by_head (is_number k (head_number ((post_after p h faults).lanes l))) refl g
  where
    same : (x : Option ℕ) → answers.is_number k x ≡ is_number k x
    same None = refl
    same (Some j) = refl

    by_head : (b : Bool) → is_number k (head_number ((post_after p h faults).lanes l)) ≡ b → e.op ≡ (if b then op.AckOk n else op.AckGone n) → after_ack (post_after p h faults) l (ack_of (post_after p h faults) l k) ≡ post_after p (e ∷ h) faults
    by_head true a b =
        ap (λ z. after_ack (post_after p h faults) l (if z then ack.Acked else ack.NotHead)) (same (head_number ((post_after p h faults).lanes l)) ∙ a)
        ∙ head_is_popped p faults l e h i (ap (letter_in p l h) b ∙ w) (ap (removes l h) b ∙ r) (λ q x. subst (LeavesLane p q h) (sym b) (o q x))
    by_head false a b = ap (λ z. after_ack (post_after p h faults) l (if z then ack.Acked else ack.NotHead)) (same (head_number ((post_after p h faults).lanes l)) ∙ a) ∙ sym (post_left p faults e h (op.AckGone n) b tt)
