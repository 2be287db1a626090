-- What the messages of an inbox say of requests.
use Rattle.std.specs.Prelude.{◌==◌, if◌then◌else◌, ◌||◌}
use Rattle.std.proofs.Common.{◌≡◌, ℕ, ◌++◌, Bool, true, false, List, [], ◌∷◌, refl, sym, ◌∙◌, ap, subst, arith, Option, Some, None}
use Rattle.std.proofs.lemmas.Bool.Decides.{nat_tests}
use Rattle.std.proofs.lemmas.Option.{same_Some, none-some}
use Rattle.std.proofs.lemmas.Bool.{eqb-true}
use Rattle.fk_print.specs.declared.entry.Entry.{Entry}
use Rattle.fk_print.specs.declared.op.Op.{Op}
use Rattle.fk_print.specs.declared.op.Op.TheVariants as op
use Rattle.fk_spec.specs.Plan.{Plan}
use Rattle.fk_spec.specs.Start.{when, task_of, request_of}
use Rattle.fk_spec.specs.Settling.{Outcome, outcome_of}
use Rattle.fk_spec.specs.Lanes.{Message, Done, Evicted, Kept, Watch, Ping, inbox_of, inbox_after, with_posted, without_first, posted_in, reply_message, kept_message, takes, is_evict}
use Rattle.fk_spec.specs.Leader as leader
use Rattle.fk_spec.specs.Function.{Place, Absent, Following, Leading, Telling, Beating, place_of}
use Rattle.fk_spec.specs.Next.{IsHistory}
use Rattle.fk_law.specs.Due.{IsDue, IsPushOf, IsApplied, Replies}
use Rattle.fk_law.specs.LeaderLane.{Stands}
use Rattle.fk_law.proofs.Due.{due}
use Rattle.fk_law.proofs.Committing.{its_push_stays}
use Rattle.fk_law.proofs.Growing.{committed_stays, numbers_never_fall}
use Rattle.fk_law.proofs.Leading.{leader_stands_where_it_may}
use Rattle.fk_law.proofs.Outcomes.{outcome_never_changes}
use Rattle.fk_law.proofs.Sending.{push_asks_for_its_request, request_never_changes}
use Rattle.fk_law.proofs.Starting.{follower_task, leader_task}
use Rattle.fk_law_watch.specs.Telling.{announces, is_announced}
use Rattle.fk_law_client.specs.Inboxes.{IsPublishedPush, IsTrueMessage, AreTrueMessages, InboxMessagesAreTrue}
use Rattle.fk_law_client.proofs.Keeping.{no_commit_kept}

-- It stays true. ---------------------------------------------------------------------------------------

pub published_push_stays : (p : Plan) (c k t : ℕ) (b : Bool) (e : Entry) (h : List Entry) → IsHistory p (e ∷ h) → IsPublishedPush p c k t b h → IsPublishedPush p c k t b (e ∷ h)
published_push_stays p c k t b e h l x =
    let r = push_asks_for_its_request p t x.function c k h l.0 x.is_of in
    let g = (numbers_never_fall h (e ∷ [])).mark in
    let m = x.published in
    record { function = x.function; is_of = its_push_stays p t x.function c k e h l x.is_of; committed = committed_stays t h (e ∷ []) x.committed; published = omega (arith, g, m); evicting = ap is_evict (request_never_changes p c k h (e ∷ []) r.0 l r.1 ∙ sym r.1) ∙ x.evicting }

announced_stays : (id : ℕ) (a b : Bool) → b ≡ true → (a || b) ≡ true
announced_stays id true b e = refl
announced_stays id false b e = e

pub message_stays : (p : Plan) (c : ℕ) (e : Entry) (h : List Entry) (m : Message) → IsHistory p (e ∷ h) → IsTrueMessage p c h m → IsTrueMessage p c (e ∷ h) m
message_stays p c e h (Done k t) l x = published_push_stays p c k t false e h l x
message_stays p c e h (Evicted k t) l x = published_push_stays p c k t true e h l x
message_stays p c e h (Kept k o) l x = (outcome_never_changes p c k h (e ∷ []) o l x.0, x.1)
message_stays p c e h (Watch watch) l x = announced_stays watch (announces watch e.op) (is_announced watch h) x
message_stays p c e h (Ping ping) l x = tt

messages_stay : (p : Plan) (c : ℕ) (e : Entry) (h : List Entry) (ms : List Message) → IsHistory p (e ∷ h) → AreTrueMessages p c h ms → AreTrueMessages p c (e ∷ h) ms
messages_stay p c e h [] l x = tt
messages_stay p c e h (m ∷ ms) l x = (message_stays p c e h m l x.0, messages_stay p c e h ms l x.1)

-- It is true when it is posted. ------------------------------------------------------------------------

done_true : (p : Plan) (c k t : ℕ) (h : List Entry) (m : Message) (b : Bool) → IsPublishedPush p c k t b h → Some (if b then Evicted k t else Done k t) ≡ Some m → IsTrueMessage p c h m
done_true p c k t h m true x e = subst (IsTrueMessage p c h) (same_Some (Evicted k t) m e) x
done_true p c k t h m false x e = subst (IsTrueMessage p c h) (same_Some (Done k t) m e) x

kept_true : (p : Plan) (c k : ℕ) (h : List Entry) (m : Message) (o : Option Outcome) → outcome_of c k h ≡ o → (IsApplied o → ⊥) → kept_message k o ≡ Some m → IsTrueMessage p c h m
kept_true p c k h m None a n e = absurd (none-some m e)
kept_true p c k h m (Some o) a n e = subst (IsTrueMessage p c h) (same_Some (Kept k o) m e) (a, n)

published_by : (p : Plan) (n t c k f : ℕ) (s : leader.Stage) (h : List Entry) → IsHistory p h → place_of p n h ≡ Leading t s → s ≡ leader.Reply → IsPushOf t f c k h → IsPublishedPush p c k t (is_evict (request_of p c k h)) h
published_by p n t c k f s h l e r i =
    let w = subst (Stands h t) r (leader_stands_where_it_may p n t s h l e) in
    record { function = f; is_of = i; committed = w.0; published = w.1; evicting = refl }

reply_true : (p : Plan) (n c k : ℕ) (h : List Entry) (m : Message) → IsHistory p h → Replies c k h (place_of p n h) → reply_message (is_evict (request_of p c k h)) k (outcome_of c k h) (task_of n h) ≡ Some m → IsTrueMessage p c h m
reply_true p n c k h m l d q = by_place (place_of p n h) refl d
  where
    by_place : (x : Place) → place_of p n h ≡ x → Replies c k h x → IsTrueMessage p c h m
    by_place (Following f) e i = kept_true p c k h m (outcome_of c k h) refl (subst (λ z. IsApplied (outcome_of z k h) → ⊥) i.1 (subst (λ z. IsApplied (outcome_of f.session z h) → ⊥) i.2 (no_commit_kept p n h f l e i.0))) (subst (λ t. reply_message (is_evict (request_of p c k h)) k (outcome_of c k h) t ≡ Some m) (follower_task p n h f l e) q)
    by_place (Leading t s) e i =
        done_true p c k t h m (is_evict (request_of p c k h)) (published_by p n t c k i.1 s h l e i.0 i.2)
        (subst (λ t. reply_message (is_evict (request_of p c k h)) k (outcome_of c k h) t ≡ Some m) (leader_task p n h t s l e) q)
    by_place Absent e i = absurd i
    by_place (Telling w t s) e i = absurd i
    by_place (Beating s b) e i = absurd i

posted_true : (p : Plan) (c : ℕ) (e : Entry) (h : List Entry) (o : Op) (m : Message) → e.op ≡ o → IsHistory p (e ∷ h) → IsDue p h o → posted_in p c h o ≡ Some m → IsTrueMessage p c (e ∷ h) m
posted_true p c e h (op.Reply n s k) m u l d q = by_test (s == c) refl q
  where
    by_test : (b : Bool) → (s == c) ≡ b → (if b then reply_message (is_evict (request_of p c k h)) k (outcome_of c k h) (task_of n h) else None) ≡ Some m → IsTrueMessage p c (e ∷ h) m
    by_test true f a = message_stays p c e h m l (reply_true p n c k h m l.0 (subst (λ x. Replies x k h (place_of p n h)) (eqb-true s c f) d) a)
    by_test false f a = absurd (none-some m a)
posted_true p c e h (op.Tell n s w) m u l d q = by_test (s == c) q
  where
    told : is_announced w (e ∷ h) ≡ true
    told = rw u (grind (arith, nat_tests))

    by_test : (b : Bool) → when b (Watch w) ≡ Some m → IsTrueMessage p c (e ∷ h) m
    by_test true a = subst (IsTrueMessage p c (e ∷ h)) (same_Some (Watch w) m a) told
    by_test false a = absurd (none-some m a)
posted_true p c e h (op.Ping n s) m u l d q = by_test (s == c) q
  where
    by_test : (b : Bool) → when b (Ping n) ≡ Some m → IsTrueMessage p c (e ∷ h) m
    by_test true a = subst (IsTrueMessage p c (e ∷ h)) (same_Some (Ping n) m a) tt
    by_test false a = absurd (none-some m a)
posted_true p c e h o m u l d q = absurd (none-some m q)

-- Inboxes. ---------------------------------------------------------------------------------------------

appended_true : (p : Plan) (c : ℕ) (h : List Entry) (ms : List Message) (m : Message) → AreTrueMessages p c h ms → IsTrueMessage p c h m → AreTrueMessages p c h (ms ++ m ∷ [])
appended_true p c h [] m x y = (y, tt)
appended_true p c h (n ∷ ms) m x y = (x.0, appended_true p c h ms m x.1 y)

rest_true : (p : Plan) (c : ℕ) (h : List Entry) (ms : List Message) → AreTrueMessages p c h ms → AreTrueMessages p c h (without_first ms)
rest_true p c h [] x = tt
rest_true p c h (m ∷ ms) x = x.1

with_posted_true : (p : Plan) (c : ℕ) (h : List Entry) (ms : List Message) (o : Option Message) → AreTrueMessages p c h ms → ((m : Message) → o ≡ Some m → IsTrueMessage p c h m) → AreTrueMessages p c h (with_posted ms o)
with_posted_true p c h ms None x y = x
with_posted_true p c h ms (Some m) x y = appended_true p c h ms m x (y m refl)

inbox_step : (p : Plan) (c : ℕ) (h : List Entry) (b : Bool) (ms : List Message) (o : Option Message) → AreTrueMessages p c h ms → ((m : Message) → o ≡ Some m → IsTrueMessage p c h m) → AreTrueMessages p c h (inbox_after b ms o)
inbox_step p c h true ms o x y = rest_true p c h ms x
inbox_step p c h false ms o x y = with_posted_true p c h ms o x y

pub inbox_messages : InboxMessagesAreTrue
inbox_messages p c [] l = tt
inbox_messages p c (e ∷ h) l =
    inbox_step p c (e ∷ h) (takes c e.op) (inbox_of p c h) (posted_in p c h e.op) (messages_stay p c e h (inbox_of p c h) l (inbox_messages p c h l.0))
    (λ m q. posted_true p c e h e.op m refl l (due p e h l) q)
