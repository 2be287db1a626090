-- What a client reads of services that stand as a history says is what the rules read of the history.
use Rattle.std.specs.Prelude.{◌==◌, if◌then◌else◌}
use Rattle.std.proofs.Common.{◌≡◌, ℕ, ◌+◌, Bool, true, false, cond, List, [], ◌∷◌, length, refl, sym, ◌∙◌, ap, arith, Option, Some, None}
use Rattle.std.proofs.lemmas.Bool.Decides.{nat_tests}
use Rattle.std.proofs.lemmas.Option.{same_Some, none-some}
use Rattle.fk_print.specs.declared.entry.Entry.{Entry}
use Rattle.fk_print.specs.declared.op.Op.{Op}
use Rattle.fk_print.specs.declared.op.Op.TheVariants as op
use Rattle.fk_queue.specs.declared.lane.Lane.TheVariants as lane
use Rattle.fk_queue.specs.Lanes.{is_lane}
use Rattle.fk_queue.specs.Letters.{empty_lane}
use Rattle.fk_watch.specs.Notes.{watch_tell}
use Rattle.fk_wire.specs.declared.message.Tell.{Tell}
use Rattle.fk_wire.specs.declared.message.Tell.TheVariants as tell
use Rattle.fk_stand.specs.Messages.{done_tell, kept_tell, push_message_of, tell_of}
use Rattle.fk_stand.specs.Posts.{lane_after, post_after}
use Rattle.fk_stand.specs.Stores.{store_after, watches_after}
use Rattle.fk_spec.specs.Plan.{Plan, asks_in, is_client}
use Rattle.fk_spec.specs.Start.{or_else, sends_of}
use Rattle.fk_spec.specs.Shown.{seen_by}
use Rattle.fk_spec.specs.Settling.{Outcome, Committed, Refused, Passed, mark_of}
use Rattle.fk_spec.specs.Stored.{record_of, stamp_of}
use Rattle.fk_spec.specs.Watches.{Firing, firing_in, firing_of, firing_with, firings, last_sweep, published_epoch, set_watches, touches_of_push}
use Rattle.fk_spec.specs.Lanes.{Message, Done, Evicted, Kept, Watch, Ping, inbox_of}
use Rattle.fk_spec.specs.Sight.{Sight, first_message, sight_of}
use Rattle.fk_spec.specs.Next.{IsHistory}
use Rattle.fk_client.specs.Sighting.{firing_told, head_told, message_told, sight_by}
use Rattle.fk_client.specs.declared.unanswered.Unanswered.{Unanswered}
use Rattle.fk_spec.specs.Client.{Client}
use Rattle.fk_agree.proofs.Counting.{lanes_are_counted}
use Rattle.fk_agree_client.specs.Inbox.{FirstTells}
use Rattle.fk_agree_client.specs.Standing.{standing}
use Rattle.fk_agree_client.proofs.Inbox.{mapped}
use Rattle.fk_agree_client.proofs.Numbers.{numbers_agree}

-- The head of the inbox. ---------------------------------------------------------------------------------

with_its_number : (id : ℕ) (fs : List Firing) (f : Firing) → firing_with id fs ≡ Some f → f.watch.id ≡ id
with_its_number id [] f q = absurd (none-some f q)
with_its_number id (g ∷ fs) f q = by_number (g.watch.id == id) refl q (λ r. with_its_number id fs f r)
  where
    by_number : (b : Bool) → (g.watch.id == id) ≡ b → (if b then Some g else firing_with id fs) ≡ Some f → (firing_with id fs ≡ Some f → f.watch.id ≡ id) → f.watch.id ≡ id
    by_number true e q r = sym (ap (λ z. z.watch.id) (same_Some g f q)) ∙ same e
      where
        same : (g.watch.id == id) ≡ true → g.watch.id ≡ id
        same e = grind (arith, nat_tests)
    by_number false e q r = r q

fired_here : (p : Plan) (id : ℕ) (h : List Entry) (f : Firing) (o : Op) → firing_in p id h o ≡ Some f → f.watch.id ≡ id
fired_here p id h f (op.SweepOk n t fired) q = with_its_number id (firings t (touches_of_push p t h) (set_watches p h)) f q
fired_here p id h f o q = absurd (none-some f q)

fired_number : (p : Plan) (id : ℕ) (h : List Entry) (f : Firing) → firing_of p id h ≡ Some f → f.watch.id ≡ id
fired_number p id [] f q = absurd (none-some f q)
fired_number p id (e ∷ h) f q = by_line (firing_in p id h e.op) refl q (λ r. fired_number p id h f r)
  where
    by_line : (o : Option Firing) → firing_in p id h e.op ≡ o → or_else o (firing_of p id h) ≡ Some f → (firing_of p id h ≡ Some f → f.watch.id ≡ id) → f.watch.id ≡ id
    by_line None a q r = r q
    by_line (Some g) a q r = fired_here p id h f e.op (a ∙ q)

kept_back : (k : ℕ) (o : Outcome) (t : Tell) → kept_tell k o ≡ Some t → message_told t ≡ Kept k o
kept_back k (Committed tx) t q = absurd (none-some t q)
kept_back k (Refused code place at) t q = sym (ap message_told (same_Some (tell.Refused k code at place) t q))
kept_back k (Passed None) t q = absurd (none-some t q)
kept_back k (Passed (Some loss)) t q = sym (ap message_told (same_Some (tell.Lost k loss.path loss.own loss.found loss.moment) t q))

-- a message of the rules is what the message of the post tells
pub told_back : (p : Plan) (h : List Entry) (m : Message) (t : Tell) → tell_of p h m ≡ Some t → message_told t ≡ m
told_back p h (Done k tx) t q = let x = mapped (done_tell k tx) (push_message_of p tx h) t q in sym (ap message_told x.2)
told_back p h (Evicted k tx) t q = sym (ap message_told (same_Some (tell.Evicted k tx) t q))
told_back p h (Kept k o) t q = kept_back k o t q
told_back p h (Watch id) t q = let x = mapped watch_tell (firing_of p id h) t q in sym (ap message_told x.2) ∙ ap Watch (fired_number p id h x.0 x.1)
told_back p h (Ping n) t q = sym (ap message_told (same_Some (tell.Ping n) t q))

first_is : (p : Plan) (h : List Entry) (ms : List Message) (told : Option Tell) → FirstTells p h ms told → head_told told ≡ first_message ms
first_is p h [] None i = refl
first_is p h [] (Some t) i = absurd i
first_is p h (m ∷ ms) None i = absurd i
first_is p h (m ∷ ms) (Some t) i = ap Some (told_back p h m t i)

-- how the watch fired that the first message tells of
pub told_firing : (p : Plan) (id : ℕ) (h : List Entry) (ms : List Message) (told : Option Tell) → FirstTells p h (Watch id ∷ ms) told → firing_told told ≡ firing_of p id h
told_firing p id h ms None i = absurd i
told_firing p id h ms (Some t) i = let x = mapped watch_tell (firing_of p id h) t i in sym (ap (λ z. firing_told (Some z)) x.2) ∙ sym x.1

-- All that it reads. -------------------------------------------------------------------------------------

next_is : (p : Plan) (c : ℕ) (h : List Entry) → IsHistory p h → is_client p c ≡ true → (cond (is_lane (length p.asks) (lane.Session c)) (lane_after p (lane.Session c) h) empty_lane).given + 1 ≡ sends_of c h + 1
next_is p c h l i = ap (λ b. (cond b (lane_after p (lane.Session c) h) empty_lane).given + 1) i ∙ ap (λ n. n + 1) ((lanes_are_counted p h l).0 c).count

-- what the rules read, with what the head of its inbox tells of a watch
abbrev pub told_sight : Plan → ℕ → List Entry → Option Tell → Sight
told_sight p c h told = record (sight_of p c h) { firing = λ id. firing_told told }

pub sights_agree : (p : Plan) (c fq fw fu : ℕ) (h : List Entry) (told : Option Tell) (x : Client Unanswered) → IsHistory p h → is_client p c ≡ true → FirstTells p h (inbox_of p c h) told
    → sight_by (post_after p h fq) (watches_after p h fw) (store_after p h fu) told (standing p c h x) ≡ told_sight p c h told
sights_agree p c fq fw fu h told x l i r = λ j. record {
  session = c;
  asks = asks_in p c;
  head = (first_is p h (inbox_of p c h) told r) j;
  seen = seen_by c h;
  mark = mark_of h;
  epoch = published_epoch p h;
  next = (next_is p c h l i) j;
  node = λ path. record_of p path h;
  stamp = λ path. stamp_of path h;
  sweep = λ path. last_sweep p path h;
  watch = λ path kind. (numbers_agree p c fw path kind h l) j;
  firing = λ id. firing_told told;
}
