-- Each message that waits in a lane of functions is the text of what its line sent.
use Rattle.std.specs.Prelude.{◌==◌, option_map}
use Rattle.std.specs.List.{AllByRecursion}
use Rattle.std.proofs.Common.{◌≡◌, ℕ, ◌+◌, ◌≤◌, ◌++◌, Bool, true, false, cond, List, [], ◌∷◌, refl, sym, ◌∙◌, ap, subst, arith, Option, Some, None}
use Rattle.std.proofs.lemmas.Bool.{eq-eqb}
use Rattle.std.proofs.lemmas.Bool.Decides.{nat_tests}
use Rattle.std.proofs.lemmas.Option.{same_Some}
use Rattle.fk_print.specs.declared.entry.Entry.{Entry}
use Rattle.fk_print.specs.declared.op.Op.{Op}
use Rattle.fk_print.specs.declared.op.Op.TheVariants as op
use Rattle.fk_queue.specs.declared.lane.Lane.TheVariants as lane
use Rattle.fk_queue.specs.declared.letter.Letter.{Letter}
use Rattle.fk_queue.specs.Letters.{LaneState, first_bytes, first_number, rest}
use Rattle.fk_tree.specs.declared.request.Request.{Request}
use Rattle.fk_wire.specs.NoteText.{note_text}
use Rattle.fk_wire.specs.PushedText.{pushed_text}
use Rattle.fk_wire.specs.SentText.{sent_text}
use Rattle.fk_wire.specs.declared.message.Pushed.{Pushed}
use Rattle.fk_wire.specs.declared.version.Version.TheVariants as version
use Rattle.fk_stand.specs.Messages as messages
use Rattle.fk_stand.specs.Messages.{push_message, push_message_of, sent_from}
use Rattle.fk_stand.specs.Posts.{lane_after, lane_step, letter_in, removes}
use Rattle.fk_spec.specs.Plan.{Plan}
use Rattle.fk_spec.specs.Start.{Origin, count_push, or_else, origin_here, origin_of, pushed_in, pushes_of, request_from, seen_from, sends_of, sent_in}
use Rattle.fk_spec.specs.Lanes.{notes_of}
use Rattle.fk_spec.specs.Teller as teller
use Rattle.fk_spec.specs.Teller.{note_in, note_of}
use Rattle.fk_spec.specs.Watches.{swept_by}
use Rattle.fk_spec.specs.Next.{IsHistory}
use Rattle.fk_law.specs.Due.{IsDue}
use Rattle.fk_law.proofs.Due.{due}
use Rattle.fk_law.proofs.Sending.{origin_stays, request_stays, request_was_sent}
use Rattle.fk_law_watch.proofs.Noting.{note_stays}
use Rattle.fk_agree.specs.Heads.{IsPushText, IsRequestText, IsTextOfNote, LeaderHeadIsItsPush, SessionHeadIsItsRequest, WatchHeadIsItsNote, note_as}
use Rattle.fk_agree.proofs.Carried.{its_message}
use Rattle.fk_agree.proofs.Counting.{heads_are_the_rules, lanes_are_counted}

-- Lists of letters. -------------------------------------------------------------------------------------

-- what holds of each letter
abbrev Hold : (ℕ → List ℕ → Type 0) → List Letter → Type 0
Hold P xs = AllByRecursion (λ (x : Letter). P x.number x.bytes) xs

hold_all : (P Q : ℕ → List ℕ → Type 0) (xs : List Letter) → ((n : ℕ) (bytes : List ℕ) → P n bytes → Q n bytes) → Hold P xs → Hold Q xs
hold_all P Q [] f i = i
hold_all P Q (x ∷ xs) f i = (f x.number x.bytes i.0, hold_all P Q xs f i.1)

hold_more : (P : ℕ → List ℕ → Type 0) (xs : List Letter) (x : Letter) → Hold P xs → P x.number x.bytes → Hold P (xs ++ x ∷ [])
hold_more P [] x i a = (a, tt)
hold_more P (y ∷ xs) x i a = (i.0, hold_more P xs x i.1 a)

hold_rest : (P : ℕ → List ℕ → Type 0) (xs : List Letter) → Hold P xs → Hold P (rest xs)
hold_rest P [] i = i
hold_rest P (x ∷ xs) i = i.1

-- a lane after a line: the letters that were there, and one that the line put
hold_step : (P : ℕ → List ℕ → Type 0) (o : Option (List ℕ)) (b : Bool) (s : LaneState) → Hold P s.waiting → ((bytes : List ℕ) → o ≡ Some bytes → P (s.given + 1) bytes) → Hold P (lane_step o b s).waiting
hold_step P None true s i f = hold_rest P s.waiting i
hold_step P None false s i f = i
hold_step P (Some bytes) b s i f = hold_more P s.waiting (record { number = s.given + 1; bytes = bytes }) i (f bytes refl)

hold_head : (P : ℕ → List ℕ → Type 0) (xs : List Letter) (k : ℕ) → Hold P xs → first_number xs ≡ Some k → P k (first_bytes xs)
hold_head P [] k i e = absurd (none_some e)
  where
    none_some : None ≡ Some k → ⊥
    none_some e = grind arith
hold_head P (x ∷ xs) k i e = subst (λ n. P n x.bytes) (same_Some x.number k e) i.0

-- A session's lane. -------------------------------------------------------------------------------------

request_on : (p : Plan) (c k : ℕ) (e : Entry) (h : List Entry) (bytes : List ℕ) → IsHistory p (e ∷ h) → IsRequestText p c k h bytes → IsRequestText p c k (e ∷ h) bytes
request_on p c k e h bytes l i =
    let b = (request_was_sent p c k h i.request l.0 i.requested).1 in
    record {
      request = i.request;
      requested = request_stays p c k e h b ∙ i.requested;
      text = i.text ∙ ap (λ o. sent_text version.Two (record { request = i.request; seen = seen_from o })) (sym (origin_stays c k e h b));
    }

request_new : (p : Plan) (c : ℕ) (e : Entry) (h : List Entry) (bytes : List ℕ) → letter_in p (lane.Session c) h e.op ≡ Some bytes → IsRequestText p c (sends_of c h + 1) (e ∷ h) bytes
request_new p c e h bytes f = by_origin (sent_in c h e.op) refl f
  where
    none_some : None ≡ Some bytes → ⊥
    none_some g = grind arith

    by_request : (y : Origin) (r : Option Request) → sent_in c h e.op ≡ Some y → request_from p c (Some y) ≡ r → option_map (sent_text version.Two) (option_map (λ x. record { request = x; seen = seen_from (Some y) }) r) ≡ Some bytes → IsRequestText p c (sends_of c h + 1) (e ∷ h) bytes
    by_request y None a b g = absurd (none_some g)
    by_request y (Some r) a b g = record {
      request = r;
      requested = ap (request_from p c) here ∙ b;
      text = sym (same_Some (sent_text version.Two (record { request = r; seen = seen_from (Some y) })) bytes g) ∙ ap (λ o. sent_text version.Two (record { request = r; seen = seen_from o })) (sym here);
    }
      where
        here : origin_of c (sends_of c h + 1) (e ∷ h) ≡ Some y
        here = ap (λ o. origin_here (sends_of c h) (sends_of c h + 1) o (origin_of c (sends_of c h + 1) h)) a ∙ ap (λ b. cond b (Some y) (origin_of c (sends_of c h + 1) h)) (eq-eqb (sends_of c h + 1) (sends_of c h + 1) refl)

    by_origin : (o : Option Origin) → sent_in c h e.op ≡ o → option_map (sent_text version.Two) (sent_from p c o) ≡ Some bytes → IsRequestText p c (sends_of c h + 1) (e ∷ h) bytes
    by_origin None a g = absurd (none_some g)
    by_origin (Some y) a g = by_request y (request_from p c (Some y)) a refl g

requests_wait : (p : Plan) (c : ℕ) (h : List Entry) → IsHistory p h → Hold (λ k bytes. IsRequestText p c k h bytes) (lane_after p (lane.Session c) h).waiting
requests_wait p c [] l = tt
requests_wait p c (e ∷ h) l =
    let s = lane_after p (lane.Session c) h in
    hold_step (λ k bytes. IsRequestText p c k (e ∷ h) bytes) (letter_in p (lane.Session c) h e.op) (removes (lane.Session c) h e.op) s
    (hold_all (λ k bytes. IsRequestText p c k h bytes) (λ k bytes. IsRequestText p c k (e ∷ h) bytes) s.waiting (λ k bytes i. request_on p c k e h bytes l i) (requests_wait p c h l.0))
    (λ bytes f. subst (λ g. IsRequestText p c (g + 1) (e ∷ h) bytes) (sym ((lanes_are_counted p h l.0).0 c).count) (request_new p c e h bytes f))

pub session_head_is_its_request : SessionHeadIsItsRequest
session_head_is_its_request p c k h l e = hold_head (λ k bytes. IsRequestText p c k h bytes) (lane_after p (lane.Session c) h).waiting k (requests_wait p c h l) ((heads_are_the_rules p h l).0 c ∙ e)

-- The leader's lane. ------------------------------------------------------------------------------------

low_step : (p : Plan) (t : ℕ) (h : List Entry) (o : Op) (x : Pushed) → IsDue p h o → (push_message_of p t h ≡ Some x → t ≤ pushes_of h) → or_else (messages.push_here p t h o) (push_message_of p t h) ≡ Some x → t ≤ count_push (pushed_in 0 o) (pushes_of h)
low_step p t h (op.Push n s) x d i e = by_number (s == t) refl e
  where
    by_number : (b : Bool) → (s == t) ≡ b → or_else (cond b (push_message p h (op.Push n s)) None) (push_message_of p t h) ≡ Some x → t ≤ pushes_of h + 1
    by_number true f g = let k = d.3 in grind (arith, nat_tests)
    by_number false f g = let k = i g in omega (arith, k)
low_step p t h o x d i e = i e

-- a message has the number of a push
message_low : (p : Plan) (t : ℕ) (h : List Entry) (x : Pushed) → IsHistory p h → push_message_of p t h ≡ Some x → t ≤ pushes_of h
message_low p t [] x l e = absurd (grind arith)
message_low p t (y ∷ h) x l e = low_step p t h y.op x (due p y h l) (message_low p t h x l.0) e

old_step : (p : Plan) (t : ℕ) (h : List Entry) (o : Op) → IsDue p h o → t ≤ pushes_of h → messages.push_here p t h o ≡ None
old_step p t h (op.Push n s) d b = by_number (s == t) refl
  where
    by_number : (z : Bool) → (s == t) ≡ z → cond z (push_message p h (op.Push n s)) None ≡ None
    by_number true f = let k = d.3 in absurd (grind (arith, nat_tests))
    by_number false f = refl
old_step p t h o d b = refl

pub message_stays : (p : Plan) (t : ℕ) (e : Entry) (h : List Entry) (x : Pushed) → IsHistory p (e ∷ h) → push_message_of p t h ≡ Some x → push_message_of p t (e ∷ h) ≡ Some x
message_stays p t e h x l i = ap (λ o. or_else o (push_message_of p t h)) (old_step p t h e.op (due p e h l) (message_low p t h x l.0 i)) ∙ i

push_on : (p : Plan) (t : ℕ) (e : Entry) (h : List Entry) (bytes : List ℕ) → IsHistory p (e ∷ h) → IsPushText p t h bytes → IsPushText p t (e ∷ h) bytes
push_on p t e h bytes l i = record { push = i.push; pushed = message_stays p t e h i.push l i.pushed; text = i.text }

push_new : (p : Plan) (e : Entry) (h : List Entry) (o : Op) (bytes : List ℕ) → e.op ≡ o → IsDue p h o → option_map (pushed_text version.Two) (push_message p h o) ≡ Some bytes → IsPushText p (pushes_of h + 1) (e ∷ h) bytes
push_new p e h (op.Push n t) bytes q d f = by_message (push_message p h (op.Push n t)) refl f
  where
    none_some : None ≡ Some bytes → ⊥
    none_some g = grind arith

    by_message : (m : Option Pushed) → push_message p h (op.Push n t) ≡ m → option_map (pushed_text version.Two) m ≡ Some bytes → IsPushText p (pushes_of h + 1) (e ∷ h) bytes
    by_message None a g = absurd (none_some g)
    by_message (Some x) a g = record {
      push = x;
      pushed = ap (λ m. or_else m (push_message_of p (pushes_of h + 1) h)) (its_message p (pushes_of h + 1) n h e.op (q ∙ ap (op.Push n) d.3) ∙ (ap (λ s. push_message p h (op.Push n s)) (sym d.3) ∙ a));
      text = sym (same_Some (pushed_text version.Two x) bytes g);
    }
push_new p e h o bytes q d f = absurd (grind arith)

pushes_wait : (p : Plan) (h : List Entry) → IsHistory p h → Hold (λ t bytes. IsPushText p t h bytes) (lane_after p lane.Leader h).waiting
pushes_wait p [] l = tt
pushes_wait p (e ∷ h) l =
    let s = lane_after p lane.Leader h in
    hold_step (λ t bytes. IsPushText p t (e ∷ h) bytes) (letter_in p lane.Leader h e.op) (removes lane.Leader h e.op) s
    (hold_all (λ t bytes. IsPushText p t h bytes) (λ t bytes. IsPushText p t (e ∷ h) bytes) s.waiting (λ t bytes i. push_on p t e h bytes l i) (pushes_wait p h l.0))
    (λ bytes f. subst (λ g. IsPushText p (g + 1) (e ∷ h) bytes) (sym (lanes_are_counted p h l.0).1.count) (push_new p e h e.op bytes refl (due p e h l) f))

pub leader_head_is_its_push : LeaderHeadIsItsPush
leader_head_is_its_push p t h l e = hold_head (λ t bytes. IsPushText p t h bytes) (lane_after p lane.Leader h).waiting t (pushes_wait p h l) ((heads_are_the_rules p h l).1 ∙ e)

-- The watch lane. ---------------------------------------------------------------------------------------

note_on : (p : Plan) (w : ℕ) (e : Entry) (h : List Entry) (bytes : List ℕ) → IsHistory p (e ∷ h) → IsTextOfNote p w h bytes → IsTextOfNote p w (e ∷ h) bytes
note_on p w e h bytes l i = record { note = i.note; noted = note_stays p w e h i.note l i.noted; text = i.text }

note_new : (p : Plan) (e : Entry) (h : List Entry) (o : Op) (bytes : List ℕ) → e.op ≡ o → IsDue p h o → letter_in p lane.Watch h o ≡ Some bytes → IsTextOfNote p (notes_of h + 1) (e ∷ h) bytes
note_new p e h (op.Notify n t w) bytes q d f = record {
  note = x;
  noted = ap (λ o. or_else (note_in p (notes_of h + 1) h o) (note_of p (notes_of h + 1) h)) q ∙ ap (λ b. or_else (cond b (Some x) None) (note_of p (notes_of h + 1) h)) (its_own w d.1);
  text = sym (same_Some (note_text version.Two (note_as x)) bytes f);
}
  where
    x : teller.Note
    x = record { tx = t; fired = (swept_by p n h).fired }

    its_own : (w : ℕ) → w ≡ notes_of h + 1 → (w == notes_of h + 1) ≡ true
    its_own w g = grind (arith, nat_tests)
note_new p e h o bytes q d f = absurd (grind arith)

notes_wait : (p : Plan) (h : List Entry) → IsHistory p h → Hold (λ w bytes. IsTextOfNote p w h bytes) (lane_after p lane.Watch h).waiting
notes_wait p [] l = tt
notes_wait p (e ∷ h) l =
    let s = lane_after p lane.Watch h in
    hold_step (λ w bytes. IsTextOfNote p w (e ∷ h) bytes) (letter_in p lane.Watch h e.op) (removes lane.Watch h e.op) s
    (hold_all (λ w bytes. IsTextOfNote p w h bytes) (λ w bytes. IsTextOfNote p w (e ∷ h) bytes) s.waiting (λ w bytes i. note_on p w e h bytes l i) (notes_wait p h l.0))
    (λ bytes f. subst (λ g. IsTextOfNote p (g + 1) (e ∷ h) bytes) (sym (lanes_are_counted p h l.0).2.count) (note_new p e h e.op bytes refl (due p e h l) f))

pub watch_head_is_its_note : WatchHeadIsItsNote
watch_head_is_its_note p w h l e = hold_head (λ w bytes. IsTextOfNote p w h bytes) (lane_after p lane.Watch h).waiting w (notes_wait p h l) ((heads_are_the_rules p h l).2 ∙ e)
