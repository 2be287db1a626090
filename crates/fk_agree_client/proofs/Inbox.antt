-- The letters of an inbox are the texts of its messages.
use Rattle.std.specs.Prelude.{option_map, option_and_then}
use Rattle.std.proofs.Common.{◌≡◌, ℕ, ◌+◌, ◌++◌, Bool, true, false, List, [], ◌∷◌, refl, sym, ◌∙◌, ap, subst, Option, Some, None}
use Rattle.std.proofs.lemmas.Bool.{false≢true}
use Rattle.std.proofs.lemmas.Option.{same_Some, none-some}
use Rattle.fk_print.specs.declared.entry.Entry.{Entry}
use Rattle.fk_print.specs.declared.op.Op.{Op}
use Rattle.fk_print.specs.declared.op.Op.TheVariants as op
use Rattle.fk_queue.specs.declared.lane.Lane.TheVariants as lane
use Rattle.fk_queue.specs.declared.letter.Letter.{Letter}
use Rattle.fk_queue.specs.Letters.{LaneState, rest}
use Rattle.fk_watch.specs.Notes.{watch_tell}
use Rattle.fk_wire.specs.TellText.{tell_text}
use Rattle.fk_wire.specs.declared.message.Tell.{Tell}
use Rattle.fk_wire.specs.declared.message.Tell.TheVariants as tell
use Rattle.fk_wire.specs.declared.version.Version.TheVariants as version
use Rattle.fk_wire.proofs.TellBack.{tells}
use Rattle.fk_wire.proofs.Texts.{one_message}
use Rattle.fk_stand.specs.Messages.{done_tell, kept_tell, push_here, push_message_of, tell_of}
use Rattle.fk_stand.specs.Posts.{lane_after, lane_step, letter_in, removes}
use Rattle.fk_spec.specs.Plan.{Plan}
use Rattle.fk_spec.specs.Start.{or_else}
use Rattle.fk_spec.specs.Settling.{Outcome, Committed, Refused, Passed, outcome_of}
use Rattle.fk_spec.specs.Watches.{firing_in, firing_of}
use Rattle.fk_spec.specs.Lanes.{Message, Done, Evicted, Kept, Watch, Ping, inbox_after, inbox_of, posted_in, takes, with_posted, without_first}
use Rattle.fk_spec.specs.Next.{IsHistory}
use Rattle.fk_law.specs.Due.{IsApplied}
use Rattle.fk_law.proofs.Finding.{lost_has_a_loss}
use Rattle.fk_law_watch.proofs.SetWatches.{firing_never_changes}
use Rattle.fk_law_watch.proofs.Telling.{announced_has_fired}
use Rattle.fk_law_client.specs.Inboxes.{AreTrueMessages, IsTrueMessage}
use Rattle.fk_law_client.proofs.Messages.{inbox_messages}
use Rattle.fk_client.specs.Told.{IsTold}
use Rattle.fk_agree.proofs.Messages.{message_never_changes, push_has_its_message}
use Rattle.fk_agree_client.specs.Inbox.{AllSay, CanBeSaid, FirstTells, HeadIsWhatItTells, InboxSaysItsMessages, Says}

-- what an optional item was made of
pub mapped : {A B : Type 0} → (f : A → B) (o : Option A) (y : B) → option_map f o ≡ Some y → (x : A) × (o ≡ Some x) × (f x ≡ y)
mapped f None y e = absurd (none-some y e)
mapped f (Some x) y e = (x, refl, same_Some (f x) y e)

-- What a message tells stays. ----------------------------------------------------------------------------

done_stays : (p : Plan) (k tx : ℕ) (e : Entry) (h : List Entry) (t : Tell) → IsHistory p (e ∷ h) → option_map (done_tell k tx) (push_message_of p tx h) ≡ Some t → option_map (done_tell k tx) (push_message_of p tx (e ∷ h)) ≡ Some t
done_stays p k tx e h t l q =
    let x = mapped (done_tell k tx) (push_message_of p tx h) t q in
    ap (option_map (done_tell k tx)) (message_never_changes p tx e h x.0 l x.1) ∙ ap Some x.2

watch_stays : (p : Plan) (id : ℕ) (e : Entry) (h : List Entry) (t : Tell) → IsHistory p (e ∷ h) → option_map watch_tell (firing_of p id h) ≡ Some t → option_map watch_tell (firing_of p id (e ∷ h)) ≡ Some t
watch_stays p id e h t l q =
    let x = mapped watch_tell (firing_of p id h) t q in
    ap (option_map watch_tell) (firing_never_changes p id h (e ∷ []) x.0 l x.1) ∙ ap Some x.2

pub tell_stays : (p : Plan) (e : Entry) (h : List Entry) (m : Message) (t : Tell) → IsHistory p (e ∷ h) → tell_of p h m ≡ Some t → tell_of p (e ∷ h) m ≡ Some t
tell_stays p e h (Done k tx) t l q = done_stays p k tx e h t l q
tell_stays p e h (Evicted k tx) t l q = q
tell_stays p e h (Kept k o) t l q = q
tell_stays p e h (Watch id) t l q = watch_stays p id e h t l q
tell_stays p e h (Ping n) t l q = q

says_stays : (p : Plan) (e : Entry) (h : List Entry) (x : Letter) (m : Message) → IsHistory p (e ∷ h) → Says p h x m → Says p (e ∷ h) x m
says_stays p e h x m l s = record { tell = s.tell; told = tell_stays p e h m s.tell l s.told; text = s.text }

all_stay : (p : Plan) (e : Entry) (h : List Entry) (xs : List Letter) (ms : List Message) → IsHistory p (e ∷ h) → AllSay p h xs ms → AllSay p (e ∷ h) xs ms
all_stay p e h [] [] l s = tt
all_stay p e h [] (m ∷ ms) l s = absurd s
all_stay p e h (x ∷ xs) [] l s = absurd s
all_stay p e h (x ∷ xs) (m ∷ ms) l s = (says_stays p e h x m l s.0, all_stay p e h xs ms l s.1)

-- What is posted tells something. ------------------------------------------------------------------------

kept_tells : (p : Plan) (c k : ℕ) (h : List Entry) (o : Outcome) → IsHistory p h → outcome_of c k h ≡ Some o → (IsApplied (Some o) → ⊥) → (t : Tell) × (kept_tell k o ≡ Some t)
kept_tells p c k h (Committed tx) l q n = absurd (n tt)
kept_tells p c k h (Refused code place at) l q n = (tell.Refused k code at place, refl)
kept_tells p c k h (Passed None) l q n = absurd (lost_has_a_loss p c k h l q)
kept_tells p c k h (Passed (Some loss)) l q n = (tell.Lost k loss.path loss.own loss.found loss.moment, refl)

-- a true message tells something
true_tells : (p : Plan) (c : ℕ) (h : List Entry) (m : Message) → IsHistory p h → IsTrueMessage p c h m → (t : Tell) × (tell_of p h m ≡ Some t)
true_tells p c h (Done k tx) l i = let x = push_has_its_message p tx i.function c k h l i.is_of in (done_tell k tx x.0, ap (option_map (done_tell k tx)) x.1)
true_tells p c h (Evicted k tx) l i = (tell.Evicted k tx, refl)
true_tells p c h (Kept k o) l i = kept_tells p c k h o l i.0 i.1
true_tells p c h (Watch id) l i = let x = announced_has_fired p id h l i in (watch_tell x.0, ap (option_map watch_tell) x.1)
true_tells p c h (Ping n) l i = (tell.Ping n, refl)

last_true : (p : Plan) (c : ℕ) (h : List Entry) (ms : List Message) (m : Message) → AreTrueMessages p c h (ms ++ m ∷ []) → IsTrueMessage p c h m
last_true p c h [] m i = i.0
last_true p c h (n ∷ ms) m i = last_true p c h ms m i.1

-- a line that posts a message pushes nothing and fires nothing, so messages tell what they told
no_push : (p : Plan) (c t : ℕ) (h : List Entry) (o : Op) (m : Message) → posted_in p c h o ≡ Some m → push_here p t h o ≡ None
no_push p c t h (op.Push n s) m q = absurd (none-some m q)
no_push p c t h o m q = refl

no_firing : (p : Plan) (c id : ℕ) (h : List Entry) (o : Op) (m : Message) → posted_in p c h o ≡ Some m → firing_in p id h o ≡ None
no_firing p c id h (op.SweepOk n t fired) m q = absurd (none-some m q)
no_firing p c id h o m q = refl

pub told_the_same : (p : Plan) (c : ℕ) (e : Entry) (h : List Entry) (m n : Message) → posted_in p c h e.op ≡ Some m → tell_of p (e ∷ h) n ≡ tell_of p h n
told_the_same p c e h m (Done k tx) q = ap (λ z. option_map (done_tell k tx) (or_else z (push_message_of p tx h))) (no_push p c tx h e.op m q)
told_the_same p c e h m (Evicted k tx) q = refl
told_the_same p c e h m (Kept k o) q = refl
told_the_same p c e h m (Watch id) q = ap (λ z. option_map watch_tell (or_else z (firing_of p id h))) (no_firing p c id h e.op m q)
told_the_same p c e h m (Ping n) q = refl

-- a line that posts takes nothing from the inbox
pub not_taken : (p : Plan) (c : ℕ) (h : List Entry) (o : Op) (m : Message) → posted_in p c h o ≡ Some m → takes c o ≡ false
not_taken p c h (op.Reply n s k) m q = refl
not_taken p c h (op.Tell n s w) m q = refl
not_taken p c h (op.Ping n s) m q = refl
not_taken p c h o m q = absurd (none-some m q)

posted_is_true : (p : Plan) (c : ℕ) (e : Entry) (h : List Entry) (m : Message) → IsHistory p (e ∷ h) → posted_in p c h e.op ≡ Some m → IsTrueMessage p c (e ∷ h) m
posted_is_true p c e h m l q =
    last_true p c (e ∷ h) (inbox_of p c h) m
    (subst (λ o. AreTrueMessages p c (e ∷ h) (with_posted (inbox_of p c h) o)) q
    (subst (λ b. AreTrueMessages p c (e ∷ h) (inbox_after b (inbox_of p c h) (posted_in p c h e.op))) (not_taken p c h e.op m q) (inbox_messages p c (e ∷ h) l)))

posted_tells : (p : Plan) (c : ℕ) (e : Entry) (h : List Entry) (m : Message) → IsHistory p (e ∷ h) → posted_in p c h e.op ≡ Some m → (t : Tell) × (tell_of p h m ≡ Some t)
posted_tells p c e h m l q =
    let x = true_tells p c (e ∷ h) m l (posted_is_true p c e h m l q) in
    (x.0, sym (told_the_same p c e h m m q) ∙ x.1)

-- Letter by letter. --------------------------------------------------------------------------------------

rest_says : (p : Plan) (h : List Entry) (xs : List Letter) (ms : List Message) → AllSay p h xs ms → AllSay p h (rest xs) (without_first ms)
rest_says p h [] [] s = tt
rest_says p h [] (m ∷ ms) s = absurd s
rest_says p h (x ∷ xs) [] s = absurd s
rest_says p h (x ∷ xs) (m ∷ ms) s = s.1

more_say : (p : Plan) (h : List Entry) (xs : List Letter) (ms : List Message) (x : Letter) (m : Message) → AllSay p h xs ms → Says p h x m → AllSay p h (xs ++ x ∷ []) (ms ++ m ∷ [])
more_say p h [] [] x m s i = (i, tt)
more_say p h [] (n ∷ ms) x m s i = absurd s
more_say p h (y ∷ xs) [] x m s i = absurd s
more_say p h (y ∷ xs) (n ∷ ms) x m s i = (s.0, more_say p h xs ms x m s.1 i)

-- an inbox loses its head where its client takes it
removes_takes : (c : ℕ) (h : List Entry) (o : Op) → removes (lane.Inbox c) h o ≡ takes c o
removes_takes c h (op.AckOk n) = refl
removes_takes c h o = refl

-- the letters of an inbox after a line that takes its head or doesn't, and posts this or nothing
abbrev SaysAfter : Plan → List Entry → Bool → Option (List ℕ) → Option Message → LaneState → List Message → Type 0
SaysAfter p h b letter posted s ms = AllSay p h (lane_step letter b s).waiting (inbox_after b ms posted)

took : (p : Plan) (h : List Entry) (s : LaneState) (ms : List Message) → AllSay p h s.waiting ms → SaysAfter p h true None None s ms
took p h s ms i = rest_says p h s.waiting ms i

posted : (p : Plan) (h : List Entry) (s : LaneState) (ms : List Message) (m : Message) (t : Tell) → AllSay p h s.waiting ms → tell_of p h m ≡ Some t → SaysAfter p h false (Some (tell_text version.Two t)) (Some m) s ms
posted p h s ms m t i q = more_say p h s.waiting ms (record { number = s.given + 1; bytes = tell_text version.Two t }) m i (record { tell = t; told = q; text = refl })

abbrev letter_for : Plan → List Entry → Option Message → Option (List ℕ)
letter_for p h o = option_map (tell_text version.Two) (option_and_then (tell_of p h) o)

pub none_taken : (p : Plan) (c : ℕ) (h : List Entry) (o : Op) → takes c o ≡ true → posted_in p c h o ≡ None
none_taken p c h (op.Reply n s k) q = absurd (false≢true q)
none_taken p c h (op.Tell n s w) q = absurd (false≢true q)
none_taken p c h (op.Ping n s) q = absurd (false≢true q)
none_taken p c h o q = refl

inbox_step : (p : Plan) (c : ℕ) (e : Entry) (h : List Entry) (b : Bool) (o : Option Message) → takes c e.op ≡ b → posted_in p c h e.op ≡ o → IsHistory p (e ∷ h) → AllSay p (e ∷ h) (lane_after p (lane.Inbox c) h).waiting (inbox_of p c h) → SaysAfter p (e ∷ h) b (letter_for p h o) o (lane_after p (lane.Inbox c) h) (inbox_of p c h)
inbox_step p c e h true None u v l i = took p (e ∷ h) (lane_after p (lane.Inbox c) h) (inbox_of p c h) i
inbox_step p c e h true (Some m) u v l i = absurd (none-some m (sym (none_taken p c h e.op u) ∙ v))
inbox_step p c e h false None u v l i = i
inbox_step p c e h false (Some m) u v l i =
    let x = posted_tells p c e h m l v in
    subst (λ z. SaysAfter p (e ∷ h) false (option_map (tell_text version.Two) z) (Some m) (lane_after p (lane.Inbox c) h) (inbox_of p c h)) (sym x.1)
    (posted p (e ∷ h) (lane_after p (lane.Inbox c) h) (inbox_of p c h) m x.0 i (tell_stays p e h m x.0 l x.1))

pub inbox_says_its_messages : InboxSaysItsMessages
inbox_says_its_messages p c [] l = tt
inbox_says_its_messages p c (e ∷ h) l =
    subst (λ b. AllSay p (e ∷ h) (lane_step (letter_in p (lane.Inbox c) h e.op) b (lane_after p (lane.Inbox c) h)).waiting (inbox_of p c (e ∷ h))) (sym (removes_takes c h e.op))
    (inbox_step p c e h (takes c e.op) (posted_in p c h e.op) refl refl l (all_stay p e h (lane_after p (lane.Inbox c) h).waiting (inbox_of p c h) l (inbox_says_its_messages p c h l.0)))

-- The head. ----------------------------------------------------------------------------------------------

first_tells : (p : Plan) (h : List Entry) (xs : List Letter) (ms : List Message) (told : Option Tell) → AllSay p h xs ms → CanBeSaid p h ms → IsTold xs told → FirstTells p h ms told
first_tells p h [] [] None s i r = tt
first_tells p h [] [] (Some t) s i r = absurd r
first_tells p h [] (m ∷ ms) told s i r = absurd s
first_tells p h (x ∷ xs) [] told s i r = absurd s
first_tells p h (x ∷ xs) (m ∷ ms) None s i r = absurd r
first_tells p h (x ∷ xs) (m ∷ ms) (Some t) s i r = s.0.told ∙ ap Some (one_message tells x.bytes s.0.tell t (i.0 s.0.tell s.0.told, (version.Two, tt, s.0.text)) r)

pub head_is_what_it_tells : HeadIsWhatItTells
head_is_what_it_tells p c h told l i r = first_tells p h (lane_after p (lane.Inbox c) h).waiting (inbox_of p c h) told (inbox_says_its_messages p c h l) i r
