-- The operation of a step, case by case.
use Rattle.std.proofs.Common.{◌≡◌, ◌+◌, ℕ, Bool, true, false, cond, List, [], ◌∷◌, Option, Some, None, refl, ◌∙◌, ap, arith}
use Rattle.std.specs.Prelude.{is_some, nat_lt}
use Rattle.fk_print.specs.declared.op.Op.{Op}
use Rattle.fk_print.specs.declared.op.Op.TheVariants as op
use Rattle.fk_queue.specs.Letters.{first_bytes, first_number}
use Rattle.fk_queue.specs.Meaning as post
use Rattle.fk_queue.specs.declared.letter.Letter.{Letter}
use Rattle.fk_store.specs.Meaning as table
use Rattle.fk_tree.specs.Ask.{path_asked}
use Rattle.fk_tree.specs.Watch.{kind_asked}
use Rattle.fk_user.specs.Meaning as user
use Rattle.fk_watch.specs.Meaning.{Watches}
use Rattle.fk_wire.specs.Json.{IsText}
use Rattle.fk_wire.specs.TellText.{IsTellText}
use Rattle.fk_wire.specs.declared.message.Tell.{Tell}
use Rattle.fk_wire.specs.declared.message.Tell.TheVariants as tell
use Rattle.fk_spec.specs.Client.{Client, Reading, Target, begin_asked, first_held, held_op, look_op, next_asked, number_read, register_asked, register_for, take_op, target_of, watch_or}
use Rattle.fk_spec.specs.Plan.{Ask, Want, Unfit, Writes, Reads}
use Rattle.fk_spec.specs.Sight.{Sight}
use Rattle.fk_client.specs.Known.{by_outcome}
use Rattle.fk_client.specs.Meaning.{Meaning, next_ask}
use Rattle.fk_client.specs.Operation.{calm_op, failed_if, is_armed, or_failed, step_op}
use Rattle.fk_client.specs.Sighting.{message_told, sight_by}
use Rattle.fk_client.specs.Told.{IsReadable, IsTold}
use Rattle.fk_client.specs.declared.unanswered.Unanswered.{Unanswered}

-- ---- the message at the head

-- what holds of the message at the head, where there is one, holds of what is told
pub on_told : (xs : List Letter) (n : ℕ) (P : Option Tell → Type 0) → first_number xs ≡ Some n → ((m : Tell) → IsTold xs (Some m) → P (Some m)) → (o : Option Tell) → IsTold xs o → P o
on_told [] n P e f o i = absurd (grind arith)
on_told (x ∷ xs) n P e f None i = absurd i
on_told (x ∷ xs) n P e f (Some m) i = f m i

-- nothing is told where there is no head
pub none_told : (xs : List Letter) (o : Option Tell) → first_number xs ≡ None → IsTold xs o → o ≡ None
none_told [] None e i = refl
none_told [] (Some m) e i = absurd i
none_told (x ∷ xs) o e i = absurd (grind arith)

-- the bytes at the head are a message's text
pub told_text : (xs : List Letter) → is_some (first_number xs) ≡ true → IsReadable xs → IsText IsTellText (first_bytes xs)
told_text [] s r = absurd (cc)
told_text (x ∷ xs) s r = r

-- and it is that of what is told
pub text_told : (xs : List Letter) (m : Tell) → IsTold xs (Some m) → IsTellText (first_bytes xs) m
text_told [] m i = absurd i
text_told (x ∷ xs) m i = i

-- ---- the operation

take_armed : (t : table.Meaning) (q : post.Meaning) (w : Watches) (u : user.Meaning) (c : ℕ) (x : Tell) → is_armed t q w u (take_op c (message_told x)) ≡ q.armed
take_armed t q w u c (tell.Done k tx name version made) = refl
take_armed t q w u c (tell.Evicted k tx) = refl
take_armed t q w u c (tell.Refused k code at place) = refl
take_armed t q w u c (tell.Lost k path own found moment) = refl
take_armed t q w u c (tell.Watch tx fired) = refl
take_armed t q w u c (tell.Ping n) = refl

calm_take : (q : post.Meaning) (w : Watches) (u : user.Meaning) (m : Meaning) (x : Tell) → m.client.owed ≡ [] → calm_op q w u (Some x) m ≡ take_op m.session (message_told x)
calm_take q w u m x e = rw e refl

pub takes : (t : table.Meaning) (q : post.Meaning) (w : Watches) (u : user.Meaning) (m : Meaning) (x : Tell) → m.client.owed ≡ [] → step_op t q w u (Some x) m ≡ failed_if q.armed (take_op m.session (message_told x))
takes t q w u m x e = ap (or_failed t q w u) (calm_take q w u m x e) ∙ ap (λ b. failed_if b (take_op m.session (message_told x))) (take_armed t q w u m.session x)

held_armed : (t : table.Meaning) (q : post.Meaning) (w : Watches) (u : user.Meaning) (c command mark : ℕ) (o : Option ℕ) → is_armed t q w u (held_op c command mark o) ≡ u.armed
held_armed t q w u c command mark None = refl
held_armed t q w u c command mark (Some id) = refl

look_armed : (t : table.Meaning) (q : post.Meaning) (w : Watches) (u : user.Meaning) (s : Sight) (held : List ℕ) (x : Target) → is_armed t q w u (look_op s held x) ≡ u.armed
look_armed t q w u s held x = step (nat_lt s.mark x.number)
  where
    step : (b : Bool) → is_armed t q w u (cond b (op.LookBehind s.session x.command s.mark) (held_op s.session x.command s.mark (first_held s.epoch held))) ≡ u.armed
    step true = refl
    step false = held_armed t q w u s.session x.command s.mark (first_held s.epoch held)

-- what a client looks for
abbrev target : Meaning → Option Target
target m = target_of by_outcome m.seen m.client m.client.reading

calm_look : (q : post.Meaning) (w : Watches) (u : user.Meaning) (m : Meaning) (x : Target) → m.client.owed ≡ [] → target m ≡ Some x → calm_op q w u None m ≡ look_op (sight_by q w u None m) m.client.held x
calm_look q w u m x e f = rw (e, f) refl

pub looks : (t : table.Meaning) (q : post.Meaning) (w : Watches) (u : user.Meaning) (m : Meaning) (o : Option Tell) (x : Target) → o ≡ None → m.client.owed ≡ [] → target_of by_outcome m.seen m.client m.client.reading ≡ Some x → step_op t q w u o m ≡ failed_if u.armed (look_op (sight_by q w u None m) m.client.held x)
looks t q w u m o x n e f =
    ap (λ o. step_op t q w u o m) n
    ∙ ap (or_failed t q w u) (calm_look q w u m x e f)
    ∙ ap (λ b. failed_if b (look_op (sight_by q w u None m) m.client.held x)) (look_armed t q w u (sight_by q w u None m) m.client.held x)

-- a registration fails with the table of watches
registers_op : (t : table.Meaning) (q : post.Meaning) (w : Watches) (u : user.Meaning) (s : Sight) (command number : ℕ) (a : Want) → or_failed t q w u (register_for s command number a) ≡ failed_if w.armed (register_for s command number a)
registers_op t q w u s command number Unfit = idle w.armed
  where
    idle : (b : Bool) → op.Idle ≡ failed_if b op.Idle
    idle true = refl
    idle false = refl
registers_op t q w u s command number (Writes r) = idle w.armed
  where
    idle : (b : Bool) → op.Idle ≡ failed_if b op.Idle
    idle true = refl
    idle false = refl
registers_op t q w u s command number (Reads a flag) = step (nat_lt number (s.sweep (path_asked a)))
  where
    step : (b : Bool) → or_failed t q w u (cond b (op.WatchSwept s.session command (s.sweep (path_asked a))) (op.WatchSet s.session command (s.watch (path_asked a) (kind_asked a)))) ≡ failed_if w.armed (cond b (op.WatchSwept s.session command (s.sweep (path_asked a))) (op.WatchSet s.session command (s.watch (path_asked a) (kind_asked a))))
    step true = refl
    step false = refl

registers_asked : (t : table.Meaning) (q : post.Meaning) (w : Watches) (u : user.Meaning) (s : Sight) (command number : ℕ) (a : Option Ask) → or_failed t q w u (register_asked s command number a) ≡ failed_if w.armed (register_asked s command number a)
registers_asked t q w u s command number None = registers_op t q w u s command number Unfit
registers_asked t q w u s command number (Some a) = registers_op t q w u s command number a.want

calm_watch : (q : post.Meaning) (w : Watches) (u : user.Meaning) (m : Meaning) → m.client.owed ≡ [] → target m ≡ None → calm_op q w u None m ≡ watch_or (sight_by q w u None m) m.client m.client.reading (begin_asked by_outcome (sight_by q w u None m) m.client (next_ask m))
calm_watch q w u m e f = rw (e, f) refl

watches_reading : (t : table.Meaning) (q : post.Meaning) (w : Watches) (u : user.Meaning) (s : Sight) (c : Client Unanswered) (o : Op) (r : Option Reading) → is_some r ≡ true → or_failed t q w u (watch_or s c r o) ≡ failed_if w.armed (watch_or s c r op.Idle)
watches_reading t q w u s c o None e = absurd (grind arith)
watches_reading t q w u s c o (Some r) e = registers_asked t q w u s (c.begun + 1) (number_read s.seen r) (next_asked s.asks c)

pub watches : (t : table.Meaning) (q : post.Meaning) (w : Watches) (u : user.Meaning) (m : Meaning) (o : Option Tell) → o ≡ None → m.client.owed ≡ [] → target_of by_outcome m.seen m.client m.client.reading ≡ None → is_some m.client.reading ≡ true → step_op t q w u o m ≡ failed_if w.armed (watch_or (sight_by q w u None m) m.client m.client.reading op.Idle)
watches t q w u m o n e f s =
    ap (λ o. step_op t q w u o m) n
    ∙ ap (or_failed t q w u) (calm_watch q w u m e f)
    ∙ watches_reading t q w u (sight_by q w u None m) m.client (begin_asked by_outcome (sight_by q w u None m) m.client (next_ask m)) m.client.reading s

pub begins : (t : table.Meaning) (q : post.Meaning) (w : Watches) (u : user.Meaning) (m : Meaning) (o : Option Tell) → o ≡ None → m.client.owed ≡ [] → target_of by_outcome m.seen m.client m.client.reading ≡ None → m.client.reading ≡ None → step_op t q w u o m ≡ or_failed t q w u (begin_asked by_outcome (sight_by q w u None m) m.client (next_ask m))
begins t q w u m o n e f s =
    ap (λ o. step_op t q w u o m) n
    ∙ ap (or_failed t q w u) (calm_watch q w u m e f ∙ ap (λ r. watch_or (sight_by q w u None m) m.client r (begin_asked by_outcome (sight_by q w u None m) m.client (next_ask m))) s)
