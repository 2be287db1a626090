-- What was sent can be read after a line that sends what can be.
use Rattle.std.proofs.Common.{◌≡◌, ℕ, ◌++◌, Bool, true, false, List, [], ◌∷◌, refl, sym, ◌∙◌, subst, Option, Some, None}
use Rattle.std.specs.Prelude.{⊤}
use Rattle.std.proofs.lemmas.Option.{same_Some, none-some}
use Rattle.fk_print.specs.declared.entry.Entry.{Entry}
use Rattle.fk_print.specs.declared.op.Op.{Op}
use Rattle.fk_print.specs.declared.op.Op.TheVariants as op
use Rattle.fk_queue.specs.declared.lane.Lane.TheVariants as lane
use Rattle.fk_queue.specs.declared.letter.Letter.{Letter}
use Rattle.fk_wire.specs.NoteText.{IsNote}
use Rattle.fk_wire.specs.PushedText.{IsPushed}
use Rattle.fk_wire.specs.TellText.{IsTell}
use Rattle.fk_wire.specs.declared.message.Pushed.{Pushed}
use Rattle.fk_wire.specs.declared.message.Tell.{Tell}
use Rattle.fk_stand.specs.Messages.{push_here, push_message_of, tell_of}
use Rattle.fk_stand.specs.Posts.{lane_after}
use Rattle.fk_spec.specs.Plan.{Plan}
use Rattle.fk_spec.specs.Start.{or_else}
use Rattle.fk_spec.specs.Lanes.{Message, inbox_after, inbox_of, posted_in, takes, without_first}
use Rattle.fk_spec.specs.Teller.{Note, note_in, note_of}
use Rattle.fk_spec.specs.Next.{IsHistory}
use Rattle.fk_agree.specs.Heads.{note_as}
use Rattle.fk_agree.specs.Sending.{Sends}
use Rattle.fk_agree_client.specs.Inbox.{AllSay, CanBeSaid}
use Rattle.fk_agree_client.proofs.Inbox.{inbox_says_its_messages, tell_stays, told_the_same}
use Rattle.fk_agree_engine.specs.World.{AreReadable}

-- Pushes and notes. --------------------------------------------------------------------------------------

push_readable : (x : Pushed) (new old : Option Pushed) → ((y : Pushed) → new ≡ Some y → IsPushed y) → ((y : Pushed) → old ≡ Some y → IsPushed y) → or_else new old ≡ Some x → IsPushed x
push_readable x None old f g q = g x q
push_readable x (Some y) old f g q = f x q

note_readable : (x : Note) (new old : Option Note) → ((y : Note) → new ≡ Some y → IsNote (note_as y)) → ((y : Note) → old ≡ Some y → IsNote (note_as y)) → or_else new old ≡ Some x → IsNote (note_as x)
note_readable x None old f g q = g x q
note_readable x (Some y) old f g q = f x q

-- Inboxes. -----------------------------------------------------------------------------------------------

all_said : (p : Plan) (e : Entry) (h : List Entry) (xs : List Letter) (ms : List Message) → IsHistory p (e ∷ h) → AllSay p h xs ms → CanBeSaid p h ms → CanBeSaid p (e ∷ h) ms
all_said p e h [] [] l s k = tt
all_said p e h [] (m ∷ ms) l s k = absurd s
all_said p e h (x ∷ xs) [] l s k = absurd s
all_said p e h (x ∷ xs) (m ∷ ms) l s k = (
  (λ t q. subst IsTell (same_Some s.0.tell t (sym (tell_stays p e h m s.0.tell l s.0.told) ∙ q)) (k.0 s.0.tell s.0.told)),
  all_said p e h xs ms l s.1 k.1,
)

one_more_said : (p : Plan) (h : List Entry) (ms : List Message) (m : Message) → CanBeSaid p h ms → ((t : Tell) → tell_of p h m ≡ Some t → IsTell t) → CanBeSaid p h (ms ++ m ∷ [])
one_more_said p h [] m k f = (f, tt)
one_more_said p h (n ∷ ms) m k f = (k.0, one_more_said p h ms m k.1 f)

one_less_said : (p : Plan) (h : List Entry) (ms : List Message) → CanBeSaid p h ms → CanBeSaid p h (without_first ms)
one_less_said p h [] k = tt
one_less_said p h (m ∷ ms) k = k.1

inbox_said : (p : Plan) (c : ℕ) (e : Entry) (h : List Entry) (b : Bool) (o : Option Message) → takes c e.op ≡ b → posted_in p c h e.op ≡ o → Sends p h e.op → CanBeSaid p (e ∷ h) (inbox_of p c h) → CanBeSaid p (e ∷ h) (inbox_after b (inbox_of p c h) o)
inbox_said p c e h true o u v s k = one_less_said p (e ∷ h) (inbox_of p c h) k
inbox_said p c e h false None u v s k = k
inbox_said p c e h false (Some m) u v s k = one_more_said p (e ∷ h) (inbox_of p c h) m k (λ t q. s.tells c m t v (sym (told_the_same p c e h m m v) ∙ q))

pub still_readable : (p : Plan) (e : Entry) (h : List Entry) → IsHistory p (e ∷ h) → Sends p h e.op → AreReadable p h → AreReadable p (e ∷ h)
still_readable p e h l s r = record {
  pushes = λ t x q. push_readable x (push_here p t h e.op) (push_message_of p t h) (λ y a. s.pushes t y a) (λ y a. r.pushes t y a) q;
  notes = λ w x q. note_readable x (note_in p w h e.op) (note_of p w h) (λ y a. s.notes w y a) (λ y a. r.notes w y a) q;
  tells = λ c. inbox_said p c e h (takes c e.op) (posted_in p c h e.op) refl refl s (all_said p e h (lane_after p (lane.Inbox c) h).waiting (inbox_of p c h) l (inbox_says_its_messages p c h l.0) (r.tells c));
}

-- A line that sends nothing. -----------------------------------------------------------------------------

abbrev pub IsSilent : Op → Type 0
IsSilent (op.Push n t) = ⊥
IsSilent (op.Notify n t w) = ⊥
IsSilent (op.Reply n c k) = ⊥
IsSilent (op.Tell n c id) = ⊥
IsSilent (op.Ping n c) = ⊥
IsSilent _ = ⊤

no_push : (p : Plan) (t : ℕ) (h : List Entry) (o : Op) (x : Pushed) → IsSilent o → push_here p t h o ≡ Some x → IsPushed x
no_push p t h (op.Push n s) x k q = absurd k
no_push p t h o x k q = absurd (none-some x q)

no_note : (p : Plan) (w : ℕ) (h : List Entry) (o : Op) (x : Note) → IsSilent o → note_in p w h o ≡ Some x → IsNote (note_as x)
no_note p w h (op.Notify n t v) x k q = absurd k
no_note p w h o x k q = absurd (none-some x q)

no_tell : (p : Plan) (c : ℕ) (h : List Entry) (o : Op) (m : Message) (t : Tell) → IsSilent o → posted_in p c h o ≡ Some m → IsTell t
no_tell p c h (op.Reply n s k) m t a q = absurd a
no_tell p c h (op.Tell n s w) m t a q = absurd a
no_tell p c h (op.Ping n s) m t a q = absurd a
no_tell p c h o m t a q = absurd (none-some m q)

pub silent_sends : (p : Plan) (h : List Entry) (o : Op) → IsSilent o → Sends p h o
silent_sends p h o k = record { pushes = λ t x q. no_push p t h o x k q; notes = λ w x q. no_note p w h o x k q; tells = λ c m t q r. no_tell p c h o m t k q }
