-- Each fit event reads something.
use Rattle.std.proofs.Common.{◌≡◌, ℕ, Bool, true, false, ◌&&◌, List, [], ◌∷◌, Option, Some, None, refl}
use Rattle.fk_client.specs.Idle.{holds_none, is_idle}
use Rattle.fk_client.specs.Meaning as client
use Rattle.fk_client.specs.Steps.{IsToldTo}
use Rattle.fk_client.specs.Told as told
use Rattle.fk_queue.specs.declared.letter.Letter.{Letter}
use Rattle.fk_queue.specs.declared.lane.Lane.TheVariants as lane
use Rattle.fk_watch.specs.Services.{Services}
use Rattle.fk_wire.specs.declared.message.Tell.{Tell}
use Rattle.fk_print.specs.declared.event.Event.TheVariants as event
use Rattle.fk_spec.specs.Plan.{nth}
use Rattle.fk_wire.specs.NoteText.{IsNoteText}
use Rattle.fk_wire.specs.PushedText.{IsPushedText}
use Rattle.fk_wire.specs.SentText.{IsSentText}
use Rattle.fk_wire.specs.declared.message.Note.{Note}
use Rattle.fk_wire.specs.declared.message.Pushed.{Pushed}
use Rattle.fk_wire.specs.declared.message.Sent.{Sent}
use Rattle.fk_engine.specs.Events.{lane_in}
use Rattle.fk_engine.specs.Fit.{FitsEvent, FitsTurn, FitsTurnOf}
use Rattle.fk_engine.specs.Heads.{IsHead, IsReadable}
use Rattle.fk_engine.specs.Parts.{Meaning}
use Rattle.fk_engine.specs.Playing.{IsGiven}
use Rattle.fk_engine.specs.Reads.{nothing_read}
use Rattle.fk_engine.specs.Serving.{armed}
use Rattle.fk_engine.specs.Turning.{IsTold}
use Rattle.fk_engine.proofs.Arming.{turn_armed}

pub head_there : {M : Type 0} (text : List ℕ → M → Type 0) (xs : List Letter) → IsReadable text xs → (o : Option M) × IsHead text xs o
head_there text [] r = (None, tt)
head_there text (x ∷ xs) r = (Some r.0, r.1)

told_there : (xs : List Letter) → told.IsReadable xs → (o : Option Tell) × told.IsTold xs o
told_there [] r = (None, tt)
told_there (x ∷ xs) r = (Some r.0, r.1)

none_there : (xs : List Letter) → holds_none xs ≡ true → (o : Option Tell) × told.IsTold xs o
none_there [] e = (None, tt)
none_there (x ∷ xs) e = absurd (cc)

second : (a b c d : Bool) → (a && b && c && d) ≡ true → b ≡ true
second true true c d e = refl
second true false c d e = absurd (cc)
second false b c d e = absurd (cc)

told_at : (s : Services) (m : client.Meaning) → FitsTurn s m → (o : Option Tell) × IsToldTo s m o
told_at s m f = by (is_idle s.post m) refl
  where
    by : (b : Bool) → is_idle s.post m ≡ b → (o : Option Tell) × IsToldTo s m o
    by true e = none_there (s.post.lanes (lane.Inbox m.session)).waiting (second _ _ _ _ e)
    by false e = told_there (s.post.lanes (lane.Inbox m.session)).waiting (f.turn e).inbox

pub turn_reads : (s : Services) (o : Option client.Meaning) → FitsTurnOf s o → (r : Option Tell) × IsTold s r o
turn_reads s None f = (None, tt)
turn_reads s (Some m) f = told_at s m f

-- ---- the events

pub turn_given : (p : Meaning) (c : ℕ) → FitsEvent p (event.Client c) → IsGiven p (event.Client c)
turn_given p c f = let r : (o : Option Tell) × IsTold p.services o (nth p.clients c) = turn_reads p.services (nth p.clients c) f in (record nothing_read { told = r.0 }, r.1)

pub fail_turn_given : (p : Meaning) (c : ℕ) → FitsEvent p (event.FailClient c) → IsGiven p (event.FailClient c)
fail_turn_given p c f = let r : (o : Option Tell) × IsTold (armed p.services) o (nth p.clients c) = turn_reads (armed p.services) (nth p.clients c) (turn_armed p.services (nth p.clients c) f) in (record nothing_read { told = r.0 }, r.1)

pub deliver_given : (p : Meaning) (c : ℕ) → FitsEvent p (event.Deliver c) → IsGiven p (event.Deliver c)
deliver_given p c f = let r : (o : Option Sent) × IsHead IsSentText (lane_in p (lane.Session c)).waiting o = head_there IsSentText (lane_in p (lane.Session c)).waiting f.head in (record nothing_read { sent = r.0 }, r.1)

pub lead_given : (p : Meaning) → FitsEvent p event.Leader → IsGiven p event.Leader
lead_given p f = let r : (o : Option Pushed) × IsHead IsPushedText (lane_in p lane.Leader).waiting o = head_there IsPushedText (lane_in p lane.Leader).waiting f.1 in (record nothing_read { pushed = r.0 }, r.1)

pub watch_given : (p : Meaning) → FitsEvent p event.Watch → IsGiven p event.Watch
watch_given p f = let r : (o : Option Note) × IsHead IsNoteText (lane_in p lane.Watch).waiting o = head_there IsNoteText (lane_in p lane.Watch).waiting f.1 in (record nothing_read { note = r.0 }, r.1)

pub beat_given : (p : Meaning) (c : ℕ) → IsGiven p (event.Beat c)
beat_given p c = (nothing_read, tt)

pub crash_given : (p : Meaning) (n : ℕ) → IsGiven p (event.Crash n)
crash_given p n = (nothing_read, tt)

pub clock_given : (p : Meaning) (moment : ℕ) → IsGiven p (event.Clock moment)
clock_given p moment = (nothing_read, tt)
