-- A world at an event.
use Rattle.std.specs.Prelude.{◌^◌, Result, Ok, Err, OnErr, OnOk}
use Rattle.std.proofs.Common.{◌≡◌, ◌<◌, true, false, ◌∷◌, length, refl, sym, ◌∙◌, ap, subst, true≢false}
use Rattle.std.specs.Prelude.{max}
use Rattle.fk_print.specs.declared.event.Event.{Event}
use Rattle.fk_print.specs.declared.event.Event.TheVariants as event
use Rattle.fk_script.specs.declared.deployment.Deployment.{Deployment}
use Rattle.fk_spec.specs.Next.{IsHistory, names_client, next_entry}
use Rattle.fk_spec.specs.Plan.{plan_of}
use Rattle.fk_spec.specs.Start.{clock_of}
use Rattle.fk_engine.specs.Engine as engine
use Rattle.fk_engine.specs.Engine.{Plays, made, played}
use Rattle.fk_engine.specs.Events.{after_event}
use Rattle.fk_engine.specs.Parts as parts
use Rattle.fk_engine.specs.Reads.{Read}
use Rattle.fk_engine.specs.Fit.{FitsEvent}
use Rattle.fk_engine.specs.Playing.{IsGiven, SendsReadable}
use Rattle.fk_agree_engine.specs.Playing.{CanPlay, IsMoment}
use Rattle.fk_agree_engine.proofs.Fits.{deployments_are_within_limits, event_is_fit}
use Rattle.fk_agree_engine.proofs.Goes.{engine_goes_on, event_is_next}
use Rattle.fk_world.specs.Clocks.{clock_shown}
use Rattle.fk_world.specs.World.{Adds, IsSound, Stops, View}

-- a sound world is at an event that names one of its clients
pub record IsAt (d : Deployment) (m : engine.Meaning) (e : Event) : Type 0 where
  pub sound : IsSound d m
  pub named : names_client (plan_of d) e ≡ true
  pub moment : IsMoment e

pub can_play : (d : Deployment) (m : engine.Meaning) (e : Event) → IsAt d m e → m.spent ≡ false → length m.past < 2 ^ 62 → CanPlay (plan_of d) m.past m.parts e
can_play d m e a s l = record { limits = deployments_are_within_limits d a.sound.meant; world = a.sound.stands s; short = l; named = a.named; moment = a.moment }

pub event_fits : (d : Deployment) (m : engine.Meaning) (e : Event) → IsAt d m e → m.spent ≡ false → length m.past < 2 ^ 62 → FitsEvent m.parts e
event_fits d m e a s l = event_is_fit (plan_of d) m.past m.parts e (can_play d m e a s l)

-- the engine came to this by the event
record HasPlayed (m n : engine.Meaning) (e : Event) : Type 0 where
  played : Plays e m n
  given : IsGiven m.parts e
  sent : SendsReadable m.parts e
  room : length m.past < 2 ^ 62
  unspent : m.spent ≡ false

-- what a world is seen as
abbrev pub seen : Deployment → engine.Meaning → View
seen d m = record { deployment = d; past = m.past; spent = m.spent }

adds_after : (d : Deployment) (m n : engine.Meaning) (e : Event) → IsAt d m e → HasPlayed m n e → Adds (next_entry (plan_of d) m.past e) (seen d m) (seen d n)
adds_after d m n e a x =
    let q = x.played x.given.0 x.given.1 in
    record {
      unspent = x.unspent;
      room = x.room;
      past = ap (λ (z : engine.Meaning). z.past) q ∙ ap (λ z. z ∷ m.past) (event_is_next (plan_of d) m.past m.parts e x.given.0 (can_play d m e a x.unspent x.room) x.given.1);
      going = ap (λ (z : engine.Meaning). z.spent) q;
    }

shown_after : (e : Event) (w : parts.Meaning) (r : Read) → (after_event w e r).times.clock ≡ clock_shown e w.times.clock
shown_after (event.Client c) w r = refl
shown_after (event.Deliver c) w r = refl
shown_after event.Leader w r = refl
shown_after event.Watch w r = refl
shown_after (event.Beat c) w r = refl
shown_after (event.Step n) w r = refl
shown_after (event.Crash n) w r = refl
shown_after (event.Fail n) w r = refl
shown_after (event.FailClient c) w r = refl
shown_after (event.Clock moment) w r = refl

clock_after : (d : Deployment) (m n : engine.Meaning) (e : Event) → IsAt d m e → HasPlayed m n e → clock_of n.past ≡ clock_shown e (clock_of m.past)
clock_after d m n e a x =
    let k = can_play d m e a x.unspent x.room in
    let r = x.given.0 in
    ap (λ (z : engine.Meaning). clock_of z.past) (x.played r x.given.1)
    ∙ sym (engine_goes_on (plan_of d) m.past m.parts e r k x.given.1 x.sent).clock
    ∙ shown_after e m.parts r
    ∙ ap (clock_shown e) k.world.clock

sound_after : (d : Deployment) (m n : engine.Meaning) (e : Event) → IsAt d m e → HasPlayed m n e → IsSound d n
sound_after d m n e a x =
    let k = can_play d m e a x.unspent x.room in
    let r = x.given.0 in
    subst (IsSound d) (sym (x.played r x.given.1)) (record {
      meant = a.sound.meant;
      past = (a.sound.past, (event_is_next (plan_of d) m.past m.parts e r k x.given.1, a.named));
      stands = λ z. engine_goes_on (plan_of d) m.past m.parts e r k x.given.1 x.sent;
    })

sound_spent : (d : Deployment) (m n : engine.Meaning) → IsSound d m → n.past ≡ m.past → n.spent ≡ true → IsSound d n
sound_spent d m n a b s = record {
  meant = a.meant;
  past = subst (IsHistory (plan_of d)) (sym b) a.past;
  stands = λ z. absurd (true≢false (sym s ∙ z));
}

-- With the answer of the engine. --------------------------------------------------------------------------

-- the engine's answer, in the record that the world needs
pub record IsTold {T E : Type 0} (m n : engine.Meaning) (e : Event) (r : Result T E) : Type 0 where
  pub played : OnOk r (Plays e m n)
  pub given : OnOk r (IsGiven m.parts e)
  pub sent : OnOk r (SendsReadable m.parts e)
  pub room : OnOk r (length m.past < 2 ^ 62)
  pub unspent : OnOk r (m.spent ≡ false)
  pub past : OnErr r (n.past ≡ m.past)
  pub spent : OnErr r (n.spent ≡ true)

has_played : {T E : Type 0} (m n : engine.Meaning) (e : Event) (x : T) → IsTold {T = T} {E = E} m n e (Ok x) → HasPlayed m n e
has_played m n e x t = record { played = t.played; given = t.given; sent = t.sent; room = t.room; unspent = t.unspent }

pub adds_told : {T E : Type 0} (d : Deployment) (m n : engine.Meaning) (e : Event) (r : Result T E) → IsAt d m e → IsTold m n e r → OnOk r (Adds (next_entry (plan_of d) m.past e) (seen d m) (seen d n))
adds_told d m n e (Ok x) a t = adds_after d m n e a (has_played m n e x t)
adds_told d m n e (Err x) a t = tt

pub clock_told : {T E : Type 0} (d : Deployment) (m n : engine.Meaning) (e : Event) (r : Result T E) → IsAt d m e → IsTold m n e r → OnOk r (clock_of n.past ≡ clock_shown e (clock_of m.past))
clock_told d m n e (Ok x) a t = clock_after d m n e a (has_played m n e x t)
clock_told d m n e (Err x) a t = tt

pub stops_told : {T E : Type 0} (d : Deployment) (m n : engine.Meaning) (e : Event) (r : Result T E) → IsTold m n e r → OnErr r (Stops (seen d m) (seen d n))
stops_told d m n e (Ok x) t = tt
stops_told d m n e (Err x) t = record { past = t.past; spent = t.spent }

pub sound_told : {T E : Type 0} (d : Deployment) (m n : engine.Meaning) (e : Event) (r : Result T E) → IsAt d m e → IsTold m n e r → IsSound d n
sound_told d m n e (Ok x) a t = sound_after d m n e a (has_played m n e x t)
sound_told d m n e (Err x) a t = sound_spent d m n a.sound t.past t.spent
