-- What is played of a deployment is its run.
use Rattle.std.proofs.Common.{◌≡◌, ℕ, suc, ◌+◌, ◌-◌, ◌≤◌, ◌<◌, ◌^◌, true, List, [], ◌∷◌, length, sym, ◌∙◌, ap, subst, arith}
use Rattle.std.specs.Prelude.{take, drop}
use Rattle.std.proofs.Math.ListN.{get_or}
use Rattle.std.proofs.Math.Seq.{take-length}
use Rattle.std.specs.List.{All}
use Rattle.std.proofs.lemmas.List.Elements.{All-tail}
use Rattle.fk_print.specs.declared.entry.Entry.{Entry}
use Rattle.fk_print.specs.declared.event.Event.{Event}
use Rattle.fk_print.specs.declared.event.Event.TheVariants as event
use Rattle.fk_script.specs.PrintLaws.{IsMeant}
use Rattle.fk_script.specs.declared.deployment.Deployment.{Deployment}
use Rattle.fk_script.specs.declared.deployment.Turn.{Turn}
use Rattle.fk_script.specs.declared.deployment.Turn.TheVariants as turn
use Rattle.fk_spec.specs.Next.{IsHistory, names_client}
use Rattle.fk_spec.specs.Plan.{Plan, plan_of}
use Rattle.fk_spec.specs.Schedule.{Drains, TakesTurns}
use Rattle.fk_spec.specs.Run.{IsRunOf}
use Rattle.fk_spec.specs.Start.{clock_of}
use Rattle.fk_agree_engine.specs.Playing.{IsMoment}
use Rattle.fk_limits.specs.Turns.{IsEarly, OfEvent, latest}
use Rattle.fk_limits.proofs.Turning.{clock_stays_low, drains_stay_low, moments_stay_low, times_are_short, turns_are_moments, turns_name_clients}
use Rattle.fk_law_drain.proofs.Drained.{scheduled_is_answered}
use Rattle.fk_law_lawful.proofs.Promising.{every_history_is_lawful}
use Rattle.fk_world.specs.Clocks.{clock_shown}
use Rattle.fk_run.specs.Turns.{AreFit, IsFit, Takes, clock_turned}

-- the turns, and a last drain, are the whole schedule
scheduled : (p : Plan) (ts : List Turn) (h m k : List Entry) → Takes p ts h m → Drains p m k → TakesTurns p ts h k
scheduled p [] h m k e d = subst (λ x. Drains p x k) (sym e) d
scheduled p (t ∷ ts) h m k (n, a, b) d = (n, a, scheduled p ts n m k b d)

pub is_run : (d : Deployment) (m k : List Entry) → IsHistory (plan_of d) k → Takes (plan_of d) d.turns [] m → Drains (plan_of d) m k → IsRunOf d k
is_run d m k l t r =
    let s = scheduled (plan_of d) d.turns [] m k t r in
    record { lawful = every_history_is_lawful d k l; scheduled = s; answered = scheduled_is_answered d k l s }

turn_is_fit : (p : Plan) (t : Turn) → OfEvent (λ e. names_client p e ≡ true) t → OfEvent IsEarly t → IsFit p t
turn_is_fit p (turn.One e) n i = (n, i)
turn_is_fit p turn.Drain n i = tt

turns_fit : (p : Plan) (ts : List Turn) → All (OfEvent (λ e. names_client p e ≡ true)) ts → All (OfEvent IsEarly) ts → AreFit p ts
turns_fit p [] n i = tt
turns_fit p (t ∷ ts) n i = (
  turn_is_fit p t (n 0 t (grind arith)) (i 0 t (grind arith)),
  turns_fit p ts (All-tail (OfEvent (λ e. names_client p e ≡ true)) t ts n) (All-tail (OfEvent IsEarly) t ts i),
)

pub turns_are_fit : (d : Deployment) → IsMeant d → AreFit (plan_of d) d.turns
turns_are_fit d m = turns_fit (plan_of d) d.turns (turns_name_clients d m) (turns_are_moments d m)

-- The turns that are left are the first and the others. ----------------------------------------------------

-- the first of these turns; any other where there is none
abbrev pub first_turn : List Turn → Turn
first_turn ts = get_or ts 0 (turn.One (event.Client 0))

abbrev pub other_turns : List Turn → List Turn
other_turns ts = take (length ts - 1) (drop 1 ts)

pub first_turn_of : (ts : List Turn) → 1 ≤ length ts → ts ≡ first_turn ts ∷ other_turns ts
first_turn_of [] l = absurd (omega (arith, l))
first_turn_of (t ∷ ts) l =
    let e : suc (length ts) - 1 ≡ length ts = omega arith in
    ap (λ z. t ∷ z) (sym (ap (λ (i : ℕ). take i ts) e ∙ take-length ts))

-- The clock stays low. --------------------------------------------------------------------------------------

pub moment_is_fit : (e : Event) → IsEarly e → IsMoment e
moment_is_fit (event.Clock m) i = omega (arith, i.1)
moment_is_fit _ i = tt

-- so many turns of a deployment's were taken, and the clock is as early as that lets it be
pub record IsLow (d : Deployment) (rest : List Turn) (now : ℕ) : Type 0 where
  pub taken : ℕ
  pub count : taken + length rest ≡ length d.turns
  pub low : now ≤ latest d taken

pub low_at_first : (d : Deployment) (ts : List Turn) (h : List Entry) → ts ≡ d.turns → h ≡ [] → IsLow d ts (clock_of h)
low_at_first d ts h s e = record { taken = 0; count = omega (arith, ap length s); low = subst (λ z. clock_of z ≤ latest d 0) (sym e) (omega arith) }

event_stays_low : (d : Deployment) (i n : ℕ) (e : Event) → IsEarly e → n ≤ latest d i → clock_shown e n ≤ latest d (i + 1)
event_stays_low d i n (event.Clock m) f l = moments_stay_low d i n m f.0 l
event_stays_low d i n _ f l = let a = drains_stay_low d i n l in omega (arith, a)

turn_stays_low : (d : Deployment) (i n : ℕ) (t : Turn) → IsFit (plan_of d) t → n ≤ latest d i → clock_turned (plan_of d) t n ≤ latest d (i + 1)
turn_stays_low d i n (turn.One e) f l = event_stays_low d i n e f.1 l
turn_stays_low d i n turn.Drain f l = drains_stay_low d i n l

pub low_after : (d : Deployment) (t : Turn) (ts : List Turn) (n m : ℕ) → IsFit (plan_of d) t → m ≡ clock_turned (plan_of d) t n → IsLow d (t ∷ ts) n → IsLow d ts m
low_after d t ts n m f q l = record {
  taken = l.taken + 1;
  count = omega (arith, l.count);
  low = subst (λ (z : ℕ). z ≤ latest d (l.taken + 1)) (sym q) (turn_stays_low d l.taken n t f l.low);
}

pub low_at_last : (d : Deployment) (n : ℕ) → IsLow d [] n → n ≤ latest d (length d.turns)
low_at_last d n l = subst (λ i. n ≤ latest d i) (omega (arith, l.count)) l.low

pub drain_has_time : (d : Deployment) (i n : ℕ) → IsMeant d → i ≤ length d.turns → n ≤ latest d i → n + (plan_of d).lock + 1 < 2 ^ 63
drain_has_time d i n m a l =
    let b = clock_stays_low d i n m (omega (arith, a)) l in
    let c = (times_are_short d m).0 in
    omega (arith, b, c)

pub turn_has_time : (d : Deployment) (ts : List Turn) (n : ℕ) → IsMeant d → IsLow d ts n → n + (plan_of d).lock + 1 < 2 ^ 63
turn_has_time d ts n m l = drain_has_time d l.taken n m (omega (arith, l.count)) l.low

pub last_drain_has_time : (d x y : Deployment) (ts : List Turn) (n : ℕ) → IsMeant d → x ≡ d → y ≡ d → ts ≡ d.turns → n ≤ latest x (length ts) → n + (plan_of y).lock + 1 < 2 ^ 63
last_drain_has_time d x y ts n m a b t l =
    let k : n ≤ latest d (length d.turns) = subst (λ (z : List Turn). n ≤ latest d (length z)) t (subst (λ (e : Deployment). n ≤ latest e (length ts)) a l) in
    subst (λ (e : Deployment). n + (plan_of e).lock + 1 < 2 ^ 63) (sym b) (drain_has_time d (length d.turns) n m (omega arith) k)

-- the deployment of a world stays the same
pub played : (d x y z : Deployment) (ts : List Turn) (h m k : List Entry) → x ≡ d → y ≡ d → z ≡ d → ts ≡ d.turns → h ≡ [] → Takes (plan_of x) ts h m → Drains (plan_of y) m k → IsHistory (plan_of z) k → IsRunOf d k
played d x y z ts h m k a b e t n s r l =
    let s1 = subst (λ u. Takes (plan_of u) ts h m) a s in
    let s2 = subst (λ u. Takes (plan_of d) u h m) t s1 in
    is_run d m k (subst (λ u. IsHistory (plan_of u) k) e l) (subst (λ u. Takes (plan_of d) d.turns u m) n s2) (subst (λ u. Drains (plan_of u) m k) b r)
