-- What the turns of a deployment name, and how late they let the clock be.
use Rattle.std.proofs.Common.{◌≡◌, ℕ, zero, suc, ◌+◌, ◌*◌, ◌≤◌, Bool, true, false, cond, List, [], ◌∷◌, length, refl, subst, arith}
use Rattle.std.specs.Prelude.{All, nat_le, ◌||◌}
use Rattle.std.specs.List.{AllByRecursion}
use Rattle.std.proofs.lemmas.Bool.{and_from, le-leb}
use Rattle.fk_print.specs.WellFormed.{IsClient, IsEvent}
use Rattle.fk_print.specs.declared.event.Event.TheVariants as event
use Rattle.fk_script.specs.EventLines.{session}
use Rattle.fk_script.specs.Lines.{Word, is, is_one_of}
use Rattle.fk_script.specs.PrintLaws.{IsMeant}
use Rattle.fk_script.specs.Printed.{block_names}
use Rattle.fk_script.specs.declared.deployment.Deployment.{Deployment}
use Rattle.fk_script.specs.declared.deployment.Turn.{Turn}
use Rattle.fk_script.specs.declared.deployment.Turn.TheVariants as turn
use Rattle.fk_script.proofs.Sound.{IsSession, IsTurn}
use Rattle.fk_spec.specs.Plan.{Plan, is_client, plan_of}
use Rattle.fk_spec.specs.Next.{names_client}
use Rattle.fk_limits.specs.Turns.{ClockStaysLow, DrainsStayLow, IsEarly, MomentsStayLow, OfEvent, TimesAreShort, TurnsAreFew, TurnsAreMoments, TurnsAreWellFormed, TurnsNameClients}
use Rattle.fk_limits.proofs.Deployments.{is_sound, one_each}

-- ---- clients

-- a name that stands among names has its place there
placed : (t b : Bool) (k n : ℕ) → (t || b) ≡ true → (b ≡ true → (1 ≤ k) × (k ≤ n)) → (1 ≤ cond t 1 (k + 1)) × (cond t 1 (k + 1) ≤ suc n)
placed true b k n h i = (omega arith, omega arith)
placed false b k n h i = let at = i h in (omega arith, omega (arith, at.1))

has_place : (names : List Word) (w : Word) → is_one_of names w ≡ true → IsClient names (session names w)
has_place [] w h = cc h
has_place (n ∷ names) w h = placed (is w n) (is_one_of names w) (session names w) (length names) h (has_place names w)

named : (names : List Word) (c : ℕ) → IsSession names c → IsClient names c
named names c s = subst (IsClient names) s.back (has_place names s.name s.known)

-- ---- events

-- what a turn that is read names: numbers, clients and moments
well_formed : (names : List Word) (t : Turn) → IsTurn names t → OfEvent (IsEvent names) t
well_formed names (turn.One (event.Client c)) h = named names c h
well_formed names (turn.One (event.Deliver c)) h = named names c h.0
well_formed names (turn.One event.Leader) h = tt
well_formed names (turn.One event.Watch) h = tt
well_formed names (turn.One (event.Beat c)) h = named names c h
well_formed names (turn.One (event.Step n)) h = omega (arith, h)
well_formed names (turn.One (event.Crash n)) h = omega (arith, h)
well_formed names (turn.One (event.Fail n)) h = omega (arith, h)
well_formed names (turn.One (event.FailClient c)) h = named names c h
well_formed names (turn.One (event.Clock m)) h = omega (arith, h)
well_formed names turn.Drain h = tt

early : (names : List Word) (t : Turn) → IsTurn names t → OfEvent IsEarly t
early names (turn.One (event.Clock m)) h = (h, omega (arith, h))
early names (turn.One _) h = tt
early names turn.Drain h = tt

-- a client by the names is one by the plan
is_one : (p : Plan) (names : List Word) (c : ℕ) → length p.asks ≡ length names → IsClient names c → is_client p c ≡ true
is_one p names c e h = and_from (nat_le 1 c) (nat_le c (length p.asks)) (le-leb 1 c h.0) (le-leb c (length p.asks) (omega (arith, e, h.1)))

names_one : (p : Plan) (names : List Word) (t : Turn) → length p.asks ≡ length names → OfEvent (IsEvent names) t → OfEvent (λ e. names_client p e ≡ true) t
names_one p names (turn.One (event.Client c)) e h = is_one p names c e h
names_one p names (turn.One (event.Deliver c)) e h = is_one p names c e h
names_one p names (turn.One (event.Beat c)) e h = is_one p names c e h
names_one p names (turn.One (event.FailClient c)) e h = is_one p names c e h
names_one p names (turn.One _) e h = refl
names_one p names turn.Drain e h = tt

-- ---- all turns

each : (P Q : Turn → Type 0) → ((t : Turn) → P t → Q t) → (ts : List Turn) → AllByRecursion P ts → All Q ts
each P Q f [] h k d l = absurd (omega (arith, l))
each P Q f (t ∷ ts) h zero d l = f t h.0
each P Q f (t ∷ ts) h (suc k) d l = each P Q f ts h.1 k d (omega (arith, l))

turns_are : (Q : Turn → Type 0) (d : Deployment) → IsMeant d → ((t : Turn) → IsTurn (block_names d.clients) t → Q t) → All Q d.turns
turns_are Q d m f = each (IsTurn (block_names d.clients)) Q f d.turns (is_sound d m).turns

pub turns_name_clients : TurnsNameClients
turns_name_clients d m = let names = block_names d.clients in turns_are (OfEvent (λ e. names_client (plan_of d) e ≡ true)) d m (λ t h. names_one (plan_of d) names t (one_each d.clients) (well_formed names t h))

pub turns_are_well_formed : TurnsAreWellFormed
turns_are_well_formed d m = turns_are (OfEvent (IsEvent (block_names d.clients))) d m (well_formed (block_names d.clients))

pub turns_are_moments : TurnsAreMoments
turns_are_moments d m = turns_are (OfEvent IsEarly) d m (early (block_names d.clients))

pub turns_are_few : TurnsAreFew
turns_are_few d m = (is_sound d m).short

pub times_are_short : TimesAreShort
times_are_short d m = let s = is_sound d m in (s.lock, s.beat)

-- ---- the clock

-- a turn lets one lock more run out
one_more : (i lock : ℕ) → (i + 1) * (lock + 1) ≡ i * (lock + 1) + lock + 1
one_more i lock = omega arith

-- so many locks run out by then
all_run_out : (i n lock : ℕ) → i ≤ n → lock ≤ 1000000 → i * (lock + 1) ≤ n * 1000001
all_run_out zero n lock h l = omega arith
all_run_out (suc i) zero lock h l = absurd (omega (arith, h))
all_run_out (suc i) (suc n) lock h l = omega (arith, all_run_out i n lock (omega (arith, h)) l, l)

pub moments_stay_low : MomentsStayLow
moments_stay_low d i clock moment m h = omega (arith, m, h, one_more i d.config.lock)

pub drains_stay_low : DrainsStayLow
drains_stay_low d i clock h = omega (arith, h, one_more i d.config.lock)

pub clock_stays_low : ClockStaysLow
clock_stays_low d i clock m few h = omega (arith, h, all_run_out i 65537 d.config.lock (omega (arith, few, turns_are_few d m)) (times_are_short d m).0)
