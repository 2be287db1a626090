-- What every desk keeps.
use Rattle.std.specs.Prelude.{◌-◌, ◌^◌, ltb, if◌then◌else◌, set, max, not, replicate}
use Rattle.std.proofs.Common.{◌≡◌, ℕ, zero, suc, ◌+◌, ◌<◌, Bool, true, false, List, [], ◌∷◌, length, refl, sym, ◌∙◌, ap, subst, arith, Option, Some, None}
use Rattle.std.proofs.lemmas.List.{length-set}
use Rattle.fk_print.specs.declared.entry.Entry.{Entry}
use Rattle.fk_print.specs.declared.event.Event.{Event}
use Rattle.fk_print.specs.declared.event.Event.TheVariants as event
use Rattle.fk_script.specs.PrintLaws.{IsMeant}
use Rattle.fk_script.specs.declared.deployment.Deployment.{Deployment}
use Rattle.fk_spec.specs.Function.{is_absent, place_of, Place, Absent, Following, Leading, Telling, Beating}
use Rattle.fk_spec.specs.Lawful.{Lawful}
use Rattle.fk_spec.specs.Next.{IsHistory, crash_op, names_client, next_entry, next_op}
use Rattle.fk_spec.specs.Plan.{Plan, plan_of}
use Rattle.fk_spec.specs.Schedule.{is_idle}
use Rattle.fk_spec.specs.Start.{clock_of}
use Rattle.fk_law_lawful.proofs.Promising.{every_history_is_lawful}
use Rattle.fk_law_schedule.proofs.Computed.{equal_is_same, same_is_equal}
use Rattle.fk_agree_engine.specs.Playing.{IsMoment}
use Rattle.fk_world.proofs.Beginning.{are_few}
use Rattle.fk_world.specs.Clocks.{clock_shown}
use Rattle.fk_world.specs.World as world
use Rattle.fk_live.specs.Choosing.{choice, idle_worker, is_flying, is_picked, moment_of, worker_at}
use Rattle.fk_live.specs.Desk.{ArePicked, IsDesk, IsOffered, IsPicked, goes_on, noted, shown_in}
use Rattle.fk_live.specs.Undisturbed.{disturbs}
use Rattle.fk_live.specs.declared.pick.Pick.{Pick}
use Rattle.fk_live.specs.declared.pick.Pick.TheVariants as pick
use Rattle.fk_live.specs.declared.worker.Worker.{Worker}
use Rattle.fk_live.proofs.Offering.{chosen_picked, set_picked, worker_picked}

-- A function in flight. ------------------------------------------------------------------------------------

crash_idle : (n : ℕ) (x : Place) → is_idle (crash_op n x) ≡ is_absent x
crash_idle n Absent = refl
crash_idle n (Following f) = refl
crash_idle n (Leading t s) = refl
crash_idle n (Telling w t s) = refl
crash_idle n (Beating c s) = refl

-- a crash would end a function exactly where it is in flight
pub flying_is : (p : Plan) (h : List Entry) (n : ℕ) (b : Bool) → b ≡ not (is_idle (next_op p h (event.Crash n))) → b ≡ is_flying p h n
flying_is p h n b e = e ∙ ap not (crash_idle n (place_of p n h))

-- What may be picked may be played. ------------------------------------------------------------------------

pub record IsPlayable (p : Plan) (e : Event) : Type 0 where
  pub named : names_client p e ≡ true
  pub moment : IsMoment e
  pub calm : disturbs e ≡ false
  pub still : (n : ℕ) → clock_shown e n ≡ n

pub offered_plays : (p : Plan) (e : Event) → IsOffered p e → IsPlayable p e
offered_plays p (event.Client c) o = record { named = o; moment = tt; calm = refl; still = λ n. refl }
offered_plays p (event.Deliver c) o = record { named = o; moment = tt; calm = refl; still = λ n. refl }
offered_plays p event.Leader o = record { named = refl; moment = tt; calm = refl; still = λ n. refl }
offered_plays p event.Watch o = record { named = refl; moment = tt; calm = refl; still = λ n. refl }
offered_plays p (event.Step n) o = record { named = refl; moment = tt; calm = refl; still = λ n. refl }
offered_plays p (event.Beat c) o = absurd o
offered_plays p (event.Crash n) o = absurd o
offered_plays p (event.Fail n) o = absurd o
offered_plays p (event.FailClient c) o = absurd o
offered_plays p (event.Clock m) o = absurd o

pub picked_is : (e : Event) (o : Option Event) → is_picked e o ≡ true → o ≡ Some e
picked_is e None h = cc h
picked_is e (Some x) h = ap Some (same_is_equal x e h)

pub is_the_picked : (e : Event) (o : Option Event) → o ≡ Some e → is_picked e o ≡ true
is_the_picked e o h = subst (λ (q : Option Event). is_picked e q ≡ true) (sym h) (equal_is_same e e refl)

-- the event that a worker has picked may be played
pub picked_plays : (p : Plan) (ws : List Worker) (n : ℕ) (w : Worker) (e : Event) → ArePicked p ws → w ≡ worker_at n ws → is_picked e w.picked ≡ true → IsPlayable p e
picked_plays p ws n w e a q h =
    let s : (worker_at n ws).picked ≡ Some e = ap (λ (x : Worker). x.picked) (sym q) ∙ picked_is e w.picked h in
    offered_plays p e (subst (IsPicked p) s (worker_picked p ws n a))

pub clients_few : (d : Deployment) → IsMeant d → 1 + length d.clients < 2 ^ 32
clients_few d m = let f = are_few d m in omega (arith, f)

-- Keeping it. ----------------------------------------------------------------------------------------------

none_picked : (p : Plan) (n : ℕ) → ArePicked p (replicate n idle_worker)
none_picked p zero = tt
none_picked p (suc n) = (tt, none_picked p n)

length_replicate : (n : ℕ) (w : Worker) → length (replicate n w) ≡ n
length_replicate zero w = refl
length_replicate (suc n) w = ap suc (length_replicate n w)

pub new_desk : (d : Deployment) (h : List Entry) (ws : List Worker) → h ≡ [] → ws ≡ replicate 16 idle_worker → IsDesk d h ws
new_desk d h ws e q = subst (λ (k : List Entry). IsDesk d k ws) (sym e) (subst (λ (xs : List Worker). IsDesk d [] xs) (sym q) (record {
  past = tt;
  undisturbed = tt;
  early = omega arith;
  count = length_replicate 16 idle_worker;
  picked = none_picked (plan_of d) 16;
}))

early_shown : (now n : ℕ) → n < 2 ^ 40 → max (max (moment_of now) n) n < 2 ^ 40
early_shown now n l = omega (arith, l)

pub shown_by : (d : Deployment) (h : List Entry) (ws : List Worker) (now : ℕ) → IsDesk d h ws → IsDesk d (next_entry (plan_of d) h (event.Clock (moment_of now)) ∷ h) ws
shown_by d h ws now a = record {
  past = (a.past, (refl, refl));
  undisturbed = (refl, a.undisturbed);
  early = early_shown now (clock_of h) a.early;
  count = a.count;
  picked = a.picked;
}

shown_where : (b : Bool) (w : world.View) (ws : List Worker) (now : ℕ) → IsDesk w.deployment w.past ws
    → let x : world.View = (if b then goes_on (next_entry (plan_of w.deployment) w.past (event.Clock (moment_of now))) w else w) in IsDesk w.deployment x.past ws
shown_where true w ws now a = shown_by w.deployment w.past ws now a
shown_where false w ws now a = a

-- behind the clock's event
pub keeps_shown : (w : world.View) (ws : List Worker) (now : ℕ) → IsDesk w.deployment w.past ws → IsDesk w.deployment (shown_in now w).past ws
keeps_shown w ws now a = shown_where (ltb (clock_of w.past) (moment_of now)) w ws now a

-- behind an event that a worker made
pub keeps_made : (d : Deployment) (h : List Entry) (ws : List Worker) (n : ℕ) (e : Event) (w : Worker) → IsDesk d h ws → IsPlayable (plan_of d) e
    → clock_of (next_entry (plan_of d) h e ∷ h) ≡ clock_shown e (clock_of h) → w.picked ≡ None → IsDesk d (next_entry (plan_of d) h e ∷ h) (set ws (n - 1) w)
keeps_made d h ws n e w a x c q = record {
  past = (a.past, (refl, x.named));
  undisturbed = (x.calm, a.undisturbed);
  early = subst (λ (m : ℕ). m < 2 ^ 40) (sym (c ∙ x.still (clock_of h))) a.early;
  count = length-set ws (n - 1) w ∙ a.count;
  picked = set_picked (plan_of d) ws (n - 1) w (subst (IsPicked (plan_of d)) (sym q) tt) a.picked;
}

length_noted : (n : ℕ) (w : Worker) (c : Pick) (ws : List Worker) → length (noted n w c ws) ≡ length ws
length_noted n w (pick.Make e) ws = length-set ws (n - 1) (record { picked = Some e; started = w.started })
length_noted n w pick.Wait ws = refl
length_noted n w pick.Quiet ws = refl

-- behind what a worker was given
pub keeps_noted : (d : Deployment) (h : List Entry) (ws : List Worker) (n : ℕ) (w : Worker) → IsDesk d h ws → IsDesk d h (noted n w (choice (plan_of d) d.clients h ws w) ws)
keeps_noted d h ws n w a = record {
  past = a.past;
  undisturbed = a.undisturbed;
  early = a.early;
  count = length_noted n w (choice (plan_of d) d.clients h ws w) ws ∙ a.count;
  picked = chosen_picked d h n w ws a.picked;
}

-- The promises. --------------------------------------------------------------------------------------------

pub past_is_lawful : (d : Deployment) (h : List Entry) → IsHistory (plan_of d) h → Lawful d h
past_is_lawful d h a = every_history_is_lawful d h a
