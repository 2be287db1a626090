-- Lost locks that did not pass on, and are refused. They change the run of a client whose lock of the root was granted
-- to another when more than the lock time had passed.
use Rattle.std.specs.Prelude.{◌==◌, ◌&&◌, ◌||◌}
use Rattle.std.proofs.Common.{◌≡◌, ℕ, Bool, true, false, [], arith, Some}
use Rattle.std.proofs.lemmas.Bool.{false≢true}
use Rattle.std.proofs.lemmas.Bool.Decides.{nat_tests}
use Rattle.fk_spec.specs.Refusals.{has_lost, has_missed, is_follower}
use Rattle.fk_spec.specs.Start.{task_of}
use Rattle.fk_refused.specs.Lost.{LostAtTheLockTime, LostOfAnotherClient, LostOfAnotherPath, LostToAnotherFunction, LostToAnotherMoment, LostUnsettled, LostWithoutAGrant, LostWithoutALaterGrant, LostWithoutItsMiss, MissOfAnotherFunction, MissOfAnotherHolder, MissOfAnotherMoment, MissOfAnotherPath, SettledByAnotherFunction, losing, missed_by_another, settled_by_another}

ungranted : (b : Bool) → (b && false && true || false || false) ≡ true → ⊥
ungranted true e = false≢true e
ungranted false e = false≢true e

other_client : (n : ℕ) → is_follower 2 (Some 1) (task_of n losing) ≡ true → has_lost n losing ≡ true → ⊥
other_client n f s = grind (arith, nat_tests)

unmatched_holder : (b : Bool) → (b && true && false && true || false) ≡ true → ⊥
unmatched_holder true e = false≢true e
unmatched_holder false e = false≢true e

unmatched_moment : (b : Bool) → (b && true && true && false || false) ≡ true → ⊥
unmatched_moment true e = false≢true e
unmatched_moment false e = false≢true e

unmatched_path : (b : Bool) → (b && false && true && true || false) ≡ true → ⊥
unmatched_path true e = false≢true e
unmatched_path false e = false≢true e

other_missed : (n : ℕ) → is_follower 1 (Some 1) (task_of n missed_by_another) ≡ true → has_missed n [] 2 11 missed_by_another ≡ true → ⊥
other_missed n f s = grind (arith, nat_tests)

other_settled : (n : ℕ) → is_follower 1 (Some 1) (task_of n settled_by_another) ≡ true → has_lost n settled_by_another ≡ true → ⊥
other_settled n f s = grind (arith, nat_tests)

pub lost_at_the_lock_time : LostAtTheLockTime
lost_at_the_lock_time r = false≢true r.0.0.1.beyond

pub lost_without_its_miss : LostWithoutItsMiss
lost_without_its_miss r = false≢true r.0.0.1.missed

pub miss_of_another_holder : MissOfAnotherHolder
miss_of_another_holder r = unmatched_holder (1 == r.0.0.1.function) r.0.0.1.missed

pub miss_of_another_moment : MissOfAnotherMoment
miss_of_another_moment r = unmatched_moment (1 == r.0.0.1.function) r.0.0.1.missed

pub miss_of_another_path : MissOfAnotherPath
miss_of_another_path r = unmatched_path (1 == r.0.0.1.function) r.0.0.1.missed

pub miss_of_another_function : MissOfAnotherFunction
miss_of_another_function r = other_missed r.0.0.1.function r.0.0.1.follows r.0.0.1.missed

pub lost_to_another_moment : LostToAnotherMoment
lost_to_another_moment r = false≢true r.0.0.1.passed

pub lost_to_another_function : LostToAnotherFunction
lost_to_another_function r = false≢true r.0.0.1.passed

pub lost_of_another_path : LostOfAnotherPath
lost_of_another_path r = false≢true r.0.0.1.passed

pub lost_without_a_later_grant : LostWithoutALaterGrant
lost_without_a_later_grant r = false≢true r.0.0.1.passed

pub lost_without_a_grant : LostWithoutAGrant
lost_without_a_grant r = ungranted (1 == r.0.0.1.function) r.0.0.1.passed

pub lost_unsettled : LostUnsettled
lost_unsettled r = false≢true r.0.0.1.settled

pub settled_by_another_function : SettledByAnotherFunction
settled_by_another_function r = other_settled r.0.0.1.function r.0.0.1.follows r.0.0.1.settled

pub lost_of_another_client : LostOfAnotherClient
lost_of_another_client r = other_client r.0.0.1.function r.0.0.1.follows r.0.0.1.settled
