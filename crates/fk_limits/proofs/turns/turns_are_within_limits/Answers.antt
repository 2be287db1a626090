use Rattle.fk_limits.proofs.Turning.{clock_stays_low, drains_stay_low, moments_stay_low, times_are_short, turns_are_few, turns_are_moments, turns_are_well_formed, turns_name_clients}
use Rattle.fk_limits.proofs.turns.turns_are_within_limits.Goals as goal

pub returns-clause-clients : goal.returns-clause-clients
returns-clause-clients c = turns_name_clients

pub returns-clause-events : goal.returns-clause-events
returns-clause-events c = turns_are_well_formed

pub returns-clause-moments : goal.returns-clause-moments
returns-clause-moments c = turns_are_moments

pub returns-clause-few : goal.returns-clause-few
returns-clause-few c = turns_are_few

pub returns-clause-times : goal.returns-clause-times
returns-clause-times c = times_are_short

pub returns-clause-moments_low : goal.returns-clause-moments_low
returns-clause-moments_low c = moments_stay_low

pub returns-clause-drains_low : goal.returns-clause-drains_low
returns-clause-drains_low c = drains_stay_low

pub returns-clause-clock_low : goal.returns-clause-clock_low
returns-clause-clock_low c = clock_stays_low
