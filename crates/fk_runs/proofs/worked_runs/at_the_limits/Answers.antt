use Rattle.fk_runs.proofs.AtTheLimits.{is_answered, is_played, is_scheduled}
use Rattle.fk_runs.proofs.worked_runs.at_the_limits.Goals as goal

pub returns-clause-played : goal.returns-clause-played
returns-clause-played c = is_played

pub returns-clause-scheduled : goal.returns-clause-scheduled
returns-clause-scheduled c = is_scheduled

pub returns-clause-answered : goal.returns-clause-answered
returns-clause-answered c = is_answered
