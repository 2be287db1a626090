use Rattle.fk_law.proofs.Deciding.{grants_are_the_first_lock_paths}
use Rattle.fk_law.proofs.Recording.{records_are_of_its_grants}
use Rattle.fk_law.proofs.follower_views.records_are_of_its_grants.Goals as goal

pub returns-clause-records : goal.returns-clause-records
returns-clause-records c = records_are_of_its_grants

pub returns-clause-locks : goal.returns-clause-locks
returns-clause-locks c = grants_are_the_first_lock_paths
