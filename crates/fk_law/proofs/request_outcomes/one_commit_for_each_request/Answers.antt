use Rattle.fk_law.proofs.Outcomes.{one_commit_for_each_request}
use Rattle.fk_law.proofs.request_outcomes.one_commit_for_each_request.Goals as goal

pub returns : goal.returns
returns c = one_commit_for_each_request
