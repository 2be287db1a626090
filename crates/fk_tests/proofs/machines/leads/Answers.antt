use Rattle.fk_tests.proofs.Fitting.{leader_fits}
use Rattle.fk_tests.proofs.machines.leads.Goals as goal

pub step-requires : goal.step-requires
step-requires c = leader_fits _ _ _ c.in_ok-push.field-0 c.in_ok-table.ensures c.in_ok-post.ensures c.start-leader.ensures c.in_ok-push.ensures.0 c.in_ok-push.ensures.1
