use Rattle.fk_tests.proofs.Fitting.{follower_fits}
use Rattle.fk_tests.proofs.machines.follows.Goals as goal

pub step-requires : goal.step-requires
step-requires c = follower_fits _ _ _ c.in_ok-sent.field-0 c.in_ok-table.ensures c.in_ok-post.ensures c.start-follower.ensures c.in_ok-sent.ensures
