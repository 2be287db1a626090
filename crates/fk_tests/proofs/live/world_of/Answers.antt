use Rattle.fk_tests.proofs.live.world_of.Goals as goal

pub new_world-requires : goal.new_world-requires
new_world-requires c = record { meant = (c.as_bytes.result.now, c.in_ok-deployment.ensures.same) }
