use Rattle.std.proofs.Common.{◌∙◌, ap}
use Rattle.fk_spec.specs.Plan.{plan_of}
use Rattle.fk_queue.specs.Meaning.{blocks_in}
use Rattle.fk_world.proofs.Quieting.{no_blocks_where_quiet}
use Rattle.fk_world.proofs.world.World.blocks.Goals as goal

pub returns-clause-post : goal.returns-clause-post
returns-clause-post g c = λ going. c.used.ensures.blocks ∙ ap blocks_in (c.post.ensures going)

pub returns-clause-quiet : goal.returns-clause-quiet
returns-clause-quiet g c = λ going quiet. c.used.ensures.blocks ∙ ap blocks_in (c.post.ensures going) ∙ no_blocks_where_quiet (plan_of c.args.self.now.deployment) c.args.self.now.past quiet
