use Rattle.fk_engine.proofs.Choosing.{first_step, no_step}
use Rattle.fk_engine.proofs.parts.Parts.next_step.Goals as goal

pub returns-in-None : goal.returns-in-None
returns-in-None g c = λ ns h. no_step ns (c.in-None.ensures ns h)

pub returns-in-Some : goal.returns-in-Some
returns-in-Some g c = λ ns h. first_step ns _ (c.in-Some.ensures ns h)
