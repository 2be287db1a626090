use Rattle.fk_engine.proofs.Choosing.{or_first, or_rest}
use Rattle.fk_engine.proofs.parts.Parts.next_of_drain.Goals as goal

pub returns-in-Some : goal.returns-in-Some
returns-in-Some g c = λ ns h. or_first _ _ _ (c.in-Some.ensures ns h)

pub returns-in-None : goal.returns-in-None
returns-in-None g c = λ ns h. or_rest _ _ _ (c.in-None.ensures ns h) c.next_delivery.ensures
