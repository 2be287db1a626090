use Rattle.std.proofs.Common.{slice_get, ◌∙◌, ap}
use Rattle.fk_engine.specs.FlightsStanding.{functions_of}
use Rattle.fk_engine.proofs.Listing.{one_list}
use Rattle.fk_engine.proofs.functions.Functions.first.Goals as goal

pub returns : goal.returns
returns c = λ ns h. c.copied.ensures ∙ c.first.ensures.value ∙ ap (λ ms. slice_get ms 0) (one_list (functions_of c.args.self.now) c.in_flight.result.now ns c.in_flight.ensures h)
