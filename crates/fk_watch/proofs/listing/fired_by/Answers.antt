use Rattle.std.proofs.Common.{◌≡◌, [], ap}
use Rattle.std.specs.Map.Iter.{deref_pair}
use Rattle.std.proofs.lemmas.Map.Iter.{rest_all}
use Rattle.fk_watch.specs.Listing.{those_of}
use Rattle.fk_watch.proofs.Listed.{listed_exact, listed_rise, whole_list}
use Rattle.fk_watch.proofs.listing.fired_by.Goals as goal

pub returns-clause-rising : goal.returns-clause-rising
returns-clause-rising c =
    let none : c.listing.number-iterator ≡ [] = rest_all deref_pair c.listing.number-iterator c.next.new.self c.next.result c.in-None.is c.next.ensures.steps in
    rw (whole_list c.listing.list (those_of c.args.tx c.listing.number-iterator) (those_of c.args.tx c.args.fired.now.entries) c.listing.invariant (ap (those_of c.args.tx) none))
    (listed_rise c.args.tx c.args.fired.now.entries c.into_iter-number-iterator.ensures.into_iter_gives.5)

pub returns-clause-exact : goal.returns-clause-exact
returns-clause-exact c = λ n.
    let none : c.listing.number-iterator ≡ [] = rest_all deref_pair c.listing.number-iterator c.next.new.self c.next.result c.in-None.is c.next.ensures.steps in
    rw (whole_list c.listing.list (those_of c.args.tx c.listing.number-iterator) (those_of c.args.tx c.args.fired.now.entries) c.listing.invariant (ap (those_of c.args.tx) none))
    (listed_exact c.args.tx n c.args.fired.now.entries c.into_iter-number-iterator.ensures.into_iter_gives.5)
