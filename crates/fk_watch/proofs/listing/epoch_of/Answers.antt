use Rattle.std.specs.BTreeMap.{keys}
use Rattle.std.specs.Map.Iter.{deref}
use Rattle.std.proofs.lemmas.Map.Iter.{rest_more, rest_all}
use Rattle.fk_watch.proofs.Listed.{epoch_step, whole_list}
use Rattle.fk_watch.proofs.listing.epoch_of.Goals as goal
use Rattle.fk_user.proofs.Placing.{strict_rise}

pub listing-preserved : goal.listing-preserved
listing-preserved c =
    epoch_step (keys c.args.fired.now) c.listing.ids c.insert.new.self c.listing.number-iterator c.next.new.self c.in-Some.number.now c.keys-number-items.ensures.ordered c.listing.invariant
    (rest_more deref c.listing.number-iterator c.next.new.self c.next.result c.in-Some.number c.in-Some.is c.next.ensures.steps) c.in_ok-insert.ensures.ok

pub returns-clause-rising : goal.returns-clause-rising
returns-clause-rising c =
    rw (whole_list c.listing.ids c.listing.number-iterator (keys c.args.fired.now) c.listing.invariant (rest_all deref c.listing.number-iterator c.next.new.self c.next.result c.in-None.is c.next.ensures.steps))
    (strict_rise (keys c.args.fired.now) c.keys-number-items.ensures.ordered)
