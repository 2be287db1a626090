use Rattle.std.proofs.Common.{None, sym, ap}
use Rattle.std.specs.Prelude.{is_some}
use Rattle.fk_watch.proofs.Indexing.{number_changed, none_there}
use Rattle.fk_watch.proofs.index.drop_number.Goals as goal

pub returns-in-Some : goal.returns-in-Some
returns-in-Some c =
    number_changed c.args.index.now (c.get_mut.follows.lender c.remove.new.self) c.args.path.now c.in-Some.numbers.now c.remove.new.self c.args.session None
    c.in-Some.ensures.value ((c.get_mut.follows.holds c.remove.new.self).3 (sym (ap is_some c.in-Some.ensures.value))).0 c.remove.ensures.updates.0

pub returns-in_default : goal.returns-in_default
returns-in_default c = none_there c.args.index.now c.get_mut.follows.lender-at-none c.args.path.now c.args.session c.in_default.ensures.value c.get_mut.follows.holds-at-none
