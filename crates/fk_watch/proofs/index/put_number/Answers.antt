use Rattle.std.proofs.Common.{Some, refl, sym, ap}
use Rattle.std.specs.Prelude.{is_some}
use Rattle.fk_watch.proofs.Indexing.{number_changed, same_put_back}
use Rattle.fk_watch.proofs.index.put_number.Goals as goal

pub returns-in-Ok-clause-ok : goal.returns-in-Ok-clause-ok
returns-in-Ok-clause-ok c =
    number_changed c.args.index.now (c.get_mut.follows.lender c.insert.new.self) c.args.path.now c.in-Some.numbers.now c.insert.new.self c.args.session (Some c.args.number)
    c.in-Some.ensures.value ((c.get_mut.follows.holds c.insert.new.self).3 (sym (ap is_some c.in-Some.ensures.value))).0 c.in-Ok.ensures.updates.0

pub returns-in-Err-clause-err : goal.returns-in-Err-clause-err
returns-in-Err-clause-err c =
    same_put_back c.args.index.now (c.get_mut.follows.lender c.insert.new.self) c.args.path.now c.in-Some.numbers.now c.insert.new.self
    c.in-Some.ensures.value ((c.get_mut.follows.holds c.insert.new.self).3 (sym (ap is_some c.in-Some.ensures.value))).0 (λ s. rw c.in-Err.ensures.err refl)
