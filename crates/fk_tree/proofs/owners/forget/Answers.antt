use Rattle.fk_tree.proofs.Notes.{forgotten}
use Rattle.std.proofs.Common.{sym, ap}
use Rattle.std.specs.Prelude.{is_some}
use Rattle.fk_tree.proofs.owners.forget.Goals as goal

pub returns-in-Some : goal.returns-in-Some
returns-in-Some c = forgotten c.args.owners.now (c.get_mut.follows.lender c.remove.new.self) c.args.session c.in-Some.set.now c.remove.new.self c.args.path.now c.in-Some.ensures.value ((c.get_mut.follows.holds c.remove.new.self).3 (sym (ap is_some c.in-Some.ensures.value))).0 c.remove.ensures.updates.0
