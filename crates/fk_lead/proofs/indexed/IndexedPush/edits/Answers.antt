use Rattle.std.proofs.Common.{◌≡◌, Some, subst}
use Rattle.std.specs.Prelude.{IfOk}
use Rattle.fk_settle.specs.Transaction.{applied_as}
use Rattle.fk_tree.specs.Edit.{effects}
use Rattle.fk_lead.proofs.Indexing.{index_says, own_ok}
use Rattle.fk_lead.proofs.indexed.IndexedPush.edits.Goals as goal

-- src/indexed.rt
pub returns-in-Some-clause-edits : goal.returns-in-Some-clause-edits
returns-in-Some-clause-edits c tx =
    let x : c.self.inside.message ≡ c.args.self.now = cc in
    let o : c.self.inside.own ≡ Some c.in-Some.own = cc in
    subst (λ y. IfOk c.edits_at.result (λ es. es ≡ y)) (index_says c.self.inside.own c.in-Some.own tx c.self.inside.message c.args.self.now c.args.path.now c.self.invariant o x) c.edits_at.ensures

pub returns-in-Some-clause-own : goal.returns-in-Some-clause-own
returns-in-Some-clause-own c = own_ok c.edits_at.result c.args.path.now (effects (applied_as 0 c.args.self.now)) (returns-in-Some-clause-edits c 0)
