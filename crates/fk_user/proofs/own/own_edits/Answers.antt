use Rattle.fk_user.proofs.Owning.{all_chosen, own_are_own, own_edited}
use Rattle.fk_user.proofs.own.own_edits.Goals as goal

pub returns-clause-edits : goal.returns-clause-edits
returns-clause-edits c = all_chosen c.args.path.now c.args.edits.now c.choosing.own c.choosing.change-index c.choosing-test.false c.choosing.invariant

pub returns-clause-own : goal.returns-clause-own
returns-clause-own c = rw (returns-clause-edits c) (own_are_own c.args.path.now c.args.edits.now)

pub returns-clause-all : goal.returns-clause-all
returns-clause-all c tx moment o = rw (returns-clause-edits c) (own_edited c.args.path.now c.args.edits.now tx moment o)
