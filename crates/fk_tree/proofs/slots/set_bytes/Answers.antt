use Rattle.std.proofs.lemmas.Result.{on_ok_weaker, on_err_weaker}
use Rattle.fk_tree.specs.Edit.{with_bytes}
use Rattle.fk_tree.proofs.Looking.{one_changed, none_changed, same_written}
use Rattle.fk_tree.proofs.slots.set_bytes.Goals as goal

pub returns-in-None-clause-ok : goal.returns-in-None-clause-ok
returns-in-None-clause-ok c = none_changed c.args.slots.now c.get_mut.follows.lender-at-none c.args.path.now (with_bytes c.args.bytes.now c.args.tx c.args.moment) c.in-None.ensures.value c.get_mut.follows.holds-at-none

pub returns-in-Some-clause-ok : goal.returns-in-Some-clause-ok
returns-in-Some-clause-ok c = on_ok_weaker c.replace.result (λ s. one_changed c.args.slots.now c.args.path.now c.get_mut.follows.lender (with_bytes c.args.bytes.now c.args.tx c.args.moment) c.in-Some.slot.now c.replace.new.node c.in-Some.ensures.value c.get_mut.follows.holds s) c.replace.ensures.ok

pub returns-in-Some-clause-err : goal.returns-in-Some-clause-err
returns-in-Some-clause-err c = on_err_weaker c.replace.result (λ s. same_written c.args.slots.now c.args.path.now c.get_mut.follows.lender c.in-Some.slot.now c.replace.new.node c.in-Some.ensures.value c.get_mut.follows.holds s) c.replace.ensures.err
