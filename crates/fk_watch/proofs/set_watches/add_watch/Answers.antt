use Rattle.std.proofs.lemmas.Result.{on_err_weaker}
use Rattle.fk_watch.proofs.Noting.{data_kept, child_kept}
use Rattle.fk_watch.proofs.set_watches.add_watch.Goals as goal

pub returns-in-Data-clause-err : goal.returns-in-Data-clause-err
returns-in-Data-clause-err c = on_err_weaker c.add_number.result (data_kept c.args.on_data.now c.args.on_child.now c.add_number.new.index) c.add_number.ensures.err

pub returns-in-Child-clause-err : goal.returns-in-Child-clause-err
returns-in-Child-clause-err c = on_err_weaker c.add_number-in-Child.result (child_kept c.args.on_data.now c.args.on_child.now c.add_number-in-Child.new.index) c.add_number-in-Child.ensures.err
