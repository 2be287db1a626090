use Rattle.std.proofs.Common.{sym, ap}
use Rattle.std.specs.Prelude.{is_some}
use Rattle.std.proofs.lemmas.Result.{on_ok_weaker, on_err_weaker}
use Rattle.fk_user.proofs.Putting.{edited_there, put_back}
use Rattle.fk_user.proofs.record_map.edit_there.Goals as goal

pub returns-in-Some-clause-ok : goal.returns-in-Some-clause-ok
returns-in-Some-clause-ok c = on_ok_weaker c.edit_record.result (
    edited_there c.args.records.now (c.get_mut.follows.lender c.edit_record.new.kept) c.args.path.now c.args.tx c.args.moment c.args.change.now c.in-Some.kept.now c.edit_record.new.kept c.requires.own
    c.in-Some.ensures.value ((c.get_mut.follows.holds c.edit_record.new.kept).3 (sym (ap is_some c.in-Some.ensures.value))).0) c.edit_record.ensures.ok

pub returns-in-Some-clause-err : goal.returns-in-Some-clause-err
returns-in-Some-clause-err c = on_err_weaker c.edit_record.result (
    put_back c.args.records.now (c.get_mut.follows.lender c.edit_record.new.kept) c.args.path.now c.in-Some.kept.now c.edit_record.new.kept
    c.in-Some.ensures.value ((c.get_mut.follows.holds c.edit_record.new.kept).3 (sym (ap is_some c.in-Some.ensures.value))).0) c.edit_record.ensures.err
