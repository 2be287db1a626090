use Rattle.std.proofs.Common.{◌∙◌, sym, ap, subst}
use Rattle.fk_tree.specs.Check.{IsFault, check}
use Rattle.fk_tree.specs.Shown.{rows_view}
use Rattle.fk_follow.specs.Deciding.{decided_as}
use Rattle.fk_follow.proofs.deciding.decide.Goals as goal

pub returns-in-Err-Refused : goal.returns-in-Err-Refused
returns-in-Err-Refused c =
    let told = check (rows_view c.in_ok-rows.rows) c.args.session c.args.request.now in
    let e = subst (λ x. IsFault x told) c.in-Err-Refused.field-0-is c.in-Err-Refused.ensures.refused in
    ap (decided_as c.args.at) (sym e ∙ ap (λ v. check v c.args.session c.args.request.now) c.in_ok-rows.ensures)
