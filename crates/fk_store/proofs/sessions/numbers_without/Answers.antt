use Rattle.std.proofs.Common.{ℕ, List, [], ◌∷◌, ◌++◌, ◌==◌, cond, get_or, sym, ◌∙◌, ap, arith}
use Rattle.fk_store.proofs.Numbering.{without_step}
use Rattle.fk_store.proofs.sessions.numbers_without.Goals as goal

pub keeping-preserved : goal.keeping-preserved
keeping-preserved c =
    c.in_ok-push_other.ensures
    ∙ ap (λ (left : List ℕ). cond (get_or c.args.numbers.now c.keeping.other-index 0 == c.args.number) left (left ++ get_or c.args.numbers.now c.keeping.other-index 0 ∷ [])) c.keeping.invariant
    ∙ sym (without_step c.args.number c.args.numbers.now c.keeping.other-index (omega arith))
