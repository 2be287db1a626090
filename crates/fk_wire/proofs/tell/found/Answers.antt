use Rattle.std.proofs.Common.{sym, ◌∙◌}
use Rattle.fk_wire.proofs.TellBack.{tells}
use Rattle.fk_wire.proofs.Texts.{fieldless, refused, versionless}
use Rattle.fk_wire.proofs.tell.found.Goals as goal

pub returns-in_default-clause-none : goal.returns-in_default-clause-none
returns-in_default-clause-none c = refused tells _ (rw c.in_default.is at c.in_ok-value.ensures.none)

pub returns-in_default-version_from-clause-none :
    goal.returns-in_default-version_from-clause-none
returns-in_default-version_from-clause-none c =
    versionless tells _ _ (rw c.in-Some.is at c.in_ok-value.ensures.some) (sym c.version_from.ensures ∙ c.in_default-version_from.is)

pub returns-clause-none : goal.returns-clause-none
returns-clause-none c =
    fieldless tells _ _ _ (rw c.in-Some.is at c.in_ok-value.ensures.some) (sym c.in-Some-version_from.ensures)
    (sym c.in_ok-message.ensures.message ∙ c.in-None.is)
