use Rattle.fk_wire.proofs.Values.{typed_text}
use Rattle.fk_wire.proofs.writing.text_of_path.Goals as goal

pub returns-clause-typed : goal.returns-clause-typed
returns-clause-typed c = typed_text _ _ c.text.ensures.names (rw c.as_str-text.ensures c.in_ok-text.ensures.text) c.as_str-text.utf8
