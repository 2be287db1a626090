use Rattle.fk_wire.proofs.Values.{typed_path}
use Rattle.fk_wire.proofs.reading.path_from.Goals as goal

pub returns-in-Ok-clause-typed : goal.returns-in-Ok-clause-typed
returns-in-Ok-clause-typed c = typed_path c.in-Some.text.now _ (rw c.as_bytes-bytes.ensures.value at c.as_bytes-bytes.ensures.utf8) c.in-Ok.ensures.path
