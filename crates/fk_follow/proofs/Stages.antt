-- From what a call answered to what comes after it.
use Rattle.std.proofs.Common.{◌≡◌, Bool, true, false, cond, Some, None, arith}
use Rattle.fk_store.specs.declared.session_record.SessionRecord.{SessionRecord}

-- a record that was shown is the table's
pub some_is : (a : Bool) (x y : SessionRecord) → Some x ≡ cond a None (Some y) → y ≡ x
some_is true x y e = grind arith
some_is false x y e = grind arith
