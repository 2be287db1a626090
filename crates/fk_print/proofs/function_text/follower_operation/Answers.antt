use Rattle.fk_print.proofs.Operations.{not_follower_operation}
use Rattle.fk_print.proofs.function_text.follower_operation.Goals as goal

pub returns-in-SessionNew : goal.returns-in-SessionNew
returns-in-SessionNew c = rw c.in-SessionNew.is c.words.ensures

pub returns-in-SessionClosed : goal.returns-in-SessionClosed
returns-in-SessionClosed c = rw c.in-SessionClosed.is c.words-in-SessionClosed.ensures

pub returns-in-SessionApplied : goal.returns-in-SessionApplied
returns-in-SessionApplied c = rw c.in-SessionApplied.is c.words-in-SessionApplied.ensures

pub returns-in-SessionRefused : goal.returns-in-SessionRefused
returns-in-SessionRefused c = rw c.in-SessionRefused.is c.words-in-SessionRefused.ensures

pub returns-in-SessionPast : goal.returns-in-SessionPast
returns-in-SessionPast c = rw c.in-SessionPast.is c.words-in-SessionPast.ensures

pub returns-in-Owned : goal.returns-in-Owned
returns-in-Owned c = rw c.in-Owned.is c.words-in-Owned.ensures

pub returns-in-LockOk : goal.returns-in-LockOk
returns-in-LockOk c = rw c.in-LockOk.is c.words-in-LockOk.ensures

pub returns-in-LockBusy : goal.returns-in-LockBusy
returns-in-LockBusy c = rw c.in-LockBusy.is c.words-in-LockBusy.ensures

pub returns-in-Push : goal.returns-in-Push
returns-in-Push c = rw c.in-Push.is c.words-in-Push.ensures

pub returns-in-RefuseOk : goal.returns-in-RefuseOk
returns-in-RefuseOk c = rw c.in-RefuseOk.is c.words-in-RefuseOk.ensures

pub returns-in-RefuseSettled : goal.returns-in-RefuseSettled
returns-in-RefuseSettled c = rw c.in-RefuseSettled.is c.words-in-RefuseSettled.ensures

pub returns-in-RefuseLock : goal.returns-in-RefuseLock
returns-in-RefuseLock c = rw c.in-RefuseLock.is c.words-in-RefuseLock.ensures

pub returns-in-LostOk : goal.returns-in-LostOk
returns-in-LostOk c = rw c.in-LostOk.is c.words-in-LostOk.ensures

pub returns-in-LostSettled : goal.returns-in-LostSettled
returns-in-LostSettled c = rw c.in-LostSettled.is c.words-in-LostSettled.ensures

pub returns-in_default : goal.returns-in_default
returns-in_default c =
    let d = c.in_default in
    rw (not_follower_operation _ _ d.not-SessionNew d.not-SessionClosed d.not-SessionApplied d.not-SessionRefused d.not-SessionPast
    d.not-Owned d.not-LockOk d.not-LockBusy d.not-Push d.not-RefuseOk
    d.not-RefuseSettled d.not-RefuseLock d.not-LostOk d.not-LostSettled)
    c.leader_operation.ensures
