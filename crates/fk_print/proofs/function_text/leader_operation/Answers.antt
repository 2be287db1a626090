use Rattle.fk_print.proofs.Operations.{not_leader_operation}
use Rattle.fk_print.proofs.function_text.leader_operation.Goals as goal

pub returns-in-PendingYes : goal.returns-in-PendingYes
returns-in-PendingYes c = rw c.in-PendingYes.is c.words.ensures

pub returns-in-PendingNo : goal.returns-in-PendingNo
returns-in-PendingNo c = rw c.in-PendingNo.is c.words-in-PendingNo.ensures

pub returns-in-DropOk : goal.returns-in-DropOk
returns-in-DropOk c = rw c.in-DropOk.is c.words-in-DropOk.ensures

pub returns-in-DropMiss : goal.returns-in-DropMiss
returns-in-DropMiss c = rw c.in-DropMiss.is c.words-in-DropMiss.ensures

pub returns-in-SweepOk : goal.returns-in-SweepOk
returns-in-SweepOk c = rw c.in-SweepOk.is c.words-in-SweepOk.ensures

pub returns-in-SweepMiss : goal.returns-in-SweepMiss
returns-in-SweepMiss c = rw c.in-SweepMiss.is c.words-in-SweepMiss.ensures

pub returns-in-PutOk : goal.returns-in-PutOk
returns-in-PutOk c = rw c.in-PutOk.is c.words-in-PutOk.ensures

pub returns-in-PutMiss : goal.returns-in-PutMiss
returns-in-PutMiss c = rw c.in-PutMiss.is c.words-in-PutMiss.ensures

pub returns-in-PublishOk : goal.returns-in-PublishOk
returns-in-PublishOk c = rw c.in-PublishOk.is c.words-in-PublishOk.ensures

pub returns-in-PublishMiss : goal.returns-in-PublishMiss
returns-in-PublishMiss c = rw c.in-PublishMiss.is c.words-in-PublishMiss.ensures

pub returns-in-Notify : goal.returns-in-Notify
returns-in-Notify c = rw c.in-Notify.is c.words-in-Notify.ensures

pub returns-in-DoneOk : goal.returns-in-DoneOk
returns-in-DoneOk c = rw c.in-DoneOk.is c.words-in-DoneOk.ensures

pub returns-in-DoneMiss : goal.returns-in-DoneMiss
returns-in-DoneMiss c = rw c.in-DoneMiss.is c.words-in-DoneMiss.ensures

pub returns-in_default : goal.returns-in_default
returns-in_default c =
    let d = c.in_default in
    rw (not_leader_operation _ _ d.not-PendingYes d.not-PendingNo d.not-DropOk d.not-DropMiss d.not-SweepOk
    d.not-SweepMiss d.not-PutOk d.not-PutMiss d.not-PublishOk d.not-PublishMiss
    d.not-Notify d.not-DoneOk d.not-DoneMiss)
    c.notifier_operation.ensures
