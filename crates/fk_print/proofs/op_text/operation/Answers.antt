use Rattle.fk_print.proofs.Operations.{not_operation}
use Rattle.fk_print.proofs.op_text.operation.Goals as goal

pub returns-in-Idle : goal.returns-in-Idle
returns-in-Idle c = rw c.in-Idle.is c.words.ensures

pub returns-in-Clock : goal.returns-in-Clock
returns-in-Clock c = rw c.in-Clock.is c.words-in-Clock.ensures

pub returns-in-Follower : goal.returns-in-Follower
returns-in-Follower c = rw c.in-Follower.is c.words-in-Follower.ensures

pub returns-in-Leader : goal.returns-in-Leader
returns-in-Leader c = rw c.in-Leader.is c.words-in-Leader.ensures

pub returns-in-Teller : goal.returns-in-Teller
returns-in-Teller c = rw c.in-Teller.is c.words-in-Teller.ensures

pub returns-in-Beat : goal.returns-in-Beat
returns-in-Beat c = rw c.in-Beat.is c.words-in-Beat.ensures

pub returns-in-Crash : goal.returns-in-Crash
returns-in-Crash c = rw c.in-Crash.is c.words-in-Crash.ensures

pub returns-in-CommitOk : goal.returns-in-CommitOk
returns-in-CommitOk c = rw c.in-CommitOk.is c.words-in-CommitOk.ensures

pub returns-in-CommitSettled : goal.returns-in-CommitSettled
returns-in-CommitSettled c = rw c.in-CommitSettled.is c.words-in-CommitSettled.ensures

pub returns-in-CommitLock : goal.returns-in-CommitLock
returns-in-CommitLock c = rw c.in-CommitLock.is c.words-in-CommitLock.ensures

pub returns-in-Reply : goal.returns-in-Reply
returns-in-Reply c = rw c.in-Reply.is c.words-in-Reply.ensures

pub returns-in-AckOk : goal.returns-in-AckOk
returns-in-AckOk c = rw c.in-AckOk.is c.words-in-AckOk.ensures

pub returns-in-AckGone : goal.returns-in-AckGone
returns-in-AckGone c = rw c.in-AckGone.is c.words-in-AckGone.ensures

pub returns-in_default : goal.returns-in_default
returns-in_default c =
    let d = c.in_default in
    rw (not_operation _ _ d.not-Idle d.not-Clock d.not-Follower d.not-Leader d.not-Teller
    d.not-Beat d.not-Crash d.not-Fault d.not-CommitOk d.not-CommitSettled
    d.not-CommitLock d.not-Reply d.not-AckOk d.not-AckGone)
    c.follower_operation.ensures
