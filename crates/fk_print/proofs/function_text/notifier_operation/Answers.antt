use Rattle.fk_print.proofs.Operations.{not_notifier_operation}
use Rattle.fk_print.proofs.function_text.notifier_operation.Goals as goal

pub returns-in-Tell : goal.returns-in-Tell
returns-in-Tell c = rw c.in-Tell.is c.words.ensures

pub returns-in-Told : goal.returns-in-Told
returns-in-Told c = rw c.in-Told.is c.words-in-Told.ensures

pub returns-in-ProbeClosed : goal.returns-in-ProbeClosed
returns-in-ProbeClosed c = rw c.in-ProbeClosed.is c.words-in-ProbeClosed.ensures

pub returns-in-ProbeFresh : goal.returns-in-ProbeFresh
returns-in-ProbeFresh c = rw c.in-ProbeFresh.is c.words-in-ProbeFresh.ensures

pub returns-in-ProbeWaiting : goal.returns-in-ProbeWaiting
returns-in-ProbeWaiting c = rw c.in-ProbeWaiting.is c.words-in-ProbeWaiting.ensures

pub returns-in-ProbeLate : goal.returns-in-ProbeLate
returns-in-ProbeLate c = rw c.in-ProbeLate.is c.words-in-ProbeLate.ensures

pub returns-in-Ping : goal.returns-in-Ping
returns-in-Ping c = rw c.in-Ping.is c.words-in-Ping.ensures

pub returns-in-NoteOk : goal.returns-in-NoteOk
returns-in-NoteOk c = rw c.in-NoteOk.is c.words-in-NoteOk.ensures

pub returns-in-NoteMiss : goal.returns-in-NoteMiss
returns-in-NoteMiss c = rw c.in-NoteMiss.is c.words-in-NoteMiss.ensures

pub returns-in-Evict : goal.returns-in-Evict
returns-in-Evict c = rw c.in-Evict.is c.words-in-Evict.ensures

pub returns-in_default : goal.returns-in_default
returns-in_default c =
    let d = c.in_default in
    rw (not_notifier_operation _ _ d.not-Tell d.not-Told d.not-ProbeClosed d.not-ProbeFresh d.not-ProbeWaiting
    d.not-ProbeLate d.not-Ping d.not-NoteOk d.not-NoteMiss d.not-Evict)
    c.client_operation.ensures
