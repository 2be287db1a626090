use Rattle.fk_print.proofs.event_text.put_event.Goals as goal

pub returns-in-Watch : goal.returns-in-Watch
returns-in-Watch c = rw c.in-Watch.is c.put_line-in-Watch.ensures

pub returns-in-FailClient : goal.returns-in-FailClient
returns-in-FailClient c = rw c.in-FailClient.is c.put_line-in-FailClient.ensures
