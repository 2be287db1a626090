use Rattle.fk_script.proofs.print.put_event.Goals as goal

pub returns-in-FailClient : goal.returns-in-FailClient
returns-in-FailClient c = rw (c.in-FailClient.is, ← c.name-in-FailClient.ensures) c.put_line-in-FailClient.ensures
