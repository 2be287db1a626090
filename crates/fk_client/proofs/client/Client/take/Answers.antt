use Rattle.std.proofs.Common.{◌≡◌, IfOk, Some, subst}
use Rattle.fk_client.specs.Shown.{lines_in, made_by}
use Rattle.fk_client.specs.Sighting.{sight_by}
use Rattle.fk_client.specs.Standing.{client_of}
use Rattle.fk_client.proofs.client.Client.take.Goals as goal

pub returns-in-Acked-clause-lines : goal.returns-in-Acked-clause-lines
unfolding client_of
returns-in-Acked-clause-lines c = λ told i q w u. subst (λ m. IfOk c.told.result (λ r. r.1 ≡ lines_in (sight_by q w u (Some m) (client_of c.args.self.now)) r.0 (client_of c.args.self.now))) (c.in_ok-message.ensures told i) (c.told.ensures.lines q w u)

pub returns-in-Acked-clause-client : goal.returns-in-Acked-clause-client
unfolding client_of
returns-in-Acked-clause-client c = λ told i q w u. subst (λ m. IfOk c.told.result (λ r. client_of c.told.new.self ≡ made_by q w u (Some m) r.0 (client_of c.args.self.now))) (c.in_ok-message.ensures told i) (c.told.ensures.client q w u)
