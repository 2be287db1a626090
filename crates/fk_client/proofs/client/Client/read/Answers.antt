use Rattle.std.proofs.Common.{Some, ◌∙◌, sym, ap}
use Rattle.fk_user.specs.Stored.{store_of}
use Rattle.fk_client.specs.Known.{reading_as, reading_in}
use Rattle.fk_client.specs.Standing.{client_of}
use Rattle.fk_client.proofs.Answered.{read_is}
use Rattle.fk_client.proofs.client.Client.read.Goals as goal

pub returns-in-Some-clause-client : goal.returns-in-Some-clause-client
unfolding client_of
returns-in-Some-clause-client c = λ q w told. rw c.place-command.ensures
    (ap (λ x. record (client_of c.args.self.now) { client = record (client_of c.args.self.now).client { reading = Some x } })
    (read_is q w (store_of c.args.user.now) told (client_of c.args.self.now) c.args.path.now (reading_as c.in-Some.reading) c.requires.next
    (sym (ap reading_in c.in-Some.is) ∙ c.in_ok-read_record.ensures.reading)))
