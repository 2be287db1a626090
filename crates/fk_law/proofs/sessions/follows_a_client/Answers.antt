use Rattle.fk_law.proofs.Beating.{heartbeats_are_of_clients}
use Rattle.fk_law.proofs.Clients.{follows_a_client}
use Rattle.fk_law.proofs.sessions.follows_a_client.Goals as goal

pub returns-clause-beats : goal.returns-clause-beats
returns-clause-beats c = heartbeats_are_of_clients

pub returns-clause-follows : goal.returns-clause-follows
returns-clause-follows c = follows_a_client
