-- The heartbeats of a history are of clients.
use Rattle.std.proofs.Common.{List, [], ◌∷◌}
use Rattle.fk_print.specs.declared.entry.Entry.{Entry}
use Rattle.fk_print.specs.declared.op.Op.{Op}
use Rattle.fk_print.specs.declared.op.Op.TheVariants as op
use Rattle.fk_spec.specs.Plan.{Plan}
use Rattle.fk_law.specs.Due.{IsDue}
use Rattle.fk_law.specs.Sessions.{BeatsAClient, HeartbeatsAreOfClients}
use Rattle.fk_law.proofs.Due.{due}

beats_a_client : (p : Plan) (h : List Entry) (o : Op) → IsDue p h o → BeatsAClient p o
beats_a_client p h (op.Beat n c) d = d.1
beats_a_client p h o d = tt

pub heartbeats_are_of_clients : HeartbeatsAreOfClients
heartbeats_are_of_clients p [] l = tt
heartbeats_are_of_clients p (e ∷ h) l = (heartbeats_are_of_clients p h l.0, beats_a_client p h e.op (due p e h l))
