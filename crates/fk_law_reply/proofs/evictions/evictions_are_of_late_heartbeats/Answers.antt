use Rattle.fk_law_reply.proofs.Evicting.{eviction_is_of_a_late_heartbeat, evictor_found_late}
use Rattle.fk_law_reply.proofs.evictions.evictions_are_of_late_heartbeats.Goals as goal

pub returns-clause-late : goal.returns-clause-late
returns-clause-late c = evictor_found_late

pub returns-clause-request : goal.returns-clause-request
returns-clause-request c = eviction_is_of_a_late_heartbeat
