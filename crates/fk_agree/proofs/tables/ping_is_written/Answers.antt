use Rattle.fk_agree.proofs.Finishing.{ping_is_written, pong_is_written}
use Rattle.fk_agree.proofs.tables.ping_is_written.Goals as goal

pub returns-clause-noted : goal.returns-clause-noted
returns-clause-noted c = ping_is_written

pub returns-clause-answered : goal.returns-clause-answered
returns-clause-answered c = pong_is_written
