use Rattle.fk_law_reply.proofs.RefusedOutcomes.{refused_beyond_seen, refused_holds_at_its_number, refused_was_refused}
use Rattle.fk_law_reply.proofs.refused_requests.refused_requests_hold_at_their_numbers.Goals as goal

pub returns-clause-refused : goal.returns-clause-refused
returns-clause-refused c = refused_was_refused

pub returns-clause-holds : goal.returns-clause-holds
returns-clause-holds c = refused_holds_at_its_number

pub returns-clause-seen : goal.returns-clause-seen
returns-clause-seen c = refused_beyond_seen
