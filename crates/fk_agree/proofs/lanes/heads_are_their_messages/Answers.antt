use Rattle.fk_agree.proofs.Heading.{leader_head_is_its_push, session_head_is_its_request, watch_head_is_its_note}
use Rattle.fk_agree.proofs.lanes.heads_are_their_messages.Goals as goal

pub returns-clause-session : goal.returns-clause-session
returns-clause-session c = session_head_is_its_request

pub returns-clause-leader : goal.returns-clause-leader
returns-clause-leader c = leader_head_is_its_push

pub returns-clause-watch : goal.returns-clause-watch
returns-clause-watch c = watch_head_is_its_note
