use Rattle.std.proofs.Common.{◌≡◌, ◌+◌, length}
use Rattle.fk_script.specs.EventLines.{session}
use Rattle.fk_script.proofs.event_words.session.Given as goal

abbrev pub invariant-looking : goal.invariant-looking
invariant-looking l = record {
  same : l.session + session l.rest l.name ≡ session l.fn.names l.name;
  count : l.session + length l.rest ≡ length l.fn.names;
}

abbrev pub decreases-looking : goal.decreases-looking
decreases-looking l = length l.rest
