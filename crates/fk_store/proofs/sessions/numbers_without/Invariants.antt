use Rattle.std.proofs.Common.{◌≡◌, take}
use Rattle.fk_store.specs.Writes.{without}
use Rattle.fk_store.proofs.sessions.numbers_without.Given as goal

abbrev pub invariant-keeping : goal.invariant-keeping
invariant-keeping l = l.left ≡ without l.number (take l.other-index l.numbers)
