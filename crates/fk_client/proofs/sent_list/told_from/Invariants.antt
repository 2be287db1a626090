use Rattle.std.proofs.Common.{◌-◌, length}
use Rattle.fk_client.specs.Unanswered.{AreTold}
use Rattle.fk_client.proofs.sent_list.told_from.Given as goal

abbrev pub invariant-passing : goal.invariant-passing
invariant-passing l = AreTold l.told l.items.items

abbrev pub decreases-passing : goal.decreases-passing
decreases-passing l = length l.items.items - l.told
