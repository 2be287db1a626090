use Rattle.std.proofs.Common.{◌≡◌, map}
use Rattle.fk_base.proofs.path_rules.names_of.Given as goal

abbrev pub invariant-cutting : goal.invariant-cutting
invariant-cutting l = l.names ≡ map (λ x. x.now) l.yielded
