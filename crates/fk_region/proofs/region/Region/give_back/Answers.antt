use Rattle.std.proofs.Common.{arith}
use Rattle.fk_region.proofs.Calls.{has_given, is_in}
use Rattle.fk_region.proofs.region.Region.give_back.Goals as goal

pub release-requires-clause-some : goal.release-requires-clause-some
release-requires-clause-some c = let w = is_in c.args.ticket c.self.invariant c.self.view_is c.as_mut_slice.ensures.value c.requires in omega (arith, w.some)

pub release-requires-clause-inside : goal.release-requires-clause-inside
release-requires-clause-inside c j l = let w = is_in c.args.ticket c.self.invariant c.self.view_is c.as_mut_slice.ensures.value c.requires in w.inside j (omega arith)

pub invariant_of-self : goal.invariant_of-self
invariant_of-self c = (has_given c.self.inside.blocks c.args.ticket c.self.invariant c.self.view_is c.as_mut_slice.ensures.value c.as_mut_slice.ensures.len c.release.ensures c.blocks_needed-count.ensures c.requires).sound

pub returns-clause-after : goal.returns-clause-after
returns-clause-after c = (has_given c.self.inside.blocks c.args.ticket c.self.invariant c.self.view_is c.as_mut_slice.ensures.value c.as_mut_slice.ensures.len c.release.ensures c.blocks_needed-count.ensures c.requires).after

pub returns-clause-gone : goal.returns-clause-gone
returns-clause-gone c = (has_given c.self.inside.blocks c.args.ticket c.self.invariant c.self.view_is c.as_mut_slice.ensures.value c.as_mut_slice.ensures.len c.release.ensures c.blocks_needed-count.ensures c.requires).gone
