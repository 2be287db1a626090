use Rattle.std.proofs.Common.{refl, arith, rules}
use Rattle.fk_region.specs.declared.block.TheConstants.{NEW_BLOCK}
use Rattle.fk_region.proofs.Calls.{has_reserved}
use Rattle.fk_region.proofs.region.Region.reserve.Goals as goal

pub invariant_of-self-2 : goal.invariant_of-self-2
invariant_of-self-2 c = (has_reserved c.self.inside.blocks c.resize.new.self NEW_BLOCK c.self.invariant c.self.view_is (search rules) c.len-total.ensures (omega arith) refl refl refl c.in_ok-resize.ensures.items c.as_mut_slice.ensures.value c.as_mut_slice.ensures.len c.link-self-inside.ensures).sound

pub returns-clause-ok : goal.returns-clause-ok
returns-clause-ok c = (has_reserved c.self.inside.blocks c.resize.new.self NEW_BLOCK c.self.invariant c.self.view_is (search rules) c.len-total.ensures (omega arith) refl refl refl c.in_ok-resize.ensures.items c.as_mut_slice.ensures.value c.as_mut_slice.ensures.len c.link-self-inside.ensures).room
