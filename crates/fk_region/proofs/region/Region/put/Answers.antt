use Rattle.fk_region.proofs.Calls.{free_inside, has_put}
use Rattle.fk_region.proofs.region.Region.put.Goals as goal

pub keep-self-inside-requires-clause-inside : goal.keep-self-inside-requires-clause-inside
keep-self-inside-requires-clause-inside c = free_inside c.self.invariant c.self.view_is c.as_mut_slice.ensures.value c.requires.room

pub invariant_of-self : goal.invariant_of-self
invariant_of-self c = (has_put c.self.inside.blocks c.self.invariant c.self.view_is c.as_mut_slice.ensures.value c.as_mut_slice.ensures.len c.keep-self-inside.ensures.after c.keep-self-inside.ensures.behind c.blocks_needed.ensures c.requires.some c.requires.room).sound

pub returns-clause-fresh : goal.returns-clause-fresh
returns-clause-fresh c = (has_put c.self.inside.blocks c.self.invariant c.self.view_is c.as_mut_slice.ensures.value c.as_mut_slice.ensures.len c.keep-self-inside.ensures.after c.keep-self-inside.ensures.behind c.blocks_needed.ensures c.requires.some c.requires.room).fresh

pub returns-clause-after : goal.returns-clause-after
returns-clause-after c = (has_put c.self.inside.blocks c.self.invariant c.self.view_is c.as_mut_slice.ensures.value c.as_mut_slice.ensures.len c.keep-self-inside.ensures.after c.keep-self-inside.ensures.behind c.blocks_needed.ensures c.requires.some c.requires.room).after

pub returns-clause-found : goal.returns-clause-found
returns-clause-found c = (has_put c.self.inside.blocks c.self.invariant c.self.view_is c.as_mut_slice.ensures.value c.as_mut_slice.ensures.len c.keep-self-inside.ensures.after c.keep-self-inside.ensures.behind c.blocks_needed.ensures c.requires.some c.requires.room).found
