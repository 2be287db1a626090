use Rattle.std.proofs.Common.{refl}
use Rattle.fk_region.proofs.Calls.{is_in}
use Rattle.fk_region.proofs.region.Region.len.Goals as goal

pub returns : goal.returns
returns c = (is_in c.args.ticket.now c.self.invariant c.self.view_is refl c.requires).len
