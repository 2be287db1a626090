use Rattle.std.proofs.Common.{arith, sym, ap, ◌∙◌}
use Rattle.fk_region.specs.Blocks.{bytes_at, bytes_in, next_in}
use Rattle.fk_region.proofs.Calls.{is_in}
use Rattle.fk_region.proofs.region.Region.copy_out.Goals as goal

pub read-requires-clause-inside : goal.read-requires-clause-inside
read-requires-clause-inside c j l = let w = is_in c.args.ticket.now c.self.invariant c.self.view_is c.as_slice.ensures.value c.requires.kept in w.inside j (omega (arith, w.len))

pub returns : goal.returns
returns c =
    let w = is_in c.args.ticket.now c.self.invariant c.self.view_is c.as_slice.ensures.value c.requires.kept in
    let row = c.as_slice.result.now in
    c.read.ensures ∙ ap (bytes_at (next_in row) (bytes_in row) c.args.ticket.now.first) (c.requires.len ∙ sym w.len) ∙ sym w.bytes
