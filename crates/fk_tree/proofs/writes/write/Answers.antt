use Rattle.std.proofs.Common.{subst, sym}
use Rattle.std.specs.Prelude.{OnOk}
use Rattle.fk_tree.specs.Rows.{AreEdited}
use Rattle.fk_tree.proofs.Keeping.{close_drops, made_edits, noted_after}
use Rattle.fk_tree.proofs.writes.write.Goals as goal

pub drop_all-requires-in-Close-clause-drops : goal.drop_all-requires-in-Close-clause-drops
drop_all-requires-in-Close-clause-drops c = close_drops c.args.applied.now c.in-Close.evict c.args.edits.now c.in-Close.is c.requires.edits

pub returns-in-Create-clause-noted : goal.returns-in-Create-clause-noted
returns-in-Create-clause-noted c = noted_after c.create.result c.args.applied.now.tx c.args.applied.now.moment c.args.edits.now c.args.slots.now.entries c.create.new.slots.entries c.args.owners.now c.requires.noted
    (subst (λ es. OnOk c.create.result (AreEdited c.args.applied.now.tx c.args.applied.now.moment es c.args.slots.now.entries c.create.new.slots.entries)) (sym (made_edits c.args.applied.now c.in-Create.path c.in-Create.bytes c.in-Create.seq c.in-Create.eph c.owner-owner.result c.args.edits.now c.in-Create.is c.owner-owner.ensures c.requires.edits)) c.create.ensures.ok)
    c.create.ensures.err

pub returns-in-Multi-clause-noted : goal.returns-in-Multi-clause-noted
returns-in-Multi-clause-noted c = noted_after c.write_edits.result c.args.applied.now.tx c.args.applied.now.moment c.args.edits.now c.args.slots.now.entries c.write_edits.new.slots.entries c.args.owners.now c.requires.noted c.write_edits.ensures.ok c.write_edits.ensures.err
