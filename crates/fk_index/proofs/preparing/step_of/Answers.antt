use Rattle.std.proofs.Common.{ap}
use Rattle.fk_store.specs.declared.write.Write.{Write}
use Rattle.fk_index.specs.Parts.{node_by}
use Rattle.fk_index.proofs.Readiness.{unchanged}
use Rattle.fk_index.proofs.preparing.step_of.Goals as goal

pub returns-in-Grant : goal.returns-in-Grant
returns-in-Grant c p o = unchanged c.args.write.now p o (ap (λ (w : Write). node_by w o) c.in-Grant.is)

pub returns-in-Release : goal.returns-in-Release
returns-in-Release c p o = unchanged c.args.write.now p o (ap (λ (w : Write). node_by w o) c.in-Release.is)
