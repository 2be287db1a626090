use Rattle.std.proofs.Common.{None}
use Rattle.fk_index.proofs.Finding.{put}
use Rattle.fk_index.proofs.owners.unmark_in.Goals as goal

pub returns : goal.returns
returns c = put c.args.marks.now c.remove.new.self c.args.path.now None c.remove.ensures.updates.0
