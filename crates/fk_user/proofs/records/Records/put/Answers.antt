use Rattle.fk_user.proofs.Rising.{put_rises}
use Rattle.fk_user.proofs.records.Records.put.Goals as goal

pub invariant_of-self-2 : goal.invariant_of-self-2
invariant_of-self-2 c = put_rises c.self.inside.map.entries c.put_edits.new.records.entries c.args.path.now c.args.tx c.args.moment c.args.edits.now c.self.invariant c.in_ok-put_edits.ensures.ok
