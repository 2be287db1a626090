use Rattle.fk_watch.specs.Kept.{watches_of}
use Rattle.fk_client.proofs.Watching.{set_for}
use Rattle.fk_client.proofs.registering.register.Goals as goal

pub returns-in-Done-clause-registered : goal.returns-in-Done-clause-registered
returns-in-Done-clause-registered c = set_for (watches_of c.args.watches.now) (watches_of c.register.new.self) c.args.session c.path_asked.result.now c.kind_asked.result c.args.query.now c.in-Done.watch c.args.number c.path_asked.ensures c.kind_asked.ensures c.in-Done.ensures.answer c.in-Done.ensures.after c.in-Done.ensures.sound
