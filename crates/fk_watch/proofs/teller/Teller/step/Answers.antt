use Rattle.std.specs.Prelude.{◌+◌, drop}
use Rattle.fk_watch.specs.Notes.{firing_as, firings_as}
use Rattle.fk_watch.specs.TellingStanding.{teller_of}
use Rattle.fk_watch.proofs.teller.Teller.step.Goals as goal

-- src/teller.rt
pub tell-requires-clause-client : goal.tell-requires-clause-client
unfolding teller_of
tell-requires-clause-client c =
    c.requires.next (firing_as c.args.self.now.note.tx c.in-Some.fired) (firings_as c.args.self.now.note.tx (drop (c.args.self.now.count + 1) c.args.self.now.note.fired))
    (rw c.in-Tell.is (rw c.in-Some.is at c.in_ok-fired-in-Tell.ensures.some))
