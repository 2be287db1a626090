use Rattle.std.proofs.Common.{sym, ◌∙◌}
use Rattle.fk_watch.proofs.Indexing.{place_added}
use Rattle.fk_watch.proofs.index.add_place.Goals as goal

pub returns-in_ok-insert-clause-same : goal.returns-in_ok-insert-clause-same
returns-in_ok-insert-clause-same c =
    place_added c.args.index.now c.insert.new.self c.in_ok-copy.field-0 c.new.result (rw c.in_ok-copy.ensures (sym c.contains_key.ensures ∙ c.if-not-contains_key.true)) c.new.ensures.empty c.in_ok-insert.ensures.updates.0
