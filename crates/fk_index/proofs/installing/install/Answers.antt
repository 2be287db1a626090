use Rattle.std.proofs.Common.{◌∙◌}
use Rattle.fk_index.proofs.Putting.{next_over, next_ready}
use Rattle.fk_index.proofs.installing.install.Goals as goal

pub putting-preserved : goal.putting-preserved
putting-preserved c = (
  λ p.
      next_over c.putting.drafts c.pop_first.new.self c.in-Some.path c.in-Some.node c.putting.slots c.put.new.slots c.in-Some.ensures.value c.in-Some.ensures.updates.0 c.put.ensures.records p
      ∙ c.putting.invariant.0 p,
  next_ready c.putting.drafts c.pop_first.new.self c.in-Some.path c.in-Some.node c.putting.slots c.put.new.slots c.putting.owners c.put.new.owners c.in-Some.ensures.value c.in-Some.ensures.updates.0 c.putting.invariant.1 c.put.ensures.owned c.put.ensures.records c.put.ensures.places,
  c.put.ensures.owned,
)
