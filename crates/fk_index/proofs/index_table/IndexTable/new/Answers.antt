use Rattle.std.proofs.Common.{refl}
use Rattle.fk_index.proofs.Starting.{start_owned, start_rising, starts_new}
use Rattle.fk_index.proofs.index_table.IndexTable.new.Goals as goal

pub invariant_of-result : goal.invariant_of-result
invariant_of-result c = record { owned = start_owned c.in_ok-root_slots.field-0 c.new.result c.in_ok-root_slots.ensures c.new.ensures.empty; rising = start_rising c.in_ok-root_slots.field-0 c.in_ok-root_slots.ensures }

pub returns : goal.returns
returns c = starts_new c.args.sessions c.in_ok-root_slots.field-0 c.in_ok-new_sessions.field-0.items _ c.in_ok-root_slots.ensures c.in_ok-new_sessions.ensures (λ p. refl) (λ s. refl) refl refl refl
