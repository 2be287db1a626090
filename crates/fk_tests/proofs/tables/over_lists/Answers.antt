use Rattle.std.proofs.Common.{◌∙◌, length, sym, ap, arith}
use Rattle.fk_store.specs.Meaning.{new_table}
use Rattle.fk_world.proofs.Beginning.{are_few, asked_all}
use Rattle.fk_tests.proofs.tables.over_lists.Goals as goal

pub overflow_cast-sessions : goal.overflow_cast-sessions
overflow_cast-sessions c = omega (arith, ap length c.as_slice.ensures, are_few c.args.deployment c.requires)

pub play-requires-clause-table : goal.play-requires-clause-table
play-requires-clause-table c = c.in_ok-table.ensures ∙ ap new_table (ap length c.as_slice.ensures ∙ sym (asked_all c.args.deployment.clients))
