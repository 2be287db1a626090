-- What a step of a leader does.
use Rattle.std.specs.Prelude.{◌≡◌}
use Rattle.fk_print.specs.declared.op.Op.{Op}
use Rattle.fk_watch.specs.Services.{Services}
use Rattle.fk_lead.specs.Meaning.{Meaning, Swept}
use Rattle.fk_lead.specs.Next.{after_step}
use Rattle.fk_lead.specs.Operation.{step_op}
use Rattle.fk_lead.specs.Sending.{IsReadable}
use Rattle.fk_lead.specs.Services.{post_after_step, table_after_step, user_after_step, watches_after_step}
use Rattle.fk_lead.specs.Sweeping.{IsGiven}

-- The leader `old` makes operation `o` on the services `before`; after it the leader is `new`, and the services are
-- `after`. Where it sweeps, what it gets is what the watches give: there is one such answer, and `new` keeps it. What
-- it sends can be read back.
pub record Steps (before after : Services) (old new : Meaning) (o : Op) : Type 0 where
  pub op : (s : Swept) → IsGiven before.watches old s
      → o ≡ step_op before.table before.post before.watches before.user s old
  pub machine : (s : Swept) → IsGiven before.watches old s
      → new ≡ after_step before.table before.post before.watches before.user s old
  pub given : IsGiven before.watches old new.swept
  pub table : after.table ≡ table_after_step before.table old
  pub post : after.post ≡ post_after_step before.post old
  pub watches : after.watches ≡ watches_after_step before.watches old
  pub user : after.user ≡ user_after_step before.user old
  pub sent : IsReadable old
