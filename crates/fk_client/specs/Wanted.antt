-- What a command wants, as the code has it.
use Rattle.fk_spec.specs.Plan as plan
use Rattle.fk_spec.specs.Plan.{Unfit, Writes, Reads}
use Rattle.fk_client.specs.declared.want.Want.{Want}
use Rattle.fk_client.specs.declared.want.Want.TheVariants as want

abbrev pub want_as : Want → plan.Want
want_as want.Unfit = Unfit
want_as (want.Writes r) = Writes r
want_as (want.Reads q watch) = Reads q watch
