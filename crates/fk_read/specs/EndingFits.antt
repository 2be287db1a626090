-- What an ending that was read has.
use Rattle.std.specs.Prelude.{⊤}
use Rattle.fk_base.specs.Limits.{IsNumber, IsPath}
use Rattle.fk_read.specs.declared.ending.Ending.{Ending}
use Rattle.fk_read.specs.declared.ending.Ending.TheVariants as ending

-- its numbers and its path are those of a line
abbrev pub IsEnding : Ending → Type 0
IsEnding ending.Done = ⊤
IsEnding (ending.Settled settled) = IsNumber settled
IsEnding (ending.Lock path holder moment) = IsPath path × IsNumber holder × IsNumber moment
