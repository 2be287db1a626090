-- An operation of a function, which may fail.
use Rattle.std.specs.Prelude.{ℕ, Bool, if◌then◌else◌}
use Rattle.fk_print.specs.declared.op.Op.{Op}
use Rattle.fk_print.specs.declared.op.Op.TheVariants as op
use Rattle.fk_print.specs.declared.op.Word.{Word}

-- function n's operation, or its fault under the operation's word where the called service is armed
abbrev pub or_fault : Bool → ℕ → Word → Op → Op
or_fault armed n word o = if armed then op.Fault n word else o
