-- The operation of each answer.
use Rattle.std.specs.Prelude.{ℕ}
use Rattle.fk_base.specs.declared.code.Code.{Code}
use Rattle.fk_print.specs.declared.op.Op.{Op}
use Rattle.fk_print.specs.declared.op.Op.TheVariants as op
use Rattle.fk_print.specs.declared.op.Word.TheVariants as word
use Rattle.fk_tree.specs.Check.{Refusal}
use Rattle.fk_settle.specs.declared.settling.Verdict.{Verdict}
use Rattle.fk_settle.specs.declared.settling.Verdict.TheVariants as verdict

abbrev pub refusal_of : Code → ℕ → Refusal
refusal_of code place = record { code = code; place = place }

abbrev pub refuse_by : ℕ → Refusal → ℕ → Verdict → Op
refuse_by n r at verdict.Done = op.RefuseOk n r.code r.place at
refuse_by n r at (verdict.Settled settled) = op.RefuseSettled n r.code r.place at settled
refuse_by n r at (verdict.Passed path holder moment) = op.RefuseLock n r.code r.place at path holder moment
refuse_by n r at verdict.Failed = op.Fault n word.Refuse

-- a loss is settled without locks, so none passes on
abbrev pub lost_by : ℕ → Verdict → Op
lost_by n verdict.Done = op.LostOk n
lost_by n (verdict.Settled settled) = op.LostSettled n settled
lost_by n (verdict.Passed path holder moment) = op.Idle
lost_by n verdict.Failed = op.Fault n word.Lost
