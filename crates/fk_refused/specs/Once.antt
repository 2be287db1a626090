-- Each request once: transaction lines that are refused. They change the run of a client that creates `/x`, reads it
-- with a watch, and sets it: the line of its set, which is transaction 2, stands at place 11.
use Rattle.std.specs.Prelude.{ℕ, List, [], ◌∷◌, negsuc, codes}
use Rattle.fk_base.specs.Path.{PathNames}
use Rattle.fk_print.specs.declared.line.Line.{Line}
use Rattle.fk_spec.specs.Plan.{plan_of}
use Rattle.fk_spec.specs.Promises.{PublishesOnce}
use Rattle.fk_refused.specs.Changing.{printing}
use Rattle.fk_print.specs.declared.line.Act.TheVariants as act
use Rattle.fk_print.specs.declared.line.Line.TheVariants as line
use Rattle.fk_spec.specs.OwnWatch as own

-- the line of the set, as it would be with these
abbrev pub set_line : (tx moment k : ℕ) → PathNames → List ℕ → List Line
set_line tx moment k path bytes = line.Tx (record { tx = tx; moment = moment; session = 1; k = k; act = act.Set path bytes (negsuc 0) }) ∷ []

abbrev pub x_path : PathNames
x_path = codes "x" ∷ []

-- A second transaction line has the number of the first.
abbrev pub SecondLineOfANumber : Type 0
SecondLineOfANumber = PublishesOnce (plan_of own.deployed) (printing 11 (set_line 1 11 2 x_path (codes "1")) own.entries) → ⊥

-- A second transaction line is of the same request.
abbrev pub SecondLineOfARequest : Type 0
SecondLineOfARequest = PublishesOnce (plan_of own.deployed) (printing 11 (set_line 2 11 1 x_path (codes "1")) own.entries) → ⊥

-- A transaction line shows other data than its push.
abbrev pub OtherData : Type 0
OtherData = PublishesOnce (plan_of own.deployed) (printing 11 (set_line 2 11 2 x_path (codes "2")) own.entries) → ⊥

-- A transaction line shows another path than its push.
abbrev pub OtherPath : Type 0
OtherPath = PublishesOnce (plan_of own.deployed) (printing 11 (set_line 2 11 2 (codes "y" ∷ []) (codes "1")) own.entries) → ⊥

-- A transaction line shows another moment than its push.
abbrev pub OtherMoment : Type 0
OtherMoment = PublishesOnce (plan_of own.deployed) (printing 11 (set_line 2 12 2 x_path (codes "1")) own.entries) → ⊥

-- A transaction line is of no push.
abbrev pub LineOfNoPush : Type 0
LineOfNoPush = PublishesOnce (plan_of own.deployed) (printing 11 (set_line 3 11 2 x_path (codes "1")) own.entries) → ⊥

-- A transaction line sets a node that the lines before it did not make.
abbrev pub LineThatDoesNotPass : Type 0
LineThatDoesNotPass = PublishesOnce (plan_of own.deployed) (printing 32 [] own.entries) → ⊥
