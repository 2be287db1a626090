use Rattle.std.proofs.Common.{◌∙◌, sym}
use Rattle.fk_run.proofs.Refusing.{stopped_is_not_done, told_of}
use Rattle.fk_run.proofs.Statuses.{completes, cut_of, cut_run, reads_of, run_of}
use Rattle.fk_run.proofs.top.fk_run.Goals as goal

pub returns-in-Some-load-clause-ran : goal.returns-in-Some-load-clause-ran
returns-in-Some-load-clause-ran g c = λ e.
    run_of _ c.in-Some.asked _ _ _ _ _ _ (sym c.in-Ok.ensures.asked ∙ c.in-Some.is) c.in-Some-load.is (c.run_load.ensures.ran e _)

pub returns-in-Some-load-clause-front : goal.returns-in-Some-load-clause-front
returns-in-Some-load-clause-front g c = λ e.
    cut_of _ c.in-Some.asked _ _ _ _ _ (sym c.in-Ok.ensures.asked ∙ c.in-Some.is) c.in-Some-load.is
    (cut_run (c.run_load.ensures.front (stopped_is_not_done _ e) _))

pub returns-in-None-clause-ran : goal.returns-in-None-clause-ran
returns-in-None-clause-ran g c = λ e.
    run_of _ c.in-Some.asked _ _ _ _ _ _ (sym c.in-Ok.ensures.asked ∙ c.in-Some.is) c.in-None.is (c.run_input.ensures.ran e)

pub returns-in-None-clause-front : goal.returns-in-None-clause-front
returns-in-None-clause-front g c = λ e.
    cut_of _ c.in-Some.asked _ _ _ _ _ (sym c.in-Ok.ensures.asked ∙ c.in-Some.is) c.in-None.is (c.run_input.ensures.front e)

pub returns-in-None-clause-complete : goal.returns-in-None-clause-complete
returns-in-None-clause-complete g c =
    let words = sym c.in-Ok.ensures.asked ∙ c.in-Some.is in
    λ no_read no_write. completes _ _ _ _ _ _ _
    (λ e. run_of _ c.in-Some.asked _ _ _ _ _ _ words c.in-None.is (c.run_input.ensures.ran e))
    c.run_input.ensures.refused
    (λ e. reads_of _ c.in-Some.asked words c.in-None.is)
    (told_of _ c.run_input.ensures.statuses (λ e. no_read (c.run_input.ensures.read_fault e)) (λ e. no_write (c.run_input.ensures.fault e)))
