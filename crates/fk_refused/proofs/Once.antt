-- Each request once: transaction lines that are refused. They change the run of a client that creates `/x`, reads it
-- with a watch, and sets it: the line of its set, which is transaction 2, stands at place 11.
use Rattle.std.specs.Prelude.{◌==◌}
use Rattle.std.proofs.Common.{◌≡◌, ℕ, Bool, false, List, [], ◌∷◌, refl, subst, negsuc, codes, None}
use Rattle.std.proofs.lemmas.Bool.{false≢true}
use Rattle.fk_base.specs.Path.{PathNames, same_name, same_path}
use Rattle.fk_tree.specs.Check.{check}
use Rattle.fk_tree.specs.declared.request.Request.TheVariants as request
use Rattle.fk_print.specs.declared.line.Act.{Act}
use Rattle.fk_print.specs.declared.line.Act.TheVariants as act
use Rattle.fk_refused.proofs.Telling.{apart, some_none}
use Rattle.fk_refused.proofs.Trees.{start_shown}
use Rattle.fk_refused.specs.Once.{LineOfNoPush, LineThatDoesNotPass, OtherData, OtherMoment, OtherPath, SecondLineOfANumber, SecondLineOfARequest, x_path}

abbrev sets_to : List ℕ → Act → Bool
sets_to bytes (act.Set p b v) = same_name b bytes
sets_to bytes _ = false

abbrev sets_at : PathNames → Act → Bool
sets_at path (act.Set p b v) = same_path p path
sets_at path _ = false

pub second_line_of_a_number : SecondLineOfANumber
second_line_of_a_number r = false≢true r.0.rises

pub second_line_of_a_request : SecondLineOfARequest
second_line_of_a_request r = false≢true r.0.in_order

pub other_data : OtherData
other_data r = apart (λ x. sets_to (codes "2") x.act) r.0.applied.0 refl refl

pub other_path : OtherPath
other_path r = apart (λ x. sets_at (codes "y" ∷ []) x.act) r.0.applied.0 refl refl

pub other_moment : OtherMoment
other_moment r = apart (λ x. x.moment == 12) r.0.applied.0 refl refl

pub line_of_no_push : LineOfNoPush
line_of_no_push r = r.0.applied

pub line_that_does_not_pass : LineThatDoesNotPass
line_that_does_not_pass r = some_none (subst (λ v. check v 1 (request.Set x_path (codes "1") (negsuc 0)) ≡ None) start_shown r.0.applied.1)
