-- Refusals that have no cause, and are refused. The first change the run of a create under a missing parent, whose
-- reply stands at place 0 and whose sending at 9.
use Rattle.std.specs.Prelude.{◌==◌}
use Rattle.std.proofs.Common.{◌≡◌, Bool, true, false, [], ◌∷◌, refl, sym, subst, codes, Option, Some, None}
use Rattle.std.proofs.lemmas.Bool.{false≢true}
use Rattle.fk_base.specs.declared.code.Code.{Code}
use Rattle.fk_base.specs.declared.code.Code.TheVariants as code
use Rattle.fk_tree.specs.Check.{Refusal, check}
use Rattle.fk_tree.specs.declared.request.Request.{Request}
use Rattle.fk_tree.specs.declared.request.Request.TheVariants as request
use Rattle.fk_refused.proofs.Telling.{apart}
use Rattle.fk_refused.proofs.Trees.{start_shown}
use Rattle.fk_refused.specs.Causes.{BadArgumentsThatFit, BelowWhatWasSeen, CodeOfNoNumber, ErrorOfAnotherClient, ErrorOfAnotherCommand, ErrorWithoutAFault, ExpiredBelowWhatWasSeen, ExpiredWhileOpen, FaultBehindItsLoss, LossOfAnotherClient, LossOfAnotherCommand, LossWithoutAFault, OtherClientSent, OtherCode, OtherPlace, OtherWasSent, RefusedUnsent, UnfitIsDone, UnfitIsRefusedOtherwise}

abbrev orphan : Request
orphan = request.Create (codes "m" ∷ codes "y" ∷ []) (codes "v") false false

abbrev is_no_node : Code → Bool
is_no_node code.NoNode = true
is_no_node _ = false

abbrev is_missing : Option Refusal → Bool
is_missing None = false
is_missing (Some x) = is_no_node x.code

abbrev is_placed : Option Refusal → Bool
is_placed None = false
is_placed (Some x) = x.place == 0

pub bad_arguments_that_fit : BadArgumentsThatFit
bad_arguments_that_fit r = false≢true (sym r.0.0.0)

pub unfit_is_refused_otherwise : UnfitIsRefusedOtherwise
unfit_is_refused_otherwise r = false≢true r.0.0.0

pub unfit_is_done : UnfitIsDone
unfit_is_done r = false≢true r.0.0.0

pub other_code : OtherCode
other_code r = apart is_missing (subst (λ v. check v 1 orphan ≡ Some (record { code = code.NodeExists; place = 0 })) start_shown r.0.0.1.0) refl refl

pub other_place : OtherPlace
other_place r = apart is_placed (subst (λ v. check v 1 orphan ≡ Some (record { code = code.NoNode; place = 1 })) start_shown r.0.0.1.0) refl refl

pub refused_unsent : RefusedUnsent
refused_unsent r = r.0.0.1.1

pub other_was_sent : OtherWasSent
other_was_sent r = r.0.0.1.1

pub other_client_sent : OtherClientSent
other_client_sent r = r.0.0.1.1

pub below_what_was_seen : BelowWhatWasSeen
below_what_was_seen r = false≢true r.0.0.1.1

pub expired_while_open : ExpiredWhileOpen
expired_while_open r = false≢true r.0.0.1.0

pub expired_below_what_was_seen : ExpiredBelowWhatWasSeen
expired_below_what_was_seen r = false≢true r.0.0.1.1

pub loss_without_a_fault : LossWithoutAFault
loss_without_a_fault r = false≢true r.0.0.1

pub loss_of_another_command : LossOfAnotherCommand
loss_of_another_command r = false≢true r.0.0.1

pub loss_of_another_client : LossOfAnotherClient
loss_of_another_client r = false≢true r.0.0.1

pub fault_behind_its_loss : FaultBehindItsLoss
fault_behind_its_loss r = false≢true r.1.0.0.1

pub error_without_a_fault : ErrorWithoutAFault
error_without_a_fault r = false≢true r.0.0.1

pub error_of_another_command : ErrorOfAnotherCommand
error_of_another_command r = false≢true r.0.0.1

pub error_of_another_client : ErrorOfAnotherClient
error_of_another_client r = false≢true r.0.0.1

pub code_of_no_number : CodeOfNoNumber
code_of_no_number r = r.0.0.1
