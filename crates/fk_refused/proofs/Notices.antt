-- Notifications that fit no watch, and are refused. Most change the run of a client that reads `/x` with a watch and
-- then sets it: its notification stands at place 1.
use Rattle.std.specs.Prelude.{◌==◌}
use Rattle.std.proofs.Common.{Bool, false, refl, Option, Some, None}
use Rattle.std.proofs.lemmas.Bool.{false≢true}
use Rattle.fk_tree.specs.Touch.{same_change}
use Rattle.fk_tree.specs.declared.change.Change.TheVariants as change
use Rattle.fk_spec.specs.Holding.{Fired}
use Rattle.fk_refused.proofs.Telling.{apart, none_some}
use Rattle.fk_refused.specs.Notices.{NoticeBeforeItsLine, NoticeOfAnotherClient, NoticeOfAnotherKind, NoticeOfAnotherPath, NoticeOfItsOwnNumber, NoticeOfTheLaterChange, NoticesOutOfOrder, OtherChange, OtherTransaction, SecondNotice}

abbrev is_change : Option Fired → Bool
is_change None = false
is_change (Some f) = same_change f.change change.Changed

abbrev is_second : Option Fired → Bool
is_second None = false
is_second (Some f) = f.tx == 2

pub other_change : OtherChange
other_change r = apart is_change r.1.0.0 refl refl

pub other_transaction : OtherTransaction
other_transaction r = apart is_second r.1.0.0 refl refl

pub notice_of_another_kind : NoticeOfAnotherKind
notice_of_another_kind r = r.1.0.0

pub notice_of_another_path : NoticeOfAnotherPath
notice_of_another_path r = r.1.0.0

pub notice_of_another_client : NoticeOfAnotherClient
notice_of_another_client r = r.1.1.0.0

pub second_notice : SecondNotice
second_notice r = r.1.0.0

pub notice_before_its_line : NoticeBeforeItsLine
notice_before_its_line r = none_some r.1.1.0.0

pub notice_of_its_own_number : NoticeOfItsOwnNumber
notice_of_its_own_number r = none_some r.0.0

pub notices_out_of_order : NoticesOutOfOrder
notices_out_of_order r = false≢true r.0.1

pub notice_of_the_later_change : NoticeOfTheLaterChange
notice_of_the_later_change r = apart is_second r.0.0 refl refl
