-- Replies that are refused. Most change the run of a client that creates `/x`, reads it with a watch, and sets it:
-- its replies stand at places 27, 24 and 0, the lines of its transactions at 32 and 11.
use Rattle.std.specs.Prelude.{◌==◌}
use Rattle.std.proofs.Common.{◌≡◌, ℕ, Bool, true, false, List, refl, sym, subst, negsuc, codes}
use Rattle.std.proofs.lemmas.Bool.{false≢true}
use Rattle.fk_base.specs.Path.{same_name}
use Rattle.fk_base.specs.declared.code.Code.TheVariants as code
use Rattle.fk_tree.specs.Ask.{ask}
use Rattle.fk_tree.specs.Fill.{fill_version}
use Rattle.fk_tree.specs.declared.request.Query.TheVariants as query
use Rattle.fk_tree.specs.declared.request.Request.TheVariants as request
use Rattle.fk_print.specs.declared.line.Shown.{Shown}
use Rattle.fk_print.specs.declared.line.Shown.TheVariants as shown
use Rattle.fk_print.specs.declared.line.Verb.{Verb}
use Rattle.fk_print.specs.declared.line.Verb.TheVariants as verb
use Rattle.fk_spec.specs.Replies.{shown_answer}
use Rattle.fk_spec.specs.Shown.{shown_number}
use Rattle.fk_refused.proofs.Telling.{apart, some_none}
use Rattle.fk_refused.proofs.Trees.{made_shown}
use Rattle.fk_refused.specs.Replies.{AnswerBeyondTheLines, ExpiredBeyondTheLines, LostWithALine, MissingThatIsThere, OtherAnswer, OtherNumber, OtherVerb, OtherVersion, PlainWithALine, ReadAnsweredAsAWrite, RefusedWithALine, RepeatedReply, RepliesOutOfOrder, ReplyBeforeItsLine, ReplyByAnotherLine, ReplyToNoCommand, at_x, made_stat}
use Rattle.fk_spec.specs.Follower.{is_number}

abbrev is_create : Verb → Bool
is_create verb.Create = true
is_create _ = false

abbrev is_version : ℕ → Shown → Bool
is_version n (shown.Version tx version) = version == n
is_version n _ = false

abbrev got : List ℕ → Shown → Bool
got b (shown.Got at bytes stat) = same_name bytes b
got b _ = false

pub repeated_reply : RepeatedReply
repeated_reply r = false≢true r.0.0

pub replies_out_of_order : RepliesOutOfOrder
replies_out_of_order r = false≢true r.1.1.1.0.0

pub reply_to_no_command : ReplyToNoCommand
reply_to_no_command r = r.0.1

pub other_verb : OtherVerb
other_verb r = apart is_create r.0.1.0 refl refl

pub other_number : OtherNumber
other_number r = apart (λ s. is_number 1 (shown_number s)) r.0.1.1 refl refl

pub other_version : OtherVersion
other_version r = apart (is_version 5) (subst (λ v. shown.Version 2 5 ≡ shown.Version 2 (fill_version v (request.Set at_x (codes "1") (negsuc 0)))) made_shown r.0.1.1) refl refl

pub reply_by_another_line : ReplyByAnotherLine
reply_by_another_line r = r.0.1.1

pub reply_before_its_line : ReplyBeforeItsLine
reply_before_its_line r = r.1.0.1.1

pub refused_with_a_line : RefusedWithALine
refused_with_a_line r = some_none r.0.1.1

pub plain_with_a_line : PlainWithALine
plain_with_a_line r = some_none r.0.1.1

pub lost_with_a_line : LostWithALine
lost_with_a_line r = some_none r.0.1.1

pub other_answer : OtherAnswer
other_answer r = apart (got (codes "1")) (subst (λ v. shown.Got 1 (codes "1") made_stat ≡ shown_answer 1 (ask v (query.Get at_x))) made_shown r.1.1.1.0.1.1.0) refl refl

pub missing_that_is_there : MissingThatIsThere
missing_that_is_there r = apart (got (codes "0")) (sym (subst (λ v. shown.Refused code.NoNode 1 0 ≡ shown_answer 1 (ask v (query.Get at_x))) made_shown r.1.1.1.0.1.1.0)) refl refl

pub read_answered_as_a_write : ReadAnsweredAsAWrite
read_answered_as_a_write r = apart (got (codes "0")) (sym (subst (λ v. shown.Done 1 ≡ shown_answer 1 (ask v (query.Get at_x))) made_shown r.1.1.1.0.1.1.0)) refl refl

pub answer_beyond_the_lines : AnswerBeyondTheLines
answer_beyond_the_lines r = false≢true r.1.1.1.0.1.1.1

pub expired_beyond_the_lines : ExpiredBeyondTheLines
expired_beyond_the_lines r = false≢true r.0.1.1
