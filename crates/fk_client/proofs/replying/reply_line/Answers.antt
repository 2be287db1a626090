use Rattle.std.proofs.Common.{◌≡◌, ◌∙◌, ap, subst}
use Rattle.std.specs.Prelude.{option_copied, option_map}
use Rattle.fk_print.specs.declared.line.Line.TheVariants as line
use Rattle.fk_spec.specs.Plan.{ask_of}
use Rattle.fk_spec.specs.Replies.{verb_asked}
use Rattle.fk_client.specs.Shown.{shown_outcome}
use Rattle.fk_client.proofs.replying.reply_line.Goals as goal

pub returns : goal.returns
returns c = subst (λ a. c.line_for.result ≡ line.Reply c.args.session c.args.unanswered.now.command (verb_asked a) (shown_outcome a c.args.unanswered.now.outcome)) c.command_at-command.ensures
    (c.line_for.ensures ∙ ap (λ s. line.Reply c.args.session c.args.unanswered.now.command (verb_asked (option_map ask_of (option_copied c.command_at-command.result))) s) c.in_ok-shown.ensures)
