use Rattle.std.proofs.Common.{◌≡◌, ap, ap₂, ◌∙◌, rules, codes, true}
use Rattle.std.proofs.lemmas.Result.{IfOk-weaker}
use Rattle.clap.specs.Words.{app_of, rule_of, with_rule}
use Rattle.clap.specs.Words.{new_app}
use Rattle.clap.specs.Simple.{on_top, app_of_fields}
use Rattle.clap.specs.declared.builder.command.Command.{Command}
use Rattle.clap.specs.declared.builder.command.Command.TheOpen.{Command-F}
use Rattle.fk_words.specs.Line.{bare, summary_rule, gen_rule, size_rule}
use Rattle.fk_words.proofs.words.command.Goals as goal

pub returns : goal.returns
returns c =
    let summary_is : rule_of c.action-summary.result ≡ summary_rule = search rules in
    let number_is : rule_of c.long-number.result ≡ gen_rule = search rules in
    let size_is : rule_of c.long-size.result ≡ size_rule = search rules in
    let new_is : app_of c.new-4.result ≡ new_app (codes "fkrun") = c.new-4.ensures.app in
    let bare_is : app_of c.disable_help_flag.result ≡ bare =
    ap app_of_fields c.disable_help_flag.ensures ∙ (ap (λ (f : Command-F Command). app_of_fields (record f { disable_help_flag = true })) c.no_binary_name.ensures
    ∙ ap (on_top (λ s. record s { no_binary_name = true; disable_help_flag = true })) new_is) in
    let first : app_of c.in_ok-arg.field-0 ≡ with_rule bare summary_rule = c.in_ok-arg.ensures.shape (search rules) ∙ ap₂ with_rule bare_is summary_is in
    let second : app_of c.in_ok-arg-2.field-0 ≡ with_rule (with_rule bare summary_rule) gen_rule = c.in_ok-arg-2.ensures.shape (search rules) ∙ ap₂ with_rule first number_is in
    IfOk-weaker c.arg-3.result _ _ (λ m h. h.shape (search rules) ∙ ap₂ with_rule second size_is) c.arg-3.ensures
