use Rattle.std.proofs.Common.{rules, ◌∙◌}
use Rattle.std.proofs.lemmas.Fn.{filter_same}
use Rattle.fk_client.proofs.Numbers.{kept_is}
use Rattle.fk_client.proofs.lists.forget.Goals as goal

pub returns : goal.returns
returns c = filter_same _ _ _ (λ x b f' k. search rules) _ _ c.retain.ensures.filtered ∙ kept_is c.args.id c.args.numbers.now.items
