use Rattle.std.proofs.Common.{not, ◌==◌, rules}
use Rattle.std.proofs.lemmas.Map.Made.{filter_same_pairs}
use Rattle.fk_watch.proofs.Listed.{forgotten}
use Rattle.fk_watch.proofs.firings.forget.Goals as goal

pub returns : goal.returns
returns c = λ n.
    forgotten c.args.tx n c.args.fired.now.entries c.retain.new.self.entries c.retain.ensures.was_ordered
    (filter_same_pairs _ (λ e. not (e.1.tx == c.args.tx)) _ (λ k v b w f' t. search rules) _ _ c.retain.ensures.filtered)
