use Rattle.std.proofs.Common.{ap, sym, ◌∙◌, true≢false}
use Rattle.serde_json.specs.Written.{compact_text}
use Rattle.fk_wire.proofs.Pusheds.{pusheds}
use Rattle.fk_wire.proofs.Texts.{float_free, only_message, other_text}
use Rattle.fk_wire.proofs.pushed.decode_pushed.Goals as goal

pub text_of-requires : goal.text_of-requires
text_of-requires c =
    rw c.in_ok-again.ensures.value (float_free pusheds _ _ (rw c.in-Some.is at c.in_ok-version.ensures.limits) (rw c.in-Some.is at c.in_ok-version.ensures.said))

pub returns-clause-malformed : goal.returns-clause-malformed
returns-clause-malformed c e =
    other_text pusheds _ _ _ (rw c.in-Some.is at c.in_ok-version.ensures.fields)
    (λ same. true≢false (sym (c.is_same.ensures.1 (c.as_slice.ensures ∙ (c.in_ok-text.ensures ∙ (ap compact_text c.in_ok-again.ensures.value ∙ same)))) ∙ c.if-is_same.false))

pub returns-then-is_same-clause-back : goal.returns-then-is_same-clause-back
returns-then-is_same-clause-back c =
    only_message pusheds _ _ _ (rw c.in-Some.is at c.in_ok-version.ensures.fields)
