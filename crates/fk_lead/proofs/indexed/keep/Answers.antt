use Rattle.std.proofs.Common.{◌≡◌, cond, ◌++◌, [], ◌∷◌, Some, ◌∙◌, ap, subst}
use Rattle.fk_base.specs.Path.{PathNames, same_path}
use Rattle.fk_lead.specs.Indexed.{kept_at}
use Rattle.fk_lead.proofs.Indexing.{kept_more, kept_updated}
use Rattle.fk_lead.proofs.indexed.keep.Goals as goal

-- src/indexed.rt
pub returns : goal.returns
returns c =
    let l = c.take-edits.new.own in
    let n = c.insert.new.self in
    let es = c.push.new.self in
    kept_more c.args.own.now l n c.args.change.now es
    (c.in_ok-push.ensures.ok ∙ ap (λ x. c.take-edits.result ++ x ∷ []) c.in_ok-copy.ensures ∙ ap (λ xs. xs ++ c.args.change.now ∷ []) c.take-edits.ensures.taken)
    c.take-edits.ensures.rest
    (subst (λ k. (p : PathNames) → kept_at n p ≡ cond (same_path p k) es (kept_at l p)) c.in_ok-copy-2.ensures (kept_updated l n c.in_ok-copy-2.field-0 (Some es) c.in_ok-insert.ensures.updates.0))
