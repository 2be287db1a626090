-- A follower that asks for its session's nodes.
use Rattle.std.proofs.Common.{◌≡◌, ◌∙◌, ℕ, List, length, refl, sym, ap, subst}
use Rattle.fk_base.specs.Path.{PathNames}
use Rattle.fk_print.specs.declared.op.Op.{Op}
use Rattle.fk_print.specs.declared.op.Op.TheVariants as op
use Rattle.fk_print.specs.declared.op.Word.TheVariants as word
use Rattle.fk_queue.specs.Meaning as post
use Rattle.fk_store.specs.Meaning as table
use Rattle.fk_spec.specs.Failing.{or_fault}
use Rattle.fk_spec.specs.Follower.{Stage}
use Rattle.fk_spec.specs.Follower as stage
use Rattle.fk_follow.specs.Fit.{IsListOf, IsRead, IsReadAt}
use Rattle.fk_follow.specs.Meaning.{Meaning}
use Rattle.fk_follow.specs.Next.{next_with}
use Rattle.fk_follow.specs.Operation.{step_op}
use Rattle.fk_follow.specs.Sending.{is_readable_at}
use Rattle.fk_follow.specs.Services.{stage_post, stage_table}
use Rattle.fk_follow.specs.Steps.{Steps}

asks : (t : table.Meaning) (q : post.Meaning) (now time : ℕ) (owned : List PathNames) (m : Meaning) → m.follower.stage ≡ stage.Owned → step_op t q now time owned m ≡ or_fault t.armed m.inv word.Owned (op.Owned m.inv (length owned))
asks t q now time owned m e = rw e refl

reads : (t : table.Meaning) (owned : List PathNames) (m : Meaning) → m.follower.stage ≡ stage.Owned → IsRead t owned m → IsListOf t m.follower.session owned
reads t owned m e r = subst (IsReadAt t m.follower.session owned) e r

-- what it says of each list that is its session's makes a step
pub lists_so : (t after : table.Meaning) (q : post.Meaning) (m n : Meaning) (now lock : ℕ) (o : Op) → m.follower.stage ≡ stage.Owned
    → ((owned : List PathNames) → IsListOf t m.follower.session owned → o ≡ or_fault t.armed m.inv word.Owned (op.Owned m.inv (length owned)))
    → ((owned : List PathNames) (at : ℕ) → IsListOf t m.follower.session owned → n ≡ next_with t owned at o m)
    → IsListOf t m.follower.session n.follower.owned
    → after ≡ table.called t
    → Steps (record { table = t; post = q }) (record { table = after; post = q }) m n now lock o
lists_so t after q m n now lock o e is_op next given called = record {
  op = λ owned r. said owned r;
  machine = λ owned r. next owned now (reads t owned m e r) ∙ ap (λ x. next_with t owned now x m) (said owned r);
  given = subst (IsReadAt t m.follower.session n.follower.owned) (sym e) given;
  table = called ∙ sym (ap (λ s. stage_table t now lock m s) e);
  post = sym (ap (λ s. stage_post q now m s) e);
  sent = subst (is_readable_at now m) (sym e) tt;
}
  where
    said : (owned : List PathNames) → IsRead t owned m → o ≡ step_op t q now lock owned m
    said owned r = is_op owned (reads t owned m e r) ∙ sym (asks t q now lock owned m e)
