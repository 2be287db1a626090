-- No number of an edit, and no last commit of a session, is beyond the pushes.
use Rattle.std.proofs.Common.{ℕ, ◌≤◌, cond, List, [], ◌∷◌, arith, Option, Some, None}
use Rattle.fk_base.specs.Path.{PathNames}
use Rattle.fk_tree.specs.Sorted.{has_path}
use Rattle.fk_tree.specs.Touch.{edited_paths}
use Rattle.fk_tree.specs.declared.applied.Applied.{Applied}
use Rattle.fk_print.specs.declared.entry.Entry.{Entry}
use Rattle.fk_print.specs.declared.op.Op.{Op}
use Rattle.fk_print.specs.declared.op.Op.TheVariants as op
use Rattle.fk_spec.specs.Plan.{Plan}
use Rattle.fk_spec.specs.Start.{Push, is_session, count_push, pushed_in, pushes_of}
use Rattle.fk_spec.specs.Settling.{last_for, last_of_session, session_of_push}
use Rattle.fk_spec.specs.Stored.{committed_of, last_edit, last_editor}
use Rattle.fk_spec.specs.Next.{IsHistory}
use Rattle.fk_law.specs.Due.{IsDue}
use Rattle.fk_law.proofs.Due.{due}
use Rattle.fk_law.proofs.Leaving.{commit_is}
use Rattle.fk_law.proofs.Pushing.{push_bound}
use Rattle.fk_law.proofs.Numbering.{AllAtMost}
use Rattle.fk_base.proofs.Logic.{by_test}
use Rattle.fk_law.proofs.Closes.{commits_were_pushed}

pub pushes_grow : (e : Entry) (h : List Entry) → pushes_of h ≤ pushes_of (e ∷ h)
pushes_grow e h = grow (pushed_in 0 e.op) (pushes_of h)
  where
    grow : (o : Option Push) (n : ℕ) → n ≤ count_push o n
    grow None n = omega arith
    grow (Some x) n = omega arith

commit_low : (p : Plan) (n t : ℕ) (h : List Entry) → IsHistory p h → IsDue p h (op.CommitOk n t) → t ≤ pushes_of h
commit_low p n t h l d = let v = (commit_is p n t h l d).live.is_of in (push_bound p t h v.push l v.pushed).2

editor_low : (n : ℕ) (path : PathNames) (done : List Applied) → AllAtMost n done → last_editor path done ≤ n
editor_low n path [] i = omega arith
editor_low n path (a ∷ done) i = by_test (has_path path (edited_paths a)) (λ b. cond b a.tx (last_editor path done) ≤ n) (λ _. i.0) (λ _. editor_low n path done i.1)

pub edit_low : (p : Plan) (path : PathNames) (h : List Entry) → IsHistory p h → last_edit p path h ≤ pushes_of h
edit_low p path h l = editor_low (pushes_of h) path (committed_of p h) (commits_were_pushed p h l)

last_step : (p : Plan) (c : ℕ) (h : List Entry) (o : Op) → IsHistory p h → IsDue p h o → last_of_session c h ≤ pushes_of h → last_for c h o (last_of_session c h) ≤ pushes_of h
last_step p c h (op.CommitOk n t) l d i = by_test (is_session c (session_of_push t h)) (λ b. cond b t (last_of_session c h) ≤ pushes_of h) (λ _. commit_low p n t h l d) (λ _. i)
last_step p c h o l d i = i

pub last_low : (p : Plan) (c : ℕ) (h : List Entry) → IsHistory p h → last_of_session c h ≤ pushes_of h
last_low p c [] l = omega arith
last_low p c (e ∷ h) l = let a = pushes_grow e h in let b = last_step p c h e.op l.0 (due p e h l) (last_low p c h l.0) in omega (arith, a, b)
