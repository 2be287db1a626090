-- Whole runs of one follower on services that nobody else uses.
use Rattle.std.specs.Prelude.{◌≡◌, ℕ, zero, suc, true, false, List, [], ◌∷◌, codes}
use Rattle.fk_base.specs.Path.{PathNames}
use Rattle.fk_base.specs.declared.code.Code.TheVariants as code
use Rattle.fk_print.specs.declared.op.Op.{Op}
use Rattle.fk_print.specs.declared.op.Op.TheVariants as op
use Rattle.fk_print.specs.declared.op.Word.TheVariants as word
use Rattle.fk_queue.specs.Meaning as post
use Rattle.fk_queue.specs.declared.lane.Lane.TheVariants as lane
use Rattle.fk_store.specs.Meaning as table
use Rattle.fk_tree.specs.declared.request.Request.{Request}
use Rattle.fk_tree.specs.declared.request.Request.TheVariants as request
use Rattle.fk_follow.specs.Meaning.{Meaning, is_ended, started}
use Rattle.fk_follow.specs.Next.{after_step}
use Rattle.fk_follow.specs.Operation.{step_op}
use Rattle.fk_follow.specs.Services.{post_after_step, table_after_step}

-- a follower with the services that it is lent
pub record Run : Type 0 where
  pub follower : Meaning
  pub table : table.Meaning
  pub post : post.Meaning

-- one step at moment 11, where locks pass on after 10 and the session owns no node
abbrev pub stepped : Run → Run
stepped r = record {
  follower = after_step r.table r.post 11 10 [] r.follower;
  table = table_after_step r.table 11 10 r.follower;
  post = post_after_step r.post 11 r.follower;
}

-- the operations of so many steps
abbrev pub ops_of : ℕ → Run → List Op
ops_of zero r = []
ops_of (suc n) r = step_op r.table r.post 11 10 [] r.follower ∷ ops_of n (stepped r)

-- after so many steps
abbrev pub run_to : ℕ → Run → Run
run_to zero r = r
run_to (suc n) r = run_to n (stepped r)

-- a follower of invocation 1 on a request of session 1, which stands in its lane, on new services
abbrev pub run_of : Request → Run
run_of r = record {
  follower = started 1 1 1 (record { request = r; seen = 0 });
  table = table.new_table 1;
  post = post.pushed (lane.Session 1) (codes "request") (post.new_post 1);
}

abbrev pub x : PathNames
x = codes "x" ∷ []

-- the path of a node whose parent is missing
abbrev pub orphan : PathNames
orphan = codes "m" ∷ codes "y" ∷ []

abbrev pub create_of : PathNames → Request
create_of p = request.Create p (codes "hi") false false

-- a create locks the parent and the path, pushes, and commits
abbrev pub CreateRuns : Type 0
CreateRuns =
    (ops_of 6 (run_of (create_of x))
    ≡ op.SessionNew 1 ∷ op.LockOk 1 [] ∷ op.LockOk 1 x ∷ op.Push 1 1 ∷ op.CommitOk 1 1 ∷ op.AckOk 1 ∷ [])
    × (is_ended (run_to 5 (run_of (create_of x))).follower ≡ false)
    × (is_ended (run_to 6 (run_of (create_of x))).follower ≡ true)

-- a create under a missing parent is refused, and its client is told
abbrev pub OrphanIsRefused : Type 0
OrphanIsRefused =
    ops_of 6 (run_of (create_of orphan))
    ≡ op.SessionNew 1
    ∷ op.LockOk 1 (codes "m" ∷ [])
    ∷ op.LockOk 1 orphan
    ∷ op.RefuseOk 1 code.NoNode 0 0
    ∷ op.Reply 1 1 1
    ∷ op.AckOk 1
    ∷ []

abbrev pub armed_table : Run → Run
armed_table r = record { follower = r.follower; table = table.armed r.table; post = r.post }

-- where the table fails, the follower ends
abbrev pub FaultEnds : Type 0
FaultEnds = (ops_of 2 (armed_table (run_of (create_of x))) ≡ op.Fault 1 word.Session ∷ op.Idle ∷ [])
    × (is_ended (stepped (armed_table (run_of (create_of x)))).follower ≡ true)
