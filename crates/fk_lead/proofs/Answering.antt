-- What the answers of the services say is the operation by the services' meanings.
use Rattle.std.proofs.Common.{◌≡◌, ℕ, Bool, true, false, cond, List, refl, arith}
use Rattle.std.specs.Prelude.{nat_lt}
use Rattle.std.proofs.lemmas.Bool.Decides.{nat_tests}
use Rattle.fk_base.specs.Path.{PathNames}
use Rattle.fk_tree.specs.Sorted.{in_path_order}
use Rattle.fk_tree.specs.declared.edit.Edit.{Edit}
use Rattle.fk_print.specs.declared.op.Op.TheVariants as op
use Rattle.fk_print.specs.declared.op.Word.TheVariants as word
use Rattle.fk_store.specs.Answers.{IsTransact}
use Rattle.fk_store.specs.Meaning.{Meaning}
use Rattle.fk_store.specs.declared.answer.Transact.{Transact}
use Rattle.fk_store.specs.declared.answer.Transact.TheVariants as transact
use Rattle.fk_store.specs.declared.cond.Found.TheVariants as found
use Rattle.fk_user.specs.Answers.{after_publish, after_put, IsPublish, IsPut}
use Rattle.fk_user.specs.Meaning as user
use Rattle.fk_user.specs.declared.answer.Publish.{Publish}
use Rattle.fk_user.specs.declared.answer.Publish.TheVariants as publish
use Rattle.fk_user.specs.declared.answer.PutRecord.{PutRecord}
use Rattle.fk_user.specs.declared.answer.PutRecord.TheVariants as put
use Rattle.fk_wire.specs.declared.message.Pushed.{Pushed}
use Rattle.fk_settle.specs.Verdicts.{commit_by, verdict_of}
use Rattle.fk_settle.proofs.Commits.{commit_told}
use Rattle.fk_spec.specs.Failing.{or_fault}
use Rattle.fk_lead.specs.Operation.{commit_op, done_op, drop_op, publish_op, put_op}
use Rattle.fk_lead.specs.Said.{done_by, drop_by, finish_of, publish_by, put_by}
use Rattle.fk_lead.specs.Services.{finish_conds, published_at, put_at}
use Rattle.fk_lead.specs.declared.finishing.Finish.{Finish}
use Rattle.fk_lead.specs.declared.finishing.Finish.TheVariants as finish

-- ---- the table

pub commit_said : (t : Meaning) (n tx : ℕ) (x : Pushed) → commit_by n tx (verdict_of t x.session x.k x.inv (in_path_order x.paths)) ≡ or_fault t.armed n word.Commit (commit_op t n tx x)
commit_said t n tx x = commit_told t n tx x.session x.k x.inv (in_path_order x.paths)

-- what the answer of a transaction says that finishes a push
abbrev pub finish_by : Transact → Finish
finish_by transact.Done = finish.Done
finish_by (transact.Missed place (found.Number n)) = finish.Already n
finish_by (transact.Missed place (found.Lock l)) = finish.Failed
finish_by transact.Failed = finish.Failed
finish_by transact.NoMemory = finish.Failed

pub finish_is : (t : Meaning) (tx : ℕ) (r : Transact) → IsTransact t (finish_conds tx) r → (r ≡ transact.NoMemory → ⊥) → finish_by r ≡ finish_of t tx
finish_is t tx transact.Done i n = grind (arith, nat_tests)
finish_is t tx (transact.Missed place (found.Number m)) i n = grind (arith, nat_tests)
finish_is t tx (transact.Missed place (found.Lock l)) i n = grind (arith, nat_tests)
finish_is t tx transact.Failed i n = grind (arith, nat_tests)
finish_is t tx transact.NoMemory i n = absurd (n refl)

drop_chosen : (n tx done : ℕ) (a b : Bool) → drop_by n tx (cond a finish.Failed (cond b finish.Done (finish.Already done))) ≡ cond a (op.Fault n word.Drop) (cond b (op.DropOk n tx) (op.DropMiss n tx done))
drop_chosen n tx done true b = refl
drop_chosen n tx done false true = refl
drop_chosen n tx done false false = refl

pub drop_said : (t : Meaning) (n tx : ℕ) → drop_by n tx (finish_of t tx) ≡ or_fault t.armed n word.Drop (drop_op t n tx)
drop_said t n tx = drop_chosen n tx t.done t.armed (nat_lt t.done tx)

done_chosen : (n tx done : ℕ) (a b : Bool) → done_by n tx (cond a finish.Failed (cond b finish.Done (finish.Already done))) ≡ cond a (op.Fault n word.Done) (cond b (op.DoneOk n tx) (op.DoneMiss n tx done))
done_chosen n tx done true b = refl
done_chosen n tx done false true = refl
done_chosen n tx done false false = refl

pub done_said : (t : Meaning) (n tx : ℕ) → done_by n tx (finish_of t tx) ≡ or_fault t.armed n word.Done (done_op t n tx)
done_said t n tx = done_chosen n tx t.done t.armed (nat_lt t.done tx)

-- ---- the user storage

pub put_said : (u : user.Meaning) (n tx : ℕ) (path : PathNames) (r : PutRecord) → IsPut u path tx r → (r ≡ put.NoMemory → ⊥) → put_by n tx path r ≡ or_fault u.armed n word.Put (put_op u n tx path)
put_said u n tx path put.Done i e = grind (arith, nat_tests)
put_said u n tx path (put.Already stamp) i e = grind (arith, nat_tests)
put_said u n tx path put.Failed i e = grind (arith, nat_tests)
put_said u n tx path put.NoMemory i e = absurd (e refl)

pub put_after : (u : user.Meaning) (tx moment : ℕ) (path : PathNames) (es : List Edit) (r : PutRecord) → IsPut u path tx r → (r ≡ put.NoMemory → ⊥) → after_put u path tx moment es r ≡ put_at path tx moment es u
put_after u tx moment path es put.Done i e = grind (arith, nat_tests)
put_after u tx moment path es (put.Already stamp) i e = grind (arith, nat_tests)
put_after u tx moment path es put.Failed i e = grind (arith, nat_tests)
put_after u tx moment path es put.NoMemory i e = absurd (e refl)

pub publish_said : (u : user.Meaning) (n tx : ℕ) (r : Publish) → IsPublish u tx r → (r ≡ publish.NoMemory → ⊥) → publish_by n tx r ≡ or_fault u.armed n word.Publish (publish_op u n tx)
publish_said u n tx publish.Done i e = grind (arith, nat_tests)
publish_said u n tx (publish.Already mark) i e = grind (arith, nat_tests)
publish_said u n tx publish.Failed i e = grind (arith, nat_tests)
publish_said u n tx publish.NoMemory i e = absurd (e refl)

pub publish_after : (u : user.Meaning) (tx : ℕ) (epoch : List ℕ) (r : Publish) → IsPublish u tx r → (r ≡ publish.NoMemory → ⊥) → after_publish u tx epoch r ≡ published_at tx epoch u
publish_after u tx epoch publish.Done i e = grind (arith, nat_tests)
publish_after u tx epoch (publish.Already mark) i e = grind (arith, nat_tests)
publish_after u tx epoch publish.Failed i e = grind (arith, nat_tests)
publish_after u tx epoch publish.NoMemory i e = absurd (e refl)
