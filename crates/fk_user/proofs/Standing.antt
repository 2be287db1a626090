-- What stays of a user store after its calls.
use Rattle.std.proofs.Common.{◌≡◌, ℕ, ◌≤◌, ◌<◌, Bool, true, false, cond, List, sym, ◌∙◌, ap, subst, arith}
use Rattle.fk_base.specs.Path.{PathNames, same_path}
use Rattle.fk_tree.specs.declared.edit.Edit.{Edit}
use Rattle.fk_tree.proofs.Order.{same_path_is, same_path_self}
use Rattle.fk_user.specs.declared.answer.PutRecord.TheVariants as put
use Rattle.fk_user.specs.declared.answer.Publish.TheVariants as publish
use Rattle.fk_user.specs.Meaning.{Meaning, called, put_record, with_put}
use Rattle.fk_user.specs.StoreLaws.{NeverFalls, PutsNeverFall, PublicationsNeverFall, PutsAreDoneOnce, PublicationsAreDoneOnce}
use Rattle.fk_base.proofs.Logic.{by_test}

stays : (m : Meaning) → NeverFalls m m
stays m = (omega arith, λ q. omega arith)

called_stays : (m : Meaning) → NeverFalls m (called m)
called_stays m = by m.armed
  where
    by : (b : Bool) → NeverFalls m (cond b (record m { armed = false; faults = (called (record m { armed = true })).faults }) m)
    by true = stays m
    by false = stays m

pub puts_never_fall : PutsNeverFall
puts_never_fall m p tx moment es put.Done h = (
  omega arith,
  λ q. by_test (same_path q p) (λ b. (m.records q).stamp ≤ (cond b (put_record p tx moment es (m.records q)) (m.records q)).stamp)
      (λ s. let low : (m.records q).stamp < tx = subst (λ x. (m.records x).stamp < tx) (sym (same_path_is q p s)) h.1 in omega (arith, low))
      (λ _. omega arith),
)
puts_never_fall m p tx moment es (put.Already stamp) h = stays m
puts_never_fall m p tx moment es put.Failed h = called_stays m
puts_never_fall m p tx moment es put.NoMemory h = stays m

pub publications_never_fall : PublicationsNeverFall
publications_never_fall m tx epoch publish.Done h = (omega (arith, h.1), λ q. omega arith)
publications_never_fall m tx epoch (publish.Already mark) h = stays m
publications_never_fall m tx epoch publish.Failed h = called_stays m
publications_never_fall m tx epoch publish.NoMemory h = stays m

stamp_is : (m : Meaning) (p : PathNames) (tx moment : ℕ) (es : List Edit) → ((with_put m p tx moment es).records p).stamp ≡ tx
stamp_is m p tx moment es = ap (λ b. (cond b (put_record p tx moment es (m.records p)) (m.records p)).stamp) (same_path_self p)

pub puts_once : PutsAreDoneOnce
puts_once m p tx moment es put.Done h = let same = stamp_is m p tx moment es in omega (arith, h.1, same)
puts_once m p tx moment es (put.Already stamp) h = h.2 ∙ stamp_is m p tx moment es
puts_once m p tx moment es put.Failed h = tt
puts_once m p tx moment es put.NoMemory h = let same = stamp_is m p tx moment es in omega (arith, h.1, same)

pub publications_once : PublicationsAreDoneOnce
publications_once m tx epoch publish.Done h = omega (arith, h.1)
publications_once m tx epoch (publish.Already mark) h = h.2
publications_once m tx epoch publish.Failed h = tt
publications_once m tx epoch publish.NoMemory h = omega (arith, h.1)
