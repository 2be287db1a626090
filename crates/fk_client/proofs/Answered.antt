-- A read that the storage answered is the one that the rules make.
use Rattle.std.proofs.Common.{◌≡◌, ℕ, Bool, true, false, cond, Option, Some, None, refl, sym, ap, arith, ◌∙◌}
use Rattle.fk_base.specs.Path.{PathNames}
use Rattle.fk_queue.specs.Meaning as post
use Rattle.fk_user.specs.Meaning as user
use Rattle.fk_watch.specs.Meaning.{Watches}
use Rattle.fk_wire.specs.declared.message.Tell.{Tell}
use Rattle.fk_spec.specs.Client.{Reading, path_read, read_by}
use Rattle.fk_spec.specs.Plan.{Ask, Want, Unfit, Writes, Reads}
use Rattle.fk_client.specs.Beginning.{IsNextRead, WantsRead, read_at}
use Rattle.fk_client.specs.Meaning.{Meaning, next_ask}
use Rattle.fk_client.specs.Sighting.{sight_by}

wanted : (w : Want) (path : PathNames) (a : Ask) → a.want ≡ w → WantsRead w path → path_read (Some a) ≡ path
wanted Unfit path a e x = absurd x
wanted (Writes r) path a e x = absurd x
wanted (Reads q watch) path a e x = rw e x

path_is : (a : Option Ask) (path : PathNames) → IsNextRead a path → path_read a ≡ path
path_is None path x = absurd x
path_is (Some a) path x = wanted a.want path a refl x

abbrev found : user.Meaning → PathNames → ℕ → Reading
found u path stamp = record { node = (u.records path).node; stamp = stamp; looked = false }

same : (x y : Reading) → Some x ≡ Some y → x ≡ y
same x y e = cc

none : (x : Reading) → Some x ≡ None → ⊥
none x e = grind arith

answered : (u : user.Meaning) (path : PathNames) (b : Bool) (r : Reading) → Some r ≡ cond b None (Some (found u path (u.records path).stamp)) → r ≡ found u path r.stamp
answered u path true r e = absurd (none r e)
answered u path false r e = let s = same r (found u path (u.records path).stamp) e in s ∙ ap (λ z. found u path z.stamp) (sym s)

pub read_is : (q : post.Meaning) (w : Watches) (u : user.Meaning) (told : Option Tell) (m : Meaning) (path : PathNames) (r : Reading) → IsNextRead (next_ask m) path → Some r ≡ read_at u path → r ≡ read_by (sight_by q w u told m) (next_ask m) r.stamp
read_is q w u told m path r i e = answered u path u.armed r e ∙ ap (λ z. found u z r.stamp) (sym (path_is (next_ask m) path i))
