-- The paths to lock, by whether the request closes its session.
use Rattle.std.proofs.Common.{◌≡◌, true, false, List, [], refl, sym}
use Rattle.std.proofs.lemmas.Bool.{false≢true}
use Rattle.fk_base.specs.Path.{PathNames}
use Rattle.fk_tree.specs.Edit.{closes}
use Rattle.fk_tree.specs.Locks.{lock_paths, with_parents}
use Rattle.fk_tree.specs.Sorted.{in_path_order}
use Rattle.fk_tree.specs.View.{View}
use Rattle.fk_tree.specs.declared.request.Request.{Request}
use Rattle.fk_tree.specs.declared.request.Request.TheVariants as request

-- a close locks the session's nodes and their parents
pub close_paths : (v : View) (owned : List PathNames) (r : Request) → closes r ≡ true → in_path_order (with_parents owned) ≡ lock_paths v owned r
close_paths v owned (request.Create p bytes seq eph) e = absurd (false≢true e)
close_paths v owned (request.Set p bytes version) e = absurd (false≢true e)
close_paths v owned (request.Delete p version) e = absurd (false≢true e)
close_paths v owned (request.Close evict) e = refl
close_paths v owned (request.Multi ps) e = absurd (false≢true e)

-- another request doesn't read what the session owns
pub few_paths : (v : View) (owned : List PathNames) (r : Request) → closes r ≡ false → lock_paths v [] r ≡ lock_paths v owned r
few_paths v owned (request.Create p bytes seq eph) e = refl
few_paths v owned (request.Set p bytes version) e = refl
few_paths v owned (request.Delete p version) e = refl
few_paths v owned (request.Close evict) e = absurd (false≢true (sym e))
few_paths v owned (request.Multi ps) e = refl
