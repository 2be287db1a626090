-- What a request reads of nodes tells as much of it as the nodes: a follower that keeps no more of what it was granted
-- goes on, decides and pushes as the rules' follower does.
use Rattle.std.specs.Prelude.{is_some, max}
use Rattle.std.proofs.Common.{◌≡◌, ◌∙◌, ◌++◌, ℕ, Bool, true, false, cond, List, [], ◌∷◌, map, length, Option, Some, None, refl, ap, sym, take}
use Rattle.std.proofs.lemmas.List.{length-map, map_push}
use Rattle.fk_base.specs.Path.{PathNames, Name, is_root, parent, same_path}
use Rattle.fk_base.specs.declared.code.Code.TheVariants as code
use Rattle.fk_tree.specs.Check.{Refusal, check, check_create, check_delete, check_set, check_under, has_names}
use Rattle.fk_tree.specs.Edit.{closes}
use Rattle.fk_tree.specs.Fill.{fill_made, fill_name, fill_version, final_path, made_of, version_of}
use Rattle.fk_tree.specs.Locks.{lock_paths, numbered_path, with_parent}
use Rattle.fk_tree.specs.Rows.{is_of}
use Rattle.fk_tree.specs.Sorted.{in_path_order}
use Rattle.fk_tree.specs.Tree.{map_some, up}
use Rattle.fk_tree.specs.View.{View}
use Rattle.fk_tree.specs.declared.node.Node.{Node}
use Rattle.fk_tree.specs.declared.request.Request.{Request}
use Rattle.fk_tree.specs.declared.request.Request.TheVariants as request
use Rattle.fk_print.specs.declared.entry.Entry.{Entry}
use Rattle.fk_stand.specs.Messages.{gone_of, push_with}
use Rattle.fk_spec.specs.Plan.{Plan, item_after}
use Rattle.fk_spec.specs.Stored.{owned_among}
use Rattle.fk_spec.specs.Follower as stage
use Rattle.fk_spec.specs.Follower.{Follower, Granted, Stage, decided, follower_op, greatest_last, next_stage, node_in, paths_of, to_begin, to_lock, view_of}
use Rattle.fk_follow.specs.Operation.{locked}
use Rattle.fk_follow.specs.Sketches.{follower_for, grant_for, node_for, sketch}

-- What granted records show. ----------------------------------------------------------------------------

-- a view with what a request reads of its nodes
abbrev view_for : Request → View → View
view_for r v = record { node = λ p. map_some (node_for r) (v.node p); closed = v.closed }

shown : (r : Request) (gs : List Granted) (p : PathNames) → node_in (map (grant_for r) gs) p ≡ map_some (node_for r) (node_in gs p)
shown r [] p = refl
shown r (g ∷ gs) p = here (same_path g.path p) (shown r gs p)
  where
    here : (b : Bool) → node_in (map (grant_for r) gs) p ≡ map_some (node_for r) (node_in gs p) → cond b (map_some (node_for r) g.node) (node_in (map (grant_for r) gs) p) ≡ map_some (node_for r) (cond b g.node (node_in gs p))
    here true i = refl
    here false i = i

view_is : (r : Request) (gs : List Granted) → view_of (map (grant_for r) gs) ≡ view_for r (view_of gs)
view_is r gs = λ i. record { node = λ p. shown r gs p i; closed = λ s. false }

same_paths : (r : Request) (gs : List Granted) → paths_of (map (grant_for r) gs) ≡ paths_of gs
same_paths r [] = refl
same_paths r (g ∷ gs) = ap (λ ps. g.path ∷ ps) (same_paths r gs)

same_last : (r : Request) (gs : List Granted) → greatest_last (map (grant_for r) gs) ≡ greatest_last gs
same_last r [] = refl
same_last r (g ∷ gs) = ap (max g.last) (same_last r gs)

-- What a request reads. ---------------------------------------------------------------------------------

map_same : (o : Option Node) → map_some (λ n. n) o ≡ o
map_same None = refl
map_same (Some n) = refl

whole : (ps : _) (v : View) → view_for (request.Multi ps) v ≡ v
whole ps v = λ i. record { node = λ p. map_same (v.node p) i; closed = v.closed }

there : (o : Option Node) → is_some (map_some sketch o) ≡ is_some o
there None = refl
there (Some n) = refl

made_is : (o : Option Node) → made_of (map_some sketch o) ≡ made_of o
made_is None = refl
made_is (Some n) = refl

version_is : (o : Option Node) → version_of (map_some sketch o) ≡ version_of o
version_is None = refl
version_is (Some n) = refl

names_are : (ns : List Name) → has_names (take 1 ns) ≡ has_names ns
names_are [] = refl
names_are (n ∷ ns) = refl

-- of a request that is no multi
abbrev few : View → View
few v = record { node = λ p. map_some sketch (v.node p); closed = v.closed }

under : (v : View) (p : PathNames) (seq : Bool) (o : Option Node) → check_under (few v) p seq (map_some sketch o) ≡ check_under v p seq o
under v p seq None = refl
under v p seq (Some d) = rw (there (v.node (final_path p seq d.made))) refl

create_is : (v : View) (p : PathNames) (seq : Bool) → check_create (few v) p seq ≡ check_create v p seq
create_is v p seq = ap (cond (is_root p) (Some code.NodeExists)) (under v p seq (v.node (parent p)))

set_is : (version : _) (o : Option Node) → check_set version (map_some sketch o) ≡ check_set version o
set_is version None = refl
set_is version (Some n) = refl

delete_is : (p : PathNames) (version : _) (o : Option Node) → check_delete p version (map_some sketch o) ≡ check_delete p version o
delete_is p version None = refl
delete_is p version (Some n) = rw (names_are n.names) refl

checks : (v : View) (session : ℕ) (r : Request) → check (view_for r v) session r ≡ check v session r
checks v session (request.Create p bytes seq eph) = rw (create_is v p seq) refl
checks v session (request.Set p bytes version) = rw (set_is version (v.node p)) refl
checks v session (request.Delete p version) = rw (delete_is p version (v.node p)) refl
checks v session (request.Close evict) = refl
checks v session (request.Multi ps) = ap (λ w. check w session (request.Multi ps)) (whole ps v)

-- the path that a sequential create locks reads its parent's owner and count
numbered : (p : PathNames) (o : Option Node) → numbered_path p (map_some sketch o) ≡ numbered_path p o
numbered p None = refl
numbered p (Some d) = refl

locks : (v : View) (owned : List PathNames) (r : Request) → lock_paths (view_for r v) owned r ≡ lock_paths v owned r
locks v owned (request.Create p bytes seq eph) = ap (λ ps. cond seq (cond (is_root p) (p ∷ []) (parent p ∷ ps)) (with_parent p)) (numbered p (v.node (parent p)))
locks v owned (request.Set p bytes version) = refl
locks v owned (request.Delete p version) = refl
locks v owned (request.Close evict) = refl
locks v owned (request.Multi ps) = refl

names : (v : View) (r : Request) → fill_name (view_for r v) r ≡ fill_name v r
names v (request.Create p bytes seq eph) = ap (final_path p seq) (made_is (v.node (parent p)))
names v (request.Set p bytes version) = refl
names v (request.Delete p version) = refl
names v (request.Close evict) = refl
names v (request.Multi ps) = refl

versions : (v : View) (r : Request) → fill_version (view_for r v) r ≡ fill_version v r
versions v (request.Create p bytes seq eph) = refl
versions v (request.Set p bytes version) = ap up (version_is (v.node p))
versions v (request.Delete p version) = refl
versions v (request.Close evict) = refl
versions v (request.Multi ps) = refl

mades : (v : View) (session : ℕ) (r : Request) → fill_made (view_for r v) session r ≡ fill_made v session r
mades v session (request.Create p bytes seq eph) = refl
mades v session (request.Set p bytes version) = refl
mades v session (request.Delete p version) = refl
mades v session (request.Close evict) = refl
mades v session (request.Multi ps) = ap (λ w. fill_made w session (request.Multi ps)) (whole ps v)

own_is : (session : ℕ) (o : Option Node) → is_of session (map_some sketch o) ≡ is_of session o
own_is session None = refl
own_is session (Some n) = refl

among : (v : View) (session : ℕ) (evict : Bool) (ps : List PathNames) → owned_among session (view_for (request.Close evict) v) ps ≡ owned_among session v ps
among v session evict [] = refl
among v session evict (p ∷ ps) = rw (own_is session (v.node p), among v session evict ps) refl

-- Its follower. -----------------------------------------------------------------------------------------

pub locked_for : (r : Request) (f : Follower) → locked (follower_for r f) ≡ locked f
locked_for r f = ap in_path_order (same_paths r f.granted)

decides : (seen : ℕ) (r : Request) (f : Follower) (o : Option Refusal) → decided seen (follower_for r f) o ≡ decided seen f o
decides seen r f None = refl
decides seen r f (Some x) = ap (λ n. stage.Refuse x (max seen (max f.last n))) (same_last r f.granted)

checked : (r : Request) (f : Follower) → check (view_of (map (grant_for r) f.granted)) f.session r ≡ check (view_of f.granted) f.session r
checked r f = ap (λ v. check v f.session r) (view_is r f.granted) ∙ checks (view_of f.granted) f.session r

stages : (seen : ℕ) (r : Request) (f : Follower) (o : Option PathNames) → next_stage seen r (follower_for r f) o ≡ next_stage seen r f o
stages seen r f (Some p) = refl
stages seen r f None = decides seen r f (check (view_of (map (grant_for r) f.granted)) f.session r) ∙ ap (decided seen f) (checked r f)

next_path : (r : Request) (f : Follower) → item_after (lock_paths (view_of (map (grant_for r) f.granted)) f.owned r) (length (map (grant_for r) f.granted)) ≡ item_after (lock_paths (view_of f.granted) f.owned r) (length f.granted)
next_path r f =
    ap (λ n. item_after (lock_paths (view_of (map (grant_for r) f.granted)) f.owned r) n) (length-map f.granted (grant_for r))
    ∙ ap (λ ps. item_after ps (length f.granted)) (ap (λ v. lock_paths v f.owned r) (view_is r f.granted) ∙ locks (view_of f.granted) f.owned r)

-- it locks its next path, or decides
pub locks_for : (seen : ℕ) (r : Request) (f : Follower) → to_lock seen r (follower_for r f) ≡ follower_for r (to_lock seen r f)
locks_for seen r f = ap (λ s. record (follower_for r f) { stage = s }) (
    ap (next_stage seen r (follower_for r f)) (next_path r f)
    ∙ stages seen r f (item_after (lock_paths (view_of f.granted) f.owned r) (length f.granted)))

-- it begins
pub begins_for : (seen : ℕ) (r : Request) (f : Follower) → to_begin seen r (follower_for r f) ≡ follower_for r (to_begin seen r f)
begins_for seen r f = either (closes r)
  where
    either : (b : Bool) → cond b (record (follower_for r f) { stage = stage.Owned }) (to_lock seen r (follower_for r f)) ≡ follower_for r (cond b (record f { stage = stage.Owned }) (to_lock seen r f))
    either true = refl
    either false = locks_for seen r f

-- it was granted one more
pub grows_for : (seen : ℕ) (r : Request) (f : Follower) (g : Granted) → to_lock seen r (record f { granted = map (grant_for r) f.granted ++ grant_for r g ∷ [] }) ≡ follower_for r (to_lock seen r (record f { granted = f.granted ++ g ∷ [] }))
grows_for seen r f g = ap (λ gs. to_lock seen r (record f { granted = gs })) (sym (map_push (grant_for r) f.granted g)) ∙ locks_for seen r (record f { granted = f.granted ++ g ∷ [] })

gone_are : (r : Request) (f : Follower) → gone_of (follower_for r f) r ≡ gone_of f r
gone_are (request.Create p bytes seq eph) f = refl
gone_are (request.Set p bytes version) f = refl
gone_are (request.Delete p version) f = refl
gone_are (request.Close evict) f =
    ap (λ v. owned_among f.session v f.owned) (view_is (request.Close evict) f.granted)
    ∙ among (view_of f.granted) f.session evict f.owned
gone_are (request.Multi ps) f = refl

-- what it pushes
pub pushes_for : (n moment : ℕ) (r : Request) (f : Follower) → push_with n moment (follower_for r f) r ≡ push_with n moment f r
pushes_for n moment r f = λ i. record {
  session = f.session;
  k = f.k;
  inv = n;
  moment = moment;
  request = r;
  name = (ap (λ v. fill_name v r) (view_is r f.granted) ∙ names (view_of f.granted) r) i;
  version = (ap (λ v. fill_version v r) (view_is r f.granted) ∙ versions (view_of f.granted) r) i;
  gone = gone_are r f i;
  made = (ap (λ v. fill_made v f.session r) (view_is r f.granted) ∙ mades (view_of f.granted) f.session r) i;
  paths = same_paths r f.granted i;
}

-- the operation that it makes
pub makes_for : (p : Plan) (h : List Entry) (n : ℕ) (r : Request) (f : Follower) (x : Stage) → follower_op p h n (follower_for r f) x ≡ follower_op p h n f x
makes_for p h n r f stage.Session = refl
makes_for p h n r f stage.Owned = refl
makes_for p h n r f (stage.Lock path) = refl
makes_for p h n r f stage.Push = refl
makes_for p h n r f (stage.Refuse c at) = refl
makes_for p h n r f (stage.Expire at) = refl
makes_for p h n r f (stage.Commit tx) = refl
makes_for p h n r f stage.Lost = refl
makes_for p h n r f stage.Reply = refl
makes_for p h n r f stage.Ack = refl
makes_for p h n r f stage.Ended = refl
