-- Short runs on views, computed: what is checked, filled, shown and locked at each place.
use Rattle.std.specs.Prelude.{◌≡◌, ℕ, suc, pos, negsuc, true, false, List, [], ◌∷◌, Option, Some, None, codes, refl}
use Rattle.fk_base.specs.Path.{PathNames}
use Rattle.fk_base.specs.declared.code.Code.{Code}
use Rattle.fk_base.specs.declared.code.Code.TheVariants as code
use Rattle.fk_tree.specs.Tree.{map_some, stat_of}
use Rattle.fk_tree.specs.View.{View, start_view}
use Rattle.fk_tree.specs.Edit.{after}
use Rattle.fk_tree.specs.Fill.{fill_name, fill_version, fill_made, last_digits}
use Rattle.fk_tree.specs.Check.{Refusal, check}
use Rattle.fk_tree.specs.Apply.{reply_of}
use Rattle.fk_tree.specs.Touch.{touches, edited_paths}
use Rattle.fk_tree.specs.Locks.{lock_paths}
use Rattle.fk_tree.specs.declared.applied.Applied.{Applied}
use Rattle.fk_tree.specs.declared.change.Change.TheVariants as change
use Rattle.fk_tree.specs.declared.node.Stat.{Stat}
use Rattle.fk_tree.specs.declared.reply.Reply.TheVariants as reply
use Rattle.fk_tree.specs.declared.reply.PartReply.TheVariants as part_reply
use Rattle.fk_tree.specs.declared.request.Part.TheVariants as part
use Rattle.fk_tree.specs.declared.request.Request.{Request}
use Rattle.fk_tree.specs.declared.request.Request.TheVariants as request

-- the request k of a session as it is applied to a view, at moment 11
abbrev filled : View → ℕ → ℕ → ℕ → List PathNames → Request → Applied
filled v tx session k gone r = record { tx = tx; moment = 11; session = session; k = k; request = r; name = fill_name v r; version = fill_version v r; gone = gone; made = fill_made v session r }

-- the view after the requests of session 1 that pass, from transaction tx on
abbrev played : View → ℕ → List Request → View
played v tx [] = v
played v tx (r ∷ rs) = played (after v (filled v tx 1 tx [] r)) (suc tx) rs

abbrev numbers : ℕ → ℕ → ℕ → ℕ → ℕ → ℕ → ℕ → ℕ → ℕ → ℕ → Stat
numbers c m p ct mt v cv owner len children = record { czxid = c; mzxid = m; pzxid = p; ctime = ct; mtime = mt; version = v; cversion = cv; aversion = 0; owner = owner; length = len; children = children }

abbrev refusal : Code → ℕ → Option Refusal
refusal c place = Some (record { code = c; place = place })

abbrev create : PathNames → List ℕ → Request
create p bytes = request.Create p bytes false false

abbrev x : PathNames
x = codes "x" ∷ []

abbrev d : PathNames
d = codes "d" ∷ []

abbrev dc : PathNames
dc = codes "d" ∷ codes "c" ∷ []

-- a node is made, and its parent changes
abbrev after_x : View
after_x = played start_view 1 (create x (codes "hi") ∷ [])

x_stat : map_some stat_of (after_x.node x) ≡ Some (numbers 1 1 1 11 11 0 0 0 2 0)
x_stat = refl

root_stat : map_some stat_of (after_x.node []) ≡ Some (numbers 0 0 1 0 0 0 1 0 0 1)
root_stat = refl

refused_again : check after_x 1 (create x []) ≡ refusal code.NodeExists 0
refused_again = refl

refused_under_missing : check after_x 1 (create (codes "m" ∷ codes "y" ∷ []) []) ≡ refusal code.NoNode 0
refused_under_missing = refl

refused_root : check after_x 1 (create [] []) ≡ refusal code.NodeExists 0
refused_root = refl

refused_root_delete : check after_x 1 (request.Delete [] (negsuc 0)) ≡ refusal code.NotEmpty 0
refused_root_delete = refl

-- an expected version that is the node's, and one that no longer is
abbrev after_sets : View
after_sets = played after_x 2 (request.Set x (codes "p") (negsuc 0) ∷ request.Set x (codes "q") (pos 1) ∷ [])

set_version : fill_version (played after_x 2 (request.Set x (codes "p") (negsuc 0) ∷ [])) (request.Set x (codes "q") (pos 1)) ≡ 2
set_version = refl

refused_version : check after_sets 1 (request.Set x (codes "r") (pos 1)) ≡ refusal code.BadVersion 0
refused_version = refl

x_stat_after_sets : map_some stat_of (after_sets.node x) ≡ Some (numbers 1 3 1 11 11 2 0 0 1 0)
x_stat_after_sets = refl

-- a node with a child isn't deleted
abbrev after_dc : View
after_dc = played start_view 1 (create d [] ∷ create dc [] ∷ [])

refused_not_empty : check after_dc 1 (request.Delete d (negsuc 0)) ≡ refusal code.NotEmpty 0
refused_not_empty = refl

deleted_child_passes : check after_dc 1 (request.Delete dc (negsuc 0)) ≡ None
deleted_child_passes = refl

abbrev after_child : View
after_child = played after_dc 3 (request.Delete dc (negsuc 0) ∷ [])

emptied_passes : check after_child 1 (request.Delete d (negsuc 0)) ≡ None
emptied_passes = refl

d_stat : map_some stat_of (after_child.node d) ≡ Some (numbers 1 1 3 11 11 0 2 0 0 0)
d_stat = refl

-- numbers go on after a delete
abbrev q : PathNames
q = codes "q" ∷ []

abbrev numbered : Request
numbered = request.Create (codes "q" ∷ codes "n" ∷ []) [] true false

third_number : fill_name (played start_view 1 (create q [] ∷ numbered ∷ numbered ∷ request.Delete (codes "q" ∷ codes "n0000000000" ∷ []) (negsuc 0) ∷ [])) numbered ≡ codes "q" ∷ codes "n0000000002" ∷ []
unfolding last_digits
third_number = refl

-- an ephemeral node has no children, and goes with its session
abbrev e : PathNames
e = codes "e" ∷ []

abbrev f : PathNames
f = codes "f" ∷ []

abbrev after_e : View
after_e = played start_view 1 (request.Create e [] false true ∷ request.Create f [] false true ∷ [])

refused_under_e : check after_e 1 (create (codes "e" ∷ codes "k" ∷ []) []) ≡ refusal code.NoChildrenForEphemerals 0
refused_under_e = refl

abbrev closing : Applied
closing = filled after_e 3 1 4 (e ∷ f ∷ []) (request.Close false)

closed_root : map_some stat_of ((after after_e closing).node []) ≡ Some (numbers 0 0 3 0 0 0 4 0 0 0)
closed_root = refl

closed_is_refused : check (after after_e closing) 1 (request.Close false) ≡ refusal code.SessionExpired 0
closed_is_refused = refl

other_passes : check (after after_e closing) 2 (request.Close false) ≡ None
other_passes = refl

closing_touches : touches closing ≡ record { path = e; change = change.Deleted } ∷ record { path = []; change = change.Child } ∷ record { path = f; change = change.Deleted } ∷ []
closing_touches = refl

closing_edits : edited_paths closing ≡ [] ∷ e ∷ f ∷ []
closing_edits = refl

closing_locks : lock_paths after_e (e ∷ f ∷ []) (request.Close false) ≡ [] ∷ e ∷ f ∷ []
closing_locks = refl

-- a multi is made whole, part by part
abbrev a : PathNames
a = codes "a" ∷ []

abbrev ab : PathNames
ab = codes "a" ∷ codes "b" ∷ []

abbrev first_multi : Request
first_multi = request.Multi (part.Create a (codes "1") false ∷ part.Set a (codes "2") (negsuc 0) ∷ part.Create ab [] false ∷ [])

first_passes : check start_view 1 first_multi ≡ None
first_passes = refl

first_reply : reply_of (filled start_view 1 1 1 [] first_multi) ≡ reply.Multi (part_reply.Created a ∷ part_reply.Version 1 ∷ part_reply.Created ab ∷ [])
first_reply = refl

abbrev after_multi : View
after_multi = played start_view 1 (first_multi ∷ [])

a_stat : map_some stat_of (after_multi.node a) ≡ Some (numbers 1 1 1 11 11 1 1 0 1 1)
a_stat = refl

abbrev second_multi : Request
second_multi = request.Multi (part.Set a (codes "3") (negsuc 0) ∷ part.Delete (codes "m" ∷ []) (negsuc 0) ∷ [])

second_refused : check after_multi 1 second_multi ≡ refusal code.NoNode 2
second_refused = refl

second_locks : lock_paths after_multi [] second_multi ≡ [] ∷ a ∷ (codes "m" ∷ []) ∷ []
second_locks = refl

third_passes : check after_multi 1 (request.Multi (part.Delete ab (negsuc 0) ∷ part.Delete a (negsuc 0) ∷ [])) ≡ None
third_passes = refl

-- under an ephemeral parent only the parent is locked for a sequential create
numbered_locks : lock_paths after_e [] (request.Create (codes "e" ∷ codes "k" ∷ []) [] true false) ≡ e ∷ []
numbered_locks = refl

numbered_locks_under_q : lock_paths (played start_view 1 (create q [] ∷ [])) [] numbered ≡ q ∷ (codes "q" ∷ codes "n0000000000" ∷ []) ∷ []
unfolding last_digits
numbered_locks_under_q = refl
