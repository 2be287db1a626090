-- The tree that the commits leave, and the stamps of the user records.
use Rattle.std.specs.Prelude.{ℕ, ◌==◌, nat_le, if◌then◌else◌, ◌++◌, List, [], ◌∷◌, Option, Some, None, max}
use Rattle.fk_base.specs.Path.{PathNames, same_path}
use Rattle.fk_tree.specs.Sorted.{has_path, in_path_order}
use Rattle.fk_tree.specs.View.{View}
use Rattle.fk_tree.specs.Edit.{view_after}
use Rattle.fk_tree.specs.Fill.{fill_name, fill_version, fill_made}
use Rattle.fk_tree.specs.Touch.{edited_paths}
use Rattle.fk_tree.specs.declared.applied.Applied.{Applied}
use Rattle.fk_tree.specs.declared.node.Node.{Node}
use Rattle.fk_tree.specs.declared.request.Request.{Request}
use Rattle.fk_tree.specs.declared.request.Request.TheVariants as request
use Rattle.fk_tree.specs.Rows.{is_of}
use Rattle.fk_print.specs.declared.entry.Entry.{Entry}
use Rattle.fk_print.specs.declared.op.Op.{Op}
use Rattle.fk_print.specs.declared.op.Op.TheVariants as op
use Rattle.fk_spec.specs.Plan.{Plan}
use Rattle.fk_spec.specs.Start.{Pushed, pushed_of}

-- every path that was edited, in path order
abbrev pub all_edited : List Applied → List PathNames
all_edited [] = []
all_edited (a ∷ done) = edited_paths a ++ all_edited done

abbrev pub owned_among : ℕ → View → List PathNames → List PathNames
owned_among c v [] = []
owned_among c v (p ∷ ps) = if is_of c (v.node p) then p ∷ owned_among c v ps else owned_among c v ps

-- the paths whose node session c owns after applied requests, in path order
abbrev pub owned_after : ℕ → List Applied → List PathNames
owned_after c done = owned_among c (view_after done) (in_path_order (all_edited done))

abbrev pub gone_after : ℕ → List Applied → Request → List PathNames
gone_after c done (request.Close evict) = owned_after c done
gone_after c done _ = []

-- the request as it is applied after these
abbrev pub filled_after : List Applied → ℕ → Pushed → Applied
filled_after done tx x = record { tx = tx; moment = x.moment; session = x.session; k = x.k; request = x.request; name = fill_name (view_after done) x.request; version = fill_version (view_after done) x.request; gone = gone_after x.session done x.request; made = fill_made (view_after done) x.session x.request }

abbrev pub with_filled : List Applied → ℕ → Option Pushed → List Applied
with_filled done tx None = done
with_filled done tx (Some x) = filled_after done tx x ∷ done

abbrev pub committed_in : Plan → List Entry → Op → List Applied → List Applied
committed_in p h (op.CommitOk function tx) done = with_filled done tx (pushed_of p tx h)
committed_in p h _ done = done

-- what was committed, the newest first: each push filled at its place in the order of the commits
abbrev pub committed_of : Plan → List Entry → List Applied
committed_of p [] = []
committed_of p (e ∷ h) = committed_in p h e.op (committed_of p h)

-- the tree that the commits leave, as it is seen
abbrev pub stored_view : Plan → List Entry → View
stored_view p h = view_after (committed_of p h)

abbrev pub applied_as : ℕ → List Applied → Option Applied
applied_as t [] = None
applied_as t (a ∷ done) = if a.tx == t then Some a else applied_as t done

-- push t as it was committed
abbrev pub committed_as : Plan → ℕ → List Entry → Option Applied
committed_as p t h = applied_as t (committed_of p h)

abbrev pub last_editor : PathNames → List Applied → ℕ
last_editor path [] = 0
last_editor path (a ∷ done) = if has_path path (edited_paths a) then a.tx else last_editor path done

-- the last commit that edited a path, 0 where there is none
abbrev pub last_edit : Plan → PathNames → List Entry → ℕ
last_edit p path h = last_editor path (committed_of p h)

abbrev pub stamp_in : PathNames → Op → ℕ → ℕ
stamp_in path (op.PutOk function tx q) n = if same_path q path then max tx n else n
stamp_in path _ n = n

-- the stamp of a path's user record: the greatest push that was put there
abbrev pub stamp_of : PathNames → List Entry → ℕ
stamp_of path [] = 0
stamp_of path (e ∷ h) = stamp_in path e.op (stamp_of path h)

-- the commits that are numbered at most n, in the order of the commits
abbrev pub up_to : ℕ → List Applied → List Applied
up_to n [] = []
up_to n (a ∷ done) = if nat_le a.tx n then a ∷ up_to n done else up_to n done

-- The node of a path's user record: what the commits up to its stamp leave there.
abbrev pub record_of : Plan → PathNames → List Entry → Option Node
record_of p path h = (view_after (up_to (stamp_of path h) (committed_of p h))).node path
