-- Which changes of a path a watch takes.
use Rattle.std.specs.Prelude.{Bool, true, false, if◌then◌else◌, ◌&&◌, List, [], ◌∷◌, Option, Some, None}
use Rattle.fk_base.specs.Path.{PathNames, same_path}
use Rattle.fk_tree.specs.declared.change.Change.{Change}
use Rattle.fk_tree.specs.declared.change.Change.TheVariants as change
use Rattle.fk_tree.specs.declared.change.Kind.{Kind}
use Rattle.fk_tree.specs.declared.change.Kind.TheVariants as kind
use Rattle.fk_tree.specs.declared.change.Touch.{Touch}
use Rattle.fk_tree.specs.declared.request.Query.{Query}
use Rattle.fk_tree.specs.declared.request.Query.TheVariants as query

-- A watch on a node's data takes that the node is created, changed or deleted; one on its children takes
-- a change among them, and that the node is deleted.
abbrev pub takes : Kind → Change → Bool
takes kind.Data change.Created = true
takes kind.Data change.Changed = true
takes kind.Data change.Deleted = true
takes kind.Data change.Child = false
takes kind.Child change.Created = false
takes kind.Child change.Changed = false
takes kind.Child change.Deleted = true
takes kind.Child change.Child = true

-- the kind of the watch that a read sets
abbrev pub kind_asked : Query → Kind
kind_asked (query.Get p) = kind.Data
kind_asked (query.Stat p) = kind.Data
kind_asked (query.Ls p) = kind.Child

abbrev pub same_kind : Kind → Kind → Bool
same_kind kind.Data kind.Data = true
same_kind kind.Child kind.Child = true
same_kind _ _ = false

-- the first of these touches that is of this path and that a watch of this kind takes
abbrev pub first_taken : PathNames → Kind → List Touch → Option Change
first_taken p k [] = None
first_taken p k (t ∷ ts) = if same_path t.path p && takes k t.change then Some t.change else first_taken p k ts

-- whether one of these touches is of this path
abbrev pub has_touch : PathNames → List Touch → Bool
has_touch p [] = false
has_touch p (t ∷ ts) = if same_path t.path p then true else has_touch p ts
