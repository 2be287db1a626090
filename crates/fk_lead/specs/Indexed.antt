-- The edits of a push, kept by their paths.
use Rattle.std.specs.Prelude.{◌≡◌, ⊤, List, [], Option, Some, None}
use Rattle.std.specs.BTreeMap.{BTreeMap, is_at}
use Rattle.std.specs.Map.{lookup}
use Rattle.fk_base.specs.Path.{PathNames, path_cmp}
use Rattle.fk_tree.specs.Edit.{effects}
use Rattle.fk_tree.specs.declared.edit.Edit.{Edit}
use Rattle.fk_tree.specs.Touch.{edits_at}
use Rattle.fk_wire.specs.declared.message.Pushed.{Pushed}
use Rattle.fk_settle.specs.Transaction.{applied_as}

abbrev pub or_no_edits : Option (List Edit) → List Edit
or_no_edits None = []
or_no_edits (Some es) = es

-- what is kept under a path
abbrev pub kept_at : BTreeMap PathNames (List Edit) → PathNames → List Edit
kept_at m p = or_no_edits (lookup (is_at (path_cmp p)) m.entries)

-- under each path its own of these edits are kept
abbrev pub AreByPath : BTreeMap PathNames (List Edit) → List Edit → Type 0
AreByPath m es = (p : PathNames) → kept_at m p ≡ edits_at p es

-- What is kept of a push, if anything, are its edits by their paths. They don't depend on its number.
abbrev pub IsIndexOf : Option (BTreeMap PathNames (List Edit)) → Pushed → Type 0
IsIndexOf None x = ⊤
IsIndexOf (Some m) x = AreByPath m (effects (applied_as 0 x))
