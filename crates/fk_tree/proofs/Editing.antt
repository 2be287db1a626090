-- Child names that rise before an edit rise after it.
use Rattle.std.proofs.Common.{◌≡◌, ℕ, Bool, true, false, cond, Option, Some, None, refl}
use Rattle.fk_base.specs.Path.{Name, name_cmp}
use Rattle.fk_tree.specs.Edit.{edit, with_child}
use Rattle.fk_tree.specs.Rows.{names_of}
use Rattle.fk_tree.specs.Sorted.{add_name, has_name, rises}
use Rattle.fk_tree.specs.Tree.{map_some, up}
use Rattle.fk_tree.specs.declared.edit.What.{What}
use Rattle.fk_tree.specs.declared.edit.What.TheVariants as what
use Rattle.fk_tree.specs.declared.node.Node.{Node}
use Rattle.fk_tree.proofs.Keeping.{dropped_rise}
use Rattle.fk_tree.proofs.Order.{name_exact, name_total}
use Rattle.fk_tree.proofs.Rising.{rises_with}

pub added_rise : (x : Name) (tx : ℕ) (o : Option Node) → rises name_cmp (names_of o) ≡ true → rises name_cmp (names_of (map_some (with_child x tx) o)) ≡ true
added_rise x tx None h = refl
added_rise x tx (Some n) h = step (has_name x n.names)
  where
    step : (b : Bool) → rises name_cmp (cond b n (record n { cversion = up n.cversion; made = up n.made; pzxid = tx; names = add_name x n.names })).names ≡ true
    step true = h
    step false = rises_with name_total name_exact x n.names h

pub edit_rises : (tx moment : ℕ) (w : What) (o : Option Node) → rises name_cmp (names_of o) ≡ true → rises name_cmp (names_of (edit tx moment w o)) ≡ true
edit_rises tx moment (what.Make bytes owner) o h = refl
edit_rises tx moment (what.Replace bytes) None h = refl
edit_rises tx moment (what.Replace bytes) (Some n) h = h
edit_rises tx moment what.Remove o h = refl
edit_rises tx moment (what.AddName x) o h = added_rise x tx o h
edit_rises tx moment (what.DropName x) o h = dropped_rise x tx o h
