-- Neither a check of a part nor what is filled of it reads a transaction or a moment.
use Rattle.std.proofs.Common.{◌≡◌, ℕ, ℤ, Bool, true, false, cond, List, [], ◌∷◌, Option, Some, None, refl, sym, ◌∙◌, ap}
use Rattle.std.specs.Prelude.{is_some}
use Rattle.fk_base.specs.Path.{PathNames, same_path}
use Rattle.fk_tree.specs.declared.node.Node.{Node}
use Rattle.fk_tree.specs.declared.edit.Edit.{Edit}
use Rattle.fk_tree.specs.declared.edit.What.{What}
use Rattle.fk_tree.specs.declared.edit.What.TheVariants as what
use Rattle.fk_tree.specs.declared.request.Part.{Part}
use Rattle.fk_tree.specs.declared.request.Part.TheVariants as part
use Rattle.fk_tree.specs.Sorted.{has_name, add_name, drop_name}
use Rattle.fk_tree.specs.Tree.{map_some, up}
use Rattle.fk_tree.specs.View.{View}
use Rattle.fk_tree.specs.Edit.{edit, edited}
use Rattle.fk_tree.specs.Fill.{fill_part, version_of}
use Rattle.fk_tree.specs.Check.{check_delete}

-- a node without its transactions and moments
abbrev pub plain : Node → Node
plain n = record n { czxid = 0; mzxid = 0; pzxid = 0; ctime = 0; mtime = 0 }

-- two nodes that differ in transactions and moments alone
abbrev pub AreAlike : Option Node → Option Node → Type 0
AreAlike o x = map_some plain o ≡ map_some plain x

pub plain_edit : (tx moment : ℕ) (w : What) (o : Option Node) → map_some plain (edit tx moment w o) ≡ edit 0 0 w (map_some plain o)
plain_edit tx moment (what.Make bytes owner) o = refl
plain_edit tx moment (what.Replace bytes) None = refl
plain_edit tx moment (what.Replace bytes) (Some n) = refl
plain_edit tx moment what.Remove o = refl
plain_edit tx moment (what.AddName x) None = refl
plain_edit tx moment (what.AddName x) (Some n) = ap Some (step (has_name x n.names))
  where
    step : (b : Bool) → plain (cond b n (record n { cversion = up n.cversion; made = up n.made; pzxid = tx; names = add_name x n.names })) ≡ cond b (plain n) (record (plain n) { cversion = up n.cversion; made = up n.made; pzxid = 0; names = add_name x n.names })
    step true = refl
    step false = refl
plain_edit tx moment (what.DropName x) None = refl
plain_edit tx moment (what.DropName x) (Some n) = ap Some (step (has_name x n.names))
  where
    step : (b : Bool) → plain (cond b (record n { cversion = up n.cversion; pzxid = tx; names = drop_name x n.names }) n) ≡ cond b (record (plain n) { cversion = up n.cversion; pzxid = 0; names = drop_name x n.names }) (plain n)
    step true = refl
    step false = refl

pub plain_edited : (tx moment : ℕ) (p : PathNames) (es : List Edit) (o : Option Node) → map_some plain (edited tx moment p es o) ≡ edited 0 0 p es (map_some plain o)
plain_edited tx moment p [] o = refl
plain_edited tx moment p (e ∷ es) o = plain_edited tx moment p es (cond (same_path p e.path) (edit tx moment e.what o) o) ∙ ap (edited 0 0 p es) (step (same_path p e.path))
  where
    step : (b : Bool) → map_some plain (cond b (edit tx moment e.what o) o) ≡ cond b (edit 0 0 e.what (map_some plain o)) (map_some plain o)
    step true = plain_edit tx moment e.what o
    step false = refl

-- the same edits keep nodes alike
pub edited_alike : (tx moment : ℕ) (p : PathNames) (es : List Edit) (o x : Option Node) → AreAlike o x → AreAlike (edited tx moment p es o) (edited 0 0 p es x)
edited_alike tx moment p es o x h = plain_edited tx moment p es o ∙ ap (edited 0 0 p es) h ∙ sym (plain_edited 0 0 p es x)

some_plain : (o : Option Node) → is_some (map_some plain o) ≡ is_some o
some_plain None = refl
some_plain (Some n) = refl

pub some_alike : (o x : Option Node) → AreAlike o x → is_some o ≡ is_some x
some_alike o x h = sym (some_plain o) ∙ ap is_some h ∙ some_plain x

version_plain : (o : Option Node) → version_of (map_some plain o) ≡ version_of o
version_plain None = refl
version_plain (Some n) = refl

pub version_alike : (o x : Option Node) → AreAlike o x → version_of o ≡ version_of x
version_alike o x h = sym (version_plain o) ∙ ap version_of h ∙ version_plain x

abbrev pub owner_in : Option Node → ℕ
owner_in None = 1
owner_in (Some n) = n.owner

owner_plain : (o : Option Node) → owner_in (map_some plain o) ≡ owner_in o
owner_plain None = refl
owner_plain (Some n) = refl

pub owner_alike : (o x : Option Node) → AreAlike o x → owner_in o ≡ owner_in x
owner_alike o x h = sym (owner_plain o) ∙ ap owner_in h ∙ owner_plain x

delete_plain : (p : PathNames) (expected : ℤ) (o : Option Node) → check_delete p expected (map_some plain o) ≡ check_delete p expected o
delete_plain p expected None = refl
delete_plain p expected (Some n) = refl

pub delete_alike : (p : PathNames) (expected : ℤ) (o x : Option Node) → AreAlike o x → check_delete p expected o ≡ check_delete p expected x
delete_alike p expected o x h = sym (delete_plain p expected o) ∙ ap (check_delete p expected) h ∙ delete_plain p expected x

-- what a part comes to, on nodes alike
pub fill_alike : (v w : View) (p : Part) → ((q : PathNames) → AreAlike (v.node q) (w.node q)) → fill_part v p ≡ fill_part w p
fill_alike v w (part.Create p bytes eph) h = refl
fill_alike v w (part.Set p bytes expected) h = ap (λ n. record { name = []; version = up n }) (version_alike (v.node p) (w.node p) (h p))
fill_alike v w (part.Delete p expected) h = refl
