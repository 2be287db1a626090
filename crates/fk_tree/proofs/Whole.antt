-- The tree that rows keep: what it shows, and what a request makes of it.
use Rattle.std.proofs.Common.{◌≡◌, ◌<◌, ℕ, true, false, cond, List, ◌∷◌, Option, Some, None, refl, sym, ◌∙◌, ap}
use Rattle.std.specs.Prelude.{is_some}
use Rattle.std.specs.FinMap.{get}
use Rattle.fk_base.specs.Path.{PathNames, name_cmp, path_cmp, parent}
use Rattle.fk_tree.specs.declared.node.Node.{Node}
use Rattle.fk_tree.specs.declared.applied.Applied.{Applied}
use Rattle.fk_tree.specs.declared.request.Request.{Request}
use Rattle.fk_tree.specs.declared.request.Request.TheVariants as request
use Rattle.fk_tree.specs.Sorted.{rises}
use Rattle.fk_tree.specs.Tree.{Bare, Tree, children, with_names, map_some}
use Rattle.fk_tree.specs.View.{View, is_in, look}
use Rattle.fk_tree.specs.Edit.{closes, edited, effects}
use Rattle.fk_tree.specs.Fill.{fill, fill_gone, fill_made, fill_name, fill_version, final_path, made_of}
use Rattle.fk_tree.specs.Check.{check, check_create, check_open}
use Rattle.std.proofs.lemmas.Bool.{false≢true}
use Rattle.fk_tree.specs.declared.applied.Made.{Made}
use Rattle.fk_tree.specs.Apply.{apply, apply_nodes, IsFilled}
use Rattle.fk_tree.specs.Rows.{Row, row_node, nodes_of, tree_of, names_of, shown, gone_from, AreEdited, AreNoted, AreRising, IsKept, IsNew, KeepSame, IsOfChild, is_of}
use Rattle.fk_tree.proofs.Notes.{Sets, those_are}
use Rattle.fk_tree.proofs.Owning.{owned_is}
use Rattle.fk_tree.proofs.Passing.{Passes, passed_open, passed_create, placed_none}
use Rattle.fk_tree.proofs.Standing.{IsEdited, stands}
use Rattle.fk_tree.proofs.Views.{rising_children}
use Rattle.fk_tree.proofs.Written.{keeps_tree, is_kept, same_nodes}

-- the tree shows what the rows show
pub looks : (rows : List Row) (sets : Sets) (closed : List ℕ) → IsKept rows sets → look (tree_of rows closed) ≡ shown rows (λ s. is_in s closed)
looks rows sets closed k = λ i. record { node = λ p. (sym (k.named p)) i; closed = λ s. is_in s closed }

pub rising : (rows : List Row) (sets : Sets) → IsKept rows sets → AreRising rows
rising rows sets k p = rw (k.named p) (step (get (nodes_of rows) p))
  where
    step : (o : Option Bare) → rises name_cmp (names_of (map_some (with_names (children (nodes_of rows) p)) o)) ≡ true
    step None = refl
    step (Some b) = rising_children (nodes_of rows) p

-- what is listed for a close is what it removes
pub gone_is : (rows : List Row) (sets : Sets) (s : ℕ) (r : Request) (ps : List PathNames) → IsKept rows sets → 0 < s → rises path_cmp ps ≡ true → ps ≡ gone_from rows sets s r → ps ≡ fill_gone (nodes_of rows) s r
gone_is rows sets s (request.Create p bytes seq eph) ps k l u e = e
gone_is rows sets s (request.Set p bytes version) ps k l u e = e
gone_is rows sets s (request.Delete p version) ps k l u e = e
gone_is rows sets s (request.Close evict) ps k l u e = owned_is (nodes_of rows) s ps u (λ p. rw e (those_are s rows sets k.owned l p ∙ ap (is_of s) (k.named p)))
gone_is rows sets s (request.Multi parts) ps k l u e = e

whole : (rows : List Row) (sets : Sets) (closed : List ℕ) (a : Applied) → IsKept rows sets → IsFilled (tree_of rows closed) a → IsEdited a.tx a.moment (nodes_of rows) (apply_nodes a a.request (nodes_of rows)) (λ q. edited a.tx a.moment q (effects a))
whole rows sets closed a k f = stands (tree_of rows closed) a a.request k.parents f.session (passed_open (look (tree_of rows closed)) a.session a.request f.passes) f.filled

pub applied_kept : (rows others : List Row) (sets after : Sets) (closed : List ℕ) (a : Applied) → IsKept rows sets → IsFilled (tree_of rows closed) a → AreEdited a.tx a.moment (effects a) rows others → AreNoted others after → IsKept others after
applied_kept rows others sets after closed a k f w n =
    let made : IsEdited a.tx a.moment (nodes_of rows) (apply_nodes a a.request (nodes_of rows)) (λ q. edited a.tx a.moment q (effects a)) = whole rows sets closed a k f in
    is_kept others after (apply_nodes a a.request (nodes_of rows)) (λ q. w q ∙ ap (edited a.tx a.moment q (effects a)) (k.named q) ∙ sym (made.0 q)) made.1 n

pub applied_tree : (rows others : List Row) (sets : Sets) (closed later : List ℕ) (a : Applied) → IsKept rows sets → IsFilled (tree_of rows closed) a → AreEdited a.tx a.moment (effects a) rows others → later ≡ cond (closes a.request) (a.session ∷ closed) closed → tree_of others later ≡ apply (tree_of rows closed) a
applied_tree rows others sets closed later a k f w e = λ i. record { nodes = same i; closed = e i }
  where
    made : IsEdited a.tx a.moment (nodes_of rows) (apply_nodes a a.request (nodes_of rows)) (λ q. edited a.tx a.moment q (effects a))
    made = whole rows sets closed a k f

    same : nodes_of others ≡ apply_nodes a a.request (nodes_of rows)
    same = keeps_tree others (apply_nodes a a.request (nodes_of rows)) (λ q. w q ∙ ap (edited a.tx a.moment q (effects a)) (k.named q) ∙ sym (made.0 q))

-- where the nodes stay, the tree stays
pub same_tree : (rows others : List Row) (sets : Sets) (closed later : List ℕ) → IsKept rows sets → KeepSame rows others → later ≡ closed → tree_of others later ≡ tree_of rows closed
same_tree rows others sets closed later k h e = λ i. record { nodes = (same_nodes rows others sets k h) i; closed = e i }

pub still_kept : (rows others : List Row) (sets after : Sets) → IsKept rows sets → KeepSame rows others → AreNoted others after → IsKept others after
still_kept rows others sets after k h n = is_kept others after (nodes_of rows) (λ p. h p ∙ k.named p) k.parents n

-- FILLING
-- a create that passes isn't of the root
pub of_child : (t : Tree) (s : ℕ) (r : Request) → check (look t) s r ≡ None → IsOfChild r
of_child t s (request.Create p bytes seq eph) e = let passed : Passes (look t) p (final_path p seq (made_of ((look t).node (parent p)))) = passed_create (look t) p seq (placed_none 0 (check_create (look t) p seq) (passed_open (look t) s (request.Create p bytes seq eph) e)) in passed.child
of_child t s (request.Set p bytes version) e = tt
of_child t s (request.Delete p version) e = tt
of_child t s (request.Close evict) e = tt
of_child t s (request.Multi ps) e = tt

pub filled : (rows : List Row) (sets : Sets) (closed : List ℕ) (tx moment s k : ℕ) (r same : Request) (name : PathNames) (version : ℕ) (gone : List PathNames) (made : List Made) → IsKept rows sets → 0 < s → same ≡ r
    → name ≡ fill_name (shown rows (λ c. is_in c closed)) r
    → version ≡ fill_version (shown rows (λ c. is_in c closed)) r
    → gone ≡ gone_from rows sets s r → rises path_cmp gone ≡ true
    → made ≡ fill_made (shown rows (λ c. is_in c closed)) s r
    → record { tx = tx; moment = moment; session = s; k = k; request = same; name = name; version = version; gone = gone; made = made } ≡ fill (tree_of rows closed) tx moment s k r
filled rows sets closed tx moment s k r same name version gone made kept l e n v g u m =
    let v_is : look (tree_of rows closed) ≡ shown rows (λ c. is_in c closed) = looks rows sets closed kept in
    λ i. record { tx = tx; moment = moment; session = s; k = k; request = e i; name = (n ∙ ap (λ w. fill_name w r) (sym v_is)) i; version = (v ∙ ap (λ w. fill_version w r) (sym v_is)) i; gone = (gone_is rows sets s r gone kept l u g) i; made = (m ∙ ap (λ w. fill_made w s r) (sym v_is)) i }

none_of : (o : Option Node) → is_some o ≡ false → o ≡ None
none_of None e = refl
none_of (Some n) e = absurd (false≢true (sym e))

-- a create that passes is of a free path
new_for : (t : Tree) (rows : List Row) (s : ℕ) (r : Request) (name : PathNames) → ((p : PathNames) → row_node p rows ≡ (look t).node p) → check (look t) s r ≡ None → name ≡ fill_name (look t) r → IsNew r name rows
new_for t rows s (request.Create p bytes seq eph) name h c e =
    let passed : Passes (look t) p (final_path p seq (made_of ((look t).node (parent p)))) = passed_create (look t) p seq (placed_none 0 (check_create (look t) p seq) (passed_open (look t) s (request.Create p bytes seq eph) c)) in
    h name ∙ ap (look t).node e ∙ none_of ((look t).node (final_path p seq (made_of ((look t).node (parent p))))) passed.free
new_for t rows s (request.Set p bytes version) name h c e = tt
new_for t rows s (request.Delete p version) name h c e = tt
new_for t rows s (request.Close evict) name h c e = tt
new_for t rows s (request.Multi ps) name h c e = tt

pub new_path : (rows : List Row) (sets : Sets) (closed : List ℕ) (a : Applied) → IsKept rows sets → IsFilled (tree_of rows closed) a → IsNew a.request a.name rows
new_path rows sets closed a k f = new_for (tree_of rows closed) rows a.session a.request a.name k.named f.passes (ap (λ b. b.name) f.filled)

-- CHECKING
-- on the view of the tree that the rows keep
pub checked : (rows : List Row) (sets : Sets) (closed : List ℕ) (t : Tree) (s : ℕ) (r : Request) → IsKept rows sets → tree_of rows closed ≡ t → check_open (shown rows (λ c. is_in c closed)) s r ≡ check_open (look t) s r
checked rows sets closed t s r k e = ap (λ v. check_open v s r) (sym (looks rows sets closed k) ∙ ap look e)

-- for a session that isn't closed
pub open_check : (v : View) (s : ℕ) (r : Request) → v.closed s ≡ false → check v s r ≡ check_open v s r
open_check v s r e = rw e refl
