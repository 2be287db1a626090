-- Owners: edits keep those of other sessions, and the owned paths of a tree.
use Rattle.std.proofs.Common.{◌≡◌, ◌≢◌, ℕ, Bool, true, false, cond, eqb, ◌&&◌, ◌||◌, List, [], ◌∷◌, ◌++◌, Option, Some, None, refl, ◌∙◌, ap, arith}
use Rattle.std.specs.FinMap.{entries, entries_sorted}
use Rattle.std.proofs.lemmas.Bool.{false≢true}
use Rattle.std.proofs.lemmas.Bool.Decides.{nat_tests}
use Rattle.fk_base.specs.Path.{Name, PathNames, path_cmp, same_path, last_name, parent}
use Rattle.fk_tree.specs.Sorted.{has_path, rises}
use Rattle.fk_tree.specs.Tree.{Nodes}
use Rattle.fk_tree.specs.Edit.{edit, edited, effects, effects_of, of_parent, owner_for, create_edits, delete_edits, deletes_edits, part_edits, parts_edits, closes}
use Rattle.fk_tree.specs.Fill.{owned}
use Rattle.fk_tree.specs.declared.applied.Applied.{Applied}
use Rattle.fk_tree.specs.declared.applied.Made.{Made}
use Rattle.fk_tree.specs.declared.edit.Edit.{Edit}
use Rattle.fk_tree.specs.declared.edit.What.{What}
use Rattle.fk_tree.specs.declared.edit.What.TheVariants as what
use Rattle.fk_tree.specs.declared.node.Node.{Node}
use Rattle.fk_tree.specs.declared.request.Part.{Part}
use Rattle.fk_tree.specs.declared.request.Part.TheVariants as part
use Rattle.fk_tree.specs.declared.request.Request.{Request}
use Rattle.fk_tree.specs.declared.request.Request.TheVariants as request
use Rattle.fk_tree.specs.View.{View}
use Rattle.fk_tree.specs.Rows.{is_of}
use Rattle.fk_tree.proofs.Keeping.{edited_both}
use Rattle.fk_tree.proofs.Owning.{owned_rises_in, owned_has}
use Rattle.fk_law_tree.specs.Owners.{KeepsForeignOwners, OwnedAreTheOwners}
use Rattle.fk_law_tree.specs.Fitting.{GoneIs, CloseLeavesNone}
use Rattle.fk_base.proofs.Logic.{and_both, and_left, and_right}

-- an edit makes a node of no owner or of this session
abbrev is_own : ℕ → What → Bool
is_own s (what.Make bytes owner) = eqb owner 0 || eqb owner s
is_own s _ = true

abbrev all_own : ℕ → List Edit → Bool
all_own s [] = true
all_own s (e ∷ es) = is_own s e.what && all_own s es

made_owner : (s c owner : ℕ) → (eqb owner 0 || eqb owner s) ≡ true → c ≢ 0 → c ≢ s → eqb owner c ≡ true → ⊥
made_owner s c owner i a b e = grind (arith, nat_tests)

edit_owner : (tx moment s c : ℕ) (w : What) (o : Option Node) → is_own s w ≡ true → c ≢ 0 → c ≢ s → is_of c (edit tx moment w o) ≡ true → is_of c o ≡ true
edit_owner tx moment s c (what.Make bytes owner) o i a b e = absurd (made_owner s c owner i a b e)
edit_owner tx moment s c what.Remove o i a b e = absurd (false≢true e)
edit_owner tx moment s c (what.Replace bytes) None i a b e = e
edit_owner tx moment s c (what.Replace bytes) (Some n) i a b e = e
edit_owner tx moment s c (what.AddName x) None i a b e = e
edit_owner tx moment s c (what.AddName x) (Some n) i a b e = grind arith
edit_owner tx moment s c (what.DropName x) None i a b e = e
edit_owner tx moment s c (what.DropName x) (Some n) i a b e = grind arith

edited_owner : (tx moment s c : ℕ) (p : PathNames) (es : List Edit) (o : Option Node) → all_own s es ≡ true → c ≢ 0 → c ≢ s → is_of c (edited tx moment p es o) ≡ true → is_of c o ≡ true
edited_owner tx moment s c p [] o i a b e = e
edited_owner tx moment s c p (d ∷ es) o i a b e =
    one (same_path p d.path) (edited_owner tx moment s c p es (cond (same_path p d.path) (edit tx moment d.what o) o) (and_right _ _ i) a b e)
  where
    one : (t : Bool) → is_of c (cond t (edit tx moment d.what o) o) ≡ true → is_of c o ≡ true
    one true e = edit_owner tx moment s c d.what o (and_left _ _ i) a b e
    one false e = e

own_append : (s : ℕ) (es fs : List Edit) → all_own s es ≡ true → all_own s fs ≡ true → all_own s (es ++ fs) ≡ true
own_append s [] fs a b = b
own_append s (e ∷ es) fs a b = and_both (is_own s e.what) _ (and_left _ _ a) (own_append s es fs (and_right _ _ a) b)

own_parent : (s : ℕ) (p : PathNames) (w : What) → is_own s w ≡ true → all_own s (of_parent p w) ≡ true
own_parent s [] w i = refl
own_parent s (n ∷ p) w i = and_both (is_own s w) true i refl

own_for : (s : ℕ) (eph : Bool) → (eqb (owner_for s eph) 0 || eqb (owner_for s eph) s) ≡ true
own_for s true = grind (arith, nat_tests)
own_for s false = refl

own_create : (s : ℕ) (p : PathNames) (bytes : List ℕ) (eph : Bool) → all_own s (create_edits p bytes (owner_for s eph)) ≡ true
own_create s p bytes eph = and_both (eqb (owner_for s eph) 0 || eqb (owner_for s eph) s) _ (own_for s eph) (own_parent s p (what.AddName (last_name p)) refl)

own_deletes : (s : ℕ) (ps : List PathNames) → all_own s (deletes_edits ps) ≡ true
own_deletes s [] = refl
own_deletes s (p ∷ ps) = own_append s (delete_edits p) (deletes_edits ps) (own_parent s p (what.DropName (last_name p)) refl) (own_deletes s ps)

own_part : (s : ℕ) (x : Part) (m : Made) → all_own s (part_edits s x m) ≡ true
own_part s (part.Create p bytes eph) m = own_create s m.name bytes eph
own_part s (part.Set p bytes version) m = refl
own_part s (part.Delete p version) m = own_parent s p (what.DropName (last_name p)) refl

own_parts : (s : ℕ) (xs : List Part) (ms : List Made) → all_own s (parts_edits s xs ms) ≡ true
own_parts s [] ms = refl
own_parts s (x ∷ xs) [] = refl
own_parts s (x ∷ xs) (m ∷ ms) = own_append s (part_edits s x m) (parts_edits s xs ms) (own_part s x m) (own_parts s xs ms)

own_effects : (a : Applied) (r : Request) → all_own a.session (effects_of a r) ≡ true
own_effects a (request.Create p bytes seq eph) = own_create a.session a.name bytes eph
own_effects a (request.Set p bytes version) = refl
own_effects a (request.Delete p version) = own_parent a.session p (what.DropName (last_name p)) refl
own_effects a (request.Close evict) = own_deletes a.session a.gone
own_effects a (request.Multi xs) = own_parts a.session xs a.made

pub keeps_foreign_owners : KeepsForeignOwners
keeps_foreign_owners v a p c z s e = edited_owner a.tx a.moment a.session c p (effects a) (v.node p) (own_effects a a.request) z s e

-- CLOSES
dropped_owner : (tx moment s : ℕ) (x : Name) (b : Bool) (o : Option Node) → is_of s (cond b (edit tx moment (what.DropName x) o) o) ≡ is_of s o
dropped_owner tx moment s x true None = refl
dropped_owner tx moment s x true (Some n) = grind arith
dropped_owner tx moment s x false o = refl

deleted_owner : (tx moment s : ℕ) (p q : PathNames) (o : Option Node) → is_of s (edited tx moment p (delete_edits q) o) ≡ cond (same_path p q) false (is_of s o)
deleted_owner tx moment s p [] o = removed (same_path p []) o
  where
    removed : (b : Bool) (o : Option Node) → is_of s (cond b None o) ≡ cond b false (is_of s o)
    removed true o = refl
    removed false o = refl
deleted_owner tx moment s p (n ∷ q) o = dropped_owner tx moment s (last_name (n ∷ q)) (same_path p (parent (n ∷ q))) (cond (same_path p (n ∷ q)) None o) ∙ removed (same_path p (n ∷ q)) o
  where
    removed : (b : Bool) (o : Option Node) → is_of s (cond b None o) ≡ cond b false (is_of s o)
    removed true o = refl
    removed false o = refl

deletes_owner : (tx moment s : ℕ) (p : PathNames) (ps : List PathNames) (o : Option Node) → is_of s (edited tx moment p (deletes_edits ps) o) ≡ cond (has_path p ps) false (is_of s o)
deletes_owner tx moment s p [] o = refl
deletes_owner tx moment s p (q ∷ ps) o =
    ap (is_of s) (edited_both tx moment p (delete_edits q) (deletes_edits ps) o)
    ∙ deletes_owner tx moment s p ps (edited tx moment p (delete_edits q) o)
    ∙ ap (cond (has_path p ps) false) (deleted_owner tx moment s p q o)
    ∙ joined (same_path p q) (has_path p ps) (is_of s o)
  where
    joined : (a b c : Bool) → cond b false (cond a false c) ≡ cond (a || b) false c
    joined true true c = refl
    joined true false c = refl
    joined false b c = refl

close_leaves : (v : View) (a : Applied) (r : Request) (p : PathNames) → GoneIs v a.session r a.gone → closes r ≡ true → is_of a.session (edited a.tx a.moment p (effects_of a r) (v.node p)) ≡ false
close_leaves v a (request.Create q bytes seq eph) p g c = absurd (false≢true c)
close_leaves v a (request.Set q bytes version) p g c = absurd (false≢true c)
close_leaves v a (request.Delete q version) p g c = absurd (false≢true c)
close_leaves v a (request.Close evict) p g c = deletes_owner a.tx a.moment a.session p a.gone (v.node p) ∙ ap (λ b. cond b false (is_of a.session (v.node p))) (g.1 p) ∙ none (is_of a.session (v.node p))
  where
    none : (b : Bool) → cond b false b ≡ false
    none true = refl
    none false = refl
close_leaves v a (request.Multi xs) p g c = absurd (false≢true c)

pub close_leaves_none : CloseLeavesNone
close_leaves_none v a p f c = close_leaves v a a.request p f.gone c

-- OWNED PATHS

pub owned_rises : (t : Nodes) (s : ℕ) → rises path_cmp (owned t s) ≡ true
owned_rises t s = owned_rises_in s (entries t) (entries_sorted t)

pub owned_are_the_owners : OwnedAreTheOwners
owned_are_the_owners t s = (owned_rises t.nodes s, owned_has t.nodes s)
