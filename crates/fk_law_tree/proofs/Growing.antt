-- Trees after applied requests show what their edits show.
use Rattle.std.proofs.Common.{◌≡◌, ℕ, Bool, true, false, cond, eqb, ◌||◌, List, [], ◌∷◌, ◌++◌, Option, Some, None, refl, sym, ◌∙◌, ap, subst, arith}
use Rattle.std.specs.Prelude.{is_some}
use Rattle.std.proofs.lemmas.Bool.{false≢true}
use Rattle.std.proofs.lemmas.Bool.Decides.{nat_tests}
use Rattle.fk_base.specs.Path.{Name, PathNames, path_cmp, parent, is_root, same_path}
use Rattle.fk_tree.specs.Sorted.{has_name, has_path, rises}
use Rattle.fk_tree.specs.Tree.{Nodes, Tree, children, node_view, start_tree}
use Rattle.fk_tree.specs.View.{look, is_in, start_view, View}
use Rattle.fk_tree.specs.Edit.{after, effects, closes}
use Rattle.fk_tree.specs.Fill.{final_path, fill_gone, owned}
use Rattle.fk_tree.specs.Apply.{apply, IsFilled}
use Rattle.fk_tree.specs.declared.applied.Applied.{Applied}
use Rattle.fk_tree.specs.declared.node.Node.{Node}
use Rattle.fk_tree.specs.declared.request.Request.{Request}
use Rattle.fk_tree.specs.declared.request.Request.TheVariants as request
use Rattle.fk_tree.specs.Locks.{lock_paths}
use Rattle.fk_tree.proofs.Order.{path_total, path_exact, same_path_is, same_name_self}
use Rattle.fk_tree.proofs.Rising.{same_rising}
use Rattle.fk_tree.proofs.Views.{has_children, children_of}
use Rattle.fk_tree.proofs.Passing.{some_view, passed_open}
use Rattle.fk_tree.proofs.Starting.{start_get, start_child}
use Rattle.fk_tree.proofs.Owning.{owned_has}
use Rattle.fk_law_tree.specs.Fitting.{GoneIs, Fits, FitsWhatIsShown}
use Rattle.fk_law_tree.specs.Following.{AppliedByPath, AppliedIsAfter, tree_after, IsShown, TreesAreViews, ViewsAreTrees}
use Rattle.fk_law_tree.specs.Locking.{owned_final, unlocked}
use Rattle.fk_law_tree.specs.WellFormed.{is_unowned, IsWellFormed, KeepsWellFormed, OwnersHaveNoChild, UnlockedIsMissing, LockedIsEnough}
use Rattle.fk_law_tree.specs.Reading.{AgreeOn, reads}
use Rattle.fk_law_tree.proofs.Applying.{free_view, IsApplied, request_applied}
use Rattle.fk_law_tree.proofs.Counting.{only_its_edits}
use Rattle.fk_law_tree.proofs.Owning.{owned_rises}
use Rattle.fk_law_tree.proofs.Whole.{is_free, IsWhole}
use Rattle.fk_law_tree.proofs.Reading.{at_head, check_reads, fill_reads}
use Rattle.fk_law_tree.proofs.Holding.{reads_are_locked}
use Rattle.fk_law_tree.proofs.Members.{has_append}
use Rattle.fk_base.proofs.Logic.{by_test, none_is}
use Rattle.fk_tree.proofs.Refusing.{names_are}

-- FITTING
gone_filled : (t : Nodes) (c : ℕ → Bool) (s : ℕ) (r : Request) (gone : List PathNames) → GoneIs (record { node = node_view t; closed = c }) s r gone → gone ≡ fill_gone t s r
gone_filled t c s (request.Create p bytes seq eph) gone g = g
gone_filled t c s (request.Set p bytes version) gone g = g
gone_filled t c s (request.Delete p version) gone g = g
gone_filled t c s (request.Close evict) gone g = same_rising path_total path_exact gone (owned t s) g.0 (owned_rises t s) (λ p. g.1 p ∙ sym (owned_has t s p))
gone_filled t c s (request.Multi xs) gone g = g

filled_gone : (t : Nodes) (c : ℕ → Bool) (s : ℕ) (r : Request) (gone : List PathNames) → gone ≡ fill_gone t s r → GoneIs (record { node = node_view t; closed = c }) s r gone
filled_gone t c s (request.Create p bytes seq eph) gone g = g
filled_gone t c s (request.Set p bytes version) gone g = g
filled_gone t c s (request.Delete p version) gone g = g
filled_gone t c s (request.Close evict) gone g = (ap (rises path_cmp) g ∙ owned_rises t s, λ p. ap (has_path p) g ∙ owned_has t s p)
filled_gone t c s (request.Multi xs) gone g = g

pub is_filled : (t : Tree) (a : Applied) → Fits (look t) a → IsFilled t a
is_filled t a f = record {
  session = f.session;
  passes = f.passes;
  filled = λ i. record { tx = a.tx; moment = a.moment; session = a.session; k = a.k; request = a.request; name = (f.name) i; version = (f.version) i; gone = (gone_filled t.nodes (look t).closed a.session a.request a.gone f.gone) i; made = (f.made) i };
}

fits_shown : (t : Tree) (a : Applied) → IsFilled t a → Fits (look t) a
fits_shown t a f = record {
  session = f.session;
  passes = f.passes;
  name = ap (λ b. b.name) f.filled;
  version = ap (λ b. b.version) f.filled;
  made = ap (λ b. b.made) f.filled;
  gone = filled_gone t.nodes (look t).closed a.session a.request a.gone (ap (λ b. b.gone) f.filled);
}

pub fits_what_is_shown : FitsWhatIsShown
fits_what_is_shown t a = (is_filled t a, fits_shown t a)

-- WELL-FORMED TREES
whole : (t : Tree) → IsWellFormed t → IsWhole t.nodes
whole t w = record { root = sym (free_view t.nodes []) ∙ w.root; parents = λ p n s. sym (free_view t.nodes p) ∙ w.parents p n (some_view t.nodes (p ++ n ∷ []) ∙ s) }

well_formed : (t : Tree) → IsWhole t.nodes → IsWellFormed t
well_formed t w = record { root = free_view t.nodes [] ∙ w.root; parents = λ p n s. free_view t.nodes p ∙ w.parents p n (sym (some_view t.nodes (p ++ n ∷ [])) ∙ s) }

applied : (t : Tree) (a : Applied) → IsWellFormed t → IsFilled t a → IsApplied t.nodes (apply t a).nodes a.tx a.moment (effects a)
applied t a w f =
    request_applied t.nodes (look t).closed a a.request (whole t w) f.session (passed_open (look t) a.session a.request f.passes)
    (ap (λ b. b.name) f.filled) (ap (λ b. b.made) f.filled) (ap (λ b. b.gone) f.filled)

pub keeps_well_formed : KeepsWellFormed
keeps_well_formed t a w f = well_formed (apply t a) (applied t a w f).whole

pub applied_by_path : AppliedByPath
applied_by_path t a p w f = (applied t a w f).node p ∙ only_its_edits a.tx a.moment p (effects a) ((look t).node p)

pub applied_is_after : AppliedIsAfter
applied_is_after t a w f = λ i. record { node = λ p. ((applied t a w f).node p) i; closed = λ s. (closed_same (closes a.request) s) i }
  where
    closed_same : (b : Bool) (s : ℕ) → is_in s (cond b (a.session ∷ t.closed) t.closed) ≡ cond b (eqb a.session s || is_in s t.closed) (is_in s t.closed)
    closed_same true s = refl
    closed_same false s = refl

-- NODES WITH AN OWNER
-- a path whose node has an owner has no child
owner_alone : (t : Tree) (p : PathNames) → IsWellFormed t → is_unowned ((look t).node p) ≡ false → (x : Name) → is_some ((look t).node (p ++ x ∷ [])) ≡ false
owner_alone t p w u x = by_test (is_some ((look t).node (p ++ x ∷ []))) (λ c. c ≡ false) (λ s. absurd (false≢true (sym u ∙ w.parents p x s))) (λ _. refl)

names_none : (ns : List Name) → ((x : Name) → has_name x ns ≡ false) → ns ≡ []
names_none [] f = refl
names_none (n ∷ ns) f = absurd (false≢true (sym (f n) ∙ first))
  where
    first : has_name n (n ∷ ns) ≡ true
    first = rw (same_name_self n) refl

pub owners_have_no_child : OwnersHaveNoChild
owners_have_no_child t p n w e o = (names_are t.nodes p n e ∙ names_none (children t.nodes p) (λ x. has_children t.nodes p x ∙ sym (some_view t.nodes (p ++ x ∷ [])) ∙ none x), λ x. none_is _ (none x))
  where
    owned : eqb n.owner 0 ≡ false
    owned = grind (arith, nat_tests)

    none : (x : Name) → is_some ((look t).node (p ++ x ∷ [])) ≡ false
    none = owner_alone t p w (rw e owned)

-- the final path under a parent that has an owner is missing
owned_final_missing : (t : Tree) (p q : PathNames) → IsWellFormed t → (o : Option Node) → (look t).node (parent p) ≡ o → has_path q (owned_final p o) ≡ true → (look t).node q ≡ None
owned_final_missing t p q w None e h = absurd (false≢true h)
owned_final_missing t p q w (Some d) e h = step (eqb d.owner 0) refl h
  where
    step : (b : Bool) → eqb d.owner 0 ≡ b → has_path q (cond b [] (final_path p true d.made ∷ [])) ≡ true → (look t).node q ≡ None
    step true u h = absurd (false≢true h)
    step false u h = none_is _ (rw (same_path_is q (final_path p true d.made) (one (same_path q (final_path p true d.made)) h)) (owner_alone t (parent p) w (rw e u) _))
      where
        one : (b : Bool) → (b || false) ≡ true → b ≡ true
        one true e = refl
        one false e = e

pub unlocked_is_missing : UnlockedIsMissing
unlocked_is_missing t (request.Create p bytes true eph) q w h = step (is_root p) h
  where
    step : (b : Bool) → has_path q (cond b [] (owned_final p ((look t).node (parent p)))) ≡ true → (look t).node q ≡ None
    step true h = absurd (false≢true h)
    step false h = owned_final_missing t p q w ((look t).node (parent p)) refl h
unlocked_is_missing t (request.Create p bytes false eph) q w h = absurd (false≢true h)
unlocked_is_missing t (request.Set p bytes version) q w h = absurd (false≢true h)
unlocked_is_missing t (request.Delete p version) q w h = absurd (false≢true h)
unlocked_is_missing t (request.Close evict) q w h = absurd (false≢true h)
unlocked_is_missing t (request.Multi xs) q w h = absurd (false≢true h)

-- LOCKED PATHS ARE ENOUGH
-- the parent of a sequential create is locked
unlocked_same : (v w : View) (owned : List PathNames) (r : Request) → AgreeOn v w (lock_paths v owned r) → unlocked v r ≡ unlocked w r
unlocked_same v w owned (request.Create [] bytes true eph) a = refl
unlocked_same v w owned (request.Create (n ∷ p) bytes true eph) a = ap (owned_final (n ∷ p)) (at_head v w (parent (n ∷ p)) _ a)
unlocked_same v w owned (request.Create p bytes false eph) a = refl
unlocked_same v w owned (request.Set p bytes version) a = refl
unlocked_same v w owned (request.Delete p version) a = refl
unlocked_same v w owned (request.Close evict) a = refl
unlocked_same v w owned (request.Multi xs) a = refl

enough : (t : Tree) (v : View) (owned : List PathNames) (session : ℕ) (r : Request) → IsWellFormed t → AgreeOn v (look t) (lock_paths v owned r)
    → ((p : PathNames) → has_path p (lock_paths v owned r) ≡ false → v.node p ≡ None) → AgreeOn v (look t) (reads v session r)
enough t v owned session r w a n p h =
    by_test (has_path p (lock_paths v owned r)) (λ c. (c || has_path p (unlocked v r)) ≡ true → v.node p ≡ (look t).node p)
    (λ l _. a p l)
    (λ l u. n p l ∙ sym (unlocked_is_missing t r p w (ap (has_path p) (sym (unlocked_same v (look t) owned r a)) ∙ u)))
    (sym (has_append p (lock_paths v owned r) (unlocked v r)) ∙ reads_are_locked v owned session r p h)

pub locked_is_enough : LockedIsEnough
locked_is_enough t v owned session r w c a n =
    let same : AgreeOn v (look t) (reads v session r) = enough t v owned session r w a n in
    (check_reads v (look t) session r c same, fill_reads v (look t) session r same)

-- THE START

start_node : (q : PathNames) → node_view start_tree.nodes q ≡ start_view.node q
start_node [] = rw (children_of start_tree.nodes [] [] refl (start_child []), start_get []) refl
start_node (x ∷ q) = rw (start_get (x ∷ q)) refl

start_whole : IsWhole start_tree.nodes
start_whole = record { root = ap is_free (start_get []); parents = λ q n s. absurd (false≢true (sym (start_child q n) ∙ s)) }

start_shown : IsShown []
start_shown = record { shown = λ i. record { node = λ q. (start_node q) i; closed = λ s. false }; well_formed = well_formed start_tree start_whole }

-- ONE AFTER ANOTHER
next_shown : (done : List Applied) (a : Applied) → IsShown done → IsFilled (tree_after done) a → IsShown (a ∷ done)
next_shown done a s f = record {
  shown = applied_is_after (tree_after done) a s.well_formed f ∙ ap (λ v. after v a) s.shown;
  well_formed = keeps_well_formed (tree_after done) a s.well_formed f;
}

pub trees_are_views : TreesAreViews
trees_are_views [] f = start_shown
trees_are_views (a ∷ done) f = next_shown done a (trees_are_views done f.1) f.0

pub views_are_trees : ViewsAreTrees
views_are_trees [] f = start_shown
views_are_trees (a ∷ done) f =
    let before : IsShown done = views_are_trees done f.1 in
    next_shown done a before (is_filled (tree_after done) a (subst (λ v. Fits v a) (sym before.shown) f.0))
