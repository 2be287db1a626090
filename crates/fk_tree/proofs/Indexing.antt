-- Sets of paths in which the touches that are there are found.
use Rattle.std.proofs.Common.{◌≡◌, Bool, true, false, cond, not, ◌||◌, ◌&&◌, List, [], ◌∷◌, ◌++◌, refl, sym, ◌∙◌, ap}
use Rattle.std.proofs.lemmas.Bool.{false≢true}
use Rattle.std.specs.BTreeMap.{is_at}
use Rattle.std.specs.BTreeSet.{BTreeSet, contains}
use Rattle.std.proofs.Math.Bool.{or_assoc}
use Rattle.fk_base.specs.Path.{PathNames, path_cmp, same_path}
use Rattle.fk_tree.specs.declared.change.Change.{Change}
use Rattle.fk_tree.specs.declared.change.Change.TheVariants as change
use Rattle.fk_tree.specs.declared.change.Touch.{Touch}
use Rattle.fk_tree.specs.declared.touch_set.TouchSet.{TouchSet}
use Rattle.fk_tree.specs.Touch.{same_change, same_touch}
use Rattle.fk_tree.specs.Touching.{is_indexed, is_there, put_one, set_of, IsNoted}
use Rattle.fk_tree.proofs.Gathering.{same_touch_is}
use Rattle.fk_tree.proofs.Looking.{same_flip}
use Rattle.fk_base.proofs.Logic.{by_test}

or_false : (a : Bool) → (a || false) ≡ a
or_false true = refl
or_false false = refl

-- one touch more at the end is found besides those that were
there_more : (t u : Touch) (us : List Touch) → is_there t (us ++ u ∷ []) ≡ (is_there t us || same_touch t u)
there_more t u [] = or_false (same_touch t u)
there_more t u (w ∷ us) = ap (λ b. same_touch t w || b) (there_more t u us) ∙ sym (or_assoc (same_touch t w) (is_there t us) (same_touch t u))

-- a path noted among those that are touched in one way
pub in_one : (old after : BTreeSet PathNames) (p q : PathNames) → ((r : PathNames) → contains path_cmp after r ≡ cond (is_at (path_cmp p) r) true (contains path_cmp old r)) → contains path_cmp after q ≡ (contains path_cmp old q || same_path q p)
in_one old after p q u = u q ∙ rw (same_flip p q) (step (same_path q p) (contains path_cmp old q))
  where
    step : (b c : Bool) → cond b true c ≡ (c || b)
    step true true = refl
    step true false = refl
    step false true = refl
    step false false = refl

-- a touch that is there is found there again, and nothing else is
put_there : (t u : Touch) (us : List Touch) → is_there t us ≡ true → (is_there u us || same_touch u t) ≡ is_there u us
put_there t u us h = by_test (same_touch u t) (λ b. (is_there u us || b) ≡ is_there u us) (λ e. rw (same_touch_is u t e, h) refl) (λ _. or_false (is_there u us))

and_true : (a : Bool) → (a && true) ≡ a
and_true true = refl
and_true false = refl

or_and_false : (a b : Bool) → a ≡ (a || (b && false))
or_and_false true b = refl
or_and_false false true = refl
or_and_false false false = refl

-- a path noted among those of one change: in one set, and the sets of the other changes stay
pub noted_created : (s : TouchSet) (after : BTreeSet PathNames) (p : PathNames) → IsNoted s.created p after → (t : Touch) → is_indexed t (record s { created = after }) ≡ (is_indexed t s || same_touch t (record { path = p; change = change.Created }))
noted_created s after p h t = step t.change
  where
    step : (c : Change) → contains path_cmp (set_of c (record s { created = after })) t.path ≡ (contains path_cmp (set_of c s) t.path || (same_path t.path p && same_change c change.Created))
    step change.Created = rw (and_true (same_path t.path p)) (h t.path)
    step change.Changed = or_and_false _ (same_path t.path p)
    step change.Deleted = or_and_false _ (same_path t.path p)
    step change.Child = or_and_false _ (same_path t.path p)

pub noted_changed : (s : TouchSet) (after : BTreeSet PathNames) (p : PathNames) → IsNoted s.changed p after → (t : Touch) → is_indexed t (record s { changed = after }) ≡ (is_indexed t s || same_touch t (record { path = p; change = change.Changed }))
noted_changed s after p h t = step t.change
  where
    step : (c : Change) → contains path_cmp (set_of c (record s { changed = after })) t.path ≡ (contains path_cmp (set_of c s) t.path || (same_path t.path p && same_change c change.Changed))
    step change.Created = or_and_false _ (same_path t.path p)
    step change.Changed = rw (and_true (same_path t.path p)) (h t.path)
    step change.Deleted = or_and_false _ (same_path t.path p)
    step change.Child = or_and_false _ (same_path t.path p)

pub noted_deleted : (s : TouchSet) (after : BTreeSet PathNames) (p : PathNames) → IsNoted s.deleted p after → (t : Touch) → is_indexed t (record s { deleted = after }) ≡ (is_indexed t s || same_touch t (record { path = p; change = change.Deleted }))
noted_deleted s after p h t = step t.change
  where
    step : (c : Change) → contains path_cmp (set_of c (record s { deleted = after })) t.path ≡ (contains path_cmp (set_of c s) t.path || (same_path t.path p && same_change c change.Deleted))
    step change.Created = or_and_false _ (same_path t.path p)
    step change.Changed = or_and_false _ (same_path t.path p)
    step change.Deleted = rw (and_true (same_path t.path p)) (h t.path)
    step change.Child = or_and_false _ (same_path t.path p)

pub noted_child : (s : TouchSet) (after : BTreeSet PathNames) (p : PathNames) → IsNoted s.child p after → (t : Touch) → is_indexed t (record s { child = after }) ≡ (is_indexed t s || same_touch t (record { path = p; change = change.Child }))
noted_child s after p h t = step t.change
  where
    step : (c : Change) → contains path_cmp (set_of c (record s { child = after })) t.path ≡ (contains path_cmp (set_of c s) t.path || (same_path t.path p && same_change c change.Child))
    step change.Created = or_and_false _ (same_path t.path p)
    step change.Changed = or_and_false _ (same_path t.path p)
    step change.Deleted = or_and_false _ (same_path t.path p)
    step change.Child = rw (and_true (same_path t.path p)) (h t.path)

-- what is found doesn't depend on the list
pub retouched : (s : TouchSet) (ts : List Touch) (t : Touch) → is_indexed t (record s { touches = ts }) ≡ is_indexed t s
retouched s ts t = step t.change
  where
    step : (c : Change) → contains path_cmp (set_of c (record s { touches = ts })) t.path ≡ contains path_cmp (set_of c s) t.path
    step change.Created = refl
    step change.Changed = refl
    step change.Deleted = refl
    step change.Child = refl

-- a touch that was noted as new stands at the end
pub put_new : (t : Touch) (ts us ws : List Touch) (old after : Touch → Bool) → ((u : Touch) → old u ≡ is_there u ts) → ((u : Touch) → after u ≡ (old u || same_touch u t)) → true ≡ not (old t) → ws ≡ ts → us ≡ ws ++ t ∷ []
    → (us ≡ put_one t ts) × ((u : Touch) → after u ≡ is_there u us)
put_new t ts us ws old after i n f s e = rw (e, s, fresh) (refl, found)
  where
    fresh : is_there t ts ≡ false
    fresh = sym (i t) ∙ flip (old t) f
      where
        flip : (b : Bool) → true ≡ not b → b ≡ false
        flip false h = refl
        flip true h = absurd (false≢true (sym h))

    found : (u : Touch) → after u ≡ is_there u (ts ++ t ∷ [])
    found u = n u ∙ rw (i u) (sym (there_more u t ts))

-- one that was noted before stands already
pub put_again : (t : Touch) (ts us : List Touch) (old after : Touch → Bool) → ((u : Touch) → old u ≡ is_there u ts) → ((u : Touch) → after u ≡ (old u || same_touch u t)) → false ≡ not (old t) → us ≡ ts
    → (us ≡ put_one t ts) × ((u : Touch) → after u ≡ is_there u us)
put_again t ts us old after i n f e = rw (e, there) (refl, found)
  where
    there : is_there t ts ≡ true
    there = sym (i t) ∙ flip (old t) f
      where
        flip : (b : Bool) → false ≡ not b → b ≡ true
        flip true h = refl
        flip false h = absurd (false≢true h)

    found : (u : Touch) → after u ≡ is_there u ts
    found u = n u ∙ rw (i u) (put_there t u ts there)
