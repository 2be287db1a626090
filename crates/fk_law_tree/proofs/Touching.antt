-- The paths of touches are those of edits.
use Rattle.std.proofs.Common.{◌≡◌, ℕ, Bool, true, false, cond, ◌||◌, List, [], ◌∷◌, ◌++◌, refl, sym, ◌∙◌, ap}
use Rattle.fk_base.specs.Path.{PathNames, same_path, parent, last_name, is_root}
use Rattle.fk_tree.specs.declared.applied.Applied.{Applied}
use Rattle.fk_tree.specs.declared.applied.Made.{Made}
use Rattle.fk_tree.specs.declared.change.Change.{Change}
use Rattle.fk_tree.specs.declared.change.Change.TheVariants as change
use Rattle.fk_tree.specs.declared.change.Touch.{Touch}
use Rattle.fk_tree.specs.declared.edit.What.{What}
use Rattle.fk_tree.specs.declared.edit.What.TheVariants as what
use Rattle.fk_tree.specs.declared.request.Part.{Part}
use Rattle.fk_tree.specs.declared.request.Part.TheVariants as part
use Rattle.fk_tree.specs.declared.request.Request.{Request}
use Rattle.fk_tree.specs.declared.request.Request.TheVariants as request
use Rattle.fk_tree.specs.Sorted.{has_path}
use Rattle.fk_tree.specs.Edit.{effects, effects_of, of_parent, owner_for, set_edits, delete_edits, deletes_edits, part_edits, parts_edits}
use Rattle.fk_tree.specs.Touch.{same_touch, others, once, with_parent_touched, set_touches, deletes_touches, part_touches, parts_touches, touches_of, edit_paths}
use Rattle.fk_tree.specs.Watch.{has_touch}
use Rattle.fk_tree.proofs.Order.{same_path_is}
use Rattle.fk_tree.proofs.Looking.{same_flip}
use Rattle.fk_law_tree.specs.Touching.{TouchPaths}
use Rattle.fk_law_tree.proofs.Lists.{ordered_has}
use Rattle.fk_law_tree.proofs.Members.{has_append, edit_paths_append}
use Rattle.fk_base.proofs.Logic.{and_left, by_test}

-- without the others of one that is there
others_has : (p : PathNames) (t : Touch) (us : List Touch) → has_touch p (t ∷ others t us) ≡ has_touch p (t ∷ us)
others_has p t [] = refl
others_has p t (u ∷ us) = step (others_has p t us)
  where
    under : (a b c d : Bool) → cond a true c ≡ cond a true d → cond a true (cond b true c) ≡ cond a true (cond b true d)
    under true b c d e = refl
    under false true c d e = refl
    under false false c d e = e

    covered : (a b c : Bool) → cond a true b ≡ cond a true c → cond a true b ≡ cond a true (cond a true c)
    covered true b c e = refl
    covered false b c e = e

    step : has_touch p (t ∷ others t us) ≡ has_touch p (t ∷ us) → has_touch p (t ∷ others t (u ∷ us)) ≡ has_touch p (t ∷ u ∷ us)
    step i = by_test (same_touch t u) (λ c. cond (same_path t.path p) true (has_touch p (cond c (others t us) (u ∷ others t us))) ≡ cond (same_path t.path p) true (cond (same_path u.path p) true (has_touch p us)))
        (λ s. rw (← same_path_is t.path u.path (and_left _ _ s)) (covered (same_path t.path p) (has_touch p (others t us)) (has_touch p us) i))
        (λ s. under (same_path t.path p) (same_path u.path p) (has_touch p (others t us)) (has_touch p us) i)

once_has : (p : PathNames) (ts : List Touch) → has_touch p (once ts) ≡ has_touch p ts
once_has p [] = refl
once_has p (t ∷ ts) = others_has p t (once ts) ∙ ap (cond (same_path t.path p) true) (once_has p ts)

touch_append : (p : PathNames) (ts us : List Touch) → has_touch p (ts ++ us) ≡ (has_touch p ts || has_touch p us)
touch_append p [] us = refl
touch_append p (t ∷ ts) us = ap (cond (same_path t.path p) true) (touch_append p ts us) ∙ grouped (same_path t.path p) (has_touch p ts) (has_touch p us)
  where
    grouped : (a b c : Bool) → cond a true (b || c) ≡ (cond a true b || c)
    grouped true b c = refl
    grouped false b c = refl

one_touch : (p q : PathNames) (c d : Bool) → c ≡ d → cond (same_path q p) true c ≡ (same_path p q || d)
one_touch p q c d e = rw (same_flip q p, e) (either (same_path p q) d)
  where
    either : (a b : Bool) → cond a true b ≡ (a || b)
    either true b = refl
    either false b = refl

-- the path, then its parent
both_touched : (p q : PathNames) (c : Change) (w v : What) → has_touch p (with_parent_touched q c) ≡ has_path p (edit_paths (record { path = q; what = w } ∷ of_parent q v))
both_touched p q c w v = one_touch p q _ _ (above (is_root q))
  where
    above : (r : Bool) → has_touch p (cond r [] (record { path = parent q; change = change.Child } ∷ [])) ≡ has_path p (edit_paths (cond r [] (record { path = parent q; what = v } ∷ [])))
    above true = refl
    above false = one_touch p (parent q) false false refl

set_touched : (p q : PathNames) (bytes : List ℕ) → has_touch p (set_touches q) ≡ has_path p (edit_paths (set_edits q bytes))
set_touched p q bytes = one_touch p q false false refl

deletes_touched : (p : PathNames) (ps : List PathNames) → has_touch p (deletes_touches ps) ≡ has_path p (edit_paths (deletes_edits ps))
deletes_touched p [] = refl
deletes_touched p (q ∷ ps) =
    touch_append p (with_parent_touched q change.Deleted) (deletes_touches ps)
    ∙ rw (both_touched p q change.Deleted what.Remove (what.DropName (last_name q)), deletes_touched p ps)
    (sym (ap (has_path p) (edit_paths_append (delete_edits q) (deletes_edits ps)) ∙ has_append p (edit_paths (delete_edits q)) (edit_paths (deletes_edits ps))))

part_touched : (p : PathNames) (session : ℕ) (x : Part) (m : Made) → has_touch p (part_touches x m) ≡ has_path p (edit_paths (part_edits session x m))
part_touched p session (part.Create q bytes eph) m = both_touched p m.name change.Created (what.Make bytes (owner_for session eph)) (what.AddName (last_name m.name))
part_touched p session (part.Set q bytes version) m = set_touched p q bytes
part_touched p session (part.Delete q version) m = both_touched p q change.Deleted what.Remove (what.DropName (last_name q))

parts_touched : (p : PathNames) (session : ℕ) (xs : List Part) (ms : List Made) → has_touch p (parts_touches xs ms) ≡ has_path p (edit_paths (parts_edits session xs ms))
parts_touched p session [] ms = refl
parts_touched p session (x ∷ xs) [] = refl
parts_touched p session (x ∷ xs) (m ∷ ms) =
    touch_append p (part_touches x m) (parts_touches xs ms)
    ∙ rw (part_touched p session x m, parts_touched p session xs ms)
    (sym (ap (has_path p) (edit_paths_append (part_edits session x m) (parts_edits session xs ms)) ∙ has_append p (edit_paths (part_edits session x m)) (edit_paths (parts_edits session xs ms))))

request_touched : (p : PathNames) (a : Applied) (r : Request) → has_touch p (touches_of a r) ≡ has_path p (edit_paths (effects_of a r))
request_touched p a (request.Create q bytes seq eph) = both_touched p a.name change.Created (what.Make bytes (owner_for a.session eph)) (what.AddName (last_name a.name))
request_touched p a (request.Set q bytes version) = set_touched p q bytes
request_touched p a (request.Delete q version) = both_touched p q change.Deleted what.Remove (what.DropName (last_name q))
request_touched p a (request.Close evict) = deletes_touched p a.gone
request_touched p a (request.Multi xs) = parts_touched p a.session xs a.made

pub touch_paths : TouchPaths
touch_paths a p = once_has p (touches_of a a.request) ∙ request_touched p a a.request ∙ sym (ordered_has (edit_paths (effects a)) p)
