-- Paths put to their places, and those of the rows of an owner.
use Rattle.std.proofs.Common.{◌≡◌, ℕ, suc, ◌+◌, ◌<◌, Bool, true, false, cond, ◌&&◌, ◌||◌, List, [], ◌∷◌, Ordering, length, drop, get_or, refl, sym, ◌∙◌, ap, subst, arith, drop-cons}
use Rattle.std.specs.Prelude.{insert}
use Rattle.std.specs.declared.cmp.Ordering.TheVariants.{Less, Equal, Greater}
use Rattle.std.specs.Ordering.{is_eq, is_gt, match_ordering}
use Rattle.std.proofs.lemmas.Bool.{false≢true}
use Rattle.fk_base.specs.Path.{PathNames, path_cmp, same_path}
use Rattle.fk_tree.specs.Sorted.{has_path, rises, with_key}
use Rattle.fk_tree.proofs.Order.{path_exact, path_total, same_path_is}
use Rattle.fk_tree.proofs.Rising.{has_with, rises_with}
use Rattle.fk_store.specs.declared.rows.Row.{Row}
use Rattle.fk_store.specs.Answers.{has_owner}
use Rattle.fk_store.specs.Owning.{gathered, is_gathered, owns_row, path_from}
use Rattle.fk_store.specs.Rows.{row_record}
use Rattle.fk_base.proofs.Logic.{by_test}

-- PLACES
place_later : (p : PathNames) (qs : List PathNames) (i : ℕ) → path_from (suc i) p qs ≡ suc (path_from i p qs)
place_later p [] i = refl
place_later p (q ∷ qs) i = step (is_gt (path_cmp p q)) (place_later p qs (suc i))
  where
    step : (b : Bool) → path_from (suc (suc i)) p qs ≡ suc (path_from (suc i) p qs) → cond b (path_from (suc (suc i)) p qs) (suc i) ≡ suc (cond b (path_from (suc i) p qs) i)
    step true e = e
    step false e = refl

-- a path that doesn't stand at its place, put there
put_there : (p : PathNames) (qs : List PathNames) (d : PathNames) → (path_from 0 p qs < length qs → same_path p (get_or qs (path_from 0 p qs) d) ≡ false) → insert qs (path_from 0 p qs) p ≡ with_key path_cmp p qs
put_there p [] d h = refl
put_there p (q ∷ qs) d h = step (path_cmp p q) refl h (put_there p qs d) (place_later p qs 0)
  where
    step : (o : Ordering) → path_cmp p q ≡ o
        → (cond (is_gt o) (path_from 1 p qs) 0 < suc (length qs) → same_path p (get_or (q ∷ qs) (cond (is_gt o) (path_from 1 p qs) 0) d) ≡ false)
        → ((path_from 0 p qs < length qs → same_path p (get_or qs (path_from 0 p qs) d) ≡ false) → insert qs (path_from 0 p qs) p ≡ with_key path_cmp p qs)
        → path_from 1 p qs ≡ suc (path_from 0 p qs)
        → insert (q ∷ qs) (cond (is_gt o) (path_from 1 p qs) 0) p ≡ match_ordering o (p ∷ q ∷ qs) (q ∷ qs) (q ∷ with_key path_cmp p qs)
    step Less a h i e = refl
    step Equal a h i e = absurd (false≢true (sym (h (omega arith)) ∙ ap is_eq a))
    step Greater a h i e = rw e (ap (λ xs. q ∷ xs) (i (λ l. subst (λ k. k < suc (length qs) → same_path p (get_or (q ∷ qs) k d) ≡ false) e h (omega arith))))

kept_there : (p : PathNames) (qs : List PathNames) (d : PathNames) → path_from 0 p qs < length qs → same_path p (get_or qs (path_from 0 p qs) d) ≡ true → with_key path_cmp p qs ≡ qs
kept_there p [] d l h = absurd (omega arith)
kept_there p (q ∷ qs) d l h = step (path_cmp p q) refl l h (kept_there p qs d) (place_later p qs 0)
  where
    step : (o : Ordering) → path_cmp p q ≡ o
        → cond (is_gt o) (path_from 1 p qs) 0 < suc (length qs)
        → same_path p (get_or (q ∷ qs) (cond (is_gt o) (path_from 1 p qs) 0) d) ≡ true
        → (path_from 0 p qs < length qs → same_path p (get_or qs (path_from 0 p qs) d) ≡ true → with_key path_cmp p qs ≡ qs)
        → path_from 1 p qs ≡ suc (path_from 0 p qs)
        → match_ordering o (p ∷ q ∷ qs) (q ∷ qs) (q ∷ with_key path_cmp p qs) ≡ q ∷ qs
    step Less a l h i e = absurd (false≢true (sym (ap is_eq a) ∙ h))
    step Equal a l h i e = refl
    step Greater a l h i e = ap (λ xs. q ∷ xs) (i (omega arith) (subst (λ k. same_path p (get_or (q ∷ qs) k d) ≡ true) e h))

pub put_at_place : (p : PathNames) (qs : List PathNames) (k : ℕ) (d : PathNames) → k ≡ path_from 0 p qs → (k < length qs → same_path p (get_or qs k d) ≡ false) → insert qs k p ≡ with_key path_cmp p qs
put_at_place p qs k d e h = rw e (put_there p qs d (subst (λ k. k < length qs → same_path p (get_or qs k d) ≡ false) e h))

pub kept_at_place : (p : PathNames) (qs : List PathNames) (k : ℕ) (d : PathNames) → k ≡ path_from 0 p qs → k < length qs → same_path p (get_or qs k d) ≡ true → qs ≡ with_key path_cmp p qs
kept_at_place p qs k d e l h = sym (kept_there p qs d (subst (λ k. k < length qs) e l) (subst (λ k. same_path p (get_or qs k d) ≡ true) e h))

-- GATHERING
pub gathered_step : (s : ℕ) (rows rs : List Row) (i : ℕ) (r : Row) (ps : List PathNames) → i < length rs → r ≡ get_or rs i r → gathered s rows (drop i rs) ps ≡ gathered s rows (drop (i + 1) rs) (cond (owns_row s rows r) (with_key path_cmp r.path ps) ps)
gathered_step s rows rs i r ps l e = step (i + 1) (omega arith)
  where
    step : (j : ℕ) → j ≡ suc i → gathered s rows (drop i rs) ps ≡ gathered s rows (drop j rs) (cond (owns_row s rows r) (with_key path_cmp r.path ps) ps)
    step j h = rw (h, drop-cons rs i r l, ← e) refl

still_rising : (s : ℕ) (rows rs : List Row) (ps : List PathNames) → rises path_cmp ps ≡ true → rises path_cmp (gathered s rows rs ps) ≡ true
still_rising s rows [] ps h = h
still_rising s rows (r ∷ rs) ps h = still_rising s rows rs _ (step (owns_row s rows r))
  where
    step : (b : Bool) → rises path_cmp (cond b (with_key path_cmp r.path ps) ps) ≡ true
    step true = rises_with path_total path_exact r.path ps h
    step false = h

pub gathered_rise : (s : ℕ) (rows : List Row) → rises path_cmp (gathered s rows rows []) ≡ true
gathered_rise s rows = still_rising s rows rows [] refl

has_gathered : (s : ℕ) (p : PathNames) (rows rs : List Row) (ps : List PathNames) → has_path p (gathered s rows rs ps) ≡ (has_path p ps || is_gathered s rows p rs)
has_gathered s p rows [] ps = step (has_path p ps)
  where
    step : (b : Bool) → b ≡ (b || false)
    step true = refl
    step false = refl
has_gathered s p rows (r ∷ rs) ps = has_gathered s p rows rs _ ∙ step (owns_row s rows r)
  where
    moved : (a b c : Bool) → ((a || b) || c) ≡ (b || (a || c))
    moved true true c = refl
    moved true false c = refl
    moved false true c = refl
    moved false false c = refl

    step : (b : Bool) → (has_path p (cond b (with_key path_cmp r.path ps) ps) || is_gathered s rows p rs) ≡ (has_path p ps || ((b && same_path p r.path) || is_gathered s rows p rs))
    step true = rw (has_with path_total path_exact p r.path ps) (moved (same_path p r.path) (has_path p ps) (is_gathered s rows p rs))
    step false = refl

-- a row of a path is gathered only where the first one has the owner
gathered_owns : (s : ℕ) (p : PathNames) (rows rs : List Row) → has_owner s (row_record p rows) ≡ false → is_gathered s rows p rs ≡ false
gathered_owns s p rows [] h = refl
gathered_owns s p rows (r ∷ rs) h =
    by_test (same_path p r.path) (λ b. ((owns_row s rows r && b) || is_gathered s rows p rs) ≡ false)
    (λ e. rw (gathered_owns s p rows rs h) (none (has_owner s r.kept) (has_owner s (row_record r.path rows)) (subst (λ q. has_owner s (row_record q rows) ≡ false) (same_path_is p r.path e) h)))
    (λ _. rw (gathered_owns s p rows rs h) (off (owns_row s rows r)))
  where
    none : (a b : Bool) → b ≡ false → (((a && b) && true) || false) ≡ false
    none true b e = rw e refl
    none false b e = refl

    off : (a : Bool) → ((a && false) || false) ≡ false
    off true = refl
    off false = refl

-- where the first row of a path has the owner, it is gathered
owned_gathered : (s : ℕ) (p : PathNames) (rows rs : List Row) → has_owner s (row_record p rows) ≡ true → has_owner s (row_record p rs) ≡ true → is_gathered s rows p rs ≡ true
owned_gathered s p rows [] h a = absurd (false≢true a)
owned_gathered s p rows (r ∷ rs) h a =
    by_test (same_path p r.path) (λ b. has_owner s (cond b r.kept (row_record p rs)) ≡ true → ((owns_row s rows r && b) || is_gathered s rows p rs) ≡ true)
    (λ e a. let own : has_owner s (row_record r.path rows) ≡ true = subst (λ q. has_owner s (row_record q rows) ≡ true) (same_path_is p r.path e) h in rw (a, own) refl)
    (λ _ a. rw (owned_gathered s p rows rs h a) (on (owns_row s rows r)))
    a
  where
    on : (b : Bool) → ((b && false) || true) ≡ true
    on true = refl
    on false = refl

pub gathered_exact : (s : ℕ) (p : PathNames) (rows : List Row) → has_path p (gathered s rows rows []) ≡ has_owner s (row_record p rows)
gathered_exact s p rows =
    has_gathered s p rows rows []
    ∙ by_test (has_owner s (row_record p rows)) (λ b. is_gathered s rows p rows ≡ b) (λ h. owned_gathered s p rows rows h h) (λ h. gathered_owns s p rows rows h)
