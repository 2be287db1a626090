-- Lists of watches: what a sweep fires of them, and what it leaves.
use Rattle.std.specs.Prelude.{◌==◌, ◌||◌, ◌&&◌, if◌then◌else◌, is_some}
use Rattle.std.proofs.Common.{◌≡◌, ℕ, ◌++◌, Bool, true, false, List, [], ◌∷◌, refl, sym, ◌∙◌, ap, subst, arith, Option, Some, None}
use Rattle.std.proofs.lemmas.Bool.{false≢true, false_from_ne_true}
use Rattle.std.proofs.lemmas.Bool.Decides.{nat_tests}
use Rattle.fk_base.specs.Path.{PathNames, same_path}
use Rattle.fk_tree.specs.Watch.{first_taken, same_kind}
use Rattle.fk_tree.specs.declared.change.Change.{Change}
use Rattle.fk_tree.specs.declared.change.Kind.{Kind}
use Rattle.fk_tree.specs.declared.change.Touch.{Touch}
use Rattle.fk_spec.specs.Start.{or_else}
use Rattle.fk_spec.specs.Watches.{Watch, Firing, has_id, kept_unless, not_fired, fired_as, firings, firing_with, set_number}
use Rattle.fk_spec.specs.WatchNumbers.{watch_with}
use Rattle.fk_law.proofs.Losing.{same_sym}
use Rattle.fk_tree.proofs.SameKind.{same_kind_sym}
use Rattle.std.proofs.lemmas.Option.{same_Some}

pub or_maps : (a b c : Bool) → (b ≡ true → c ≡ true) → (a || b) ≡ true → (a || c) ≡ true
or_maps true b c f e = refl
or_maps false b c f e = f e

pub has_is : (id : ℕ) (ws : List Watch) → has_id id ws ≡ is_some (watch_with id ws)
has_is id [] = refl
has_is id (w ∷ ws) = one (w.id == id) (has_is id ws)
  where
    one : (b : Bool) → has_id id ws ≡ is_some (watch_with id ws) → (b || has_id id ws) ≡ is_some (if b then Some w else watch_with id ws)
    one true i = refl
    one false i = i

-- Numbers. --------------------------------------------------------------------------------------------

-- no number stands twice
abbrev pub AreUnique : List Watch → Type 0
AreUnique [] = Unit {0}
AreUnique (w ∷ ws) = (has_id w.id ws ≡ false) × AreUnique ws

kept_has : (id : ℕ) (o : Option Change) (w : Watch) (ws : List Watch) → has_id id (kept_unless o w ws) ≡ true → ((w.id == id) || has_id id ws) ≡ true
kept_has id None w ws e = e
kept_has id (Some c) w ws e = or_maps (w.id == id) true (has_id id ws) (λ _. e) (grind arith)

pub not_fired_has : (id : ℕ) (ts : List Touch) (ws : List Watch) → has_id id (not_fired ts ws) ≡ true → has_id id ws ≡ true
not_fired_has id ts [] e = e
not_fired_has id ts (w ∷ ws) e = or_maps (w.id == id) (has_id id (not_fired ts ws)) (has_id id ws) (not_fired_has id ts ws) (kept_has id (first_taken w.path w.kind ts) w (not_fired ts ws) e)

kept_unique : (o : Option Change) (w : Watch) (ws : List Watch) → has_id w.id ws ≡ false → AreUnique ws → AreUnique (kept_unless o w ws)
kept_unique None w ws a b = (a, b)
kept_unique (Some c) w ws a b = b

pub not_fired_unique : (ts : List Touch) (ws : List Watch) → AreUnique ws → AreUnique (not_fired ts ws)
not_fired_unique ts [] u = tt
not_fired_unique ts (w ∷ ws) u = kept_unique (first_taken w.path w.kind ts) w (not_fired ts ws) (false_from_ne_true (has_id w.id (not_fired ts ws)) (λ e. false≢true (sym u.0 ∙ not_fired_has w.id ts ws e))) (not_fired_unique ts ws u.1)

has_append : (id : ℕ) (ws : List Watch) (w : Watch) → has_id id (ws ++ w ∷ []) ≡ true → (has_id id ws || (w.id == id)) ≡ true
has_append id [] w e = grind arith
has_append id (v ∷ ws) w e = one (v.id == id) (has_append id ws w) e
  where
    one : (b : Bool) → (has_id id (ws ++ w ∷ []) ≡ true → (has_id id ws || (w.id == id)) ≡ true) → (b || has_id id (ws ++ w ∷ [])) ≡ true → ((b || has_id id ws) || (w.id == id)) ≡ true
    one true i a = refl
    one false i a = i a

pub append_unique : (ws : List Watch) (w : Watch) → AreUnique ws → has_id w.id ws ≡ false → AreUnique (ws ++ w ∷ [])
append_unique [] w u e = (refl, tt)
append_unique (v ∷ ws) w u e = (false_from_ne_true (has_id v.id (ws ++ w ∷ [])) (λ a. let b = has_append v.id ws w a in let f = u.0 in clash (v.id == w.id) refl b f e), append_unique ws w u.1 (or_right_false (v.id == w.id) (has_id w.id ws) e))
  where
    or_right_false : (a b : Bool) → (a || b) ≡ false → b ≡ false
    or_right_false a b e = grind arith

    clash : (b : Bool) → (v.id == w.id) ≡ b → (has_id v.id ws || (w.id == v.id)) ≡ true → has_id v.id ws ≡ false → ((v.id == w.id) || has_id w.id ws) ≡ false → ⊥
    clash b f g i j = grind (arith, nat_tests)

pub append_with : (id : ℕ) (ws : List Watch) (w : Watch) → watch_with id (ws ++ w ∷ []) ≡ or_else (watch_with id ws) (if w.id == id then Some w else None)
append_with id [] w = refl
append_with id (v ∷ ws) w = one (v.id == id) (append_with id ws w)
  where
    one : (b : Bool) → watch_with id (ws ++ w ∷ []) ≡ or_else (watch_with id ws) (if w.id == id then Some w else None) → (if b then Some v else watch_with id (ws ++ w ∷ [])) ≡ or_else (if b then Some v else watch_with id ws) (if w.id == id then Some w else None)
    one true i = refl
    one false i = i

pub its_number : (id : ℕ) (ws : List Watch) (w : Watch) → watch_with id ws ≡ Some w → w.id ≡ id
its_number id [] w e = absurd (grind arith)
its_number id (v ∷ ws) w e = one (v.id == id) refl (its_number id ws w) e
  where
    one : (b : Bool) → (v.id == id) ≡ b → (watch_with id ws ≡ Some w → w.id ≡ id) → (if b then Some v else watch_with id ws) ≡ Some w → w.id ≡ id
    one true f i a = grind (arith, nat_tests)
    one false f i a = i a

-- What a sweep leaves. ---------------------------------------------------------------------------------

kept_case : (id : ℕ) (ts : List Touch) (v w : Watch) (ws ks : List Watch) (o : Option Change) → first_taken v.path v.kind ts ≡ o → has_id v.id ws ≡ false → has_id id ws ≡ is_some (watch_with id ws) → (watch_with id ks ≡ Some w → (watch_with id ws ≡ Some w) × (first_taken w.path w.kind ts ≡ None)) → watch_with id (kept_unless o v ks) ≡ Some w → ((if v.id == id then Some v else watch_with id ws) ≡ Some w) × (first_taken w.path w.kind ts ≡ None)
kept_case id ts v w ws ks None e u s i a = grind (arith, nat_tests)
kept_case id ts v w ws ks (Some c) e u s i a = grind (arith, nat_tests)

pub kept_watch : (id : ℕ) (ts : List Touch) (ws : List Watch) (w : Watch) → AreUnique ws → watch_with id (not_fired ts ws) ≡ Some w → (watch_with id ws ≡ Some w) × (first_taken w.path w.kind ts ≡ None)
kept_watch id ts [] w u e = absurd (grind arith)
kept_watch id ts (v ∷ ws) w u e = kept_case id ts v w ws (not_fired ts ws) (first_taken v.path v.kind ts) refl u.0 (has_is id ws) (kept_watch id ts ws w u.1) e

stays_case : (id : ℕ) (ts : List Touch) (v w : Watch) (ws ks : List Watch) (o : Option Change) → first_taken v.path v.kind ts ≡ o → (watch_with id ws ≡ Some w → watch_with id ks ≡ Some w) → (if v.id == id then Some v else watch_with id ws) ≡ Some w → first_taken w.path w.kind ts ≡ None → watch_with id (kept_unless o v ks) ≡ Some w
stays_case id ts v w ws ks None e i a b = grind (arith, nat_tests)
stays_case id ts v w ws ks (Some c) e i a b = grind (arith, nat_tests)

pub stays_set : (id : ℕ) (ts : List Touch) (ws : List Watch) (w : Watch) → watch_with id ws ≡ Some w → first_taken w.path w.kind ts ≡ None → watch_with id (not_fired ts ws) ≡ Some w
stays_set id ts [] w e f = absurd (grind arith)
stays_set id ts (v ∷ ws) w e f = stays_case id ts v w ws (not_fired ts ws) (first_taken v.path v.kind ts) refl (λ a. stays_set id ts ws w a f) e f

-- What a sweep fires. ----------------------------------------------------------------------------------

abbrev pub fired_one : ℕ → Watch → Option Change → Option Firing
fired_one t w None = None
fired_one t w (Some c) = Some (record { watch = w; tx = t; change = c })

none_case : (id t : ℕ) (v : Watch) (fs : List Firing) (b : Bool) (o : Option Change) → ((v.id == id) || b) ≡ false → (b ≡ false → firing_with id fs ≡ None) → firing_with id (fired_as t v o fs) ≡ None
none_case id t v fs b None e i = grind arith
none_case id t v fs b (Some c) e i = grind (arith, nat_tests)

pub fires_none : (id t : ℕ) (ts : List Touch) (ws : List Watch) → has_id id ws ≡ false → firing_with id (firings t ts ws) ≡ None
fires_none id t ts [] e = refl
fires_none id t ts (v ∷ ws) e = none_case id t v (firings t ts ws) (has_id id ws) (first_taken v.path v.kind ts) e (fires_none id t ts ws)

fired_case : (id t : ℕ) (ts : List Touch) (v w : Watch) (ws : List Watch) (fs : List Firing) (o : Option Change) → first_taken v.path v.kind ts ≡ o → has_id v.id ws ≡ false → (has_id id ws ≡ false → firing_with id fs ≡ None) → (watch_with id ws ≡ Some w → firing_with id fs ≡ fired_one t w (first_taken w.path w.kind ts)) → (if v.id == id then Some v else watch_with id ws) ≡ Some w → firing_with id (fired_as t v o fs) ≡ fired_one t w (first_taken w.path w.kind ts)
fired_case id t ts v w ws fs None e u n i a = grind (arith, nat_tests)
fired_case id t ts v w ws fs (Some c) e u n i a = grind (arith, nat_tests)

pub fires_watch : (id t : ℕ) (ts : List Touch) (ws : List Watch) (w : Watch) → AreUnique ws → watch_with id ws ≡ Some w → firing_with id (firings t ts ws) ≡ fired_one t w (first_taken w.path w.kind ts)
fires_watch id t ts [] w u e = absurd (grind arith)
fires_watch id t ts (v ∷ ws) w u e = fired_case id t ts v w ws (firings t ts ws) (first_taken v.path v.kind ts) refl u.0 (fires_none id t ts ws) (fires_watch id t ts ws w u.1) e

-- a firing is of a watch that was set, with the first touch that it takes
abbrev pub IsFiredOf : ℕ → ℕ → List Touch → List Watch → Firing → Type 0
IsFiredOf id t ts ws f = (watch_with id ws ≡ Some f.watch) × (f.tx ≡ t) × (first_taken f.watch.path f.watch.kind ts ≡ Some f.change)

one_fired : (t : ℕ) (w : Watch) (o : Option Change) (f : Firing) → fired_one t w o ≡ Some f → (w ≡ f.watch) × (f.tx ≡ t) × (o ≡ Some f.change)
one_fired t w None f e = absurd (grind arith)
one_fired t w (Some c) f e = grind arith

pub fired_of : (id t : ℕ) (ts : List Touch) (ws : List Watch) (f : Firing) → AreUnique ws → firing_with id (firings t ts ws) ≡ Some f → IsFiredOf id t ts ws f
fired_of id t ts ws f u e = by_watch (watch_with id ws) refl
  where
    some_none : None ≡ Some f → ⊥
    some_none a = grind arith

    by_watch : (o : Option Watch) → watch_with id ws ≡ o → IsFiredOf id t ts ws f
    by_watch None a = absurd (some_none (sym (fires_none id t ts ws (has_is id ws ∙ ap is_some a)) ∙ e))
    by_watch (Some w) a =
        let r = one_fired t w (first_taken w.path w.kind ts) f (sym (fires_watch id t ts ws w u a) ∙ e) in
        subst (λ v. (watch_with id ws ≡ Some v) × (f.tx ≡ t) × (first_taken v.path v.kind ts ≡ Some f.change)) r.0 (a, r.1, r.2)

-- Paths and kinds. -------------------------------------------------------------------------------------

-- no two of one session have one path and kind
abbrev pub AreApart : List Watch → Type 0
AreApart [] = Unit {0}
AreApart (w ∷ ws) = (set_number w.session w.path w.kind ws ≡ None) × AreApart ws

kept_number : (c : ℕ) (path : PathNames) (k : Kind) (o : Option Change) (w : Watch) (ws ks : List Watch) → set_number c path k (w ∷ ws) ≡ None → (set_number c path k ws ≡ None → set_number c path k ks ≡ None) → set_number c path k (kept_unless o w ks) ≡ None
kept_number c path k None w ws ks e i = grind arith
kept_number c path k (Some x) w ws ks e i = grind arith

not_fired_number : (c : ℕ) (path : PathNames) (k : Kind) (ts : List Touch) (ws : List Watch) → set_number c path k ws ≡ None → set_number c path k (not_fired ts ws) ≡ None
not_fired_number c path k ts [] e = e
not_fired_number c path k ts (w ∷ ws) e = kept_number c path k (first_taken w.path w.kind ts) w ws (not_fired ts ws) e (not_fired_number c path k ts ws)

kept_apart : (o : Option Change) (w : Watch) (ws : List Watch) → set_number w.session w.path w.kind ws ≡ None → AreApart ws → AreApart (kept_unless o w ws)
kept_apart None w ws a b = (a, b)
kept_apart (Some c) w ws a b = b

pub not_fired_apart : (ts : List Touch) (ws : List Watch) → AreApart ws → AreApart (not_fired ts ws)
not_fired_apart ts [] u = tt
not_fired_apart ts (w ∷ ws) u = kept_apart (first_taken w.path w.kind ts) w (not_fired ts ws) (not_fired_number w.session w.path w.kind ts ws u.0) (not_fired_apart ts ws u.1)

-- whether a watch is of this session, path and kind
abbrev pub is_of : ℕ → PathNames → Kind → Watch → Bool
is_of c path k w = (w.session == c) && same_path w.path path && same_kind w.kind k

append_number : (c : ℕ) (path : PathNames) (k : Kind) (ws : List Watch) (w : Watch) → set_number c path k ws ≡ None → is_of c path k w ≡ false → set_number c path k (ws ++ w ∷ []) ≡ None
append_number c path k [] w e f = grind arith
append_number c path k (v ∷ ws) w e f = one (is_of c path k v) e (λ a. append_number c path k ws w a f)
  where
    one : (b : Bool) → (if b then Some v.id else set_number c path k ws) ≡ None → (set_number c path k ws ≡ None → set_number c path k (ws ++ w ∷ []) ≡ None) → (if b then Some v.id else set_number c path k (ws ++ w ∷ [])) ≡ None
    one true e i = absurd (grind arith)
    one false e i = i e

of_sym : (v w : Watch) → is_of v.session v.path v.kind w ≡ true → is_of w.session w.path w.kind v ≡ true
of_sym v w e = grind (arith, nat_tests, same_sym w.path v.path, same_kind_sym w.kind v.kind)

head_number : (c : ℕ) (path : PathNames) (k : Kind) (w : Watch) (ws : List Watch) → set_number c path k (w ∷ ws) ≡ None → (is_of c path k w ≡ false) × (set_number c path k ws ≡ None)
head_number c path k w ws e = one (is_of c path k w) e
  where
    one : (b : Bool) → (if b then Some w.id else set_number c path k ws) ≡ None → (b ≡ false) × (set_number c path k ws ≡ None)
    one true e = absurd (grind arith)
    one false e = (refl, e)

pub append_apart : (ws : List Watch) (w : Watch) → AreApart ws → set_number w.session w.path w.kind ws ≡ None → AreApart (ws ++ w ∷ [])
append_apart [] w u e = (refl, tt)
append_apart (v ∷ ws) w u e =
    let r = head_number w.session w.path w.kind v ws e in
    (append_number v.session v.path v.kind ws w u.0 (false_from_ne_true (is_of v.session v.path v.kind w) (λ a. false≢true (sym r.0 ∙ of_sym v w a))), append_apart ws w u.1 r.1)

none_of : (j c : ℕ) (path : PathNames) (k : Kind) (ws : List Watch) (w : Watch) → watch_with j ws ≡ Some w → set_number c path k ws ≡ None → is_of c path k w ≡ false
none_of j c path k [] w e f = absurd (grind arith)
none_of j c path k (v ∷ ws) w e f = one (v.id == j) e (head_number c path k v ws f) (none_of j c path k ws w)
  where
    one : (b : Bool) → (if b then Some v else watch_with j ws) ≡ Some w → (is_of c path k v ≡ false) × (set_number c path k ws ≡ None) → (watch_with j ws ≡ Some w → set_number c path k ws ≡ None → is_of c path k w ≡ false) → is_of c path k w ≡ false
    one true a r i = subst (λ x. is_of c path k x ≡ false) (same_Some v w a) r.0
    one false a r i = i a r.1

pub set_number_has : (c : ℕ) (path : PathNames) (k : Kind) (ws : List Watch) (id : ℕ) → set_number c path k ws ≡ Some id → has_id id ws ≡ true
set_number_has c path k [] id e = absurd (grind arith)
set_number_has c path k (w ∷ ws) id e = one (is_of c path k w) e (set_number_has c path k ws id)
  where
    one : (b : Bool) → (if b then Some w.id else set_number c path k ws) ≡ Some id → (set_number c path k ws ≡ Some id → has_id id ws ≡ true) → ((w.id == id) || has_id id ws) ≡ true
    one true e i = grind (arith, nat_tests)
    one false e i = grind arith

is_of_it : (v w : Watch) → v.session ≡ w.session → same_path v.path w.path ≡ true → same_kind v.kind w.kind ≡ true → is_of w.session w.path w.kind v ≡ true
is_of_it v w a b c = grind (arith, nat_tests)

pub apart_differ : (i j : ℕ) (ws : List Watch) (v w : Watch) → AreApart ws → watch_with i ws ≡ Some v → watch_with j ws ≡ Some w → is_of w.session w.path w.kind v ≡ true → i ≡ j
apart_differ i j [] v w u e f g = absurd (grind arith)
apart_differ i j (x ∷ ws) v w u e f g = by_tests (x.id == i) (x.id == j) refl refl e f (λ a b. apart_differ i j ws v w u.1 a b g)
  where
    by_tests : (a b : Bool) → (x.id == i) ≡ a → (x.id == j) ≡ b → (if a then Some x else watch_with i ws) ≡ Some v → (if b then Some x else watch_with j ws) ≡ Some w → (watch_with i ws ≡ Some v → watch_with j ws ≡ Some w → i ≡ j) → i ≡ j
    by_tests true true c d e f k = grind (arith, nat_tests)
    by_tests true false c d e f k =
        let s = same_Some x v e in
        let n = none_of j v.session v.path v.kind ws w f (subst (λ y. set_number y.session y.path y.kind ws ≡ None) s u.0) in
        absurd (false≢true (sym n ∙ of_sym w v g))
    by_tests false true c d e f k =
        let s = same_Some x w f in
        let n = none_of i w.session w.path w.kind ws v e (subst (λ y. set_number y.session y.path y.kind ws ≡ None) s u.0) in
        absurd (false≢true (sym n ∙ g))
    by_tests false false c d e f k = k e f

pub same_differ : (i j : ℕ) (ws : List Watch) (v w : Watch) → AreApart ws → watch_with i ws ≡ Some v → watch_with j ws ≡ Some w → v.session ≡ w.session → same_path v.path w.path ≡ true → same_kind v.kind w.kind ≡ true → i ≡ j
same_differ i j ws v w u e f a b c = apart_differ i j ws v w u e f (is_of_it v w a b c)
