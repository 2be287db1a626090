-- Set watches that fire.
use Rattle.std.proofs.Common.{◌≡◌, ℕ, ◌==◌, ◌&&◌, ◌||◌, Bool, true, false, cond, List, [], ◌∷◌, Option, Some, None, refl, sym, ◌∙◌, ap, arith}
use Rattle.std.specs.BTreeMap as tree
use Rattle.std.specs.Prelude.{IfSome}
use Rattle.std.specs.BTreeMap.{is_at}
use Rattle.std.specs.List.{AllByRecursion}
use Rattle.std.specs.List.Sorted.{IsStrictlySortedBy}
use Rattle.std.specs.Map.{keys_of, values_of}
use Rattle.std.specs.Ordering.{nat_cmp, is_eq}
use Rattle.std.specs.declared.cmp.Ordering.TheVariants.{Less}
use Rattle.std.proofs.lemmas.Bool.{eqb-true}
use Rattle.std.proofs.lemmas.Map.Keys.{sorted_head, sorted_tail}
use Rattle.fk_base.specs.Path.{PathNames, path_cmp, same_path}
use Rattle.fk_tree.specs.Watch.{takes}
use Rattle.fk_tree.specs.declared.change.Change.{Change}
use Rattle.fk_tree.specs.declared.change.Kind.{Kind}
use Rattle.fk_tree.specs.declared.change.Kind.TheVariants as kind
use Rattle.fk_tree.specs.declared.change.Touch.{Touch}
use Rattle.fk_tree.proofs.Order.{same_path_is, same_path_self}
use Rattle.fk_user.specs.Ids.{has_id}
use Rattle.fk_watch.specs.declared.watch.Watch.{Watch}
use Rattle.fk_watch.specs.declared.watch.Firing.{Firing}
use Rattle.fk_watch.specs.Index.{Index, Numbers, number_at, number_in}
use Rattle.fk_watch.specs.Moving.{fired_by, fired_among, numbers_in, numbers_on, is_on, touched_by, AreOrdered, KeepsOthers}
use Rattle.fk_watch.specs.Setting.{at, numbered, IsIndexed}
use Rattle.fk_base.proofs.Logic.{and_left, and_right, by_test}
use Rattle.fk_tree.proofs.SameKind.{same_kind_is, same_kind_self}

-- NUMBERS, ONE BY ONE
pub same_is : (n x : ℕ) → is_eq (nat_cmp n x) ≡ (n == x)
same_is n x = grind arith

pub among_step : (tx : ℕ) (ch : Change) (ws : List (ℕ × Watch)) (x : ℕ) (ns ms : List ℕ) (fs gs : List (ℕ × Firing)) → ns ≡ x ∷ ms
    → ((n : ℕ) → at n gs ≡ cond (n == x) (fired_by tx ch (at n ws) (at n fs)) (at n fs))
    → (n : ℕ) → fired_among tx ch ws ms n (at n gs) ≡ fired_among tx ch ws ns n (at n fs)
among_step tx ch ws x ns ms fs gs e h n = rw (e, h n, same_is n x) (step (n == x) (has_id n ms) (at n ws) (at n fs))
  where
    step : (b d : Bool) (w : Option Watch) (o : Option Firing) → cond d (fired_by tx ch w (cond b (fired_by tx ch w o) o)) (cond b (fired_by tx ch w o) o) ≡ cond (b || d) (fired_by tx ch w o) o
    step true true None o = refl
    step true true (Some w) o = refl
    step true false w o = refl
    step false d w o = refl

-- THE NUMBERS OF A PATH
pub same_id : (n m : ℕ) → is_eq (nat_cmp n m) ≡ true → n ≡ m
same_id n m e = eqb-true n m (sym (same_is n m) ∙ e)

self_at : (n : ℕ) → is_at (nat_cmp n) n ≡ true
self_at n = grind arith

less_found : {X : Type 0} (k s : ℕ) (x : X) (es : List (ℕ × X)) → AllByRecursion (λ y. nat_cmp k y ≡ Less) (keys_of es) → at s es ≡ Some x → nat_cmp k s ≡ Less
less_found k s x [] h e = absurd (cc)
less_found {X} k s x (y ∷ es) h e =
    by_test (is_at (nat_cmp s) y.0) (λ b. cond b (Some y.1) (at s es) ≡ Some x → nat_cmp k s ≡ Less)
    (λ t _. rw (same_id s y.0 t) h.0)
    (λ _ f. less_found k s x es h.1 f) e

less_apart : (k s : ℕ) → nat_cmp k s ≡ Less → is_at (nat_cmp s) k ≡ false
less_apart k s e = grind arith

-- each value has a key
pub value_found : (n : ℕ) (es : List (ℕ × ℕ)) → IsStrictlySortedBy nat_cmp (keys_of es) → has_id n (values_of es) ≡ true → (s : ℕ) × (at s es ≡ Some n)
value_found n [] h e = absurd (cc)
value_found n (x ∷ es) h e =
    by_test (is_eq (nat_cmp n x.1)) (λ b. (b || has_id n (values_of es)) ≡ true → (s : ℕ) × (at s (x ∷ es) ≡ Some n))
    (λ t _. (x.0, rw (self_at x.0) (ap Some (sym (same_id n x.1 t)))))
    (λ _ f. later (value_found n es (sorted_tail nat_cmp x.0 (keys_of es) h) f)) e
  where
    later : (s : ℕ) × (at s es ≡ Some n) → (s : ℕ) × (at s (x ∷ es) ≡ Some n)
    later r = (r.0, rw (less_apart x.0 r.0 (less_found x.0 r.0 n es (sorted_head nat_cmp x.0 (keys_of es) h) r.1)) r.1)

pub found_value : (n s : ℕ) (es : List (ℕ × ℕ)) → at s es ≡ Some n → has_id n (values_of es) ≡ true
found_value n s [] e = absurd (cc)
found_value n s (x ∷ es) e =
    by_test (is_at (nat_cmp s) x.0) (λ b. cond b (Some x.1) (at s es) ≡ Some n → (is_eq (nat_cmp n x.1) || has_id n (values_of es)) ≡ true)
    (λ _ f. let same : x.1 ≡ n = cc in rw (same, self_at n) refl)
    (λ _ f. right (is_eq (nat_cmp n x.1)) (has_id n (values_of es)) (found_value n s es f)) e
  where
    right : (a b : Bool) → b ≡ true → (a || b) ≡ true
    right true b e = refl
    right false b e = e

both_ways : (a b : Bool) → (a ≡ true → b ≡ true) → (b ≡ true → a ≡ true) → a ≡ b
both_ways true true f g = refl
both_ways true false f g = sym (f refl)
both_ways false true f g = g refl
both_ways false false f g = refl

-- the numbers of a path in the index of a kind are those of the set watches there
on_path : (ws : List (ℕ × Watch)) (index : Index) (k : Kind) (p : PathNames) (n : ℕ)
    → ((m : ℕ) (w : Watch) → at m ws ≡ Some w → k ≡ w.kind → number_in index w.path w.session ≡ Some m)
    → ((q : PathNames) (s m : ℕ) → number_in index q s ≡ Some m → at m ws ≡ Some (record { session = s; path = q; kind = k }))
    → AreOrdered p index → has_id n (numbers_on p index) ≡ is_on k p (at n ws)
on_path ws index k p n there back ordered =
    both_ways (has_id n (numbers_on p index)) (is_on k p (at n ws))
    (λ e. step (tree.get path_cmp index p) refl ordered e)
    (λ e. found (at n ws) refl e)
  where
    step : (o : Option Numbers) → tree.get path_cmp index p ≡ o → IfSome o (λ numbers. tree.IsOrdered nat_cmp numbers) → has_id n (numbers_in o) ≡ true → is_on k p (at n ws) ≡ true
    step None g h e = absurd (cc)
    step (Some numbers) g h e =
        let r : (s : ℕ) × (at s numbers.entries ≡ Some n) = value_found n numbers.entries h e in
        let is : at n ws ≡ Some (record { session = r.0; path = p; kind = k }) = back p r.0 n (ap (number_at r.0) g ∙ r.1) in
        rw (is, same_path_self p, same_kind_self k) refl

    held : (s : ℕ) (o : Option Numbers) → number_at s o ≡ Some n → has_id n (numbers_in o) ≡ true
    held s None e = absurd (cc)
    held s (Some numbers) e = found_value n s numbers.entries e

    found : (o : Option Watch) → at n ws ≡ o → is_on k p o ≡ true → has_id n (numbers_on p index) ≡ true
    found None g e = absurd (cc)
    found (Some w) g e =
        held w.session (tree.get path_cmp index p)
        (ap (λ q. number_in index q w.session) (same_path_is p w.path (and_left _ _ e)) ∙ there n w g (same_kind_is k w.kind (and_right _ _ e)))

pub on_data : (ws : List (ℕ × Watch)) (d c : Index) (p : PathNames) (n : ℕ) → IsIndexed ws d c → AreOrdered p d → has_id n (numbers_on p d) ≡ is_on kind.Data p (at n ws)
on_data ws d c p n i = on_path ws d kind.Data p n (λ m w g e. ap (λ k. numbered d c k w.path w.session) e ∙ i.there m w g) (i.back kind.Data)

pub on_child : (ws : List (ℕ × Watch)) (d c : Index) (p : PathNames) (n : ℕ) → IsIndexed ws d c → AreOrdered p c → has_id n (numbers_on p c) ≡ is_on kind.Child p (at n ws)
on_child ws d c p n i = on_path ws c kind.Child p n (λ m w g e. ap (λ k. numbered d c k w.path w.session) e ∙ i.there m w g) (i.back kind.Child)

-- A TOUCH
-- what fires among the watches of one kind
abbrev pub kind_fired : ℕ → Kind → Touch → List (ℕ × Watch) → Index → ℕ → Option Firing → Option Firing
kind_fired tx k t ws index n o = cond (takes k t.change) (fired_among tx t.change ws (numbers_on t.path index) n o) o

pub touch_fired : (tx : ℕ) (t : Touch) (ws : List (ℕ × Watch)) (d c : Index) (n : ℕ) (o mid new : Option Firing) → IsIndexed ws d c
    → (takes kind.Data t.change ≡ true → AreOrdered t.path d) → (takes kind.Child t.change ≡ true → AreOrdered t.path c)
    → mid ≡ kind_fired tx kind.Data t ws d n o → new ≡ kind_fired tx kind.Child t ws c n mid → new ≡ touched_by tx t (at n ws) o
touch_fired tx t ws d c n o mid new i a b e f =
    f
    ∙ by_test (takes kind.Child t.change) (λ x. (x ≡ true → AreOrdered t.path c) → cond x (fired_among tx t.change ws (numbers_on t.path c) n mid) mid ≡ cond x (cond (is_on kind.Child t.path (at n ws)) (fired_by tx t.change (at n ws) mid) mid) mid)
    (λ _ g. rw (on_child ws d c t.path n i (g refl)) refl) (λ _ g. refl) b
    ∙ ap (λ m. cond (takes kind.Child t.change) (cond (is_on kind.Child t.path (at n ws)) (fired_by tx t.change (at n ws) m) m) m)
    (e ∙ by_test (takes kind.Data t.change) (λ x. (x ≡ true → AreOrdered t.path d) → cond x (fired_among tx t.change ws (numbers_on t.path d) n o) o ≡ cond x (cond (is_on kind.Data t.path (at n ws)) (fired_by tx t.change (at n ws) o) o) o)
    (λ _ g. rw (on_data ws d c t.path n i (g refl)) refl) (λ _ g. refl) a)
    ∙ joined (at n ws)
  where
    first : (s b c : Bool) (x y : Option Firing) → cond c (cond (s && false) x (cond b (cond (s && true) x y) y)) (cond b (cond (s && true) x y) y) ≡ cond (s && b) x y
    first true true true x y = refl
    first true true false x y = refl
    first true false true x y = refl
    first true false false x y = refl
    first false true true x y = refl
    first false true false x y = refl
    first false false true x y = refl
    first false false false x y = refl

    second : (s b c : Bool) (x y : Option Firing) → cond c (cond (s && true) x (cond b (cond (s && false) x y) y)) (cond b (cond (s && false) x y) y) ≡ cond (s && c) x y
    second true true true x y = refl
    second true true false x y = refl
    second true false true x y = refl
    second true false false x y = refl
    second false true true x y = refl
    second false true false x y = refl
    second false false true x y = refl
    second false false false x y = refl

    none : (b c : Bool) (x : Option Firing) → cond c (cond b x x) (cond b x x) ≡ x
    none true true x = refl
    none true false x = refl
    none false true x = refl
    none false false x = refl

    kinds : (s : ℕ) (q : PathNames) (k : Kind) → cond (takes kind.Child t.change) (cond (is_on kind.Child t.path (Some (record { session = s; path = q; kind = k }))) (Some (record { watch = record { session = s; path = q; kind = k }; tx = tx; change = t.change })) (cond (takes kind.Data t.change) (cond (is_on kind.Data t.path (Some (record { session = s; path = q; kind = k }))) (Some (record { watch = record { session = s; path = q; kind = k }; tx = tx; change = t.change })) o) o)) (cond (takes kind.Data t.change) (cond (is_on kind.Data t.path (Some (record { session = s; path = q; kind = k }))) (Some (record { watch = record { session = s; path = q; kind = k }; tx = tx; change = t.change })) o) o) ≡ touched_by tx t (Some (record { session = s; path = q; kind = k })) o
    kinds s q kind.Data = first (same_path t.path q) (takes kind.Data t.change) (takes kind.Child t.change) _ o
    kinds s q kind.Child = second (same_path t.path q) (takes kind.Data t.change) (takes kind.Child t.change) _ o

    joined : (w : Option Watch) → cond (takes kind.Child t.change) (cond (is_on kind.Child t.path w) (fired_by tx t.change w (cond (takes kind.Data t.change) (cond (is_on kind.Data t.path w) (fired_by tx t.change w o) o) o)) (cond (takes kind.Data t.change) (cond (is_on kind.Data t.path w) (fired_by tx t.change w o) o) o)) (cond (takes kind.Data t.change) (cond (is_on kind.Data t.path w) (fired_by tx t.change w o) o) o) ≡ touched_by tx t w o
    joined None = none (takes kind.Data t.change) (takes kind.Child t.change) o
    joined (Some w) = kinds w.session w.path w.kind

-- WHAT STAYS
pub keeps_on : (tx : ℕ) (ws : List (ℕ × Watch)) (fs gs hs : List (ℕ × Firing)) → KeepsOthers tx ws fs gs → KeepsOthers tx ws gs hs → KeepsOthers tx ws fs hs
keeps_on tx ws fs gs hs a b clear n = b (λ m h. a clear m ∙ clear m h) n ∙ a clear n
