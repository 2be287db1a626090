-- Set watches and their indexes through a change.
use Rattle.std.proofs.Common.{◌≡◌, ℕ, ◌==◌, true, false, cond, List, Option, Some, None, refl, sym, ◌∙◌, ap, arith}
use Rattle.std.specs.Prelude.{IfSome, IfNone}
use Rattle.std.specs.BTreeMap.{is_at}
use Rattle.std.specs.Ordering.{nat_cmp}
use Rattle.fk_base.specs.Path.{PathNames}
use Rattle.fk_tree.specs.declared.change.Kind.{Kind}
use Rattle.fk_tree.specs.declared.change.Kind.TheVariants as kind
use Rattle.fk_tree.proofs.Order.{same_path_is, same_path_self}
use Rattle.std.proofs.lemmas.Bool.{eqb-true}
use Rattle.fk_watch.specs.declared.watch.Watch.{Watch}
use Rattle.fk_watch.specs.Index.{Index, number_in}
use Rattle.fk_watch.specs.Setting.{at, is_watch, numbered, HasNot, IsIndexed}
use Rattle.fk_base.proofs.Logic.{and_left, and_right, by_test}
use Rattle.fk_tree.proofs.SameKind.{same_kind_is, same_kind_self}

pub same_number : (a b : ℕ) → is_at (nat_cmp a) b ≡ (b == a)
same_number a b = grind arith

-- THE TEST OF A WATCH
same_session : (s t : ℕ) → (s == t) ≡ true → s ≡ t
same_session s t e = eqb-true s t e

pub watch_is : (k : Kind) (p : PathNames) (s : ℕ) (w : Watch) → is_watch k p s w ≡ true → record { session = s; path = p; kind = k } ≡ w
watch_is k p s w e =
    let a : k ≡ w.kind = same_kind_is k w.kind (and_left _ _ e) in
    let b : p ≡ w.path = same_path_is p w.path (and_left _ _ (and_right _ _ e)) in
    let c : s ≡ w.session = same_session s w.session (and_right _ _ (and_right _ _ e)) in
    λ i. record { session = c i; path = b i; kind = a i }

pub watch_self : (w : Watch) → is_watch w.kind w.path w.session w ≡ true
watch_self w = rw (same_kind_self w.kind, same_path_self w.path) (grind arith)

-- FINDING
pub found_number : (ws : List (ℕ × Watch)) (d c : Index) (k : Kind) (p : PathNames) (s : ℕ) (r : Option ℕ) → IsIndexed ws d c → r ≡ numbered d c k p s → IfSome r (λ n. at n ws ≡ Some (record { session = s; path = p; kind = k }))
found_number ws d c k p s None i e = tt
found_number ws d c k p s (Some n) i e = i.back k p s n (sym e)

pub number_missing : (ws : List (ℕ × Watch)) (d c : Index) (k : Kind) (p : PathNames) (s : ℕ) (r : Option ℕ) → IsIndexed ws d c → r ≡ numbered d c k p s → IfNone r (HasNot (record { session = s; path = p; kind = k }) ws)
number_missing ws d c k p s None i e = λ n a. let there : numbered d c k p s ≡ Some n = i.there n (record { session = s; path = p; kind = k }) a in absurd (cc)
number_missing ws d c k p s (Some n) i e = tt

-- CHANGES
-- the indexes with a number for a watch, or without it
abbrev pub IsNoted : Watch → Option ℕ → Index → Index → Index → Index → Type 0
IsNoted w o d c e f = (k : Kind) (p : PathNames) (s : ℕ) → numbered e f k p s ≡ cond (is_watch k p s w) o (numbered d c k p s)

abbrev pub IsPut : ℕ → Option Watch → List (ℕ × Watch) → List (ℕ × Watch) → Type 0
IsPut number o ws vs = (n : ℕ) → at n vs ≡ cond (is_at (nat_cmp number) n) o (at n ws)

pub put_at : (number : ℕ) (o : Option Watch) (ws vs : List (ℕ × Watch)) → IsPut number o ws vs → (n : ℕ) → at n vs ≡ cond (n == number) o (at n ws)
put_at number o ws vs h n = h n ∙ ap (λ b. cond b o (at n ws)) (same_number number n)

pub watch_added : (ws vs : List (ℕ × Watch)) (d c e f : Index) (number : ℕ) (w : Watch) → IsIndexed ws d c → at number ws ≡ None → HasNot w ws → IsNoted w (Some number) d c e f → IsPut number (Some w) ws vs → IsIndexed vs e f
watch_added ws vs d c e f number w i free new noted put = record {
  there = λ n v h. by_test (n == number) (λ b. cond b (Some w) (at n ws) ≡ Some v → numbered e f v.kind v.path v.session ≡ Some n)
      (λ t g. let same : w ≡ v = cc in noted v.kind v.path v.session ∙ rw (← same, watch_self w) (ap Some (sym (eqb-true n number t))))
      (λ _ g. noted v.kind v.path v.session ∙ by_test (is_watch v.kind v.path v.session w) (λ b. cond b (Some number) (numbered d c v.kind v.path v.session) ≡ Some n)
      (λ t. let same : v ≡ w = watch_is v.kind v.path v.session w t in absurd (new n (g ∙ ap Some same)))
      (λ _. i.there n v g))
      (sym (put_at number (Some w) ws vs put n) ∙ h);
  back = λ k p s n h. by_test (is_watch k p s w) (λ b. cond b (Some number) (numbered d c k p s) ≡ Some n → at n vs ≡ Some (record { session = s; path = p; kind = k }))
      (λ t g. let same : number ≡ n = cc in put_at number (Some w) ws vs put n ∙ rw (← same, self number) (ap Some (sym (watch_is k p s w t))))
      (λ _ g. put_at number (Some w) ws vs put n ∙ by_test (n == number) (λ b. cond b (Some w) (at n ws) ≡ Some (record { session = s; path = p; kind = k }))
      (λ t. let none : at n ws ≡ None = rw (eqb-true n number t) free in let some : at n ws ≡ Some (record { session = s; path = p; kind = k }) = i.back k p s n g in absurd (cc))
      (λ _. i.back k p s n g))
      (sym (noted k p s) ∙ h);
}
  where
    self : (n : ℕ) → (n == n) ≡ true
    self n = grind arith

pub watch_dropped : (ws vs : List (ℕ × Watch)) (d c e f : Index) (number : ℕ) (w : Watch) → IsIndexed ws d c → at number ws ≡ Some w → IsNoted w None d c e f → IsPut number None ws vs → IsIndexed vs e f
watch_dropped ws vs d c e f number w i is noted put = record {
  there = λ n v h. by_test (n == number) (λ b. cond b None (at n ws) ≡ Some v → numbered e f v.kind v.path v.session ≡ Some n)
      (λ t g. absurd (cc))
      (λ t g. noted v.kind v.path v.session ∙ by_test (is_watch v.kind v.path v.session w) (λ b. cond b None (numbered d c v.kind v.path v.session) ≡ Some n)
      (λ u. absurd (twice n v t g (watch_is v.kind v.path v.session w u)))
      (λ _. i.there n v g))
      (sym (put_at number None ws vs put n) ∙ h);
  back = λ k p s n h. by_test (is_watch k p s w) (λ b. cond b None (numbered d c k p s) ≡ Some n → at n vs ≡ Some (record { session = s; path = p; kind = k }))
      (λ t g. absurd (cc))
      (λ t g. put_at number None ws vs put n ∙ by_test (n == number) (λ b. cond b None (at n ws) ≡ Some (record { session = s; path = p; kind = k }))
      (λ u. absurd (other k p s n t (i.back k p s n g) u))
      (λ _. i.back k p s n g))
      (sym (noted k p s) ∙ h);
}
  where
    twice : (n : ℕ) (v : Watch) → (n == number) ≡ false → at n ws ≡ Some v → v ≡ w → ⊥
    twice n v t g same =
        let a : numbered d c w.kind w.path w.session ≡ Some n = i.there n w (g ∙ ap Some same) in
        let b : numbered d c w.kind w.path w.session ≡ Some number = i.there number w is in
        let one : n ≡ number = cc in
        grind (arith, t, one)

    other : (k : Kind) (p : PathNames) (s n : ℕ) → is_watch k p s w ≡ false → at n ws ≡ Some (record { session = s; path = p; kind = k }) → (n == number) ≡ true → ⊥
    other k p s n t g u =
        let one : n ≡ number = eqb-true n number u in
        let v : Watch = record { session = s; path = p; kind = k } in
        let a : at number ws ≡ Some v = rw (← one) g in
        let same : v ≡ w = cc in
        let b : is_watch k p s w ≡ true = rw (← same) (watch_self v) in
        absurd (cc)

-- a number was noted for a watch that isn't set, and forgotten
pub watch_withdrawn : (ws : List (ℕ × Watch)) (d c e f g h : Index) (number : ℕ) (w : Watch) → IsIndexed ws d c → HasNot w ws → IsNoted w (Some number) d c e f → IsNoted w None e f g h → IsIndexed ws g h
watch_withdrawn ws d c e f g h number w i new noted dropped = record {
  there = λ n v is. dropped v.kind v.path v.session ∙ by_test (is_watch v.kind v.path v.session w) (λ b. cond b None (numbered e f v.kind v.path v.session) ≡ Some n)
      (λ t. absurd (new n (is ∙ ap Some (watch_is v.kind v.path v.session w t))))
      (λ t. noted v.kind v.path v.session ∙ rw t (i.there n v is));
  back = λ k p s n is. by_test (is_watch k p s w) (λ b. cond b None (numbered e f k p s) ≡ Some n → at n ws ≡ Some (record { session = s; path = p; kind = k }))
      (λ t x. absurd (cc))
      (λ t x. i.back k p s n (sym (noted k p s ∙ rw t refl) ∙ x))
      (sym (dropped k p s) ∙ is);
}

pub same_indexed : (ws : List (ℕ × Watch)) (d c e f : Index) → IsIndexed ws d c → ((k : Kind) (p : PathNames) (s : ℕ) → numbered e f k p s ≡ numbered d c k p s) → IsIndexed ws e f
same_indexed ws d c e f i h = record {
  there = λ n w is. h w.kind w.path w.session ∙ i.there n w is;
  back = λ k p s n is. i.back k p s n (sym (h k p s) ∙ is);
}

-- one index changed
pub data_kept : (d c e : Index) → ((p : PathNames) (s : ℕ) → number_in e p s ≡ number_in d p s) → (k : Kind) (p : PathNames) (s : ℕ) → numbered e c k p s ≡ numbered d c k p s
data_kept d c e h kind.Data p s = h p s
data_kept d c e h kind.Child p s = refl

pub child_kept : (d c f : Index) → ((p : PathNames) (s : ℕ) → number_in f p s ≡ number_in c p s) → (k : Kind) (p : PathNames) (s : ℕ) → numbered d f k p s ≡ numbered d c k p s
child_kept d c f h kind.Data p s = refl
child_kept d c f h kind.Child p s = h p s
