-- The number that a registration gets, of the table of watches and of the list of the set ones.
use Rattle.std.specs.Prelude.{zero, is_some, ◌==◌, if◌then◌else◌, option_map}
use Rattle.std.proofs.Common.{◌≡◌, ℕ, suc, inl, ◌≤◌, Bool, true, false, cond, List, [], ◌∷◌, refl, sym, ◌∙◌, ap, subst, arith, Option, Some, None}
use Rattle.std.proofs.lemmas.Bool.{false≢true, eqb-true}
use Rattle.std.proofs.lemmas.Bool.Decides.{nat_tests}
use Rattle.std.proofs.lemmas.Option.{same_Some, none-some}
use Rattle.fk_base.specs.Path.{PathNames, same_path}
use Rattle.fk_tree.proofs.Order.{same_path_is, same_path_self}
use Rattle.fk_tree.specs.Watch.{same_kind}
use Rattle.fk_tree.specs.declared.change.Kind.{Kind}
use Rattle.fk_tree.specs.declared.change.Kind.TheVariants as kind
use Rattle.fk_print.specs.declared.entry.Entry.{Entry}
use Rattle.fk_watch.specs.declared.watch.Watch as table
use Rattle.fk_stand.specs.Stores.{watch_as, watches_after}
use Rattle.fk_spec.specs.Plan.{Plan}
use Rattle.fk_spec.specs.Sight.{number_or_next}
use Rattle.fk_spec.specs.Sight as sight
use Rattle.fk_spec.specs.Watches.{Watch, given_of, has_id, set_number, set_watches}
use Rattle.fk_spec.specs.Next.{IsHistory}
use Rattle.fk_spec.specs.WatchNumbers.{watch_with}
use Rattle.fk_law_watch.specs.SetWatches.{set_watch}
use Rattle.fk_law_watch.proofs.Listing.{AreUnique, is_of, set_number_has}
use Rattle.fk_law_watch.proofs.SetWatches.{set_or_fired_were_given, set_watches_differ, watches_unique}
use Rattle.fk_client.specs.Registering.{is_watch, watch_number}
use Rattle.fk_client.specs.Registering as client
use Rattle.fk_base.proofs.Logic.{and_left, and_right, by_test}

-- the watch of a client, a path and a kind, as the table has it
abbrev watch_for : ℕ → PathNames → Kind → table.Watch
watch_for c path k = record { session = c; path = path; kind = k }

-- whether the watch of a number is of that client, path and kind
abbrev is_set_for : ℕ → PathNames → Kind → ℕ → List Watch → Bool
is_set_for c path k id ws = is_watch (watch_for c path k) (option_map watch_as (watch_with id ws))

-- The list. ----------------------------------------------------------------------------------------------

none_is_set : (c : ℕ) (path : PathNames) (k : Kind) (ws : List Watch) (id : ℕ) → set_number c path k ws ≡ None → is_set_for c path k id ws ≡ false
none_is_set c path k [] id q = refl
none_is_set c path k (w ∷ ws) id q = by_watch (is_of c path k w) refl q (λ r. none_is_set c path k ws id r)
  where
    by_watch : (b : Bool) → is_of c path k w ≡ b → (if b then Some w.id else set_number c path k ws) ≡ None → (set_number c path k ws ≡ None → is_set_for c path k id ws ≡ false) → is_set_for c path k id (w ∷ ws) ≡ false
    by_watch true e q r = absurd (none-some w.id (sym q))
    by_watch false e q r = by_test (w.id == id) (λ b. is_watch (watch_for c path k) (option_map watch_as (cond b (Some w) (watch_with id ws))) ≡ false) (λ _. e) (λ _. r q)

one_is_set : (c : ℕ) (path : PathNames) (k : Kind) (ws : List Watch) (id : ℕ) → AreUnique ws → set_number c path k ws ≡ Some id → is_set_for c path k id ws ≡ true
one_is_set c path k [] id u q = absurd (none-some id q)
one_is_set c path k (w ∷ ws) id u q = by_watch (is_of c path k w) refl q (λ r. one_is_set c path k ws id u.1 r)
  where
    by_watch : (b : Bool) → is_of c path k w ≡ b → (if b then Some w.id else set_number c path k ws) ≡ Some id → (set_number c path k ws ≡ Some id → is_set_for c path k id ws ≡ true) → is_set_for c path k id (w ∷ ws) ≡ true
    by_watch true e q r = ap (λ b. is_watch (watch_for c path k) (option_map watch_as (cond b (Some w) (watch_with id ws)))) (same (same_Some w.id id q)) ∙ e
      where
        same : w.id ≡ id → (w.id == id) ≡ true
        same g = grind (arith, nat_tests)
    by_watch false e q r = by_test (w.id == id) (λ b. is_watch (watch_for c path k) (option_map watch_as (cond b (Some w) (watch_with id ws))) ≡ true) (λ g. absurd (false≢true (sym u.0 ∙ (ap (λ i. has_id i ws) (same g) ∙ set_number_has c path k ws id q)))) (λ _. r q)
      where
        same : (w.id == id) ≡ true → w.id ≡ id
        same g = grind (arith, nat_tests)

-- The table. ---------------------------------------------------------------------------------------------

found_is_set : (w : table.Watch) (f : ℕ → Option table.Watch) (n j : ℕ) → client.set_number w f n ≡ Some j → is_watch w (f j) ≡ true
found_is_set w f zero j q = absurd (none-some j q)
found_is_set w f (suc n) j q = by_watch (is_watch w (f (suc n))) refl q (λ r. found_is_set w f n j r)
  where
    by_watch : (b : Bool) → is_watch w (f (suc n)) ≡ b → (if b then Some (suc n) else client.set_number w f n) ≡ Some j → (client.set_number w f n ≡ Some j → is_watch w (f j) ≡ true) → is_watch w (f j) ≡ true
    by_watch true e q r = ap (λ i. is_watch w (f i)) (sym (same_Some (suc n) j q)) ∙ e
    by_watch false e q r = r q

not_found : (w : table.Watch) (f : ℕ → Option table.Watch) (n j : ℕ) → client.set_number w f n ≡ None → 1 ≤ j → j ≤ n → is_watch w (f j) ≡ false
not_found w f zero j q a b = absurd (omega (arith, a, b))
not_found w f (suc n) j q a b = by_watch (is_watch w (f (suc n))) refl q (λ r g. not_found w f n j r a g)
  where
    by_watch : (v : Bool) → is_watch w (f (suc n)) ≡ v → (if v then Some (suc n) else client.set_number w f n) ≡ None → (client.set_number w f n ≡ None → j ≤ n → is_watch w (f j) ≡ false) → is_watch w (f j) ≡ false
    by_watch true e q r = absurd (none-some (suc n) (sym q))
    by_watch false e q r = by_test (j == suc n) (λ v. is_watch w (f j) ≡ false) (λ g. ap (λ i. is_watch w (f i)) (same g) ∙ e) (λ g. r q (less g))
      where
        same : (j == suc n) ≡ true → j ≡ suc n
        same g = grind (arith, nat_tests)

        less : (j == suc n) ≡ false → j ≤ n
        less g = grind (arith, nat_tests)

-- They agree. --------------------------------------------------------------------------------------------

record IsSetFor (c : ℕ) (path : PathNames) (k : Kind) (o : Option Watch) : Type 0 where
  pub watch : Watch
  pub is : o ≡ Some watch
  pub of_it : is_of c path k watch ≡ true

which : (c : ℕ) (path : PathNames) (k : Kind) (o : Option Watch) → is_watch (watch_for c path k) (option_map watch_as o) ≡ true → IsSetFor c path k o
which c path k None e = absurd (false≢true e)
which c path k (Some w) e = record { watch = w; is = refl; of_it = e }

kinds_same : (a b k : Kind) → same_kind a k ≡ true → same_kind b k ≡ true → same_kind a b ≡ true
kinds_same kind.Data kind.Data k e f = refl
kinds_same kind.Child kind.Child k e f = refl
kinds_same kind.Data kind.Child kind.Data e f = f
kinds_same kind.Data kind.Child kind.Child e f = e
kinds_same kind.Child kind.Data kind.Data e f = e
kinds_same kind.Child kind.Data kind.Child e f = f

paths_same : (a b path : PathNames) → same_path a path ≡ true → same_path b path ≡ true → same_path a b ≡ true
paths_same a b path e f = subst (λ z. same_path z b ≡ true) (sym (same_path_is a path e)) (subst (λ z. same_path path z ≡ true) (sym (same_path_is b path f)) (same_path_self path))

one_number : (p : Plan) (c i j : ℕ) (path : PathNames) (k : Kind) (h : List Entry) → IsHistory p h → is_set_for c path k i (set_watches p h) ≡ true → is_set_for c path k j (set_watches p h) ≡ true → i ≡ j
one_number p c i j path k h l a b =
    let v = which c path k (set_watch p i h) a in
    let w = which c path k (set_watch p j h) b in
    set_watches_differ p i j h v.watch w.watch l v.is w.is
    (eqb-true v.watch.session c (and_left _ _ (and_left _ _ v.of_it)) ∙ sym (eqb-true w.watch.session c (and_left _ _ (and_left _ _ w.of_it))))
    (paths_same v.watch.path w.watch.path path (and_right _ _ (and_left _ _ v.of_it)) (and_right _ _ (and_left _ _ w.of_it)))
    (kinds_same v.watch.kind w.watch.kind k (and_right _ _ v.of_it) (and_right _ _ w.of_it))

in_table : (p : Plan) (c id faults : ℕ) (path : PathNames) (k : Kind) (h : List Entry) → is_watch (watch_for c path k) ((watches_after p h faults).set id) ≡ is_set_for c path k id (set_watches p h)
in_table p c id faults path k h = refl

were_given : (p : Plan) (c id : ℕ) (path : PathNames) (k : Kind) (h : List Entry) → IsHistory p h → is_set_for c path k id (set_watches p h) ≡ true → (1 ≤ id) × (id ≤ given_of h)
were_given p c id path k h l e = let v = which c path k (set_watch p id h) e in set_or_fired_were_given p id h l (inl (ap is_some v.is))

agree_by : (p : Plan) (c faults : ℕ) (path : PathNames) (k : Kind) (h : List Entry) → IsHistory p h → (a b : Option ℕ) → client.set_number (watch_for c path k) (watches_after p h faults).set (given_of h) ≡ a → set_number c path k (set_watches p h) ≡ b → a ≡ b
agree_by p c faults path k h l (Some j) (Some i) q r = ap Some (one_number p c j i path k h l (sym (in_table p c j faults path k h) ∙ found_is_set (watch_for c path k) (watches_after p h faults).set (given_of h) j q) (one_is_set c path k (set_watches p h) i (watches_unique p h l) r))
agree_by p c faults path k h l (Some j) None q r = absurd (false≢true (sym (none_is_set c path k (set_watches p h) j r) ∙ (sym (in_table p c j faults path k h) ∙ found_is_set (watch_for c path k) (watches_after p h faults).set (given_of h) j q)))
agree_by p c faults path k h l None (Some i) q r =
    let e = one_is_set c path k (set_watches p h) i (watches_unique p h l) r in
    let g = were_given p c i path k h l e in
    absurd (false≢true (sym (not_found (watch_for c path k) (watches_after p h faults).set (given_of h) i q g.0 g.1) ∙ (in_table p c i faults path k h ∙ e)))
agree_by p c faults path k h l None None q r = refl

-- the number that a watch of a client, a path and a kind would get
pub numbers_agree : (p : Plan) (c faults : ℕ) (path : PathNames) (k : Kind) (h : List Entry) → IsHistory p h → watch_number (watches_after p h faults) (watch_for c path k) ≡ sight.watch_number p c h path k
numbers_agree p c faults path k h l = ap (number_or_next (given_of h)) (agree_by p c faults path k h l (client.set_number (watch_for c path k) (watches_after p h faults).set (given_of h)) (set_number c path k (set_watches p h)) refl refl)
