-- The watches that a client holds by its lines are those that it holds.
use Rattle.std.specs.Prelude.{◌&&◌}
use Rattle.std.proofs.Common.{◌≡◌, ℕ, ◌⊎◌, inl, inr, if◌then◌else◌, Bool, true, false, List, [], ◌∷◌, refl, sym, ◌∙◌, ap, subst, Option, Some, None}
use Rattle.std.proofs.lemmas.Bool.{false≢true, and_parts}
use Rattle.std.proofs.lemmas.Option.{same_Some, none-some}
use Rattle.fk_base.specs.Path.{PathNames, same_path}
use Rattle.fk_tree.specs.Watch.{same_kind}
use Rattle.fk_tree.specs.declared.change.Kind.{Kind}
use Rattle.fk_tree.proofs.Order.{same_path_is, same_path_self}
use Rattle.fk_print.specs.declared.entry.Entry.{Entry}
use Rattle.fk_print.specs.declared.line.Line.{Line}
use Rattle.fk_spec.specs.Plan.{Plan}
use Rattle.fk_spec.specs.Client.{contains, without}
use Rattle.fk_spec.specs.Holding.{Holding, held_after, held_at, held_unless, not_held, same_watch, with_holding}
use Rattle.fk_spec.specs.Watches.{Watch}
use Rattle.fk_spec.specs.Next.{IsHistory}
use Rattle.fk_law_watch.specs.SetWatches.{first_of, registered_in}
use Rattle.fk_law_watch.proofs.SetWatches.{or_stays}
use Rattle.fk_law_held.specs.Held.{IsAccountedFor, known_watch}
use Rattle.fk_law_held.specs.Matching.{IsIn, IsOfHeld, Matches}
use Rattle.fk_law_held.proofs.Changing.{without_has, without_other}
use Rattle.fk_law_held.proofs.Holding.{known_stays}
use Rattle.fk_tree.proofs.SameKind.{same_kind_is, same_kind_self}

-- Holdings. --------------------------------------------------------------------------------------------

-- what is found is one of them, of that path and kind
pub found_in : (path : PathNames) (k : Kind) (ws : List Holding) (x : Holding) → held_at path k ws ≡ Some x → IsIn x ws × (x.path ≡ path) × (x.kind ≡ k)
found_in path k [] x e = absurd (none-some x e)
found_in path k (w ∷ ws) x e = by_same (same_watch path k w) refl e (found_in path k ws x)
  where
    its : same_watch path k w ≡ true → (w.path ≡ path) × (w.kind ≡ k)
    its f = let y = and_parts (same_path w.path path) (same_kind w.kind k) f in (same_path_is w.path path y.0, same_kind_is w.kind k y.1)

    by_same : (b : Bool) → same_watch path k w ≡ b → (if b then Some w else held_at path k ws) ≡ Some x → (held_at path k ws ≡ Some x → IsIn x ws × (x.path ≡ path) × (x.kind ≡ k)) → IsIn x (w ∷ ws) × (x.path ≡ path) × (x.kind ≡ k)
    by_same true f g i = let s = same_Some w x g in let y = its f in (inl (sym s), ap (λ z. z.path) (sym s) ∙ y.0, ap (λ z. z.kind) (sym s) ∙ y.1)
    by_same false f g i = let y = i g in (inr y.0, y.1, y.2)

-- of another path or kind than these
abbrev Differs : PathNames → Kind → PathNames → Kind → Type 0
Differs path k q j = same_path q path ≡ true → same_kind j k ≡ true → ⊥

held_at_not : (path q : PathNames) (k j : Kind) (ws : List Holding) → Differs path k q j → held_at path k (not_held q j ws) ≡ held_at path k ws
held_at_not path q k j [] d = refl
held_at_not path q k j (w ∷ ws) d = by_same (same_watch q j w) refl (same_watch path k w) refl (held_at_not path q k j ws d)
  where
    clash : same_watch q j w ≡ true → same_watch path k w ≡ true → ⊥
    clash f g =
        let a = and_parts (same_path w.path q) (same_kind w.kind j) f in
        let b = and_parts (same_path w.path path) (same_kind w.kind k) g in
        d (subst (λ z. same_path z path ≡ true) (same_path_is w.path q a.0) b.0) (subst (λ z. same_kind z k ≡ true) (same_kind_is w.kind j a.1) b.1)

    by_same : (b : Bool) → same_watch q j w ≡ b → (a : Bool) → same_watch path k w ≡ a → held_at path k (not_held q j ws) ≡ held_at path k ws → held_at path k (if b then not_held q j ws else w ∷ not_held q j ws) ≡ (if a then Some w else held_at path k ws)
    by_same true f true g i = absurd (clash f g)
    by_same true f false g i = i
    by_same false f true g i = rw g refl
    by_same false f false g i = rw g i

in_not : (q : PathNames) (j : Kind) (ws : List Holding) (x : Holding) → IsIn x (not_held q j ws) → IsIn x ws × (same_watch q j x ≡ false)
in_not q j [] x i = absurd i
in_not q j (w ∷ ws) x i = by_same (same_watch q j w) refl i (in_not q j ws x)
  where
    by_same : (b : Bool) → same_watch q j w ≡ b → IsIn x (if b then not_held q j ws else w ∷ not_held q j ws) → (IsIn x (not_held q j ws) → IsIn x ws × (same_watch q j x ≡ false)) → IsIn x (w ∷ ws) × (same_watch q j x ≡ false)
    by_same true f g k = let y = k g in (inr y.0, y.1)
    by_same false f (inl g) k = (inl g, subst (λ z. same_watch q j z ≡ false) (sym g) f)
    by_same false f (inr g) k = let y = k g in (inr y.0, y.1)

-- Matching lists. --------------------------------------------------------------------------------------

pub matches_none : (p : Plan) (h : List Entry) → Matches p h [] []
matches_none p h = record { there = λ id n w f. absurd (false≢true f); back = λ x i. absurd i }

pub none_held : (p : Plan) (h : List Entry) (held : List ℕ) (ws : List Holding) → held ≡ [] → Matches p h held ws → ws ≡ []
none_held p h held [] e m = refl
none_held p h held (w ∷ ws) e m = let y = m.back w (inl refl) in absurd (false≢true (subst (λ z. contains y.id z ≡ true) e y.holds))

abbrev AllAccounted : Plan → ℕ → List Entry → List ℕ → Type 0
AllAccounted p c h held = (id : ℕ) → contains id held ≡ true → IsAccountedFor p c id h

-- they match after one more entry
pub matches_later : (p : Plan) (c : ℕ) (e : Entry) (h : List Entry) (held : List ℕ) (ws : List Holding) → IsHistory p (e ∷ h) → AllAccounted p c h held → Matches p h held ws → Matches p (e ∷ h) held ws
matches_later p c e h held ws l a m = record {
  there = λ id n w f k q.
      let y = a id f in
      let s = same_Some w y.watch (sym k ∙ known_stays p id e h y.watch l y.known) in
      let t = same_Some n y.first (sym q ∙ or_stays (first_of p id h) (registered_in p id h e.op) y.first y.registered) in
      subst (λ z. held_at z.path z.kind ws ≡ Some (record { path = z.path; kind = z.kind; at = n })) (sym s) (subst (λ z. held_at y.watch.path y.watch.kind ws ≡ Some (record { path = y.watch.path; kind = y.watch.kind; at = z })) (sym t) (m.there id y.first y.watch f y.known y.registered));
  back = λ x i. let y = m.back x i in record { id = y.id; holds = y.holds; watch = y.watch; known = known_stays p y.id e h y.watch l y.known; its_path = y.its_path; its_kind = y.its_kind; first = or_stays (first_of p y.id h) (registered_in p y.id h e.op) x.at y.first };
}

-- the watch of this number isn't held any more
pub matches_dropped : (p : Plan) (h : List Entry) (held : List ℕ) (ws : List Holding) (j : ℕ) (v : Watch) → known_watch p j h ≡ Some v → ((i : ℕ) (w : Watch) → contains i held ≡ true → known_watch p i h ≡ Some w → same_path v.path w.path ≡ true → same_kind v.kind w.kind ≡ true → i ≡ j) → Matches p h held ws → Matches p h (without j held) (not_held v.path v.kind ws)
matches_dropped p h held ws j v k differ m = record {
  there = λ id n w f a q. let y = without_has id j held f in held_at_not w.path v.path w.kind v.kind ws (λ s t. y.1 (differ id w y.0 a s t)) ∙ m.there id n w y.0 a q;
  back = λ x i. let y = in_not v.path v.kind ws x i in let z = m.back x y.0 in record { id = z.id; holds = without_other z.id j held z.holds (λ e. apart x y.1 z e); watch = z.watch; known = z.known; its_path = z.its_path; its_kind = z.its_kind; first = z.first };
}
  where
    apart : (x : Holding) → same_watch v.path v.kind x ≡ false → (z : IsOfHeld p h held x) → z.id ≡ j → ⊥
    apart x f z e =
        let s = same_Some z.watch v (sym z.known ∙ (ap (λ n. known_watch p n h) e ∙ k)) in
        false≢true (sym f ∙ rw (sym z.its_path ∙ ap (λ w. w.path) s, sym z.its_kind ∙ ap (λ w. w.kind) s, same_path_self v.path, same_kind_self v.kind) refl)

-- a number that isn't held is dropped
pub matches_without : (p : Plan) (h : List Entry) (held : List ℕ) (ws : List Holding) (j : ℕ) → contains j held ≡ false → Matches p h held ws → Matches p h (without j held) ws
matches_without p h held ws j f m = record {
  there = λ id n w g a q. m.there id n w (without_has id j held g).0 a q;
  back = λ x i. let z = m.back x i in record { id = z.id; holds = without_other z.id j held z.holds (λ e. false≢true (sym f ∙ subst (λ n. contains n held ≡ true) e z.holds)); watch = z.watch; known = z.known; its_path = z.its_path; its_kind = z.its_kind; first = z.first };
}

-- a watch that is held already is registered again
pub matches_again : (p : Plan) (h : List Entry) (held : List ℕ) (ws : List Holding) (id n first : ℕ) (v : Watch) (path : PathNames) (k : Kind) → contains id held ≡ true → known_watch p id h ≡ Some v → first_of p id h ≡ Some first → v.path ≡ path → v.kind ≡ k → Matches p h held ws → Matches p h held (with_holding (record { path = path; kind = k; at = n }) ws)
matches_again p h held ws id n first v path k f a q s t m = subst (λ o. Matches p h held (held_unless o (record { path = path; kind = k; at = n }) ws)) (sym (subst (λ z. held_at z k ws ≡ Some (record { path = v.path; kind = v.kind; at = first })) s (subst (λ z. held_at v.path z ws ≡ Some (record { path = v.path; kind = v.kind; at = first })) t (m.there id first v f a q)))) m

-- a new watch is held
pub matches_added : (p : Plan) (h : List Entry) (held more : List ℕ) (ws : List Holding) (id n : ℕ) (v : Watch) (path : PathNames) (k : Kind) → ((i : ℕ) → contains i more ≡ true → (contains i held ≡ true) ⊎ (i ≡ id)) → ((i : ℕ) → contains i held ≡ true → contains i more ≡ true) → contains id more ≡ true → contains id held ≡ false
    → known_watch p id h ≡ Some v → first_of p id h ≡ Some n → v.path ≡ path → v.kind ≡ k
    → ((i : ℕ) (w : Watch) → contains i held ≡ true → known_watch p i h ≡ Some w → same_path v.path w.path ≡ true → same_kind v.kind w.kind ≡ true → i ≡ id)
    → Matches p h held ws → Matches p h more (with_holding (record { path = path; kind = k; at = n }) ws)
matches_added p h held more ws id n v path k back old new fresh a q s t differ m = subst (λ o. Matches p h more (held_unless o (record { path = path; kind = k; at = n }) ws)) (sym none) (record { there = there; back = behind })
  where
    clash : (i : ℕ) (w : Watch) → contains i held ≡ true → known_watch p i h ≡ Some w → w.path ≡ path → w.kind ≡ k → ⊥
    clash i w f g x y = false≢true (sym fresh ∙ subst (λ z. contains z held ≡ true) (differ i w f g (rw (s, x, same_path_self path) refl) (rw (t, y, same_kind_self k) refl)) f)

    none : held_at path k ws ≡ None
    none = by_found (held_at path k ws) refl
      where
        by_found : (o : Option Holding) → held_at path k ws ≡ o → held_at path k ws ≡ None
        by_found None e = e
        by_found (Some x) e = let y = found_in path k ws x e in let z = m.back x y.0 in absurd (clash z.id z.watch z.holds z.known (z.its_path ∙ y.1) (z.its_kind ∙ y.2))

    there : (i b : ℕ) (w : Watch) → contains i more ≡ true → known_watch p i h ≡ Some w → first_of p i h ≡ Some b → held_at w.path w.kind (record { path = path; kind = k; at = n } ∷ ws) ≡ Some (record { path = w.path; kind = w.kind; at = b })
    there i b w f g e = either (back i f)
      where
        apart : contains i held ≡ true → same_watch w.path w.kind (record { path = path; kind = k; at = n }) ≡ false
        apart x = by_same (same_path path w.path && same_kind k w.kind) refl
          where
            by_same : (c : Bool) → (same_path path w.path && same_kind k w.kind) ≡ c → c ≡ false
            by_same true y = let z = and_parts (same_path path w.path) (same_kind k w.kind) y in absurd (clash i w x g (sym (same_path_is path w.path z.0)) (sym (same_kind_is k w.kind z.1)))
            by_same false y = refl

        own : i ≡ id → held_at w.path w.kind (record { path = path; kind = k; at = n } ∷ ws) ≡ Some (record { path = w.path; kind = w.kind; at = b })
        own x =
            let y = same_Some w v (sym g ∙ (ap (λ z. known_watch p z h) x ∙ a)) in
            let z = same_Some b n (sym e ∙ (ap (λ c. first_of p c h) x ∙ q)) in
            rw (ap (λ c. c.path) y ∙ s, ap (λ c. c.kind) y ∙ t, same_path_self path, same_kind_self k, z) refl

        either : (contains i held ≡ true) ⊎ (i ≡ id) → held_at w.path w.kind (record { path = path; kind = k; at = n } ∷ ws) ≡ Some (record { path = w.path; kind = w.kind; at = b })
        either (inl x) = rw (apart x) (m.there i b w x g e)
        either (inr x) = own x

    behind : (x : Holding) → IsIn x (record { path = path; kind = k; at = n } ∷ ws) → IsOfHeld p h more x
    behind x (inl e) = subst (IsOfHeld p h more) (sym e) (record { id = id; holds = new; watch = v; known = a; its_path = s; its_kind = t; first = q })
    behind x (inr e) = let y = m.back x e in record { id = y.id; holds = old y.id y.holds; watch = y.watch; known = y.known; its_path = y.its_path; its_kind = y.its_kind; first = y.first }

-- What lines do to holdings. ---------------------------------------------------------------------------

abbrev pub held_onto : Plan → ℕ → List Line → List Holding → List Holding
held_onto p c [] ws = ws
held_onto p c (l ∷ ls) ws = held_onto p c ls (held_after p c l ws)
