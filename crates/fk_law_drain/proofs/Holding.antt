-- Where no push and no note waits, no look is held.
use Rattle.std.specs.Prelude.{if◌then◌else◌, ◌==◌, ◌||◌, is_some}
use Rattle.std.proofs.Common.{◌≡◌, ℕ, ◌≤◌, ◌⊎◌, inl, inr, Bool, true, false, List, [], ◌∷◌, refl, subst, arith, Option, Some, None}
use Rattle.std.proofs.lemmas.Bool.{false≢true, or_right}
use Rattle.std.proofs.lemmas.Bool.Decides.{nat_tests}
use Rattle.std.proofs.lemmas.Option.{none-some}
use Rattle.fk_print.specs.declared.entry.Entry.{Entry}
use Rattle.fk_spec.specs.Plan.{Plan}
use Rattle.fk_spec.specs.Start.{pushes_of}
use Rattle.fk_spec.specs.Settling.{done_of}
use Rattle.fk_spec.specs.Lanes.{leader_head, leads, notes_of, notifies, removed_by, watch_head}
use Rattle.fk_spec.specs.Watches.{Firing, firing_of, firing_with, published_epoch}
use Rattle.fk_spec.specs.Client.{client_of, contains, first_held}
use Rattle.fk_spec.specs.Next.{IsHistory}
use Rattle.fk_law.proofs.Committing.{committed_push}
use Rattle.fk_law.proofs.Leading.{done_is_removed_or_one_more}
use Rattle.fk_law.proofs.Pushing.{push_bound}
use Rattle.fk_law_watch.specs.Noting.{fired_at, is_noted, is_told}
use Rattle.fk_law_watch.specs.Telling.{is_announced}
use Rattle.fk_law_watch.proofs.Epochs.{epoch_has_fired}
use Rattle.fk_law_watch.proofs.Handing.{fired_push_is_noted_before_done}
use Rattle.fk_law_watch.proofs.Noting.{fired_at_its_push, note_bound}
use Rattle.fk_law_watch.proofs.SetWatches.{fired_watch_fired_at_its_first_change}
use Rattle.fk_law_watch.proofs.Sweeps.{swept_committed}
use Rattle.fk_law_watch.proofs.Telling.{noted_at, removed_note_is_told, told_push_is_announced}
use Rattle.fk_law.specs.Operations.{held_in_epoch}
use Rattle.fk_law_held.specs.Announced.{TellsOf}
use Rattle.fk_law_held.proofs.Announcing.{inbox_tells_of_announced_watches}
use Rattle.fk_law_drain.specs.Looking.{NoLookIsHeld}
use Rattle.fk_law_drain.proofs.Drained.{empty_head}

-- the first held number is one of these, and held
first_is : (ids held : List ℕ) (id : ℕ) → first_held ids held ≡ Some id → (contains id ids ≡ true) × (contains id held ≡ true)
first_is [] held id e = absurd (none-some id e)
first_is (x ∷ xs) held id e = by_held (contains x held) refl (λ f. first_is xs held id f) e
  where
    own : Some x ≡ Some id → contains x held ≡ true → (((x == id) || contains id xs) ≡ true) × (contains id held ≡ true)
    own f g = (first (same f) (contains id xs), subst (λ z. contains z held ≡ true) (same f) g)
      where
        same : Some x ≡ Some id → x ≡ id
        same f = grind arith

        first : x ≡ id → (b : Bool) → ((x == id) || b) ≡ true
        first f b = grind (arith, nat_tests)

    later : (contains id xs ≡ true) × (contains id held ≡ true) → (((x == id) || contains id xs) ≡ true) × (contains id held ≡ true)
    later y = (or_right (x == id) (contains id xs) y.0, y.1)

    by_held : (b : Bool) → contains x held ≡ b → (first_held xs held ≡ Some id → (contains id xs ≡ true) × (contains id held ≡ true)) → (if b then Some x else first_held xs held) ≡ Some id → (((x == id) || contains id xs) ≡ true) × (contains id held ≡ true)
    by_held true g f w = own w g
    by_held false g f w = later (f w)

-- a fired watch is announced, where no push and no note waits
fired_is_announced : (p : Plan) (id : ℕ) (h : List Entry) (f : Firing) → IsHistory p h → leader_head h ≡ None → watch_head h ≡ None → firing_of p id h ≡ Some f → is_announced id h ≡ true
fired_is_announced p id h f l a b e = by_note (fired_push_is_noted_before_done p f.tx h l done)
  where
    done : f.tx ≤ done_of h
    done =
        let x = committed_push p f.tx h l (swept_committed p f.tx h l (fired_watch_fired_at_its_first_change p id h f l e).swept) in
        let y = push_bound p f.tx h x.is_of.push l x.is_of.pushed in
        let n = (done_is_removed_or_one_more p h l).0 in
        let m = empty_head (pushes_of h) (removed_by leads h) a in
        let k = y.2 in
        omega (arith, n, m, k)

    noted : is_noted f.tx h ≡ true → is_announced id h ≡ true
    noted n =
        let x = noted_at p f.tx h l n in
        let y = (note_bound p x.place h x.note l x.noted).1 in
        let m = empty_head (notes_of h) (removed_by notifies h) b in
        told_push_is_announced p id h f l e (subst (λ z. is_told z h ≡ true) x.of_it (removed_note_is_told p x.place h x.note l x.noted (omega (arith, y, m))))

    by_note : (fired_at p f.tx h ≡ []) ⊎ (is_noted f.tx h ≡ true) → is_announced id h ≡ true
    by_note (inl n) = absurd (none-some f (subst (λ z. firing_with id z ≡ Some f) n (fired_at_its_push p id h f l e)))
    by_note (inr n) = noted n

pub no_look_is_held : NoLookIsHeld
no_look_is_held p c h l a b i = by_first (held_in_epoch p c h) refl
  where
    none : (id : ℕ) (o : Option Firing) → firing_of p id h ≡ o → is_some o ≡ true → contains id (client_of p c h).held ≡ true → ⊥
    none id None e f g = false≢true f
    none id (Some x) e f g = subst (TellsOf id) i (inbox_tells_of_announced_watches p c id h l g (fired_is_announced p id h x l a b e))

    by_first : (o : Option ℕ) → held_in_epoch p c h ≡ o → o ≡ None
    by_first None e = refl
    by_first (Some id) e = let x = first_is (published_epoch p h) (client_of p c h).held id e in absurd (none id (firing_of p id h) refl (epoch_has_fired p h l id x.0) x.1)
