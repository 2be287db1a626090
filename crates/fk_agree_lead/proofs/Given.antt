-- What a sweep gives is what the rules read, and the numbers of what it lists were given.
use Rattle.std.specs.Prelude.{◌==◌, ◌||◌, is_some}
use Rattle.std.proofs.Common.{◌≡◌, ℕ, ◌≤◌, ◌<◌, inr, Bool, true, false, cond, List, [], ◌∷◌, refl, ◌∙◌, ap, subst, arith, Some, None}
use Rattle.std.proofs.lemmas.Bool.{false≢true}
use Rattle.fk_print.specs.declared.entry.Entry.{Entry}
use Rattle.fk_print.specs.declared.op.Op.{Op}
use Rattle.fk_print.specs.declared.op.Op.TheVariants as op
use Rattle.fk_lead.specs.Meaning.{Swept}
use Rattle.fk_lead.specs.Sweeping.{AreSwept}
use Rattle.fk_stand.specs.Stores.{watches_after}
use Rattle.fk_spec.specs.Plan.{Plan}
use Rattle.fk_spec.specs.Settling.{mark_of, swept_of}
use Rattle.fk_spec.specs.Watches as rules
use Rattle.fk_spec.specs.Watches.{Firing, epoch_of, fired_by, fired_watches, firing_in, firing_of, firings, given_of, ids_of, set_watches, sweep_in, swept_by, swept_or, touches_of_push}
use Rattle.fk_spec.specs.Client.{contains}
use Rattle.fk_spec.specs.Next.{IsHistory}
use Rattle.fk_law.specs.Due.{IsDue}
use Rattle.fk_law.proofs.Due.{due}
use Rattle.fk_law.proofs.Leading.{mark_behind_sweep}
use Rattle.fk_law_watch.specs.Noting.{fired_at, fired_at_in, is_told, tells_all, untold}
use Rattle.fk_law_watch.proofs.Epochs.{by_contains, listed_has_fired, some_right}
use Rattle.fk_law_watch.proofs.Noting.{fired_is_listed, told_published}
use Rattle.fk_law_watch.proofs.SetWatches.{set_or_fired_were_given}
use Rattle.fk_agree.proofs.Sweeping.{epoch_is_the_rules, fired_are_the_rules}
use Rattle.fk_agree_lead.specs.Leaders.{swept_as}
use Rattle.fk_base.proofs.Logic.{by_test, itself}

-- A sweep. ----------------------------------------------------------------------------------------------

-- what the rules list of the fired watches
abbrev pub listed_of : ℕ → List Firing → rules.Swept
listed_of t fs = record { fired = fired_by t fs; epoch = epoch_of fs }

-- what the table lists is what the rules list
pub swept_is_listed : (p : Plan) (t faults : ℕ) (h : List Entry) (s : Swept) → IsHistory p h → AreSwept t (watches_after p h faults).fired s → s ≡ swept_as (listed_of t (fired_watches p h))
swept_is_listed p t faults h s l a = λ i. record { fired = (fired_are_the_rules p t faults h s.fired l a.fired) i; epoch = (epoch_is_the_rules p faults h s.epoch l a.epoch) i }

-- of a push that is swept for the first time, what it fired is what is listed
pub newly_listed : (p : Plan) (n t k : ℕ) (e : Entry) (h : List Entry) → IsHistory p (e ∷ h) → e.op ≡ op.SweepOk n t k → fired_by t (fired_watches p (e ∷ h)) ≡ firings t (touches_of_push p t h) (set_watches p h)
newly_listed p n t k e h l g =
    fired_is_listed p t (e ∷ h) l
    ∙ (ap (λ o. untold (tells_all t o || is_told t h) (fired_at_in p t h o (fired_at p t h))) g
    ∙ (ap (λ b. untold b (cond (t == t) new (fired_at p t h))) (not_told (is_told t h) refl) ∙ ap (λ b. cond b new (fired_at p t h)) (itself t)))
  where
    new : List Firing
    new = firings t (touches_of_push p t h) (set_watches p h)

    d : IsDue p h (op.SweepOk n t k)
    d = subst (IsDue p h) g (due p e h l)

    beyond : (m s : ℕ) → t ≤ m → m ≤ s → s < t → ⊥
    beyond m s a b c = omega (arith, a, b, c)

    not_told : (b : Bool) → is_told t h ≡ b → b ≡ false
    not_told false f = refl
    not_told true f = absurd (beyond (mark_of h) (swept_of h) (told_published p t h l.0 f).published (mark_behind_sweep p h l.0).0 d.1)

-- What a leader has in hand. ----------------------------------------------------------------------------

-- watch `id` has fired
abbrev HasFired : Plan → List Entry → ℕ → Type 0
HasFired p h id = is_some (firing_of p id h) ≡ true

-- a sweep gives what has fired
hand_step : (p : Plan) (n id : ℕ) (g : List Entry) (o : Op) (s : rules.Swept) → (contains id (ids_of s.fired) ≡ true → HasFired p g id) → contains id (ids_of (swept_or (sweep_in n o (fired_watches p g)) s).fired) ≡ true → HasFired p g id
hand_step p n id g (op.SweepOk m t k) s i = by_test (m == n) (λ b. contains id (ids_of (swept_or (cond b (Some (listed_of t (fired_watches p g))) None) s).fired) ≡ true → HasFired p g id) (λ _ e. listed_has_fired p id g (by_contains id t (fired_watches p g) e)) (λ _ e. i e)
hand_step p n id g (op.SweepMiss m t w k) s i = by_test (m == n) (λ b. contains id (ids_of (swept_or (cond b (Some (listed_of t (fired_watches p g))) None) s).fired) ≡ true → HasFired p g id) (λ _ e. listed_has_fired p id g (by_contains id t (fired_watches p g) e)) (λ _ e. i e)
hand_step p n id g o s i = i

-- what a leader got from its sweep has fired
in_hand_has_fired : (p : Plan) (n id : ℕ) (h : List Entry) → contains id (ids_of (swept_by p n h).fired) ≡ true → HasFired p h id
in_hand_has_fired p n id [] e = absurd (false≢true e)
in_hand_has_fired p n id (x ∷ h) e = hand_step p n id (x ∷ h) x.op (swept_by p n h) (λ f. some_right (firing_in p id h x.op) (firing_of p id h) (in_hand_has_fired p n id h f)) e

-- its number was given
pub in_hand_was_given : (p : Plan) (n id : ℕ) (h : List Entry) → IsHistory p h → contains id (ids_of (swept_by p n h).fired) ≡ true → id ≤ given_of h
in_hand_was_given p n id h l e = (set_or_fired_were_given p id h l (inr (in_hand_has_fired p n id h e))).1
