-- A leader that starts on the head of its lane.
use Rattle.std.proofs.Common.{◌≡◌, ℕ, List, Option, Some, refl, sym, ◌∙◌, ap, subst}
use Rattle.fk_lead.specs.Meaning as leader
use Rattle.fk_queue.specs.Letters.{first_number}
use Rattle.fk_queue.specs.declared.letter.Letter.{Letter}
use Rattle.fk_wire.specs.PushedText.{IsPushedText}
use Rattle.fk_wire.specs.declared.message.Pushed.{Pushed}
use Rattle.fk_engine.specs.Events.{after_start, leader_on}
use Rattle.fk_engine.specs.Flights.{Meaning, with_started}
use Rattle.fk_engine.specs.Heads.{IsHead}
use Rattle.fk_engine.specs.Machines.{Leader}
use Rattle.fk_engine.proofs.Heading.{some_told}

pub led : (f g : Meaning) (n tx : ℕ) (m : Pushed) (o : Option Pushed) (xs : List Letter) (l : leader.Meaning) → Some tx ≡ first_number xs → IsHead IsPushedText xs o
    → ((x : Pushed) → IsHead IsPushedText xs (Some x) → m ≡ x) → l ≡ leader.started n tx m → g ≡ with_started (Leader l) f
    → g ≡ after_start (leader_on n (first_number xs) o) f
led f g n tx m o xs l e i back a b =
    let told : (x : Pushed) × (o ≡ Some x) = some_told IsPushedText xs tx o (sym e) i in
    let same : m ≡ told.0 = back told.0 (subst (IsHead IsPushedText xs) told.1 i) in
    b ∙ ap (λ k. with_started (Leader k) f) (a ∙ ap (leader.started n tx) same)
    ∙ subst (λ y. with_started (Leader (leader.started n tx told.0)) f ≡ after_start (leader_on n y o) f) e
    (subst (λ y. with_started (Leader (leader.started n tx told.0)) f ≡ after_start (leader_on n (Some tx) y) f) (sym told.1) refl)
