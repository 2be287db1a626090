-- The first of a client's commands, by whether its reply is ready.
use Rattle.std.proofs.Common.{◌≡◌, true, false, cond, List, [], ◌∷◌, refl, ap, arith}
use Rattle.fk_spec.specs.Client.{ready_first, without_ready}
use Rattle.fk_client.specs.Known.{by_outcome, is_first_ready}
use Rattle.fk_client.specs.Unanswered.{LeavesReady, StaysUnready}
use Rattle.fk_client.specs.declared.unanswered.Unanswered.{Unanswered}

pub leaves_ready : (s : Unanswered) (ss : List Unanswered) → is_first_ready (s ∷ ss) ≡ true → LeavesReady s (s ∷ ss) ss
leaves_ready s ss e = record {
  rest = ap (λ b. cond b (without_ready by_outcome ss) (s ∷ ss)) e;
  ready = ap (λ b. cond b (s ∷ ready_first by_outcome ss) []) e;
  fewer = omega arith;
}

pub stays_unready : (ss : List Unanswered) → is_first_ready ss ≡ false → StaysUnready ss ss
stays_unready [] e = record { same = refl; rest = refl; ready = refl }
stays_unready (s ∷ ss) e = record {
  same = refl;
  rest = ap (λ b. cond b (without_ready by_outcome ss) (s ∷ ss)) e;
  ready = ap (λ b. cond b (s ∷ ready_first by_outcome ss) []) e;
}
