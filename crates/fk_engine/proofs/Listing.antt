-- There is one list of the functions in flight.
use Rattle.std.proofs.Common.{◌≡◌, ℕ, List, sym, ◌∙◌}
use Rattle.std.specs.Cmp.{nat_cmp_total}
use Rattle.std.specs.FinMap.{nat_cmp-IsAntisymmetric}
use Rattle.fk_tree.proofs.Rising.{same_rising}
use Rattle.fk_engine.specs.Flights.{Meaning, AreInFlight}

pub one_list : (f : Meaning) (ns ms : List ℕ) → AreInFlight f ns → AreInFlight f ms → ns ≡ ms
one_list f ns ms a b = same_rising nat_cmp_total nat_cmp-IsAntisymmetric ns ms a.rising b.rising (λ n. a.exact n ∙ sym (b.exact n))
