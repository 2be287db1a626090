-- An evicting close is of a heartbeat that found its session late.
use Rattle.std.specs.Prelude.{◌≡◌, ℕ, true, List, Some}
use Rattle.fk_tree.specs.declared.request.Request.TheVariants as request
use Rattle.fk_print.specs.declared.entry.Entry.{Entry}
use Rattle.fk_spec.specs.Plan.{Plan}
use Rattle.fk_spec.specs.Start.{request_of}
use Rattle.fk_spec.specs.Heartbeat as heartbeat
use Rattle.fk_spec.specs.Function.{Beating, place_of}
use Rattle.fk_spec.specs.Refusals.{has_found_late, is_evicted_late}
use Rattle.fk_spec.specs.Next.{IsHistory}
use Rattle.fk_law_reply.specs.Plans.{HasFittingVerbs}

-- A heartbeat that is about to evict has found its session late.
abbrev pub EvictorFoundLate : Type 0
EvictorFoundLate = (p : Plan) (n c : ℕ) (h : List Entry) → IsHistory p h → place_of p n h ≡ Beating c heartbeat.Evict → has_found_late n h ≡ true

-- A request that evicts its session is of such a heartbeat.
abbrev pub EvictionIsOfALateHeartbeat : Type 0
EvictionIsOfALateHeartbeat = (p : Plan) (c k : ℕ) (h : List Entry) → HasFittingVerbs p → IsHistory p h → request_of p c k h ≡ Some (request.Close true) → is_evicted_late c k h ≡ true
