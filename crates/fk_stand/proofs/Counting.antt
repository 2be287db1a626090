-- How many messages the lanes are given: at most one at each line.
use Rattle.std.proofs.Common.{ℕ, suc, ◌≤◌, Bool, true, false, List, [], ◌∷◌, Option, Some, None, length, arith}
use Rattle.fk_queue.specs.Letters.{LaneState}
use Rattle.fk_stand.specs.Counts.{LanesAreBounded}
use Rattle.fk_stand.specs.Posts.{lane_after, lane_step, letter_in, removes}

one_at_most : (o : Option (List ℕ)) (b : Bool) (s : LaneState) (n : ℕ) → s.given ≤ n → (lane_step o b s).given ≤ suc n
one_at_most None true s n l = omega (arith, l)
one_at_most None false s n l = omega (arith, l)
one_at_most (Some bytes) b s n l = omega (arith, l)

pub lanes_are_bounded : LanesAreBounded
lanes_are_bounded p l [] = omega arith
lanes_are_bounded p l (e ∷ h) = one_at_most (letter_in p l h e.op) (removes l h e.op) (lane_after p l h) (length h) (lanes_are_bounded p l h)
