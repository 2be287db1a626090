-- Where a path is placed among paths.
use Rattle.std.proofs.Common.{◌≡◌, ◌<◌, ◌≤◌, ℕ, suc, ◌+◌, cond, List, length, drop, get_or, refl, ap, arith, drop-cons}
use Rattle.std.specs.Ordering.{is_gt}
use Rattle.std.proofs.Math.ListN.{drop_of_length-le}
use Rattle.fk_base.specs.Path.{PathNames, path_cmp}
use Rattle.fk_store.specs.Owning.{path_from}

-- it is passed, or its place is here
pub place_step : (p : PathNames) (qs : List PathNames) (i : ℕ) (q : PathNames) → i < length qs → q ≡ get_or qs i q → path_from i p (drop i qs) ≡ cond (is_gt (path_cmp p q)) (path_from (i + 1) p (drop (i + 1) qs)) i
place_step p qs i q l e = step (i + 1) (omega arith)
  where
    step : (j : ℕ) → j ≡ suc i → path_from i p (drop i qs) ≡ cond (is_gt (path_cmp p q)) (path_from j p (drop j qs)) i
    step j t = rw (t, drop-cons qs i q l, ← e) refl

-- all are passed
pub place_end : (p : PathNames) (qs : List PathNames) (i : ℕ) → length qs ≤ i → path_from i p (drop i qs) ≡ i
place_end p qs i l = ap (path_from i p) (drop_of_length-le qs l)
