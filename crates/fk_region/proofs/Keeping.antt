-- What is kept after one more, and after one was left out.
use Rattle.std.proofs.Common.{◌≡◌, ◌+◌, true, false, List, [], ◌∷◌, length, Some, None, refl, arith}
use Rattle.std.proofs.lemmas.Bool.Decides.{nat_tests}
use Rattle.fk_region.specs.declared.ticket.Ticket.{Ticket}
use Rattle.fk_region.specs.Kept.{Kept, blocks_of, bytes_of, bytes_under, is_kept, same_ticket, used_by, with_kept, without_ticket}

pub same_self : (t : Ticket) → same_ticket t t ≡ true
same_self t = grind (arith, nat_tests)

pub same_is : (t u : Ticket) → same_ticket t u ≡ true → t ≡ u
same_is t u e = grind (arith, nat_tests)

pub same_flip : (t u : Ticket) → same_ticket t u ≡ same_ticket u t
same_flip t u = grind (arith, nat_tests)

-- ONE MORE
pub found_with : (k : Kept) (ks : List Kept) → bytes_under k.ticket ks ≡ None → bytes_under k.ticket (with_kept k ks) ≡ Some k.bytes
found_with k [] e = grind (arith, same_self k.ticket)
found_with k (x ∷ xs) e = grind (arith, same_self k.ticket, found_with k xs)

pub others_with : (t : Ticket) (k : Kept) (ks : List Kept) → same_ticket t k.ticket ≡ false → bytes_under t (with_kept k ks) ≡ bytes_under t ks
others_with t k [] e = grind (arith, e)
others_with t k (x ∷ xs) e = grind (arith, e, others_with t k xs e)

pub used_with : (k : Kept) (ks : List Kept) → used_by (with_kept k ks) ≡ used_by ks + blocks_of (length k.bytes)
used_with k [] = grind arith
used_with k (x ∷ xs) = grind (arith, used_with k xs)

-- ONE LEFT OUT
pub others_without : (t u : Ticket) (ks : List Kept) → same_ticket t u ≡ false → bytes_under t (without_ticket u ks) ≡ bytes_under t ks
others_without t u [] e = refl
others_without t u (x ∷ xs) e = grind (arith, nat_tests, e, others_without t u xs e)

pub used_without : (t : Ticket) (ks : List Kept) → is_kept t ks ≡ true → used_by ks ≡ used_by (without_ticket t ks) + blocks_of (length (bytes_of t ks))
used_without t [] e = absurd (cc)
used_without t (x ∷ xs) e = grind (arith, used_without t xs)

pub not_there : (t : Ticket) (ks : List Kept) → is_kept t ks ≡ false → bytes_under t (without_ticket t ks) ≡ None
not_there t [] e = refl
not_there t (x ∷ xs) e = grind (arith, not_there t xs)
