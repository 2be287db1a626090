-- Plain bytes.
use Rattle.std.proofs.Common.{◌≡◌, ℕ, ◌<◌, Bool, true, List, [], ◌∷◌, arith}
use Prim.Native.Nat.{suc, zero}
use Rattle.std.specs.Prelude.{◌&&◌}
use Rattle.std.specs.List.{list_all}
use Rattle.std.proofs.lemmas.Bool.Decides.{nat_tests}
use Rattle.fk_print.specs.Words.{is_plain}
use Rattle.fk_base.specs.Limits.{IsData}

plain_byte : (b : ℕ) (rest : Bool) → (is_plain b && rest) ≡ true → (b < 256) × (rest ≡ true)
plain_byte b rest e = (grind (arith, nat_tests), grind (arith, nat_tests))

-- plain bytes are bytes
pub plain_fits : (bytes : List ℕ) → list_all is_plain bytes ≡ true → IsData bytes
plain_fits [] e i = omega arith
plain_fits (b ∷ bytes) e zero = (plain_byte b (list_all is_plain bytes) e).0
plain_fits (b ∷ bytes) e (suc i) = plain_fits bytes (plain_byte b (list_all is_plain bytes) e).1 i
