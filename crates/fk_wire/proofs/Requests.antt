-- The value of a request is fit, and reads back.
use Rattle.std.proofs.Common.{◌≡◌, ℕ, ◌≤◌, suc, List, [], ◌∷◌, Some, length, nat_lt, true, refl, ap, ◌∙◌, arith, option_and_then, lt-ltb}
use Rattle.std.specs.List.{AllByRecursion}
use Rattle.fk_tree.specs.declared.request.Part.{Part}
use Rattle.fk_tree.specs.declared.request.Part.TheVariants as part
use Rattle.fk_tree.specs.declared.request.Request.{Request}
use Rattle.fk_tree.specs.declared.request.Request.TheVariants as request
use Rattle.fk_wire.specs.Limits.{IsLimitedPart, IsLimitedRequest, IsTypedPart, IsTypedRequest}
use Rattle.fk_wire.specs.Ops.{CanSayRequest, multi_of, part_data, part_from, request_data, request_from}
use Rattle.fk_wire.specs.declared.version.Version.{Version}
use Rattle.fk_wire.specs.declared.version.Version.TheVariants as version
use Rattle.serde_json.specs.Written.{outline}
use Rattle.json.proofs.Printed.Utf8.{IsUtf8-are_ascii as utf8_key}
use Rattle.fk_wire.proofs.Fit.{IsFit}
use Rattle.fk_wire.proofs.Values.{bytes_back, bytes_fit, expected_fit, items_back, items_fit, path_back, path_fit, wanted_back}

-- a part that can be written
abbrev pub IsPart : Part → Type 0
IsPart p = IsLimitedPart p × IsTypedPart p

each : (ps : List Part) → AllByRecursion IsLimitedPart ps → AllByRecursion IsTypedPart ps → AllByRecursion IsPart ps
each [] h k = tt
each (p ∷ ps) h k = ((h.0, k.0), each ps h.1 k.1)

pub part_fit : (n : ℕ) (p : Part) → IsPart p → IsFit (suc n) (part_data p)
part_fit n (part.Create path bytes eph) h = (utf8_key _ refl, bytes_fit n bytes, (utf8_key _ refl, tt, (utf8_key _ refl, path_fit n path h.1.0, (utf8_key _ refl, tt, (utf8_key _ refl, utf8_key _ refl, tt)))))
part_fit n (part.Set path bytes v) h = (utf8_key _ refl, bytes_fit n bytes, (utf8_key _ refl, path_fit n path h.1.0, (utf8_key _ refl, utf8_key _ refl, (utf8_key _ refl, expected_fit v h.0, tt))))
part_fit n (part.Delete path v) h = (utf8_key _ refl, path_fit n path h.1, (utf8_key _ refl, utf8_key _ refl, (utf8_key _ refl, expected_fit v h.0, tt)))

pub part_back : (p : Part) → IsPart p → part_from (outline (part_data p)) ≡ Some p
part_back (part.Create path bytes eph) h = rw (path_back path h.1.0, bytes_back bytes h.1.1) refl
part_back (part.Set path bytes v) h = rw (path_back path h.1.0, bytes_back bytes h.1.1, wanted_back v h.0) refl
part_back (part.Delete path v) h = rw (path_back path h.1, wanted_back v h.0) refl

pub request_fit : (n : ℕ) (r : Request) → IsLimitedRequest r → IsTypedRequest r → IsFit (suc (suc (suc n))) (request_data r)
request_fit n (request.Create path bytes seq eph) h k = (utf8_key _ refl, bytes_fit (suc (suc n)) bytes, (utf8_key _ refl, tt, (utf8_key _ refl, path_fit (suc (suc n)) path k.0, (utf8_key _ refl, tt, (utf8_key _ refl, utf8_key _ refl, tt)))))
request_fit n (request.Set path bytes v) h k = part_fit (suc (suc n)) (part.Set path bytes v) (h, k)
request_fit n (request.Delete path v) h k = part_fit (suc (suc n)) (part.Delete path v) (h, k)
request_fit n (request.Close evict) h k = (utf8_key _ refl, tt, (utf8_key _ refl, utf8_key _ refl, tt))
request_fit n (request.Multi parts) h k =
    let fit = items_fit (suc n) part_data IsPart (part_fit n) parts (each parts h.2 k) in
    (utf8_key _ refl, fit, (utf8_key _ refl, utf8_key _ refl, tt))

multi_back : (parts : List Part) → 1 ≤ length parts → length parts ≤ 16 → multi_of parts ≡ Some (request.Multi parts)
multi_back parts some few =
    let least : nat_lt 0 (length parts) ≡ true = lt-ltb 0 (length parts) (omega arith) in
    let most : nat_lt (length parts) 17 ≡ true = lt-ltb (length parts) 17 (omega arith) in
    rw (least, most) refl

pub request_back : (v : Version) (r : Request) → IsLimitedRequest r → IsTypedRequest r → CanSayRequest v r → request_from v (outline (request_data r)) ≡ Some r
request_back v (request.Create path bytes seq eph) h k s = rw (path_back path k.0, bytes_back bytes k.1) refl
request_back v (request.Set path bytes w) h k s = rw (path_back path k.0, bytes_back bytes k.1, wanted_back w h) refl
request_back v (request.Delete path w) h k s = rw (path_back path k, wanted_back w h) refl
request_back v (request.Close evict) h k s = refl
request_back version.One (request.Multi parts) h k s = absurd s
request_back version.Two (request.Multi parts) h k s = ap (option_and_then multi_of) (items_back part_from part_data IsPart part_back parts [] (each parts h.2 k)) ∙ multi_back parts h.0 h.1
