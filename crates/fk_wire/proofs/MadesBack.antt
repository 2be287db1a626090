-- What the parts of a multi came to is fit, and reads back.
use Rattle.std.proofs.Common.{◌≡◌, ℕ, ◌<◌, ◌^◌, suc, List, [], map, Some, refl, arith}
use Rattle.json.proofs.Printed.Utf8.{IsUtf8-are_ascii as utf8_key}
use Rattle.serde_json.specs.View.{items_of}
use Rattle.serde_json.specs.Written.{items_outline, outline}
use Rattle.fk_tree.specs.declared.applied.Made.{Made}
use Rattle.fk_wire.specs.Json.{items_onto}
use Rattle.fk_wire.specs.Mades.{AreTypedMades, IsTypedMade, made_data, made_from, mades_data}
use Rattle.fk_wire.proofs.Fit.{IsFit}
use Rattle.fk_wire.proofs.Values.{items_back, items_fit, path_back, path_fit, small_back}

pub small_fit : (n : ℕ) → n < 2 ^ 32 → n < 2 ^ 64
small_fit n h = omega arith

pub made_fit : (n : ℕ) (m : Made) → IsTypedMade m → IsFit (suc n) (made_data m)
made_fit n m h = (utf8_key _ refl, path_fit n m.name h.0, (utf8_key _ refl, small_fit m.version h.1, tt))

pub made_back : (m : Made) → IsTypedMade m → made_from (outline (made_data m)) ≡ Some m
made_back m h = rw (path_back m.name h.0, small_back m.version h.1) refl

pub mades_fit : (n : ℕ) (ms : List Made) → AreTypedMades ms → IsFit (suc (suc n)) (mades_data ms)
mades_fit n ms h = items_fit (suc n) made_data IsTypedMade (made_fit n) ms h

pub mades_back : (ms : List Made) → AreTypedMades ms → items_onto made_from [] (items_outline (items_of (map made_data ms))) ≡ Some ms
mades_back ms h = items_back made_from made_data IsTypedMade made_back ms [] h
