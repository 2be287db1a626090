-- A watch that fired is fit, and reads back.
use Rattle.std.proofs.Common.{◌≡◌, ℕ, suc, List, [], ◌∷◌, map, Some, refl, IsUtf8}
use Rattle.json.proofs.Printed.Utf8.{IsUtf8-are_ascii as utf8_key}
use Rattle.serde_json.specs.View.{items_of}
use Rattle.serde_json.specs.Written.{items_outline, outline}
use Rattle.fk_tree.specs.declared.change.Change.{Change}
use Rattle.fk_tree.specs.declared.change.Change.TheVariants as change
use Rattle.fk_tree.specs.declared.change.Kind.{Kind}
use Rattle.fk_tree.specs.declared.change.Kind.TheVariants as kind
use Rattle.fk_wire.specs.declared.fired.Fired.{Fired}
use Rattle.std.specs.List.{AllByRecursion}
use Rattle.fk_wire.specs.Fired.{AreLimitedFired, AreTypedFired, IsLimitedFired, IsTypedFired, change_of, change_word, fired_data, fired_from, fired_list_data, kind_of, kind_word}
use Rattle.fk_wire.specs.Json.{items_onto}
use Rattle.fk_wire.proofs.Fit.{IsFit}
use Rattle.fk_wire.proofs.MadesBack.{small_fit}
use Rattle.fk_wire.proofs.Values.{items_back, items_fit, number_back, number_fit, path_back, path_fit, small_back}

-- a watch that can be written
abbrev pub IsFired : Fired → Type 0
IsFired f = IsLimitedFired f × IsTypedFired f

each : (fs : List Fired) → AreLimitedFired fs → AreTypedFired fs → AllByRecursion IsFired fs
each [] h k = tt
each (f ∷ fs) h k = ((h.0, k.0), each fs h.1 k.1)

pub kind_fit : (k : Kind) → IsUtf8 (kind_word k)
kind_fit kind.Data = utf8_key _ refl
kind_fit kind.Child = utf8_key _ refl

pub kind_back : (k : Kind) → kind_of (kind_word k) ≡ Some k
kind_back kind.Data = refl
kind_back kind.Child = refl

pub change_fit : (c : Change) → IsUtf8 (change_word c)
change_fit change.Created = utf8_key _ refl
change_fit change.Changed = utf8_key _ refl
change_fit change.Deleted = utf8_key _ refl
change_fit change.Child = utf8_key _ refl

pub change_back : (c : Change) → change_of (change_word c) ≡ Some c
change_back change.Created = refl
change_back change.Changed = refl
change_back change.Deleted = refl
change_back change.Child = refl

pub fired_fit : (n : ℕ) (f : Fired) → IsFired f → IsFit (suc n) (fired_data f)
fired_fit n f h = (
  utf8_key _ refl,
  small_fit f.session h.1.0,
  (
    utf8_key _ refl,
    number_fit f.id h.0,
    (
      utf8_key _ refl,
      kind_fit f.kind,
      (utf8_key _ refl, path_fit n f.path h.1.1, (utf8_key _ refl, change_fit f.change, tt)),
    ),
  ),
)

pub fired_back : (f : Fired) → IsFired f → fired_from (outline (fired_data f)) ≡ Some f
fired_back f h =
    rw (small_back f.session h.1.0, number_back f.id h.0, kind_back f.kind, path_back f.path h.1.1, change_back f.change) refl

pub fired_list_fit : (n : ℕ) (fs : List Fired) → AreLimitedFired fs → AreTypedFired fs → IsFit (suc (suc n)) (fired_list_data fs)
fired_list_fit n fs h k = items_fit (suc n) fired_data IsFired (fired_fit n) fs (each fs h k)

pub fired_list_back : (fs : List Fired) → AreLimitedFired fs → AreTypedFired fs → items_onto fired_from [] (items_outline (items_of (map fired_data fs))) ≡ Some fs
fired_list_back fs h k = items_back fired_from fired_data IsFired fired_back fs [] (each fs h k)
