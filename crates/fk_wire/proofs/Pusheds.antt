-- The texts of a pushed request are read back.
use Rattle.std.proofs.Common.{◌≡◌, ℕ, List, [], suc, map, Some, refl}
use Rattle.std.specs.List.{AllByRecursion}
use Rattle.json.proofs.Printed.Utf8.{IsUtf8-are_ascii as utf8_key}
use Rattle.serde_json.specs.View.{items_of}
use Rattle.serde_json.specs.Written.{items_outline, outline}
use Rattle.fk_base.specs.Path.{PathNames}
use Rattle.fk_wire.specs.Json.{items_onto, list_data, path_data, path_from, version_from}
use Rattle.fk_base.specs.Limits.{IsPath}
use Rattle.fk_wire.specs.PushedText.{CanSayPushed, IsPushed, pushed_data, pushed_from}
use Rattle.fk_wire.specs.declared.message.Pushed.{Pushed}
use Rattle.fk_wire.specs.declared.version.Version.{Version}
use Rattle.fk_wire.specs.declared.version.Version.TheVariants as version
use Rattle.fk_wire.proofs.Fit.{IsFit}
use Rattle.fk_wire.proofs.MadesBack.{mades_back, mades_fit, small_fit}
use Rattle.fk_wire.proofs.Requests.{request_back, request_fit}
use Rattle.fk_wire.proofs.Texts.{ReadsBack}
use Rattle.fk_wire.proofs.Values.{items_back, items_fit, number_back, number_fit, path_back, path_fit, small_back, version_back, version_fit}

paths_fit : (n : ℕ) (ps : List PathNames) → AllByRecursion IsPath ps → IsFit (suc n) (list_data path_data ps)
paths_fit n ps h = items_fit n path_data IsPath (path_fit n) ps h

paths_back : (ps : List PathNames) → AllByRecursion IsPath ps → items_onto path_from [] (items_outline (items_of (map path_data ps))) ≡ Some ps
paths_back ps h = items_back path_from path_data IsPath path_back ps [] h

pushed_fit : (v : Version) (m : Pushed) → IsPushed m → IsFit 127 (pushed_data v m)
pushed_fit version.One m h =
    let t = h.1 in
    (utf8_key _ refl, small_fit m.session t.0, (utf8_key _ refl, paths_fit 125 m.gone t.4, (utf8_key _ refl, number_fit m.inv h.0.1, (utf8_key _ refl, number_fit m.k h.0.0, (utf8_key _ refl, number_fit m.moment h.0.2, (utf8_key _ refl, path_fit 126 m.name t.2, (utf8_key _ refl, request_fit 123 m.request h.0.3 t.1, (utf8_key _ refl, paths_fit 125 m.paths t.6, (utf8_key _ refl, version_fit version.One, (utf8_key _ refl, small_fit m.version t.3, tt))))))))))
pushed_fit version.Two m h =
    let t = h.1 in
    (utf8_key _ refl, small_fit m.session t.0, (utf8_key _ refl, paths_fit 125 m.gone t.4, (utf8_key _ refl, number_fit m.inv h.0.1, (utf8_key _ refl, number_fit m.k h.0.0, (utf8_key _ refl, mades_fit 124 m.made t.5, (utf8_key _ refl, number_fit m.moment h.0.2, (utf8_key _ refl, path_fit 126 m.name t.2, (utf8_key _ refl, request_fit 123 m.request h.0.3 t.1, (utf8_key _ refl, paths_fit 125 m.paths t.6, (utf8_key _ refl, version_fit version.Two, (utf8_key _ refl, small_fit m.version t.3, tt)))))))))))

pushed_back : (v : Version) (m : Pushed) → IsPushed m → CanSayPushed v m → pushed_from v (outline (pushed_data v m)) ≡ Some m
pushed_back version.One m h s =
    let t = h.1 in
    rw (
      small_back m.session t.0,
      number_back m.k h.0.0,
      number_back m.inv h.0.1,
      number_back m.moment h.0.2,
      small_back m.version t.3,
      request_back version.One m.request h.0.3 t.1 s.0,
      path_back m.name t.2,
      paths_back m.gone t.4,
      paths_back m.paths t.6,
      s.1,
    ) refl
pushed_back version.Two m h s =
    let t = h.1 in
    rw (
      small_back m.session t.0,
      number_back m.k h.0.0,
      number_back m.inv h.0.1,
      number_back m.moment h.0.2,
      small_back m.version t.3,
      request_back version.Two m.request h.0.3 t.1 s.0,
      path_back m.name t.2,
      paths_back m.gone t.4,
      mades_back m.made t.5,
      paths_back m.paths t.6,
    ) refl

pushed_version : (v : Version) (m : Pushed) → version_from (outline (pushed_data v m)) ≡ Some v
pushed_version version.One m = version_back version.One
pushed_version version.Two m = version_back version.Two

pub pusheds : ReadsBack IsPushed CanSayPushed pushed_data pushed_from
pusheds = record { fit = λ v m h s. pushed_fit v m h; version = pushed_version; back = pushed_back }
