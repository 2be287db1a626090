-- The texts of a tell are read back.
use Rattle.std.proofs.Common.{◌≡◌, Some, refl, arith}
use Rattle.json.proofs.Printed.Utf8.{IsUtf8-are_ascii as utf8_key}
use Rattle.std.specs.Fmt.{digits}
use Rattle.serde_json.specs.Find.{of_integer}
use Rattle.serde_json.specs.Written.{number_text, outline}
use Rattle.fk_base.specs.Code.{number_of}
use Rattle.fk_base.specs.declared.code.Code.{Code}
use Rattle.fk_base.specs.declared.code.Code.TheVariants as code
use Rattle.fk_wire.specs.Json.{version_from}
use Rattle.fk_wire.specs.TellText.{CanSayTell, IsTell, code_of, tell_data, tell_from}
use Rattle.fk_wire.specs.declared.message.Tell.{Tell}
use Rattle.fk_wire.specs.declared.message.Tell.TheVariants as tell
use Rattle.fk_wire.specs.declared.version.Version.{Version}
use Rattle.fk_wire.specs.declared.version.Version.TheVariants as version
use Rattle.fk_wire.proofs.Fit.{IsFit, IsFitNumber}
use Rattle.fk_wire.proofs.FiredBack.{change_back, change_fit, kind_back, kind_fit}
use Rattle.fk_wire.proofs.MadesBack.{mades_back, mades_fit, small_fit}
use Rattle.fk_wire.proofs.Texts.{ReadsBack}
use Rattle.fk_wire.proofs.Values.{number_back, number_fit, path_back, path_fit, small_back, version_back, version_fit}

code_fit : (c : Code) → IsFitNumber (of_integer (number_of c))
code_fit code.SystemError = omega arith
code_fit code.ConnectionLoss = omega arith
code_fit code.BadArguments = omega arith
code_fit code.NoNode = omega arith
code_fit code.BadVersion = omega arith
code_fit code.NoChildrenForEphemerals = omega arith
code_fit code.NodeExists = omega arith
code_fit code.NotEmpty = omega arith
code_fit code.SessionExpired = omega arith

code_back : (c : Code) → code_of (number_text (of_integer (number_of c))) ≡ Some c
unfolding digits
code_back code.SystemError = refl
code_back code.ConnectionLoss = refl
code_back code.BadArguments = refl
code_back code.NoNode = refl
code_back code.BadVersion = refl
code_back code.NoChildrenForEphemerals = refl
code_back code.NodeExists = refl
code_back code.NotEmpty = refl
code_back code.SessionExpired = refl

tell_fit : (v : Version) (m : Tell) → IsTell m → CanSayTell v m → IsFit 127 (tell_data v m)
tell_fit version.One (tell.Done k tx name node made) h s = (
  utf8_key _ refl,
  number_fit k h.0.0,
  (
    utf8_key _ refl,
    path_fit 126 name h.1.0,
    (
      utf8_key _ refl,
      utf8_key _ refl,
      (utf8_key _ refl, number_fit tx h.0.1, (utf8_key _ refl, version_fit version.One, (utf8_key _ refl, small_fit node h.1.1, tt))),
    ),
  ),
)
tell_fit version.Two (tell.Done k tx name node made) h s = (
  utf8_key _ refl,
  number_fit k h.0.0,
  (
    utf8_key _ refl,
    mades_fit 124 made h.1.2,
    (
      utf8_key _ refl,
      path_fit 126 name h.1.0,
      (utf8_key _ refl, utf8_key _ refl, (utf8_key _ refl, number_fit tx h.0.1, (utf8_key _ refl, version_fit version.Two, (utf8_key _ refl, small_fit node h.1.1, tt)))),
    ),
  ),
)
tell_fit v (tell.Evicted k tx) h s =
    (utf8_key _ refl, number_fit k h.0.0, (utf8_key _ refl, utf8_key _ refl, (utf8_key _ refl, number_fit tx h.0.1, (utf8_key _ refl, version_fit v, tt))))
tell_fit version.One (tell.Refused k c at place) h s = (
  utf8_key _ refl,
  number_fit at h.0.1,
  (
    utf8_key _ refl,
    code_fit c,
    (
      utf8_key _ refl,
      number_fit k h.0.0,
      (utf8_key _ refl, utf8_key _ refl, (utf8_key _ refl, version_fit version.One, tt)),
    ),
  ),
)
tell_fit version.Two (tell.Refused k c at place) h s = (
  utf8_key _ refl,
  number_fit at h.0.1,
  (
    utf8_key _ refl,
    code_fit c,
    (
      utf8_key _ refl,
      number_fit k h.0.0,
      (utf8_key _ refl, small_fit place h.1, (utf8_key _ refl, utf8_key _ refl, (utf8_key _ refl, version_fit version.Two, tt))),
    ),
  ),
)
tell_fit v (tell.Lost k path own found moment) h s = (
  utf8_key _ refl,
  number_fit found h.0.2,
  (
    utf8_key _ refl,
    number_fit k h.0.0,
    (
      utf8_key _ refl,
      number_fit moment h.0.3,
      (utf8_key _ refl, number_fit own h.0.1, (utf8_key _ refl, path_fit 126 path h.1, (utf8_key _ refl, utf8_key _ refl, (utf8_key _ refl, version_fit v, tt)))),
    ),
  ),
)
tell_fit v (tell.Watch tx f) h s = (
  utf8_key _ refl,
  small_fit f.session h.1.0,
  (
    utf8_key _ refl,
    number_fit f.id h.0.1,
    (
      utf8_key _ refl,
      kind_fit f.kind,
      (
        utf8_key _ refl,
        path_fit 126 f.path h.1.1,
        (
          utf8_key _ refl,
          utf8_key _ refl,
          (
            utf8_key _ refl,
            number_fit tx h.0.0,
            (utf8_key _ refl, change_fit f.change, (utf8_key _ refl, version_fit v, tt)),
          ),
        ),
      ),
    ),
  ),
)
tell_fit v (tell.Ping n) h s = (utf8_key _ refl, number_fit n h.0, (utf8_key _ refl, utf8_key _ refl, (utf8_key _ refl, version_fit v, tt)))

tell_version : (v : Version) (m : Tell) → version_from (outline (tell_data v m)) ≡ Some v
tell_version version.One (tell.Done k tx name node made) = version_back version.One
tell_version version.Two (tell.Done k tx name node made) = version_back version.Two
tell_version v (tell.Evicted k tx) = version_back v
tell_version version.One (tell.Refused k c at place) = version_back version.One
tell_version version.Two (tell.Refused k c at place) = version_back version.Two
tell_version v (tell.Lost k path own found moment) = version_back v
tell_version v (tell.Watch tx f) = version_back v
tell_version v (tell.Ping n) = version_back v

tell_back : (v : Version) (m : Tell) → IsTell m → CanSayTell v m → tell_from v (outline (tell_data v m)) ≡ Some m
tell_back version.One (tell.Done k tx name node made) h s =
    rw (number_back k h.0.0, number_back tx h.0.1, path_back name h.1.0, small_back node h.1.1, s) refl
tell_back version.Two (tell.Done k tx name node made) h s =
    rw (number_back k h.0.0, number_back tx h.0.1, path_back name h.1.0, small_back node h.1.1, mades_back made h.1.2) refl
tell_back v (tell.Evicted k tx) h s = rw (number_back k h.0.0, number_back tx h.0.1) refl
tell_back version.One (tell.Refused k c at place) h s =
    rw (number_back k h.0.0, code_back c, number_back at h.0.1, s) refl
tell_back version.Two (tell.Refused k c at place) h s =
    rw (number_back k h.0.0, code_back c, number_back at h.0.1, small_back place h.1) refl
tell_back v (tell.Lost k path own found moment) h s =
    rw (number_back k h.0.0, path_back path h.1, number_back own h.0.1, number_back found h.0.2, number_back moment h.0.3) refl
tell_back v (tell.Watch tx f) h s =
    rw (number_back tx h.0.0, small_back f.session h.1.0, number_back f.id h.0.1, kind_back f.kind, path_back f.path h.1.1, change_back f.change) refl
tell_back v (tell.Ping n) h s = rw (number_back n h.0) refl

pub tells : ReadsBack IsTell CanSayTell tell_data tell_from
tells = record { fit = tell_fit; version = tell_version; back = tell_back }
