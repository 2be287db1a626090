use Rattle.std.proofs.Common.{refl}
use Rattle.std.specs.Str.{is_utf8, chars}
use lib.Utf8.{encode}
use Rattle.base64.specs.Decode.{groups_error, groups_bytes, scan_steps}
use Rattle.fk_script.proofs.worked.unscheduled_are_judged.Goals as goal

pub returns : goal.returns
unfolding is_utf8 chars encode groups_error groups_bytes scan_steps
returns c = refl
