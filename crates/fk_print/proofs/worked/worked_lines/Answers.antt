use Rattle.std.proofs.Common.{refl}
use Rattle.std.specs.Fmt.{digits}
use Rattle.base64.specs.Rfc4648.{encode_symbols}
use Rattle.fk_print.proofs.worked.worked_lines.Goals as goal

pub returns : goal.returns
unfolding digits encode_symbols
returns c = refl
