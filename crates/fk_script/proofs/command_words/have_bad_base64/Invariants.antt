use Rattle.std.proofs.Common.{◌≡◌, length}
use Rattle.std.specs.List.{list_any}
use Rattle.fk_script.specs.Phrases.{has_bad_base64}
use Rattle.fk_script.proofs.command_words.have_bad_base64.Given as goal

abbrev pub invariant-looking : goal.invariant-looking
invariant-looking l = list_any has_bad_base64 l.rest ≡ list_any has_bad_base64 l.fn.parts

abbrev pub decreases-looking : goal.decreases-looking
decreases-looking l = length l.rest
