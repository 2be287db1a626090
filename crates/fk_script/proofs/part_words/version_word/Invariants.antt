use Rattle.std.proofs.Common.{◌≡◌, length, false}
use Rattle.fk_script.specs.Phrases.{version_word}
use Rattle.fk_script.proofs.part_words.version_word.Given as goal

abbrev pub invariant-looking : goal.invariant-looking
invariant-looking l = version_word l.behind_v l.rest ≡ version_word false l.fn.words

abbrev pub decreases-looking : goal.decreases-looking
decreases-looking l = length l.rest
