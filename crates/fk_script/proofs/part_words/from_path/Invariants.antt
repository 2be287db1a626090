use Rattle.std.proofs.Common.{◌≡◌, length, false}
use Rattle.fk_script.specs.Phrases.{from_path}
use Rattle.fk_script.proofs.part_words.from_path.Given as goal

abbrev pub invariant-skipping : goal.invariant-skipping
invariant-skipping l = from_path l.behind_v l.rest ≡ from_path false l.fn.words

abbrev pub decreases-skipping : goal.decreases-skipping
decreases-skipping l = length l.rest
