use Rattle.std.proofs.Common.{◌≡◌, ◌++◌, length, false}
use Rattle.fk_script.specs.Phrases.{options}
use Rattle.fk_script.proofs.part_words.options.Given as goal

-- the options so far, and those of the words that are left
abbrev pub invariant-reading : goal.invariant-reading
invariant-reading l = l.options.items ++ options l.behind_v l.rest ≡ options false l.fn.words

abbrev pub decreases-reading : goal.decreases-reading
decreases-reading l = length l.rest
