use Rattle.std.proofs.Common.{◌≡◌, suc, drop}
use Rattle.fk_settle.specs.Missing.{path_from}
use Rattle.fk_settle.proofs.settling.path_at.Given as goal

abbrev pub invariant-seeking : goal.invariant-seeking
invariant-seeking l = path_from 1 l.place l.paths ≡ path_from (suc l.before) l.place (drop l.before l.paths)
