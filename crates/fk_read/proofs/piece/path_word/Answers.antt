use Rattle.fk_read.proofs.Numbers.{path_fits, path_is}
use Rattle.fk_read.proofs.piece.path_word.Goals as goal

pub returns-in-Ok-parse-clause-reads : goal.returns-in-Ok-parse-clause-reads
returns-in-Ok-parse-clause-reads c =
    path_is c.args.word.now c.in-Ok.text.now _ c.in-Ok.ensures.cases.0 c.in-Ok.ensures.cases.1 c.in-Ok-parse.ensures.path

pub returns-in-Ok-parse-clause-fits : goal.returns-in-Ok-parse-clause-fits
returns-in-Ok-parse-clause-fits c =
    path_fits c.args.word.now c.in-Ok.text.now _ c.in-Ok.ensures.cases.0 c.in-Ok.ensures.cases.1 c.in-Ok-parse.ensures.path
