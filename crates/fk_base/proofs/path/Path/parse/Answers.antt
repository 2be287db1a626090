use Rattle.std.proofs.Common.{refl, lit<}
use Rattle.std.proofs.lemmas.Str.Pattern.{strip_prefix_char}
use Rattle.fk_base.proofs.PathTexts.{no_first_slash}
use Rattle.fk_base.proofs.path.Path.parse.Goals as goal

pub returns-in_default-clause-bad : goal.returns-in_default-clause-bad
returns-in_default-clause-bad c =
    let found = strip_prefix_char 47 c.args.text.now c.strip_prefix.result c.strip_prefix.ensures.cases (lit< tt) in
    (λ _. no_first_slash c.args.text.now (rw c.in_default.is at found), λ _. refl)
