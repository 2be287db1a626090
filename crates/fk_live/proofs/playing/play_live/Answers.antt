use Rattle.fk_live.proofs.playing.play_live.Goals as goal

pub finished-requires-clause-meant : goal.finished-requires-clause-meant
finished-requires-clause-meant g c = (c.in_ok-text.text, c.in_ok-own.ensures.deployment)
