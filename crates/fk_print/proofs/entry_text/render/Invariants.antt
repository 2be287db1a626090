use Rattle.std.proofs.Common.{◌≡◌, reverse, string_bytes, take}
use Rattle.fk_print.specs.EntryText.{history_text}
use Rattle.fk_print.proofs.entry_text.render.Given as goal

abbrev pub invariant-writing : goal.invariant-writing
invariant-writing l = string_bytes l.out ≡ history_text l.clients (reverse (take l.entry-index l.entry-items))
