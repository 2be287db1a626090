use Rattle.std.proofs.Common.{◌≤◌}
use Rattle.std.specs.Io.KnownBytes.{Appends}
use Rattle.fk_run.proofs.Texts.{text_of_first}
use Rattle.fk_run.proofs.write.write_history.Given as goal

abbrev pub invariant-writing : goal.invariant-writing
invariant-writing g l = record {
  added : Appends (g.K.Sink.taken l.fn.sink) (g.K.Sink.taken l.sink) (text_of_first l.clients l.entry-index l.entry-items);
  later : g.K.Sink.faults l.fn.sink ≤ g.K.Sink.faults l.sink;
}
