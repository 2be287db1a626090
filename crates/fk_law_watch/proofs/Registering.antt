-- Registrations: what a line that sets a watch says of the entries before it.
use Rattle.std.proofs.Common.{◌≡◌, ◌≤◌, List, ◌∷◌, refl, sym, subst, Some}
use Rattle.fk_tree.specs.Ask.{path_asked}
use Rattle.fk_tree.specs.Watch.{kind_asked}
use Rattle.fk_print.specs.declared.entry.Entry.{Entry}
use Rattle.fk_print.specs.declared.op.Op.{Op}
use Rattle.fk_print.specs.declared.op.Op.TheVariants as op
use Rattle.fk_spec.specs.Plan.{Plan, asked}
use Rattle.fk_spec.specs.Watches.{Watch, last_sweep, watch_asked}
use Rattle.fk_law.specs.Due.{IsDue}
use Rattle.fk_law.proofs.Due.{due}
use Rattle.fk_law_watch.specs.Registering.{number_from, Registers, WatchesAreRegistered}

registers : (p : Plan) (h : List Entry) (o : Op) → IsDue p h o → Registers p h o
registers p h (op.WatchSet c i id) d = record {
  watch = its;
  wanted = wanted;
  unswept = subst (λ z. last_sweep p (path_asked d.0.query) h ≤ number_from c h z) (sym d.0.made) d.1;
  numbered = d.2;
  its_id = refl;
  its_session = refl;
}
  where
    its : Watch
    its = record { id = id; session = c; path = path_asked d.0.query; kind = kind_asked d.0.query }

    wanted : watch_asked id c (asked p c i) ≡ Some its
    wanted = rw (d.0.is_asked, d.0.reads) refl
registers p h o d = tt

pub watches_are_registered : WatchesAreRegistered
watches_are_registered p e h l = registers p h e.op (due p e h l)
