use Rattle.std.proofs.Common.{◌<◌, ◌∙◌, refl, sym, ap, subst}
use Rattle.fk_watch.specs.Kept.{Kept, watches_of}
use Rattle.fk_watch.specs.Meaning.{Watches}
use Rattle.fk_watch.specs.Sound.{IsSound}
use Rattle.fk_watch.specs.Sweeping.{swept_for}
use Rattle.fk_watch.specs.Table.{kept_in}
use Rattle.fk_watch.proofs.Changing.{swept_watches, undone_watches}
use Rattle.fk_watch.proofs.Standing.{sound_swept}
use Rattle.fk_watch.proofs.table.WatchTable.fire.Goals as goal

pub returns-in-Ok-clause-ok : goal.returns-in-Ok-clause-ok
returns-in-Ok-clause-ok c =
    let k : Kept = kept_in c.self.inside in
    let l : Kept = record k { set = c.unset.new.set; fired = c.prepare.new.fired.entries; swept = c.args.tx; sweeps = c.put_all.new.sweeps.entries } in
    swept_watches k l c.args.tx c.args.touches.now c.in-Ok.lists.fired c.prepare.new.sweeps.entries c.self.invariant (subst (λ (k : Kept). k.swept < c.args.tx) (sym c.self.view_is) c.requires)
    c.in-Ok.ensures.ok c.in-Ok.ensures.fired (rw (← c.as_slice.ensures) c.unset.ensures) c.prepare.ensures.lasts c.put_all.ensures refl refl refl refl
    ∙ ap (λ k. swept_for c.args.tx c.args.touches.now (watches_of k)) c.self.view_is

pub returns-in-Ok-clause-sound : goal.returns-in-Ok-clause-sound
returns-in-Ok-clause-sound c =
    let m : Watches = watches_of (kept_in c.self.inside) in
    subst IsSound (ap (λ k. swept_for c.args.tx c.args.touches.now (watches_of k)) c.self.view_is ∙ sym (returns-in-Ok-clause-ok c))
    (sound_swept m c.args.tx c.args.touches.now (subst (λ (k : Kept). k.swept < c.args.tx) (sym c.self.view_is) c.requires) c.self.invariant)

pub invariant_of-self : goal.invariant_of-self
invariant_of-self c = returns-in-Ok-clause-sound c

pub returns-in-Err-clause-err : goal.returns-in-Err-clause-err
returns-in-Err-clause-err c =
    let k : Kept = kept_in c.self.inside in
    let l : Kept = record k { fired = c.forget.new.fired.entries; sweeps = c.prepare.new.sweeps.entries } in
    undone_watches k l c.args.tx c.prepare.new.fired.entries c.self.invariant (subst (λ (k : Kept). k.swept < c.args.tx) (sym c.self.view_is) c.requires) c.prepare.ensures.kept c.forget.ensures c.prepare.ensures.lasts refl refl refl refl refl
    ∙ ap watches_of c.self.view_is

pub returns-in-Err-clause-sound : goal.returns-in-Err-clause-sound
returns-in-Err-clause-sound c = subst IsSound (ap watches_of c.self.view_is ∙ sym (returns-in-Err-clause-err c)) c.self.invariant

pub invariant_of-self-in-Err : goal.invariant_of-self-in-Err
invariant_of-self-in-Err c = returns-in-Err-clause-sound c
