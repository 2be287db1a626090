use Rattle.std.proofs.Common.{◌≡◌, ◌+◌, ℕ, refl, sym, subst}
use Rattle.fk_base.specs.Path.{PathNames}
use Rattle.fk_tree.specs.declared.change.Kind.{Kind}
use Rattle.fk_watch.specs.declared.watch.Watch.{Watch}
use Rattle.fk_watch.specs.Kept.{Kept, watches_of}
use Rattle.fk_watch.specs.Registering.{IsUnset}
use Rattle.fk_watch.specs.Sound.{IsSound}
use Rattle.fk_watch.specs.Table.{kept_in}
use Rattle.fk_watch.proofs.Changing.{added_watches}
use Rattle.fk_watch.proofs.Standing.{sound_added}
use Rattle.fk_watch.proofs.table.WatchTable.add.Goals as goal

-- the watch isn't set, as its path was copied
still_new : (k l : Kept) (s : ℕ) (p q : PathNames) (kind : Kind) → l ≡ k → q ≡ p → IsUnset (record { session = s; path = p; kind = kind }) (watches_of k) → IsUnset (record { session = s; path = q; kind = kind }) (watches_of l)
still_new k l s p q kind e f h = subst (λ (x : PathNames). IsUnset (record { session = s; path = x; kind = kind }) (watches_of l)) (sym f) (subst (λ y. IsUnset (record { session = s; path = p; kind = kind }) (watches_of y)) (sym e) h)

pub add-requires-clause-new : goal.add-requires-clause-new
add-requires-clause-new c = still_new c.args.self.now (kept_in c.self.inside) c.args.session c.args.path.now c.in_ok-copy.field-0 c.args.kind c.self.view_is c.in_ok-copy.ensures c.requires.new

pub invariant_of-self-2 : goal.invariant_of-self-2
invariant_of-self-2 c =
    let w : Watch = record { session = c.args.session; path = c.in_ok-copy.field-0; kind = c.args.kind } in
    let k : Kept = kept_in c.self.inside in
    let l : Kept = record k { given = c.self.inside.given + 1; set = c.add.new.self } in
    subst IsSound (sym (added_watches k l w refl c.in_ok-add.ensures.ok refl refl refl refl refl))
    (sound_added (watches_of k) w (still_new c.args.self.now k c.args.session c.args.path.now c.in_ok-copy.field-0 c.args.kind c.self.view_is c.in_ok-copy.ensures c.requires.new) c.self.invariant)

pub returns-clause-sound : goal.returns-clause-sound
returns-clause-sound c = invariant_of-self-2 c
