-- What a longer history keeps.
use Rattle.std.proofs.Common.{ℕ, ◌≤◌, ◌++◌, List, [], ◌∷◌, arith}
use Rattle.std.proofs.lemmas.Bool.Decides.{nat_tests}
use Rattle.std.proofs.lemmas.Bool.{or_right}
use Rattle.fk_print.specs.declared.entry.Entry.{Entry}
use Rattle.fk_print.specs.declared.op.Op.{Op}
use Rattle.fk_spec.specs.Start.{clock_of, clock_after, starts_of, count_start, started_in, pushes_of, count_push, pushed_in, sends_of, sent_in}
use Rattle.fk_spec.specs.Settling.{is_committed, commits, settled_of, settled_in, done_of, done_in, swept_of, swept_in, mark_of, mark_in}
use Rattle.fk_spec.specs.Lanes.{follows_session, leads, notifies, removed_by, notes_of, note_count}
use Rattle.fk_law.specs.LeaderLane.{is_published, publishes}
use Rattle.fk_law.specs.Growing.{AreAtMost, NumbersNeverFall, CommittedStays, PublishedStays}
use Rattle.fk_law.proofs.Settled.{removed_grows, counts_sent}
use Rattle.fk_law.proofs.Committing.{counts_more}

op_numbers : (o : Op) (a b c d e f g : ℕ) → (a ≤ clock_after o a) × (b ≤ count_start (started_in o) b) × (c ≤ count_push (pushed_in 0 o) c) × (d ≤ note_count o d) × (e ≤ done_in o e) × (f ≤ swept_in o f) × (g ≤ mark_in o g)
op_numbers o a b c d e f g = grind (arith, nat_tests)

one_more : (e : Entry) (h : List Entry) → AreAtMost h (e ∷ h)
one_more e h =
    let g = op_numbers e.op (clock_of h) (starts_of h) (pushes_of h) (notes_of h) (done_of h) (swept_of h) (mark_of h) in
    record {
      clock = g.0;
      starts = g.1;
      pushes = g.2;
      notes = g.3;
      sends = λ c. counts_sent (sent_in c h e.op) (sends_of c h);
      settled = λ c. counts_more c (settled_in h e.op) (settled_of c h) (settled_of c h) (omega arith);
      removed = λ c. (removed_grows (follows_session c) h e.op (removed_by (follows_session c) h)).0;
      removed_pushes = (removed_grows leads h e.op (removed_by leads h)).0;
      removed_notes = (removed_grows notifies h e.op (removed_by notifies h)).0;
      done = g.4;
      swept = g.5;
      mark = g.6;
    }

both : (a b c : List Entry) → AreAtMost a b → AreAtMost b c → AreAtMost a c
both a b c x y = record {
  clock = omega (arith, x.clock, y.clock);
  starts = omega (arith, x.starts, y.starts);
  pushes = omega (arith, x.pushes, y.pushes);
  notes = omega (arith, x.notes, y.notes);
  sends = λ s. omega (arith, x.sends s, y.sends s);
  settled = λ s. omega (arith, x.settled s, y.settled s);
  removed = λ s. omega (arith, x.removed s, y.removed s);
  removed_pushes = omega (arith, x.removed_pushes, y.removed_pushes);
  removed_notes = omega (arith, x.removed_notes, y.removed_notes);
  done = omega (arith, x.done, y.done);
  swept = omega (arith, x.swept, y.swept);
  mark = omega (arith, x.mark, y.mark);
}

same : (h : List Entry) → AreAtMost h h
same h = record { clock = omega arith; starts = omega arith; pushes = omega arith; notes = omega arith; sends = λ c. omega arith; settled = λ c. omega arith; removed = λ c. omega arith; removed_pushes = omega arith; removed_notes = omega arith; done = omega arith; swept = omega arith; mark = omega arith }

pub numbers_never_fall : NumbersNeverFall
numbers_never_fall h [] = same h
numbers_never_fall h (e ∷ more) = both h (more ++ h) (e ∷ more ++ h) (numbers_never_fall h more) (one_more e (more ++ h))

pub committed_stays : CommittedStays
committed_stays t h [] i = i
committed_stays t h (e ∷ more) i = or_right (commits t e.op) (is_committed t (more ++ h)) (committed_stays t h more i)

pub published_stays : PublishedStays
published_stays t h [] i = i
published_stays t h (e ∷ more) i = or_right (publishes t e.op) (is_published t (more ++ h)) (published_stays t h more i)
