-- What a longer history keeps.
use Rattle.std.specs.Prelude.{◌≡◌, ℕ, ◌≤◌, ◌++◌, true, List}
use Rattle.fk_print.specs.declared.entry.Entry.{Entry}
use Rattle.fk_spec.specs.Start.{clock_of, starts_of, pushes_of, sends_of}
use Rattle.fk_spec.specs.Settling.{is_committed, settled_of, done_of, swept_of, mark_of}
use Rattle.fk_spec.specs.Lanes.{follows_session, leads, notifies, removed_by, notes_of}
use Rattle.fk_law.specs.LeaderLane.{is_published}

-- each number of one history is at most that of the other
pub record AreAtMost (h other : List Entry) : Type 0 where
  pub clock : clock_of h ≤ clock_of other
  pub starts : starts_of h ≤ starts_of other
  pub pushes : pushes_of h ≤ pushes_of other
  pub notes : notes_of h ≤ notes_of other
  pub sends : (c : ℕ) → sends_of c h ≤ sends_of c other
  pub settled : (c : ℕ) → settled_of c h ≤ settled_of c other
  pub removed : (c : ℕ) → removed_by (follows_session c) h ≤ removed_by (follows_session c) other
  pub removed_pushes : removed_by leads h ≤ removed_by leads other
  pub removed_notes : removed_by notifies h ≤ removed_by notifies other
  pub done : done_of h ≤ done_of other
  pub swept : swept_of h ≤ swept_of other
  pub mark : mark_of h ≤ mark_of other

-- Numbers never fall.
abbrev pub NumbersNeverFall : Type 0
NumbersNeverFall = (h more : List Entry) → AreAtMost h (more ++ h)

-- What is committed stays committed, and what is published stays published.
abbrev pub CommittedStays : Type 0
CommittedStays = (t : ℕ) (h more : List Entry) → is_committed t h ≡ true → is_committed t (more ++ h) ≡ true

abbrev pub PublishedStays : Type 0
PublishedStays = (t : ℕ) (h more : List Entry) → is_published t h ≡ true → is_published t (more ++ h) ≡ true
