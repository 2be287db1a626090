-- A file, read to some line.
use Rattle.std.proofs.Common.{◌≡◌, ℕ, ◌+◌, ◌<◌, ◌≤◌, length, Bool, true, false, List, [], ◌∷◌, Some, None, refl, sym, ◌∙◌, ap, arith}
use Rattle.fk_script.specs.declared.why.Why.{Why}
use Rattle.fk_script.specs.Lines.{Word, Line, lines, words}
use Rattle.fk_script.specs.SoFar.{SoFar, after, kind_of, meant, nothing, so_far}
use Rattle.fk_script.specs.Reading.{Reading, Means, Offends, reading_after}
use Rattle.fk_script.specs.Unscheduled.{offence_where, reading_where, unscheduled_after}

-- the lines that are left, where a schedule may stand or not
abbrev pub after_where : Bool → List (List Word) → List Line → Reading
after_where true before ls = reading_after before ls
after_where false before ls = unscheduled_after before ls

-- after so many lines, with what they say, these bytes are left
pub record IsRead (schedule : Bool) (bytes : List ℕ) (number : ℕ) (says : SoFar) (rest : List ℕ) : Type 0 where
  pub before : List (List Word)
  pub count : number ≡ length before
  pub said : says ≡ so_far before
  pub same : after_where schedule before (lines rest) ≡ reading_where schedule bytes
  pub room : number + length rest ≤ length bytes

pub none_read : (schedule : Bool) (bytes : List ℕ) → IsRead schedule bytes 0 nothing bytes
none_read true bytes = record { before = []; count = refl; said = refl; same = refl; room = omega arith }
none_read false bytes = record { before = []; count = refl; said = refl; same = refl; room = omega arith }

goes_on : (schedule : Bool) (before : List (List Word)) (l : Line) (ls ms : List Line) → ms ≡ l ∷ ls → offence_where schedule (so_far before) l ≡ None
    → after_where schedule before ms ≡ after_where schedule (words l.text ∷ before) ls
goes_on true before l ls ms cut fine = rw (cut, fine) refl
goes_on false before l ls ms cut fine = rw (cut, fine) refl

stops : (schedule : Bool) (before : List (List Word)) (l : Line) (ls ms : List Line) (why : Why) → ms ≡ l ∷ ls → offence_where schedule (so_far before) l ≡ Some why
    → after_where schedule before ms ≡ Offends (length before + 1) why
stops true before l ls ms why cut bad = rw (cut, bad) refl
stops false before l ls ms why cut bad = rw (cut, bad) refl

ends : (schedule : Bool) (before : List (List Word)) (ms : List Line) → ms ≡ [] → after_where schedule before ms ≡ Means (meant (so_far before))
ends true before ms none = rw none refl
ends false before ms none = rw none refl

-- the reading goes on behind a line that doesn't offend
pub one_more : (schedule : Bool) (bytes : List ℕ) (number : ℕ) (says later : SoFar) (rest back : List ℕ) (l : Line) → IsRead schedule bytes number says rest
    → lines rest ≡ l ∷ lines back → length back < length rest → None ≡ offence_where schedule says l → later ≡ after (kind_of says.place (words l.text)) (words l.text) says
    → IsRead schedule bytes (number + 1) later back
one_more schedule bytes number says later rest back l r cut short fine next = record {
  before = words l.text ∷ r.before;
  count = omega (arith, r.count);
  said = next ∙ ap (λ (s : SoFar). after (kind_of s.place (words l.text)) (words l.text) s) r.said;
  same = sym (goes_on schedule r.before l (lines back) (lines rest) cut (sym (fine ∙ ap (λ (s : SoFar). offence_where schedule s l) r.said))) ∙ r.same;
  room = omega (arith, r.room);
}

-- and ends at one that does
pub offends : (schedule : Bool) (bytes : List ℕ) (number : ℕ) (says : SoFar) (rest back : List ℕ) (l : Line) (why : Why) → IsRead schedule bytes number says rest
    → lines rest ≡ l ∷ lines back → Some why ≡ offence_where schedule says l → reading_where schedule bytes ≡ Offends (number + 1) why
offends schedule bytes number says rest back l why r cut bad =
    sym r.same ∙ stops schedule r.before l (lines back) (lines rest) why cut (sym (bad ∙ ap (λ (s : SoFar). offence_where schedule s l) r.said)) ∙ ap (λ (n : ℕ). Offends (n + 1) why) (sym r.count)

-- or where no line is left
pub all_read : (schedule : Bool) (bytes : List ℕ) (number : ℕ) (says : SoFar) (rest : List ℕ) → IsRead schedule bytes number says rest → lines rest ≡ [] → reading_where schedule bytes ≡ Means (meant says)
all_read schedule bytes number says rest r none = sym r.same ∙ ends schedule r.before (lines rest) none ∙ ap (λ (s : SoFar). Means (meant s)) (sym r.said)
