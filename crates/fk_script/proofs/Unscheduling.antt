-- What bytes mean where no schedule may stand they mean elsewhere too, and it has none.
use Rattle.std.proofs.Common.{◌≡◌, ℕ, ◌+◌, Bool, true, false, cond, List, [], ◌∷◌, Option, Some, None, length, refl, sym, ◌∙◌, ap, codes, true≢false}
use Rattle.std.specs.Prelude.{◌==◌, not}
use Rattle.std.specs.Str.{is_utf8}
use Rattle.std.proofs.lemmas.Bool.{and_from, not-false}
use Rattle.fk_script.specs.Lines.{Word, Line, first, is, lines, starts_with, words}
use Rattle.fk_script.specs.Reading.{Reading, Means, deployment_of, reading_after, unless}
use Rattle.fk_script.specs.Reasons.{offence, reason}
use Rattle.fk_script.specs.SoFar.{SoFar, is_schedule, kind_of, meant, place_after, so_far}
use Rattle.fk_script.specs.Unscheduled.{is_schedule_line, or_schedule, unscheduled_after, unscheduled_of}
use Rattle.fk_script.specs.declared.deployment.Deployment.{Deployment}
use Rattle.fk_script.specs.declared.place.Kind.{Kind}
use Rattle.fk_script.specs.declared.place.Kind.TheVariants as kind
use Rattle.fk_script.specs.declared.place.Place.{Place}
use Rattle.fk_script.specs.declared.place.Place.TheVariants as place
use Rattle.fk_script.specs.declared.why.Why.{Why}
use Rattle.fk_script.specs.declared.why.Why.TheVariants as why
use Rattle.fk_script.proofs.Passing.{after_line, means_inj}
use Rattle.fk_script.proofs.SoundLines.{off, passed}

-- a line that doesn't end the reading: neither off nor one that begins a schedule
record Goes (ws : List Word) (o : Option Why) (r : Reading) (d : Deployment) : Type 0 where
  fine : o ≡ None
  plain : is_schedule_line ws ≡ false
  rest : r ≡ Means d

plain_line : (b : Bool) (n : ℕ) (r : Reading) (d : Deployment) → unless (cond b (Some why.Schedule) None) n r ≡ Means d → (b ≡ false) × (r ≡ Means d)
plain_line true n r d h = cc h
plain_line false n r d h = (refl, h)

goes : (ws : List Word) (o : Option Why) (n : ℕ) (r : Reading) (d : Deployment) → unless (or_schedule ws o) n r ≡ Means d → Goes ws o r d
goes ws None n r d h = let p = plain_line (is_schedule_line ws) n r d h in record { fine = refl; plain = p.0; rest = p.1 }
goes ws (Some why) n r d h = cc h

line_goes : (before : List (List Word)) (l : Line) (ls : List Line) (d : Deployment) → unscheduled_after before (l ∷ ls) ≡ Means d
    → Goes (words l.text) (offence (so_far before) l) (unscheduled_after (words l.text ∷ before) ls) d
line_goes before l ls d h = goes (words l.text) (offence (so_far before) l) (length before + 1) (unscheduled_after (words l.text ∷ before) ls) d h

same_reading : (before : List (List Word)) (ls : List Line) (d : Deployment) → unscheduled_after before ls ≡ Means d → reading_after before ls ≡ Means d
same_reading before [] d h = h
same_reading before (l ∷ ls) d h =
    let g = line_goes before l ls d h in
    ap (λ (o : Option Why). unless o (length before + 1) (reading_after (words l.text ∷ before) ls)) g.fine ∙ same_reading (words l.text ∷ before) ls d g.rest

-- A line begins a schedule only where its only word is `schedule`. ----------------------------------------

start_word : (s l b c d : Bool) → cond s kind.Skipped (cond l kind.Lock (cond b kind.Beat (cond c kind.Client (cond d kind.Schedule kind.Unknown)))) ≡ kind.Schedule → d ≡ true
start_word true l b c d h = cc h
start_word false true b c d h = cc h
start_word false false true c d h = cc h
start_word false false false true d h = cc h
start_word false false false false true h = refl
start_word false false false false false h = cc h

client_word : (s c d : Bool) → cond s kind.Skipped (cond c kind.Client (cond d kind.Schedule kind.Command)) ≡ kind.Schedule → d ≡ true
client_word true c d h = cc h
client_word false true d h = cc h
client_word false false true h = refl
client_word false false false h = cc h

no_word : (s : Bool) (w : Word) → cond s kind.Skipped kind.Event ≡ kind.Schedule → is w (codes "schedule") ≡ true
no_word true w h = cc h
no_word false w h = cc h

schedule_word : (p : Place) (ws : List Word) → kind_of p ws ≡ kind.Schedule → is (first ws) (codes "schedule") ≡ true
schedule_word p [] h = cc h
schedule_word place.Start (w ∷ ws) h = start_word (starts_with 35 w) (is w (codes "lock")) (is w (codes "beat")) (is w (codes "client")) (is w (codes "schedule")) h
schedule_word place.Client (w ∷ ws) h = client_word (starts_with 35 w) (is w (codes "client")) (is w (codes "schedule")) h
schedule_word place.Schedule (w ∷ ws) h = no_word (starts_with 35 w) w h

schedule_line : (s : SoFar) (ws : List Word) → kind_of s.place ws ≡ kind.Schedule → reason s kind.Schedule ws ≡ None → is_schedule_line ws ≡ true
schedule_line s ws k r = and_from (length ws == 1) (is (first ws) (codes "schedule")) (not-false (length ws == 1) (passed s kind.Schedule ws r).words) (schedule_word s.place ws k)

stays_by : (s : SoFar) (ws : List Word) (k : Kind) → kind_of s.place ws ≡ k → reason s k ws ≡ None → is_schedule_line ws ≡ false → is_schedule s.place ≡ false
    → is_schedule (place_after k s.place) ≡ false
stays_by s ws kind.Schedule e r n i = absurd (true≢false (sym (schedule_line s ws e r) ∙ n))
stays_by s ws kind.Client e r n i = refl
stays_by s ws kind.Skipped e r n i = i
stays_by s ws kind.Lock e r n i = i
stays_by s ws kind.Beat e r n i = i
stays_by s ws kind.Command e r n i = i
stays_by s ws kind.Event e r n i = i
stays_by s ws kind.Unknown e r n i = i

stays : (s : SoFar) (l : Line) → offence s l ≡ None → is_schedule_line (words l.text) ≡ false → is_schedule s.place ≡ false → is_schedule (after_line s l).place ≡ false
stays s l o n i =
    let u = off (not (is_utf8 l.text)) why.NotUtf8 _ o in
    let e = off (not l.ended) why.Unended _ u.1 in
    stays_by s (words l.text) (kind_of s.place (words l.text)) refl e.1 n i

none_scheduled : (before : List (List Word)) (ls : List Line) (d : Deployment) → is_schedule (so_far before).place ≡ false → unscheduled_after before ls ≡ Means d → d.scheduled ≡ false
none_scheduled before [] d i h = sym (ap (λ (e : Deployment). e.scheduled) (means_inj (meant (so_far before)) d h)) ∙ i
none_scheduled before (l ∷ ls) d i h =
    let g = line_goes before l ls d h in
    none_scheduled (words l.text ∷ before) ls d (stays (so_far before) l g.fine g.plain i) g.rest

-- Of the bytes. -------------------------------------------------------------------------------------------

pub means_the_same : (bytes : List ℕ) (d : Deployment) → unscheduled_of bytes ≡ Means d → deployment_of bytes ≡ Means d
means_the_same bytes d h = same_reading [] (lines bytes) d h

pub has_no_schedule : (bytes : List ℕ) (d : Deployment) → unscheduled_of bytes ≡ Means d → d.scheduled ≡ false
has_no_schedule bytes d h = none_scheduled [] (lines bytes) d refl h
