-- What refuses an input, as its bytes are read by this reader, and what that says of the status.
use Rattle.std.proofs.Common.{◌≡◌, ◌≢◌, ℕ, ◌+◌, ◌<◌, ◌≤◌, Bool, true, false, true≢false, List, ◌++◌, length, Option, Some, None, refl, sym, ap, ◌∙◌, ◌⊎◌, inl, inr, arith}
use Rattle.std.specs.Prelude.{nat_lt, if◌then◌else◌}
use Rattle.std.proofs.lemmas.List.{append-nil, length-append}
use Rattle.std.specs.Io.KnownBytes.{Appends, Consumes, IsAtEnd}
use Rattle.std.proofs.lemmas.Bool.Decides.{nat_tests}
use Rattle.fk_base.specs.Source.{TakesCount}
use Rattle.fk_script.specs.Reading.{Means, Reading}
use Rattle.fk_script.specs.declared.deployment.Deployment.{Deployment}
use Rattle.fk_run.specs.Statuses.{AnswersBy, Cuts, IsOffenceBy, IsRefusalBy, OffenceBy, ReadsWhole, RefusesBy, WritesFront, input_limit, offence, refusal_by, status_of, too_long_line}

abbrev pub Reader : Type 0
Reader = List ℕ → Reading

long_is_refused : (reader : Reader) (input : List ℕ) → input_limit < length input → refusal_by reader input ≡ Some too_long_line
long_is_refused reader input long = by (nat_lt input_limit (length input)) refl
  where
    by : (b : Bool) → nat_lt input_limit (length input) ≡ b → (if b then Some too_long_line else offence (reader input)) ≡ Some too_long_line
    by true e = refl
    by false e = absurd (true≢false (sym (grind (arith, nat_tests)) ∙ e))

short_is_read : (reader : Reader) (input : List ℕ) → length input ≤ input_limit → refusal_by reader input ≡ offence (reader input)
short_is_read reader input short = by (nat_lt input_limit (length input)) refl
  where
    by : (b : Bool) → nat_lt input_limit (length input) ≡ b → (if b then Some too_long_line else offence (reader input)) ≡ offence (reader input)
    by false e = refl
    by true e = grind (arith, nat_tests)

-- A line that offends, and an input that is too long. ---------------------------------------------------------

pub line_refuses : (reader : Reader) (input bytes : List ℕ) (old new : Option (List ℕ)) (text : List ℕ) → Consumes old new input → IsAtEnd new → length input ≤ input_limit → bytes ≡ input → IsOffenceBy reader bytes text
    → IsRefusalBy reader old new text
line_refuses reader input bytes old new text taken ended short same r = record {
  input = input;
  taken = taken;
  whole = λ s. ended;
  refused = short_is_read reader input short ∙ ap offence (ap reader (sym same) ∙ r.offends) ∙ ap Some (sym r.is);
}

pub line_is_refused : (reader : Reader) (input bytes : List ℕ) (old new sink sink_after : Option (List ℕ)) → Consumes old new input → IsAtEnd new → length input ≤ input_limit → bytes ≡ input → OffenceBy reader bytes sink sink_after
    → RefusesBy reader old new sink sink_after
line_is_refused reader input bytes old new sink sink_after taken ended short same r = record {
  line = r.text;
  refusal = line_refuses reader input bytes old new r.text taken ended short same r.offends;
  written = r.written;
}

pub length_refuses : (reader : Reader) (old new : Option (List ℕ)) → TakesCount old new (input_limit + 1) → IsRefusalBy reader old new too_long_line
length_refuses reader old new t = record {
  input = t.0;
  taken = t.2;
  whole = λ s. absurd (omega (arith, s, t.1));
  refused = long_is_refused reader t.0 (omega (arith, t.1));
}

pub length_is_refused : (reader : Reader) (old new sink sink_after : Option (List ℕ)) → TakesCount old new (input_limit + 1) → Appends sink sink_after too_long_line → RefusesBy reader old new sink sink_after
length_is_refused reader old new sink sink_after t written = record {
  line = too_long_line;
  refusal = length_refuses reader old new t;
  written = written;
}

-- a front of one text is a front of another kind
pub cuts_so : {P Q : List ℕ → Type 0} {sink sink_after : Option (List ℕ)} → ((text : List ℕ) → P text → Q text) → Cuts P sink sink_after → Cuts Q sink sink_after
cuts_so f (inl none) = inl none
cuts_so f (inr c) = inr (c.0, f c.0 c.1, c.2)

-- What the status is where nothing failed. --------------------------------------------------------------------

-- what was read to the end is all that was left
all_of_it : (xs : List ℕ) (after : Option (List ℕ)) (input : List ℕ) → Consumes (Some xs) after input → IsAtEnd after → xs ≡ input
all_of_it xs None input c e = absurd c
all_of_it xs (Some ys) input c e = c ∙ (ap (λ (zs : List ℕ). input ++ zs) e ∙ append-nil input)

no_shorter : (xs : List ℕ) (after : Option (List ℕ)) (input : List ℕ) → Consumes (Some xs) after input → length input ≤ length xs
no_shorter xs None input c = absurd c
no_shorter xs (Some ys) input c = rw (c, length-append input ys) (omega arith)

-- the input was read, and means a deployment
abbrev pub IsRead : Reader → Option (List ℕ) → Option (List ℕ) → Type 0
IsRead reader left after = (input : List ℕ) × (d : Deployment) × ReadsWhole left after input × (reader input ≡ Means d)

-- such an input isn't refused
read_is_no_refusal : (reader : Reader) (xs : List ℕ) (after : Option (List ℕ)) (input : List ℕ) (d : Deployment) → ReadsWhole (Some xs) after input → reader input ≡ Means d → 0 ≡ status_of (refusal_by reader xs)
read_is_no_refusal reader xs after input d r m =
    let same : xs ≡ input = all_of_it xs after input r.0 r.1 in
    rw (same, short_is_read reader input r.2, m) refl

refused_is_refused : (reader : Reader) (xs : List ℕ) (after sink sink_after : Option (List ℕ)) → RefusesBy reader (Some xs) after sink sink_after → 65 ≡ status_of (refusal_by reader xs)
refused_is_refused reader xs after sink sink_after r = by (nat_lt input_limit (length r.refusal.input)) refl
  where
    by : (b : Bool) → nat_lt input_limit (length r.refusal.input) ≡ b → 65 ≡ status_of (refusal_by reader xs)
    by true e =
        let more : length r.refusal.input ≤ length xs = no_shorter xs after r.refusal.input r.refusal.taken in
        rw (long_is_refused reader xs (grind (arith, nat_tests))) refl
    by false e =
        let same : xs ≡ r.refusal.input = all_of_it xs after r.refusal.input r.refusal.taken (r.refusal.whole (grind (arith, nat_tests))) in
        rw (same, r.refusal.refused) refl

-- the three answers that come where nothing failed
abbrev pub Told : ℕ → Type 0
Told status = (status ≡ 0) ⊎ (status ≡ 65) ⊎ (status ≡ 71)

pub told_of : (status : ℕ) → (status ≡ 0) ⊎ (status ≡ 65) ⊎ (status ≡ 66) ⊎ (status ≡ 71) ⊎ (status ≡ 74) → (status ≡ 66 → ⊥) → (status ≡ 74 → ⊥) → Told status
told_of status (inl e) r w = inl e
told_of status (inr (inl e)) r w = inr (inl e)
told_of status (inr (inr (inl e))) r w = absurd (r e)
told_of status (inr (inr (inr (inl e)))) r w = inr (inr e)
told_of status (inr (inr (inr (inr e)))) r w = absurd (w e)

pub answered_by : (reader : Reader) (left after sink sink_after : Option (List ℕ)) (status : ℕ) → (status ≡ 0 → IsRead reader left after) → (status ≡ 65 → RefusesBy reader left after sink sink_after)
    → Told status → status ≢ 71 → AnswersBy reader left status
answered_by reader left after sink sink_after status read refused told some = by left refl told
  where
    by : (l : Option (List ℕ)) → left ≡ l → Told status → AnswersBy reader l status
    by l e (inr (inr t)) = absurd (some t)
    by None e (inl t) = inl t
    by None e (inr (inl t)) = inr t
    by (Some xs) e (inl t) = let r = rw e at (read t) in t ∙ read_is_no_refusal reader xs after r.0 r.1 r.2 r.3
    by (Some xs) e (inr (inl t)) = t ∙ refused_is_refused reader xs after sink sink_after (rw e at (refused t))

-- where it was cut off, nothing is done and nothing refused
pub stopped_is_not_done : (status : ℕ) → (status ≡ 71) ⊎ (status ≡ 74) → status ≢ 0
stopped_is_not_done status (inl e) = λ z. omega (arith, e, z)
stopped_is_not_done status (inr e) = λ z. omega (arith, e, z)

pub stopped_is_not_refused : (status : ℕ) → (status ≡ 71) ⊎ (status ≡ 74) → status ≢ 65
stopped_is_not_refused status (inl e) = λ z. omega (arith, e, z)
stopped_is_not_refused status (inr e) = λ z. omega (arith, e, z)
