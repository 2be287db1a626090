-- What a live run says of the status.
use Rattle.std.proofs.Common.{◌≡◌, ℕ, ◌+◌, ◌≤◌, Bool, false, List, length, Option, Some, refl, sym, ◌∙◌, ap, subst, inl, inr}
use Rattle.std.specs.Io.KnownBytes.{Appends, Consumes, IsAtEnd}
use Rattle.fk_base.specs.Source.{TakesCount}
use Rattle.fk_print.specs.EntryText.{history_text}
use Rattle.fk_print.specs.declared.entry.Entry.{Entry}
use Rattle.fk_script.specs.Reading.{Means}
use Rattle.fk_script.specs.Unscheduled.{unscheduled_of}
use Rattle.fk_script.specs.declared.deployment.Deployment.{Deployment}
use Rattle.fk_world.specs.World.{View}
use Rattle.fk_run.specs.Run.{client_names}
use Rattle.fk_run.specs.Statuses.{Cuts, OffenceBy, RefusesBy, WritesFront, input_limit, too_long_line}
use Rattle.fk_run.proofs.Refusing.{Told, answered_by, cuts_so, length_is_refused, length_refuses, line_is_refused, line_refuses}
use Rattle.fk_live.specs.Live.{Completes, IsAnswer, IsLiveRunOf, IsLiveText, IsOutput, IsTextOf, LiveOfInput, Lives, WritesLive}

-- the text of a deployment that was read
read_text : (input bytes : List ℕ) (old after : Option (List ℕ)) (d : Deployment) (text : List ℕ) → Consumes old after input → IsAtEnd after → length input ≤ input_limit → bytes ≡ input
    → unscheduled_of bytes ≡ Means d → IsTextOf d text → IsLiveText old after text
read_text input bytes old after d text taken ended short same meant r = record {
  input = input;
  deployment = d;
  history = r.history;
  read = (taken, ended, short);
  meant = ap unscheduled_of (sym same) ∙ meant;
  ran = r.ran;
  is = r.is;
}

-- a deployment that was read, and its history
pub lives : (input bytes : List ℕ) (old after sink sink_after : Option (List ℕ)) (played : Option View) → Consumes old after input → IsAtEnd after → length input ≤ input_limit → bytes ≡ input
    → LiveOfInput bytes sink sink_after played → Lives old after sink sink_after played
unfolding read_text
lives input bytes old after sink sink_after played taken ended short same r = record {
  text = r.run.text;
  run = read_text input bytes old after r.deployment r.run.text taken ended short same r.meant r.run.run;
  held = r.run.held;
  written = r.run.written;
}

-- a line that offends, and an input that is too long
pub offends : (input bytes : List ℕ) (old after sink sink_after : Option (List ℕ)) → Consumes old after input → IsAtEnd after → length input ≤ input_limit → bytes ≡ input → OffenceBy unscheduled_of bytes sink sink_after
    → RefusesBy unscheduled_of old after sink sink_after
offends = line_is_refused unscheduled_of

pub too_long : (old after sink sink_after : Option (List ℕ)) → TakesCount old after (input_limit + 1) → Appends sink sink_after too_long_line → RefusesBy unscheduled_of old after sink sink_after
too_long = length_is_refused unscheduled_of

-- where it was cut off
pub cut_input : (input bytes : List ℕ) (old after sink sink_after : Option (List ℕ)) → Consumes old after input → IsAtEnd after → length input ≤ input_limit → bytes ≡ input → Cuts (IsAnswer bytes) sink sink_after
    → Cuts (IsOutput old after) sink sink_after
cut_input input bytes old after sink sink_after taken ended short same = cuts_so by
  where
    by : (text : List ℕ) → IsAnswer bytes text → IsOutput old after text
    by text (inl r) = inl (read_text input bytes old after r.0 text taken ended short same r.1 r.2)
    by text (inr r) = inr (line_refuses unscheduled_of input bytes old after text taken ended short same r)

pub cut_too_long : (old after sink sink_after : Option (List ℕ)) → TakesCount old after (input_limit + 1) → WritesFront sink sink_after too_long_line → Cuts (IsOutput old after) sink sink_after
cut_too_long old after sink sink_after t front = inr (too_long_line, inr (length_refuses unscheduled_of old after t), front)

-- where nothing failed
pub completes : (o : Option ℕ) (n : ℕ) (left after sink sink_after : Option (List ℕ)) (played : Option View) (status : ℕ) → o ≡ Some n
    → (status ≡ 0 → Lives left after sink sink_after played) → (status ≡ 65 → RefusesBy unscheduled_of left after sink sink_after) → Told status → Completes o left status
completes o n left after sink sink_after played status w ran refused told =
    subst (λ (x : Option ℕ). Completes x left status) (sym w) (answered_by unscheduled_of left after sink sink_after status
    (λ e. let r = (ran e).run in (r.input, r.deployment, r.read, r.meant)) refused told)

-- The world of a history of deployment d, of which x and h are what was written. ---------------------------

pub world_written : (d x : Deployment) (h : List Entry) (w : View) (a b : Option (List ℕ)) → w.deployment ≡ d → w.spent ≡ false → IsLiveRunOf w.deployment w.past
    → x ≡ w.deployment → h ≡ w.past → Appends a b (history_text (client_names x) h) → WritesLive d a b (Some w)
world_written d x h w a b e g r p q t = record {
  text = history_text (client_names d) w.past;
  run = record { history = w.past; ran = subst (λ (z : Deployment). IsLiveRunOf z w.past) e r; is = refl };
  held = ap (λ (z : Deployment). Some (record { deployment = z; past = w.past; spent = w.spent })) e ∙ ap (λ (z : Bool). Some (record { deployment = d; past = w.past; spent = z })) g;
  written = subst (λ (z : Deployment). Appends a b (history_text (client_names z) w.past)) (p ∙ e) (subst (λ (z : List Entry). Appends a b (history_text (client_names x) z)) q t);
}

-- the same, where it was cut off
pub world_cut : (d x : Deployment) (h : List Entry) (w : View) (a b : Option (List ℕ)) → w.deployment ≡ d → IsLiveRunOf w.deployment w.past
    → x ≡ w.deployment → h ≡ w.past → WritesFront a b (history_text (client_names x) h) → Cuts (IsTextOf d) a b
world_cut d x h w a b e r p q f = inr (
  history_text (client_names x) h,
  record { history = w.past; ran = subst (λ (z : Deployment). IsLiveRunOf z w.past) e r; is = ap (λ (z : Deployment). history_text (client_names z) h) (p ∙ e) ∙ ap (λ (z : List Entry). history_text (client_names d) z) q },
  f,
)
