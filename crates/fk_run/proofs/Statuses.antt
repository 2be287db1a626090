-- What a run or a refusal says of the status, and what is refused.
use Rattle.std.proofs.Common.{◌≡◌, ◌≢◌, ℕ, ◌+◌, ◌≤◌, Bool, true, false, true≢false, List, [], length, Option, Some, None, refl, sym, ap, subst, ◌∙◌, inl, inr}
use Rattle.std.specs.Io.KnownBytes.{Appends, Consumes, IsAtEnd}
use Rattle.fk_base.specs.Source.{TakesCount}
use Rattle.fk_script.specs.Generate.{generated}
use Rattle.fk_script.specs.Reading.{Means, deployment_of}
use Rattle.fk_script.specs.declared.deployment.Deployment.{Deployment}
use Rattle.fk_words.specs.declared.words.Asked.{Asked}
use Rattle.fk_words.specs.declared.words.Load.{Load}
use Rattle.fk_world.specs.World.{View}
use Rattle.fk_run.specs.Statuses.{Answers, Completes, Cuts, IsAnswer, IsOutput, IsRunText, IsTextOf, Offence, Refuses, RunOfInput, Runs, WritesFront, WritesRun, input_limit, reads_source, too_long_line}
use Rattle.fk_run.proofs.Refusing.{IsRead, Told, answered_by, cuts_so, length_is_refused, length_refuses, line_is_refused, line_refuses}

same_asked : (a b : Asked) → Some a ≡ Some b → a ≡ b
same_asked a b e = cc e

answered : (asked : Asked) (left after sink sink_after : Option (List ℕ)) (played : Option View) (status : ℕ)
    → (status ≡ 0 → Runs (Some asked) left after sink sink_after played) → (status ≡ 65 → Refuses left after sink sink_after) → (status ≡ 65 → reads_source (Some asked) ≡ true)
    → Told status → status ≢ 71 → Answers asked.load left status
answered asked left after sink sink_after played status ran refused reads told some = by asked.load refl told
  where
    read : asked.load ≡ None → status ≡ 0 → IsRead deployment_of left after
    read e t =
        let r = (ran t).run in
        let same : r.asks.load ≡ None = ap (λ (a : Asked). a.load) (sym (same_asked asked r.asks r.accepted)) ∙ e in
        (r.input, r.deployment, rw same at r.read, rw same at r.meant)

    by : (load : Option Load) → asked.load ≡ load → Told status → Answers load left status
    by (Some load) e (inl t) = t
    by (Some load) e (inr (inl t)) = absurd (true≢false (sym (rw e at (reads t))))
    by (Some load) e (inr (inr t)) = absurd (some t)
    by None e t = answered_by deployment_of left after sink sink_after status (read e) refused t some

pub completes : (o : Option Asked) (left after sink sink_after : Option (List ℕ)) (played : Option View) (status : ℕ)
    → (status ≡ 0 → Runs o left after sink sink_after played) → (status ≡ 65 → Refuses left after sink sink_after) → (status ≡ 65 → reads_source o ≡ true)
    → Told status → Completes o left status
completes None left after sink sink_after played status ran refused reads told = tt
completes (Some asked) left after sink sink_after played status ran refused reads told = answered asked left after sink sink_after played status ran refused reads told

pub wants_memory : (o : Option Asked) (left : Option (List ℕ)) → Completes o left 71
wants_memory None left = tt
wants_memory (Some asked) left = λ n. absurd (n refl)

-- the text of a deployment that was made
made_text : (load : Load) (summary : Bool) (made : Deployment) (x : Option (List ℕ)) (text : List ℕ) → made ≡ generated load.number load.size → IsTextOf summary made text
    → IsRunText (Some (record { load = Some load; summary = summary })) x x text
made_text load summary made x text made_is r = record {
  asks = record { load = Some load; summary = summary };
  input = [];
  deployment = made;
  history = r.history;
  accepted = refl;
  read = refl;
  meant = ap Means (sym made_is);
  ran = r.ran;
  is = r.is;
}

-- a deployment that was made, and its run
pub made_run : (load : Load) (summary : Bool) (made : Deployment) (x sink sink_after : Option (List ℕ)) (played : Option View) → made ≡ generated load.number load.size → WritesRun summary made sink sink_after played
    → Runs (Some (record { load = Some load; summary = summary })) x x sink sink_after played
unfolding made_text
made_run load summary made x sink sink_after played made_is r = record {
  text = r.text;
  run = made_text load summary made x r.text made_is r.run;
  held = r.held;
  written = r.written;
}

-- the text of a deployment that was read
read_text : (summary : Bool) (input bytes : List ℕ) (old new : Option (List ℕ)) (d : Deployment) (text : List ℕ) → Consumes old new input → IsAtEnd new → length input ≤ input_limit → bytes ≡ input
    → deployment_of bytes ≡ Means d → IsTextOf summary d text → IsRunText (Some (record { load = None; summary = summary })) old new text
read_text summary input bytes old new d text taken ended short same meant r = record {
  asks = record { load = None; summary = summary };
  input = input;
  deployment = d;
  history = r.history;
  accepted = refl;
  read = (taken, ended, short);
  meant = ap deployment_of (sym same) ∙ meant;
  ran = r.ran;
  is = r.is;
}

-- a deployment that was read, and its run
pub read_run : (summary : Bool) (input bytes : List ℕ) (old new sink sink_after : Option (List ℕ)) (played : Option View) → Consumes old new input → IsAtEnd new → length input ≤ input_limit → bytes ≡ input
    → RunOfInput summary bytes sink sink_after played → Runs (Some (record { load = None; summary = summary })) old new sink sink_after played
unfolding read_text
read_run summary input bytes old new sink sink_after played taken ended short same r = record {
  text = r.run.text;
  run = read_text summary input bytes old new r.deployment r.run.text taken ended short same r.meant r.run.run;
  held = r.run.held;
  written = r.run.written;
}

-- a line that offends, and an input that is too long
pub offends : (input bytes : List ℕ) (old new sink sink_after : Option (List ℕ)) → Consumes old new input → IsAtEnd new → length input ≤ input_limit → bytes ≡ input → Offence bytes sink sink_after → Refuses old new sink sink_after
offends = line_is_refused deployment_of

pub too_long : (old new sink sink_after : Option (List ℕ)) → TakesCount old new (input_limit + 1) → Appends sink sink_after too_long_line → Refuses old new sink sink_after
too_long = length_is_refused deployment_of

-- Where it was cut off.
pub cut_made : (load : Load) (summary : Bool) (made : Deployment) (x sink sink_after : Option (List ℕ)) → made ≡ generated load.number load.size → Cuts (IsTextOf summary made) sink sink_after
    → Cuts (IsRunText (Some (record { load = Some load; summary = summary })) x x) sink sink_after
cut_made load summary made x sink sink_after made_is = cuts_so (λ text. made_text load summary made x text made_is)

pub cut_input : (summary : Bool) (input bytes : List ℕ) (old new sink sink_after : Option (List ℕ)) → Consumes old new input → IsAtEnd new → length input ≤ input_limit → bytes ≡ input → Cuts (IsAnswer summary bytes) sink sink_after
    → Cuts (IsOutput (Some (record { load = None; summary = summary })) old new) sink sink_after
cut_input summary input bytes old new sink sink_after taken ended short same = cuts_so by
  where
    by : (text : List ℕ) → IsAnswer summary bytes text → IsOutput (Some (record { load = None; summary = summary })) old new text
    by text (inl r) = inl (read_text summary input bytes old new r.0 text taken ended short same r.1 r.2)
    by text (inr r) = inr (line_refuses deployment_of input bytes old new text taken ended short same r)

pub cut_too_long : (asked : Option Asked) (old new sink sink_after : Option (List ℕ)) → TakesCount old new (input_limit + 1) → WritesFront sink sink_after too_long_line → Cuts (IsOutput asked old new) sink sink_after
cut_too_long asked old new sink sink_after t front = inr (too_long_line, inr (length_refuses deployment_of old new t), front)

-- what is run is what the words ask for
pub run_of : (words : Option Asked) (asked : Asked) (load : Option Load) (left after sink sink_after : Option (List ℕ)) (played : Option View) → words ≡ Some asked → asked.load ≡ load
    → Runs (Some (record { load = load; summary = asked.summary })) left after sink sink_after played → Runs words left after sink sink_after played
run_of words asked load left after sink sink_after played w l r =
    let asks : Some (record { load = load; summary = asked.summary }) ≡ words = ap (λ (x : Option Load). Some (record { load = x; summary = asked.summary })) (sym l) ∙ sym w in
    subst (λ (o : Option Asked). Runs o left after sink sink_after played) asks r

pub cut_of : (words : Option Asked) (asked : Asked) (load : Option Load) (left after sink sink_after : Option (List ℕ)) → words ≡ Some asked → asked.load ≡ load
    → Cuts (IsOutput (Some (record { load = load; summary = asked.summary })) left after) sink sink_after → Cuts (IsOutput words left after) sink sink_after
cut_of words asked load left after sink sink_after w l =
    let asks : Some (record { load = load; summary = asked.summary }) ≡ words = ap (λ (x : Option Load). Some (record { load = x; summary = asked.summary })) (sym l) ∙ sym w in
    subst (λ (o : Option Asked). Cuts (IsOutput o left after) sink sink_after) asks

pub cut_run : {asked : Option Asked} {left after sink sink_after : Option (List ℕ)} → Cuts (IsRunText asked left after) sink sink_after → Cuts (IsOutput asked left after) sink sink_after
cut_run = cuts_so (λ text r. inl r)

pub reads_of : (words : Option Asked) (asked : Asked) → words ≡ Some asked → asked.load ≡ None → reads_source words ≡ true
reads_of words asked w l = rw (w, l) refl
