-- The line of a printed turn says the turn.
use Rattle.std.proofs.Common.{◌≡◌, ℕ, ◌<◌, ◌≤◌, ◌^◌, true, false, List, [], ◌∷◌, refl, sym, subst, codes, arith}
use Rattle.std.specs.Fmt.{decimal}
use Rattle.fk_print.specs.Words.{client}
use Rattle.fk_print.specs.declared.event.Event.TheVariants as event
use Rattle.fk_script.specs.EventLines.{is_event_name, event_fits, number_word, client_word, is_bad_number, is_no_client, session, turn_of}
use Rattle.fk_script.specs.Lines.{Word, is, is_one_of, first}
use Rattle.fk_script.specs.Printed.{line_text, turn_words}
use Rattle.fk_script.specs.SoFar.{kind_of}
use Rattle.fk_script.specs.Values.{most_event}
use Rattle.fk_script.specs.declared.place.Kind.TheVariants as kind
use Rattle.fk_script.specs.declared.place.Place.TheVariants as place
use Rattle.fk_script.specs.declared.deployment.Turn.{Turn}
use Rattle.fk_script.specs.declared.deployment.Turn.TheVariants as turn
use Rattle.fk_script.proofs.CleanWords.{IsWord, AreWords, plain_word}
use Rattle.fk_script.proofs.Numerals.{number_back, number_word as clean_number}
use Rattle.fk_script.proofs.Sound.{IsTurn}

-- the words of a turn, one by one
abbrev pub turn_line : List Word → Turn → List Word
turn_line names (turn.One (event.Client c)) = codes "client" ∷ client names c ∷ []
turn_line names (turn.One (event.Deliver c)) = codes "deliver" ∷ client names c ∷ []
turn_line names (turn.One event.Leader) = codes "deliver" ∷ codes "leader" ∷ []
turn_line names (turn.One event.Watch) = codes "deliver" ∷ codes "watch" ∷ []
turn_line names (turn.One (event.Beat c)) = codes "beat" ∷ client names c ∷ []
turn_line names (turn.One (event.Step n)) = codes "step" ∷ decimal n ∷ []
turn_line names (turn.One (event.Crash n)) = codes "crash" ∷ decimal n ∷ []
turn_line names (turn.One (event.Fail n)) = codes "fail" ∷ decimal n ∷ []
turn_line names (turn.One (event.FailClient c)) = codes "fail" ∷ codes "client" ∷ client names c ∷ []
turn_line names (turn.One (event.Clock m)) = codes "clock" ∷ decimal m ∷ []
turn_line names turn.Drain = codes "drain" ∷ []

pub same_line : (names : List Word) (t : Turn) → line_text (turn_words names t) ≡ line_text (turn_line names t)
same_line names (turn.One (event.Client c)) = refl
same_line names (turn.One (event.Deliver c)) = refl
same_line names (turn.One event.Leader) = refl
same_line names (turn.One event.Watch) = refl
same_line names (turn.One (event.Beat c)) = refl
same_line names (turn.One (event.Step n)) = refl
same_line names (turn.One (event.Crash n)) = refl
same_line names (turn.One (event.Fail n)) = refl
same_line names (turn.One (event.FailClient c)) = refl
same_line names (turn.One (event.Clock m)) = refl
same_line names turn.Drain = refl

-- a line that says this turn
pub record IsTurnLine (names ws : List Word) (t : Turn) : Type 0 where
  pub clean : AreWords ws
  pub kind : kind_of place.Schedule ws ≡ kind.Event
  pub known : is_event_name (first ws) ≡ true
  pub words : event_fits ws ≡ true
  pub number : is_bad_number (number_word ws) ≡ false
  pub client : is_no_client names (client_word ws) ≡ false
  pub meant : turn_of names ws ≡ t

client_line : (names : List Word) (w : Word) (c : ℕ) → IsWord w → is_one_of names w ≡ true → session names w ≡ c
    → IsTurnLine names (codes "client" ∷ w ∷ []) (turn.One (event.Client c))
client_line names w c clean known back = record {
  clean = (plain_word (codes "client") refl refl, (clean, tt));
  kind = refl;
  known = refl;
  words = refl;
  number = refl;
  client = rw known refl;
  meant = rw back refl;
}

deliver_line : (names : List Word) (w : Word) (c : ℕ) → IsWord w → is_one_of names w ≡ true → session names w ≡ c → is w (codes "leader") ≡ false → is w (codes "watch") ≡ false
    → IsTurnLine names (codes "deliver" ∷ w ∷ []) (turn.One (event.Deliver c))
deliver_line names w c clean known back l m = record {
  clean = (plain_word (codes "deliver") refl refl, (clean, tt));
  kind = refl;
  known = refl;
  words = refl;
  number = refl;
  client = rw (l, m, known) refl;
  meant = rw (l, m, back) refl;
}

beat_line : (names : List Word) (w : Word) (c : ℕ) → IsWord w → is_one_of names w ≡ true → session names w ≡ c
    → IsTurnLine names (codes "beat" ∷ w ∷ []) (turn.One (event.Beat c))
beat_line names w c clean known back = record {
  clean = (plain_word (codes "beat") refl refl, (clean, tt));
  kind = refl;
  known = refl;
  words = refl;
  number = refl;
  client = rw known refl;
  meant = rw back refl;
}

fail_client_line : (names : List Word) (w : Word) (c : ℕ) → IsWord w → is_one_of names w ≡ true → session names w ≡ c
    → IsTurnLine names (codes "fail" ∷ codes "client" ∷ w ∷ []) (turn.One (event.FailClient c))
fail_client_line names w c clean known back = record {
  clean = (plain_word (codes "fail") refl refl, (plain_word (codes "client") refl refl, (clean, tt)));
  kind = refl;
  known = refl;
  words = refl;
  number = refl;
  client = rw known refl;
  meant = rw back refl;
}

small : (n : ℕ) → n ≤ most_event → n < 2 ^ 64
small n h = omega arith

-- the printed line of a turn says the turn
pub turn_reads : (names : List Word) (t : Turn) → IsTurn names t → IsTurnLine names (turn_line names t) t
turn_reads names (turn.One (event.Client c)) h =
    subst (λ w. IsTurnLine names (codes "client" ∷ w ∷ []) (turn.One (event.Client c))) (sym h.named) (client_line names h.name c h.word h.known h.back)
turn_reads names (turn.One (event.Deliver c)) h =
    subst (λ w. IsTurnLine names (codes "deliver" ∷ w ∷ []) (turn.One (event.Deliver c))) (sym h.0.named)
    (deliver_line names h.0.name c h.0.word h.0.known h.0.back (subst (λ w. is w (codes "leader") ≡ false) h.0.named h.1) (subst (λ w. is w (codes "watch") ≡ false) h.0.named h.2))
turn_reads names (turn.One event.Leader) h = record { clean = (plain_word (codes "deliver") refl refl, (plain_word (codes "leader") refl refl, tt)); kind = refl; known = refl; words = refl; number = refl; client = refl; meant = refl }
turn_reads names (turn.One event.Watch) h = record { clean = (plain_word (codes "deliver") refl refl, (plain_word (codes "watch") refl refl, tt)); kind = refl; known = refl; words = refl; number = refl; client = refl; meant = refl }
turn_reads names (turn.One (event.Beat c)) h =
    subst (λ w. IsTurnLine names (codes "beat" ∷ w ∷ []) (turn.One (event.Beat c))) (sym h.named) (beat_line names h.name c h.word h.known h.back)
turn_reads names (turn.One (event.Step n)) h = record {
  clean = (plain_word (codes "step") refl refl, (clean_number n (small n h), tt));
  kind = refl;
  known = refl;
  words = refl;
  client = refl;
  number = rw (number_back most_event n (small n h) h) refl;
  meant = rw (number_back most_event n (small n h) h) refl;
}
turn_reads names (turn.One (event.Crash n)) h = record {
  clean = (plain_word (codes "crash") refl refl, (clean_number n (small n h), tt));
  kind = refl;
  known = refl;
  words = refl;
  client = refl;
  number = rw (number_back most_event n (small n h) h) refl;
  meant = rw (number_back most_event n (small n h) h) refl;
}
turn_reads names (turn.One (event.Fail n)) h = record {
  clean = (plain_word (codes "fail") refl refl, (clean_number n (small n h), tt));
  kind = refl;
  known = refl;
  words = refl;
  client = refl;
  number = rw (number_back most_event n (small n h) h) refl;
  meant = rw (number_back most_event n (small n h) h) refl;
}
turn_reads names (turn.One (event.FailClient c)) h =
    subst (λ w. IsTurnLine names (codes "fail" ∷ codes "client" ∷ w ∷ []) (turn.One (event.FailClient c))) (sym h.named) (fail_client_line names h.name c h.word h.known h.back)
turn_reads names (turn.One (event.Clock m)) h = record {
  clean = (plain_word (codes "clock") refl refl, (clean_number m (small m h), tt));
  kind = refl;
  known = refl;
  words = refl;
  client = refl;
  number = rw (number_back most_event m (small m h) h) refl;
  meant = rw (number_back most_event m (small m h) h) refl;
}
turn_reads names turn.Drain h = record { clean = (plain_word (codes "drain") refl refl, tt); kind = refl; known = refl; words = refl; number = refl; client = refl; meant = refl }
