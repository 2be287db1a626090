-- What lines say is sound where none offends.
use Rattle.std.proofs.Common.{◌≡◌, ◌≢◌, ℕ, suc, ◌<◌, ◌≤◌, ◌+◌, Bool, true, false, cond, List, [], ◌∷◌, ◌++◌, Option, Some, None, length, refl, sym, ◌∙◌, ap, subst, codes, arith, append_assoc}
use Rattle.std.specs.Prelude.{◌==◌, ◌&&◌, not, nat_le, unwrap_or, IfSome}
use Rattle.std.specs.List.{list_all, AllByRecursion}
use Rattle.std.specs.Str.{is_utf8}
use Rattle.std.specs.Str.Parse.{digits_value}
use Rattle.std.proofs.lemmas.List.{append-nil, length-append, map-append}
use Rattle.std.proofs.lemmas.Bool.{and_parts, and_from, not-false, leb-false, ltb-false, leb-true}
use Rattle.std.proofs.lemmas.Str.{IsUtf8-from_is_utf8}
use Rattle.std.proofs.lemmas.Option.{same_Some}
use Rattle.fk_print.specs.ClientNames.{is_client_name}
use Rattle.fk_script.specs.CommandLines.{command_line, meant_command, weight}
use Rattle.fk_script.specs.EventLines.{event_fits, turn_of}
use Rattle.fk_script.specs.Lines.{Word, Line, is, is_one_of, lines, onto_line, second, starts_with, words}
use Rattle.fk_script.specs.Printed.{block_names}
use Rattle.fk_script.specs.Reasons.{offence, reason, is_unknown_line, is_unknown_command, is_unknown_event, is_bad_option, is_bad_words, is_bad_count, is_bad_name, is_repeated_name, is_unknown_client, is_bad_base64, is_too_many}
use Rattle.fk_script.specs.SoFar.{SoFar, after, is_schedule, kind_of, meant, nothing, with_command}
use Rattle.fk_script.specs.Values.{is_decimal, most_time, number}
use Rattle.fk_script.specs.declared.command.Command.{Command}
use Rattle.fk_script.specs.declared.deployment.Block.{Block}
use Rattle.fk_script.specs.declared.deployment.Turn.{Turn}
use Rattle.fk_script.specs.declared.place.Kind.{Kind}
use Rattle.fk_script.specs.declared.place.Kind.TheVariants as kind
use Rattle.fk_script.specs.declared.place.Place.{Place}
use Rattle.fk_script.specs.declared.place.Place.TheVariants as place
use Rattle.fk_script.specs.declared.why.Why.{Why}
use Rattle.fk_script.specs.declared.why.Why.TheVariants as why
use Rattle.fk_script.proofs.CleanWords.{AreWords}
use Rattle.fk_script.proofs.JoinedLines.{is_fed}
use Rattle.fk_script.proofs.Passing.{after_line, passes, unless_off}
use Rattle.fk_script.proofs.SoundCommands.{command_read}
use Rattle.fk_script.proofs.SoundTurns.{turn_read}
use Rattle.fk_script.proofs.TextWords.{words_read}
use Rattle.fk_script.proofs.Sound.{IsCommand, IsBlock, IsTurn, IsSound, command_weight, commands_weight, blocks_weight, are_new}

-- the tests that a line passed whose words give no reason
pub record Passed (s : SoFar) (k : Kind) (ws : List Word) : Type 0 where
  pub line : is_unknown_line k ≡ false
  pub command : is_unknown_command k ws ≡ false
  pub words : is_bad_words s k ws ≡ false
  pub name : is_bad_name k ws ≡ false
  pub fresh : is_repeated_name s k ws ≡ false
  pub client : is_unknown_client s k ws ≡ false
  pub few : is_too_many s k ws ≡ false

pub off : (b : Bool) (w : Why) (o : Option Why) → cond b (Some w) o ≡ None → (b ≡ false) × (o ≡ None)
off true w o h = cc h
off false w o h = (refl, h)

pub passed : (s : SoFar) (k : Kind) (ws : List Word) → reason s k ws ≡ None → Passed s k ws
passed s k ws h =
    let a = off (is_unknown_line k) why.UnknownLine _ h in
    let b = off (is_unknown_command k ws) why.UnknownCommand _ a.1 in
    let c = off (is_unknown_event k ws) why.UnknownEvent _ b.1 in
    let d = off (is_bad_option k ws) why.BadOption _ c.1 in
    let e = off (is_bad_words s k ws) why.BadWords _ d.1 in
    let f = off (is_bad_count k ws) why.BadNumber _ e.1 in
    let g = off (is_bad_name k ws) why.BadName _ f.1 in
    let i = off (is_repeated_name s k ws) why.RepeatedName _ g.1 in
    let j = off (is_unknown_client s k ws) why.UnknownClient _ i.1 in
    let l = off (is_bad_base64 k ws) why.BadBase64 _ j.1 in
    let m = off (is_too_many s k ws) why.TooMany _ l.1 in
    record { line = a.0; command = b.0; words = e.0; name = g.0; fresh = i.0; client = j.0; few = m.0 }

-- where a line of each kind stands
step_start : (s l b c d : Bool) (k : Kind) → cond s kind.Skipped (cond l kind.Lock (cond b kind.Beat (cond c kind.Client (cond d kind.Schedule kind.Unknown)))) ≡ k → (k ≢ kind.Command) × (k ≢ kind.Event)
step_start true l b c d k h = (λ e. cc, λ e. cc)
step_start false true b c d k h = (λ e. cc, λ e. cc)
step_start false false true c d k h = (λ e. cc, λ e. cc)
step_start false false false true d k h = (λ e. cc, λ e. cc)
step_start false false false false true k h = (λ e. cc, λ e. cc)
step_start false false false false false k h = (λ e. cc, λ e. cc)

step_client : (s c d : Bool) (k : Kind) → cond s kind.Skipped (cond c kind.Client (cond d kind.Schedule kind.Command)) ≡ k → k ≢ kind.Event
step_client true c d k h = λ e. cc
step_client false true d k h = λ e. cc
step_client false false true k h = λ e. cc
step_client false false false k h = λ e. cc

step_schedule : (s : Bool) (k : Kind) → cond s kind.Skipped kind.Event ≡ k → (k ≢ kind.Command) × (k ≢ kind.Client)
step_schedule true k h = (λ e. cc, λ e. cc)
step_schedule false k h = (λ e. cc, λ e. cc)

skipped_only : (k : Kind) → kind.Skipped ≡ k → (k ≢ kind.Command) × (k ≢ kind.Event) × (k ≢ kind.Client)
skipped_only k h = (λ e. cc, λ e. cc, λ e. cc)

command_place : (p : Place) (ws : List Word) → kind_of p ws ≡ kind.Command → p ≡ place.Client
command_place p [] h = cc h
command_place place.Start (w ∷ ws) h = absurd ((step_start (starts_with 35 w) (is w (codes "lock")) (is w (codes "beat")) (is w (codes "client")) (is w (codes "schedule")) kind.Command h).0 refl)
command_place place.Client (w ∷ ws) h = refl
command_place place.Schedule (w ∷ ws) h = absurd ((step_schedule (starts_with 35 w) kind.Command h).0 refl)

event_place : (p : Place) (ws : List Word) → kind_of p ws ≡ kind.Event → is_schedule p ≡ true
event_place p [] h = cc h
event_place place.Start (w ∷ ws) h = absurd ((step_start (starts_with 35 w) (is w (codes "lock")) (is w (codes "beat")) (is w (codes "client")) (is w (codes "schedule")) kind.Event h).1 refl)
event_place place.Client (w ∷ ws) h = absurd (step_client (starts_with 35 w) (is w (codes "client")) (is w (codes "schedule")) kind.Event h refl)
event_place place.Schedule (w ∷ ws) h = refl

client_place : (p : Place) (ws : List Word) → kind_of p ws ≡ kind.Client → is_schedule p ≡ false
client_place p [] h = cc h
client_place place.Start (w ∷ ws) h = refl
client_place place.Client (w ∷ ws) h = refl
client_place place.Schedule (w ∷ ws) h = absurd ((step_schedule (starts_with 35 w) kind.Client h).1 refl)

-- what is so of what lines say that don't offend
record IsGood (s : SoFar) : Type 0 where
  lock : IfSome s.lock (λ n. n ≤ most_time)
  beat : IfSome s.beat (λ n. n ≤ most_time)
  names : s.names ≡ block_names s.clients
  named : list_all is_client_name s.names ≡ true
  apart : are_new [] s.names ≡ true
  few : length s.names ≤ 64
  blocks : AllByRecursion IsBlock s.clients
  weight : s.commands ≡ blocks_weight s.clients
  light : s.commands ≤ 2048
  turns : AllByRecursion (IsTurn s.names) s.turns
  short : length s.turns ≤ 65536
  idle : is_schedule s.place ≡ false → s.turns ≡ []
  begun : s.place ≡ place.Client → 0 < length s.clients

step_time : (s t : Bool) (v : ℕ) → nat_le v most_time ≡ t → IfSome (cond (s && t) (Some v) None) (λ n. n ≤ most_time)
step_time true true v h = leb-true v most_time h
step_time true false v h = tt
step_time false t v h = tt

time_is : (w : Word) → IfSome (number most_time w) (λ n. n ≤ most_time)
time_is w = step_time (is_decimal w) (nat_le (digits_value 10 w) most_time) (digits_value 10 w) refl

all_names : (names : List Word) (n : Word) → list_all is_client_name names ≡ true → is_client_name n ≡ true → list_all is_client_name (names ++ n ∷ []) ≡ true
all_names [] n g h = rw h refl
all_names (m ∷ names) n g h =
    let both = and_parts (is_client_name m) (list_all is_client_name names) g in
    and_from (is_client_name m) (list_all is_client_name (names ++ n ∷ [])) both.0 (all_names names n both.1 h)

new_names : (before names : List Word) (n : Word) → are_new before names ≡ true → is_one_of (before ++ names) n ≡ false → are_new before (names ++ n ∷ []) ≡ true
new_names before [] n g h = rw (ap (λ ms. is_one_of ms n) (sym (append-nil before)) ∙ h) refl
new_names before (m ∷ names) n g h =
    let both = and_parts (not (is_one_of before m)) (are_new (before ++ m ∷ []) names) g in
    and_from (not (is_one_of before m)) (are_new (before ++ m ∷ []) (names ++ n ∷ [])) both.0
    (new_names (before ++ m ∷ []) names n both.1 (ap (λ ms. is_one_of ms n) (append_assoc before (m ∷ []) names) ∙ h))

all_push : (P : Block → Type 0) (bs : List Block) (b : Block) → AllByRecursion P bs → P b → AllByRecursion P (bs ++ b ∷ [])
all_push P [] b h g = (g, tt)
all_push P (c ∷ bs) b h g = (h.0, all_push P bs b h.1 g)

turns_push : (P : Turn → Type 0) (ts : List Turn) (t : Turn) → AllByRecursion P ts → P t → AllByRecursion P (ts ++ t ∷ [])
turns_push P [] t h g = (g, tt)
turns_push P (u ∷ ts) t h g = (h.0, turns_push P ts t h.1 g)

commands_push : (cs : List Command) (c : Command) → AllByRecursion IsCommand cs → IsCommand c → AllByRecursion IsCommand (cs ++ c ∷ [])
commands_push [] c h g = (g, tt)
commands_push (d ∷ cs) c h g = (h.0, commands_push cs c h.1 g)

weight_push : (cs : List Command) (c : Command) → commands_weight (cs ++ c ∷ []) ≡ commands_weight cs + command_weight c
weight_push [] c = omega arith
weight_push (d ∷ cs) c = omega (arith, weight_push cs c)

weight_empty : (bs : List Block) (name : Word) → blocks_weight (bs ++ record { name = name; commands = [] } ∷ []) ≡ blocks_weight bs
weight_empty [] name = omega arith
weight_empty (b ∷ bs) name = ap (λ n. commands_weight b.commands + n) (weight_empty bs name)

names_with : (c : Command) (bs : List Block) → block_names (with_command c bs) ≡ block_names bs
names_with c [] = refl
names_with c (b ∷ []) = refl
names_with c (b ∷ d ∷ bs) = ap (λ ns. b.name ∷ ns) (names_with c (d ∷ bs))

blocks_with : (c : Command) (bs : List Block) → IsCommand c → AllByRecursion IsBlock bs → AllByRecursion IsBlock (with_command c bs)
blocks_with c [] g h = tt
blocks_with c (b ∷ []) g h = (commands_push b.commands c h.0 g, tt)
blocks_with c (b ∷ d ∷ bs) g h = (h.0, blocks_with c (d ∷ bs) g h.1)

weight_with : (c : Command) (bs : List Block) → 0 < length bs → blocks_weight (with_command c bs) ≡ blocks_weight bs + command_weight c
weight_with c [] h = absurd (omega arith)
weight_with c (b ∷ []) h = omega (arith, weight_push b.commands c)
weight_with c (b ∷ d ∷ bs) h = omega (arith, weight_with c (d ∷ bs) (omega arith))

length_with : (c : Command) (bs : List Block) → length (with_command c bs) ≡ length bs
length_with c [] = refl
length_with c (b ∷ []) = refl
length_with c (b ∷ d ∷ bs) = ap suc (length_with c (d ∷ bs))

no_turns : (names : List Word) (ts : List Turn) → ts ≡ [] → AllByRecursion (IsTurn names) ts
no_turns names ts e = rw e tt

good_client : (s : SoFar) (ws : List Word) → kind_of s.place ws ≡ kind.Client → Passed s kind.Client ws → IsGood s → IsGood (after kind.Client ws s)
good_client s ws e p g =
    let name = second ws in
    let none = g.idle (client_place s.place ws e) in
    record {
      lock = g.lock;
      beat = g.beat;
      names = ap (λ ns. ns ++ name ∷ []) g.names ∙ sym (map-append (λ (b : Block). b.name) s.clients (record { name = name; commands = [] } ∷ []));
      named = all_names s.names name g.named (not-false (is_client_name name) p.name);
      apart = new_names [] s.names name g.apart p.fresh;
      few = omega (arith, leb-false 64 (length s.names) p.few, length-append s.names (name ∷ []));
      blocks = all_push IsBlock s.clients (record { name = name; commands = [] }) g.blocks tt;
      weight = g.weight ∙ sym (weight_empty s.clients name);
      light = g.light;
      turns = no_turns (s.names ++ name ∷ []) s.turns none;
      short = g.short;
      idle = λ _. none;
      begun = λ _. omega (arith, length-append s.clients (record { name = name; commands = [] } ∷ []));
    }

good_command : (s : SoFar) (ws : List Word) → AreWords ws → kind_of s.place ws ≡ kind.Command → Passed s kind.Command ws → IsGood s → IsGood (after kind.Command ws s)
good_command s ws a e p g =
    let c = meant_command (command_line ws) in
    let said = command_read ws a p.command p.words in
    let some = g.begun (command_place s.place ws e) in
    let heavy = weight_with c s.clients some in
    record {
      lock = g.lock;
      beat = g.beat;
      names = g.names ∙ sym (names_with c s.clients);
      named = g.named;
      apart = g.apart;
      few = g.few;
      blocks = blocks_with c s.clients said.0 g.blocks;
      weight = omega (arith, g.weight, said.1, heavy);
      light = ltb-false 2048 (s.commands + weight (command_line ws)) p.few;
      turns = g.turns;
      short = g.short;
      idle = g.idle;
      begun = λ _. omega (arith, length_with c s.clients, some);
    }

good_event : (s : SoFar) (ws : List Word) → AreWords ws → kind_of s.place ws ≡ kind.Event → Passed s kind.Event ws → IsGood s → IsGood (after kind.Event ws s)
good_event s ws a e p g =
    let scheduled = event_place s.place ws e in
    record {
      lock = g.lock;
      beat = g.beat;
      names = g.names;
      named = g.named;
      apart = g.apart;
      few = g.few;
      blocks = g.blocks;
      weight = g.weight;
      light = g.light;
      turns = turns_push (IsTurn s.names) s.turns (turn_of s.names ws) g.turns (turn_read s.names ws a (not-false (event_fits ws) p.words) p.client);
      short = omega (arith, leb-false 65536 (length s.turns) p.few, length-append s.turns (turn_of s.names ws ∷ []));
      idle = λ open_. cc;
      begun = g.begun;
    }

good_after : (s : SoFar) (ws : List Word) (k : Kind) → AreWords ws → kind_of s.place ws ≡ k → Passed s k ws → IsGood s → IsGood (after k ws s)
good_after s ws kind.Skipped a e p g = record { lock = g.lock; beat = g.beat; names = g.names; named = g.named; apart = g.apart; few = g.few; blocks = g.blocks; weight = g.weight; light = g.light; turns = g.turns; short = g.short; idle = g.idle; begun = g.begun }
good_after s ws kind.Lock a e p g = record { lock = time_is (second ws); beat = g.beat; names = g.names; named = g.named; apart = g.apart; few = g.few; blocks = g.blocks; weight = g.weight; light = g.light; turns = g.turns; short = g.short; idle = g.idle; begun = g.begun }
good_after s ws kind.Beat a e p g = record { lock = g.lock; beat = time_is (second ws); names = g.names; named = g.named; apart = g.apart; few = g.few; blocks = g.blocks; weight = g.weight; light = g.light; turns = g.turns; short = g.short; idle = g.idle; begun = g.begun }
good_after s ws kind.Client a e p g = good_client s ws e p g
good_after s ws kind.Schedule a e p g = record { lock = g.lock; beat = g.beat; names = g.names; named = g.named; apart = g.apart; few = g.few; blocks = g.blocks; weight = g.weight; light = g.light; turns = g.turns; short = g.short; idle = λ h. cc h; begun = λ h. cc h }
good_after s ws kind.Command a e p g = good_command s ws a e p g
good_after s ws kind.Event a e p g = good_event s ws a e p g
good_after s ws kind.Unknown a e p g = let bad = p.line in cc bad

-- a line without a line feed inside
abbrev IsFed : Line → Type 0
IsFed l = list_all is_fed l.text ≡ true

onto_fed : (b : ℕ) (ls : List Line) → is_fed b ≡ true → AllByRecursion IsFed ls → AllByRecursion IsFed (onto_line b ls)
onto_fed b [] h hs = (rw h refl, tt)
onto_fed b (l ∷ ls) h hs = (and_from (is_fed b) (list_all is_fed l.text) h hs.0, hs.1)

step_fed : (t : Bool) (b : ℕ) (ls : List Line) → (b == 10) ≡ t → AllByRecursion IsFed ls → AllByRecursion IsFed (cond t (record { text = []; ended = true } ∷ ls) (onto_line b ls))
step_fed true b ls e h = (refl, h)
step_fed false b ls e h = onto_fed b ls (ap not e) h

pub lines_fed : (bs : List ℕ) → AllByRecursion IsFed (lines bs)
lines_fed [] = tt
lines_fed (b ∷ bs) = step_fed (b == 10) b (lines bs) refl (lines_fed bs)

good_line : (s : SoFar) (l : Line) → IsFed l → offence s l ≡ None → IsGood s → IsGood (after_line s l)
good_line s l f o g =
    let u = off (not (is_utf8 l.text)) why.NotUtf8 _ o in
    let e = off (not l.ended) why.Unended _ u.1 in
    let ws = words l.text in
    let clean = words_read l.text (IsUtf8-from_is_utf8 l.text (not-false (is_utf8 l.text) u.0)) f in
    good_after s ws (kind_of s.place ws) clean refl (passed s (kind_of s.place ws) ws e.1) g

step_off : (o : Option Why) (p : Option SoFar) (t : SoFar) → unless_off o p ≡ Some t → (o ≡ None) × (p ≡ Some t)
step_off None p t h = (refl, h)
step_off (Some w) p t h = cc h

good_lines : (ls : List Line) (s t : SoFar) → AllByRecursion IsFed ls → IsGood s → passes s ls ≡ Some t → IsGood t
good_lines [] s t f g h = subst IsGood (same_Some s t h) g
good_lines (l ∷ ls) s t f g h =
    let both = step_off (offence s l) (passes (after_line s l) ls) t h in
    good_lines ls (after_line s l) t f.1 (good_line s l f.0 both.0 g) both.1

good_nothing : IsGood nothing
good_nothing = record { lock = tt; beat = tt; names = refl; named = refl; apart = refl; few = omega arith; blocks = tt; weight = refl; light = omega arith; turns = tt; short = omega arith; idle = λ _. refl; begun = λ h. cc h }

time_or : (o : Option ℕ) (n : ℕ) → n ≤ most_time → IfSome o (λ m. m ≤ most_time) → unwrap_or o n ≤ most_time
time_or None n g h = g
time_or (Some m) n g h = h

sound_from : (s : SoFar) → IsGood s → IsSound (meant s)
sound_from s g = record {
  lock = time_or s.lock 10 (omega arith) g.lock;
  beat = time_or s.beat 30 (omega arith) g.beat;
  clients = record {
    named = subst (λ ns. list_all is_client_name ns ≡ true) g.names g.named;
    apart = subst (λ ns. are_new [] ns ≡ true) g.names g.apart;
    few = subst (λ (ns : List Word). length ns ≤ 64) g.names g.few;
    commands = g.blocks;
    light = subst (λ (n : ℕ). n ≤ 2048) g.weight g.light;
  };
  turns = subst (λ ns. AllByRecursion (IsTurn ns) s.turns) g.names g.turns;
  short = g.short;
  idle = g.idle;
}

-- what lines say that don't offend is sound
pub read_is_sound : (bs : List ℕ) (t : SoFar) → passes nothing (lines bs) ≡ Some t → IsSound (meant t)
read_is_sound bs t h = sound_from t (good_lines (lines bs) nothing t (lines_fed bs) good_nothing h)
