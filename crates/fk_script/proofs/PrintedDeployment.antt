-- The printed form of a sound deployment means that deployment.
use Rattle.std.proofs.Common.{◌≡◌, ℕ, ◌<◌, ◌≤◌, ◌+◌, ◌^◌, Bool, true, false, List, [], ◌∷◌, ◌++◌, Some, None, length, refl, sym, ◌∙◌, ap, codes, arith, add-zero, append_assoc}
use Rattle.std.specs.Prelude.{◌&&◌, not, nat_le, nat_lt}
use Rattle.std.specs.Fmt.{decimal}
use Rattle.std.specs.List.{list_all, flat_map, AllByRecursion}
use Rattle.std.proofs.lemmas.List.{append-nil, length-append}
use Rattle.std.proofs.lemmas.Bool.{and_parts, le-ltb, lt-leb, not-true}
use Rattle.std.proofs.lemmas.Bool.Decides.{nat_tests}
use Rattle.fk_print.specs.ClientNames.{is_client_name, is_letter_or_digit, starts_with_letter, is_reserved}
use Rattle.fk_print.specs.Words.{is_plain}
use Rattle.fk_script.specs.Lines.{Word, lines, is_one_of}
use Rattle.fk_script.specs.Printed.{line_text, and_words, command_words, turn_words, block_text, schedule_text, block_names, deployment_text}
use Rattle.fk_script.specs.Reading.{Means, deployment_of}
use Rattle.fk_script.specs.Reasons.{reason}
use Rattle.fk_script.specs.SoFar.{SoFar, after, kind_of, meant, nothing, with_command}
use Rattle.fk_script.specs.Values.{most_time}
use Rattle.fk_script.specs.declared.command.Command.{Command}
use Rattle.fk_script.specs.declared.command.Command.TheVariants as command
use Rattle.fk_script.specs.declared.deployment.Block.{Block}
use Rattle.fk_script.specs.declared.deployment.Deployment.{Deployment}
use Rattle.fk_script.specs.declared.deployment.Turn.{Turn}
use Rattle.fk_script.specs.declared.deployment.Turn.TheVariants as turn
use Rattle.fk_print.specs.declared.event.Event.TheVariants as event
use Rattle.fk_script.specs.declared.place.Kind.TheVariants as kind
use Rattle.fk_script.specs.declared.place.Place.{Place}
use Rattle.fk_script.specs.declared.place.Place.TheVariants as place
use Rattle.fk_script.proofs.CleanWords.{IsWord, plain_word, passing_are_plain}
use Rattle.fk_script.proofs.CodedData.{empty_cons}
use Rattle.fk_script.proofs.Numerals.{number_back, number_word}
use Rattle.fk_script.proofs.Passing.{passes, passes_line, reading_is, AreSome}
use Rattle.fk_script.proofs.PrintedCommands.{IsCommandLine, command_reads}
use Rattle.fk_script.proofs.PrintedTurns.{IsTurnLine, turn_line, same_line, turn_reads}
use Rattle.fk_script.proofs.PrintedWords.{command_clean}
use Rattle.fk_script.proofs.Sound.{IsCommand, IsBlock, IsTurn, IsSound, AreClients, command_weight, commands_weight, blocks_weight, are_new}

-- what is said behind the lines of the lock and the beat
abbrev said : ℕ → ℕ → Place → List Word → List Block → ℕ → List Turn → SoFar
said lock beat p names clients commands turns =
    record { place = p; lock = Some lock; beat = Some beat; names = names; clients = clients; commands = commands; turns = turns }

abbrev block : Word → List Command → Block
block name commands = record { name = name; commands = commands }

behind_and_some : (wait : Bool) (w : Word) (ws : List Word) → AreSome (and_words wait ++ w ∷ ws)
behind_and_some true w ws = tt
behind_and_some false w ws = tt

command_some : (c : Command) → AreSome (command_words c)
command_some (command.Create path bytes seq eph wait) = behind_and_some wait (codes "create") _
command_some (command.Set path bytes version wait) = behind_and_some wait (codes "set") _
command_some (command.Delete path version wait) = behind_and_some wait (codes "delete") _
command_some (command.Get path watch) = tt
command_some (command.Stat path watch) = tt
command_some (command.Ls path watch) = tt
command_some command.Close = tt
command_some (command.Multi parts wait) = behind_and_some wait (codes "multi") _

command_reason : (s : SoFar) (ws : List Word) (c : Command) → IsCommandLine ws c → s.commands + command_weight c ≤ 2048 → reason s kind.Command ws ≡ None
command_reason s ws c l few =
    let light : nat_lt 2048 (s.commands + command_weight c) ≡ false = le-ltb 2048 (s.commands + command_weight c) few in
    rw (l.unknown, l.option, l.words, l.version, l.base64, l.weight, light) refl

-- a command more for the last client
with_last : (c : Command) (bs : List Block) (name : Word) (done : List Command) → with_command c (bs ++ block name done ∷ []) ≡ bs ++ block name (done ++ c ∷ []) ∷ []
with_last c [] name done = refl
with_last c (b ∷ []) name done = refl
with_last c (b ∷ d ∷ bs) name done = ap (λ rest. b ∷ rest) (with_last c (d ∷ bs) name done)

command_after : (lock beat : ℕ) (names : List Word) (bs : List Block) (name : Word) (done : List Command) (k : ℕ) (ws : List Word) (c : Command) → IsCommandLine ws c
    → after kind.Command ws (said lock beat place.Client names (bs ++ block name done ∷ []) k []) ≡ said lock beat place.Client names (bs ++ block name (done ++ c ∷ []) ∷ []) (k + command_weight c) []
command_after lock beat names bs name done k ws c l = rw (l.meant, l.weight, with_last c bs name done) refl

run_commands : (lock beat : ℕ) (names : List Word) (bs : List Block) (name : Word) (done cs : List Command) (k : ℕ) (rest : List ℕ)
    → AllByRecursion IsCommand cs → k + commands_weight cs ≤ 2048
    → passes (said lock beat place.Client names (bs ++ block name done ∷ []) k []) (lines (flat_map (λ c. line_text (command_words c)) cs ++ rest))
    ≡ passes (said lock beat place.Client names (bs ++ block name (done ++ cs) ∷ []) (k + commands_weight cs) []) (lines rest)
run_commands lock beat names bs name done [] k rest h few = rw (append-nil done, add-zero k) refl
run_commands lock beat names bs name done (c ∷ cs) k rest h few =
    let l = command_reads c h.0 in
    let more : List ℕ = flat_map (λ d. line_text (command_words d)) cs in
    let light : k + command_weight c + commands_weight cs ≤ 2048 = omega arith in
    let weights : k + command_weight c + commands_weight cs ≡ k + (command_weight c + commands_weight cs) = omega arith in
    ap (λ text. passes (said lock beat place.Client names (bs ++ block name done ∷ []) k []) (lines text)) (append_assoc (line_text (command_words c)) more rest)
    ∙ passes_line (said lock beat place.Client names (bs ++ block name done ∷ []) k []) (command_words c) kind.Command (more ++ rest) (command_some c) (command_clean c h.0) l.kind
    (command_reason (said lock beat place.Client names (bs ++ block name done ∷ []) k []) (command_words c) c l (omega arith))
    ∙ ap (λ s. passes s (lines (more ++ rest))) (command_after lock beat names bs name done k (command_words c) c l)
    ∙ run_commands lock beat names bs name (done ++ c ∷ []) cs (k + command_weight c) rest h.1 light
    ∙ ap (λ n. passes (said lock beat place.Client names (bs ++ block name (done ++ c ∷ [] ++ cs) ∷ []) n []) (lines rest)) weights
    ∙ ap (λ ds. passes (said lock beat place.Client names (bs ++ block name ds ∷ []) (k + (command_weight c + commands_weight cs)) []) (lines rest)) (append_assoc done (c ∷ []) cs)

-- a client's name is a word
letter_plain : (b : ℕ) → is_letter_or_digit b ≡ true → is_plain b ≡ true
letter_plain b h = grind (arith, nat_tests)

three : (a b c d : Bool) → (a && b && c && d) ≡ true → (a ≡ true) × (b ≡ true)
three true true c d h = (refl, refl)
three true false c d h = cc
three false b c d h = cc

pub name_word : (name : Word) → is_client_name name ≡ true → IsWord name
name_word [] h = cc h
name_word (b ∷ bs) h =
    let both = three (starts_with_letter (b ∷ bs)) (list_all is_letter_or_digit (b ∷ bs)) (nat_le (length (b ∷ bs)) 32) (not (is_reserved (b ∷ bs))) h in
    plain_word (b ∷ bs) (empty_cons b bs) (passing_are_plain is_letter_or_digit letter_plain (b ∷ bs) both.1)

-- the place isn't the schedule
abbrev IsOpen : Place → Type 0
IsOpen place.Start = Unit {0}
IsOpen place.Client = Unit {0}
IsOpen place.Schedule = ⊥

client_kind : (p : Place) (name : Word) → IsOpen p → kind_of p (codes "client" ∷ name ∷ []) ≡ kind.Client
client_kind place.Start name o = refl
client_kind place.Client name o = refl
client_kind place.Schedule name o = absurd o

client_reason : (s : SoFar) (name : Word) → is_client_name name ≡ true → is_one_of s.names name ≡ false → length s.names < 64
    → reason s kind.Client (codes "client" ∷ name ∷ []) ≡ None
client_reason s name n f few = rw (n, f, lt-leb 64 (length s.names) few) refl

abbrev place_behind : List Block → Place → Place
place_behind [] p = p
place_behind (b ∷ bs) p = place.Client

-- clients behind others, with names and commands that fit in
record FitIn (names : List Word) (k : ℕ) (blocks : List Block) : Type 0 where
  named : list_all is_client_name (block_names blocks) ≡ true
  apart : are_new names (block_names blocks) ≡ true
  few : length names + length (block_names blocks) ≤ 64
  commands : AllByRecursion IsBlock blocks
  light : k + blocks_weight blocks ≤ 2048

open_behind : (blocks : List Block) (p : Place) → IsOpen p → IsOpen (place_behind blocks p)
open_behind [] p o = o
open_behind (b ∷ bs) p o = tt

behind_client : (blocks : List Block) → place_behind blocks place.Client ≡ place.Client
behind_client [] = refl
behind_client (b ∷ bs) = refl

run_block : (lock beat : ℕ) (p : Place) (names : List Word) (bs : List Block) (k : ℕ) (b : Block) (rest : List ℕ) → IsOpen p
    → is_client_name b.name ≡ true → is_one_of names b.name ≡ false → length names < 64 → IsBlock b → k + commands_weight b.commands ≤ 2048
    → passes (said lock beat p names bs k []) (lines (block_text b ++ rest))
    ≡ passes (said lock beat place.Client (names ++ b.name ∷ []) (bs ++ b ∷ []) (k + commands_weight b.commands) []) (lines rest)
run_block lock beat p names bs k b rest o named new few commands light =
    let own : List ℕ = flat_map (λ c. line_text (command_words c)) b.commands in
    let s : SoFar = said lock beat p names bs k [] in
    ap (λ text. passes s (lines text)) (append_assoc (line_text (codes "client" ∷ b.name ∷ [])) own rest)
    ∙ passes_line s (codes "client" ∷ b.name ∷ []) kind.Client (own ++ rest) tt (plain_word (codes "client") refl refl, (name_word b.name named, tt)) (client_kind p b.name o) (client_reason s b.name named new few)
    ∙ run_commands lock beat (names ++ b.name ∷ []) bs b.name [] b.commands k rest commands light

fit_front : (names : List Word) (k : ℕ) (b : Block) (blocks : List Block) → FitIn names k (b ∷ blocks)
    → (is_client_name b.name ≡ true) × (is_one_of names b.name ≡ false) × (length names < 64) × (k + commands_weight b.commands ≤ 2048)
fit_front names k b blocks f = (
  (and_parts (is_client_name b.name) (list_all is_client_name (block_names blocks)) f.named).0,
  not-true (is_one_of names b.name) (and_parts (not (is_one_of names b.name)) (are_new (names ++ b.name ∷ []) (block_names blocks)) f.apart).0,
  omega (arith, f.few),
  omega (arith, f.light),
)

fit_rest : (names : List Word) (k : ℕ) (b : Block) (blocks : List Block) → FitIn names k (b ∷ blocks) → FitIn (names ++ b.name ∷ []) (k + commands_weight b.commands) blocks
fit_rest names k b blocks f = record {
  named = (and_parts (is_client_name b.name) (list_all is_client_name (block_names blocks)) f.named).1;
  apart = (and_parts (not (is_one_of names b.name)) (are_new (names ++ b.name ∷ []) (block_names blocks)) f.apart).1;
  few = omega (arith, f.few, length-append names (b.name ∷ []));
  commands = f.commands.1;
  light = omega (arith, f.light);
}

run_blocks : (lock beat : ℕ) (p : Place) (names : List Word) (bs : List Block) (k : ℕ) (blocks : List Block) (rest : List ℕ) → IsOpen p → FitIn names k blocks
    → passes (said lock beat p names bs k []) (lines (flat_map block_text blocks ++ rest))
    ≡ passes (said lock beat (place_behind blocks p) (names ++ block_names blocks) (bs ++ blocks) (k + blocks_weight blocks) []) (lines rest)
run_blocks lock beat p names bs k [] rest o f = rw (append-nil names, append-nil bs, add-zero k) refl
run_blocks lock beat p names bs k (b ∷ blocks) rest o f =
    let more : List ℕ = flat_map block_text blocks in
    let front = fit_front names k b blocks f in
    let weights : k + commands_weight b.commands + blocks_weight blocks ≡ k + (commands_weight b.commands + blocks_weight blocks) = omega arith in
    ap (λ text. passes (said lock beat p names bs k []) (lines text)) (append_assoc (block_text b) more rest)
    ∙ run_block lock beat p names bs k b (more ++ rest) o front.0 front.1 front.2 f.commands.0 front.3
    ∙ run_blocks lock beat place.Client (names ++ b.name ∷ []) (bs ++ b ∷ []) (k + commands_weight b.commands) blocks rest tt (fit_rest names k b blocks f)
    ∙ rw (behind_client blocks, weights, append_assoc names (b.name ∷ []) (block_names blocks), append_assoc bs (b ∷ []) blocks) refl

turn_some : (names : List Word) (t : Turn) → AreSome (turn_line names t)
turn_some names (turn.One (event.Client c)) = tt
turn_some names (turn.One (event.Deliver c)) = tt
turn_some names (turn.One event.Leader) = tt
turn_some names (turn.One event.Watch) = tt
turn_some names (turn.One (event.Beat c)) = tt
turn_some names (turn.One (event.Step n)) = tt
turn_some names (turn.One (event.Crash n)) = tt
turn_some names (turn.One (event.Fail n)) = tt
turn_some names (turn.One (event.FailClient c)) = tt
turn_some names (turn.One (event.Clock m)) = tt
turn_some names turn.Drain = tt

event_reason : (s : SoFar) (ws : List Word) (t : Turn) → IsTurnLine s.names ws t → length s.turns < 65536 → reason s kind.Event ws ≡ None
event_reason s ws t l few = rw (l.known, l.words, l.number, l.client, lt-leb 65536 (length s.turns) few) refl

run_turns : (lock beat : ℕ) (names : List Word) (bs : List Block) (k : ℕ) (done turns : List Turn) (rest : List ℕ)
    → AllByRecursion (IsTurn names) turns → length done + length turns ≤ 65536
    → passes (said lock beat place.Schedule names bs k done) (lines (flat_map (λ t. line_text (turn_words names t)) turns ++ rest))
    ≡ passes (said lock beat place.Schedule names bs k (done ++ turns)) (lines rest)
run_turns lock beat names bs k done [] rest h few = rw (append-nil done) refl
run_turns lock beat names bs k done (t ∷ turns) rest h few =
    let l = turn_reads names t h.0 in
    let more : List ℕ = flat_map (λ u. line_text (turn_words names u)) turns in
    let s : SoFar = said lock beat place.Schedule names bs k done in
    ap (λ text. passes s (lines text)) (append_assoc (line_text (turn_words names t)) more rest ∙ ap (λ line. line ++ (more ++ rest)) (same_line names t))
    ∙ passes_line s (turn_line names t) kind.Event (more ++ rest) (turn_some names t) l.clean l.kind (event_reason s (turn_line names t) t l (omega arith))
    ∙ ap (λ u. passes (said lock beat place.Schedule names bs k (done ++ u ∷ [])) (lines (more ++ rest))) l.meant
    ∙ run_turns lock beat names bs k (done ++ t ∷ []) turns rest h.1 (omega (arith, length-append done (t ∷ [])))
    ∙ ap (λ ts. passes (said lock beat place.Schedule names bs k ts) (lines rest)) (append_assoc done (t ∷ []) turns)

schedule_kind : (p : Place) → IsOpen p → kind_of p (codes "schedule" ∷ []) ≡ kind.Schedule
schedule_kind place.Start o = refl
schedule_kind place.Client o = refl
schedule_kind place.Schedule o = absurd o

-- the schedule, where there is one
run_schedule : (lock beat : ℕ) (p : Place) (names : List Word) (bs : List Block) (k : ℕ) (turns : List Turn) → IsOpen p
    → AllByRecursion (IsTurn names) turns → length turns ≤ 65536
    → passes (said lock beat p names bs k []) (lines (schedule_text names true turns)) ≡ Some (said lock beat place.Schedule names bs k turns)
run_schedule lock beat p names bs k turns o h few =
    let all : List ℕ = flat_map (λ t. line_text (turn_words names t)) turns in
    passes_line (said lock beat p names bs k []) (codes "schedule" ∷ []) kind.Schedule all tt (plain_word (codes "schedule") refl refl, tt) (schedule_kind p o) refl
    ∙ ap (λ text. passes (said lock beat place.Schedule names bs k []) (lines text)) (sym (append-nil all))
    ∙ run_turns lock beat names bs k [] turns [] h (omega arith)

time_small : (n : ℕ) → n ≤ most_time → n < 2 ^ 64
time_small n h = omega arith

-- the lines of the lock and the beat
run_times : (lock beat : ℕ) (rest : List ℕ) → lock ≤ most_time → beat ≤ most_time
    → passes nothing (lines (line_text (codes "lock" ∷ decimal lock ∷ []) ++ (line_text (codes "beat" ∷ decimal beat ∷ []) ++ rest)))
    ≡ passes (said lock beat place.Start [] [] 0 []) (lines rest)
run_times lock beat rest g h =
    let l = number_back most_time lock (time_small lock g) g in
    let b = number_back most_time beat (time_small beat h) h in
    passes_line nothing (codes "lock" ∷ decimal lock ∷ []) kind.Lock (line_text (codes "beat" ∷ decimal beat ∷ []) ++ rest) tt (plain_word (codes "lock") refl refl, (number_word lock (time_small lock g), tt)) refl (rw l refl)
    ∙ ap (λ o. passes (record { place = place.Start; lock = o; beat = None; names = []; clients = []; commands = 0; turns = [] }) (lines (line_text (codes "beat" ∷ decimal beat ∷ []) ++ rest))) l
    ∙ passes_line (record { place = place.Start; lock = Some lock; beat = None; names = []; clients = []; commands = 0; turns = [] }) (codes "beat" ∷ decimal beat ∷ []) kind.Beat rest tt (plain_word (codes "beat") refl refl, (number_word beat (time_small beat h), tt)) refl (rw b refl)
    ∙ ap (λ o. passes (record { place = place.Start; lock = Some lock; beat = o; names = []; clients = []; commands = 0; turns = [] }) (lines rest)) b

fit_all : (blocks : List Block) → AreClients blocks → FitIn [] 0 blocks
fit_all blocks c = record { named = c.named; apart = c.apart; few = omega (arith, c.few); commands = c.commands; light = omega (arith, c.light) }

-- the text in the order in which it is read
in_order : (a b c d : List ℕ) → a ++ b ++ c ++ d ≡ a ++ (b ++ (c ++ d))
in_order a b c d = simp append_assoc

abbrev deployed : ℕ → ℕ → List Block → List Turn → Bool → Deployment
deployed lock beat clients turns scheduled = record { config = record { lock = lock; beat = beat }; clients = clients; turns = turns; scheduled = scheduled }

to_schedule : (lock beat : ℕ) (clients : List Block) (turns : List Turn) (scheduled : Bool) → IsSound (deployed lock beat clients turns scheduled)
    → passes nothing (lines (deployment_text (deployed lock beat clients turns scheduled)))
    ≡ passes (said lock beat (place_behind clients place.Start) (block_names clients) clients (0 + blocks_weight clients) []) (lines (schedule_text (block_names clients) scheduled turns))
to_schedule lock beat clients turns scheduled s =
    ap (λ text. passes nothing (lines text)) (in_order (line_text (codes "lock" ∷ decimal lock ∷ [])) (line_text (codes "beat" ∷ decimal beat ∷ [])) (flat_map block_text clients) (schedule_text (block_names clients) scheduled turns))
    ∙ run_times lock beat (flat_map block_text clients ++ schedule_text (block_names clients) scheduled turns) s.lock s.beat
    ∙ run_blocks lock beat place.Start [] [] 0 clients (schedule_text (block_names clients) scheduled turns) tt (fit_all clients s.clients)

open_meant : (lock beat : ℕ) (p : Place) (names : List Word) (clients : List Block) (k : ℕ) → IsOpen p → meant (said lock beat p names clients k []) ≡ deployed lock beat clients [] false
open_meant lock beat place.Start names clients k o = refl
open_meant lock beat place.Client names clients k o = refl
open_meant lock beat place.Schedule names clients k o = absurd o

sound_means : (lock beat : ℕ) (clients : List Block) (turns : List Turn) (scheduled : Bool) → IsSound (deployed lock beat clients turns scheduled)
    → deployment_of (deployment_text (deployed lock beat clients turns scheduled)) ≡ Means (deployed lock beat clients turns scheduled)
sound_means lock beat clients turns true s =
    reading_is [] (lines (deployment_text (deployed lock beat clients turns true))) (said lock beat place.Schedule (block_names clients) clients (0 + blocks_weight clients) turns)
    (to_schedule lock beat clients turns true s
    ∙ run_schedule lock beat (place_behind clients place.Start) (block_names clients) clients (0 + blocks_weight clients) turns (open_behind clients place.Start tt) s.turns s.short)
sound_means lock beat clients turns false s =
    reading_is [] (lines (deployment_text (deployed lock beat clients turns false))) (said lock beat (place_behind clients place.Start) (block_names clients) clients (0 + blocks_weight clients) [])
    (to_schedule lock beat clients turns false s)
    ∙ ap Means (open_meant lock beat (place_behind clients place.Start) (block_names clients) clients (0 + blocks_weight clients) (open_behind clients place.Start tt)
    ∙ ap (λ ts. deployed lock beat clients ts false) (sym (s.idle refl)))

pub sound_reads_back : (d : Deployment) → IsSound d → deployment_of (deployment_text d) ≡ Means d
sound_reads_back d s = sound_means d.config.lock d.config.beat d.clients d.turns d.scheduled s
