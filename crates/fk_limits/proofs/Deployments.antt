-- What a deployment asks is within the limits of messages.
use Rattle.std.proofs.Common.{◌≡◌, ℕ, zero, suc, ◌≤◌, List, [], ◌∷◌, Option, Some, None, length, true, refl, subst, ap, sym, arith}
use Rattle.std.specs.Prelude.{IfSome}
use Rattle.std.specs.List.{AllByRecursion}
use Rattle.fk_tree.specs.declared.request.Request.{Request}
use Rattle.fk_tree.specs.declared.request.Request.TheVariants as request
use Rattle.fk_wire.proofs.Readable.{sent_readable}
use Rattle.fk_script.specs.Lines.{lines}
use Rattle.fk_script.specs.PrintLaws.{IsMeant}
use Rattle.fk_script.specs.Printed.{block_names}
use Rattle.fk_script.specs.declared.command.Command.{Command}
use Rattle.fk_script.specs.declared.command.Command.TheVariants as command
use Rattle.fk_script.specs.declared.deployment.Block.{Block}
use Rattle.fk_script.specs.declared.deployment.Deployment.{Deployment}
use Rattle.fk_script.proofs.Passing.{reading_was}
use Rattle.fk_script.proofs.Sound.{IsBlock, IsCommand, IsSound, blocks_weight, command_weight, commands_weight}
use Rattle.fk_script.proofs.SoundLines.{read_is_sound}
use Rattle.fk_spec.specs.Plan.{Ask, all_asks, asked, asks_of, item_after, nth, or_empty, plan_of}
use Rattle.fk_spec.specs.Start.{Origin, Sent, Evicted, origin_of, request_from, request_in, written}
use Rattle.fk_limits.specs.Deployments.{AsksAreLimited, AsksAreReadable, ClientsAreFew, CommandsAreFew, RequestsAreLimited, RequestsAreReadable}
use Rattle.fk_limits.proofs.Wants.{Fits, FitsRequest, want_fits}

pub is_sound : (d : Deployment) → IsMeant d → IsSound d
is_sound d m = let read = reading_was [] (lines m.0) d m.1 in subst IsSound read.2 (read_is_sound m.0 read.0 read.1)

-- ---- requests

abbrev FitsAsk : Ask → Type 0
FitsAsk a = Fits a.want

abbrev FitAsks : List Ask → Type 0
FitAsks = AllByRecursion FitsAsk

asks_fit : (cs : List Command) → AllByRecursion IsCommand cs → FitAsks (asks_of cs)
asks_fit [] h = tt
asks_fit (c ∷ cs) h = (want_fits c h.0, asks_fit cs h.1)

client_fits : (bs : List Block) (n : ℕ) → AllByRecursion IsBlock bs → FitAsks (or_empty (item_after (all_asks bs) n))
client_fits [] n h = tt
client_fits (b ∷ bs) zero h = asks_fit b.commands h.0
client_fits (b ∷ bs) (suc n) h = client_fits bs n h.1

nth_fits : (bs : List Block) (c : ℕ) → AllByRecursion IsBlock bs → FitAsks (or_empty (nth (all_asks bs) c))
nth_fits bs zero h = tt
nth_fits bs (suc n) h = client_fits bs n h

item_fits : (xs : List Ask) (n : ℕ) → FitAsks xs → IfSome (item_after xs n) FitsAsk
item_fits [] n h = tt
item_fits (x ∷ xs) zero h = h.0
item_fits (x ∷ xs) (suc n) h = item_fits xs n h.1

command_fits : (xs : List Ask) (i : ℕ) → FitAsks xs → IfSome (nth xs i) FitsAsk
command_fits xs zero h = tt
command_fits xs (suc n) h = item_fits xs n h

some_fits : (o : Option Request) (r : Request) → IfSome o FitsRequest → o ≡ Some r → FitsRequest r
some_fits None r h e = cc e
some_fits (Some x) r h e = let same : x ≡ r = cc in subst FitsRequest same h

written_fits : (o : Option Ask) (r : Request) → IfSome o FitsAsk → written o ≡ Some r → FitsRequest r
written_fits None r h e = cc e
written_fits (Some a) r h e = some_fits (request_in a.want) r h e

ask_fits : (d : Deployment) (c i : ℕ) (r : Request) → IsMeant d → written (asked (plan_of d) c i) ≡ Some r → FitsRequest r
ask_fits d c i r m = written_fits (asked (plan_of d) c i) r (command_fits (or_empty (nth (plan_of d).asks c)) i (nth_fits d.clients c (is_sound d m).clients.commands))

request_fits : (d : Deployment) (c : ℕ) (o : Option Origin) (r : Request) → IsMeant d → request_from (plan_of d) c o ≡ Some r → FitsRequest r
request_fits d c None r m e = cc e
request_fits d c (Some (Sent i seen)) r m e = ask_fits d c i r m e
request_fits d c (Some Evicted) r m e = some_fits (Some (request.Close true)) r (tt, tt) e

pub asks_are_limited : AsksAreLimited
asks_are_limited d c i r m e = (ask_fits d c i r m e).0

pub requests_are_limited : RequestsAreLimited
requests_are_limited d c k h r m e = (request_fits d c (origin_of c k h) r m e).0

pub asks_are_readable : AsksAreReadable
asks_are_readable d c i r seen m e n = let f = ask_fits d c i r m e in sent_readable (record { request = r; seen = seen }) ((f.0, n), f.1)

pub requests_are_readable : RequestsAreReadable
requests_are_readable d c k h r seen m e n = let f = request_fits d c (origin_of c k h) r m e in sent_readable (record { request = r; seen = seen }) ((f.0, n), f.1)

-- ---- commands and clients

weighs : (c : Command) → 1 ≤ command_weight c
weighs (command.Multi parts wait) = omega arith
weighs c = omega arith

asks_weigh : (cs : List Command) → length (asks_of cs) ≤ commands_weight cs
asks_weigh [] = omega arith
asks_weigh (c ∷ cs) = omega (arith, weighs c, asks_weigh cs)

client_is_light : (bs : List Block) (n m : ℕ) → blocks_weight bs ≤ m → length (or_empty (item_after (all_asks bs) n)) ≤ m
client_is_light [] n m l = omega arith
client_is_light (b ∷ bs) zero m l = omega (arith, asks_weigh b.commands, l)
client_is_light (b ∷ bs) (suc n) m l = client_is_light bs n m (omega (arith, l))

nth_is_light : (bs : List Block) (c m : ℕ) → blocks_weight bs ≤ m → length (or_empty (nth (all_asks bs) c)) ≤ m
nth_is_light bs zero m l = omega arith
nth_is_light bs (suc n) m l = client_is_light bs n m l

pub commands_are_few : CommandsAreFew
commands_are_few d c m = nth_is_light d.clients c 2048 (is_sound d m).clients.light

pub one_each : (bs : List Block) → length (all_asks bs) ≡ length (block_names bs)
one_each [] = refl
one_each (b ∷ bs) = ap suc (one_each bs)

pub clients_are_few : ClientsAreFew
clients_are_few d m = subst (λ (n : ℕ). n ≤ 64) (sym (one_each d.clients)) (is_sound d m).clients.few
