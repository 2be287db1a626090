-- What is so of each deployment that some bytes mean.
use Rattle.std.proofs.Common.{◌≡◌, ℕ, ℤ, pos, negsuc, ◌<◌, ◌≤◌, ◌+◌, Bool, true, false, List, [], ◌∷◌, ◌++◌, Some, length, codes}
use Rattle.std.specs.Prelude.{◌&&◌, not}
use Rattle.std.specs.List.{list_all, AllByRecursion}
use Rattle.base64.specs.Engines.{standard}
use Rattle.base64.specs.GeneralPurpose.{encode_of}
use Rattle.fk_print.specs.ClientNames.{is_client_name}
use Rattle.fk_print.specs.Words.{client}
use Rattle.fk_print.specs.declared.event.Event.TheVariants as event
use Rattle.fk_script.specs.EventLines.{session}
use Rattle.fk_script.specs.Lines.{Word, is, is_one_of, starts_with}
use Rattle.fk_script.specs.Printed.{block_names}
use Rattle.fk_script.specs.Values.{most_clients, most_commands, most_turns, decoded, most_event, most_time, most_version}
use Rattle.fk_script.specs.declared.command.Command.{Command}
use Rattle.fk_script.specs.declared.command.Command.TheVariants as command
use Rattle.fk_script.specs.declared.command.PartCommand.{PartCommand}
use Rattle.fk_script.specs.declared.command.PartCommand.TheVariants as part
use Rattle.fk_script.specs.declared.deployment.Block.{Block}
use Rattle.fk_script.specs.declared.deployment.Deployment.{Deployment}
use Rattle.fk_script.specs.declared.deployment.Turn.{Turn}
use Rattle.fk_script.specs.declared.deployment.Turn.TheVariants as turn
use Rattle.fk_script.proofs.CleanWords.{IsWord}

-- a path's word doesn't start with `-`
pub record IsPath (w : Word) : Type 0 where
  pub word : IsWord w
  pub undashed : starts_with 45 w ≡ false

-- a part's path isn't `;`
pub record IsPartPath (w : Word) : Type 0 where
  pub path : IsPath w
  pub apart : is w (codes ";") ≡ false

-- data that is read back from its base64
abbrev pub IsData : List ℕ → Type 0
IsData bytes = decoded (encode_of standard bytes) ≡ Some bytes

abbrev pub IsVersion : ℤ → Type 0
IsVersion (pos n) = n ≤ most_version
IsVersion (negsuc n) = n ≡ 0

abbrev pub IsPart : PartCommand → Type 0
IsPart (part.Create path bytes eph) = IsPartPath path × IsData bytes
IsPart (part.Set path bytes version) = IsPartPath path × IsData bytes × IsVersion version
IsPart (part.Delete path version) = IsPartPath path × IsVersion version

-- a multi has one to sixteen parts
pub record AreParts (parts : List PartCommand) : Type 0 where
  pub each : AllByRecursion IsPart parts
  pub some : 0 < length parts
  pub few : length parts ≤ 16

abbrev pub IsCommand : Command → Type 0
IsCommand (command.Create path bytes seq eph wait) = IsPath path × IsData bytes
IsCommand (command.Set path bytes version wait) = IsPath path × IsData bytes × IsVersion version
IsCommand (command.Delete path version wait) = IsPath path × IsVersion version
IsCommand (command.Get path watch) = IsPath path
IsCommand (command.Stat path watch) = IsPath path
IsCommand (command.Ls path watch) = IsPath path
IsCommand command.Close = Unit {0}
IsCommand (command.Multi parts wait) = AreParts parts

-- how much a command counts
abbrev pub command_weight : Command → ℕ
command_weight (command.Multi parts wait) = length parts + 1
command_weight c = 1

abbrev pub commands_weight : List Command → ℕ
commands_weight [] = 0
commands_weight (c ∷ cs) = command_weight c + commands_weight cs

abbrev pub blocks_weight : List Block → ℕ
blocks_weight [] = 0
blocks_weight (b ∷ bs) = commands_weight b.commands + blocks_weight bs

abbrev pub IsBlock : Block → Type 0
IsBlock b = AllByRecursion IsCommand b.commands

-- none of these names stands before, nor among the names in front of it
abbrev pub are_new : List Word → List Word → Bool
are_new before [] = true
are_new before (n ∷ ns) = not (is_one_of before n) && are_new (before ++ n ∷ []) ns

-- the session of a client, by the client's name
pub record IsSession (names : List Word) (c : ℕ) : Type 0 where
  pub name : Word
  pub word : IsWord name
  pub named : client names c ≡ name
  pub known : is_one_of names name ≡ true
  pub back : session names name ≡ c

abbrev pub IsTurn : List Word → Turn → Type 0
IsTurn names (turn.One (event.Client c)) = IsSession names c
IsTurn names (turn.One (event.Deliver c)) = IsSession names c × (is (client names c) (codes "leader") ≡ false) × (is (client names c) (codes "watch") ≡ false)
IsTurn names (turn.One event.Leader) = Unit {0}
IsTurn names (turn.One event.Watch) = Unit {0}
IsTurn names (turn.One (event.Beat c)) = IsSession names c
IsTurn names (turn.One (event.Step n)) = n ≤ most_event
IsTurn names (turn.One (event.Crash n)) = n ≤ most_event
IsTurn names (turn.One (event.Fail n)) = n ≤ most_event
IsTurn names (turn.One (event.FailClient c)) = IsSession names c
IsTurn names (turn.One (event.Clock m)) = m ≤ most_event
IsTurn names turn.Drain = Unit {0}

-- clients with names of their own
pub record AreClients (blocks : List Block) : Type 0 where
  pub named : list_all is_client_name (block_names blocks) ≡ true
  pub apart : are_new [] (block_names blocks) ≡ true
  pub few : length (block_names blocks) ≤ most_clients
  pub commands : AllByRecursion IsBlock blocks
  pub light : blocks_weight blocks ≤ most_commands

pub record IsSound (d : Deployment) : Type 0 where
  pub lock : d.config.lock ≤ most_time
  pub beat : d.config.beat ≤ most_time
  pub clients : AreClients d.clients
  pub turns : AllByRecursion (IsTurn (block_names d.clients)) d.turns
  pub short : length d.turns ≤ most_turns
  pub idle : d.scheduled ≡ false → d.turns ≡ []
