-- The deployment that a number and a size give.
use Rattle.std.specs.Prelude.{ℕ, zero, suc, ◌+◌, ◌*◌, ◌/◌, ◌%◌, ◌==◌, nat_le, true, false, negsuc, if◌then◌else◌, List, [], ◌∷◌, ◌++◌, codes}
use Rattle.std.specs.Fmt.{decimal}
use Rattle.fk_print.specs.declared.event.Event.TheVariants as event
use Rattle.fk_script.specs.declared.command.Command.{Command}
use Rattle.fk_script.specs.declared.command.Command.TheVariants as command
use Rattle.fk_script.specs.declared.deployment.Block.{Block}
use Rattle.fk_script.specs.declared.deployment.Deployment.{Deployment}
use Rattle.fk_script.specs.declared.deployment.Turn.{Turn}
use Rattle.fk_script.specs.declared.deployment.Turn.TheVariants as turn

-- the state that a draw leaves
abbrev pub next_state : ℕ → ℕ
next_state x = (x * 1103515245 + 12345) % 2147483648

-- the state after so many draws
abbrev pub state_after : ℕ → ℕ → ℕ
state_after number zero = number
state_after number (suc n) = next_state (state_after number n)

-- The n-th draw is the state after n draws, without its lower 16 bits.
abbrev pub draw : ℕ → ℕ → ℕ
draw number n = state_after number n / 65536

-- the path of one of eight nodes, or of a node below it
abbrev pub node_path : ℕ → List ℕ → List ℕ
node_path node end = codes "/p" ++ decimal (node % 8) ++ end

-- the j-th command of a client, by what was drawn for its kind and for its node
abbrev pub generated_command : ℕ → ℕ → ℕ → Command
generated_command j kind node =
    if nat_le (kind % 8) 1 then command.Create (node_path node []) (decimal j) false false true
    else if kind % 8 == 2 then command.Create (node_path node (codes "/q")) (decimal j) true false true
    else if kind % 8 == 3 then command.Set (node_path node []) (decimal j) (negsuc 0) true
    else if kind % 8 == 4 then command.Get (node_path node []) false
    else if kind % 8 == 5 then command.Ls (codes "/") true
    else if kind % 8 == 6 then command.Delete (node_path node []) (negsuc 0) true
    else command.Create (node_path node (codes "/e")) (decimal j) false true true

-- so many commands, two draws for each
abbrev pub generated_commands : ℕ → ℕ → List Command
generated_commands number zero = []
generated_commands number (suc j) =
    generated_commands number j ++ generated_command (suc j) (draw number (suc (2 * j))) (draw number (suc (suc (2 * j)))) ∷ []

-- the i-th turn, by what was drawn for its kind and for what it is about
abbrev pub generated_turn : ℕ → ℕ → ℕ → Turn
generated_turn i kind about =
    let session = 1 + about % 4 in
    if nat_le (kind % 16) 3 then turn.One (event.Client session)
    else if nat_le (kind % 16) 6 then turn.One (event.Deliver session)
    else if nat_le (kind % 16) 8 then turn.One event.Leader
    else if kind % 16 == 9 then turn.One event.Watch
    else if nat_le (kind % 16) 13 then turn.One (event.Step (1 + about % i))
    else if kind % 16 == 14 then turn.One (event.Beat session)
    else turn.One (event.Clock i)

-- so many turns, two draws for each
abbrev pub generated_turns : ℕ → ℕ → List Turn
generated_turns number zero = []
generated_turns number (suc i) =
    generated_turns number i ++ generated_turn (suc i) (draw number (suc (2 * i))) (draw number (suc (suc (2 * i)))) ∷ []

-- a client whose commands begin at this state
abbrev pub generated_block : List ℕ → ℕ → ℕ → Block
generated_block name number size = record { name = name; commands = generated_commands number size }

-- Four clients with `size` commands each, and then 20 times as many turns. The draws go on from one to the next.
abbrev pub generated : ℕ → ℕ → Deployment
generated number size = record {
  config = record { lock = 10; beat = 30 };
  clients = generated_block (codes "c1") number size
      ∷ generated_block (codes "c2") (state_after number (2 * size)) size
      ∷ generated_block (codes "c3") (state_after number (4 * size)) size
      ∷ generated_block (codes "c4") (state_after number (6 * size)) size ∷ [];
  turns = generated_turns (state_after number (8 * size)) (20 * size);
  scheduled = true;
}
