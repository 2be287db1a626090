-- Each command that a client began is answered, or the client keeps it.
use Rattle.std.specs.Prelude.{◌≡◌, ℕ, ◌==◌, ◌≤◌, ◌||◌, Bool, true, false, List, [], ◌∷◌}
use Rattle.fk_print.specs.declared.entry.Entry.{Entry}
use Rattle.fk_spec.specs.Plan.{Plan}
use Rattle.fk_spec.specs.Client.{client_of, Sent}
use Rattle.fk_spec.specs.Schedule.{is_answered}
use Rattle.fk_spec.specs.Next.{IsHistory}

-- whether command i is one of these
abbrev pub keeps_command : ℕ → List Sent → Bool
keeps_command i [] = false
keeps_command i (s ∷ ss) = (s.command == i) || keeps_command i ss

-- Each command that a client began has its line, or the client keeps it.
abbrev pub BegunAreAnsweredOrKept : Type 0
BegunAreAnsweredOrKept = (p : Plan) (c i : ℕ) (h : List Entry) → IsHistory p h → 1 ≤ i → i ≤ (client_of p c h).begun → (is_answered c i h || keeps_command i (client_of p c h).sent) ≡ true
