-- What a deployment that some bytes mean asks, against the limits of messages.
use Rattle.std.specs.Prelude.{◌≡◌, ℕ, ◌≤◌, List, length, Some}
use Rattle.fk_tree.specs.declared.request.Request.{Request}
use Rattle.fk_wire.specs.Limits.{IsLimitedRequest}
use Rattle.fk_base.specs.Limits.{IsNumber}
use Rattle.fk_wire.specs.Readable.{IsSentReadable}
use Rattle.fk_print.specs.declared.entry.Entry.{Entry}
use Rattle.fk_script.specs.PrintLaws.{IsMeant}
use Rattle.fk_script.specs.Values.{most_clients, most_commands}
use Rattle.fk_script.specs.declared.deployment.Deployment.{Deployment}
use Rattle.fk_spec.specs.Plan.{asked, nth, or_empty, plan_of}
use Rattle.fk_spec.specs.Start.{request_of, written}

-- The request of each command is within the limits of messages.
abbrev pub AsksAreLimited : Type 0
AsksAreLimited = (d : Deployment) (c i : ℕ) (r : Request) → IsMeant d → written (asked (plan_of d) c i) ≡ Some r → IsLimitedRequest r

-- So is the request of each message that a session's lane is given, after any entries.
abbrev pub RequestsAreLimited : Type 0
RequestsAreLimited = (d : Deployment) (c k : ℕ) (h : List Entry) (r : Request) → IsMeant d → request_of (plan_of d) c k h ≡ Some r → IsLimitedRequest r

-- The text of a message with the request of a command is read back.
abbrev pub AsksAreReadable : Type 0
AsksAreReadable = (d : Deployment) (c i : ℕ) (r : Request) (seen : ℕ) → IsMeant d → written (asked (plan_of d) c i) ≡ Some r → IsNumber seen → IsSentReadable (record { request = r; seen = seen })

-- So is that of each message that a session's lane is given.
abbrev pub RequestsAreReadable : Type 0
RequestsAreReadable = (d : Deployment) (c k : ℕ) (h : List Entry) (r : Request) (seen : ℕ) → IsMeant d → request_of (plan_of d) c k h ≡ Some r → IsNumber seen → IsSentReadable (record { request = r; seen = seen })

-- Each client has at most 2,048 commands.
abbrev pub CommandsAreFew : Type 0
CommandsAreFew = (d : Deployment) (c : ℕ) → IsMeant d → length (or_empty (nth (plan_of d).asks c)) ≤ most_commands

-- There are at most 64 clients.
abbrev pub ClientsAreFew : Type 0
ClientsAreFew = (d : Deployment) → IsMeant d → length (plan_of d).asks ≤ most_clients
