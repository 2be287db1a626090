-- The services after an operation of a client, and what its next one needs.
use Rattle.std.specs.Prelude.{◌≡◌, ℕ, ◌<◌, ◌^◌, true, false, ⊤, List, ◌∷◌, length, Some}
use Rattle.fk_print.specs.declared.entry.Entry.{Entry}
use Rattle.fk_print.specs.declared.op.Op.{Op}
use Rattle.fk_print.specs.declared.op.Op.TheVariants as op
use Rattle.fk_queue.specs.Meaning as post
use Rattle.fk_store.specs.Meaning as table
use Rattle.fk_user.specs.Meaning as user
use Rattle.fk_watch.specs.Meaning as watches
use Rattle.fk_watch.specs.Meaning.{Watches}
use Rattle.fk_stand.specs.Posts.{post_after}
use Rattle.fk_stand.specs.Standing.{Standing}
use Rattle.fk_spec.specs.Plan.{Plan, asked, is_client}
use Rattle.fk_spec.specs.Client.{client_in, client_op}
use Rattle.fk_spec.specs.Lanes.{inbox_of}
use Rattle.fk_spec.specs.Start.{written}
use Rattle.fk_spec.specs.Next.{IsHistory}
use Rattle.fk_spec.specs.Schedule as schedule
use Rattle.fk_client.specs.Fit.{IsFit}
use Rattle.fk_client.specs.Idle.{is_idle}
use Rattle.fk_client.specs.Meaning.{Meaning}
use Rattle.fk_client.specs.Services.{post_by, table_by, user_by, watches_by}
use Rattle.fk_tree.specs.declared.request.Request.{Request}
use Rattle.fk_wire.specs.Limits.{IsLimitedRequest}
use Rattle.fk_law_watch.specs.FirstNumbers.{ReadsAreReads}
use Rattle.fk_agree_client.specs.Inbox.{CanBeSaid}
use Rattle.fk_agree_client.specs.Standing.{IsClient}

-- An operation of a client leaves the services as the longer history says.
abbrev pub ClientIsWritten : Type 0
ClientIsWritten =
    (p : Plan) (c : ℕ) (e : Entry) (h : List Entry) (m : Meaning) (t : table.Meaning) (q : post.Meaning) (u : user.Meaning) (w : Watches) → IsHistory p (e ∷ h) → client_in e.op ≡ Some c → is_client p c ≡ true → IsClient p c h m
    → Standing p h t q u w → Standing p (e ∷ h) (table_by e.op t) (post_by m e.op q) (user_by e.op u) (watches_by m e.op w)

-- what a client makes where each service is to fail: a fault, or a refusal of its own
abbrev pub IsFailed : Op → Type 0
IsFailed (op.PongFault session) = ⊤
IsFailed (op.TakeFault session) = ⊤
IsFailed (op.LookFault session command) = ⊤
IsFailed (op.SendFault session command) = ⊤
IsFailed (op.ReadFault session command) = ⊤
IsFailed (op.WatchFault session command) = ⊤
IsFailed (op.Local session command) = ⊤
IsFailed _ = ⊥

-- So does its fault, once the services that it didn't call are calmed.
abbrev pub ClientFaultIsWritten : Type 0
ClientFaultIsWritten =
    (p : Plan) (e : Entry) (h : List Entry) (m : Meaning) (t : table.Meaning) (q : post.Meaning) (u : user.Meaning) (w : Watches) → IsHistory p (e ∷ h) → IsFailed e.op → Standing p h t q u w
    → Standing p (e ∷ h) (table.calmed (table_by e.op (table.armed t))) (post.calmed (post_by m e.op (post.armed q))) (user.calmed (user_by e.op (user.armed u))) (watches.calmed (watches_by m e.op (watches.armed w)))

-- It has nothing to do exactly where the rules say so.
abbrev pub ClientIsIdle : Type 0
ClientIsIdle =
    (p : Plan) (c : ℕ) (h : List Entry) (m : Meaning) (q : post.Meaning) → IsHistory p h → is_client p c ≡ true → IsClient p c h m → q ≡ post_after p h q.faults
    → is_idle q m ≡ schedule.is_idle (client_op p c h)

-- what client c asks is within the limits of messages
abbrev pub AsksWithinLimits : Plan → ℕ → Type 0
AsksWithinLimits p c = (i : ℕ) (r : Request) → written (asked p c i) ≡ Some r → IsLimitedRequest r

-- Where it has something to do, what its operation needs holds in a history shorter than 2^62.
abbrev pub ClientIsFit : Type 0
ClientIsFit =
    (p : Plan) (c : ℕ) (h : List Entry) (m : Meaning) (t : table.Meaning) (q : post.Meaning) (u : user.Meaning) (w : Watches) → ReadsAreReads p → IsHistory p h → length h < 2 ^ 62 → is_client p c ≡ true → AsksWithinLimits p c
    → CanBeSaid p h (inbox_of p c h) → IsClient p c h m → Standing p h t q u w → is_idle q m ≡ false → IsFit t q w m
