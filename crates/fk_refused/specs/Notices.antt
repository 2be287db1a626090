-- Notifications that fit no watch, and are refused. Most change the run of a client that reads `/x` with a watch and
-- then sets it: its notification stands at place 1.
use Rattle.std.specs.Prelude.{ℕ, true, false, List, [], ◌∷◌, negsuc, codes}
use Rattle.fk_base.specs.Path.{PathNames}
use Rattle.fk_print.specs.declared.line.Line.{Line}
use Rattle.fk_script.specs.declared.deployment.Deployment.{Deployment}
use Rattle.fk_spec.specs.Plan.{plan_of}
use Rattle.fk_spec.specs.Promises.{NotificationsFit}
use Rattle.fk_spec.specs.Scenarios.{entry}
use Rattle.fk_spec.specs.PublicLines.{lines_of}
use Rattle.fk_tree.specs.declared.change.Change.{Change}
use Rattle.fk_tree.specs.declared.change.Kind.{Kind}
use Rattle.fk_refused.specs.Changing.{printing, starting_from, two_clients, only_printing}
use Rattle.fk_tree.specs.declared.change.Change.TheVariants as change
use Rattle.fk_tree.specs.declared.change.Kind.TheVariants as kind
use Rattle.fk_print.specs.declared.event.Event.TheVariants as event
use Rattle.fk_print.specs.declared.line.Act.TheVariants as act
use Rattle.fk_print.specs.declared.line.Line.TheVariants as line
use Rattle.fk_print.specs.declared.line.Shown.TheVariants as shown
use Rattle.fk_print.specs.declared.line.Verb.TheVariants as verb
use Rattle.fk_print.specs.declared.op.Op.TheVariants as op
use Rattle.fk_script.specs.declared.command.Command.TheVariants as command
use Rattle.fk_spec.specs.OwnWatch as own
use Rattle.fk_spec.specs.ReadHeld as held

-- a notification of client 1
abbrev pub notice : (tx : ℕ) → Kind → Change → PathNames → List Line
notice tx k c path = line.Notice 1 tx k c path ∷ []

abbrev pub x_watched : PathNames
x_watched = codes "x" ∷ []

-- one client watches the data and the children of the root; the other changes both, the data first
abbrev pub both_watched : Deployment
both_watched = two_clients (command.Get (codes "/") true ∷ command.Ls (codes "/") true ∷ []) (command.Set (codes "/") (codes "1") (negsuc 0) true ∷ command.Create (codes "/x") (codes "2") false false true ∷ [])

abbrev pub both_changed : List Line
both_changed = line.Tx (record { tx = 2; moment = 0; session = 2; k = 2; act = act.Create x_watched (codes "2") false false })
    ∷ line.Tx (record { tx = 1; moment = 0; session = 2; k = 1; act = act.Set [] (codes "1") (negsuc 0) })
    ∷ line.Reply 1 2 verb.Ls (shown.Listed 0 [])
    ∷ line.Reply 1 1 verb.Get (shown.Got 0 [] (record { czxid = 0; mzxid = 0; pzxid = 0; ctime = 0; mtime = 0; version = 0; cversion = 0; aversion = 0; owner = 0; length = 0; children = 0 }))
    ∷ []

-- A notification shows another change than its transaction made.
abbrev pub OtherChange : Type 0
OtherChange = NotificationsFit (plan_of own.deployed) (printing 1 (notice 2 kind.Data change.Deleted x_watched) own.entries) → ⊥

-- A notification shows another transaction than the one that fired its watch.
abbrev pub OtherTransaction : Type 0
OtherTransaction = NotificationsFit (plan_of own.deployed) (printing 1 (notice 1 kind.Data change.Changed x_watched) own.entries) → ⊥

-- A notification is of a kind of which no watch is held.
abbrev pub NoticeOfAnotherKind : Type 0
NoticeOfAnotherKind = NotificationsFit (plan_of own.deployed) (printing 1 (notice 2 kind.Child change.Changed x_watched) own.entries) → ⊥

-- A notification is of a path of which no watch is held.
abbrev pub NoticeOfAnotherPath : Type 0
NoticeOfAnotherPath = NotificationsFit (plan_of own.deployed) (printing 1 (notice 2 kind.Data change.Changed []) own.entries) → ⊥

-- A notification comes to a client that holds no watch.
abbrev pub NoticeOfAnotherClient : Type 0
NoticeOfAnotherClient = NotificationsFit (plan_of held.deployed) (printing 21 (line.Notice 2 1 kind.Data change.Changed [] ∷ []) held.entries) → ⊥

-- A watch is notified twice.
abbrev pub SecondNotice : Type 0
SecondNotice = NotificationsFit (plan_of own.deployed) (printing 1 (line.Notice 1 2 kind.Data change.Changed x_watched ∷ notice 2 kind.Data change.Changed x_watched) own.entries) → ⊥

-- A notification comes before the transaction line that fires its watch.
abbrev pub NoticeBeforeItsLine : Type 0
NoticeBeforeItsLine = NotificationsFit (plan_of own.deployed) (printing 12 (notice 2 kind.Data change.Changed x_watched) (printing 1 [] own.entries)) → ⊥

-- A watch is notified of the transaction at which it was set.
abbrev pub NoticeOfItsOwnNumber : Type 0
NoticeOfItsOwnNumber = NotificationsFit (plan_of own.deployed) (entry (event.Client 1) (op.TakeWatch 1 1) (notice 1 kind.Data change.Created x_watched) ∷ starting_from 24 own.entries) → ⊥

-- A client is notified of transaction 2, and then of transaction 1.
abbrev pub NoticesOutOfOrder : Type 0
NoticesOutOfOrder = NotificationsFit (plan_of both_watched) (only_printing (line.Notice 1 1 kind.Data change.Changed [] ∷ line.Notice 1 2 kind.Child change.Child [] ∷ both_changed)) → ⊥

-- A notification shows the second transaction that touched its path.
abbrev pub NoticeOfTheLaterChange : Type 0
NoticeOfTheLaterChange = NotificationsFit (plan_of own.deployed) (only_printing (line.Notice 1 3 kind.Data change.Changed x_watched ∷ line.Tx (record { tx = 3; moment = 11; session = 1; k = 3; act = act.Set x_watched (codes "2") (negsuc 0) }) ∷ lines_of (starting_from 11 own.entries))) → ⊥
