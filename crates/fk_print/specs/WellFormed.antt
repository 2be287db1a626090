-- Which histories are well formed for the names of clients.
use Rattle.std.specs.Prelude.{◌≡◌, ℕ, ◌≤◌, Bool, true, false, ⊤, List, length}
use Rattle.std.specs.List.{AllByRecursion}
use Rattle.std.specs.Str.{is_utf8}
use Rattle.fk_base.specs.Limits.{IsData, IsExpected, IsNumber, IsPath, IsSmall}
use Rattle.fk_base.specs.Path.{Name, is_name}
use Rattle.fk_base.specs.declared.code.Code.{Code}
use Rattle.fk_base.specs.declared.code.Code.TheVariants as code
use Rattle.fk_tree.specs.declared.node.Stat.{Stat}
use Rattle.fk_tree.specs.declared.reply.PartReply.{PartReply}
use Rattle.fk_tree.specs.declared.reply.PartReply.TheVariants as reply
use Rattle.fk_tree.specs.declared.request.Part.{Part}
use Rattle.fk_tree.specs.declared.request.Part.TheVariants as part
use Rattle.fk_print.specs.ClientNames.{are_client_names}
use Rattle.fk_print.specs.declared.entry.Entry.{Entry}
use Rattle.fk_print.specs.declared.event.Event.{Event}
use Rattle.fk_print.specs.declared.event.Event.TheVariants as event
use Rattle.fk_print.specs.declared.line.Act.{Act}
use Rattle.fk_print.specs.declared.line.Act.TheVariants as act
use Rattle.fk_print.specs.declared.line.Line.{Line}
use Rattle.fk_print.specs.declared.line.Line.TheVariants as line
use Rattle.fk_print.specs.declared.line.Shown.{Shown}
use Rattle.fk_print.specs.declared.line.Shown.TheVariants as shown
use Rattle.fk_print.specs.declared.line.Verb.{Verb}
use Rattle.fk_print.specs.declared.line.Verb.TheVariants as verb
use Rattle.fk_print.specs.declared.op.Op.{Op}
use Rattle.fk_print.specs.declared.op.Op.TheVariants as op

-- a client's number is the place of a name
abbrev pub IsClient : List Name → ℕ → Type 0
IsClient names c = (1 ≤ c) × (c ≤ length names)

-- a name that a listing shows is UTF-8
abbrev pub IsShownName : Name → Type 0
IsShownName n = (is_name n ≡ true) × (is_utf8 n ≡ true)

-- an operation
abbrev pub IsOp : List Name → Op → Type 0
IsOp names op.Idle = ⊤
IsOp names (op.Clock m) = IsNumber m
IsOp names (op.Follower n c k) = IsNumber n × IsClient names c × IsNumber k
IsOp names (op.Leader n t) = IsNumber n × IsNumber t
IsOp names (op.Teller n w) = IsNumber n × IsNumber w
IsOp names (op.Beat n c) = IsNumber n × IsClient names c
IsOp names (op.Crash n) = IsNumber n
IsOp names (op.Fault n word) = IsNumber n
IsOp names (op.SessionNew n) = IsNumber n
IsOp names (op.SessionClosed n) = IsNumber n
IsOp names (op.SessionApplied n) = IsNumber n
IsOp names (op.SessionRefused n) = IsNumber n
IsOp names (op.SessionPast n) = IsNumber n
IsOp names (op.Owned n count) = IsNumber n × IsNumber count
IsOp names (op.LockOk n p) = IsNumber n × IsPath p
IsOp names (op.LockBusy n p h m) = IsNumber n × IsPath p × IsNumber h × IsNumber m
IsOp names (op.Push n t) = IsNumber n × IsNumber t
IsOp names (op.RefuseOk n code place m) = IsNumber n × IsSmall place × IsNumber m
IsOp names (op.RefuseSettled n code place m s) = IsNumber n × IsSmall place × IsNumber m × IsNumber s
IsOp names (op.RefuseLock n code place t p h m) = IsNumber n × IsSmall place × IsNumber t × IsPath p × IsNumber h × IsNumber m
IsOp names (op.LostOk n) = IsNumber n
IsOp names (op.LostSettled n s) = IsNumber n × IsNumber s
IsOp names (op.CommitOk n t) = IsNumber n × IsNumber t
IsOp names (op.CommitSettled n t s) = IsNumber n × IsNumber t × IsNumber s
IsOp names (op.CommitLock n t p h m) = IsNumber n × IsNumber t × IsPath p × IsNumber h × IsNumber m
IsOp names (op.Reply n c k) = IsNumber n × IsClient names c × IsNumber k
IsOp names (op.AckOk n) = IsNumber n
IsOp names (op.AckGone n) = IsNumber n
IsOp names (op.PendingYes n t) = IsNumber n × IsNumber t
IsOp names (op.PendingNo n t) = IsNumber n × IsNumber t
IsOp names (op.DropOk n t) = IsNumber n × IsNumber t
IsOp names (op.DropMiss n t d) = IsNumber n × IsNumber t × IsNumber d
IsOp names (op.SweepOk n t f) = IsNumber n × IsNumber t × IsNumber f
IsOp names (op.SweepMiss n t s f) = IsNumber n × IsNumber t × IsNumber s × IsNumber f
IsOp names (op.PutOk n t p) = IsNumber n × IsNumber t × IsPath p
IsOp names (op.PutMiss n t p s) = IsNumber n × IsNumber t × IsPath p × IsNumber s
IsOp names (op.PublishOk n t) = IsNumber n × IsNumber t
IsOp names (op.PublishMiss n t m) = IsNumber n × IsNumber t × IsNumber m
IsOp names (op.Notify n t w) = IsNumber n × IsNumber t × IsNumber w
IsOp names (op.DoneOk n t) = IsNumber n × IsNumber t
IsOp names (op.DoneMiss n t d) = IsNumber n × IsNumber t × IsNumber d
IsOp names (op.Tell n c id) = IsNumber n × IsClient names c × IsNumber id
IsOp names (op.Told n t) = IsNumber n × IsNumber t
IsOp names (op.ProbeClosed n) = IsNumber n
IsOp names (op.ProbeFresh n) = IsNumber n
IsOp names (op.ProbeWaiting n) = IsNumber n
IsOp names (op.ProbeLate n ping m) = IsNumber n × IsNumber ping × IsNumber m
IsOp names (op.Ping n c) = IsNumber n × IsClient names c
IsOp names (op.NoteOk n) = IsNumber n
IsOp names (op.NoteMiss n ping) = IsNumber n × IsNumber ping
IsOp names (op.Evict n k) = IsNumber n × IsNumber k
IsOp names (op.Pong c ping) = IsClient names c × IsNumber ping
IsOp names (op.TakeDone c k t) = IsClient names c × IsNumber k × IsNumber t
IsOp names (op.TakeEvicted c k t) = IsClient names c × IsNumber k × IsNumber t
IsOp names (op.TakeRefused c k) = IsClient names c × IsNumber k
IsOp names (op.TakeLost c k) = IsClient names c × IsNumber k
IsOp names (op.TakeWatch c id) = IsClient names c × IsNumber id
IsOp names (op.TakePing c ping) = IsClient names c × IsNumber ping
IsOp names (op.LookOk c i m) = IsClient names c × IsSmall i × IsNumber m
IsOp names (op.LookBehind c i m) = IsClient names c × IsSmall i × IsNumber m
IsOp names (op.LookHeld c i m id) = IsClient names c × IsSmall i × IsNumber m × IsNumber id
IsOp names (op.Send c i k) = IsClient names c × IsSmall i × IsNumber k
IsOp names (op.Read c i s) = IsClient names c × IsSmall i × IsNumber s
IsOp names (op.WatchSet c i id) = IsClient names c × IsSmall i × IsNumber id
IsOp names (op.WatchSwept c i t) = IsClient names c × IsSmall i × IsNumber t
IsOp names (op.Local c i) = IsClient names c × IsSmall i
IsOp names (op.PongFault c) = IsClient names c
IsOp names (op.TakeFault c) = IsClient names c
IsOp names (op.LookFault c i) = IsClient names c × IsSmall i
IsOp names (op.SendFault c i) = IsClient names c × IsSmall i
IsOp names (op.ReadFault c i) = IsClient names c × IsSmall i
IsOp names (op.WatchFault c i) = IsClient names c × IsSmall i

-- an event
abbrev pub IsEvent : List Name → Event → Type 0
IsEvent names (event.Client c) = IsClient names c
IsEvent names (event.Deliver c) = IsClient names c
IsEvent names event.Leader = ⊤
IsEvent names event.Watch = ⊤
IsEvent names (event.Beat c) = IsClient names c
IsEvent names (event.Step n) = IsNumber n
IsEvent names (event.Crash n) = IsNumber n
IsEvent names (event.Fail n) = IsNumber n
IsEvent names (event.FailClient c) = IsClient names c
IsEvent names (event.Clock m) = IsNumber m

-- a part of a multi
abbrev pub IsPart : Part → Type 0
IsPart (part.Create path bytes eph) = IsPath path × IsData bytes
IsPart (part.Set path bytes v) = IsExpected v × IsPath path × IsData bytes
IsPart (part.Delete path v) = IsExpected v × IsPath path

-- what a transaction did; a multi has 1 to 16 parts
abbrev pub IsAct : Act → Type 0
IsAct (act.Create path bytes seq eph) = IsPath path × IsData bytes
IsAct (act.Set path bytes v) = IsExpected v × IsPath path × IsData bytes
IsAct (act.Delete path v) = IsExpected v × IsPath path
IsAct (act.Close evict gone) = IsNumber (length gone) × AllByRecursion IsPath gone
IsAct (act.Multi parts) = (1 ≤ length parts) × (length parts ≤ 16) × AllByRecursion IsPart parts

-- a stat
abbrev pub IsStat : Stat → Type 0
IsStat s = IsNumber s.czxid × IsNumber s.mzxid × IsNumber s.pzxid × IsNumber s.ctime × IsNumber s.mtime × IsSmall s.version × IsSmall s.cversion × IsSmall s.aversion × IsSmall s.owner × IsSmall s.length × IsSmall s.children

-- what a part of a multi is answered
abbrev pub IsPartReply : PartReply → Type 0
IsPartReply (reply.Created path) = IsPath path
IsPartReply (reply.Version v) = IsSmall v
IsPartReply reply.Deleted = ⊤

-- the codes that hold at a number of the tree; the others speak of none
abbrev pub is_of_tree : Code → Bool
is_of_tree code.SystemError = false
is_of_tree code.ConnectionLoss = false
is_of_tree code.BadArguments = false
is_of_tree other = true

-- a part's place, which a multi alone has
abbrev pub IsPlace : Verb → ℕ → Type 0
IsPlace verb.Multi place = IsSmall place
IsPlace other place = place ≡ 0

-- what a command of this verb is answered
abbrev pub IsShown : Verb → Shown → Type 0
IsShown verb (shown.Refused code m place) = (is_of_tree code ≡ true) × IsNumber m × IsPlace verb place
IsShown verb (shown.Plain code) = is_of_tree code ≡ false
IsShown verb (shown.Lost path own h m) = IsPath path × IsNumber own × IsNumber h × IsNumber m
IsShown verb.Create (shown.Created t path) = IsNumber t × IsPath path
IsShown verb.Set (shown.Version t v) = IsNumber t × IsSmall v
IsShown verb.Delete (shown.Done t) = IsNumber t
IsShown verb.Close (shown.Done t) = IsNumber t
IsShown verb.Multi (shown.Multi t replies) = IsNumber t × IsNumber (length replies) × AllByRecursion IsPartReply replies
IsShown verb.Get (shown.Got m bytes stat) = IsNumber m × IsData bytes × IsStat stat
IsShown verb.Stat (shown.Stated m stat) = IsNumber m × IsStat stat
IsShown verb.Ls (shown.Listed m children) = IsNumber m × IsNumber (length children) × AllByRecursion IsShownName children
IsShown verb other = ⊥

-- a public line
abbrev pub IsLine : List Name → Line → Type 0
IsLine names (line.Tx p) = IsNumber p.tx × IsNumber p.moment × IsClient names p.session × IsNumber p.k × IsAct p.act
IsLine names (line.Reply c i verb shown) = IsClient names c × IsSmall i × IsShown verb shown
IsLine names (line.Notice c t what how path) = IsClient names c × IsNumber t × IsPath path
IsLine names (line.Expired c t) = IsClient names c × IsNumber t

-- an entry
abbrev pub IsEntry : List Name → Entry → Type 0
IsEntry names e = IsEvent names e.event × IsOp names e.op × AllByRecursion (IsLine names) e.lines

-- A history is well formed for the names of a deployment's clients where each entry is.
abbrev pub IsWellFormed : List Name → List Entry → Type 0
IsWellFormed names h = (are_client_names names ≡ true) × AllByRecursion (IsEntry names) h
