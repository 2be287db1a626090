-- Replies that are refused. Most change the run of a client that creates `/x`, reads it with a watch, and sets it:
-- its replies stand at places 27, 24 and 0, the lines of its transactions at 32 and 11.
use Rattle.std.specs.Prelude.{ℕ, List, [], ◌∷◌, negsuc, codes}
use Rattle.fk_base.specs.Path.{PathNames}
use Rattle.fk_print.specs.declared.entry.Entry.{Entry}
use Rattle.fk_print.specs.declared.line.Line.{Line}
use Rattle.fk_print.specs.declared.line.Shown.{Shown}
use Rattle.fk_print.specs.declared.line.Verb.{Verb}
use Rattle.fk_tree.specs.declared.node.Stat.{Stat}
use Rattle.fk_spec.specs.Plan.{plan_of}
use Rattle.fk_spec.specs.Promises.{RepliesFit}
use Rattle.fk_refused.specs.Changing.{printing}
use Rattle.fk_base.specs.declared.code.Code.TheVariants as code
use Rattle.fk_print.specs.declared.line.Act.TheVariants as act
use Rattle.fk_print.specs.declared.line.Line.TheVariants as line
use Rattle.fk_print.specs.declared.line.Shown.TheVariants as shown
use Rattle.fk_print.specs.declared.line.Verb.TheVariants as verb
use Rattle.fk_spec.specs.OwnWatch as own
use Rattle.fk_spec.specs.Eviction as evicted
use Rattle.fk_spec.specs.RefusalAhead as ahead

-- the reply to a command of client 1
abbrev pub reply_to : ℕ → Verb → Shown → List Line
reply_to i v s = line.Reply 1 i v s ∷ []

abbrev pub at_x : PathNames
at_x = codes "x" ∷ []

-- the stat of `/x` as it was made
abbrev pub made_stat : Stat
made_stat = record { czxid = 1; mzxid = 1; pzxid = 1; ctime = 11; mtime = 11; version = 0; cversion = 0; aversion = 0; owner = 0; length = 1; children = 0 }

-- a history in which the set is answered by this
abbrev pub set_answered : Shown → List Entry
set_answered s = printing 0 (reply_to 3 verb.Set s) own.entries

-- a history in which the read is answered by this
abbrev pub read_answered : Shown → List Entry
read_answered s = printing 24 (reply_to 2 verb.Get s) own.entries

-- A reply comes twice.
abbrev pub RepeatedReply : Type 0
RepeatedReply = RepliesFit (plan_of own.deployed) (printing 0 (line.Reply 1 3 verb.Set (shown.Version 2 1) ∷ reply_to 3 verb.Set (shown.Version 2 1)) own.entries) → ⊥

-- The reply to the second command comes before the reply to the first.
abbrev pub RepliesOutOfOrder : Type 0
RepliesOutOfOrder = RepliesFit (plan_of own.deployed) (printing 27 (reply_to 2 verb.Get (shown.Got 1 (codes "0") made_stat)) (printing 24 (reply_to 1 verb.Create (shown.Created 1 at_x)) own.entries)) → ⊥

-- A reply is to a command that there is not.
abbrev pub ReplyToNoCommand : Type 0
ReplyToNoCommand = RepliesFit (plan_of own.deployed) (printing 0 (reply_to 4 verb.Set (shown.Version 2 1)) own.entries) → ⊥

-- A reply is by another verb than its command.
abbrev pub OtherVerb : Type 0
OtherVerb = RepliesFit (plan_of own.deployed) (printing 0 (reply_to 3 verb.Create (shown.Version 2 1)) own.entries) → ⊥

-- The reply to a write shows another number than its transaction line.
abbrev pub OtherNumber : Type 0
OtherNumber = RepliesFit (plan_of own.deployed) (set_answered (shown.Version 1 1)) → ⊥

-- The reply to a set shows a version that the tree does not give.
abbrev pub OtherVersion : Type 0
OtherVersion = RepliesFit (plan_of own.deployed) (set_answered (shown.Version 2 5)) → ⊥

-- A write is answered by the transaction line of another client.
abbrev pub ReplyByAnotherLine : Type 0
ReplyByAnotherLine = RepliesFit (plan_of ahead.deployed) (printing 0 (line.Reply 2 1 verb.Create (shown.Created 1 at_x) ∷ []) ahead.entries) → ⊥

-- The reply to a write comes before its transaction line.
abbrev pub ReplyBeforeItsLine : Type 0
ReplyBeforeItsLine = RepliesFit (plan_of own.deployed) (printing 0 (line.Reply 1 3 verb.Set (shown.Version 2 1) ∷ line.Tx (record { tx = 2; moment = 11; session = 1; k = 2; act = act.Set at_x (codes "1") (negsuc 0) }) ∷ []) (printing 11 [] own.entries)) → ⊥

-- A write is refused that has its transaction line.
abbrev pub RefusedWithALine : Type 0
RefusedWithALine = RepliesFit (plan_of own.deployed) (set_answered (shown.Refused code.BadVersion 1 0)) → ⊥

-- A write is answered with a code alone that has its transaction line.
abbrev pub PlainWithALine : Type 0
PlainWithALine = RepliesFit (plan_of own.deployed) (set_answered (shown.Plain code.ConnectionLoss)) → ⊥

-- A write is answered with a lost lock that has its transaction line.
abbrev pub LostWithALine : Type 0
LostWithALine = RepliesFit (plan_of own.deployed) (set_answered (shown.Lost at_x 0 2 11)) → ⊥

-- A read shows data that the tree of its number does not have.
abbrev pub OtherAnswer : Type 0
OtherAnswer = RepliesFit (plan_of own.deployed) (read_answered (shown.Got 1 (codes "1") made_stat)) → ⊥

-- A read finds no node where the tree of its number has one.
abbrev pub MissingThatIsThere : Type 0
MissingThatIsThere = RepliesFit (plan_of own.deployed) (read_answered (shown.Refused code.NoNode 1 0)) → ⊥

-- A read is answered as a delete is.
abbrev pub ReadAnsweredAsAWrite : Type 0
ReadAnsweredAsAWrite = RepliesFit (plan_of own.deployed) (read_answered (shown.Done 1)) → ⊥

-- A read shows a number that no transaction line before it has.
abbrev pub AnswerBeyondTheLines : Type 0
AnswerBeyondTheLines = RepliesFit (plan_of own.deployed) (read_answered (shown.Got 2 (codes "0") made_stat)) → ⊥

-- A read is refused for its closed session at a number that no transaction line before it has.
abbrev pub ExpiredBeyondTheLines : Type 0
ExpiredBeyondTheLines = RepliesFit (plan_of evicted.deployed) (printing 0 (reply_to 2 verb.Get (shown.Refused code.SessionExpired 3 0)) evicted.entries) → ⊥
