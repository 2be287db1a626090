-- Lines of printed histories, beside what the definitions give for them.
use Rattle.std.specs.Prelude.{◌≡◌, pos, negsuc, true, false, List, [], ◌∷◌, codes}
use Rattle.fk_base.specs.declared.code.Code.TheVariants as code
use Rattle.fk_base.specs.Path.{Name, PathNames}
use Rattle.fk_tree.specs.declared.change.Change.TheVariants as change
use Rattle.fk_tree.specs.declared.change.Kind.TheVariants as kind
use Rattle.fk_tree.specs.declared.reply.PartReply.TheVariants as reply
use Rattle.fk_tree.specs.declared.request.Part.TheVariants as part
use Rattle.fk_print.specs.Words.{Text}
use Rattle.fk_print.specs.EntryText.{entry_text}
use Rattle.fk_print.specs.LineText.{line_text}
use Rattle.fk_print.specs.OpText.{op_text}
use Rattle.fk_print.specs.declared.event.Event.TheVariants as event
use Rattle.fk_print.specs.declared.line.Act.TheVariants as act
use Rattle.fk_print.specs.declared.line.Line.TheVariants as line
use Rattle.fk_print.specs.declared.line.Shown.TheVariants as shown
use Rattle.fk_print.specs.declared.line.Verb.TheVariants as verb
use Rattle.fk_print.specs.declared.op.Op.TheVariants as op

-- the clients
abbrev pub names : List Name
names = codes "a" ∷ codes "b" ∷ codes "w" ∷ codes "w2" ∷ codes "s" ∷ []

-- a path of one name
abbrev pub top : Name → PathNames
top name = name ∷ []

-- the texts that the definitions give
abbrev pub given : List Text
given = line_text names (line.Tx (record { tx = 2; moment = 11; session = 1; k = 2; act = act.Create (top (codes "b")) (0 ∷ 1 ∷ 2 ∷ []) false false }))
    ∷ line_text names (line.Tx (record { tx = 4; moment = 202; session = 3; k = 3; act = act.Create (codes "a" ∷ codes "y0000000001" ∷ []) (0xC3 ∷ 0xA9 ∷ 0xE2 ∷ 0x98 ∷ 0x83 ∷ []) true true }))
    ∷ line_text names (line.Tx (record { tx = 4; moment = 4; session = 2; k = 2; act = act.Multi (part.Delete (top (codes "a")) (negsuc 0) ∷ part.Create (top (codes "a")) [] false ∷ part.Delete (top (codes "a")) (pos 0) ∷ []) }))
    ∷ line_text names (line.Tx (record { tx = 3; moment = 11; session = 1; k = 4; act = act.Close false (top (codes "e") ∷ top (codes "f") ∷ []) }))
    ∷ line_text names (line.Reply 3 4 verb.Multi (shown.Multi 5 (reply.Deleted ∷ reply.Created (top (codes "a")) ∷ [])))
    ∷ line_text names (line.Notice 4 9 kind.Child change.Child (top (codes "members")))
    ∷ op_text names (op.RefuseLock 1 code.NodeExists 0 1 [] 3 2000024)
    ∷ entry_text names (record { event = event.Client 5; op = op.TakeEvicted 5 2 2; lines = line.Expired 5 2 ∷ [] })
    ∷ []

-- and as they stand in the histories
abbrev pub printed : List Text
printed = codes "+ 2 11 a 2 create - /b ~AAEC\n"
    ∷ codes "+ 4 202 w 3 create se /a/y0000000001 ~w6nimIM=\n"
    ∷ codes "+ 4 4 b 2 multi 3 delete -1 /a create - /a = delete 0 /a\n"
    ∷ codes "+ 3 11 a 4 close 2 /e /f\n"
    ∷ codes "< w 4 multi ok @5 2 - /a\n"
    ∷ codes "! w2 @9 child NodeChildrenChanged /members\n"
    ∷ codes ". 1 refuse NODEEXISTS @1 miss lock / 3 2000024\n"
    ∷ codes "> client s\n. s take evicted 2 2\nx s @2\n"
    ∷ []

-- both are the same
abbrev pub AreWorked : Type 0
AreWorked = given ≡ printed
