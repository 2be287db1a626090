-- Why a client shows what it shows of a command, said so that it stays true in every longer history.
use Rattle.std.specs.Prelude.{◌≡◌, ℕ, ◌≤◌, Bool, true, false, List, [], ◌∷◌, Some, None}
use Rattle.fk_base.specs.declared.code.Code.TheVariants as code
use Rattle.fk_tree.specs.Apply.{reply_of}
use Rattle.fk_tree.specs.Ask.{ask}
use Rattle.fk_tree.specs.Edit.{view_after}
use Rattle.fk_tree.specs.declared.applied.Applied.{Applied}
use Rattle.fk_tree.specs.declared.request.Query.{Query}
use Rattle.fk_print.specs.declared.entry.Entry.{Entry}
use Rattle.fk_print.specs.declared.line.Line.{Line}
use Rattle.fk_print.specs.declared.line.Line.TheVariants as line
use Rattle.fk_print.specs.declared.line.Shown.{Shown}
use Rattle.fk_print.specs.declared.line.Shown.TheVariants as shown
use Rattle.fk_print.specs.declared.line.Verb.{Verb}
use Rattle.fk_print.specs.declared.op.Op.{Op}
use Rattle.fk_spec.specs.Plan.{Plan, Ask, Want, Reads, asked}
use Rattle.fk_spec.specs.Settling.{Outcome, Committed, Refused, Passed, mark_of, outcome_of}
use Rattle.fk_spec.specs.Stored.{committed_as, committed_of, up_to}
use Rattle.fk_spec.specs.Client.{client_of, Result, Plain, Expired}
use Rattle.fk_spec.specs.Replies.{shown_answer, shown_loss, shown_reply}
use Rattle.fk_spec.specs.PublicLines.{greatest_tx, lines_of, txs_among}
use Rattle.fk_spec.specs.Promises.{RepliesFit, sent_as, tx_for}
use Rattle.fk_spec.specs.Refusals.{RefusalsFit, fails_read, is_evicted_late}
use Rattle.fk_spec.specs.Next.{IsHistory, printed_of}
use Rattle.fk_law_client.specs.Inboxes.{IsPublishedPush}
use Rattle.fk_law_client.specs.Lines.{EachAfter}
use Rattle.fk_law_reply.specs.ClosedClients.{KnownClosed}
use Rattle.fk_law_reply.specs.Ledger.{HasOwnCause, IsMessage}
use Rattle.fk_law_reply.specs.Plans.{HasFittingVerbs}

-- command i of client c was begun, and was sent under this number as a write
pub record IsWriteSent (p : Plan) (h : List Entry) (c i k : ℕ) (a : Ask) : Type 0 where
  pub is_begun : i ≤ (client_of p c h).begun
  pub number : sent_as c i h ≡ Some k
  pub message : IsMessage p c h i k a

-- an ok reply to a write: its push is published, as its transaction line shows, which stands before
pub record IsAppliedReply (p : Plan) (h : List Entry) (before : List Line) (c i : ℕ) (s : Shown) (a : Ask) : Type 0 where
  pub k : ℕ
  pub sent : IsWriteSent p h c i k a
  pub tx : ℕ
  pub push : IsPublishedPush p c k tx false h
  pub applied : Applied
  pub committed : committed_as p tx h ≡ Some applied
  pub shows : s ≡ shown_reply tx (reply_of applied)
  pub line_stands : tx_for c k (txs_among before) ≡ Some (printed_of applied)

abbrev pub ShowsOutcome : Shown → Outcome → Type 0
ShowsOutcome s (Committed tx) = ⊥
ShowsOutcome s (Refused code place at) = s ≡ shown.Refused code at place
ShowsOutcome s (Passed loss) = s ≡ shown_loss loss

-- the number of a refusal is at most this mark
abbrev pub IsRefusedUpTo : ℕ → Outcome → Type 0
IsRefusedUpTo mark (Refused code place at) = at ≤ mark
IsRefusedUpTo mark _ = Unit {0}

-- a reply to a write that was settled, and not by a commit
pub record IsRefusedReply (p : Plan) (h : List Entry) (c i : ℕ) (s : Shown) (a : Ask) : Type 0 where
  pub k : ℕ
  pub sent : IsWriteSent p h c i k a
  pub outcome : Outcome
  pub settled : outcome_of c k h ≡ Some outcome
  pub published : IsRefusedUpTo (mark_of h) outcome
  pub shows : ShowsOutcome s outcome

abbrev pub ShowsOwnResult : Shown → List Line → Result → Type 0
ShowsOwnResult s before (Plain code) = s ≡ shown.Plain code
ShowsOwnResult s before (Expired at) = (s ≡ shown.Refused code.SessionExpired at 0) × (at ≤ greatest_tx (txs_among before))
ShowsOwnResult s before _ = ⊥

-- a reply of the client itself, to a command that it never sent; `up` are the entries up to the reply's own
pub record IsOwnReply (p : Plan) (h up : List Entry) (before : List Line) (c i : ℕ) (s : Shown) (a : Ask) : Type 0 where
  pub is_begun : i ≤ (client_of p c h).begun
  pub unsent : sent_as c i h ≡ None
  pub result : Result
  pub cause : HasOwnCause c i h a result
  pub cause_then : HasOwnCause c i up a result
  pub closed : KnownClosed p h c i result
  pub shows : ShowsOwnResult s before result

-- the answer to a query from the tree of a number up to the lines before it
pub record IsAnswer (p : Plan) (h : List Entry) (before : List Line) (s : Shown) (w : Want) : Type 0 where
  pub query : Query
  pub watch : Bool
  pub reads : w ≡ Reads query watch
  pub number : ℕ
  pub published : number ≤ mark_of h
  pub printed : number ≤ greatest_tx (txs_among before)
  pub shows : s ≡ shown_answer number (ask (view_after (up_to number (committed_of p h))) query)

-- a read that failed
pub record IsFailedRead (c i : ℕ) (o : Op) (s : Shown) (w : Want) : Type 0 where
  pub query : Query
  pub watch : Bool
  pub reads : w ≡ Reads query watch
  pub failed : fails_read c i o ≡ true
  pub shows : s ≡ shown.Plain code.SystemError

-- Why a reply to a command that asks this shows what it shows; o is the operation that prints it.
pub data Why (p : Plan) (h up : List Entry) (o : Op) (before : List Line) (c i : ℕ) (s : Shown) (a : Ask) : Type 0 where
  AsApplied : IsAppliedReply p h before c i s a → Why p h up o before c i s a
  AsRefused : IsRefusedReply p h c i s a → Why p h up o before c i s a
  AsOwn : IsOwnReply p h up before c i s a → Why p h up o before c i s a
  AsAnswered : IsAnswer p h before s a.want → Why p h up o before c i s a
  AsFailed : IsFailedRead c i o s a.want → Why p h up o before c i s a

-- a reply by the verb of its command, with why it shows what it shows
pub record IsExplained (p : Plan) (h up : List Entry) (o : Op) (before : List Line) (c i : ℕ) (v : Verb) (s : Shown) : Type 0 where
  pub ask : Ask
  pub is_asked : asked p c i ≡ Some ask
  pub verb : v ≡ ask.verb
  pub why : Why p h up o before c i s ask

-- the expiry of session c: a close that evicts it is published, of a heartbeat that found it late
pub record IsEvictedBy (p : Plan) (h : List Entry) (c tx : ℕ) : Type 0 where
  pub k : ℕ
  pub push : IsPublishedPush p c k tx true h
  pub late : is_evicted_late c k h ≡ true

abbrev pub LineIsExplained : Plan → List Entry → List Entry → Op → Line → List Line → Type 0
LineIsExplained p h up o (line.Reply session command verb shown) before = IsExplained p h up o before session command verb shown
LineIsExplained p h up o (line.Expired session tx) before = IsEvictedBy p h session tx
LineIsExplained p h up o _ before = Unit {0}

-- each line of these entries of h is explained so
abbrev pub AreExplained : Plan → List Entry → List Entry → Type 0
AreExplained p h [] = Unit {0}
AreExplained p h (e ∷ k) = EachAfter (LineIsExplained p h (e ∷ k) e.op) e.lines (lines_of k) × AreExplained p h k

-- Each reply and each expiry is explained so.
abbrev pub LinesAreExplained : Type 0
LinesAreExplained = (p : Plan) (h : List Entry) → HasFittingVerbs p → IsHistory p h → AreExplained p h h

-- Each client's replies are in the order of its commands, one for each at most, and each fits the tree.
abbrev pub RepliesFitTheTree : Type 0
RepliesFitTheTree = (p : Plan) (h : List Entry) → HasFittingVerbs p → IsHistory p h → RepliesFit p h

-- BADARGUMENTS comes exactly where the command is unfit; every other refusal has its cause.
abbrev pub RefusalsHaveTheirCause : Type 0
RefusalsHaveTheirCause = (p : Plan) (h : List Entry) → HasFittingVerbs p → IsHistory p h → RefusalsFit p h
