-- What each public line is, and the operation that prints it.
use Rattle.std.specs.Prelude.{◌≡◌, ℕ, ◌+◌, ◌≤◌, ◌⊎◌, true, false, List, [], ◌∷◌, Some, None}
use Rattle.fk_base.specs.Path.{PathNames}
use Rattle.fk_base.specs.declared.code.Code.TheVariants as code
use Rattle.fk_tree.specs.declared.applied.Applied.{Applied}
use Rattle.fk_tree.specs.declared.change.Change.{Change}
use Rattle.fk_tree.specs.declared.change.Kind.{Kind}
use Rattle.fk_print.specs.declared.entry.Entry.{Entry}
use Rattle.fk_print.specs.declared.line.Line.{Line}
use Rattle.fk_print.specs.declared.line.Line.TheVariants as line
use Rattle.fk_print.specs.declared.line.Shown.{Shown}
use Rattle.fk_print.specs.declared.line.Shown.TheVariants as shown
use Rattle.fk_print.specs.declared.op.Op.{Op}
use Rattle.fk_print.specs.declared.op.Op.TheVariants as op
use Rattle.fk_spec.specs.Plan.{Plan, asked}
use Rattle.fk_spec.specs.Shown.{seen_by}
use Rattle.fk_spec.specs.Settling.{mark_of}
use Rattle.fk_spec.specs.Stored.{committed_as}
use Rattle.fk_spec.specs.Watches.{Firing, firing_of}
use Rattle.fk_spec.specs.Sight.{sight_of}
use Rattle.fk_spec.specs.Client.{acted_by, client_in, client_of, contains, is_ready, number_looked_for, number_read, Reading, Sent}
use Rattle.fk_spec.specs.Replies.{shown_asked, shown_result, verb_asked}
use Rattle.fk_spec.specs.PublicLines.{lines_of, txs_among, txs_of}
use Rattle.fk_spec.specs.Next.{IsHistory, printed_of}
use Rattle.fk_law_watch.specs.FirstNumbers.{ReadsAreReads}

-- a command is one of these
abbrev pub IsAmong : Sent → List Sent → Type 0
IsAmong s [] = ⊥
IsAmong s (x ∷ xs) = (s ≡ x) ⊎ IsAmong s xs

-- the commands that client c keeps after its operation, before it prints what is ready
abbrev pub kept_after : Plan → ℕ → List Entry → Op → List Sent
kept_after p c h o = (acted_by (sight_of p c h) o (client_of p c h)).sent

-- the line of a kept command that is ready after the operation
pub record IsReadyLine (p : Plan) (c i : ℕ) (h : List Entry) (o : Op) (s : Shown) : Type 0 where
  pub kept : Sent
  pub among : IsAmong kept (kept_after p c h o)
  pub command : kept.command ≡ i
  pub ready : is_ready kept.result ≡ true
  pub shows : s ≡ shown_result p h kept.result

-- the line of the first unanswered command, which was looked for up to the mark
pub record IsLookedLine (p : Plan) (c i : ℕ) (h : List Entry) (s : Shown) : Type 0 where
  pub kept : Sent
  pub others : List Sent
  pub sent : (client_of p c h).sent ≡ kept ∷ others
  pub reads_nothing : (client_of p c h).reading ≡ None
  pub command : kept.command ≡ i
  pub number : ℕ
  pub sought : number_looked_for kept.result ≡ Some number
  pub published : number ≤ mark_of h
  pub shows : s ≡ shown_result p h kept.result

-- the answer to the read that the client has made, at a number up to the mark
pub record IsAnswerLine (p : Plan) (c i : ℕ) (h : List Entry) (s : Shown) : Type 0 where
  pub reading : Reading
  pub made : (client_of p c h).reading ≡ Some reading
  pub next : i ≡ (client_of p c h).begun + 1
  pub published : number_read (seen_by c h) reading ≤ mark_of h
  pub shows : s ≡ shown_asked (number_read (seen_by c h) reading) reading.node (asked p c i)

-- the line of a read, or of its registration, that failed
pub record IsFailedLine (c i : ℕ) (o : Op) (s : Shown) : Type 0 where
  pub failed : (o ≡ op.ReadFault c i) ⊎ (o ≡ op.WatchFault c i)
  pub shows : s ≡ shown.Plain code.SystemError

-- Why a reply to command i of client c is printed.
pub data ReplyIs (p : Plan) (c i : ℕ) (h : List Entry) (o : Op) (s : Shown) : Type 0 where
  Ready : IsReadyLine p c i h o s → ReplyIs p c i h o s
  Looked : IsLookedLine p c i h s → ReplyIs p c i h o s
  Answers : IsAnswerLine p c i h s → ReplyIs p c i h o s
  Failed : IsFailedLine c i o s → ReplyIs p c i h o s

-- the notice of a held watch that fired, whose message is taken
pub record IsNotice (p : Plan) (c : ℕ) (h : List Entry) (o : Op) (tx : ℕ) (kind : Kind) (change : Change) (path : PathNames) : Type 0 where
  pub watch : ℕ
  pub taken : o ≡ op.TakeWatch c watch
  pub held : contains watch (client_of p c h).held ≡ true
  pub firing : Firing
  pub fired : firing_of p watch h ≡ Some firing
  pub its_tx : tx ≡ firing.tx
  pub its_kind : kind ≡ firing.watch.kind
  pub its_change : change ≡ firing.change
  pub its_path : path ≡ firing.watch.path

-- the session isn't known as closed, and the message that it was evicted is taken
pub record IsExpiry (p : Plan) (c : ℕ) (h : List Entry) (o : Op) (tx : ℕ) : Type 0 where
  pub k : ℕ
  pub taken : o ≡ op.TakeEvicted c k tx
  pub unknown : (client_of p c h).closed ≡ false

-- what a line is that client c prints with operation o
abbrev pub LineIs : Plan → ℕ → List Entry → Op → Line → Type 0
LineIs p c h o (line.Tx printed) = ⊥
LineIs p c h o (line.Reply session command verb shown) = (session ≡ c) × (verb ≡ verb_asked (asked p c command)) × ReplyIs p c command h o shown
LineIs p c h o (line.Notice session tx kind change path) = (session ≡ c) × IsNotice p c h o tx kind change path
LineIs p c h o (line.Expired session tx) = (session ≡ c) × IsExpiry p c h o tx

-- it is so, and no transaction line stands between the entries before and the line
abbrev pub LineIsAfter : Plan → ℕ → List Entry → Op → Line → List Line → Type 0
LineIsAfter p c h o l before = LineIs p c h o l × (txs_among before ≡ txs_of h)

-- the line of a publication
pub record IsPublication (p : Plan) (h : List Entry) (o : Op) (l : Line) : Type 0 where
  pub function : ℕ
  pub tx : ℕ
  pub published : o ≡ op.PublishOk function tx
  pub push : Applied
  pub committed : committed_as p tx h ≡ Some push
  pub line_is : l ≡ line.Tx (printed_of push)

-- each of these lines keeps this, given the lines before it; `before` are those before the first
abbrev pub EachAfter : (Line → List Line → Type 0) → List Line → List Line → Type 0
EachAfter P [] before = Unit {0}
EachAfter P (l ∷ ls) before = P l before × EachAfter P ls (l ∷ before)

-- Each line of a client's operation is one of these.
abbrev pub ClientLinesAre : Type 0
ClientLinesAre = (p : Plan) (c : ℕ) (e : Entry) (h : List Entry) → ReadsAreReads p → IsHistory p (e ∷ h) → client_in e.op ≡ Some c → EachAfter (LineIsAfter p c h e.op) e.lines (lines_of h)

-- Each other line is a publication.
abbrev pub OtherLinesAre : Type 0
OtherLinesAre = (p : Plan) (e : Entry) (h : List Entry) → IsHistory p (e ∷ h) → client_in e.op ≡ None → EachAfter (λ l before. IsPublication p h e.op l) e.lines (lines_of h)
