-- Each reply fits the tree.
use Rattle.std.proofs.Common.{◌≡◌, ℕ, List, [], ◌∷◌, sym, ◌∙◌, ap, subst, Option, Some, None}
use Rattle.std.proofs.lemmas.Bool.{le-leb}
use Rattle.fk_tree.specs.Apply.{reply_of}
use Rattle.fk_tree.specs.Ask.{ask}
use Rattle.fk_tree.specs.Edit.{view_after}
use Rattle.fk_tree.specs.declared.reply.Answer.{Answer}
use Rattle.fk_tree.specs.declared.reply.Answer.TheVariants as answer
use Rattle.fk_tree.specs.declared.reply.Reply.{Reply}
use Rattle.fk_tree.specs.declared.reply.Reply.TheVariants as reply
use Rattle.fk_tree.specs.declared.request.Query.{Query}
use Rattle.fk_print.specs.declared.entry.Entry.{Entry}
use Rattle.fk_print.specs.declared.line.Line.{Line}
use Rattle.fk_print.specs.declared.line.Line.TheVariants as line
use Rattle.fk_print.specs.declared.line.Shown.{Shown}
use Rattle.fk_print.specs.declared.line.Verb.{Verb}
use Rattle.fk_print.specs.declared.op.Op.{Op}
use Rattle.fk_spec.specs.Plan.{Plan, Ask, Want, Unfit, Writes, Reads, asked}
use Rattle.fk_spec.specs.Locks.{Loss}
use Rattle.fk_spec.specs.Settling.{Outcome, Committed, Refused, Passed}
use Rattle.fk_spec.specs.Stored.{committed_of, up_to}
use Rattle.fk_spec.specs.Client.{Result, Open, Settled, Plain, Expired}
use Rattle.fk_spec.specs.Replies.{shown_answer, shown_loss, shown_reply}
use Rattle.fk_spec.specs.PublicLines.{Each, greatest_tx, lines_of, txs_among, txs_of}
use Rattle.fk_spec.specs.Published.{published_as}
use Rattle.fk_spec.specs.Promises.{AnswersAt, AskShows, ReadShows, ReplyFits, ShowsOwn, WantShows, WriteShows, own_tx, tx_of_command}
use Rattle.fk_spec.specs.Next.{IsHistory, printed_of}
use Rattle.fk_law.specs.Due.{IsApplied}
use Rattle.fk_law.proofs.Publishing.{published_tree_is_shown}
use Rattle.fk_law.proofs.Sending.{tx_is}
use Rattle.fk_law.proofs.TxLines.{published_as_committed, uncommitted_request_has_no_line}
use Rattle.fk_law_client.specs.Ordering.{IsInOrder}
use Rattle.fk_law_client.proofs.Printing.{replies_ordered}
use Rattle.fk_law_reply.specs.Replying.{IsWriteSent, IsAppliedReply, ShowsOutcome, IsRefusedReply, ShowsOwnResult, IsOwnReply, IsAnswer, Why, AsApplied, AsRefused, AsOwn, AsAnswered, AsFailed, IsExplained, LineIsExplained, RepliesFitTheTree, AreExplained}
use Rattle.fk_law_client.proofs.Lines.{each_mapped, each_onto}
use Rattle.fk_law_reply.proofs.Explaining.{lines_are_explained}

-- Writes. ----------------------------------------------------------------------------------------------

-- an ok line of a write
reply_shows : (p : Plan) (h : List Entry) (b : List Line) (c i t : ℕ) (r : Reply) → ShowsOwn p h (shown_reply t r) (tx_of_command c i h (txs_among b)) → WriteShows p h b c i (shown_reply t r)
reply_shows p h b c i t (reply.Created path) x = x
reply_shows p h b c i t (reply.Version version) x = x
reply_shows p h b c i t reply.Deleted x = x
reply_shows p h b c i t reply.Closed x = x
reply_shows p h b c i t (reply.Multi replies) x = x

applied_shows : (p : Plan) (h : List Entry) (b : List Line) (c i : ℕ) (s : Shown) (a : Ask) → IsHistory p h → IsAppliedReply p h b c i s a → WriteShows p h b c i s
applied_shows p h b c i s a l x = subst (WriteShows p h b c i) (sym x.shows) (reply_shows p h b c i x.tx (reply_of x.applied) (subst (ShowsOwn p h (shown_reply x.tx (reply_of x.applied))) (sym line) shown_so))
  where
    line : tx_of_command c i h (txs_among b) ≡ Some (printed_of x.applied)
    line = ap (λ o. own_tx c o (txs_among b)) x.sent.number ∙ x.line_stands

    number : x.applied.tx ≡ x.tx
    number = tx_is x.tx (committed_of p h) x.applied x.committed

    published : published_as p x.applied.tx h ≡ Some x.applied
    published = ap (λ t. published_as p t h) number ∙ published_as_committed p x.tx h x.applied l x.push.published x.committed

    shown_so : ShowsOwn p h (shown_reply x.tx (reply_of x.applied)) (Some (printed_of x.applied))
    shown_so = rw published (ap (λ t. shown_reply t (reply_of x.applied)) (sym number))

loss_shows : (p : Plan) (h : List Entry) (b : List Line) (c i : ℕ) (o : Option Loss) → tx_of_command c i h (txs_of h) ≡ None → WriteShows p h b c i (shown_loss o)
loss_shows p h b c i None e = e
loss_shows p h b c i (Some x) e = e

outcome_shows : (p : Plan) (h : List Entry) (b : List Line) (c i : ℕ) (s : Shown) (o : Outcome) → ShowsOutcome s o → tx_of_command c i h (txs_of h) ≡ None → WriteShows p h b c i s
outcome_shows p h b c i s (Committed t) f e = absurd f
outcome_shows p h b c i s (Refused cd place at) f e = subst (WriteShows p h b c i) (sym f) e
outcome_shows p h b c i s (Passed loss) f e = subst (WriteShows p h b c i) (sym f) (loss_shows p h b c i loss e)

not_applied : (s : Shown) (o : Outcome) → ShowsOutcome s o → IsApplied (Some o) → ⊥
not_applied s (Committed t) f a = f
not_applied s (Refused cd place at) f a = a
not_applied s (Passed loss) f a = a

refused_shows : (p : Plan) (h : List Entry) (b : List Line) (c i : ℕ) (s : Shown) (a : Ask) → IsHistory p h → IsRefusedReply p h c i s a → WriteShows p h b c i s
refused_shows p h b c i s a l x = outcome_shows p h b c i s x.outcome x.shows (ap (λ o. own_tx c o (txs_of h)) x.sent.number ∙ uncommitted_request_has_no_line p c x.k h l (λ y. not_applied s x.outcome x.shows (subst IsApplied x.settled y)))

own_shows : (p : Plan) (h : List Entry) (b : List Line) (c i : ℕ) (s : Shown) (r : Result) → ShowsOwnResult s b r → tx_of_command c i h (txs_of h) ≡ None → WriteShows p h b c i s
own_shows p h b c i s (Plain cd) f e = subst (WriteShows p h b c i) (sym f) e
own_shows p h b c i s (Expired at) f e = subst (WriteShows p h b c i) (sym f.0) e
own_shows p h b c i s Open f e = absurd f
own_shows p h b c i s (Settled o) f e = absurd f

-- Reads. -----------------------------------------------------------------------------------------------

own_reads : (h : List Entry) (b : List Line) (q : Query) (s : Shown) (r : Result) → ShowsOwnResult s b r → ReadShows h b q s
own_reads h b q s (Plain cd) f = subst (ReadShows h b q) (sym f) tt
own_reads h b q s (Expired at) f = subst (ReadShows h b q) (sym f.0) (le-leb at (greatest_tx (txs_among b)) f.1)
own_reads h b q s Open f = absurd f
own_reads h b q s (Settled o) f = absurd f

answer_reads : (h : List Entry) (b : List Line) (q : Query) (n : ℕ) (a : Answer) → AnswersAt h b q (shown_answer n a) (Some n) → ReadShows h b q (shown_answer n a)
answer_reads h b q n (answer.Got bytes stat) x = x
answer_reads h b q n (answer.Stated stat) x = x
answer_reads h b q n (answer.Listed names) x = x
answer_reads h b q n answer.NoNode x = x

answered_shows : (p : Plan) (h : List Entry) (b : List Line) (s : Shown) (w : Want) → IsHistory p h → (x : IsAnswer p h b s w) → ReadShows h b x.query s
answered_shows p h b s w l x =
    let v = view_after (up_to x.number (committed_of p h)) in
    subst (ReadShows h b x.query) (sym x.shows)
    (answer_reads h b x.query x.number (ask v x.query) (ap (λ z. shown_answer x.number (ask z x.query)) (sym (published_tree_is_shown p x.number h l x.published)), le-leb x.number (greatest_tx (txs_among b)) x.printed))

-- Each reply. ------------------------------------------------------------------------------------------

written_shows : (p : Plan) (h : List Entry) (b : List Line) (c i k : ℕ) (s : Shown) (a : Ask) → IsWriteSent p h c i k a → WriteShows p h b c i s → WantShows p h b c i s a.want
written_shows p h b c i k s a x y = subst (WantShows p h b c i s) (sym x.message.writes) y

own_want : (p : Plan) (h up : List Entry) (b : List Line) (c i : ℕ) (s : Shown) (a : Ask) (w : Want) → IsOwnReply p h up b c i s a → WantShows p h b c i s w
own_want p h up b c i s a Unfit x = own_shows p h b c i s x.result x.shows (ap (λ o. own_tx c o (txs_of h)) x.unsent)
own_want p h up b c i s a (Writes r) x = own_shows p h b c i s x.result x.shows (ap (λ o. own_tx c o (txs_of h)) x.unsent)
own_want p h up b c i s a (Reads q watch) x = own_reads h b q s x.result x.shows

why_shows : (p : Plan) (h up : List Entry) (z : Op) (b : List Line) (c i : ℕ) (s : Shown) (a : Ask) → IsHistory p h → Why p h up z b c i s a → WantShows p h b c i s a.want
why_shows p h up z b c i s a l (AsApplied x) = written_shows p h b c i x.k s a x.sent (applied_shows p h b c i s a l x)
why_shows p h up z b c i s a l (AsRefused x) = written_shows p h b c i x.k s a x.sent (refused_shows p h b c i s a l x)
why_shows p h up z b c i s a l (AsOwn x) = own_want p h up b c i s a a.want x
why_shows p h up z b c i s a l (AsAnswered x) = subst (WantShows p h b c i s) (sym x.reads) (answered_shows p h b s a.want l x)
why_shows p h up z b c i s a l (AsFailed x) = subst (WantShows p h b c i s) (sym x.reads) (subst (ReadShows h b x.query) (sym x.shows) tt)

explained_shows : (p : Plan) (h up : List Entry) (z : Op) (b : List Line) (c i : ℕ) (v : Verb) (s : Shown) → IsHistory p h → IsExplained p h up z b c i v s → AskShows p h b c i v s (asked p c i)
explained_shows p h up z b c i v s l x = subst (AskShows p h b c i v s) (sym x.is_asked) (x.verb, why_shows p h up z b c i s x.ask l x.why)

-- a reply is shown as its command asks
abbrev ReplyShows : Plan → List Entry → Line → List Line → Type 0
ReplyShows p h (line.Reply c i v s) b = AskShows p h b c i v s (asked p c i)
ReplyShows p h _ b = Unit {0}

line_shows : (p : Plan) (h up : List Entry) (z : Op) → IsHistory p h → (l : Line) (b : List Line) → LineIsExplained p h up z l b → ReplyShows p h l b
line_shows p h up z k (line.Reply c i v s) b x = explained_shows p h up z b c i v s k x
line_shows p h up z k (line.Tx printed) b x = tt
line_shows p h up z k (line.Notice c t kind _ path) b x = tt
line_shows p h up z k (line.Expired c t) b x = tt

lines_show : (p : Plan) (h up : List Entry) → IsHistory p h → AreExplained p h up → Each (ReplyShows p h) (lines_of up)
lines_show p h [] l i = tt
lines_show p h (e ∷ up) l i = each_onto (ReplyShows p h) e.lines (lines_of up) (lines_show p h up l i.1) (each_mapped (LineIsExplained p h (e ∷ up) e.op) (ReplyShows p h) e.lines (lines_of up) (line_shows p h (e ∷ up) e.op l) i.0)

reply_fits : (p : Plan) (h : List Entry) (l : Line) (b : List Line) → IsInOrder l b → ReplyShows p h l b → ReplyFits p h l b
reply_fits p h (line.Reply c i v s) b o x = (o, x)
reply_fits p h (line.Tx printed) b o x = tt
reply_fits p h (line.Notice c t kind _ path) b o x = tt
reply_fits p h (line.Expired c t) b o x = tt

each_fits : (p : Plan) (h : List Entry) (ls : List Line) → Each IsInOrder ls → Each (ReplyShows p h) ls → Each (ReplyFits p h) ls
each_fits p h [] o x = tt
each_fits p h (l ∷ ls) o x = (reply_fits p h l ls o.0 x.0, each_fits p h ls o.1 x.1)

pub replies_fit_the_tree : RepliesFitTheTree
replies_fit_the_tree p h r l = each_fits p h (lines_of h) (replies_ordered p h r.reads l) (lines_show p h h l (lines_are_explained p h r l))
