-- Every refusal has its cause.
use Rattle.std.proofs.Common.{◌≡◌, ℕ, ◌≤◌, Bool, true, false, List, [], ◌∷◌, refl, sym, ◌∙◌, ap, subst, arith, Option, Some, None}
use Rattle.std.proofs.lemmas.Bool.{false≢true, le-leb}
use Rattle.fk_base.specs.declared.code.Code.{Code}
use Rattle.fk_base.specs.declared.code.Code.TheVariants as code
use Rattle.fk_tree.specs.Apply.{reply_of}
use Rattle.fk_tree.specs.Ask.{ask}
use Rattle.fk_tree.specs.Check.{check}
use Rattle.fk_tree.specs.Edit.{view_after}
use Rattle.fk_tree.specs.declared.reply.Answer.{Answer}
use Rattle.fk_tree.specs.declared.reply.Answer.TheVariants as answer
use Rattle.fk_tree.specs.declared.reply.Reply.{Reply}
use Rattle.fk_tree.specs.declared.reply.Reply.TheVariants as reply
use Rattle.fk_tree.specs.declared.request.Query.{Query}
use Rattle.fk_tree.specs.declared.request.Request.TheVariants as request
use Rattle.fk_print.specs.declared.entry.Entry.{Entry}
use Rattle.fk_print.specs.declared.line.Line.{Line}
use Rattle.fk_print.specs.declared.line.Line.TheVariants as line
use Rattle.fk_print.specs.declared.line.Shown.{Shown}
use Rattle.fk_print.specs.declared.line.Shown.TheVariants as shown
use Rattle.fk_print.specs.declared.op.Op.{Op}
use Rattle.fk_spec.specs.Plan.{Plan, Ask, Want, Unfit, Writes, Reads, asked}
use Rattle.fk_spec.specs.Locks.{Loss}
use Rattle.fk_spec.specs.Settling.{Outcome, Committed, Refused, Passed, mark_of, outcome_of}
use Rattle.fk_spec.specs.Stored.{committed_of, up_to}
use Rattle.fk_spec.specs.Start.{Task, Follows, task_of}
use Rattle.fk_spec.specs.Client.{is_unfit, is_unfit_want, Result, Open, Settled, Plain, Expired}
use Rattle.fk_spec.specs.Replies.{shown_answer, shown_loss, shown_reply}
use Rattle.fk_spec.specs.PublicLines.{Each, lines_of, lines_onto, tx_with, txs_of}
use Rattle.fk_spec.specs.Published.{published_view}
use Rattle.fk_spec.specs.Promises.{sent_as}
use Rattle.fk_spec.specs.Refusals.{CauseFits, CodeFits, EvictionFits, IsAtMost, LinesRefused, RefusalFits, RefusalsIn, RefusedAs, is_follower, seen_at}
use Rattle.fk_spec.specs.Next.{IsHistory}
use Rattle.fk_law.proofs.Finding.{lost_has_a_loss}
use Rattle.fk_law.proofs.Losses.{lost_has_its_lines}
use Rattle.fk_law.proofs.Publishing.{published_tree_is_shown}
use Rattle.fk_law.proofs.Refusing.{closed_refusal}
use Rattle.fk_law.proofs.Sending.{committed_is_filled}
use Rattle.fk_law.proofs.TxLines.{published_push_has_its_line}
use Rattle.fk_law_client.specs.Lines.{EachAfter}
use Rattle.fk_law_client.specs.Unfit.{UnfitIsRefused}
use Rattle.fk_law_client.proofs.Arguments.{unfit_refused}
use Rattle.fk_law_reply.specs.ClosedClients.{KnownClosed}
use Rattle.fk_law_reply.specs.Ledger.{HasOwnCause, IsMessage}
use Rattle.fk_law_reply.specs.Plans.{HasFittingVerbs}
use Rattle.fk_law_reply.specs.Replying.{IsWriteSent, ShowsOutcome, IsRefusedUpTo, ShowsOwnResult, IsEvictedBy, Why, AsApplied, AsRefused, AsOwn, AsAnswered, AsFailed, LineIsExplained, AreExplained, RefusalsHaveTheirCause}
use Rattle.fk_law_reply.proofs.ClosedClients.{applied_is, evicted_request}
use Rattle.fk_law_reply.proofs.Explaining.{lines_are_explained}
use Rattle.fk_law_reply.proofs.RefusedOutcomes.{refused_beyond_seen, refused_holds_at_its_number}
use Rattle.fk_base.proofs.Logic.{itself}

-- What is no refusal. ----------------------------------------------------------------------------------

applied_cause : (p : Plan) (h up : List Entry) (z : Op) (c i t : ℕ) (r : Reply) → CauseFits p h up z c i (shown_reply t r)
applied_cause p h up z c i t (reply.Created path) = tt
applied_cause p h up z c i t (reply.Version version) = tt
applied_cause p h up z c i t reply.Deleted = tt
applied_cause p h up z c i t reply.Closed = tt
applied_cause p h up z c i t (reply.Multi replies) = tt

missing_cause : (p : Plan) (h : List Entry) (c i n : ℕ) (q : Query) (b : Bool) (a : Option Ask) (x : Ask) → a ≡ Some x → x.want ≡ Reads q b → RefusedAs h c i (record { code = code.NoNode; place = 0 }) n a
missing_cause p h c i n q b a x e f = subst (RefusedAs h c i (record { code = code.NoNode; place = 0 }) n) (sym e) (subst (CodeFits h c (record { code = code.NoNode; place = 0 }) n (seen_at c i h)) (sym f) tt)

answered_cause : (p : Plan) (h up : List Entry) (z : Op) (c i n : ℕ) (q : Query) (b : Bool) (x : Ask) (a : Answer) → asked p c i ≡ Some x → x.want ≡ Reads q b → CauseFits p h up z c i (shown_answer n a)
answered_cause p h up z c i n q b x (answer.Got bytes stat) e f = tt
answered_cause p h up z c i n q b x (answer.Stated stat) e f = tt
answered_cause p h up z c i n q b x (answer.Listed names) e f = tt
answered_cause p h up z c i n q b x answer.NoNode e f = missing_cause p h c i n q b (asked p c i) x e f

-- A code at a number. ----------------------------------------------------------------------------------

refused_cause : (p : Plan) (h : List Entry) (c i k place at : ℕ) (cd : Code) (x : Ask) → HasFittingVerbs p → IsHistory p h → asked p c i ≡ Some x → IsMessage p c h i k x → outcome_of c k h ≡ Some (Refused cd place at) → at ≤ mark_of h → RefusedAs h c i (record { code = cd; place = place }) at (asked p c i)
refused_cause p h c i k place at cd x v l e m q b =
    subst (RefusedAs h c i (record { code = cd; place = place }) at) (sym e)
    (subst (CodeFits h c (record { code = cd; place = place }) at (seen_at c i h)) (sym m.writes) (checked, beyond))
  where
    checked : check (published_view h at) c m.request ≡ Some (record { code = cd; place = place })
    checked = subst (λ w. check w c m.request ≡ Some (record { code = cd; place = place })) (sym (published_tree_is_shown p at h l b)) (refused_holds_at_its_number p c k place at cd h m.request v.reads l q m.asks)

    beyond : IsAtMost (seen_at c i h) at
    beyond = subst (λ o. IsAtMost o at) (sym m.seen_then) (le-leb m.seen at (subst (λ n. n ≤ at) m.seen_with_it (refused_beyond_seen p c k place at cd h l q)))

follows_it : (c k : ℕ) (s : Option ℕ) (t : Option Task) → s ≡ Some k → t ≡ Some (Follows c k) → is_follower c s t ≡ true
follows_it c k s t e f = rw (e, f, itself c, itself k) refl

lost_cause : (p : Plan) (h up : List Entry) (z : Op) (c i k : ℕ) (o : Option Loss) → IsHistory p h → sent_as c i h ≡ Some k → outcome_of c k h ≡ Some (Passed o) → CauseFits p h up z c i (shown_loss o)
lost_cause p h up z c i k None l e q = absurd (lost_has_a_loss p c k h l q)
lost_cause p h up z c i k (Some x) l e q =
    let y = lost_has_its_lines p c k x h l q in
    record { function = y.function; follows = follows_it c k (sent_as c i h) (task_of y.function h) e y.task; passed = y.shown.passed; beyond = y.shown.beyond; missed = y.shown.missed; settled = y.settled }

outcome_cause : (p : Plan) (h up : List Entry) (z : Op) (c i k : ℕ) (s : Shown) (x : Ask) (o : Outcome) → HasFittingVerbs p → IsHistory p h → asked p c i ≡ Some x → IsWriteSent p h c i k x → outcome_of c k h ≡ Some o → IsRefusedUpTo (mark_of h) o → ShowsOutcome s o → CauseFits p h up z c i s
outcome_cause p h up z c i k s x (Committed t) v l e w q m f = absurd f
outcome_cause p h up z c i k s x (Refused cd place at) v l e w q m f = subst (CauseFits p h up z c i) (sym f) (refused_cause p h c i k place at cd x v l e w.message q m)
outcome_cause p h up z c i k s x (Passed loss) v l e w q m f = subst (CauseFits p h up z c i) (sym f) (lost_cause p h up z c i k loss l w.number q)

-- What the client itself finds. ------------------------------------------------------------------------

expired_code : (p : Plan) (h : List Entry) (c i at : ℕ) (w : Want) → IsHistory p h → is_unfit_want w ≡ false → at ≤ mark_of h → (view_after (up_to at (committed_of p h))).closed c ≡ true → seen_at c i h ≡ Some at → CodeFits h c (record { code = code.SessionExpired; place = 0 }) at (seen_at c i h) w
expired_code p h c i at Unfit l u b x e = absurd (false≢true (sym u))
expired_code p h c i at (Writes r) l u b x e = (closed_refusal (published_view h at) c r (ap (λ w. w.closed c) (published_tree_is_shown p at h l b) ∙ x), subst (λ o. IsAtMost o at) (sym e) (le-leb at at (omega arith)))
expired_code p h c i at (Reads q watch) l u b x e = (ap (λ w. w.closed c) (published_tree_is_shown p at h l b) ∙ x, subst (λ o. IsAtMost o at) (sym e) (le-leb at at (omega arith)))

plain_cause : (p : Plan) (h up : List Entry) (z : Op) (c i : ℕ) (x : Ask) (cd : Code) → HasOwnCause c i up x (Plain cd) → CauseFits p h up z c i (shown.Plain cd)
plain_cause p h up z c i x code.BadArguments e = tt
plain_cause p h up z c i x code.ConnectionLoss e = e
plain_cause p h up z c i x cd e = absurd e

own_cause : (p : Plan) (h up : List Entry) (z : Op) (b : List Line) (c i : ℕ) (s : Shown) (x : Ask) (r : Result) → IsHistory p h → asked p c i ≡ Some x → HasOwnCause c i h x r → HasOwnCause c i up x r → KnownClosed p h c i r → ShowsOwnResult s b r → CauseFits p h up z c i s
own_cause p h up z b c i s x (Plain cd) l e f g k w = subst (CauseFits p h up z c i) (sym w) (plain_cause p h up z c i x cd g)
own_cause p h up z b c i s x (Expired at) l e f g k w = subst (CauseFits p h up z c i) (sym w.0) (subst (RefusedAs h c i (record { code = code.SessionExpired; place = 0 }) at) (sym e) (expired_code p h c i at x.want l (sym (ap is_unfit e) ∙ k.0) k.1 k.2 f))
own_cause p h up z b c i s x Open l e f g k w = absurd w
own_cause p h up z b c i s x (Settled o) l e f g k w = absurd w

-- Each reply. ------------------------------------------------------------------------------------------

why_causes : (p : Plan) (h up : List Entry) (z : Op) (b : List Line) (c i : ℕ) (s : Shown) (x : Ask) → HasFittingVerbs p → IsHistory p h → asked p c i ≡ Some x → Why p h up z b c i s x → CauseFits p h up z c i s
why_causes p h up z b c i s x v l e (AsApplied y) = subst (CauseFits p h up z c i) (sym y.shows) (applied_cause p h up z c i y.tx (reply_of y.applied))
why_causes p h up z b c i s x v l e (AsRefused y) = outcome_cause p h up z c i y.k s x y.outcome v l e y.sent y.settled y.published y.shows
why_causes p h up z b c i s x v l e (AsOwn y) = own_cause p h up z b c i s x y.result l e y.cause y.cause_then y.closed y.shows
why_causes p h up z b c i s x v l e (AsAnswered y) = subst (CauseFits p h up z c i) (sym y.shows) (answered_cause p h up z c i y.number y.query y.watch x (ask (view_after (up_to y.number (committed_of p h))) y.query) e y.reads)
why_causes p h up z b c i s x v l e (AsFailed y) = subst (CauseFits p h up z c i) (sym y.shows) y.failed

-- the transaction line of an eviction
evicted_fits : (p : Plan) (h : List Entry) (c t : ℕ) → IsHistory p h → IsEvictedBy p h c t → EvictionFits h c (tx_with t (txs_of h))
evicted_fits p h c t l x =
    let a = committed_is_filled p t h l x.push.committed in
    let y = applied_is p t x.push.function c x.k h a.0 (request.Close true) l x.push.is_of a.1 (evicted_request p c x.k t h l x.push) in
    subst (EvictionFits h c) (sym (published_push_has_its_line p t h a.0 l a.1 x.push.published)) (y.0, rw y.2 refl, rw y.1 x.late)

refusal_fits : (p : Plan) (h up : List Entry) (z : Op) → HasFittingVerbs p → IsHistory p h → (l : Line) (b : List Line) → UnfitIsRefused p l b → LineIsExplained p h up z l b → RefusalFits p h up z l
refusal_fits p h up z v k (line.Reply c i verb s) b u x = (u, why_causes p h up z b c i s x.ask v k x.is_asked x.why)
refusal_fits p h up z v k (line.Expired c t) b u x = evicted_fits p h c t k x
refusal_fits p h up z v k (line.Tx printed) b u x = tt
refusal_fits p h up z v k (line.Notice c t kind _ path) b u x = tt

lines_fit : (p : Plan) (h up : List Entry) (z : Op) (ls b : List Line) → HasFittingVerbs p → IsHistory p h → EachAfter (UnfitIsRefused p) ls b → EachAfter (LineIsExplained p h up z) ls b → LinesRefused p h up z ls
lines_fit p h up z [] b v k u x = tt
lines_fit p h up z (l ∷ ls) b v k u x = (refusal_fits p h up z v k l b u.0 x.0, lines_fit p h up z ls (l ∷ b) v k u.1 x.1)

-- what holds of each line holds of those of the last entry, and of those before
each_apart : (P : Line → List Line → Type 0) (ls b : List Line) → Each P (lines_onto ls b) → EachAfter P ls b × Each P b
each_apart P [] b i = (tt, i)
each_apart P (l ∷ ls) b i = let x = each_apart P ls (l ∷ b) i in ((x.1.0, x.0), x.1.1)

entries_fit : (p : Plan) (h up : List Entry) → HasFittingVerbs p → IsHistory p h → Each (UnfitIsRefused p) (lines_of up) → AreExplained p h up → RefusalsIn p h up
entries_fit p h [] v l u x = tt
entries_fit p h (e ∷ up) v l u x = let y = each_apart (UnfitIsRefused p) e.lines (lines_of up) u in (lines_fit p h (e ∷ up) e.op e.lines (lines_of up) v l y.0 x.0, entries_fit p h up v l y.1 x.1)

pub refusals_have_their_cause : RefusalsHaveTheirCause
refusals_have_their_cause p h v l = entries_fit p h h v l (unfit_refused p h l) (lines_are_explained p h v l)
