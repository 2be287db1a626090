-- Why each line shows what it shows.
use Rattle.std.proofs.Common.{◌≡◌, ℕ, ◌≤◌, ◌⊎◌, inl, inr, true, false, List, [], ◌∷◌, refl, sym, ◌∙◌, ap, subst, arith, Option, Some, None}
use Rattle.std.proofs.lemmas.Bool.{false≢true, or_right}
use Rattle.std.proofs.lemmas.Bool.Decides.{nat_tests}
use Rattle.std.proofs.lemmas.Option.{same_Some, none-some}
use Rattle.fk_tree.specs.Ask.{answer_from, ask}
use Rattle.fk_tree.specs.Edit.{view_after}
use Rattle.fk_print.specs.declared.entry.Entry.{Entry}
use Rattle.fk_print.specs.declared.line.Line.{Line}
use Rattle.fk_print.specs.declared.line.Line.TheVariants as line
use Rattle.fk_print.specs.declared.line.Shown.{Shown}
use Rattle.fk_print.specs.declared.line.Verb.{Verb}
use Rattle.fk_print.specs.declared.op.Op.{Op}
use Rattle.fk_print.specs.declared.op.Op.TheVariants as op
use Rattle.fk_spec.specs.Plan.{Plan, Ask, asked}
use Rattle.fk_spec.specs.Shown.{seen_by}
use Rattle.fk_spec.specs.Settling.{Outcome, Committed, Refused, Passed, mark_of, mark_in, outcome_of}
use Rattle.fk_spec.specs.Stored.{committed_as}
use Rattle.fk_spec.specs.Client.{client_in, client_of, is_ready, number_looked_for, number_read, Result, Open, Settled, Plain, Expired, Sent}
use Rattle.fk_spec.specs.Replies.{shown_answer, shown_applied, shown_asked, shown_result, verb_asked}
use Rattle.fk_spec.specs.PublicLines.{greatest_tx, lines_of, txs_among, txs_of}
use Rattle.fk_spec.specs.Promises.{tx_for}
use Rattle.fk_spec.specs.Refusals.{fails_read, evicts_late, is_evicted_late}
use Rattle.fk_spec.specs.Next.{IsHistory}
use Rattle.fk_law.proofs.Growing.{numbers_never_fall}
use Rattle.fk_law.proofs.Leading.{mark_behind_sweep}
use Rattle.fk_law.proofs.Outcomes.{outcome_is_of_a_settled, outcome_never_changes}
use Rattle.fk_law.proofs.Sending.{committed_is_filled, committed_never_changes}
use Rattle.fk_law.proofs.Settled.{reached}
use Rattle.fk_law.proofs.Stamping.{final_below_the_sweep}
use Rattle.fk_law.proofs.TxLines.{greatest_tx_is_the_mark, published_request_has_its_line}
use Rattle.fk_law_client.specs.Inboxes.{IsPublishedPush}
use Rattle.fk_law_client.specs.Lines.{IsAmong, IsReadyLine, IsLookedLine, IsAnswerLine, IsFailedLine, IsPublication, ReplyIs, Ready, Looked, Answers, Failed, LineIsAfter, kept_after, EachAfter, IsExpiry}
use Rattle.fk_law.specs.Operations.{BeginsRead, OperationSays, WaitsToRegister}
use Rattle.fk_law_client.specs.Tracking.{IsTrueResult}
use Rattle.fk_law_client.proofs.Lines.{client_lines_are, each_mapped, other_lines_are}
use Rattle.fk_law_client.proofs.Messages.{published_push_stays, inbox_messages}
use Rattle.fk_law_client.proofs.Seen.{seen_published}
use Rattle.fk_law_client.proofs.Tracking.{acted_tracked, sent_tracked, first_true}
use Rattle.fk_law_reply.specs.ClosedClients.{KnownClosed}
use Rattle.fk_law_reply.specs.Plans.{HasFittingVerbs}
use Rattle.fk_law_reply.specs.Ledger.{HasOwnCause, IsEntered, message_number}
use Rattle.fk_law_reply.specs.Reads.{IsMadeRead}
use Rattle.fk_law_reply.specs.Replying.{IsWriteSent, ShowsOutcome, ShowsOwnResult, Why, AsApplied, AsRefused, AsOwn, AsAnswered, AsFailed, IsExplained, LineIsExplained, LinesAreExplained, IsRefusedUpTo, AreExplained, IsEvictedBy}
use Rattle.fk_law_reply.proofs.ClosedClients.{expired_by_an_operation, known_stays, evicted_request}
use Rattle.fk_law_reply.proofs.Finding.{reads_show_the_tree}
use Rattle.fk_law_reply.proofs.Ledger.{begun_never_falls, cause_stays, commands_of_an_operation_are_entered, its_message, kept_commands_are_entered, message_stays, sent_number_never_changes, tracked_among}
use Rattle.fk_law.specs.Due.{IsDue}
use Rattle.fk_law.proofs.Due.{client_operations_say, due}
use Rattle.fk_spec.specs.Lanes.{Evicted, inbox_of}
use Rattle.fk_law_reply.proofs.Evicting.{eviction_is_of_a_late_heartbeat}
use Rattle.fk_base.proofs.Logic.{itself}

-- It stays true. ---------------------------------------------------------------------------------------

begun_stays : (p : Plan) (c i : ℕ) (e : Entry) (h : List Entry) → IsHistory p (e ∷ h) → i ≤ (client_of p c h).begun → i ≤ (client_of p c (e ∷ h)).begun
begun_stays p c i e h l b = let g = begun_never_falls p c h (e ∷ []) l in omega (arith, b, g)

sent_stays : (p : Plan) (e : Entry) (h : List Entry) (c i k : ℕ) (a : Ask) → IsHistory p (e ∷ h) → IsWriteSent p h c i k a → IsWriteSent p (e ∷ h) c i k a
sent_stays p e h c i k a l x = record { is_begun = begun_stays p c i e h l x.is_begun; number = sent_number_never_changes p c i h (e ∷ []) l x.is_begun ∙ x.number; message = message_stays p c e h i k a l x.is_begun x.message }

refused_more : (m n : ℕ) (o : Outcome) → m ≤ n → IsRefusedUpTo m o → IsRefusedUpTo n o
refused_more m n (Refused cd place at) a b = omega (arith, a, b)
refused_more m n (Committed t) a b = tt
refused_more m n (Passed loss) a b = tt

why_stays : (p : Plan) (e : Entry) (h up : List Entry) (o : Op) (b : List Line) (c i : ℕ) (s : Shown) (a : Ask) → IsHistory p (e ∷ h) → Why p h up o b c i s a → Why p (e ∷ h) up o b c i s a
why_stays p e h up o b c i s a l (AsApplied x) = AsApplied (record {
  k = x.k;
  sent = sent_stays p e h c i x.k a l x.sent;
  tx = x.tx;
  push = published_push_stays p c x.k x.tx false e h l x.push;
  applied = x.applied;
  committed = committed_never_changes p x.tx h (e ∷ []) x.applied l x.committed;
  shows = x.shows;
  line_stands = x.line_stands;
})
why_stays p e h up o b c i s a l (AsRefused x) = AsRefused (record {
  k = x.k;
  sent = sent_stays p e h c i x.k a l x.sent;
  outcome = x.outcome;
  settled = outcome_never_changes p c x.k h (e ∷ []) x.outcome l x.settled;
  published = refused_more (mark_of h) (mark_of (e ∷ h)) x.outcome (numbers_never_fall h (e ∷ [])).mark x.published;
  shows = x.shows;
})
why_stays p e h up o b c i s a l (AsOwn x) = AsOwn (record {
  is_begun = begun_stays p c i e h l x.is_begun;
  unsent = sent_number_never_changes p c i h (e ∷ []) l x.is_begun ∙ x.unsent;
  result = x.result;
  cause = cause_stays p c i e h a x.result l x.is_begun x.cause;
  cause_then = x.cause_then;
  closed = known_stays p c i e h x.result l x.closed;
  shows = x.shows;
})
why_stays p e h up o b c i s a l (AsAnswered x) =
    let m = (mark_behind_sweep p h l.0).0 in
    let g = (numbers_never_fall h (e ∷ [])).mark in
    let n = x.published in
    AsAnswered (record {
      query = x.query;
      watch = x.watch;
      reads = x.reads;
      number = x.number;
      published = omega (arith, g, n);
      printed = x.printed;
      shows = x.shows ∙ ap (λ done. shown_answer x.number (ask (view_after done) x.query)) (sym (final_below_the_sweep p x.number h (e ∷ []) l (omega (arith, m, n))));
    })
why_stays p e h up o b c i s a l (AsFailed x) = AsFailed x

explained_stays : (p : Plan) (e : Entry) (h up : List Entry) (o : Op) (c i : ℕ) (v : Verb) (s : Shown) (b : List Line) → IsHistory p (e ∷ h) → IsExplained p h up o b c i v s → IsExplained p (e ∷ h) up o b c i v s
explained_stays p e h up o c i v s b l x = record { ask = x.ask; is_asked = x.is_asked; verb = x.verb; why = why_stays p e h up o b c i s x.ask l x.why }

evicted_stays : (p : Plan) (e : Entry) (h : List Entry) (c t : ℕ) → IsHistory p (e ∷ h) → IsEvictedBy p h c t → IsEvictedBy p (e ∷ h) c t
evicted_stays p e h c t l x = record { k = x.k; push = published_push_stays p c x.k t true e h l x.push; late = or_right (evicts_late c x.k h e.op) (is_evicted_late c x.k h) x.late }

line_stays : (p : Plan) (e : Entry) (h up : List Entry) (o : Op) → IsHistory p (e ∷ h) → (l : Line) (b : List Line) → LineIsExplained p h up o l b → LineIsExplained p (e ∷ h) up o l b
line_stays p e h up o k (line.Reply c i v s) b x = explained_stays p e h up o c i v s b k x
line_stays p e h up o k (line.Tx printed) b x = tt
line_stays p e h up o k (line.Notice c t kind _ path) b x = tt
line_stays p e h up o k (line.Expired c t) b x = evicted_stays p e h c t k x

-- What is known of a kept command. ---------------------------------------------------------------------

message_is : (k : ℕ) → 1 ≤ k → message_number k ≡ Some k
message_is k b = grind (arith, nat_tests)

no_message : (k : ℕ) → k ≡ 0 → message_number k ≡ None
no_message k e = grind (arith, nat_tests)

-- a command that is kept with the number of a message was sent as a write
was_sent : (p : Plan) (c : ℕ) (h : List Entry) (s : Sent) (x : IsEntered p c (client_of p c h).begun h s) → 1 ≤ s.k → IsWriteSent p h c s.command s.k x.ask
was_sent p c h s x b = record { is_begun = x.is_begun; number = x.number ∙ message_is s.k b; message = its_message p c (client_of p c h).begun h s x b }

settled_why : (p : Plan) (c : ℕ) (h up : List Entry) (z : Op) (b : List Line) (s : Sent) (v : Shown) (o : Outcome) (x : IsEntered p c (client_of p c h).begun h s) → IsHistory p h → outcome_of c s.k h ≡ Some o → IsRefusedUpTo (mark_of h) o → ShowsOutcome v o → Why p h up z b c s.command v x.ask
settled_why p c h up z b s v o x l q m w = AsRefused (record { k = s.k; sent = was_sent p c h s x (outcome_is_of_a_settled p c s.k h o l q).0; outcome = o; settled = q; published = m; shows = w })

-- a result that the client found itself is printed by the entry after which it is known
own_why : (p : Plan) (c : ℕ) (h : List Entry) (z : Op) (b : List Line) (s : Sent) (v : Shown) (r : Result) (x : IsEntered p c (client_of p c h).begun h s) → s.result ≡ r → s.k ≡ 0 → KnownClosed p h c s.command r → ShowsOwnResult v b r → Why p h h z b c s.command v x.ask
own_why p c h z b s v r x q e k w =
    let y = subst (HasOwnCause c s.command h x.ask) q x.cause in
    AsOwn (record { is_begun = x.is_begun; unsent = x.number ∙ no_message s.k e; result = r; cause = y; cause_then = y; closed = k; shows = w })

applied_why : (p : Plan) (c t : ℕ) (h up : List Entry) (z : Op) (b : List Line) (s : Sent) (v : Shown) (x : IsEntered p c (client_of p c h).begun h s) → IsHistory p h → IsPublishedPush p c s.k t false h → txs_among b ≡ txs_of h → v ≡ shown_applied t (committed_as p t h) → Why p h up z b c s.command v x.ask
applied_why p c t h up z b s v x l i f w =
    let a = committed_is_filled p t h l i.committed in
    AsApplied (record {
      k = s.k;
      sent = was_sent p c h s x (reached p i.function c s.k h l i.is_of.task).0;
      tx = t;
      push = i;
      applied = a.0;
      committed = a.1;
      shows = w ∙ ap (shown_applied t) a.1;
      line_stands = ap (tx_for c s.k) f ∙ published_request_has_its_line p t i.function c s.k h a.0 l i.is_of a.1 i.published;
    })

-- The lines of an entry. -------------------------------------------------------------------------------

mark_same : (o : Op) (c m : ℕ) → client_in o ≡ Some c → mark_in o m ≡ m
mark_same o c m e = grind arith

-- what a client was shown after its operation is at most the greatest transaction line before
seen_printed : (p : Plan) (c n : ℕ) (e : Entry) (h : List Entry) (b : List Line) → HasFittingVerbs p → IsHistory p (e ∷ h) → client_in e.op ≡ Some c → txs_among b ≡ txs_of h → n ≤ seen_by c (e ∷ h) → n ≤ greatest_tx (txs_among b)
seen_printed p c n e h b v l q f a =
    let s = seen_published p c (e ∷ h) v.reads l in
    let m = mark_same e.op c (mark_of h) q in
    let g = ap greatest_tx f ∙ greatest_tx_is_the_mark p h l.0 in
    omega (arith, a, s, m, g)

ready_why : (p : Plan) (c : ℕ) (e : Entry) (h : List Entry) (b : List Line) (s : Sent) (v : Shown) (x : IsEntered p c (client_of p c (e ∷ h)).begun (e ∷ h) s) → IsHistory p (e ∷ h) → IsTrueResult p c s.k (e ∷ h) s.result → KnownClosed p (e ∷ h) c s.command s.result → is_ready s.result ≡ true → v ≡ shown_result p h s.result → ((n : ℕ) → n ≤ seen_by c (e ∷ h) → n ≤ greatest_tx (txs_among b)) → Why p (e ∷ h) (e ∷ h) e.op b c s.command v x.ask
ready_why p c e h b s v x l t y f w bound = by_result s.result refl t y f w
  where
    by_result : (r : Result) → s.result ≡ r → IsTrueResult p c s.k (e ∷ h) r → KnownClosed p (e ∷ h) c s.command r → is_ready r ≡ true → v ≡ shown_result p h r → Why p (e ∷ h) (e ∷ h) e.op b c s.command v x.ask
    by_result Open q i u j k = absurd (false≢true j)
    by_result (Settled (Committed tx)) q i u j k = absurd (false≢true j)
    by_result (Settled (Refused cd place at)) q i u j k = absurd (false≢true j)
    by_result (Settled (Passed loss)) q i u j k = settled_why p c (e ∷ h) (e ∷ h) e.op b s v (Passed loss) x l i tt k
    by_result (Plain cd) q i u j k = own_why p c (e ∷ h) e.op b s v (Plain cd) x q i tt k
    by_result (Expired at) q i u j k = own_why p c (e ∷ h) e.op b s v (Expired at) x q i.0 u (k, bound at i.1)

looked_why : (p : Plan) (c n : ℕ) (h up : List Entry) (z : Op) (b : List Line) (s : Sent) (v : Shown) (x : IsEntered p c (client_of p c h).begun h s) → IsHistory p h → IsTrueResult p c s.k h s.result → number_looked_for s.result ≡ Some n → n ≤ mark_of h → v ≡ shown_result p h s.result → txs_among b ≡ txs_of h → Why p h up z b c s.command v x.ask
looked_why p c n h up z b s v x l t f m w g = by_result s.result t f w
  where
    by_result : (r : Result) → IsTrueResult p c s.k h r → number_looked_for r ≡ Some n → v ≡ shown_result p h r → Why p h up z b c s.command v x.ask
    by_result Open i j k = absurd (none-some n j)
    by_result (Settled (Committed tx)) i j k = applied_why p c tx h up z b s v x l i g k
    by_result (Settled (Refused cd place at)) i j k = settled_why p c h up z b s v (Refused cd place at) x l i (subst (λ y. y ≤ mark_of h) (sym (same_Some at n j)) m) k
    by_result (Settled (Passed loss)) i j k = absurd (none-some n j)
    by_result (Plain cd) i j k = absurd (none-some n j)
    by_result (Expired at) i j k = absurd (none-some n j)

-- a reply to a command that is entered
entered_explained : (p : Plan) (c i : ℕ) (h up : List Entry) (z : Op) (b : List Line) (k : Sent) (v : Verb) (s : Shown) (x : IsEntered p c (client_of p c h).begun h k) → k.command ≡ i → v ≡ verb_asked (asked p c i) → Why p h up z b c k.command s x.ask → IsExplained p h up z b c i v s
entered_explained p c i h up z b k v s x e f w = subst (λ j. IsExplained p h up z b c j v s) e (record { ask = x.ask; is_asked = x.is_asked; verb = f ∙ (ap (λ j. verb_asked (asked p c j)) (sym e) ∙ ap verb_asked x.is_asked); why = w })

ready_explained : (p : Plan) (c i : ℕ) (e : Entry) (h : List Entry) (b : List Line) (v : Verb) (s : Shown) → HasFittingVerbs p → IsHistory p (e ∷ h) → client_in e.op ≡ Some c → IsReadyLine p c i h e.op s → v ≡ verb_asked (asked p c i) → txs_among b ≡ txs_of h → IsExplained p (e ∷ h) (e ∷ h) e.op b c i v s
ready_explained p c i e h b v s r l q x f g =
    let y = commands_of_an_operation_are_entered p c e h x.kept l q x.among in
    let t = acted_tracked p c e h r.reads l q (sent_tracked p c h r.reads l.0) in
    entered_explained p c i (e ∷ h) (e ∷ h) e.op b x.kept v s y x.command f (ready_why p c e h b x.kept s y l (tracked_among p c (e ∷ h) t.answered t.last (kept_after p c h e.op) _ _ x.kept t.tracked x.among) (expired_by_an_operation p c e h x.kept r l q x.among) x.ready x.shows (λ n a. seen_printed p c n e h b r l q g a))

looked_explained : (p : Plan) (c i : ℕ) (h up : List Entry) (z : Op) (b : List Line) (v : Verb) (s : Shown) → HasFittingVerbs p → IsHistory p h → IsLookedLine p c i h s → v ≡ verb_asked (asked p c i) → txs_among b ≡ txs_of h → IsExplained p h up z b c i v s
looked_explained p c i h up z b v s r l x f g =
    let a : IsAmong x.kept (client_of p c h).sent = subst (IsAmong x.kept) (sym x.sent) (inl refl) in
    let y = kept_commands_are_entered p c h x.kept l a in
    let t = sent_tracked p c h r.reads l in
    entered_explained p c i h up z b x.kept v s y x.command f (looked_why p c x.number h up z b x.kept s y l (tracked_among p c h t.answered t.last (client_of p c h).sent _ _ x.kept t.tracked a) x.sought x.published x.shows g)

answer_explained : (p : Plan) (c i : ℕ) (h up : List Entry) (z : Op) (b : List Line) (v : Verb) (s : Shown) → HasFittingVerbs p → IsHistory p h → IsAnswerLine p c i h s → v ≡ verb_asked (asked p c i) → txs_among b ≡ txs_of h → IsExplained p h up z b c i v s
answer_explained p c i h up z b v s r l x f g = record {
  ask = m.ask;
  is_asked = is;
  verb = f ∙ ap verb_asked is;
  why = AsAnswered (record {
    query = m.query;
    watch = m.watch;
    reads = m.reads;
    number = n;
    published = x.published;
    printed = (let e = ap greatest_tx g ∙ greatest_tx_is_the_mark p h l in let a = x.published in omega (arith, e, a));
    shows = x.shows ∙ (ap (shown_asked n x.reading.node) is ∙ (subst (λ w. shown_asked n x.reading.node (Some (record m.ask { want = w })) ≡ shown_answer n (answer_from m.query x.reading.node)) (sym m.reads) refl ∙ ap (λ y. shown_answer n (answer_from m.query y)) m.shows));
  });
}
  where
    n : ℕ
    n = number_read (seen_by c h) x.reading

    m : IsMadeRead p c h (seen_by c h) (client_of p c h).begun x.reading
    m = reads_show_the_tree p c h x.reading r.reads l x.made

    is : asked p c i ≡ Some m.ask
    is = ap (asked p c) x.next ∙ m.is_asked

fails_it : (c i : ℕ) (o : Op) → (o ≡ op.ReadFault c i) ⊎ (o ≡ op.WatchFault c i) → fails_read c i o ≡ true
fails_it c i o (inl e) = subst (λ z. fails_read c i z ≡ true) (sym e) (rw (itself c, itself i) refl)
fails_it c i o (inr e) = subst (λ z. fails_read c i z ≡ true) (sym e) (rw (itself c, itself i) refl)

failed_explained : (p : Plan) (c i : ℕ) (h up : List Entry) (o : Op) (b : List Line) (v : Verb) (s : Shown) → OperationSays p c h o → IsFailedLine c i o s → v ≡ verb_asked (asked p c i) → IsExplained p h up o b c i v s
failed_explained p c i h up o b v s a x f = by_op x.failed
  where
    by_op : (o ≡ op.ReadFault c i) ⊎ (o ≡ op.WatchFault c i) → IsExplained p h up o b c i v s
    by_op (inl e) = let r : BeginsRead p c i h = subst (OperationSays p c h) e a in record { ask = r.begins.ask; is_asked = r.begins.is_asked; verb = f ∙ ap verb_asked r.begins.is_asked; why = AsFailed (record { query = r.query; watch = r.watch; reads = r.reads; failed = fails_it c i o (inl e); shows = x.shows }) }
    by_op (inr e) = let r : WaitsToRegister p c i h = subst (OperationSays p c h) e a in record { ask = r.ask; is_asked = r.is_asked; verb = f ∙ ap verb_asked r.is_asked; why = AsFailed (record { query = r.query; watch = r.watch; reads = r.reads; failed = fails_it c i o (inr e); shows = x.shows }) }

reply_explained : (p : Plan) (c i : ℕ) (e : Entry) (h : List Entry) (b : List Line) (v : Verb) (s : Shown) → HasFittingVerbs p → IsHistory p (e ∷ h) → client_in e.op ≡ Some c → ReplyIs p c i h e.op s → v ≡ verb_asked (asked p c i) → txs_among b ≡ txs_of h → IsExplained p (e ∷ h) (e ∷ h) e.op b c i v s
reply_explained p c i e h b v s r l q (Ready x) f g = ready_explained p c i e h b v s r l q x f g
reply_explained p c i e h b v s r l q (Looked x) f g = explained_stays p e h (e ∷ h) e.op c i v s b l (looked_explained p c i h (e ∷ h) e.op b v s r l.0 x f g)
reply_explained p c i e h b v s r l q (Answers x) f g = explained_stays p e h (e ∷ h) e.op c i v s b l (answer_explained p c i h (e ∷ h) e.op b v s r l.0 x f g)
reply_explained p c i e h b v s r l q (Failed x) f g = explained_stays p e h (e ∷ h) e.op c i v s b l (failed_explained p c i h (e ∷ h) e.op b v s (client_operations_say p c e h l q) x f)

-- an expiry: the message that is taken tells the eviction
expiry_explained : (p : Plan) (c t : ℕ) (e : Entry) (h : List Entry) → HasFittingVerbs p → IsHistory p (e ∷ h) → IsExpiry p c h e.op t → IsEvictedBy p h c t
expiry_explained p c t e h v l x =
    let d : IsDue p h (op.TakeEvicted c x.k t) = subst (IsDue p h) x.taken (due p e h l) in
    let m = first_true p c h (inbox_of p c h) d.0 (Evicted x.k t) d.1 (inbox_messages p c h l.0) in
    record { k = x.k; push = m; late = eviction_is_of_a_late_heartbeat p c x.k h v l.0 (evicted_request p c x.k t h l.0 m) }

-- Histories. -------------------------------------------------------------------------------------------

line_explained : (p : Plan) (c : ℕ) (e : Entry) (h : List Entry) → HasFittingVerbs p → IsHistory p (e ∷ h) → client_in e.op ≡ Some c → (l : Line) (b : List Line) → LineIsAfter p c h e.op l b → LineIsExplained p (e ∷ h) (e ∷ h) e.op l b
line_explained p c e h r k q (line.Reply d i v s) b x = subst (λ z. IsExplained p (e ∷ h) (e ∷ h) e.op b z i v s) (sym x.0.0) (reply_explained p c i e h b v s r k q x.0.2 x.0.1 x.1)
line_explained p c e h r k q (line.Tx printed) b x = tt
line_explained p c e h r k q (line.Notice d t kind _ path) b x = tt
line_explained p c e h r k q (line.Expired d t) b x = subst (λ z. IsEvictedBy p (e ∷ h) z t) (sym x.0.0) (evicted_stays p e h c t k (expiry_explained p c t e h r k x.0.1))

tx_explained : (p : Plan) (e : Entry) (h : List Entry) (l : Line) (b : List Line) → IsPublication p h e.op l → LineIsExplained p (e ∷ h) (e ∷ h) e.op l b
tx_explained p e h l b x = subst (λ z. LineIsExplained p (e ∷ h) (e ∷ h) e.op z b) (sym x.line_is) tt

entry_explained : (p : Plan) (e : Entry) (h : List Entry) → HasFittingVerbs p → IsHistory p (e ∷ h) → EachAfter (LineIsExplained p (e ∷ h) (e ∷ h) e.op) e.lines (lines_of h)
entry_explained p e h r l = by_client (client_in e.op) refl
  where
    by_client : (o : Option ℕ) → client_in e.op ≡ o → EachAfter (LineIsExplained p (e ∷ h) (e ∷ h) e.op) e.lines (lines_of h)
    by_client None q = each_mapped (λ x b. IsPublication p h e.op x) (LineIsExplained p (e ∷ h) (e ∷ h) e.op) e.lines (lines_of h) (tx_explained p e h) (other_lines_are p e h l q)
    by_client (Some c) q = each_mapped (LineIsAfter p c h e.op) (LineIsExplained p (e ∷ h) (e ∷ h) e.op) e.lines (lines_of h) (line_explained p c e h r l q) (client_lines_are p c e h r.reads l q)

explained_more : (p : Plan) (e : Entry) (h up : List Entry) → IsHistory p (e ∷ h) → AreExplained p h up → AreExplained p (e ∷ h) up
explained_more p e h [] l i = tt
explained_more p e h (x ∷ up) l i = (each_mapped (LineIsExplained p h (x ∷ up) x.op) (LineIsExplained p (e ∷ h) (x ∷ up) x.op) x.lines (lines_of up) (line_stays p e h (x ∷ up) x.op l) i.0, explained_more p e h up l i.1)

pub lines_are_explained : LinesAreExplained
lines_are_explained p [] r l = tt
lines_are_explained p (e ∷ h) r l = (entry_explained p e h r l, explained_more p e h h l (lines_are_explained p h r l.0))
