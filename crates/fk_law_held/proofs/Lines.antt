-- What a client holds by its lines after each entry.
use Rattle.std.specs.Prelude.{◌==◌, ◌&&◌}
use Rattle.std.proofs.Common.{◌≡◌, ℕ, ◌+◌, ◌≤◌, ◌++◌, ◌⊎◌, inl, inr, if◌then◌else◌, Bool, true, false, List, [], ◌∷◌, refl, sym, ◌∙◌, ap, subst, arith, Option, Some, None}
use Rattle.std.proofs.lemmas.Bool.{false≢true, cond_both, eqb-true}
use Rattle.std.proofs.lemmas.Option.{same_Some, none-some}
use Rattle.fk_base.specs.declared.code.Code.{Code}
use Rattle.fk_base.specs.declared.code.Code.TheVariants as code
use Rattle.fk_tree.specs.Apply.{reply_of}
use Rattle.fk_tree.specs.Ask.{answer_from, path_asked}
use Rattle.fk_tree.specs.Check.{Refusal, check, check_open}
use Rattle.fk_tree.specs.Edit.{closes, view_after}
use Rattle.fk_tree.specs.View.{View}
use Rattle.fk_tree.specs.Watch.{kind_asked, same_kind}
use Rattle.fk_base.specs.Path.{same_path}
use Rattle.fk_tree.specs.declared.applied.Applied.{Applied}
use Rattle.fk_tree.specs.declared.node.Node.{Node}
use Rattle.fk_tree.specs.declared.request.Query.{Query}
use Rattle.fk_tree.specs.declared.request.Query.TheVariants as query
use Rattle.fk_tree.specs.declared.request.Request.TheVariants as request
use Rattle.fk_tree.proofs.Order.{same_path_is}
use Rattle.fk_print.specs.declared.entry.Entry.{Entry}
use Rattle.fk_print.specs.declared.line.Line.{Line}
use Rattle.fk_print.specs.declared.line.Line.TheVariants as line
use Rattle.fk_print.specs.declared.line.Shown.{Shown}
use Rattle.fk_print.specs.declared.line.Shown.TheVariants as shown
use Rattle.fk_print.specs.declared.op.Op.{Op}
use Rattle.fk_print.specs.declared.op.Op.TheVariants as op
use Rattle.fk_spec.specs.Plan.{Plan, Ask, Want, Unfit, Writes, Reads, asked, asks_in}
use Rattle.fk_spec.specs.Shown.{seen_by}
use Rattle.fk_spec.specs.Locks.{Loss}
use Rattle.fk_spec.specs.Start.{or_else, when, request_of}
use Rattle.fk_spec.specs.Settling.{Committed, Refused, Passed}
use Rattle.fk_spec.specs.Stored.{committed_of, up_to}
use Rattle.fk_spec.specs.Sight.{sight_of}
use Rattle.fk_spec.specs.Watches.{Watch, firing_of, watch_asked, watch_wanted}
use Rattle.fk_spec.specs.Client.{acted_by, by_result, client_in, client_of, close_if, contains, is_close, is_ready, is_unfit, is_unfit_want, local_result, looked, looked_at, looked_for, number_read, ready_first, registers, sets_watch, with_held, Client, Result, Open, Settled, Plain, Expired, Reading, Sent, number_looked_for, target_of, target_sent}
use Rattle.fk_spec.specs.Replies.{first_line, looked_lines, read_lines, reply_line, reply_lines, shown_answer, shown_applied, shown_asked, shown_loss, shown_read, shown_reply, shown_result, wording, read_line}
use Rattle.fk_spec.specs.Holding.{Holding, ends_session, held_after, held_asked, held_by, held_with, number_set, set_by, with_holding}
use Rattle.fk_spec.specs.PublicLines.{lines_onto}
use Rattle.fk_spec.specs.Next.{IsHistory}
use Rattle.fk_law_watch.specs.Registering.{IsRegistration, number_from, number_of_read}
use Rattle.fk_law_watch.specs.SetWatches.{first_of, registered_in, set_watch}
use Rattle.fk_law_watch.proofs.SetWatches.{or_stays}
use Rattle.fk_law_client.specs.Kept.{WasTold, KeptFrom, Before, Told, Begun, begun_by}
use Rattle.fk_law_client.specs.Lines.{EachAfter, IsAmong, IsPublication, LineIsAfter, kept_after}
use Rattle.fk_law.specs.Operations.{OperationSays}
use Rattle.fk_law_client.proofs.Kept.{among_unready, client_after, kept_commands_have_their_source, own_client}
use Rattle.fk_law.proofs.Due.{client_operations_say}
use Rattle.fk_law_reply.specs.Plans.{HasFittingVerbs}
use Rattle.fk_law_held.specs.Held.{HeldChange, Left, Emptied, Dropped, Added, fired_watch, known_watch}
use Rattle.fk_law_held.specs.Matching.{Matches}
use Rattle.fk_law_held.proofs.Announcing.{registered_unfired}
use Rattle.fk_law_held.proofs.Changing.{held_change, with_has, with_new, with_old}
use Rattle.fk_law_held.proofs.Differing.{held_watches_differ, set_watches_are_held, unfired_set, waiting_read_registers}
use Rattle.fk_law_held.proofs.Holding.{IsRegistered, accounted_now, closed_clients_hold_nothing, held_watches_are_accounted_for, known_stays, registered_now, registration}
use Rattle.fk_law_held.proofs.Matching.{held_onto, matches_added, matches_again, matches_none}
use Rattle.fk_law_client.specs.Tracking.{IsTrueResult}
use Rattle.fk_law_client.proofs.Tracking.{sent_tracked}
use Rattle.fk_law_reply.specs.Ledger.{IsEntered, IsMessage}
use Rattle.fk_law_reply.proofs.Ledger.{its_message, kept_commands_are_entered, tracked_among}
use Rattle.fk_law_reply.proofs.ClosedClients.{applied_is, first_sought, at_closed, writes_same}
use Rattle.fk_law_reply.proofs.RefusedOutcomes.{refused_holds_at_its_number}
use Rattle.fk_law.proofs.Sending.{committed_is_filled}
use Rattle.fk_law.proofs.Settled.{reached}
use Rattle.fk_law.proofs.Outcomes.{outcome_is_of_a_settled}
use Rattle.fk_base.proofs.Logic.{itself}
use Rattle.fk_tree.proofs.SameKind.{same_kind_is}

-- Lines one after another. -----------------------------------------------------------------------------

pub onto_is : (p : Plan) (c : ℕ) (ls b : List Line) → held_by p c (lines_onto ls b) ≡ held_onto p c ls (held_by p c b)
onto_is p c [] b = refl
onto_is p c (l ∷ ls) b = onto_is p c ls (l ∷ b)

pub onto_append : (p : Plan) (c : ℕ) (xs ys : List Line) (ws : List Holding) → held_onto p c (xs ++ ys) ws ≡ held_onto p c ys (held_onto p c xs ws)
onto_append p c [] ys ws = refl
onto_append p c (x ∷ xs) ys ws = onto_append p c xs ys (held_after p c x ws)

other_line : (p : Plan) (c s : ℕ) (h : List Entry) (o : Op) (l : Line) (b : List Line) (ws : List Holding) → (s == c) ≡ false → LineIsAfter p s h o l b → held_after p c l ws ≡ ws
other_line p c s h o (line.Reply d i v sh) b ws n x = rw (x.0.0, n) refl
other_line p c s h o (line.Notice d t k _ q) b ws n x = rw (x.0.0, n) refl
other_line p c s h o (line.Expired d t) b ws n x = rw (x.0.0, n) refl
other_line p c s h o (line.Tx x) b ws n y = absurd y.0

pub other_lines : (p : Plan) (c s : ℕ) (h : List Entry) (o : Op) (ls b : List Line) (ws : List Holding) → (s == c) ≡ false → EachAfter (LineIsAfter p s h o) ls b → held_onto p c ls ws ≡ ws
other_lines p c s h o [] b ws n x = refl
other_lines p c s h o (l ∷ ls) b ws n x = ap (held_onto p c ls) (other_line p c s h o l b ws n x.0) ∙ other_lines p c s h o ls (l ∷ b) ws n x.1

tx_line : (p : Plan) (c : ℕ) (h : List Entry) (o : Op) (l : Line) (ws : List Holding) → IsPublication p h o l → held_after p c l ws ≡ ws
tx_line p c h o l ws x = subst (λ z. held_after p c z ws ≡ ws) (sym x.line_is) refl

pub tx_lines_leave : (p : Plan) (c : ℕ) (h : List Entry) (o : Op) (ls b : List Line) (ws : List Holding) → EachAfter (λ l z. IsPublication p h o l) ls b → held_onto p c ls ws ≡ ws
tx_lines_leave p c h o [] b ws x = refl
tx_lines_leave p c h o (l ∷ ls) b ws x = ap (held_onto p c ls) (tx_line p c h o l ws x.0) ∙ tx_lines_leave p c h o ls (l ∷ b) ws x.1

-- Lines that leave what is held. -----------------------------------------------------------------------

not_ends : (b : Bool) (ws : List Holding) → (if b && false then [] else ws) ≡ ws
not_ends true ws = refl
not_ends false ws = refl

leaves_want : (w : Want) (s : Shown) (ws : List Holding) → ((q : Query) → number_set q s ≡ None) → ends_session s ≡ false → held_with w s ws ≡ ws
leaves_want Unfit s ws n e = refl
leaves_want (Writes r) s ws n e = rw e (not_ends (closes r) ws)
leaves_want (Reads q true) s ws n e = ap (λ o. set_by q o ws) (n q)
leaves_want (Reads q false) s ws n e = refl

leaves : (a : Option Ask) (s : Shown) (ws : List Holding) → ((q : Query) → number_set q s ≡ None) → ends_session s ≡ false → held_asked a s ws ≡ ws
leaves None s ws n e = refl
leaves (Some a) s ws n e = leaves_want a.want s ws n e

plain_sets : (cd : Code) (q : Query) → number_set q (shown.Plain cd) ≡ None
plain_sets cd (query.Get p) = refl
plain_sets cd (query.Stat p) = refl
plain_sets cd (query.Ls p) = refl

pub plain_leaves : (a : Option Ask) (cd : Code) (ws : List Holding) → held_asked a (shown.Plain cd) ws ≡ ws
plain_leaves a cd ws = leaves a (shown.Plain cd) ws (plain_sets cd) refl

loss_sets : (o : Option Loss) (q : Query) → number_set q (shown_loss o) ≡ None
loss_sets None q = plain_sets code.SystemError q
loss_sets (Some x) (query.Get p) = refl
loss_sets (Some x) (query.Stat p) = refl
loss_sets (Some x) (query.Ls p) = refl

loss_ends : (o : Option Loss) → ends_session (shown_loss o) ≡ false
loss_ends None = refl
loss_ends (Some x) = refl

expired_want : (w : Want) (at : ℕ) → held_with w (shown.Refused code.SessionExpired at 0) [] ≡ []
expired_want Unfit at = refl
expired_want (Writes r) at = cond_both (closes r && true) [] [] (λ z. z ≡ []) (λ _. refl) (λ _. refl)
expired_want (Reads (query.Get p) true) at = refl
expired_want (Reads (query.Stat p) true) at = refl
expired_want (Reads (query.Ls p) true) at = refl
expired_want (Reads q false) at = refl

expired_leaves : (a : Option Ask) (at : ℕ) (ws : List Holding) → ws ≡ [] → held_asked a (shown.Refused code.SessionExpired at 0) ws ≡ ws
expired_leaves None at ws e = refl
expired_leaves (Some a) at ws e = subst (λ z. held_with a.want (shown.Refused code.SessionExpired at 0) z ≡ z) (sym e) (expired_want a.want at)

-- a ready line leaves what is held; one of a closed session finds nothing held
ready_leaves : (p : Plan) (c : ℕ) (h : List Entry) (s : Sent) (ws : List Holding) → is_ready s.result ≡ true → ((at : ℕ) → s.result ≡ Expired at → ws ≡ []) → held_after p c (reply_line (wording p c h) s) ws ≡ ws
ready_leaves p c h s ws e f = rw (itself c) (by_result s.result refl e)
  where
    by_result : (r : Result) → s.result ≡ r → is_ready r ≡ true → held_asked (asked p c s.command) (shown_result p h r) ws ≡ ws
    by_result Open q g = absurd (false≢true g)
    by_result (Settled (Committed t)) q g = absurd (false≢true g)
    by_result (Settled (Refused cd place at)) q g = absurd (false≢true g)
    by_result (Settled (Passed loss)) q g = leaves (asked p c s.command) (shown_loss loss) ws (loss_sets loss) (loss_ends loss)
    by_result (Plain cd) q g = plain_leaves (asked p c s.command) cd ws
    by_result (Expired at) q g = expired_leaves (asked p c s.command) at ws (f at q)

pub all_leave : (p : Plan) (c : ℕ) (h : List Entry) (ss : List Sent) (ws : List Holding) → ((s : Sent) (at : ℕ) → IsAmong s ss → s.result ≡ Expired at → ws ≡ []) → held_onto p c (reply_lines (wording p c h) (ready_first by_result ss)) ws ≡ ws
all_leave p c h [] ws f = refl
all_leave p c h (s ∷ ss) ws f =
    cond_both (is_ready s.result) (s ∷ ready_first by_result ss) [] (λ z. held_onto p c (reply_lines (wording p c h) z) ws ≡ ws)
    (λ e. ap (held_onto p c (reply_lines (wording p c h) (ready_first by_result ss))) (ready_leaves p c h s ws e (λ at q. f s at (inl refl) q)) ∙ all_leave p c h ss ws (λ x at i. f x at (inr i)))
    (λ _. refl)

-- Commands that met a closed session are of clients that know it. --------------------------------------

abbrev ExpiredClosed : Client Sent → Type 0
ExpiredClosed x = (s : Sent) (at : ℕ) → IsAmong s x.sent → s.result ≡ Expired at → x.closed ≡ true

closed_stays : (p : Plan) (c : ℕ) (h : List Entry) (o : Op) (y : Client Sent) → (client_of p c h).closed ≡ true → HeldChange p c h o y → y.closed ≡ true
closed_stays p c h o y f (Left n a b) = b ∙ f
closed_stays p c h o y f (Emptied a b) = b
closed_stays p c h o y f (Dropped j q a b) = b ∙ f
closed_stays p c h o y f (Added i j q a b) = b ∙ f

local_closed : (p : Plan) (c i seen at : ℕ) (h : List Entry) (b : Bool) → is_unfit (asked p c i) ≡ b → local_result b seen ≡ Expired at → is_unfit (asked p c i) ≡ false
local_closed p c i seen at h true e f = absurd (grind arith)
local_closed p c i seen at h false e f = e

begun_closed : (p : Plan) (c at : ℕ) (h : List Entry) (o : Op) (s : Sent) → OperationSays p c h o → begun_by p c (seen_by c h) o ≡ Some s → s.result ≡ Expired at → (client_of p c h).closed ≡ true
begun_closed p c at h (op.Send d i k) s a g f = absurd (no_open (ap (λ z. z.result) (same_Some (record { command = i; k = k; result = Open }) s g) ∙ f))
  where
    no_open : Open ≡ Expired at → ⊥
    no_open e = grind arith
begun_closed p c at h (op.SendFault d i) s a g f = absurd (no_plain (ap (λ z. z.result) (same_Some (record { command = i; k = 0; result = Plain code.ConnectionLoss }) s g) ∙ f))
  where
    no_plain : Plain code.ConnectionLoss ≡ Expired at → ⊥
    no_plain e = grind arith
begun_closed p c at h (op.Local d i) s a g f = either a.1
  where
    fit : is_unfit (asked p c i) ≡ false
    fit = local_closed p c i (seen_by c h) at h (is_unfit (asked p c i)) refl (ap (λ z. z.result) (same_Some (record { command = i; k = 0; result = local_result (is_unfit (asked p c i)) (seen_by c h) }) s g) ∙ f)

    either : (a.0.ask.want ≡ Unfit) ⊎ ((client_of p c h).closed ≡ true) → (client_of p c h).closed ≡ true
    either (inl w) = absurd (false≢true (sym fit ∙ (ap is_unfit a.0.is_asked ∙ ap is_unfit_want w)))
    either (inr w) = w
begun_closed p c at h o s a g f = absurd (none-some s g)

told_result : (p : Plan) (c at : ℕ) (h : List Entry) (s : Sent) → WasTold p c h s → s.result ≡ Expired at → ⊥
told_result p c at h s t f = clash (sym (ap (λ z. z.result) t.told) ∙ f)
  where
    clash : Settled t.outcome ≡ Expired at → ⊥
    clash e = grind arith

pub acted_closed : (p : Plan) (c : ℕ) (e : Entry) (h : List Entry) → IsHistory p (e ∷ h) → client_in e.op ≡ Some c → ExpiredClosed (client_of p c h) → ExpiredClosed (acted_by (sight_of p c h) e.op (client_of p c h))
acted_closed p c e h l q i s at a f = by_source (kept_commands_have_their_source p c h e.op s a)
  where
    stays : (client_of p c h).closed ≡ true → (acted_by (sight_of p c h) e.op (client_of p c h)).closed ≡ true
    stays k = closed_stays p c h e.op (acted_by (sight_of p c h) e.op (client_of p c h)) k (held_change p c h e.op q)

    by_source : KeptFrom p c h e.op s → (acted_by (sight_of p c h) e.op (client_of p c h)).closed ≡ true
    by_source (Before b) = stays (i s at b f)
    by_source (Told t) = absurd (told_result p c at h s t f)
    by_source (Begun g) = stays (begun_closed p c at h e.op s (client_operations_say p c e h l q) g f)

pub expired_closed : (p : Plan) (c : ℕ) (h : List Entry) → IsHistory p h → ExpiredClosed (client_of p c h)
expired_closed p c [] l s at a f = absurd a
expired_closed p c (e ∷ h) l s at a f =
    client_after p c e h ExpiredClosed (expired_closed p c h l.0)
    (λ q x n b k. acted_closed p c e h l q (expired_closed p c h l.0) x n (among_unready x (kept_after p c h e.op) b) k) s at a f

-- What an operation prints first. ----------------------------------------------------------------------

answer_want : (w : Want) (n : ℕ) (found : Option Node) (ws : List Holding) → sets_watch w found ≡ false → held_with w (shown_read n found w) ws ≡ ws
answer_want Unfit n found ws e = refl
answer_want (Writes r) n found ws e = not_ends (closes r) ws
answer_want (Reads q false) n found ws e = refl
answer_want (Reads (query.Stat p) true) n found ws e = absurd (false≢true (sym e))
answer_want (Reads (query.Get p) true) n None ws e = refl
answer_want (Reads (query.Ls p) true) n None ws e = refl
answer_want (Reads (query.Get p) true) n (Some x) ws e = absurd (false≢true (sym e))
answer_want (Reads (query.Ls p) true) n (Some x) ws e = absurd (false≢true (sym e))

answer_leaves : (a : Option Ask) (n : ℕ) (found : Option Node) (ws : List Holding) → registers a found ≡ false → held_asked a (shown_asked n found a) ws ≡ ws
answer_leaves None n found ws e = refl
answer_leaves (Some a) n found ws e = answer_want a.want n found ws e

-- an answer that sets one
sets_number : (q : Query) (w : Bool) (n : ℕ) (found : Option Node) (ws : List Holding) → sets_watch (Reads q w) found ≡ true → held_with (Reads q w) (shown_answer n (answer_from q found)) ws ≡ with_holding (record { path = path_asked q; kind = kind_asked q; at = n }) ws
sets_number q false n found ws e = absurd (false≢true (never q found e))
  where
    never : (q : Query) (found : Option Node) → sets_watch (Reads q false) found ≡ true → false ≡ true
    never (query.Get p) found f = f
    never (query.Stat p) found f = f
    never (query.Ls p) found f = f
sets_number (query.Get p) true n (Some x) ws e = refl
sets_number (query.Stat p) true n (Some x) ws e = refl
sets_number (query.Ls p) true n (Some x) ws e = refl
sets_number (query.Stat p) true n None ws e = refl
sets_number (query.Get p) true n None ws e = absurd (false≢true e)
sets_number (query.Ls p) true n None ws e = absurd (false≢true e)

-- a first command whose number is looked for was sent
sought_sent : (p : Plan) (c n k : ℕ) (h : List Entry) (r : Result) → IsHistory p h → IsTrueResult p c k h r → number_looked_for r ≡ Some n → 1 ≤ k
sought_sent p c n k h Open l t q = absurd (none-some n q)
sought_sent p c n k h (Settled (Committed u)) l t q = (reached p t.function c k h l t.is_of.task).0
sought_sent p c n k h (Settled (Refused cd place at)) l t q = (outcome_is_of_a_settled p c k h (Refused cd place at) l t).0
sought_sent p c n k h (Settled (Passed loss)) l t q = absurd (none-some n q)
sought_sent p c n k h (Plain cd) l t q = absurd (none-some n q)
sought_sent p c n k h (Expired at) l t q = absurd (none-some n q)

close_reply : (a : Applied) → a.request ≡ request.Close false → ends_session (shown_reply a.tx (reply_of a)) ≡ true
close_reply a e = subst (λ z. ends_session (shown_reply a.tx (reply_of (record a { request = z }))) ≡ true) (sym e) refl

-- a close is refused as its session is closed
refused_code : (v : View) (c place : ℕ) (cd : Code) → check v c (request.Close false) ≡ Some (record { code = cd; place = place }) → cd ≡ code.SessionExpired
refused_code v c place cd e = by_flag (v.closed c) e
  where
    same : (x y : Refusal) → Some x ≡ Some y → y.code ≡ x.code
    same x y f = ap (λ z. z.code) (sym (same_Some x y f))

    by_flag : (b : Bool) → (if b then Some at_closed else check_open v c (request.Close false)) ≡ Some (record { code = cd; place = place }) → cd ≡ code.SessionExpired
    by_flag true f = same at_closed (record { code = cd; place = place }) f
    by_flag false f = absurd (none-some (record { code = cd; place = place }) f)

close_ends : (p : Plan) (c n k : ℕ) (h : List Entry) (r : Result) → HasFittingVerbs p → IsHistory p h → IsTrueResult p c k h r → number_looked_for r ≡ Some n → request_of p c k h ≡ Some (request.Close false) → ends_session (shown_result p h r) ≡ true
close_ends p c n k h Open v l t q f = absurd (none-some n q)
close_ends p c n k h (Settled (Committed u)) v l t q f =
    let a = committed_is_filled p u h l t.committed in
    let y = applied_is p u t.function c k h a.0 (request.Close false) l t.is_of a.1 f in
    subst (λ o. ends_session (shown_applied u o) ≡ true) (sym a.1) (subst (λ z. ends_session (shown_reply z (reply_of a.0)) ≡ true) a.2 (close_reply a.0 y.2))
close_ends p c n k h (Settled (Refused cd place at)) v l t q f = subst (λ z. ends_session (shown.Refused z at place) ≡ true) (sym (refused_code (view_after (up_to at (committed_of p h))) c place cd (refused_holds_at_its_number p c k place at cd h (request.Close false) v.reads l t f))) refl
close_ends p c n k h (Settled (Passed loss)) v l t q f = absurd (none-some n q)
close_ends p c n k h (Plain cd) v l t q f = absurd (none-some n q)
close_ends p c n k h (Expired at) v l t q f = absurd (none-some n q)

empties : (b : Bool) (ws : List Holding) → b ≡ true → (if true && b then [] else ws) ≡ []
empties true ws e = refl
empties false ws e = absurd (false≢true e)

-- a look that is ok prints the first line
first_matches : (p : Plan) (c i n : ℕ) (k h : List Entry) (xs : List Sent) (ws : List Holding) → HasFittingVerbs p → IsHistory p h → (client_of p c h).sent ≡ xs → target_sent by_result xs ≡ Some (record { command = i; number = n }) → Matches p k (client_of p c h).held ws → Matches p k (looked_for by_result (asks_in p c) xs (client_of p c h)).held (held_onto p c (first_line (wording p c h) xs) ws)
first_matches p c i n k h [] ws v l e q m = m
first_matches p c i n k h (s ∷ ss) ws v l e q m = by_verb (is_close (asked p c s.command)) refl
  where
    among : IsAmong s (client_of p c h).sent
    among = subst (IsAmong s) (sym e) (inl refl)

    x : IsEntered p c (client_of p c h).begun h s
    x = kept_commands_are_entered p c h s l among

    true_of_it : IsTrueResult p c s.k h s.result
    true_of_it = let t = sent_tracked p c h v.reads l in tracked_among p c h t.answered t.last (client_of p c h).sent _ _ s t.tracked among

    sought : number_looked_for s.result ≡ Some n
    sought = first_sought s i n q

    y : IsMessage p c h s.command s.k x.ask
    y = its_message p c (client_of p c h).begun h s x (sought_sent p c n s.k h s.result l true_of_it sought)

    held_is : held_after p c (reply_line (wording p c h) s) ws ≡ held_with (Writes y.request) (shown_result p h s.result) ws
    held_is = rw (itself c) (ap (λ a. held_asked a (shown_result p h s.result) ws) x.is_asked ∙ ap (λ w. held_with w (shown_result p h s.result) ws) y.writes)

    closing : is_close (asked p c s.command) ≡ true → held_after p c (reply_line (wording p c h) s) ws ≡ []
    closing f =
        let r : y.request ≡ request.Close false = writes_same y.request (request.Close false) (sym y.writes ∙ (v.closes c s.command x.ask x.is_asked).wants (ap is_close (sym x.is_asked) ∙ f)) in
        held_is ∙ (ap (λ z. held_with (Writes z) (shown_result p h s.result) ws) r ∙ empties (ends_session (shown_result p h s.result)) ws (close_ends p c n s.k h s.result v l true_of_it sought (y.asks ∙ ap Some r)))

    open_request : is_close (asked p c s.command) ≡ false → (b : Bool) → closes y.request ≡ b → b ≡ false
    open_request f true g = absurd (false≢true (sym f ∙ (ap is_close x.is_asked ∙ (v.closes c s.command x.ask x.is_asked).verb y.request y.writes g)))
    open_request f false g = refl

    leaving : is_close (asked p c s.command) ≡ false → held_after p c (reply_line (wording p c h) s) ws ≡ ws
    leaving f = held_is ∙ rw (open_request f (closes y.request) refl) refl

    by_verb : (b : Bool) → is_close (asked p c s.command) ≡ b → Matches p k (close_if b (record (client_of p c h) { sent = ss })).held (held_after p c (reply_line (wording p c h) s) ws)
    by_verb true f = subst (Matches p k []) (sym (closing f)) (matches_none p k)
    by_verb false f = subst (Matches p k (client_of p c h).held) (sym (leaving f)) m

pub look_matches : (p : Plan) (c i n : ℕ) (k h : List Entry) (r : Option Reading) (ws : List Holding) → HasFittingVerbs p → IsHistory p h → (client_of p c h).reading ≡ r → target_of by_result (seen_by c h) (client_of p c h) r ≡ Some (record { command = i; number = n }) → Matches p k (client_of p c h).held ws → Matches p k (looked by_result (asks_in p c) r (client_of p c h)).held (held_onto p c (looked_lines (wording p c h) (seen_by c h) (client_of p c h) r) ws)
look_matches p c i n k h None ws v l e q m = first_matches p c i n k h (client_of p c h).sent ws v l refl q m
look_matches p c i n k h (Some r) ws v l e q m = registering (registers (asked p c ((client_of p c h).begun + 1)) r.node) refl
  where
    number : ℕ
    number = number_read (seen_by c h) r

    leaving : registers (asked p c ((client_of p c h).begun + 1)) r.node ≡ false → held_after p c (read_line c (asks_in p c) (seen_by c h) ((client_of p c h).begun + 1) r) ws ≡ ws
    leaving f = rw (itself c) (answer_leaves (asked p c ((client_of p c h).begun + 1)) number r.node ws f)

    registering : (b : Bool) → registers (asked p c ((client_of p c h).begun + 1)) r.node ≡ b → Matches p k (looked_at b r (client_of p c h)).held (held_onto p c (if b then [] else read_line c (asks_in p c) (seen_by c h) ((client_of p c h).begun + 1) r ∷ []) ws)
    registering true f = m
    registering false f = subst (Matches p k (client_of p c h).held) (sym (leaving f)) m

-- Registrations. ---------------------------------------------------------------------------------------

-- a number that was registered is known
first_known : (p : Plan) (id n : ℕ) (h : List Entry) → IsHistory p h → first_of p id h ≡ Some n → (w : Watch) × (known_watch p id h ≡ Some w)
first_known p id n [] l q = absurd (none-some n q)
first_known p id n (e ∷ h) l q = by_old (first_of p id h) refl q (λ b f. first_known p id b h l.0 f)
  where
    new : (o : Op) → e.op ≡ o → registered_in p id h o ≡ Some n → (w : Watch) × (known_watch p id (e ∷ h) ≡ Some w)
    new (op.WatchSet d i j) f g = by_number (j == id) refl g
      where
        by_number : (b : Bool) → (j == id) ≡ b → when b (number_of_read p d h) ≡ Some n → (w : Watch) × (known_watch p id (e ∷ h) ≡ Some w)
        by_number true x y = let z = accounted_now p d i id e h l (f ∙ ap (λ m. op.WatchSet d i m) (eqb-true j id x)) in (z.watch, z.known)
        by_number false x y = absurd (none-some n y)
    new o f g = absurd (grind arith)

    by_old : (o : Option ℕ) → first_of p id h ≡ o → or_else o (registered_in p id h e.op) ≡ Some n → ((b : ℕ) → first_of p id h ≡ Some b → (w : Watch) × (known_watch p id h ≡ Some w)) → (w : Watch) × (known_watch p id (e ∷ h) ≡ Some w)
    by_old (Some b) f g i = let y = i b f in (y.0, known_stays p id e h y.0 l y.1)
    by_old None f g i = new e.op refl g

abbrev MatchesNow : Plan → ℕ → Entry → List Entry → ℕ → ℕ → List Holding → Type 0
MatchesNow p c e h i id ws = Matches p (e ∷ h) (with_held id (client_of p c h).held) (held_onto p c (read_lines c (asks_in p c) (seen_by c h) i (client_of p c h).reading) ws)

pub set_matches : (p : Plan) (c i id : ℕ) (e : Entry) (h : List Entry) (ws : List Holding) → HasFittingVerbs p → IsHistory p (e ∷ h) → e.op ≡ op.WatchSet c i id → Matches p (e ∷ h) (client_of p c h).held ws → MatchesNow p c e h i id ws
set_matches p c i id e h ws v l q m = subst (λ z. Matches p (e ∷ h) (with_held id (client_of p c h).held) (held_onto p c (read_lines c (asks_in p c) (seen_by c h) i z) ws)) (sym a.0.made) (subst (Matches p (e ∷ h) (with_held id (client_of p c h).held)) (sym lines) (by_held (contains id (client_of p c h).held) refl))
  where
    a : OperationSays p c h (op.WatchSet c i id)
    a = subst (OperationSays p c h) q (client_operations_say p c e h l (ap client_in q))

    n : ℕ
    n = number_read (seen_by c h) a.0.reading

    flag : sets_watch (Reads a.0.query a.0.watch) a.0.reading.node ≡ true
    flag =
        let f = waiting_read_registers p c h a.0.reading v.reads l.0 a.0.made a.0.looked in
        subst (λ w. sets_watch w a.0.reading.node ≡ true) a.0.reads (subst (λ o. registers o a.0.reading.node ≡ true) (ap (asked p c) (sym a.0.next) ∙ a.0.is_asked) f)

    lines : held_after p c (read_line c (asks_in p c) (seen_by c h) i a.0.reading) ws ≡ with_holding (record { path = path_asked a.0.query; kind = kind_asked a.0.query; at = n }) ws
    lines = rw (itself c) (ap (λ o. held_asked o (shown_asked n a.0.reading.node o) ws) a.0.is_asked ∙ (ap (λ w. held_with w (shown_read n a.0.reading.node w) ws) a.0.reads ∙ sets_number a.0.query a.0.watch n a.0.reading.node ws flag))

    r : IsRegistration p h c i id
    r = registration p c i id e h l q

    wanted : r.watch ≡ record { id = id; session = c; path = path_asked a.0.query; kind = kind_asked a.0.query }
    wanted = same_Some r.watch (record { id = id; session = c; path = path_asked a.0.query; kind = kind_asked a.0.query }) (sym r.wanted ∙ (ap (watch_asked id c) a.0.is_asked ∙ ap (watch_wanted id c) a.0.reads))

    x : IsRegistered p c id r.watch.path r.watch.kind (e ∷ h)
    x = registered_now p c i id e h l q r

    path : x.watch.path ≡ path_asked a.0.query
    path = same_path_is x.watch.path r.watch.path x.of_it.1 ∙ ap (λ w. w.path) wanted

    kind : x.watch.kind ≡ kind_asked a.0.query
    kind = same_kind_is x.watch.kind r.watch.kind x.of_it.2 ∙ ap (λ w. w.kind) wanted

    known : known_watch p id (e ∷ h) ≡ Some x.watch
    known = or_stays (set_watch p id (e ∷ h)) (fired_watch (firing_of p id (e ∷ h))) x.watch x.set_now

    open_session : (client_of p c h).closed ≡ false
    open_session = by_closed (client_of p c h).closed refl
      where
        by_closed : (b : Bool) → (client_of p c h).closed ≡ b → (client_of p c h).closed ≡ false
        by_closed true f = absurd (none-some a.0.reading (sym (closed_clients_hold_nothing p c h l.0 f).1 ∙ a.0.made))
        by_closed false f = f

    unregistered : contains id (client_of p c h).held ≡ false → first_of p id h ≡ None
    unregistered f = by_first (first_of p id h) refl
      where
        by_first : (o : Option ℕ) → first_of p id h ≡ o → first_of p id h ≡ None
        by_first None g = g
        by_first (Some b) g =
            let y = first_known p id b h l.0 g in
            let u = unfired_set p id h y.0 y.1 (registered_unfired p c i id e h l q) in
            let s = same_Some y.0 x.watch (sym (known_stays p id e h y.0 l y.1) ∙ known) in
            absurd (false≢true (sym f ∙ set_watches_are_held p c id h y.0 l.0 open_session u (ap (λ w. w.session) s ∙ x.of_it.0)))

    first_number : contains id (client_of p c h).held ≡ false → first_of p id (e ∷ h) ≡ Some n
    first_number f = ap (λ o. or_else o (registered_in p id h e.op)) (unregistered f) ∙ subst (λ o. registered_in p id h o ≡ Some n) (sym q) (rw (itself id) (ap Some (ap (number_from c h) a.0.made)))

    differ : (j : ℕ) (w : Watch) → contains j (client_of p c h).held ≡ true → known_watch p j (e ∷ h) ≡ Some w → same_path x.watch.path w.path ≡ true → same_kind x.watch.kind w.kind ≡ true → j ≡ id
    differ j w f k s t = sym (held_watches_differ p c id j (e ∷ h) x.watch w v.reads l (now id (with_new id (client_of p c h).held)) (now j (with_old j id (client_of p c h).held f)) known k s t)
      where
        now : (z : ℕ) → contains z (with_held id (client_of p c h).held) ≡ true → contains z (client_of p c (e ∷ h)).held ≡ true
        now z g = subst (λ y. contains z y.held ≡ true) (sym (own_client p c e h (ap client_in q))) (subst (λ o. contains z (acted_by (sight_of p c h) o (client_of p c h)).held ≡ true) (sym q) g)

    again : contains id (client_of p c h).held ≡ true → Matches p (e ∷ h) (client_of p c h).held (with_holding (record { path = path_asked a.0.query; kind = kind_asked a.0.query; at = n }) ws)
    again f =
        let y = held_watches_are_accounted_for p c id h l.0 f in
        matches_again p (e ∷ h) (client_of p c h).held ws id n y.first x.watch (path_asked a.0.query) (kind_asked a.0.query) f known (or_stays (first_of p id h) (registered_in p id h e.op) y.first y.registered) path kind m

    by_held : (b : Bool) → contains id (client_of p c h).held ≡ b → Matches p (e ∷ h) (with_held id (client_of p c h).held) (with_holding (record { path = path_asked a.0.query; kind = kind_asked a.0.query; at = n }) ws)
    by_held true f = subst (λ z. Matches p (e ∷ h) z (with_holding (record { path = path_asked a.0.query; kind = kind_asked a.0.query; at = n }) ws)) (sym (ap (λ b. if b then (client_of p c h).held else (client_of p c h).held ++ id ∷ []) f)) (again f)
    by_held false f = matches_added p (e ∷ h) (client_of p c h).held (with_held id (client_of p c h).held) ws id n x.watch (path_asked a.0.query) (kind_asked a.0.query) (λ j g. with_has j id (client_of p c h).held g) (λ j g. with_old j id (client_of p c h).held g) (with_new id (client_of p c h).held) f known (first_number f) path kind differ m
