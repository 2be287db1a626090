-- A client of the machine acts as the rules' client.
use Rattle.std.proofs.Common.{◌≡◌, ℕ, ◌+◌, ◌++◌, Bool, true, false, cond, List, [], ◌∷◌, Option, Some, None, refl, ◌∙◌, ap}
use Rattle.std.specs.Prelude.{◌==◌, ◌&&◌}
use Rattle.fk_print.specs.declared.op.Op.{Op}
use Rattle.fk_print.specs.declared.op.Op.TheVariants as op
use Rattle.fk_base.specs.declared.code.Code.TheVariants as code
use Rattle.fk_spec.specs.Client.{Client, Reading, Result, Open, Plain, Sent, acted, all_go_on, begin_asked, begin_op, by_result, close_if, flushed, goes_on, is_close, is_none_sent, is_open, is_ready, is_unfit, is_write, joined, local_result, look_or, looked, looked_at, looked_for, may_begin, next_asked, number_read, pong_or, registers, settle_with, take_or, target_of, target_sent, watch_or, with_told, without_ready}
use Rattle.fk_spec.specs.Plan.{Ask, nth}
use Rattle.fk_spec.specs.Sight.{Sight}
use Rattle.fk_client.specs.Known.{by_outcome, kept_as, known, unanswered}
use Rattle.fk_client.specs.Knowing.{ComesToTheSame, MakesTheSameOp, all_known, client_known, sent_known, told_known}
use Rattle.fk_client.specs.declared.unanswered.Outcome.{Outcome}
use Rattle.fk_client.specs.declared.unanswered.Unanswered.{Unanswered}

-- ---- its operation

same_sent : (ss : List Unanswered) → target_sent by_outcome ss ≡ target_sent by_result (all_known ss)
same_sent [] = refl
same_sent (s ∷ ss) = refl

same_target : (seen : ℕ) (x : Client Unanswered) (r : Option Reading) → target_of by_outcome seen x r ≡ target_of by_result seen (client_known x) r
same_target seen x None = same_sent x.sent
same_target seen x (Some r) = ap (λ t. cond r.looked t (Some (record { command = x.begun + 1; number = number_read seen r }))) (same_sent x.sent)

same_go_on : (asks : List Ask) (ss : List Unanswered) → all_go_on by_outcome asks ss ≡ all_go_on by_result asks (all_known ss)
same_go_on asks [] = refl
same_go_on asks (s ∷ ss) = ap (λ b. goes_on (nth asks s.command) && b) (same_go_on asks ss)

pub same_none : (ss : List Unanswered) → is_none_sent ss ≡ is_none_sent (all_known ss)
same_none [] = refl
same_none (s ∷ ss) = refl

same_may : (asks : List Ask) (a : Ask) (ss : List Unanswered) → may_begin by_outcome asks a ss ≡ may_begin by_result asks a (all_known ss)
same_may asks a ss = step (is_write a.verb)
  where
    step : (b : Bool) → cond b (all_go_on by_outcome asks ss) (is_none_sent ss) ≡ cond b (all_go_on by_result asks (all_known ss)) (is_none_sent (all_known ss))
    step true = same_go_on asks ss
    step false = same_none ss

same_begin : (s : Sight) (x : Client Unanswered) (a : Option Ask) → begin_asked by_outcome s x a ≡ begin_asked by_result s (client_known x) a
same_begin s x None = refl
same_begin s x (Some a) = ap (λ b. cond b (begin_op s (x.begun + 1) x.closed a.want) op.Idle) (same_may s.asks a x.sent)

same_watch : (s : Sight) (x : Client Unanswered) (r : Option Reading) (o p : Op) → o ≡ p → watch_or s x r o ≡ watch_or s (client_known x) r p
same_watch s x None o p e = e
same_watch s x (Some r) o p e = refl

pub makes_the_same : MakesTheSameOp
makes_the_same s x =
    ap (λ t. pong_or s.session x.owed (take_or s.session s.head (look_or s x.held t (watch_or s x x.reading (begin_asked by_outcome s x (next_asked s.asks x)))))) (same_target s.seen x x.reading)
    ∙ ap (λ o. pong_or s.session x.owed (take_or s.session s.head (look_or s x.held (target_of by_result s.seen (client_known x) x.reading) o))) (same_watch s x x.reading (begin_asked by_outcome s x (next_asked s.asks x)) (begin_asked by_result s (client_known x) (next_asked s.asks x)) (same_begin s x (next_asked s.asks x)))

-- ---- what becomes of it

same_told : (k : ℕ) (o : Outcome) (ss : List Unanswered) → all_known (with_told by_outcome k o ss) ≡ with_told by_result k (known o) (all_known ss)
same_told k o [] = refl
same_told k o (s ∷ ss) = step ((s.k == k) && is_open (known s.outcome)) (same_told k o ss)
  where
    step : (b : Bool) → all_known (with_told by_outcome k o ss) ≡ with_told by_result k (known o) (all_known ss) → all_known (cond b (record s { outcome = o } ∷ ss) (s ∷ with_told by_outcome k o ss)) ≡ cond b (record { command = s.command; k = s.k; result = known o } ∷ all_known ss) (sent_known s ∷ with_told by_result k (known o) (all_known ss))
    step true e = refl
    step false e = ap (λ xs. sent_known s ∷ xs) e

same_end : (ss : List Unanswered) (s : Unanswered) → all_known (ss ++ s ∷ []) ≡ all_known ss ++ sent_known s ∷ []
same_end [] s = refl
same_end (t ∷ ss) s = ap (λ xs. sent_known t ∷ xs) (same_end ss s)

same_ready : (ss : List Unanswered) → all_known (without_ready by_outcome ss) ≡ without_ready by_result (all_known ss)
same_ready [] = refl
same_ready (s ∷ ss) = step (is_ready (known s.outcome)) (same_ready ss)
  where
    step : (b : Bool) → all_known (without_ready by_outcome ss) ≡ without_ready by_result (all_known ss) → all_known (cond b (without_ready by_outcome ss) (s ∷ ss)) ≡ cond b (without_ready by_result (all_known ss)) (sent_known s ∷ all_known ss)
    step true e = e
    step false e = refl

abbrev with_sent : Client Unanswered → List Sent → Client Sent
with_sent x ss = record (client_known x) { sent = ss }

same_settle : (k : ℕ) (told : Option Outcome) (x : Client Unanswered) → client_known (settle_with by_outcome k told x) ≡ settle_with by_result k (told_known told) (client_known x)
same_settle k None x = refl
same_settle k (Some o) x = ap (λ ss. record (client_known x) { sent = ss; reading = None }) (same_told k o x.sent)

same_join : (command k : ℕ) (r : Result) (x : Client Unanswered) → known (kept_as r) ≡ r → client_known (joined command (unanswered command k (kept_as r)) x) ≡ joined command (record { command = command; k = k; result = r }) (client_known x)
same_join command k r x e =
    ap (λ ss. record (client_known x) { begun = command; sent = ss }) (same_end x.sent (unanswered command k (kept_as r)))
    ∙ ap (λ z. record (client_known x) { begun = command; sent = all_known x.sent ++ record { command = command; k = k; result = z } ∷ [] }) e

same_local : (b : Bool) (seen : ℕ) → known (kept_as (local_result b seen)) ≡ local_result b seen
same_local true seen = refl
same_local false seen = refl

same_close : (b : Bool) (x : Client Unanswered) → client_known (close_if b x) ≡ close_if b (client_known x)
same_close true x = refl
same_close false x = refl

same_for : (asks : List Ask) (ss : List Unanswered) (x : Client Unanswered) → client_known (looked_for by_outcome asks ss x) ≡ looked_for by_result asks (all_known ss) (client_known x)
same_for asks [] x = refl
same_for asks (s ∷ ss) x = same_close (is_close (nth asks s.command)) (record x { sent = ss })

same_at : (b : Bool) (r : Reading) (x : Client Unanswered) → client_known (looked_at b r x) ≡ looked_at b r (client_known x)
same_at true r x = refl
same_at false r x = refl

same_looked : (asks : List Ask) (r : Option Reading) (x : Client Unanswered) → client_known (looked by_outcome asks r x) ≡ looked by_result asks r (client_known x)
same_looked asks None x = same_for asks x.sent x
same_looked asks (Some r) x = same_at (registers (next_asked asks x) r.node) r x

pub same_acted : (s : Sight) (told : Option Outcome) (o : Op) (x : Client Unanswered) → client_known (acted by_outcome s told o x) ≡ acted by_result s (told_known told) o (client_known x)
same_acted s told (op.TakeDone c k tx) x = same_settle k told x
same_acted s told (op.TakeRefused c k) x = same_settle k told x
same_acted s told (op.TakeLost c k) x = same_settle k told x
same_acted s told (op.LookOk c i mark) x = same_looked s.asks x.reading x
same_acted s told (op.Local c i) x = same_join i 0 (local_result (is_unfit (nth s.asks i)) s.seen) x (same_local (is_unfit (nth s.asks i)) s.seen)
same_acted s told (op.Send c i k) x = same_join i k Open x refl
same_acted s told (op.SendFault c i) x = same_join i 0 (Plain code.ConnectionLoss) x refl
same_acted s told o x = refl

pub comes_to_the_same : ComesToTheSame
comes_to_the_same s told o x =
    ap (λ ss. with_sent (acted by_outcome s told o x) ss) (same_ready (acted by_outcome s told o x).sent)
    ∙ ap (flushed by_result) (same_acted s told o x)
