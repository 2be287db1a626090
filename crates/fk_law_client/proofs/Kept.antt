-- Where a client has the commands from that it keeps.
use Rattle.std.specs.Prelude.{◌==◌, ◌&&◌, if◌then◌else◌}
use Rattle.std.proofs.Common.{◌≡◌, ℕ, ◌+◌, ◌++◌, ◌⊎◌, inl, inr, Bool, true, false, List, [], ◌∷◌, refl, sym, ◌∙◌, ap, subst, Option, Some, None}
use Rattle.std.proofs.lemmas.Bool.{false≢true, cond_both, eqb-true}
use Rattle.fk_base.specs.declared.code.Code.TheVariants as code
use Rattle.fk_print.specs.declared.entry.Entry.{Entry}
use Rattle.fk_print.specs.declared.op.Op.{Op}
use Rattle.fk_print.specs.declared.op.Op.TheVariants as op
use Rattle.fk_spec.specs.Plan.{Plan, asked, asks_in}
use Rattle.fk_spec.specs.Shown.{seen_by}
use Rattle.fk_spec.specs.Settling.{Outcome, Committed}
use Rattle.fk_spec.specs.Sight.{sight_of}
use Rattle.fk_spec.specs.Client.{acted_by, by_result, client_by, client_in, client_of, close_if, flushed, is_close, is_open, is_ready, is_unfit, kept_outcome, local_result, looked, looked_at, looked_for, registers, settle_with, settled_as, with_told, without_ready, Client, Open, Plain, Reading, Sent, Settled}
use Rattle.fk_law_client.specs.Lines.{IsAmong}
use Rattle.fk_law_client.specs.Kept.{KeptFrom, Before, Told, Begun, KeptCommandsHaveTheirSource}
use Rattle.fk_base.proofs.Logic.{and_right, itself}

-- A client after an entry is as it was, or as its own operation leaves it.
pub client_after : (p : Plan) (c : ℕ) (e : Entry) (h : List Entry) (P : Client Sent → Type 0) → P (client_of p c h) → (client_in e.op ≡ Some c → P (flushed by_result (acted_by (sight_of p c h) e.op (client_of p c h)))) → P (client_of p c (e ∷ h))
client_after p c e h P old own = by_client (client_in e.op) refl
  where
    by_client : (o : Option ℕ) → client_in e.op ≡ o → P (client_by (sight_of p c h) o e.op (client_of p c h))
    by_client None q = old
    by_client (Some s) q = cond_both (s == c) (flushed by_result (acted_by (sight_of p c h) e.op (client_of p c h))) (client_of p c h) P (λ t. own (q ∙ ap Some (eqb-true s c t))) (λ _. old)

pub among_unready : (s : Sent) (ss : List Sent) → IsAmong s (without_ready by_result ss) → IsAmong s ss
among_unready s [] i = i
among_unready s (x ∷ xs) i = by_ready (λ j. among_unready s xs j) (is_ready x.result) i
  where
    by_ready : (IsAmong s (without_ready by_result xs) → IsAmong s xs) → (b : Bool) → IsAmong s (if b then without_ready by_result xs else x ∷ xs) → IsAmong s (x ∷ xs)
    by_ready f true j = inr (f j)
    by_ready f false j = j

among_appended : (s x : Sent) (ss : List Sent) → IsAmong s (ss ++ x ∷ []) → IsAmong s ss ⊎ (s ≡ x)
among_appended s x [] (inl e) = inr e
among_appended s x [] (inr i) = absurd i
among_appended s x (y ∷ ys) (inl e) = inl (inl e)
among_appended s x (y ∷ ys) (inr i) = later (among_appended s x ys i)
  where
    later : IsAmong s ys ⊎ (s ≡ x) → IsAmong s (y ∷ ys) ⊎ (s ≡ x)
    later (inl j) = inl (inr j)
    later (inr j) = inr j

-- one of these, whose outcome was told now
record IsToldNow (w : Outcome) (ss : List Sent) (s : Sent) : Type 0 where
  pub sent : Sent
  pub among : IsAmong sent ss
  pub unknown : is_open sent.result ≡ true
  pub told : s ≡ record sent { result = Settled w }

among_told : (k : ℕ) (w : Outcome) (s : Sent) (ss : List Sent) → IsAmong s (with_told by_result k (Settled w) ss) → IsAmong s ss ⊎ IsToldNow w ss s
among_told k w s [] i = absurd i
among_told k w s (x ∷ xs) i = by_test (λ j. among_told k w s xs j) ((x.k == k) && is_open x.result) refl i
  where
    further : IsAmong s xs ⊎ IsToldNow w xs s → IsAmong s (x ∷ xs) ⊎ IsToldNow w (x ∷ xs) s
    further (inl j) = inl (inr j)
    further (inr j) = inr (record { sent = j.sent; among = inr j.among; unknown = j.unknown; told = j.told })

    by_test : (IsAmong s (with_told by_result k (Settled w) xs) → IsAmong s xs ⊎ IsToldNow w xs s) → (b : Bool) → ((x.k == k) && is_open x.result) ≡ b → IsAmong s (if b then record x { result = Settled w } ∷ xs else x ∷ with_told by_result k (Settled w) xs) → IsAmong s (x ∷ xs) ⊎ IsToldNow w (x ∷ xs) s
    by_test f true e (inl j) = inr (record { sent = x; among = inl refl; unknown = and_right (x.k == k) (is_open x.result) e; told = j })
    by_test f true e (inr j) = inl (inr j)
    by_test f false e (inl j) = inl (inl j)
    by_test f false e (inr j) = further (f j)

-- Operations. ------------------------------------------------------------------------------------------

from_begun : (p : Plan) (c : ℕ) (h : List Entry) (o : Op) (s x : Sent) → (s ≡ x → KeptFrom p c h o s) → IsAmong s ((client_of p c h).sent ++ x ∷ []) → KeptFrom p c h o s
from_begun p c h o s x f i = either (among_appended s x (client_of p c h).sent i)
  where
    either : IsAmong s (client_of p c h).sent ⊎ (s ≡ x) → KeptFrom p c h o s
    either (inl j) = Before j
    either (inr j) = f j

from_told : (p : Plan) (c k : ℕ) (h : List Entry) (o : Op) (w : Outcome) (s : Sent) → IsAmong s (with_told by_result k (Settled w) (client_of p c h).sent) → KeptFrom p c h o s
from_told p c k h o w s i = either (among_told k w s (client_of p c h).sent i)
  where
    either : IsAmong s (client_of p c h).sent ⊎ IsToldNow w (client_of p c h).sent s → KeptFrom p c h o s
    either (inl j) = Before j
    either (inr j) = Told (record { sent = j.sent; among = j.among; unknown = j.unknown; outcome = w; told = j.told })

from_kept : (p : Plan) (c k : ℕ) (h : List Entry) (o : Op) (w : Option Outcome) (s : Sent) → IsAmong s (settle_with by_result k (settled_as w) (client_of p c h)).sent → KeptFrom p c h o s
from_kept p c k h o None s i = Before i
from_kept p c k h o (Some w) s i = from_told p c k h o w s i

from_first : (p : Plan) (c : ℕ) (h : List Entry) (s : Sent) (ss : List Sent) → (client_of p c h).sent ≡ ss → IsAmong s (looked_for by_result (asks_in p c) ss (client_of p c h)).sent → IsAmong s (client_of p c h).sent
from_first p c h s [] e i = i
from_first p c h s (x ∷ xs) e i = subst (IsAmong s) (sym e) (inr (closing (is_close (asked p c x.command)) i))
  where
    closing : (b : Bool) → IsAmong s (close_if b (record (client_of p c h) { sent = xs })).sent → IsAmong s xs
    closing true j = j
    closing false j = j

from_looked : (p : Plan) (c : ℕ) (h : List Entry) (s : Sent) (r : Option Reading) → IsAmong s (looked by_result (asks_in p c) r (client_of p c h)).sent → IsAmong s (client_of p c h).sent
from_looked p c h s None i = from_first p c h s (client_of p c h).sent refl i
from_looked p c h s (Some r) i = registering (registers (asked p c ((client_of p c h).begun + 1)) r.node) i
  where
    registering : (b : Bool) → IsAmong s (looked_at b r (client_of p c h)).sent → IsAmong s (client_of p c h).sent
    registering true j = j
    registering false j = j

pub kept_commands_have_their_source : KeptCommandsHaveTheirSource
kept_commands_have_their_source p c h (op.Send d i k) s a = from_begun p c h (op.Send d i k) s (record { command = i; k = k; result = Open }) (λ e. Begun (ap Some (sym e))) a
kept_commands_have_their_source p c h (op.SendFault d i) s a = from_begun p c h (op.SendFault d i) s (record { command = i; k = 0; result = Plain code.ConnectionLoss }) (λ e. Begun (ap Some (sym e))) a
kept_commands_have_their_source p c h (op.Local d i) s a = from_begun p c h (op.Local d i) s (record { command = i; k = 0; result = local_result (is_unfit (asked p c i)) (seen_by c h) }) (λ e. Begun (ap Some (sym e))) a
kept_commands_have_their_source p c h (op.TakeDone d k t) s a = from_told p c k h (op.TakeDone d k t) (Committed t) s a
kept_commands_have_their_source p c h (op.TakeRefused d k) s a = from_kept p c k h (op.TakeRefused d k) (kept_outcome (sight_of p c h).head) s a
kept_commands_have_their_source p c h (op.TakeLost d k) s a = from_kept p c k h (op.TakeLost d k) (kept_outcome (sight_of p c h).head) s a
kept_commands_have_their_source p c h (op.LookOk d i m) s a = Before (from_looked p c h s (client_of p c h).reading a)
kept_commands_have_their_source p c h o s a = Before a

-- A client after its own operation.
pub own_client : (p : Plan) (c : ℕ) (e : Entry) (h : List Entry) → client_in e.op ≡ Some c → client_of p c (e ∷ h) ≡ flushed by_result (acted_by (sight_of p c h) e.op (client_of p c h))
own_client p c e h q = subst (λ z. client_by (sight_of p c h) z e.op (client_of p c h) ≡ flushed by_result (acted_by (sight_of p c h) e.op (client_of p c h))) (sym q) (by_self (c == c) refl)
  where
    by_self : (b : Bool) → (c == c) ≡ b → (if b then flushed by_result (acted_by (sight_of p c h) e.op (client_of p c h)) else client_of p c h) ≡ flushed by_result (acted_by (sight_of p c h) e.op (client_of p c h))
    by_self true f = refl
    by_self false f = absurd (false≢true (sym f ∙ itself c))
