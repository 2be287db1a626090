-- Each command that a client began is answered, or the client keeps it.
use Rattle.std.specs.Prelude.{◌==◌, ◌&&◌, ◌||◌, if◌then◌else◌, nat_le}
use Rattle.std.proofs.Common.{◌≡◌, ℕ, ◌+◌, ◌≤◌, ◌++◌, Bool, true, false, List, [], ◌∷◌, refl, sym, ◌∙◌, ap, subst, arith, Option, Some, None}
use Rattle.std.proofs.lemmas.Bool.{false≢true, leb-true}
use Rattle.std.proofs.lemmas.Bool.Decides.{nat_tests}
use Rattle.std.proofs.Math.Bool.{or_assoc}
use Rattle.fk_base.specs.declared.code.Code.TheVariants as code
use Rattle.fk_print.specs.declared.entry.Entry.{Entry}
use Rattle.fk_print.specs.declared.line.Line.{Line}
use Rattle.fk_print.specs.declared.op.Op.{Op}
use Rattle.fk_print.specs.declared.op.Op.TheVariants as op
use Rattle.fk_spec.specs.Plan.{Plan, asked, asks_in}
use Rattle.fk_spec.specs.Shown.{seen_by}
use Rattle.fk_spec.specs.Settling.{Outcome, Committed}
use Rattle.fk_spec.specs.Sight.{sight_of}
use Rattle.fk_spec.specs.Client.{acted_by, by_result, client_in, client_of, close_if, flushed, is_close, is_open, is_ready, is_unfit, kept_outcome, local_result, looked, looked_at, looked_for, ready_first, registers, settle_with, settled_as, with_told, without_ready, Client, Open, Plain, Reading, Result, Sent, Settled}
use Rattle.fk_spec.specs.Replies.{first_line, looked_lines, own_lines, read_lines, reply_lines, wording}
use Rattle.fk_spec.specs.Schedule.{answers, is_answered, is_answered_in}
use Rattle.fk_spec.specs.Next.{IsHistory}
use Rattle.fk_law_watch.proofs.Reading.{next_is}
use Rattle.fk_law.specs.Operations.{OperationSays}
use Rattle.fk_law_client.proofs.Kept.{client_after}
use Rattle.fk_law.proofs.Due.{client_operations_say}
use Rattle.fk_law.proofs.Printing.{lines_are}
use Rattle.fk_law_drain.specs.Answering.{keeps_command, BegunAreAnsweredOrKept}
use Rattle.fk_base.proofs.Logic.{itself}

-- the lines of an operation, `own` and then `ready`; the entries before, `old`; what stays kept
regrouped : (own ready old kept : Bool) → (((own || ready) || old) || kept) ≡ ((own || old) || (ready || kept))
regrouped true ready old kept = refl
regrouped false true true kept = refl
regrouped false true false kept = refl
regrouped false false true kept = refl
regrouped false false false kept = refl

more_answered : (own old kept : Bool) → (old || kept) ≡ true → ((own || old) || kept) ≡ true
more_answered true old kept e = refl
more_answered false old kept e = e

-- Lines. -----------------------------------------------------------------------------------------------

answered_appended : (c i : ℕ) (xs ys : List Line) → is_answered_in c i (xs ++ ys) ≡ (is_answered_in c i xs || is_answered_in c i ys)
answered_appended c i [] ys = refl
answered_appended c i (x ∷ xs) ys = ap (λ z. answers c i x || z) (answered_appended c i xs ys) ∙ sym (or_assoc (answers c i x) (is_answered_in c i xs) (is_answered_in c i ys))

own_answers : (c j i : ℕ) → (if c == c then j == i else false) ≡ (j == i)
own_answers c j i = ap (λ z. if z then j == i else false) (itself c)

-- a kept command is printed, where it is ready, or stays kept
ready_or_kept : (p : Plan) (c i : ℕ) (h : List Entry) (ss : List Sent) → (is_answered_in c i (reply_lines (wording p c h) (ready_first by_result ss)) || keeps_command i (without_ready by_result ss)) ≡ keeps_command i ss
ready_or_kept p c i h [] = refl
ready_or_kept p c i h (s ∷ ss) = by_ready (is_ready s.result) (ready_or_kept p c i h ss)
  where
    by_ready : (b : Bool) → (is_answered_in c i (reply_lines (wording p c h) (ready_first by_result ss)) || keeps_command i (without_ready by_result ss)) ≡ keeps_command i ss → (is_answered_in c i (reply_lines (wording p c h) (if b then s ∷ ready_first by_result ss else [])) || keeps_command i (if b then without_ready by_result ss else s ∷ ss)) ≡ keeps_command i (s ∷ ss)
    by_ready true e =
        ap (λ z. (z || is_answered_in c i (reply_lines (wording p c h) (ready_first by_result ss))) || keeps_command i (without_ready by_result ss)) (own_answers c s.command i)
        ∙ (or_assoc (s.command == i) (is_answered_in c i (reply_lines (wording p c h) (ready_first by_result ss))) (keeps_command i (without_ready by_result ss)) ∙ ap (λ z. (s.command == i) || z) e)
    by_ready false e = refl

-- Kept commands. ---------------------------------------------------------------------------------------

keeps_appended : (i : ℕ) (s : Sent) (ss : List Sent) → keeps_command i (ss ++ s ∷ []) ≡ (keeps_command i ss || (s.command == i))
keeps_appended i s [] = or_none (s.command == i)
  where
    or_none : (a : Bool) → (a || false) ≡ a
    or_none true = refl
    or_none false = refl
keeps_appended i s (x ∷ xs) = ap (λ z. (x.command == i) || z) (keeps_appended i s xs) ∙ sym (or_assoc (x.command == i) (keeps_command i xs) (s.command == i))

keeps_told : (i k : ℕ) (r : Result) (ss : List Sent) → keeps_command i (with_told by_result k r ss) ≡ keeps_command i ss
keeps_told i k r [] = refl
keeps_told i k r (s ∷ ss) = by_test ((s.k == k) && is_open s.result) (keeps_told i k r ss)
  where
    by_test : (b : Bool) → keeps_command i (with_told by_result k r ss) ≡ keeps_command i ss → keeps_command i (if b then record s { result = r } ∷ ss else s ∷ with_told by_result k r ss) ≡ keeps_command i (s ∷ ss)
    by_test true e = refl
    by_test false e = ap (λ z. (s.command == i) || z) e

-- Operations. ------------------------------------------------------------------------------------------

-- what a client with these begun and kept commands answered or keeps, where `answered` says whether command i
-- has its line
abbrev IsAccounted : ℕ → Bool → Client Sent → Type 0
IsAccounted i answered x = i ≤ x.begun → (answered || keeps_command i x.sent) ≡ true

-- the next command is begun and kept
joins : (i j : ℕ) (old : Bool) (s : Sent) (x : Client Sent) → s.command ≡ j → j ≡ x.begun + 1 → IsAccounted i old x → i ≤ j → (old || keeps_command i (x.sent ++ s ∷ [])) ≡ true
joins i j old s x e n f b = subst (λ z. (old || z) ≡ true) (sym (keeps_appended i s x.sent)) (by_old (nat_le i x.begun) refl)
  where
    right : (a b c : Bool) → c ≡ true → (a || (b || c)) ≡ true
    right true b c g = refl
    right false true c g = refl
    right false false c g = g

    left : (a b c : Bool) → (a || b) ≡ true → (a || (b || c)) ≡ true
    left true b c g = refl
    left false true c g = refl
    left false false c g = absurd (false≢true g)

    it : nat_le i x.begun ≡ false → (s.command == i) ≡ true
    it g = grind (arith, nat_tests)

    by_old : (a : Bool) → nat_le i x.begun ≡ a → (old || (keeps_command i x.sent || (s.command == i))) ≡ true
    by_old true g = left old (keeps_command i x.sent) (s.command == i) (f (leb-true i x.begun g))
    by_old false g = right old (keeps_command i x.sent) (s.command == i) (it g)

-- the next command is answered at once
answers_now : (i j : ℕ) (old : Bool) (x : Client Sent) → j ≡ x.begun + 1 → IsAccounted i old x → i ≤ x.begun + 1 → ((((j == i) || false) || old) || keeps_command i x.sent) ≡ true
answers_now i j old x n f b = by_old (nat_le i x.begun) refl
  where
    it : nat_le i x.begun ≡ false → (j == i) ≡ true
    it g = grind (arith, nat_tests)

    first : (a : Bool) → a ≡ true → (((a || false) || old) || keeps_command i x.sent) ≡ true
    first true g = refl
    first false g = absurd (false≢true g)

    by_old : (a : Bool) → nat_le i x.begun ≡ a → ((((j == i) || false) || old) || keeps_command i x.sent) ≡ true
    by_old true g = more_answered ((j == i) || false) old (keeps_command i x.sent) (f (leb-true i x.begun g))
    by_old false g = first (j == i) (it g)

answers_line : (c i j : ℕ) (old : Bool) (x : Client Sent) → j ≡ x.begun + 1 → IsAccounted i old x → i ≤ x.begun + 1 → ((((if c == c then j == i else false) || false) || old) || keeps_command i x.sent) ≡ true
answers_line c i j old x n f b = subst (λ z. (((z || false) || old) || keeps_command i x.sent) ≡ true) (sym (own_answers c j i)) (answers_now i j old x n f b)

looked_for_accounted : (p : Plan) (c i : ℕ) (h : List Entry) (old : Bool) (x : Client Sent) (ss : List Sent) → x.sent ≡ ss → IsAccounted i old x → i ≤ (looked_for by_result (asks_in p c) ss x).begun → ((is_answered_in c i (first_line (wording p c h) ss) || old) || keeps_command i (looked_for by_result (asks_in p c) ss x).sent) ≡ true
looked_for_accounted p c i h old x [] e f b = f b
looked_for_accounted p c i h old x (s ∷ ss) e f b = closing (is_close (asked p c s.command)) b
  where
    moved : (a r k : Bool) → (r || (a || k)) ≡ true → (((a || false) || r) || k) ≡ true
    moved true r k g = refl
    moved false r k g = g

    rest : i ≤ x.begun → (((is_answered_in c i (first_line (wording p c h) (s ∷ ss))) || old) || keeps_command i ss) ≡ true
    rest d = subst (λ z. (((z || false) || old) || keeps_command i ss) ≡ true) (sym (own_answers c s.command i)) (moved (s.command == i) old (keeps_command i ss) (subst (λ z. (old || keeps_command i z) ≡ true) e (f d)))

    closing : (a : Bool) → i ≤ (close_if a (record x { sent = ss })).begun → ((is_answered_in c i (first_line (wording p c h) (s ∷ ss)) || old) || keeps_command i (close_if a (record x { sent = ss })).sent) ≡ true
    closing true d = rest d
    closing false d = rest d

looked_accounted : (p : Plan) (c i : ℕ) (h : List Entry) (old : Bool) (x : Client Sent) (r : Option Reading) → IsAccounted i old x → i ≤ (looked by_result (asks_in p c) r x).begun → ((is_answered_in c i (looked_lines (wording p c h) (seen_by c h) x r) || old) || keeps_command i (looked by_result (asks_in p c) r x).sent) ≡ true
looked_accounted p c i h old x None f b = looked_for_accounted p c i h old x x.sent refl f b
looked_accounted p c i h old x (Some r) f b = registering (registers (asked p c (x.begun + 1)) r.node) b
  where
    registering : (a : Bool) → i ≤ (looked_at a r x).begun → ((is_answered_in c i (if a then [] else read_lines c (asks_in p c) (seen_by c h) (x.begun + 1) (Some r)) || old) || keeps_command i (looked_at a r x).sent) ≡ true
    registering true d = f d
    registering false d = answers_line c i (x.begun + 1) old x refl f d

kept_accounted : (i k : ℕ) (old : Bool) (o : Option Outcome) (x : Client Sent) → IsAccounted i old x → IsAccounted i old (settle_with by_result k (settled_as o) x)
kept_accounted i k old None x f b = f b
kept_accounted i k old (Some o) x f b = subst (λ z. (old || z) ≡ true) (sym (keeps_told i k (Settled o) x.sent)) (f b)

set_accounted : (p : Plan) (c i j : ℕ) (h : List Entry) (old : Bool) (x : Client Sent) (o : Option Reading) (r : Reading) → o ≡ Some r → j ≡ x.begun + 1 → IsAccounted i old x → i ≤ x.begun + 1 → ((is_answered_in c i (read_lines c (asks_in p c) (seen_by c h) j o) || old) || keeps_command i x.sent) ≡ true
set_accounted p c i j h old x None r e n f b = absurd (grind arith)
set_accounted p c i j h old x (Some q) r e n f b = answers_line c i j old x n f b

-- what is answered or kept after an operation of client c, before it prints what is ready
abbrev IsAccountedAfter : Plan → ℕ → ℕ → List Entry → Bool → Op → Type 0
IsAccountedAfter p c i h old o = i ≤ (acted_by (sight_of p c h) o (client_of p c h)).begun → ((is_answered_in c i (own_lines (wording p c h) (sight_of p c h) (client_of p c h) o) || old) || keeps_command i (acted_by (sight_of p c h) o (client_of p c h)).sent) ≡ true

acted_accounted : (p : Plan) (c i : ℕ) (h : List Entry) (old : Bool) (o : Op) → OperationSays p c h o → IsAccounted i old (client_of p c h) → IsAccountedAfter p c i h old o
acted_accounted p c i h old (op.Send d j k) a f b = joins i j old (record { command = j; k = k; result = Open }) (client_of p c h) refl a.0.begins.next f b
acted_accounted p c i h old (op.SendFault d j) a f b = joins i j old (record { command = j; k = 0; result = Plain code.ConnectionLoss }) (client_of p c h) refl a.begins.next f b
acted_accounted p c i h old (op.Local d j) a f b = joins i j old (record { command = j; k = 0; result = local_result (is_unfit (asked p c j)) (seen_by c h) }) (client_of p c h) refl a.0.next f b
acted_accounted p c i h old (op.TakeDone d k t) a f b = subst (λ z. (old || z) ≡ true) (sym (keeps_told i k (Settled (Committed t)) (client_of p c h).sent)) (f b)
acted_accounted p c i h old (op.TakeRefused d k) a f b = kept_accounted i k old (kept_outcome (sight_of p c h).head) (client_of p c h) f b
acted_accounted p c i h old (op.TakeLost d k) a f b = kept_accounted i k old (kept_outcome (sight_of p c h).head) (client_of p c h) f b
acted_accounted p c i h old (op.LookOk d j m) a f b = looked_accounted p c i h old (client_of p c h) (client_of p c h).reading f b
acted_accounted p c i h old (op.WatchSet d j id) a f b = set_accounted p c i j h old (client_of p c h) (client_of p c h).reading a.0.reading a.0.made a.0.next f b
acted_accounted p c i h old (op.WatchFault d j) a f b = answers_line c i j old (client_of p c h) a.next f b
acted_accounted p c i h old (op.ReadFault d j) a f b = answers_line c i j old (client_of p c h) a.begins.next f b
acted_accounted p c i h old o a f b = more_answered (is_answered_in c i (own_lines (wording p c h) (sight_of p c h) (client_of p c h) o)) old (keeps_command i (client_of p c h).sent) (f b)

-- Histories. -------------------------------------------------------------------------------------------

entry_answers : (p : Plan) (c i : ℕ) (e : Entry) (h : List Entry) → IsHistory p (e ∷ h) → client_in e.op ≡ Some c → IsAccounted i (is_answered c i h) (client_of p c h) → IsAccounted i (is_answered c i (e ∷ h)) (flushed by_result (acted_by (sight_of p c h) e.op (client_of p c h)))
entry_answers p c i e h l q f b =
    subst (λ z. ((is_answered_in c i z || is_answered c i h) || keeps_command i (without_ready by_result y.sent)) ≡ true) (sym (lines_are p e h l ∙ next_is p h c e.op q))
    (subst (λ z. ((z || is_answered c i h) || keeps_command i (without_ready by_result y.sent)) ≡ true) (sym (answered_appended c i (own_lines (wording p c h) (sight_of p c h) (client_of p c h) e.op) (reply_lines (wording p c h) (ready_first by_result y.sent))))
    (regrouped own ready (is_answered c i h) (keeps_command i (without_ready by_result y.sent))
    ∙ (ap (λ z. (own || is_answered c i h) || z) (ready_or_kept p c i h y.sent)
    ∙ acted_accounted p c i h (is_answered c i h) e.op (client_operations_say p c e h l q) f b)))
  where
    y : Client Sent
    y = acted_by (sight_of p c h) e.op (client_of p c h)

    own : Bool
    own = is_answered_in c i (own_lines (wording p c h) (sight_of p c h) (client_of p c h) e.op)

    ready : Bool
    ready = is_answered_in c i (reply_lines (wording p c h) (ready_first by_result y.sent))

accounted : (p : Plan) (c i : ℕ) (h : List Entry) → IsHistory p h → 1 ≤ i → IsAccounted i (is_answered c i h) (client_of p c h)
accounted p c i [] l a = λ b. absurd (omega (arith, a, b))
accounted p c i (e ∷ h) l a =
    client_after p c e h (IsAccounted i (is_answered c i (e ∷ h)))
    (λ b. more_answered (is_answered_in c i e.lines) (is_answered c i h) (keeps_command i (client_of p c h).sent) (accounted p c i h l.0 a b))
    (λ q. entry_answers p c i e h l q (accounted p c i h l.0 a))

pub begun_are_answered_or_kept : BegunAreAnsweredOrKept
begun_are_answered_or_kept p c i h l a b = accounted p c i h l a b
