-- The numbers under which commands are sent, and what a client keeps of each.
use Rattle.std.specs.Prelude.{◌==◌, ◌&&◌, ◌||◌, if◌then◌else◌}
use Rattle.std.proofs.Common.{◌⊎◌, inl, inr, ◌≡◌, ℕ, ◌+◌, ◌≤◌, ◌++◌, Bool, true, false, List, [], ◌∷◌, refl, sym, ◌∙◌, ap, subst, arith, Option, Some, None}
use Rattle.std.proofs.lemmas.Bool.{false≢true, cond_both, or_right, and_parts, eqb-true}
use Rattle.std.proofs.lemmas.Bool.Decides.{nat_tests}
use Rattle.std.proofs.lemmas.Option.{same_Some}
use Rattle.fk_base.specs.declared.code.Code.TheVariants as code
use Rattle.fk_print.specs.declared.entry.Entry.{Entry}
use Rattle.fk_print.specs.declared.op.Op.{Op}
use Rattle.fk_print.specs.declared.op.Op.TheVariants as op
use Rattle.fk_spec.specs.Plan.{Plan, Ask, Want, Unfit, Writes, Reads, asked, asks_in}
use Rattle.fk_spec.specs.Shown.{seen_by}
use Rattle.fk_spec.specs.Start.{or_else, origin_of, request_from, request_in, seen_from, sends_of, written}
use Rattle.fk_spec.specs.Start as start
use Rattle.fk_spec.specs.Settling.{Outcome}
use Rattle.fk_spec.specs.Sight.{sight_of}
use Rattle.fk_spec.specs.Client.{acted_by, by_result, client_by, client_in, client_of, close_if, flushed, is_close, is_unfit, is_unfit_want, kept_outcome, local_result, looked, looked_at, looked_for, registers, settle_with, settled_as, Client, Result, Open, Settled, Plain, Expired, Reading, Sent}
use Rattle.fk_spec.specs.Promises.{sent_as, sent_as_in}
use Rattle.fk_spec.specs.Refusals.{fails_send, has_failed_send, seen_at, seen_at_in}
use Rattle.fk_spec.specs.Next.{IsHistory}
use Rattle.fk_law.proofs.Sending.{origin_stays, request_never_changes, request_was_sent}
use Rattle.fk_law.specs.Operations.{BeginsWrite, OperationSays}
use Rattle.fk_law_client.specs.Lines.{IsAmong, kept_after}
use Rattle.fk_law_client.specs.Tracking.{AreTracked, IsTrueResult, later}
use Rattle.fk_law_client.specs.Kept.{KeptFrom, Before, Told, Begun, begun_by}
use Rattle.fk_law_client.proofs.Kept.{client_after, among_unready, kept_commands_have_their_source}
use Rattle.fk_law.proofs.Due.{client_operations_say}
use Rattle.fk_law_reply.specs.Ledger.{BegunNeverFalls, OnlyBegunWereSent, SentNumberNeverChanges, HasOwnCause, IsEntered, IsMessage, KeptCommandsAreEntered, CommandsOfAnOperationAreEntered, message_number}
use Rattle.fk_base.proofs.Logic.{itself}

-- How many commands are begun. -------------------------------------------------------------------------

kept_begun : (k : ℕ) (o : Option Outcome) (x : Client Sent) → (settle_with by_result k (settled_as o) x).begun ≡ x.begun
kept_begun k None x = refl
kept_begun k (Some o) x = refl

looked_begun : (p : Plan) (c : ℕ) (r : Option Reading) (x : Client Sent) → x.begun ≤ (looked by_result (asks_in p c) r x).begun
looked_begun p c None x = first x.sent
  where
    closing : (b : Bool) (ss : List Sent) → x.begun ≤ (close_if b (record x { sent = ss })).begun
    closing true ss = omega arith
    closing false ss = omega arith

    first : (ss : List Sent) → x.begun ≤ (looked_for by_result (asks_in p c) ss x).begun
    first [] = omega arith
    first (s ∷ ss) = closing (is_close (asked p c s.command)) ss
looked_begun p c (Some r) x = registering (registers (asked p c (x.begun + 1)) r.node)
  where
    registering : (b : Bool) → x.begun ≤ (looked_at b r x).begun
    registering true = omega arith
    registering false = omega arith

one_more : (a b : ℕ) → b ≡ a + 1 → a ≤ b
one_more a b e = omega (arith, e)

acted_begun : (p : Plan) (c : ℕ) (h : List Entry) (o : Op) → OperationSays p c h o → (client_of p c h).begun ≤ (acted_by (sight_of p c h) o (client_of p c h)).begun
acted_begun p c h (op.Send d i k) a = one_more (client_of p c h).begun i a.0.begins.next
acted_begun p c h (op.SendFault d i) a = one_more (client_of p c h).begun i a.begins.next
acted_begun p c h (op.Local d i) a = one_more (client_of p c h).begun i a.0.next
acted_begun p c h (op.TakeRefused d k) a = omega (arith, kept_begun k (kept_outcome (sight_of p c h).head) (client_of p c h))
acted_begun p c h (op.TakeLost d k) a = omega (arith, kept_begun k (kept_outcome (sight_of p c h).head) (client_of p c h))
acted_begun p c h (op.LookOk d i m) a = looked_begun p c (client_of p c h).reading (client_of p c h)
acted_begun p c h o a = omega arith

begun_grows : (p : Plan) (c : ℕ) (e : Entry) (h : List Entry) → IsHistory p (e ∷ h) → (client_of p c h).begun ≤ (client_of p c (e ∷ h)).begun
begun_grows p c e h l = client_after p c e h (λ x. (client_of p c h).begun ≤ x.begun) (omega arith) (λ q. acted_begun p c h e.op (client_operations_say p c e h l q))

pub begun_never_falls : BegunNeverFalls
begun_never_falls p c h [] l = omega arith
begun_never_falls p c h (e ∷ more) l = let a = begun_never_falls p c h more l.0 in let b = begun_grows p c e (more ++ h) l in omega (arith, a, b)

-- how many are begun after an operation of client c
pub own_begun : (p : Plan) (c : ℕ) (e : Entry) (h : List Entry) (o : Op) → e.op ≡ o → client_in o ≡ Some c → (client_of p c (e ∷ h)).begun ≡ (acted_by (sight_of p c h) o (client_of p c h)).begun
own_begun p c e h o q f = subst (λ z. (client_by (sight_of p c h) (client_in z) z (client_of p c h)).begun ≡ (acted_by (sight_of p c h) o (client_of p c h)).begun) (sym q) (subst (λ z. (client_by (sight_of p c h) z o (client_of p c h)).begun ≡ (acted_by (sight_of p c h) o (client_of p c h)).begun) (sym f) (by_self (c == c) refl))
  where
    by_self : (b : Bool) → (c == c) ≡ b → (if b then flushed by_result (acted_by (sight_of p c h) o (client_of p c h)) else client_of p c h).begun ≡ (acted_by (sight_of p c h) o (client_of p c h)).begun
    by_self true e = refl
    by_self false e = absurd (grind (arith, nat_tests))

-- What is sent. ----------------------------------------------------------------------------------------

sent_other : (c i : ℕ) (o : Op) → ((j k : ℕ) → o ≡ op.Send c j k → j ≡ i → ⊥) → sent_as_in c i o ≡ None
sent_other c i (op.Send d j k) f = cond_both (d == c) (if j == i then Some k else None) None (λ z. z ≡ None) (λ e. cond_both (j == i) (Some k) None (λ z. z ≡ None) (λ g. absurd (f j k (ap (λ z. op.Send z j k) (eqb-true d c e)) (eqb-true j i g))) (λ _. refl)) (λ _. refl)
sent_other c i o f = refl

sends_next : (p : Plan) (c j k : ℕ) (e : Entry) (h : List Entry) → IsHistory p (e ∷ h) → e.op ≡ op.Send c j k → j ≡ (client_of p c h).begun + 1
sends_next p c j k e h l q = (subst (OperationSays p c h) q (client_operations_say p c e h l (ap client_in q))).0.begins.next

pub only_begun_were_sent : OnlyBegunWereSent
only_begun_were_sent p c i [] l b = refl
only_begun_were_sent p c i (e ∷ h) l b = ap (λ z. or_else z (sent_as c i h)) (sent_other c i e.op not_now) ∙ only_begun_were_sent p c i h l.0 (let g = begun_grows p c e h l in omega (arith, b, g))
  where
    not_now : (j k : ℕ) → e.op ≡ op.Send c j k → j ≡ i → ⊥
    not_now j k q f = let g = own_begun p c e h (op.Send c j k) q refl in omega (arith, b, g, f)

sent_stays : (p : Plan) (c i : ℕ) (e : Entry) (h : List Entry) → IsHistory p (e ∷ h) → i ≤ (client_of p c h).begun → sent_as c i (e ∷ h) ≡ sent_as c i h
sent_stays p c i e h l b = ap (λ z. or_else z (sent_as c i h)) (sent_other c i e.op (λ j k q f. let n = sends_next p c j k e h l q in omega (arith, b, n, f)))

pub sent_number_never_changes : SentNumberNeverChanges
sent_number_never_changes p c i h [] l b = refl
sent_number_never_changes p c i h (e ∷ more) l b = sent_stays p c i e (more ++ h) l (let g = begun_never_falls p c h more l.0 in omega (arith, b, g)) ∙ sent_number_never_changes p c i h more l.0 b

-- What the client itself answers. ----------------------------------------------------------------------

-- what was seen at another command
seen_other : (c i : ℕ) (h : List Entry) (o : Op) → ((j k : ℕ) → o ≡ op.Send c j k → j ≡ i → ⊥) → ((j : ℕ) → o ≡ op.Local c j → j ≡ i → ⊥) → seen_at_in c i h o ≡ None
seen_other c i h (op.Send d j k) f g = cond_both ((d == c) && (j == i)) (Some (seen_by c h)) None (λ z. z ≡ None) (λ e. let w = and_parts (d == c) (j == i) e in absurd (f j k (ap (λ z. op.Send z j k) (eqb-true d c w.0)) (eqb-true j i w.1))) (λ _. refl)
seen_other c i h (op.Local d j) f g = cond_both ((d == c) && (j == i)) (Some (seen_by c h)) None (λ z. z ≡ None) (λ e. let w = and_parts (d == c) (j == i) e in absurd (g j (ap (λ z. op.Local z j) (eqb-true d c w.0)) (eqb-true j i w.1))) (λ _. refl)
seen_other c i h o f g = refl

refuses_next : (p : Plan) (c j : ℕ) (e : Entry) (h : List Entry) → IsHistory p (e ∷ h) → e.op ≡ op.Local c j → j ≡ (client_of p c h).begun + 1
refuses_next p c j e h l q = (subst (OperationSays p c h) q (client_operations_say p c e h l (ap client_in q))).0.next

seen_stays : (p : Plan) (c i : ℕ) (e : Entry) (h : List Entry) → IsHistory p (e ∷ h) → i ≤ (client_of p c h).begun → seen_at c i (e ∷ h) ≡ seen_at c i h
seen_stays p c i e h l b = ap (λ z. or_else z (seen_at c i h)) (seen_other c i h e.op (λ j k q f. let n = sends_next p c j k e h l q in omega (arith, b, n, f)) (λ j q f. let n = refuses_next p c j e h l q in omega (arith, b, n, f)))

pub cause_stays : (p : Plan) (c i : ℕ) (e : Entry) (h : List Entry) (a : Ask) (r : Result) → IsHistory p (e ∷ h) → i ≤ (client_of p c h).begun → HasOwnCause c i h a r → HasOwnCause c i (e ∷ h) a r
cause_stays p c i e h a (Plain code.BadArguments) l b x = x
cause_stays p c i e h a (Plain code.ConnectionLoss) l b x = or_right (fails_send c i e.op) (has_failed_send c i h) x
cause_stays p c i e h a (Plain cd) l b x = absurd x
cause_stays p c i e h a (Expired at) l b x = seen_stays p c i e h l b ∙ x
cause_stays p c i e h a Open l b x = tt
cause_stays p c i e h a (Settled o) l b x = tt

-- What is kept. ----------------------------------------------------------------------------------------

-- a message stays what it is
pub message_stays : (p : Plan) (c : ℕ) (e : Entry) (h : List Entry) (i k : ℕ) (a : Ask) → IsHistory p (e ∷ h) → i ≤ (client_of p c h).begun → IsMessage p c h i k a → IsMessage p c (e ∷ h) i k a
message_stays p c e h i k a l b x = record {
  request = x.request;
  writes = x.writes;
  asks = request_never_changes p c k h (e ∷ []) x.request l x.asks;
  seen = x.seen;
  seen_with_it = ap seen_from (origin_stays c k e h (request_was_sent p c k h x.request l.0 x.asks).1) ∙ x.seen_with_it;
  seen_then = seen_stays p c i e h l b ∙ x.seen_then;
}

entered_stays : (p : Plan) (c begun : ℕ) (e : Entry) (h : List Entry) (s : Sent) → IsHistory p (e ∷ h) → (client_of p c h).begun ≤ begun → IsEntered p c (client_of p c h).begun h s → IsEntered p c begun (e ∷ h) s
entered_stays p c begun e h s l b x = record {
  is_begun = (let a = x.is_begun in omega (arith, a, b));
  ask = x.ask;
  is_asked = x.is_asked;
  number = sent_stays p c s.command e h l x.is_begun ∙ x.number;
  message = by_message x.message;
  cause = cause_stays p c s.command e h x.ask s.result l x.is_begun x.cause;
}
  where
    by_message : (s.k ≡ 0) ⊎ IsMessage p c h s.command s.k x.ask → (s.k ≡ 0) ⊎ IsMessage p c (e ∷ h) s.command s.k x.ask
    by_message (inl n) = inl n
    by_message (inr m) = inr (message_stays p c e h s.command s.k x.ask l x.is_begun m)

entered_told : (p : Plan) (c begun : ℕ) (h : List Entry) (s : Sent) (o : Outcome) → IsEntered p c begun h s → IsEntered p c begun h (record s { result = Settled o })
entered_told p c begun h s o x = record { is_begun = x.is_begun; ask = x.ask; is_asked = x.is_asked; number = x.number; message = x.message; cause = tt }

-- a command that is sent now
sent_now : (p : Plan) (c i k : ℕ) (e : Entry) (h : List Entry) → e.op ≡ op.Send c i k → k ≡ sends_of c h + 1 → sent_as c i (e ∷ h) ≡ message_number k
sent_now p c i k e h q f = subst (λ o. or_else (sent_as_in c i o) (sent_as c i h) ≡ message_number k) (sym q) (rw (itself c, itself i) (number k (sends_of c h) f))
  where
    number : (k n : ℕ) → k ≡ n + 1 → Some k ≡ message_number k
    number k n e = grind (arith, nat_tests)

-- a command that is begun now and isn't sent
unsent_now : (p : Plan) (c i : ℕ) (e : Entry) (h : List Entry) (o : Op) → IsHistory p (e ∷ h) → e.op ≡ o → i ≡ (client_of p c h).begun + 1 → sent_as_in c i o ≡ None → sent_as c i (e ∷ h) ≡ None
unsent_now p c i e h o l q n f = subst (λ z. or_else (sent_as_in c i z) (sent_as c i h) ≡ None) (sym q) (ap (λ z. or_else z (sent_as c i h)) f ∙ only_begun_were_sent p c i h l.0 (omega (arith, n)))

failed_now : (c i : ℕ) (e : Entry) (h : List Entry) → e.op ≡ op.SendFault c i → has_failed_send c i (e ∷ h) ≡ true
failed_now c i e h q = subst (λ o. (fails_send c i o || has_failed_send c i h) ≡ true) (sym q) (rw (itself c, itself i) refl)

seen_now : (c i : ℕ) (e : Entry) (h : List Entry) → e.op ≡ op.Local c i → seen_at c i (e ∷ h) ≡ Some (seen_by c h)
seen_now c i e h q = subst (λ o. or_else (seen_at_in c i h o) (seen_at c i h) ≡ Some (seen_by c h)) (sym q) (rw (itself c, itself i) refl)

unfit_is : (w : Want) → is_unfit_want w ≡ true → w ≡ Unfit
unfit_is Unfit e = refl
unfit_is (Writes r) e = absurd (false≢true e)
unfit_is (Reads q b) e = absurd (false≢true e)

local_cause : (c i : ℕ) (h : List Entry) (a : Ask) (seen : ℕ) (b : Bool) → is_unfit (Some a) ≡ b → seen_at c i h ≡ Some seen → HasOwnCause c i h a (local_result b seen)
local_cause c i h a seen true e f = unfit_is a.want e
local_cause c i h a seen false e f = f

message_now : (p : Plan) (c i k : ℕ) (e : Entry) (h : List Entry) (b : BeginsWrite p c i h) → e.op ≡ op.Send c i k → k ≡ sends_of c h + 1 → IsMessage p c (e ∷ h) i k b.begins.ask
message_now p c i k e h b q n = record {
  request = b.request;
  writes = b.writes;
  asks = ap (request_from p c) origin ∙ (ap written b.begins.is_asked ∙ ap request_in b.writes);
  seen = seen_by c h;
  seen_with_it = ap seen_from origin;
  seen_then = subst (λ o. or_else (seen_at_in c i h o) (seen_at c i h) ≡ Some (seen_by c h)) (sym q) (rw (itself c, itself i) refl);
}
  where
    origin : origin_of c k (e ∷ h) ≡ Some (start.Sent i (seen_by c h))
    origin = rw (q, n) (grind (arith, nat_tests))

begun_entered : (p : Plan) (c : ℕ) (e : Entry) (h : List Entry) (o : Op) (s : Sent) → IsHistory p (e ∷ h) → e.op ≡ o → client_in o ≡ Some c → OperationSays p c h o → begun_by p c (seen_by c h) o ≡ Some s → IsEntered p c (client_of p c (e ∷ h)).begun (e ∷ h) s
begun_entered p c e h (op.Send d i k) s l q f a g = subst (IsEntered p c (client_of p c (e ∷ h)).begun (e ∷ h)) (same_Some (record { command = i; k = k; result = Open }) s g) (record {
  is_begun = (let n = own_begun p c e h (op.Send d i k) q f in omega (arith, n));
  ask = a.0.begins.ask;
  is_asked = a.0.begins.is_asked;
  number = sent_now p c i k e h (q ∙ ap (λ z. op.Send z i k) (same_Some d c f)) a.1;
  message = inr (message_now p c i k e h a.0 (q ∙ ap (λ z. op.Send z i k) (same_Some d c f)) a.1);
  cause = tt;
})
begun_entered p c e h (op.SendFault d i) s l q f a g = subst (IsEntered p c (client_of p c (e ∷ h)).begun (e ∷ h)) (same_Some (record { command = i; k = 0; result = Plain code.ConnectionLoss }) s g) (record {
  is_begun = (let n = own_begun p c e h (op.SendFault d i) q f in omega (arith, n));
  ask = a.begins.ask;
  is_asked = a.begins.is_asked;
  number = unsent_now p c i e h (op.SendFault d i) l q a.begins.next refl;
  message = inl refl;
  cause = failed_now c i e h (q ∙ ap (λ z. op.SendFault z i) (same_Some d c f));
})
begun_entered p c e h (op.Local d i) s l q f a g = subst (IsEntered p c (client_of p c (e ∷ h)).begun (e ∷ h)) (same_Some (record { command = i; k = 0; result = local_result (is_unfit (asked p c i)) (seen_by c h) }) s g) (record {
  is_begun = (let n = own_begun p c e h (op.Local d i) q f in omega (arith, n));
  ask = a.0.ask;
  is_asked = a.0.is_asked;
  number = unsent_now p c i e h (op.Local d i) l q a.0.next refl;
  message = inl refl;
  cause = local_cause c i (e ∷ h) a.0.ask (seen_by c h) (is_unfit (asked p c i)) (ap is_unfit (sym a.0.is_asked)) (seen_now c i e h (q ∙ ap (λ z. op.Local z i) (same_Some d c f)));
})
begun_entered p c e h o s l q f a g = absurd (grind arith)

abbrev EnteredAt : Plan → ℕ → List Entry → Type 0
EnteredAt p c h = (s : Sent) → IsAmong s (client_of p c h).sent → IsEntered p c (client_of p c h).begun h s

acted_entered : (p : Plan) (c : ℕ) (e : Entry) (h : List Entry) → IsHistory p (e ∷ h) → client_in e.op ≡ Some c → EnteredAt p c h → (s : Sent) → IsAmong s (kept_after p c h e.op) → IsEntered p c (client_of p c (e ∷ h)).begun (e ∷ h) s
acted_entered p c e h l q i s a = by_source (kept_commands_have_their_source p c h e.op s a)
  where
    old : (y : Sent) → IsAmong y (client_of p c h).sent → IsEntered p c (client_of p c (e ∷ h)).begun (e ∷ h) y
    old y b = entered_stays p c (client_of p c (e ∷ h)).begun e h y l (begun_grows p c e h l) (i y b)

    by_source : KeptFrom p c h e.op s → IsEntered p c (client_of p c (e ∷ h)).begun (e ∷ h) s
    by_source (Before b) = old s b
    by_source (Told t) = subst (IsEntered p c (client_of p c (e ∷ h)).begun (e ∷ h)) (sym t.told) (entered_told p c (client_of p c (e ∷ h)).begun (e ∷ h) t.sent t.outcome (old t.sent t.among))
    by_source (Begun f) = begun_entered p c e h e.op s l refl q (client_operations_say p c e h l q) f

entered_step : (p : Plan) (c : ℕ) (e : Entry) (h : List Entry) → IsHistory p (e ∷ h) → EnteredAt p c h → EnteredAt p c (e ∷ h)
entered_step p c e h l i =
    client_after p c e h (λ x. (s : Sent) → IsAmong s x.sent → IsEntered p c (client_of p c (e ∷ h)).begun (e ∷ h) s)
    (λ s a. entered_stays p c (client_of p c (e ∷ h)).begun e h s l (begun_grows p c e h l) (i s a))
    (λ q s a. acted_entered p c e h l q i s (among_unready s (kept_after p c h e.op) a))

entered : (p : Plan) (c : ℕ) (h : List Entry) → IsHistory p h → EnteredAt p c h
entered p c [] l s a = absurd a
entered p c (e ∷ h) l s a = entered_step p c e h l (entered p c h l.0) s a

pub kept_commands_are_entered : KeptCommandsAreEntered
kept_commands_are_entered p c h s l a = entered p c h l s a

pub commands_of_an_operation_are_entered : CommandsOfAnOperationAreEntered
commands_of_an_operation_are_entered p c e h s l q a = acted_entered p c e h l q (entered p c h l.0) s a

-- What is known of it. ---------------------------------------------------------------------------------

pub tracked_among : (p : Plan) (c : ℕ) (h : List Entry) (n last : ℕ) (ss : List Sent) (begun top : ℕ) (s : Sent) → AreTracked p c h n last ss begun top → IsAmong s ss → IsTrueResult p c s.k h s.result
tracked_among p c h n last [] begun top s t i = absurd i
tracked_among p c h n last (x ∷ xs) begun top s t (inl e) = subst (λ z. IsTrueResult p c z.k h z.result) (sym e) t.2
tracked_among p c h n last (x ∷ xs) begun top s t (inr i) = tracked_among p c h (n + 1) (later last x.k) xs begun top s t.3 i

pub its_message : (p : Plan) (c begun : ℕ) (h : List Entry) (s : Sent) (x : IsEntered p c begun h s) → 1 ≤ s.k → IsMessage p c h s.command s.k x.ask
its_message p c begun h s x b = by_message x.message
  where
    by_message : (s.k ≡ 0) ⊎ IsMessage p c h s.command s.k x.ask → IsMessage p c h s.command s.k x.ask
    by_message (inl e) = absurd (omega (arith, b, e))
    by_message (inr m) = m
