-- The lines that a client prints are those that the rules say.
use Rattle.std.specs.Prelude.{◌++◌}
use Rattle.std.proofs.Common.{◌≡◌, ℕ, cond, List, [], ◌∷◌, refl, sym, ◌∙◌, ap, subst, Option, Some, None}
use Rattle.std.proofs.lemmas.Option.{same_Some}
use Rattle.fk_print.specs.declared.entry.Entry.{Entry}
use Rattle.fk_print.specs.declared.op.Op.{Op}
use Rattle.fk_print.specs.declared.op.Op.TheVariants as op
use Rattle.fk_wire.specs.declared.message.Tell.{Tell}
use Rattle.fk_spec.specs.Plan.{Plan, Ask, asks_in, nth}
use Rattle.fk_spec.specs.Shown.{seen_by}
use Rattle.fk_spec.specs.Lanes.{Watch, inbox_of}
use Rattle.fk_spec.specs.Client.{Client, Reading, Sent, acted_by, by_result, client_in, client_of, contains, ready_first}
use Rattle.fk_spec.specs.Sight.{sight_of}
use Rattle.fk_spec.specs.Replies.{client_lines, first_line, line_for, looked_lines, notice_of, own_lines, reply_line, reply_lines, shown_applied, shown_result, wording}
use Rattle.fk_law.specs.Due.{IsDue}
use Rattle.fk_client.specs.Knowing.{all_known, client_known, sent_known}
use Rattle.fk_client.specs.Known.{by_outcome, known}
use Rattle.fk_client.specs.Shown.{shown_outcome, wording_of}
use Rattle.fk_client.specs.declared.unanswered.Outcome as client
use Rattle.fk_client.specs.declared.unanswered.Outcome.TheVariants as outcome
use Rattle.fk_client.specs.declared.unanswered.Unanswered.{Unanswered}
use Rattle.fk_agree_client.specs.Inbox.{FirstTells}
use Rattle.fk_agree_client.specs.Standing.{AllTell, TellsItsCommit}
use Rattle.fk_agree_client.proofs.Reading.{told_firing, told_sight}
use Rattle.fk_base.proofs.Logic.{by_test}

-- One command. -------------------------------------------------------------------------------------------

shows_the_same : (p : Plan) (h : List Entry) (a : Option Ask) (o : client.Outcome) → TellsItsCommit p h a o → shown_outcome a o ≡ shown_result p h (known o)
shows_the_same p h a (outcome.Done tx name version made) i = i.2 ∙ sym (ap (shown_applied tx) i.1)
shows_the_same p h a outcome.Open i = refl
shows_the_same p h a (outcome.Refused code at place) i = refl
shows_the_same p h a (outcome.Lost path own found moment) i = refl
shows_the_same p h a (outcome.Plain code) i = refl
shows_the_same p h a (outcome.Expired at) i = refl

line_is : (p : Plan) (c : ℕ) (h : List Entry) (s : Unanswered) → TellsItsCommit p h (nth (asks_in p c) s.command) s.outcome → reply_line (wording_of c (asks_in p c)) s ≡ reply_line (wording p c h) (sent_known s)
line_is p c h s i = ap (line_for c (asks_in p c) s.command) (shows_the_same p h (nth (asks_in p c) s.command) s.outcome i)

first_is : (p : Plan) (c : ℕ) (h : List Entry) (ss : List Unanswered) → AllTell p h (asks_in p c) ss → first_line (wording_of c (asks_in p c)) ss ≡ first_line (wording p c h) (all_known ss)
first_is p c h [] i = refl
first_is p c h (s ∷ ss) i = ap (λ l. l ∷ []) (line_is p c h s i.0)

-- The replies that are ready. ----------------------------------------------------------------------------

ready_is : (p : Plan) (c : ℕ) (h : List Entry) (ss : List Unanswered) → AllTell p h (asks_in p c) ss → reply_lines (wording_of c (asks_in p c)) (ready_first by_outcome ss) ≡ reply_lines (wording p c h) (ready_first by_result (all_known ss))
ready_is p c h [] i = refl
ready_is p c h (s ∷ ss) i =
    by_test (by_outcome.is_ready s) (λ b. reply_lines (wording_of c (asks_in p c)) (cond b (s ∷ ready_first by_outcome ss) []) ≡ reply_lines (wording p c h) (cond b (sent_known s ∷ ready_first by_result (all_known ss)) []))
    (λ _. ap (λ l. l ∷ reply_lines (wording_of c (asks_in p c)) (ready_first by_outcome ss)) (line_is p c h s i.0) ∙ ap (λ ls. reply_line (wording p c h) (sent_known s) ∷ ls) (ready_is p c h ss i.1))
    (λ _. refl)

-- The lines of its own. ----------------------------------------------------------------------------------

looked_is : (p : Plan) (c : ℕ) (h : List Entry) (x : Client Unanswered) (r : Option Reading) → AllTell p h (asks_in p c) x.sent → looked_lines (wording_of c (asks_in p c)) (seen_by c h) x r ≡ looked_lines (wording p c h) (seen_by c h) (client_known x) r
looked_is p c h x None i = first_is p c h x.sent i
looked_is p c h x (Some r) i = refl

pub own_is : (p : Plan) (c : ℕ) (h : List Entry) (told : Option Tell) (x : Client Unanswered) (o : Op) → IsDue p h o → client_in o ≡ Some c → FirstTells p h (inbox_of p c h) told → AllTell p h (asks_in p c) x.sent
    → own_lines (wording_of c (asks_in p c)) (told_sight p c h told) x o ≡ own_lines (wording p c h) (sight_of p c h) (client_known x) o
own_is p c h told x (op.TakeWatch d id) i e r a =
    let s = same_Some d c e in
    let g = subst (λ z. inbox_of p z h ≡ Watch id ∷ i.0) s i.1 in
    ap (λ f. cond (contains id x.held) (notice_of c f) []) (told_firing p id h i.0 told (subst (λ ms. FirstTells p h ms told) g r))
own_is p c h told x (op.LookOk d j m) i e r a = looked_is p c h x x.reading a
own_is p c h told x o i e r a = refl

-- what the rules know of the commands that it keeps after its operation
known_sent : (x : Client Unanswered) (y : Client Sent) → client_known x ≡ y → all_known x.sent ≡ y.sent
known_sent x y e = ap (λ z. z.sent) e

pub lines_are : (p : Plan) (c : ℕ) (h : List Entry) (told : Option Tell) (x y : Client Unanswered) (o : Op) → IsDue p h o → client_in o ≡ Some c → FirstTells p h (inbox_of p c h) told → AllTell p h (asks_in p c) x.sent → AllTell p h (asks_in p c) y.sent
    → client_known x ≡ client_of p c h → client_known y ≡ acted_by (sight_of p c h) o (client_of p c h)
    → own_lines (wording_of c (asks_in p c)) (told_sight p c h told) x o ++ reply_lines (wording_of c (asks_in p c)) (ready_first by_outcome y.sent) ≡ client_lines p c h o
lines_are p c h told x y o i e r a b k g =
    ap (λ ls. ls ++ reply_lines (wording_of c (asks_in p c)) (ready_first by_outcome y.sent)) (own_is p c h told x o i e r a ∙ ap (λ z. own_lines (wording p c h) (sight_of p c h) z o) k)
    ∙ ap (λ ls. own_lines (wording p c h) (sight_of p c h) (client_of p c h) o ++ ls) (ready_is p c h y.sent b ∙ ap (λ ss. reply_lines (wording p c h) (ready_first by_result ss)) (known_sent y (acted_by (sight_of p c h) o (client_of p c h)) g))
