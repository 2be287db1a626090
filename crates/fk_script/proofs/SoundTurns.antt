-- The turn that a line says is sound where the line doesn't offend.
use Rattle.std.proofs.Common.{◌≡◌, ℕ, zero, suc, ◌<◌, ◌≤◌, ◌+◌, ◌-◌, Bool, true, false, cond, List, [], ◌∷◌, Some, None, get_or, refl, sym, ◌∙◌, ap, subst, codes, arith, add-one}
use Rattle.std.specs.Prelude.{◌==◌, ◌&&◌, ◌||◌, nat_le, unwrap_or}
use Rattle.std.specs.Str.Parse.{digits_value}
use Rattle.std.proofs.lemmas.Slice.Eq.{bytes_eq-Decides}
use Rattle.std.proofs.lemmas.Bool.{leb-true, not-false, ne_eqb}
use Rattle.fk_print.specs.Words.{client}
use Rattle.fk_print.specs.declared.event.Event.{Event}
use Rattle.fk_print.specs.declared.event.Event.TheVariants as event
use Rattle.fk_script.specs.EventLines.{delivery_of, event_of, event_fits, client_word, is_no_client, number_of, session, turn_of}
use Rattle.fk_script.specs.Lines.{Word, is, is_one_of}
use Rattle.fk_script.specs.Values.{is_decimal, most_event}
use Rattle.fk_script.specs.declared.deployment.Turn.TheVariants as turn
use Rattle.fk_script.proofs.CleanWords.{IsWord, AreWords}
use Rattle.fk_script.proofs.Sound.{IsSession, IsTurn}

client_suc : (names : List Word) (k : ℕ) → client names (suc k) ≡ get_or names k []
client_suc names k =
    let none : (suc k == 0) ≡ false = ne_eqb (suc k) 0 (λ e. absurd (omega arith)) in
    let less : suc k - 1 ≡ k = omega arith in
    rw (none, less) refl

-- a client further back
client_behind : (n : Word) (names : List Word) (k : ℕ) → 0 < k → client (n ∷ names) (k + 1) ≡ client names k
client_behind n names zero h = absurd (omega arith)
client_behind n names (suc k) h =
    ap (client (n ∷ names)) (add-one (suc k)) ∙ client_suc (n ∷ names) (suc k) ∙ sym (client_suc names k)

step_session : (t : Bool) (n w : Word) (names : List Word) → is w n ≡ t → (t || is_one_of names w) ≡ true
    → (is_one_of names w ≡ true → (client names (session names w) ≡ w) × (0 < session names w))
    → (client (n ∷ names) (cond t 1 (session names w + 1)) ≡ w) × (0 < cond t 1 (session names w + 1))
step_session true n w names e h i = (client_suc (n ∷ names) 0 ∙ sym ((bytes_eq-Decides w n).0 e), omega arith)
step_session false n w names e h i = (client_behind n names (session names w) (i h).1 ∙ (i h).0, omega arith)

session_names : (names : List Word) (w : Word) → is_one_of names w ≡ true → (client names (session names w) ≡ w) × (0 < session names w)
session_names [] w h = cc h
session_names (n ∷ names) w h = step_session (is w n) n w names refl h (session_names names w)

session_is : (names : List Word) (w : Word) → IsWord w → is_one_of names w ≡ true → IsSession names (session names w)
session_is names w clean h = record { name = w; word = clean; named = (session_names names w h).0; known = h; back = refl }

step_number : (s t : Bool) (v most : ℕ) → nat_le v most ≡ t → unwrap_or (cond (s && t) (Some v) None) 0 ≤ most
step_number true true v most h = leb-true v most h
step_number true false v most h = omega arith
step_number false t v most h = omega arith

number_is : (w : Word) → number_of w ≤ most_event
number_is w = step_number (is_decimal w) (nat_le (digits_value 10 w) most_event) (digits_value 10 w) most_event refl

choose : (names : List Word) (t : Bool) (x y : Event) → (t ≡ true → IsTurn names (turn.One x)) → (t ≡ false → IsTurn names (turn.One y)) → IsTurn names (turn.One (cond t x y))
choose names true x y h i = h refl
choose names false x y h i = i refl

known_client : (names : List Word) (v : Word) → is_no_client names (Some v) ≡ false → is_one_of names v ≡ true
known_client names v h = not-false (is_one_of names v) h

delivery_is : (names : List Word) (v : Word) → IsWord v → is_no_client names (client_word (codes "deliver" ∷ v ∷ [])) ≡ false → IsTurn names (turn.One (delivery_of names v))
delivery_is names v clean k =
    choose names (is v (codes "leader")) event.Leader _ (λ _. tt)
    (λ l. choose names (is v (codes "watch")) event.Watch _ (λ _. tt)
    (λ m.
    let known : is_no_client names (Some v) ≡ false = rw (l, m) at k in
    let one = known_client names v known in
    let named = sym (session_names names v one).0 in
    (session_is names v clean one, subst (λ w. is w (codes "leader") ≡ false) named l, subst (λ w. is w (codes "watch") ≡ false) named m)))

event_is : (names : List Word) (w v : Word) → IsWord v → is_no_client names (client_word (w ∷ v ∷ [])) ≡ false → IsTurn names (turn.One (event_of names w v))
event_is names w v clean k =
    choose names (is w (codes "client")) _ _
    (λ e.
    let known = subst (λ n. is_no_client names (client_word (n ∷ v ∷ [])) ≡ false) ((bytes_eq-Decides w (codes "client")).0 e) k in
    session_is names v clean (known_client names v known))
    (λ _. choose names (is w (codes "deliver")) _ _
    (λ e. delivery_is names v clean (subst (λ n. is_no_client names (client_word (n ∷ v ∷ [])) ≡ false) ((bytes_eq-Decides w (codes "deliver")).0 e) k))
    (λ _. choose names (is w (codes "beat")) _ _
    (λ e.
    let known = subst (λ n. is_no_client names (client_word (n ∷ v ∷ [])) ≡ false) ((bytes_eq-Decides w (codes "beat")).0 e) k in
    session_is names v clean (known_client names v known))
    (λ _. choose names (is w (codes "step")) _ _ (λ _. number_is v)
    (λ _. choose names (is w (codes "crash")) _ _ (λ _. number_is v)
    (λ _. choose names (is w (codes "fail")) _ _ (λ _. number_is v) (λ _. number_is v))))))

-- a line that doesn't offend says a sound turn
pub turn_read : (names ws : List Word) → AreWords ws → event_fits ws ≡ true → is_no_client names (client_word ws) ≡ false → IsTurn names (turn_of names ws)
turn_read names [] h f k = tt
turn_read names (w ∷ []) h f k = tt
turn_read names (w ∷ v ∷ []) h f k = event_is names w v h.1.0 k
turn_read names (w ∷ v ∷ c ∷ ws) h f k = session_is names c h.1.1.0 (known_client names c k)
