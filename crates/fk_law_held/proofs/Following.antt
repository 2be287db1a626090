-- What a client holds by its lines follows what it holds.
use Rattle.std.specs.Prelude.{◌==◌}
use Rattle.std.proofs.Common.{◌≡◌, ℕ, if◌then◌else◌, Bool, true, false, List, [], ◌∷◌, refl, sym, ◌∙◌, ap, subst, Option, Some, None}
use Rattle.std.proofs.lemmas.Bool.{false≢true, eqb-true}
use Rattle.std.proofs.lemmas.Option.{same_Some, none-some}
use Rattle.fk_base.specs.declared.code.Code.TheVariants as code
use Rattle.fk_base.specs.Path.{same_path}
use Rattle.fk_tree.specs.Watch.{same_kind}
use Rattle.fk_print.specs.declared.entry.Entry.{Entry}
use Rattle.fk_print.specs.declared.line.Line.{Line}
use Rattle.fk_print.specs.declared.line.Line.TheVariants as line
use Rattle.fk_print.specs.declared.op.Op.{Op}
use Rattle.fk_print.specs.declared.op.Op.TheVariants as op
use Rattle.fk_spec.specs.Plan.{Plan, asked, asks_in}
use Rattle.fk_spec.specs.Settling.{Outcome}
use Rattle.fk_spec.specs.Sight.{sight_of}
use Rattle.fk_spec.specs.Watches.{Firing, Watch, firing_of}
use Rattle.fk_spec.specs.Client.{acted_by, by_result, client_in, client_of, contains, kept_outcome, ready_first, settle_with, settled_as, without, Client, Expired, Sent}
use Rattle.fk_spec.specs.Replies.{failed_line, notice_of, own_lines, reply_lines, wording}
use Rattle.fk_spec.specs.Holding.{Holding, held_by, not_held}
use Rattle.fk_spec.specs.PublicLines.{lines_of}
use Rattle.fk_spec.specs.Next.{IsHistory}
use Rattle.fk_law.proofs.Printing.{lines_are}
use Rattle.fk_law_watch.proofs.Reading.{next_is}
use Rattle.fk_law_client.specs.Lines.{IsAmong, kept_after}
use Rattle.fk_law.specs.Operations.{OperationSays}
use Rattle.fk_law_client.proofs.Kept.{client_after, own_client}
use Rattle.fk_law_client.proofs.Lines.{client_lines_are, other_lines_are}
use Rattle.fk_law.proofs.Due.{client_operations_say}
use Rattle.fk_law_reply.specs.Plans.{HasFittingVerbs}
use Rattle.fk_law_held.specs.Held.{known_watch}
use Rattle.fk_law_held.specs.Matching.{HeldByLinesIsHeld, Matches}
use Rattle.fk_law_held.proofs.Announcing.{known_fired}
use Rattle.fk_law_held.proofs.Differing.{held_watches_differ, told_fired}
use Rattle.fk_law_held.proofs.Holding.{closed_clients_hold_nothing, held_watches_are_accounted_for, known_stays}
use Rattle.fk_law_held.proofs.Lines.{acted_closed, all_leave, expired_closed, look_matches, onto_append, onto_is, other_lines, plain_leaves, set_matches, tx_lines_leave}
use Rattle.fk_law_held.proofs.Matching.{held_onto, matches_dropped, matches_later, matches_none, matches_without, none_held}
use Rattle.fk_base.proofs.Logic.{itself}

-- One operation. ---------------------------------------------------------------------------------------

kept_held : (k : ℕ) (o : Option Outcome) (x : Client Sent) → (settle_with by_result k (settled_as o) x).held ≡ x.held
kept_held k None x = refl
kept_held k (Some o) x = refl

evicted_matches : (p : Plan) (c t : ℕ) (e : Entry) (h : List Entry) (ws : List Holding) (b : Bool) → IsHistory p (e ∷ h) → (client_of p c h).closed ≡ b → Matches p (e ∷ h) (client_of p c h).held ws → Matches p (e ∷ h) [] (held_onto p c (if b then [] else line.Expired c t ∷ []) ws)
evicted_matches p c t e h ws true l f m = subst (Matches p (e ∷ h) []) (sym (none_held p (e ∷ h) (client_of p c h).held ws (closed_clients_hold_nothing p c h l.0 f).0 m)) (matches_none p (e ∷ h))
evicted_matches p c t e h ws false l f m = rw (itself c) (matches_none p (e ∷ h))

told_matches : (p : Plan) (c j : ℕ) (e : Entry) (h : List Entry) (ws : List Holding) (b : Bool) → HasFittingVerbs p → IsHistory p (e ∷ h) → e.op ≡ op.TakeWatch c j → contains j (client_of p c h).held ≡ b → Matches p (e ∷ h) (client_of p c h).held ws → Matches p (e ∷ h) (without j (client_of p c h).held) (held_onto p c (if b then notice_of c (firing_of p j h) else []) ws)
told_matches p c j e h ws false v l q f m = matches_without p (e ∷ h) (client_of p c h).held ws j f m
told_matches p c j e h ws true v l q f m = subst (λ o. Matches p (e ∷ h) (without j (client_of p c h).held) (held_onto p c (notice_of c o) ws)) (sym x.1) (rw (itself c) dropped)
  where
    x : (y : Firing) × (firing_of p j h ≡ Some y)
    x = told_fired p c j e h l q

    known : known_watch p j h ≡ Some x.0.watch
    known = let y = held_watches_are_accounted_for p c j h l.0 f in y.known ∙ ap Some (sym (known_fired p j h y.watch x.0 l.0 y.known x.1))

    differ : (i : ℕ) (w : Watch) → contains i (client_of p c h).held ≡ true → known_watch p i (e ∷ h) ≡ Some w → same_path x.0.watch.path w.path ≡ true → same_kind x.0.watch.kind w.kind ≡ true → i ≡ j
    differ i w g k s t =
        let y = held_watches_are_accounted_for p c i h l.0 g in
        let z = same_Some w y.watch (sym k ∙ known_stays p i e h y.watch l y.known) in
        sym (held_watches_differ p c j i h x.0.watch w v.reads l.0 f g known (y.known ∙ ap Some (sym z)) s t)

    dropped : Matches p (e ∷ h) (without j (client_of p c h).held) (not_held x.0.watch.path x.0.watch.kind ws)
    dropped = matches_dropped p (e ∷ h) (client_of p c h).held ws j x.0.watch (known_stays p j e h x.0.watch l known) differ m

failed_matches : (p : Plan) (c i : ℕ) (k : List Entry) (held : List ℕ) (ws : List Holding) → Matches p k held ws → Matches p k held (held_onto p c (failed_line c (asks_in p c) i ∷ []) ws)
failed_matches p c i k held ws m = rw (itself c) (subst (Matches p k held) (sym (plain_leaves (asked p c i) code.SystemError ws)) m)

own_matches : (p : Plan) (c : ℕ) (e : Entry) (h : List Entry) (o : Op) (ws : List Holding) → HasFittingVerbs p → IsHistory p (e ∷ h) → e.op ≡ o → client_in o ≡ Some c → OperationSays p c h o → Matches p (e ∷ h) (client_of p c h).held ws → Matches p (e ∷ h) (acted_by (sight_of p c h) o (client_of p c h)).held (held_onto p c (own_lines (wording p c h) (sight_of p c h) (client_of p c h) o) ws)
own_matches p c e h (op.TakeEvicted d k t) ws v l q f a m = evicted_matches p c t e h ws (client_of p c h).closed l refl m
own_matches p c e h (op.TakeWatch d j) ws v l q f a m = told_matches p c j e h ws (contains j (client_of p c h).held) v l (q ∙ ap (λ z. op.TakeWatch z j) (same_Some d c f)) refl m
own_matches p c e h (op.LookOk d i k) ws v l q f a m = look_matches p c i a.0.number (e ∷ h) h (client_of p c h).reading ws v l.0 refl a.0.target m
own_matches p c e h (op.WatchSet d i id) ws v l q f a m = set_matches p c i id e h ws v l (q ∙ ap (λ z. op.WatchSet z i id) (same_Some d c f)) m
own_matches p c e h (op.ReadFault d i) ws v l q f a m = failed_matches p c i (e ∷ h) (client_of p c h).held ws m
own_matches p c e h (op.WatchFault d i) ws v l q f a m = failed_matches p c i (e ∷ h) (client_of p c h).held ws m
own_matches p c e h (op.TakeRefused d k) ws v l q f a m = subst (λ z. Matches p (e ∷ h) z ws) (sym (kept_held k (kept_outcome (sight_of p c h).head) (client_of p c h))) m
own_matches p c e h (op.TakeLost d k) ws v l q f a m = subst (λ z. Matches p (e ∷ h) z ws) (sym (kept_held k (kept_outcome (sight_of p c h).head) (client_of p c h))) m
own_matches p c e h o ws v l q f a m = m

-- Histories. -------------------------------------------------------------------------------------------

-- the lines of a client's own operation
own_step : (p : Plan) (c : ℕ) (e : Entry) (h : List Entry) → HasFittingVerbs p → IsHistory p (e ∷ h) → client_in e.op ≡ Some c → Matches p (e ∷ h) (client_of p c h).held (held_by p c (lines_of h)) → Matches p (e ∷ h) (client_of p c (e ∷ h)).held (held_by p c (lines_of (e ∷ h)))
own_step p c e h v l q m = subst (λ x. Matches p (e ∷ h) x.held (held_by p c (lines_of (e ∷ h)))) (sym (own_client p c e h q)) (subst (Matches p (e ∷ h) y.held) (sym whole) after)
  where
    y : Client Sent
    y = acted_by (sight_of p c h) e.op (client_of p c h)

    own : List Line
    own = own_lines (wording p c h) (sight_of p c h) (client_of p c h) e.op

    ready : List Line
    ready = reply_lines (wording p c h) (ready_first by_result (kept_after p c h e.op))

    ws : List Holding
    ws = held_onto p c own (held_by p c (lines_of h))

    after : Matches p (e ∷ h) y.held ws
    after = own_matches p c e h e.op (held_by p c (lines_of h)) v l refl q (client_operations_say p c e h l q) m

    nothing : (s : Sent) (at : ℕ) → IsAmong s (kept_after p c h e.op) → s.result ≡ Expired at → ws ≡ []
    nothing s at i f =
        let k = acted_closed p c e h l q (expired_closed p c h l.0) s at i f in
        let g = closed_clients_hold_nothing p c (e ∷ h) l (subst (λ x. x.closed ≡ true) (sym (own_client p c e h q)) k) in
        none_held p (e ∷ h) y.held ws (sym (ap (λ x. x.held) (own_client p c e h q)) ∙ g.0) after

    whole : held_by p c (lines_of (e ∷ h)) ≡ ws
    whole = onto_is p c e.lines (lines_of h) ∙ (ap (λ ls. held_onto p c ls (held_by p c (lines_of h))) (lines_are p e h l ∙ next_is p h c e.op q) ∙ (onto_append p c own ready (held_by p c (lines_of h)) ∙ all_leave p c h (kept_after p c h e.op) ws nothing))

-- other lines leave all
other_step : (p : Plan) (c : ℕ) (e : Entry) (h : List Entry) → (client_in e.op ≡ Some c → ⊥) → held_onto p c e.lines (held_by p c (lines_of h)) ≡ held_by p c (lines_of h) → Matches p (e ∷ h) (client_of p c h).held (held_by p c (lines_of h)) → Matches p (e ∷ h) (client_of p c (e ∷ h)).held (held_by p c (lines_of (e ∷ h)))
other_step p c e h n f m = client_after p c e h (λ x. Matches p (e ∷ h) x.held (held_by p c (lines_of (e ∷ h)))) (subst (Matches p (e ∷ h) (client_of p c h).held) (sym (onto_is p c e.lines (lines_of h) ∙ f)) m) (λ q. absurd (n q))

matches_step : (p : Plan) (c : ℕ) (e : Entry) (h : List Entry) → HasFittingVerbs p → IsHistory p (e ∷ h) → Matches p (e ∷ h) (client_of p c h).held (held_by p c (lines_of h)) → Matches p (e ∷ h) (client_of p c (e ∷ h)).held (held_by p c (lines_of (e ∷ h)))
matches_step p c e h v l m = by_client (client_in e.op) refl
  where
    by_client : (o : Option ℕ) → client_in e.op ≡ o → Matches p (e ∷ h) (client_of p c (e ∷ h)).held (held_by p c (lines_of (e ∷ h)))
    by_client None q = other_step p c e h (λ k. none-some c (sym q ∙ k)) (tx_lines_leave p c h e.op e.lines (lines_of h) (held_by p c (lines_of h)) (other_lines_are p e h l q)) m
    by_client (Some s) q = by_self (s == c) refl
      where
        by_self : (b : Bool) → (s == c) ≡ b → Matches p (e ∷ h) (client_of p c (e ∷ h)).held (held_by p c (lines_of (e ∷ h)))
        by_self true g = own_step p c e h v l (q ∙ ap Some (eqb-true s c g)) m
        by_self false g = other_step p c e h (λ k. false≢true (sym g ∙ subst (λ z. (z == c) ≡ true) (same_Some c s (sym k ∙ q)) (itself c))) (other_lines p c s h e.op e.lines (lines_of h) (held_by p c (lines_of h)) g (client_lines_are p s e h v.reads l q)) m

pub held_by_lines_is_held : HeldByLinesIsHeld
held_by_lines_is_held p c [] v l = matches_none p []
held_by_lines_is_held p c (e ∷ h) v l = matches_step p c e h v l (matches_later p c e h (client_of p c h).held (held_by p c (lines_of h)) l (λ id f. held_watches_are_accounted_for p c id h l.0 f) (held_by_lines_is_held p c h v l.0))
