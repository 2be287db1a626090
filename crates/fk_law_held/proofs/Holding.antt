-- The watches that a client holds are set or have fired, and are its own.
use Rattle.std.specs.Prelude.{◌==◌, ◌&&◌, is_some}
use Rattle.std.proofs.Common.{◌≡◌, ℕ, ◌+◌, ◌++◌, ◌⊎◌, inl, inr, if◌then◌else◌, Bool, true, false, List, [], ◌∷◌, refl, sym, ◌∙◌, ap, subst, arith, Option, Some, None}
use Rattle.std.proofs.lemmas.Bool.{false≢true, cond_both, eqb-true}
use Rattle.std.proofs.lemmas.Bool.Decides.{nat_tests}
use Rattle.std.proofs.lemmas.Option.{same_Some, none-some}
use Rattle.fk_base.specs.Path.{PathNames, same_path}
use Rattle.fk_tree.specs.Watch.{first_taken, same_kind}
use Rattle.fk_tree.specs.declared.change.Change.{Change}
use Rattle.fk_tree.specs.declared.change.Kind.{Kind}
use Rattle.fk_tree.proofs.Order.{same_path_self}
use Rattle.fk_print.specs.declared.entry.Entry.{Entry}
use Rattle.fk_print.specs.declared.op.Op.{Op}
use Rattle.fk_print.specs.declared.op.Op.TheVariants as op
use Rattle.fk_spec.specs.Plan.{Plan, asked, asks_in}
use Rattle.fk_spec.specs.Settling.{Outcome}
use Rattle.fk_spec.specs.Start.{or_else}
use Rattle.fk_spec.specs.Sight.{number_or_next, sight_of}
use Rattle.fk_spec.specs.Watches.{Firing, Watch, firing_in, firing_of, firing_with, firings, given_of, has_id, not_fired, set_after, set_number, set_watches, touches_of_push, watch_asked, with_watch}
use Rattle.fk_spec.specs.Client.{acted_by, by_result, client_of, close_if, contains, is_close, kept_outcome, looked, looked_at, looked_for, registers, settle_with, settled_as, without, Client, Reading, Sent}
use Rattle.fk_spec.specs.Next.{IsHistory}
use Rattle.fk_spec.specs.WatchNumbers.{watch_with}
use Rattle.fk_law_watch.specs.Registering.{IsRegistration, Registers, number_of_read}
use Rattle.fk_law_watch.specs.SetWatches.{IsOneOfTwo, first_of, registered_in, set_watch}
use Rattle.fk_law_watch.proofs.Listing.{AreUnique, append_with, fired_one, fires_watch, has_is, set_number_has, stays_set}
use Rattle.fk_law_watch.proofs.Registering.{watches_are_registered}
use Rattle.fk_law_watch.proofs.SetWatches.{firing_never_changes, or_stays, set_or_fired_were_given, watch_is_set_or_fired, watches_unique}
use Rattle.fk_law.specs.Operations.{OperationSays}
use Rattle.fk_law_client.proofs.Kept.{client_after}
use Rattle.fk_law.proofs.Due.{client_operations_say}
use Rattle.fk_law_held.specs.Held.{HeldChange, Left, Emptied, Dropped, Added, IsAccountedFor, HeldWatchesAreAccountedFor, ClosedClientsHoldNothing, fired_watch, known_watch}
use Rattle.fk_law_held.proofs.Changing.{held_change, with_has, without_has}
use Rattle.fk_base.proofs.Logic.{itself}
use Rattle.fk_tree.proofs.SameKind.{same_kind_self}

-- A watch stays what it is. ----------------------------------------------------------------------------

-- it is set, or has fired
abbrev IsOne : Plan → ℕ → List Entry → Watch → Type 0
IsOne p id h w = (set_watch p id h ≡ Some w) ⊎ ((f : Firing) × (firing_of p id h ≡ Some f) × (f.watch ≡ w))

sweep_keeps : (p : Plan) (id n t k : ℕ) (h : List Entry) (w : Watch) (o : Option Change) → IsHistory p h → set_watch p id h ≡ Some w → first_taken w.path w.kind (touches_of_push p t h) ≡ o → (watch_with id (not_fired (touches_of_push p t h) (set_watches p h)) ≡ Some w) ⊎ ((f : Firing) × (firing_with id (firings t (touches_of_push p t h) (set_watches p h)) ≡ Some f) × (f.watch ≡ w))
sweep_keeps p id n t k h w None l e q = inl (stays_set id (touches_of_push p t h) (set_watches p h) w e q)
sweep_keeps p id n t k h w (Some x) l e q = inr (record { watch = w; tx = t; change = x }, fires_watch id t (touches_of_push p t h) (set_watches p h) w (watches_unique p h l) e ∙ ap (fired_one t w) q, refl)

append_keeps : (id : ℕ) (ws : List Watch) (w : Watch) (o : Option Watch) → watch_with id ws ≡ Some w → watch_with id (with_watch o ws) ≡ Some w
append_keeps id ws w None e = e
append_keeps id ws w (Some x) e = cond_both (has_id x.id ws) ws (ws ++ x ∷ []) (λ z. watch_with id z ≡ Some w) (λ _. e) (λ _. append_with id ws x ∙ or_stays (watch_with id ws) (if x.id == id then Some x else None) w e)

pub set_keeps : (p : Plan) (id : ℕ) (e : Entry) (h : List Entry) (w : Watch) (o : Op) → e.op ≡ o → IsHistory p h → set_watch p id h ≡ Some w → (watch_with id (set_after p h o (set_watches p h)) ≡ Some w) ⊎ ((f : Firing) × (or_else (firing_in p id h o) (firing_of p id h) ≡ Some f) × (f.watch ≡ w))
set_keeps p id e h w (op.WatchSet d i j) q l s = inl (append_keeps id (set_watches p h) w (watch_asked j d (asked p d i)) s)
set_keeps p id e h w (op.SweepOk n t k) q l s = either (sweep_keeps p id n t k h w (first_taken w.path w.kind (touches_of_push p t h)) l s refl)
  where
    either : (watch_with id (not_fired (touches_of_push p t h) (set_watches p h)) ≡ Some w) ⊎ ((f : Firing) × (firing_with id (firings t (touches_of_push p t h) (set_watches p h)) ≡ Some f) × (f.watch ≡ w)) → (watch_with id (not_fired (touches_of_push p t h) (set_watches p h)) ≡ Some w) ⊎ ((f : Firing) × (or_else (firing_with id (firings t (touches_of_push p t h) (set_watches p h))) (firing_of p id h) ≡ Some f) × (f.watch ≡ w))
    either (inl a) = inl a
    either (inr a) = inr (a.0, or_stays (firing_with id (firings t (touches_of_push p t h) (set_watches p h))) (firing_of p id h) a.0 a.1, a.2)
set_keeps p id e h w o q l s = inl s

one_is_known : (p : Plan) (id : ℕ) (h : List Entry) (w : Watch) → IsHistory p h → IsOne p id h w → known_watch p id h ≡ Some w
one_is_known p id h w l (inl a) = or_stays (set_watch p id h) (fired_watch (firing_of p id h)) w a
one_is_known p id h w l (inr a) =
    let g = set_or_fired_were_given p id h l (inr (ap is_some a.1)) in
    ap (λ o. or_else o (fired_watch (firing_of p id h))) (unset (set_watch p id h) (subst (IsOneOfTwo (set_watch p id h)) a.1 (watch_is_set_or_fired p id h l g.0 g.1)))
    ∙ (ap fired_watch a.1 ∙ ap Some a.2)
  where
    unset : (o : Option Watch) → IsOneOfTwo o (Some a.0) → o ≡ None
    unset None i = refl
    unset (Some x) i = absurd i

known_is_one : (p : Plan) (id : ℕ) (h : List Entry) (w : Watch) → known_watch p id h ≡ Some w → IsOne p id h w
known_is_one p id h w e = by_set (set_watch p id h) refl e
  where
    by_fired : (f : Option Firing) → firing_of p id h ≡ f → fired_watch f ≡ Some w → IsOne p id h w
    by_fired None g k = absurd (none-some w k)
    by_fired (Some f) g k = inr (f, g, same_Some f.watch w k)

    by_set : (o : Option Watch) → set_watch p id h ≡ o → or_else o (fired_watch (firing_of p id h)) ≡ Some w → IsOne p id h w
    by_set (Some x) g k = inl (g ∙ k)
    by_set None g k = by_fired (firing_of p id h) refl k

pub known_stays : (p : Plan) (id : ℕ) (e : Entry) (h : List Entry) (w : Watch) → IsHistory p (e ∷ h) → known_watch p id h ≡ Some w → known_watch p id (e ∷ h) ≡ Some w
known_stays p id e h w l q = one_is_known p id (e ∷ h) w l (either (known_is_one p id h w q))
  where
    either : IsOne p id h w → IsOne p id (e ∷ h) w
    either (inl a) = set_keeps p id e h w e.op refl l.0 a
    either (inr a) = inr (a.0, firing_never_changes p id h (e ∷ []) a.0 l a.1, a.2)

pub accounted_stays : (p : Plan) (c id : ℕ) (e : Entry) (h : List Entry) → IsHistory p (e ∷ h) → IsAccountedFor p c id h → IsAccountedFor p c id (e ∷ h)
accounted_stays p c id e h l x = record { watch = x.watch; known = known_stays p id e h x.watch l x.known; its_session = x.its_session; first = x.first; registered = or_stays (first_of p id h) (registered_in p id h e.op) x.first x.registered }

-- A registration. --------------------------------------------------------------------------------------

abbrev IsOf : ℕ → PathNames → Kind → Watch → Type 0
IsOf c path k w = (w.session ≡ c) × (same_path w.path path ≡ true) × (same_kind w.kind k ≡ true)

-- the watch of a set number is of that client, path and kind
set_number_is : (c j : ℕ) (path : PathNames) (k : Kind) (ws : List Watch) → AreUnique ws → set_number c path k ws ≡ Some j → (v : Watch) × (watch_with j ws ≡ Some v) × IsOf c path k v
set_number_is c j path k [] u e = absurd (none-some j e)
set_number_is c j path k (w ∷ ws) u e = by_test ((w.session == c) && same_path w.path path && same_kind w.kind k) refl e (λ f. set_number_is c j path k ws u.1 f)
  where
    parts : ((w.session == c) && same_path w.path path && same_kind w.kind k) ≡ true → IsOf c path k w
    parts f = grind (arith, nat_tests)

    first : w.id ≡ j → watch_with j (w ∷ ws) ≡ Some w
    first f = subst (λ z. (if w.id == z then Some w else watch_with z ws) ≡ Some w) f (rw (itself w.id) refl)

    other : has_id j ws ≡ true → (w.id == j) ≡ false
    other f = by_eq (w.id == j) refl
      where
        by_eq : (b : Bool) → (w.id == j) ≡ b → b ≡ false
        by_eq true g = absurd (false≢true (sym u.0 ∙ subst (λ z. has_id z ws ≡ true) (sym (eqb-true w.id j g)) f))
        by_eq false g = refl

    by_test : (b : Bool) → ((w.session == c) && same_path w.path path && same_kind w.kind k) ≡ b → (if b then Some w.id else set_number c path k ws) ≡ Some j → (set_number c path k ws ≡ Some j → (v : Watch) × (watch_with j ws ≡ Some v) × IsOf c path k v) → (v : Watch) × (watch_with j (w ∷ ws) ≡ Some v) × IsOf c path k v
    by_test true f g i = (w, first (same_Some w.id j g), parts f)
    by_test false f g i = let y = i g in (y.0, rw (other (set_number_has c path k ws j g)) y.1, y.2)

-- a watch that is registered is set, and is of its client, its path and its kind
pub record IsRegistered (p : Plan) (c id : ℕ) (path : PathNames) (k : Kind) (h : List Entry) : Type 0 where
  pub watch : Watch
  pub set_now : set_watch p id h ≡ Some watch
  pub of_it : IsOf c path k watch

has_none : (id : ℕ) (ws : List Watch) → has_id id ws ≡ false → watch_with id ws ≡ None
has_none id ws e = by_with (watch_with id ws) refl (sym (has_is id ws) ∙ e)
  where
    by_with : (o : Option Watch) → watch_with id ws ≡ o → is_some o ≡ false → watch_with id ws ≡ None
    by_with None f g = f
    by_with (Some v) f g = absurd (false≢true (sym g))

-- a number that is set already is that of its client's watch
set_already : (p : Plan) (c id : ℕ) (path : PathNames) (k : Kind) (h : List Entry) (o : Option ℕ) → IsHistory p h → set_number c path k (set_watches p h) ≡ o → id ≡ number_or_next (given_of h) o → has_id id (set_watches p h) ≡ true → (v : Watch) × (watch_with id (set_watches p h) ≡ Some v) × IsOf c path k v
set_already p c id path k h None l q n f = let g = set_or_fired_were_given p id h l (inl (sym (has_is id (set_watches p h)) ∙ f)) in let b = g.1 in absurd (omega (arith, b, n))
set_already p c id path k h (Some j) l q n f = set_number_is c id path k (set_watches p h) (watches_unique p h l) (q ∙ ap Some (sym n))

pub registered_now : (p : Plan) (c i id : ℕ) (e : Entry) (h : List Entry) → IsHistory p (e ∷ h) → e.op ≡ op.WatchSet c i id → (r : IsRegistration p h c i id) → IsRegistered p c id r.watch.path r.watch.kind (e ∷ h)
registered_now p c i id e h l q r = subst (λ o. (w : Watch) × (watch_with id (set_after p h o (set_watches p h)) ≡ Some w) × IsOf c r.watch.path r.watch.kind w → IsRegistered p c id r.watch.path r.watch.kind (e ∷ h)) q (λ x. record { watch = x.0; set_now = x.1; of_it = x.2 }) (subst (λ o. (w : Watch) × (watch_with id (with_watch o (set_watches p h)) ≡ Some w) × IsOf c r.watch.path r.watch.kind w) (sym r.wanted) (by_has (has_id r.watch.id (set_watches p h)) refl))
  where
    by_has : (b : Bool) → has_id r.watch.id (set_watches p h) ≡ b → (w : Watch) × (watch_with id (if b then set_watches p h else set_watches p h ++ r.watch ∷ []) ≡ Some w) × IsOf c r.watch.path r.watch.kind w
    by_has true f = set_already p c id r.watch.path r.watch.kind h (set_number c r.watch.path r.watch.kind (set_watches p h)) l.0 refl r.numbered (subst (λ z. has_id z (set_watches p h) ≡ true) r.its_id f)
    by_has false f = (r.watch, append_with id (set_watches p h) r.watch ∙ (ap (λ o. or_else o (if r.watch.id == id then Some r.watch else None)) (has_none id (set_watches p h) (subst (λ z. has_id z (set_watches p h) ≡ false) r.its_id f)) ∙ rw (r.its_id, itself id) refl), (r.its_session, same_path_self r.watch.path, same_kind_self r.watch.kind))

pub registration : (p : Plan) (c i id : ℕ) (e : Entry) (h : List Entry) → IsHistory p (e ∷ h) → e.op ≡ op.WatchSet c i id → IsRegistration p h c i id
registration p c i id e h l q = subst (Registers p h) q (watches_are_registered p e h l)

first_now : (p : Plan) (c i id : ℕ) (e : Entry) (h : List Entry) (o : Option ℕ) → e.op ≡ op.WatchSet c i id → first_of p id h ≡ o → (n : ℕ) × (or_else o (registered_in p id h e.op) ≡ Some n)
first_now p c i id e h (Some n) q f = (n, refl)
first_now p c i id e h None q f = (number_of_read p c h, subst (λ o. registered_in p id h o ≡ Some (number_of_read p c h)) (sym q) (rw (itself id) refl))

pub accounted_now : (p : Plan) (c i id : ℕ) (e : Entry) (h : List Entry) → IsHistory p (e ∷ h) → e.op ≡ op.WatchSet c i id → IsAccountedFor p c id (e ∷ h)
accounted_now p c i id e h l q =
    let x = registered_now p c i id e h l q (registration p c i id e h l q) in
    let n = first_now p c i id e h (first_of p id h) q refl in
    record { watch = x.watch; known = or_stays (set_watch p id (e ∷ h)) (fired_watch (firing_of p id (e ∷ h))) x.watch x.set_now; its_session = x.of_it.0; first = n.0; registered = n.1 }

-- Held watches. ----------------------------------------------------------------------------------------

abbrev AllAccounted : Plan → ℕ → List Entry → Client Sent → Type 0
AllAccounted p c h x = (id : ℕ) → contains id x.held ≡ true → IsAccountedFor p c id h

accounted_change : (p : Plan) (c : ℕ) (e : Entry) (h : List Entry) (y : Client Sent) → IsHistory p (e ∷ h) → AllAccounted p c (e ∷ h) (client_of p c h) → HeldChange p c h e.op y → AllAccounted p c (e ∷ h) y
accounted_change p c e h y l i (Left n a b) id f = i id (subst (λ z. contains id z ≡ true) a f)
accounted_change p c e h y l i (Emptied a b) id f = absurd (false≢true (subst (λ z. contains id z ≡ true) a f))
accounted_change p c e h y l i (Dropped j q a b) id f = i id (without_has id j (client_of p c h).held (subst (λ z. contains id z ≡ true) a f)).0
accounted_change p c e h y l i (Added k j q a b) id f = either (with_has id j (client_of p c h).held (subst (λ z. contains id z ≡ true) a f))
  where
    either : (contains id (client_of p c h).held ≡ true) ⊎ (id ≡ j) → IsAccountedFor p c id (e ∷ h)
    either (inl g) = i id g
    either (inr g) = subst (λ z. IsAccountedFor p c z (e ∷ h)) (sym g) (accounted_now p c k j e h l q)

pub held_watches_are_accounted_for : HeldWatchesAreAccountedFor
held_watches_are_accounted_for p c id [] l f = absurd (false≢true f)
held_watches_are_accounted_for p c id (e ∷ h) l f =
    let old : AllAccounted p c (e ∷ h) (client_of p c h) = λ j g. accounted_stays p c j e h l (held_watches_are_accounted_for p c j h l.0 g) in
    client_after p c e h (AllAccounted p c (e ∷ h)) old (λ q j g. accounted_change p c e h (acted_by (sight_of p c h) e.op (client_of p c h)) l old (held_change p c h e.op q) j g) id f

-- Closed clients. --------------------------------------------------------------------------------------

held_nothing : (p : Plan) (c : ℕ) (h : List Entry) (o : Op) (y : Client Sent) → OperationSays p c h o → ((client_of p c h).closed ≡ true → (client_of p c h).held ≡ []) → ((client_of p c h).closed ≡ true → (client_of p c h).reading ≡ None) → HeldChange p c h o y → y.closed ≡ true → y.held ≡ []
held_nothing p c h o y s i k (Left n a b) f = a ∙ i (sym b ∙ f)
held_nothing p c h o y s i k (Emptied a b) f = a
held_nothing p c h o y s i k (Dropped j q a b) f = a ∙ ap (without j) (i (sym b ∙ f))
held_nothing p c h o y s i k (Added m j q a b) f = let w = (subst (OperationSays p c h) q s).0 in absurd (none-some w.reading (sym (k (sym b ∙ f)) ∙ w.made))

settled_reading : (n : ℕ) (o : Option Outcome) (x : Client Sent) → (settle_with by_result n (settled_as o) x).reading ≡ None
settled_reading n None x = refl
settled_reading n (Some o) x = refl

look_reading : (p : Plan) (c : ℕ) (h : List Entry) (r : Option Reading) → (client_of p c h).reading ≡ r → ((client_of p c h).closed ≡ true → (client_of p c h).reading ≡ None) → (looked by_result (asks_in p c) r (client_of p c h)).closed ≡ true → (looked by_result (asks_in p c) r (client_of p c h)).reading ≡ None
look_reading p c h None e k f = first (client_of p c h).sent
  where
    closing : (b : Bool) (ss : List Sent) → (close_if b (record (client_of p c h) { sent = ss })).reading ≡ None
    closing true ss = e
    closing false ss = e

    first : (ss : List Sent) → (looked_for by_result (asks_in p c) ss (client_of p c h)).reading ≡ None
    first [] = e
    first (s ∷ ss) = closing (is_close (asked p c s.command)) ss
look_reading p c h (Some r) e k f = registering (registers (asked p c ((client_of p c h).begun + 1)) r.node) f
  where
    registering : (b : Bool) → (looked_at b r (client_of p c h)).closed ≡ true → (looked_at b r (client_of p c h)).reading ≡ None
    registering true g = absurd (none-some r (sym (k g) ∙ e))
    registering false g = refl

reads_nothing : (p : Plan) (c : ℕ) (h : List Entry) (o : Op) → OperationSays p c h o → ((client_of p c h).closed ≡ true → (client_of p c h).reading ≡ None) → (acted_by (sight_of p c h) o (client_of p c h)).closed ≡ true → (acted_by (sight_of p c h) o (client_of p c h)).reading ≡ None
reads_nothing p c h (op.Read d i s) a k f = absurd (false≢true (sym a.0.session_open ∙ f))
reads_nothing p c h (op.LookOk d i m) a k f = look_reading p c h (client_of p c h).reading refl k f
reads_nothing p c h (op.TakeRefused d n) a k f = settled_reading n (kept_outcome (sight_of p c h).head) (client_of p c h)
reads_nothing p c h (op.TakeLost d n) a k f = settled_reading n (kept_outcome (sight_of p c h).head) (client_of p c h)
reads_nothing p c h (op.TakeDone d n t) a k f = refl
reads_nothing p c h (op.TakeEvicted d n t) a k f = refl
reads_nothing p c h (op.TakeWatch d id) a k f = refl
reads_nothing p c h (op.TakePing d n) a k f = refl
reads_nothing p c h (op.WatchSet d i id) a k f = refl
reads_nothing p c h (op.WatchSwept d i t) a k f = refl
reads_nothing p c h (op.ReadFault d i) a k f = refl
reads_nothing p c h (op.WatchFault d i) a k f = refl
reads_nothing p c h o a k f = k f

pub closed_clients_hold_nothing : ClosedClientsHoldNothing
closed_clients_hold_nothing p c [] l f = absurd (false≢true f)
closed_clients_hold_nothing p c (e ∷ h) l f =
    client_after p c e h (λ x. x.closed ≡ true → (x.held ≡ []) × (x.reading ≡ None)) (closed_clients_hold_nothing p c h l.0)
    (λ q g. let a = client_operations_say p c e h l q in
    (held_nothing p c h e.op (acted_by (sight_of p c h) e.op (client_of p c h)) a (λ k. (closed_clients_hold_nothing p c h l.0 k).0) (λ k. (closed_clients_hold_nothing p c h l.0 k).1) (held_change p c h e.op q) g, reads_nothing p c h e.op a (λ k. (closed_clients_hold_nothing p c h l.0 k).1) g)) f
