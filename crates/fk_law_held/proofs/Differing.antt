-- The watches that a client holds differ, and each of its set watches is held.
use Rattle.std.specs.Prelude.{◌==◌, ◌&&◌}
use Rattle.std.proofs.Common.{◌≡◌, ℕ, ◌+◌, ◌≤◌, ◌++◌, ◌⊎◌, inl, inr, if◌then◌else◌, Bool, true, false, List, [], ◌∷◌, refl, sym, ◌∙◌, ap, subst, arith, Option, Some, None}
use Rattle.std.proofs.lemmas.Bool.{false≢true, eqb-true}
use Rattle.std.proofs.lemmas.Option.{same_Some, none-some}
use Rattle.fk_base.specs.Path.{PathNames, same_path}
use Rattle.fk_tree.specs.Watch.{first_taken, has_touch, same_kind, takes}
use Rattle.fk_tree.specs.declared.change.Change.{Change}
use Rattle.fk_tree.specs.declared.change.Kind.{Kind}
use Rattle.fk_tree.specs.declared.change.Touch.{Touch}
use Rattle.fk_tree.proofs.Order.{same_path_is}
use Rattle.fk_tree.proofs.Looking.{same_flip}
use Rattle.fk_print.specs.declared.entry.Entry.{Entry}
use Rattle.fk_print.specs.declared.op.Op.{Op}
use Rattle.fk_print.specs.declared.op.Op.TheVariants as op
use Rattle.fk_spec.specs.Plan.{Plan, Ask, Want, Unfit, Writes, Reads, asked}
use Rattle.fk_spec.specs.Shown.{seen_by}
use Rattle.fk_spec.specs.Start.{or_else}
use Rattle.fk_spec.specs.Lanes as lanes
use Rattle.fk_spec.specs.Lanes.{inbox_of}
use Rattle.fk_spec.specs.Sight.{sight_of}
use Rattle.fk_spec.specs.Watches.{Firing, Watch, firing_of, has_id, last_sweep, set_after, set_watches, touches_of_push, watch_asked, watch_wanted, with_watch, firing_in}
use Rattle.fk_spec.specs.Client.{acted_by, client_in, client_of, contains, number_read, registers, Client, Sent}
use Rattle.fk_spec.specs.Next.{IsHistory}
use Rattle.fk_spec.specs.WatchNumbers.{watch_with}
use Rattle.fk_law.specs.Due.{IsDue}
use Rattle.fk_law.proofs.Due.{client_operations_say, due}
use Rattle.fk_law_watch.specs.FirstNumbers.{ReadsAreReads}
use Rattle.fk_law_watch.specs.Registering.{IsRegistration, number_from, number_of_read}
use Rattle.fk_law_watch.specs.SetWatches.{set_watch}
use Rattle.fk_law_watch.proofs.Listing.{append_with, kept_watch}
use Rattle.fk_law_watch.proofs.SetWatches.{fired_watch_fired_at_its_first_change, set_watches_differ, watches_unique, or_stays}
use Rattle.fk_law_watch.proofs.Sweeps.{last_most}
use Rattle.fk_law_watch.proofs.Telling.{announced_has_fired}
use Rattle.fk_law.specs.Operations.{OperationSays}
use Rattle.fk_law_client.proofs.Kept.{client_after, own_client}
use Rattle.fk_law_client.proofs.Messages.{inbox_messages}
use Rattle.fk_law_client.proofs.Tracking.{first_true}
use Rattle.fk_law_reply.proofs.Finding.{reading_after}
use Rattle.fk_law_held.specs.Announced.{HeldWatchesDiffer, WaitingReadRegisters}
use Rattle.fk_law_held.specs.Held.{HeldChange, Left, Emptied, Dropped, Added, IsAccountedFor, SetWatchesAreHeld, fired_watch, known_watch}
use Rattle.fk_law_held.proofs.Announcing.{held_back, known_fired, set_unfired, waiting_read_is_clean}
use Rattle.fk_law_held.proofs.Changing.{held_change, with_new, with_old, without_other}
use Rattle.fk_law_held.proofs.Holding.{IsRegistered, held_watches_are_accounted_for, known_stays, registered_now, registration, set_keeps}
use Rattle.fk_tree.proofs.SameKind.{same_kind_sym}

-- A waiting read. --------------------------------------------------------------------------------------

pub waiting_read_registers : WaitingReadRegisters
waiting_read_registers p c [] r v l q b = absurd (none-some r q)
waiting_read_registers p c (e ∷ h) r v l q b =
    reading_after p c e h (λ seen begun x. x.looked ≡ true → registers (asked p c (begun + 1)) x.node ≡ true) v l
    (λ x f. waiting_read_registers p c h x v l.0 f)
    (λ i m x _ _ f _. f)
    (λ i s _ f. absurd (false≢true f))
    r q b

-- Two held watches. ------------------------------------------------------------------------------------

taken_touches : (path : PathNames) (k : Kind) (ts : List Touch) (x : Change) → first_taken path k ts ≡ Some x → has_touch path ts ≡ true
taken_touches path k [] x e = absurd (none-some x e)
taken_touches path k (t ∷ ts) x e = by_path (same_path t.path path) e (taken_touches path k ts x)
  where
    by_path : (b : Bool) → (if b && takes k t.change then Some t.change else first_taken path k ts) ≡ Some x → (first_taken path k ts ≡ Some x → has_touch path ts ≡ true) → (if b then true else has_touch path ts) ≡ true
    by_path true f i = refl
    by_path false f i = i f

path_through : (a b c : PathNames) → same_path a b ≡ true → same_path a c ≡ true → same_path b c ≡ true
path_through a b c e f = subst (λ z. same_path z c ≡ true) (same_path_is a b e) f

-- the known watch of an unfired number is set
pub unfired_set : (p : Plan) (id : ℕ) (h : List Entry) (w : Watch) → known_watch p id h ≡ Some w → firing_of p id h ≡ None → set_watch p id h ≡ Some w
unfired_set p id h w k q = by_set (set_watch p id h) refl k
  where
    by_set : (o : Option Watch) → set_watch p id h ≡ o → or_else o (fired_watch (firing_of p id h)) ≡ Some w → set_watch p id h ≡ Some w
    by_set (Some x) e g = e ∙ g
    by_set None e g = absurd (none-some w (sym (ap fired_watch q) ∙ g))

-- a held watch of the path and kind that is registered hasn't fired
same_unfired : (p : Plan) (c k i j : ℕ) (e : Entry) (h : List Entry) (w : Watch) → ReadsAreReads p → IsHistory p (e ∷ h) → e.op ≡ op.WatchSet c k i → (r : IsRegistration p h c k i) → contains j (client_of p c h).held ≡ true → known_watch p j h ≡ Some w → same_path w.path r.watch.path ≡ true → firing_of p j h ≡ None
same_unfired p c k i j e h w v l q r f g s = by_firing (firing_of p j h) refl
  where
    a : OperationSays p c h (op.WatchSet c k i)
    a = subst (OperationSays p c h) q (client_operations_say p c e h l (ap client_in q))

    number : number_of_read p c h ≡ number_read (seen_by c h) a.0.reading
    number = ap (number_from c h) a.0.made

    swept : (x : Firing) → firing_of p j h ≡ Some x → x.tx ≤ last_sweep p r.watch.path h
    swept x y =
        let z = fired_watch_fired_at_its_first_change p j h x l.0 y in
        let m : x.watch ≡ w = known_fired p j h w x l.0 g y in
        let t : x.watch.path ≡ r.watch.path = ap (λ b. b.path) m ∙ same_path_is w.path r.watch.path s in
        last_most p r.watch.path x.tx h l.0 z.swept (subst (λ b. has_touch b (touches_of_push p x.tx h) ≡ true) t (taken_touches x.watch.path x.watch.kind (touches_of_push p x.tx h) x.change z.shows))

    by_firing : (o : Option Firing) → firing_of p j h ≡ o → firing_of p j h ≡ None
    by_firing None y = y
    by_firing (Some x) y = let b = waiting_read_is_clean p c j h a.0.reading x v l.0 a.0.made a.0.looked f y in let t = swept x y in let u = r.unswept in absurd (omega (arith, b, t, u, number))

differ_new : (p : Plan) (c k i j : ℕ) (e : Entry) (h : List Entry) (u w : Watch) → ReadsAreReads p → IsHistory p (e ∷ h) → e.op ≡ op.WatchSet c k i → contains j (client_of p c h).held ≡ true → known_watch p i (e ∷ h) ≡ Some u → known_watch p j (e ∷ h) ≡ Some w → same_path u.path w.path ≡ true → same_kind u.kind w.kind ≡ true → i ≡ j
differ_new p c k i j e h u w v l q f g m s t =
    set_watches_differ p i j (e ∷ h) x.watch y.watch l x.set_now (set_still (set_keeps p j e h y.watch e.op refl l.0 unfired)) (x.of_it.0 ∙ sym y.its_session)
    (subst (λ z. same_path z.path y.watch.path ≡ true) (sym is_new) (subst (λ z. same_path u.path z.path ≡ true) is_old s))
    (subst (λ z. same_kind z.kind y.watch.kind ≡ true) (sym is_new) (subst (λ z. same_kind u.kind z.kind ≡ true) is_old t))
  where
    r : IsRegistration p h c k i
    r = registration p c k i e h l q

    x : IsRegistered p c i r.watch.path r.watch.kind (e ∷ h)
    x = registered_now p c k i e h l q r

    y : IsAccountedFor p c j h
    y = held_watches_are_accounted_for p c j h l.0 f

    is_new : x.watch ≡ u
    is_new = same_Some x.watch u (sym (or_stays (set_watch p i (e ∷ h)) (fired_watch (firing_of p i (e ∷ h))) x.watch x.set_now) ∙ g)

    is_old : w ≡ y.watch
    is_old = same_Some w y.watch (sym m ∙ known_stays p j e h y.watch l y.known)

    path : same_path y.watch.path r.watch.path ≡ true
    path = path_through u.path y.watch.path r.watch.path (subst (λ z. same_path u.path z.path ≡ true) is_old s) (subst (λ z. same_path z.path r.watch.path ≡ true) is_new x.of_it.1)

    unfired : set_watch p j h ≡ Some y.watch
    unfired = unfired_set p j h y.watch y.known (same_unfired p c k i j e h y.watch v l q r f y.known path)

    set_still : (set_watch p j (e ∷ h) ≡ Some y.watch) ⊎ ((z : Firing) × (firing_of p j (e ∷ h) ≡ Some z) × (z.watch ≡ y.watch)) → set_watch p j (e ∷ h) ≡ Some y.watch
    set_still (inl z) = z
    set_still (inr z) = absurd (none-some z.0 (sym (subst (λ o. or_else (firing_in p j h o) (firing_of p j h) ≡ None) (sym q) (set_unfired p j h y.watch l.0 unfired)) ∙ z.1))

same_set : (c a b i j : ℕ) → op.WatchSet c a i ≡ op.WatchSet c b j → i ≡ j
same_set c a b i j e = grind arith

pub held_watches_differ : HeldWatchesDiffer
held_watches_differ p c i j [] u w v l f g k m s t = absurd (false≢true f)
held_watches_differ p c i j (e ∷ h) u w v l f g k m s t = either (λ x y. old x y (held_watches_differ p c i j h)) (held_back p c i e h l f) (held_back p c j e h l g)
  where
    old : contains i (client_of p c h).held ≡ true → contains j (client_of p c h).held ≡ true → ((x y : Watch) → ReadsAreReads p → IsHistory p h → contains i (client_of p c h).held ≡ true → contains j (client_of p c h).held ≡ true → known_watch p i h ≡ Some x → known_watch p j h ≡ Some y → same_path x.path y.path ≡ true → same_kind x.kind y.kind ≡ true → i ≡ j) → i ≡ j
    old x y n =
        let a = held_watches_are_accounted_for p c i h l.0 x in
        let b = held_watches_are_accounted_for p c j h l.0 y in
        let q : u ≡ a.watch = same_Some u a.watch (sym k ∙ known_stays p i e h a.watch l a.known) in
        let r : w ≡ b.watch = same_Some w b.watch (sym m ∙ known_stays p j e h b.watch l b.known) in
        n a.watch b.watch v l.0 x y a.known b.known (subst (λ z. same_path z.path b.watch.path ≡ true) q (subst (λ z. same_path u.path z.path ≡ true) r s)) (subst (λ z. same_kind z.kind b.watch.kind ≡ true) q (subst (λ z. same_kind u.kind z.kind ≡ true) r t))

    either : (contains i (client_of p c h).held ≡ true → contains j (client_of p c h).held ≡ true → i ≡ j) → (contains i (client_of p c h).held ≡ true) ⊎ ((a : ℕ) × (e.op ≡ op.WatchSet c a i)) → (contains j (client_of p c h).held ≡ true) ⊎ ((a : ℕ) × (e.op ≡ op.WatchSet c a j)) → i ≡ j
    either n (inl x) (inl y) = n x y
    either n (inr x) (inl y) = differ_new p c x.0 i j e h u w v l x.1 y k m s t
    either n (inl x) (inr y) = sym (differ_new p c y.0 j i e h w u v l y.1 x m k (same_flip w.path u.path ∙ s) (same_kind_sym u.kind w.kind t))
    either n (inr x) (inr y) = same_set c x.0 y.0 i j (sym x.1 ∙ y.1)

-- Set watches. -----------------------------------------------------------------------------------------

wanted_is : (id c : ℕ) (a : Want) (w : Watch) → watch_wanted id c a ≡ Some w → (w.id ≡ id) × (w.session ≡ c)
wanted_is id c (Reads q b) w e = let s = same_Some (record { id = id; session = c; path = _; kind = _ }) w e in (ap (λ z. z.id) (sym s), ap (λ z. z.session) (sym s))
wanted_is id c Unfit w e = absurd (none-some w e)
wanted_is id c (Writes r) w e = absurd (none-some w e)

asked_is : (id c : ℕ) (a : Option Ask) (w : Watch) → watch_asked id c a ≡ Some w → (w.id ≡ id) × (w.session ≡ c)
asked_is id c None w e = absurd (none-some w e)
asked_is id c (Some a) w e = wanted_is id c a.want w e

-- a watch that is set was set before, or is registered now
abbrev SetSo : Plan → ℕ → List Entry → Watch → Op → Type 0
SetSo p id h w o = (set_watch p id h ≡ Some w) ⊎ ((d i : ℕ) × (o ≡ op.WatchSet d i id) × (w.session ≡ d))

set_by_it : (p : Plan) (id d i j : ℕ) (h : List Entry) (w : Watch) (o : Option Watch) → watch_asked j d (asked p d i) ≡ o → watch_with id (with_watch o (set_watches p h)) ≡ Some w → SetSo p id h w (op.WatchSet d i j)
set_by_it p id d i j h w None e q = inl q
set_by_it p id d i j h w (Some x) e q = by_has (has_id x.id (set_watches p h)) q
  where
    new : (x.id == id) ≡ true → x ≡ w → SetSo p id h w (op.WatchSet d i j)
    new f g = let y = asked_is j d (asked p d i) x e in inr (d, i, ap (λ z. op.WatchSet d i z) (sym y.0 ∙ eqb-true x.id id f), ap (λ z. z.session) (sym g) ∙ y.1)

    by_new : (b : Bool) → (x.id == id) ≡ b → (if b then Some x else None) ≡ Some w → SetSo p id h w (op.WatchSet d i j)
    by_new true f g = new f (same_Some x w g)
    by_new false f g = absurd (none-some w g)

    by_old : (y : Option Watch) → watch_with id (set_watches p h) ≡ y → or_else y (if x.id == id then Some x else None) ≡ Some w → SetSo p id h w (op.WatchSet d i j)
    by_old (Some z) f g = inl (f ∙ g)
    by_old None f g = by_new (x.id == id) refl g

    by_has : (b : Bool) → watch_with id (if b then set_watches p h else set_watches p h ++ x ∷ []) ≡ Some w → SetSo p id h w (op.WatchSet d i j)
    by_has true g = inl g
    by_has false g = by_old (watch_with id (set_watches p h)) refl (sym (append_with id (set_watches p h) x) ∙ g)

set_before : (p : Plan) (id : ℕ) (h : List Entry) (w : Watch) (o : Op) → IsHistory p h → watch_with id (set_after p h o (set_watches p h)) ≡ Some w → SetSo p id h w o
set_before p id h w (op.WatchSet d i j) l q = set_by_it p id d i j h w (watch_asked j d (asked p d i)) refl q
set_before p id h w (op.SweepOk n t k) l q = inl (kept_watch id (touches_of_push p t h) (set_watches p h) w (watches_unique p h l) q).0
set_before p id h w o l q = inl q

abbrev HoldsSet : Plan → ℕ → ℕ → List Entry → Watch → Client Sent → Type 0
HoldsSet p c id h w x = x.closed ≡ false → contains id x.held ≡ true

-- who is told of a watch is told of one that fired
pub told_fired : (p : Plan) (c j : ℕ) (e : Entry) (h : List Entry) → IsHistory p (e ∷ h) → e.op ≡ op.TakeWatch c j → (f : Firing) × (firing_of p j h ≡ Some f)
told_fired p c j e h l q =
    let d : IsDue p h (op.TakeWatch c j) = subst (IsDue p h) q (due p e h l) in
    let a = announced_has_fired p j h l.0 (first_true p c h (inbox_of p c h) d.0 (lanes.Watch j) d.1 (inbox_messages p c h l.0)) in
    (a.0, a.1)

holds_change : (p : Plan) (c id : ℕ) (e : Entry) (h : List Entry) (w : Watch) (y : Client Sent) → IsHistory p (e ∷ h) → set_watch p id h ≡ Some w → HoldsSet p c id h w (client_of p c h) → HeldChange p c h e.op y → HoldsSet p c id h w y
holds_change p c id e h w y l s i (Left n a b) f = subst (λ z. contains id z ≡ true) (sym a) (i (sym b ∙ f))
holds_change p c id e h w y l s i (Emptied a b) f = absurd (false≢true (sym f ∙ b))
holds_change p c id e h w y l s i (Dropped j q a b) f = subst (λ z. contains id z ≡ true) (sym a) (without_other id j (client_of p c h).held (i (sym b ∙ f)) (λ k. let z = told_fired p c j e h l q in none-some z.0 (sym (set_unfired p id h w l.0 s) ∙ (ap (λ m. firing_of p m h) k ∙ z.1))))
holds_change p c id e h w y l s i (Added m j q a b) f = subst (λ z. contains id z ≡ true) (sym a) (with_old id j (client_of p c h).held (i (sym b ∙ f)))

holds_new : (p : Plan) (c i id : ℕ) (e : Entry) (h : List Entry) → IsHistory p (e ∷ h) → e.op ≡ op.WatchSet c i id → contains id (client_of p c (e ∷ h)).held ≡ true
holds_new p c i id e h l q = subst (λ x. contains id x.held ≡ true) (sym (own_client p c e h (ap client_in q))) (subst (λ o. contains id (acted_by (sight_of p c h) o (client_of p c h)).held ≡ true) (sym q) (with_new id (client_of p c h).held))

pub set_watches_are_held : SetWatchesAreHeld
set_watches_are_held p c id [] w l f q s = absurd (none-some w q)
set_watches_are_held p c id (e ∷ h) w l f q s = either (λ x. client_after p c e h (HoldsSet p c id h w) (λ k. set_watches_are_held p c id h w l.0 k x s) (λ k. holds_change p c id e h w (acted_by (sight_of p c h) e.op (client_of p c h)) l x (λ m. set_watches_are_held p c id h w l.0 m x s) (held_change p c h e.op k)) f) (set_before p id h w e.op l.0 q)
  where
    either : (set_watch p id h ≡ Some w → contains id (client_of p c (e ∷ h)).held ≡ true) → SetSo p id h w e.op → contains id (client_of p c (e ∷ h)).held ≡ true
    either g (inl x) = g x
    either g (inr x) = holds_new p c x.1 id e h l (x.2 ∙ ap (λ z. op.WatchSet z x.1 id) (sym x.3 ∙ s))
