-- A held watch that was announced stands in its client's inbox; looks and waiting reads pass none.
use Rattle.std.specs.Prelude.{◌==◌, ◌||◌, nat_le, is_some}
use Rattle.std.proofs.Common.{◌≡◌, ℕ, ◌<◌, ◌≤◌, ◌++◌, ◌⊎◌, inl, inr, if◌then◌else◌, Bool, true, false, List, [], ◌∷◌, refl, sym, ◌∙◌, ap, subst, arith, Option, Some, None}
use Rattle.std.proofs.lemmas.Bool.{false≢true, leb-true, eqb-true, leb-false}
use Rattle.std.proofs.lemmas.Bool.Decides.{nat_tests}
use Rattle.std.proofs.lemmas.Option.{same_Some, none-some}
use Rattle.fk_print.specs.declared.entry.Entry.{Entry}
use Rattle.fk_print.specs.declared.op.Op.{Op}
use Rattle.fk_print.specs.declared.op.Op.TheVariants as op
use Rattle.fk_spec.specs.Plan.{Plan}
use Rattle.fk_spec.specs.Shown.{seen_by}
use Rattle.fk_spec.specs.Settling.{mark_of, swept_of, Passed}
use Rattle.fk_spec.specs.Start.{or_else, when}
use Rattle.fk_spec.specs.Lanes as lanes
use Rattle.fk_spec.specs.Lanes.{Message, inbox_after, inbox_of, posted_in, takes, with_posted, without_first}
use Rattle.fk_spec.specs.Sight.{number_or_next, sight_of}
use Rattle.fk_spec.specs.Watches.{Firing, Watch, firing_of, given_of, has_id, published_epoch, set_number, set_watches}
use Rattle.fk_spec.specs.Client.{acted_by, client_in, client_of, contains, first_held, by_result, number_read, Client, Reading, Sent, target_of}
use Rattle.fk_spec.specs.Next.{IsHistory}
use Rattle.fk_spec.specs.WatchNumbers.{watch_with}
use Rattle.fk_law.specs.Due.{IsDue}
use Rattle.fk_law.specs.LeaderLane.{sweeps}
use Rattle.fk_law.proofs.Due.{client_operations_say, due}
use Rattle.fk_law.proofs.Leading.{mark_behind_sweep}
use Rattle.fk_law_watch.specs.FirstNumbers.{ReadsAreReads}
use Rattle.fk_law_watch.specs.Noting.{is_told}
use Rattle.fk_law_watch.specs.Registering.{IsRegistration}
use Rattle.fk_law_watch.specs.SetWatches.{IsOneOfTwo, set_watch}
use Rattle.fk_law_watch.specs.Telling.{announces, is_announced}
use Rattle.fk_law_watch.proofs.Epochs.{untold_fired_watch_is_in_the_epoch}
use Rattle.fk_law_watch.proofs.Listing.{has_is, set_number_has}
use Rattle.fk_law_watch.proofs.Reading.{ReadSo, reads_so}
use Rattle.fk_law_watch.proofs.SetWatches.{by_or, set_or_fired_were_given, watch_is_set_or_fired, firing_never_changes}
use Rattle.fk_law_watch.proofs.Telling.{announced_has_fired, newly_fired, told_push_is_announced}
use Rattle.fk_law.specs.Operations.{OperationSays}
use Rattle.fk_law_client.proofs.Kept.{client_after, own_client}
use Rattle.fk_law_client.proofs.Lines.{read_sought}
use Rattle.fk_law_reply.proofs.Finding.{reading_after}
use Rattle.fk_law_held.specs.Announced.{TellsOf, InboxTellsOfAnnouncedWatches, LookPassesNoHeldWatch, WaitingReadIsClean}
use Rattle.fk_law_held.specs.Held.{HeldChange, Left, Emptied, Dropped, Added, fired_watch, known_watch}
use Rattle.fk_law_held.proofs.Changing.{held_change, with_has, without_has}
use Rattle.fk_law_held.proofs.Holding.{held_watches_are_accounted_for, registration}
use Rattle.fk_law_held.proofs.Telling.{told_watch_is_of_its_client}
use Rattle.fk_base.proofs.Logic.{itself}

-- A number that is given or kept at a registration hasn't fired. ---------------------------------------

pub set_unfired : (p : Plan) (id : ℕ) (h : List Entry) (w : Watch) → IsHistory p h → set_watch p id h ≡ Some w → firing_of p id h ≡ None
set_unfired p id h w l e =
    let g = set_or_fired_were_given p id h l (inl (ap is_some e)) in
    none (firing_of p id h) (subst (λ o. IsOneOfTwo o (firing_of p id h)) e (watch_is_set_or_fired p id h l g.0 g.1))
  where
    none : (o : Option Firing) → IsOneOfTwo (Some w) o → o ≡ None
    none None i = refl
    none (Some f) i = absurd i

has_set : (p : Plan) (id : ℕ) (h : List Entry) → has_id id (set_watches p h) ≡ true → (w : Watch) × (set_watch p id h ≡ Some w)
has_set p id h e = by_with (watch_with id (set_watches p h)) refl (sym (has_is id (set_watches p h)) ∙ e)
  where
    by_with : (o : Option Watch) → watch_with id (set_watches p h) ≡ o → is_some o ≡ true → (w : Watch) × (set_watch p id h ≡ Some w)
    by_with None f g = absurd (false≢true g)
    by_with (Some v) f g = (v, f)

pub registered_unfired : (p : Plan) (c i id : ℕ) (e : Entry) (h : List Entry) → IsHistory p (e ∷ h) → e.op ≡ op.WatchSet c i id → firing_of p id h ≡ None
registered_unfired p c i id e h l q = let r = registration p c i id e h l q in by_number r (set_number c r.watch.path r.watch.kind (set_watches p h)) refl r.numbered
  where
    unknown : (o : Option Firing) → (is_some o ≡ true → ⊥) → o ≡ None
    unknown None n = refl
    unknown (Some f) n = absurd (n refl)

    by_number : (r : IsRegistration p h c i id) (o : Option ℕ) → set_number c r.watch.path r.watch.kind (set_watches p h) ≡ o → id ≡ number_or_next (given_of h) o → firing_of p id h ≡ None
    by_number r None f n = unknown (firing_of p id h) (λ x. let g = (set_or_fired_were_given p id h l.0 (inr x)).1 in absurd (omega (arith, g, n)))
    by_number r (Some j) f n = let x = has_set p id h (set_number_has c r.watch.path r.watch.kind (set_watches p h) id (f ∙ ap Some (sym n))) in set_unfired p id h x.0 l.0 x.1

-- What is held was held before, or is registered now.
pub held_back : (p : Plan) (c id : ℕ) (e : Entry) (h : List Entry) → IsHistory p (e ∷ h) → contains id (client_of p c (e ∷ h)).held ≡ true → (contains id (client_of p c h).held ≡ true) ⊎ ((i : ℕ) × (e.op ≡ op.WatchSet c i id))
held_back p c id e h l f = client_after p c e h (λ x. contains id x.held ≡ true → (contains id (client_of p c h).held ≡ true) ⊎ ((i : ℕ) × (e.op ≡ op.WatchSet c i id))) (λ g. inl g) (λ q. by_change (held_change p c h e.op q)) f
  where
    by_change : HeldChange p c h e.op (acted_by (sight_of p c h) e.op (client_of p c h)) → contains id (acted_by (sight_of p c h) e.op (client_of p c h)).held ≡ true → (contains id (client_of p c h).held ≡ true) ⊎ ((i : ℕ) × (e.op ≡ op.WatchSet c i id))
    by_change (Left n a b) g = inl (subst (λ z. contains id z ≡ true) a g)
    by_change (Emptied a b) g = absurd (false≢true (subst (λ z. contains id z ≡ true) a g))
    by_change (Dropped j q a b) g = inl (without_has id j (client_of p c h).held (subst (λ z. contains id z ≡ true) a g)).0
    by_change (Added k j q a b) g = either (with_has id j (client_of p c h).held (subst (λ z. contains id z ≡ true) a g))
      where
        either : (contains id (client_of p c h).held ≡ true) ⊎ (id ≡ j) → (contains id (client_of p c h).held ≡ true) ⊎ ((i : ℕ) × (e.op ≡ op.WatchSet c i id))
        either (inl x) = inl x
        either (inr x) = inr (k, q ∙ ap (λ z. op.WatchSet c k z) (sym x))

-- The inbox. -------------------------------------------------------------------------------------------

tells_append : (id : ℕ) (m : Message) (xs : List Message) → TellsOf id xs → TellsOf id (xs ++ m ∷ [])
tells_append id m [] i = absurd i
tells_append id m (x ∷ xs) (inl e) = inl e
tells_append id m (x ∷ xs) (inr i) = inr (tells_append id m xs i)

tells_last : (id : ℕ) (xs : List Message) → TellsOf id (xs ++ lanes.Watch id ∷ [])
tells_last id [] = inl refl
tells_last id (x ∷ xs) = inr (tells_last id xs)

posted_old : (id : ℕ) (ms : List Message) (o : Option Message) → TellsOf id ms → TellsOf id (with_posted ms o)
posted_old id ms None i = i
posted_old id ms (Some m) i = tells_append id m ms i

take_first : (id c d : ℕ) (m : Message) (ms xs : List Message) (o : Option Message) → d ≡ c → xs ≡ m ∷ ms → (m ≡ lanes.Watch id → ⊥) → TellsOf id xs → TellsOf id (inbox_after (d == c) xs o)
take_first id c d m ms xs o e f n i = by_self (d == c) (subst (λ z. (d == z) ≡ true) e (itself d))
  where
    rest : TellsOf id (m ∷ ms) → TellsOf id ms
    rest (inl k) = absurd (n k)
    rest (inr k) = k

    by_self : (b : Bool) → b ≡ true → TellsOf id (inbox_after b xs o)
    by_self true g = subst (λ z. TellsOf id (without_first z)) (sym f) (rest (subst (TellsOf id) f i))
    by_self false g = absurd (false≢true g)

pub watch_same : (i j : ℕ) → lanes.Watch i ≡ lanes.Watch j → j ≡ i
watch_same i j e = grind arith

-- what a client takes leaves what else its inbox tells
take_keeps : (p : Plan) (c id : ℕ) (h : List Entry) (o : Op) → client_in o ≡ Some c → IsDue p h o → ((j : ℕ) → o ≡ op.TakeWatch c j → id ≡ j → ⊥) → TellsOf id (inbox_of p c h) → TellsOf id (inbox_after (takes c o) (inbox_of p c h) (posted_in p c h o))
take_keeps p c id h (op.TakeDone d k t) q a n i = let s = same_Some d c q in take_first id c d (lanes.Done k t) a.0 (inbox_of p c h) None s (subst (λ z. inbox_of p z h ≡ lanes.Done k t ∷ a.0) s a.1) (λ x. grind arith) i
take_keeps p c id h (op.TakeEvicted d k t) q a n i = let s = same_Some d c q in take_first id c d (lanes.Evicted k t) a.0 (inbox_of p c h) None s (subst (λ z. inbox_of p z h ≡ lanes.Evicted k t ∷ a.0) s a.1) (λ x. grind arith) i
take_keeps p c id h (op.TakeRefused d k) q a n i = let s = same_Some d c q in take_first id c d (lanes.Kept k a.0) a.1 (inbox_of p c h) None s (subst (λ z. inbox_of p z h ≡ lanes.Kept k a.0 ∷ a.1) s a.2) (λ x. grind arith) i
take_keeps p c id h (op.TakeLost d k) q a n i = let s = same_Some d c q in take_first id c d (lanes.Kept k (Passed a.0)) a.1 (inbox_of p c h) None s (subst (λ z. inbox_of p z h ≡ lanes.Kept k (Passed a.0) ∷ a.1) s a.2) (λ x. grind arith) i
take_keeps p c id h (op.TakeWatch d j) q a n i = let s = same_Some d c q in take_first id c d (lanes.Watch j) a.0 (inbox_of p c h) None s (subst (λ z. inbox_of p z h ≡ lanes.Watch j ∷ a.0) s a.1) (λ x. n j (ap (λ z. op.TakeWatch z j) s) (watch_same j id x)) i
take_keeps p c id h (op.TakePing d g) q a n i = let s = same_Some d c q in take_first id c d (lanes.Ping g) a.0 (inbox_of p c h) None s (subst (λ z. inbox_of p z h ≡ lanes.Ping g ∷ a.0) s a.1) (λ x. grind arith) i
take_keeps p c id h (op.Reply m s k) q a n i = absurd (none-some c q)
take_keeps p c id h (op.Tell m s w) q a n i = absurd (none-some c q)
take_keeps p c id h (op.Ping m s) q a n i = absurd (none-some c q)
take_keeps p c id h o q a n i = i

client_announces : (c id : ℕ) (o : Op) → client_in o ≡ Some c → announces id o ≡ false
client_announces c id o q = grind arith

abbrev InboxTells : Plan → ℕ → ℕ → List Entry → Type 0
InboxTells p c id h = contains id (client_of p c h).held ≡ true → is_announced id h ≡ true → TellsOf id (inbox_of p c h)

own_inbox : (p : Plan) (c id : ℕ) (e : Entry) (h : List Entry) (y : Client Sent) → IsHistory p (e ∷ h) → client_in e.op ≡ Some c → HeldChange p c h e.op y → InboxTells p c id h → contains id y.held ≡ true → is_announced id (e ∷ h) ≡ true → TellsOf id (inbox_of p c (e ∷ h))
own_inbox p c id e h y l q x i f a = by_change x
  where
    before : is_announced id h ≡ true
    before = subst (λ b. (b || is_announced id h) ≡ true) (client_announces c id e.op q) a

    keeps : ((j : ℕ) → e.op ≡ op.TakeWatch c j → id ≡ j → ⊥) → contains id (client_of p c h).held ≡ true → TellsOf id (inbox_of p c (e ∷ h))
    keeps n g = take_keeps p c id h e.op q (due p e h l) n (i g before)

    same_take : (m j : ℕ) → op.TakeWatch c m ≡ op.TakeWatch c j → m ≡ j
    same_take m j z = grind arith

    no_take : (b d j : ℕ) → op.WatchSet c b d ≡ op.TakeWatch c j → ⊥
    no_take b d j k = grind arith

    by_change : HeldChange p c h e.op y → TellsOf id (inbox_of p c (e ∷ h))
    by_change (Left n u v) = keeps (λ j k w. n j k) (subst (λ z. contains id z ≡ true) u f)
    by_change (Emptied u v) = absurd (false≢true (subst (λ z. contains id z ≡ true) u f))
    by_change (Dropped j k u v) = let g = without_has id j (client_of p c h).held (subst (λ z. contains id z ≡ true) u f) in keeps (λ m n w. g.1 (w ∙ same_take m j (sym n ∙ k))) g.0
    by_change (Added b j k u v) = either (with_has id j (client_of p c h).held (subst (λ z. contains id z ≡ true) u f))
      where
        either : (contains id (client_of p c h).held ≡ true) ⊎ (id ≡ j) → TellsOf id (inbox_of p c (e ∷ h))
        either (inl g) = keeps (λ m n w. no_take b j m (sym k ∙ n)) g
        either (inr g) = let z = announced_has_fired p id h l.0 before in absurd (none-some z.0 (sym (registered_unfired p c b id e h l (k ∙ ap (λ m. op.WatchSet c b m) (sym g))) ∙ z.1))

not_its : (c d : ℕ) → (Some d ≡ Some c → ⊥) → (d == c) ≡ false
not_its c d n = by_eq (d == c) refl
  where
    by_eq : (b : Bool) → (d == c) ≡ b → b ≡ false
    by_eq true f = absurd (n (ap Some (eqb-true d c f)))
    by_eq false f = refl

pub takes_not : (c : ℕ) (o : Op) → (client_in o ≡ Some c → ⊥) → takes c o ≡ false
takes_not c (op.TakeDone d k t) n = not_its c d n
takes_not c (op.TakeEvicted d k t) n = not_its c d n
takes_not c (op.TakeRefused d k) n = not_its c d n
takes_not c (op.TakeLost d k) n = not_its c d n
takes_not c (op.TakeWatch d j) n = not_its c d n
takes_not c (op.TakePing d g) n = not_its c d n
takes_not c o n = refl

-- a watch that has fired is known as it fired
pub known_fired : (p : Plan) (id : ℕ) (h : List Entry) (w : Watch) (f : Firing) → IsHistory p h → known_watch p id h ≡ Some w → firing_of p id h ≡ Some f → f.watch ≡ w
known_fired p id h w f l k q = by_set (set_watch p id h) refl k
  where
    by_set : (o : Option Watch) → set_watch p id h ≡ o → or_else o (fired_watch (firing_of p id h)) ≡ Some w → f.watch ≡ w
    by_set (Some v) e g = absurd (none-some f (sym (set_unfired p id h v l e) ∙ q))
    by_set None e g = same_Some f.watch w (sym (ap fired_watch q) ∙ g)

-- a telling posts the message
told_posts : (p : Plan) (c id : ℕ) (h : List Entry) (o : Op) → IsHistory p h → IsDue p h o → contains id (client_of p c h).held ≡ true → announces id o ≡ true → posted_in p c h o ≡ Some (lanes.Watch id)
told_posts p c id h (op.Tell n s j) l d f a =
    let k = eqb-true j id a in
    let x = told_watch_is_of_its_client p n s j h l d in
    let y = held_watches_are_accounted_for p c id h l f in
    let w = known_fired p id h y.watch x.0 l y.known (subst (λ z. firing_of p z h ≡ Some x.0) k x.1) in
    let r : s ≡ c = sym x.2 ∙ (ap (λ z. z.session) w ∙ y.its_session) in
    subst (λ z. when (z == c) (lanes.Watch j) ≡ Some (lanes.Watch id)) (sym r) (rw (itself c) (ap (λ z. Some (lanes.Watch z)) k))
told_posts p c id h o l d f a = absurd (grind arith)

other_inbox : (p : Plan) (c id : ℕ) (e : Entry) (h : List Entry) → IsHistory p (e ∷ h) → (client_in e.op ≡ Some c → ⊥) → InboxTells p c id h → InboxTells p c id (e ∷ h)
other_inbox p c id e h l n i f a = subst (λ b. TellsOf id (inbox_after b (inbox_of p c h) (posted_in p c h e.op))) (sym (takes_not c e.op n)) (by_or (announces id e.op) (is_announced id h) a now (λ k. posted_old id (inbox_of p c h) (posted_in p c h e.op) (i held k)))
  where
    held : contains id (client_of p c h).held ≡ true
    held = either (held_back p c id e h l f)
      where
        either : (contains id (client_of p c h).held ≡ true) ⊎ ((k : ℕ) × (e.op ≡ op.WatchSet c k id)) → contains id (client_of p c h).held ≡ true
        either (inl g) = g
        either (inr g) = absurd (n (ap client_in g.1))

    now : announces id e.op ≡ true → TellsOf id (with_posted (inbox_of p c h) (posted_in p c h e.op))
    now k = subst (λ o. TellsOf id (with_posted (inbox_of p c h) o)) (sym (told_posts p c id h e.op l.0 (due p e h l) held k)) (tells_last id (inbox_of p c h))

inbox_step : (p : Plan) (c id : ℕ) (e : Entry) (h : List Entry) → IsHistory p (e ∷ h) → InboxTells p c id h → InboxTells p c id (e ∷ h)
inbox_step p c id e h l i f a = by_client (client_in e.op) refl
  where
    by_client : (o : Option ℕ) → client_in e.op ≡ o → TellsOf id (inbox_of p c (e ∷ h))
    by_client None q = other_inbox p c id e h l (λ k. none-some c (sym q ∙ k)) i f a
    by_client (Some s) q = by_self (s == c) refl
      where
        by_self : (b : Bool) → (s == c) ≡ b → TellsOf id (inbox_of p c (e ∷ h))
        by_self true g = let k = q ∙ ap Some (eqb-true s c g) in own_inbox p c id e h (acted_by (sight_of p c h) e.op (client_of p c h)) l k (held_change p c h e.op k) i (subst (λ x. contains id x.held ≡ true) (own_client p c e h k) f) a
        by_self false g = other_inbox p c id e h l (λ k. false≢true (sym g ∙ subst (λ z. (z == c) ≡ true) (same_Some c s (sym k ∙ q)) (itself c))) i f a

pub inbox_tells_of_announced_watches : InboxTellsOfAnnouncedWatches
inbox_tells_of_announced_watches p c id [] l f a = absurd (false≢true f)
inbox_tells_of_announced_watches p c id (e ∷ h) l f a = inbox_step p c id e h l (inbox_tells_of_announced_watches p c id h l.0) f a

-- Looks. -----------------------------------------------------------------------------------------------

first_none : (id : ℕ) (ids held : List ℕ) → contains id ids ≡ true → contains id held ≡ true → first_held ids held ≡ None → ⊥
first_none id [] held e f g = false≢true e
first_none id (x ∷ ids) held e f g = by_held (contains x held) refl g (λ k m. first_none id ids held k f m)
  where
    by_held : (b : Bool) → contains x held ≡ b → (if b then Some x else first_held ids held) ≡ None → (contains id ids ≡ true → first_held ids held ≡ None → ⊥) → ⊥
    by_held true k m n = none-some x (sym m)
    by_held false k m n = by_or (x == id) (contains id ids) e (λ z. false≢true (sym k ∙ subst (λ y. contains y held ≡ true) (sym (eqb-true x id z)) f)) (λ z. n z m)

none_told : (id : ℕ) (ms : List Message) → ms ≡ [] → TellsOf id ms → ⊥
none_told id [] e i = i
none_told id (m ∷ ms) e i = grind arith

pub look_passes_no_held_watch : LookPassesNoHeldWatch
look_passes_no_held_watch p c i mark id e h f l q g k = by_mark (nat_le f.tx (mark_of h)) refl
  where
    a : OperationSays p c h (op.LookOk c i mark)
    a = subst (OperationSays p c h) q (client_operations_say p c e h l (ap client_in q))

    by_told : (b : Bool) → is_told f.tx h ≡ b → f.tx ≤ mark_of h → ⊥
    by_told true t m = none_told id (inbox_of p c h) a.0.first.inbox (inbox_tells_of_announced_watches p c id h l.0 g (told_push_is_announced p id h f l.0 k t))
    by_told false t m = first_none id (published_epoch p h) (client_of p c h).held (untold_fired_watch_is_in_the_epoch p id h f l.0 k t m) g a.3

    by_mark : (b : Bool) → nat_le f.tx (mark_of h) ≡ b → mark_of h < f.tx
    by_mark true m = absurd (by_told (is_told f.tx h) refl (leb-true f.tx (mark_of h) m))
    by_mark false m = leb-false f.tx (mark_of h) m

-- Waiting reads. ---------------------------------------------------------------------------------------

sweep_beyond : (p : Plan) (t : ℕ) (h : List Entry) (o : Op) → IsDue p h o → sweeps t o ≡ true → swept_of h < t
sweep_beyond p t h o d e = grind (arith, nat_tests)

-- a firing is old, or beyond the mark
pub fired_before : (p : Plan) (id : ℕ) (e : Entry) (h : List Entry) (f : Firing) → IsHistory p (e ∷ h) → firing_of p id (e ∷ h) ≡ Some f → (firing_of p id h ≡ Some f) ⊎ (mark_of h < f.tx)
fired_before p id e h f l q = by_old (firing_of p id h) refl
  where
    by_old : (o : Option Firing) → firing_of p id h ≡ o → (firing_of p id h ≡ Some f) ⊎ (mark_of h < f.tx)
    by_old None g = inr (let a = sweep_beyond p f.tx h e.op (due p e h l) (newly_fired p id h f e.op l.0 g q) in let m = (mark_behind_sweep p h l.0).0 in omega (arith, a, m))
    by_old (Some x) g = inl (g ∙ (sym (firing_never_changes p id h (e ∷ []) x l g) ∙ q))

abbrev CleanAt : Plan → ℕ → List Entry → ℕ → ℕ → Reading → Type 0
CleanAt p c h seen begun r = r.looked ≡ true → (id : ℕ) (f : Firing) → contains id (client_of p c h).held ≡ true → firing_of p id h ≡ Some f → number_read seen r < f.tx

pub read_number : (p : Plan) (c : ℕ) (h : List Entry) (r : Reading) → ReadsAreReads p → IsHistory p h → (client_of p c h).reading ≡ Some r → ((client_of p c h).sent ≡ []) × (r.looked ≡ true → number_read (seen_by c h) r ≤ mark_of h)
read_number p c h r v l q = subst (ReadSo (client_of p c h).sent (seen_by c h) (mark_of h)) q (reads_so p c h v l)

clean_old : (p : Plan) (c : ℕ) (e : Entry) (h : List Entry) (r : Reading) → ReadsAreReads p → IsHistory p (e ∷ h) → (client_of p c h).reading ≡ Some r → CleanAt p c h (seen_by c h) (client_of p c h).begun r → CleanAt p c (e ∷ h) (seen_by c h) (client_of p c h).begun r
clean_old p c e h r v l q i b id f g k = either (fired_before p id e h f l k)
  where
    held : firing_of p id h ≡ Some f → (contains id (client_of p c h).held ≡ true) ⊎ ((j : ℕ) × (e.op ≡ op.WatchSet c j id)) → number_read (seen_by c h) r < f.tx
    held x (inl y) = i b id f y x
    held x (inr y) = absurd (none-some f (sym (registered_unfired p c y.0 id e h l y.1) ∙ x))

    either : (firing_of p id h ≡ Some f) ⊎ (mark_of h < f.tx) → number_read (seen_by c h) r < f.tx
    either (inl x) = held x (held_back p c id e h l g)
    either (inr x) = let m = (read_number p c h r v l.0 q).1 b in omega (arith, x, m)

clean_look : (p : Plan) (c i m : ℕ) (e : Entry) (h : List Entry) (r : Reading) → ReadsAreReads p → IsHistory p (e ∷ h) → e.op ≡ op.LookOk c i m → (client_of p c h).reading ≡ Some r → CleanAt p c (e ∷ h) (seen_by c h) (client_of p c h).begun (record r { looked = true })
clean_look p c i m e h r v l q s b id f g k = either (fired_before p id e h f l k)
  where
    a : OperationSays p c h (op.LookOk c i m)
    a = subst (OperationSays p c h) q (client_operations_say p c e h l (ap client_in q))

    low : number_read (seen_by c h) r ≤ mark_of h
    low = subst (λ z. z ≤ mark_of h) (sym (read_sought p c i a.0.number h r (read_number p c h r v l.0 s).0 (subst (λ z. target_of by_result (seen_by c h) (client_of p c h) z ≡ Some (record { command = i; number = a.0.number })) s a.0.target))) a.2

    held : firing_of p id h ≡ Some f → (contains id (client_of p c h).held ≡ true) ⊎ ((j : ℕ) × (e.op ≡ op.WatchSet c j id)) → number_read (seen_by c h) r < f.tx
    held x (inl y) = let z = look_passes_no_held_watch p c i m id e h f l q y x in omega (arith, z, low)
    held x (inr y) = absurd (none-some f (sym (registered_unfired p c y.0 id e h l y.1) ∙ x))

    either : (firing_of p id h ≡ Some f) ⊎ (mark_of h < f.tx) → number_read (seen_by c h) r < f.tx
    either (inl x) = held x (held_back p c id e h l g)
    either (inr x) = omega (arith, x, low)

clean_at : (p : Plan) (c : ℕ) (h : List Entry) (r : Reading) → ReadsAreReads p → IsHistory p h → (client_of p c h).reading ≡ Some r → CleanAt p c h (seen_by c h) (client_of p c h).begun r
clean_at p c [] r v l q = absurd (none-some r q)
clean_at p c (e ∷ h) r v l q =
    reading_after p c e h (λ seen begun x. CleanAt p c (e ∷ h) seen begun x) v l
    (λ x f. clean_old p c e h x v l f (clean_at p c h x v l.0 f))
    (λ i m x f s _. clean_look p c i m e h x v l f s)
    (λ i s f b. absurd (false≢true b))
    r q

pub waiting_read_is_clean : WaitingReadIsClean
waiting_read_is_clean p c id h r f v l q b g k = clean_at p c h r v l q b id f g k
