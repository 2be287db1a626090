-- An inbox tells of held watches in the order of the pushes that fired them.
use Rattle.std.specs.Prelude.{◌==◌}
use Rattle.std.proofs.Common.{◌≡◌, ℕ, ◌<◌, ◌≤◌, ◌++◌, ◌⊎◌, inl, inr, if◌then◌else◌, Bool, true, false, List, [], ◌∷◌, refl, sym, ◌∙◌, ap, subst, arith, Option, Some, None, append-nil, append_assoc}
use Rattle.std.proofs.lemmas.Bool.{false≢true, eqb-true}
use Rattle.std.proofs.lemmas.Bool.Decides.{nat_tests}
use Rattle.std.proofs.lemmas.Option.{same_Some, none-some}
use Rattle.fk_print.specs.declared.entry.Entry.{Entry}
use Rattle.fk_print.specs.declared.op.Op.{Op}
use Rattle.fk_print.specs.declared.op.Op.TheVariants as op
use Rattle.fk_spec.specs.Plan.{Plan}
use Rattle.fk_spec.specs.Settling.{Passed, mark_of, Outcome, outcome_of}
use Rattle.fk_spec.specs.Lanes as lanes
use Rattle.fk_spec.specs.Lanes.{Message, inbox_after, inbox_of, posted_in, reply_message, takes, with_posted, without_first, is_evict}
use Rattle.fk_spec.specs.Sight.{sight_of}
use Rattle.fk_spec.specs.Watches.{Firing, firing_of}
use Rattle.fk_spec.specs.Client.{acted_by, client_in, client_of, contains}
use Rattle.fk_spec.specs.Next.{IsHistory}
use Rattle.fk_law.specs.Due.{IsDue}
use Rattle.fk_law.proofs.Due.{due}
use Rattle.fk_law_watch.specs.Telling.{announces, is_announced}
use Rattle.fk_law_watch.proofs.SetWatches.{by_or, firing_never_changes}
use Rattle.fk_law_watch.proofs.Telling.{announced_has_fired, announced_in_number_order}
use Rattle.fk_law_client.specs.Inboxes.{AreTrueMessages, IsTrueMessage}
use Rattle.fk_law_client.proofs.Messages.{inbox_messages}
use Rattle.fk_law_held.specs.Announced.{TellsOf}
use Rattle.fk_law_held.specs.Notices.{AreInOrder, InboxIsInOrder, StandsBehind}
use Rattle.fk_law_held.proofs.Announcing.{fired_before, held_back, inbox_tells_of_announced_watches, registered_unfired, takes_not, watch_same}
use Rattle.fk_law_client.proofs.Kept.{own_client}
use Rattle.fk_law_held.proofs.Changing.{without_has}
use Rattle.fk_spec.specs.Start.{Task, Follows, Leads, Notifies, Probes, task_of, request_of}
use Rattle.fk_law_tree.proofs.Members.{or_left}
use Rattle.fk_base.proofs.Logic.{itself}

-- More entries. ----------------------------------------------------------------------------------------

-- each of these numbers was one of those, or is registered now
abbrev Were : Plan → ℕ → Entry → List Entry → List ℕ → List ℕ → Type 0
Were p c e h more held = (i : ℕ) → contains i more ≡ true → (contains i held ≡ true) ⊎ ((k : ℕ) × (e.op ≡ op.WatchSet c k i))

behind_later : (p : Plan) (c : ℕ) (e : Entry) (h : List Entry) (held more : List ℕ) (before : List Message) (m : Message) → IsHistory p (e ∷ h) → Were p c e h more held → IsTrueMessage p c h m → StandsBehind p h held before m → StandsBehind p (e ∷ h) more before m
behind_later p c e h held more before (lanes.Watch j) l w t s = λ i f g a q r b. by_old i f g (w i a) (fired_before p i e h f l q) (old_firing g r) b
  where
    x : (y : Firing) × (firing_of p j h ≡ Some y) × (y.tx ≤ mark_of h)
    x = announced_has_fired p j h l.0 t

    old_firing : (g : Firing) → firing_of p j (e ∷ h) ≡ Some g → (firing_of p j h ≡ Some g) × (g.tx ≤ mark_of h)
    old_firing g r = let s = same_Some x.0 g (sym (firing_never_changes p j h (e ∷ []) x.0 l x.1) ∙ r) in (x.1 ∙ ap Some s, subst (λ z. z.tx ≤ mark_of h) s x.2)

    by_old : (i : ℕ) (f g : Firing) → (contains i held ≡ true) ⊎ ((k : ℕ) × (e.op ≡ op.WatchSet c k i)) → (firing_of p i h ≡ Some f) ⊎ (mark_of h < f.tx) → (firing_of p j h ≡ Some g) × (g.tx ≤ mark_of h) → f.tx < g.tx → TellsOf i before
    by_old i f g (inl a) (inl q) r b = s i f g a q r.0 b
    by_old i f g (inr a) (inl q) r b = absurd (none-some f (sym (registered_unfired p c a.0 i e h l a.1) ∙ q))
    by_old i f g a (inr q) r b = let k = r.1 in absurd (omega (arith, q, b, k))
behind_later p c e h held more before (lanes.Done k t) l w i s = tt
behind_later p c e h held more before (lanes.Evicted k t) l w i s = tt
behind_later p c e h held more before (lanes.Kept k o) l w i s = tt
behind_later p c e h held more before (lanes.Ping n) l w i s = tt

order_later : (p : Plan) (c : ℕ) (e : Entry) (h : List Entry) (held more : List ℕ) (before ms : List Message) → IsHistory p (e ∷ h) → Were p c e h more held → AreTrueMessages p c h ms → AreInOrder p h held before ms → AreInOrder p (e ∷ h) more before ms
order_later p c e h held more before [] l w t s = tt
order_later p c e h held more before (m ∷ ms) l w t s = (behind_later p c e h held more before m l w t.0 s.0, order_later p c e h held more (before ++ m ∷ []) ms l w t.1 s.1)

-- A message is taken. ----------------------------------------------------------------------------------

-- the first message tells of none of these watches
abbrev TellsNoneOf : List ℕ → Message → Type 0
TellsNoneOf held m = (i : ℕ) → contains i held ≡ true → m ≡ lanes.Watch i → ⊥

behind_dropped : (p : Plan) (h : List Entry) (held : List ℕ) (first : Message) (before : List Message) (m : Message) → TellsNoneOf held first → StandsBehind p h held (first ∷ before) m → StandsBehind p h held before m
behind_dropped p h held first before (lanes.Watch j) n s = λ i f g a q r b. rest i a (s i f g a q r b)
  where
    rest : (i : ℕ) → contains i held ≡ true → TellsOf i (first ∷ before) → TellsOf i before
    rest i a (inl e) = absurd (n i a e)
    rest i a (inr e) = e
behind_dropped p h held first before (lanes.Done k t) n s = tt
behind_dropped p h held first before (lanes.Evicted k t) n s = tt
behind_dropped p h held first before (lanes.Kept k o) n s = tt
behind_dropped p h held first before (lanes.Ping g) n s = tt

order_dropped : (p : Plan) (h : List Entry) (held : List ℕ) (first : Message) (before ms : List Message) → TellsNoneOf held first → AreInOrder p h held (first ∷ before) ms → AreInOrder p h held before ms
order_dropped p h held first before [] n s = tt
order_dropped p h held first before (m ∷ ms) n s = (behind_dropped p h held first before m n s.0, order_dropped p h held first (before ++ m ∷ []) ms n s.1)

order_taken : (p : Plan) (h : List Entry) (held : List ℕ) (m : Message) (ms xs : List Message) → xs ≡ m ∷ ms → TellsNoneOf held m → AreInOrder p h held [] xs → AreInOrder p h held [] (without_first xs)
order_taken p h held m ms xs e n s = subst (λ z. AreInOrder p h held [] (without_first z)) (sym e) (order_dropped p h held m [] ms n (subst (AreInOrder p h held []) e s).1)

-- A message is posted. ---------------------------------------------------------------------------------

order_posted : (p : Plan) (h : List Entry) (held : List ℕ) (before ms : List Message) (m : Message) → StandsBehind p h held (before ++ ms) m → AreInOrder p h held before ms → AreInOrder p h held before (ms ++ m ∷ [])
order_posted p h held before [] m b s = (subst (λ z. StandsBehind p h held z m) (append-nil before) b, tt)
order_posted p h held before (x ∷ ms) m b s = (s.0, order_posted p h held (before ++ x ∷ []) ms m (subst (λ z. StandsBehind p h held z m) (sym (append_assoc before (x ∷ []) ms)) b) s.1)

posted_order : (p : Plan) (h : List Entry) (held : List ℕ) (ms : List Message) (o : Option Message) → ((m : Message) → o ≡ Some m → StandsBehind p h held ms m) → AreInOrder p h held [] ms → AreInOrder p h held [] (with_posted ms o)
posted_order p h held ms None b s = s
posted_order p h held ms (Some m) b s = order_posted p h held [] ms m (b m refl) s

-- Operations. ------------------------------------------------------------------------------------------

take_order : (p : Plan) (c d : ℕ) (k : List Entry) (held : List ℕ) (m : Message) (ms xs : List Message) (o : Option Message) → d ≡ c → xs ≡ m ∷ ms → TellsNoneOf held m → AreInOrder p k held [] xs → AreInOrder p k held [] (inbox_after (d == c) xs o)
take_order p c d k held m ms xs o e f n s = by_self (d == c) (subst (λ z. (d == z) ≡ true) e (itself d))
  where
    by_self : (b : Bool) → b ≡ true → AreInOrder p k held [] (inbox_after b xs o)
    by_self true g = order_taken p k held m ms xs f n s
    by_self false g = absurd (false≢true g)

-- who is told of a watch doesn't hold it any more
told_not_held : (p : Plan) (c i j : ℕ) (e : Entry) (h : List Entry) → e.op ≡ op.TakeWatch c j → contains i (client_of p c (e ∷ h)).held ≡ true → i ≡ j → ⊥
told_not_held p c i j e h q f = (without_has i j (client_of p c h).held (subst (λ o. contains i (acted_by (sight_of p c h) o (client_of p c h)).held ≡ true) q (subst (λ x. contains i x.held ≡ true) (own_client p c e h (ap client_in q)) f))).1

own_order : (p : Plan) (c : ℕ) (e : Entry) (h : List Entry) (o : Op) → e.op ≡ o → client_in o ≡ Some c → IsDue p h o → AreInOrder p (e ∷ h) (client_of p c (e ∷ h)).held [] (inbox_of p c h) → AreInOrder p (e ∷ h) (client_of p c (e ∷ h)).held [] (inbox_after (takes c o) (inbox_of p c h) (posted_in p c h o))
own_order p c e h (op.TakeDone d k t) f q a i = let s = same_Some d c q in take_order p c d (e ∷ h) (client_of p c (e ∷ h)).held (lanes.Done k t) a.0 (inbox_of p c h) None s (subst (λ z. inbox_of p z h ≡ lanes.Done k t ∷ a.0) s a.1) (λ j _ x. grind arith) i
own_order p c e h (op.TakeEvicted d k t) f q a i = let s = same_Some d c q in take_order p c d (e ∷ h) (client_of p c (e ∷ h)).held (lanes.Evicted k t) a.0 (inbox_of p c h) None s (subst (λ z. inbox_of p z h ≡ lanes.Evicted k t ∷ a.0) s a.1) (λ j _ x. grind arith) i
own_order p c e h (op.TakeRefused d k) f q a i = let s = same_Some d c q in take_order p c d (e ∷ h) (client_of p c (e ∷ h)).held (lanes.Kept k a.0) a.1 (inbox_of p c h) None s (subst (λ z. inbox_of p z h ≡ lanes.Kept k a.0 ∷ a.1) s a.2) (λ j _ x. grind arith) i
own_order p c e h (op.TakeLost d k) f q a i = let s = same_Some d c q in take_order p c d (e ∷ h) (client_of p c (e ∷ h)).held (lanes.Kept k (Passed a.0)) a.1 (inbox_of p c h) None s (subst (λ z. inbox_of p z h ≡ lanes.Kept k (Passed a.0) ∷ a.1) s a.2) (λ j _ x. grind arith) i
own_order p c e h (op.TakeWatch d w) f q a i = let s = same_Some d c q in take_order p c d (e ∷ h) (client_of p c (e ∷ h)).held (lanes.Watch w) a.0 (inbox_of p c h) None s (subst (λ z. inbox_of p z h ≡ lanes.Watch w ∷ a.0) s a.1) (λ j g x. told_not_held p c j w e h (f ∙ ap (λ z. op.TakeWatch z w) s) g (watch_same w j x)) i
own_order p c e h (op.TakePing d g) f q a i = let s = same_Some d c q in take_order p c d (e ∷ h) (client_of p c (e ∷ h)).held (lanes.Ping g) a.0 (inbox_of p c h) None s (subst (λ z. inbox_of p z h ≡ lanes.Ping g ∷ a.0) s a.1) (λ j _ x. grind arith) i
own_order p c e h (op.Reply m s k) f q a i = absurd (none-some c q)
own_order p c e h (op.Tell m s w) f q a i = absurd (none-some c q)
own_order p c e h (op.Ping m s) f q a i = absurd (none-some c q)
own_order p c e h o f q a i = i

reply_no_watch : (b : Bool) (k j : ℕ) (o : Option Outcome) (t : Option Task) → reply_message b k o t ≡ Some (lanes.Watch j) → ⊥
reply_no_watch true k j o (Some (Leads t)) e = grind arith
reply_no_watch false k j o (Some (Leads t)) e = grind arith
reply_no_watch b k j None (Some (Follows c n)) e = none-some (lanes.Watch j) e
reply_no_watch b k j (Some x) (Some (Follows c n)) e = grind arith
reply_no_watch b k j o (Some (Notifies n)) e = none-some (lanes.Watch j) e
reply_no_watch b k j o (Some (Probes c)) e = none-some (lanes.Watch j) e
reply_no_watch b k j o None e = none-some (lanes.Watch j) e

-- what posts a message of a watch announces it
posts_announces : (p : Plan) (c j : ℕ) (h : List Entry) (o : Op) → posted_in p c h o ≡ Some (lanes.Watch j) → announces j o ≡ true
posts_announces p c j h (op.Reply n s k) e = by_session (s == c) e
  where
    by_session : (b : Bool) → (if b then reply_message (is_evict (request_of p c k h)) k (outcome_of c k h) (task_of n h) else None) ≡ Some (lanes.Watch j) → announces j (op.Reply n s k) ≡ true
    by_session true f = absurd (reply_no_watch (is_evict (request_of p c k h)) k j (outcome_of c k h) (task_of n h) f)
    by_session false f = absurd (none-some (lanes.Watch j) f)
posts_announces p c j h (op.Tell n s w) e = grind (arith, nat_tests)
posts_announces p c j h (op.Ping n s) e = absurd (grind arith)
posts_announces p c j h o e = absurd (none-some (lanes.Watch j) e)

other_order : (p : Plan) (c : ℕ) (e : Entry) (h : List Entry) → IsHistory p (e ∷ h) → (client_in e.op ≡ Some c → ⊥) → AreInOrder p (e ∷ h) (client_of p c (e ∷ h)).held [] (inbox_of p c h) → AreInOrder p (e ∷ h) (client_of p c (e ∷ h)).held [] (inbox_of p c (e ∷ h))
other_order p c e h l n s = subst (λ b. AreInOrder p (e ∷ h) (client_of p c (e ∷ h)).held [] (inbox_after b (inbox_of p c h) (posted_in p c h e.op))) (sym (takes_not c e.op n)) (posted_order p (e ∷ h) (client_of p c (e ∷ h)).held (inbox_of p c h) (posted_in p c h e.op) behind s)
  where
    held : (i : ℕ) → contains i (client_of p c (e ∷ h)).held ≡ true → contains i (client_of p c h).held ≡ true
    held i f = either (held_back p c i e h l f)
      where
        either : (contains i (client_of p c h).held ≡ true) ⊎ ((k : ℕ) × (e.op ≡ op.WatchSet c k i)) → contains i (client_of p c h).held ≡ true
        either (inl g) = g
        either (inr g) = absurd (n (ap client_in g.1))

    one_announced : (i j : ℕ) (o : Op) → announces i o ≡ true → announces j o ≡ true → i ≡ j
    one_announced i j (op.Tell m d w) a b = sym (eqb-true w i a) ∙ eqb-true w j b
    one_announced i j o a b = absurd (grind arith)

    not_now : (i j : ℕ) (f g : Firing) → firing_of p i (e ∷ h) ≡ Some f → firing_of p j (e ∷ h) ≡ Some g → f.tx < g.tx → i ≡ j → ⊥
    not_now i j f g a b k z = let x : f ≡ g = same_Some f g (sym a ∙ (ap (λ m. firing_of p m (e ∷ h)) z ∙ b)) in let y = ap (λ m. m.tx) x in omega (arith, k, y)

    behind : (m : Message) → posted_in p c h e.op ≡ Some m → StandsBehind p (e ∷ h) (client_of p c (e ∷ h)).held (inbox_of p c h) m
    behind (lanes.Watch j) q = λ i f g a x y k.
        let w = posts_announces p c j h e.op q in
        let t = announced_in_number_order p i j (e ∷ h) f g l x y k (or_left (announces j e.op) (is_announced j h) w) in
        by_or (announces i e.op) (is_announced i h) t (λ u. absurd (not_now i j f g x y k (one_announced i j e.op u w))) (λ u. inbox_tells_of_announced_watches p c i h l.0 (held i a) u)
    behind (lanes.Done k t) q = tt
    behind (lanes.Evicted k t) q = tt
    behind (lanes.Kept k o) q = tt
    behind (lanes.Ping k) q = tt

pub inbox_is_in_order : InboxIsInOrder
inbox_is_in_order p c [] l = tt
inbox_is_in_order p c (e ∷ h) l = by_client (order_later p c e h (client_of p c h).held (client_of p c (e ∷ h)).held [] (inbox_of p c h) l (λ i f. held_back p c i e h l f) (inbox_messages p c h l.0) (inbox_is_in_order p c h l.0)) (client_in e.op) refl
  where
    by_client : AreInOrder p (e ∷ h) (client_of p c (e ∷ h)).held [] (inbox_of p c h) → (o : Option ℕ) → client_in e.op ≡ o → AreInOrder p (e ∷ h) (client_of p c (e ∷ h)).held [] (inbox_of p c (e ∷ h))
    by_client s None q = other_order p c e h l (λ k. none-some c (sym q ∙ k)) s
    by_client s (Some d) q = by_self (d == c) refl
      where
        by_self : (b : Bool) → (d == c) ≡ b → AreInOrder p (e ∷ h) (client_of p c (e ∷ h)).held [] (inbox_of p c (e ∷ h))
        by_self true g = own_order p c e h e.op refl (q ∙ ap Some (eqb-true d c g)) (due p e h l) s
        by_self false g = other_order p c e h l (λ k. false≢true (sym g ∙ subst (λ z. (z == c) ≡ true) (same_Some c d (sym k ∙ q)) (itself c))) s
