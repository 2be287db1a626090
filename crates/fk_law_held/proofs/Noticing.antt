-- Each notification fits its watch, and a client's are in the order of the transactions.
use Rattle.std.specs.Prelude.{◌==◌, nat_le, max}
use Rattle.std.proofs.Common.{◌≡◌, ℕ, ◌<◌, ◌≤◌, ◌⊎◌, inl, inr, if◌then◌else◌, Bool, true, false, List, [], ◌∷◌, refl, sym, ◌∙◌, ap, subst, arith, Option, Some, None}
use Rattle.std.proofs.lemmas.Bool.{false≢true, le-leb, leb-true, eqb-true, leb-false}
use Rattle.std.proofs.lemmas.Option.{same_Some, none-some}
use Rattle.fk_print.specs.declared.entry.Entry.{Entry}
use Rattle.fk_print.specs.declared.line.Line.{Line}
use Rattle.fk_print.specs.declared.line.Line.TheVariants as line
use Rattle.fk_print.specs.declared.op.Op.{Op}
use Rattle.fk_print.specs.declared.op.Op.TheVariants as op
use Rattle.fk_spec.specs.Plan.{Plan}
use Rattle.fk_spec.specs.Settling.{mark_of}
use Rattle.fk_spec.specs.Lanes as lanes
use Rattle.fk_spec.specs.Lanes.{inbox_of}
use Rattle.fk_spec.specs.Sight.{sight_of}
use Rattle.fk_spec.specs.Watches.{Firing, firing_of}
use Rattle.fk_spec.specs.Client.{by_result, client_in, client_of, contains, ready_first, Sent}
use Rattle.fk_spec.specs.Replies.{notice_of, own_lines, reply_line, reply_lines, wording}
use Rattle.fk_spec.specs.Holding.{held_at, held_by}
use Rattle.fk_spec.specs.PublicLines.{last_notice, lines_of, lines_onto, notice_in, txs_of}
use Rattle.fk_spec.specs.Promises.{FiresAs, NoticeFits}
use Rattle.fk_spec.specs.Next.{IsHistory}
use Rattle.fk_law.specs.Due.{IsDue}
use Rattle.fk_law.proofs.Due.{due}
use Rattle.fk_law.proofs.Growing.{numbers_never_fall}
use Rattle.fk_law_watch.proofs.Reading.{next_is}
use Rattle.fk_law_watch.proofs.Telling.{announced_has_fired}
use Rattle.fk_law_client.specs.Lines.{EachAfter, IsNotice, IsPublication, LineIsAfter, kept_after}
use Rattle.fk_law_client.proofs.Lines.{client_lines_are, each_mapped, each_onto, other_lines_are}
use Rattle.fk_law_client.proofs.Messages.{inbox_messages}
use Rattle.fk_law_client.proofs.Tracking.{first_true}
use Rattle.fk_law_reply.specs.Plans.{HasFittingVerbs}
use Rattle.fk_law_held.specs.Notices.{AreInOrder, HeldAreBehindNotices, NotificationsFitTheWatches, StandsBehind}
use Rattle.fk_law_held.proofs.Announcing.{fired_before, held_back, known_fired, registered_unfired}
use Rattle.fk_law_held.proofs.Firings.{firing_stands_in_the_lines}
use Rattle.fk_law_held.proofs.Following.{held_by_lines_is_held}
use Rattle.fk_law_held.proofs.Holding.{held_watches_are_accounted_for}
use Rattle.fk_law_held.proofs.Ordering.{inbox_is_in_order}
use Rattle.fk_law_held.proofs.Passing.{each_append}
use Rattle.fk_tree.specs.declared.change.Kind.{Kind}
use Rattle.fk_tree.specs.declared.change.Change.{Change}
use Rattle.fk_base.specs.Path.{PathNames}
use Rattle.fk_law.proofs.Printing.{lines_are}
use Rattle.fk_law_client.proofs.Seen.{max_up}

-- The watch that is told now. --------------------------------------------------------------------------

-- a watch that its client is told of fired up to the mark
told_low : (p : Plan) (c j : ℕ) (e : Entry) (h : List Entry) (g : Firing) → IsHistory p (e ∷ h) → e.op ≡ op.TakeWatch c j → firing_of p j h ≡ Some g → g.tx ≤ mark_of h
told_low p c j e h g l q r =
    let d : IsDue p h (op.TakeWatch c j) = subst (IsDue p h) q (due p e h l) in
    let a = announced_has_fired p j h l.0 (first_true p c h (inbox_of p c h) d.0 (lanes.Watch j) d.1 (inbox_messages p c h l.0)) in
    subst (λ z. z.tx ≤ mark_of h) (same_Some a.0 g (sym a.1 ∙ r)) a.2

no_set : (c b i j : ℕ) → op.TakeWatch c j ≡ op.WatchSet c b i → ⊥
no_set c b i j e = grind arith

-- each watch that is still held and has fired did so at its push or beyond
told_first : (p : Plan) (c i j : ℕ) (e : Entry) (h : List Entry) (f g : Firing) → IsHistory p (e ∷ h) → e.op ≡ op.TakeWatch c j → firing_of p j h ≡ Some g → contains i (client_of p c (e ∷ h)).held ≡ true → firing_of p i (e ∷ h) ≡ Some f → g.tx ≤ f.tx
told_first p c i j e h f g l q r a k = either (fired_before p i e h f l k)
  where
    d : IsDue p h (op.TakeWatch c j)
    d = subst (IsDue p h) q (due p e h l)

    first : StandsBehind p h (client_of p c h).held [] (lanes.Watch j)
    first = (subst (AreInOrder p h (client_of p c h).held []) d.1 (inbox_is_in_order p c h l.0)).0

    held : (contains i (client_of p c h).held ≡ true) ⊎ ((b : ℕ) × (e.op ≡ op.WatchSet c b i)) → contains i (client_of p c h).held ≡ true
    held (inl x) = x
    held (inr x) = absurd (no_set c x.0 i j (sym q ∙ x.1))

    old : firing_of p i h ≡ Some f → (b : Bool) → nat_le g.tx f.tx ≡ b → g.tx ≤ f.tx
    old x true y = leb-true g.tx f.tx y
    old x false y = absurd (first i f g (held (held_back p c i e h l a)) x r (leb-false g.tx f.tx y))

    either : (firing_of p i h ≡ Some f) ⊎ (mark_of h < f.tx) → g.tx ≤ f.tx
    either (inl x) = old x (nat_le g.tx f.tx) refl
    either (inr x) = let m = told_low p c j e h g l q r in omega (arith, x, m)

-- The last notification. -------------------------------------------------------------------------------

-- this number is at most the mark, and each held watch that has fired did so there or beyond
abbrev Bound : Plan → ℕ → List Entry → ℕ → Type 0
Bound p c h n = (n ≤ mark_of h) × ((id : ℕ) (f : Firing) → contains id (client_of p c h).held ≡ true → firing_of p id h ≡ Some f → n ≤ f.tx)

bound_later : (p : Plan) (c n : ℕ) (e : Entry) (h : List Entry) → IsHistory p (e ∷ h) → Bound p c h n → Bound p c (e ∷ h) n
bound_later p c n e h l b = ((let g = (numbers_never_fall h (e ∷ [])).mark in let a = b.0 in omega (arith, g, a)), λ id f x y. by_held id f (held_back p c id e h l x) (fired_before p id e h f l y))
  where
    by_held : (id : ℕ) (f : Firing) → (contains id (client_of p c h).held ≡ true) ⊎ ((k : ℕ) × (e.op ≡ op.WatchSet c k id)) → (firing_of p id h ≡ Some f) ⊎ (mark_of h < f.tx) → n ≤ f.tx
    by_held id f (inl x) (inl y) = b.1 id f x y
    by_held id f (inr x) (inl y) = absurd (none-some f (sym (registered_unfired p c x.0 id e h l x.1) ∙ y))
    by_held id f x (inr y) = let a = b.0 in omega (arith, a, y)

bound_max : (p : Plan) (c t n : ℕ) (h : List Entry) → Bound p c h t → Bound p c h n → Bound p c h (max t n)
bound_max p c t n h a b = (max_up t n (mark_of h) a.0 b.0, λ id f x y. max_up t n f.tx (a.1 id f x y) (b.1 id f x y))

notice_bound : (p : Plan) (c s t : ℕ) (e : Entry) (h : List Entry) (k : Kind) (x : Change) (q : PathNames) → s ≡ c → IsHistory p (e ∷ h) → IsNotice p s h e.op t k x q → Bound p c (e ∷ h) t
notice_bound p c s t e h k x q z l i =
    let w : e.op ≡ op.TakeWatch c i.watch = i.taken ∙ ap (λ y. op.TakeWatch y i.watch) z in
    subst (Bound p c (e ∷ h)) (sym i.its_tx) ((let g = (numbers_never_fall h (e ∷ [])).mark in let a = told_low p c i.watch e h i.firing l w i.fired in omega (arith, g, a)), λ id f a y. told_first p c id i.watch e h f i.firing l w i.fired a y)

line_bound : (p : Plan) (c s n : ℕ) (e : Entry) (h : List Entry) (l : Line) (b : List Line) → IsHistory p (e ∷ h) → LineIsAfter p s h e.op l b → Bound p c (e ∷ h) n → Bound p c (e ∷ h) (notice_in c l n)
line_bound p c s n e h (line.Notice d t k x q) b l i a = by_self (d == c) refl
  where
    by_self : (z : Bool) → (d == c) ≡ z → Bound p c (e ∷ h) (if z then max t n else n)
    by_self true y = bound_max p c t n (e ∷ h) (notice_bound p c s t e h k x q (sym i.0.0 ∙ eqb-true d c y) l i.0.1) a
    by_self false y = a
line_bound p c s n e h (line.Reply d i v sh) b l x a = a
line_bound p c s n e h (line.Expired d t) b l x a = a
line_bound p c s n e h (line.Tx x) b l y a = a

lines_bound : (p : Plan) (c s : ℕ) (e : Entry) (h : List Entry) (ls b : List Line) → IsHistory p (e ∷ h) → EachAfter (LineIsAfter p s h e.op) ls b → Bound p c (e ∷ h) (last_notice c b) → Bound p c (e ∷ h) (last_notice c (lines_onto ls b))
lines_bound p c s e h [] b l i a = a
lines_bound p c s e h (x ∷ ls) b l i a = lines_bound p c s e h ls (x ∷ b) l i.1 (line_bound p c s (last_notice c b) e h x b l i.0 a)

tx_same : (p : Plan) (c n : ℕ) (h : List Entry) (o : Op) (l : Line) → IsPublication p h o l → notice_in c l n ≡ n
tx_same p c n h o l x = subst (λ z. notice_in c z n ≡ n) (sym x.line_is) refl

txs_bound : (p : Plan) (c : ℕ) (k h : List Entry) (o : Op) (ls b : List Line) → EachAfter (λ x z. IsPublication p h o x) ls b → Bound p c k (last_notice c b) → Bound p c k (last_notice c (lines_onto ls b))
txs_bound p c k h o [] b i a = a
txs_bound p c k h o (x ∷ ls) b i a = txs_bound p c k h o ls (x ∷ b) i.1 (subst (Bound p c k) (sym (tx_same p c (last_notice c b) h o x i.0)) a)

bound_at : (p : Plan) (c : ℕ) (h : List Entry) → HasFittingVerbs p → IsHistory p h → Bound p c h (last_notice c (lines_of h))
bound_at p c [] v l = (omega arith, λ id f a y. absurd (false≢true a))
bound_at p c (e ∷ h) v l = by_client (bound_later p c (last_notice c (lines_of h)) e h l (bound_at p c h v l.0)) (client_in e.op) refl
  where
    by_client : Bound p c (e ∷ h) (last_notice c (lines_of h)) → (o : Option ℕ) → client_in e.op ≡ o → Bound p c (e ∷ h) (last_notice c (lines_of (e ∷ h)))
    by_client a None q = txs_bound p c (e ∷ h) h e.op e.lines (lines_of h) (other_lines_are p e h l q) a
    by_client a (Some s) q = lines_bound p c s e h e.lines (lines_of h) l (client_lines_are p s e h v.reads l q) a

pub held_are_behind_notices : HeldAreBehindNotices
held_are_behind_notices p c h v l = let b = bound_at p c h v l in record { published = b.0; behind = b.1 }

-- Notices. ---------------------------------------------------------------------------------------------

notice_fits : (p : Plan) (c j : ℕ) (e : Entry) (h : List Entry) (f : Firing) → HasFittingVerbs p → IsHistory p (e ∷ h) → e.op ≡ op.TakeWatch c j → contains j (client_of p c h).held ≡ true → firing_of p j h ≡ Some f → NoticeFits p (line.Notice c f.tx f.watch.kind f.change f.watch.path) (lines_of h)
notice_fits p c j e h f v l q a r = (subst (λ o. FiresAs o (txs_of h) (record { tx = f.tx; change = f.change })) (sym found) stands, le-leb (last_notice c (lines_of h)) f.tx ((held_are_behind_notices p c h v l.0).behind j f a r))
  where
    stands : FiresAs (Some (record { path = f.watch.path; kind = f.watch.kind; at = (held_watches_are_accounted_for p c j h l.0 a).first })) (txs_of h) (record { tx = f.tx; change = f.change })
    stands = firing_stands_in_the_lines p j (held_watches_are_accounted_for p c j h l.0 a).first h f v l.0 r (held_watches_are_accounted_for p c j h l.0 a).registered (told_low p c j e h f l q r)

    found : held_at f.watch.path f.watch.kind (held_by p c (lines_of h)) ≡ Some (record { path = f.watch.path; kind = f.watch.kind; at = (held_watches_are_accounted_for p c j h l.0 a).first })
    found =
        let y = held_watches_are_accounted_for p c j h l.0 a in
        let s = known_fired p j h y.watch f l.0 y.known r in
        (held_by_lines_is_held p c h v l.0).there j y.first f.watch a (y.known ∙ ap Some (sym s)) y.registered

replies_fit_so : (p : Plan) (c : ℕ) (h : List Entry) (ss : List Sent) (b : List Line) → EachAfter (NoticeFits p) (reply_lines (wording p c h) ss) b
replies_fit_so p c h [] b = tt
replies_fit_so p c h (s ∷ ss) b = (tt, replies_fit_so p c h ss (reply_line (wording p c h) s ∷ b))

told_fits : (p : Plan) (c j : ℕ) (e : Entry) (h : List Entry) (b : Bool) (o : Option Firing) → HasFittingVerbs p → IsHistory p (e ∷ h) → e.op ≡ op.TakeWatch c j → contains j (client_of p c h).held ≡ b → firing_of p j h ≡ o → EachAfter (NoticeFits p) (if b then notice_of c o else []) (lines_of h)
told_fits p c j e h false o v l q a r = tt
told_fits p c j e h true None v l q a r = tt
told_fits p c j e h true (Some f) v l q a r = (notice_fits p c j e h f v l q a r, tt)

take_fits : (p : Plan) (c j : ℕ) (e : Entry) (h : List Entry) → HasFittingVerbs p → IsHistory p (e ∷ h) → e.op ≡ op.TakeWatch c j → EachAfter (NoticeFits p) e.lines (lines_of h)
take_fits p c j e h v l q =
    subst (λ ls. EachAfter (NoticeFits p) ls (lines_of h)) (sym (lines_are p e h l ∙ next_is p h c e.op (ap client_in q)))
    (each_append (NoticeFits p) (own_lines (wording p c h) (sight_of p c h) (client_of p c h) e.op) (reply_lines (wording p c h) (ready_first by_result (kept_after p c h e.op))) (lines_of h)
    (subst (λ o. EachAfter (NoticeFits p) (own_lines (wording p c h) (sight_of p c h) (client_of p c h) o) (lines_of h)) (sym q) (told_fits p c j e h (contains j (client_of p c h).held) (firing_of p j h) v l q refl refl))
    (λ z. replies_fit_so p c h (ready_first by_result (kept_after p c h e.op)) z))

-- whether an operation takes the message of a watch
is_take : (o : Op) → ((c j : ℕ) × (o ≡ op.TakeWatch c j)) ⊎ ((c j : ℕ) → o ≡ op.TakeWatch c j → ⊥)
is_take (op.TakeWatch d j) = inl (d, j, refl)
is_take o = inr (λ c j e. grind arith)

other_fits : (p : Plan) (s : ℕ) (h : List Entry) (o : Op) → ((c j : ℕ) → o ≡ op.TakeWatch c j → ⊥) → (l : Line) (b : List Line) → LineIsAfter p s h o l b → NoticeFits p l b
other_fits p s h o n (line.Notice d t k _ q) b x = absurd (n s x.0.1.watch x.0.1.taken)
other_fits p s h o n (line.Reply d i v sh) b x = tt
other_fits p s h o n (line.Expired d t) b x = tt
other_fits p s h o n (line.Tx y) b x = tt

tx_fits : (p : Plan) (h : List Entry) (o : Op) (l : Line) (b : List Line) → IsPublication p h o l → NoticeFits p l b
tx_fits p h o l b x = subst (λ z. NoticeFits p z b) (sym x.line_is) tt

entry_fits : (p : Plan) (e : Entry) (h : List Entry) → HasFittingVerbs p → IsHistory p (e ∷ h) → EachAfter (NoticeFits p) e.lines (lines_of h)
entry_fits p e h v l = by_client (client_in e.op) refl
  where
    by_client : (o : Option ℕ) → client_in e.op ≡ o → EachAfter (NoticeFits p) e.lines (lines_of h)
    by_client None q = each_mapped (λ x b. IsPublication p h e.op x) (NoticeFits p) e.lines (lines_of h) (tx_fits p h e.op) (other_lines_are p e h l q)
    by_client (Some s) q = by_take (is_take e.op)
      where
        by_take : ((c j : ℕ) × (e.op ≡ op.TakeWatch c j)) ⊎ ((c j : ℕ) → e.op ≡ op.TakeWatch c j → ⊥) → EachAfter (NoticeFits p) e.lines (lines_of h)
        by_take (inl x) = take_fits p x.0 x.1 e h v l x.2
        by_take (inr n) = each_mapped (LineIsAfter p s h e.op) (NoticeFits p) e.lines (lines_of h) (other_fits p s h e.op n) (client_lines_are p s e h v.reads l q)

pub notifications_fit_the_watches : NotificationsFitTheWatches
notifications_fit_the_watches p [] v l = tt
notifications_fit_the_watches p (e ∷ h) v l = each_onto (NoticeFits p) e.lines (lines_of h) (notifications_fit_the_watches p h v l.0) (entry_fits p e h v l)
