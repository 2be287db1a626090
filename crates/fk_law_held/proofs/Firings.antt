-- How watches fire by the transaction lines.
use Rattle.std.specs.Prelude.{nat_lt, nat_le, nat_eq}
use Rattle.std.proofs.Common.{◌≡◌, ℕ, zero, suc, ◌<◌, ◌≤◌, ◌++◌, if◌then◌else◌, Bool, true, false, List, [], ◌∷◌, refl, sym, ◌∙◌, ap, subst, arith, Option, Some, None, ◌≢◌}
use Rattle.std.proofs.lemmas.Bool.Decides.{nat_tests}
use Rattle.std.proofs.lemmas.Option.{same_Some, none-some}
use Rattle.std.proofs.lemmas.Bool.{leb-true, leb-false}
use Rattle.fk_tree.specs.Fill.{after_part, fill_made, fill_parts}
use Rattle.fk_tree.specs.Touch.{once, parts_touches, set_touches, touches, touches_of, with_parent_touched}
use Rattle.fk_tree.specs.declared.change.Change.TheVariants as change
use Rattle.fk_tree.specs.View.{View}
use Rattle.fk_tree.specs.Watch.{first_taken}
use Rattle.fk_tree.specs.declared.applied.Applied.{Applied}
use Rattle.fk_tree.specs.declared.change.Change.{Change}
use Rattle.fk_tree.specs.declared.request.Part.{Part}
use Rattle.fk_tree.specs.declared.request.Part.TheVariants as part
use Rattle.fk_tree.specs.declared.request.Request.{Request}
use Rattle.fk_tree.specs.declared.request.Request.TheVariants as request
use Rattle.fk_print.specs.declared.entry.Entry.{Entry}
use Rattle.fk_spec.specs.Plan.{Plan}
use Rattle.fk_spec.specs.Start.{or_else}
use Rattle.fk_spec.specs.Settling.{is_committed, mark_of}
use Rattle.fk_spec.specs.Stored.{committed_as, committed_of, up_to}
use Rattle.fk_tree.specs.Edit.{view_after}
use Rattle.fk_spec.specs.Watches.{Firing, firing_of, touches_from, touches_of_push}
use Rattle.fk_spec.specs.Client.{client_of}
use Rattle.fk_spec.specs.Holding.{Fired, Holding, fired_in, fired_with, firing_among}
use Rattle.fk_spec.specs.Published.{applied_shown, gone_shown, made_shown, name_shown, parts_made, request_shown}
use Rattle.fk_spec.specs.Next.{IsHistory, act_by, printed_of}
use Rattle.fk_law.specs.LeaderLane.{is_swept}
use Rattle.fk_law.specs.Numbered.{numbered, with_some}
use Rattle.fk_law.specs.Publishing.{all_printed}
use Rattle.fk_law.proofs.Closes.{commit_fits_at_its_number}
use Rattle.fk_law.proofs.Leading.{mark_behind_sweep, swept_up_to_the_sweep}
use Rattle.fk_law.proofs.Printing.{txs_are_the_commits}
use Rattle.fk_law.proofs.Sending.{tx_is, was_committed, committed_is_filled}
use Rattle.fk_law_watch.specs.SetWatches.{taken_of, first_of}
use Rattle.fk_law_watch.proofs.SetWatches.{fired_watch_fired_at_its_first_change, set_watch_saw_no_change, or_stays}
use Rattle.fk_law_held.specs.Firings.{FiredByLinesHasFired, FiringStandsInTheLines}
use Rattle.fk_law_held.specs.Matching.{IsOfHeld}
use Rattle.fk_law_held.proofs.Announcing.{known_fired}
use Rattle.fk_law_held.proofs.Differing.{unfired_set}
use Rattle.fk_law_held.proofs.Following.{held_by_lines_is_held}
use Rattle.fk_law_watch.proofs.FirstNumbers.{fires_beyond_its_first}
use Rattle.fk_law_watch.proofs.Sweeps.{swept_committed}
use Rattle.fk_law_reply.specs.Plans.{HasFittingVerbs}
use Rattle.fk_law_watch.proofs.Noting.{stands_swept}

-- What a line touches. ---------------------------------------------------------------------------------

parts_touch : (v : View) (s : ℕ) (ps : List Part) → parts_touches ps (parts_made ps) ≡ parts_touches ps (fill_parts v s ps)
parts_touch v s [] = refl
parts_touch v s (part.Create p bytes eph ∷ ps) = ap (λ ts. with_parent_touched p change.Created ++ ts) (parts_touch (after_part v s (part.Create p bytes eph)) s ps)
parts_touch v s (part.Set p bytes version ∷ ps) = ap (λ ts. set_touches p ++ ts) (parts_touch (after_part v s (part.Set p bytes version)) s ps)
parts_touch v s (part.Delete p version ∷ ps) = ap (λ ts. with_parent_touched p change.Deleted ++ ts) (parts_touch (after_part v s (part.Delete p version)) s ps)

request_touch : (a : Applied) (v : View) (r : Request) → a.made ≡ fill_made v a.session r
    → touches_of (record { tx = a.tx; moment = a.moment; session = a.session; k = a.k; request = request_shown (act_by a r); name = name_shown (act_by a r); version = 0; gone = gone_shown (act_by a r); made = made_shown (act_by a r) }) (request_shown (act_by a r)) ≡ touches_of a r
request_touch a v (request.Create p bytes seq eph) m = refl
request_touch a v (request.Set p bytes version) m = refl
request_touch a v (request.Delete p version) m = refl
request_touch a v (request.Close evict) m = refl
request_touch a v (request.Multi ps) m = parts_touch v a.session ps ∙ ap (parts_touches ps) (sym m)

-- a transaction line touches what its push touched
line_touches : (p : Plan) (m : ℕ) (h : List Entry) (a : Applied) → IsHistory p h → committed_as p (suc m) h ≡ Some a → touches (applied_shown (printed_of a)) ≡ touches_of_push p (suc m) h
line_touches p m h a l q = ap once (request_touch a (view_after (up_to m (committed_of p h))) a.request (commit_fits_at_its_number p m (suc m) h a l q (omega arith)).made) ∙ ap touches_from (sym q)

line_fires : (p : Plan) (m : ℕ) (h : List Entry) (a : Applied) (w : Holding) → IsHistory p h → committed_as p (suc m) h ≡ Some a → fired_in w (printed_of a) ≡ (if nat_lt w.at (suc m) then fired_with (suc m) (first_taken w.path w.kind (touches_of_push p (suc m) h)) else None)
line_fires p m h a w l q = ap (λ t. if nat_lt w.at t then fired_with t (first_taken w.path w.kind (touches (applied_shown (printed_of a)))) else None) (tx_is (suc m) (committed_of p h) a q) ∙ ap (λ ts. if nat_lt w.at (suc m) then fired_with (suc m) (first_taken w.path w.kind ts) else None) (line_touches p m h a l q)

-- What fired by the lines. -----------------------------------------------------------------------------

-- a committed push up to m, beyond the holding's number, touches it so
record IsFiring (p : Plan) (h : List Entry) (w : Holding) (m : ℕ) (g : Fired) : Type 0 where
  pub low : g.tx ≤ m
  pub committed : is_committed g.tx h ≡ true
  pub beyond : w.at < g.tx
  pub shows : first_taken w.path w.kind (touches_of_push p g.tx h) ≡ Some g.change

firing_more : (p : Plan) (h : List Entry) (w : Holding) (m : ℕ) (g : Fired) → IsFiring p h w m g → IsFiring p h w (suc m) g
firing_more p h w m g x = record { low = (let b = x.low in omega (arith, b)); committed = x.committed; beyond = x.beyond; shows = x.shows }

firing_here : (p : Plan) (h : List Entry) (w : Holding) (m : ℕ) (g : Fired) (b : Bool) (o : Option Change) → is_committed (suc m) h ≡ true → nat_lt w.at (suc m) ≡ b → first_taken w.path w.kind (touches_of_push p (suc m) h) ≡ o → (if b then fired_with (suc m) o else None) ≡ Some g → IsFiring p h w (suc m) g
firing_here p h w m g false o c e f q = absurd (none-some g q)
firing_here p h w m g true None c e f q = absurd (none-some g q)
firing_here p h w m g true (Some x) c e f q = subst (IsFiring p h w (suc m)) (same_Some (record { tx = suc m; change = x }) g q) (record { low = omega arith; committed = c; beyond = grind (arith, nat_tests); shows = f })

found_step : (p : Plan) (h : List Entry) (w : Holding) (m : ℕ) (g : Fired) (x : Option Applied) → IsHistory p h → committed_as p (suc m) h ≡ x → (firing_among w (all_printed (numbered m (committed_of p h))) ≡ Some g → IsFiring p h w m g) → firing_among w (all_printed (with_some x (numbered m (committed_of p h)))) ≡ Some g → IsFiring p h w (suc m) g
found_step p h w m g None l q i f = firing_more p h w m g (i f)
found_step p h w m g (Some a) l q i f = by_rest (firing_among w (all_printed (numbered m (committed_of p h)))) refl f
  where
    by_rest : (o : Option Fired) → firing_among w (all_printed (numbered m (committed_of p h))) ≡ o → or_else o (fired_in w (printed_of a)) ≡ Some g → IsFiring p h w (suc m) g
    by_rest (Some y) e k = firing_more p h w m g (i (e ∙ k))
    by_rest None e k = firing_here p h w m g (nat_lt w.at (suc m)) (first_taken w.path w.kind (touches_of_push p (suc m) h)) (was_committed p (suc m) h a q) refl refl (sym (line_fires p m h a w l q) ∙ k)

found : (p : Plan) (h : List Entry) (w : Holding) (m : ℕ) (g : Fired) → IsHistory p h → firing_among w (all_printed (numbered m (committed_of p h))) ≡ Some g → IsFiring p h w m g
found p h w zero g l f = absurd (none-some g f)
found p h w (suc m) g l f = found_step p h w m g (committed_as p (suc m) h) l refl (found p h w m g l) f

-- the watch of a holding that fired by the lines has fired there or below
fired_low : (p : Plan) (h : List Entry) (held : List ℕ) (w : Holding) (g : Fired) (x : IsOfHeld p h held w) → IsHistory p h → IsFiring p h w (mark_of h) g → (f : Firing) × (firing_of p x.id h ≡ Some f) × (f.tx ≤ g.tx)
fired_low p h held w g x l y = by_firing (firing_of p x.id h) refl
  where
    swept : is_swept g.tx h ≡ true
    swept = swept_up_to_the_sweep p g.tx h l y.committed (let a = y.low in let b = (mark_behind_sweep p h l).0 in omega (arith, a, b))

    taken : taken_of p x.watch g.tx h ≡ Some g.change
    taken = ap (λ z. first_taken z x.watch.kind (touches_of_push p g.tx h)) x.its_path ∙ (ap (λ z. first_taken w.path z (touches_of_push p g.tx h)) x.its_kind ∙ y.shows)

    by_firing : (o : Option Firing) → firing_of p x.id h ≡ o → (f : Firing) × (firing_of p x.id h ≡ Some f) × (f.tx ≤ g.tx)
    by_firing None e =
        let s = set_watch_saw_no_change p x.id h x.watch l (unfired_set p x.id h x.watch x.known e) in
        let n = same_Some s.first w.at (sym s.registered ∙ x.first) in
        let b = y.beyond in
        absurd (none-some g.change (sym (s.none_since g.tx swept (omega (arith, n, b))) ∙ taken))
    by_firing (Some f) e = (f, e, by_order (nat_le f.tx g.tx) refl)
      where
        by_order : (c : Bool) → nat_le f.tx g.tx ≡ c → f.tx ≤ g.tx
        by_order true k = leb-true f.tx g.tx k
        by_order false k =
            let s = fired_watch_fired_at_its_first_change p x.id h f l e in
            let n = same_Some s.first w.at (sym s.registered ∙ x.first) in
            let b = y.beyond in
            let z : f.watch ≡ x.watch = known_fired p x.id h x.watch f l x.known e in
            absurd (none-some g.change (sym (s.none_before g.tx swept (omega (arith, n, b)) (leb-false f.tx g.tx k)) ∙ (ap (λ v. taken_of p v g.tx h) z ∙ taken)))

pub fired_by_lines_has_fired : FiredByLinesHasFired
fired_by_lines_has_fired p c h w g v l i q =
    let x = (held_by_lines_is_held p c h v l).back w i in
    let f = fired_low p h (client_of p c h).held w g x l (found p h w (mark_of h) g l (ap (firing_among w) (sym (txs_are_the_commits p h l)) ∙ q)) in
    record { id = x.id; holds = x.holds; firing = f.0; fired = f.1; before = f.2 }

-- A firing stands in the lines. ------------------------------------------------------------------------

-- the holding of a watch that fired so, whose first number is n
abbrev held_as : Firing → ℕ → Holding
held_as f n = record { path = f.watch.path; kind = f.watch.kind; at = n }

no_line : (p : Plan) (id n m : ℕ) (h : List Entry) (f : Firing) (a : Applied) → IsHistory p h → firing_of p id h ≡ Some f → first_of p id h ≡ Some n → f.tx ≤ mark_of h → committed_as p (suc m) h ≡ Some a → suc m < f.tx → fired_in (held_as f n) (printed_of a) ≡ None
no_line p id n m h f a l e g b q k = line_fires p m h a (held_as f n) l q ∙ by_number (nat_lt n (suc m)) refl
  where
    by_number : (c : Bool) → nat_lt n (suc m) ≡ c → (if c then fired_with (suc m) (first_taken f.watch.path f.watch.kind (touches_of_push p (suc m) h)) else None) ≡ None
    by_number false x = refl
    by_number true x =
        let s = fired_watch_fired_at_its_first_change p id h f l e in
        let i = same_Some s.first n (sym s.registered ∙ g) in
        let d : n < suc m = grind (arith, nat_tests) in
        ap (fired_with (suc m)) (s.none_before (suc m) (stands_swept p (suc m) h l (was_committed p (suc m) h a q) (omega (arith, b, k))) (omega (arith, i, d)) k)

none_step : (p : Plan) (id n m : ℕ) (h : List Entry) (f : Firing) (x : Option Applied) → IsHistory p h → firing_of p id h ≡ Some f → first_of p id h ≡ Some n → f.tx ≤ mark_of h → committed_as p (suc m) h ≡ x → suc m < f.tx → firing_among (held_as f n) (all_printed (numbered m (committed_of p h))) ≡ None → firing_among (held_as f n) (all_printed (with_some x (numbered m (committed_of p h)))) ≡ None
none_step p id n m h f None l e g b q k i = i
none_step p id n m h f (Some a) l e g b q k i = ap (λ o. or_else o (fired_in (held_as f n) (printed_of a))) i ∙ no_line p id n m h f a l e g b q k

none_below : (p : Plan) (id n m : ℕ) (h : List Entry) (f : Firing) → IsHistory p h → firing_of p id h ≡ Some f → first_of p id h ≡ Some n → f.tx ≤ mark_of h → m < f.tx → firing_among (held_as f n) (all_printed (numbered m (committed_of p h))) ≡ None
none_below p id n zero h f l e g b k = refl
none_below p id n (suc m) h f l e g b k = none_step p id n m h f (committed_as p (suc m) h) l e g b refl k (none_below p id n m h f l e g b (omega (arith, k)))

stays_step : (w : Holding) (x : Option Applied) (done : List Applied) (g : Fired) → firing_among w (all_printed done) ≡ Some g → firing_among w (all_printed (with_some x done)) ≡ Some g
stays_step w None done g i = i
stays_step w (Some a) done g i = or_stays (firing_among w (all_printed done)) (fired_in w (printed_of a)) g i

its_line : (p : Plan) (id n m : ℕ) (h : List Entry) (f : Firing) (x : Option Applied) → HasFittingVerbs p → IsHistory p h → firing_of p id h ≡ Some f → first_of p id h ≡ Some n → f.tx ≤ mark_of h → f.tx ≡ suc m → committed_as p (suc m) h ≡ x → (a : Applied) → x ≡ Some a → firing_among (held_as f n) (all_printed (with_some x (numbered m (committed_of p h)))) ≡ Some (record { tx = f.tx; change = f.change })
its_line p id n m h f None v l e g b s q a r = absurd (none-some a r)
its_line p id n m h f (Some y) v l e g b s q a r =
    ap (λ o. or_else o (fired_in (held_as f n) (printed_of y))) (none_below p id n m h f l e g b (omega (arith, s)))
    ∙ (line_fires p m h y (held_as f n) l q
    ∙ (subst (λ t. (if nat_lt n t then fired_with t (first_taken f.watch.path f.watch.kind (touches_of_push p t h)) else None) ≡ Some (record { tx = f.tx; change = f.change })) s (rw (less, (fired_watch_fired_at_its_first_change p id h f l e).shows) refl)))
  where
    less : nat_lt n f.tx ≡ true
    less = let d = fires_beyond_its_first p id n h f v.reads l e g in grind (arith, nat_tests)

stands_from : (p : Plan) (id n m : ℕ) (h : List Entry) (f : Firing) → HasFittingVerbs p → IsHistory p h → firing_of p id h ≡ Some f → first_of p id h ≡ Some n → f.tx ≤ mark_of h → f.tx ≤ m → 1 ≤ f.tx → firing_among (held_as f n) (all_printed (numbered m (committed_of p h))) ≡ Some (record { tx = f.tx; change = f.change })
stands_from p id n zero h f v l e g b k d = absurd (omega (arith, k, d))
stands_from p id n (suc m) h f v l e g b k d = by_last (nat_eq f.tx (suc m)) refl (λ x. stands_from p id n m h f v l e g b x d)
  where
    own : f.tx ≡ suc m → firing_among (held_as f n) (all_printed (with_some (committed_as p (suc m) h) (numbered m (committed_of p h)))) ≡ Some (record { tx = f.tx; change = f.change })
    own s =
        let c = swept_committed p f.tx h l (fired_watch_fired_at_its_first_change p id h f l e).swept in
        let a = committed_is_filled p (suc m) h l (subst (λ t. is_committed t h ≡ true) s c) in
        its_line p id n m h f (committed_as p (suc m) h) v l e g b s refl a.0 a.1

    by_last : (z : Bool) → nat_eq f.tx (suc m) ≡ z → (f.tx ≤ m → firing_among (held_as f n) (all_printed (numbered m (committed_of p h))) ≡ Some (record { tx = f.tx; change = f.change })) → firing_among (held_as f n) (all_printed (with_some (committed_as p (suc m) h) (numbered m (committed_of p h)))) ≡ Some (record { tx = f.tx; change = f.change })
    by_last true x i = own (grind (arith, nat_tests))
    by_last false x i = let s : f.tx ≢ suc m = grind (arith, nat_tests) in stays_step (held_as f n) (committed_as p (suc m) h) (numbered m (committed_of p h)) (record { tx = f.tx; change = f.change }) (i (omega (arith, k, s)))

pub firing_stands_in_the_lines : FiringStandsInTheLines
firing_stands_in_the_lines p id n h f v l e g b =
    ap (firing_among (held_as f n)) (txs_are_the_commits p h l)
    ∙ stands_from p id n (mark_of h) h f v l e g b b (let d = fires_beyond_its_first p id n h f v.reads l e g in omega (arith, d))
