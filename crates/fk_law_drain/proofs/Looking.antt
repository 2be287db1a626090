-- Where no push waits, all that was committed is published, and so is all that a client looks for.
use Rattle.std.specs.Prelude.{◌||◌, if◌then◌else◌, max}
use Rattle.std.proofs.Common.{◌≡◌, ℕ, zero, suc, ◌+◌, ◌≤◌, ◌++◌, inl, inr, Bool, true, false, List, [], ◌∷◌, refl, sym, ◌∙◌, ap, subst, arith, Option, Some, None}
use Rattle.std.proofs.lemmas.Bool.{false≢true}
use Rattle.std.proofs.lemmas.Bool.Decides.{nat_tests}
use Rattle.std.proofs.lemmas.Option.{same_Some, none-some}
use Rattle.fk_base.specs.Path.{PathNames}
use Rattle.fk_base.specs.declared.code.Code.{Code}
use Rattle.fk_print.specs.declared.entry.Entry.{Entry}
use Rattle.fk_print.specs.declared.op.Op.{Op}
use Rattle.fk_print.specs.declared.op.Op.TheVariants as op
use Rattle.fk_spec.specs.Plan.{Plan}
use Rattle.fk_spec.specs.Shown.{seen_by}
use Rattle.fk_spec.specs.Start.{origin_of, pushed_of, pushes_of, seen_with, sends_of, sent_in}
use Rattle.fk_spec.specs.Settling.{Committed, Passed, Refused, commits, is_committed, last_for, last_of_session, mark_of, outcome_of, swept_of}
use Rattle.fk_spec.specs.Stored.{committed_in, committed_of, last_edit, last_editor}
use Rattle.fk_spec.specs.Lanes.{leader_head, leads, removed_by}
use Rattle.fk_spec.specs.Follower.{Follower, next_with}
use Rattle.fk_spec.specs.Function.{Following, place_of}
use Rattle.fk_spec.specs.Client.{by_result, client_of, number_looked_for, number_read, target_of, target_sent, target_with, Expired, Open, Plain, Reading, Result, Sent, Settled, Target}
use Rattle.fk_spec.specs.Next.{IsHistory}
use Rattle.fk_law.specs.Due.{IsDue}
use Rattle.fk_law.specs.LeaderLane.{IsFinished}
use Rattle.fk_law.proofs.Committing.{committed_push}
use Rattle.fk_law.proofs.Due.{due}
use Rattle.fk_law.proofs.Growing.{numbers_never_fall}
use Rattle.fk_law.proofs.Leading.{published_are_committed, pushes_below_the_head}
use Rattle.fk_law.proofs.Pushing.{push_bound}
use Rattle.fk_law.proofs.Rising.{history_before}
use Rattle.fk_law.proofs.Standing.{OnStanding, standing_step}
use Rattle.fk_law_watch.specs.FirstNumbers.{ReadsAreReads}
use Rattle.fk_law_watch.proofs.Sweeps.{swept_committed, swept_last}
use Rattle.fk_law_client.specs.Tracking.{IsTrueResult, KeepsTrack}
use Rattle.fk_law_client.proofs.Pushed.{KnowsUpTo, filled_up, knows_more, moves_up, origin_up, refused_up, sent_up}
use Rattle.fk_law_client.proofs.Seen.{max_up, seen_published}
use Rattle.fk_law_client.proofs.Tracking.{sent_tracked}
use Rattle.fk_law_reply.specs.Plans.{HasFittingVerbs}
use Rattle.fk_law_reply.proofs.Finding.{reads_show_the_tree}
use Rattle.fk_law_reply.proofs.RefusedOutcomes.{refused_was_refused}
use Rattle.fk_law_drain.specs.Looking.{CommittedIsPublished, LookedForIsPublished}
use Rattle.fk_law_drain.proofs.Drained.{empty_head}

-- Committed pushes. ------------------------------------------------------------------------------------

pub committed_is_published : CommittedIsPublished
committed_is_published p t h l b c = by_end (pushes_below_the_head p t h l y.0 (let m = empty_head (pushes_of h) (removed_by leads h) b in let k = y.1 in omega (arith, m, k)))
  where
    y : (1 ≤ t) × (t ≤ pushes_of h)
    y = let x = committed_push p t h l c in let z = push_bound p t h x.is_of.push l x.is_of.pushed in (z.1, z.2)

    by_end : IsFinished t h → t ≤ mark_of h
    by_end (inl d) = absurd (false≢true (sym d.uncommitted ∙ c))
    by_end (inr d) = (published_are_committed p t h l d.1).1

-- The last commit. -------------------------------------------------------------------------------------

abbrev commit_in : Op → ℕ → ℕ
commit_in (op.CommitOk n t) m = max t m
commit_in _ m = m

-- the greatest committed push, 0 where there is none
abbrev last_commit : List Entry → ℕ
last_commit [] = 0
last_commit (e ∷ h) = commit_in e.op (last_commit h)

commit_step : (h : List Entry) (o : Op) → (1 ≤ last_commit h → is_committed (last_commit h) h ≡ true) → 1 ≤ commit_in o (last_commit h) → (commits (commit_in o (last_commit h)) o || is_committed (commit_in o (last_commit h)) h) ≡ true
commit_step h o i a = grind (arith, nat_tests)

last_is_committed : (h : List Entry) → 1 ≤ last_commit h → is_committed (last_commit h) h ≡ true
last_is_committed [] a = absurd (omega (arith, a))
last_is_committed (e ∷ h) a = commit_step h e.op (last_is_committed h) a

commit_grows : (o : Op) (m : ℕ) → m ≤ commit_in o m
commit_grows o m = grind (arith, nat_tests)

session_step : (c : ℕ) (h : List Entry) (o : Op) → last_of_session c h ≤ last_commit h → last_for c h o (last_of_session c h) ≤ commit_in o (last_commit h)
session_step c h o i = grind (arith, nat_tests)

session_low : (c : ℕ) (h : List Entry) → last_of_session c h ≤ last_commit h
session_low c [] = omega arith
session_low c (e ∷ h) = session_step c h e.op (session_low c h)

edit_step : (p : Plan) (path : PathNames) (h : List Entry) (o : Op) → last_editor path (committed_of p h) ≤ last_commit h → last_editor path (committed_in p h o (committed_of p h)) ≤ commit_in o (last_commit h)
edit_step p path h (op.CommitOk n t) a = filled_up path t (max t (last_commit h)) (committed_of p h) (pushed_of p t h) (omega arith) (omega (arith, a))
edit_step p path h o a = let g = commit_grows o (last_commit h) in omega (arith, a, g)

edit_low : (p : Plan) (path : PathNames) (h : List Entry) → last_edit p path h ≤ last_commit h
edit_low p path [] = omega arith
edit_low p path (e ∷ h) = edit_step p path h e.op (edit_low p path h)

-- What a follower knows. -------------------------------------------------------------------------------

-- the mark, or the greatest committed push beyond it
abbrev known : List Entry → ℕ
known h = max (mark_of h) (last_commit h)

known_grows : (e : Entry) (h : List Entry) → known h ≤ known (e ∷ h)
known_grows e h = let a = (numbers_never_fall h (e ∷ [])).mark in let b = commit_grows e.op (last_commit h) in omega (arith, a, b)

known_before : (h more : List Entry) → known h ≤ known (more ++ h)
known_before h [] = omega arith
known_before h (e ∷ more) = let a = known_before h more in let b = known_grows e (more ++ h) in omega (arith, a, b)

seen_known : (p : Plan) (c k : ℕ) (h : List Entry) → ReadsAreReads p → IsHistory p h → seen_with c k h ≤ known h
seen_known p c k [] v l = omega arith
seen_known p c k (e ∷ h) v l =
    let s = seen_published p c h v l.0 in
    let g = known_grows e h in
    let a = origin_up (sends_of c h) k (known h) (sent_in c h e.op) (origin_of c k h) (sent_up c (known h) h e.op (omega (arith, s))) (seen_known p c k h v l.0) in
    omega (arith, g, a)

knows_step : (p : Plan) (n : ℕ) (e : Entry) (h : List Entry) → ReadsAreReads p → IsHistory p (e ∷ h) → OnStanding (KnowsUpTo (known h)) (place_of p n h) → OnStanding (KnowsUpTo (known (e ∷ h))) (place_of p n (e ∷ h))
knows_step p n e h v l i =
    standing_step p n h e.op (place_of p n h) (KnowsUpTo (known (e ∷ h)))
    (λ f c _. knows_more (known h) (known (e ∷ h)) f (known_grows e h) (at f c))
    (λ c k _. (omega arith, omega arith, tt))
    (λ f r c a q. knows_more (known h) (known (e ∷ h)) (next_with p h r e.op f) (known_grows e h) (moves_up p (known h) h r e.op f (seen_known p f.session f.k h v l.0) (session_up f.session) edit_up (at f c)))
  where
    session_up : (c : ℕ) → last_of_session c h ≤ known h
    session_up c = let a = session_low c h in omega (arith, a)

    edit_up : (path : PathNames) → last_edit p path h ≤ known h
    edit_up path = let a = edit_low p path h in omega (arith, a)

    at : (f : Follower) → place_of p n h ≡ Following f → KnowsUpTo (known h) f
    at f c = subst (OnStanding (KnowsUpTo (known h))) c i

knows : (p : Plan) (n : ℕ) (h : List Entry) → ReadsAreReads p → IsHistory p h → OnStanding (KnowsUpTo (known h)) (place_of p n h)
knows p n [] v l = tt
knows p n (e ∷ h) v l = knows_step p n e h v l (knows p n h v l.0)

-- the number of a refused request
refused_known : (p : Plan) (c k place at : ℕ) (cd : Code) (h : List Entry) → ReadsAreReads p → IsHistory p h → outcome_of c k h ≡ Some (Refused cd place at) → at ≤ known h
refused_known p c k place at cd h v l o =
    let x = refused_was_refused p c k place at cd h l o in
    let b = history_before p (x.entry ∷ x.before) x.after (subst (IsHistory p) x.whole l) in
    let d = subst (IsDue p x.before) x.refuses (due p x.entry x.before b) in
    let a = refused_up (known x.before) x.function place at cd x.before d.0.stage d.3 (subst (OnStanding (KnowsUpTo (known x.before))) d.1 (knows p x.function x.before v b.0)).2 in
    let g = known_grows x.entry x.before in
    let m = known_before (x.entry ∷ x.before) x.after in
    subst (λ z. at ≤ known z) (sym x.whole) (omega (arith, a, g, m))

known_published : (p : Plan) (h : List Entry) → IsHistory p h → leader_head h ≡ None → known h ≤ mark_of h
known_published p h l b = max_up (mark_of h) (last_commit h) (mark_of h) (omega arith) (by_number (last_commit h) refl)
  where
    by_number : (n : ℕ) → last_commit h ≡ n → n ≤ mark_of h
    by_number zero e = omega arith
    by_number (suc n) e = subst (λ z. z ≤ mark_of h) e (committed_is_published p (last_commit h) h l b (last_is_committed h (subst (λ z. 1 ≤ z) (sym e) (omega arith))))

-- What is looked for. ----------------------------------------------------------------------------------

sweep_published : (p : Plan) (h : List Entry) → IsHistory p h → leader_head h ≡ None → swept_of h ≤ mark_of h
sweep_published p h l b = by_number (swept_of h) refl
  where
    by_number : (n : ℕ) → swept_of h ≡ n → n ≤ mark_of h
    by_number zero e = omega arith
    by_number (suc n) e = subst (λ z. z ≤ mark_of h) e (committed_is_published p (swept_of h) h l b (swept_committed p (swept_of h) h l (swept_last h (subst (λ z. 1 ≤ z) (sym e) (omega arith)))))

result_published : (p : Plan) (c k n : ℕ) (h : List Entry) (r : Result) → HasFittingVerbs p → IsHistory p h → leader_head h ≡ None → IsTrueResult p c k h r → number_looked_for r ≡ Some n → n ≤ mark_of h
result_published p c k n h (Settled (Committed t)) v l b i e = subst (λ z. z ≤ mark_of h) (same_Some t n e) i.published
result_published p c k n h (Settled (Refused cd place at)) v l b i e = let a = refused_known p c k place at cd h v.reads l i in let m = known_published p h l b in let s = same_Some at n e in omega (arith, a, m, s)
result_published p c k n h (Settled (Passed loss)) v l b i e = absurd (none-some n e)
result_published p c k n h Open v l b i e = absurd (none-some n e)
result_published p c k n h (Plain cd) v l b i e = absurd (none-some n e)
result_published p c k n h (Expired at) v l b i e = absurd (none-some n e)

first_published : (p : Plan) (c : ℕ) (h : List Entry) (ss : List Sent) (t : Target) → HasFittingVerbs p → IsHistory p h → leader_head h ≡ None → KeepsTrack p c h ss (client_of p c h).begun (sends_of c h) → target_sent by_result ss ≡ Some t → t.number ≤ mark_of h
first_published p c h [] t v l b i e = absurd (none-some t e)
first_published p c h (s ∷ ss) t v l b i e = by_number (number_looked_for s.result) refl e
  where
    by_number : (o : Option ℕ) → number_looked_for s.result ≡ o → target_with s.command o ≡ Some t → t.number ≤ mark_of h
    by_number None q f = absurd (none-some t f)
    by_number (Some n) q f = subst (λ z. z ≤ mark_of h) (ap (λ z. z.number) (same_Some (record { command = s.command; number = n }) t f)) (result_published p c s.k n h s.result v l b i.tracked.2 q)

pub looked_for_is_published : LookedForIsPublished
looked_for_is_published p c h t v l b e = by_reading (client_of p c h).reading refl e
  where
    sent : target_sent by_result (client_of p c h).sent ≡ Some t → t.number ≤ mark_of h
    sent f = first_published p c h (client_of p c h).sent t v l b (sent_tracked p c h v.reads l) f

    read : (r : Reading) → (client_of p c h).reading ≡ Some r → number_read (seen_by c h) r ≤ mark_of h
    read r q = let a = (reads_show_the_tree p c h r v.reads l q).swept in let m = sweep_published p h l b in omega (arith, a, m)

    by_flag : (r : Reading) (d : Bool) → (client_of p c h).reading ≡ Some r → (if d then target_sent by_result (client_of p c h).sent else Some (record { command = (client_of p c h).begun + 1; number = number_read (seen_by c h) r })) ≡ Some t → t.number ≤ mark_of h
    by_flag r true q f = sent f
    by_flag r false q f = subst (λ z. z.number ≤ mark_of h) (same_Some (record { command = (client_of p c h).begun + 1; number = number_read (seen_by c h) r }) t f) (read r q)

    by_reading : (o : Option Reading) → (client_of p c h).reading ≡ o → target_of by_result (seen_by c h) (client_of p c h) o ≡ Some t → t.number ≤ mark_of h
    by_reading None q f = sent f
    by_reading (Some r) q f = by_flag r r.looked q f
