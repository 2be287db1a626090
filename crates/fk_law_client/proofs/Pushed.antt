-- The number of a refusal was pushed.
use Rattle.std.specs.Prelude.{◌==◌, max}
use Rattle.std.proofs.Common.{◌≡◌, ℕ, ◌+◌, ◌≤◌, ◌++◌, Bool, true, false, List, [], ◌∷◌, subst, arith, Option, Some, None}
use Rattle.std.proofs.lemmas.Bool.{cond_both}
use Rattle.std.proofs.lemmas.Bool.Decides.{nat_tests}
use Rattle.fk_base.specs.Path.{PathNames}
use Rattle.fk_base.specs.declared.code.Code.{Code}
use Rattle.fk_tree.specs.Check.{Refusal, check}
use Rattle.fk_tree.specs.Edit.{closes}
use Rattle.fk_tree.specs.Locks.{lock_paths}
use Rattle.fk_tree.specs.Sorted.{has_path}
use Rattle.fk_tree.specs.Touch.{edited_paths}
use Rattle.fk_tree.specs.declared.applied.Applied.{Applied}
use Rattle.fk_tree.specs.declared.request.Request.{Request}
use Rattle.fk_print.specs.declared.entry.Entry.{Entry}
use Rattle.fk_print.specs.declared.op.Op.{Op}
use Rattle.fk_print.specs.declared.op.Op.TheVariants as op
use Rattle.fk_spec.specs.Plan.{Plan, item_after}
use Rattle.fk_spec.specs.Shown.{seen_by}
use Rattle.fk_spec.specs.Start.{Origin, Pushed, when, task_of, probes_session, pushes_of, count_push, pushed_in, sends_of, sent_in, origin_of, origin_here, seen_from, seen_with}
use Rattle.fk_spec.specs.Start as start
use Rattle.fk_spec.specs.Settling.{last_of_session, mark_of, mark_in}
use Rattle.fk_spec.specs.Stored.{committed_of, with_filled, filled_after, last_editor, last_edit, owned_after}
use Rattle.fk_spec.specs.Follower.{Follower, Granted, view_of, greatest_last, decided, next_stage, to_lock, to_begin, with_granted, next_with}
use Rattle.fk_spec.specs.Follower as follower
use Rattle.fk_spec.specs.Leader as leader
use Rattle.fk_spec.specs.Function.{Following, place_of}
use Rattle.fk_spec.specs.Next.{IsHistory}
use Rattle.fk_law.specs.Due.{IsDue, Refuses}
use Rattle.fk_law.proofs.Due.{due}
use Rattle.fk_law.proofs.Growing.{numbers_never_fall}
use Rattle.fk_law.proofs.Leading.{leader_at_or_below_the_head}
use Rattle.fk_law.proofs.Rising.{history_before}
use Rattle.fk_law.proofs.Standing.{OnStanding, standing_step}
use Rattle.fk_law.proofs.Starting.{leader_task}
use Rattle.fk_law_watch.specs.FirstNumbers.{ReadsAreReads}
use Rattle.fk_law_client.specs.Refused.{MarkWasPushed, RefusalNumberWasPushed, RefusalHoldsInLongerHistories}
use Rattle.fk_law_client.proofs.Seen.{max_up, seen_published}
use Rattle.fk_law.proofs.Lasting.{refusal_holds_for_ever}
use Rattle.fk_law.proofs.Lows.{edit_low, last_low}

grown : (e : Entry) (h : List Entry) (n : ℕ) → n ≤ pushes_of h → n ≤ pushes_of (e ∷ h)
grown e h n a = let g = (numbers_never_fall h (e ∷ [])).pushes in omega (arith, a, g)

-- The mark and what was seen. --------------------------------------------------------------------------

mark_step : (p : Plan) (h : List Entry) (o : Op) → IsHistory p h → IsDue p h o → mark_of h ≤ pushes_of h → mark_in o (mark_of h) ≤ count_push (pushed_in 0 o) (pushes_of h)
mark_step p h (op.PublishOk n t) l d a = let u = (leader_at_or_below_the_head p n t h l (leader_task p n h t leader.Publish l d.0)).2 in max_up t (mark_of h) (pushes_of h) u a
mark_step p h o l d a = grind (arith, nat_tests)

pub mark_pushed : MarkWasPushed
mark_pushed p [] l = omega arith
mark_pushed p (e ∷ h) l = mark_step p h e.op l.0 (due p e h l) (mark_pushed p h l.0)

pub origin_up : (n k m : ℕ) (x o : Option Origin) → seen_from x ≤ m → seen_from o ≤ m → seen_from (origin_here n k x o) ≤ m
origin_up n k m None o a b = b
origin_up n k m (Some y) o a b = cond_both (n + 1 == k) (Some y) o (λ z. seen_from z ≤ m) (λ _. a) (λ _. b)

when_up : (m : ℕ) (b : Bool) (y : Origin) → seen_from (Some y) ≤ m → seen_from (when b y) ≤ m
when_up m true y a = a
when_up m false y a = omega arith

pub sent_up : (c m : ℕ) (h : List Entry) (o : Op) → seen_by c h ≤ m → seen_from (sent_in c h o) ≤ m
sent_up c m h (op.Send s i k) a = when_up m (s == c) (start.Sent i (seen_by c h)) a
sent_up c m h (op.Evict n k) a = when_up m (probes_session c (task_of n h)) start.Evicted (omega arith)
sent_up c m h o a = omega arith

seen_with_pushed : (p : Plan) (c k : ℕ) (h : List Entry) → ReadsAreReads p → IsHistory p h → seen_with c k h ≤ pushes_of h
seen_with_pushed p c k [] v l = omega arith
seen_with_pushed p c k (e ∷ h) v l =
    let s = seen_published p c h v l.0 in
    let m = mark_pushed p h l.0 in
    grown e h (seen_with c k (e ∷ h)) (origin_up (sends_of c h) k (pushes_of h) (sent_in c h e.op) (origin_of c k h) (sent_up c (pushes_of h) h e.op (omega (arith, s, m))) (seen_with_pushed p c k h v l.0))

-- Last commits. ----------------------------------------------------------------------------------------

pub filled_up : (path : PathNames) (t m : ℕ) (done : List Applied) (x : Option Pushed) → t ≤ m → last_editor path done ≤ m → last_editor path (with_filled done t x) ≤ m
filled_up path t m done None a b = b
filled_up path t m done (Some y) a b = cond_both (has_path path (edited_paths (filled_after done t y))) t (last_editor path done) (λ z. z ≤ m) (λ _. a) (λ _. b)

-- Followers. -------------------------------------------------------------------------------------------

abbrev pub AtUpTo : ℕ → follower.Stage → Type 0
AtUpTo m (follower.Refuse x at) = at ≤ m
AtUpTo m (follower.Expire at) = at ≤ m
AtUpTo m _ = Unit {0}

-- the numbers that a follower knows are at most m
abbrev pub KnowsUpTo : ℕ → Follower → Type 0
KnowsUpTo m f = (f.last ≤ m) × (greatest_last f.granted ≤ m) × AtUpTo m f.stage

at_more : (m n : ℕ) (s : follower.Stage) → m ≤ n → AtUpTo m s → AtUpTo n s
at_more m n (follower.Refuse x at) a i = omega (arith, a, i)
at_more m n (follower.Expire at) a i = omega (arith, a, i)
at_more m n s a i = tt

pub knows_more : (m n : ℕ) (f : Follower) → m ≤ n → KnowsUpTo m f → KnowsUpTo n f
knows_more m n f a i = let b = i.0 in let c = i.1 in (omega (arith, a, b), omega (arith, a, c), at_more m n f.stage a i.2)

lock_up : (m seen : ℕ) (r : Request) (g : Follower) → seen ≤ m → g.last ≤ m → greatest_last g.granted ≤ m → KnowsUpTo m (to_lock seen r g)
lock_up m seen r g a b c = (b, c, next_up (item_after (lock_paths (view_of g.granted) g.owned r) _))
  where
    decided_up : (x : Option Refusal) → AtUpTo m (decided seen g x)
    decided_up None = tt
    decided_up (Some x) = max_up seen (max g.last (greatest_last g.granted)) m a (max_up g.last (greatest_last g.granted) m b c)

    next_up : (o : Option PathNames) → AtUpTo m (next_stage seen r g o)
    next_up (Some path) = tt
    next_up None = decided_up (check (view_of g.granted) g.session r)

begin_up : (m seen : ℕ) (r : Request) (g : Follower) → seen ≤ m → g.last ≤ m → greatest_last g.granted ≤ m → KnowsUpTo m (to_begin seen r g)
begin_up m seen r g a b c = cond_both (closes r) (record g { stage = follower.Owned }) (to_lock seen r g) (KnowsUpTo m) (λ _. (b, c, tt)) (λ _. lock_up m seen r g a b c)

greatest_up : (m : ℕ) (gs : List Granted) (g : Granted) → g.last ≤ m → greatest_last gs ≤ m → greatest_last (gs ++ g ∷ []) ≤ m
greatest_up m [] g a b = max_up g.last 0 m a b
greatest_up m (x ∷ gs) g a b = max_up x.last (greatest_last (gs ++ g ∷ [])) m (omega (arith, b)) (greatest_up m gs g a (omega (arith, b)))

pub moves_up : (p : Plan) (m : ℕ) (h : List Entry) (r : Request) (o : Op) (f : Follower) → seen_with f.session f.k h ≤ m → last_of_session f.session h ≤ m → ((path : PathNames) → last_edit p path h ≤ m) → KnowsUpTo m f → KnowsUpTo m (next_with p h r o f)
moves_up p m h r (op.SessionNew n) f a b c i = begin_up m (seen_with f.session f.k h) r (record f { last = last_of_session f.session h }) a b i.1
moves_up p m h r (op.SessionClosed n) f a b c i = (i.0, i.1, max_up (seen_with f.session f.k h) (last_of_session f.session h) m a b)
moves_up p m h r (op.Owned n count) f a b c i = lock_up m (seen_with f.session f.k h) r (record f { owned = owned_after f.session (committed_of p h) }) a i.0 i.1
moves_up p m h r (op.LockOk n path) f a b c i = lock_up m (seen_with f.session f.k h) r (with_granted p h path f) a i.0 (greatest_up m f.granted _ (c path) i.1)
moves_up p m h r (op.LockBusy n path holder moment) f a b c i = i
moves_up p m h r o f a b c i = (i.0, i.1, tt)

knows_step : (p : Plan) (n : ℕ) (e : Entry) (h : List Entry) → ReadsAreReads p → IsHistory p (e ∷ h) → OnStanding (KnowsUpTo (pushes_of h)) (place_of p n h) → OnStanding (KnowsUpTo (pushes_of (e ∷ h))) (place_of p n (e ∷ h))
knows_step p n e h v l i =
    standing_step p n h e.op (place_of p n h) (KnowsUpTo (pushes_of (e ∷ h)))
    (λ f c _. knows_more (pushes_of h) (pushes_of (e ∷ h)) f more (at f c))
    (λ c k _. (omega arith, omega arith, tt))
    (λ f r c a q. knows_more (pushes_of h) (pushes_of (e ∷ h)) (next_with p h r e.op f) more (moves_up p (pushes_of h) h r e.op f (seen_with_pushed p f.session f.k h v l.0) (last_low p f.session h l.0) (λ path. edit_low p path h l.0) (at f c)))
  where
    more : pushes_of h ≤ pushes_of (e ∷ h)
    more = (numbers_never_fall h (e ∷ [])).pushes

    at : (f : Follower) → place_of p n h ≡ Following f → KnowsUpTo (pushes_of h) f
    at f c = subst (OnStanding (KnowsUpTo (pushes_of h))) c i

knows_pushed : (p : Plan) (n : ℕ) (h : List Entry) → ReadsAreReads p → IsHistory p h → OnStanding (KnowsUpTo (pushes_of h)) (place_of p n h)
knows_pushed p n [] v l = tt
knows_pushed p n (e ∷ h) v l = knows_step p n e h v l (knows_pushed p n h v l.0)

pub refused_up : (m n place at : ℕ) (cd : Code) (h : List Entry) (s : follower.Stage) → Refuses n cd place at h s → AtUpTo m s → at ≤ m
refused_up m n place at cd h (follower.Refuse x a) r i = subst (λ z. z ≤ m) r.2 i
refused_up m n place at cd h (follower.Expire a) r i = subst (λ z. z ≤ m) r.2 i
refused_up m n place at cd h s r i = absurd r

pub refusal_pushed : RefusalNumberWasPushed
refusal_pushed p n place at cd h v l d = refused_up (pushes_of h) n place at cd h d.0.stage d.3 (subst (OnStanding (KnowsUpTo (pushes_of h))) d.1 (knows_pushed p n h v l)).2

pub refusal_holds : RefusalHoldsInLongerHistories
refusal_holds p n place at cd e h more f r v l q g a =
    let k = history_before p (e ∷ h) more l in
    refusal_holds_for_ever p n place at cd e h more f r l q (refusal_pushed p n place at cd h v k.0 (subst (IsDue p h) q (due p e h k))) g a
