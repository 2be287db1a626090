-- Requests of a session are settled one after another.
use Rattle.std.proofs.Common.{◌≡◌, ℕ, ◌+◌, ◌≤◌, Bool, true, List, [], ◌∷◌, refl, ◌∙◌, subst, arith, Option, Some, None}
use Rattle.std.proofs.lemmas.Bool.Decides.{nat_tests}
use Rattle.fk_print.specs.declared.entry.Entry.{Entry}
use Rattle.fk_print.specs.declared.op.Op.{Op}
use Rattle.fk_print.specs.declared.op.Op.TheVariants as op
use Rattle.fk_spec.specs.Plan.{Plan}
use Rattle.fk_spec.specs.Start.{Task, Follows, Push, task_of, push_of, or_else, started_in, task_here, sends_of, sent_in, count_sent, session_followed, Origin}
use Rattle.fk_spec.specs.Locks.{is_push_of, loss_of}
use Rattle.fk_spec.specs.Settling.{Settling, Outcome, Committed, Refused, Passed, settling, settled_in, settled_of, count_settling, session_of_push}
use Rattle.fk_spec.specs.Lanes.{follows_session, removed_by, removed_in}
use Rattle.fk_spec.specs.Follower.{Follower}
use Rattle.fk_spec.specs.Follower as follower
use Rattle.fk_spec.specs.Function.{Place, Absent, Following, Leading, Telling, Beating, place_of, actor}
use Rattle.fk_spec.specs.Next.{IsHistory}
use Rattle.fk_law.specs.Due.{IsDue, IsPushOf, Commits}
use Rattle.fk_law.specs.Due as due_so
use Rattle.fk_law.specs.Functions.{IsFor}
use Rattle.fk_law.specs.Settled.{IsNext, Answered, SettledWereSent}
use Rattle.fk_law.specs.Progress.{Progress, progress, progress_after}
use Rattle.fk_law.proofs.Due.{due}
use Rattle.fk_law.proofs.Moving.{OnFollower, follower_step}
use Rattle.fk_law.proofs.Starting.{follower_task, place_for}
use Rattle.fk_law.proofs.Pushing.{at_commit}

-- A message that a follower was started for stands in its lane, at most one beyond the removed ones.
abbrev pub IsReached : ℕ → ℕ → ℕ → Type 0
IsReached sends removed k = (1 ≤ k) × (k ≤ removed + 1) × (k ≤ sends)

reached_step : (p : Plan) (n c k : ℕ) (h : List Entry) (o : Op) → IsDue p h o → (task_of n h ≡ Some (Follows c k) → IsReached (sends_of c h) (removed_by (follows_session c) h) k) → or_else (task_here n (started_in o)) (task_of n h) ≡ Some (Follows c k) → IsReached (count_sent (sent_in c h o) (sends_of c h)) (removed_in (follows_session c) h o (removed_by (follows_session c) h)) k
reached_step p n c k h o d i e = grind (arith, nat_tests)

pub reached : (p : Plan) (n c k : ℕ) (h : List Entry) → IsHistory p h → task_of n h ≡ Some (Follows c k) → IsReached (sends_of c h) (removed_by (follows_session c) h) k
reached p n c k [] l i = absurd (grind arith)
reached p n c k (e ∷ h) l i = reached_step p n c k h e.op (due p e h l) (reached p n c k h l.0) i

-- who commits a push commits it for its function and its request
pub commit_of : (p : Plan) (n t m c k : ℕ) (h : List Entry) → IsHistory p h → Commits n t m c k h (place_of p n h) → IsPushOf t m c k h
commit_of p n t m c k h l i = by_place (place_of p n h) refl i
  where
    by_push : (o : Option Push) → push_of t h ≡ o → is_push_of m o ≡ true → task_of m h ≡ Some (Follows c k) → IsPushOf t m c k h
    by_push None e a b = absurd (grind arith)
    by_push (Some x) e a b = record { push = x; pushed = e; function = grind (arith, nat_tests); task = b }

    follows : (f : Follower) → place_of p n h ≡ Following f → f.stage ≡ follower.Commit t → m ≡ n → f.session ≡ c → f.k ≡ k → IsPushOf t m c k h
    follows f e s a b d = by_push (push_of t h) refl (rw a (at_commit p t n h f l e s)) (rw (a, ← b, ← d) (follower_task p n h f l e))

    by_place : (x : Place) → place_of p n h ≡ x → Commits n t m c k h x → IsPushOf t m c k h
    by_place (Following f) e i = follows f e i.0 i.1 i.2 i.3
    by_place (Leading s stage) e i = i.2
    by_place Absent e i = absurd i
    by_place (Telling w s stage) e i = absurd i
    by_place (Beating w stage) e i = absurd i

pub session_of_its_push : (t m c k : ℕ) (h : List Entry) → IsPushOf t m c k h → session_of_push t h ≡ Some c
session_of_its_push t m c k h i = grind arith

settling_commit : (t m c k : ℕ) (h : List Entry) (s : Settling) → IsPushOf t m c k h → settled_of c h + 1 ≡ k → settling (session_of_push t h) (Committed t) ≡ Some s → IsNext h s
settling_commit t m c k h s i n e = let f : s.session ≡ c = grind (arith, session_of_its_push t m c k h i) in record { function = m; k = k; task = rw f i.task; next = rw f n }

settling_task : (n : ℕ) (h : List Entry) (s : Settling) (o : Option Task) (w : Outcome) → task_of n h ≡ o → (f : Follower) → o ≡ Some (Follows f.session f.k) → settled_of f.session h + 1 ≡ f.k → settling (session_followed o) w ≡ Some s → IsNext h s
settling_task n h s o w b f t a e = let g : s.session ≡ f.session = grind arith in record { function = n; k = f.k; task = rw g (b ∙ t); next = rw g a }

settles_step : (p : Plan) (h : List Entry) (o : Op) (s : Settling) → IsHistory p h → IsDue p h o → settled_in h o ≡ Some s → IsNext h s
settles_step p h (op.CommitOk n t) s l d e = settling_commit t d.0 d.1 d.2 h s (commit_of p n t d.0 d.1 d.2 h l d.3) d.4 e
settles_step p h (op.RefuseOk n code place at) s l d e = settling_task n h s (task_of n h) (Refused code place at) refl d.0 (follower_task p n h d.0 l d.1) d.2 e
settles_step p h (op.LostOk n) s l d e = settling_task n h s (task_of n h) (Passed (loss_of n h)) refl d.0 (follower_task p n h d.0 l d.1) d.3 e
settles_step p h o s l d e = absurd (grind arith)

pub settles_the_next : (p : Plan) (e : Entry) (h : List Entry) (s : Settling) → IsHistory p (e ∷ h) → settled_in h e.op ≡ Some s → IsNext h s
settles_the_next p e h s l i = settles_step p h e.op s l.0 (due p e h l) i

-- the settled requests of a session are the removed ones, or one more
abbrev pub IsBetween : ℕ → ℕ → Type 0
IsBetween removed settled = (removed ≤ settled) × (settled ≤ removed + 1)

abbrev AnsweredIn : List Entry → ℕ → ℕ → Progress → Type 0
AnsweredIn h c k q = Answered (settled_of c h) k q

record IsSettledInOrder (p : Plan) (h : List Entry) : Type 0 where
  pub between : (c : ℕ) → IsBetween (removed_by (follows_session c) h) (settled_of c h)
  pub answered : (n : ℕ) → OnFollower (AnsweredIn h) (place_of p n h)

pub removed_grows : (w : Option Task → Bool) (h : List Entry) (o : Op) (r : ℕ) → (r ≤ removed_in w h o r) × (removed_in w h o r ≤ r + 1)
removed_grows w h o r = grind (arith, nat_tests)

settled_grows : (c : ℕ) (o : Option Settling) (s : ℕ) → s ≤ count_settling c o s
settled_grows c o s = grind (arith, nat_tests)

ack_lower : (c n : ℕ) (h : List Entry) (x : Place) → IsFor (task_of n h) x → due_so.Acks h x → OnFollower (AnsweredIn h) x → removed_by (follows_session c) h ≤ settled_of c h → removed_in (follows_session c) h (op.AckOk n) (removed_by (follows_session c) h) ≤ settled_of c h
ack_lower c n h x f a i b = grind (arith, nat_tests)

lower_step : (p : Plan) (c : ℕ) (h : List Entry) (o : Op) → IsHistory p h → IsDue p h o → ((n : ℕ) → OnFollower (AnsweredIn h) (place_of p n h)) → removed_by (follows_session c) h ≤ settled_of c h → removed_in (follows_session c) h o (removed_by (follows_session c) h) ≤ count_settling c (settled_in h o) (settled_of c h)
lower_step p c h (op.AckOk n) l d a b = ack_lower c n h (place_of p n h) (place_for p n h l) d (a n) b
lower_step p c h o l d a b = grind (arith, nat_tests)

upper_next : (c : ℕ) (h : List Entry) (s : Settling) → IsNext h s → ((m k : ℕ) → task_of m h ≡ Some (Follows c k) → k ≤ removed_by (follows_session c) h + 1) → settled_of c h ≤ removed_by (follows_session c) h + 1 → count_settling c (Some s) (settled_of c h) ≤ removed_by (follows_session c) h + 1
upper_next c h s i r b = grind (arith, nat_tests, r i.function i.k)

upper_step : (c : ℕ) (h : List Entry) (o : Option Settling) → ((s : Settling) → o ≡ Some s → IsNext h s) → ((m k : ℕ) → task_of m h ≡ Some (Follows c k) → k ≤ removed_by (follows_session c) h + 1) → settled_of c h ≤ removed_by (follows_session c) h + 1 → count_settling c o (settled_of c h) ≤ removed_by (follows_session c) h + 1
upper_step c h None i r b = b
upper_step c h (Some s) i r b = upper_next c h s (i s refl) r b

answered_stays : (c k : ℕ) (q : Progress) (o : Option Settling) (s : ℕ) → Answered s k q → Answered (count_settling c o s) k q
answered_stays c k q o s i = grind (arith, nat_tests)

answered_commit : (p : Plan) (n t m c k : ℕ) (h : List Entry) (f : Follower) → place_of p n h ≡ Following f → Commits n t m c k h (place_of p n h) → settled_of c h + 1 ≡ k → session_of_push t h ≡ Some c → f.k ≤ count_settling f.session (settling (session_of_push t h) (Committed t)) (settled_of f.session h)
answered_commit p n t m c k h f e i s o = grind (arith, nat_tests)

answered_moves : (p : Plan) (n : ℕ) (h : List Entry) (o : Op) (f : Follower) → IsHistory p h → IsDue p h o → place_of p n h ≡ Following f → actor o ≡ Some n → task_of n h ≡ Some (Follows f.session f.k) → f.k ≤ settled_of f.session h + 1 → Answered (settled_of f.session h) f.k (progress f.stage) → Answered (count_settling f.session (settled_in h o) (settled_of f.session h)) f.k (progress_after o (progress f.stage))
answered_moves p n h (op.CommitOk m t) f l d e a b r i =
    let g : m ≡ n = grind arith in
    let x : Commits m t d.0 d.1 d.2 h (place_of p m h) = d.3 in
    answered_commit p m t d.0 d.1 d.2 h f (rw g e) x d.4 (session_of_its_push t d.0 d.1 d.2 h (commit_of p m t d.0 d.1 d.2 h l x))
answered_moves p n h o f l d e a b r i = grind (arith, nat_tests)

settled_step : (p : Plan) (e : Entry) (h : List Entry) → IsHistory p (e ∷ h) → IsSettledInOrder p h → IsSettledInOrder p (e ∷ h)
settled_step p e h l i = record { between = between_step; answered = answered_step }
  where
    at : (n : ℕ) (f : Follower) → place_of p n h ≡ Following f → Answered (settled_of f.session h) f.k (progress f.stage)
    at n f b = subst (OnFollower (AnsweredIn h)) b (i.answered n)

    reach : (n : ℕ) (f : Follower) → place_of p n h ≡ Following f → f.k ≤ settled_of f.session h + 1
    reach n f b = let r = reached p n f.session f.k h l.0 (follower_task p n h f l.0 b) in let s = i.between f.session in omega (arith, r.1, s.0)

    between_step : (c : ℕ) → IsBetween (removed_by (follows_session c) (e ∷ h)) (settled_of c (e ∷ h))
    between_step c =
        let u = upper_step c h (settled_in h e.op) (λ s b. settles_the_next p e h s l b) (λ m k b. (reached p m c k h l.0 b).1) (i.between c).1 in
        let g = removed_grows (follows_session c) h e.op (removed_by (follows_session c) h) in
        (lower_step p c h e.op l.0 (due p e h l) i.answered (i.between c).0, omega (arith, u, g.0))

    answered_step : (n : ℕ) → OnFollower (AnsweredIn (e ∷ h)) (place_of p n (e ∷ h))
    answered_step n =
        follower_step p n h e.op (place_of p n h) (AnsweredIn (e ∷ h))
        (λ f b _. answered_stays f.session f.k (progress f.stage) (settled_in h e.op) (settled_of f.session h) (at n f b))
        (λ c k _. tt)
        (λ f b a. answered_moves p n h e.op f l.0 (due p e h l) b a (follower_task p n h f l.0 b) (reach n f b) (at n f b))

settled_in_order : (p : Plan) (h : List Entry) → IsHistory p h → IsSettledInOrder p h
settled_in_order p [] l = record { between = λ c. (omega arith, omega arith); answered = λ n. tt }
settled_in_order p (e ∷ h) l = settled_step p e h l (settled_in_order p h l.0)

pub settled_between : (p : Plan) (c : ℕ) (h : List Entry) → IsHistory p h → IsBetween (removed_by (follows_session c) h) (settled_of c h)
settled_between p c h l = (settled_in_order p h l).between c

pub answered_at : (p : Plan) (n : ℕ) (h : List Entry) (f : Follower) → IsHistory p h → place_of p n h ≡ Following f → Answered (settled_of f.session h) f.k (progress f.stage)
answered_at p n h f l b = subst (OnFollower (AnsweredIn h)) b ((settled_in_order p h l).answered n)

-- whatever a follower was started for is the next to settle or settled
pub task_at_most_next : (p : Plan) (n c k : ℕ) (h : List Entry) → IsHistory p h → task_of n h ≡ Some (Follows c k) → k ≤ settled_of c h + 1
task_at_most_next p n c k h l b = let r = reached p n c k h l b in let s = settled_between p c h l in omega (arith, r.1, s.0)

-- what is settled was sent
pub counts_sent : (o : Option Origin) (n : ℕ) → n ≤ count_sent o n
counts_sent o n = grind arith

sent_next : (c : ℕ) (h : List Entry) (s : Settling) → IsNext h s → ((m k : ℕ) → task_of m h ≡ Some (Follows c k) → k ≤ sends_of c h) → settled_of c h ≤ sends_of c h → count_settling c (Some s) (settled_of c h) ≤ sends_of c h
sent_next c h s i r b = grind (arith, nat_tests, r i.function i.k)

sent_step : (p : Plan) (c : ℕ) (e : Entry) (h : List Entry) (o : Option Settling) → IsHistory p h → ((s : Settling) → o ≡ Some s → IsNext h s) → settled_of c h ≤ sends_of c h → count_settling c o (settled_of c h) ≤ sends_of c (e ∷ h)
sent_step p c e h None l i b = let g = counts_sent (sent_in c h e.op) (sends_of c h) in omega (arith, b, g)
sent_step p c e h (Some s) l i b = let g = counts_sent (sent_in c h e.op) (sends_of c h) in let u = sent_next c h s (i s refl) (λ m k t. (reached p m c k h l t).2) b in omega (arith, u, g)

pub settled_were_sent : SettledWereSent
settled_were_sent p c [] l = omega arith
settled_were_sent p c (e ∷ h) l = sent_step p c e h (settled_in h e.op) l.0 (λ s b. settles_the_next p e h s l b) (settled_were_sent p c h l.0)
