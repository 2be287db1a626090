-- Functions: their numbers and their tasks.
use Rattle.std.proofs.Common.{◌≡◌, ◌≢◌, ◌+◌, ℕ, ◌≤◌, ◌++◌, false, cond, List, [], ◌∷◌, refl, sym, ◌∙◌, ap, subst, arith, Option, Some, None}
use Rattle.std.proofs.lemmas.Bool.Decides.{nat_tests}
use Rattle.fk_print.specs.declared.entry.Entry.{Entry}
use Rattle.fk_print.specs.declared.op.Op.{Op}
use Rattle.fk_spec.specs.Plan.{Plan}
use Rattle.fk_spec.specs.Start.{Start, Task, Follows, Leads, Notifies, Probes, started_in, starts_of, task_of, task_here, or_else, count_start}
use Rattle.fk_spec.specs.Follower.{Follower}
use Rattle.fk_spec.specs.Leader as leader
use Rattle.fk_spec.specs.Teller.{Note, note_of}
use Rattle.fk_spec.specs.Function.{Place, Absent, Following, Leading, Telling, Beating, place_of, is_absent, actor, placed, telling, moved, place_by, started_at}
use Rattle.fk_spec.specs.Next.{IsHistory}
use Rattle.fk_law.specs.Due.{IsDue}
use Rattle.fk_spec.specs.Lanes.{notifies, removed_by, removed_in, notes_of, note_count}
use Rattle.fk_spec.specs.Client.{client_in}
use Rattle.fk_law.specs.Functions.{IsFor, TellerWorksAtOrBelowTheHead}
use Rattle.fk_law.proofs.Due.{due}
use Rattle.fk_law.proofs.Moving.{place_step, moved_follower, moved_leader}
use Rattle.fk_base.proofs.Logic.{itself}

-- tasks ----------------------------------------------------------------------------------------------

task_bound_step : (p : Plan) (n : ℕ) (h : List Entry) (o : Op) (x : Task) → IsDue p h o → (task_of n h ≡ Some x → (1 ≤ n) × (n ≤ starts_of h)) → or_else (task_here n (started_in o)) (task_of n h) ≡ Some x → (1 ≤ n) × (n ≤ count_start (started_in o) (starts_of h))
task_bound_step p n h o x d i e = grind (arith, nat_tests)

-- a function that was started has a number up to the count of starts
pub task_bound : (p : Plan) (n : ℕ) (h : List Entry) (x : Task) → IsHistory p h → task_of n h ≡ Some x → (1 ≤ n) × (n ≤ starts_of h)
task_bound p n [] x l e = grind arith
task_bound p n (e ∷ h) x l i = task_bound_step p n h e.op x (due p e h l) (task_bound p n h x l.0) i

task_stays_step : (p : Plan) (n : ℕ) (h : List Entry) (o : Op) (x : Task) → IsDue p h o → n ≤ starts_of h → task_of n h ≡ Some x → or_else (task_here n (started_in o)) (task_of n h) ≡ Some x
task_stays_step p n h o x d b e = grind (arith, nat_tests)

pub task_stays : (p : Plan) (n : ℕ) (e : Entry) (h : List Entry) (x : Task) → IsHistory p (e ∷ h) → task_of n h ≡ Some x → task_of n (e ∷ h) ≡ Some x
task_stays p n e h x l i = task_stays_step p n h e.op x (due p e h l) (task_bound p n h x l.0 i).1 i

pub task_never_changes : (p : Plan) (n : ℕ) (h more : List Entry) (x : Task) → IsHistory p (more ++ h) → task_of n h ≡ Some x → task_of n (more ++ h) ≡ Some x
task_never_changes p n h [] x l i = i
task_never_changes p n h (e ∷ more) x l i = task_stays p n e (more ++ h) x l (task_never_changes p n h more x l.0 i)

-- places ----------------------------------------------------------------------------------------------

telling_for : (w : ℕ) (o : Option Note) → IsFor (Some (Notifies w)) (telling w o)
telling_for w None = tt
telling_for w (Some x) = refl

placed_for : (p : Plan) (h : List Entry) (t : Task) → IsFor (Some t) (placed p h t)
placed_for p h (Follows c k) = refl
placed_for p h (Leads t) = refl
placed_for p h (Notifies w) = telling_for w (note_of p w h)
placed_for p h (Probes c) = refl

moved_for : (p : Plan) (h : List Entry) (o : Op) (t : Option Task) (x : Place) → IsFor t x → IsFor t (moved p h o x)
moved_for p h o t Absent i = tt
moved_for p h o t (Following f) i = moved_follower p h o f (IsFor t) tt (λ g a. rw (a.0, a.1) i)
moved_for p h o t (Leading s stage) i = moved_leader p h o s stage (IsFor t) tt i
moved_for p h o t (Telling w s stage) i = grind arith
moved_for p h o t (Beating c stage) i = grind arith

pub no_start : (o : Op) (n : ℕ) → actor o ≡ Some n → started_in o ≡ None
no_start o n e = grind arith

pub no_client : (o : Op) (n : ℕ) → actor o ≡ Some n → client_in o ≡ None
no_client o n e = grind arith

task_started : (n : ℕ) (o : Op) (s : Start) (t : Option Task) → started_in o ≡ Some s → s.function ≡ n → or_else (task_here n (started_in o)) t ≡ Some s.task
task_started n o s t e f = grind (arith, nat_tests)

for_absent : (t u : Option Task) (x : Place) → ((y : Task) → t ≡ Some y → u ≡ Some y) → IsFor t x → IsFor u x
for_absent t u Absent g i = tt
for_absent t u (Following f) g i = g _ i
for_absent t u (Leading s stage) g i = g _ i
for_absent t u (Telling w s stage) g i = g _ i
for_absent t u (Beating c stage) g i = g _ i

-- a function that stands somewhere does what it was started for
pub place_for : (p : Plan) (n : ℕ) (h : List Entry) → IsHistory p h → IsFor (task_of n h) (place_of p n h)
place_for p n [] l = tt
place_for p n (e ∷ h) l =
    let i : IsFor (task_of n (e ∷ h)) (place_of p n h) = for_absent (task_of n h) (task_of n (e ∷ h)) (place_of p n h) (λ x b. task_stays p n e h x l b) (place_for p n h l.0) in
    place_step p n h e.op (place_of p n h) (IsFor (task_of n (e ∷ h)))
    (λ _. i)
    (λ s b f. subst (λ (t : Option Task). IsFor t (placed p h s.task)) (sym (task_started n e.op s (task_of n h) b f)) (placed_for p h s.task))
    (λ _. moved_for p h e.op (task_of n (e ∷ h)) (place_of p n h) i)

some_task : (t : Option Task) (x : Place) → IsFor t x → is_absent x ≡ false → (y : Task) × (t ≡ Some y)
some_task t Absent i a = grind arith
some_task t (Following f) i a = (_, i)
some_task t (Leading s stage) i a = (_, i)
some_task t (Telling w s stage) i a = (_, i)
some_task t (Beating c stage) i a = (_, i)

pub place_bound : (p : Plan) (n : ℕ) (h : List Entry) → IsHistory p h → is_absent (place_of p n h) ≡ false → (1 ≤ n) × (n ≤ starts_of h)
place_bound p n h l a = let y = some_task (task_of n h) (place_of p n h) (place_for p n h l) a in task_bound p n h y.0 l y.1

pub follower_task : (p : Plan) (n : ℕ) (h : List Entry) (f : Follower) → IsHistory p h → place_of p n h ≡ Following f → task_of n h ≡ Some (Follows f.session f.k)
follower_task p n h f l e = subst (IsFor (task_of n h)) e (place_for p n h l)

pub leader_task : (p : Plan) (n : ℕ) (h : List Entry) (t : ℕ) (s : leader.Stage) → IsHistory p h → place_of p n h ≡ Leading t s → task_of n h ≡ Some (Leads t)
leader_task p n h t s l e = subst (IsFor (task_of n h)) e (place_for p n h l)

-- moves ----------------------------------------------------------------------------------------------

start_line : (o : Op) (s : Start) → started_in o ≡ Some s → actor o ≡ None
start_line o s e = grind arith

-- a start line puts its function where its task begins
pub start_places_it : (p : Plan) (e : Entry) (h : List Entry) (s : Start) → started_in e.op ≡ Some s → place_of p s.function (e ∷ h) ≡ placed p h s.task
start_places_it p e h s i =
    ap (λ a. place_by p s.function h e.op a (place_of p s.function h)) (start_line e.op s i)
    ∙ (ap (λ o. started_at p s.function h o (place_of p s.function h)) i ∙ ap (λ b. cond b (placed p h s.task) (place_of p s.function h)) (itself s.function))

-- a function's own operation moves it
pub own_operation_moves_it : (p : Plan) (n : ℕ) (e : Entry) (h : List Entry) → actor e.op ≡ Some n → place_of p n (e ∷ h) ≡ moved p h e.op (place_of p n h)
own_operation_moves_it p n e h i = ap (λ a. place_by p n h e.op a (place_of p n h)) i ∙ ap (λ b. cond b (moved p h e.op (place_of p n h)) (place_of p n h)) (itself n)

start_is_next : (p : Plan) (h : List Entry) (o : Op) (s : Start) → IsDue p h o → started_in o ≡ Some s → s.function ≡ starts_of h + 1
start_is_next p h o s d e = grind arith

-- another line leaves a function in flight where it stands
pub others_leave_it : (p : Plan) (n : ℕ) (e : Entry) (h : List Entry) → IsHistory p (e ∷ h) → is_absent (place_of p n h) ≡ false → actor e.op ≢ Some n → place_of p n (e ∷ h) ≡ place_of p n h
others_leave_it p n e h l a other =
    place_step p n h e.op (place_of p n h) (λ x. x ≡ place_of p n h)
    (λ _. refl)
    (λ s b f. let c = start_is_next p h e.op s (due p e h l) b in let w = place_bound p n h l.0 a in absurd (omega (arith, c, f, w.1)))
    (λ b. absurd (other b))

-- watch functions ------------------------------------------------------------------------------------

teller_step : (p : Plan) (n w : ℕ) (h : List Entry) (o : Op) → IsDue p h o → (task_of n h ≡ Some (Notifies w) → (1 ≤ w) × (w ≤ removed_by notifies h + 1) × (w ≤ notes_of h)) → or_else (task_here n (started_in o)) (task_of n h) ≡ Some (Notifies w) → (1 ≤ w) × (w ≤ removed_in notifies h o (removed_by notifies h) + 1) × (w ≤ note_count o (notes_of h))
teller_step p n w h o d i e = grind (arith, nat_tests)

pub teller_at_or_below_the_head : TellerWorksAtOrBelowTheHead
teller_at_or_below_the_head p n w [] l i = absurd (grind arith)
teller_at_or_below_the_head p n w (e ∷ h) l i = teller_step p n w h e.op (due p e h l) (teller_at_or_below_the_head p n w h l.0) i
