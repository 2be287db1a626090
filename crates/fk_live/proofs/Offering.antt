-- The events that a worker may be given.
use Rattle.std.specs.Prelude.{◌-◌, nat_le, if◌then◌else◌, get_or, set}
use Rattle.std.proofs.Common.{◌≡◌, ℕ, zero, suc, ◌+◌, ◌≤◌, ◌<◌, Bool, true, false, List, [], ◌∷◌, ◌++◌, length, refl, sym, ◌∙◌, ap, arith, Option, Some, None}
use Rattle.std.proofs.lemmas.Bool.{and_from}
use Rattle.std.proofs.lemmas.Bool.Decides.{nat_tests}
use Rattle.fk_print.specs.declared.entry.Entry.{Entry}
use Rattle.fk_print.specs.declared.event.Event.{Event}
use Rattle.fk_print.specs.declared.event.Event.TheVariants as event
use Rattle.fk_script.specs.declared.deployment.Block.{Block}
use Rattle.fk_script.specs.declared.deployment.Deployment.{Deployment}
use Rattle.fk_spec.specs.Plan.{Plan, is_client, plan_of}
use Rattle.fk_spec.specs.Start.{or_else}
use Rattle.fk_world.proofs.Beginning.{asked_all}
use Rattle.fk_live.specs.Choosing.{candidates, choice, deliveries, first_free, idle_worker, is_flying, is_free, make_or_wait, own_step, turns, worker_at}
use Rattle.fk_live.specs.Desk.{ArePicked, IsOffered, IsPicked, noted}
use Rattle.fk_live.specs.declared.worker.Started.{Started}
use Rattle.fk_live.specs.declared.worker.Worker.{Worker}

-- The first of two lists. ----------------------------------------------------------------------------------

or_else_if : (b : Bool) (e : Event) (o r : Option Event) → (if b then Some e else or_else o r) ≡ or_else (if b then Some e else o) r
or_else_if true e o r = refl
or_else_if false e o r = refl

first_of_append : (p : Plan) (h : List Entry) (ws : List Worker) (es fs : List Event)
    → first_free p h ws (es ++ fs) ≡ or_else (first_free p h ws es) (first_free p h ws fs)
first_of_append p h ws [] fs = refl
first_of_append p h ws (e ∷ es) fs =
    ap (λ (o : Option Event). if is_free p h ws e then Some e else o) (first_of_append p h ws es fs)
    ∙ or_else_if (is_free p h ws e) e (first_free p h ws es) (first_free p h ws fs)

-- the first event is one of these
pub first_there : (p : Plan) (h : List Entry) (ws : List Worker) (es fs : List Event) (e : Event) → Some e ≡ first_free p h ws es
    → Some e ≡ first_free p h ws (es ++ fs)
first_there p h ws es fs e f = ap (λ (o : Option Event). or_else o (first_free p h ws fs)) f ∙ sym (first_of_append p h ws es fs)

-- none of these is free, so it is one of the others
pub first_behind : (p : Plan) (h : List Entry) (ws : List Worker) (es fs : List Event) (o : Option Event) → None ≡ first_free p h ws es → o ≡ first_free p h ws fs
    → o ≡ first_free p h ws (es ++ fs)
first_behind p h ws es fs o f g = g ∙ ap (λ (q : Option Event). or_else q (first_free p h ws fs)) f ∙ sym (first_of_append p h ws es fs)

-- Each names a client. -------------------------------------------------------------------------------------

leb_from : (a b : ℕ) → a ≤ b → nat_le a b ≡ true
leb_from a b l = grind (arith, nat_tests)

pub client_named : (p : Plan) (c n : ℕ) → 1 ≤ c → c + suc n ≤ length p.asks + 1 → is_client p c ≡ true
client_named p c n a b = and_from (nat_le 1 c) (nat_le c (length p.asks)) (leb_from 1 c a) (leb_from c (length p.asks) (omega (arith, b)))

pub clients_named : (d : Deployment) → 1 + length d.clients ≤ length (plan_of d).asks + 1
clients_named d = let e = asked_all d.clients in omega (arith, e)

abbrev AreOffered : Plan → List Event → Type 0
AreOffered p [] = Unit {0}
AreOffered p (e ∷ es) = IsOffered p e × AreOffered p es

offered_both : (p : Plan) (es fs : List Event) → AreOffered p es → AreOffered p fs → AreOffered p (es ++ fs)
offered_both p [] fs a b = b
offered_both p (e ∷ es) fs a b = (a.0, offered_both p es fs a.1 b)

deliveries_offered : (p : Plan) (bs : List Block) (c : ℕ) → 1 ≤ c → c + length bs ≤ length p.asks + 1 → AreOffered p (deliveries bs c)
deliveries_offered p [] c a l = tt
deliveries_offered p (b ∷ bs) c a l = (client_named p c (length bs) a l, deliveries_offered p bs (suc c) (omega arith) (omega (arith, l)))

turns_offered : (p : Plan) (bs : List Block) (c : ℕ) → 1 ≤ c → c + length bs ≤ length p.asks + 1 → AreOffered p (turns bs c)
turns_offered p [] c a l = tt
turns_offered p (b ∷ bs) c a l = (client_named p c (length bs) a l, turns_offered p bs (suc c) (omega arith) (omega (arith, l)))

candidates_offered : (d : Deployment) → AreOffered (plan_of d) (candidates d.clients)
candidates_offered d =
    let l = clients_named d in
    (tt, (tt, offered_both (plan_of d) (deliveries d.clients 1) (turns d.clients 1) (deliveries_offered (plan_of d) d.clients 1 (omega arith) l) (turns_offered (plan_of d) d.clients 1 (omega arith) l)))

free_offered : (p : Plan) (b : Bool) (e : Event) (o : Option Event) → IsOffered p e → IsPicked p o → IsPicked p (if b then Some e else o)
free_offered p true e o a i = a
free_offered p false e o a i = i

first_offered : (p : Plan) (h : List Entry) (ws : List Worker) (es : List Event) → AreOffered p es → IsPicked p (first_free p h ws es)
first_offered p h ws [] a = tt
first_offered p h ws (e ∷ es) a = free_offered p (is_free p h ws e) e (first_free p h ws es) a.0 (first_offered p h ws es a.1)

own_offered : (p : Plan) (h : List Entry) (o : Option Started) → IsPicked p (own_step p h o)
own_offered p h None = tt
own_offered p h (Some s) = free_offered p (is_flying p h s.function) (event.Step s.function) None tt tt

or_offered : (p : Plan) (o q : Option Event) → IsPicked p o → IsPicked p q → IsPicked p (or_else o q)
or_offered p None q a b = b
or_offered p (Some e) q a b = a

-- Workers. -------------------------------------------------------------------------------------------------

-- one worker picks an event that it may
pub set_picked : (p : Plan) (ws : List Worker) (i : ℕ) (w : Worker) → IsPicked p w.picked → ArePicked p ws → ArePicked p (set ws i w)
set_picked p [] i w g a = tt
set_picked p (v ∷ vs) zero w g a = (g, a.1)
set_picked p (v ∷ vs) (suc i) w g a = (a.0, set_picked p vs i w g a.1)

get_picked : (p : Plan) (ws : List Worker) (i : ℕ) → ArePicked p ws → IsPicked p (get_or ws i idle_worker).picked
get_picked p [] i a = tt
get_picked p (v ∷ vs) zero a = a.0
get_picked p (v ∷ vs) (suc i) a = get_picked p vs i a.1

pub worker_picked : (p : Plan) (ws : List Worker) (n : ℕ) → ArePicked p ws → IsPicked p (worker_at n ws).picked
worker_picked p ws n a = get_picked p ws (n - 1) a

noted_picked : (p : Plan) (n : ℕ) (w : Worker) (o : Option Event) (ws : List Worker) → IsPicked p o → ArePicked p ws → ArePicked p (noted n w (make_or_wait o) ws)
noted_picked p n w None ws i a = a
noted_picked p n w (Some e) ws i a = set_picked p ws (n - 1) (record { picked = Some e; started = w.started }) i a

-- after a choice each worker has picked what it may
pub chosen_picked : (d : Deployment) (h : List Entry) (n : ℕ) (w : Worker) (ws : List Worker) → ArePicked (plan_of d) ws
    → ArePicked (plan_of d) (noted n w (choice (plan_of d) d.clients h ws w) ws)
chosen_picked d h n w ws a =
    let p = plan_of d in
    let o = own_step p h w.started in
    let q = first_free p h ws (candidates d.clients) in
    noted_picked p n w (or_else o q) ws (or_offered p o q (own_offered p h w.started) (first_offered p h ws (candidates d.clients) (candidates_offered d))) a

pub within : (ws : List Worker) (i : ℕ) (w : Worker) → i < length ws → w ≡ get_or ws i w → w ≡ get_or ws i idle_worker
within ws i w l e = e ∙ any ws i w idle_worker l
  where
    any : (xs : List Worker) (i : ℕ) (a b : Worker) → i < length xs → get_or xs i a ≡ get_or xs i b
    any [] i a b l = absurd (omega (arith, l))
    any (x ∷ xs) zero a b l = refl
    any (x ∷ xs) (suc i) a b l = any xs i a b (omega (arith, l))
