-- The client of a session, and the clients after its turn.
use Rattle.std.proofs.Common.{◌≡◌, ℕ, zero, suc, add-one, ◌+◌, ◌-◌, ◌<◌, ◌≤◌, true, false, List, [], ◌∷◌, length, get_or, set, map, Option, Some, None, refl, sym, ◌∙◌, ap, subst, arith}
use Rattle.std.proofs.lemmas.List.{map-set}
use Rattle.fk_client.specs.Idle.{is_idle}
use Rattle.fk_client.specs.Meaning as client
use Rattle.fk_client.specs.Standing.{client_of}
use Rattle.fk_client.specs.Steps.{Steps}
use Rattle.fk_client.specs.declared.client.Client.{Client}
use Rattle.fk_print.specs.declared.line.Line.{Line}
use Rattle.fk_print.specs.declared.op.Op.{Op}
use Rattle.fk_print.specs.declared.op.Op.TheVariants as op
use Rattle.fk_queue.specs.Lanes.{is_session}
use Rattle.fk_queue.specs.Meaning as post
use Rattle.fk_spec.specs.Plan.{item_after, nth}
use Rattle.fk_watch.specs.Services.{Services}
use Rattle.fk_engine.specs.DrainFit.{ArePosted, IsPostedAt}
use Rattle.fk_engine.specs.Turning.{TakeTurn, TakesTurn, services_by}
use Rattle.fk_engine.proofs.Steps.{same_services}

within : {X Y : Type 0} (f : X → Y) (xs : List X) (n : ℕ) (d : X) → n < length xs → item_after (map f xs) n ≡ Some (f (get_or xs n d))
within f [] n d l = let none : ⊥ = omega arith in absurd none
within f (x ∷ xs) zero d l = refl
within f (x ∷ xs) (suc n) d l = let less : n < length xs = omega arith in within f xs n d less

past : {X Y : Type 0} (f : X → Y) (xs : List X) (n : ℕ) → length xs ≤ n → item_after (map f xs) n ≡ None
past f [] n l = refl
past f (x ∷ xs) zero l = let none : ⊥ = omega arith in absurd none
past f (x ∷ xs) (suc n) l = let less : length xs ≤ n = omega arith in past f xs n less

-- the item at a place, from 1, stands one before it, from 0
pub nth_within : {X Y : Type 0} (f : X → Y) (xs : List X) (c i : ℕ) (d : X) → c ≡ i + 1 → i < length xs → nth (map f xs) c ≡ Some (f (get_or xs i d))
nth_within f xs c i d e l = rw (e, add-one) (within f xs i d l)

pub nth_past : {X Y : Type 0} (f : X → Y) (xs : List X) (c i : ℕ) → c ≡ i + 1 → length xs ≤ i → nth (map f xs) c ≡ None
nth_past f xs c i e l = rw (e, add-one) (past f xs i l)

pub set_within : {X Y : Type 0} (f : X → Y) (xs : List X) (c i : ℕ) (x : X) → c ≡ i + 1 → map f (set xs i x) ≡ set (map f xs) (c - 1) (f x)
set_within f xs c i x e = map-set f xs i x ∙ ap (λ j. set (map f xs) j (f x)) (place c i e)
  where
    place : (c i : ℕ) → c ≡ i + 1 → i ≡ c - 1
    place c i e = omega (arith, e)

-- ---- a client

-- its session
pub session_is : (x : Client) → (client_of x).session ≡ x.session
unfolding client_of
session_is x = refl

-- the client at a place
pub client_at : (xs : List Client) (c i : ℕ) (x : Client) → c ≡ i + 1 → i < length xs → x ≡ get_or xs i x → nth (map client_of xs) c ≡ Some (client_of x)
client_at xs c i x e l h = nth_within client_of xs c i x e l ∙ ap (λ y. Some (client_of y)) (sym h)

pub posted_at : (q : post.Meaning) (o : Option client.Meaning) (x : Client) → o ≡ Some (client_of x) → IsPostedAt q o → is_session q.sessions x.session ≡ true
posted_at q o x e h = subst (λ s. is_session q.sessions s ≡ true) (session_is x) (subst (IsPostedAt q) e h)

pub posted_first : (q : post.Meaning) (xs : List Client) (x : Client) → x ≡ get_or xs 0 x → 1 ≤ length xs → ArePosted q (map client_of xs) → is_session q.sessions x.session ≡ true
posted_first q [] x e l h = let none : ⊥ = omega (arith, l) in absurd none
posted_first q (y ∷ ys) x e l h = rw e (subst (λ s. is_session q.sessions s ≡ true) (session_is y) h.0)

-- an idle client does nothing
pub idle_turn : (s : Services) (m : client.Meaning) (ls : List Line) → is_idle s.post m ≡ true → ls ≡ [] → TakesTurn s s m m op.Idle ls
idle_turn s m ls e h = record {
  op = λ told i. rw e refl;
  lines = λ told i. rw e h;
  client = λ told i. rw e refl;
  services = λ told i. rw e refl;
}

-- another makes its operation
pub busy_turn : (s t : Services) (m n : client.Meaning) (o : Op) (ls : List Line) → is_idle s.post m ≡ false → Steps s t m n o ls → TakesTurn s t m n o ls
busy_turn s t m n o ls e h = record {
  op = λ told i. rw e (h.op told i);
  lines = λ told i. rw e (h.lines told i);
  client = λ told i. rw e (h.machine told i);
  services = λ told i. rw e (same_services t (services_by m o s) h.table h.post h.watches h.user ∙ ap (λ p. services_by m p s) (h.op told i));
}

-- the clients after the turn of one of them
pub turn_within : (s t : Services) (xs ys : List Client) (c i : ℕ) (x y : Client) (o : Op) (ls : List Line) → c ≡ i + 1 → i < length xs → x ≡ get_or xs i x → ys ≡ set xs i y
    → TakesTurn s t (client_of x) (client_of y) o ls → TakeTurn s t c (nth (map client_of xs) c) (map client_of xs) (map client_of ys) o ls
turn_within s t xs ys c i x y o ls e l h u k = subst (λ m. TakeTurn s t c m (map client_of xs) (map client_of ys) o ls) (sym (client_at xs c i x e l h)) (record {
  op = k.op;
  lines = k.lines;
  clients = λ told j. ap (map client_of) u ∙ set_within client_of xs c i y e ∙ ap (λ m. set (map client_of xs) (c - 1) m) (k.client told j);
  services = k.services;
})

pub turn_past : (s : Services) (c : ℕ) (m : Option client.Meaning) (ms : List client.Meaning) (ls : List Line) → m ≡ None → ls ≡ [] → TakeTurn s s c m ms ms op.Idle ls
turn_past s c m ms ls e h = subst (λ o. TakeTurn s s c o ms ms op.Idle ls) (sym e) (record { op = λ told j. refl; lines = λ told j. h; clients = λ told j. refl; services = λ told j. refl })

-- the same services by another name
pub turn_on : {a s t : Services} {c : ℕ} {m : Option client.Meaning} {ms ns : List client.Meaning} {o : Op} {ls : List Line} → a ≡ s → TakeTurn a t c m ms ns o ls → TakeTurn s t c m ms ns o ls
turn_on {a} {s} {t} {c} {m} {ms} {ns} {o} {ls} e h = subst (λ x. TakeTurn x t c m ms ns o ls) e h
