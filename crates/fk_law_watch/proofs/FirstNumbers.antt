-- A watch's first number: it is published when the watch is set, and the watch fires beyond it.
use Rattle.std.specs.Prelude.{◌==◌}
use Rattle.std.proofs.Common.{◌≡◌, ℕ, zero, suc, ◌<◌, ◌≤◌, Bool, true, false, List, [], ◌∷◌, refl, sym, ◌∙◌, ap, subst, arith, Option, Some, None}
use Rattle.std.proofs.lemmas.Bool.{false≢true, cond_both}
use Rattle.std.proofs.lemmas.Bool.Decides.{nat_tests}
use Rattle.std.proofs.lemmas.Option.{same_Some}
use Rattle.fk_base.specs.Path.{PathNames, is_root}
use Rattle.fk_tree.specs.declared.request.Part.{Part}
use Rattle.fk_tree.specs.declared.request.Query.{Query}
use Rattle.fk_tree.specs.declared.request.Request.TheVariants as request
use Rattle.fk_print.specs.declared.entry.Entry.{Entry}
use Rattle.fk_print.specs.declared.op.Op.{Op}
use Rattle.fk_print.specs.declared.op.Op.TheVariants as op
use Rattle.fk_script.specs.declared.command.Command.{Command}
use Rattle.fk_script.specs.declared.command.Command.TheVariants as command
use Rattle.fk_script.specs.declared.deployment.Block.{Block}
use Rattle.fk_spec.specs.Plan.{Plan, Ask, Want, Unfit, Writes, Reads, asks_of, all_asks, ask_of, want_of, at_path, want_delete, want_multi, parts_of, path_within, path_limit, is_small, item_after, nth, or_empty}
use Rattle.fk_spec.specs.Start.{or_else, when}
use Rattle.fk_spec.specs.Settling.{mark_of}
use Rattle.fk_spec.specs.Client.{is_write}
use Rattle.fk_spec.specs.Watches.{Firing, firing_of}
use Rattle.fk_spec.specs.Next.{IsHistory}
use Rattle.fk_law.specs.Due.{IsDue}
use Rattle.fk_law.specs.LeaderLane.{sweeps}
use Rattle.fk_law.proofs.Due.{due}
use Rattle.fk_law.proofs.Leading.{mark_behind_sweep, mark_grows}
use Rattle.fk_law_watch.specs.FirstNumbers.{ReadsAreReads, DeploymentsReadByReads, FiresBeyondItsFirst}
use Rattle.fk_law_watch.specs.Registering.{number_of_read}
use Rattle.fk_law_watch.specs.SetWatches.{first_of, registered_in}
use Rattle.fk_law_watch.proofs.SetWatches.{or_none, or_stays, firing_never_changes, fired_watch_fired_at_its_first_change}
use Rattle.fk_law_watch.proofs.Telling.{newly_fired}
use Rattle.fk_law_watch.proofs.Reading.{watches_are_set_up_to_the_mark}

-- What deployments ask for. ----------------------------------------------------------------------------

abbrev NoRead : Want → Type 0
NoRead (Reads q w) = ⊥
NoRead _ = Unit {0}

no_read : (v : Want) (q : Query) (w : Bool) → NoRead v → v ≡ Reads q w → ⊥
no_read v q w n e = subst NoRead e n

path_none : (o : Option PathNames) (f : PathNames → Want) → ((p : PathNames) → NoRead (f p)) → NoRead (at_path o f)
path_none None f i = tt
path_none (Some p) f i = i p

delete_none : (p : PathNames) (w : Want) → NoRead w → NoRead (want_delete p w)
delete_none p w i = cond_both (is_root p) Unfit w NoRead (λ _. tt) (λ _. i)

multi_none : (o : Option (List Part)) → NoRead (want_multi o)
multi_none None = tt
multi_none (Some ps) = tt

abbrev IsRead : Ask → Type 0
IsRead a = (q : Query) (w : Bool) → a.want ≡ Reads q w → is_write a.verb ≡ false

asks_so : (c : Command) → IsRead (ask_of c)
asks_so (command.Get path watch) q w e = refl
asks_so (command.Stat path watch) q w e = refl
asks_so (command.Ls path watch) q w e = refl
asks_so (command.Create path bytes seq eph wait) q w e = absurd (no_read (want_of (command.Create path bytes seq eph wait)) q w (cond_both (is_small bytes) (at_path (path_within (path_limit seq) path) (λ p. Writes (request.Create p bytes seq eph))) Unfit NoRead (λ _. path_none (path_within (path_limit seq) path) (λ p. Writes (request.Create p bytes seq eph)) (λ _. tt)) (λ _. tt)) e)
asks_so (command.Set path bytes version wait) q w e = absurd (no_read (want_of (command.Set path bytes version wait)) q w (cond_both (is_small bytes) (at_path (path_within 512 path) (λ p. Writes (request.Set p bytes version))) Unfit NoRead (λ _. path_none (path_within 512 path) (λ p. Writes (request.Set p bytes version)) (λ _. tt)) (λ _. tt)) e)
asks_so (command.Delete path version wait) q w e = absurd (no_read (want_of (command.Delete path version wait)) q w (path_none (path_within 512 path) (λ p. want_delete p (Writes (request.Delete p version))) (λ p. delete_none p (Writes (request.Delete p version)) tt)) e)
asks_so command.Close q w e = absurd (no_read (want_of command.Close) q w tt e)
asks_so (command.Multi parts wait) q w e = absurd (no_read (want_of (command.Multi parts wait)) q w (multi_none (parts_of parts)) e)

abbrev AreReads : List Ask → Type 0
AreReads [] = Unit {0}
AreReads (a ∷ xs) = IsRead a × AreReads xs

abbrev AllReads : List (List Ask) → Type 0
AllReads [] = Unit {0}
AllReads (xs ∷ all) = AreReads xs × AllReads all

asks_reads : (cs : List Command) → AreReads (asks_of cs)
asks_reads [] = tt
asks_reads (c ∷ cs) = (asks_so c, asks_reads cs)

all_reads : (bs : List Block) → AllReads (all_asks bs)
all_reads [] = tt
all_reads (b ∷ bs) = (asks_reads b.commands, all_reads bs)

item_read : (xs : List Ask) (n : ℕ) (a : Ask) → AreReads xs → item_after xs n ≡ Some a → IsRead a
item_read [] n a i e = absurd (grind arith)
item_read (x ∷ xs) zero a i e = subst IsRead (same_Some x a e) i.0
  where
    same_Some : (x y : Ask) → Some x ≡ Some y → x ≡ y
    same_Some x y e = cc
item_read (x ∷ xs) (suc n) a i e = item_read xs n a i.1 e

list_read : (all : List (List Ask)) (n : ℕ) → AllReads all → AreReads (or_empty (item_after all n))
list_read [] n i = tt
list_read (xs ∷ all) zero i = i.0
list_read (xs ∷ all) (suc n) i = list_read all n i.1

nth_list : (all : List (List Ask)) (n : ℕ) → AllReads all → AreReads (or_empty (nth all n))
nth_list all zero i = tt
nth_list all (suc n) i = list_read all n i

nth_read : (xs : List Ask) (n : ℕ) (a : Ask) → AreReads xs → nth xs n ≡ Some a → IsRead a
nth_read xs zero a i e = absurd (grind arith)
nth_read xs (suc n) a i e = item_read xs n a i e

pub deployments_read_by_reads : DeploymentsReadByReads
deployments_read_by_reads d c i a q w e f = nth_read (or_empty (nth (all_asks d.clients) c)) i a (nth_list (all_asks d.clients) c (all_reads d.clients)) e q w f

-- First numbers. ---------------------------------------------------------------------------------------

registered_low : (p : Plan) (id first : ℕ) (e : Entry) (h : List Entry) (o : Op) → e.op ≡ o → ReadsAreReads p → IsHistory p (e ∷ h) → registered_in p id h o ≡ Some first → first ≤ mark_of h
registered_low p id first e h (op.WatchSet c i j) q k l a = subst (λ z. z ≤ mark_of h) (number (j == id) a) (watches_are_set_up_to_the_mark p c i j e h k l q)
  where
    number : (b : Bool) → when b (number_of_read p c h) ≡ Some first → number_of_read p c h ≡ first
    number true a = same_Some (number_of_read p c h) first a
    number false a = absurd (grind arith)
registered_low p id first e h o q k l a = absurd (grind arith)

first_low : (p : Plan) (id first : ℕ) (h : List Entry) → ReadsAreReads p → IsHistory p h → first_of p id h ≡ Some first → first ≤ mark_of h
first_low p id first [] k l a = absurd (grind arith)
first_low p id first (e ∷ h) k l a = by_old (first_of p id h) refl a (first_low p id first h k l.0)
  where
    by_old : (o : Option ℕ) → first_of p id h ≡ o → or_else o (registered_in p id h e.op) ≡ Some first → (first_of p id h ≡ Some first → first ≤ mark_of h) → first ≤ mark_of (e ∷ h)
    by_old None b c i = let x = registered_low p id first e h e.op refl k l c in let g = mark_grows (mark_of h) e.op in omega (arith, x, g)
    by_old (Some m) b c i = let x = i (b ∙ c) in let g = mark_grows (mark_of h) e.op in omega (arith, x, g)

beyond_step : (p : Plan) (id first t : ℕ) (h : List Entry) (o : Op) → ReadsAreReads p → IsHistory p h → IsDue p h o → sweeps t o ≡ true → or_else (first_of p id h) (registered_in p id h o) ≡ Some first → first < t
beyond_step p id first t h (op.SweepOk n s f) k l d a b =
    let x = first_low p id first h k l (sym (or_none (first_of p id h)) ∙ b) in
    let m = (mark_behind_sweep p h l).0 in
    let g = d.1 in
    let q = same a in
    omega (arith, x, m, g, q)
  where
    same : (s == t) ≡ true → s ≡ t
    same a = grind (arith, nat_tests)
beyond_step p id first t h o k l d a b = absurd (false≢true a)

pub fires_beyond_its_first : FiresBeyondItsFirst
fires_beyond_its_first p id first [] f k l a b = absurd (grind arith)
fires_beyond_its_first p id first (e ∷ h) f k l a b = by_old (firing_of p id h) refl (λ c d. fires_beyond_its_first p id first h f k l.0 c d)
  where
    by_old : (o : Option Firing) → firing_of p id h ≡ o → (firing_of p id h ≡ Some f → first_of p id h ≡ Some first → first < f.tx) → first < f.tx
    by_old None c i = beyond_step p id first f.tx h e.op k l.0 (due p e h l) (newly_fired p id h f e.op l.0 c a) b
    by_old (Some g) c i =
        let q : firing_of p id h ≡ Some f = c ∙ sym (firing_never_changes p id h (e ∷ []) g l c) ∙ a in
        let w = fired_watch_fired_at_its_first_change p id h f l.0 q in
        let m = same_Some w.first first (sym (or_stays (first_of p id h) (registered_in p id h e.op) w.first w.registered) ∙ b) in
        i q (w.registered ∙ ap Some m)
