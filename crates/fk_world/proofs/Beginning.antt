-- A new world.
use Rattle.std.specs.Prelude.{zero}
use Rattle.std.proofs.Common.{◌≡◌, ℕ, suc, ◌+◌, ◌≤◌, List, [], ◌∷◌, length, refl, sym, ◌∙◌, ap, subst, arith, Option, Some, None}
use Rattle.std.proofs.lemmas.Option.{none-some}
use Rattle.fk_script.specs.PrintLaws.{IsMeant}
use Rattle.fk_script.specs.declared.command.Command.{Command}
use Rattle.fk_script.specs.declared.deployment.Block.{Block}
use Rattle.fk_script.specs.declared.deployment.Deployment.{Deployment}
use Rattle.fk_spec.specs.Plan.{Ask, all_asks, asks_of, item_after, nth, or_empty, plan_of}
use Rattle.fk_store.specs.Meaning as table
use Rattle.fk_store.specs.Meaning.{new_table}
use Rattle.fk_client.specs.Meaning as client
use Rattle.fk_client.specs.Meaning.{new_client}
use Rattle.fk_limits.proofs.Deployments.{clients_are_few, commands_are_few}
use Rattle.fk_engine.specs.Engine as engine
use Rattle.fk_engine.specs.Engine.{new_engine}
use Rattle.fk_agree_engine.specs.World.{IsWorld}
use Rattle.fk_agree_engine.proofs.Fits.{new_engine_stands}
use Rattle.fk_world.specs.World.{AreShort, IsSound, new_clients}

-- Each client has few commands. ---------------------------------------------------------------------------

asked_each : (cs : List Command) → length (asks_of cs) ≡ length cs
asked_each [] = refl
asked_each (c ∷ cs) = ap suc (asked_each cs)

pub asked_all : (bs : List Block) → length (all_asks bs) ≡ length bs
asked_all [] = refl
asked_all (b ∷ bs) = ap suc (asked_all bs)

short_blocks : (bs : List Block) → ((k : ℕ) → length (or_empty (item_after (all_asks bs) k)) ≤ 2048) → AreShort bs
short_blocks [] f = tt
short_blocks (b ∷ bs) f = let a = asked_each b.commands in let g = f 0 in (omega (arith, a, g), short_blocks bs (λ k. f (suc k)))

pub are_short : (d : Deployment) → IsMeant d → AreShort d.clients
are_short d m = short_blocks d.clients (λ k. commands_are_few d (suc k) m)

pub are_few : (d : Deployment) → IsMeant d → length d.clients ≤ 64
are_few d m = subst (λ (n : ℕ). n ≤ 64) (asked_all d.clients) (clients_are_few d m)

-- The clients. --------------------------------------------------------------------------------------------

new_count : (s : ℕ) (xs : List (List Ask)) → length (new_clients s xs) ≡ length xs
new_count s [] = refl
new_count s (x ∷ xs) = ap suc (new_count (suc s) xs)

abbrev or_given : client.Meaning → Option client.Meaning → client.Meaning
or_given m None = m
or_given m (Some x) = x

new_item : (xs : List (List Ask)) (k s n : ℕ) (m : client.Meaning) → n ≡ s + k → item_after (new_clients s xs) k ≡ Some m → m ≡ new_client n (or_empty (item_after xs k))
new_item [] k s n m e q = absurd (none-some m q)
new_item (x ∷ xs) zero s n m e q = sym (ap (or_given m) q) ∙ ap (λ i. new_client i x) (omega (arith, e))
new_item (x ∷ xs) (suc k) s n m e q = new_item xs k (suc s) n m (omega (arith, e)) q

new_nth : (xs : List (List Ask)) (c : ℕ) (m : client.Meaning) → nth (new_clients 1 xs) c ≡ Some m → m ≡ new_client c (or_empty (nth xs c))
new_nth xs zero m q = absurd (none-some m q)
new_nth xs (suc k) m q = new_item xs k 1 (suc k) m (omega arith) q

new_stands : (d : Deployment) (ms : List client.Meaning) (t : table.Meaning) → t ≡ new_table (length (plan_of d).asks) → ms ≡ new_clients 1 (plan_of d).asks → IsWorld (plan_of d) [] (new_engine d.config.lock d.config.beat ms t).parts
new_stands d ms t a b =
    let p = plan_of d in
    subst (λ (z : table.Meaning). IsWorld p [] (new_engine p.lock p.beat ms z).parts) (sym a)
    (new_engine_stands p ms (ap length b ∙ new_count 1 p.asks) (λ c m q. new_nth p.asks c m (sym (ap (λ (zs : List client.Meaning). nth zs c) b) ∙ q)))

pub new_sound : (d : Deployment) (ms : List client.Meaning) (t : table.Meaning) (m : engine.Meaning) → IsMeant d → t ≡ new_table (length (plan_of d).asks) → ms ≡ new_clients 1 (plan_of d).asks → m ≡ new_engine d.config.lock d.config.beat ms t → IsSound d m
new_sound d ms t m i a b e = subst (IsSound d) (sym e) (record { meant = i; past = tt; stands = λ z. new_stands d ms t a b })
