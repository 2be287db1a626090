-- What asks for a change in a deployment has the verb of a write.
use Rattle.std.proofs.Common.{◌≡◌, ℕ, zero, suc, true, List, [], ◌∷◌, refl, subst, arith, Option, Some, None}
use Rattle.std.proofs.lemmas.Option.{same_Some}
use Rattle.fk_base.specs.Path.{PathNames}
use Rattle.fk_tree.specs.declared.request.Query.TheVariants as query
use Rattle.fk_tree.specs.declared.request.Request.{Request}
use Rattle.fk_script.specs.declared.command.Command.{Command}
use Rattle.fk_script.specs.declared.command.Command.TheVariants as command
use Rattle.fk_script.specs.declared.deployment.Block.{Block}
use Rattle.fk_script.specs.declared.deployment.Deployment.{Deployment}
use Rattle.fk_spec.specs.Plan.{Ask, Want, Writes, Reads, asked, asks_of, all_asks, ask_of, want_of, at_path, path_within, item_after, nth, or_empty, plan_of}
use Rattle.fk_spec.specs.Client.{is_write}
use Rattle.fk_law_client.specs.Views.{DeploymentsWriteByWrites}

abbrev NoWrite : Want → Type 0
NoWrite (Writes r) = ⊥
NoWrite _ = Unit {0}

no_write : (v : Want) (r : Request) → NoWrite v → v ≡ Writes r → ⊥
no_write v r n e = subst NoWrite e n

path_none : (o : Option PathNames) (f : PathNames → Want) → ((p : PathNames) → NoWrite (f p)) → NoWrite (at_path o f)
path_none None f i = tt
path_none (Some p) f i = i p

abbrev IsWrite : Ask → Type 0
IsWrite a = (r : Request) → a.want ≡ Writes r → is_write a.verb ≡ true

ask_so : (c : Command) → IsWrite (ask_of c)
ask_so (command.Create path bytes seq eph wait) r e = refl
ask_so (command.Set path bytes version wait) r e = refl
ask_so (command.Delete path version wait) r e = refl
ask_so command.Close r e = refl
ask_so (command.Multi parts wait) r e = refl
ask_so (command.Get path watch) r e = absurd (no_write (want_of (command.Get path watch)) r (path_none (path_within 512 path) (λ p. Reads (query.Get p) watch) (λ _. tt)) e)
ask_so (command.Stat path watch) r e = absurd (no_write (want_of (command.Stat path watch)) r (path_none (path_within 512 path) (λ p. Reads (query.Stat p) watch) (λ _. tt)) e)
ask_so (command.Ls path watch) r e = absurd (no_write (want_of (command.Ls path watch)) r (path_none (path_within 512 path) (λ p. Reads (query.Ls p) watch) (λ _. tt)) e)

-- What holds of each command's ask. -------------------------------------------------------------------

abbrev All : (Ask → Type 0) → List Ask → Type 0
All P [] = Unit {0}
All P (a ∷ xs) = P a × All P xs

abbrev AllOf : (Ask → Type 0) → List (List Ask) → Type 0
AllOf P [] = Unit {0}
AllOf P (xs ∷ all) = All P xs × AllOf P all

all_asked : (P : Ask → Type 0) (f : (c : Command) → P (ask_of c)) (cs : List Command) → All P (asks_of cs)
all_asked P f [] = tt
all_asked P f (c ∷ cs) = (f c, all_asked P f cs)

all_blocks : (P : Ask → Type 0) (f : (c : Command) → P (ask_of c)) (bs : List Block) → AllOf P (all_asks bs)
all_blocks P f [] = tt
all_blocks P f (b ∷ bs) = (all_asked P f b.commands, all_blocks P f bs)

item_of : (P : Ask → Type 0) (xs : List Ask) (n : ℕ) (a : Ask) → All P xs → item_after xs n ≡ Some a → P a
item_of P [] n a i e = absurd (grind arith)
item_of P (x ∷ xs) zero a i e = subst P (same_Some x a e) i.0
item_of P (x ∷ xs) (suc n) a i e = item_of P xs n a i.1 e

list_of : (P : Ask → Type 0) (all : List (List Ask)) (n : ℕ) → AllOf P all → All P (or_empty (item_after all n))
list_of P [] n i = tt
list_of P (xs ∷ all) zero i = i.0
list_of P (xs ∷ all) (suc n) i = list_of P all n i.1

nth_list : (P : Ask → Type 0) (all : List (List Ask)) (n : ℕ) → AllOf P all → All P (or_empty (nth all n))
nth_list P all zero i = tt
nth_list P all (suc n) i = list_of P all n i

nth_of : (P : Ask → Type 0) (xs : List Ask) (n : ℕ) (a : Ask) → All P xs → nth xs n ≡ Some a → P a
nth_of P xs zero a i e = absurd (grind arith)
nth_of P xs (suc n) a i e = item_of P xs n a i e

-- what holds of the ask of every command holds of each that a deployment's plan has
pub every_ask : (P : Ask → Type 0) (f : (c : Command) → P (ask_of c)) (d : Deployment) (c i : ℕ) (a : Ask) → asked (plan_of d) c i ≡ Some a → P a
every_ask P f d c i a e = nth_of P (or_empty (nth (all_asks d.clients) c)) i a (nth_list P (all_asks d.clients) c (all_blocks P f d.clients)) e

pub deployments_write : DeploymentsWriteByWrites
deployments_write d c i a r e f = every_ask IsWrite ask_so d c i a e r f
