-- What the workers of a new desk are given, written down by hand.
use Rattle.std.specs.Prelude.{◌≡◌, true, false, List, [], ◌∷◌, codes, replicate}
use Rattle.fk_print.specs.declared.event.Event.TheVariants as event
use Rattle.fk_script.specs.declared.command.Command.TheVariants as command
use Rattle.fk_script.specs.declared.deployment.Deployment.{Deployment}
use Rattle.fk_spec.specs.Plan.{plan_of}
use Rattle.fk_live.specs.Choosing.{choice, idle_worker, worker_at}
use Rattle.fk_live.specs.Desk.{noted}
use Rattle.fk_live.specs.declared.pick.Pick.TheVariants as pick
use Rattle.fk_live.specs.declared.worker.Worker.{Worker}

-- two clients, each with one command
abbrev pub pair : Deployment
pair = record {
  config = record { lock = 10; beat = 30 };
  clients = record { name = codes "a"; commands = command.Create (codes "/x") [] false false true ∷ [] }
      ∷ record { name = codes "b"; commands = command.Create (codes "/y") [] false false true ∷ [] }
      ∷ [];
  turns = [];
  scheduled = false;
}

abbrev pub new_workers : List Worker
new_workers = replicate 16 idle_worker

abbrev pub one_picked : List Worker
one_picked = noted 1 idle_worker (pick.Make (event.Client 1)) new_workers

abbrev pub two_picked : List Worker
two_picked = noted 2 idle_worker (pick.Make (event.Client 2)) one_picked

-- the first worker is given a turn of the first client, the second one of the second, and the third waits
pub record NewDeskOffersTurns : Type 0 where
  pub first : choice (plan_of pair) pair.clients [] new_workers (worker_at 1 new_workers) ≡ pick.Make (event.Client 1)
  pub second : choice (plan_of pair) pair.clients [] one_picked (worker_at 2 one_picked) ≡ pick.Make (event.Client 2)
  pub third : choice (plan_of pair) pair.clients [] two_picked (worker_at 3 two_picked) ≡ pick.Wait
