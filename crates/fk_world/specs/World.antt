-- What a world is seen as, and what is true of every world.
use Rattle.std.specs.Prelude.{◌≡◌, ◌<◌, ◌^◌, ⊤, Bool, true, false, List, [], ◌∷◌, length, ℕ, suc, OnOk, OnErr, Result}
use Rattle.fk_print.specs.declared.entry.Entry.{Entry}
use Rattle.fk_print.specs.declared.event.Event.{Event}
use Rattle.fk_script.specs.PrintLaws.{IsMeant}
use Rattle.fk_script.specs.declared.deployment.Block.{Block}
use Rattle.fk_script.specs.declared.deployment.Deployment.{Deployment}
use Rattle.fk_spec.specs.Next.{IsHistory, next_entry}
use Rattle.fk_spec.specs.Plan.{Ask, plan_of}
use Rattle.fk_spec.specs.Start.{clock_of}
use Rattle.fk_client.specs.Meaning as client
use Rattle.fk_client.specs.Meaning.{new_client}
use Rattle.fk_engine.specs.Engine as engine
use Rattle.fk_agree_engine.specs.World.{IsWorld}
use Rattle.fk_world.specs.Clocks.{clock_shown}

-- the past is seen newest first; a world that isn't spent goes on
pub record View : Type 0 where
  pub deployment : Deployment
  pub past : List Entry
  pub spent : Bool

-- Some bytes mean the deployment, the past is a history of it, and where the world isn't spent the engine stands
-- where that history says.
pub record IsSound (d : Deployment) (m : engine.Meaning) : Type 0 where
  pub meant : IsMeant d
  pub past : IsHistory (plan_of d) m.past
  pub stands : m.spent ≡ false → IsWorld (plan_of d) m.past m.parts

-- clients that did nothing yet, whose sessions are counted from this one on
abbrev pub new_clients : ℕ → List (List Ask) → List client.Meaning
new_clients c [] = []
new_clients c (asks ∷ rest) = new_client c asks ∷ new_clients (suc c) rest

-- each of these blocks has fewer than 2^32 commands
abbrev pub AreShort : List Block → Type 0
AreShort [] = ⊤
AreShort (b ∷ bs) = (length b.commands < 2 ^ 32) × AreShort bs

-- This entry was added, and the world goes on.
pub record Adds (e : Entry) (w x : View) : Type 0 where
  pub unspent : w.spent ≡ false
  pub room : length w.past < 2 ^ 62
  pub past : x.past ≡ e ∷ w.past
  pub going : x.spent ≡ false

-- There was no memory: the past is as before, and the world is spent.
pub record Stops (w x : View) : Type 0 where
  pub past : x.past ≡ w.past
  pub spent : x.spent ≡ true

-- What an event comes to: its entry is added and moves the clock as the event says, or there was no memory.
pub record Comes {T E : Type 0} (e : Event) (r : Result T E) (w x : View) : Type 0 where
  pub added : OnOk r (Adds (next_entry (plan_of w.deployment) w.past e) w x)
  pub clock : OnOk r (clock_of x.past ≡ clock_shown e (clock_of w.past))
  pub stopped : OnErr r (Stops w x)
  pub deployment : x.deployment ≡ w.deployment
