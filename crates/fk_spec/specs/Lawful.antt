-- A lawful history: each entry follows those before it, and each prefix keeps every promise.
use Rattle.std.specs.Prelude.{List, [], ◌∷◌}
use Rattle.fk_print.specs.declared.entry.Entry.{Entry}
use Rattle.fk_script.specs.declared.deployment.Deployment.{Deployment}
use Rattle.fk_spec.specs.Plan.{Plan, plan_of}
use Rattle.fk_spec.specs.Next.{IsNext}
use Rattle.fk_spec.specs.Promises.{PublishesOnce, RepliesFit, ViewNeverFalls, NotificationsFit, NoReadPassesAWatch}
use Rattle.fk_spec.specs.Refusals.{RefusalsFit}

pub record Promises (p : Plan) (h : List Entry) : Type 0 where
  pub once : PublishesOnce p h
  pub replies : RepliesFit p h
  pub view : ViewNeverFalls h
  pub notices : NotificationsFit p h
  pub watches : NoReadPassesAWatch p h
  pub refusals : RefusalsFit p h

-- each entry follows those before it, and each prefix keeps the promises
abbrev pub IsLawful : Plan → List Entry → Type 0
IsLawful p [] = Unit {0}
IsLawful p (e ∷ h) = IsLawful p h × IsNext p h e × Promises p (e ∷ h)

abbrev pub Lawful : Deployment → List Entry → Type 0
Lawful d h = IsLawful (plan_of d) h
