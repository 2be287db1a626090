-- What every deployment's plan has: the verb of a command fits what it asks.
use Rattle.std.specs.Prelude.{◌≡◌, ℕ, true, false, Some}
use Rattle.fk_tree.specs.Edit.{closes}
use Rattle.fk_tree.specs.declared.request.Request.{Request}
use Rattle.fk_tree.specs.declared.request.Request.TheVariants as request
use Rattle.fk_script.specs.declared.deployment.Deployment.{Deployment}
use Rattle.fk_spec.specs.Plan.{Plan, Ask, Writes, asked, plan_of}
use Rattle.fk_spec.specs.Client.{is_close_verb}
use Rattle.fk_law_watch.specs.FirstNumbers.{ReadsAreReads}
use Rattle.fk_law_client.specs.Views.{WritesAreWrites}

-- what has the verb of a close asks for a close that evicts none, and what asks for a close has its verb
pub record ClosesFit (a : Ask) : Type 0 where
  pub wants : is_close_verb a.verb ≡ true → a.want ≡ Writes (request.Close false)
  pub verb : (r : Request) → a.want ≡ Writes r → closes r ≡ true → is_close_verb a.verb ≡ true

abbrev pub ClosesAreCloses : Plan → Type 0
ClosesAreCloses p = (c i : ℕ) (a : Ask) → asked p c i ≡ Some a → ClosesFit a

-- what asks for an answer has the verb of a read, what asks for a change that of a write, and the verb of a
-- close stands exactly where the session is to be closed
pub record HasFittingVerbs (p : Plan) : Type 0 where
  pub reads : ReadsAreReads p
  pub writes : WritesAreWrites p
  pub closes : ClosesAreCloses p

-- So it is in what a deployment comes to.
abbrev pub DeploymentsHaveFittingVerbs : Type 0
DeploymentsHaveFittingVerbs = (d : Deployment) → HasFittingVerbs (plan_of d)
