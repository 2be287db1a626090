-- Every history that the rules allow is lawful.
use Rattle.std.proofs.Common.{List, [], ◌∷◌}
use Rattle.fk_print.specs.declared.entry.Entry.{Entry}
use Rattle.fk_spec.specs.Plan.{Plan, plan_of}
use Rattle.fk_spec.specs.Next.{IsHistory}
use Rattle.fk_spec.specs.Lawful.{IsLawful}
use Rattle.fk_law.proofs.Publishing.{each_request_once}
use Rattle.fk_law_client.proofs.Viewing.{views_kept}
use Rattle.fk_law_reply.specs.Plans.{HasFittingVerbs}
use Rattle.fk_law_reply.proofs.Causes.{refusals_have_their_cause}
use Rattle.fk_law_reply.proofs.Fitting.{replies_fit_the_tree}
use Rattle.fk_law_reply.proofs.Plans.{deployments_have_fitting_verbs}
use Rattle.fk_law_held.proofs.Noticing.{notifications_fit_the_watches}
use Rattle.fk_law_held.proofs.Passing.{no_read_passes_a_held_watch}
use Rattle.fk_law_lawful.specs.Everything.{EveryHistoryIsLawful, EveryPromiseIsKept}

pub every_promise_is_kept : EveryPromiseIsKept
every_promise_is_kept p h v l = record {
  once = each_request_once p h l;
  replies = replies_fit_the_tree p h v l;
  view = views_kept p h v.writes l;
  notices = notifications_fit_the_watches p h v l;
  watches = no_read_passes_a_held_watch p h v l;
  refusals = refusals_have_their_cause p h v l;
}

lawful : (p : Plan) (h : List Entry) → HasFittingVerbs p → IsHistory p h → IsLawful p h
lawful p [] v l = tt
lawful p (e ∷ h) v l = (lawful p h v l.0, l.1, every_promise_is_kept p (e ∷ h) v l)

pub every_history_is_lawful : EveryHistoryIsLawful
every_history_is_lawful d h l = lawful (plan_of d) h (deployments_have_fitting_verbs d) l
