-- What every deployment's plan has: the verb of a command fits what it asks.
use Rattle.std.proofs.Common.{◌≡◌, if◌then◌else◌, Bool, true, false, List, refl, sym, ◌∙◌, subst, Option, Some, None}
use Rattle.std.proofs.lemmas.Bool.{false≢true, cond_both}
use Rattle.fk_base.specs.Path.{PathNames, is_root}
use Rattle.fk_tree.specs.Edit.{closes}
use Rattle.fk_tree.specs.declared.request.Part.{Part}
use Rattle.fk_tree.specs.declared.request.Request.{Request}
use Rattle.fk_tree.specs.declared.request.Request.TheVariants as request
use Rattle.fk_tree.specs.declared.request.Query.TheVariants as query
use Rattle.fk_script.specs.declared.command.Command.{Command}
use Rattle.fk_script.specs.declared.command.Command.TheVariants as command
use Rattle.fk_spec.specs.Plan.{Ask, Want, Unfit, Writes, Reads, ask_of, at_path, is_small, parts_of, path_limit, path_within, want_delete, want_multi}
use Rattle.fk_spec.specs.Client.{is_close_verb}
use Rattle.fk_law_watch.proofs.FirstNumbers.{deployments_read_by_reads}
use Rattle.fk_law_client.proofs.Verbs.{deployments_write, every_ask}
use Rattle.fk_law_reply.specs.Plans.{ClosesFit, DeploymentsHaveFittingVerbs}

-- it doesn't ask for a close
abbrev NoClose : Want → Type 0
NoClose (Writes r) = closes r ≡ false
NoClose _ = Unit {0}

path_none : (o : Option PathNames) (f : PathNames → Want) → ((p : PathNames) → NoClose (f p)) → NoClose (at_path o f)
path_none None f i = tt
path_none (Some p) f i = i p

small_none : (b : Bool) (w : Want) → NoClose w → NoClose (if b then w else Unfit)
small_none true w i = i
small_none false w i = tt

delete_none : (p : PathNames) (w : Want) → NoClose w → NoClose (want_delete p w)
delete_none p w i = cond_both (is_root p) Unfit w NoClose (λ _. tt) (λ _. i)

multi_none : (o : Option (List Part)) → NoClose (want_multi o)
multi_none None = tt
multi_none (Some ps) = refl

not_close : (w : Want) (r : Request) → NoClose w → w ≡ Writes r → closes r ≡ true → ⊥
not_close w r i e f = false≢true (sym (subst NoClose e i) ∙ f)

none_fits : (a : Ask) → is_close_verb a.verb ≡ false → NoClose a.want → ClosesFit a
none_fits a v i = record { wants = λ e. absurd (false≢true (sym v ∙ e)); verb = λ r e f. absurd (not_close a.want r i e f) }

ask_fits : (c : Command) → ClosesFit (ask_of c)
ask_fits (command.Create path bytes seq eph wait) = none_fits (ask_of (command.Create path bytes seq eph wait)) refl (small_none (is_small bytes) (at_path (path_within (path_limit seq) path) (λ p. Writes (request.Create p bytes seq eph))) (path_none (path_within (path_limit seq) path) (λ p. Writes (request.Create p bytes seq eph)) (λ _. refl)))
ask_fits (command.Set path bytes version wait) = none_fits (ask_of (command.Set path bytes version wait)) refl (small_none (is_small bytes) (at_path (path_within 512 path) (λ p. Writes (request.Set p bytes version))) (path_none (path_within 512 path) (λ p. Writes (request.Set p bytes version)) (λ _. refl)))
ask_fits (command.Delete path version wait) = none_fits (ask_of (command.Delete path version wait)) refl (path_none (path_within 512 path) (λ p. want_delete p (Writes (request.Delete p version))) (λ p. delete_none p (Writes (request.Delete p version)) refl))
ask_fits (command.Get path watch) = none_fits (ask_of (command.Get path watch)) refl (path_none (path_within 512 path) (λ p. Reads (query.Get p) watch) (λ _. tt))
ask_fits (command.Stat path watch) = none_fits (ask_of (command.Stat path watch)) refl (path_none (path_within 512 path) (λ p. Reads (query.Stat p) watch) (λ _. tt))
ask_fits (command.Ls path watch) = none_fits (ask_of (command.Ls path watch)) refl (path_none (path_within 512 path) (λ p. Reads (query.Ls p) watch) (λ _. tt))
ask_fits command.Close = record { wants = λ _. refl; verb = λ _ _ _. refl }
ask_fits (command.Multi parts wait) = none_fits (ask_of (command.Multi parts wait)) refl (multi_none (parts_of parts))

pub deployments_have_fitting_verbs : DeploymentsHaveFittingVerbs
deployments_have_fitting_verbs d = record { reads = deployments_read_by_reads d; writes = deployments_write d; closes = λ c i a e. every_ask ClosesFit ask_fits d c i a e }
