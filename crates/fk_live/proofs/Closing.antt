-- What a drain adds isn't disturbed, and behind it everything is answered.
use Rattle.std.proofs.Common.{◌≡◌, ℕ, suc, ◌+◌, ◌<◌, ◌^◌, Bool, true, false, List, [], ◌∷◌, ◌++◌, Option, Some, None, refl, sym, ◌∙◌, ap, subst, arith}
use Rattle.std.specs.Prelude.{if◌then◌else◌, ⊤}
use Rattle.fk_print.specs.declared.entry.Entry.{Entry}
use Rattle.fk_print.specs.declared.event.Event.{Event}
use Rattle.fk_print.specs.declared.event.Event.TheVariants as event
use Rattle.fk_script.specs.PrintLaws.{IsMeant}
use Rattle.fk_script.specs.declared.deployment.Deployment.{Deployment}
use Rattle.fk_spec.specs.Client.{client_op}
use Rattle.fk_spec.specs.Function.{in_flight}
use Rattle.fk_spec.specs.Lanes.{leader_head, session_head, watch_head}
use Rattle.fk_spec.specs.Next.{IsHistory}
use Rattle.fk_spec.specs.Plan.{Ask, Plan, plan_of}
use Rattle.fk_spec.specs.Schedule.{Drains, Emptied, Empties, Goes, Plays, client_first, crashes, deliver_first, deliver_where, drain_begin, is_idle, lead_where, next_of_drain, step_of_first, tell_where}
use Rattle.fk_spec.specs.Start.{clock_of, or_else}
use Rattle.fk_limits.proofs.Turning.{times_are_short}
use Rattle.fk_law_drain.proofs.Drained.{drained_deployment_is_answered, emptied}
use Rattle.fk_law_lawful.proofs.Promising.{every_history_is_lawful}
use Rattle.fk_world.specs.World.{View}
use Rattle.fk_live.specs.Live.{IsLiveRunOf}
use Rattle.fk_live.specs.Undisturbed.{IsUndisturbed, disturbs}

-- The events of a drain disturb nothing. -------------------------------------------------------------------

abbrev AreCalm : List Event → Type 0
AreCalm [] = ⊤
AreCalm (e ∷ es) = (disturbs e ≡ false) × AreCalm es

abbrev IsCalm : Option Event → Type 0
IsCalm None = ⊤
IsCalm (Some e) = disturbs e ≡ false

calm_else : (o q : Option Event) → IsCalm o → IsCalm q → IsCalm (or_else o q)
calm_else None q a b = b
calm_else (Some e) q a b = a

calm_step : (ns : List ℕ) → IsCalm (step_of_first ns)
calm_step [] = tt
calm_step (n ∷ ns) = refl

calm_tell : (o : Option ℕ) → IsCalm (tell_where o)
calm_tell None = tt
calm_tell (Some w) = refl

calm_lead : (o : Option ℕ) → IsCalm (lead_where o)
calm_lead None = tt
calm_lead (Some t) = refl

calm_deliver : (c : ℕ) (o : Option ℕ) → IsCalm (deliver_where c o)
calm_deliver c None = tt
calm_deliver c (Some k) = refl

calm_deliveries : (xs : List (List Ask)) (c : ℕ) (h : List Entry) → IsCalm (deliver_first xs c h)
calm_deliveries [] c h = tt
calm_deliveries (x ∷ xs) c h = calm_else (deliver_where c (session_head c h)) (deliver_first xs (suc c) h) (calm_deliver c (session_head c h)) (calm_deliveries xs (suc c) h)

calm_where : (b : Bool) (o q : Option Event) → IsCalm o → IsCalm q → IsCalm (if b then o else q)
calm_where true o q a b = a
calm_where false o q a b = b

calm_clients : (p : Plan) (xs : List (List Ask)) (c : ℕ) (h : List Entry) → IsCalm (client_first p xs c h)
calm_clients p [] c h = tt
calm_clients p (x ∷ xs) c h = calm_where (is_idle (client_op p c h)) (client_first p xs (suc c) h) (Some (event.Client c)) (calm_clients p xs (suc c) h) refl

calm_next : (p : Plan) (h : List Entry) → IsCalm (next_of_drain p h)
calm_next p h =
    let d = deliver_first p.asks 1 h in
    let c = client_first p p.asks 1 h in
    let l = lead_where (leader_head h) in
    let t = tell_where (watch_head h) in
    calm_else (step_of_first (in_flight p h)) (or_else t (or_else l (or_else d c))) (calm_step (in_flight p h))
    (calm_else t (or_else l (or_else d c)) (calm_tell (watch_head h))
    (calm_else l (or_else d c) (calm_lead (leader_head h)) (calm_else d c (calm_deliveries p.asks 1 h) (calm_clients p p.asks 1 h))))

calm_begin : (ns : List ℕ) (m : ℕ) → AreCalm (crashes ns ++ event.Clock m ∷ [])
calm_begin [] m = (refl, tt)
calm_begin (n ∷ ns) m = (refl, calm_begin ns m)

-- So they leave a history undisturbed. ---------------------------------------------------------------------

played_calmly : (es : List Event) (h k : List Entry) → AreCalm es → Plays es h k → IsUndisturbed h → IsUndisturbed k
played_calmly [] h k a p u = subst IsUndisturbed p u
played_calmly (e ∷ es) h k a p u = played_calmly es (p.0 ∷ h) k a.1 p.2 (ap disturbs p.1 ∙ a.0, u)

emptied_calmly : (p : Plan) (h k : List Entry) → Empties p h k → IsUndisturbed h → IsUndisturbed k
emptied_calmly p h _ (Emptied _ e) u = u
emptied_calmly p h k (Goes _ _ x e r) u = emptied_calmly p (x ∷ h) k r (subst IsCalm e (calm_next p h), u)

pub drained_calmly : (p : Plan) (h k : List Entry) → Drains p h k → IsUndisturbed h → IsUndisturbed k
drained_calmly p h k d u = emptied_calmly p d.begun k d.empties (played_calmly (drain_begin p h) h d.begun (calm_begin (in_flight p h) (clock_of h + p.lock + 1)) d.begins u)

-- What the world is in which nothing is left to do. --------------------------------------------------------

abbrev pub IsLive : View → Type 0
IsLive w = IsLiveRunOf w.deployment w.past

pub answered_at_end : (w : View) → IsHistory (plan_of w.deployment) w.past → IsUndisturbed w.past → next_of_drain (plan_of w.deployment) w.past ≡ None → IsLive w
answered_at_end w l u e = record { lawful = every_history_is_lawful w.deployment w.past l; undisturbed = u; answered = drained_deployment_is_answered w.deployment w.past l e }

pub answered_by_drain : (w x : View) → IsHistory (plan_of x.deployment) x.past → IsUndisturbed w.past → x.deployment ≡ w.deployment → Drains (plan_of w.deployment) w.past x.past → IsLive x
answered_by_drain w x l u s d =
    let r = subst (λ (z : Deployment). Drains (plan_of z) w.past x.past) (sym s) d in
    answered_at_end x l (drained_calmly (plan_of x.deployment) w.past x.past r u) (emptied (plan_of x.deployment) r.begun x.past r.empties)

-- a drain has time
pub drain_has_time : (d : Deployment) (n : ℕ) → IsMeant d → n < 2 ^ 40 → n + (plan_of d).lock + 1 < 2 ^ 63
drain_has_time d n m l = let c = (times_are_short d m).0 in omega (arith, c, l)
