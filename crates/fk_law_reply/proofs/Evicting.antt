-- An evicting close is of a heartbeat that found its session late.
use Rattle.std.specs.Prelude.{◌==◌, ◌&&◌, ◌||◌, if◌then◌else◌}
use Rattle.std.proofs.Common.{◌≡◌, ℕ, ◌+◌, Bool, true, false, List, [], ◌∷◌, refl, sym, ◌∙◌, ap, subst, arith, Option, Some, None}
use Rattle.std.proofs.lemmas.Bool.Decides.{nat_tests}
use Rattle.std.proofs.lemmas.Option.{same_Some, none-some}
use Rattle.std.proofs.lemmas.Bool.{or_right, eqb-true}
use Rattle.fk_tree.specs.declared.request.Request.TheVariants as request
use Rattle.fk_print.specs.declared.entry.Entry.{Entry}
use Rattle.fk_print.specs.declared.op.Op.{Op}
use Rattle.fk_print.specs.declared.op.Op.TheVariants as op
use Rattle.fk_spec.specs.Plan.{Plan, Ask, Want, Unfit, Writes, Reads, asked}
use Rattle.fk_spec.specs.Start.{Origin, Task, Follows, Leads, Notifies, Probes, origin_here, origin_of, probes_session, request_from, request_in, sends_of, sent_in, task_of, written}
use Rattle.fk_spec.specs.Start as start
use Rattle.fk_spec.specs.Teller as teller
use Rattle.fk_spec.specs.Teller.{Note}
use Rattle.fk_spec.specs.Heartbeat as heartbeat
use Rattle.fk_spec.specs.Heartbeat.{next_beat}
use Rattle.fk_spec.specs.Function.{Place, Absent, Following, Leading, Telling, Beating, actor, beat_on, moved, place_of, placed, tell_on, telling}
use Rattle.fk_spec.specs.Refusals.{evicts_late, finds_late, has_found_late, is_evicted_late}
use Rattle.fk_spec.specs.Next.{IsHistory}
use Rattle.fk_law.specs.Due.{IsDue}
use Rattle.fk_law.specs.Functions.{IsFor}
use Rattle.fk_law.proofs.Due.{due}
use Rattle.fk_law.proofs.Moving.{moved_follower, moved_leader, place_step}
use Rattle.fk_law.proofs.Starting.{place_for}
use Rattle.fk_law_reply.specs.Evictions.{EvictorFoundLate, EvictionIsOfALateHeartbeat}
use Rattle.fk_law_reply.specs.Plans.{HasFittingVerbs}
use Rattle.fk_law_tree.proofs.Members.{or_left}

-- Who evicts. ------------------------------------------------------------------------------------------

-- function n has found its session late, where it stands before an eviction
abbrev LateSo : Bool → Place → Type 0
LateSo b (Beating c heartbeat.Evict) = b ≡ true
LateSo b _ = Unit {0}

late_more : (a b : Bool) (x : Place) → LateSo b x → LateSo (a || b) x
late_more true b (Beating c heartbeat.Evict) i = refl
late_more false b (Beating c heartbeat.Evict) i = i
late_more a b (Beating c heartbeat.Probe) i = tt
late_more a b (Beating c heartbeat.Ping) i = tt
late_more a b (Beating c heartbeat.Note) i = tt
late_more a b (Beating c heartbeat.Ended) i = tt
late_more a b Absent i = tt
late_more a b (Following f) i = tt
late_more a b (Leading t s) i = tt
late_more a b (Telling w t s) i = tt

telling_late : (b : Bool) (w : ℕ) (o : Option Note) → LateSo b (telling w o)
telling_late b w None = tt
telling_late b w (Some x) = tt

placed_late : (p : Plan) (h : List Entry) (b : Bool) (t : Task) → LateSo b (placed p h t)
placed_late p h b (Follows c k) = tt
placed_late p h b (Leads t) = tt
placed_late p h b (Notifies w) = telling_late b w _
placed_late p h b (Probes c) = tt

tell_late : (b : Bool) (w t : ℕ) (s : teller.Stage) → LateSo b (tell_on w t s)
tell_late b w t teller.Ended = tt
tell_late b w t s = tt

beat_late : (n c : ℕ) (o : Op) (b : Bool) → actor o ≡ Some n → LateSo (finds_late n o || b) (beat_on c (next_beat o))
beat_late n c (op.ProbeLate m ping moment) b e = let f : (m == n) ≡ true = grind (arith, nat_tests) in rw f refl
beat_late n c (op.ProbeFresh m) b e = tt
beat_late n c (op.Ping m s) b e = tt
beat_late n c o b e = tt

moved_late : (p : Plan) (n : ℕ) (h : List Entry) (o : Op) (b : Bool) (x : Place) → actor o ≡ Some n → LateSo (finds_late n o || b) (moved p h o x)
moved_late p n h o b Absent e = tt
moved_late p n h o b (Following f) e = moved_follower p h o f (LateSo (finds_late n o || b)) tt (λ g a. tt)
moved_late p n h o b (Leading t s) e = moved_leader p h o t s (LateSo (finds_late n o || b)) tt tt
moved_late p n h o b (Telling w t s) e = tell_late (finds_late n o || b) w t _
moved_late p n h o b (Beating c s) e = beat_late n c o b e

late_at : (p : Plan) (n : ℕ) (h : List Entry) → LateSo (has_found_late n h) (place_of p n h)
late_at p n [] = tt
late_at p n (e ∷ h) =
    place_step p n h e.op (place_of p n h) (LateSo (has_found_late n (e ∷ h)))
    (λ _. late_more (finds_late n e.op) (has_found_late n h) (place_of p n h) (late_at p n h))
    (λ s _ _. placed_late p h (has_found_late n (e ∷ h)) s.task)
    (λ a. moved_late p n h e.op (has_found_late n h) (place_of p n h) a)

pub evictor_found_late : EvictorFoundLate
evictor_found_late p n c h l q = subst (LateSo (has_found_late n h)) q (late_at p n h)

-- What is evicted. -------------------------------------------------------------------------------------

its_session : (n c d : ℕ) (t : Option Task) → t ≡ Some (Probes d) → probes_session c t ≡ true → d ≡ c
its_session n c d t e f = eqb-true d c (subst (λ z. probes_session c z ≡ true) e f)

evicts_now : (p : Plan) (c k : ℕ) (h : List Entry) (o : Op) → IsHistory p h → IsDue p h o → sent_in c h o ≡ Some start.Evicted → sends_of c h + 1 ≡ k → evicts_late c k h o ≡ true
evicts_now p c k h (op.Evict n j) l d e f = by_probe (probes_session c (task_of n h)) refl e
  where
    task : task_of n h ≡ Some (Probes d.0)
    task = subst (IsFor (task_of n h)) d.1 (place_for p n h l)

    number : probes_session c (task_of n h) ≡ true → (j == k) ≡ true
    number g = let s = its_session n c d.0 (task_of n h) task g in let q = d.2 in let r : sends_of d.0 h ≡ sends_of c h = ap (λ z. sends_of z h) s in grind (arith, nat_tests)

    by_probe : (b : Bool) → probes_session c (task_of n h) ≡ b → (if b then Some start.Evicted else None) ≡ Some start.Evicted → ((j == k) && probes_session c (task_of n h) && has_found_late n h) ≡ true
    by_probe true g w = rw (number g, g, evictor_found_late p n d.0 h l d.1) refl
    by_probe false g w = absurd (none-some start.Evicted w)
evicts_now p c k h o l d e f = absurd (grind (arith, nat_tests))

evicted_step : (p : Plan) (c k : ℕ) (e : Entry) (h : List Entry) (x : Option Origin) → sent_in c h e.op ≡ x → IsHistory p (e ∷ h) → (origin_of c k h ≡ Some start.Evicted → is_evicted_late c k h ≡ true) → origin_here (sends_of c h) k x (origin_of c k h) ≡ Some start.Evicted → is_evicted_late c k (e ∷ h) ≡ true
evicted_step p c k e h None q l i a = or_right (evicts_late c k h e.op) (is_evicted_late c k h) (i a)
evicted_step p c k e h (Some y) q l i a = by_number (sends_of c h + 1 == k) refl a
  where
    by_number : (b : Bool) → (sends_of c h + 1 == k) ≡ b → (if b then Some y else origin_of c k h) ≡ Some start.Evicted → is_evicted_late c k (e ∷ h) ≡ true
    by_number true f w = or_left (evicts_late c k h e.op) (is_evicted_late c k h) (evicts_now p c k h e.op l.0 (due p e h l) (q ∙ w) (eqb-true (sends_of c h + 1) k f))
    by_number false f w = or_right (evicts_late c k h e.op) (is_evicted_late c k h) (i w)

evicted : (p : Plan) (c k : ℕ) (h : List Entry) → IsHistory p h → origin_of c k h ≡ Some start.Evicted → is_evicted_late c k h ≡ true
evicted p c k [] l a = absurd (none-some start.Evicted a)
evicted p c k (e ∷ h) l a = evicted_step p c k e h (sent_in c h e.op) refl l (evicted p c k h l.0) a

same_evict : Writes (request.Close true) ≡ Writes (request.Close false) → ⊥
same_evict e = grind arith

-- no command of a client evicts
no_command : (p : Plan) (c i : ℕ) (a : Option Ask) → HasFittingVerbs p → asked p c i ≡ a → written a ≡ Some (request.Close true) → ⊥
no_command p c i None v e f = none-some (request.Close true) f
no_command p c i (Some a) v e f = by_want a.want refl f
  where
    by_want : (w : Want) → a.want ≡ w → request_in w ≡ Some (request.Close true) → ⊥
    by_want Unfit g w = none-some (request.Close true) w
    by_want (Reads q b) g w = none-some (request.Close true) w
    by_want (Writes r) g w =
        let s = g ∙ ap Writes (same_Some r (request.Close true) w) in
        let x = v.closes c i a e in
        same_evict (sym s ∙ x.wants (x.verb (request.Close true) s refl))

by_origin : (p : Plan) (c k : ℕ) (h : List Entry) (o : Option Origin) → HasFittingVerbs p → origin_of c k h ≡ o → request_from p c o ≡ Some (request.Close true) → origin_of c k h ≡ Some start.Evicted
by_origin p c k h None v e f = absurd (none-some (request.Close true) f)
by_origin p c k h (Some start.Evicted) v e f = e
by_origin p c k h (Some (start.Sent i s)) v e f = absurd (no_command p c i (asked p c i) v refl f)

pub eviction_is_of_a_late_heartbeat : EvictionIsOfALateHeartbeat
eviction_is_of_a_late_heartbeat p c k h v l q = evicted p c k h l (by_origin p c k h (origin_of c k h) v refl q)
