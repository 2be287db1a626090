-- A leader starts, and the lines of others leave it.
use Rattle.std.proofs.Common.{◌≡◌, ℕ, ◌+◌, ◌<◌, ◌≤◌, List, [], ◌∷◌, refl, sym, ◌∙◌, ap, subst, arith, Some}
use Rattle.std.proofs.lemmas.Bool.Decides.{nat_tests}
use Rattle.fk_print.specs.declared.entry.Entry.{Entry}
use Rattle.fk_print.specs.declared.op.Op.{Op}
use Rattle.fk_print.specs.declared.op.Op.TheVariants as op
use Rattle.fk_queue.specs.Letters.{head_bytes}
use Rattle.fk_queue.specs.declared.lane.Lane.TheVariants as lane
use Rattle.fk_wire.specs.PushedText.{OnePushed, IsPushedText}
use Rattle.fk_wire.specs.declared.message.Pushed.{Pushed}
use Rattle.fk_wire.proofs.Pusheds.{pusheds}
use Rattle.fk_wire.proofs.Readable.{pushed_readable}
use Rattle.fk_wire.proofs.Texts.{one_message}
use Rattle.fk_lead.specs.Meaning.{started}
use Rattle.fk_stand.specs.Messages.{push_message_of}
use Rattle.fk_stand.specs.Posts.{lane_after}
use Rattle.fk_spec.specs.Plan.{Plan}
use Rattle.fk_spec.specs.Start.{Leads, count_start, starts_of, started_in}
use Rattle.fk_spec.specs.Function.{actor, is_absent}
use Rattle.fk_spec.specs.Watches.{fired_watches, nothing_swept, sweep_in, swept_by, swept_or}
use Rattle.fk_spec.specs.Next.{IsHistory}
use Rattle.fk_law.specs.Due.{IsDue}
use Rattle.fk_law.proofs.Due.{due}
use Rattle.fk_law.proofs.Starting.{others_leave_it, place_bound, start_places_it}
use Rattle.fk_law_watch.proofs.Handing.{swept_by_stays}
use Rattle.fk_agree.specs.Heads.{IsPushText}
use Rattle.fk_agree.proofs.Heading.{leader_head_is_its_push, message_stays}
use Rattle.fk_agree_lead.specs.Leaders.{IsLeader, LeaderStarts, OthersLeaveLeaders, swept_as}

-- A function that isn't started has swept nothing. ------------------------------------------------------

-- a function that was started isn't one beyond
beyond : (m n s : ℕ) → m ≤ s → s < n → Some m ≡ Some n → ⊥
beyond m n s r b a = let x : m ≡ n = grind arith in absurd (omega (arith, b, r, x))

-- a line is no sweep of a function beyond those that were started
swept_step : (p : Plan) (n : ℕ) (e : Entry) (h : List Entry) (o : Op) → e.op ≡ o → IsHistory p h → IsDue p h o → starts_of h < n → swept_by p n h ≡ nothing_swept → swept_by p n (e ∷ h) ≡ nothing_swept
swept_step p n e h (op.SweepOk m t k) g l d b i =
    let r = (place_bound p m h l (ap is_absent d.0)).1 in
    swept_by_stays p n e h (λ a. beyond m n (starts_of h) r b (sym (ap actor g) ∙ a)) ∙ i
swept_step p n e h (op.SweepMiss m t w k) g l d b i =
    let r = (place_bound p m h l (ap is_absent d.0)).1 in
    swept_by_stays p n e h (λ a. beyond m n (starts_of h) r b (sym (ap actor g) ∙ a)) ∙ i
swept_step p n e h o g l d b i = ap (λ o. swept_or (sweep_in n o (fired_watches p (e ∷ h))) (swept_by p n h)) g ∙ i

-- a line starts no less
starts_more : (o : Op) (m n : ℕ) → count_start (started_in o) m < n → m < n
starts_more o m n b = grind (arith, nat_tests)

-- so such a function has swept nothing
nothing_yet : (p : Plan) (n : ℕ) (h : List Entry) → IsHistory p h → starts_of h < n → swept_by p n h ≡ nothing_swept
nothing_yet p n [] l b = refl
nothing_yet p n (e ∷ h) l b = let c = starts_more e.op (starts_of h) n b in swept_step p n e h e.op refl l.0 (due p e h l) c (nothing_yet p n h l.0 c)

-- It starts. --------------------------------------------------------------------------------------------

one_pushed : OnePushed
one_pushed = one_message pusheds

next_number : (n m : ℕ) → n ≡ m + 1 → m < n
next_number n m e = omega (arith, e)

-- it starts on the message of its push
starts_on : (p : Plan) (n t : ℕ) (e : Entry) (h : List Entry) (x : Pushed) → IsHistory p (e ∷ h) → e.op ≡ op.Leader n t → push_message_of p t h ≡ Some x → IsLeader p n (e ∷ h) (started n t x)
starts_on p n t e h x l g a = record {
  inv = refl;
  going = refl;
  stands = start_places_it p e h (record { function = n; task = Leads t }) (ap started_in g);
  message = message_stays p t e h x l a;
  swept = ap swept_as (sym (ap (λ o. swept_or (sweep_in n o (fired_watches p (e ∷ h))) (swept_by p n h)) g ∙ nothing_yet p n h l.0 (next_number n (starts_of h) d.0)));
}
  where
    d : IsDue p h (op.Leader n t)
    d = subst (IsDue p h) g (due p e h l)

pub leader_starts : LeaderStarts
leader_starts p n t e h x l g r a = subst (λ z. IsLeader p n (e ∷ h) (started n t z)) (sym same) (starts_on p n t e h head.push l g head.pushed)
  where
    d : IsDue p h (op.Leader n t)
    d = subst (IsDue p h) g (due p e h l)

    head : IsPushText p t h (head_bytes (lane_after p lane.Leader h))
    head = leader_head_is_its_push p t h l.0 d.1

    same : x ≡ head.push
    same = one_pushed (head_bytes (lane_after p lane.Leader h)) x head.push a (subst (λ b. IsPushedText b head.push) (sym head.text) (pushed_readable head.push (r head.push head.pushed)))

-- The lines of others leave it. -------------------------------------------------------------------------

pub others_leave_leaders : OthersLeaveLeaders
others_leave_leaders p n e h m l i other = record {
  inv = i.inv;
  going = i.going;
  stands = others_leave_it p n e h l (ap is_absent i.stands) other ∙ i.stands;
  message = message_stays p m.tx e h m.message l i.message;
  swept = i.swept ∙ ap swept_as (sym (swept_by_stays p n e h other));
}
