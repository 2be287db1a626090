-- A leader goes on after its operation, or has ended.
use Rattle.std.specs.Prelude.{length, map}
use Rattle.std.proofs.Common.{◌≡◌, ℕ, inl, inr, ◌⊎◌, false, List, [], ◌∷◌, refl, sym, ◌∙◌, ap, subst, arith, Some}
use Rattle.std.proofs.lemmas.Bool.{false≢true}
use Rattle.std.proofs.lemmas.Option.{same_Some}
use Rattle.fk_tree.specs.Touch.{edited_paths}
use Rattle.fk_print.specs.declared.entry.Entry.{Entry}
use Rattle.fk_print.specs.declared.op.Op.{Op}
use Rattle.fk_print.specs.declared.op.Op.TheVariants as op
use Rattle.fk_queue.specs.Meaning as post
use Rattle.fk_store.specs.Meaning as table
use Rattle.fk_user.specs.Meaning as user
use Rattle.fk_watch.specs.Meaning as watches
use Rattle.fk_watch.specs.Notes.{fired_as}
use Rattle.fk_lead.specs.Meaning.{Meaning, Swept, is_end, is_ended, paths_of}
use Rattle.fk_lead.specs.Next as lead
use Rattle.fk_lead.specs.Next.{after_step, next_with}
use Rattle.fk_lead.specs.Operation.{calm_op, step_op, sweep_op}
use Rattle.fk_lead.specs.Sweeping.{IsGiven, given_at}
use Rattle.fk_stand.specs.Messages.{push_message_of}
use Rattle.fk_stand.specs.Standing.{Standing}
use Rattle.fk_spec.specs.Plan.{Plan}
use Rattle.fk_spec.specs.Stored.{committed_as}
use Rattle.fk_spec.specs.Watches.{Firing, fired_watches, sweep_in, swept_by, swept_or}
use Rattle.fk_spec.specs.Leader as leader
use Rattle.fk_spec.specs.Leader.{Stage, next_leader, paths_to_put, to_notify, to_put}
use Rattle.fk_spec.specs.Function.{Leading, actor, lead_on, leader_word, moved, place_of}
use Rattle.fk_spec.specs.Next.{IsHistory}
use Rattle.fk_law.specs.Due.{IsDue}
use Rattle.fk_law.proofs.Due.{due}
use Rattle.fk_law.proofs.Leading.{leader_stands_where_it_may}
use Rattle.fk_law.proofs.Starting.{own_operation_moves_it}
use Rattle.fk_law_watch.proofs.Handing.{swept_now}
use Rattle.fk_agree.specs.Ends.{HasEnded}
use Rattle.fk_agree.proofs.Heading.{message_stays}
use Rattle.fk_agree.proofs.Serving.{IsOf}
use Rattle.fk_agree_lead.specs.Leaders.{IsLeader, LeaderEndsAtItsFault, LeaderGoesOn, swept_as}
use Rattle.fk_agree_lead.proofs.Given.{listed_of}
use Rattle.fk_agree_lead.proofs.Making.{May, calm_leader, given_is_listed, leader_faults, may}
use Rattle.fk_agree_lead.proofs.Pushed.{HasCommit, its_commit}

-- What comes after each answer. -------------------------------------------------------------------------

-- whether an operation is a sweep
abbrev IsSweep : Op → Type 0
IsSweep (op.SweepOk n t k) = Unit {0}
IsSweep (op.SweepMiss n t s k) = Unit {0}
IsSweep _ = ⊥

-- what a leader has got from its sweep after an operation
abbrev got : Swept → Op → Swept → Swept
got s (op.SweepOk n t k) old = s
got s (op.SweepMiss n t w k) old = s
got s _ old = old

-- what follows a publication
notified : (fs : List Firing) → lead.to_notify (map fired_as fs) ≡ to_notify fs
notified [] = refl
notified (f ∷ fs) = refl

-- the notification that follows a publication, by the function that the publication names
abbrev IsNotified : Plan → List Entry → Meaning → Op → Type 0
IsNotified p h m (op.PublishOk n t) = lead.to_notify m.swept.fired ≡ to_notify (swept_by p n h).fired
IsNotified p h m (op.PublishMiss n t mark) = lead.to_notify m.swept.fired ≡ to_notify (swept_by p n h).fired
IsNotified p h m _ = Unit {0}

-- it stands where the rules say, with what it has got
after_answer : (p : Plan) (h : List Entry) (m : Meaning) (s : Swept) (o : Op) → (IsSweep o → paths_of m ≡ paths_to_put (committed_as p m.tx h)) → IsNotified p h m o → next_with s o m ≡ record m { stage = next_leader p h m.tx o m.stage; swept = got s o m.swept }
after_answer p h m s (op.SweepOk n t k) a b = ap (λ ps. record m { stage = to_put ps; swept = s }) (a tt)
after_answer p h m s (op.SweepMiss n t w k) a b = ap (λ ps. record m { stage = to_put ps; swept = s }) (a tt)
after_answer p h m s (op.PublishOk n t) a b = ap (λ x. record m { stage = x }) b
after_answer p h m s (op.PublishMiss n t mark) a b = ap (λ x. record m { stage = x }) b
after_answer p h m s o a b = refl

-- a leader that publishes has in hand what the rules read
is_notified : (p : Plan) (n : ℕ) (h : List Entry) (m : Meaning) (o : Op) → m.swept ≡ swept_as (swept_by p n h) → actor o ≡ Some n → IsNotified p h m o
is_notified p n h m (op.PublishOk k t) e a = ap (λ z. lead.to_notify z.fired) e ∙ (notified (swept_by p n h).fired ∙ ap (λ z. to_notify (swept_by p z h).fired) (same_Some n k (sym a)))
is_notified p n h m (op.PublishMiss k t mark) e a = ap (λ z. lead.to_notify z.fired) e ∙ (notified (swept_by p n h).fired ∙ ap (λ z. to_notify (swept_by p z h).fired) (same_Some n k (sym a)))
is_notified p n h m o e a = tt

-- What its sweep gives. ---------------------------------------------------------------------------------

-- a leader that sweeps stands before its sweep, on its push
abbrev SweepsIt : Op → ℕ → Meaning → Type 0
SweepsIt (op.SweepOk k t fired) n m = (k ≡ n) × (t ≡ m.tx) × (m.stage ≡ leader.Sweep)
SweepsIt (op.SweepMiss k t w fired) n m = (k ≡ n) × (t ≡ m.tx) × (m.stage ≡ leader.Sweep)
SweepsIt _ n m = Unit {0}

-- where it leads a push, it is that push and that stage
one_place : (t r : ℕ) (x y : Stage) → Leading t x ≡ Leading r y → (t ≡ r) × (y ≡ x)
one_place t r x y e = grind arith

-- each sweep of a leader is its own
sweeps_it : (p : Plan) (n : ℕ) (h : List Entry) (m : Meaning) (o : Op) → IsDue p h o → place_of p n h ≡ Leading m.tx m.stage → actor o ≡ Some n → SweepsIt o n m
sweeps_it p n h m (op.SweepOk k t fired) d b a =
    let e : k ≡ n = same_Some k n a in
    let r = one_place t m.tx leader.Sweep m.stage (sym d.0 ∙ (ap (λ z. place_of p z h) e ∙ b)) in
    (e, r.0, r.1)
sweeps_it p n h m (op.SweepMiss k t w fired) d b a =
    let e : k ≡ n = same_Some k n a in
    let r = one_place t m.tx leader.Sweep m.stage (sym d.0 ∙ (ap (λ z. place_of p z h) e ∙ b)) in
    (e, r.0, r.1)
sweeps_it p n h m o d b a = tt

-- it has got what the rules read at the sweep's line, or keeps what it got
got_at : (p : Plan) (n : ℕ) (e : Entry) (h : List Entry) (m : Meaning) (s : Swept) (o : Op) → e.op ≡ o → SweepsIt o n m → m.swept ≡ swept_as (swept_by p n h) → (IsSweep o → s ≡ swept_as (listed_of m.tx (fired_watches p (e ∷ h)))) → got s o m.swept ≡ swept_as (swept_by p n (e ∷ h))
got_at p n e h m s (op.SweepOk k t fired) g x i f =
    f tt ∙ (ap (λ z. swept_as (listed_of z (fired_watches p (e ∷ h)))) (sym x.1)
    ∙ ap swept_as (sym (ap (λ o. swept_or (sweep_in n o (fired_watches p (e ∷ h))) (swept_by p n h)) g ∙ swept_now n k t (fired_watches p (e ∷ h)) (swept_by p n h) x.0)))
got_at p n e h m s (op.SweepMiss k t w fired) g x i f =
    f tt ∙ (ap (λ z. swept_as (listed_of z (fired_watches p (e ∷ h)))) (sym x.1)
    ∙ ap swept_as (sym (ap (λ o. swept_or (sweep_in n o (fired_watches p (e ∷ h))) (swept_by p n h)) g ∙ swept_now n k t (fired_watches p (e ∷ h)) (swept_by p n h) x.0)))
got_at p n e h m s o g x i f = i ∙ ap swept_as (sym (ap (λ o. swept_or (sweep_in n o (fired_watches p (e ∷ h))) (swept_by p n h)) g))

-- It goes on. -------------------------------------------------------------------------------------------

-- it stands there still, or the history says that it has ended
after_place : (p : Plan) (n : ℕ) (g : List Entry) (m : Meaning) (x : Stage) (s : Swept) → m.inv ≡ n → push_message_of p m.tx g ≡ Some m.message → s ≡ swept_as (swept_by p n g) → place_of p n g ≡ lead_on m.tx x → IsLeader p n g (record m { stage = x; swept = s }) ⊎ HasEnded p n g (is_end x)
after_place p n g m leader.Commit s e f w a = inl (record { inv = e; going = refl; stands = a; message = f; swept = w })
after_place p n g m leader.Pending s e f w a = inl (record { inv = e; going = refl; stands = a; message = f; swept = w })
after_place p n g m leader.Drop s e f w a = inl (record { inv = e; going = refl; stands = a; message = f; swept = w })
after_place p n g m leader.Sweep s e f w a = inl (record { inv = e; going = refl; stands = a; message = f; swept = w })
after_place p n g m (leader.Put path others) s e f w a = inl (record { inv = e; going = refl; stands = a; message = f; swept = w })
after_place p n g m leader.Publish s e f w a = inl (record { inv = e; going = refl; stands = a; message = f; swept = w })
after_place p n g m leader.Notify s e f w a = inl (record { inv = e; going = refl; stands = a; message = f; swept = w })
after_place p n g m leader.Reply s e f w a = inl (record { inv = e; going = refl; stands = a; message = f; swept = w })
after_place p n g m leader.Done s e f w a = inl (record { inv = e; going = refl; stands = a; message = f; swept = w })
after_place p n g m leader.Ack s e f w a = inl (record { inv = e; going = refl; stands = a; message = f; swept = w })
after_place p n g m leader.Ended s e f w a = inr (record { is_so = refl; absent = a })

-- each operation that it may make is its own
pub all_of : (m : Meaning) (x : Stage) → is_end x ≡ false → May (IsOf m.inv) m x
all_of m leader.Commit e = (refl, (λ a. refl), (λ path a b. refl))
all_of m leader.Pending e = (refl, refl)
all_of m leader.Drop e = (refl, (λ a. refl))
all_of m leader.Sweep e = ((λ a. refl), (λ a b. refl))
all_of m (leader.Put path others) e = (refl, (λ a. refl))
all_of m leader.Publish e = (refl, (λ a. refl))
all_of m leader.Notify e = λ a. refl
all_of m leader.Reply e = refl
all_of m leader.Done e = (refl, (λ a. refl))
all_of m leader.Ack e = (refl, refl)
all_of m leader.Ended e = absurd (false≢true (sym e))

-- a leader that sweeps stands before its sweep
at_sweep : (n : ℕ) (m : Meaning) (o : Op) → SweepsIt o n m → IsSweep o → m.stage ≡ leader.Sweep
at_sweep n m (op.SweepOk k t fired) x y = x.2
at_sweep n m (op.SweepMiss k t w fired) x y = x.2
at_sweep n m o x y = absurd y

-- an operation of a leader, and what it has got by it
record Goes (p : Plan) (n : ℕ) (e : Entry) (h : List Entry) (m : Meaning) (s : Swept) : Type 0 where
  pub its : actor e.op ≡ Some n
  pub sweeps : SweepsIt e.op n m
  pub paths : IsSweep e.op → paths_of m ≡ paths_to_put (committed_as p m.tx h)
  pub got : IsSweep e.op → s ≡ swept_as (listed_of m.tx (fired_watches p (e ∷ h)))

-- what is known of each of its operations
goes : (p : Plan) (n : ℕ) (e : Entry) (h : List Entry) (m : Meaning) (t : table.Meaning) (q : post.Meaning) (u : user.Meaning) (w : watches.Watches) (s : Swept) → IsHistory p (e ∷ h) → Standing p h t q u w → IsLeader p n h m → IsGiven w m s → e.op ≡ step_op t q w u s m → Goes p n e h m s
goes p n e h m t q u w s l a i y g = record {
  its = its;
  sweeps = sweeps;
  paths = λ k. (let c = committed (at_sweep n m e.op sweeps k) in ap edited_paths c.same ∙ sym (ap paths_to_put c.committed));
  got = λ k. listed (at_sweep n m e.op sweeps k);
}
  where
    calm : e.op ≡ calm_op t q w u s m m.stage
    calm = g ∙ calm_leader p h t q u w s m a

    its : actor e.op ≡ Some n
    its = ap actor calm ∙ (may (IsOf m.inv) t q w u s m m.stage (all_of m m.stage i.going) ∙ ap Some i.inv)

    sweeps : SweepsIt e.op n m
    sweeps = sweeps_it p n h m e.op (due p e h l) i.stands its

    committed : m.stage ≡ leader.Sweep → HasCommit p h m
    committed b = its_commit p n h m l.0 i (leader_stands_where_it_may p n m.tx leader.Sweep h l.0 (i.stands ∙ ap (Leading m.tx) b))

    listed : m.stage ≡ leader.Sweep → s ≡ swept_as (listed_of m.tx (fired_watches p (e ∷ h)))
    listed b = given_is_listed p m.inv (length s.fired) (length s.fired) e h m w s l a.watches (committed b) (subst (given_at w m s) b y) (calm ∙ (ap (calm_op t q w u s m) b ∙ ap (λ z. sweep_op z m.inv m.tx s.fired) a.watches))

pub leader_goes_on : LeaderGoesOn
leader_goes_on p n e h m t q u w s l a i y g = subst (λ z. IsLeader p n (e ∷ h) z ⊎ HasEnded p n (e ∷ h) (is_ended z)) (sym next) (after_place p n (e ∷ h) m (next_leader p h m.tx e.op m.stage) (got s e.op m.swept) i.inv (message_stays p m.tx e h m.message l i.message) (got_at p n e h m s e.op refl x.sweeps i.swept x.got) place)
  where
    x : Goes p n e h m s
    x = goes p n e h m t q u w s l a i y g

    next : after_step t q w u s m ≡ record m { stage = next_leader p h m.tx e.op m.stage; swept = got s e.op m.swept }
    next = ap (λ o. next_with s o m) (sym g) ∙ after_answer p h m s e.op x.paths (is_notified p n h m e.op i.swept x.its)

    place : place_of p n (e ∷ h) ≡ lead_on m.tx (next_leader p h m.tx e.op m.stage)
    place = own_operation_moves_it p n e h x.its ∙ ap (moved p h e.op) i.stands

pub leader_ends_at_its_fault : LeaderEndsAtItsFault
leader_ends_at_its_fault p n e h m t q u w s i g = record {
  is_so = ap (λ o. is_ended (next_with s o m)) faults;
  absent = own_operation_moves_it p n e h (ap actor named ∙ ap Some i.inv) ∙ (ap (moved p h e.op) i.stands ∙ ap (λ o. lead_on m.tx (next_leader p h m.tx o m.stage)) named);
}
  where
    faults : step_op (table.armed t) (post.armed q) (watches.armed w) (user.armed u) s m ≡ op.Fault m.inv (leader_word m.stage)
    faults = leader_faults p n h m t q u w s i

    named : e.op ≡ op.Fault m.inv (leader_word m.stage)
    named = g ∙ faults
