-- How many messages a lane was given and lost, and which is its head.
use Rattle.std.specs.Prelude.{◌==◌, option_map}
use Rattle.std.proofs.Common.{◌≡◌, ℕ, suc, ◌+◌, ◌-◌, ◌<◌, ◌++◌, Bool, true, false, cond, List, [], ◌∷◌, length, refl, sym, ◌∙◌, ap, subst, arith, Option, Some, None}
use Rattle.std.proofs.lemmas.Bool.{false≢true}
use Rattle.std.proofs.lemmas.Bool.Decides.{nat_tests}
use Rattle.fk_print.specs.declared.entry.Entry.{Entry}
use Rattle.fk_print.specs.declared.op.Op.{Op}
use Rattle.fk_print.specs.declared.op.Op.TheVariants as op
use Rattle.fk_queue.specs.declared.lane.Lane.TheVariants as lane
use Rattle.fk_queue.specs.declared.letter.Letter.{Letter}
use Rattle.fk_queue.specs.Letters.{LaneState, empty_lane, first_number, head_number, numbers_after, numbers_of, with_letter, without_head}
use Rattle.fk_queue.proofs.Numbering.{numbered_less, numbered_more, numbered_none}
use Rattle.fk_wire.specs.declared.version.Version.TheVariants as version
use Rattle.fk_wire.specs.PushedText.{pushed_text}
use Rattle.fk_wire.specs.SentText.{sent_text}
use Rattle.fk_stand.specs.Messages.{push_message, sent_from, sent_message}
use Rattle.fk_stand.specs.Posts.{lane_after, lane_step, letter_in, removes}
use Rattle.fk_spec.specs.Plan.{Plan, asked}
use Rattle.fk_spec.specs.Shown.{seen_by}
use Rattle.fk_spec.specs.Start.{Evicted, Notifies, Sent, count_push, count_sent, pushed_in, pushes_of, probes_session, sends_of, sent_in, task_of, when, written}
use Rattle.fk_spec.specs.Lanes.{follows_session, head_among, leads, note_count, notes_of, notifies, removed_by, removed_in, session_head}
use Rattle.fk_spec.specs.Follower.{Follower}
use Rattle.fk_spec.specs.Function.{Place, Following, Leading, Telling, place_of}
use Rattle.fk_spec.specs.Next.{IsHistory}
use Rattle.fk_law.specs.Due.{Acks, IsDue}
use Rattle.fk_law.specs.Functions.{IsFor}
use Rattle.fk_law.proofs.Due.{due}
use Rattle.fk_law.proofs.Sending.{sent_has_a_request}
use Rattle.fk_law.proofs.Settled.{reached}
use Rattle.fk_law.proofs.Starting.{follower_task, leader_task, place_for}
use Rattle.fk_agree.specs.Letters.{HeadsAreTheRules, IsCounted, LanesAreCounted}
use Rattle.fk_agree.proofs.Carried.{message_at}
use Rattle.fk_base.proofs.Logic.{by_test}

-- Counted lanes. ----------------------------------------------------------------------------------------

none_counted : IsCounted empty_lane 0 0
none_counted = record { count = refl; left = refl; numbered = numbered_none }

one_more : (xs : List Letter) (x : Letter) → length (xs ++ x ∷ []) ≡ length xs + 1
one_more [] x = refl
one_more (y ∷ xs) x = let a = one_more xs x in omega (arith, a)

more_counted : (bytes : List ℕ) (s : LaneState) (g r : ℕ) → IsCounted s g r → IsCounted (with_letter bytes s) (g + 1) r
more_counted bytes s g r i = record {
  count = ap (λ n. n + 1) i.count;
  left = let a = one_more s.waiting (record { number = s.given + 1; bytes = bytes }) in let b = i.left in omega (arith, a, b);
  numbered = numbered_more bytes s i.numbered;
}

less_counted : (n : ℕ) (xs : List Letter) (g r : ℕ) → IsCounted (record { given = n; waiting = xs }) g r → r < g → IsCounted (without_head (record { given = n; waiting = xs })) g (r + 1)
less_counted n [] g r i b = absurd (let a = i.left in omega (arith, a, b))
less_counted n (x ∷ xs) g r i b = record { count = i.count; left = (let a = i.left in omega (arith, a)); numbered = numbered_less (record { given = n; waiting = x ∷ xs }) i.numbered }

head_counted : (n : ℕ) (xs : List Letter) (g r : ℕ) → IsCounted (record { given = n; waiting = xs }) g r → first_number xs ≡ head_among g r
head_counted n [] g r i = let a = i.left in grind (arith, nat_tests)
head_counted n (x ∷ xs) g r i =
    let a = i.left in
    let c = i.count in
    let f : x.number ≡ suc (n - suc (length xs)) = first x.number _ (i.numbered.1) in
    let e : x.number ≡ r + 1 = omega (arith, a, c, f) in
    let b : r < g = omega (arith, a) in
    grind (arith, nat_tests)
  where
    first : (m k : ℕ) → m ∷ numbers_of (record { given = n; waiting = xs }) ≡ suc k ∷ numbers_after (suc k) (length xs) → m ≡ suc k
    first m k e = grind arith

-- The lanes of functions. -------------------------------------------------------------------------------

abbrev count_put : Option (List ℕ) → ℕ → ℕ
count_put None g = g
count_put (Some bytes) g = g + 1

-- a lane after a line, by what the line puts there and whether it removes the head
lane_counted : (s : LaneState) (o : Option (List ℕ)) (b : Bool) (g r : ℕ) → (b ≡ true → o ≡ None) → (b ≡ true → r < g) → IsCounted s g r → IsCounted (lane_step o b s) (count_put o g) (cond b (r + 1) r)
lane_counted s None true g r e c i = less_counted s.given s.waiting g r i (c refl)
lane_counted s None false g r e c i = i
lane_counted s (Some bytes) true g r e c i = absurd (some_none (e refl))
  where
    some_none : Some bytes ≡ None → ⊥
    some_none f = grind arith
lane_counted s (Some bytes) false g r e c i = more_counted bytes s g r i

-- what an acknowledgement removes is there
head_there : (g r k : ℕ) → head_among g r ≡ Some k → r < g
head_there g r k e = grind (arith, nat_tests)

-- a session's lane
sent_counted : (p : Plan) (c : ℕ) (h : List Entry) (o : Op) (g : ℕ) → IsDue p h o → count_put (option_map (sent_text version.Two) (sent_message p c h o)) g ≡ count_sent (sent_in c h o) g
sent_counted p c h (op.Send d i k) g due = by_session (d == c) refl
  where
    by_session : (b : Bool) → (d == c) ≡ b → count_put (option_map (sent_text version.Two) (sent_message p c h (op.Send d i k))) g ≡ count_sent (sent_in c h (op.Send d i k)) g
    by_session true e =
        let f : d ≡ c = grind (arith, nat_tests) in
        ap (λ b. count_put (option_map (sent_text version.Two) (sent_from p c (when b (Sent i (seen_by c h))))) g) e
        ∙ (ap (λ r. count_put (option_map (sent_text version.Two) (option_map (λ x. record { request = x; seen = seen_by c h }) r)) g) (subst (λ x. written (asked p x i) ≡ Some due.1) f due.2)
        ∙ sym (ap (λ b. count_sent (when b (Sent i (seen_by c h))) g) e))
    by_session false e = ap (λ b. count_put (option_map (sent_text version.Two) (sent_from p c (when b (Sent i (seen_by c h))))) g) e ∙ sym (ap (λ b. count_sent (when b (Sent i (seen_by c h))) g) e)
sent_counted p c h (op.Evict n k) g due = by_test (probes_session c (task_of n h)) (λ b. count_put (option_map (sent_text version.Two) (sent_from p c (when b Evicted))) g ≡ count_sent (when b Evicted) g) (λ _. refl) (λ _. refl)
sent_counted p c h o g due = refl

session_removes : (p : Plan) (c : ℕ) (h : List Entry) (o : Op) (r : ℕ) → cond (removes (lane.Session c) h o) (r + 1) r ≡ removed_in (follows_session c) h o r
session_removes p c h (op.AckOk n) r = refl
session_removes p c h o r = refl

session_quiet : (p : Plan) (c : ℕ) (h : List Entry) (o : Op) → removes (lane.Session c) h o ≡ true → letter_in p (lane.Session c) h o ≡ None
session_quiet p c h (op.Send d i k) e = absurd (false≢true e)
session_quiet p c h (op.Evict n k) e = absurd (false≢true e)
session_quiet p c h o e = refl

session_there : (p : Plan) (c : ℕ) (h : List Entry) (o : Op) → IsHistory p h → IsDue p h o → removes (lane.Session c) h o ≡ true → removed_by (follows_session c) h < sends_of c h
session_there p c h (op.AckOk n) l d e = by_place (place_of p n h) refl d
  where
    of_session : (f : Follower) → place_of p n h ≡ Following f → f.session ≡ c
    of_session f b = let z : (f.session == c) ≡ true = sym (ap (follows_session c) (follower_task p n h f l b)) ∙ e in grind (arith, nat_tests)

    by_place : (x : Place) → place_of p n h ≡ x → Acks h x → removed_by (follows_session c) h < sends_of c h
    by_place (Following f) b a = head_there (sends_of c h) (removed_by (follows_session c) h) f.k (subst (λ s. session_head s h ≡ Some f.k) (of_session f b) a.1)
    by_place (Leading t s) b a = absurd (false≢true (sym (ap (follows_session c) (leader_task p n h t s l b)) ∙ e))
    by_place (Telling w t s) b a = absurd (false≢true (sym (ap (follows_session c) (sym (teller_is (place_for p n h l) b))) ∙ e))
      where
        teller_is : IsFor (task_of n h) (place_of p n h) → place_of p n h ≡ Telling w t s → Some (Notifies w) ≡ task_of n h
        teller_is i q = sym (subst (IsFor (task_of n h)) q i)
    by_place x b a = absurd a
session_there p c h o l d e = absurd (false≢true e)

session_step : (p : Plan) (c : ℕ) (h : List Entry) (o : Op) (s : LaneState) → IsHistory p h → IsDue p h o → IsCounted s (sends_of c h) (removed_by (follows_session c) h) → IsCounted (lane_step (letter_in p (lane.Session c) h o) (removes (lane.Session c) h o) s) (count_sent (sent_in c h o) (sends_of c h)) (removed_in (follows_session c) h o (removed_by (follows_session c) h))
session_step p c h o s l d i =
    subst (λ g. IsCounted (lane_step (letter_in p (lane.Session c) h o) (removes (lane.Session c) h o) s) g (removed_in (follows_session c) h o (removed_by (follows_session c) h))) (sent_counted p c h o (sends_of c h) d)
    (subst (λ r. IsCounted (lane_step (letter_in p (lane.Session c) h o) (removes (lane.Session c) h o) s) (count_put (letter_in p (lane.Session c) h o) (sends_of c h)) r) (session_removes p c h o (removed_by (follows_session c) h))
    (lane_counted s (letter_in p (lane.Session c) h o) (removes (lane.Session c) h o) (sends_of c h) (removed_by (follows_session c) h) (session_quiet p c h o) (session_there p c h o l d) i))

session_counted : (p : Plan) (c : ℕ) (h : List Entry) → IsHistory p h → IsCounted (lane_after p (lane.Session c) h) (sends_of c h) (removed_by (follows_session c) h)
session_counted p c [] l = none_counted
session_counted p c (e ∷ h) l = session_step p c h e.op (lane_after p (lane.Session c) h) l.0 (due p e h l) (session_counted p c h l.0)

-- the leader's lane
pushed_counted : (p : Plan) (h : List Entry) (o : Op) (g : ℕ) → IsHistory p h → IsDue p h o → count_put (option_map (pushed_text version.Two) (push_message p h o)) g ≡ count_push (pushed_in 0 o) g
pushed_counted p h (op.Push n t) g l d =
    let f = d.0 in
    let r = sent_has_a_request p f.session f.k h l (reached p n f.session f.k h l (follower_task p n h f l d.1)).0 (reached p n f.session f.k h l (follower_task p n h f l d.1)).2 in
    ap (λ m. count_put (option_map (pushed_text version.Two) m) g) (message_at p n t h f r.0 d.1 r.1)
pushed_counted p h o g l d = refl

leader_removes : (h : List Entry) (o : Op) (r : ℕ) → cond (removes lane.Leader h o) (r + 1) r ≡ removed_in leads h o r
leader_removes h (op.AckOk n) r = refl
leader_removes h o r = refl

leader_quiet : (p : Plan) (h : List Entry) (o : Op) → removes lane.Leader h o ≡ true → letter_in p lane.Leader h o ≡ None
leader_quiet p h (op.Push n t) e = absurd (false≢true e)
leader_quiet p h o e = refl

leader_there : (p : Plan) (h : List Entry) (o : Op) → IsHistory p h → IsDue p h o → removes lane.Leader h o ≡ true → removed_by leads h < pushes_of h
leader_there p h (op.AckOk n) l d e = by_place (place_of p n h) refl d
  where
    by_place : (x : Place) → place_of p n h ≡ x → Acks h x → removed_by leads h < pushes_of h
    by_place (Following f) b a = absurd (false≢true (sym (ap leads (follower_task p n h f l b)) ∙ e))
    by_place (Leading t s) b a = head_there (pushes_of h) (removed_by leads h) t a.1
    by_place (Telling w t s) b a = absurd (false≢true (sym (ap leads (subst (IsFor (task_of n h)) b (place_for p n h l))) ∙ e))
    by_place x b a = absurd a
leader_there p h o l d e = absurd (false≢true e)

leader_step : (p : Plan) (h : List Entry) (o : Op) (s : LaneState) → IsHistory p h → IsDue p h o → IsCounted s (pushes_of h) (removed_by leads h) → IsCounted (lane_step (letter_in p lane.Leader h o) (removes lane.Leader h o) s) (count_push (pushed_in 0 o) (pushes_of h)) (removed_in leads h o (removed_by leads h))
leader_step p h o s l d i =
    subst (λ g. IsCounted (lane_step (letter_in p lane.Leader h o) (removes lane.Leader h o) s) g (removed_in leads h o (removed_by leads h))) (pushed_counted p h o (pushes_of h) l d)
    (subst (λ r. IsCounted (lane_step (letter_in p lane.Leader h o) (removes lane.Leader h o) s) (count_put (letter_in p lane.Leader h o) (pushes_of h)) r) (leader_removes h o (removed_by leads h))
    (lane_counted s (letter_in p lane.Leader h o) (removes lane.Leader h o) (pushes_of h) (removed_by leads h) (leader_quiet p h o) (leader_there p h o l d) i))

leader_counted : (p : Plan) (h : List Entry) → IsHistory p h → IsCounted (lane_after p lane.Leader h) (pushes_of h) (removed_by leads h)
leader_counted p [] l = none_counted
leader_counted p (e ∷ h) l = leader_step p h e.op (lane_after p lane.Leader h) l.0 (due p e h l) (leader_counted p h l.0)

-- the watch lane
noted_counted : (p : Plan) (h : List Entry) (o : Op) (g : ℕ) → count_put (letter_in p lane.Watch h o) g ≡ note_count o g
noted_counted p h (op.Notify n t note) g = refl
noted_counted p h o g = refl

watch_removes : (h : List Entry) (o : Op) (r : ℕ) → cond (removes lane.Watch h o) (r + 1) r ≡ removed_in notifies h o r
watch_removes h (op.AckOk n) r = refl
watch_removes h o r = refl

watch_quiet : (p : Plan) (h : List Entry) (o : Op) → removes lane.Watch h o ≡ true → letter_in p lane.Watch h o ≡ None
watch_quiet p h (op.Notify n t note) e = absurd (false≢true e)
watch_quiet p h o e = refl

watch_there : (p : Plan) (h : List Entry) (o : Op) → IsHistory p h → IsDue p h o → removes lane.Watch h o ≡ true → removed_by notifies h < notes_of h
watch_there p h (op.AckOk n) l d e = by_place (place_of p n h) refl d
  where
    by_place : (x : Place) → place_of p n h ≡ x → Acks h x → removed_by notifies h < notes_of h
    by_place (Following f) b a = absurd (false≢true (sym (ap notifies (follower_task p n h f l b)) ∙ e))
    by_place (Leading t s) b a = absurd (false≢true (sym (ap notifies (leader_task p n h t s l b)) ∙ e))
    by_place (Telling w t s) b a = head_there (notes_of h) (removed_by notifies h) w a.1
    by_place x b a = absurd a
watch_there p h o l d e = absurd (false≢true e)

watch_step : (p : Plan) (h : List Entry) (o : Op) (s : LaneState) → IsHistory p h → IsDue p h o → IsCounted s (notes_of h) (removed_by notifies h) → IsCounted (lane_step (letter_in p lane.Watch h o) (removes lane.Watch h o) s) (note_count o (notes_of h)) (removed_in notifies h o (removed_by notifies h))
watch_step p h o s l d i =
    subst (λ g. IsCounted (lane_step (letter_in p lane.Watch h o) (removes lane.Watch h o) s) g (removed_in notifies h o (removed_by notifies h))) (noted_counted p h o (notes_of h))
    (subst (λ r. IsCounted (lane_step (letter_in p lane.Watch h o) (removes lane.Watch h o) s) (count_put (letter_in p lane.Watch h o) (notes_of h)) r) (watch_removes h o (removed_by notifies h))
    (lane_counted s (letter_in p lane.Watch h o) (removes lane.Watch h o) (notes_of h) (removed_by notifies h) (watch_quiet p h o) (watch_there p h o l d) i))

watch_counted : (p : Plan) (h : List Entry) → IsHistory p h → IsCounted (lane_after p lane.Watch h) (notes_of h) (removed_by notifies h)
watch_counted p [] l = none_counted
watch_counted p (e ∷ h) l = watch_step p h e.op (lane_after p lane.Watch h) l.0 (due p e h l) (watch_counted p h l.0)

pub lanes_are_counted : LanesAreCounted
lanes_are_counted p h l = (λ c. session_counted p c h l, leader_counted p h l, watch_counted p h l)

head_is : (s : LaneState) (g r : ℕ) → IsCounted s g r → head_number s ≡ head_among g r
head_is s g r i = head_counted s.given s.waiting g r i

pub heads_are_the_rules : HeadsAreTheRules
heads_are_the_rules p h l = (λ c. head_is _ _ _ (session_counted p c h l), head_is _ _ _ (leader_counted p h l), head_is _ _ _ (watch_counted p h l))
