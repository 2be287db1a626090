-- A follower starts on the message of its lane's head.
use Rattle.std.specs.Prelude.{◌==◌, ◌&&◌}
use Rattle.std.proofs.Common.{◌≡◌, ℕ, ◌+◌, ◌<◌, cond, List, [], ◌∷◌, refl, sym, ◌∙◌, ap, subst, arith, Some}
use Rattle.std.proofs.lemmas.Bool.{eqb-true}
use Rattle.fk_base.specs.Path.{PathNames, same_path}
use Rattle.fk_tree.specs.declared.request.Request.{Request}
use Rattle.fk_print.specs.declared.entry.Entry.{Entry}
use Rattle.fk_print.specs.declared.op.Op.{Op}
use Rattle.fk_print.specs.declared.op.Op.TheVariants as op
use Rattle.fk_queue.specs.Letters.{head_bytes}
use Rattle.fk_queue.specs.declared.lane.Lane.TheVariants as lane
use Rattle.fk_follow.specs.Meaning.{started}
use Rattle.fk_wire.specs.SentText.{IsSent, OneSent}
use Rattle.fk_wire.specs.declared.version.Version.TheVariants as version
use Rattle.fk_wire.proofs.Sents.{sents}
use Rattle.fk_wire.proofs.Texts.{one_message}
use Rattle.fk_stand.specs.Posts.{lane_after}
use Rattle.fk_spec.specs.Plan.{Plan}
use Rattle.fk_spec.specs.Start.{Follows, clock_of, request_of, seen_from, seen_with, started_in, starts_of}
use Rattle.fk_spec.specs.Locks.{own_moment, own_moment_in}
use Rattle.fk_spec.specs.Follower.{begin}
use Rattle.fk_spec.specs.Function.{is_absent}
use Rattle.fk_spec.specs.Next.{IsHistory}
use Rattle.fk_law.specs.Due.{IsDue}
use Rattle.fk_law.proofs.Due.{due}
use Rattle.fk_law.proofs.Sending.{origin_stays, request_stays, request_was_sent}
use Rattle.fk_law.proofs.Starting.{place_bound, start_places_it}
use Rattle.fk_agree.specs.Heads.{IsRequestText}
use Rattle.fk_agree.proofs.Heading.{session_head_is_its_request}
use Rattle.fk_agree_follow.specs.Followers.{FollowerStarts, IsFollower}
use Rattle.fk_base.proofs.Logic.{by_test}
use Rattle.fk_law.proofs.Passing.{starts_grow}

-- Who isn't started was granted nothing. ----------------------------------------------------------------

none_step : (p : Plan) (n : ℕ) (path : PathNames) (h : List Entry) (o : Op) → IsHistory p h → IsDue p h o → starts_of h < n → own_moment n path h ≡ 0 → own_moment_in n path (clock_of h) o (own_moment n path h) ≡ 0
none_step p n path h (op.LockOk m q) l d b i =
    by_test (m == n) (λ z. cond (z && same_path q path) (clock_of h) (own_moment n path h) ≡ 0)
    (λ e. let w = place_bound p m h l (ap is_absent d.1) in let s = eqb-true m n e in absurd (omega (arith, b, w.1, s)))
    (λ _. i)
none_step p n path h o l d b i = i

pub no_moment : (p : Plan) (n : ℕ) (path : PathNames) (h : List Entry) → IsHistory p h → starts_of h < n → own_moment n path h ≡ 0
no_moment p n path [] l b = refl
no_moment p n path (e ∷ h) l b =
    let a = starts_grow (started_in e.op) (starts_of h) in
    let c : starts_of h < n = omega (arith, a, b) in
    none_step p n path h e.op l.0 (due p e h l) c (no_moment p n path h l.0 c)

-- It starts. --------------------------------------------------------------------------------------------

one_sent : OneSent
one_sent = one_message sents

starts_on : (p : Plan) (n c k : ℕ) (e : Entry) (h : List Entry) (r : Request) → IsHistory p (e ∷ h) → e.op ≡ op.Follower n c k → n ≡ starts_of h + 1 → request_of p c k h ≡ Some r → IsSent (record { request = r; seen = seen_with c k h }) → IsFollower p n (e ∷ h) (started n c k (record { request = r; seen = seen_with c k h }))
starts_on p n c k e h r l g a q w =
    let b = (request_was_sent p c k h r l.0 q).1 in
    record {
      inv = refl;
      going = refl;
      whole = begin c k;
      sketched = refl;
      stands = start_places_it p e h (record { function = n; task = Follows c k }) (ap started_in g);
      requested = request_stays p c k e h b ∙ q;
      seen = ap seen_from (sym (origin_stays c k e h b));
      written = w;
      owns = λ path. sym (ap (λ o. own_moment_in n path (clock_of h) o (own_moment n path h)) g ∙ no_moment p n path h l.0 (omega (arith, a)));
      keeps = refl;
    }

pub follower_starts : FollowerStarts
follower_starts p n c k e h x l g r a = subst (λ z. IsFollower p n (e ∷ h) (started n c k z)) (sym same) (starts_on p n c k e h head.request l g d.0 head.requested (r head.request head.requested))
  where
    d : IsDue p h (op.Follower n c k)
    d = subst (IsDue p h) g (due p e h l)

    head : IsRequestText p c k h (head_bytes (lane_after p (lane.Session c) h))
    head = session_head_is_its_request p c k h l.0 d.1

    same : x ≡ record { request = head.request; seen = seen_with c k h }
    same = one_sent (head_bytes (lane_after p (lane.Session c) h)) x (record { request = head.request; seen = seen_with c k h }) a (r head.request head.requested, (version.Two, tt, head.text))
