-- The user storage at its start, where nothing changes it, after a put and after a publication.
use Rattle.std.specs.Prelude.{◌==◌}
use Rattle.std.proofs.Common.{◌≡◌, ℕ, zero, suc, inl, inr, ◌≤◌, ◌<◌, Bool, true, false, cond, List, [], ◌∷◌, max, refl, sym, ◌∙◌, ap, subst, arith, Some}
use Rattle.std.proofs.lemmas.Bool.{false≢true}
use Rattle.std.proofs.lemmas.Bool.Decides.{nat_tests}
use Rattle.std.proofs.lemmas.Option.{same_Some}
use Rattle.fk_base.specs.Path.{PathNames, is_root, same_path}
use Rattle.fk_tree.specs.Edit.{edited, effects, view_after}
use Rattle.fk_tree.specs.Sorted.{has_path}
use Rattle.fk_tree.specs.Touch.{edited_paths, edits_at}
use Rattle.fk_tree.specs.declared.applied.Applied.{Applied}
use Rattle.fk_tree.proofs.Order.{same_path_is}
use Rattle.fk_tree.proofs.Looking.{same_flip}
use Rattle.fk_print.specs.declared.entry.Entry.{Entry}
use Rattle.fk_print.specs.declared.event.Event.{Event}
use Rattle.fk_print.specs.declared.line.Line.{Line}
use Rattle.fk_print.specs.declared.op.Op.{Op}
use Rattle.fk_print.specs.declared.op.Op.TheVariants as op
use Rattle.fk_user.specs.Meaning.{new_store, published, put_record, with_put}
use Rattle.fk_law_tree.proofs.Counting.{only_its_edits}
use Rattle.fk_stand.specs.Stores.{store_after}
use Rattle.fk_spec.specs.Plan.{Plan}
use Rattle.fk_spec.specs.Settling.{mark_of, swept_in, swept_of}
use Rattle.fk_spec.specs.Stored as stored
use Rattle.fk_spec.specs.Stored.{committed_as, committed_in, committed_of, filled_after, record_of, stamp_in, stamp_of, up_to, with_filled}
use Rattle.fk_spec.specs.Leader as leader
use Rattle.fk_spec.specs.Function.{Leading, place_of}
use Rattle.fk_spec.specs.Watches.{published_epoch}
use Rattle.fk_spec.specs.Next.{IsHistory}
use Rattle.fk_law.specs.Due.{IsDue}
use Rattle.fk_law.specs.LeaderLane.{IsFinished}
use Rattle.fk_law.proofs.Beyond.{commits_rise}
use Rattle.fk_law.proofs.Due.{due}
use Rattle.fk_law.proofs.Leading.{commits_are_beyond_the_sweep, leader_stands_where_it_may, published_are_committed, push_reached, pushes_below_the_head}
use Rattle.fk_law.proofs.Leaving.{commit_is}
use Rattle.fk_law.proofs.Numbered.{all_once, one_more}
use Rattle.fk_law.proofs.Sending.{was_committed}
use Rattle.fk_law.proofs.Starting.{leader_task}
use Rattle.fk_law.proofs.Stamping.{all_found, beyond_not, none_between, published_are_stamped, same_between}
use Rattle.fk_agree.specs.Stored.{LeavesStore, NewStoreStands, PublicationIsWritten, PutIsWritten, StoreStays}
use Rattle.fk_base.proofs.Logic.{by_test}

-- A put. ------------------------------------------------------------------------------------------------

-- a committed push below the leader's is published, so the paths that it edits are stamped
stamped_below : (p : Plan) (n t : ℕ) (s : leader.Stage) (h : List Entry) (q : PathNames) (b : Applied) → IsHistory p h → place_of p n h ≡ Leading t s → committed_as p b.tx h ≡ Some b → 1 ≤ b.tx → b.tx < t → has_path q (edited_paths b) ≡ true → b.tx ≤ stamp_of q h
stamped_below p n t s h q b l d c o u w = by_end (pushes_below_the_head p b.tx h l o (let r = (push_reached p n t h l (leader_task p n h t s l d)).1 in omega (arith, r, u)))
  where
    by_end : IsFinished b.tx h → b.tx ≤ stamp_of q h
    by_end (inl x) = absurd (false≢true (sym x.uncommitted ∙ was_committed p b.tx h b c))
    by_end (inr x) = published_are_stamped p b.tx h b q l c (published_are_committed p b.tx h l x.1).1 w

-- what the commits up to its stamp leave at a path, those up to the push before leave too
same_before : (p : Plan) (n t : ℕ) (s : leader.Stage) (h : List Entry) (q : PathNames) → IsHistory p h → place_of p n h ≡ Leading (suc t) s → stamp_of q h ≤ t → (view_after (up_to (stamp_of q h) (committed_of p h))).node q ≡ (view_after (up_to t (committed_of p h))).node q
same_before p n t s h q l d u = same_between (stamp_of q h) t q (committed_of p h) u (none_between (stamp_of q h) t q (committed_of p h) (committed_of p h) (all_found (committed_of p h) (all_once p h l)) unedited)
  where
    unedited : (b : Applied) → committed_as p b.tx h ≡ Some b → stamp_of q h < b.tx → b.tx ≤ t → has_path q (edited_paths b) ≡ false
    unedited b c v w = by_test (has_path q (edited_paths b)) (λ z. z ≡ false) (λ x. let y = stamped_below p n (suc t) s h q b l d c (omega (arith, v)) (omega (arith, w)) x in absurd (omega (arith, v, y))) (λ _. refl)

number_step : (t : ℕ) (a b : Applied) (done : List Applied) → (stored.applied_as t done ≡ Some a → a.tx ≡ t) → stored.applied_as t (b ∷ done) ≡ Some a → a.tx ≡ t
number_step t a b done i e = by_number (b.tx == t) refl
  where
    by_number : (z : Bool) → (b.tx == t) ≡ z → a.tx ≡ t
    by_number true f = let g : b.tx ≡ t = grind (arith, nat_tests) in sym (ap (λ x. x.tx) (same_Some b a (sym (ap (λ z. cond z (Some b) (stored.applied_as t done)) f) ∙ e))) ∙ g
    by_number false f = i (sym (ap (λ z. cond z (Some b) (stored.applied_as t done)) f) ∙ e)

-- a commit has its number
number_of : (t : ℕ) (a : Applied) (done : List Applied) → stored.applied_as t done ≡ Some a → a.tx ≡ t
number_of t a [] e = absurd (grind arith)
number_of t a (b ∷ done) e = number_step t a b done (number_of t a done) e

-- so its edits make of the record what the commits up to the push leave
put_node : (p : Plan) (n t : ℕ) (s : leader.Stage) (h : List Entry) (q : PathNames) (a : Applied) → IsHistory p h → place_of p n h ≡ Leading (suc t) s → stamp_of q h ≤ t → committed_as p (suc t) h ≡ Some a → edited (suc t) a.moment q (edits_at q (effects a)) (record_of p q h) ≡ (view_after (up_to (suc t) (committed_of p h))).node q
put_node p n t s h q a l d u c =
    sym (only_its_edits (suc t) a.moment q (effects a) (record_of p q h))
    ∙ (ap (edited (suc t) a.moment q (effects a)) (same_before p n t s h q l d u)
    ∙ (ap (λ m. edited m a.moment q (effects a) ((view_after (up_to t (committed_of p h))).node q)) (sym (number_of (suc t) a (committed_of p h) c))
    ∙ sym (ap (λ v. v.node q) (one_more t (committed_of p h) a (commits_rise p h l) (all_once p h l) c))))

-- The whole storage. ------------------------------------------------------------------------------------

abbrev putting : Event → List Line → ℕ → ℕ → PathNames → List Entry → List Entry
putting v ls n t path h = record { event = v; op = op.PutOk n t path; lines = ls } ∷ h

put_record_at : (p : Plan) (n t faults : ℕ) (v : Event) (ls : List Line) (path : PathNames) (s : leader.Stage) (h : List Entry) (a : Applied) (q : PathNames) → IsHistory p h → place_of p n h ≡ Leading (suc t) s → stamp_of path h ≤ t → committed_as p (suc t) h ≡ Some a
    → (with_put (store_after p h faults) path (suc t) a.moment (edits_at path (effects a))).records q ≡ (store_after p (putting v ls n (suc t) path h) faults).records q
put_record_at p n t faults v ls path s h a q l d u c = by_path (same_path q path) refl
  where
    by_path : (b : Bool) → same_path q path ≡ b → (with_put (store_after p h faults) path (suc t) a.moment (edits_at path (effects a))).records q ≡ (store_after p (putting v ls n (suc t) path h) faults).records q
    by_path true e =
        let w : q ≡ path = same_path_is q path e in
        let f : same_path path q ≡ true = same_flip path q ∙ e in
        let m : stamp_of q h ≤ t = subst (λ x. stamp_of x h ≤ t) (sym w) u in
        let z : max (suc t) (stamp_of q h) ≡ suc t = omega (arith, m) in
        let y : stamp_of q (putting v ls n (suc t) path h) ≡ suc t = ap (λ b. cond b (max (suc t) (stamp_of q h)) (stamp_of q h)) f ∙ z in
        ap (λ b. cond b (put_record path (suc t) a.moment (edits_at path (effects a)) ((store_after p h faults).records q)) ((store_after p h faults).records q)) e
        ∙ (λ i. record { node = (ap (λ x. edited (suc t) a.moment x (edits_at x (effects a)) (record_of p q h)) (sym w) ∙ (put_node p n t s h q a l d m c ∙ sym (ap (λ x. (view_after (up_to x (committed_of p h))).node q) y))) i; stamp = (sym y) i })
    by_path false e =
        let f : same_path path q ≡ false = same_flip path q ∙ e in
        let y : stamp_of q (putting v ls n (suc t) path h) ≡ stamp_of q h = ap (λ b. cond b (max (suc t) (stamp_of q h)) (stamp_of q h)) f in
        ap (λ b. cond b (put_record path (suc t) a.moment (edits_at path (effects a)) ((store_after p h faults).records q)) ((store_after p h faults).records q)) e
        ∙ (λ i. record { node = (sym (ap (λ x. (view_after (up_to x (committed_of p h))).node q) y)) i; stamp = (sym y) i })

put_store : (p : Plan) (n t faults : ℕ) (v : Event) (ls : List Line) (path : PathNames) (s : leader.Stage) (h : List Entry) (a : Applied) → IsHistory p h → place_of p n h ≡ Leading t s → stamp_of path h < t → committed_as p t h ≡ Some a → with_put (store_after p h faults) path t a.moment (edits_at path (effects a)) ≡ store_after p (putting v ls n t path h) faults
put_store p n zero faults v ls path s h a l d u c = absurd (omega (arith, u))
put_store p n (suc t) faults v ls path s h a l d u c = λ i. record {
  records = λ q. (put_record_at p n t faults v ls path s h a q l d (omega (arith, u)) c) i;
  mark = mark_of h;
  epoch = published_epoch p h;
  armed = false;
  faults = faults;
}

pub put_is_written : PutIsWritten
put_is_written p n t faults path e h a l g c =
    put_store p n t faults e.event e.lines path (leader.Put path d.0) h a l.0 d.1 d.2 c
    ∙ ap (λ o. store_after p (record { event = e.event; op = o; lines = e.lines } ∷ h) faults) (sym g)
  where
    d : IsDue p h (op.PutOk n t path)
    d = subst (IsDue p h) g (due p e h l)

-- A publication. ----------------------------------------------------------------------------------------

pub publication_is_written : PublicationIsWritten
publication_is_written p n t faults e h l g = subst (λ o. published (store_after p h faults) t (published_epoch p (record { event = e.event; op = o; lines = e.lines } ∷ h)) ≡ store_after p (record { event = e.event; op = o; lines = e.lines } ∷ h) faults) (sym g) (λ i. record { records = (store_after p h faults).records; mark = (beyond (mark_of h) t d.1) i; epoch = published_epoch p (record { event = e.event; op = op.PublishOk n t; lines = e.lines } ∷ h); armed = false; faults = faults })
  where
    beyond : (m t : ℕ) → m < t → t ≡ max t m
    beyond m t b = omega (arith, b)

    d : IsDue p h (op.PublishOk n t)
    d = subst (IsDue p h) g (due p e h l)

-- Where nothing changes it. -----------------------------------------------------------------------------

new_record : (p : Plan) (q : PathNames) → new_store.records q ≡ (store_after p [] 0).records q
new_record p q = by_root (is_root q) refl
  where
    by_root : (b : Bool) → is_root q ≡ b → new_store.records q ≡ (store_after p [] 0).records q
    by_root true e = rw e refl
    by_root false e = rw e refl

pub new_store_stands : NewStoreStands
new_store_stands p = λ i. record { records = λ q. (new_record p q) i; mark = 0; epoch = []; armed = false; faults = 0 }

swept_more : (o : Op) (n : ℕ) → n ≤ swept_in o n
swept_more (op.SweepOk n t fired) m = omega arith
swept_more o m = omega arith

stamp_step : (p : Plan) (q : PathNames) (h : List Entry) (o : Op) → IsHistory p h → IsDue p h o → stamp_of q h ≤ swept_of h → stamp_in q o (stamp_of q h) ≤ swept_in o (swept_of h)
stamp_step p q h (op.PutOk n t path) l d b =
    let w = (leader_stands_where_it_may p n t (leader.Put path d.0) h l d.1).1 in
    by_test (same_path path q) (λ z. cond z (max t (stamp_of q h)) (stamp_of q h) ≤ swept_of h) (λ _. omega (arith, w, b)) (λ _. b)
stamp_step p q h o l d b = let w = swept_more o (swept_of h) in omega (arith, b, w)

-- a record is put after its push was swept
stamp_at_most_swept : (p : Plan) (q : PathNames) (h : List Entry) → IsHistory p h → stamp_of q h ≤ swept_of h
stamp_at_most_swept p q [] l = omega arith
stamp_at_most_swept p q (e ∷ h) l = stamp_step p q h e.op l.0 (due p e h l) (stamp_at_most_swept p q h l.0)

-- a commit is beyond each record's stamp
record_stays : (p : Plan) (v : Event) (ls : List Line) (n t : ℕ) (h : List Entry) (q : PathNames) → IsHistory p h → IsDue p h (op.CommitOk n t) → (view_after (up_to (stamp_of q h) (committed_in p h (op.CommitOk n t) (committed_of p h)))).node q ≡ record_of p q h
record_stays p v ls n t h q l d =
    let c = commit_is p n t h l d in
    let w = (commits_are_beyond_the_sweep p n t h l d).1 in
    let b = stamp_at_most_swept p q h l in
    ap (λ y. (view_after (up_to (stamp_of q h) (with_filled (committed_of p h) t y))).node q) c.is
    ∙ ap (λ bs. (view_after bs).node q) (beyond_not (stamp_of q h) (filled_after (committed_of p h) t c.pushed) (committed_of p h) (omega (arith, b, w)))

stays : (p : Plan) (faults : ℕ) (v : Event) (o : Op) (ls : List Line) (h : List Entry) → IsHistory p h → IsDue p h o → LeavesStore o → store_after p (record { event = v; op = o; lines = ls } ∷ h) faults ≡ store_after p h faults
stays p faults v (op.PutOk n t path) ls h l d k = absurd k
stays p faults v (op.PublishOk n t) ls h l d k = absurd k
stays p faults v (op.CommitOk n t) ls h l d k = λ i. record {
  records = λ q. record { node = (record_stays p v ls n t h q l d) i; stamp = stamp_of q h };
  mark = mark_of h;
  epoch = published_epoch p h;
  armed = false;
  faults = faults;
}
stays p faults v o ls h l d k = refl

pub store_stays : StoreStays
store_stays p faults e h l k = stays p faults e.event e.op e.lines h l.0 (due p e h l) k
