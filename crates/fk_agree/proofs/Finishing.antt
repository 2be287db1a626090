-- The table after a push is done or dropped, and after a ping is noted or answered.
use Rattle.std.specs.Prelude.{◌==◌}
use Rattle.std.proofs.Common.{◌≡◌, ℕ, ◌<◌, ◌++◌, Bool, true, false, cond, List, [], ◌∷◌, max, refl, sym, ◌∙◌, ap, subst, arith, Some, None}
use Rattle.std.proofs.lemmas.Bool.{false≢true}
use Rattle.std.proofs.lemmas.Bool.Decides.{nat_tests}
use Rattle.fk_tree.specs.Tree.{map_some}
use Rattle.fk_print.specs.declared.entry.Entry.{Entry}
use Rattle.fk_print.specs.declared.event.Event.{Event}
use Rattle.fk_print.specs.declared.line.Line.{Line}
use Rattle.fk_print.specs.declared.op.Op.{Op}
use Rattle.fk_print.specs.declared.op.Op.TheVariants as op
use Rattle.fk_store.specs.Writes.{all_written, session_after, session_written, without, written}
use Rattle.fk_store.specs.declared.session_record.SessionRecord.{SessionRecord}
use Rattle.fk_store.specs.declared.write.Write.TheVariants as write
use Rattle.fk_stand.specs.Tables.{pending_in, pending_of, session_record, table_after}
use Rattle.fk_spec.specs.Plan.{Plan, is_client}
use Rattle.fk_spec.specs.Start.{Probes, clock_of, is_session, probes_session, task_of}
use Rattle.fk_spec.specs.Settling.{done_of, session_of_push}
use Rattle.fk_spec.specs.Pings.{Noted, noted_of, pong_of}
use Rattle.fk_spec.specs.Next.{IsHistory}
use Rattle.fk_law.specs.Due.{IsDue, IsPushOf}
use Rattle.fk_law.specs.Losing.{IsLive}
use Rattle.fk_law.proofs.Committing.{its_push_is_one, its_push_stays}
use Rattle.fk_law.proofs.Due.{due}
use Rattle.fk_law.proofs.Leaving.{commit_is}
use Rattle.fk_law.proofs.Settled.{session_of_its_push}
use Rattle.fk_agree.specs.Records.{DropIsWritten, FinishIsWritten, PingIsWritten, PongIsWritten}
use Rattle.fk_agree.proofs.Writing.{sessions_written}
use Rattle.fk_base.proofs.Logic.{by_test}

-- Pending commits are of their session. -----------------------------------------------------------------

abbrev AllOf : ℕ → List Entry → List ℕ → Type 0
AllOf c h [] = Unit {0}
AllOf c h (t ∷ ts) = ((m k : ℕ) × IsPushOf t m c k h) × AllOf c h ts

all_stay : (p : Plan) (c : ℕ) (e : Entry) (h : List Entry) (ts : List ℕ) → IsHistory p (e ∷ h) → AllOf c h ts → AllOf c (e ∷ h) ts
all_stay p c e h [] l a = tt
all_stay p c e h (t ∷ ts) l a = ((a.0.0, a.0.1, its_push_stays p t a.0.0 c a.0.1 e h l a.0.2), all_stay p c e h ts l a.1)

all_more : (c : ℕ) (h : List Entry) (ts : List ℕ) (t m k : ℕ) → AllOf c h ts → IsPushOf t m c k h → AllOf c h (ts ++ t ∷ [])
all_more c h [] t m k a i = ((m, k, i), tt)
all_more c h (s ∷ ts) t m k a i = (a.0, all_more c h ts t m k a.1 i)

all_without : (c t : ℕ) (h : List Entry) (ts : List ℕ) → AllOf c h ts → AllOf c h (without t ts)
all_without c t h [] a = tt
all_without c t h (s ∷ ts) a = by_test (s == t) (λ b. AllOf c h (cond b (without t ts) (s ∷ without t ts))) (λ _. all_without c t h ts a.1) (λ _. (a.0, all_without c t h ts a.1))

pending_on : (p : Plan) (c : ℕ) (h : List Entry) (o : Op) (ts : List ℕ) → IsHistory p h → IsDue p h o → AllOf c h ts → AllOf c h (pending_in c h o ts)
pending_on p c h (op.CommitOk n t) ts l d a = by_session (is_session c (session_of_push t h)) refl
  where
    v : IsLive t h
    v = (commit_is p n t h l d).live

    by_session : (b : Bool) → is_session c (session_of_push t h) ≡ b → AllOf c h (cond b (ts ++ t ∷ []) ts)
    by_session false e = a
    by_session true e =
        let s : (v.session == c) ≡ true = sym (ap (is_session c) (session_of_its_push t v.function v.session v.k h v.is_of)) ∙ e in
        let i : v.session ≡ c = grind (arith, nat_tests) in
        all_more c h ts t v.function v.k a (subst (λ x. IsPushOf t v.function x v.k h) i v.is_of)
pending_on p c h (op.DoneOk n t) ts l d a = all_without c t h ts a
pending_on p c h o ts l d a = a

pending_is_own : (p : Plan) (c : ℕ) (h : List Entry) → IsHistory p h → AllOf c h (pending_of c h)
pending_is_own p c [] l = tt
pending_is_own p c (e ∷ h) l = all_stay p c e h (pending_in c h e.op (pending_of c h)) l (pending_on p c h e.op (pending_of c h) l.0 (due p e h l) (pending_is_own p c h l.0))

-- a push of another session isn't among them
without_other : (c s t m k : ℕ) (h : List Entry) (ts : List ℕ) → IsPushOf t m c k h → (c == s) ≡ false → AllOf s h ts → without t ts ≡ ts
without_other c s t m k h [] i e a = refl
without_other c s t m k h (x ∷ ts) i e a = by_test (x == t) (λ b. cond b (without t ts) (x ∷ without t ts) ≡ x ∷ ts) (λ f. absurd (same f)) (λ _. ap (λ ys. x ∷ ys) (without_other c s t m k h ts i e a.1))
  where
    same : (x == t) ≡ true → ⊥
    same f =
        let g : x ≡ t = grind (arith, nat_tests) in
        let q = (its_push_is_one t m c k a.0.0 s a.0.1 h i (subst (λ y. IsPushOf y a.0.0 s a.0.1 h) g a.0.2)).1 in
        let z : (c == s) ≡ true = grind (arith, nat_tests) in
        false≢true (sym e ∙ z)

-- Done and dropped pushes. ------------------------------------------------------------------------------

abbrev finishing : Event → List Line → ℕ → ℕ → List Entry → List Entry
finishing v ls n t h = record { event = v; op = op.DoneOk n t; lines = ls } ∷ h

beyond : (d t : ℕ) → d < t → t ≡ max t d
beyond d t l = omega (arith, l)

finished_session : (p : Plan) (v : Event) (ls : List Line) (n t m c k : ℕ) (h : List Entry) (s : ℕ) → IsHistory p h → IsPushOf t m c k h → session_after (write.PopPending c t) s (session_record p s h) ≡ session_record p s (finishing v ls n t h)
finished_session p v ls n t m c k h s l i =
    by_test (c == s) (λ b. cond b (record (session_record p s h) { pending = without t (pending_of s h) }) (session_record p s h) ≡ session_record p s (finishing v ls n t h))
    (λ _. refl)
    (λ e. sym (ap (λ ts. record (session_record p s h) { pending = ts }) (without_other c s t m k h (pending_of s h) i e (pending_is_own p s h l))))

finished_table : (p : Plan) (v : Event) (ls : List Line) (n t m c k faults : ℕ) (h : List Entry) → IsHistory p h → done_of h < t → IsPushOf t m c k h → all_written (write.Done t ∷ write.PopPending c t ∷ []) (table_after p h faults) ≡ table_after p (finishing v ls n t h) faults
finished_table p v ls n t m c k faults h l b i = λ j. record {
  nodes = (table_after p (finishing v ls n t h) faults).nodes;
  sessions = λ s. (sessions_written (write.Done t ∷ write.PopPending c t ∷ []) (table_after p h faults) s ∙ by_test (is_client p s) (λ z. map_some (session_written s (write.Done t ∷ write.PopPending c t ∷ [])) (cond z (Some (session_record p s h)) None) ≡ cond z (Some (session_record p s (finishing v ls n t h))) None) (λ _. ap Some (finished_session p v ls n t m c k h s l i)) (λ _. refl)) j;
  done = (beyond (done_of h) t b) j;
  armed = false;
  faults = faults;
}

pub finish_is_written : FinishIsWritten
finish_is_written p n t m c k faults e h l g i =
    finished_table p e.event e.lines n t m c k faults h l.0 d.1 i
    ∙ ap (λ o. table_after p (record { event = e.event; op = o; lines = e.lines } ∷ h) faults) (sym g)
  where
    d : IsDue p h (op.DoneOk n t)
    d = subst (IsDue p h) g (due p e h l)

abbrev dropping : Event → List Line → ℕ → ℕ → List Entry → List Entry
dropping v ls n t h = record { event = v; op = op.DropOk n t; lines = ls } ∷ h

same_sessions : (p : Plan) (v : Event) (ls : List Line) (n t faults : ℕ) (h : List Entry) (s : ℕ) → map_some (λ r. r) ((table_after p h faults).sessions s) ≡ (table_after p (dropping v ls n t h) faults).sessions s
same_sessions p v ls n t faults h s = by_test (is_client p s) (λ z. map_some (λ r. r) (cond z (Some (session_record p s h)) None) ≡ cond z (Some (session_record p s (dropping v ls n t h))) None) (λ _. refl) (λ _. refl)

dropped_table : (p : Plan) (v : Event) (ls : List Line) (n t faults : ℕ) (h : List Entry) → done_of h < t → all_written (write.Done t ∷ []) (table_after p h faults) ≡ table_after p (dropping v ls n t h) faults
dropped_table p v ls n t faults h b = λ j. record {
  nodes = (table_after p (dropping v ls n t h) faults).nodes;
  sessions = λ s. (same_sessions p v ls n t faults h s) j;
  done = (beyond (done_of h) t b) j;
  armed = false;
  faults = faults;
}

pub drop_is_written : DropIsWritten
drop_is_written p n t faults e h l g =
    dropped_table p e.event e.lines n t faults h d.1
    ∙ ap (λ o. table_after p (record { event = e.event; op = o; lines = e.lines } ∷ h) faults) (sym g)
  where
    d : IsDue p h (op.DropOk n t)
    d = subst (IsDue p h) g (due p e h l)

-- Pings and their answers. ------------------------------------------------------------------------------

abbrev noting : Event → List Line → ℕ → List Entry → List Entry
noting v ls n h = record { event = v; op = op.NoteOk n; lines = ls } ∷ h

noted_session : (p : Plan) (v : Event) (ls : List Line) (n c : ℕ) (h : List Entry) (s : ℕ) → task_of n h ≡ Some (Probes c) → session_after (write.Ping c n (clock_of h)) s (session_record p s h) ≡ session_record p s (noting v ls n h)
noted_session p v ls n c h s t = by_test (c == s) (λ b. noted ≡ cond b (record { ping = n; moment = clock_of h }) (noted_of s h) → cond b (record (session_record p s h) { ping = n; ping_at = clock_of h }) (session_record p s h) ≡ session_record p s (noting v ls n h)) (λ _ f. sym (ap with_noted f)) (λ _ f. sym (ap with_noted f)) (ap (λ x. cond (probes_session s x) (record { ping = n; moment = clock_of h }) (noted_of s h)) t)
  where
    noted : Noted
    noted = noted_of s (noting v ls n h)

    with_noted : Noted → SessionRecord
    with_noted x = record (session_record p s h) { ping = x.ping; ping_at = x.moment }

noted_table : (p : Plan) (v : Event) (ls : List Line) (n c faults : ℕ) (h : List Entry) → task_of n h ≡ Some (Probes c) → all_written (write.Ping c n (clock_of h) ∷ []) (table_after p h faults) ≡ table_after p (noting v ls n h) faults
noted_table p v ls n c faults h t = λ j. record {
  nodes = (table_after p (noting v ls n h) faults).nodes;
  sessions = λ s. (by_test (is_client p s) (λ z. map_some (session_after (write.Ping c n (clock_of h)) s) (cond z (Some (session_record p s h)) None) ≡ cond z (Some (session_record p s (noting v ls n h))) None) (λ _. ap Some (noted_session p v ls n c h s t)) (λ _. refl)) j;
  done = done_of h;
  armed = false;
  faults = faults;
}

pub ping_is_written : PingIsWritten
ping_is_written p n c faults e h g t = noted_table p e.event e.lines n c faults h t ∙ ap (λ o. table_after p (record { event = e.event; op = o; lines = e.lines } ∷ h) faults) (sym g)

abbrev answering : Event → List Line → ℕ → ℕ → List Entry → List Entry
answering v ls c ping h = record { event = v; op = op.Pong c ping; lines = ls } ∷ h

answered_session : (p : Plan) (v : Event) (ls : List Line) (c ping : ℕ) (h : List Entry) (s : ℕ) → session_after (write.Pong c ping) s (session_record p s h) ≡ session_record p s (answering v ls c ping h)
answered_session p v ls c ping h s = by_test (c == s) (λ b. cond b (record (session_record p s h) { pong = max (pong_of s h) ping }) (session_record p s h) ≡ record (session_record p s h) { pong = cond b (max ping (pong_of s h)) (pong_of s h) }) (λ _. ap (λ x. record (session_record p s h) { pong = x }) (swapped (pong_of s h) ping)) (λ _. refl)
  where
    swapped : (a b : ℕ) → max a b ≡ max b a
    swapped a b = omega arith

answered_table : (p : Plan) (v : Event) (ls : List Line) (c ping faults : ℕ) (h : List Entry) → written (write.Pong c ping) (table_after p h faults) ≡ table_after p (answering v ls c ping h) faults
answered_table p v ls c ping faults h = λ j. record {
  nodes = (table_after p (answering v ls c ping h) faults).nodes;
  sessions = λ s. (by_test (is_client p s) (λ z. map_some (session_after (write.Pong c ping) s) (cond z (Some (session_record p s h)) None) ≡ cond z (Some (session_record p s (answering v ls c ping h))) None) (λ _. ap Some (answered_session p v ls c ping h s)) (λ _. refl)) j;
  done = done_of h;
  armed = false;
  faults = faults;
}

pub pong_is_written : PongIsWritten
pong_is_written p c ping faults e h g = answered_table p e.event e.lines c ping faults h ∙ ap (λ o. table_after p (record { event = e.event; op = o; lines = e.lines } ∷ h) faults) (sym g)
