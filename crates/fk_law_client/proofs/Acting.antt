-- What a client's operations say of it.
use Rattle.std.specs.Prelude.{if◌then◌else◌, max}
use Rattle.std.proofs.Common.{◌≡◌, ℕ, ◌+◌, ◌≤◌, ◌⊎◌, inl, inr, Bool, true, false, List, [], ◌∷◌, refl, sym, ◌∙◌, subst, Option, Some, None}
use Rattle.std.proofs.lemmas.Bool.{false≢true}
use Rattle.std.proofs.lemmas.Option.{same_Some, none-some}
use Rattle.fk_print.specs.declared.entry.Entry.{Entry}
use Rattle.fk_print.specs.declared.op.Op.{Op}
use Rattle.fk_print.specs.declared.op.Op.TheVariants as op
use Rattle.fk_spec.specs.Plan.{Plan, Ask, Want, Reads, asked, asks_in}
use Rattle.fk_spec.specs.Shown.{seen_by}
use Rattle.fk_spec.specs.Settling.{mark_of}
use Rattle.fk_spec.specs.Sight.{sight_of, Sight}
use Rattle.fk_spec.specs.Client.{number_looked_for, by_result, is_unfit, is_write, target_with, target_sent, target_of, all_go_on, is_none_sent, may_begin, client_in, client_of, Sent, Reading, Client, Target}
use Rattle.fk_spec.specs.Replies.{verb_asked}
use Rattle.fk_spec.specs.Next.{IsHistory}
use Rattle.fk_law_watch.proofs.Reading.{none_sent}
use Rattle.fk_law.specs.Operations.{Begins, BeginsWrite, BeginsRead, WaitsToRegister, OperationSays}
use Rattle.fk_law.proofs.Due.{client_operations_say}

abbrev pub IsUpTo : ℕ → Option ℕ → Type 0
IsUpTo mark None = Unit {0}
IsUpTo mark (Some n) = n ≤ mark

abbrev pub HeadUpTo : ℕ → List Sent → Type 0
HeadUpTo mark [] = Unit {0}
HeadUpTo mark (s ∷ ss) = IsUpTo mark (number_looked_for s.result)

-- what was looked for is at most the mark: the first reply's number, or the read's
abbrev pub LooksSo : Client Sent → ℕ → ℕ → Type 0
LooksSo x seen mark = (x.reading ≡ None → HeadUpTo mark x.sent) × ((r : Reading) → x.reading ≡ Some r → r.looked ≡ false → max seen r.stamp ≤ mark)

abbrev pub IsLooked : Option Reading → Type 0
IsLooked None = ⊥
IsLooked (Some r) = r.looked ≡ true

-- command i is the next one, no read is made, and it is a write or nothing is unanswered
abbrev pub BeginsSo : Plan → ℕ → Client Sent → ℕ → Type 0
BeginsSo p c x i = (i ≡ x.begun + 1) × (x.reading ≡ None) × ((is_write (verb_asked (asked p c i)) ≡ true) ⊎ (x.sent ≡ []))

-- and the command isn't unfit
abbrev pub SendsSo : Plan → ℕ → Client Sent → ℕ → Type 0
SendsSo p c x i = (i ≡ x.begun + 1) × (x.reading ≡ None) × ((is_write (verb_asked (asked p c i)) ≡ true) ⊎ (x.sent ≡ [])) × (is_unfit (asked p c i) ≡ false)

abbrev IsRead : Want → Type 0
IsRead (Reads q watch) = Unit {0}
IsRead _ = ⊥

abbrev pub ReadsTree : Option Ask → Type 0
ReadsTree None = ⊥
ReadsTree (Some a) = IsRead a.want

-- what these operations of client c, standing so, say of it
abbrev pub ActsAs : Plan → ℕ → Client Sent → ℕ → ℕ → Op → Type 0
ActsAs p c x seen mark (op.LookOk d i m) = LooksSo x seen mark
ActsAs p c x seen mark (op.WatchSet d i id) = (i ≡ x.begun + 1) × IsLooked x.reading
ActsAs p c x seen mark (op.WatchSwept d i t) = (i ≡ x.begun + 1) × IsLooked x.reading
ActsAs p c x seen mark (op.WatchFault d i) = (i ≡ x.begun + 1) × IsLooked x.reading
ActsAs p c x seen mark (op.Send d i k) = SendsSo p c x i
ActsAs p c x seen mark (op.SendFault d i) = SendsSo p c x i
ActsAs p c x seen mark (op.Local d i) = BeginsSo p c x i
ActsAs p c x seen mark (op.Read d i s) = BeginsSo p c x i × ReadsTree (asked p c i)
ActsAs p c x seen mark (op.ReadFault d i) = BeginsSo p c x i × ReadsTree (asked p c i)
ActsAs p c x seen mark _ = Unit {0}

-- the number of the first reply, where that is looked for
head_up : (ss : List Sent) (t : Target) (mark : ℕ) → target_sent by_result ss ≡ Some t → t.number ≤ mark → HeadUpTo mark ss
head_up [] t mark q b = tt
head_up (s ∷ ss) t mark q b = by_number (number_looked_for s.result) q
  where
    by_number : (o : Option ℕ) → target_with s.command o ≡ Some t → IsUpTo mark o
    by_number None e = tt
    by_number (Some n) e = subst (λ z. z.number ≤ mark) (sym (same_Some (record { command = s.command; number = n }) t e)) b

-- what is looked for is the number of a read that isn't looked at yet, else that of the first reply
target_looks : (s : Sight) (x : Client Sent) (r : Option Reading) (t : Target) → x.reading ≡ r → target_of by_result s.seen x r ≡ Some t → t.number ≤ s.mark → LooksSo x s.seen s.mark
target_looks s x None t e q b = ((λ _. head_up x.sent t s.mark q b), λ r f. absurd (none-some r (sym e ∙ f)))
target_looks s x (Some r) t e q b = ((λ f. absurd (none-some r (sym f ∙ e))), λ z f g. let y = same_Some r z (sym e ∙ f) in subst (λ v. max s.seen v.stamp ≤ s.mark) y (by_flag r.looked (subst (λ v. v.looked ≡ false) (sym y) g) q))
  where
    by_flag : (w : Bool) → w ≡ false → (if w then target_sent by_result x.sent else Some (record { command = x.begun + 1; number = max s.seen r.stamp })) ≡ Some t → max s.seen r.stamp ≤ s.mark
    by_flag true g u = absurd (false≢true (sym g))
    by_flag false g u = subst (λ v. v.number ≤ s.mark) (sym (same_Some (record { command = x.begun + 1; number = max s.seen r.stamp }) t u)) b

-- what a command that may begin leaves unanswered
may_leave : (p : Plan) (c i : ℕ) (h : List Entry) (a : Ask) (ss : List Sent) → asked p c i ≡ Some a → may_begin by_result (asks_in p c) a ss ≡ true → (is_write (verb_asked (asked p c i)) ≡ true) ⊎ (ss ≡ [])
may_leave p c i h a ss q m = writing (is_write a.verb) refl m
  where
    writing : (v : Bool) → is_write a.verb ≡ v → (if v then all_go_on by_result (asks_in p c) ss else is_none_sent ss) ≡ true → (is_write (verb_asked (asked p c i)) ≡ true) ⊎ (ss ≡ [])
    writing true f g = inl (subst (λ z. is_write (verb_asked z) ≡ true) (sym q) f)
    writing false f g = inr (none_sent ss g)

begins_so : (p : Plan) (c i : ℕ) (h : List Entry) → Begins p c i h → BeginsSo p c (client_of p c h) i
begins_so p c i h b = (b.next, b.reads_nothing, may_leave p c i h b.ask (client_of p c h).sent b.is_asked b.allowed)

sends_so : (p : Plan) (c i : ℕ) (h : List Entry) → BeginsWrite p c i h → SendsSo p c (client_of p c h) i
sends_so p c i h b =
    let z = begins_so p c i h b.begins in
    (z.0, z.1, z.2, subst (λ a. is_unfit a ≡ false) (sym b.begins.is_asked) (subst (λ w. is_unfit (Some (record b.begins.ask { want = w })) ≡ false) (sym b.writes) refl))

pub begins_to_read : (p : Plan) (c i : ℕ) (h : List Entry) → BeginsRead p c i h → BeginsSo p c (client_of p c h) i × ReadsTree (asked p c i)
begins_to_read p c i h b = (begins_so p c i h b.begins, subst ReadsTree (sym b.begins.is_asked) (subst IsRead (sym b.reads) tt))

waits_so : (p : Plan) (c i : ℕ) (h : List Entry) → WaitsToRegister p c i h → (i ≡ (client_of p c h).begun + 1) × IsLooked (client_of p c h).reading
waits_so p c i h w = (w.next, subst IsLooked (sym w.made) w.looked)

acts_as : (p : Plan) (c : ℕ) (h : List Entry) (o : Op) → OperationSays p c h o → ActsAs p c (client_of p c h) (seen_by c h) (mark_of h) o
acts_as p c h (op.LookOk d i m) a = target_looks (sight_of p c h) (client_of p c h) (client_of p c h).reading (record { command = i; number = a.0.number }) refl a.0.target a.2
acts_as p c h (op.WatchSet d i id) a = waits_so p c i h a.0
acts_as p c h (op.WatchSwept d i t) a = waits_so p c i h a.0
acts_as p c h (op.WatchFault d i) a = waits_so p c i h a
acts_as p c h (op.Send d i k) a = sends_so p c i h a.0
acts_as p c h (op.SendFault d i) a = sends_so p c i h a
acts_as p c h (op.Local d i) a = begins_so p c i h a.0
acts_as p c h (op.Read d i s) a = begins_to_read p c i h a.0
acts_as p c h (op.ReadFault d i) a = begins_to_read p c i h a
acts_as p c h o a = tt

-- an operation of client c says this of it
pub entry_acts : (p : Plan) (c : ℕ) (e : Entry) (h : List Entry) → IsHistory p (e ∷ h) → client_in e.op ≡ Some c → ActsAs p c (client_of p c h) (seen_by c h) (mark_of h) e.op
entry_acts p c e h l a = acts_as p c h e.op (client_operations_say p c e h l a)
