-- When a client has nothing to do, and what its operation needs.
use Rattle.std.specs.Prelude.{nat_lt, ◌&&◌, not, is_none, is_some, if◌then◌else◌, ◌-◌, ◌^◌}
use Rattle.std.proofs.Common.{◌≡◌, ℕ, ◌+◌, ◌<◌, Bool, true, false, List, [], ◌∷◌, refl, sym, ◌∙◌, ap, subst, arith, Option, Some, None}
use Rattle.fk_tree.specs.Ask.{path_asked}
use Rattle.fk_tree.specs.Watch.{kind_asked}
use Rattle.fk_tree.specs.declared.request.Request.{Request}
use Rattle.fk_print.specs.declared.entry.Entry.{Entry}
use Rattle.fk_print.specs.declared.op.Op.{Op}
use Rattle.fk_print.specs.declared.op.Op.TheVariants as op
use Rattle.fk_queue.specs.Lanes.{is_session}
use Rattle.fk_queue.specs.declared.lane.Lane.TheVariants as lane
use Rattle.fk_queue.specs.declared.letter.Letter.{Letter}
use Rattle.fk_wire.specs.Limits.{IsLimitedRequest}
use Rattle.fk_base.specs.Limits.{IsNumber}
use Rattle.fk_wire.specs.declared.version.Version.TheVariants as version
use Rattle.fk_stand.specs.Posts.{lane_after, post_after}
use Rattle.fk_spec.specs.Plan.{Plan, Ask, Want, Unfit, Writes, Reads, asks_in, is_client}
use Rattle.fk_spec.specs.Start.{request_in, written}
use Rattle.fk_spec.specs.Settling.{Outcome, Committed, Refused, Passed}
use Rattle.fk_spec.specs.Shown.{seen_by}
use Rattle.fk_spec.specs.Lanes.{Message, Done, Evicted, Kept, Watch, Ping, inbox_of}
use Rattle.fk_spec.specs.Sight.{Sight, first_message, sight_of}
use Rattle.fk_spec.specs.Client.{Client, Reading, Target, begin_asked, begin_op, by_result, client_of, client_op, first_held, held_op, local_if, look_op, look_or, may_begin, next_asked, number_read, op_of_client, pong_or, register_asked, register_for, take_op, take_or, target_of, watch_or}
use Rattle.fk_spec.specs.Schedule as schedule
use Rattle.fk_spec.specs.Next.{IsHistory}
use Rattle.fk_law_watch.proofs.Counting.{pushes_are_bounded}
use Rattle.fk_law_watch.proofs.SetWatches.{given_are_bounded}
use Rattle.fk_law_client.proofs.Pushed.{mark_pushed}
use Rattle.fk_law_client.proofs.Seen.{seen_published}
use Rattle.fk_client.specs.Fit.{IsLimitedAsk, IsLimitedWant}
use Rattle.fk_client.specs.Idle.{holds_none, is_idle, owes_none, waits_next, waits_reading}
use Rattle.fk_client.specs.Knowing.{client_known}
use Rattle.fk_client.specs.Known.{by_outcome}
use Rattle.fk_client.specs.Meaning.{Meaning, asks_read, is_read, next_ask}
use Rattle.fk_client.specs.Told.{IsReadable}
use Rattle.fk_client.specs.declared.unanswered.Unanswered.{Unanswered}
use Rattle.fk_client.proofs.Same.{makes_the_same}
use Rattle.fk_agree.proofs.Serving.{lane_is, session_there}
use Rattle.fk_agree_client.specs.Inbox.{AllSay, CanBeSaid}
use Rattle.fk_agree_client.specs.Serving.{ClientIsFit, ClientIsIdle}
use Rattle.fk_agree_client.specs.Standing.{standing}
use Rattle.fk_agree_client.proofs.Inbox.{inbox_says_its_messages}
use Rattle.fk_base.proofs.Logic.{by_test}
use Rattle.fk_agree.proofs.Bounds.{lane_low}

-- What is no operation. ----------------------------------------------------------------------------------

takes_kept : (c k : ℕ) (o : Outcome) → schedule.is_idle (take_op c (Kept k o)) ≡ false
takes_kept c k (Committed tx) = refl
takes_kept c k (Refused code place at) = refl
takes_kept c k (Passed loss) = refl

takes_some : (c : ℕ) (m : Message) → schedule.is_idle (take_op c m) ≡ false
takes_some c (Done k tx) = refl
takes_some c (Evicted k tx) = refl
takes_some c (Kept k o) = takes_kept c k o
takes_some c (Watch id) = refl
takes_some c (Ping n) = refl

holds_some : (c i mark : ℕ) (o : Option ℕ) → schedule.is_idle (held_op c i mark o) ≡ false
holds_some c i mark None = refl
holds_some c i mark (Some id) = refl

looks_some : (s : Sight) (held : List ℕ) (t : Target) → schedule.is_idle (look_op s held t) ≡ false
looks_some s held t = by_test (nat_lt s.mark t.number) (λ b. schedule.is_idle (if b then op.LookBehind s.session t.command s.mark else held_op s.session t.command s.mark (first_held s.epoch held)) ≡ false) (λ _. refl) (λ _. holds_some s.session t.command s.mark (first_held s.epoch held))

local_some : (b : Bool) (c i : ℕ) (o : Op) → schedule.is_idle o ≡ false → schedule.is_idle (local_if b c i o) ≡ false
local_some true c i o e = refl
local_some false c i o e = e

begins_some : (s : Sight) (i : ℕ) (closed : Bool) (w : Want) → schedule.is_idle (begin_op s i closed w) ≡ false
begins_some s i closed Unfit = refl
begins_some s i closed (Writes r) = local_some closed s.session i (op.Send s.session i s.next) refl
begins_some s i closed (Reads q watch) = local_some closed s.session i (op.Read s.session i (s.stamp (path_asked q))) refl

registers_when : (s : Sight) (i n : ℕ) (w : Want) → schedule.is_idle (register_for s i n w) ≡ not (is_read w)
registers_when s i n Unfit = refl
registers_when s i n (Writes r) = refl
registers_when s i n (Reads q watch) = by_test (nat_lt n (s.sweep (path_asked q))) (λ b. schedule.is_idle (if b then op.WatchSwept s.session i (s.sweep (path_asked q)) else op.WatchSet s.session i (s.watch (path_asked q) (kind_asked q))) ≡ false) (λ _. refl) (λ _. refl)

registers_where : (s : Sight) (i n : ℕ) (a : Option Ask) → schedule.is_idle (register_asked s i n a) ≡ not (asks_read a)
registers_where s i n None = refl
registers_where s i n (Some a) = registers_when s i n a.want

begins_where : (s : Sight) (m : Meaning) (a : Option Ask) → s.asks ≡ m.asks → schedule.is_idle (begin_asked by_outcome s m.client a) ≡ waits_next m a
begins_where s m None e = refl
begins_where s m (Some a) e =
    ap (λ z. schedule.is_idle (if may_begin by_outcome z a m.client.sent then begin_op s (m.client.begun + 1) m.client.closed a.want else op.Idle)) e
    ∙ by_test (may_begin by_outcome m.asks a m.client.sent) (λ b. schedule.is_idle (if b then begin_op s (m.client.begun + 1) m.client.closed a.want else op.Idle) ≡ not b) (λ _. begins_some s (m.client.begun + 1) m.client.closed a.want) (λ _. refl)

reads_where : (s : Sight) (m : Meaning) (r : Option Reading) → s.asks ≡ m.asks → schedule.is_idle (watch_or s m.client r (begin_asked by_outcome s m.client (next_asked s.asks m.client))) ≡ waits_reading m r
reads_where s m None e = begins_where s m (next_asked s.asks m.client) e ∙ ap (λ z. waits_next m (next_asked z m.client)) e
reads_where s m (Some r) e = registers_where s (m.client.begun + 1) (number_read s.seen r) (next_asked s.asks m.client) ∙ ap (λ z. not (asks_read (next_asked z m.client))) e

-- the four reasons to have something to do, one after another
idle_by : (s : Sight) (m : Meaning) (owed : List ℕ) (head : Option Message) (t : Option Target) (o : Op) → schedule.is_idle (pong_or s.session owed (take_or s.session head (look_or s m.client.held t o))) ≡ (owes_none owed && is_none head && is_none t && schedule.is_idle o)
idle_by s m (n ∷ ns) head t o = refl
idle_by s m [] (Some x) t o = takes_some s.session x
idle_by s m [] None (Some x) o = looks_some s m.client.held x
idle_by s m [] None None o = refl

letters_none : (p : Plan) (h : List Entry) (xs : List Letter) (ms : List Message) → AllSay p h xs ms → holds_none xs ≡ is_none (first_message ms)
letters_none p h [] [] i = refl
letters_none p h [] (m ∷ ms) i = absurd i
letters_none p h (x ∷ xs) [] i = absurd i
letters_none p h (x ∷ xs) (m ∷ ms) i = refl

idle_at : (p : Plan) (c f : ℕ) (h : List Entry) (x : Client Unanswered) → IsHistory p h → is_client p c ≡ true → client_known x ≡ client_of p c h → is_idle (post_after p h f) (standing p c h x) ≡ schedule.is_idle (client_op p c h)
idle_at p c f h x l i k =
    ap (λ z. owes_none x.owed && z && is_none (target_of by_outcome (seen_by c h) x x.reading) && waits_reading (standing p c h x) x.reading) (ap (λ z. holds_none z.waiting) (lane_is p h (post_after p h f) (lane.Inbox c) refl i) ∙ letters_none p h (lane_after p (lane.Inbox c) h).waiting (inbox_of p c h) (inbox_says_its_messages p c h l))
    ∙ (ap (λ z. owes_none x.owed && is_none (first_message (inbox_of p c h)) && is_none (target_of by_outcome (seen_by c h) x x.reading) && z) (sym (reads_where (sight_of p c h) (standing p c h x) x.reading refl))
    ∙ (sym (idle_by (sight_of p c h) (standing p c h x) x.owed (first_message (inbox_of p c h)) (target_of by_outcome (seen_by c h) x x.reading) (watch_or (sight_of p c h) x x.reading (begin_asked by_outcome (sight_of p c h) x (next_asked (asks_in p c) x))))
    ∙ (ap schedule.is_idle (makes_the_same (sight_of p c h) x) ∙ ap (λ y. schedule.is_idle (op_of_client by_result (sight_of p c h) y)) k)))

pub client_is_idle : ClientIsIdle
client_is_idle p c h m q l i k s = (λ j. is_idle (s j) ((k.is) j)) ∙ idle_at p c q.faults h k.client l i k.holds.known

-- What it needs. -----------------------------------------------------------------------------------------

limited_want : (w : Want) → ((r : Request) → request_in w ≡ Some r → IsLimitedRequest r) → IsLimitedWant w
limited_want Unfit f = tt
limited_want (Writes r) f = f r refl
limited_want (Reads q watch) f = tt

limited_ask : (a : Option Ask) → ((r : Request) → written a ≡ Some r → IsLimitedRequest r) → IsLimitedAsk a
limited_ask None f = tt
limited_ask (Some a) f = limited_want a.want f

readable_head : (p : Plan) (h : List Entry) (xs : List Letter) (ms : List Message) → AllSay p h xs ms → CanBeSaid p h ms → IsReadable xs
readable_head p h [] ms i k = tt
readable_head p h (x ∷ xs) [] i k = absurd i
readable_head p h (x ∷ xs) (m ∷ ms) i k = (i.0.tell, (k.0 i.0.tell i.0.told, (version.Two, tt, i.0.text)))

pub client_is_fit : ClientIsFit
client_is_fit p c h m t q u w v l b i a k x s z = record {
  busy = z;
  table = ap (λ y. is_some (t.sessions y.session)) x.is ∙ ap is_some (session_there p c h t s.table i);
  post = (λ j. is_session ((ap (λ y. y.sessions) s.post) j) ((ap (λ y. y.session) x.is) j)) ∙ i;
  inbox = subst (λ y. IsReadable (q.lanes (lane.Inbox y)).waiting) (sym (ap (λ y. y.session) x.is)) (subst (λ y. IsReadable y.waiting) (sym (lane_is p h q (lane.Inbox c) s.post i)) (readable_head p h (lane_after p (lane.Inbox c) h).waiting (inbox_of p c h) (inbox_says_its_messages p c h l) k));
  sends = subst (λ y. (q.lanes (lane.Session y)).given < 2 ^ 63 - 1) (sym (ap (λ y. y.session) x.is)) (subst (λ y. y.given < 2 ^ 63 - 1) (sym (lane_is p h q (lane.Session c) s.post i)) (lane_low p (lane.Session c) h b));
  watches = subst (λ y. y.given < 2 ^ 63 - 1) (sym s.watches) (let g = given_are_bounded p h l in omega (arith, g, b));
  seen = subst (λ y. IsNumber y.seen) (sym x.is) (let e = seen_published p c h v l in let f = mark_pushed p h l in let g = pushes_are_bounded h in omega (arith, e, f, g, b));
  request = subst (λ y. IsLimitedAsk (next_ask y)) (sym x.is) (limited_ask (next_ask (standing p c h x.client)) (λ r e. a (x.client.begun + 1) r e));
}
