-- Each event of a drain lowers a rank, so that no drain goes on for ever.
use Rattle.std.specs.Prelude.{◌≡◌, ℕ, suc, ◌+◌, ◌-◌, ◌*◌, ◌<◌, ◌⊎◌, nat_lt, if◌then◌else◌, List, [], ◌∷◌, ◌++◌, Option, Some, None, length}
use Rattle.fk_base.specs.Path.{PathNames}
use Rattle.fk_tree.specs.Locks.{parts_lock_paths, with_parents}
use Rattle.fk_tree.specs.Sorted.{in_path_order}
use Rattle.fk_tree.specs.declared.request.Request.{Request}
use Rattle.fk_tree.specs.declared.request.Request.TheVariants as request
use Rattle.fk_print.specs.declared.entry.Entry.{Entry}
use Rattle.fk_spec.specs.Plan.{Plan, Ask, asked, asks_in}
use Rattle.fk_spec.specs.Shown.{seen_by}
use Rattle.fk_spec.specs.Start.{pushes_of, request_of, sends_of, starts_of}
use Rattle.fk_spec.specs.Lanes.{follows_session, inbox_of, leads, notes_of, notifies, removed_by}
use Rattle.fk_spec.specs.Follower.{Follower}
use Rattle.fk_spec.specs.Follower as follower
use Rattle.fk_spec.specs.Leader as leader
use Rattle.fk_spec.specs.Teller as teller
use Rattle.fk_spec.specs.Watches.{last_sweep}
use Rattle.fk_spec.specs.Client.{client_of, is_open, number_read, path_read, Reading, Sent}
use Rattle.fk_spec.specs.Function.{Place, Following, Leading, Telling, place_of}
use Rattle.fk_spec.specs.Schedule.{next_of_drain}
use Rattle.fk_spec.specs.Next.{IsHistory}
use Rattle.fk_law_reply.specs.Plans.{HasFittingVerbs}
use Rattle.fk_law_drain.specs.Draining.{IsOfDrain}

-- less at the first place at which these numbers differ from those
abbrev pub IsLower : List ℕ → List ℕ → Type 0
IsLower [] ys = ⊥
IsLower (x ∷ xs) [] = ⊥
IsLower (x ∷ xs) (y ∷ ys) = (x < y) ⊎ ((x ≡ y) × IsLower xs ys)

-- ---- functions

-- how far a follower is from its end
abbrev pub follower_class : follower.Stage → ℕ
follower_class follower.Session = 8
follower_class follower.Owned = 7
follower_class (follower.Lock path) = 6
follower_class follower.Push = 5
follower_class (follower.Refuse refusal at) = 5
follower_class (follower.Expire at) = 5
follower_class (follower.Commit tx) = 4
follower_class follower.Lost = 3
follower_class follower.Reply = 2
follower_class follower.Ack = 1
follower_class follower.Ended = 0

-- at most how many paths are locked for a request
abbrev pub lock_bound : List PathNames → Option Request → ℕ
lock_bound owned None = 0
lock_bound owned (Some (request.Create path bytes seq eph)) = 2
lock_bound owned (Some (request.Set path bytes version)) = 1
lock_bound owned (Some (request.Delete path version)) = 2
lock_bound owned (Some (request.Close evict)) = length (in_path_order (with_parents owned))
lock_bound owned (Some (request.Multi parts)) = length (in_path_order (parts_lock_paths parts))

-- whether none is in flight, how far it is from its end, and how many locks it may still take
abbrev pub follower_rank : Plan → List Entry → Place → List ℕ
follower_rank p h (Following f) = 0 ∷ follower_class f.stage ∷ (lock_bound f.owned (request_of p f.session f.k h) - length f.granted) ∷ []
follower_rank p h _ = 1 ∷ 0 ∷ 0 ∷ []

-- how far a leader is from its end
abbrev pub leader_class : leader.Stage → ℕ
leader_class leader.Commit = 9
leader_class leader.Pending = 8
leader_class leader.Sweep = 7
leader_class (leader.Put path others) = 6
leader_class leader.Publish = 5
leader_class leader.Notify = 4
leader_class leader.Reply = 3
leader_class leader.Drop = 2
leader_class leader.Done = 2
leader_class leader.Ack = 1
leader_class leader.Ended = 0

abbrev pub puts_left : leader.Stage → ℕ
puts_left (leader.Put path others) = suc (length others)
puts_left _ = 0

abbrev pub leader_rank : Place → List ℕ
leader_rank (Leading t stage) = 0 ∷ leader_class stage ∷ puts_left stage ∷ []
leader_rank _ = 1 ∷ 0 ∷ 0 ∷ []

-- how far a watch function is from its end
abbrev pub teller_class : teller.Stage → ℕ
teller_class (teller.Tell firing others) = 3
teller_class teller.Told = 2
teller_class teller.Ack = 1
teller_class teller.Ended = 0

abbrev pub tells_left : teller.Stage → ℕ
tells_left (teller.Tell firing others) = suc (length others)
tells_left _ = 0

abbrev pub teller_rank : Place → List ℕ
teller_rank (Telling w t stage) = 0 ∷ teller_class stage ∷ tells_left stage ∷ []
teller_rank _ = 1 ∷ 0 ∷ 0 ∷ []

-- ---- clients

-- the sum over the clients from c on
abbrev pub client_sum : (ℕ → ℕ) → List (List Ask) → ℕ → ℕ
client_sum f [] c = 0
client_sum f (x ∷ xs) c = f c + client_sum f xs (suc c)

-- how many commands a client has to begin yet
abbrev pub commands_left : Plan → List Entry → ℕ → ℕ
commands_left p h c = length (asks_in p c) - (client_of p c h).begun

-- how many messages its session's lane holds
abbrev pub requests_left : List Entry → ℕ → ℕ
requests_left h c = sends_of c h - removed_by (follows_session c) h

-- how many of these commands have an outcome
abbrev pub outcomes_of : List Sent → ℕ
outcomes_of [] = 0
outcomes_of (s ∷ ss) = if is_open s.result then outcomes_of ss else suc (outcomes_of ss)

-- how many operations a read takes yet, three more where a sweep beyond its number touched its path
abbrev pub read_left : Plan → ℕ → List Entry → Option Reading → ℕ
read_left p c h None = 3
read_left p c h (Some r) = (if nat_lt (number_read (seen_by c h) r) (last_sweep p (path_read (asked p c ((client_of p c h).begun + 1))) h) then 3 else 0) + (if r.looked then 1 else 2)

-- a client's messages and pings, its outcomes and its read
abbrev pub client_weight : Plan → List Entry → ℕ → ℕ
client_weight p h c = 40 * length (inbox_of p c h) + 20 * length (client_of p c h).owed + 8 * outcomes_of (client_of p c h).sent + read_left p c h (client_of p c h).reading

-- The rank: what is left to begin; of the session lanes, the leader lane and the watch lane how many messages
-- each holds, and how far its function is; and what the clients have to do with what they were told.
abbrev pub rank : Plan → List Entry → List ℕ
rank p h =
    let x = place_of p (starts_of h) h in
    client_sum (commands_left p h) p.asks 1 ∷ client_sum (requests_left h) p.asks 1
    ∷ (follower_rank p h x ++ ((pushes_of h - removed_by leads h) ∷ (leader_rank x ++ ((notes_of h - removed_by notifies h) ∷ (teller_rank x ++ (client_sum (client_weight p h) p.asks 1 ∷ []))))))

-- Each event of a drain lowers the rank.
abbrev pub DrainFalls : Type 0
DrainFalls = (p : Plan) (h : List Entry) (x : Entry) → HasFittingVerbs p → IsHistory p (x ∷ h) → IsOfDrain p h → next_of_drain p h ≡ Some x.event → IsLower (rank p (x ∷ h)) (rank p h)
