-- Where no push waits, all that was committed is published, and so is all that a client looks for.
use Rattle.std.specs.Prelude.{◌≡◌, ℕ, ◌≤◌, true, List, [], Some, None}
use Rattle.fk_print.specs.declared.entry.Entry.{Entry}
use Rattle.fk_spec.specs.Plan.{Plan}
use Rattle.fk_spec.specs.Settling.{is_committed, mark_of}
use Rattle.fk_spec.specs.Lanes.{inbox_of, leader_head, watch_head}
use Rattle.fk_spec.specs.Client.{Target}
use Rattle.fk_spec.specs.Next.{IsHistory}
use Rattle.fk_law.specs.Operations.{held_in_epoch, target_by}
use Rattle.fk_law_reply.specs.Plans.{HasFittingVerbs}

-- Where the leader lane is empty, each committed push is at most the mark.
abbrev pub CommittedIsPublished : Type 0
CommittedIsPublished = (p : Plan) (t : ℕ) (h : List Entry) → IsHistory p h → leader_head h ≡ None → is_committed t h ≡ true → t ≤ mark_of h

-- So is the number that a client looks for.
abbrev pub LookedForIsPublished : Type 0
LookedForIsPublished = (p : Plan) (c : ℕ) (h : List Entry) (t : Target) → HasFittingVerbs p → IsHistory p h → leader_head h ≡ None → target_by p c h ≡ Some t → t.number ≤ mark_of h

-- Where the watch lane is empty too, and a client's inbox, the client holds no watch of the published epoch.
abbrev pub NoLookIsHeld : Type 0
NoLookIsHeld = (p : Plan) (c : ℕ) (h : List Entry) → IsHistory p h → leader_head h ≡ None → watch_head h ≡ None → inbox_of p c h ≡ [] → held_in_epoch p c h ≡ None
