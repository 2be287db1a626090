-- What a reply leaves as it was.
use Rattle.std.specs.Prelude.{option_and_then, option_map}
use Rattle.std.proofs.Common.{◌≡◌, ℕ, false, cond, List, refl, ap, None}
use Rattle.fk_print.specs.declared.entry.Entry.{Entry}
use Rattle.fk_print.specs.declared.op.Op.TheVariants as op
use Rattle.fk_queue.specs.Lanes.{same_lane}
use Rattle.fk_queue.specs.declared.lane.Lane.{Lane}
use Rattle.fk_queue.specs.declared.lane.Lane.TheVariants as lane
use Rattle.fk_wire.specs.TellText.{tell_text}
use Rattle.fk_wire.specs.declared.version.Version.TheVariants as version
use Rattle.fk_stand.specs.Messages.{tell_of}
use Rattle.fk_spec.specs.Plan.{Plan}
use Rattle.fk_spec.specs.Start.{request_of, task_of}
use Rattle.fk_spec.specs.Settling.{outcome_of}
use Rattle.fk_spec.specs.Lanes.{is_evict, reply_message}
use Rattle.fk_agree.specs.Letters.{LeavesLane}
use Rattle.fk_agree.proofs.Serving.{other_number}

-- a reply leaves all lanes but its client's inbox
pub replied_elsewhere : (p : Plan) (n c k : ℕ) (h : List Entry) (q : Lane) → same_lane q (lane.Inbox c) ≡ false → LeavesLane p q h (op.Reply n c k)
replied_elsewhere p n c k h lane.Leader e = record { none = refl; kept = refl }
replied_elsewhere p n c k h lane.Watch e = record { none = refl; kept = refl }
replied_elsewhere p n c k h (lane.Session d) e = record { none = refl; kept = refl }
replied_elsewhere p n c k h (lane.Inbox d) e = record {
  none = ap (λ b. option_map (tell_text version.Two) (option_and_then (tell_of p h) (cond b (reply_message (is_evict (request_of p d k h)) k (outcome_of d k h) (task_of n h)) None))) (other_number c d e);
  kept = refl;
}
