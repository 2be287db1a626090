use Rattle.std.proofs.Common.{◌≡◌, ◌∙◌, ap, sym}
use Rattle.fk_queue.specs.Posts.{post_of}
use Rattle.fk_spec.specs.Follower as stage
use Rattle.fk_follow.specs.Standing.{follower_of, stage_of}
use Rattle.fk_follow.proofs.Listing.{lists_so}
use Rattle.fk_follow.proofs.follower.Follower.step.Goals as goal

-- src/stepping.rt
pub returns-in_ok-list-in-Owned : goal.returns-in_ok-list-in-Owned
unfolding follower_of
returns-in_ok-list-in-Owned g c =
    let m = follower_of c.args.self.now in
    let e : m.follower.stage ≡ stage.Owned = ap stage_of (sym c.in_ok-copy.ensures ∙ c.in-Owned.is) in
    let list = c.in_ok-list-in-Owned.ensures in
    lists_so (g.T.Table.meaning c.args.table.now) (g.T.Table.meaning c.list.new.table) (post_of c.args.post.now) m (follower_of c.list.new.self) c.args.now c.args.lock c.in_ok-list-in-Owned.field-0 e list.op list.follower list.given list.table
