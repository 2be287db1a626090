use Rattle.std.proofs.Common.{rules, ◌≡◌, IfOk, sym, ◌∙◌, ap, subst, None}
use Rattle.fk_queue.specs.Posts.{post_of}
use Rattle.fk_queue.specs.declared.lane.Lane.TheVariants as lane
use Rattle.fk_user.specs.Stored.{store_of}
use Rattle.fk_watch.specs.Kept.{watches_of}
use Rattle.fk_client.specs.Shown.{lines_in, made_by}
use Rattle.fk_client.specs.Sighting.{sight_by}
use Rattle.fk_client.specs.Known.{target_as, target_in}
use Rattle.fk_client.specs.Standing.{client_of, pings_of}
use Rattle.fk_client.specs.Operation.{step_op}
use Rattle.fk_client.proofs.Steps as steps
use Rattle.fk_client.proofs.client.Client.act.Goals as goal

pub returns-in-Some-clause-lines : goal.returns-in-Some-clause-lines
returns-in-Some-clause-lines g c = λ told i. c.pong.ensures.lines (sight_by (post_of c.args.post.now) (watches_of c.args.watches.now) (store_of c.args.user.now) told (client_of c.args.self.now))

pub returns-in-Some-clause-client : goal.returns-in-Some-clause-client
returns-in-Some-clause-client g c = λ told i. c.pong.ensures.client (sight_by (post_of c.args.post.now) (watches_of c.args.watches.now) (store_of c.args.user.now) told (client_of c.args.self.now)) told

pub returns-in-Some-head-clause-op : goal.returns-in-Some-head-clause-op
unfolding client_of
returns-in-Some-head-clause-op g c = steps.on_told ((post_of c.args.post.now).lanes (lane.Inbox c.args.self.now.session)).waiting c.in-Some-head.number
    (λ o. IfOk c.take.result (λ r. r.0 ≡ step_op (g.T.Table.meaning c.args.table.now) (post_of c.args.post.now) (watches_of c.args.watches.now) (store_of c.args.user.now) o (client_of c.args.self.now)))
    (sym c.head.ensures ∙ c.in-Some-head.is)
    (λ m i. subst (λ o. IfOk c.take.result (λ r. r.0 ≡ o)) (sym (steps.takes (g.T.Table.meaning c.args.table.now) (post_of c.args.post.now) (watches_of c.args.watches.now) (store_of c.args.user.now) (client_of c.args.self.now) m (ap pings_of c.in_default.is))) (c.take.ensures.op m i))

pub returns-in-Some-head-clause-lines : goal.returns-in-Some-head-clause-lines
returns-in-Some-head-clause-lines g c = steps.on_told ((post_of c.args.post.now).lanes (lane.Inbox c.args.self.now.session)).waiting c.in-Some-head.number
    (λ o. IfOk c.take.result (λ r. r.1 ≡ lines_in (sight_by (post_of c.args.post.now) (watches_of c.args.watches.now) (store_of c.args.user.now) o (client_of c.args.self.now)) r.0 (client_of c.args.self.now)))
    (sym c.head.ensures ∙ c.in-Some-head.is)
    (λ m i. c.take.ensures.lines m i (post_of c.args.post.now) (watches_of c.args.watches.now) (store_of c.args.user.now))

pub returns-in-Some-head-clause-client : goal.returns-in-Some-head-clause-client
returns-in-Some-head-clause-client g c = steps.on_told ((post_of c.args.post.now).lanes (lane.Inbox c.args.self.now.session)).waiting c.in-Some-head.number
    (λ o. IfOk c.take.result (λ r. client_of c.take.new.self ≡ made_by (post_of c.args.post.now) (watches_of c.args.watches.now) (store_of c.args.user.now) o r.0 (client_of c.args.self.now)))
    (sym c.head.ensures ∙ c.in-Some-head.is)
    (λ m i. c.take.ensures.client m i (post_of c.args.post.now) (watches_of c.args.watches.now) (store_of c.args.user.now))

pub returns-in-Some-head-clause-table : goal.returns-in-Some-head-clause-table
returns-in-Some-head-clause-table g c = c.take.ensures.table (g.T.Table.meaning c.args.table.now)

pub returns-in-Some-head-clause-watches : goal.returns-in-Some-head-clause-watches
returns-in-Some-head-clause-watches g c = c.take.ensures.watches (watches_of c.args.watches.now)

pub returns-in-Some-head-clause-user : goal.returns-in-Some-head-clause-user
returns-in-Some-head-clause-user g c = c.take.ensures.user (store_of c.args.user.now)

pub returns-in-Some-target-clause-op : goal.returns-in-Some-target-clause-op
unfolding client_of
returns-in-Some-target-clause-op g c = λ told i. subst (λ o. IfOk c.look.result (λ r. r.0 ≡ o))
    (sym (steps.looks (g.T.Table.meaning c.args.table.now) (post_of c.args.post.now) (watches_of c.args.watches.now) (store_of c.args.user.now) (client_of c.args.self.now) told (target_as c.in-Some-target.target)
    (steps.none_told ((post_of c.args.post.now).lanes (lane.Inbox c.args.self.now.session)).waiting told (sym c.head.ensures ∙ c.in_default-head.is) i)
    (ap pings_of c.in_default.is)
    (sym c.target.ensures ∙ ap target_in c.in-Some-target.is)))
    (c.look.ensures.op (post_of c.args.post.now) (watches_of c.args.watches.now) None)

pub returns-in-Some-target-clause-lines : goal.returns-in-Some-target-clause-lines
returns-in-Some-target-clause-lines g c = λ told i. c.look.ensures.lines (sight_by (post_of c.args.post.now) (watches_of c.args.watches.now) (store_of c.args.user.now) told (client_of c.args.self.now))

pub returns-in-Some-target-clause-client : goal.returns-in-Some-target-clause-client
returns-in-Some-target-clause-client g c = λ told i. c.look.ensures.client (sight_by (post_of c.args.post.now) (watches_of c.args.watches.now) (store_of c.args.user.now) told (client_of c.args.self.now)) told

pub returns-in-Some-target-clause-table : goal.returns-in-Some-target-clause-table
returns-in-Some-target-clause-table g c = c.look.ensures.table (g.T.Table.meaning c.args.table.now)

pub returns-in-Some-target-clause-post : goal.returns-in-Some-target-clause-post
returns-in-Some-target-clause-post g c = c.look.ensures.post (post_of c.args.post.now)

pub returns-in-Some-target-clause-watches : goal.returns-in-Some-target-clause-watches
returns-in-Some-target-clause-watches g c = c.look.ensures.watches (watches_of c.args.watches.now)

pub returns-then-is_some-clause-op : goal.returns-then-is_some-clause-op
unfolding client_of
returns-then-is_some-clause-op g c = λ told i. subst (λ o. IfOk c.watch.result (λ r. r.0 ≡ o))
    (sym (steps.watches (g.T.Table.meaning c.args.table.now) (post_of c.args.post.now) (watches_of c.args.watches.now) (store_of c.args.user.now) (client_of c.args.self.now) told
    (steps.none_told ((post_of c.args.post.now).lanes (lane.Inbox c.args.self.now.session)).waiting told (sym c.head.ensures ∙ c.in_default-head.is) i)
    (ap pings_of c.in_default.is)
    (sym c.target.ensures ∙ ap target_in c.in_default-target.is)
    (search rules)))
    (c.watch.ensures.op (post_of c.args.post.now) (store_of c.args.user.now) None)

pub returns-then-is_some-clause-lines : goal.returns-then-is_some-clause-lines
returns-then-is_some-clause-lines g c = λ told i. c.watch.ensures.lines (sight_by (post_of c.args.post.now) (watches_of c.args.watches.now) (store_of c.args.user.now) told (client_of c.args.self.now))

pub returns-then-is_some-clause-client : goal.returns-then-is_some-clause-client
returns-then-is_some-clause-client g c = λ told i. c.watch.ensures.client (sight_by (post_of c.args.post.now) (watches_of c.args.watches.now) (store_of c.args.user.now) told (client_of c.args.self.now)) told

pub returns-then-is_some-clause-table : goal.returns-then-is_some-clause-table
returns-then-is_some-clause-table g c = c.watch.ensures.table (g.T.Table.meaning c.args.table.now)

pub returns-then-is_some-clause-post : goal.returns-then-is_some-clause-post
returns-then-is_some-clause-post g c = c.watch.ensures.post (post_of c.args.post.now)

pub returns-then-is_some-clause-user : goal.returns-then-is_some-clause-user
returns-then-is_some-clause-user g c = c.watch.ensures.user (store_of c.args.user.now)

pub returns-clause-op : goal.returns-clause-op
unfolding client_of
returns-clause-op g c = λ told i. subst (λ o. IfOk c.begin.result (λ r. r.0 ≡ o))
    (sym (steps.begins (g.T.Table.meaning c.args.table.now) (post_of c.args.post.now) (watches_of c.args.watches.now) (store_of c.args.user.now) (client_of c.args.self.now) told
    (steps.none_told ((post_of c.args.post.now).lanes (lane.Inbox c.args.self.now.session)).waiting told (sym c.head.ensures ∙ c.in_default-head.is) i)
    (ap pings_of c.in_default.is)
    (sym c.target.ensures ∙ ap target_in c.in_default-target.is)
    (search rules)))
    (c.begin.ensures.op (g.T.Table.meaning c.args.table.now) (watches_of c.args.watches.now) None)

pub returns-clause-lines : goal.returns-clause-lines
returns-clause-lines g c = λ told i. c.begin.ensures.lines (sight_by (post_of c.args.post.now) (watches_of c.args.watches.now) (store_of c.args.user.now) told (client_of c.args.self.now))

pub returns-clause-client : goal.returns-clause-client
returns-clause-client g c = λ told i. c.begin.ensures.client (watches_of c.args.watches.now) told

pub returns-clause-table : goal.returns-clause-table
returns-clause-table g c = c.begin.ensures.table (g.T.Table.meaning c.args.table.now)

pub returns-clause-watches : goal.returns-clause-watches
returns-clause-watches g c = c.begin.ensures.watches (watches_of c.args.watches.now)
