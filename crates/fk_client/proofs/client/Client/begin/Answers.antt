use Rattle.std.proofs.Common.{rules, refl, ◌≡◌, IfOk, sym, subst}
use Rattle.fk_queue.specs.Posts.{post_of}
use Rattle.fk_user.specs.Stored.{store_of}
use Rattle.fk_client.specs.Operation.{or_failed}
use Rattle.fk_client.specs.Sighting.{sight_by}
use Rattle.fk_client.specs.Standing.{client_of}
use Rattle.fk_client.specs.Wanted.{want_as}
use Rattle.fk_client.proofs.Wants as wants
use Rattle.fk_client.proofs.client.Client.begin.Goals as goal

pub returns-clause-op : goal.returns-clause-op
unfolding client_of
returns-clause-op c = λ t w told. subst (λ o. IfOk c.make.result (λ r. r.0 ≡ or_failed t (post_of c.args.post.now) w (store_of c.args.user.now) o))
    (sym (wants.begins (sight_by (post_of c.args.post.now) w (store_of c.args.user.now) told (client_of c.args.self.now)) (client_of c.args.self.now) (want_as c.in_ok-want.want) refl (search rules) (search rules)))
    (c.make.ensures.op t w told)
