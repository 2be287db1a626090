use Rattle.fk_queue.specs.Posts.{post_of}
use Rattle.fk_user.specs.Stored.{store_of}
use Rattle.fk_client.specs.Sighting.{sight_by}
use Rattle.fk_client.specs.Standing.{client_of}
use Rattle.fk_client.proofs.client.Client.make.Goals as goal

pub returns-in-Unfit-clause-client : goal.returns-in-Unfit-clause-client
returns-in-Unfit-clause-client c = λ w told. c.refuse.ensures.client (sight_by (post_of c.args.post.now) w (store_of c.args.user.now) told (client_of c.args.self.now)) told

pub returns-then-self-clause-client : goal.returns-then-self-clause-client
returns-then-self-clause-client c = λ w told. c.refuse-then-self.ensures.client (sight_by (post_of c.args.post.now) w (store_of c.args.user.now) told (client_of c.args.self.now)) told

pub returns-else-self-clause-client : goal.returns-else-self-clause-client
returns-else-self-clause-client c = λ w told. c.send.ensures.client (sight_by (post_of c.args.post.now) w (store_of c.args.user.now) told (client_of c.args.self.now)) told

pub returns-then-self-2-clause-client : goal.returns-then-self-2-clause-client
returns-then-self-2-clause-client c = λ w told. c.refuse-then-self-2.ensures.client (sight_by (post_of c.args.post.now) w (store_of c.args.user.now) told (client_of c.args.self.now)) told

pub returns-else-self-2-clause-client : goal.returns-else-self-2-clause-client
returns-else-self-2-clause-client c = λ w told. c.read.ensures.client (post_of c.args.post.now) w told
