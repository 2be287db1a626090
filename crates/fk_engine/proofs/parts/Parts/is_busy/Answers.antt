use Rattle.std.proofs.Common.{◌≡◌, not, sym, subst, ap}
use Rattle.fk_queue.specs.Posts.{post_of}
use Rattle.fk_engine.specs.Drain.{is_busy}
use Rattle.fk_engine.proofs.Turns.{client_at, posted_at}
use Rattle.fk_engine.proofs.parts.Parts.is_busy.Goals as goal

pub idle-requires : goal.idle-requires
idle-requires g c = posted_at (post_of c.args.self.now.services.post) _ c.index.result.now
    (client_at c.args.self.now.clients.items c.args.session c.in-Some.place c.index.result.now c.in-Some.ensures.place (rw (← c.as_slice.ensures.value) c.in-Some.ensures.within) c.index.ensures) c.requires

pub returns-in-Some : goal.returns-in-Some
returns-in-Some g c = subst (λ o. not c.idle.result ≡ is_busy (post_of c.args.self.now.services.post) o)
    (sym (client_at c.args.self.now.clients.items c.args.session c.in-Some.place c.index.result.now c.in-Some.ensures.place (rw (← c.as_slice.ensures.value) c.in-Some.ensures.within) c.index.ensures))
    (ap not c.idle.ensures.idle)
