use Rattle.std.proofs.Common.{◌≡◌, ◌∙◌, ap}
use Rattle.fk_follow.specs.Deciding.{state_after}
use Rattle.fk_follow.specs.Standing.{follower_of}
use Rattle.fk_follow.proofs.Going.{goes_on, in_state}
use Rattle.fk_follow.proofs.follower.Follower.go_on.Goals as goal

pub returns : goal.returns
unfolding follower_of
returns c =
    let f = c.args.self.now in
    let e : c.in_ok-self.field-0 ≡ state_after f.message.seen f.session f.last f.owned f.granted.items f.message.request = c.in_ok-self.ensures ∙ ap (λ gs. state_after f.message.seen f.session f.last f.owned gs f.message.request) c.as_slice.ensures.value in
    ap (λ s. in_state s (follower_of f)) e ∙ goes_on f f.message.seen f.message.request
