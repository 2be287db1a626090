-- A follower in its next state.
use Rattle.std.proofs.Common.{◌≡◌, ℕ, Option, Some, None, length, refl, sym, ◌∙◌, ap}
use Rattle.std.proofs.lemmas.List.{length-map}
use Rattle.fk_tree.specs.Locks.{lock_paths}
use Rattle.fk_spec.specs.Plan.{item_after}
use Rattle.fk_base.specs.Path.{PathNames}
use Rattle.fk_tree.specs.Check.{Refusal, check}
use Rattle.fk_tree.specs.declared.request.Request.{Request}
use Rattle.fk_spec.specs.Follower.{decided, next_stage, to_lock, view_of}
use Rattle.fk_follow.specs.Deciding.{decided_as, or_decided, refused_at, state_after}
use Rattle.fk_follow.specs.Meaning.{Meaning}
use Rattle.fk_follow.specs.Next.{going_on, standing}
use Rattle.fk_follow.specs.Standing.{follower_of, grant_of, grants_of, moment_of, outcome_in, stage_of}
use Rattle.fk_follow.specs.declared.follower.Follower.{Follower}
use Rattle.fk_follow.specs.declared.state.State.{State}

-- what it means in this state
abbrev pub in_state : State → Meaning → Meaning
in_state s m = record { inv = m.inv; message = m.message; follower = standing (stage_of s) m.follower; owns = m.owns; moment = moment_of s; outcome = outcome_in s }

decided_is : (f : Follower) (seen : ℕ) (o : Option Refusal) → in_state (decided_as (refused_at seen f.last f.granted.items) o) (follower_of f) ≡ going_on (standing (decided seen (follower_of f).follower o) (follower_of f).follower) (follower_of f)
unfolding follower_of
decided_is f seen None = refl
decided_is f seen (Some r) = refl

next_is : (f : Follower) (seen : ℕ) (r : Request) (o : Option PathNames) → in_state (or_decided seen f.session f.last f.granted.items r o) (follower_of f) ≡ going_on (standing (next_stage seen r (follower_of f).follower o) (follower_of f).follower) (follower_of f)
unfolding follower_of
next_is f seen r (Some p) = refl
next_is f seen r None = decided_is f seen (check (view_of (grants_of f.granted.items)) f.session r)

pub goes_on : (f : Follower) (seen : ℕ) (r : Request) → in_state (state_after seen f.session f.last f.owned f.granted.items r) (follower_of f) ≡ going_on (to_lock seen r (follower_of f).follower) (follower_of f)
unfolding follower_of
goes_on f seen r =
    next_is f seen r (item_after (lock_paths (view_of (grants_of f.granted.items)) f.owned r) (length f.granted.items))
    ∙ ap (λ n. going_on (standing (next_stage seen r (follower_of f).follower (item_after (lock_paths (view_of (grants_of f.granted.items)) f.owned r) n)) (follower_of f).follower) (follower_of f)) (sym (length-map f.granted.items grant_of))
