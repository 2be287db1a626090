-- What the fields of a follower mean.
use Rattle.std.specs.Prelude.{ℕ, List, map, Option, Some, None}
use Rattle.fk_store.specs.declared.outcome.Outcome.{Outcome}
use Rattle.fk_store.specs.declared.outcome.Outcome.TheVariants as outcome
use Rattle.fk_spec.specs.Follower.{Stage}
use Rattle.fk_spec.specs.Follower as spec
use Rattle.fk_follow.specs.Meaning.{Meaning, Own}
use Rattle.fk_follow.specs.declared.follower.Follower.{Follower}
use Rattle.fk_follow.specs.declared.granted.Granted.{Granted}
use Rattle.fk_follow.specs.declared.state.Kept.{Kept}
use Rattle.fk_follow.specs.declared.state.Kept.TheVariants as kept
use Rattle.fk_follow.specs.declared.state.State.{State}
use Rattle.fk_follow.specs.declared.state.State.TheVariants as state

-- what was kept of a request that wasn't committed
abbrev pub kept_of : Outcome → Option Kept
kept_of outcome.Nothing = None
kept_of (outcome.Applied tx) = None
kept_of (outcome.Refused code at place) = Some (kept.Refused code at place)
kept_of (outcome.Lost path own found moment) = Some (kept.Lost path own found moment)

abbrev pub outcome_of : Kept → Outcome
outcome_of (kept.Refused code at place) = outcome.Refused code at place
outcome_of (kept.Lost path own found moment) = outcome.Lost path own found moment

abbrev pub stage_of : State → Stage
stage_of state.Session = spec.Session
stage_of state.Owned = spec.Owned
stage_of (state.Lock path) = spec.Lock path
stage_of state.Push = spec.Push
stage_of (state.Refuse code place at) = spec.Refuse (record { code = code; place = place }) at
stage_of (state.Expire at) = spec.Expire at
stage_of (state.Commit tx moment) = spec.Commit tx
stage_of (state.Lost path own found moment) = spec.Lost
stage_of (state.Reply k) = spec.Reply
stage_of state.Ack = spec.Ack
stage_of state.Ended = spec.Ended

-- the moment of its push, before a commit
abbrev pub moment_of : State → ℕ
moment_of (state.Commit tx moment) = moment
moment_of _ = 0

-- the loss that is to be settled, or what was kept and is to be told
abbrev pub outcome_in : State → Outcome
outcome_in (state.Lost path own found moment) = outcome.Lost path own found moment
outcome_in (state.Reply k) = outcome_of k
outcome_in _ = outcome.Nothing

abbrev pub grant_of : Granted → spec.Granted
grant_of g = record { path = g.path; node = g.node; last = g.last }

abbrev pub own_of : Granted → Own
own_of g = record { path = g.path; moment = g.moment }

abbrev pub grants_of : List Granted → List spec.Granted
grants_of = map grant_of

abbrev pub owns_of : List Granted → List Own
owns_of = map own_of

-- what a follower means; code above doesn't look into it
unfoldable pub follower_of : Follower → Meaning
follower_of f = record {
  inv = f.inv;
  message = f.message;
  follower = record {
    session = f.session;
    k = f.k;
    last = f.last;
    owned = f.owned;
    granted = grants_of f.granted.items;
    stage = stage_of f.state;
  };
  owns = owns_of f.granted.items;
  moment = moment_of f.state;
  outcome = outcome_in f.state;
}
