-- What one operation of a client reads.
use Rattle.std.specs.Prelude.{ℕ, ◌+◌, List, [], ◌∷◌, Option, Some, None}
use Rattle.fk_base.specs.Path.{PathNames}
use Rattle.fk_tree.specs.declared.change.Kind.{Kind}
use Rattle.fk_tree.specs.declared.node.Node.{Node}
use Rattle.fk_print.specs.declared.entry.Entry.{Entry}
use Rattle.fk_spec.specs.Plan.{Plan, Ask, asks_in}
use Rattle.fk_spec.specs.Shown.{seen_by}
use Rattle.fk_spec.specs.Start.{sends_of}
use Rattle.fk_spec.specs.Settling.{mark_of}
use Rattle.fk_spec.specs.Stored.{record_of, stamp_of}
use Rattle.fk_spec.specs.Watches.{Firing, firing_of, given_of, last_sweep, published_epoch, set_number, set_watches}
use Rattle.fk_spec.specs.Lanes.{Message, inbox_of}

-- Its session and what its commands ask; the message at the head of its inbox, or none; the greatest number
-- that it has seen; the mark and the published epoch; the number that its session's next message would get;
-- of each path the node of its user record, that record's stamp, and the last sweep that touched it; the
-- number that a watch of each path and kind would get, and how a watch fired.
pub record Sight : Type 0 where
  pub session : ℕ
  pub asks : List Ask
  pub head : Option Message
  pub seen : ℕ
  pub mark : ℕ
  pub epoch : List ℕ
  pub next : ℕ
  pub node : PathNames → Option Node
  pub stamp : PathNames → ℕ
  pub sweep : PathNames → ℕ
  pub watch : PathNames → Kind → ℕ
  pub firing : ℕ → Option Firing

-- ---- as a history has it

abbrev pub first_message : List Message → Option Message
first_message [] = None
first_message (m ∷ ms) = Some m

abbrev pub number_or_next : ℕ → Option ℕ → ℕ
number_or_next given None = given + 1
number_or_next given (Some id) = id

-- a watch that is set already keeps its number
abbrev pub watch_number : Plan → ℕ → List Entry → PathNames → Kind → ℕ
watch_number p c h path kind = number_or_next (given_of h) (set_number c path kind (set_watches p h))

-- what client c reads after a history
abbrev pub sight_of : Plan → ℕ → List Entry → Sight
sight_of p c h = record {
  session = c;
  asks = asks_in p c;
  head = first_message (inbox_of p c h);
  seen = seen_by c h;
  mark = mark_of h;
  epoch = published_epoch p h;
  next = sends_of c h + 1;
  node = λ path. record_of p path h;
  stamp = λ path. stamp_of path h;
  sweep = λ path. last_sweep p path h;
  watch = λ path kind. watch_number p c h path kind;
  firing = λ id. firing_of p id h;
}
