-- The watches that a client holds by its own lines, and when they fire.
use Rattle.std.specs.Prelude.{ℕ, ◌==◌, nat_lt, Bool, true, false, if◌then◌else◌, ◌&&◌, List, [], ◌∷◌, Option, Some, None}
use Rattle.fk_base.specs.Path.{PathNames, same_path}
use Rattle.fk_base.specs.declared.code.Code.TheVariants as code
use Rattle.fk_tree.specs.Ask.{path_asked}
use Rattle.fk_tree.specs.Edit.{closes}
use Rattle.fk_tree.specs.Touch.{touches}
use Rattle.fk_tree.specs.Watch.{first_taken, kind_asked, same_kind}
use Rattle.fk_tree.specs.declared.change.Change.{Change}
use Rattle.fk_tree.specs.declared.change.Kind.{Kind}
use Rattle.fk_tree.specs.declared.request.Query.{Query}
use Rattle.fk_tree.specs.declared.request.Query.TheVariants as query
use Rattle.fk_print.specs.declared.line.Line.{Line}
use Rattle.fk_print.specs.declared.line.Line.TheVariants as line
use Rattle.fk_print.specs.declared.line.Printed.{Printed}
use Rattle.fk_print.specs.declared.line.Shown.{Shown}
use Rattle.fk_print.specs.declared.line.Shown.TheVariants as shown
use Rattle.fk_spec.specs.Plan.{Plan, Ask, Want, Writes, Reads, asked}
use Rattle.fk_spec.specs.Start.{or_else}
use Rattle.fk_spec.specs.Published.{applied_shown}

-- a watch that a client holds: its path, its kind, and the number of the read that set it
pub record Holding : Type 0 where
  pub path : PathNames
  pub kind : Kind
  pub at : ℕ

abbrev pub same_watch : PathNames → Kind → Holding → Bool
same_watch path kind w = same_path w.path path && same_kind w.kind kind

-- the held watch of this path and kind
abbrev pub held_at : PathNames → Kind → List Holding → Option Holding
held_at path kind [] = None
held_at path kind (w ∷ ws) = if same_watch path kind w then Some w else held_at path kind ws

abbrev pub not_held : PathNames → Kind → List Holding → List Holding
not_held path kind [] = []
not_held path kind (w ∷ ws) = if same_watch path kind w then not_held path kind ws else w ∷ not_held path kind ws

abbrev pub held_unless : Option Holding → Holding → List Holding → List Holding
held_unless None w ws = w ∷ ws
held_unless (Some other) w ws = ws

-- a watch that is held already keeps its first number
abbrev pub with_holding : Holding → List Holding → List Holding
with_holding w ws = held_unless (held_at w.path w.kind ws) w ws

-- The number at which a read sets its watch: that of its answer where the node is there, and for a stat
-- also where it isn't.
abbrev pub number_set : Query → Shown → Option ℕ
number_set q (shown.Got at bytes stat) = Some at
number_set q (shown.Stated at stat) = Some at
number_set q (shown.Listed at names) = Some at
number_set (query.Stat path) (shown.Refused code.NoNode at place) = Some at
number_set q _ = None

abbrev pub set_by : Query → Option ℕ → List Holding → List Holding
set_by q None ws = ws
set_by q (Some at) ws = with_holding (record { path = path_asked q; kind = kind_asked q; at = at }) ws

-- a close that is answered ok, or that finds its session closed
abbrev pub ends_session : Shown → Bool
ends_session (shown.Done tx) = true
ends_session (shown.Refused code.SessionExpired at place) = true
ends_session _ = false

abbrev pub held_with : Want → Shown → List Holding → List Holding
held_with (Reads q watch) s ws = if watch then set_by q (number_set q s) ws else ws
held_with (Writes r) s ws = if closes r && ends_session s then [] else ws
held_with _ s ws = ws

abbrev pub held_asked : Option Ask → Shown → List Holding → List Holding
held_asked None s ws = ws
held_asked (Some a) s ws = held_with a.want s ws

abbrev pub held_after : Plan → ℕ → Line → List Holding → List Holding
held_after p c (line.Reply session command verb shown) ws = if session == c then held_asked (asked p c command) shown ws else ws
held_after p c (line.Notice session tx kind what path) ws = if session == c then not_held path kind ws else ws
held_after p c (line.Expired session tx) ws = if session == c then [] else ws
held_after p c _ ws = ws

-- The watches that client c holds after these lines: an answered read sets one, until its notification,
-- or until the client learns that its session is closed.
abbrev pub held_by : Plan → ℕ → List Line → List Holding
held_by p c [] = []
held_by p c (l ∷ ls) = held_after p c l (held_by p c ls)

-- the transaction that fired a watch, and the change that it shows
pub record Fired : Type 0 where
  pub tx : ℕ
  pub change : Change

abbrev pub fired_with : ℕ → Option Change → Option Fired
fired_with t None = None
fired_with t (Some c) = Some (record { tx = t; change = c })

-- a transaction line fires a watch of a lesser number where it touches the path in the watch's kind
abbrev pub fired_in : Holding → Printed → Option Fired
fired_in w x = if nat_lt w.at x.tx then fired_with x.tx (first_taken w.path w.kind (touches (applied_shown x))) else None

-- how a watch fires: at the first transaction line beyond its number that touches its path in its kind
abbrev pub firing_among : Holding → List Printed → Option Fired
firing_among w [] = None
firing_among w (x ∷ xs) = or_else (firing_among w xs) (fired_in w x)

abbrev pub is_beyond : ℕ → Option Fired → Bool
is_beyond n None = true
is_beyond n (Some f) = nat_lt n f.tx

-- whether none of the held watches has fired at this number or below
abbrev pub passes_none : ℕ → List Printed → List Holding → Bool
passes_none n xs [] = true
passes_none n xs (w ∷ ws) = is_beyond n (firing_among w xs) && passes_none n xs ws
