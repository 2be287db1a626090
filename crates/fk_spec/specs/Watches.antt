-- The watches: which are set, which have fired and aren't told, and what each path was swept for.
use Rattle.std.specs.Prelude.{ℕ, ◌==◌, Bool, false, if◌then◌else◌, ◌&&◌, ◌||◌, List, [], ◌∷◌, ◌++◌, Option, Some, None, max}
use Rattle.std.specs.Ordering.{nat_cmp}
use Rattle.fk_base.specs.Path.{PathNames, same_path}
use Rattle.fk_tree.specs.Ask.{path_asked}
use Rattle.fk_tree.specs.Sorted.{sorted}
use Rattle.fk_tree.specs.Touch.{touches}
use Rattle.fk_tree.specs.Watch.{first_taken, has_touch, kind_asked, same_kind}
use Rattle.fk_tree.specs.declared.applied.Applied.{Applied}
use Rattle.fk_tree.specs.declared.change.Change.{Change}
use Rattle.fk_tree.specs.declared.change.Kind.{Kind}
use Rattle.fk_tree.specs.declared.change.Touch.{Touch}
use Rattle.fk_print.specs.declared.entry.Entry.{Entry}
use Rattle.fk_print.specs.declared.op.Op.{Op}
use Rattle.fk_print.specs.declared.op.Op.TheVariants as op
use Rattle.fk_spec.specs.Plan.{Plan, Ask, Want, Reads, asked}
use Rattle.fk_spec.specs.Start.{or_else}
use Rattle.fk_spec.specs.Stored.{committed_as}

-- a watch: its number, its client, its path and its kind
pub record Watch : Type 0 where
  pub id : ℕ
  pub session : ℕ
  pub path : PathNames
  pub kind : Kind

-- a watch that fired: the push that fired it, and the change that it shows
pub record Firing : Type 0 where
  pub watch : Watch
  pub tx : ℕ
  pub change : Change

abbrev pub watch_wanted : ℕ → ℕ → Want → Option Watch
watch_wanted id c (Reads q watch) = Some (record { id = id; session = c; path = path_asked q; kind = kind_asked q })
watch_wanted id c _ = None

abbrev pub watch_asked : ℕ → ℕ → Option Ask → Option Watch
watch_asked id c None = None
watch_asked id c (Some a) = watch_wanted id c a.want

abbrev pub has_id : ℕ → List Watch → Bool
has_id id [] = false
has_id id (w ∷ ws) = (w.id == id) || has_id id ws

abbrev pub with_watch : Option Watch → List Watch → List Watch
with_watch None ws = ws
with_watch (Some w) ws = if has_id w.id ws then ws else ws ++ w ∷ []

abbrev pub touches_from : Option Applied → List Touch
touches_from None = []
touches_from (Some a) = touches a

-- the touches of push t as it was committed
abbrev pub touches_of_push : Plan → ℕ → List Entry → List Touch
touches_of_push p t h = touches_from (committed_as p t h)

abbrev pub kept_unless : Option Change → Watch → List Watch → List Watch
kept_unless None w ws = w ∷ ws
kept_unless (Some fired) w ws = ws

-- the watches that none of these touches fires
abbrev pub not_fired : List Touch → List Watch → List Watch
not_fired ts [] = []
not_fired ts (w ∷ ws) = kept_unless (first_taken w.path w.kind ts) w (not_fired ts ws)

abbrev pub fired_as : ℕ → Watch → Option Change → List Firing → List Firing
fired_as t w None fs = fs
fired_as t w (Some change) fs = record { watch = w; tx = t; change = change } ∷ fs

-- The watches that push t fires: each takes the first of its touches that is of its path and its kind.
abbrev pub firings : ℕ → List Touch → List Watch → List Firing
firings t ts [] = []
firings t ts (w ∷ ws) = fired_as t w (first_taken w.path w.kind ts) (firings t ts ws)

abbrev pub set_after : Plan → List Entry → Op → List Watch → List Watch
set_after p h (op.WatchSet session command watch) ws = with_watch (watch_asked watch session (asked p session command)) ws
set_after p h (op.SweepOk function tx fired) ws = not_fired (touches_of_push p tx h) ws
set_after p h _ ws = ws

-- the watches that are set, in rising number: a registration sets one, a sweep that fires it takes it
abbrev pub set_watches : Plan → List Entry → List Watch
set_watches p [] = []
set_watches p (e ∷ h) = set_after p h e.op (set_watches p h)

-- the number of the set watch of a client, a path and a kind
abbrev pub set_number : ℕ → PathNames → Kind → List Watch → Option ℕ
set_number c path kind [] = None
set_number c path kind (w ∷ ws) = if (w.session == c) && same_path w.path path && same_kind w.kind kind then Some w.id else set_number c path kind ws

abbrev pub not_of : ℕ → List Firing → List Firing
not_of t [] = []
not_of t (f ∷ fs) = if f.tx == t then not_of t fs else f ∷ not_of t fs

abbrev pub fired_after : Plan → List Entry → Op → List Firing → List Firing
fired_after p h (op.SweepOk function tx fired) fs = fs ++ firings tx (touches_of_push p tx h) (set_watches p h)
fired_after p h (op.Told function tx) fs = not_of tx fs
fired_after p h _ fs = fs

-- the watches that have fired and aren't told: a sweep fires them, and they are told push by push
abbrev pub fired_watches : Plan → List Entry → List Firing
fired_watches p [] = []
fired_watches p (e ∷ h) = fired_after p h e.op (fired_watches p h)

-- those of push t, in rising number
abbrev pub fired_by : ℕ → List Firing → List Firing
fired_by t [] = []
fired_by t (f ∷ fs) = if f.tx == t then f ∷ fired_by t fs else fired_by t fs

abbrev pub ids_of : List Firing → List ℕ
ids_of [] = []
ids_of (f ∷ fs) = f.watch.id ∷ ids_of fs

-- The epoch: the numbers of the watches that have fired and aren't told, in rising order.
abbrev pub epoch_of : List Firing → List ℕ
epoch_of fs = sorted nat_cmp (ids_of fs)

-- what a leader got from its sweep: what its push fired and isn't told, and the epoch
pub record Swept : Type 0 where
  pub fired : List Firing
  pub epoch : List ℕ

abbrev pub sweep_at : ℕ → ℕ → ℕ → List Firing → Option Swept
sweep_at n function t fs = if function == n then Some (record { fired = fired_by t fs; epoch = epoch_of fs }) else None

abbrev pub sweep_in : ℕ → Op → List Firing → Option Swept
sweep_in n (op.SweepOk function tx fired) fs = sweep_at n function tx fs
sweep_in n (op.SweepMiss function tx swept fired) fs = sweep_at n function tx fs
sweep_in n _ fs = None

abbrev pub nothing_swept : Swept
nothing_swept = record { fired = []; epoch = [] }

abbrev pub swept_or : Option Swept → Swept → Swept
swept_or None s = s
swept_or (Some s) other = s

-- what leader n got from its sweep, read at the sweep's line
abbrev pub swept_by : Plan → ℕ → List Entry → Swept
swept_by p n [] = nothing_swept
swept_by p n (e ∷ h) = swept_or (sweep_in n e.op (fired_watches p (e ∷ h))) (swept_by p n h)

abbrev pub epoch_after : Plan → List Entry → Op → List ℕ → List ℕ
epoch_after p h (op.PublishOk function tx) ids = (swept_by p function h).epoch
epoch_after p h _ ids = ids

-- the epoch of the last publication: that of its leader's sweep
abbrev pub published_epoch : Plan → List Entry → List ℕ
published_epoch p [] = []
published_epoch p (e ∷ h) = epoch_after p h e.op (published_epoch p h)

abbrev pub given_in : Op → ℕ → ℕ
given_in (op.WatchSet session command watch) n = max watch n
given_in _ n = n

-- how many watch numbers were given
abbrev pub given_of : List Entry → ℕ
given_of [] = 0
given_of (e ∷ h) = given_in e.op (given_of h)

abbrev pub sweep_of_path : Plan → PathNames → List Entry → Op → ℕ → ℕ
sweep_of_path p path h (op.SweepOk function tx fired) n = if has_touch path (touches_of_push p tx h) then max tx n else n
sweep_of_path p path h _ n = n

-- the last sweep that touched a path
abbrev pub last_sweep : Plan → PathNames → List Entry → ℕ
last_sweep p path [] = 0
last_sweep p path (e ∷ h) = sweep_of_path p path h e.op (last_sweep p path h)

abbrev pub firing_with : ℕ → List Firing → Option Firing
firing_with id [] = None
firing_with id (f ∷ fs) = if f.watch.id == id then Some f else firing_with id fs

abbrev pub firing_in : Plan → ℕ → List Entry → Op → Option Firing
firing_in p id h (op.SweepOk function tx fired) = firing_with id (firings tx (touches_of_push p tx h) (set_watches p h))
firing_in p id h _ = None

-- how watch `id` fired
abbrev pub firing_of : Plan → ℕ → List Entry → Option Firing
firing_of p id [] = None
firing_of p id (e ∷ h) = or_else (firing_in p id h e.op) (firing_of p id h)
