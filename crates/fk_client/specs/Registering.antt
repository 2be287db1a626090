-- The number under which a table of watches registers a watch.
use Rattle.std.specs.Prelude.{ℕ, zero, suc, ◌==◌, nat_lt, Bool, false, if◌then◌else◌, ◌&&◌, Option, Some, None}
use Rattle.fk_base.specs.Path.{same_path}
use Rattle.fk_tree.specs.Ask.{path_asked}
use Rattle.fk_tree.specs.Watch.{kind_asked, same_kind}
use Rattle.fk_tree.specs.declared.request.Query.{Query}
use Rattle.fk_watch.specs.declared.watch.Watch.{Watch}
use Rattle.fk_watch.specs.Meaning.{Watches, failed}
use Rattle.fk_watch.specs.Registering.{registered}
use Rattle.fk_watch.specs.Setting.{watch_on}
use Rattle.fk_spec.specs.Sight.{number_or_next}
use Rattle.fk_spec.specs.Plan.{Ask, Want, Unfit, Writes, Reads}
use Rattle.fk_client.specs.declared.registering.Registered.{Registered}
use Rattle.fk_client.specs.declared.registering.Registered.TheVariants as registering

-- the watch that a query of a session sets
abbrev pub watch_of : ℕ → Query → Watch
watch_of session q = watch_on session (path_asked q) (kind_asked q)

abbrev pub query_of : Want → Option Query
query_of Unfit = None
query_of (Writes r) = None
query_of (Reads q watch) = Some q

-- what a read asks
abbrev pub query_in : Option Ask → Option Query
query_in None = None
query_in (Some a) = query_of a.want

abbrev pub is_watch : Watch → Option Watch → Bool
is_watch w None = false
is_watch w (Some x) = (x.session == w.session) && same_path x.path w.path && same_kind x.kind w.kind

-- the number, at most n, under which this watch is set
abbrev pub set_number : Watch → (ℕ → Option Watch) → ℕ → Option ℕ
set_number w set zero = None
set_number w set (suc n) = if is_watch w (set (suc n)) then Some (suc n) else set_number w set n

-- a watch that is set already keeps its number; else it gets the next one
abbrev pub watch_number : Watches → Watch → ℕ
watch_number m w = number_or_next m.given (set_number w m.set m.given)

-- What becomes of a registration for a read at a number: a sweep beyond it touched the path, or the watch is set.
abbrev pub register_for : Watches → Watch → ℕ → Registered
register_for m w number =
    if m.armed then registering.Failed
    else if nat_lt number (m.last w.path) then registering.Swept (m.last w.path)
    else registering.Set (watch_number m w)

-- the table of watches after it
abbrev pub after_registered : Watches → Watch → Registered → Watches
after_registered m w (registering.Set n) = registered w n m
after_registered m w (registering.Swept tx) = m
after_registered m w registering.Failed = failed m
