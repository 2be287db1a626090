-- The transactions that settle a request: what each needs of the table, and what it writes there.
use Rattle.std.specs.Prelude.{ℕ, ◌-◌, if◌then◌else◌, List, [], ◌∷◌, ◌++◌, Option, Some, None}
use Rattle.fk_base.specs.Path.{PathNames}
use Rattle.fk_tree.specs.Edit.{closes, effects}
use Rattle.fk_tree.specs.Sorted.{in_path_order}
use Rattle.fk_tree.specs.declared.applied.Applied.{Applied}
use Rattle.fk_tree.specs.declared.edit.Edit.{Edit}
use Rattle.fk_tree.specs.declared.request.Request.{Request}
use Rattle.fk_store.specs.Conds.{Miss, first_missed}
use Rattle.fk_store.specs.Meaning.{Meaning, called}
use Rattle.fk_store.specs.Writes.{all_written}
use Rattle.fk_store.specs.declared.cond.Cond.{Cond}
use Rattle.fk_store.specs.declared.cond.Cond.TheVariants as cond
use Rattle.fk_store.specs.declared.outcome.Outcome.{Outcome}
use Rattle.fk_store.specs.declared.outcome.Outcome.TheVariants as kept
use Rattle.fk_store.specs.declared.write.Write.{Write}
use Rattle.fk_store.specs.declared.write.Write.TheVariants as write
use Rattle.fk_wire.specs.declared.message.Pushed.{Pushed}

-- each of these locks is held by the invocation
abbrev pub hold_conds : ℕ → List PathNames → List Cond
hold_conds inv [] = []
hold_conds inv (p ∷ ps) = cond.Holds p inv ∷ hold_conds inv ps

-- request k is the session's next to settle, and each of these locks is held by the invocation
abbrev pub settle_conds : ℕ → ℕ → ℕ → List PathNames → List Cond
settle_conds session k inv ps = cond.Settled session (k - 1) ∷ hold_conds inv ps

abbrev pub release_writes : List PathNames → List Write
release_writes [] = []
release_writes (p ∷ ps) = write.Release p ∷ release_writes ps

abbrev pub change_writes : ℕ → ℕ → List Edit → List Write
change_writes tx moment [] = []
change_writes tx moment (e ∷ es) = write.Change e tx moment ∷ change_writes tx moment es

-- a push as it is applied under its number
abbrev pub applied_as : ℕ → Pushed → Applied
applied_as tx x = record { tx = tx; moment = x.moment; session = x.session; k = x.k; request = x.request; name = x.name; version = x.version; gone = x.gone; made = x.made }

abbrev pub close_writes : ℕ → Request → List Write
close_writes session r = if closes r then write.CloseSession session ∷ [] else []

-- A commit needs that its request is the session's next to settle, and that each locked path, in path order, is
-- held by the push's invocation.
abbrev pub commit_conds : Pushed → List Cond
commit_conds x = settle_conds x.session x.k x.inv (in_path_order x.paths)

-- It makes the edits, notes itself as pending, releases the locks, settles the request as applied, and closes the
-- session where the request is a close.
abbrev pub commit_writes : ℕ → Pushed → List Write
commit_writes tx x =
    change_writes tx x.moment (effects (applied_as tx x))
    ++ write.AddPending x.session tx
    ∷ release_writes (in_path_order x.paths)
    ++ write.Settle x.session x.k (kept.Applied tx)
    ∷ close_writes x.session x.request

-- a refusal releases the locks that its conditions name, and settles the request
abbrev pub refuse_writes : ℕ → ℕ → Outcome → List PathNames → List Write
refuse_writes session k outcome ps = release_writes ps ++ write.Settle session k outcome ∷ []

-- a loss settles the request
abbrev pub lost_writes : ℕ → ℕ → Outcome → List Write
lost_writes session k outcome = write.Settle session k outcome ∷ []

abbrev pub written_unless : Option Miss → List Write → Meaning → Meaning
written_unless None ws t = all_written ws t
written_unless (Some miss) ws t = t

-- a table after a transaction that doesn't want memory
abbrev pub transacted : List Cond → List Write → Meaning → Meaning
transacted cs ws t = if t.armed then called t else written_unless (first_missed t cs) ws t

-- a table after the commit of a push under its number
abbrev pub committed : ℕ → Pushed → Meaning → Meaning
committed tx x t = transacted (commit_conds x) (commit_writes tx x) t
