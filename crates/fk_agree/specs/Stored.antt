-- The user storage after the lines of a history.
use Rattle.std.specs.Prelude.{◌≡◌, ℕ, List, ◌∷◌, [], Some}
use Rattle.fk_base.specs.Path.{PathNames}
use Rattle.fk_tree.specs.Edit.{effects}
use Rattle.fk_tree.specs.Touch.{edits_at}
use Rattle.fk_tree.specs.declared.applied.Applied.{Applied}
use Rattle.fk_print.specs.declared.entry.Entry.{Entry}
use Rattle.fk_print.specs.declared.op.Op.{Op}
use Rattle.fk_print.specs.declared.op.Op.TheVariants as op
use Rattle.fk_user.specs.Meaning.{new_store, published, with_put}
use Rattle.fk_stand.specs.Stores.{store_after}
use Rattle.fk_spec.specs.Plan.{Plan}
use Rattle.fk_spec.specs.Stored.{committed_as}
use Rattle.fk_spec.specs.Watches.{published_epoch}
use Rattle.fk_spec.specs.Next.{IsHistory}

-- A new storage is what the rules say of no history.
abbrev pub NewStoreStands : Type 0
NewStoreStands = (p : Plan) → new_store ≡ store_after p [] 0

-- a line that neither puts a record nor publishes
abbrev pub LeavesStore : Op → Type 0
LeavesStore (op.PutOk function tx path) = ⊥
LeavesStore (op.PublishOk function tx) = ⊥
LeavesStore _ = Unit {0}

-- It leaves the storage as it is: a commit is beyond each record's stamp.
abbrev pub StoreStays : Type 0
StoreStays = (p : Plan) (faults : ℕ) (e : Entry) (h : List Entry) → IsHistory p (e ∷ h) → LeavesStore e.op → store_after p (e ∷ h) faults ≡ store_after p h faults

-- A leader's put of a path's own edits makes of its record what the commits up to the push leave there.
abbrev pub PutIsWritten : Type 0
PutIsWritten =
    (p : Plan) (n t faults : ℕ) (path : PathNames) (e : Entry) (h : List Entry) (a : Applied) → IsHistory p (e ∷ h) → e.op ≡ op.PutOk n t path → committed_as p t h ≡ Some a
    → with_put (store_after p h faults) path t a.moment (edits_at path (effects a)) ≡ store_after p (e ∷ h) faults

-- A publication sets the mark and the epoch.
abbrev pub PublicationIsWritten : Type 0
PublicationIsWritten =
    (p : Plan) (n t faults : ℕ) (e : Entry) (h : List Entry) → IsHistory p (e ∷ h) → e.op ≡ op.PublishOk n t
    → published (store_after p h faults) t (published_epoch p (e ∷ h)) ≡ store_after p (e ∷ h) faults
