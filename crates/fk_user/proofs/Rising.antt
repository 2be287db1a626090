-- The child names of each record's node rise, before a put and after it.
use Rattle.std.proofs.Common.{◌≡◌, ℕ, Bool, true, false, cond, List, [], ◌∷◌, Option, Some, None, refl, subst, sym}
use Rattle.std.specs.BTreeMap.{is_at}
use Rattle.fk_base.specs.Path.{PathNames, name_cmp, path_cmp, same_path}
use Rattle.fk_tree.specs.Edit.{edit, edited}
use Rattle.fk_tree.specs.Rows.{names_of}
use Rattle.fk_tree.specs.Sorted.{rises}
use Rattle.fk_tree.specs.declared.edit.Edit.{Edit}
use Rattle.fk_tree.specs.declared.node.Node.{Node}
use Rattle.fk_tree.proofs.Editing.{edit_rises}
use Rattle.fk_user.specs.Meaning.{put_record, root_record}
use Rattle.fk_user.specs.Records.{Records, or_no_record, record_in, AreRising, IsEdited, KeepsRecords}

-- edits of a node whose child names rise
edited_rises : (tx moment : ℕ) (p : PathNames) (es : List Edit) (o : Option Node) → rises name_cmp (names_of o) ≡ true → rises name_cmp (names_of (edited tx moment p es o)) ≡ true
edited_rises tx moment p [] o h = h
edited_rises tx moment p (e ∷ es) o h = edited_rises tx moment p es (cond (same_path p e.path) (edit tx moment e.what o) o) (step (same_path p e.path))
  where
    step : (b : Bool) → rises name_cmp (names_of (cond b (edit tx moment e.what o) o)) ≡ true
    step true = edit_rises tx moment e.what o h
    step false = h

pub put_rises : (m n : Records) (k : PathNames) (tx moment : ℕ) (es : List Edit) → AreRising m → IsEdited m n k tx moment es → AreRising n
put_rises m n k tx moment es h u p = rw (u p) (step (same_path p k))
  where
    step : (b : Bool) → rises name_cmp (names_of (cond b (put_record k tx moment es (record_in m p)) (record_in m p)).node) ≡ true
    step true = edited_rises tx moment k es (record_in m p).node (h p)
    step false = h p

pub kept_rise : (m n : Records) → AreRising m → KeepsRecords m n → AreRising n
kept_rise m n h u p = rw (u p) (h p)

pub root_rises : (m : Records) → m ≡ ([], root_record) ∷ [] → AreRising m
root_rises m e p = subst (λ es. rises name_cmp (names_of (record_in es p).node) ≡ true) (sym e) (step (is_at (path_cmp p) []))
  where
    step : (b : Bool) → rises name_cmp (names_of (or_no_record (cond b (Some root_record) None)).node) ≡ true
    step true = refl
    step false = refl
