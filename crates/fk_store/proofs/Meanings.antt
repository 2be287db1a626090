-- What a table of lists means after a call.
use Rattle.std.proofs.Common.{◌≡◌, ℕ, false, cond, List, [], ◌∷◌, ◌++◌, Option, Some, None, refl, sym, ◌∙◌, ap}
use Rattle.fk_base.specs.Path.{PathNames, is_root, same_path}
use Rattle.fk_tree.specs.Tree.{map_some}
use Rattle.fk_tree.proofs.Order.{same_path_self}
use Rattle.fk_store.specs.declared.list_table.ListTable.{ListTable}
use Rattle.fk_store.specs.declared.rows.Row.{Row}
use Rattle.fk_store.specs.declared.write.Write.{Write}
use Rattle.fk_store.specs.declared.write.Write.TheVariants as write
use Rattle.fk_store.specs.Meaning.{Meaning, new_table, root_record}
use Rattle.fk_store.specs.Numbered.{new_sessions, session_at}
use Rattle.fk_store.specs.Rows.{row_record, KeepSame}
use Rattle.fk_store.specs.Tables.{table_of}
use Rattle.fk_store.specs.Writes.{all_written, done_written, grant_record, records_written, session_after, session_written, written}
use Rattle.fk_store.proofs.Numbering.{new_at}

-- tables that have the same records, number and counts are the same
pub same_meaning : (m n : Meaning) → ((p : PathNames) → m.nodes p ≡ n.nodes p) → ((s : ℕ) → m.sessions s ≡ n.sessions s) → m.done ≡ n.done → m.armed ≡ n.armed → m.faults ≡ n.faults → m ≡ n
same_meaning m n a b c d e = λ i. record { nodes = λ p. (a p) i; sessions = λ s. (b s) i; done = c i; armed = d i; faults = e i }

-- WRITES
-- the table after writes, record by record
abbrev pub apart : List Write → Meaning → Meaning
apart ws m = record {
  nodes = λ p. records_written p ws (m.nodes p);
  sessions = λ s. map_some (session_written s ws) (m.sessions s);
  done = done_written ws m.done;
  armed = m.armed;
  faults = m.faults;
}

pub map_same : {A : Type 0} (o : Option A) → o ≡ map_some (λ x. x) o
map_same None = refl
map_same (Some x) = refl

map_twice : {A : Type 0} (f g : A → A) (o : Option A) → map_some g (map_some f o) ≡ map_some (λ x. g (f x)) o
map_twice f g None = refl
map_twice f g (Some x) = refl

pub written_apart : (ws : List Write) (m : Meaning) → apart ws m ≡ all_written ws m
written_apart [] m = same_meaning (apart [] m) m (λ p. refl) (λ s. sym (map_same (m.sessions s))) refl refl refl
written_apart (w ∷ ws) m =
    same_meaning (apart (w ∷ ws) m) (apart ws (written w m)) (λ p. refl) (λ s. sym (map_twice (session_after w s) (session_written s ws) (m.sessions s))) refl refl refl
    ∙ written_apart ws (written w m)

over_same : (p : PathNames) (ds rows others : List Row) → KeepSame rows others → row_record p (ds ++ others) ≡ row_record p (ds ++ rows)
over_same p [] rows others h = h p
over_same p (d ∷ ds) rows others h = ap (cond (same_path p d.path) d.kept) (over_same p ds rows others h)

-- a draft of the writes was put over the rows
pub wrote_table : (ws : List Write) (old new : ListTable) (draft rows : List Row)
    → ((p : PathNames) → row_record p (draft ++ old.rows.items) ≡ records_written p ws (row_record p old.rows.items))
    → KeepSame old.rows.items rows → ((p : PathNames) → row_record p new.rows.items ≡ row_record p (draft ++ rows))
    → ((s : ℕ) → session_at s new.sessions.items ≡ map_some (session_written s ws) (session_at s old.sessions.items))
    → new.done ≡ done_written ws old.done → new.armed ≡ old.armed → new.faults ≡ old.faults
    → table_of new ≡ all_written ws (table_of old)
wrote_table ws old new draft rows a b c d e f g =
    same_meaning (table_of new) (apart ws (table_of old)) (λ p. c p ∙ over_same p draft old.rows.items rows b ∙ a p) d e f g
    ∙ written_apart ws (table_of old)

-- rows were added that keep what is there
pub kept_table : (old new : ListTable) → KeepSame old.rows.items new.rows.items → new.sessions.items ≡ old.sessions.items → new.done ≡ old.done → new.armed ≡ old.armed → new.faults ≡ old.faults → table_of new ≡ table_of old
kept_table old new a b c d e = same_meaning (table_of new) (table_of old) a (λ s. ap (session_at s) b) c d e

-- the lock of a path was granted
pub granted_table : (p : PathNames) (inv moment : ℕ) (old new : ListTable) (rows : List Row) → KeepSame old.rows.items rows
    → ((q : PathNames) → row_record q new.rows.items ≡ cond (same_path q p) (grant_record inv moment (row_record q rows)) (row_record q rows))
    → new.sessions.items ≡ old.sessions.items → new.done ≡ old.done → new.armed ≡ old.armed → new.faults ≡ old.faults
    → table_of new ≡ written (write.Grant p inv moment) (table_of old)
granted_table p inv moment old new rows a b c d e f =
    same_meaning (table_of new) (written (write.Grant p inv moment) (table_of old))
    (λ q. b q ∙ ap (λ o. cond (same_path q p) (grant_record inv moment o) o) (a q))
    (λ s. ap (session_at s) c ∙ map_same (session_at s old.sessions.items))
    d e f

pub granted_here : (p : PathNames) (inv moment : ℕ) (old rows new : List Row) → KeepSame old rows
    → ((q : PathNames) → row_record q new ≡ cond (same_path q p) (grant_record inv moment (row_record q rows)) (row_record q rows))
    → row_record p new ≡ grant_record inv moment (row_record p old)
granted_here p inv moment old rows new a b = b p ∙ rw (same_path_self p) (ap (grant_record inv moment) (a p))

-- A NEW ONE
root_alone : (p : PathNames) → cond (same_path p []) (Some root_record) None ≡ cond (is_root p) (Some root_record) None
root_alone [] = refl
root_alone (n ∷ p) = refl

pub starts_new : (count : ℕ) (t : ListTable) (r : Row) → r.path ≡ [] → r.kept ≡ Some root_record → t.rows.items ≡ r ∷ [] → t.sessions.items ≡ new_sessions count → t.done ≡ 0 → t.armed ≡ false → t.faults ≡ 0 → table_of t ≡ new_table count
starts_new count t r a b c d e f g =
    same_meaning (table_of t) (new_table count)
    (λ p. ap (row_record p) c ∙ rw (a, b) (root_alone p))
    (λ s. ap (session_at s) d ∙ new_at s count)
    e f g
