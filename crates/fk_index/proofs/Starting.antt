-- A new table.
use Rattle.std.proofs.Common.{◌≡◌, ℕ, Bool, true, false, cond, List, [], ◌∷◌, Some, None, refl, sym, ◌∙◌, ap, arith}
use Rattle.std.specs.BTreeMap.{is_at}
use Rattle.std.specs.Map.{lookup}
use Rattle.std.specs.Ordering.{nat_cmp}
use Rattle.std.proofs.lemmas.Bool.Decides.{nat_tests}
use Rattle.fk_base.specs.Path.{PathNames, is_root, name_cmp, path_cmp}
use Rattle.fk_tree.specs.Rows.{names_of}
use Rattle.fk_tree.specs.Sorted.{rises}
use Rattle.fk_store.specs.Answers.{has_owner}
use Rattle.fk_store.specs.Meaning.{Meaning, new_table, root_record}
use Rattle.fk_store.specs.Numbered.{new_sessions, session_at}
use Rattle.fk_store.specs.declared.session_record.SessionRecord.{SessionRecord}
use Rattle.fk_store.proofs.Meanings.{same_meaning}
use Rattle.fk_store.proofs.Numbering.{new_at}
use Rattle.fk_index.specs.Slots.{Slots, flat, node_of, record_at, AreRising}
use Rattle.fk_index.specs.Owners.{Owners, is_set, mark_in, AreOwned}

start_record : (m : Slots) → m.entries ≡ ([], Some root_record) ∷ [] → (p : PathNames) → record_at m p ≡ cond (is_root p) (Some root_record) None
start_record m e p = ap (λ es. flat (lookup (is_at (path_cmp p)) es)) e ∙ alone p
  where
    alone : (p : PathNames) → flat (lookup (is_at (path_cmp p)) (([], Some root_record) ∷ [])) ≡ cond (is_root p) (Some root_record) None
    alone [] = refl
    alone (n ∷ p) = refl

pub start_owned : (m : Slots) (o : Owners) → m.entries ≡ ([], Some root_record) ∷ [] → o.entries ≡ [] → AreOwned m o
start_owned m o a b s p l = ap (λ es. is_set (mark_in p (lookup (is_at (nat_cmp s)) es))) b ∙ sym (ap (has_owner s) (start_record m a p) ∙ step (is_root p))
  where
    step : (c : Bool) → has_owner s (cond c (Some root_record) None) ≡ false
    step true = grind (arith, nat_tests)
    step false = refl

pub start_rising : (m : Slots) → m.entries ≡ ([], Some root_record) ∷ [] → AreRising m
start_rising m a p = ap (λ o. rises name_cmp (names_of (node_of o))) (start_record m a p) ∙ step (is_root p)
  where
    step : (c : Bool) → rises name_cmp (names_of (node_of (cond c (Some root_record) None))) ≡ true
    step true = refl
    step false = refl

pub starts_new : (count : ℕ) (m : Slots) (rs : List SessionRecord) (new : Meaning) → m.entries ≡ ([], Some root_record) ∷ [] → rs ≡ new_sessions count
    → ((p : PathNames) → new.nodes p ≡ record_at m p) → ((s : ℕ) → new.sessions s ≡ session_at s rs) → new.done ≡ 0 → new.armed ≡ false → new.faults ≡ 0 → new ≡ new_table count
starts_new count m rs new a b c d e f g = same_meaning new (new_table count) (λ p. c p ∙ start_record m a p) (λ s. d s ∙ ap (session_at s) b ∙ new_at s count) e f g
