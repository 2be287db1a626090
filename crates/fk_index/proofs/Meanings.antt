-- What a table of ordered maps means after a call.
use Rattle.std.proofs.Common.{◌≡◌, ℕ, cond, List, refl, sym, ◌∙◌, ap}
use Rattle.fk_base.specs.Path.{PathNames, same_path}
use Rattle.fk_tree.specs.Tree.{map_some}
use Rattle.fk_tree.proofs.Order.{same_path_self}
use Rattle.fk_store.specs.Answers.{has_owner}
use Rattle.fk_store.specs.declared.write.Write.{Write}
use Rattle.fk_store.specs.Meaning.{Meaning}
use Rattle.fk_store.specs.Writes.{all_written, done_written, grant_record, records_written, session_written}
use Rattle.fk_store.proofs.Meanings.{apart, same_meaning, written_apart}
use Rattle.fk_index.specs.Owners.{Owners, AreOwned, KeepMarks}
use Rattle.fk_index.specs.Slots.{Slots, record_at, KeepSame}

-- IN PLACE
-- the same records and marks
pub kept_owned : (m n : Slots) (o q : Owners) → KeepSame m n → KeepMarks o q → AreOwned m o → AreOwned n q
kept_owned m n o q k h a s p l = h s p ∙ a s p l ∙ ap (has_owner s) (sym (k p))

-- a grant of a path's lock, over records that are as before
abbrev pub IsGranted : PathNames → ℕ → ℕ → Slots → Slots → Type 0
IsGranted p inv moment m n = (q : PathNames) → record_at n q ≡ cond (same_path q p) (grant_record inv moment (record_at m q)) (record_at m q)

pub granted_over : (p : PathNames) (inv moment : ℕ) (m n x : Slots) → KeepSame m n → IsGranted p inv moment n x → IsGranted p inv moment m x
granted_over p inv moment m n x k g q = g q ∙ ap (λ o. cond (same_path q p) (grant_record inv moment o) o) (k q)

pub granted_here : (p : PathNames) (inv moment : ℕ) (m x : Slots) → IsGranted p inv moment m x → record_at x p ≡ grant_record inv moment (record_at m p)
granted_here p inv moment m x g = g p ∙ rw (same_path_self p) refl

-- WHAT IT MEANS
pub same_all : (old new : Meaning) → ((p : PathNames) → new.nodes p ≡ old.nodes p) → ((s : ℕ) → new.sessions s ≡ old.sessions s) → new.done ≡ old.done → new.armed ≡ old.armed → new.faults ≡ old.faults → new ≡ old
same_all old new a b c d e = same_meaning new old a b c d e

pub wrote_all : (ws : List Write) (old new : Meaning)
    → ((p : PathNames) → new.nodes p ≡ records_written p ws (old.nodes p))
    → ((s : ℕ) → new.sessions s ≡ map_some (session_written s ws) (old.sessions s))
    → new.done ≡ done_written ws old.done → new.armed ≡ old.armed → new.faults ≡ old.faults → new ≡ all_written ws old
wrote_all ws old new a b c d e = same_meaning new (apart ws old) a b c d e ∙ written_apart ws old
