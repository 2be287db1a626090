-- What holds of any calls of a user store: no stamp falls, nor does the mark, and what was done is done once.
use Rattle.std.specs.Prelude.{◌≡◌, ◌≤◌, ℕ, ⊤, List}
use Rattle.fk_base.specs.Path.{PathNames}
use Rattle.fk_tree.specs.declared.edit.Edit.{Edit}
use Rattle.fk_user.specs.declared.answer.PutRecord.{PutRecord}
use Rattle.fk_user.specs.declared.answer.PutRecord.TheVariants as put
use Rattle.fk_user.specs.declared.answer.Publish.{Publish}
use Rattle.fk_user.specs.declared.answer.Publish.TheVariants as publish
use Rattle.fk_user.specs.Meaning.{Meaning, published, with_put}
use Rattle.fk_user.specs.Answers.{after_publish, after_put, IsPublish, IsPut}

-- each stamp and the mark are at least what they were
abbrev pub NeverFalls : Meaning → Meaning → Type 0
NeverFalls m n = (m.mark ≤ n.mark) × ((p : PathNames) → (m.records p).stamp ≤ (n.records p).stamp)

abbrev pub PutsNeverFall : Type 0
PutsNeverFall = (m : Meaning) (p : PathNames) (tx moment : ℕ) (es : List Edit) (r : PutRecord) → IsPut m p tx r → NeverFalls m (after_put m p tx moment es r)

abbrev pub PublicationsNeverFall : Type 0
PublicationsNeverFall = (m : Meaning) (tx : ℕ) (epoch : List ℕ) (r : Publish) → IsPublish m tx r → NeverFalls m (after_publish m tx epoch r)

-- an answer that leaves what transaction tx put
abbrev pub IsThere : ℕ → PutRecord → Type 0
IsThere tx put.Done = ⊥
IsThere tx (put.Already stamp) = stamp ≡ tx
IsThere tx put.Failed = ⊤
IsThere tx put.NoMemory = ⊥

-- A put that was done is not done again: it is there already, or the call fails.
abbrev pub PutsAreDoneOnce : Type 0
PutsAreDoneOnce = (m : Meaning) (p : PathNames) (tx moment : ℕ) (es : List Edit) (r : PutRecord) → IsPut (with_put m p tx moment es) p tx r → IsThere tx r

-- an answer that leaves what transaction tx published
abbrev pub IsPublished : ℕ → Publish → Type 0
IsPublished tx publish.Done = ⊥
IsPublished tx (publish.Already mark) = mark ≡ tx
IsPublished tx publish.Failed = ⊤
IsPublished tx publish.NoMemory = ⊥

-- A publication that was done is not done again: it is there already, or the call fails.
abbrev pub PublicationsAreDoneOnce : Type 0
PublicationsAreDoneOnce = (m : Meaning) (tx : ℕ) (epoch : List ℕ) (r : Publish) → IsPublish (published m tx epoch) tx r → IsPublished tx r
