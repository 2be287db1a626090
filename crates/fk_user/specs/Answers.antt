-- What the answers of a user store's calls say of the store before the call, and what it means after it.
use Rattle.std.specs.Prelude.{◌≡◌, ◌≤◌, ◌<◌, ℕ, true, false, List}
use Rattle.std.specs.Option.{option_copied}
use Rattle.fk_base.specs.Path.{PathNames}
use Rattle.fk_tree.specs.declared.edit.Edit.{Edit}
use Rattle.fk_user.specs.declared.answer.UserRead.{UserRead}
use Rattle.fk_user.specs.declared.answer.UserRead.TheVariants as read
use Rattle.fk_user.specs.declared.answer.UserLook.{UserLook}
use Rattle.fk_user.specs.declared.answer.UserLook.TheVariants as look
use Rattle.fk_user.specs.declared.answer.PutRecord.{PutRecord}
use Rattle.fk_user.specs.declared.answer.PutRecord.TheVariants as put
use Rattle.fk_user.specs.declared.answer.Publish.{Publish}
use Rattle.fk_user.specs.declared.answer.Publish.TheVariants as publish
use Rattle.fk_user.specs.Meaning.{Meaning, called, published, with_put}

-- Shown with the node, or none, and the stamp of the path; Failed exactly where the store is armed.
abbrev pub IsRead : Meaning → PathNames → UserRead → Type 0
IsRead m p (read.Shown node stamp) = (m.armed ≡ false) × (option_copied node ≡ (m.records p).node) × (stamp ≡ (m.records p).stamp)
IsRead m p read.Failed = m.armed ≡ true

-- Shown with the mark and the epoch; Failed exactly where the store is armed.
abbrev pub IsLook : Meaning → UserLook → Type 0
IsLook m (look.Shown mark epoch) = (m.armed ≡ false) × (mark ≡ m.mark) × (epoch.now ≡ m.epoch)
IsLook m look.Failed = m.armed ≡ true

-- Already, with the stamp of the path, exactly where that is tx or more; Failed exactly where the store is
-- armed.
abbrev pub IsPut : Meaning → PathNames → ℕ → PutRecord → Type 0
IsPut m p tx put.Done = (m.armed ≡ false) × ((m.records p).stamp < tx)
IsPut m p tx (put.Already stamp) = (m.armed ≡ false) × (tx ≤ (m.records p).stamp) × (stamp ≡ (m.records p).stamp)
IsPut m p tx put.Failed = m.armed ≡ true
IsPut m p tx put.NoMemory = (m.armed ≡ false) × ((m.records p).stamp < tx)

-- The store after a put: at Done all the edits were made, in order, and the stamp is tx; else no record
-- changed.
abbrev pub after_put : Meaning → PathNames → ℕ → ℕ → List Edit → PutRecord → Meaning
after_put m p tx moment es put.Done = with_put m p tx moment es
after_put m p tx moment es (put.Already stamp) = m
after_put m p tx moment es put.Failed = called m
after_put m p tx moment es put.NoMemory = m

-- Already, with the mark, exactly where that is tx or more; Failed exactly where the store is armed.
abbrev pub IsPublish : Meaning → ℕ → Publish → Type 0
IsPublish m tx publish.Done = (m.armed ≡ false) × (m.mark < tx)
IsPublish m tx (publish.Already mark) = (m.armed ≡ false) × (tx ≤ m.mark) × (mark ≡ m.mark)
IsPublish m tx publish.Failed = m.armed ≡ true
IsPublish m tx publish.NoMemory = (m.armed ≡ false) × (m.mark < tx)

-- The store after a publication: at Done the mark is tx, with this epoch; else both stay.
abbrev pub after_publish : Meaning → ℕ → List ℕ → Publish → Meaning
after_publish m tx epoch publish.Done = published m tx epoch
after_publish m tx epoch (publish.Already mark) = m
after_publish m tx epoch publish.Failed = called m
after_publish m tx epoch publish.NoMemory = m
