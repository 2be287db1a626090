-- What a user store means: for each path a node or none, with the transaction that it stands at; the mark
-- and the epoch of the last publication; whether the next call fails, and how often one failed.
use Rattle.std.specs.Prelude.{ℕ, Bool, true, false, if◌then◌else◌, List, [], Some, None}
use Rattle.fk_base.specs.Path.{PathNames, is_root, same_path}
use Rattle.fk_base.specs.Faults.{one_more}
use Rattle.fk_tree.specs.Edit.{edited}
use Rattle.fk_tree.specs.Tree.{root_node, with_names}
use Rattle.fk_tree.specs.declared.edit.Edit.{Edit}
use Rattle.fk_user.specs.declared.record.UserRecord.{UserRecord}

pub record Meaning : Type 0 where
  pub records : PathNames → UserRecord
  pub mark : ℕ
  pub epoch : List ℕ
  pub armed : Bool
  pub faults : ℕ

-- what a path without a record shows: no node, and stamp 0
abbrev pub no_record : UserRecord
no_record = record { node = None; stamp = 0 }

-- the root as it starts
abbrev pub root_record : UserRecord
root_record = record { node = Some (with_names [] root_node); stamp = 0 }

-- A new store has the root's record alone, the mark 0 and no epoch.
abbrev pub new_store : Meaning
new_store = record {
  records = λ p. if is_root p then root_record else no_record;
  mark = 0;
  epoch = [];
  armed = false;
  faults = 0;
}

-- the record of a path after edits of its node: the node that they leave, or none, with stamp tx
abbrev pub put_record : PathNames → ℕ → ℕ → List Edit → UserRecord → UserRecord
put_record p tx moment es r = record { node = edited tx moment p es r.node; stamp = tx }

-- the store after edits of a path's node
abbrev pub with_put : Meaning → PathNames → ℕ → ℕ → List Edit → Meaning
with_put m p tx moment es = record m { records = λ q. if same_path q p then put_record p tx moment es (m.records q) else m.records q }

-- the store after a publication
abbrev pub published : Meaning → ℕ → List ℕ → Meaning
published m tx epoch = record m { mark = tx; epoch = epoch }

-- the next call fails
abbrev pub armed : Meaning → Meaning
armed m = record m { armed = true }

-- the next call doesn't fail
abbrev pub calmed : Meaning → Meaning
calmed m = record m { armed = false }

-- A call that may fail does so exactly where the store is armed. It then raises the count of faults,
-- calms the store and changes nothing else.
abbrev pub called : Meaning → Meaning
called m = if m.armed then record m { armed = false; faults = one_more m.faults } else m
