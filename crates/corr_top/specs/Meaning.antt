-- What a command means, as one value.
use Rattle.std.specs.Prelude.{ℕ, ◌≡◌, List}
use Rattle.std.specs.List.{Contains}
use Rattle.corr_disk.specs.declared.disk.Disk as disks
use Rattle.ref_tables.specs.declared.fault.TableName.{TableName}
use Rattle.corr_top.specs.declared.room.Room.{Room}
use Rattle.corr_top.specs.Inputs.{Inputs}
use Rattle.corr_top.specs.Passing.{table_at}
use Rattle.corr_top.specs.Steps.{Step}

-- What was read names what the words name; what is read, tested and done before anything is written, in this order; the report, and
-- what is sent, of what was read; what is known of what is sent; and what is left on any disk, as it was and as it is, where the
-- command comes to its end.
pub record Meaning : Type 1 where
  pub is_for : Inputs → Type 0
  pub steps : List Step
  pub report : Inputs → List ℕ
  pub out : Inputs → List ℕ
  pub valid : Inputs → Type 0
  pub leaves : (D : Type 0) → disks.Ghosts D → D → D → Inputs → Type 0

-- a source that none of these steps reads is as it was, and so is the second disk where none makes a copy
pub record KeepsRest {S K D : Type 0} (steps : List Step) (old new : Room S K D) : Type 0 where
  pub tables : (name : TableName) → (Contains steps (Step.table name) → ⊥) → table_at name new.tables ≡ table_at name old.tables
  pub messages : (Contains steps Step.messages → ⊥) → (Contains steps Step.serve → ⊥) → new.messages ≡ old.messages
  pub received : (Contains steps Step.received → ⊥) → (Contains steps Step.packets → ⊥) → new.received ≡ old.received
  pub sent : (Contains steps Step.sent → ⊥) → new.sent ≡ old.sent
  pub disk2 : (Contains steps Step.copy → ⊥) → new.disk2 ≡ old.disk2
