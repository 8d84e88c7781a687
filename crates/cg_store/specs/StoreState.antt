-- What a store keeps.
use Rattle.std.specs.Prelude.{◌≡◌, ℕ, List}
use Rattle.cg_action.specs.declared.action.Action.{Action}
use Rattle.cg_disk.specs.View.{DiskView, IsAtRest}
use Rattle.cg_disk.specs.declared.disk.Side.{Side}
use Rattle.cg_records.specs.Limits.{IsNumber}
use Rattle.cg_records.specs.declared.stable.Stable.{Stable}
use Rattle.cg_disk_records.specs.Stored.{Stored, stable_of}
use Rattle.cg_store.specs.Stands.{Stands}

-- a store: its disk, whose it is, and the red marks that stand in no record of it
pub record StoreState (D : Type 0) : Type 0 where
  pub disk : D
  pub id : ℕ
  pub unwritten : List Action

-- the disk stands for a state, with this side in use, of this generation, and with these values; everything is synced
pub record IsStore (d : DiskView) (id : ℕ) (side : Side) (generation : ℕ) (values : Stable) : Type 0 where
  pub size : ℕ
  pub content : Stored
  pub stands : Stands id d.reads (record { side = side; generation = generation; size = size; content = content })
  pub values_are : values ≡ stable_of content
  pub small : IsNumber generation
  pub rest : IsAtRest d
