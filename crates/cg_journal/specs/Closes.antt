-- A side whose first gate is closed, so that it has no records.
use Rattle.std.specs.Prelude.{◌≡◌, ℕ, ◌+◌, ◌≤◌, List, [], Option, IfSome, Result, Ok, Err}
use Rattle.std.specs.Option.{option_map}
use Rattle.cg_disk.specs.Sides.{Image, bytes_of, opposite}
use Rattle.cg_disk.specs.State.{left_by}
use Rattle.cg_disk.specs.View.{DiskView, IsAtRest}
use Rattle.cg_disk.specs.declared.disk.Side.{Side}
use Rattle.cg_disk.specs.declared.disk.DiskFault.{DiskFault}
use Rattle.cg_disk.specs.declared.disk.DiskFault.TheVariants.{Failed, NoMemory}
use Rattle.cg_journal.specs.Records.{Records, HasRecords, records, emptied}
use Rattle.cg_journal.specs.Strikes.{IsUnstruck, IsStruck}
use Rattle.cg_journal.specs.Put.{IsKept}
use Rattle.cg_journal.specs.Adds.{IsEither}

-- the side has no records
pub record IsClosed (side : Side) (old new : DiskView) : Type 0 where
  pub on : HasRecords (bytes_of side new.reads) 9 []
  pub other : bytes_of (opposite side) new.reads ≡ bytes_of (opposite side) old.reads
  pub rest : IsAtRest new
  pub time : new.time ≡ old.time + 2
  pub unstruck : IsUnstruck old new

-- one of the two calls that close the gate was struck: each image stands for the one records or for the others
pub record IsLostClosing (call : ℕ) (before closed : Option Records) (old new : DiskView) : Type 0 where
  pub struck : IsStruck old new
  pub time : new.time ≡ old.time + call
  pub within : (1 ≤ call) × (call ≤ 2)
  pub images : (c : Image) → new.may_leave c → IsEither before closed c
  pub reads : new.may_leave new.reads
  pub fills : IfSome new.state (λ e. (fill : List ℕ) → IsEither before closed (left_by e fill))

abbrev pub Closes : {T : Type 0} → Side → DiskView → DiskView → Result T DiskFault → Type 0
Closes side old new (Ok _) = IsClosed side old new
Closes side old new (Err Failed) =
    (call : ℕ) × IsLostClosing call (records old.reads) (option_map (emptied side) (records old.reads)) old new
Closes side old new (Err NoMemory) = IsKept old new
