-- The steps in which a side goes over to the newer format: its gate is closed, and its header is written behind the closed
-- gate.
use Rattle.std.specs.Prelude.{◌≡◌, ◌≢◌, ◌⊎◌, ℕ, ◌+◌, ◌≤◌, ◌<◌, List, [], ◌∷◌, length, get_or, Result, Ok, Err}
use Rattle.cg_base.specs.declared.limits.TheConstants.{NUMBER_LIMIT}
use Rattle.cg_disk.specs.Sides.{Image, bytes_of, opposite}
use Rattle.cg_disk.specs.Calls.{HasImages}
use Rattle.cg_disk.specs.View.{DiskView, IsAtRest}
use Rattle.cg_disk.specs.Writes.{overwritten}
use Rattle.cg_disk.specs.declared.disk.Side.{Side}
use Rattle.cg_disk.specs.declared.disk.DiskFault.{DiskFault}
use Rattle.cg_disk.specs.declared.disk.DiskFault.TheVariants.{Failed, NoMemory}
use Rattle.cg_journal.specs.Records.{HasRecords, header}
use Rattle.cg_journal.specs.Strikes.{IsUnstruck, IsStruck}
use Rattle.cg_journal.specs.Found.{Sides, front_on}
use Rattle.cg_journal.specs.Renews.{IsRenewedBy, IsLostRenewal, IsUnrenewedBy}
use Rattle.cg_journal.specs.Clears.{IsClearedBy, IsLostClearing, IsUnclearedBy}

-- the side's first gate is closed, whatever stands at its front; the other side is as it was
pub record IsShut (side : Side) (base c : Image) : Type 0 where
  pub long : 9 ≤ length (bytes_of side c)
  pub closed : get_or (bytes_of side c) 8 0 ≢ 1
  pub other : bytes_of (opposite side) c ≡ bytes_of (opposite side) base

-- both sides are as they were, or the side's gate is closed; its front is as it was
pub record IsShutting (side : Side) (base c : Image) : Type 0 where
  pub either : (c ≡ base) ⊎ IsShut side base c
  pub front : front_on side c ≡ front_on side base

-- one of so many calls was struck: each image has P
pub record IsLostAs (calls : ℕ) (P : Image → Type 0) (call : ℕ) (old new : DiskView) : Type 0 where
  pub struck : IsStruck old new
  pub time : new.time ≡ old.time + call
  pub within : (1 ≤ call) × (call ≤ calls)
  pub images : (c : Image) → new.may_leave c → P c
  pub has : HasImages new

-- memory was refused behind at most so many calls: the disk has P
pub record IsRefusedAs (calls : ℕ) (P : Image → Type 0) (old new : DiskView) : Type 0 where
  pub is : P new.reads
  pub rest : IsAtRest new
  pub time : new.time ≤ old.time + calls
  pub unstruck : IsUnstruck old new

-- ---- the gate

pub record IsShutBy (side : Side) (old new : DiskView) : Type 0 where
  pub is : IsShut side old.reads new.reads
  pub front : front_on side new.reads ≡ front_on side old.reads
  pub rest : IsAtRest new
  pub time : new.time ≡ old.time + 2
  pub unstruck : IsUnstruck old new

abbrev pub Shuts : {T : Type 0} → Side → DiskView → DiskView → Result T DiskFault → Type 0
Shuts side old new (Ok _) = IsShutBy side old new
Shuts side old new (Err Failed) = (call : ℕ) × IsLostAs 2 (IsShutting side old.reads) call old new
Shuts side old new (Err NoMemory) = IsRefusedAs 0 (λ c. c ≡ old.reads) old new

-- ---- the header, and a record behind the gate

pub record IsHeadedBy (side : Side) (bytes : List ℕ) (old new : DiskView) : Type 0 where
  pub this : bytes_of side new.reads ≡ overwritten (overwritten (bytes_of side old.reads) 0 header) 9 bytes
  pub other : bytes_of (opposite side) new.reads ≡ bytes_of (opposite side) old.reads
  pub rest : IsAtRest new
  pub time : new.time ≡ old.time + 3
  pub unstruck : IsUnstruck old new
  pub short : 9 + length bytes < NUMBER_LIMIT

abbrev pub Heads : {T : Type 0} → Side → List ℕ → DiskView → DiskView → Result T DiskFault → Type 0
Heads side bytes old new (Ok _) = IsHeadedBy side bytes old new
Heads side bytes old new (Err Failed) = (call : ℕ) × IsLostAs 3 (IsShut side old.reads) call old new
Heads side bytes old new (Err NoMemory) = IsRefusedAs 2 (IsShut side old.reads) old new

-- behind the header, which may not be synced: each image has a closed gate
pub record IsHeading (side : Side) (base : Image) (d : DiskView) : Type 0 where
  pub images : (c : Image) → d.may_leave c → IsShut side base c
  pub has : HasImages d

pub record IsBehind (side : Side) (bytes : List ℕ) (old new : DiskView) : Type 0 where
  pub this : bytes_of side new.reads ≡ overwritten (bytes_of side old.reads) 9 bytes
  pub other : bytes_of (opposite side) new.reads ≡ bytes_of (opposite side) old.reads
  pub rest : IsAtRest new
  pub time : new.time ≡ old.time + 2
  pub unstruck : IsUnstruck old new
  pub short : 9 + length bytes < NUMBER_LIMIT

abbrev pub PutsBehind : {T : Type 0} → Side → List ℕ → Image → DiskView → DiskView → Result T DiskFault → Type 0
PutsBehind side bytes base old new (Ok _) = IsBehind side bytes old new
PutsBehind side bytes base old new (Err Failed) = (call : ℕ) × IsLostAs 2 (IsShut side base) call old new
PutsBehind side bytes base old new (Err NoMemory) = IsRefusedAs 1 (IsShut side base) old new

-- ---- both

-- a side with this record alone
abbrev pub HasRecord : Side → List ℕ → Image → Type 0
HasRecord side body c = HasRecords (bytes_of side c) (14 + length body) (body ∷ [])

pub record IsRenewedAt (side : Side) (body : List ℕ) (old new : DiskView) : Type 0 where
  pub on : HasRecord side body new.reads
  pub short : 14 + length body < NUMBER_LIMIT
  pub other : bytes_of (opposite side) new.reads ≡ bytes_of (opposite side) old.reads
  pub rest : IsAtRest new

abbrev pub RenewsSide : {T : Type 0} → Side → List ℕ → Sides → DiskView → DiskView → Result T DiskFault → Type 0
RenewsSide side body s old new (Ok _) = IsRenewedBy side body s old new
RenewsSide side body s old new (Err Failed) = IsLostRenewal side body s old new
RenewsSide side body s old new (Err NoMemory) = IsUnrenewedBy side s old new

-- a side without records
pub record IsClearedAt (side : Side) (old new : DiskView) : Type 0 where
  pub on : HasRecords (bytes_of side new.reads) 9 []
  pub other : bytes_of (opposite side) new.reads ≡ bytes_of (opposite side) old.reads
  pub rest : IsAtRest new

abbrev pub ClearsSide : {T : Type 0} → Side → Sides → DiskView → DiskView → Result T DiskFault → Type 0
ClearsSide side s old new (Ok _) = IsClearedBy side s old new
ClearsSide side s old new (Err Failed) = IsLostClearing side s old new
ClearsSide side s old new (Err NoMemory) = IsUnclearedBy side s old new
