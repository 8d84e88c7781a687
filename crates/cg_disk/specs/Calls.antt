-- How a call of a disk leads from one view to the next.
use Rattle.std.specs.Prelude.{◌≡◌, ℕ, suc, ◌≤◌, ◌<◌, ◌⊎◌, ◌↔◌, List, Some, None, IfSome, Result, Ok, Err}
use Rattle.std.specs.Option.{option_map}
use Rattle.cg_disk.specs.Sides.{Image}
use Rattle.cg_disk.specs.State.{DiskState, Blow, blow_at, after_blow, left_by}
use Rattle.cg_disk.specs.View.{DiskView}
use Rattle.cg_disk.specs.declared.disk.DiskFault.{DiskFault}
use Rattle.cg_disk.specs.declared.disk.DiskFault.TheVariants.{Failed, NoMemory}

-- the number of a call is one more than that of the calls before it, and no fault is counted; a disk that tells its
-- state doesn't strike it
pub record Passes (done : DiskState → DiskState) (old new : DiskView) : Type 0 where
  pub time : new.time ≡ suc old.time
  pub faults : new.faults ≡ old.faults
  pub state : new.state ≡ option_map done old.state
  pub unstruck : IfSome old.state (λ d. blow_at d.strike new.time ≡ None)

-- a disk that tells its state and is left like this has struck this call
pub record IsStruck (cut : DiskState → DiskState) (call : ℕ) (old new : DiskState) : Type 0 where
  pub blow : Blow
  pub struck : blow_at old.strike call ≡ Some blow
  pub left : new ≡ after_blow blow cut call old

-- a fault is counted, and a disk that tells its state strikes the call
pub record Fails (cut : DiskState → DiskState) (old new : DiskView) : Type 0 where
  pub time : new.time ≡ suc old.time
  pub faults : old.faults < new.faults
  pub untold : old.state ≡ None → new.state ≡ None
  pub told : (d : DiskState) → old.state ≡ Some d → (e : DiskState) × (new.state ≡ Some e) × IsStruck cut new.time d e

-- nothing has changed
pub record IsUnchanged (old new : DiskView) : Type 0 where
  pub reads : new.reads ≡ old.reads
  pub images : (c : Image) → new.may_leave c ↔ old.may_leave c
  pub moments : (t : ℕ) (c : Image) → new.left_since t c ↔ old.left_since t c
  pub time : new.time ≡ old.time
  pub faults : new.faults ≡ old.faults
  pub state : new.state ≡ old.state

-- how a call ends: `done` is what it does to the state of the disk, and `cut` what it does where a stop strikes it
abbrev pub Ends : {T : Type 0} → (DiskState → DiskState) → (DiskState → DiskState) → DiskView → DiskView →
    Result T DiskFault → Type 0
Ends done cut old new (Ok _) = Passes done old new
Ends done cut old new (Err Failed) = Fails cut old new
Ends done cut old new (Err NoMemory) = IsUnchanged old new

-- time goes on: a crash since t may have left what it may have left before, or what it may leave now
pub record Elapses (old new : DiskView) : Type 0 where
  pub nothing_else : (t : ℕ) (c : Image) → t ≤ old.time → new.left_since t c → old.left_since t c ⊎ new.may_leave c
  pub keeps : (t : ℕ) (c : Image) → t ≤ old.time → old.left_since t c → new.left_since t c

-- the disk as it reads is one of its images, and so is what each fill leaves where it tells its state
pub record HasImages (d : DiskView) : Type 0 where
  pub reads : d.may_leave d.reads
  pub fills : IfSome d.state (λ s. (fill : List ℕ) → d.may_leave (left_by s fill))

-- a call that only looks
pub record Looks (old new : DiskView) : Type 0 where
  pub reads : new.reads ≡ old.reads
  pub images : (c : Image) → new.may_leave c → old.may_leave c
  pub elapses : Elapses old new

-- what is answered for is narrowed to the moments since now: before, any image counts as possible
pub record Begins (old new : DiskView) : Type 0 where
  pub reads : new.reads ≡ old.reads
  pub images : (c : Image) → new.may_leave c ↔ old.may_leave c
  pub time : new.time ≡ old.time
  pub faults : new.faults ≡ old.faults
  pub state : new.state ≡ old.state
  pub earlier : (t : ℕ) (c : Image) → t < new.time → new.left_since t c
