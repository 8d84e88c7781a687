-- A record added on a side: what is so when it is done, when it is struck, and when memory was refused.
use Rattle.std.specs.Prelude.{◌≡◌, ◌≢◌, ◌⊎◌, ℕ, ◌+◌, ◌-◌, ◌≤◌, ◌<◌, ◌==◌, nat_lt, Bool, true, false, ◌&&◌, List, [], ◌∷◌, ◌++◌, length, Option, Some, Result, Ok, Err, slice_index, if◌then◌else◌}
use Rattle.std.specs.Option.{option_map}
use Rattle.cg_base.specs.declared.limits.TheConstants.{NUMBER_LIMIT}
use Rattle.cg_disk.specs.Sides.{Image, bytes_of, opposite}
use Rattle.cg_disk.specs.State.{SideState, DiskState, DiskStrike, Blow, Fails, Stops, is_unsynced, left_by}
use Rattle.cg_disk.specs.View.{DiskView, IsAtRest}
use Rattle.cg_disk.specs.declared.disk.Side.{Side}
use Rattle.cg_disk.specs.declared.disk.Side.TheVariants.{A, B}
use Rattle.cg_disk.specs.declared.disk.DiskFault.{DiskFault}
use Rattle.cg_disk.specs.declared.disk.DiskFault.TheVariants.{Failed, NoMemory}
use Rattle.cg_journal.specs.Records.{Records, HasRecords, records, added}
use Rattle.cg_journal.specs.Strikes.{IsUnstruck, IsStruck}

-- one side of a state that is told
abbrev pub state_on : Side → DiskState → SideState
state_on A s = s.a
state_on B s = s.b

-- the disk stands for the one records or for the others
abbrev pub IsEither : Option Records → Option Records → Image → Type 0
IsEither before after c = (records c ≡ before) ⊎ (records c ≡ after)

-- the byte at the gate of a record decides for which of them
pub record GateDecides (side : Side) (gate : ℕ) (before after : Option Records) (c : Image) : Type 0 where
  pub opened : slice_index (bytes_of side c) gate ≡ 1 → records c ≡ after
  pub closed : slice_index (bytes_of side c) gate ≢ 1 → records c ≡ before

-- the first byte of a fill opens a gate
abbrev pub opens : List ℕ → Bool
opens [] = false
opens (byte ∷ fill) = byte == 1

-- the record stands after a crash with this fill, where this one of the four calls was struck: after a failure where the
-- gate was written and its sync failed, after a stop in the gate's write or its sync where the first byte opens it
abbrev pub gate_stands : Blow → ℕ → List ℕ → Bool
gate_stands Fails call fill = nat_lt 3 call
gate_stands Stops call fill = nat_lt 2 call && opens fill

-- what a disk tells that was struck in one of the four calls: what each fill leaves, and that in the third and the
-- fourth no other offset than the gate's is unsynced
pub record IsCutShort (side : Side) (gate call : ℕ) (before after : Option Records) (s e : DiskState) : Type 0 where
  pub strike : DiskStrike
  pub armed : s.strike ≡ Some strike
  pub fills : (fill : List ℕ) → records (left_by e fill) ≡ (if gate_stands strike.blow call fill then after else before)
  pub only_gate : 2 < call → (offset : ℕ) → is_unsynced (state_on side e).unsynced offset ≡ true → offset ≡ gate
  pub other_synced : 2 < call → (state_on (opposite side) e).unsynced ≡ []

-- behind so many earlier calls one of the four was struck
pub record IsLostIn (earlier call : ℕ) (side : Side) (gate : ℕ) (before after : Option Records) (old
    new : DiskView) : Type 0 where
  pub struck : IsStruck old new
  pub time : new.time ≡ old.time + earlier + call
  pub within : (1 ≤ call) × (call ≤ 4)
  pub gates : (c : Image) → new.may_leave c → GateDecides side gate before after c
  pub early : call ≤ 2 → (c : Image) → new.may_leave c → records c ≡ before
  pub last : call ≡ 4 → records new.reads ≡ after
  pub reads : new.may_leave new.reads
  pub told : (s : DiskState) → old.state ≡ Some s → (e : DiskState) × (new.state ≡ Some e)
      × IsCutShort side gate call before after s e

-- the record stands on the disk
pub record IsAdded (side : Side) (end : ℕ) (bodies : List (List ℕ)) (body : List ℕ) (old new : DiskView) : Type 0 where
  pub records_new : records new.reads ≡ option_map (added side body) (records old.reads)
  pub on : HasRecords (bytes_of side new.reads) (end + 5 + length body) (bodies ++ body ∷ [])
  pub other : bytes_of (opposite side) new.reads ≡ bytes_of (opposite side) old.reads
  pub rest : IsAtRest new
  pub time : new.time ≡ old.time + 4
  pub unstruck : IsUnstruck old new
  pub short : end + 5 + length body < NUMBER_LIMIT

-- memory was refused at the first write or at the gate's
pub record IsNotAdded (side : Side) (end : ℕ) (bodies : List (List ℕ)) (old new : DiskView) : Type 0 where
  pub records_new : records new.reads ≡ records old.reads
  pub on : HasRecords (bytes_of side new.reads) end bodies
  pub other : bytes_of (opposite side) new.reads ≡ bytes_of (opposite side) old.reads
  pub rest : IsAtRest new
  pub time : (new.time ≡ old.time) ⊎ (new.time ≡ old.time + 2)
  pub unstruck : IsUnstruck old new

abbrev pub Adds : {T : Type 0} → Side → ℕ → List (List ℕ) → List ℕ → DiskView → DiskView → Result T DiskFault → Type 0
Adds side end bodies body old new (Ok _) = IsAdded side end bodies body old new
Adds side end bodies body old new (Err Failed) = (call : ℕ)
    × IsLostIn 0 call side (end - 1) (records old.reads) (option_map (added side body) (records old.reads)) old new
Adds side end bodies body old new (Err NoMemory) = IsNotAdded side end bodies old new
