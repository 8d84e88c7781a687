-- What a disk that tells its state tells of it: what it held at the last sync, the offsets written since, and the call
-- that is to be struck next.
use Rattle.std.specs.Prelude.{◌≡◌, ℕ, suc, ◌+◌, ◌≤◌, ◌<◌, ◌==◌, Bool, false, nat_le, nat_lt, ◌&&◌, List, [], ◌∷◌, length, drop, Option, Some, None, slice_get, slice_index, if◌then◌else◌}
use Rattle.std.specs.List.{list_any}
use Rattle.cg_disk.specs.Sides.{Image}
use Rattle.cg_disk.specs.Writes.{overwritten}
use Rattle.cg_disk.specs.declared.disk.Side.{Side}
use Rattle.cg_disk.specs.declared.disk.Side.TheVariants.{A, B}

-- offsets in a row, the last one left out
pub record Range : Type 0 where
  pub from : ℕ
  pub to : ℕ

-- a side: what it held at the last sync, what a read gives, and the ranges written since
pub record SideState : Type 0 where
  pub old : List ℕ
  pub seen : List ℕ
  pub unsynced : List Range

-- how a call is struck: it fails once, or the disk stops in it for good
pub data Blow : Type 0 where
  Fails : Blow
  Stops : Blow

-- the number of the next call that is struck, and how
pub record DiskStrike : Type 0 where
  pub call : ℕ
  pub blow : Blow

-- a disk of two sides, and the strike that is armed
pub record DiskState : Type 0 where
  pub a : SideState
  pub b : SideState
  pub strike : Option DiskStrike

-- what a read gives of both sides
abbrev pub shown : DiskState → Image
shown d = record { a = d.a.seen; b = d.b.seen }

-- the offset was written since the last sync
abbrev pub is_unsynced : List Range → ℕ → Bool
is_unsynced ranges offset = list_any (λ r. nat_le r.from offset && nat_lt offset r.to) ranges

-- a crash may leave this of a side: any bytes at the unsynced offsets, and any end from the old one on
pub record LeavesSide (s : SideState) (c : List ℕ) : Type 0 where
  pub no_shorter : length s.old ≤ length c
  pub no_longer : length c ≤ length s.seen
  pub same : (k : ℕ) → k < length c → is_unsynced s.unsynced k ≡ false → slice_index c k ≡ slice_index s.seen k

-- a crash may leave this of a disk with these sides
pub record Leaves (a b : SideState) (c : Image) : Type 0 where
  pub on_a : LeavesSide a c.a
  pub on_b : LeavesSide b c.b

-- one unsynced offset gets the next byte of the fill; without one its old byte stays, and without that the side ends
abbrev pub fill_offset : List ℕ → Option ℕ → (List ℕ → List ℕ) → List ℕ
fill_offset (byte ∷ fill) old rest = byte ∷ rest fill
fill_offset [] (Some byte) rest = byte ∷ rest []
fill_offset [] None rest = []

-- the bytes of a side from an offset on after a crash: the fill at the unsynced offsets, elsewhere what a read gives
abbrev pub filled_from : SideState → ℕ → List ℕ → List ℕ → List ℕ
filled_from s offset [] fill = []
filled_from s offset (byte ∷ seen) fill =
    let rest : List ℕ → List ℕ = filled_from s (suc offset) seen in
    if is_unsynced s.unsynced offset then fill_offset fill (slice_get s.old offset) rest else byte ∷ rest fill

-- what a crash with this fill leaves of a side
abbrev pub filled : SideState → List ℕ → List ℕ
filled s fill = filled_from s 0 s.seen fill

-- how many offsets from one on are unsynced
abbrev pub unsynced_from : SideState → ℕ → List ℕ → ℕ
unsynced_from s offset [] = 0
unsynced_from s offset (byte ∷ seen) = (if is_unsynced s.unsynced offset then 1 else 0) + unsynced_from s (suc offset) seen

-- what a crash with this fill leaves of the disk: it fills side A, and what is left of it side B
abbrev pub left_by : DiskState → List ℕ → Image
left_by d fill = record { a = filled d.a fill; b = filled d.b (drop (unsynced_from d.a 0 d.a.seen) fill) }

-- a side after a write
abbrev pub wrote_side : ℕ → List ℕ → SideState → SideState
wrote_side offset bytes s = record {
  old = s.old;
  seen = overwritten s.seen offset bytes;
  unsynced = record { from = offset; to = offset + length bytes } ∷ s.unsynced;
}

-- a side of which everything counts as synced
abbrev pub synced_side : SideState → SideState
synced_side s = record { old = s.seen; seen = s.seen; unsynced = [] }

-- the disk after a write
abbrev pub wrote : Side → ℕ → List ℕ → DiskState → DiskState
wrote A offset bytes d = record { a = wrote_side offset bytes d.a; b = d.b; strike = d.strike }
wrote B offset bytes d = record { a = d.a; b = wrote_side offset bytes d.b; strike = d.strike }

-- the disk after a sync
abbrev pub synced : DiskState → DiskState
synced d = record { a = synced_side d.a; b = synced_side d.b; strike = d.strike }

-- the disk after a call that only looks
abbrev pub looked : DiskState → DiskState
looked d = d

-- how the call of this number is struck
abbrev pub blow_at : Option DiskStrike → ℕ → Option Blow
blow_at None call = None
blow_at (Some strike) call = if strike.call == call then Some strike.blow else None

-- the disk after the call of this number was struck: what was written before a failure counts as synced, and after a
-- stop, which may cut a write short, each later call is struck too
abbrev pub after_blow : Blow → (DiskState → DiskState) → ℕ → DiskState → DiskState
after_blow Fails cut call d = record { a = synced_side d.a; b = synced_side d.b; strike = None }
after_blow Stops cut call d = record {
  a = (cut d).a;
  b = (cut d).b;
  strike = Some (record { call = suc call; blow = Stops });
}
