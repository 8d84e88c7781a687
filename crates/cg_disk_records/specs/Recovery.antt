-- The device calls of a recovery, by which a disk of the older format goes over to the newer one, and what a crash inside
-- of them leaves.
use Rattle.std.specs.Prelude.{ℕ, ◌+◌, nat_le, nat_lt, Bool, false, List, take, if◌then◌else◌}
use Rattle.std.specs.Str.{bytes_eq}
use Rattle.cg_disk.specs.Writes.{overwritten}
use Rattle.cg_journal.specs.Found.{old_header}
use Rattle.cg_journal.specs.Records.{header}
use Rattle.cg_disk_records.specs.Crash.{Fault, FailOnce, StopWith, Strike, Disk, gate_stands, moved_to}
use Rattle.cg_disk_records.specs.Format.{Format, Older, Newer}

-- ---- the calls of a recovery

-- four calls clear the side that isn't in use, where it lacks the header of the newer format
abbrev pub clearing_calls : Format → ℕ
clearing_calls Older = 4
clearing_calls (Newer front) = if bytes_eq front header then 0 else 4

-- behind five that read the disk, and seven that put a checkpoint of the newer format on the other side, where the side in
-- use is of the older one
abbrev pub calls_before_clearing : Format → ℕ
calls_before_clearing Older = 12
calls_before_clearing (Newer front) = 5

abbrev pub recovery_calls : Format → ℕ
recovery_calls format = calls_before_clearing format + clearing_calls format

-- ---- a crash inside of it

-- the gate of the checkpoint is written by the eleventh call and synced by the twelfth
abbrev pub has_moved : Format → Strike → Bool
has_moved Older strike = gate_stands 11 strike.call strike.fault
has_moved (Newer front) strike = false

-- what stands at the front of the side that isn't in use: its header is written by this call and synced by the next one
abbrev pub front_left : ℕ → ℕ → Fault → List ℕ → List ℕ
front_left write call FailOnce front = if nat_lt write call then header else front
front_left write call (StopWith fill) front =
    if nat_le write call then overwritten front 0 (take 8 fill) else front

-- of the calls that clear it that is the third
abbrev pub format_left : Format → Strike → Format
format_left Older strike =
    if has_moved Older strike then Newer (front_left 15 strike.call strike.fault old_header) else Older
format_left (Newer front) strike = Newer (front_left 8 strike.call strike.fault front)

-- the disk that a crash leaves in a device call of a recovery: its content is as it was
unfoldable pub recovery_outcome : Disk → Strike → Disk
recovery_outcome disk strike = moved_to (has_moved disk.format strike) (format_left disk.format strike) disk

-- the strike reaches the recovery's calls
abbrev pub is_reached : Disk → Strike → Bool
is_reached disk strike = nat_le strike.call (recovery_calls disk.format)
