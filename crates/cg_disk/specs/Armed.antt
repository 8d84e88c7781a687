-- The strike that is armed on a disk in memory.
use Rattle.std.specs.Prelude.{ℕ, suc, ◌+◌, Option, Some, None}
use Rattle.cg_disk.specs.State.{DiskStrike, Fails, Stops}
use Rattle.cg_disk.specs.declared.armed.Armed.{Armed}
use Rattle.cg_disk.specs.declared.armed.Armed.TheVariants.{Nothing, Failure, Stop}

-- after this many calls so far, and as many others as are told
abbrev pub strike_of : ℕ → Armed → Option DiskStrike
strike_of calls Nothing = None
strike_of calls (Failure others) = Some (record { call = suc (calls + others); blow = Fails })
strike_of calls (Stop others) = Some (record { call = suc (calls + others); blow = Stops })
