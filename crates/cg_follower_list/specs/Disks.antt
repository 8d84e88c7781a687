-- The disks of followers, while these are up and while they are down.
use Rattle.std.specs.Prelude.{◌≡◌, ℕ, ◌-◌, List, [], Option, None, IfSome, option_map, option_and_then, unwrap_or}
use Rattle.cg_disk_records.specs.Crash.{Fault, FailOnce, StopWith, Strike}
use Rattle.cg_disk.specs.Sides.{Image}
use Rattle.cg_disk.specs.State.{Blow, Fails, Stops, DiskStrike}
use Rattle.cg_disk.specs.View.{DiskView}
use Rattle.cg_journal.specs.Records.{records}
use Rattle.cg_journal.specs.Strikes.{strike_of}
use Rattle.cg_follow.specs.Followed.{Followed}
use Rattle.cg_follow.specs.Stands.{Stands, stands_for}

-- a follower that is up, and the strike that is armed on its disk
pub record Running : Type 0 where
  pub now : Followed
  pub armed : Option Strike

-- how a call is struck, with the bytes that a crash leaves
abbrev pub fault_with : List ℕ → Blow → Fault
fault_with fill Fails = FailOnce
fault_with fill Stops = StopWith fill

-- the strike of a disk, as it counts from now
abbrev pub strike_from : ℕ → List ℕ → DiskStrike → Strike
strike_from now fill s = record { call = s.call - now; fault = fault_with fill s.blow }

-- the strike that is armed on a disk, where a crash leaves these bytes
abbrev pub armed_on : DiskView → List ℕ → Option Strike
armed_on d fill = option_and_then (option_map (strike_from d.time fill)) (strike_of d)

-- what an image stands for, or any follower where it stands for none
abbrev pub standing : Image → Followed
standing image = unwrap_or (stands_for (records image)) (record { cursor = 0; db = [] })

-- the disk stands for a follower, and nothing is armed
pub record IsFallen (d : DiskView) : Type 0 where
  pub left : Followed
  pub stands : Stands d.reads left
  pub unarmed : IfSome d.state (λ s. s.strike ≡ None)
