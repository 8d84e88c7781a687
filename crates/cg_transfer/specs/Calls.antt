-- How a snapshot under way begins, and what it makes of its joiner's disk.
use Rattle.std.specs.Prelude.{◌≡◌, ℕ, None, IfSome}
use Rattle.cg_disk.specs.View.{DiskView, IsAtRest}
use Rattle.cg_client.specs.Joined.{joiner_content}
use Rattle.cg_client.specs.Replica.{Held}
use Rattle.cg_store.specs.Stands.{Stands, created}
use Rattle.cg_model.specs.World.{TransferState}

-- a copy for a joiner of what its giver holds; no piece was taken
abbrev pub copy_of : ℕ → ℕ → Held → TransferState
copy_of joiner giver h = record { joiner = joiner; giver = giver; content = h; taken = 0 }

-- the disk is the joiner's: it stands for what a joiner holds, nothing on it is unsynced, nothing is armed, and it has
-- made the calls in which a disk begins
pub record IsOfJoined (d : DiskView) (s : TransferState) : Type 0 where
  pub stands : Stands s.joiner d.reads (created (joiner_content s.joiner s.content))
  pub rest : IsAtRest d
  pub unarmed : IfSome d.state (λ s. s.strike ≡ None)
  pub time : d.time ≡ 7
