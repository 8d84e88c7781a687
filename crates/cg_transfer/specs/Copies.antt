-- A snapshot under way: the copy that its giver made, and the joiner that takes the pieces.
use Rattle.std.specs.Prelude.{◌≡◌, ℕ}
use Rattle.cg_client.specs.Replica.{Held}
use Rattle.cg_db.specs.Ascending.{Ascends}
use Rattle.cg_disk.specs.Crashes.{IsNew}
use Rattle.cg_disk.specs.View.{DiskView}
use Rattle.cg_join.specs.Finishing.{Joining}
use Rattle.cg_join.specs.Handing.{IsTaking}
use Rattle.cg_join.specs.Snapshot.{Snapshot, parts_of}
use Rattle.cg_disk_records.specs.Agreeing.{Agrees}
use Rattle.cg_client.specs.Joined.{joiner_content}

-- the copy is of this, and a replica may hold what it makes of the joiner, whose disk is new
pub record IsCopy {D : Type 0} (d : DiskView) (s : Snapshot) (j : Joining D) (id : ℕ) (h : Held) : Type 0 where
  pub taking : IsTaking s j
  pub all : s.parts ≡ parts_of h
  pub id_is : j.id ≡ id
  pub new : IsNew d
  pub ascends : Ascends h.db
  pub agrees : Agrees (joiner_content id h)
