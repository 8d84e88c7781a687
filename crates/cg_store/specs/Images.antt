-- Which image is one of a disk.
use Rattle.std.specs.Prelude.{◌≡◌, ℕ, []}
use Rattle.cg_disk.specs.Sides.{Image}
use Rattle.cg_disk_records.specs.Crash.{Disk, at_rest}
use Rattle.cg_store.specs.Formats.{Standing, StandsFor, disk_in}

-- the image stands for what the disk of this replica holds, in its format, with the generation and the length of its side
-- in use
pub record IsImageOf (id : ℕ) (disk : Disk) (image : Image) : Type 0 where
  pub standing : Standing
  pub stands : StandsFor id image standing
  pub same : at_rest disk ≡ disk_in [] standing
