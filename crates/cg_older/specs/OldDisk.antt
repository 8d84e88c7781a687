-- A disk of the older format in the account of a replica's events.
use Rattle.std.specs.Prelude.{[], None}
use Rattle.cg_disk_records.specs.Checkpoint.{size_with, empty_size}
use Rattle.cg_disk_records.specs.Crash.{Disk}
use Rattle.cg_disk_records.specs.Format.{Older}
use Rattle.cg_disk_records.specs.Stored.{Stored}
use Rattle.cg_older.specs.Bytes.{spelled_old_checkpoint}

-- a new one, which has this content in one checkpoint
abbrev pub old_disk : Stored → Disk
old_disk s = record {
  content = s;
  unwritten = [];
  size = size_with empty_size (spelled_old_checkpoint 1 s);
  generation = 1;
  format = Older;
  armed = None;
}
