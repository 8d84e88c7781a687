-- What is seen of a replica in the image of its disk.
use Rattle.std.specs.Prelude.{ℕ, List, [], ◌∷◌, ◌++◌, Option, Some, None}
use Rattle.std.specs.List.{flat_map}
use Rattle.cg_client.specs.Replica.{Replica}
use Rattle.cg_disk_records.specs.Stored.{recovery_turn}
use Rattle.cg_group.specs.declared.phase.Phase.TheVariants.{Alone}
use Rattle.cg_model.specs.Show.{up_line}
use Rattle.cg_model.specs.Step.{shown_of}
use Rattle.cg_report.specs.EntryText.{ended_line, shown_line}
use Rattle.cg_report.specs.declared.entry.Entry.{Entry}
use Rattle.cg_report.specs.declared.line.Line.{Line}
use Rattle.cg_store.specs.Formats.{Standing, standing_on_disk}
use Rattle.cg_image.specs.Images.{Imaged, image_in}

-- what bytes are: no image, the image of a disk on which no replica stands, or that of a disk from which a replica comes up
pub data Inspected : Type 0 where
  NotAnImage : Inspected
  NotAStore : Inspected
  Holds : (r : Replica) → Inspected

-- the replica that comes up from what the disk stands for, as its own, whatever its format
abbrev pub of_disk : Option Standing → Inspected
of_disk None = NotAStore
of_disk (Some s) = Holds (recovery_turn s.on.content).replica

abbrev pub of_image : Option Imaged → Inspected
of_image None = NotAnImage
of_image (Some i) = of_disk (standing_on_disk i.id i.image)

abbrev pub inspected : List ℕ → Inspected
inspected bytes = of_image (image_in bytes)

-- the line that a recovery prints of it
abbrev pub line_of_recovered : Replica → Line
line_of_recovered r = record { id = r.held.id; up = Some (up_line Alone r) }

-- what is put of it: that line, its greens and its database
abbrev pub replica_text : Replica → List ℕ
replica_text r = ended_line (line_of_recovered r) ++ flat_map shown_line (shown_of r)

-- the same as an entry
abbrev pub entry_of_recovered : Replica → Entry
entry_of_recovered r = record {
  made = [];
  orders = [];
  lines = line_of_recovered r ∷ [];
  replies = [];
  shown = shown_of r;
}
