-- The state that a disk of either format stands for: a function of its bytes. A disk with the newer header on both
-- sides stands for the same as in `Stands`.
use Rattle.std.specs.Prelude.{◌≡◌, ℕ, ◌==◌, List, [], ◌∷◌, fold, Option, Some, None, option_and_then, if◌then◌else◌}
use Rattle.std.specs.Option.{option_map}
use Rattle.cg_action.specs.declared.action.Action.{Action}
use Rattle.cg_disk.specs.Sides.{Image, opposite}
use Rattle.cg_journal.specs.Found.{Sides, sides, found_at, front_on}
use Rattle.cg_journal.specs.declared.open.SideRecords.{SideRecords}
use Rattle.cg_disk_records.specs.declared.change.Change.{Change}
use Rattle.cg_disk_records.specs.Stored.{Stored}
use Rattle.cg_disk_records.specs.Parts.{change_in, Saved, checkpoint_in}
use Rattle.cg_disk_records.specs.Following.{after_change}
use Rattle.cg_disk_records.specs.Crash.{Disk}
use Rattle.cg_older.specs.Bytes.{spelled_old_checkpoint}
use Rattle.cg_older.specs.Older.{old_change_in, old_checkpoint_in}
use Rattle.cg_disk_records.specs.Format.{Format, Older, Newer, all_newer}
use Rattle.cg_store.specs.Stands.{Live, size_of, OnDisk, chosen, checkpointed, begun, disk_of}

-- the records of a version
abbrev pub change_as : ℕ → List ℕ → Option Change
change_as version body = if version == 1 then old_change_in body else change_in body

abbrev pub checkpoint_as : ℕ → ℕ → List ℕ → Option Saved
checkpoint_as version id body = if version == 1 then old_checkpoint_in id body else checkpoint_in id body

-- the state that records lead to, one behind another, where each of them is a change of the version that fits
abbrev pub led_as : ℕ → Stored → List ℕ → Option Stored
led_as version s body = option_and_then (after_change s) (change_as version body)

abbrev pub led_by_all_as : ℕ → Option Stored → List (List ℕ) → Option Stored
led_by_all_as version s bodies = fold (λ now body. option_and_then (λ x. led_as version x body) now) s bodies

-- a side that begins with a checkpoint of its version
abbrev pub live_behind : ℕ → List (List ℕ) → List (List ℕ) → Saved → Live
live_behind version bodies changes first = record {
  generation = first.generation;
  size = size_of bodies;
  content = led_by_all_as version (Some first.content) changes;
}

abbrev pub live_with : ℕ → ℕ → List (List ℕ) → Option Live
live_with id version [] = None
live_with id version (body ∷ changes) =
    option_map (live_behind version (body ∷ changes) changes) (checkpoint_as version id body)

abbrev pub live_as : ℕ → SideRecords → Option Live
live_as id r = live_with id r.version r.bodies

-- what a disk stands for, and its format
pub record Standing : Type 0 where
  pub on : OnDisk
  pub format : Format

-- the format of a disk whose side in use has this version, and whose other side has these bytes at its front
abbrev pub format_of : ℕ → List ℕ → Format
format_of version front = if version == 1 then Older else Newer front

abbrev pub with_format : Image → Sides → OnDisk → Standing
with_format image s u =
    record { on = u; format = format_of (found_at u.side s).version (front_on (opposite u.side) image) }

-- of two live sides the one with the greater generation is in use, side A where the two are equal
abbrev pub chosen_in : ℕ → Sides → Option OnDisk
chosen_in id s = chosen (live_as id s.a) (live_as id s.b)

abbrev pub standing_of : ℕ → Image → Sides → Option Standing
standing_of id image s = option_map (with_format image s) (chosen_in id s)

unfoldable pub standing_on_disk : ℕ → Image → Option Standing
standing_on_disk id image = option_and_then (standing_of id image) (sides image)

-- an image of a replica's disk stands for this; it stands for no other
abbrev pub StandsFor : ℕ → Image → Standing → Type 0
StandsFor id image s = standing_on_disk id image ≡ Some s

-- it stands for this state, whatever its format
pub record StandsForState (id : ℕ) (content : Stored) (image : Image) : Type 0 where
  pub standing : Standing
  pub stands : StandsFor id image standing
  pub content_is : standing.on.content ≡ content

-- ---- what a disk of the older format comes to

-- a disk with the newer header on both sides
abbrev pub newer : OnDisk → Standing
newer u = record { on = u; format = all_newer }

-- a new disk of the older format
abbrev pub created_old : Stored → Standing
created_old s = record { on = begun (spelled_old_checkpoint 1 s) s; format = Older }

-- behind an opening both sides have the newer header
abbrev pub opened_as : Format → OnDisk → OnDisk
opened_as Older u = checkpointed u
opened_as (Newer front) u = u

abbrev pub opened : Standing → OnDisk
opened s = opened_as s.format s.on

-- a disk in the account of a replica's events, with the red marks that stand in no record
abbrev pub disk_in : List Action → Standing → Disk
disk_in unwritten s = let d = disk_of unwritten s.on in record d { format = s.format }
