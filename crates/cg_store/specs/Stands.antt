-- The state that a disk stands for: a function of its bytes.
use Rattle.std.specs.Prelude.{◌≡◌, ℕ, suc, nat_lt, List, [], ◌∷◌, fold, Option, Some, None, option_and_then, if◌then◌else◌}
use Rattle.std.specs.Option.{option_map}
use Rattle.cg_action.specs.declared.action.Action.{Action}
use Rattle.cg_disk.specs.Sides.{Image, opposite}
use Rattle.cg_disk.specs.declared.disk.Side.{Side}
use Rattle.cg_disk.specs.declared.disk.Side.TheVariants.{A, B}
use Rattle.cg_journal.specs.Records.{Records, records}
use Rattle.cg_client.specs.Turn.{Turn}
use Rattle.cg_disk_records.specs.Stored.{Stored, stored_of, whiten}
use Rattle.cg_disk_records.specs.Change.{spelled_change, change_of}
use Rattle.cg_disk_records.specs.Checkpoint.{spelled_checkpoint, size_with, empty_size}
use Rattle.cg_disk_records.specs.Parts.{change_in, Saved, checkpoint_in}
use Rattle.cg_disk_records.specs.Following.{after_change}
use Rattle.cg_disk_records.specs.Crash.{Disk}
use Rattle.cg_disk_records.specs.Format.{all_newer}

-- the state that a record leads to, where it is a change that fits
abbrev pub led_by : Stored → List ℕ → Option Stored
led_by s body = option_and_then (after_change s) (change_in body)

-- the state that records lead to, one behind another, where each of them fits
abbrev pub led_by_all : Option Stored → List (List ℕ) → Option Stored
led_by_all s bodies = fold (λ now body. option_and_then (λ x. led_by x body) now) s bodies

-- the length of a side with these records
abbrev pub size_of : List (List ℕ) → ℕ
size_of bodies = fold size_with empty_size bodies

-- a side that begins with a checkpoint of the replica: its generation, its length, and the state that the changes behind
-- the checkpoint lead to, where all of them fit
pub record Live : Type 0 where
  pub generation : ℕ
  pub size : ℕ
  pub content : Option Stored

abbrev pub live_from : List (List ℕ) → List (List ℕ) → Saved → Live
live_from bodies changes first = record {
  generation = first.generation;
  size = size_of bodies;
  content = led_by_all (Some first.content) changes;
}

abbrev pub live_on : ℕ → List (List ℕ) → Option Live
live_on id [] = None
live_on id (body ∷ changes) = option_map (live_from (body ∷ changes) changes) (checkpoint_in id body)

-- what a disk stands for: the side in use, its generation and its length, and the state
pub record OnDisk : Type 0 where
  pub side : Side
  pub generation : ℕ
  pub size : ℕ
  pub content : Stored

abbrev pub standing_on : Side → Live → Option OnDisk
standing_on side l =
    option_map (λ s. record { side = side; generation = l.generation; size = l.size; content = s }) l.content

-- the side with the greater generation is in use, side A where the two are equal
abbrev pub chosen : Option Live → Option Live → Option OnDisk
chosen None None = None
chosen (Some a) None = standing_on A a
chosen None (Some b) = standing_on B b
chosen (Some a) (Some b) = if nat_lt a.generation b.generation then standing_on B b else standing_on A a

-- what records stand for, as those of a replica's disk
abbrev pub standing_in : ℕ → Records → Option OnDisk
standing_in id r = chosen (live_on id r.a) (live_on id r.b)

abbrev pub stands_for : ℕ → Option Records → Option OnDisk
stands_for id found = option_and_then (standing_in id) found

-- an image of a replica's disk stands for this; it stands for no other
abbrev pub Stands : ℕ → Image → OnDisk → Type 0
Stands id image u = stands_for id (records image) ≡ Some u

-- ---- what a record makes of it

-- a change, which leads to this state, behind the others
abbrev pub led : OnDisk → List ℕ → Stored → OnDisk
led u body s = record u { content = s; size = size_with u.size body }

-- the state in one checkpoint on the other side
abbrev pub moved : OnDisk → List ℕ → OnDisk
moved u body = record {
  side = opposite u.side;
  generation = suc u.generation;
  size = size_with empty_size body;
  content = u.content;
}

-- a checkpoint on a new disk
abbrev pub begun : List ℕ → Stored → OnDisk
begun body s = record { side = A; generation = 1; size = size_with empty_size body; content = s }

-- a commit, a checkpoint, and a new disk
abbrev pub committed : List Action → Turn → OnDisk → OnDisk
committed unwritten t u = led u (spelled_change (change_of unwritten t)) (stored_of (whiten t.replica.held))

abbrev pub checkpointed : OnDisk → OnDisk
checkpointed u = moved u (spelled_checkpoint (suc u.generation) u.content)

abbrev pub created : Stored → OnDisk
created s = begun (spelled_checkpoint 1 s) s

-- a disk with the newer header on both sides in the account of a replica's events, with the red marks that stand in no
-- record
abbrev pub disk_of : List Action → OnDisk → Disk
disk_of unwritten u = record {
  content = u.content;
  unwritten = unwritten;
  size = u.size;
  generation = u.generation;
  format = all_newer;
  armed = None;
}
