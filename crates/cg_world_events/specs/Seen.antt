-- What a replica with its disk is in the definitions of the world.
use Rattle.std.specs.Prelude.{ℕ, List, [], unwrap_or}
use Rattle.cg_base.specs.declared.action_id.ActionId.{ActionId}
use Rattle.cg_disk.specs.Crashes.{clean_disk}
use Rattle.cg_disk.specs.Model.{view_of}
use Rattle.cg_disk.specs.Sides.{Image}
use Rattle.cg_disk.specs.State.{DiskState, left_by}
use Rattle.cg_disk.specs.View.{DiskView}
use Rattle.cg_journal.specs.Records.{records}
use Rattle.cg_queue.specs.Queue.{green_count}
use Rattle.cg_client.specs.Replica.{Held, fresh_held}
use Rattle.cg_disk_records.specs.Crash.{Disk}
use Rattle.cg_store.specs.Stands.{OnDisk, stands_for, created}
use Rattle.cg_store.specs.Formats.{Standing, StandsFor, standing_on_disk, newer, disk_in}
use Rattle.cg_store.specs.declared.outputs.Outputs.{Outputs}
use Rattle.cg_engine.specs.Engines.{Up as UpEngine, Fallen, told}
use Rattle.cg_engine.specs.Defined.{account}
use Rattle.cg_model.specs.World.{Up, Down, Node}
use Rattle.cg_world_events.specs.Nodes.{NodeOutput, node}
use Rattle.cg_world_events.specs.declared.node_state.NodeState.{NodeState}
use Rattle.cg_world_events.specs.declared.node_state.NodeState.TheVariants.{Up as UpHeld, Down as DownHeld}

-- what the bytes of a replica's disk stand for, or any state where they stand for none; of one that is down they may be of
-- the older format
abbrev pub standing_at : ℕ → Image → OnDisk
standing_at id image = unwrap_or (stands_for id (records image)) (created (fresh_held 1 []))

abbrev pub resting_at : ℕ → Image → Standing
resting_at id image = unwrap_or (standing_on_disk id image) (newer (created (fresh_held 1 [])))

-- the state that a disk tells, or any where it tells none
abbrev pub state_at : DiskView → DiskState
state_at d = unwrap_or d.state (clean_disk d.reads)

-- the disk of a replica that is up, where a crash in the armed call leaves these bytes
unfoldable pub disk_seen : {D : Type 0} → (D → DiskView) → UpEngine D → List ℕ → Disk
disk_seen view e fill = let d = view e.store.disk in
    account e.store.unwritten (standing_at e.store.id d.reads) d.time fill (state_at d)

-- the disk of a replica that is down, and the names that it tells when it comes up
unfoldable pub disk_left : {D : Type 0} → (D → DiskView) → Fallen D → Disk
disk_left view w = disk_in [] (resting_at w.id (view w.disk).reads)

unfoldable pub green_left : {D : Type 0} → (D → DiskView) → Fallen D → List ActionId
green_left view w = told w (resting_at w.id (view w.disk).reads).on.content

abbrev pub up_seen : {D : Type 0} → (D → DiskView) → UpEngine D → List ℕ → Node
up_seen view e fill = node e.store.id (Up e.replica (disk_seen view e fill))

abbrev pub down_seen : {D : Type 0} → (D → DiskView) → Fallen D → Node
down_seen view w = node w.id (Down (disk_left view w) (green_left view w))

abbrev pub seen : NodeState → Node
seen (UpHeld e fill) = up_seen view_of e fill
seen (DownHeld w) = down_seen view_of w

-- ---- a crash

-- a crash with this fill leaves a disk that stands for this
abbrev pub FallsTo : {D : Type 0} → (D → DiskView) → Fallen D → List ℕ → Standing → Type 0
FallsTo view w fill s = StandsFor w.id (left_by (state_at (view w.disk)) fill) s

abbrev pub fallen : {D : Type 0} → Fallen D → Standing → Node
fallen w s = node w.id (Down (disk_in [] s) (told w s.on.content))

-- ---- what it says

-- behind an event that gives this out, at a replica that holds this
abbrev pub said : Outputs → Held → NodeOutput
said outputs h = (
  record { made = outputs.made; green = outputs.green; count = green_count h.queue; replies = outputs.replies },
  outputs.sent,
)
