-- A joiner's disk, and the replica that comes up from it.
use Rattle.std.proofs.Common.{◌≡◌, ℕ, [], refl, ap, ◌∙◌, arith}
use Rattle.cg_disk.specs.View.{DiskView}
use Rattle.cg_client.specs.Replica.{Held}
use Rattle.cg_client.specs.Summary.{own_to_red}
use Rattle.cg_disk_records.specs.Stored.{recovery_turn}
use Rattle.cg_disk_records.specs.Crash.{new_disk, recovered, disk_recovered}
use Rattle.cg_store.specs.Formats.{newer}
use Rattle.cg_store.specs.NewerLaws.{stands_newer}
use Rattle.cg_store.specs.Stands.{Stands, created}
use Rattle.cg_engine.specs.Engines.{Fallen}
use Rattle.cg_model.specs.Step.{joiner_replica, risen}
use Rattle.cg_model.specs.World.{Up, TransferState}
use Rattle.cg_world_events.specs.Nodes.{node, new_node, raised}
use Rattle.cg_world_events.specs.CrashedDisk.{IsCrashedDisk}
use Rattle.cg_world_events.specs.Seen.{disk_left, down_seen}
use Rattle.cg_world_events.specs.SeenLaws.{disk-left}
use Rattle.cg_transfer.specs.Calls.{IsOfJoined}

pub joined-rests : (d : DiskView) (s : TransferState) → IsOfJoined d s → IsCrashedDisk d s.joiner
joined-rests d s is =
    let made : d.time ≡ 7 = is.time in
    record {
      standing = newer (created (joiner_replica s.joiner s.content).held);
      stands = stands_newer s.joiner d.reads (created (joiner_replica s.joiner s.content).held) is.stands;
      rest = is.rest;
      unarmed = is.unarmed;
      room = omega (arith, made);
    }

-- a joiner has no own actions that would become red as it comes up
joined-recovers : (id : ℕ) (h : Held) → recovered (new_disk (joiner_replica id h).held) ≡ joiner_replica id h
unfolding recovery_turn own_to_red
joined-recovers id h = refl

joined-keeps : (id : ℕ) (h : Held) → disk_recovered (new_disk (joiner_replica id h).held) ≡ new_disk (joiner_replica id h).held
unfolding recovery_turn own_to_red
joined-keeps id h = refl

-- so the replica that comes up from it is the one that joined, with a new disk
pub arrives : {D : Type 0} (view : D → DiskView) (disk : D) (s : TransferState) → Stands s.joiner (view disk).reads (created (joiner_replica s.joiner s.content).held) →
    (let down = down_seen view (record { disk = disk; id = s.joiner; count = 0; green = [] }) in (raised down (risen [] down.life)).0) ≡ new_node s.joiner (joiner_replica s.joiner s.content)
arrives view disk s stands =
    let w : Fallen _ = record { disk = disk; id = s.joiner; count = 0; green = [] } in
    let h = (joiner_replica s.joiner s.content).held in
    let left : disk_left view w ≡ new_disk h =
    disk-left view w (newer (created h)) (stands_newer s.joiner (view disk).reads (created h) stands) in
    ap (λ d. node s.joiner (Up (recovered d) (disk_recovered d))) left
    ∙ (λ i. node s.joiner (Up (joined-recovers s.joiner s.content i) (joined-keeps s.joiner s.content i)))
