use Rattle.std.proofs.Common.{◌≡◌, ℕ, [], IfOk, sym, ap, subst, ◌∙◌}
use Rattle.cg_disk.specs.Model.{view_of}
use Rattle.cg_model.specs.World.{Node}
use Rattle.cg_model.specs.Step.{risen}
use Rattle.cg_world_events.specs.Nodes.{raised}
use Rattle.cg_world_events.specs.CrashedDisk.{IsCrashedDisk}
use Rattle.cg_world_events.specs.Seen.{down_seen}
use Rattle.cg_world_events.proofs.Arriving.{joined-rests, arrives}
use Rattle.cg_world_events.proofs.handing.arrive.Goals as goal

pub from_disk-requires : goal.from_disk-requires
from_disk-requires c =
    subst (λ (n : ℕ). IsCrashedDisk (view_of c.in_ok-disk.disk) n) (sym c.joiner-joiner.ensures)
    (joined-rests (view_of c.in_ok-disk.disk) c.args.snapshot c.in_ok-disk.ensures)

pub returns : goal.returns
returns c =
    let disk = c.in_ok-disk.disk in
    subst (λ (x : Node). IfOk c.from_disk.result (λ s. s ≡ x))
    (ap (λ (n : ℕ). (let down = down_seen view_of (record { disk = disk; id = n; count = 0; green = [] }) in (raised down (risen [] down.life)).0)) c.joiner-joiner.ensures
    ∙ arrives view_of disk c.args.snapshot c.in_ok-disk.ensures.stands) c.from_disk.ensures
