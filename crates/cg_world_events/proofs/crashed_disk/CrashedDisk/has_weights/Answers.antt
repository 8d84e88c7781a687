use Rattle.std.proofs.Common.{◌≡◌, Bool, IfOk, subst}
use Rattle.cg_disk.specs.declared.model_disk.ModelDisk.{ModelDisk}
use Rattle.cg_disk.specs.Model.{view_of}
use Rattle.cg_older.specs.Older.{has_weights}
use Rattle.cg_engine.specs.Engines.{Fallen}
use Rattle.cg_world_events.specs.Seen.{disk_left}
use Rattle.cg_world_events.proofs.Downgrading.{weighs_so}
use Rattle.cg_world_events.proofs.crashed_disk.CrashedDisk.has_weights.Goals as goal

pub returns : goal.returns
returns c =
    let w = c.self.inside.wreck in
    subst (λ (x : Fallen ModelDisk). IfOk c.is_weighted.result (λ b. b ≡ has_weights (disk_left view_of x).content)) c.self.view_is
    (subst (λ (x : Bool). IfOk c.is_weighted.result (λ b. b ≡ x)) (weighs_so view_of w c.self.invariant) c.is_weighted.ensures)
