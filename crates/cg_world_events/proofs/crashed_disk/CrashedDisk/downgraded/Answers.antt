use Rattle.std.proofs.Common.{ap, sym, subst, ◌∙◌}
use Rattle.cg_disk.specs.declared.model_disk.ModelDisk.{ModelDisk}
use Rattle.cg_disk.specs.Model.{view_of}
use Rattle.cg_engine.specs.Engines.{Fallen}
use Rattle.cg_engine.specs.Standing.{IsLight, IsDowngraded}
use Rattle.cg_world_events.specs.Seen.{disk_left, green_left}
use Rattle.cg_world_events.proofs.Downgrading.{light_so, rests_old, old_left, green_kept}
use Rattle.cg_world_events.proofs.crashed_disk.CrashedDisk.downgraded.Goals as goal

pub downgraded-requires : goal.downgraded-requires
downgraded-requires c =
    subst (λ (x : Fallen ModelDisk). IsLight x.id (view_of x.disk).reads) (sym c.into_wreck.ensures.wreck)
    (light_so view_of c.args.self c.into_wreck.ensures.rests c.requires)

pub new-requires : goal.new-requires
new-requires c =
    let w = c.in_ok-wreck.wreck in
    rests_old view_of c.args.self c.into_wreck.ensures.rests w (subst (λ (x : Fallen ModelDisk). IsDowngraded view_of x w) c.into_wreck.ensures.wreck c.in_ok-wreck.ensures)

pub returns : goal.returns
returns c =
    let old = c.args.self in
    let w = c.in_ok-wreck.wreck in
    let is = subst (λ (x : Fallen ModelDisk). IsDowngraded view_of x w) c.into_wreck.ensures.wreck c.in_ok-wreck.ensures in
    let rests = c.into_wreck.ensures.rests in
    let new = c.new.ensures in (
      ap (λ (x : Fallen ModelDisk). x.id) new ∙ is.still.id_is,
      ap (disk_left view_of) new ∙ old_left view_of old rests w is,
      ap (green_left view_of) new ∙ green_kept view_of old rests w is,
    )
