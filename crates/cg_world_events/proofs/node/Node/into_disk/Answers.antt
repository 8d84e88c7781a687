use Rattle.std.proofs.Common.{sym, ap, subst, ◌∙◌}
use Rattle.cg_disk.specs.declared.model_disk.ModelDisk.{ModelDisk}
use Rattle.cg_disk.specs.Model.{view_of}
use Rattle.cg_engine.specs.Engines.{Fallen}
use Rattle.cg_model.specs.World.{node_disk}
use Rattle.cg_world_events.specs.DiskOut.{HoldsDisk}
use Rattle.cg_world_events.proofs.HandedOut.{handed_out}
use Rattle.cg_world_events.proofs.node.Node.into_disk.Goals as goal

pub returns : goal.returns
returns c =
    let s = c.args.self in
    subst (λ (d : ModelDisk). HoldsDisk s.id (node_disk s.life) (view_of d))
    (sym (c.into_disk.ensures ∙ ap (λ (w : Fallen ModelDisk). w.disk) c.into_wreck.ensures.wreck))
    (handed_out view_of c.in-Down.resting c.into_wreck.ensures.rests s.id s.life (sym c.in_ok-fallen.ensures ∙ c.in-Down.ensures))
