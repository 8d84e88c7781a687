use Rattle.std.proofs.Common.{refl, sym, ap, ◌∙◌}
use Rattle.cg_disk.specs.Model.{view_of, state_of}
use Rattle.cg_disk.specs.State.{Stops}
use Rattle.cg_disk_records.specs.Crash.{StopWith, Strike}
use Rattle.cg_model.specs.World.{Node}
use Rattle.cg_model.specs.Step.{armed}
use Rattle.cg_world_events.specs.Nodes.{changed}
use Rattle.cg_world_events.specs.Seen.{seen}
use Rattle.cg_world_events.proofs.Arming.{arms_seen}
use Rattle.cg_world_events.proofs.node.Node.stop_at.Goals as goal
use Rattle.cg_world_events.proofs.node.Node.stop_at.Goals.{in-Up, in-Down}

pub returns : goal.returns
returns c =
    let strike : Strike = record { call = c.args.call; fault = StopWith c.args.fill } in
    let arm : Node → Node = λ s. changed s (armed strike s.life) in
    elim c.match-self.branch [
      | in-Up w ↦
          ap (λ s. seen s.life) w.self-inside-is
          ∙ arms_seen view_of w.in-Up.engine w.stop_at.new.self w.in-Up.before c.args.fill Stops c.args.call (state_of w.in-Up.engine.store.disk) refl w.stop_at.ensures.disk w.stop_at.ensures.rest
          ∙ ap arm (ap seen (sym w.in-Up.is) ∙ c.self.view_is)
      | in-Down w ↦ ap (λ s. seen s.life) w.self-inside-is ∙ ap seen w.in-Down.is ∙ ap arm (ap seen (sym w.in-Down.is) ∙ c.self.view_is)
    ]
