use Rattle.std.proofs.Common.{refl, sym, ap, ◌∙◌}
use Rattle.cg_disk.specs.Model.{view_of, state_of}
use Rattle.cg_disk.specs.State.{Fails}
use Rattle.cg_disk_records.specs.Crash.{FailOnce, Strike}
use Rattle.cg_model.specs.World.{Node}
use Rattle.cg_model.specs.Step.{armed}
use Rattle.cg_world_events.specs.Nodes.{changed}
use Rattle.cg_world_events.specs.Seen.{seen}
use Rattle.cg_world_events.proofs.Arming.{arms_seen}
use Rattle.cg_world_events.proofs.node.Node.fail_at.Goals as goal
use Rattle.cg_world_events.proofs.node.Node.fail_at.Goals.{in-Up, in-Down}

pub returns : goal.returns
returns c =
    let strike : Strike = record { call = c.args.call; fault = FailOnce } in
    let arm : Node → Node = λ s. changed s (armed strike s.life) in
    elim c.match-self.branch [
      | in-Up w ↦
          ap (λ s. seen s.life) w.self-inside-is
          ∙ arms_seen view_of w.in-Up.engine w.fail_at.new.self w.in-Up.fill w.in-Up.fill Fails c.args.call (state_of w.in-Up.engine.store.disk) refl w.fail_at.ensures.disk w.fail_at.ensures.rest
          ∙ ap arm (ap seen (sym w.in-Up.is) ∙ c.self.view_is)
      | in-Down w ↦ ap (λ s. seen s.life) w.self-inside-is ∙ ap seen w.in-Down.is ∙ ap arm (ap seen (sym w.in-Down.is) ∙ c.self.view_is)
    ]
