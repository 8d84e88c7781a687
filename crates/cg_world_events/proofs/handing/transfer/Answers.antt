use Rattle.std.proofs.Common.{◌≡◌, false, ap, sym, subst, ◌∙◌}
use Rattle.cg_group.specs.State.{is_up}
use Rattle.cg_model.specs.World.{World}
use Rattle.cg_model.specs.Show.{StepInProgress}
use Rattle.cg_world_events.specs.Grounds.{IsHosted}
use Rattle.cg_world_events.proofs.FirstReasons.{admitted}
use Rattle.cg_world_events.proofs.TransferFacts.{joiner-down}
use Rattle.cg_world_events.proofs.handing.transfer.Goals as goal

pub hand_pieces-requires-clause-down : goal.hand_pieces-requires-clause-down
hand_pieces-requires-clause-down c =
    let same = c.deref.ensures ∙ ap (λ (g : StepInProgress). g.world) c.going.view_is in
    subst (λ (w : World). is_up w.group c.args.joiner ≡ false) same
    (joiner-down c.deref.result.now c.args.p c.args.joiner (subst IsHosted (sym same) c.requires.hosted)
    (sym c.transfer_refused.ensures ∙ admitted c.transfer_refused.result _ c.in_ok-admit.ensures))
