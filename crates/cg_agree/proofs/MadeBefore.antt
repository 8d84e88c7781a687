-- No action stands in the order before it was made.
use Rattle.std.proofs.Common.{List, Contains, sym, subst}
use Rattle.cg_base.specs.declared.action_id.ActionId.{ActionId}
use Rattle.cg_model.specs.World.{no_world}
use Rattle.cg_model.specs.Run.{Step, IsRunFrom, world_after}
use Rattle.cg_model.specs.Shown.{order_of, made_names}
use Rattle.cg_model.specs.Agreement.{through, CreatorOrder}
use Rattle.cg_model.specs.Chronicle.{no_chronicle}
use Rattle.cg_model.specs.Noting.{chronicle_after}
use Rattle.cg_model.specs.Played.{AlwaysHolds}
use Rattle.cg_agree.proofs.CreatorNumbered.{stands-of, creator-numbered}
use Rattle.cg_agree.proofs.OrderReached.{ordered-made}
use Rattle.cg_agree_lemmas.specs.OrderTold.{order_told}
use Rattle.cg_agree.proofs.RunPrefix.{comes}
use Rattle.cg_agree.proofs.TellsRun.{has-told}

made-before : AlwaysHolds → (steps : List Step) → IsRunFrom no_world steps → (id : ActionId) → Contains (order_of steps) id → Contains (made_names steps) id
made-before always steps run id there =
    let c = chronicle_after no_chronicle no_world steps in
    let w = world_after no_world steps in
    ordered-made steps c w (stands-of always steps run) (has-told always steps run).made id (subst (λ (order : List ActionId). Contains order id) (sym (order_told no_world steps run)) there)

pub creator-order : AlwaysHolds → (steps : List Step) → IsRunFrom no_world steps → CreatorOrder steps
creator-order always steps run = record {
  numbered = creator-numbered always steps run;
  made_before = λ earlier s id after there. made-before always (through earlier s) (comes always steps run earlier s after).upto id there;
}
