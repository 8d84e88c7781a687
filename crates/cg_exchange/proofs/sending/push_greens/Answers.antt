use Rattle.std.proofs.Common.{rules, ◌++◌, ◌+◌, ◌<◌}
use Rattle.std.specs.Prelude.{List, map, flat_map}
use Rattle.std.specs.Option.{option_to_list}
use Rattle.cg_base.specs.Lists.{above_up_to}
use Rattle.cg_plan.specs.declared.parts.Item.{Item}
use Rattle.cg_plan.specs.declared.parts.Item.TheVariants.{Green}
use Rattle.cg_wire.specs.declared.message.Msg.{Msg}
use Rattle.cg_states.specs.ExchangeActions.{message_of}
use Rattle.cg_exchange.proofs.ItemSteps.{items-step, rest-step}
use Rattle.cg_exchange.proofs.sending.push_greens.Goals as goal

pub loop-i-preserved : goal.loop-i-preserved
loop-i-preserved c =
    let f : Item → List Msg = λ item. option_to_list (message_of c.args.core.now.queue item) in
    let within : c.args.low + c.loop-i.i < c.args.to = search rules in (
      items-step (λ at. Green at) f c.loop-i.draft.sent (c.args.draft.now.sent ++ flat_map f (map (λ at. Green at) (above_up_to c.args.low c.args.to))) c.push_green.new.draft.sent c.args.low c.loop-i.i c.args.to
          within c.loop-i.invariant.0 c.in_ok-push_green.ensures.sent,
      rest-step c.args.draft.now c.loop-i.draft c.push_green.new.draft c.loop-i.invariant.1 c.in_ok-push_green.ensures.rest,
    )
