use Rattle.std.proofs.Common.{◌≡◌, ◌++◌, ◌+◌}
use Rattle.std.specs.Prelude.{flat_map, map}
use Rattle.std.specs.Option.{option_to_list}
use Rattle.cg_base.specs.Lists.{above_up_to}
use Rattle.cg_plan.specs.declared.parts.Item.TheVariants.{Green}
use Rattle.cg_states.specs.ExchangeActions.{message_of}
use Rattle.cg_exchange.proofs.sending.push_greens.Given as goal

-- what is sent, and what is still to be sent; the rest of the draft is as before
abbrev pub invariant-loop-i : goal.invariant-loop-i
invariant-loop-i l =
    (l.draft.sent ++ flat_map (λ item. option_to_list (message_of l.core.queue item)) (map Green (above_up_to (l.low + l.i) l.to))
    ≡ l.fn.draft.sent ++ flat_map (λ item. option_to_list (message_of l.core.queue item)) (map Green (above_up_to l.low l.to)))
    × (l.draft ≡ record l.fn.draft { sent = l.draft.sent })
