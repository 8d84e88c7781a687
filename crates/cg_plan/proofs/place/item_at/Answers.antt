use Rattle.std.proofs.Common.{drop, sym, ◌∙◌, ap, Some, arith}
use Rattle.cg_plan.specs.Items.{sent_by}
use Rattle.cg_plan.proofs.Places.{opened, ended, filled-here, few-here, item-none, item-some}
use Rattle.cg_plan.proofs.place.item_at.Goals as goal

pub returns-in-empty : goal.returns-in-empty
returns-in-empty c =
    sym (item-none c.args.turns.now c.args.current c.args.made (ended c.args.turns.now c.parts_from.result.now c.args.current c.parts_from.ensures (omega arith)))

pub item-requires-clause-filled : goal.item-requires-clause-filled
item-requires-clause-filled c =
    let turns = c.args.turns.now in
    let turn = c.turn-item.result in
    let rest = c.parts_from.result.now in
    let here = opened turns rest c.args.current turn c.parts_from.ensures (omega arith) c.turn-item.is in
    filled-here turns (drop 1 rest) turn c.args.current c.args.made here c.requires

pub item-requires-clause-few : goal.item-requires-clause-few
item-requires-clause-few c =
    let turns = c.args.turns.now in
    let turn = c.turn-item.result in
    let rest = c.parts_from.result.now in
    let here = opened turns rest c.args.current turn c.parts_from.ensures (omega arith) c.turn-item.is in
    few-here turns (drop 1 rest) turn c.args.current c.args.made here c.requires

pub returns-in-len1-up : goal.returns-in-len1-up
returns-in-len1-up c =
    let turns = c.args.turns.now in
    let turn = c.turn-item.result in
    let rest = c.parts_from.result.now in
    let here = opened turns rest c.args.current turn c.parts_from.ensures (omega arith) c.turn-item.is in
    ap (λ i. Some (sent_by turn.sender i)) c.item.ensures
    ∙ sym (item-some turns (drop 1 rest) turn c.args.current c.args.made here
    (filled-here turns (drop 1 rest) turn c.args.current c.args.made here c.requires) (few-here turns (drop 1 rest) turn c.args.current c.args.made here c.requires))
