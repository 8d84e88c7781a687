use Rattle.std.proofs.Common.{drop, arith}
use Rattle.cg_plan.proofs.Places.{opened, filled-here, few-here, before-same_part, before-next_part, place-same_part, place-next_part}
use Rattle.cg_plan.proofs.place.place_after.Goals as goal

pub size-requires : goal.size-requires
size-requires c =
    let turns = c.args.turns.now in
    let turn = c.turn-item.result in
    let rest = c.parts_from.result.now in
    let here = opened turns rest c.args.current turn c.parts_from.ensures (omega arith) c.turn-item.is in
    filled-here turns (drop 1 rest) turn c.args.current c.args.made here c.requires.place

pub returns-then-made-size-clause-place : goal.returns-then-made-size-clause-place
returns-then-made-size-clause-place c =
    let turns = c.args.turns.now in
    let turn = c.turn-item.result in
    let rest = c.parts_from.result.now in
    let here = opened turns rest c.args.current turn c.parts_from.ensures (omega arith) c.turn-item.is in
    place-same_part turns (drop 1 rest) turn c.args.current c.args.made here c.requires.place (omega (arith, c.size.ensures))

pub returns-then-made-size-clause-one : goal.returns-then-made-size-clause-one
returns-then-made-size-clause-one c = before-same_part c.args.turns.now c.args.current c.args.made

pub returns-else-made-size-clause-place : goal.returns-else-made-size-clause-place
returns-else-made-size-clause-place c = place-next_part c.args.turns.now c.args.current c.args.made c.requires.place c.requires.more

pub returns-else-made-size-clause-one : goal.returns-else-made-size-clause-one
returns-else-made-size-clause-one c =
    let turns = c.args.turns.now in
    let turn = c.turn-item.result in
    let rest = c.parts_from.result.now in
    let here = opened turns rest c.args.current turn c.parts_from.ensures (omega arith) c.turn-item.is in
    let few = few-here turns (drop 1 rest) turn c.args.current c.args.made here c.requires.place in
    before-next_part turns (drop 1 rest) turn c.args.current c.args.made here (omega (arith, few, c.size.ensures))
