use Rattle.std.proofs.Common.{◌≡◌, ◌≤◌, drop, sym, ◌∙◌, true, false, eqb, arith}
use Rattle.std.proofs.lemmas.Bool.{eq-eqb, ne_eqb}
use Rattle.cg_plan.proofs.Places.{opened, ended, few-here, turn_of-place}
use Rattle.cg_plan.specs.PlanLaws.{turn_of-none, turn_of-begun, turn_of-under_way}
use Rattle.cg_plan.proofs.place.part_at.Goals as goal
use Rattle.cg_plan.proofs.place.part_at.Goals.{else-made-eq0-via-then-made-eq0+else-get, else-made-eq0-via-else-made-eq0}

pub returns-in-empty : goal.returns-in-empty
returns-in-empty c =
    let none = ended c.args.turns.now c.parts_from.result.now c.args.current c.parts_from.ensures (omega arith) in
    sym (turn_of-place c.args.turns.now c.args.me c.args.current c.args.made c.requires.filled ∙ rw none (turn_of-none c.args.me c.args.made))

pub returns-then-get : goal.returns-then-get
returns-then-get c =
    let turns = c.args.turns.now in
    let turn = c.turn-item.result in
    let rest = c.parts_from.result.now in
    let here = opened turns rest c.args.current turn c.parts_from.ensures (omega arith) c.turn-item.is in
    let zeroed : c.args.made ≡ 0 = omega arith in
    let mine : eqb turn.sender c.args.me ≡ true = eq-eqb turn.sender c.args.me (omega arith) in
    sym (turn_of-place turns c.args.me c.args.current c.args.made c.requires.filled ∙ rw (here, zeroed) (turn_of-begun turn (drop 1 rest) c.args.me ∙ rw mine))

pub returns-else-made-eq0 : goal.returns-else-made-eq0
returns-else-made-eq0 c =
    let turns = c.args.turns.now in
    let turn = c.turn-item.result in
    let rest = c.parts_from.result.now in
    let here = opened turns rest c.args.current turn c.parts_from.ensures (omega arith) c.turn-item.is in
    let at_place = turn_of-place turns c.args.me c.args.current c.args.made c.requires.filled in
    elim c.else-made-eq0.branch [
      | else-made-eq0-via-then-made-eq0+else-get w ↦
          let zeroed : c.args.made ≡ 0 = omega arith in
          let other : eqb turn.sender c.args.me ≡ false = ne_eqb turn.sender c.args.me (λ e. omega arith) in
          sym (at_place ∙ rw (here, zeroed) (turn_of-begun turn (drop 1 rest) c.args.me ∙ rw other))
      | else-made-eq0-via-else-made-eq0 w ↦
          let some : 1 ≤ c.args.made = omega arith in
          sym (at_place ∙ rw here (turn_of-under_way turn (drop 1 rest) c.args.me c.args.made some (few-here turns (drop 1 rest) turn c.args.current c.args.made here c.requires)))
    ]
