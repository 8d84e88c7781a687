use Rattle.std.proofs.Common.{rules, ◌≡◌, ◌==◌, false, length, ap, ◌∙◌}
use Rattle.cg_gen.specs.Generated.{placed, with_cell}
use Rattle.cg_gen.proofs.cells.put_in_room.Goals as goal

pub returns-clause-items : goal.returns-clause-items
unfolding with_cell
returns-clause-items c =
    let some : (length c.args.set == 0) ≡ false = search rules in
    rw some (c.insert_in_room.ensures.items ∙ ap (λ cells. placed cells c.args.set) c.keep_apart.ensures.items)
