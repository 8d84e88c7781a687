use Rattle.std.proofs.Common.{◌≡◌, ◌∙◌, ◌++◌, ◌∷◌, [], true, ap}
use Rattle.cg_queue.specs.Lanes.{rows_of}
use Rattle.cg_queue.specs.Body.{added_red}
use Rattle.cg_queue.proofs.body.add_yellow.Goals as goal

pub returns : goal.returns
returns c =
    let b = c.args.body.now in
    let yellow : c.push_reserved.new.self.items ≡ b.yellow.items ++ c.args.a.id ∷ [] = c.push_reserved.ensures.items ∙ ap (λ id. b.yellow.items ++ id ∷ []) c.name_of.ensures.value in
    c.add_red.ensures
    ∙ (λ i. added_red (record { white = b.white; greens = b.greens.items; green_cut = b.green_cut; red_cut = b.red_cut; reds = rows_of b.reds; positions = rows_of b.positions; yellow = yellow i }) c.args.a true)
