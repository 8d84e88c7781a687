use Rattle.std.proofs.Common.{◌∙◌, ◌++◌, ◌∷◌, [], sym, ap}
use Rattle.std.specs.VecDeque.{deque_items}
use Rattle.cg_queue.proofs.RowLemmas.{lane_at-get, lanes-set}
use Rattle.cg_queue.proofs.lanes.Lanes.push_reserved.Goals as goal

pub push_back_reserved-requires : goal.push_back_reserved-requires
push_back_reserved-requires g c = c.requires.1 c.index_mut.result.now c.index_mut.ensures.value

pub returns : goal.returns
returns g c =
    let rows = c.args.self.now.rows in
    let slot = c.args.slot in
    let there = ap deque_items c.index_mut.ensures.value ∙ sym (lane_at-get deque_items rows.items slot c.index_mut.result.now c.requires.0) in
    lanes-set deque_items rows.items slot c.push_back_reserved.new.self _ c.requires.0 (c.push_back_reserved.ensures.items ∙ ap (λ xs. xs ++ c.args.item ∷ []) there)
