use Rattle.std.proofs.Common.{◌≡◌, ◌∙◌, ◌+◌, ◌∷◌, suc, drop, sym, ap, arith}
use Rattle.cg_queue.specs.Lanes.{rows_of, with_lane}
use Rattle.cg_queue.specs.Body.{lane_of, parts_of, dropped_from}
use Rattle.cg_queue.proofs.body.drop_green.Goals as goal

pub returns-clause-value : goal.returns-clause-value
returns-clause-value c =
    let b = c.args.body.now in
    let lanes = rows_of b.positions in
    let rest = c.pop_front.new.self.items in
    let whole : b.greens.items ≡ c.in-Some.action ∷ rest = c.in-Some.ensures.items in
    let slot : c.lane_of.result ≡ lane_of c.in-Some.action.id = c.lane_of.ensures.value ∙ ap lane_of c.name_of.ensures.value in
    let positions : rows_of c.drop_first.new.self ≡ with_lane lanes (lane_of c.in-Some.action.id) (drop 1 (lanes (lane_of c.in-Some.action.id))) =
    c.drop_first.ensures ∙ ap (λ k. with_lane lanes k (drop 1 (lanes k))) slot in
    let white : b.white + 1 ≡ suc b.white = omega arith in
    let step : record { white = b.white + 1; greens = rest; green_cut = b.green_cut; red_cut = b.red_cut; reds = rows_of b.reds; positions = rows_of c.drop_first.new.self; yellow = b.yellow.items } ≡ dropped_from (parts_of b) (c.in-Some.action ∷ rest) =
    λ i. record { white = white i; greens = rest; green_cut = b.green_cut; red_cut = b.red_cut; reds = rows_of b.reds; positions = positions i; yellow = b.yellow.items } in
    step ∙ ap (dropped_from (parts_of b)) (sym whole)

pub returns-clause-creator : goal.returns-clause-creator
returns-clause-creator c = rw c.in-Some.ensures.items c.name_of.ensures.creator
