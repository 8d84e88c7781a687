use Rattle.std.proofs.Common.{◌≡◌, ◌∙◌, ◌++◌, ◌∷◌, [], ap}
use Rattle.cg_base.specs.Cuts.{raise}
use Rattle.cg_queue.specs.declared.red.Red.{Red}
use Rattle.cg_queue.specs.Lanes.{rows_of, with_lane}
use Rattle.cg_queue.specs.Body.{lane_of}
use Rattle.cg_queue.proofs.body.add_red.Goals as goal

pub returns : goal.returns
returns c =
    let b = c.args.body.now in
    let red : Red = record { action = c.args.a; is_yellow = c.args.is_yellow } in
    let slot : c.lane_of.result ≡ lane_of c.args.a.id = c.lane_of.ensures.value ∙ ap lane_of c.name_of-id.ensures.value in
    let reds : rows_of c.push_reserved.new.self ≡ with_lane (rows_of b.reds) (lane_of c.args.a.id) (rows_of b.reds (lane_of c.args.a.id) ++ red ∷ []) =
    c.push_reserved.ensures ∙ ap (λ k. with_lane (rows_of b.reds) k (rows_of b.reds k ++ red ∷ [])) slot in
    let cut : c.raise.new.self ≡ raise b.red_cut c.args.a.id = c.raise.ensures ∙ ap (raise b.red_cut) c.name_of-id.ensures.value in
    λ i. record {
      white = b.white;
      greens = b.greens.items;
      green_cut = b.green_cut;
      red_cut = cut i;
      reds = reds i;
      positions = rows_of b.positions;
      yellow = b.yellow.items;
    }
