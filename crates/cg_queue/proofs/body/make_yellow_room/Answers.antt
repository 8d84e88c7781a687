use Rattle.cg_queue.specs.Lanes.{rows_of}
use Rattle.cg_queue.proofs.body.make_yellow_room.Goals as goal

pub returns-clause-same : goal.returns-clause-same
returns-clause-same c =
    let b = c.args.body.now in
    λ i. record {
      white = b.white;
      greens = b.greens.items;
      green_cut = b.green_cut;
      red_cut = b.red_cut;
      reds = c.make_room.ensures.same i;
      positions = rows_of b.positions;
      yellow = c.reserve.ensures.items i;
    }
