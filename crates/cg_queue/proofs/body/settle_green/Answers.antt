use Rattle.cg_queue.specs.Lanes.{rows_of}
use Rattle.cg_queue.proofs.body.settle_green.Goals as goal

pub returns : goal.returns
returns c =
    let b = c.args.body.now in
    λ i. record {
      white = b.white;
      greens = b.greens.items;
      green_cut = c.raise.ensures i;
      red_cut = c.raise-2.ensures i;
      reds = c.drop_first.ensures i;
      positions = rows_of b.positions;
      yellow = b.yellow.items;
    }
