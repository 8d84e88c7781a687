use Rattle.std.proofs.Common.{inr}
use Rattle.cg_queue.specs.Lanes.{rows_of}
use Rattle.cg_queue.proofs.body.forget_green.Goals as goal

pub returns : goal.returns
returns c =
    let b = c.args.body.now in
    inr (λ i. record {
      white = b.white;
      greens = b.greens.items;
      green_cut = b.green_cut;
      red_cut = b.red_cut;
      reds = rows_of b.reds;
      positions = rows_of b.positions;
      yellow = c.keep_above.ensures i;
    })
