use Rattle.cg_queue.specs.Lanes.{rows_of}
use Rattle.cg_queue.proofs.body.add_name.Goals as goal

pub returns-clause-ok : goal.returns-clause-ok
returns-clause-ok c =
    let b = c.args.body.now in
    λ i. record {
      white = b.white;
      greens = b.greens.items;
      green_cut = b.green_cut;
      red_cut = b.red_cut;
      reds = c.mark.ensures i;
      positions = rows_of b.positions;
      yellow = c.in_ok-push.ensures.items i;
    }
