use Rattle.cg_queue.proofs.body.empty_body.Goals as goal

pub returns-clause-parts : goal.returns-clause-parts
returns-clause-parts c = λ i. record {
  white = c.args.white;
  greens = c.new.ensures.items i;
  green_cut = c.args.cut;
  red_cut = c.args.cut;
  reds = λ k. c.new-2.ensures k i;
  positions = λ k. c.new-3.ensures k i;
  yellow = c.new-4.ensures.items i;
}
