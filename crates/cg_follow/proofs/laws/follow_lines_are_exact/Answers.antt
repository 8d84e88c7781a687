use Rattle.cg_follow.proofs.Lines.{lines_exact}
use Rattle.cg_follow.proofs.laws.follow_lines_are_exact.Goals as goal

pub returns : goal.returns
returns c = lines_exact (record {
  blank = c.tokens_are_exact.ensures.blank;
  word = c.tokens_are_exact.ensures.word;
  parts = c.parts_are_exact.ensures;
})
