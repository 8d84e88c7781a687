use Rattle.std.proofs.Common.{rules}
use Rattle.std.proofs.Output.{has_written_append, has_written_of_eq}
use Rattle.cg_text.proofs.QuotedChars.{shown_more}
use Rattle.cg_text.proofs.quoted.write_escaped.Goals as goal

pub loop-c-preserved : goal.loop-c-preserved
loop-c-preserved g c plain =
    has_written_of_eq _ _ _ _ _ (shown_more c.loop-c.yielded c.in-Some.c)
    (has_written_append _ _ _ _ _ _ (c.loop-c.invariant plain) (search rules))
