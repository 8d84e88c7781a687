use Rattle.std.proofs.Common.{◌++◌, ap, ◌∙◌}
use Rattle.cg_older.specs.Bytes.{spelled_old_parts, spelled_old_checkpoint}
use Rattle.cg_older.proofs.checkpoint.old_checkpoint.Goals as goal

pub returns-clause-spelled : goal.returns-clause-spelled
unfolding spelled_old_checkpoint
returns-clause-spelled c =
    c.in_ok-put_old_parts.ensures ∙ ap (λ bytes. bytes ++ spelled_old_parts c.in_ok-checkpoint.checkpoint) c.new-bytes.ensures.items ∙ ap spelled_old_parts c.in_ok-checkpoint.ensures.value
