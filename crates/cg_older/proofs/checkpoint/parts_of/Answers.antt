use Rattle.std.proofs.Common.{◌≡◌, ◌++◌, ap, ◌∙◌}
use Rattle.cg_disk_records.specs.Checkpoint.{spelled_checkpoint}
use Rattle.cg_older.proofs.StandingLaws.{read-again}
use Rattle.cg_older.proofs.checkpoint.parts_of.Goals as goal

pub returns-in-Ok-clause-value : goal.returns-in-Ok-clause-value
returns-in-Ok-clause-value c =
    let spelled : c.as_slice.result.now ≡ spelled_checkpoint 1 c.args.core.now = c.as_slice.ensures.value ∙ c.in_ok-put_checkpoint.ensures.ok ∙ ap (λ bytes. bytes ++ spelled_checkpoint 1 c.args.core.now) c.new-bytes.ensures.items in
    read-again c.parts_are_exact.ensures.whole c.as_slice.result.now c.args.core.now c.in-Ok.checkpoint c.in_ok-put_checkpoint.ensures.within spelled c.in-Ok.ensures.read
