use Rattle.std.proofs.Common.{◌≡◌, suc, ◌+◌, IfOk, subst, arith, rules}
use Rattle.cg_records.specs.Limits.{IsNumber}
use Rattle.cg_disk_records.specs.Checkpoint.{spelled_checkpoint}
use Rattle.cg_store.proofs.Checkpointing.{saved_again}
use Rattle.cg_store.proofs.settling.moved_record.Goals as goal

pub returns-clause-spelled : goal.returns-clause-spelled
returns-clause-spelled c =
    let next : c.args.found.now.generation + 1 ≡ suc c.args.found.now.generation = omega arith in
    subst (λ n. IfOk c.checkpoint_record.result (λ bytes. bytes.items ≡ spelled_checkpoint n c.args.found.now.core)) next c.checkpoint_record.ensures.spelled

pub returns-clause-saved : goal.returns-clause-saved
returns-clause-saved c =
    let next : c.args.found.now.generation + 1 ≡ suc c.args.found.now.generation = omega arith in
    let small : IsNumber (suc c.args.found.now.generation) = search rules in
    saved_again c.checkpoints_are_exact.ensures.again c.what_is_held_agrees.ensures.agrees c.args.found.now.core c.requires (suc c.args.found.now.generation) small (λ bytes. bytes.items) c.checkpoint_record.result
    (subst (λ n. IfOk c.checkpoint_record.result (λ bytes. bytes.items ≡ spelled_checkpoint n c.args.found.now.core)) next c.checkpoint_record.ensures.spelled) c.checkpoint_record.ensures.within
