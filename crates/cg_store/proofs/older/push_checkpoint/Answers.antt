use Rattle.std.proofs.Common.{◌∙◌, sym}
use Rattle.cg_store.specs.Translated.{IsSameCheckpoint}
use Rattle.cg_store.proofs.Translating.{none_checkpoint, pushed}
use Rattle.cg_store.proofs.older.push_checkpoint.Goals as goal

pub returns-in-None : goal.returns-in-None
returns-in-None c =
    pushed c.push-in-None.result (IsSameCheckpoint c.args.body.now) c.args.newer.now c.push-in-None.new.self
    (λ id. none_checkpoint id ∙ sym ((rw c.in-None.is at c.in_ok-checkpoint.ensures) id)) c.push-in-None.ensures
