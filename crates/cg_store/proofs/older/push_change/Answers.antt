use Rattle.std.proofs.Common.{◌∙◌, sym}
use Rattle.cg_store.specs.Translated.{IsSameChange}
use Rattle.cg_store.proofs.Translating.{none_change, pushed}
use Rattle.cg_store.proofs.older.push_change.Goals as goal

pub returns-in-None : goal.returns-in-None
returns-in-None c =
    pushed c.push-in-None.result (IsSameChange c.args.body.now) c.args.newer.now c.push-in-None.new.self (none_change ∙ sym (rw c.in-None.is at c.in_ok-change.ensures)) c.push-in-None.ensures
