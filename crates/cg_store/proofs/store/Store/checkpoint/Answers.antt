use Rattle.std.proofs.Common.{◌∙◌, subst}
use Rattle.cg_journal.specs.Records.{records}
use Rattle.cg_store.specs.Stands.{moved}
use Rattle.cg_store.specs.Answers.{EachMoment}
use Rattle.cg_store.specs.Calls.{Moves, IsEither}
use Rattle.cg_store.proofs.Checkpointing.{saved, same_bytes}
use Rattle.cg_store.proofs.store.Store.checkpoint.Goals as goal

pub restart-requires-clause-saved : goal.restart-requires-clause-saved
restart-requires-clause-saved g c = λ u stands.
    saved c.checkpoints_are_exact.ensures.again c.args.self.id (records (g.D.Disk.view c.args.self.disk).reads) u stands c.args.core.now (c.requires.held u stands)
    c.deref.result.now (c.deref.ensures.value ∙ c.in-Ok.ensures.spelled u stands) (c.in-Ok.ensures.small u stands) c.in-Ok.ensures.within c.requires.agrees

pub returns-in-Ok-clause-ends : goal.returns-in-Ok-clause-ends
returns-in-Ok-clause-ends g c = λ u stands.
    subst (λ bytes. Moves g.D.Disk.view c.args.self u (moved u bytes) c.restart.result)
    (same_bytes u c.args.core.now (c.requires.held u stands) c.deref.result.now (c.deref.ensures.value ∙ c.in-Ok.ensures.spelled u stands))
    (c.restart.ensures.ends u stands)

pub returns-in-Ok-clause-moments : goal.returns-in-Ok-clause-moments
returns-in-Ok-clause-moments g c = λ u stands.
    subst (λ bytes. EachMoment g.D.Disk.view (λ s. s.disk) (IsEither c.args.self.id u (moved u bytes)) (g.D.Disk.view c.args.self.disk) c.restart.result)
    (same_bytes u c.args.core.now (c.requires.held u stands) c.deref.result.now (c.deref.ensures.value ∙ c.in-Ok.ensures.spelled u stands))
    (c.restart.ensures.moments u stands)
