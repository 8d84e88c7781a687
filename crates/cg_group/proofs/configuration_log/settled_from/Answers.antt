use Rattle.std.proofs.Common.{arith, add-one}
use Rattle.cg_group.proofs.SettledFacts.{IsSettled-next}
use Rattle.cg_group.proofs.configuration_log.settled_from.Goals as goal

pub loop-place-preserved : goal.loop-place-preserved
loop-place-preserved g c = (
  omega arith,
  λ start. rw add-one
      (IsSettled-next c.args.members.now c.args.ordered.now c.loop-place.place c.index-ordered-place.result c.loop-place-test.true (c.loop-place.invariant.1 start)
      c.is_complete.ensures.set (c.is_complete.ensures.within c.if-not-is_complete.false)),
)
