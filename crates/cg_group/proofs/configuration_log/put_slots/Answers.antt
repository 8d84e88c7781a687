use Rattle.std.proofs.Common.{List, ℕ, sym, subst}
use Rattle.cg_group.specs.Logs.{AreFronts}
use Rattle.cg_group.proofs.SettledFacts.{AreFronts-slot}
use Rattle.cg_group.proofs.configuration_log.put_slots.Goals as goal

pub returns-in_err-push : goal.returns-in_err-push
returns-in_err-push g c = subst (λ (fronts : List ℕ). AreFronts c.args.ordered.now fronts) (sym c.in_err-push.ensures.items) c.loop-slot.invariant

pub loop-slot-preserved : goal.loop-slot-preserved
loop-slot-preserved g c =
    subst (λ (fronts : List ℕ). AreFronts c.args.ordered.now fronts) (sym c.in_ok-push.ensures.items)
    (AreFronts-slot c.args.ordered.now c.loop-slot.fronts.items c.loop-slot.invariant)
