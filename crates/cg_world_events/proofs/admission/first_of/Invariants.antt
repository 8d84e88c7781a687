use Rattle.std.proofs.Common.{◌≡◌, drop}
use Rattle.cg_base.specs.Lists.{first_some}
use Rattle.cg_world_events.proofs.admission.first_of.Given as goal

abbrev pub invariant-loop-reason : goal.invariant-loop-reason
invariant-loop-reason l = first_some (drop l.reason-index l.reasons) ≡ first_some l.reasons
