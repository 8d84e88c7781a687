use Rattle.cg_group.specs.Logs.{AreFronts}
use Rattle.cg_group.proofs.configuration_log.put_slots.Given as goal

abbrev pub invariant-loop-slot : goal.invariant-loop-slot
invariant-loop-slot g l = AreFronts l.ordered l.fronts.items
