use Rattle.std.proofs.Common.{◌≡◌, ◌++◌}
use Rattle.std.specs.Vec.Iter.{into_iter_items}
use Rattle.cg_world_events.proofs.step_in_progress.show_all.Given as goal

abbrev pub invariant-loop-one : goal.invariant-loop-one
invariant-loop-one l = record l.showing { shown = l.showing.shown ++ into_iter_items l.one-iterator } ≡ record l.fn.showing { shown = l.fn.showing.shown ++ l.fn.list }
