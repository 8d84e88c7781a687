use Rattle.std.proofs.Common.{◌≡◌, ◌++◌, map, fold}
use Rattle.std.specs.Vec.Iter.{into_iter_items}
use Rattle.cg_base.specs.Cuts.{raise}
use Rattle.cg_queue.specs.Queue.{names_of}
use Rattle.cg_model.specs.Making.{made_of_action}
use Rattle.cg_world_events.proofs.entry_builder.show_made.Given as goal

-- those so far and those that are left are all
abbrev pub invariant-loop-a : goal.invariant-loop-a
invariant-loop-a l =
    (fold raise l.made (names_of (into_iter_items l.a-iterator)) ≡ fold raise l.fn.made (names_of l.fn.actions))
    × (l.shown ++ map made_of_action (into_iter_items l.a-iterator) ≡ l.fn.shown ++ map made_of_action l.fn.actions)
