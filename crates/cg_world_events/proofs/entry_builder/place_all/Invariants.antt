use Rattle.std.proofs.Common.{◌≡◌, ◌++◌, drop, length}
use Rattle.cg_model.specs.Show.{placed_from}
use Rattle.cg_world_events.proofs.entry_builder.place_all.Given as goal

-- the names so far and those that are left are all, and so are their places
abbrev pub invariant-loop-id : goal.invariant-loop-id
invariant-loop-id l =
    (l.order ++ drop l.id-index l.ids ≡ l.fn.order ++ l.ids)
    × (l.orders ++ placed_from (length l.order) (drop l.id-index l.ids) ≡ l.fn.orders ++ placed_from (length l.fn.order) l.ids)
