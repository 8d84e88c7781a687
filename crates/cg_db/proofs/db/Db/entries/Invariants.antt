use Rattle.std.proofs.Common.{◌≡◌, ◌++◌}
use Rattle.std.specs.List.{flat_map}
use Rattle.std.specs.Vec.Iter.{into_iter_items}
use Rattle.cg_db.specs.Map.{value_of}
use Rattle.cg_db.specs.View.{entry_at}
use Rattle.cg_db.proofs.db.Db.entries.Given as goal

-- the entries so far, and those of the keys that are left
abbrev pub invariant-loop-key : goal.invariant-loop-key
invariant-loop-key l =
    l.entries ++ flat_map (λ key. entry_at key (value_of l.self key)) (into_iter_items l.key-iterator) ≡ flat_map (λ key. entry_at key (value_of l.self key)) (into_iter_items l.initial.key-iterator)
