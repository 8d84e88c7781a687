use Rattle.std.proofs.Common.{◌≡◌, ◌++◌}
use Rattle.std.specs.Prelude.{filter}
use Rattle.cg_text.specs.Order.{begins_with}
use Rattle.cg_db.proofs.db.Db.keys_from.Given as goal

-- the keys that were found, and those that are left to be looked at
abbrev pub invariant-loop-key : goal.invariant-loop-key
invariant-loop-key l =
    l.found.items ++ filter (λ k. begins_with k l.prefix) l.key-iterator ≡ filter (λ k. begins_with k l.prefix) l.initial.key-iterator
