use Rattle.std.proofs.Common.{◌+◌, sym, ◌∙◌}
use Rattle.std.specs.Option.{option_copied}
use Rattle.cg_older.proofs.HeavyNames.{heavy-known}
use Rattle.cg_older.proofs.weights.has_heavy_of.Goals as goal

pub returns-then-is_heavy_at-clause-found : goal.returns-then-is_heavy_at-clause-found
returns-then-is_heavy_at-clause-found c =
    λ _. heavy-known c.args.core.now.queue (record { creator = c.args.creator; index = c.loop-last.last + 1 }) (option_copied c.get.result) c.get.ensures.value (sym c.is_heavy_at.ensures ∙ c.if-is_heavy_at.true)
