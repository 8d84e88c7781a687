use Rattle.std.proofs.Common.{◌≡◌, ◌++◌, drop}
use Rattle.cg_compare.specs.Seen.{all_names}
use Rattle.cg_compare.proofs.seen.all_names.Given as goal

abbrev pub invariant-loop-log : goal.invariant-loop-log
invariant-loop-log l = l.names.items ++ all_names (drop l.log-index l.logs) ≡ all_names l.logs
