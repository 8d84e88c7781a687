use Rattle.std.proofs.Common.{◌≡◌, ◌++◌, drop}
use Rattle.cg_compare.specs.Seen.{names_behind, names_in}
use Rattle.cg_compare.proofs.seen.add_names.Given as goal

abbrev pub invariant-loop-id : goal.invariant-loop-id
invariant-loop-id l =
    l.names.items ++ names_behind l.log.line l.place (drop l.id-index l.log.list) ≡ l.fn.names.items ++ names_in l.log
