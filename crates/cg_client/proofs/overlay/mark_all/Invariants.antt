use Rattle.std.proofs.Common.{◌≡◌, fold}
use Rattle.std.specs.Vec.Iter.{into_iter_items}
use Rattle.cg_client.specs.Overlay.{with_mark}
use Rattle.cg_client.proofs.overlay.mark_all.Given as goal

-- those that are left lead to where all lead
abbrev pub invariant-loop-key : goal.invariant-loop-key
invariant-loop-key l = fold with_mark l.marks (into_iter_items l.key-iterator) ≡ fold with_mark l.fn.marks l.fn.keys
