use Rattle.std.proofs.Common.{◌≡◌, ◌++◌, map}
use Rattle.std.specs.Vec.Iter.{into_iter_items}
use Rattle.cg_encoded.specs.Encoded.{opened, AreSaid}
use Rattle.cg_encoded.proofs.opening.open_all.Given as goal

-- those opened so far and those that are left are all, and where those that are left are within their limits all are
abbrev pub invariant-loop-one : goal.invariant-loop-one
invariant-loop-one l =
    record {
      opened : l.all ++ map opened (into_iter_items l.one-iterator) ≡ map opened l.fn.list;
      said : AreSaid (into_iter_items l.one-iterator) → AreSaid l.fn.list;
    }
