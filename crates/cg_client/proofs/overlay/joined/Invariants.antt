use Rattle.std.proofs.Common.{◌≡◌, [], not, fold, filter}
use Rattle.std.specs.Vec.Iter.{into_iter_items}
use Rattle.cg_client.specs.Overlay.{has_key, with_mark}
use Rattle.cg_client.proofs.overlay.joined.Given as goal

-- those that are left lead to where all lead
abbrev pub invariant-loop-key : goal.invariant-loop-key
invariant-loop-key l =
    fold with_mark l.marks (filter (λ key. not (has_key l.part key)) (into_iter_items l.key-iterator)) ≡ fold with_mark [] (filter (λ key. not (has_key l.part key)) l.fn.found)
