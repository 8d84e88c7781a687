use Rattle.std.proofs.Common.{◌≡◌, [], fold, take}
use Rattle.cg_client.specs.Overlay.{with_action}
use Rattle.cg_client.proofs.overlay.named_part.Given as goal

abbrev pub invariant-loop-a : goal.invariant-loop-a
invariant-loop-a l = l.part ≡ fold (with_action l.db) [] (take l.a-index l.actions)
