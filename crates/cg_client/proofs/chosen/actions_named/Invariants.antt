use Rattle.std.proofs.Common.{◌≡◌, take}
use Rattle.cg_client.specs.Chosen.{actions_named}
use Rattle.cg_client.proofs.chosen.actions_named.Given as goal

abbrev pub invariant-loop-id : goal.invariant-loop-id
invariant-loop-id l = l.list ≡ actions_named l.queue (take l.id-index l.ids)
