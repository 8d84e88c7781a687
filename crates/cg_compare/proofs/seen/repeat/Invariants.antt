use Rattle.std.proofs.Common.{◌≡◌, [], take, drop}
use Rattle.std.specs.BTreeMap.{get}
use Rattle.cg_base.specs.contracts.action_id.ActionIdOrd.TheImpl as order
use Rattle.cg_base.specs.declared.action_id.ActionId.{ActionId}
use Rattle.cg_compare.specs.Seen.{place_among, repeat_after}
use Rattle.cg_compare.proofs.seen.repeat.Given as goal

-- the map has where each name was seen first
abbrev pub invariant-loop-s : goal.invariant-loop-s
invariant-loop-s l = record {
  known : (id : ActionId) → get order.ghosts.cmp l.places id ≡ place_among (take l.s-index l.names) id;
  rest : repeat_after (take l.s-index l.names) (drop l.s-index l.names) ≡ repeat_after [] l.names;
}
