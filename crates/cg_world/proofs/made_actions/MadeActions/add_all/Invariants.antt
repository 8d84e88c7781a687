use Rattle.std.proofs.Common.{◌≡◌, ◌++◌, map, take}
use Rattle.cg_model.specs.Making.{made_as}
use Rattle.cg_world.proofs.made_actions.MadeActions.add_all.Given as goal

abbrev pub invariant-loop-m : goal.invariant-loop-m
invariant-loop-m l = l.self ≡ l.fn.self ++ map (made_as l.state) (take l.m-index l.list)
