use Rattle.std.proofs.Common.{◌≡◌, fold, drop}
use Rattle.cg_run.specs.Making.{with_made_in}
use Rattle.cg_run.proofs.relaxing.add_all.Given as goal

-- those that are left lead to where all lead
abbrev pub invariant-loop-m : goal.invariant-loop-m
invariant-loop-m l =
    fold (with_made_in l.world.world) l.rows (drop l.m-index l.made) ≡ fold (with_made_in l.world.world) l.fn.rows l.made
