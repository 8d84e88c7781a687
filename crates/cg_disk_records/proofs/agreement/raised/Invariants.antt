use Rattle.std.proofs.Common.{◌≡◌, take}
use Rattle.std.specs.Prelude.{fold}
use Rattle.cg_base.specs.Cuts.{raise}
use Rattle.cg_disk_records.proofs.agreement.raised.Given as goal

abbrev pub invariant-loop-a : goal.invariant-loop-a
invariant-loop-a l = l.all ≡ fold (λ c a. raise c a.id) l.fn.cut (take l.a-index l.actions)
