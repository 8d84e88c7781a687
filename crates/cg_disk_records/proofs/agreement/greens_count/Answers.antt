use Rattle.std.proofs.Common.{◌≡◌, ◌+◌, true, refl, sym, ◌∙◌, rules, arith}
use Rattle.cg_base.specs.Replicas.{every_replica}
use Rattle.cg_disk_records.specs.Parts.{greens_count}
use Rattle.cg_disk_records.proofs.Agreeing.{all-step}
use Rattle.cg_disk_records.proofs.agreement.greens_count.Goals as goal

pub loop-slot-init : goal.loop-slot-init
unfolding every_replica
loop-slot-init c = refl

pub loop-slot-preserved : goal.loop-slot-preserved
loop-slot-preserved c =
    let test = greens_count c.args.greens.now c.args.cut.now in
    let counted : test (c.loop-slot.slot + 1) ≡ true = search rules in
    sym (all-step test c.loop-slot.slot (omega arith) counted) ∙ c.loop-slot.invariant
