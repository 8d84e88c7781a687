use Rattle.std.proofs.Common.{◌≡◌, ℕ, ◌+◌, Bool, leb, true, refl, sym, ◌∙◌, rules, arith}
use Rattle.cg_base.specs.Cuts.{index_in}
use Rattle.cg_base.specs.Replicas.{every_replica}
use Rattle.cg_disk_records.proofs.Agreeing.{all-step}
use Rattle.cg_disk_records.proofs.agreement.reaches.Goals as goal

pub loop-slot-init : goal.loop-slot-init
unfolding every_replica
loop-slot-init c = refl

pub loop-slot-preserved : goal.loop-slot-preserved
loop-slot-preserved c =
    let test : ℕ → Bool = λ p. leb (index_in c.args.to.now p) (index_in c.args.at.now p) in
    let reached : test (c.loop-slot.slot + 1) ≡ true = search rules in
    sym (all-step test c.loop-slot.slot (omega arith) reached) ∙ c.loop-slot.invariant
