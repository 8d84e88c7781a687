use Rattle.std.proofs.Common.{◌≡◌, ◌+◌, suc, take, sym, subst, arith}
use Rattle.cg_store.specs.Translated.{AreSame}
use Rattle.cg_store.proofs.Translating.{same_at}
use Rattle.cg_store.proofs.older.translated.Goals as goal

pub loop-i-preserved : goal.loop-i-preserved
loop-i-preserved c =
    let i = c.loop-i.i in
    let olds = c.args.bodies.now in
    let done = c.in_ok-push_change.ensures in
    let next : suc i ≡ i + 1 = omega arith in (
      subst (λ n. AreSame (take n olds) c.push_change.new.newer) next
          (subst (AreSame (take (suc i) olds)) (sym done.2)
          (same_at olds c.loop-i.newer i c.in-Some-get.body.now done.0 c.loop-i.invariant.0 (sym c.in-Some-get.ensures) c.loop-i.invariant.1 done.1)),
      omega arith,
    )
