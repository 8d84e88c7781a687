use Rattle.std.proofs.Common.{◌≡◌, ◌<◌, ◌+◌, false, sym, ◌∙◌, ap, arith}
use Rattle.std.specs.List.{list_all}
use Rattle.std.specs.Prelude.{drop}
use Rattle.cg_base.specs.Cuts.{index_in}
use Rattle.cg_base.specs.Replicas.{every_replica}
use Rattle.cg_disk_records.specs.Parts.{reds_count}
use Rattle.cg_disk_records.proofs.Counting.{reds-left, reds-past, reds-apart, reds-end}
use Rattle.cg_disk_records.proofs.agreement.reds_count.Goals as goal
use Rattle.cg_disk_records.proofs.agreement.reds_count.Goals.{then-last-get-via-then-last-get, then-last-get-via-else-last-get+then-index-last}

pub returns-then-last-get : goal.returns-then-last-get
returns-then-last-get c =
    let a = c.a-item.result in
    let p = a.id.creator in
    let at = c.loop-a.at in
    let to = c.args.to.now in
    let reds = c.args.reds.now in
    let i = c.loop-a.a-index in
    let none : list_all (reds_count (drop i reds) at to) every_replica ≡ false = elim c.then-last-get.branch [
      | then-last-get-via-then-last-get w ↦
          reds-past a at to reds i c.loop-a-test.true (sym c.a-item.is) c.holds.ensures (omega (arith, w.if-last-get.true, c.get-last.ensures, c.get.ensures))
      | then-last-get-via-else-last-get+then-index-last w ↦
          reds-apart a at to reds i c.loop-a-test.true (sym c.a-item.is) c.holds.ensures (λ e. w.if-index-last.true (e ∙ ap (λ n. n + 1) (sym c.get-last.ensures)))
    ] in
    sym none ∙ c.loop-a.invariant

pub loop-a-preserved : goal.loop-a-preserved
loop-a-preserved c =
    let a = c.a-item.result in
    let at = c.loop-a.at in
    let to = c.args.to.now in
    let below : index_in at a.id.creator < index_in to a.id.creator = omega (arith, c.if-last-get.false, c.get-last.ensures, c.get.ensures) in
    let next : a.id.index ≡ index_in at a.id.creator + 1 = c.if-index-last.false ∙ ap (λ n. n + 1) c.get-last.ensures in
    ap (λ cut. list_all (reds_count (drop (c.loop-a.a-index + 1) c.args.reds.now) cut to) every_replica) c.raise.ensures
    ∙ reds-left a at to c.args.reds.now c.loop-a.a-index c.loop-a-test.true (sym c.a-item.is) c.holds-in-loop-a.ensures below next
    ∙ c.loop-a.invariant

pub returns : goal.returns
returns c =
    c.reaches.ensures ∙ sym (reds-end c.args.reds.now c.loop-a.a-index c.loop-a.at c.args.to.now c.loop-a-test.false) ∙ c.loop-a.invariant
