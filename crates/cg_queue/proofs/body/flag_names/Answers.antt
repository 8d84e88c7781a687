use Rattle.std.proofs.Common.{◌≡◌, ◌∙◌, ◌+◌, suc, fold, take, sym, ap, arith}
use Rattle.cg_queue.specs.Lanes.{rows_of}
use Rattle.cg_queue.specs.Body.{flag_name}
use Rattle.cg_queue.proofs.RowLemmas.{fold-more}
use Rattle.cg_queue.proofs.body.flag_names.Goals as goal

pub loop-id-preserved : goal.loop-id-preserved
loop-id-preserved c =
    let flag = flag_name c.args.cut.now c.args.is_yellow in
    let start = rows_of c.args.reds.now in
    let list = c.args.list.now in
    let i = c.loop-id.id-index in
    let next : i + 1 ≡ suc i = omega arith in
    c.flag_one.ensures
    ∙ ap (λ lanes. flag lanes c.id-item.result) c.loop-id.invariant
    ∙ ap (flag (fold flag start (take i list))) c.id-item.is
    ∙ sym (fold-more flag start list i c.id-item.result c.loop-id-test.true)
    ∙ ap (λ n. fold flag start (take n list)) (sym next)
