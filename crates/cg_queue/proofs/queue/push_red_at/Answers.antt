use Rattle.std.proofs.Common.{◌∙◌, ◌++◌, ◌∷◌, [], suc, drop, ap, sym, arith, append_assoc}
use Rattle.cg_queue.specs.Lanes.{rows_of}
use Rattle.cg_queue.specs.Body.{actions_in}
use Rattle.cg_queue.proofs.Soundness.{drop-more, drop-none, drop-end, OnOk_with}
use Rattle.cg_queue.proofs.queue.push_red_at.Goals as goal

pub returns-in-Some : goal.returns-in-Some
returns-in-Some c =
    let row = rows_of c.args.reds.now c.args.slot in
    let i = c.args.i in
    OnOk_with c.push_copy.result c.push_copy.ensures (λ put.
    ap (λ xs. xs ++ actions_in (drop (suc i) row)) put
    ∙ append_assoc c.args.list.now (c.in-Some.red.now.action ∷ []) (actions_in (drop (suc i) row))
    ∙ ap (λ xs. c.args.list.now ++ actions_in xs) (sym (drop-more row i c.in-Some.red.now c.in-Some.ensures)))

pub returns-in-None : goal.returns-in-None
returns-in-None c =
    let row = rows_of c.args.reds.now c.args.slot in
    let i = c.args.i in
    let behind = drop-none row i c.in-None.ensures in
    ap (λ xs. c.args.list.now ++ actions_in xs) (drop-end row (suc i) (omega arith) ∙ sym (drop-end row i behind))
