use Rattle.std.proofs.Common.{◌∙◌, ◌++◌, ◌∷◌, [], suc, drop, ap, sym, arith, append_assoc}
use Rattle.cg_queue.proofs.Soundness.{drop-more, drop-none, drop-end, OnOk_with}
use Rattle.cg_queue.proofs.queue.push_green_at.Goals as goal

pub returns-in-Some : goal.returns-in-Some
returns-in-Some c =
    let greens = c.args.greens.now.items in
    let i = c.args.i in
    OnOk_with c.push_copy.result c.push_copy.ensures (λ put.
    ap (λ xs. xs ++ drop (suc i) greens) put
    ∙ append_assoc c.args.list.now (c.in-Some.action.now ∷ []) (drop (suc i) greens)
    ∙ ap (λ xs. c.args.list.now ++ xs) (sym (drop-more greens i c.in-Some.action.now c.in-Some.ensures)))

pub returns-in-None : goal.returns-in-None
returns-in-None c =
    let greens = c.args.greens.now.items in
    let i = c.args.i in
    let behind = drop-none greens i c.in-None.ensures in
    ap (λ xs. c.args.list.now ++ xs) (drop-end greens (suc i) (omega arith) ∙ sym (drop-end greens i behind))
