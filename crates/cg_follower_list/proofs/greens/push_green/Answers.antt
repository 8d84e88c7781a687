use Rattle.std.proofs.Common.{◌≡◌, ◌∙◌, ◌++◌, ◌∷◌, ◌-◌, [], suc, take, drop, ap, sym, arith, append_assoc}
use Rattle.std.proofs.lemmas.Result.{on_ok_weaker}
use Rattle.cg_base.specs.Lists.{at_place}
use Rattle.cg_follower_list.proofs.NextGreens.{next-taken, none-taken}
use Rattle.cg_follower_list.proofs.greens.push_green.Goals as goal

pub returns-in_ok-copy-in-Some : goal.returns-in_ok-copy-in-Some
returns-in_ok-copy-in-Some c =
    let q = c.args.q.now in
    let k = c.args.at - suc q.white in
    let here : c.args.at - q.white ≡ suc k = omega arith in
    let found = c.in-Some.ensures ∙ ap (at_place q.greens) here in
    on_ok_weaker c.push.result (λ put more.
    ap (λ xs. xs ++ take more (drop (c.args.at - q.white) q.greens)) put
    ∙ append_assoc c.args.list.now (c.in_ok-copy-in-Some.copy ∷ []) (take more (drop (c.args.at - q.white) q.greens))
    ∙ (λ i. c.args.list.now ++ c.in_ok-copy-in-Some.ensures i ∷ take more (drop (here i) q.greens))
    ∙ ap (λ xs. c.args.list.now ++ xs) (next-taken q.greens k more c.in-Some.action.now (sym found))) c.push.ensures.ok

pub returns-in-None : goal.returns-in-None
returns-in-None c = λ more.
    let q = c.args.q.now in
    let k = c.args.at - suc q.white in
    let here : c.args.at - q.white ≡ suc k = omega arith in
    let found = c.in-None.ensures ∙ ap (at_place q.greens) here in
    (λ i. c.args.list.now ++ take more (drop (here i) q.greens))
    ∙ ap (λ xs. c.args.list.now ++ xs) (none-taken q.greens k more (sym found))
