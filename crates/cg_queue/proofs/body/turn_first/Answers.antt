use Rattle.std.proofs.Common.{◌≡◌, ◌∙◌, ◌+◌, ◌<◌, ◌^◌, ◌++◌, ◌∷◌, [], ℕ, Option, Some, suc, drop, length, slice_get, sym, ap, subst, arith}
use Rattle.std.specs.Prelude.{MatchOption}
use Rattle.cg_base.specs.declared.action_id.ActionId.{ActionId}
use Rattle.cg_base.specs.Cuts.{raise}
use Rattle.cg_base.specs.TextLaws.{OnErr_from}
use Rattle.cg_queue.specs.declared.red.Red.{Red}
use Rattle.cg_queue.specs.Lanes.{rows_of, with_lane}
use Rattle.cg_queue.specs.Body.{Parts}
use Rattle.cg_queue.proofs.body.turn_first.Goals as goal

there-is : {X : Type 0} (o : Option X) (A : Type 0) (B : X → Type 0) (x : X) → Some x ≡ o → B x → MatchOption o A B
there-is o A B x is b = subst (λ o. MatchOption o A B) is b

pub returns-in_err-push-clause-err : goal.returns-in_err-push-clause-err
returns-in_err-push-clause-err c =
    let b = c.args.body.now in
    OnErr_from c.from_residual-in_err-push.result (λ i. record {
      white = b.white;
      greens = c.reserve.ensures.items i;
      green_cut = b.green_cut;
      red_cut = b.red_cut;
      reds = rows_of b.reds;
      positions = c.in_err-push.ensures.err i;
      yellow = b.yellow.items;
    })

pub returns-clause-ok : goal.returns-clause-ok
returns-clause-ok c =
    let b = c.args.body.now in
    let lane = c.args.slot in
    let r = c.in-Some.red.now in
    let taken = c.in-Some-take_first.red in
    let there : Some r ≡ slice_get (rows_of b.reds lane) 0 = c.in-Some.ensures in
    let first : Some taken ≡ slice_get (rows_of b.reds lane) 0 = c.in-Some-take_first.ensures.first in
    let same : taken ≡ r = (let e : Some taken ≡ Some r = first ∙ sym there in cc) in
    let at = b.white + c.len.result + 1 in
    let made : Red → ActionId → ℕ → Parts = λ x id n. record {
      white = b.white;
      greens = b.greens.items ++ x.action ∷ [];
      green_cut = raise b.green_cut id;
      red_cut = raise b.red_cut id;
      reds = with_lane (rows_of b.reds) lane (drop 1 (rows_of b.reds lane));
      positions = with_lane (rows_of b.positions) lane (rows_of b.positions lane ++ n ∷ []);
      yellow = b.yellow.items;
    } in
    let greens : c.push_back_reserved.new.self.items ≡ b.greens.items ++ taken.action ∷ [] = c.push_back_reserved.ensures.items ∙ ap (λ xs. xs ++ taken.action ∷ []) c.reserve.ensures.items in
    let long = b.greens.ok.0 in
    let here : at ≡ suc (b.white + length b.greens.items) = omega (arith, c.len.ensures, c.reserve.ensures.len) in
    there-is _ _ _ r there (
      subst (λ (id : ActionId). id.index < 2 ^ 64) c.name_of-id.ensures.value c.name_of-id.ensures.small,
      λ own.
          (λ i. record {
            white = b.white;
            greens = greens i;
            green_cut = c.raise.ensures i;
            red_cut = c.raise-2.ensures i;
            reds = c.take_first.ensures.rest i;
            positions = c.in_ok-push.ensures.ok i;
            yellow = b.yellow.items;
          })
          ∙ ap (λ x. made x c.name_of-id.result at) same
          ∙ ap (λ id. made r id at) c.name_of-id.ensures.value
          ∙ ap (λ n. made r r.action.id n) here
          ∙ ap (λ k. record {
            white = b.white;
            greens = b.greens.items ++ r.action ∷ [];
            green_cut = raise b.green_cut r.action.id;
            red_cut = raise b.red_cut r.action.id;
            reds = with_lane (rows_of b.reds) k (drop 1 (rows_of b.reds k));
            positions = with_lane (rows_of b.positions) k (rows_of b.positions k ++ suc (b.white + length b.greens.items) ∷ []);
            yellow = b.yellow.items;
          }) (sym own),
    )
