use Rattle.std.proofs.Common.{◌≡◌, ◌∙◌, ◌+◌, ◌++◌, ◌∷◌, [], ℕ, suc, drop, length, ap, arith}
use Rattle.cg_base.specs.declared.action_id.ActionId.{ActionId}
use Rattle.cg_base.specs.Cuts.{raise}
use Rattle.cg_base.specs.TextLaws.{OnErr_from}
use Rattle.cg_queue.specs.Lanes.{rows_of, with_lane, front_of}
use Rattle.cg_queue.specs.Body.{Parts, lane_of, settled}
use Rattle.cg_queue.proofs.RowLemmas.{lanes-undone}
use Rattle.cg_queue.proofs.body.add_green.Goals as goal

pub returns-in_err-push-clause-err : goal.returns-in_err-push-clause-err
returns-in_err-push-clause-err c =
    let b = c.args.body.now in
    OnErr_from c.from_residual.result (λ i. record {
      white = b.white;
      greens = b.greens.items;
      green_cut = b.green_cut;
      red_cut = b.red_cut;
      reds = rows_of b.reds;
      positions = c.in_err-push.ensures.err i;
      yellow = b.yellow.items;
    })

pub returns-in-Ok-clause-ok : goal.returns-in-Ok-clause-ok
returns-in-Ok-clause-ok c =
    let b = c.args.body.now in
    let name = c.name_of-id.result in
    let slot = c.lane_of-slot.result in
    let at = b.white + c.len.result + 1 in
    let made : ℕ → ActionId → ℕ → Parts = λ k id n. record {
      white = b.white;
      greens = b.greens.items ++ c.args.a ∷ [];
      green_cut = raise b.green_cut id;
      red_cut = raise b.red_cut id;
      reds = with_lane (rows_of b.reds) k (drop 1 (rows_of b.reds k));
      positions = with_lane (rows_of b.positions) k (rows_of b.positions k ++ n ∷ []);
      yellow = b.yellow.items;
    } in
    let placed : settled (record { white = b.white; greens = b.greens.items ++ c.args.a ∷ []; green_cut = b.green_cut; red_cut = b.red_cut; reds = rows_of b.reds; positions = rows_of c.push.new.self; yellow = b.yellow.items }) name slot ≡ made slot name at =
    λ i. record {
      white = b.white;
      greens = b.greens.items ++ c.args.a ∷ [];
      green_cut = raise b.green_cut name;
      red_cut = raise b.red_cut name;
      reds = with_lane (rows_of b.reds) slot (drop 1 (rows_of b.reds slot));
      positions = c.in_ok-push.ensures.ok i;
      yellow = b.yellow.items;
    } in
    let same_place : slot ≡ lane_of c.args.a.id = c.lane_of-slot.ensures.value ∙ ap lane_of c.name_of-id.ensures.value in
    let long = b.greens.ok.0 in
    let here : at ≡ suc (b.white + length b.greens.items) = omega (arith, c.len.ensures) in
    c.settle_green.ensures
    ∙ ap (λ p. settled p name slot) c.in-Ok.ensures.ok
    ∙ placed
    ∙ ap (λ k. made k name at) same_place
    ∙ ap (λ id. made (lane_of c.args.a.id) id at) c.name_of-id.ensures.value
    ∙ ap (λ n. made (lane_of c.args.a.id) c.args.a.id n) here

pub returns-in-Err-clause-err : goal.returns-in-Err-clause-err
returns-in-Err-clause-err c =
    let b = c.args.body.now in
    let slot = c.lane_of-slot.result in
    let same = c.in-Err.ensures.err in
    let positions : rows_of c.drop_last.new.self ≡ rows_of b.positions =
    c.drop_last.ensures
    ∙ ap (λ f. with_lane f slot (front_of (f slot))) (ap (λ (p : Parts). p.positions) same ∙ c.in_ok-push.ensures.ok)
    ∙ lanes-undone (rows_of b.positions) slot (b.white + c.len.result + 1) in
    λ i. record {
      white = (same i).white;
      greens = (same i).greens;
      green_cut = (same i).green_cut;
      red_cut = (same i).red_cut;
      reds = (same i).reds;
      positions = positions i;
      yellow = (same i).yellow;
    }
