-- Each part of a plan has an item.
use Rattle.std.proofs.Common.{ℕ, ◌<◌, List, [], ◌∷◌, ◌++◌, Some, None, ltb, arith}
use Rattle.std.specs.Prelude.{Option, flat_map}
use Rattle.std.proofs.lemmas.Bool.{ltb-true, cond_both}
use Rattle.cg_knowledge.specs.declared.summary.Summary.{Summary}
use Rattle.cg_knowledge.specs.Summaries.{most_updated}
use Rattle.cg_plan.specs.declared.parts.SentPart.{SentPart}
use Rattle.cg_plan.specs.Plan.{part_above, green_part, red_part, reds_of, creators, farthest, least_greens, least_reds, plan_of}
use Rattle.cg_plan.specs.Place.{AreFilled}
use Rattle.cg_plan.specs.Parts.{IsFilled}

AreFilled-append : (xs ys : List SentPart) → AreFilled xs → AreFilled ys → AreFilled (xs ++ ys)
AreFilled-append [] ys some more = more
AreFilled-append (x ∷ xs) ys some more = (some.0, AreFilled-append xs ys some.1 more)

AreFilled-flat_map : {X : Type 0} (f : X → List SentPart) → ((x : X) → AreFilled (f x)) → (xs : List X) →
    AreFilled (flat_map f xs)
AreFilled-flat_map f each [] = tt
AreFilled-flat_map f each (x ∷ xs) = AreFilled-append (f x) (flat_map f xs) (each x) (AreFilled-flat_map f each xs)

part_above-filled : (low high : ℕ) (turn : SentPart) → (low < high → IsFilled turn.part) →
    AreFilled (part_above low high turn)
part_above-filled low high turn filled =
    cond_both (ltb low high) (turn ∷ []) [] AreFilled (λ e. (filled (ltb-true low high e), tt)) (λ e. tt)

green_part-filled : (best : Option Summary) (low : Option ℕ) → AreFilled (green_part best low)
green_part-filled None low = tt
green_part-filled (Some best) None = tt
green_part-filled (Some best) (Some low) = part_above-filled low best.green_count _ (λ lt. (omega arith, omega arith))

red_part-filled : (creator : ℕ) (best holder : Option Summary) (low : Option ℕ) →
    AreFilled (red_part creator best holder low)
red_part-filled creator None holder low = tt
red_part-filled creator (Some best) None low = tt
red_part-filled creator (Some best) (Some holder) None = tt
red_part-filled creator (Some best) (Some holder) (Some low) =
    part_above-filled _ _ _ (λ lt. (omega arith, omega arith))

reds_of-filled : (summaries : List Summary) (creator : ℕ) → AreFilled (reds_of summaries creator)
unfolding reds_of
reds_of-filled summaries creator =
    red_part-filled creator (most_updated summaries) (farthest summaries creator) (least_reds summaries creator)

pub plan-filled : (summaries : List Summary) → AreFilled (plan_of summaries)
unfolding plan_of
plan-filled summaries =
    AreFilled-append (green_part (most_updated summaries) (least_greens summaries))
    (flat_map (reds_of summaries) (creators summaries))
    (green_part-filled (most_updated summaries) (least_greens summaries))
    (AreFilled-flat_map (reds_of summaries) (reds_of-filled summaries) (creators summaries))
