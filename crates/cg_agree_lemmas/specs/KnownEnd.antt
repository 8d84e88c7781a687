-- At the end of a plan a member that remains knows of each creator all that some member knew.
use Rattle.std.proofs.Common.{◌≡◌, ℕ, ◌≤◌, List, [], length, Option, Some, None, IfSome, sym, ap, ◌∙◌, ⊎_elim, arith}
use Rattle.std.specs.Option.{option_map_or}
use Rattle.std.proofs.lemmas.Bool.{cases_Bool}
use Rattle.cg_base.specs.declared.weighted.Weighted.{Weighted}
use Rattle.cg_base.specs.Cuts.{index_in}
use Rattle.cg_base.specs.Sets.{has}
use Rattle.cg_queue.specs.Queue.{names_of}
use Rattle.cg_knowledge.specs.declared.summary.Summary.{Summary}
use Rattle.cg_knowledge.specs.Summaries.{most_updated}
use Rattle.cg_plan.specs.Items.{items_of_plan}
use Rattle.cg_plan.specs.Plan.{least_reds, creators, plan_of}
use Rattle.cg_client.specs.Replica.{Held}
use Rattle.cg_model.specs.Chronicle.{Told}
use Rattle.cg_disk_records.specs.Holds.{cut_behind}
use Rattle.cg_model.specs.Talk.{known_up_to}
use Rattle.cg_agree_lemmas.specs.KnownBounds.{known-most, most-known, unknown-creator}
use Rattle.cg_agree_lemmas.specs.PlanItems.{plan-within, plan-reaches, plan-greens}
use Rattle.cg_agree_lemmas.specs.PlanProgress.{AreBeside, IsBehind, greens_there, taken-all}

-- what is known of a creator: no more than some member knew, and no less
pub end-known : (start : List Weighted) (heard : List Summary) (low n : ℕ) (best mine : Told) (h : Held) (creator : ℕ) → AreBeside heard low best mine → IsBehind start heard low n best mine h →
    length (items_of_plan (plan_of heard)) ≤ n → index_in mine.summary.red_cut creator ≤ known_up_to heard creator → index_in best.summary.red_cut creator ≤ known_up_to heard creator →
    index_in best.summary.green_cut creator ≤ index_in best.summary.red_cut creator → (least_reds heard creator ≡ None → ⊥) → index_in h.queue.red_cut creator ≡ known_up_to heard creator
end-known start heard low n best mine h creator beside is all own top green some =
    let e = is.red creator in
    let count = beside.count in
    let below = beside.below in
    let above = beside.above in
    let past = plan-greens heard best.summary low beside.most beside.least n all in
    let whole = taken-all (greens_there low n best mine) best.greens (omega arith) in
    let cut : index_in h.queue.green_cut creator ≡ index_in best.summary.green_cut creator =
    ap (λ cut. index_in cut creator) (is.oneself.made_of.green_cut ∙ ap (λ xs. cut_behind [] (names_of xs)) whole ∙ sym beside.cut) in
    let within = plan-within heard best.summary low beside.most beside.least n creator in
    let most = most-known heard creator in
    let least = known-most heard creator in
    let floor : option_map_or (λ (x : Summary). index_in x.green_cut creator) (most_updated heard) 0 ≡ index_in best.summary.green_cut creator =
    ap (λ o. option_map_or (λ (x : Summary). index_in x.green_cut creator) o 0) beside.most in
    let reds = lowest (least_reds heard creator) (beside.reds creator) in
    ⊎_elim
    (λ there. (let reach = plan-reaches heard best.summary low beside.most beside.least n creator all some there in omega arith))
    (λ none. (let zero = unknown-creator heard creator none in omega arith))
    (cases_Bool (has (creators heard) creator))
  where
    lowest : (o : Option ℕ) → IfSome o (λ k. k ≤ index_in mine.summary.red_cut creator) → option_map_or (λ n. n) o 0 ≤ index_in mine.summary.red_cut creator
    lowest None le = omega arith
    lowest (Some k) le = le
