-- The retransmission plan: what is sent again in an exchange, in which order and by whom. The summaries are those of all
-- members, in any order.
use Rattle.std.specs.Prelude.{ℕ, suc, ◌==◌, max, nat_lt, Bool, ◌&&◌, ◌||◌, List, [], ◌∷◌, ◌++◌, Option, Some, None, map, filter, fold, flat_map, if◌then◌else◌}
use Rattle.cg_base.specs.Sets.{has, union}
use Rattle.cg_base.specs.Cuts.{index_in, creators_in}
use Rattle.cg_base.specs.Lists.{least_of}
use Rattle.cg_knowledge.specs.declared.summary.Summary.{Summary}
use Rattle.cg_knowledge.specs.Summaries.{most_updated, remaining}
use Rattle.cg_plan.specs.declared.parts.Part.TheVariants.{Greens, Reds}
use Rattle.cg_plan.specs.declared.parts.SentPart.{SentPart}

-- the items from above the first number up to the second, or no part where there are none
abbrev pub part_above : ℕ → ℕ → SentPart → List SentPart
part_above low high turn = if nat_lt low high then turn ∷ [] else []

-- the summaries of the remaining members
unfoldable pub of_remaining : List Summary → List Summary
of_remaining summaries = filter (λ s. has (remaining summaries) s.id) summaries

-- the greens that each remaining member has
unfoldable pub least_greens : List Summary → Option ℕ
least_greens summaries = least_of (map (λ s. s.green_count) (of_remaining summaries))

-- the greens that some remaining member lacks, sent by the most updated member
abbrev pub green_part : Option Summary → Option ℕ → List SentPart
green_part (Some best) (Some low) =
    part_above low best.green_count (record { sender = best.id; part = Greens (suc low) best.green_count })
green_part _ _ = []

-- of a creator's actions the first knows more, or as many and has the lower identifier
abbrev pub knows_more : ℕ → Summary → Summary → Bool
knows_more creator s t =
    nat_lt (index_in t.red_cut creator) (index_in s.red_cut creator)
    || ((index_in s.red_cut creator == index_in t.red_cut creator) && nat_lt s.id t.id)

-- the one of the two that knows more
abbrev pub farther : ℕ → Option Summary → Summary → Option Summary
farther creator None s = Some s
farther creator (Some best) s = if knows_more creator s best then Some s else Some best

-- the member that knows the most of a creator's actions, and among equals the lowest
unfoldable pub farthest : List Summary → ℕ → Option Summary
farthest summaries creator = fold (farther creator) None summaries

-- the creator's actions that each remaining member knows
unfoldable pub least_reds : List Summary → ℕ → Option ℕ
least_reds summaries creator = least_of (map (λ s. index_in s.red_cut creator) (of_remaining summaries))

-- a creator's reds that some remaining member lacks and that the most updated member doesn't have green
abbrev pub red_part : ℕ → Option Summary → Option Summary → Option ℕ → List SentPart
red_part creator (Some best) (Some holder) (Some low) =
    let from = max low (index_in best.green_cut creator) in
    let to = index_in holder.red_cut creator in
    part_above from to (record { sender = holder.id; part = Reds creator (suc from) to })
red_part creator _ _ _ = []

-- the part of one creator
unfoldable pub reds_of : List Summary → ℕ → List SentPart
reds_of summaries creator =
    red_part creator (most_updated summaries) (farthest summaries creator) (least_reds summaries creator)

-- the creators of which some member knows an action
unfoldable pub creators : List Summary → List ℕ
creators summaries = fold (λ set s. union set (creators_in s.red_cut)) [] summaries

-- the plan: first the greens, then each creator's reds
unfoldable pub plan_of : List Summary → List SentPart
plan_of summaries = green_part (most_updated summaries) (least_greens summaries)
    ++ flat_map (reds_of summaries) (creators summaries)
