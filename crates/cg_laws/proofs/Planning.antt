-- What the members send again, where two neighbours among their summaries change places, and what both laws say of many such changes.
use Rattle.std.proofs.Common.{◌≡◌, ℕ, zero, suc, List, [], ◌++◌, filter, flat_map, None, inl, inr, ap, subst, ◌∙◌}
use Rattle.cg_base.specs.Sets.{has}
use Rattle.cg_base.specs.Cuts.{index_in, creators_in}
use Rattle.cg_knowledge.specs.declared.summary.Summary.{Summary}
use Rattle.cg_knowledge.specs.Summaries.{remaining}
use Rattle.cg_plan.specs.Plan.{of_remaining, green_part, least_greens, farther, farthest, least_reds, red_part, reds_of, creators, plan_of}
use Rattle.cg_laws.specs.Reordered.{SayTheSame, KnowledgeTakesAnyOrder, PlanTakesAnyOrder}
use Rattle.cg_laws.proofs.Near.{Near, near-filter, near-fold, near-least}
use Rattle.cg_laws.proofs.Best.{better-commutes}
use Rattle.cg_laws.proofs.Joined.{union-swapped}
use Rattle.cg_laws.proofs.Knowing.{same-most, same-remaining, near-say}

module _ (one other : List Summary) (near : Near one other) where
  near-of_remaining : Near (of_remaining one) (of_remaining other)
  unfolding of_remaining
  near-of_remaining =
      subst (λ set. Near (filter (λ s. has (remaining one) s.id) one) (filter (λ s. has set s.id) other)) (same-remaining one other near)
      (near-filter (λ s. has (remaining one) s.id) one other near)

  same-least_greens : least_greens one ≡ least_greens other
  unfolding least_greens
  same-least_greens = near-least (λ s. s.green_count) (of_remaining one) (of_remaining other) near-of_remaining

  same-farthest : (creator : ℕ) → farthest one creator ≡ farthest other creator
  unfolding farthest
  same-farthest creator = near-fold (farther creator) (better-commutes (λ s. index_in s.red_cut creator)) None one other near

  same-least_reds : (creator : ℕ) → least_reds one creator ≡ least_reds other creator
  unfolding least_reds
  same-least_reds creator = near-least (λ s. index_in s.red_cut creator) (of_remaining one) (of_remaining other) near-of_remaining

  same-reds_of : (creator : ℕ) → reds_of one creator ≡ reds_of other creator
  unfolding reds_of
  same-reds_of creator i = red_part creator (same-most one other near i) (same-farthest creator i) (same-least_reds creator i)

  same-creators : creators one ≡ creators other
  unfolding creators
  same-creators = near-fold _ (λ s t apart set. union-swapped set (creators_in s.red_cut) (creators_in t.red_cut)) [] one other near

  near-plan : plan_of one ≡ plan_of other
  unfolding plan_of
  near-plan i = green_part (same-most one other near i) (same-least_greens i) ++ flat_map (λ creator. same-reds_of creator i) (same-creators i)

-- ---- many changes

say-through : (one between other : List Summary) → SayTheSame one between → SayTheSame between other → SayTheSame one other
say-through one between other first later = record {
  most = first.most ∙ later.most;
  prim = first.prim ∙ later.prim;
  attempt_index = first.attempt_index ∙ later.attempt_index;
  yellow = first.yellow ∙ later.yellow;
  vulnerable = λ v. first.vulnerable v ∙ later.vulnerable v;
  left = first.left ∙ later.left;
  quorum = first.quorum ∙ later.quorum;
}

pub knowledge-any_order : KnowledgeTakesAnyOrder
knowledge-any_order zero one other same = near-say one other (inl same)
knowledge-any_order (suc n) one other (between, exchanged, more) =
    say-through one between other (near-say one between (inr exchanged)) (knowledge-any_order n between other more)

pub plan-any_order : PlanTakesAnyOrder
plan-any_order zero one other same = ap plan_of same
plan-any_order (suc n) one other (between, exchanged, more) = near-plan one between (inr exchanged) ∙ plan-any_order n between other more
