-- The member that a pass over the summaries leads to has the most greens and the lowest identifier.
use Rattle.std.proofs.Common.{◌≡◌, suc, ◌<◌, ◌≤◌, Bool, true, false, cond, ◌&&◌, List, [], ◌∷◌, get_or, Option, Some, refl, sym, subst, ◌∙◌, arith, ◌⊎◌, inl, inr}
use Rattle.std.specs.Prelude.{nat_lt, ◌==◌, MatchOption}
use Rattle.std.specs.List.{All, Contains, fold}
use Rattle.std.proofs.lemmas.Bool.{cases_Bool, ltb-true, ltb-false, eqb-true, eq-eqb, or_cases, or_parts, and_parts, and_from}
use Rattle.std.proofs.lemmas.List.Elements.{All-nil, All-cons}
use Rattle.cg_knowledge.specs.declared.summary.Summary.{Summary}
use Rattle.cg_knowledge.specs.Summaries.{leads, leader, most_updated}
use Rattle.cg_knowledge.specs.Laws.{IsMostUpdated, HasMostUpdated}

-- the first has more greens, or as many and no higher identifier
abbrev Ahead : Summary → Summary → Type 0
Ahead b s = (s.green_count < b.green_count) ⊎ ((s.green_count ≡ b.green_count) × (b.id ≤ s.id))

ahead_through : (a b c : Summary) → Ahead a b → Ahead b c → Ahead a c
ahead_through a b c (inl x) (inl y) = inl (omega arith)
ahead_through a b c (inl x) (inr (e, y)) = inl (omega arith)
ahead_through a b c (inr (d, x)) (inl y) = inl (omega arith)
ahead_through a b c (inr (d, x)) (inr (e, y)) = inr (e ∙ d, omega arith)

leads_ahead : (s t : Summary) → leads s t ≡ true → Ahead s t
leads_ahead s t is = elim (or_cases (nat_lt t.green_count s.green_count) ((s.green_count == t.green_count) && nat_lt s.id t.id) is) [
  | inl more ↦ inl (ltb-true t.green_count s.green_count more)
  | inr both ↦
      let parts = and_parts (s.green_count == t.green_count) (nat_lt s.id t.id) both in
      let lower : s.id < t.id = ltb-true s.id t.id parts.1 in
      inr (sym (eqb-true s.green_count t.green_count parts.0), omega arith)
]

trails_behind : (s t : Summary) → leads s t ≡ false → Ahead t s
trails_behind s t is =
    let parts = or_parts (nat_lt t.green_count s.green_count) ((s.green_count == t.green_count) && nat_lt s.id t.id) is in
    let most : s.green_count ≤ t.green_count = ltb-false t.green_count s.green_count parts.0 in
    elim (cases_Bool (nat_lt s.green_count t.green_count)) [
      | inl fewer ↦ inl (ltb-true s.green_count t.green_count fewer)
      | inr none ↦
          let least : t.green_count ≤ s.green_count = ltb-false s.green_count t.green_count none in
          let same : s.green_count ≡ t.green_count = omega arith in
          elim (cases_Bool (nat_lt s.id t.id)) [
            | inl lower ↦ let clash : true ≡ false = sym (and_from (s.green_count == t.green_count) (nat_lt s.id t.id) (eq-eqb s.green_count t.green_count same) lower) ∙ parts.1 in absurd (cc)
            | inr higher ↦ inr (same, ltb-false s.id t.id higher)
          ]
    ]

one_more : (s best : Summary) (left : List Summary) → Contains left best → Contains (s ∷ left) best
one_more s best left (k, lt, at) = (suc k, omega arith, at)

first_or_left : (s best : Summary) (left : List Summary) → (best ≡ s) ⊎ Contains left best → Contains (s ∷ left) best
first_or_left s best left (inl same) = (0, omega arith, sym same)
first_or_left s best left (inr there) = one_more s best left there

-- what a pass leads to that has led to a member, and has others before it
record Chosen (found : Option Summary) (first : Summary) (left : List Summary) : Type 0 where
  best : Summary
  is_found : found ≡ Some best
  ahead_of_first : Ahead best first
  ahead : All (Ahead best) left
  from : (best ≡ first) ⊎ Contains left best

abbrev IsChosen : List Summary → Type 0
IsChosen left = (first : Summary) → Chosen (fold leader (Some first) left) first left

next : (s : Summary) (left : List Summary) (first : Summary) → IsChosen left → (flag : Bool) → leads s first ≡ flag
    → Chosen (fold leader (cond flag (Some s) (Some first)) left) first (s ∷ left)
next s left first later true is =
    let c = later s in
    record {
      best = c.best;
      is_found = c.is_found;
      ahead_of_first = ahead_through c.best s first c.ahead_of_first (leads_ahead s first is);
      ahead = All-cons (Ahead c.best) s left c.ahead_of_first c.ahead;
      from = inr (first_or_left s c.best left c.from);
    }
next s left first later false is =
    let c = later first in
    record {
      best = c.best;
      is_found = c.is_found;
      ahead_of_first = c.ahead_of_first;
      ahead = All-cons (Ahead c.best) s left (ahead_through c.best first s c.ahead_of_first (trails_behind s first is)) c.ahead;
      from = elim c.from [ inl same ↦ inl same | inr there ↦ inr (one_more s c.best left there) ];
    }

chosen : (left : List Summary) → IsChosen left
chosen [] first = record { best = first; is_found = refl; ahead_of_first = inr (refl, omega arith); ahead = All-nil (Ahead first); from = inl refl }
chosen (s ∷ left) first = next s left first (chosen left) (leads s first) refl

no_more : (b s : Summary) → Ahead b s → s.green_count ≤ b.green_count
no_more b s (inl fewer) = omega arith
no_more b s (inr (same, lower)) = omega arith

no_lower : (b s : Summary) → Ahead b s → s.green_count ≡ b.green_count → b.id ≤ s.id
no_lower b s (inl fewer) same = absurd (omega arith)
no_lower b s (inr (is, lower)) same = lower

is_most : (s : Summary) (left : List Summary) (c : Chosen (fold leader (Some s) left) s left) → IsMostUpdated (s ∷ left) c.best
is_most s left c =
    let all = All-cons (Ahead c.best) s left c.ahead_of_first c.ahead in
    record {
      is_one = first_or_left s c.best left c.from;
      has_most = λ k d lt. no_more c.best (get_or (s ∷ left) k d) (all k d lt);
      is_lowest = λ k d lt. no_lower c.best (get_or (s ∷ left) k d) (all k d lt);
    }

pub has_most_updated : HasMostUpdated
unfolding most_updated
has_most_updated [] = refl
has_most_updated (s ∷ summaries) =
    let c = chosen summaries s in
    subst (λ o. MatchOption o (s ∷ summaries ≡ []) (IsMostUpdated (s ∷ summaries))) (sym c.is_found) (is_most s summaries c)
