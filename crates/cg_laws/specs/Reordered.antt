-- Summaries in another order. Where no two are of one member, any order comes of any other by neighbours that change places.
use Rattle.std.specs.Prelude.{◌≡◌, ℕ, zero, suc, List, ◌∷◌, ◌++◌, Option}
use Rattle.cg_records.specs.declared.vulnerable.Vulnerable.{Vulnerable}
use Rattle.cg_knowledge.specs.declared.summary.Summary.{Summary}
use Rattle.cg_knowledge.specs.Summaries.{most_updated, gone}
use Rattle.cg_knowledge.specs.Primary.{known_primary, known_attempt}
use Rattle.cg_knowledge.specs.Yellow.{common_yellow}
use Rattle.cg_knowledge.specs.Vulnerable.{decided}
use Rattle.cg_knowledge.specs.Verdict.{decides}
use Rattle.cg_plan.specs.Plan.{plan_of}

-- two neighbours, of different members, have changed places
pub record AreExchanged (one other : List Summary) : Type 0 where
  pub earlier : List Summary
  pub first : Summary
  pub second : Summary
  pub later : List Summary
  pub apart : first.id ≡ second.id → ⊥
  pub is_one : one ≡ earlier ++ (first ∷ second ∷ later)
  pub is_other : other ≡ earlier ++ (second ∷ first ∷ later)

-- the second comes of the first by so many such changes
abbrev pub AreReordered : ℕ → List Summary → List Summary → Type 0
AreReordered zero one other = one ≡ other
AreReordered (suc n) one other = (between : List Summary) × AreExchanged one between × AreReordered n between other

-- both say the same: also what becomes of a member's record
pub record SayTheSame (one other : List Summary) : Type 0 where
  pub most : most_updated one ≡ most_updated other
  pub prim : known_primary one ≡ known_primary other
  pub attempt_index : known_attempt one ≡ known_attempt other
  pub yellow : common_yellow one ≡ common_yellow other
  pub vulnerable : (v : Option Vulnerable) → decided one v ≡ decided other v
  pub left : gone one ≡ gone other
  pub quorum : decides one ≡ decides other

abbrev pub KnowledgeTakesAnyOrder : Type 0
KnowledgeTakesAnyOrder = (n : ℕ) (one other : List Summary) → AreReordered n one other → SayTheSame one other

abbrev pub PlanTakesAnyOrder : Type 0
PlanTakesAnyOrder = (n : ℕ) (one other : List Summary) → AreReordered n one other → plan_of one ≡ plan_of other
