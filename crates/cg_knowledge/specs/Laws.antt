-- What the members' knowledge means, as laws over the definitions.
use Rattle.std.specs.Prelude.{◌≡◌, ◌≤◌, true, List, [], MatchOption}
use Rattle.std.specs.List.{All, Contains}
use Rattle.cg_base.specs.Ids.{has_name}
use Rattle.cg_vote.specs.Sharing.{ShareMember}
use Rattle.cg_knowledge.specs.declared.summary.Summary.{Summary}
use Rattle.cg_knowledge.specs.Summaries.{most_updated, remaining}
use Rattle.cg_knowledge.specs.Primary.{known_primary}
use Rattle.cg_knowledge.specs.Yellow.{yellow_group, common_yellow}
use Rattle.cg_knowledge.specs.Verdict.{decides}

-- one of the members: none has more greens, and none that has as many has a lower identifier
pub record IsMostUpdated (summaries : List Summary) (best : Summary) : Type 0 where
  pub is_one : Contains summaries best
  pub has_most : All (λ s. s.green_count ≤ best.green_count) summaries
  pub is_lowest : All (λ s. s.green_count ≡ best.green_count → best.id ≤ s.id) summaries

-- among any members there is the most updated one
abbrev pub HasMostUpdated : Type 0
HasMostUpdated = (summaries : List Summary) →
    MatchOption (most_updated summaries) (summaries ≡ []) (IsMostUpdated summaries)

-- two sets of members that may both go on from one primary component have a member of it in common
abbrev pub DecidersMeet : Type 0
DecidersMeet =
    (one other : List Summary) → decides one ≡ true → decides other ≡ true →
    (known_primary one).set ≡ (known_primary other).set
    → ShareMember (known_primary one).set (remaining one) (remaining other)

-- a common yellow action stands in the list of each member of the group
abbrev pub CommonStandsInEach : Type 0
CommonStandsInEach = (summaries : List Summary) →
    All (λ id. All (λ s. has_name s.yellow.list id ≡ true) (yellow_group summaries)) (common_yellow summaries).list
