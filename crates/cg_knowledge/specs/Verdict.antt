-- Whether the members may form the next primary component.
use Rattle.std.specs.Prelude.{Bool, ◌&&◌, is_none, List, Option, map}
use Rattle.std.specs.List.{list_all}
use Rattle.cg_vote.specs.Quorum.{is_quorum}
use Rattle.cg_records.specs.declared.vulnerable.Vulnerable.{Vulnerable}
use Rattle.cg_knowledge.specs.declared.summary.Summary.{Summary}
use Rattle.cg_knowledge.specs.Summaries.{remaining}
use Rattle.cg_knowledge.specs.Primary.{known_primary}
use Rattle.cg_knowledge.specs.Vulnerable.{decided}

-- what becomes of each member's record
unfoldable pub records_of : List Summary → List (Option Vulnerable)
records_of summaries = map (λ s. decided summaries s.vulnerable) summaries

-- no record of any member stays
unfoldable pub all_cleared : List Summary → Bool
all_cleared summaries = list_all is_none (records_of summaries)

-- the remaining members are a quorum of the known primary component, and no record stays
unfoldable pub decides : List Summary → Bool
decides summaries = is_quorum (known_primary summaries).set (remaining summaries) && all_cleared summaries
