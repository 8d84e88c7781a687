-- The yellow actions that the members have in common.
use Rattle.std.specs.Prelude.{Bool, true, false, not, ◌&&◌, nat_le, List, [], Option, Some, None, filter}
use Rattle.std.specs.Option.{option_map_or}
use Rattle.std.specs.List.{list_all}
use Rattle.cg_base.specs.declared.action_id.ActionId.{ActionId}
use Rattle.cg_base.specs.Ids.{has_name}
use Rattle.cg_base.specs.Cuts.{index_in}
use Rattle.cg_records.specs.declared.yellow.Yellow.{Yellow}
use Rattle.cg_knowledge.specs.declared.summary.Summary.{Summary}
use Rattle.cg_knowledge.specs.Summaries.{most_updated, lowest}
use Rattle.cg_knowledge.specs.Primary.{newest}

-- the members of the last primary component whose yellow list is valid
unfoldable pub yellow_group : List Summary → List Summary
yellow_group summaries = filter (λ s. s.yellow.valid) (newest summaries)

-- the action is green at the most updated member
unfoldable pub is_green_at_most : List Summary → ActionId → Bool
is_green_at_most summaries id =
    option_map_or (λ s. nat_le id.index (index_in s.green_cut id.creator)) (most_updated summaries) false

-- the action stands in the list of each member of the group
unfoldable pub is_in_each : List Summary → ActionId → Bool
is_in_each group id = list_all (λ s. has_name s.yellow.list id) group

-- the action stands in each list, and isn't green at the most updated member
abbrev pub is_common : List Summary → ActionId → Bool
is_common summaries id = is_in_each (yellow_group summaries) id && not (is_green_at_most summaries id)

-- what the lists of the group have in common, in the order of its lowest member's list. A group of nobody has no list
abbrev pub yellow_of : List Summary → Option Summary → Yellow
yellow_of summaries None = record { valid = false; list = [] }
yellow_of summaries (Some s) = record { valid = true; list = filter (is_common summaries) s.yellow.list }

-- the yellow actions that the group has in common
unfoldable pub common_yellow : List Summary → Yellow
common_yellow summaries = yellow_of summaries (lowest (yellow_group summaries))
