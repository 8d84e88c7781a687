-- The last primary component that the members know of.
use Rattle.std.specs.Prelude.{ℕ, ◌==◌, Bool, List, [], map, filter}
use Rattle.std.specs.Option.{option_map_or}
use Rattle.cg_base.specs.Lists.{greatest}
use Rattle.cg_records.specs.declared.primary.Primary.{Primary}
use Rattle.cg_knowledge.specs.declared.summary.Summary.{Summary}
use Rattle.cg_knowledge.specs.Summaries.{lowest}

-- the greatest primary index
unfoldable pub newest_index : List Summary → ℕ
newest_index summaries = greatest (map (λ s. s.prim.index) summaries)

-- the member knows of the primary component with that index
abbrev pub knows_prim : ℕ → Summary → Bool
knows_prim index s = s.prim.index == index

-- the members that have the greatest primary index
unfoldable pub newest : List Summary → List Summary
newest summaries = filter (knows_prim (newest_index summaries)) summaries

-- the primary component before the first one, of nobody
abbrev pub no_prim : Primary
no_prim = record { index = 0; conf = 0; set = [] }

-- the known primary component: that of the lowest member with the greatest primary index
unfoldable pub known_primary : List Summary → Primary
known_primary summaries = option_map_or (λ s. s.prim) (lowest (newest summaries)) no_prim

-- the known attempt index: the greatest of the members with the greatest primary index
unfoldable pub known_attempt : List Summary → ℕ
known_attempt summaries = greatest (map (λ s. s.attempt_index) (newest summaries))
