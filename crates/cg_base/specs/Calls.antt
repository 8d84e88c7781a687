-- What single calls of sets, names and cuts answer.
use Rattle.std.specs.Prelude.{ℕ, min, ◌==◌, nat_lt, Bool, true, false, not, ◌&&◌, List, [], ◌∷◌, Option, map, filter, fold, if◌then◌else◌}
use Rattle.cg_base.specs.declared.action_id.ActionId.{ActionId}
use Rattle.cg_base.specs.declared.weighted.Weighted.{Weighted}
use Rattle.cg_base.specs.Sets.{least}
use Rattle.cg_base.specs.Ids.{same_id}
use Rattle.cg_base.specs.Cuts.{index_in, raise}

-- the least member above the given one
abbrev pub next_after : List ℕ → ℕ → Option ℕ
next_after set p = least (filter (nat_lt p) set)

-- the weight of a replica, 0 where it is no member
abbrev pub weight_in : List Weighted → ℕ → ℕ
weight_in [] p = 0
weight_in (m ∷ set) p = if m.id == p then m.weight else weight_in set p

-- the two lists are one
abbrev pub same_ids : List ActionId → List ActionId → Bool
same_ids [] [] = true
same_ids (a ∷ rest) (b ∷ others) = same_id a b && same_ids rest others
same_ids _ _ = false

-- the name, or the last one of the same creator in the cut if that is lesser
abbrev pub lesser_top : List ActionId → ActionId → ActionId
lesser_top cut id = record id { index = min id.index (index_in cut id.creator) }

-- what lies in both cuts: of each creator the lesser index
abbrev pub least_cut : List ActionId → List ActionId → List ActionId
least_cut c d = filter (λ top. not (top.index == 0)) (map (lesser_top d) c)

-- what lies in either cut: of each creator the greater index
abbrev pub greatest_cut : List ActionId → List ActionId → List ActionId
greatest_cut c d = fold raise c d
