-- Weighted dynamic linear voting.
use Rattle.std.specs.Prelude.{ℕ, ◌*◌, ◌==◌, nat_lt, Bool, false, ◌&&◌, ◌||◌, List}
use Rattle.std.specs.Option.{option_map_or}
use Rattle.cg_base.specs.declared.weighted.Weighted.{Weighted}
use Rattle.cg_base.specs.Sets.{has, least}
use Rattle.cg_base.specs.Weights.{ids, total, total_of}

-- those present have more than half of the weight of the last primary component
abbrev pub has_more_than_half : List Weighted → List ℕ → Bool
has_more_than_half last here = nat_lt (total last) (2 * total_of last here)

-- they have exactly half of it
abbrev pub has_half : List Weighted → List ℕ → Bool
has_half last here = 2 * total_of last here == total last

-- its least member is present
abbrev pub has_least : List Weighted → List ℕ → Bool
has_least last here = option_map_or (has here) (least (ids last)) false

-- those present are a quorum: they have more than half, or exactly half with the least member
unfoldable pub is_quorum : List Weighted → List ℕ → Bool
is_quorum last here = has_more_than_half last here || (has_half last here && has_least last here)
