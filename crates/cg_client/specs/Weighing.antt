-- The weights of an attempt's members.
use Rattle.std.specs.Prelude.{ℕ, max, List, map}
use Rattle.cg_base.specs.declared.weighted.Weighted.{Weighted}
use Rattle.cg_members.specs.Members.{Members}
use Rattle.cg_members.specs.Servers.{weight_of}

-- the members of an attempt, each with the weight that it has as a server, and 1 where it is none
abbrev pub weighted : Members → List ℕ → List Weighted
weighted m set = map (λ p. record { id = p; weight = max 1 (weight_of m.servers p) }) set
