-- How servers lie in a set with weights and an array of lines.
use Rattle.std.specs.Prelude.{ℕ, List, map}
use Rattle.cg_base.specs.declared.weighted.Weighted.{Weighted}
use Rattle.cg_base.specs.Slots.{array_slot}
use Rattle.cg_base.specs.Iterators.{weights_left}
use Rattle.cg_members.specs.declared.server.Server.{Server}
use Rattle.cg_members.specs.declared.server_set.ServerIter.{ServerIter}

-- a member with the line that stands in its slot
abbrev pub server_with : List ℕ → Weighted → Server
server_with lines m = record { id = m.id; line = array_slot lines m.id; weight = m.weight }

-- what an iterator over servers has left
abbrev pub servers_left : ServerIter → List Server
servers_left s = map (server_with s.lines) (weights_left s.weights)
