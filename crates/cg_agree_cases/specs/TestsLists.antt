-- Tests of the facts about the lists of a world.
use Rattle.std.specs.Prelude.{ℕ, suc, nat_le, Bool, true, ◌&&◌, List, [], ◌∷◌, map}
use Rattle.std.specs.List.{list_all}
use Rattle.cg_members.specs.Servers.{is_server}
use Rattle.cg_model.specs.Chronicle.{Chronicle}

-- the numbers rise strictly, from the given one on
abbrev is_rising : ℕ → List ℕ → Bool
is_rising low [] = true
is_rising low (n ∷ list) = nat_le low n && is_rising (suc n) list

abbrev pub nodes_rise : Chronicle → Bool
nodes_rise c = is_rising 0 (map (λ s. s.id) c.world.nodes)

abbrev pub standings_rise : Chronicle → Bool
standings_rise c = is_rising 0 (map (λ s. s.id) c.world.group.replicas)

abbrev pub receivers_rise : Chronicle → Bool
receivers_rise c = list_all (λ k. list_all (is_rising 0) k.received) c.world.group.configurations

abbrev pub joiners_are_servers : Chronicle → Bool
joiners_are_servers c = list_all (λ s. is_server s.content.members s.joiner) c.world.snapshots
