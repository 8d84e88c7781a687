-- Facts about the lists of a world: those that are kept by a key ascend, and each snapshot is one for a server.
use Rattle.std.specs.Prelude.{ℕ, suc, ◌≤◌, List, [], ◌∷◌, map, IsTrue}
use Rattle.cg_members.specs.Servers.{is_server}
use Rattle.cg_wire.specs.declared.message.Msg.{Msg}
use Rattle.cg_group.specs.State.{Configuration}
use Rattle.cg_model.specs.World.{TransferState}
use Rattle.cg_model.specs.Chronicle.{Chronicle}

-- the numbers rise strictly, from the given one on
abbrev pub IsRising : ℕ → List ℕ → Type 0
IsRising low [] = Unit {0}
IsRising low (n ∷ list) = (low ≤ n) × IsRising (suc n) list

-- those who have received each place are sets
abbrev pub AreRising : List (List ℕ) → Type 0
AreRising [] = Unit {0}
AreRising (set ∷ sets) = IsRising 0 set × AreRising sets

abbrev pub AreReceived : List (Configuration Msg) → Type 0
AreReceived [] = Unit {0}
AreReceived (c ∷ list) = AreRising c.received × AreReceived list

-- the joiner of each snapshot is a server, as the snapshot has it
abbrev pub AreForServers : List TransferState → Type 0
AreForServers [] = Unit {0}
AreForServers (s ∷ list) = IsTrue (is_server s.content.members s.joiner) × AreForServers list

pub record ListFacts (c : Chronicle) : Type 0 where
  pub nodes : IsRising 0 (map (λ s. s.id) c.world.nodes)
  pub standings : IsRising 0 (map (λ s. s.id) c.world.group.replicas)
  pub received : AreReceived c.world.group.configurations
  pub served : AreForServers c.world.snapshots
