-- The servers of a list: their names and lines, and what is always so of them.
use Rattle.std.specs.Prelude.{ℕ, ◌≤◌, ◌==◌, List, [], ◌∷◌, map, if◌then◌else◌}
use Rattle.cg_base.specs.Sets.{Ascends}
use Rattle.cg_members.specs.declared.server.Server.{Server}

-- the replicas that are servers
abbrev pub server_ids : List Server → List ℕ
server_ids servers = map (λ s. s.id) servers

-- the line of a server, 0 where it is none
abbrev pub line_of : List Server → ℕ → ℕ
line_of [] p = 0
line_of (s ∷ servers) p = if s.id == p then s.line else line_of servers p

-- each weight is one that a byte holds, and not 0
abbrev pub Count : List Server → Type 0
Count [] = Unit {0}
Count (s ∷ servers) = (1 ≤ s.weight) × (s.weight ≤ 255) × Count servers

-- the list is one of servers
pub record AreServers (servers : List Server) : Type 0 where
  pub ascend : Ascends 1 (server_ids servers)
  pub count : Count servers
