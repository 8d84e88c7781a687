-- The servers, and those that have left.
use Rattle.std.specs.Prelude.{ℕ, List}
use Rattle.cg_members.specs.declared.server.Server.{Server}

pub record Members : Type 0 where
  -- ascending
  pub servers : List Server
  pub left : List ℕ
