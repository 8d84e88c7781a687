-- What holds of the members that green actions make.
use Rattle.std.specs.Prelude.{◌≡◌, ℕ, ◌≤◌, true, false, List, [], ◌∷◌}
use Rattle.cg_base.specs.Sets.{has}
use Rattle.cg_members.specs.declared.server.Server.{Server}
use Rattle.cg_members.specs.Members.{Members}
use Rattle.cg_members.specs.Servers.{is_server, after_green}
use Rattle.cg_members.specs.Listed.{line_of}
use Rattle.cg_action.specs.declared.action.Action.{Action}

-- no line is above the given green count
abbrev pub NoLineAbove : ℕ → List Server → Type 0
NoLineAbove count [] = Unit {0}
NoLineAbove count (s ∷ servers) = (s.line ≤ count) × NoLineAbove count servers

-- no server has left, and no line is above the count of the green actions
pub record AreApart (m : Members) (count : ℕ) : Type 0 where
  pub apart : (p : ℕ) → is_server m p ≡ true → has m.left p ≡ false
  pub lines : NoLineAbove count m.servers

-- behind one more green action no server that stays has a lower line
abbrev pub LinesNeverFall : Type 0
LinesNeverFall =
    (m : Members) (place : ℕ) (action : Action) (p : ℕ) → is_server m p ≡ true →
    is_server (after_green m place action) p ≡ true
    → line_of m.servers p ≤ line_of (after_green m place action).servers p
