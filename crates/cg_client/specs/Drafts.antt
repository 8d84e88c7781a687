-- A core and a draft as the turn of a replica.
use Rattle.std.specs.Prelude.{false, []}
use Rattle.cg_client.specs.declared.parts.DraftParts.{DraftParts}
use Rattle.cg_client.specs.Replica.{Held, State}
use Rattle.cg_client.specs.Turn.{Turn}

-- nothing was brought about yet
abbrev pub no_parts : DraftParts
no_parts = record { known = []; green = []; made = []; sent = []; replies = []; marked_own = false }

-- what a core holds, in a state, with what a draft has
abbrev pub turn_with : Held → State → DraftParts → Turn
turn_with h state d =
    record {
      replica = record { held = h; state = state };
      known = d.known;
      green = d.green;
      made = d.made;
      sent = d.sent;
      replies = d.replies;
      marked_own = d.marked_own;
    }
