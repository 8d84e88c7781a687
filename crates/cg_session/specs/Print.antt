-- The line that spells an event of a session.
use Rattle.std.specs.Prelude.{ℕ, List, ◌++◌, codes, decimal}
use Rattle.cg_action.specs.Print.{query_text, update_text}
use Rattle.cg_session.specs.declared.event.SessionEvent.{SessionEvent}
use Rattle.cg_session.specs.declared.event.SessionEvent.TheVariants.{Begin, Write, Weak}

abbrev pub line_of : SessionEvent → List ℕ
line_of (Begin s) = codes "session " ++ decimal s
line_of (Write s p cmds query) =
    codes "swrite " ++ decimal s ++ codes " " ++ decimal p ++ codes " " ++ update_text cmds query
line_of (Weak s p query) = codes "sweak " ++ decimal s ++ codes " " ++ decimal p ++ codes " " ++ query_text query
