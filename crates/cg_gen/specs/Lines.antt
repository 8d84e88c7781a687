-- The lines that spell a list of events.
use Rattle.std.specs.Prelude.{ℕ, List, [], ◌∷◌, ◌++◌, flat_map}
use Rattle.cg_base.specs.Ascii.{LINE_FEED}
use Rattle.cg_schedule.specs.declared.event.Event.{Event}
use Rattle.cg_schedule.specs.Print.{line_of}

-- the line of each event, with its end
abbrev pub lines_of : List Event → List ℕ
lines_of events = flat_map (λ event. line_of event ++ LINE_FEED ∷ []) events
