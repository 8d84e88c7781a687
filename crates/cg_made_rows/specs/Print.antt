-- The lines that ask for the relaxed database, and those that show it, without their ends.
use Rattle.std.specs.Prelude.{ℕ, List, ◌++◌, codes, decimal}
use Rattle.std.specs.Fmt.{signed_decimal}
use Rattle.cg_text.specs.Quoted.{quoted}
use Rattle.cg_action.specs.Print.{want_text}
use Rattle.cg_relaxed.specs.declared.cell.Cell.{Cell}
use Rattle.cg_made_rows.specs.declared.relaxed_event.RelaxedEvent.{RelaxedEvent}
use Rattle.cg_made_rows.specs.declared.relaxed_event.RelaxedEvent.TheVariants as event
use Rattle.cg_made_rows.specs.declared.relaxed_line.RelaxedLine.{RelaxedLine}
use Rattle.cg_made_rows.specs.declared.relaxed_line.RelaxedLine.TheVariants.{One, Both}

-- the line that spells an event
abbrev pub line_of : RelaxedEvent → List ℕ
line_of (event.One p key) = codes "relaxed " ++ decimal p ++ codes " " ++ quoted key
line_of (event.Both p q key) = codes "joined " ++ decimal p ++ codes " " ++ decimal q ++ codes " " ++ quoted key

abbrev pub cell_text : Cell → List ℕ
cell_text c = want_text c.value ++ codes " " ++ signed_decimal c.sum

-- a line that shows what is known
abbrev pub relaxed_text : RelaxedLine → List ℕ
relaxed_text (One p cell) = codes "relaxed " ++ decimal p ++ codes " " ++ cell_text cell
relaxed_text (Both p q cell) = codes "joined " ++ decimal p ++ codes " " ++ decimal q ++ codes " " ++ cell_text cell
