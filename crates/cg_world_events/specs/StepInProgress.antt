-- An event on the way, and its lines as they are looked for.
use Rattle.std.specs.Prelude.{◌≡◌, ℕ, List, ◌++◌, [], ◌∷◌, if◌then◌else◌}
use Rattle.cg_base.specs.Sets.{has}
use Rattle.cg_report.specs.declared.line.Line.{Line}
use Rattle.cg_model.specs.World.{Node, World}
use Rattle.cg_model.specs.Show.{StepInProgress, is_news, line_of}
use Rattle.cg_model.specs.Step.{quietly}

-- nothing has come of an event yet
abbrev pub IsQuiet : StepInProgress → Type 0
IsQuiet g = g ≡ quietly g.world

-- the line too, where it is news
abbrev pub with_news : List Line → List Line → Line → List Line
with_news old lines l = if is_news old l then lines ++ l ∷ [] else lines

-- the line of a replica too, where it is one of these and its line is news
abbrev pub with_line : List ℕ → World → List Line → Node → List Line
with_line set w lines s = if has set s.id then with_news w.lines lines (line_of w.group s) else lines
