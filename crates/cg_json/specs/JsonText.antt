-- The objects of a JSON report: one for each step that shows anything, and one for the tail.
use Rattle.std.specs.Prelude.{ℕ, List, [], ◌++◌, codes, map, if◌then◌else◌}
use Rattle.serde_json.specs.Data.{Data, object, array, string, number, unsigned, member, no_members}
use Rattle.serde_json.specs.View.{items_of}
use Rattle.serde_json.specs.Written.{compact_text}
use Rattle.cg_report.specs.declared.entry.Entry.{Entry}
use Rattle.cg_report.specs.LineText.{line_text}
use Rattle.cg_report.specs.EntryText.{made_text, order_text, reply_text, shown_text, is_silent}

-- the lines of a step, without their ends and without the one that has its number
abbrev pub lines_of : Entry → List (List ℕ)
lines_of e = map made_text e.made ++ map order_text e.orders ++ map line_text e.lines
    ++ map reply_text e.replies ++ map shown_text e.shown

-- the object of a step: its lines, and its number
abbrev pub step_object : ℕ → List (List ℕ) → Data
step_object step lines = object (member (codes "lines") (array (items_of (map string lines)))
    (member (codes "step") (number (unsigned step)) no_members))

-- the object of a tail
abbrev pub tail_object : List ℕ → Data
tail_object tail = object (member (codes "tail") (string tail) no_members)

-- an object on a line of its own
abbrev pub object_line : Data → List ℕ
object_line d = compact_text d ++ codes "\n"

-- what a step puts: nothing, or its object
abbrev pub entry_json : ℕ → Entry → List ℕ
entry_json step e = if is_silent e then [] else object_line (step_object step (lines_of e))

-- what a tail puts, which is given without its end
abbrev pub tail_json : List ℕ → List ℕ
tail_json tail = object_line (tail_object tail)
