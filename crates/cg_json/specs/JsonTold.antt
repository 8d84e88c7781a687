-- What the objects of a JSON report tell.
use Rattle.std.specs.Prelude.{◌≡◌, ◌^◌, ◌<◌, ℕ, false, List, ◌∷◌, ◌++◌, Some, codes, decimal}
use Rattle.std.specs.List.{flat_map}
use Rattle.json.specs.Json.{document}
use Rattle.serde_json.specs.Written.{compact_text, outline}
use Rattle.cg_report.specs.declared.entry.Entry.{Entry}
use Rattle.cg_report.specs.EntryText.{is_silent, entry_text}
use Rattle.cg_json.specs.JsonText.{lines_of, step_object, tail_object}

-- a line with its end
abbrev pub with_end : List ℕ → List ℕ
with_end line = line ++ codes "\n"

-- the lines of a step's object are those of its text, after the one that has its number
abbrev pub HasItsLines : Type 0
HasItsLines = (step : ℕ) (e : Entry) → is_silent e ≡ false →
    entry_text step e ≡ flat_map with_end ((codes "= " ++ decimal step) ∷ lines_of e)

-- the text of a step's object is read as what it was made of: its lines as texts, and its number in decimal
abbrev pub StepsAreRead : Type 0
StepsAreRead = (step : ℕ) (lines : List (List ℕ)) → step < 2 ^ 64 →
    document (compact_text (step_object step lines)) ≡ Some (outline (step_object step lines))

-- so is that of a tail
abbrev pub TailsAreRead : Type 0
TailsAreRead = (tail : List ℕ) → document (compact_text (tail_object tail)) ≡ Some (outline (tail_object tail))

-- two steps whose objects have one text have the same lines
abbrev pub ObjectsTellTheirLines : Type 0
ObjectsTellTheirLines = (m n : ℕ) (xs ys : List (List ℕ)) → m < 2 ^ 64 → n < 2 ^ 64 →
    compact_text (step_object m xs) ≡ compact_text (step_object n ys) → xs ≡ ys
