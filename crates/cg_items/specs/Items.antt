-- What a run comes to, one event after another: steps of the world, and what a command's own events do beside it.
use Rattle.std.specs.Prelude.{ℕ, List, [], ◌∷◌, ◌++◌, Option, map, codes, decimal}
use Rattle.std.specs.List.{flat_map}
use Rattle.std.specs.Option.{option_map_or}
use Rattle.cg_base.specs.Lists.{present}
use Rattle.cg_report.specs.declared.entry.Entry.{Entry}
use Rattle.cg_report.specs.NoEntry.{no_entry}
use Rattle.cg_report.specs.EntryText.{body_text, entry_text}
use Rattle.cg_json.specs.JsonText.{entry_json}
use Rattle.cg_model.specs.Run.{Step}
use Rattle.cg_items.specs.declared.companion.Further.{Further}
use Rattle.cg_items.specs.declared.companion.FurtherLine.{FurtherLine}
use Rattle.cg_items.specs.declared.report.Report.{Report}
use Rattle.cg_items.specs.declared.report.Report.TheVariants.{Whole, Json}
use Rattle.cg_items.specs.FurtherText.{further_text}

-- One event that was made, with its number: the further event, where it was one; the step of the world, where it makes one;
-- and the further lines, which stand behind those of the step.
pub record Item : Type 0 where
  pub number : ℕ
  pub further : Option Further
  pub step : Option Step
  pub lines : List FurtherLine

-- the steps of the world among them
abbrev pub steps_of : List Item → List Step
steps_of items = present (map (λ i. i.step) items)

-- what an item shows of the world
abbrev pub entry_of : Item → Entry
entry_of i = option_map_or (λ s. s.entry) i.step no_entry

-- what an item puts: nothing where it shows nothing, else its number, what it shows of the world, and the further lines
abbrev pub item_text : ℕ → Entry → List FurtherLine → List ℕ
item_text number entry [] = entry_text number entry
item_text number entry (l ∷ lines) =
    codes "= " ++ decimal number ++ codes "\n" ++ body_text entry ++ flat_map further_text (l ∷ lines)

-- what is put of it in a report
abbrev pub entry_in : Report → ℕ → Entry → List FurtherLine → List ℕ
entry_in Whole number entry lines = item_text number entry lines
entry_in Json number entry lines = entry_json number entry
entry_in other number entry lines = []

-- what is put of an item, and of items
abbrev pub item_in : Report → Item → List ℕ
item_in report i = entry_in report i.number (entry_of i) i.lines

abbrev pub report_in : Report → List Item → List ℕ
report_in report items = flat_map (item_in report) items
