-- That what a run has put tells what its steps have shown.
use Rattle.std.specs.Prelude.{◌≡◌, ℕ, List, [], ◌++◌, map, Some}
use Rattle.std.specs.Option.{option_map_or}
use Rattle.cg_io.specs.Outside.{SourceView, SinkView}
use Rattle.cg_report.specs.declared.entry.Entry.{Entry}
use Rattle.cg_outcome.specs.declared.command.Command.TheVariants.{Replay}
use Rattle.cg_items.specs.declared.report.Report.{Report}
use Rattle.cg_outcome.specs.declared.status.Status.{Status}
use Rattle.cg_outcome.specs.Commands.{command_of}
use Rattle.cg_outcome.specs.Outcome.{outcome}
use Rattle.cg_items.specs.Items.{Item, entry_of}
use Rattle.cg_outcome.specs.Produced.{Produced}
use Rattle.cg_outcome.specs.Status.{tail_line}
use Rattle.cg_outcome.specs.Stopping.{IsFinding}
use Rattle.cg_outcome.specs.Taking.{Runs}
use Rattle.cg_laws.specs.Told.{trimmed}

-- A run of these words, which ask for such a report, has put these bytes, and no put of it was cut short.
pub record HasPut (report : Report) (words : List (List ℕ)) (bytes : List ℕ) : Type 0 where
  pub old : SourceView
  pub new : SourceView
  pub from : SinkView
  pub to : SinkView
  pub status : Status
  pub asked : command_of words ≡ Some (Replay report)
  pub ran : Runs (command_of words) old new from to status
  pub finding : IsFinding status
  pub before : List ℕ
  pub held : from.held ≡ Some before
  pub grown : to.held ≡ Some (before ++ bytes)

-- what such a run came to
abbrev pub come_to : (report : Report) (words : List (List ℕ)) (bytes : List ℕ) → HasPut report words bytes → Produced
come_to report words bytes run = outcome words run.ran.taken run.ran.ending

-- what items have shown
abbrev pub shown_by : List Item → List Entry
shown_by items = map entry_of items

-- the last line of what a run came to
abbrev pub last_line : Produced → List ℕ
last_line p = option_map_or (λ f. tail_line f.status p.progress.count f.lines) p.found []

-- two runs that have put the same bytes have shown the same, up to silent entries at the end, and have one last line
abbrev pub RunsTell : Report → List (List ℕ) → List (List ℕ) → Type 0
RunsTell report words others =
    (bytes : List ℕ) (one : HasPut report words bytes) (other : HasPut report others bytes) →
    let p = come_to report words bytes one in
    let q = come_to report others bytes other in
    (trimmed (shown_by p.items) ≡ trimmed (shown_by q.items)) × (last_line p ≡ last_line q)
