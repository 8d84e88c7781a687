-- What putting a part of a run comes to: it was cut short, the run has ended, or it goes on with the rest.
use Rattle.std.specs.Prelude.{◌≡◌, ℕ, List, ⊤, Option, Some}
use Rattle.cg_io.specs.Outside.{SinkView, PutsAll}
use Rattle.cg_base.specs.Lists.{Each}
use Rattle.cg_short.specs.Short.{IsShortEntry}
use Rattle.cg_items.specs.Items.{Item, entry_of, report_in}
use Rattle.cg_outcome.specs.Produced.{Produced, prepend, text_of, status_of}
use Rattle.cg_items.specs.declared.report.Report.{Report}
use Rattle.cg_items.specs.declared.report.Report.TheVariants.{Imaged}
use Rattle.cg_model.specs.World.{World}
use Rattle.cg_outcome.specs.declared.status.Status.{Status}
use Rattle.cg_outcome.specs.declared.status.Status.TheVariants as status
use Rattle.cg_outcome.specs.Putting.{PutsPart, StopsWith}

-- putting the text was cut short, by a fault or for want of memory
abbrev pub CutShort : List ℕ → SinkView → SinkView → Status → Type 0
CutShort text old new status.WriteFault = PutsPart old new text 1
CutShort text old new status.NoMemory = PutsPart old new text 0
CutShort text old new other = ⊥

-- a status that a run can find
abbrev pub IsFinding : Status → Type 0
IsFinding status.WriteFault = ⊥
IsFinding status.NoMemory = ⊥
IsFinding other = ⊤

-- a status that ends a run before it is done
abbrev pub IsUndone : Status → Type 0
IsUndone status.Done = ⊥
IsUndone other = ⊤

-- no number in what items show has more digits than are printed
abbrev pub AllShort : List Item → Type 0
AllShort items = Each (λ i. IsShortEntry (entry_of i)) items

-- the report of items was put, without a fault, and it is told apart from that of others
pub record Shows (report : Report) (old new : SinkView) (items : List Item) : Type 0 where
  pub all : PutsAll old new (report_in report items)
  pub no_fault : new.faults ≡ old.faults
  pub short : AllShort items

-- the same of a part that ends the run, unless putting was cut short
abbrev pub EndsShort : Produced → Status → Type 0
EndsShort p status = IsFinding status → AllShort p.items

-- a run that is done leaves the world at its end, where the image of a disk is to be put of it
abbrev pub Leaves : Status → Report → World → Option World → Type 0
Leaves status.Done Imaged w left = left ≡ Some w
Leaves st report w left = Unit {0}

-- the run has ended with this status in a part of it
abbrev pub Stopped : Report → Produced → SinkView → SinkView → Status → Type 0
Stopped report p old new status = StopsWith (text_of report p) (status_of p) old new status × EndsShort p status

-- what was put since is the report of what was made since, and the rest is still to come
pub record GoesOn (report : Report) (whole : Produced) (old new : SinkView) (rest : Produced) : Type 0 where
  pub made : List Item
  pub put : Shows report old new made
  pub same : whole ≡ prepend made rest
