-- What the making and the opening of a journal answer.
use Rattle.std.specs.Prelude.{◌≡◌, ℕ, List, [], Option, Some, None, Result, Ok, Err}
use Rattle.cg_disk.specs.View.{DiskView}
use Rattle.cg_journal.specs.Records.{Records, records}
use Rattle.cg_journal.specs.Fresh.{IsLostWithin, IsRefusedWithin}
use Rattle.cg_journal.specs.Reads.{IsRead, IsReadStruck, IsReadRefused}
use Rattle.cg_journal.specs.Answers.{IsDone}
use Rattle.cg_journal.specs.declared.open.FormatErr.{FormatErr}
use Rattle.cg_journal.specs.declared.open.FormatErr.TheVariants.{Lost as FormatLost, NoMemory as FormatNoMemory}
use Rattle.cg_journal.specs.declared.open.JournalOpen.{JournalOpen}
use Rattle.cg_journal.specs.declared.open.JournalOpen.TheVariants.{Lost as OpenLost, NotAJournal, NoMemory as OpenNoMemory}

-- both sides of a new journal have no records
abbrev pub no_records : Records
no_records = record { a = []; b = [] }

-- after a strike or a refusal the disk may be no journal
abbrev pub Formats : {D : Type 0} → (D → DiskView) → DiskView → Result D (FormatErr D) → Type 0
Formats view old (Ok journal) = IsDone (Some no_records) 3 old (view journal)
Formats view old (Err (FormatLost disk)) = IsLostWithin 3 old (view disk)
Formats view old (Err (FormatNoMemory disk)) = IsRefusedWithin 1 old (view disk)

-- the bytes of the disk were read: these are its records
pub record IsOpened (found : Option Records) (old new : DiskView) : Type 0 where
  pub records_old : records old.reads ≡ found
  pub read : IsRead 5 old new

abbrev pub Opens : {D : Type 0} → (D → DiskView) → DiskView →
    Result (D × List (List ℕ) × List (List ℕ)) (JournalOpen D) → Type 0
Opens view old (Ok opened) = IsOpened (Some (record { a = opened.1; b = opened.2 })) old (view opened.0)
Opens view old (Err (OpenLost disk)) = IsReadStruck 5 old (view disk)
Opens view old (Err (NotAJournal disk)) = IsOpened None old (view disk)
Opens view old (Err (OpenNoMemory disk)) = IsReadRefused 5 old (view disk)
