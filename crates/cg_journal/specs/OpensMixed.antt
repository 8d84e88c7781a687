-- What the opening of a disk of either format answers, and the making of one of the older format.
use Rattle.std.specs.Prelude.{◌≡◌, ℕ, ◌+◌, List, [], ◌∷◌, Option, Some, None, Result, Ok, Err}
use Rattle.cg_disk.specs.View.{DiskView, IsAtRest}
use Rattle.cg_disk.specs.declared.disk.DiskFault.{DiskFault}
use Rattle.cg_disk.specs.declared.disk.DiskFault.TheVariants.{Failed, NoMemory}
use Rattle.cg_journal.specs.Found.{Sides, sides, blank}
use Rattle.cg_journal.specs.Fresh.{IsLostWithin, IsRefusedWithin}
use Rattle.cg_journal.specs.Reads.{IsRead, IsReadStruck, IsReadRefused}
use Rattle.cg_journal.specs.Strikes.{IsUnstruck}
use Rattle.cg_journal.specs.declared.open.SideRecords.{SideRecords}
use Rattle.cg_journal.specs.declared.open.FormatErr.{FormatErr}
use Rattle.cg_journal.specs.declared.open.FormatErr.TheVariants.{Lost as FormatLost, NoMemory as FormatNoMemory}
use Rattle.cg_journal.specs.declared.open.JournalOpen.{JournalOpen}
use Rattle.cg_journal.specs.declared.open.JournalOpen.TheVariants.{Lost as OpenLost, NotAJournal, NoMemory as OpenNoMemory}

-- the bytes of the disk were read: this is found on its sides
pub record IsFoundOn (found : Option Sides) (old new : DiskView) : Type 0 where
  pub sides_old : sides old.reads ≡ found
  pub read : IsRead 5 old new

abbrev pub OpensMixed : {D : Type 0} → (D → DiskView) → DiskView →
    Result (D × SideRecords × SideRecords) (JournalOpen D) → Type 0
OpensMixed view old (Ok opened) = IsFoundOn (Some (record { a = opened.1; b = opened.2 })) old (view opened.0)
OpensMixed view old (Err (OpenLost disk)) = IsReadStruck 5 old (view disk)
OpensMixed view old (Err (NotAJournal disk)) = IsFoundOn None old (view disk)
OpensMixed view old (Err (OpenNoMemory disk)) = IsReadRefused 5 old (view disk)

-- ---- a new disk of the older format

-- one record on side A
abbrev pub old_sides : List ℕ → Sides
old_sides body = record { a = record { version = 1; bodies = body ∷ [] }; b = blank 1 }

pub record IsMadeOld (body : List ℕ) (old new : DiskView) : Type 0 where
  pub is : sides new.reads ≡ Some (old_sides body)
  pub rest : IsAtRest new
  pub time : new.time ≡ old.time + 7
  pub unstruck : IsUnstruck old new

abbrev pub MakesOldSides : {T : Type 0} → List ℕ → DiskView → DiskView → Result T DiskFault → Type 0
MakesOldSides body old new (Ok _) = IsMadeOld body old new
MakesOldSides body old new (Err Failed) = IsLostWithin 7 old new
MakesOldSides body old new (Err NoMemory) = IsRefusedWithin 7 old new

-- after a strike or a refusal the disk may be no journal
abbrev pub MakesOld : {D : Type 0} → (D → DiskView) → List ℕ → DiskView → Result D (FormatErr D) → Type 0
MakesOld view body old (Ok disk) = IsMadeOld body old (view disk)
MakesOld view body old (Err (FormatLost disk)) = IsLostWithin 7 old (view disk)
MakesOld view body old (Err (FormatNoMemory disk)) = IsRefusedWithin 7 old (view disk)
