-- A disk that goes over to the newer format is that of the definitions, whatever strikes.
use Rattle.std.proofs.Common.{◌≡◌, ℕ, Bool, true, false, List, [], refl}
use Rattle.std.specs.Bool.{if◌then◌else◌}
use Rattle.cg_disk.specs.State.{Blow}
use Rattle.cg_disk_records.specs.Crash.{is_older, moved_to}
use Rattle.cg_disk_records.specs.Format.{Format, Older, Newer, all_newer}
use Rattle.cg_disk_records.specs.Recovery.{has_moved, format_left, recovery_outcome}
use Rattle.cg_store.specs.Stands.{OnDisk, checkpointed, disk_of}
use Rattle.cg_store.specs.Defined.{strike_at}
use Rattle.cg_store.specs.Formats.{Standing, opened_as, disk_in}
use Rattle.cg_store.specs.Migrating.{standing_left, MigratesAsDefined}

abbrev in_format : OnDisk → Format → Standing
in_format u format = record { on = u; format = format }

opened_in : (u : OnDisk) (format : Format) →
    disk_of [] (opened_as format u) ≡ moved_to (is_older format) all_newer (disk_in [] (in_format u format))
opened_in u Older = refl
opened_in u (Newer front) = refl

moved_in : (u : OnDisk) (old new : Format) (b : Bool) →
    disk_in [] (in_format (if b then checkpointed u else u) new) ≡ moved_to b new (disk_in [] (in_format u old))
moved_in u old new true = refl
moved_in u old new false = refl

struck_in : (s : Standing) (call : ℕ) (blow : Blow) (fill : List ℕ) →
    disk_in [] (standing_left s call blow fill) ≡ recovery_outcome (disk_in [] s) (strike_at call blow fill)
unfolding recovery_outcome
struck_in s call blow fill =
    moved_in s.on s.format (format_left s.format (strike_at call blow fill))
    (has_moved s.format (strike_at call blow fill))

pub migrates_as_defined : MigratesAsDefined
migrates_as_defined = record { made = λ s. refl; opened_is = λ s. opened_in s.on s.format; struck = struck_in }
