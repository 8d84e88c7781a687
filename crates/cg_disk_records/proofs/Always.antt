-- What always holds of a replica and its disk, put together.
use Rattle.cg_disk_records.specs.Always.{AlwaysHolds, AlwaysCounts}
use Rattle.cg_disk_records.specs.HoldsValueLaws.{holds-fresh, holds-stored, holds-whiten, line-green, whitened-counts}
use Rattle.cg_disk_records.specs.KnownLaws.{holds-recovered}
use Rattle.cg_disk_records.proofs.Opening.{holds-marked, holds-changed, holds-opened}

pub always-holds : AlwaysHolds
always-holds = record {
  fresh = λ id set. holds-fresh id set;
  whitened = λ h is. holds-whiten h is;
  stored = λ h is. holds-stored h is;
  recovered = λ s is. holds-recovered s is;
  marked = λ s c t is fits. holds-marked s c t is fits;
  changed = λ s c t is fits. holds-changed s c t is fits;
  opened = λ s agrees is. holds-opened s agrees is;
}

pub always-counts : AlwaysCounts
always-counts = record {
  line = λ h is. line-green h is;
  same_count = λ h is. whitened-counts h is;
}
