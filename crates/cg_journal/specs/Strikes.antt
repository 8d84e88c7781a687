-- How calls that make device calls go past a strike that is armed, or reach it.
use Rattle.std.specs.Prelude.{◌≡◌, ◌<◌, Option, Some, IfSome}
use Rattle.std.specs.Option.{option_map}
use Rattle.cg_disk.specs.State.{DiskState, DiskStrike}
use Rattle.cg_disk.specs.View.{DiskView}

-- the strike that is armed, where the disk tells its state
abbrev pub strike_of : DiskView → Option (Option DiskStrike)
strike_of d = option_map (λ (s : DiskState). s.strike) d.state

-- no fault was counted, and where the disk tells its state its strike stays and is still to come
pub record IsUnstruck (old new : DiskView) : Type 0 where
  pub faults : new.faults ≡ old.faults
  pub stays : strike_of new ≡ strike_of old
  pub ahead : IfSome (strike_of new) (λ strike. IfSome strike (λ s. new.time < s.call))

-- a fault was counted, and where the disk tells its state its strike was reached by the last call
pub record IsStruck (old new : DiskView) : Type 0 where
  pub faults : old.faults < new.faults
  pub later : old.time < new.time
  pub reached : (s : DiskState) → old.state ≡ Some s →
      (strike : DiskStrike) × (s.strike ≡ Some strike) × (strike.call ≡ new.time)
