-- What the disk of a replica that is down is seen to stand for, and a new one of the older format in its place.
use Rattle.std.specs.Prelude.{◌≡◌, ℕ, Bool, false, Option, None, IfSome}
use Rattle.std.specs.Option.{option_map, option_map_or}
use Rattle.cg_disk.specs.Sides.{Image}
use Rattle.cg_disk.specs.View.{DiskView, IsAtRest}
use Rattle.cg_client.specs.Replica.{Held}
use Rattle.cg_disk_records.specs.Stored.{Stored}
use Rattle.cg_older.specs.Older.{has_weights}
use Rattle.cg_store.specs.Formats.{Standing, StandsFor, standing_on_disk, created_old}
use Rattle.cg_store.specs.Opening.{IsSound}
use Rattle.cg_engine.specs.Answers.{IsStill}
use Rattle.cg_engine.specs.Engines.{Fallen}

-- the state that the bytes of a replica's disk stand for
abbrev pub content_on : ℕ → Image → Option Stored
content_on id image = option_map (λ (s : Standing). s.on.content) (standing_on_disk id image)

-- it is sound, and the replica's
pub record IsStateOf (id : ℕ) (core : Held) : Type 0 where
  pub sound : IsSound core
  pub owner : core.id ≡ id

-- a weight above 1 stands in it
abbrev pub is_weighted : ℕ → Image → Bool
is_weighted id image = option_map_or has_weights (content_on id image) false

-- the bytes stand for a state in which no such weight stands
pub record IsLight (id : ℕ) (image : Image) : Type 0 where
  pub standing : Standing
  pub stands : StandsFor id image standing
  pub light : has_weights standing.on.content ≡ false

-- a disk of the older format that was made in seven calls for this state, with nothing unsynced and nothing armed
pub record IsOldDisk (id : ℕ) (s : Stored) (d : DiskView) : Type 0 where
  pub stands : StandsFor id d.reads (created_old s)
  pub rest : IsAtRest d
  pub unarmed : IfSome d.state (λ x. x.strike ≡ None)
  pub time : d.time ≡ 7

-- the replica has such a disk in place of its own, for the same state, and tells the same later
pub record IsDowngraded {D : Type 0} (view : D → DiskView) (old new : Fallen D) : Type 0 where
  pub standing : Standing
  pub stands : StandsFor old.id (view old.disk).reads standing
  pub made : IsOldDisk old.id standing.on.content (view new.disk)
  pub still : IsStill old new
