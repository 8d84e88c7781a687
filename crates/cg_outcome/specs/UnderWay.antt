-- How far a run is under way: what was read of its schedule, and the world behind that.
use Rattle.std.specs.Prelude.{◌≡◌, ◌<◌, true, false, length}
use Rattle.cg_model.specs.World.{no_world}
use Rattle.cg_outcome.specs.Produced.{Progress}

-- a start was read, and its replicas have begun
pub record HasBegun (s : Progress) : Type 0 where
  pub started : s.reader.started ≡ true
  pub hosted : 0 < length s.world.nodes

-- no start was read and the world is the one before it, or a start was and its replicas have begun
pub record IsUnderWay (s : Progress) : Type 0 where
  pub before : s.reader.started ≡ false → s.world ≡ no_world
  pub begun : s.reader.started ≡ true → 0 < length s.world.nodes
