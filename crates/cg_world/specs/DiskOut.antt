-- The disk of a replica, as a world hands it out.
pub use Rattle.cg_world_events.specs.DiskOut.{HoldsDisk, GivesDisk}
