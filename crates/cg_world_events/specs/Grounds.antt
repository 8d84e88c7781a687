-- What an event rests on, beside the limits of what it asks for.
use Rattle.std.specs.Prelude.{◌≡◌, ℕ, is_some, IfSome}
use Rattle.cg_group.specs.State.{is_up}
use Rattle.cg_schedule.specs.declared.event.Event.{Event}
use Rattle.cg_schedule.specs.declared.event.Event.TheVariants.{Start}
use Rattle.cg_model.specs.World.{World, no_world, replica_of}
use Rattle.cg_model.specs.Looks.{disk_held}

-- a start comes first
abbrev pub ComesFirst : World → Event → Type 0
ComesFirst w (Start set) = w ≡ no_world
ComesFirst w other = Unit {0}

-- the disk of each replica that has begun is its own, and the group knows who is up
pub record IsHosted (w : World) : Type 0 where
  pub disk : (p : ℕ) → IfSome (disk_held w p) (λ h. h.id ≡ p)
  pub up : (p : ℕ) → is_some (replica_of w p) ≡ is_up w.group p
