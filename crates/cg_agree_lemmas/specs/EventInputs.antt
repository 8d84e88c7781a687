-- What an event hands to each replica that takes a turn in it.
use Rattle.std.specs.Prelude.{◌≡◌, ℕ, suc, ◌+◌, true, [], ◌∷◌, length}
use Rattle.cg_base.specs.Lists.{above_up_to}
use Rattle.cg_base.specs.Sets.{has}
use Rattle.cg_action.specs.declared.action.Kind.TheVariants.{Update, Join as JoinKind, Leave as LeaveKind}
use Rattle.cg_group.specs.declared.delivery.Delivery.TheVariants.{Regular as RegularIn}
use Rattle.cg_group.specs.State.{delivered_to, home}
use Rattle.cg_group.specs.Events.{deliveries_at, handed_in_split}
use Rattle.cg_states.specs.ReplicaStep.{Input, Deliveries, Asks as AsksOf}
use Rattle.cg_schedule.specs.declared.event.Event.{Event}
use Rattle.cg_schedule.specs.declared.event.Event.TheVariants.{Split, Merge, Request, Deliver, Join, Leave}
use Rattle.cg_model.specs.World.{World}

-- the event hands this to the replica
abbrev pub IsHanded : World → Event → ℕ → Input → Type 0
IsHanded w (Split set) p input = (has set p ≡ true) × (input ≡ Deliveries (handed_in_split w.group set p).list)
IsHanded w (Merge set) p input = (has set p ≡ true) × (input ≡ Deliveries (RegularIn (suc (length w.group.configurations)) set ∷ []))
IsHanded w (Deliver q count) p input =
    (p ≡ q) × (input ≡ Deliveries (deliveries_at (home w.group p) (above_up_to (delivered_to w.group p) (delivered_to w.group p + count))))
IsHanded w (Request q cmds query) p input = (p ≡ q) × (input ≡ AsksOf (Update cmds query))
IsHanded w (Join q joiner weight) p input = (p ≡ q) × (input ≡ AsksOf (JoinKind joiner weight))
IsHanded w (Leave q server) p input = (p ≡ q) × (input ≡ AsksOf (LeaveKind server))
IsHanded w other p input = ⊥
