-- What the event of a line comes to: one step, or the passes that it asks for; the end is no step, and may be refused.
use Rattle.std.specs.Prelude.{ℕ, zero, suc, ◌==◌, List, [], ◌∷◌, Option, None, Some, if◌then◌else◌}
use Rattle.cg_group.specs.Ready.{ready}
use Rattle.cg_group.specs.declared.reason.Reason.{Reason}
use Rattle.cg_items.specs.Companion.{end_refusal}
use Rattle.cg_outcome.specs.declared.status.Status.TheVariants.{Refused}
use Rattle.cg_schedule.specs.declared.event.Event.{Event}
use Rattle.cg_schedule.specs.declared.event.Event.TheVariants.{Gather, Deliver, Rounds, End}
use Rattle.cg_model.specs.World.{up_replicas}
use Rattle.cg_outcome.specs.Produced.{Progress, Produced, went_on, ended_with, and_then, one_step}

-- what is ready at a replica is handed to it
abbrev pub deliver_ready : ℕ → ℕ → Progress → Produced
deliver_ready n p s = if ready s.world.group p == 0 then went_on s
    else one_step n None (Deliver p (ready s.world.group p)) s

-- what is ready at each of these replicas, when its turn comes
abbrev pub deliveries : ℕ → List ℕ → Progress → Produced
deliveries n [] s = went_on s
deliveries n (p ∷ set) s = and_then (deliver_ready n p s) (deliveries n set)

-- all messages are gathered, and then each replica that was up before is handed what is ready when its turn comes
abbrev pub one_pass : ℕ → Progress → Produced
one_pass n s = and_then (one_step n None Gather s) (deliveries n (up_replicas s.world))

-- so many passes
abbrev pub passes : ℕ → ℕ → Progress → Produced
passes n zero s = went_on s
passes n (suc count) s = and_then (one_pass n s) (passes n count)

-- the end, where it is admitted
abbrev pub ended_unless : Option Reason → ℕ → Progress → Produced
ended_unless None n s = went_on s
ended_unless (Some reason) n s = ended_with (Refused n reason) n s

-- the event of line n happens
unfoldable pub happened : ℕ → Event → Progress → Produced
happened n End s = ended_unless (end_refusal s.companion s.world) n s
happened n (Rounds count) s = passes n count s
happened n other s = one_step n None other s
