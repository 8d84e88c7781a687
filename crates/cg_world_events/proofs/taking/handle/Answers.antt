use Rattle.std.proofs.Common.{◌≡◌, IfOk, Option, refl, subst, arith}
use Rattle.cg_disk.specs.Model.{view_of, state_of}
use Rattle.cg_engine.specs.Inputs.{input_of}
use Rattle.cg_states.specs.ReplicaStep.{replica_step}
use Rattle.cg_engine.specs.FallLaws.{fallen_within}
use Rattle.cg_model.specs.World.{Node}
use Rattle.cg_world_events.specs.Nodes.{NodeOutput}
use Rattle.cg_world_events.proofs.Events.{goes_on, falls_down, fallen_so}
use Rattle.cg_world_events.proofs.taking.handle.Goals as goal

pub end_in_crash-requires-clause-falls : goal.end_in_crash-requires-clause-falls
end_in_crash-requires-clause-falls c =
    let old = c.args.engine in
    let kept = c.each_event_keeps_what_holds.ensures in
    let laws = c.what_is_held_agrees.ensures in
    let is = c.holds.ensures.follows in
    let fell = falls_down view_of c.events_end_as_defined.ensures kept laws.counts old c.args.fill (input_of c.args.input) c.requires.booked.0 (state_of old.store.disk) refl is c.requires.booked.1
    c.in-Down.wreck (c.in-Down.ensures is.standing is.stands) in
    (fell.0, fell.1)

pub end_in_crash-requires-clause-room : goal.end_in_crash-requires-clause-room
end_in_crash-requires-clause-room c =
    let old = c.args.engine in
    let is = c.holds.ensures.follows in
    let t = replica_step old.replica (input_of c.args.input) in
    let within = fallen_within view_of old is.standing t c.in-Down.wreck (c.in-Down.ensures is.standing is.stands) in
    omega (arith, within, c.requires.calls)

pub returns-in-Running : goal.returns-in-Running
returns-in-Running c =
    let old = c.args.engine in
    let kept = c.each_event_keeps_what_holds.ensures in
    let laws = c.what_is_held_agrees.ensures in
    let is = c.holds.ensures.follows in
    subst (λ (x : Node × Option NodeOutput). IfOk c.stay_up.result (λ y. y ≡ x))
    (goes_on view_of c.events_end_as_defined.ensures kept laws.counts old c.args.fill (input_of c.args.input) c.requires.booked.0 (state_of old.store.disk) refl is c.requires.booked.1
    c.in-Running.engine c.in-Running.outputs (c.in-Running.ensures is.standing is.stands)) c.stay_up.ensures

pub returns-in-Down : goal.returns-in-Down
returns-in-Down c =
    let old = c.args.engine in
    let kept = c.each_event_keeps_what_holds.ensures in
    let laws = c.what_is_held_agrees.ensures in
    let is = c.holds.ensures.follows in
    let fell = falls_down view_of c.events_end_as_defined.ensures kept laws.counts old c.args.fill (input_of c.args.input) c.requires.booked.0 (state_of old.store.disk) refl is c.requires.booked.1
    c.in-Down.wreck (c.in-Down.ensures is.standing is.stands) in
    fallen_so view_of c.in-Down.wreck c.args.fill fell.0 fell.1 c.end_in_crash.result _ fell.2 c.end_in_crash.ensures
