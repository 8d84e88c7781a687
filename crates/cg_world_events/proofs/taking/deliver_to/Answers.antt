use Rattle.std.proofs.Common.{◌≡◌, sym, subst, IfOk}
use Rattle.cg_disk.specs.Model.{view_of}
use Rattle.cg_model.specs.Recorded.{AreBooked}
use Rattle.cg_states.specs.ReplicaStep.{Input}
use Rattle.cg_model.specs.Step.{taken}
use Rattle.cg_world_events.specs.Nodes.{turned}
use Rattle.cg_world_events.specs.Seen.{up_seen}
use Rattle.cg_world_events.proofs.Opening.{opened_is}
use Rattle.cg_world_events.proofs.taking.deliver_to.Goals as goal

pub handle_within_limit-requires-clause-booked : goal.handle_within_limit-requires-clause-booked
handle_within_limit-requires-clause-booked c =
    let read = opened_is c.messages_are_exact.ensures.in_spelling c.args.list c.in-Ok.all c.in-Ok.ensures.opened c.in-Ok.ensures.said in
    (c.requires.0, subst (λ (input : Input). AreBooked c.requires.0 c.args.engine.replica.held input) (sym read) c.requires.1)

pub returns-in-Ok : goal.returns-in-Ok
returns-in-Ok c =
    let read = opened_is c.messages_are_exact.ensures.in_spelling c.args.list c.in-Ok.all c.in-Ok.ensures.opened c.in-Ok.ensures.said in
    let e = c.args.engine in
    subst (λ (input : Input). IfOk c.handle_within_limit.result (λ x. x ≡ turned (up_seen view_of e c.args.fill) (taken input (up_seen view_of e c.args.fill).life))) read c.handle_within_limit.ensures
