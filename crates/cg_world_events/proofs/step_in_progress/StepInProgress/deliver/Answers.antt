use Rattle.std.proofs.Common.{◌≡◌, OnOk, Some, None, true, is_some, subst}
use Rattle.cg_states.specs.ReplicaStep.{Deliveries}
use Rattle.cg_model.specs.World.{NodeState, World, running, node_of, replica_of, set_life}
use Rattle.cg_model.specs.Show.{StepInProgress}
use Rattle.cg_world_events.proofs.HandFacts.{nobody-hands, node-hands, node-booked}
use Rattle.cg_world_events.proofs.step_in_progress.StepInProgress.deliver.Goals as goal

pub hand_list-requires : goal.hand_list-requires
hand_list-requires c =
    (c.requires.0, node-booked c.requires.0 _ c.args.self.now c.args.h.to (Deliveries c.args.h.list) c.in-Some.node c.self.view_is (subst (λ (w : World). node_of w c.args.h.to ≡ Some c.in-Some.node) c.deref_mut.ensures.value c.in-Some.ensures.0) c.requires.1)

pub returns-in-Some : goal.returns-in-Some
returns-in-Some c =
    let here = subst (λ (w : World). (node_of w c.args.h.to ≡ Some c.in-Some.node) × (is_some (running c.in-Some.node.life) ≡ true)
    × ((life : NodeState) → set_life c.take_up.new.self c.args.h.to life ≡ set_life w c.args.h.to life)) c.deref_mut.ensures.value c.in-Some.ensures in
    subst (λ (g : StepInProgress). OnOk c.hand_list.result (c.hand_list.new.self ≡ g))
    (node-hands _ c.args.self.now c.take_up.new.self c.args.h.to (Deliveries c.args.h.list) c.in-Some.node c.self.view_is here) c.hand_list.ensures

pub returns-in-None : goal.returns-in-None
returns-in-None c =
    nobody-hands _ c.args.self.now c.take_up.new.self c.args.h.to (Deliveries c.args.h.list) c.self.view_is
    (subst (λ (w : World). (replica_of w c.args.h.to ≡ None) × (c.take_up.new.self ≡ w)) c.deref_mut.ensures.value c.in-None.ensures)
