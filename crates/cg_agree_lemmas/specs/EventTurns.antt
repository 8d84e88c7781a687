-- A replica's turn in the step of an event: where the event leads at it; and that small steps which end as it does lead there.
use Rattle.std.proofs.Common.{◌≡◌, ℕ, true, false, cond, List, Option, Some, None, map, refl, sym, ap, ap₂, ◌∙◌, subst, is_some, option_and_then}
use Rattle.std.specs.Prelude.{◌==◌}
use Rattle.std.specs.Option.{option_map_or}
use Rattle.cg_wire.specs.declared.message.Msg.{Msg}
use Rattle.cg_group.specs.State.{GroupState}
use Rattle.cg_client.specs.Replica.{Replica}
use Rattle.cg_client.specs.Turn.{Turn}
use Rattle.cg_states.specs.ReplicaStep.{Input, replica_step}
use Rattle.cg_disk_records.specs.Crash.{Disk, EventEnd, Runs, Crashes as EndsInCrash, end_event}
use Rattle.cg_model.specs.World.{NodeState, Up, Down, Node, TransferState, World, running, node_of, replica_of}
use Rattle.cg_model.specs.Show.{StepInProgress}
use Rattle.cg_model.specs.Step.{hand}
use Rattle.cg_model.specs.AtNode.{hand_to, after_event}
use Rattle.cg_model.specs.Looks.{disk_held}
use Rattle.cg_model.specs.Played.{IsSame, given_for}
use Rattle.cg_agree_lemmas.specs.NodeFacts.{node-id, ids-hosted, running-set, disk-set}
use Rattle.cg_agree_lemmas.specs.TurnWorlds.{up_node, ended_in, life_at, nodes-ended, IsEndAt}

-- a replica that is up, with its node
pub record IsUp (w : World) (p : ℕ) : Type 0 where
  pub replica : Replica
  pub disk : Disk
  pub node : node_of w p ≡ Some (up_node p replica disk)

pub is-up : (w : World) (p : ℕ) → is_some (replica_of w p) ≡ true → IsUp w p
is-up w p there = at (node_of w p) refl there where
  up : (s : Node) (life : NodeState) → s.life ≡ life → s.id ≡ p → node_of w p ≡ Some s → is_some (running life) ≡ true → IsUp w p
  up s (Up r disk) is id e there = record { replica = r; disk = disk; node = e ∙ ap₂ (λ i l. Some (record { id = i; life = l })) id is }
  up s (Down disk green) is id e there = absurd (let clash : false ≡ true = there in cc)

  at : (o : Option Node) → node_of w p ≡ o → is_some (option_and_then (λ s. running s.life) o) ≡ true → IsUp w p
  at None e there = absurd (let clash : false ≡ true = there in cc)
  at (Some s) e there = up s s.life refl (node-id w p s e) e there

-- what the small steps speak of is the same in two worlds
pub record IsWorld (w v : World) : Type 0 where
  pub group : w.group ≡ v.group
  pub nodes : w.nodes ≡ v.nodes
  pub snapshots : w.snapshots ≡ v.snapshots

-- the step of an event at a replica leads where its end leads
pub hand-leads : (go : StepInProgress) (p : ℕ) (r : Replica) (disk : Disk) (input : Input) → node_of go.world p ≡ Some (up_node p r disk) →
    IsWorld (hand go p input).world (ended_in go.world go.world.group p (replica_step r input) (end_event disk r.held (replica_step r input)))
unfolding hand
hand-leads go p r disk input node =
    let t = replica_step r input in
    let chosen : option_map_or (λ (s : Node). hand_to go p input s.life) (node_of go.world p) go ≡ after_event go p t (end_event disk r.held t) =
    ap (λ (o : Option Node). option_map_or (λ s. hand_to go p input s.life) o go) node in
    subst (λ (x : StepInProgress). IsWorld x.world (ended_in go.world go.world.group p t (end_event disk r.held t))) (sym chosen) (at t (end_event disk r.held t)) where
      at : (t : Turn) (end : EventEnd) → IsWorld (after_event go p t end).world (ended_in go.world go.world.group p t end)
      at t (Runs r disk) = record { group = refl; nodes = refl; snapshots = refl }
      at t (EndsInCrash disk green) = record { group = refl; nodes = refl; snapshots = refl }

-- small steps that end as the turn does lead where the event leads
pub end-same : (w : World) (g : GroupState Msg) (p : ℕ) (t : Turn) (e : EventEnd) (v x : World) → IsEndAt w p v (ended_in w g p t e) e → IsWorld x (ended_in w g p t e) → IsSame v x
end-same w g p t e v x end is =
    let of_x = is.nodes ∙ nodes-ended w g p t e in
    record {
      group = end.group ∙ sym is.group;
      nodes = ap (map (λ s. s.id)) end.nodes ∙ ids-hosted w.nodes (record { id = p; life = end.life })
          ∙ sym (ap (map (λ s. s.id)) of_x ∙ ids-hosted w.nodes (record { id = p; life = life_at e }));
      running = λ q. ap (λ (list : List Node). replica_of (record w { nodes = list }) q) end.nodes ∙ running-set w p end.life q
          ∙ ap (λ o. cond (p == q) o (replica_of w q)) end.same
          ∙ sym (ap (λ (list : List Node). replica_of (record w { nodes = list }) q) of_x ∙ running-set w p (life_at e) q);
      disk = λ q. ap (λ (list : List Node). disk_held (record w { nodes = list }) q) end.nodes ∙ disk-set w p end.life q
          ∙ ap (λ h. cond (p == q) (Some h) (disk_held w q)) end.disk
          ∙ sym (ap (λ (list : List Node). disk_held (record w { nodes = list }) q) of_x ∙ disk-set w p (life_at e) q);
      given = λ joiner. ap (λ (list : List TransferState). given_for (record w { snapshots = list }) joiner) (end.snapshots ∙ sym is.snapshots);
    }
