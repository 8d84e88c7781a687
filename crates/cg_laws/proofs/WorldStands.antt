-- Who of a world has begun, who is up and in which phase, where all is calm: what a change of one node and a turn make of that.
use Rattle.std.proofs.Common.{◌≡◌, ℕ, Bool, true, false, ◌||◌, cond, List, [], ◌∷◌, fold, Option, Some, None, is_some, option_and_then, refl, sym, ap, subst, ◌∙◌, ⊎_elim, eqb-true}
use Rattle.std.specs.Prelude.{◌==◌, IfSome}
use Rattle.std.specs.Option.{option_map_or}
use Rattle.std.proofs.lemmas.Bool.{cond_both, cond-true, cond-false, cases_Bool, or_cases}
use Rattle.cg_base.specs.declared.weighted.Weighted.{Weighted}
use Rattle.cg_base.specs.Sets.{has}
use Rattle.cg_wire.specs.declared.message.Msg.{Msg}
use Rattle.cg_group.specs.declared.phase.Phase.{Phase}
use Rattle.cg_group.specs.declared.phase.Phase.TheVariants.{Alone}
use Rattle.cg_group.specs.declared.delivery.Handed.{Handed}
use Rattle.cg_group.specs.Events.{HandedOut, send_all, come_up, go_down}
use Rattle.cg_base.specs.Lists.{Each}
use Rattle.cg_group.specs.LookupLaws.{at-cond, put, put-own, eqb_comm}
use Rattle.cg_client.specs.Replica.{Replica, fresh}
use Rattle.cg_states.specs.ReplicaStep.{Input, Deliveries, replica_step}
use Rattle.cg_disk_records.specs.Crash.{Disk, new_disk, EventEnd, Runs, Crashes, end_event, at_rest, recovered, disk_recovered}
use Rattle.cg_model.specs.World.{NodeState, Up, Down, Node, World, running, node_of, with_node}
use Rattle.cg_model.specs.Show.{StepInProgress}
use Rattle.cg_model.specs.Step.{quietly, hand, hand_over, hand_out, begin_replica}
use Rattle.cg_model.specs.AtNode.{after_event, hand_to, crash_at, recover_from}
use Rattle.cg_laws.proofs.Calm.{CalmMessage, CalmTurn}
use Rattle.cg_laws.proofs.CalmRows.{CalmInput, step-calm}
use Rattle.cg_laws.proofs.CalmEnds.{CalmLife, RunsOn, ended-calm, crashed-calm, recovered-calm, fresh-calm}
use Rattle.cg_model.specs.PhaseLaws.{Group, where_is, up-place, down-place}
use Rattle.cg_laws.proofs.GroupStands.{CalmGroup, Keeps, sent-keeps, CalmHanded, up-calm, down-calm}
use Rattle.cg_model.specs.NodeLaws.{node_in, found-node}

-- ---- nodes

abbrev running_in : List Node → ℕ → Option Replica
running_in nodes p = option_and_then (λ s. running s.life) (node_in nodes p)

-- ---- worlds

-- who has begun has a node; who is up stands in this phase; lives and messages are calm
pub record Stands (begun : ℕ → Bool) (at : ℕ → Option Phase) (nodes : List Node) (g : Group) : Type 0 where
  pub hosted : (p : ℕ) → begun p ≡ true → is_some (node_in nodes p) ≡ true
  pub runs : (p : ℕ) → is_some (running_in nodes p) ≡ is_some (at p)
  pub place : (p : ℕ) → where_is g p ≡ at p
  pub lives : (p : ℕ) → IfSome (node_in nodes p) (λ s. CalmLife p s.life)
  pub calm : CalmGroup g

abbrev pub StandsIn : (ℕ → Bool) → (ℕ → Option Phase) → World → Type 0
StandsIn begun at w = Stands begun at w.nodes w.group

pub stands-same : (begun also : ℕ → Bool) (at here : ℕ → Option Phase) (nodes : List Node) (g : Group) → ((p : ℕ) → also p ≡ true → begun p ≡ true) → ((p : ℕ) → at p ≡ here p) →
    Stands begun at nodes g → Stands also here nodes g
stands-same begun also at here nodes g more same s = record {
  hosted = λ p e. s.hosted p (more p e);
  runs = λ p. s.runs p ∙ ap is_some (same p);
  place = λ p. s.place p ∙ same p;
  lives = s.lives;
  calm = s.calm;
}

-- the group changes
pub stands-in : (begun : ℕ → Bool) (at here : ℕ → Option Phase) (nodes : List Node) (g h : Group) → ((p : ℕ) → where_is h p ≡ here p) → ((p : ℕ) → is_some (at p) ≡ is_some (here p)) → CalmGroup h →
    Stands begun at nodes g → Stands begun here nodes h
stands-in begun at here nodes g h place same calm s = record {
  hosted = s.hosted;
  runs = λ p. s.runs p ∙ same p;
  place = place;
  lives = s.lives;
  calm = calm;
}

pub stands-kept : (begun : ℕ → Bool) (at : ℕ → Option Phase) (nodes : List Node) (g h : Group) → Keeps g h → Stands begun at nodes g → Stands begun at nodes h
stands-kept begun at nodes g h keeps s = stands-in begun at at nodes g h (λ p. keeps.place p ∙ s.place p) (λ p. refl) (keeps.calm s.calm) s

-- ---- one node changes

running-found : (nodes : List Node) (p : ℕ) (life : NodeState) (q : ℕ) →
    is_some (running_in (with_node nodes (record { id = p; life = life })) q) ≡ cond (p == q) (is_some (running life)) (is_some (running_in nodes q))
running-found nodes p life q =
    let new : Node = record { id = p; life = life } in
    let up : Option Node → Bool = λ o. is_some (option_and_then (λ s. running s.life) o) in
    ap up (found-node nodes new q) ∙ at-cond up (p == q) (Some new) (node_in nodes q)

-- one replica has another life, and stands in another phase or not at all
stands-set : (begun also : ℕ → Bool) (at : ℕ → Option Phase) (nodes : List Node) (g h : Group) (p : ℕ) (life : NodeState) (phase : Option Phase) →
    ((q : ℕ) → also q ≡ true → (p == q) ≡ false → begun q ≡ true) → CalmLife p life → is_some (running life) ≡ is_some phase →
    ((q : ℕ) → where_is h q ≡ put at p phase q) → CalmGroup h → Stands begun at nodes g → Stands also (put at p phase) (with_node nodes (record { id = p; life = life })) h
stands-set begun also at nodes g h p life phase more fine up place calm s =
    let new : Node = record { id = p; life = life } in
    record {
      hosted = λ q e. subst (λ o. is_some o ≡ true) (sym (found-node nodes new q))
          (cond_both (p == q) (Some new) (node_in nodes q) (λ o. is_some o ≡ true) (λ y. refl) (λ n. s.hosted q (more q e n)));
      runs = λ q. running-found nodes p life q
          ∙ ⊎_elim
          (λ y. cond-true (p == q) (is_some (running life)) (is_some (running_in nodes q)) y ∙ up ∙ sym (ap is_some (cond-true (q == p) phase (at q) (eqb_comm q p ∙ y))))
          (λ n. cond-false (p == q) (is_some (running life)) (is_some (running_in nodes q)) n ∙ s.runs q ∙ sym (ap is_some (cond-false (q == p) phase (at q) (eqb_comm q p ∙ n))))
          (cases_Bool (p == q));
      place = place;
      lives = λ q. subst (λ o. IfSome o (λ (x : Node). CalmLife q x.life)) (sym (found-node nodes new q))
          (cond_both (p == q) (Some new) (node_in nodes q) (λ o. IfSome o (λ (x : Node). CalmLife q x.life)) (λ y. subst (λ k. CalmLife k life) (eqb-true p q y) fine) (λ n. s.lives q));
      calm = calm;
    }

-- ---- turns

module _ (begun : ℕ → Bool) (at : ℕ → Option Phase) where
  -- a replica that is up runs on, and has sent something
  runs-on : (nodes : List Node) (g : Group) (p : ℕ) (r : Replica) (disk : Disk) (sent : List Msg) → is_some (at p) ≡ true → CalmLife p (Up r disk) → Each CalmMessage sent →
      Stands begun at nodes g → Stands begun at (with_node nodes (record { id = p; life = Up r disk })) (send_all g p sent)
  runs-on nodes g p r disk sent up fine each s =
      let keeps = sent-keeps sent g p each in
      let own = put-own at p (at p) refl in
      stands-same begun begun (put at p (at p)) at (with_node nodes (record { id = p; life = Up r disk })) (send_all g p sent) (λ q e. e) own
      (stands-set begun begun at nodes g (send_all g p sent) p (Up r disk) (at p) (λ q e n. e) fine (sym up) (λ q. keeps.place q ∙ s.place q ∙ sym (own q)) (keeps.calm s.calm) s)

  turn-stands : (x : StepInProgress) (p : ℕ) (r : Replica) (disk : Disk) (input : Input) → is_some (at p) ≡ true → CalmLife p (Up r disk) → CalmInput input →
      StandsIn begun at x.world → StandsIn begun at (hand_to x p input (Up r disk)).world
  turn-stands x p r disk input up calm fine s = ends (end_event disk r.held (replica_step r input)) (ended-calm p disk r.held (replica_step r input) calm.2 turn) where
    turn : CalmTurn p (replica_step r input)
    turn = step-calm p r input calm.0 calm.1 fine

    ends : (e : EventEnd) → RunsOn p e → StandsIn begun at (after_event x p (replica_step r input) e).world
    ends (Runs new new_disk) is = runs-on x.world.nodes x.world.group p new new_disk (replica_step r input).sent up is turn.2 s
    ends (Crashes new_disk green) is = absurd is

  pub hand-stands : (x : StepInProgress) (p : ℕ) (input : Input) → CalmInput input → StandsIn begun at x.world → StandsIn begun at (hand x p input).world
  unfolding hand
  hand-stands x p input fine s = sits (node_in x.world.nodes p) refl where
    lives : (node : Node) (life : NodeState) → node_in x.world.nodes p ≡ Some node → node.life ≡ life → CalmLife p life → StandsIn begun at (hand_to x p input life).world
    lives node (Down disk green) e is calm = s
    lives node (Up r disk) e is calm =
        let up : is_some (at p) ≡ true = sym (s.runs p) ∙ ap (λ (o : Option Node). is_some (option_and_then (λ s. running s.life) o)) e ∙ ap (λ l. is_some (running l)) is in
        turn-stands x p r disk input up calm fine s

    sits : (o : Option Node) → node_in x.world.nodes p ≡ o → StandsIn begun at (option_map_or (λ s. hand_to x p input s.life) o x).world
    sits None e = s
    sits (Some node) e = lives node node.life e refl (subst (λ o. IfSome o (λ (x : Node). CalmLife p x.life)) e (s.lives p))

  handed-stands : (list : List (Handed Msg)) (x : StepInProgress) → Each CalmHanded list → StandsIn begun at x.world → StandsIn begun at (fold hand_over x list).world
  handed-stands [] x each s = s
  handed-stands (h ∷ list) x each s = handed-stands list (hand_over x h) each.1 (hand-stands x h.to (Deliveries h.list) each.0 s)

  pub handed_out-stands : (w : World) (o : HandedOut Msg) → Each CalmHanded o.handed → Stands begun at w.nodes o.group → StandsIn begun at (hand_out w o).world
  handed_out-stands w o each s = handed-stands o.handed (quietly (record w { group = o.group })) each s

  -- ---- replicas that begin, go down and come up again

  pub begun-stands : (set : List Weighted) (w : World) (p : ℕ) → StandsIn begun at w →
      StandsIn (λ q. begun q || (p == q)) (put at p (Some Alone)) (begin_replica set w p)
  begun-stands set w p s =
      let r = fresh p set in
      stands-set begun (λ q. begun q || (p == q)) at w.nodes w.group (come_up w.group p) p (Up r (new_disk r.held)) (Some Alone)
      (λ q e n. ⊎_elim (λ y. y) (λ y. absurd (let clash : false ≡ true = sym n ∙ y in cc)) (or_cases (begun q) (p == q) e))
      (fresh-calm p set) refl
      (λ q. up-place w.group p q ∙ ap (cond (q == p) (Some Alone)) (s.place q)) (up-calm w.group p s.calm) s

  pub crashed-stands : (w : World) (p : ℕ) → StandsIn begun at w → is_some (at p) ≡ true → StandsIn begun (put at p None) (option_map_or (λ s. crash_at w p s.life) (node_of w p) w)
  crashed-stands w p s up = sits (node_in w.nodes p) refl where
    lives : (node : Node) (life : NodeState) → node_in w.nodes p ≡ Some node → node.life ≡ life → CalmLife p life → StandsIn begun (put at p None) (crash_at w p life)
    lives node (Down disk green) e is calm = absurd (let clash : false ≡ true = sym (ap (λ (o : Option Node). is_some (option_and_then (λ s. running s.life) o)) e ∙ ap (λ l. is_some (running l)) is) ∙ s.runs p ∙ up in cc)
    lives node (Up r disk) e is calm =
        stands-set begun begun at w.nodes w.group (go_down w.group p) p (Down (at_rest disk) []) None (λ q e n. e) (crashed-calm p disk calm.2) refl
        (λ q. down-place w.group p q ∙ ap (cond (q == p) None) (s.place q)) (down-calm w.group p s.calm) s

    sits : (o : Option Node) → node_in w.nodes p ≡ o → StandsIn begun (put at p None) (option_map_or (λ s. crash_at w p s.life) o w)
    sits None e = absurd (let clash : false ≡ true = sym (ap (λ (o : Option Node). is_some (option_and_then (λ s. running s.life) o)) e) ∙ s.runs p ∙ up in cc)
    sits (Some node) e = lives node node.life e refl (subst (λ o. IfSome o (λ (x : Node). CalmLife p x.life)) e (s.lives p))

  pub recovered-stands : (w : World) (p : ℕ) → StandsIn begun at w → begun p ≡ true → at p ≡ None →
      StandsIn begun (put at p (Some Alone)) (option_map_or (λ s. recover_from w s.life) (node_of w p) (quietly w)).world
  recovered-stands w p s has down = sits (node_in w.nodes p) refl where
    lives : (node : Node) (life : NodeState) → node_in w.nodes p ≡ Some node → node.life ≡ life → CalmLife p life → StandsIn begun (put at p (Some Alone)) (recover_from w life).world
    lives node (Up r disk) e is calm = absurd (let clash : true ≡ false = sym (ap (λ (o : Option Node). is_some (option_and_then (λ s. running s.life) o)) e ∙ ap (λ l. is_some (running l)) is) ∙ s.runs p ∙ ap is_some down in cc)
    lives node (Down disk green) e is calm =
        let r = recovered disk in
        let life = recovered-calm p disk calm in
        let same : r.held.id ≡ p = life.0.0 in
        subst (λ k. Stands begun (put at p (Some Alone)) (with_node w.nodes (record { id = k; life = Up r (disk_recovered disk) })) (come_up w.group k)) (sym same)
        (stands-set begun begun at w.nodes w.group (come_up w.group p) p (Up r (disk_recovered disk)) (Some Alone) (λ q e n. e) life refl
        (λ q. up-place w.group p q ∙ ap (cond (q == p) (Some Alone)) (s.place q)) (up-calm w.group p s.calm) s)

    sits : (o : Option Node) → node_in w.nodes p ≡ o → StandsIn begun (put at p (Some Alone)) (option_map_or (λ s. recover_from w s.life) o (quietly w)).world
    sits None e = absurd (let clash : false ≡ true = sym (ap is_some e) ∙ s.hosted p has in cc)
    sits (Some node) e = lives node node.life e refl (subst (λ o. IfSome o (λ (x : Node). CalmLife p x.life)) e (s.lives p))
