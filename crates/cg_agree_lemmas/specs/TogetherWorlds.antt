-- Replicas take their turns in one event, each by its own small steps: the group changes for all of them at once in the event, and
-- for one after another in the small steps.
use Rattle.std.proofs.Common.{◌≡◌, ℕ, suc, ◌≤◌, ◌<◌, cond, not, List, [], ◌∷◌, ◌++◌, Option, Some, None, map, filter, fold, flat_map, sym, ap, ap₂, ◌∙◌, subst, arith}
use Rattle.std.specs.Prelude.{◌==◌}
use Rattle.std.specs.Option.{option_map_or}
use Rattle.std.proofs.lemmas.Bool.{cond-false, ne_eqb}
use Rattle.cg_base.specs.Sets.{with_member}
use Rattle.cg_wire.specs.declared.message.Msg.{Msg}
use Rattle.cg_group.specs.declared.delivery.Delivery.{Delivery}
use Rattle.cg_group.specs.State.{Standing, GroupState, standing_of, set_standing}
use Rattle.cg_group.specs.Events.{send_all, go_down}
use Rattle.cg_base.specs.Lists.{Each}
use Rattle.cg_group.specs.LookupLaws.{configurations-set_standing, standing_of-set, standing_of-down, put-other}
use Rattle.cg_client.specs.Replica.{Replica}
use Rattle.cg_client.specs.Turn.{Turn}
use Rattle.cg_states.specs.ReplicaStep.{Deliveries, replica_step}
use Rattle.cg_disk_records.specs.Crash.{EventEnd, Runs, Crashes as EndsInCrash, end_event}
use Rattle.cg_model.specs.World.{NodeState, Node, TransferState, World, node_of, replica_of, with_node}
use Rattle.cg_model.specs.Show.{StepInProgress}
use Rattle.cg_model.specs.Step.{hand}
use Rattle.cg_model.specs.Looks.{disk_held}
use Rattle.cg_model.specs.Turns.{Taken, taken, taken_as}
use Rattle.cg_model.specs.Small.{Small}
use Rattle.cg_model.specs.Smalls.{ending, ending_as}
use Rattle.cg_model.specs.FactsLists.{IsRising}
use Rattle.cg_model.specs.Played.{IsSame, given_for}
use Rattle.cg_agree_lemmas.specs.Standings.{rising-with_member}
use Rattle.cg_agree_lemmas.specs.ChronicleFacts.{node_of-set}
use Rattle.cg_agree_lemmas.specs.GroupChanges.{DoRise, rising-set, rising-down, rising-sent, down-own, standing-sent, configurations-sent, configurations-down, placed, placed-sent, placed-down}
use Rattle.cg_agree_lemmas.specs.NodeFacts.{ids-hosted, running-set, disk-set}
use Rattle.cg_agree_lemmas.specs.TurnWorlds.{hosted, turn-ends, ended_in, life_at, nodes-ended, IsEndAt}
use Rattle.cg_agree_lemmas.specs.EventTurns.{IsUp, IsWorld, hand-leads}
use Rattle.cg_agree_lemmas.specs.SmallWorlds.{played_in, MayIn, played-append, may-append}

-- replicas were these, and the group is this one as they begin; each is to stand so, is handed this, and takes these steps
module _ (w : World) (g : GroupState Msg) (N : ℕ → Standing Msg) (named : (q : ℕ) → (N q).id ≡ q) (input : ℕ → List (Delivery Msg)) (block : ℕ → List Small) where
  -- of the replicas from a number on nothing has changed yet
  pub record IsStill (v : World) (low : ℕ) : Type 0 where
    pub nodes : (q : ℕ) → low ≤ q → node_of v q ≡ node_of w q
    pub standings : (q : ℕ) → low ≤ q → standing_of v.group q ≡ standing_of g q
    pub configurations : v.group.configurations ≡ g.configurations
    pub rises : DoRise v.group
    pub rising : IsRising 0 (map (λ s. s.id) v.nodes)

  abbrev pub turn_of : Replica → ℕ → Turn
  turn_of r p = replica_step r (Deliveries (input p))

  -- its steps may be made where nothing of it has changed, and lead where its turn leads
  pub record IsMember (p : ℕ) : Type 0 where
    pub here : IsUp w p
    pub opens : (v : World) → IsStill v p → MayIn v (block p)
        × (played_in v (block p) ≡ (let t = turn_of here.replica p in hosted v p t.replica here.disk (send_all (set_standing v.group (N p)) p t.sent)))

  -- the small steps have come to one world, the event to another: these are still to take their turns
  pub record IsGoing (v u : World) (rest : List ℕ) (low : ℕ) : Type 0 where
    pub still : IsStill v low
    pub group : u.group ≡ placed N named v.group rest
    pub snapshots : v.snapshots ≡ u.snapshots
    pub nodes : (q : ℕ) → low ≤ q → node_of u q ≡ node_of w q
    pub ids : map (λ s. s.id) v.nodes ≡ map (λ s. s.id) u.nodes
    pub running : (q : ℕ) → replica_of v q ≡ replica_of u q
    pub disk : (q : ℕ) → disk_held v q ≡ disk_held u q

  pub same-at_end : (v u : World) (low : ℕ) → IsGoing v u [] low → IsSame v u
  same-at_end v u low on = record {
    group = sym on.group;
    nodes = on.ids;
    running = on.running;
    disk = on.disk;
    given = λ joiner. ap (λ (list : List TransferState). given_for (record w { snapshots = list }) joiner) on.snapshots;
  }

  -- ---- one turn

  module _ (v u : World) (p low : ℕ) (rest : List ℕ) (le : low ≤ p) (rise : IsRising (suc p) rest) (on : IsGoing v u (p ∷ rest) low) (t : Turn) where
    abbrev G : GroupState Msg
    G = set_standing v.group (N p)

    rises-now : DoRise G
    rises-now = rising-set v.group (N p) on.still.rises

    group-after : (e : EventEnd) → (ended_in u u.group p t e).group ≡ placed N named (ended_in v G p t e).group rest
    group-after (Runs r disk) = ap (λ h. send_all h p t.sent) on.group ∙ placed-sent N named rest G p (suc p) t.sent (let less : p < suc p = omega arith in less) rise
    group-after (EndsInCrash disk green) = ap (λ h. go_down h p) on.group ∙ placed-down N named rest G p (suc p) (let less : p < suc p = omega arith in less) rise rises-now
        ∙ ap (λ h. placed N named h rest) (down-own v.group (N p) p (named p))

    snapshots-after : (e : EventEnd) → (ended_in v G p t e).snapshots ≡ (ended_in u u.group p t e).snapshots
    snapshots-after (Runs r disk) = on.snapshots
    snapshots-after (EndsInCrash disk green) = ap (filter (λ s. not (s.giver == p))) on.snapshots

    other-standing : (q : ℕ) → suc p ≤ q → standing_of G q ≡ standing_of v.group q
    other-standing q above = standing_of-set v.group (N p) q
        ∙ put-other (standing_of v.group) (N p).id (Some (N p)) q (λ e. (let same : q ≡ p = e ∙ named p in omega arith))

    standings-after : (e : EventEnd) (q : ℕ) → suc p ≤ q → standing_of (ended_in v G p t e).group q ≡ standing_of v.group q
    standings-after (Runs r disk) q above = standing-sent t.sent G p q (λ e. (let same : q ≡ p = e in omega arith)) ∙ other-standing q above
    standings-after (EndsInCrash disk green) q above = standing_of-down v.group p q ∙ put-other (standing_of v.group) p None q (λ e. (let same : q ≡ p = e in omega arith))

    configurations-after : (e : EventEnd) → (ended_in v G p t e).group.configurations ≡ v.group.configurations
    configurations-after (Runs r disk) = configurations-sent t.sent G p ∙ configurations-set_standing v.group (N p)
    configurations-after (EndsInCrash disk green) = configurations-down v.group p

    rises-after : (e : EventEnd) → DoRise (ended_in v G p t e).group
    rises-after (Runs r disk) = rising-sent t.sent G p rises-now
    rises-after (EndsInCrash disk green) = rising-down v.group p on.still.rises

    -- another replica's node behind a change of this one
    other-node : (x y : World) (life : NodeState) (q : ℕ) → x.nodes ≡ with_node y.nodes (record { id = p; life = life }) → suc p ≤ q → node_of x q ≡ node_of y q
    other-node x y life q is above =
        let node : Node = record { id = p; life = life } in
        ap (λ (list : List Node). node_of (record w { nodes = list }) q) is ∙ node_of-set y p life q
        ∙ cond-false (p == q) (Some node) (node_of y q) (ne_eqb p q (λ e. (let same : p ≡ q = e in omega arith)))

    pub one-on : (v2 u2 : World) (e : EventEnd) → IsEndAt v p v2 (ended_in v G p t e) e → IsWorld u2 (ended_in u u.group p t e) → IsGoing v2 u2 rest (suc p)
    one-on v2 u2 e end leads =
        let of_u = leads.nodes ∙ nodes-ended u u.group p t e in
        record {
          still = record {
            nodes = λ q above. other-node v2 v end.life q end.nodes above ∙ on.still.nodes q (omega arith);
            standings = λ q above. ap (λ h. standing_of h q) end.group ∙ standings-after e q above ∙ on.still.standings q (omega arith);
            configurations = ap (λ (h : GroupState Msg). h.configurations) end.group ∙ configurations-after e ∙ on.still.configurations;
            rises = subst DoRise (sym end.group) (rises-after e);
            rising = subst (IsRising 0) (sym (ap (map (λ s. s.id)) end.nodes ∙ ids-hosted v.nodes (record { id = p; life = end.life })))
                (rising-with_member 0 p (map (λ s. s.id) v.nodes) (omega arith) on.still.rising);
          };
          group = leads.group ∙ group-after e ∙ ap (λ h. placed N named h rest) (sym end.group);
          snapshots = end.snapshots ∙ snapshots-after e ∙ sym leads.snapshots;
          nodes = λ q above. other-node u2 u (life_at e) q of_u above ∙ on.nodes q (omega arith);
          ids = ap (map (λ s. s.id)) end.nodes ∙ ids-hosted v.nodes (record { id = p; life = end.life }) ∙ ap (λ set. with_member set p) on.ids
              ∙ sym (ap (map (λ s. s.id)) of_u ∙ ids-hosted u.nodes (record { id = p; life = life_at e }));
          running = λ q. ap (λ (list : List Node). replica_of (record w { nodes = list }) q) end.nodes ∙ running-set v p end.life q
              ∙ ap₂ (λ o x. cond (p == q) o x) end.same (on.running q)
              ∙ sym (ap (λ (list : List Node). replica_of (record w { nodes = list }) q) of_u ∙ running-set u p (life_at e) q);
          disk = λ q. ap (λ (list : List Node). disk_held (record w { nodes = list }) q) end.nodes ∙ disk-set v p end.life q
              ∙ ap₂ (λ h x. cond (p == q) (Some h) x) end.disk (on.disk q)
              ∙ sym (ap (λ (list : List Node). disk_held (record w { nodes = list }) q) of_u ∙ disk-set u p (life_at e) q);
        }

  -- ---- all turns

  abbrev pub turns_among : List ℕ → List Taken
  turns_among rest = flat_map (λ q. taken w q (Deliveries (input q))) rest

  abbrev pub smalls_among : List ℕ → List Small
  smalls_among rest = flat_map (ending block) (turns_among rest)

  abbrev pub handed_among : StepInProgress → List ℕ → StepInProgress
  handed_among go rest = fold (λ go q. hand go q (Deliveries (input q))) go rest

  pub together : (rest : List ℕ) (low : ℕ) → IsRising low rest → Each IsMember rest → (v : World) (go : StepInProgress) → IsGoing v go.world rest low →
      MayIn v (smalls_among rest) × IsSame (played_in v (smalls_among rest)) (handed_among go rest).world
  together [] low rise each v go on = (tt, same-at_end v go.world low on)
  together (p ∷ rest) low rise each v go on =
      let m = each.0 in
      let here = m.here in
      let le : low ≤ p = rise.0 in
      let t = turn_of here.replica p in
      let k : Taken = record { id = p; before = here.replica; disk = here.disk; turn = t; ended = end_event here.disk here.replica.held t } in
      let turns : taken w p (Deliveries (input p)) ≡ k ∷ [] = ap (λ (o : Option Node). option_map_or (λ s. taken_as p (Deliveries (input p)) s.life) o []) here.node in
      let steps : smalls_among (p ∷ rest) ≡ ending_as k (block p) k.ended ++ smalls_among rest = ap (λ list. flat_map (ending block) (list ++ turns_among rest)) turns in
      let node_v = on.still.nodes p le ∙ here.node in
      let node_u = on.nodes p le ∙ here.node in
      let now : IsStill v p = record {
        nodes = λ q above. on.still.nodes q (omega arith);
        standings = λ q above. on.still.standings q (omega arith);
        configurations = on.still.configurations;
        rises = on.still.rises;
        rising = on.still.rising;
      } in
      let opened = m.opens v now in
      let ends = turn-ends v (set_standing v.group (N p)) p here.replica here.disk t (block p) node_v opened.0 opened.1 (down-own v.group (N p) p (named p)) in
      let leads = hand-leads go p here.replica here.disk (Deliveries (input p)) node_u in
      let first = ending_as k (block p) k.ended in
      let next = one-on v go.world p low rest le rise.1 on t (played_in v first) (hand go p (Deliveries (input p))).world k.ended ends.1 leads in
      let all = together rest (suc p) rise.1 each.1 (played_in v first) (hand go p (Deliveries (input p))) next in
      rw steps (
        may-append v first (smalls_among rest) ends.0 all.0,
        subst (λ (x : World). IsSame x (handed_among go (p ∷ rest)).world) (sym (played-append v first (smalls_among rest))) all.1,
      )
