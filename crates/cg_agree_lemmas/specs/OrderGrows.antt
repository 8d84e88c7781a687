-- How the printed order goes on as replicas take their turns in an event: it stays a front of the line, and has the greens of each that
-- runs on.
use Rattle.std.proofs.Common.{◌≡◌, ◌++◌, ◌∷◌, ◌≤◌, ◌∙◌, ◌+◌, List, None, Option, Some, arith, fold, inl, inr, length, map, refl, subst, suc, sym, ℕ, []}
use Rattle.std.specs.Option.{option_map_or}
use Rattle.cg_agree_lemmas.specs.FrontFacts.{Front-length, Front-refl, Front-trans}
use Rattle.cg_agree_lemmas.specs.OrderExtends.{order-extends}
use Rattle.cg_agree_lemmas.specs.WorldTurns.{hand-behind}
use Rattle.cg_model.specs.FactsLists.{IsRising}
use Rattle.cg_model.specs.Fronts.{Front}
use Rattle.cg_model.specs.Show.{StepInProgress, beyond}
use Rattle.cg_model.specs.Step.{hand, hand_over}
use Rattle.cg_model.specs.AtNode.{after_event, hand_to}
use Rattle.cg_model.specs.World.{Down, NodeState, Node, Up, World, node_of}
use Rattle.cg_base.specs.declared.action_id.ActionId.{ActionId}
use Rattle.cg_client.specs.Turn.{Turn}
use Rattle.cg_base.specs.Lists.{Each}
use Rattle.cg_group.specs.declared.delivery.Handed.{Handed}
use Rattle.cg_queue.specs.Queue.{green_count}
use Rattle.cg_disk_records.specs.Crash.{Crashes, EventEnd, Runs, end_event}
use Rattle.cg_states.specs.ReplicaStep.{Deliveries, Input, replica_step}
use Rattle.cg_wire.specs.declared.message.Msg.{Msg}

-- who ran on has its greens in this order
abbrev pub EndShows : List ActionId → List ActionId → EventEnd → Type 0
EndShows greens order (Runs r disk) = Front greens order
EndShows greens order (Crashes disk green) = Unit {0}

abbrev LifeShows : Input → List ActionId → List ActionId → NodeState → Type 0
LifeShows input greens order (Up r disk) = EndShows greens order (end_event disk r.held (replica_step r input))
LifeShows input greens order (Down disk green) = Unit {0}

abbrev pub NodeShows : Input → List ActionId → List ActionId → Option Node → Type 0
NodeShows input greens order None = Unit {0}
NodeShows input greens order (Some s) = LifeShows input greens order s.life

-- it has them still as the order goes on
shows-on : (input : Input) (greens order more : List ActionId) → Front order more → (o : Option Node) → NodeShows input greens order o → NodeShows input greens more o
shows-on input greens order more front None is = tt
shows-on input greens order more front (Some s) is = life s.life is where
  of-end : (e : EventEnd) → EndShows greens order e → EndShows greens more e
  of-end (Runs r disk) is = Front-trans greens order more is front
  of-end (Crashes disk green) is = tt

  life : (l : NodeState) → LifeShows input greens order l → LifeShows input greens more l
  life (Up r disk) is = of-end (end_event disk r.held (replica_step r input)) is
  life (Down disk green) is = tt

module _ (line : List ActionId) (most : ℕ) where
  -- what may be printed: a front of the line, no longer than some member has
  pub record IsOrder (order : List ActionId) : Type 0 where
    pub front : Front order line
    pub count : length order ≤ most

  -- the names that a turn notes come behind what this order had
  pub record Adds (first : List ActionId) (t : Turn) (greens : List ActionId) : Type 0 where
    pub shown : List ActionId
    pub is : greens ≡ shown ++ t.green
    pub count : green_count t.replica.held.queue ≡ length shown + length t.green
    pub there : Front shown first
    pub fits : IsOrder greens

  abbrev pub EndAdds : List ActionId → Turn → List ActionId → EventEnd → Type 0
  EndAdds first t greens (Runs r disk) = Adds first t greens
  EndAdds first t greens (Crashes disk green) = Unit {0}

  abbrev pub LifeAdds : List ActionId → Input → List ActionId → NodeState → Type 0
  LifeAdds first input greens (Up r disk) = EndAdds first (replica_step r input) greens (end_event disk r.held (replica_step r input))
  LifeAdds first input greens (Down disk green) = Unit {0}

  abbrev pub NodeAdds : List ActionId → Input → List ActionId → Option Node → Type 0
  NodeAdds first input greens None = Unit {0}
  NodeAdds first input greens (Some s) = LifeAdds first input greens s.life

  -- ---- names that come to the order

  pub record IsLonger (order greens new : List ActionId) : Type 0 where
    pub on : Front order new
    pub has : Front greens new
    pub fits : IsOrder new

  pub extends : (order shown green : List ActionId) (count : ℕ) → count ≡ length shown + length green → IsOrder order → Front shown order → IsOrder (shown ++ green) →
      IsLonger order (shown ++ green) (order ++ beyond order green count)
  extends order shown green count is fits there of_greens =
      let on = order-extends line order shown green count is fits.front of_greens.front (Front-length shown order there) in
      record {
        on = on.on;
        has = on.has;
        fits = record {
          front = on.on_line;
          count = elim on.either [
            | inl same ↦ subst (λ (xs : List ActionId). length xs ≤ most) (sym same) fits.count
            | inr same ↦ subst (λ (xs : List ActionId). length xs ≤ most) (sym same) of_greens.count
          ];
        };
      }

  -- ---- turns

  pub hand-grows : (first : List ActionId) (go : StepInProgress) (p : ℕ) (input : Input) (greens : List ActionId) → NodeAdds first input greens (node_of go.world p) → Front first go.world.order → IsOrder go.world.order →
      (let new = (hand go p input).world.order in Front go.world.order new × IsOrder new × NodeShows input greens new (node_of go.world p))
  unfolding hand
  hand-grows first go p input greens adds front fits = at (node_of go.world p) adds where
    ended : (t : Turn) (e : EventEnd) → EndAdds first t greens e → (let new = (after_event go p t e).world.order in Front go.world.order new × IsOrder new × EndShows greens new e)
    ended t (Runs r disk) adds =
        let order = go.world.order in
        let new = order ++ beyond order t.green (green_count t.replica.held.queue) in
        let is = extends order adds.shown t.green (green_count t.replica.held.queue) adds.count fits (Front-trans adds.shown first order adds.there front) (subst IsOrder adds.is adds.fits) in
        (is.on, is.fits, subst (λ (xs : List ActionId). Front xs new) (sym adds.is) is.has)
    ended t (Crashes disk green) adds = (Front-refl go.world.order, fits, tt)

    life : (l : NodeState) → LifeAdds first input greens l → (let new = (hand_to go p input l).world.order in Front go.world.order new × IsOrder new × LifeShows input greens new l)
    life (Up r disk) adds = ended (replica_step r input) (end_event disk r.held (replica_step r input)) adds
    life (Down disk green) adds = (Front-refl go.world.order, fits, tt)

    at : (o : Option Node) → NodeAdds first input greens o →
        (let new = (option_map_or (λ s. hand_to go p input s.life) o go).world.order in Front go.world.order new × IsOrder new × NodeShows input greens new o)
    at None adds = (Front-refl go.world.order, fits, tt)
    at (Some s) adds = life s.life adds

  -- replicas take their turns, ascending; who hasn't yet is as it was
  pub hands-grow : (first : List ActionId) (w : World) (greens : ℕ → List ActionId) (list : List (Handed Msg)) (go : StepInProgress) (low : ℕ) → IsRising low (map (λ h. h.to) list) →
      ((p : ℕ) → low ≤ p → node_of go.world p ≡ node_of w p) → Each (λ h. NodeAdds first (Deliveries h.list) (greens h.to) (node_of w h.to)) list → Front first go.world.order → IsOrder go.world.order →
      (let new = (fold hand_over go list).world.order in Front go.world.order new × IsOrder new × Each (λ h. NodeShows (Deliveries h.list) (greens h.to) new (node_of w h.to)) list)
  hands-grow first w greens [] go low rise still adds front fits = (Front-refl go.world.order, fits, tt)
  hands-grow first w greens (h ∷ list) go low rise still adds front fits =
      let next = hand_over go h in
      let here : node_of go.world h.to ≡ node_of w h.to = still h.to rise.0 in
      let one = hand-grows first go h.to (Deliveries h.list) (greens h.to) (subst (NodeAdds first (Deliveries h.list) (greens h.to)) (sym here) adds.0) front fits in
      let rest = hands-grow first w greens list next (suc h.to) rise.1 (λ p le. stays p le ∙ still p (let up = rise.0 in omega arith)) adds.1
      (Front-trans first go.world.order next.world.order front one.0) one.1 in
      let new = (fold hand_over next list).world.order in (
        Front-trans go.world.order next.world.order new one.0 rest.0,
        rest.1,
        (
          shows-on (Deliveries h.list) (greens h.to) next.world.order new rest.0 (node_of w h.to)
              (subst (NodeShows (Deliveries h.list) (greens h.to) next.world.order) here one.2),
          rest.2,
        ),
      )
    where
      stays : (p : ℕ) → suc h.to ≤ p → node_of (hand_over go h).world p ≡ node_of go.world p
      stays p le = elim (hand-behind (λ q input. q ≡ h.to) go h.to (Deliveries h.list) refl p) [
        | inl same ↦ same
        | inr turn ↦ absurd (let same : p ≡ h.to = turn.of in omega arith)
      ]
