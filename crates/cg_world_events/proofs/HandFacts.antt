-- A replica's turn through its node: the node is taken out, and what comes back is what the definitions have the replica do.
use Rattle.std.proofs.Common.{◌≡◌, ℕ, true, false, not, List, [], ◌∷◌, Option, Some, None, is_some, filter, find, refl, sym, ap, subst, ◌∙◌, eqb-true, option_and_then, MatchOption, IfSome, inl, inr}
use Rattle.std.specs.Prelude.{◌==◌}
use Rattle.std.specs.Option.{option_map_or}
use Rattle.std.proofs.lemmas.Bool.{cases_Bool, cond-true, cond-false}
use Rattle.cg_base.specs.declared.action_id.ActionId.{ActionId}
use Rattle.cg_action.specs.declared.action.Action.{Action}
use Rattle.cg_group.specs.Events.{send_all, go_down}
use Rattle.cg_client.specs.Replica.{Replica}
use Rattle.cg_client.specs.Turn.{Turn}
use Rattle.cg_model.specs.Recorded.{AreBooked}
use Rattle.cg_states.specs.ReplicaStep.{Input, replica_step}
use Rattle.cg_disk_records.specs.Crash.{EventEnd, Runs, Crashes, end_event}
use Rattle.cg_model.specs.World.{NodeState, Up, Down, Node, World, running, node_of, replica_of, with_node, set_life}
use Rattle.cg_model.specs.Show.{StepInProgress, news_of, tell}
use Rattle.cg_model.specs.Step.{behind, taken, comes_back, hand}
use Rattle.cg_world_events.specs.Nodes.{NodeOutput, node, turned}

-- the first that passes a test passes it
find-passes : (p : ℕ) (nodes : List Node) (s : Node) → find (λ s. s.id == p) nodes ≡ Some s → s.id ≡ p
find-passes p [] s e = absurd (let clash : None ≡ Some s = e in cc)
find-passes p (x ∷ nodes) s e = elim (cases_Bool (x.id == p)) [
  | inl here ↦ (let same : Some x ≡ Some s = sym (cond-true (x.id == p) (Some x) (find (λ s. s.id == p) nodes) here) ∙ e in
      let is : x ≡ s = cc in ap (λ (s : Node). s.id) (sym is) ∙ eqb-true x.id p here)
  | inr other ↦ find-passes p nodes s (sym (cond-false (x.id == p) (Some x) (find (λ s. s.id == p) nodes) other) ∙ e)
]

-- ---- a node is taken out

pub any_taken : (result : Option Node) (w : World) (after : List Node) (p : ℕ) →
    MatchOption result ((find (λ s. s.id == p) w.nodes ≡ None) × (after ≡ w.nodes))
    (λ s. (find (λ t. t.id == p) w.nodes ≡ Some s) × ((t : Node) → t.id ≡ p → with_node after t ≡ with_node w.nodes t)) →
    MatchOption result ((node_of w p ≡ None) × (record w { nodes = after } ≡ w))
    (λ s. (node_of w p ≡ Some s) × ((life : NodeState) → set_life (record w { nodes = after }) p life ≡ set_life w p life))
any_taken None w after p h = (h.0, ap (λ nodes. record w { nodes = nodes }) h.1)
any_taken (Some s) w after p h = (h.0, λ life. ap (λ nodes. record w { nodes = nodes }) (h.1 (record { id = p; life = life }) refl))

-- that of a replica that is up
pub up_taken : (result : Option Node) (w : World) (after : List Node) (p : ℕ) → is_some (replica_of w p) ≡ true →
    MatchOption result ((find (λ s. s.id == p) w.nodes ≡ None) × (after ≡ w.nodes))
    (λ s. (find (λ t. t.id == p) w.nodes ≡ Some s) × ((t : Node) → t.id ≡ p → with_node after t ≡ with_node w.nodes t)) →
    MatchOption result ((replica_of w p ≡ None) × (record w { nodes = after } ≡ w))
    (λ s. (node_of w p ≡ Some s) × (is_some (running s.life) ≡ true) × ((life : NodeState) → set_life (record w { nodes = after }) p life ≡ set_life w p life))
up_taken None w after p up h = absurd (
    let none : replica_of w p ≡ None = ap (option_and_then (λ (s : Node). running s.life)) h.0 in
    let clash : false ≡ true = sym (ap is_some none) ∙ up in cc)
up_taken (Some s) w after p up h = (
  h.0,
  subst (λ o. is_some (option_and_then (λ (s : Node). running s.life) o) ≡ true) h.0 up,
  λ life. ap (λ nodes. record w { nodes = nodes }) (h.1 (record { id = p; life = life }) refl),
)

-- ---- what comes back

-- a node stands again, with what its replica has to say
abbrev pub stands_again : StepInProgress → Node × Option NodeOutput → StepInProgress
stands_again g (s, output) = comes_back g s.id (s.life, output)

-- behind an event that has ended
back-ended : (g : StepInProgress) (v : World) (p : ℕ) (t : Turn) (e : EventEnd) → ((life : NodeState) → set_life v p life ≡ set_life g.world p life) →
    comes_back (record g { world = v }) p (behind t e) ≡ comes_back g p (behind t e)
back-ended g v p t (Runs r disk) same = ap (λ (w : World). tell (record g { world = record w { group = send_all w.group p t.sent } }) (news_of t)) (same (Up r disk))
back-ended g v p t (Crashes disk green) same =
    ap (λ (w : World). record g { world = record w { group = go_down w.group p; snapshots = filter (λ s. not (s.giver == p)) w.snapshots } }) (same (Down disk green))

-- from a replica that is up
back-up : (g : StepInProgress) (v : World) (p : ℕ) (input : Input) (life : NodeState) → is_some (running life) ≡ true →
    ((life : NodeState) → set_life v p life ≡ set_life g.world p life) →
    stands_again (record g { world = v }) (turned (node p life) (taken input life)) ≡ option_map_or (comes_back g p) (taken input life) g
back-up g v p input (Up r disk) up same = let t = replica_step r input in back-ended g v p t (end_event disk r.held t) same
back-up g v p input (Down disk green) up same = absurd (let clash : false ≡ true = up in cc)

-- from the node that was taken out
pub back-taken : (g : StepInProgress) (v : World) (p : ℕ) (input : Input) (s : Node) → node_of g.world p ≡ Some s → is_some (running s.life) ≡ true →
    ((life : NodeState) → set_life v p life ≡ set_life g.world p life) → stands_again (record g { world = v }) (turned s (taken input s.life)) ≡ hand g p input
unfolding hand
back-taken g v p input s there up same =
    ap (λ n. stands_again (record g { world = v }) (turned (node n s.life) (taken input s.life))) (find-passes p g.world.nodes s there)
    ∙ back-up g v p input s.life up same
    ∙ sym (ap (λ o. option_map_or (λ (s : Node). option_map_or (comes_back g p) (taken input s.life) g) o g) there)

-- nothing comes of what is handed to a replica that isn't up
pub hand-nobody : (g : StepInProgress) (p : ℕ) (input : Input) → replica_of g.world p ≡ None → g ≡ hand g p input
unfolding hand
hand-nobody g p input none = at_node (node_of g.world p) none
  where
    at_life : (life : NodeState) → running life ≡ None → g ≡ option_map_or (comes_back g p) (taken input life) g
    at_life (Up r disk) e = absurd (let clash : Some r ≡ None = e in cc)
    at_life (Down disk green) e = refl

    at_node : (o : Option Node) → option_and_then (λ s. running s.life) o ≡ None → g ≡ option_map_or (λ s. option_map_or (comes_back g p) (taken input s.life) g) o g
    at_node None e = refl
    at_node (Some s) e = at_life s.life e

-- what is known of the replica is known of its node
pub of_node : (P : Replica → Type 0) (w : World) (p : ℕ) (s : Node) → node_of w p ≡ Some s → IfSome (replica_of w p) P → IfSome (running s.life) P
of_node P w p s there h = subst (λ o. IfSome (option_and_then (λ (s : Node). running s.life) o) P) there h

-- ---- the calls

pub nobody-hands : (g self : StepInProgress) (after : World) (p : ℕ) (input : Input) → g ≡ self → (replica_of g.world p ≡ None) × (after ≡ g.world) →
    record g { world = after } ≡ hand self p input
nobody-hands g self after p input same h =
    ap (λ w. record g { world = w }) h.1 ∙ same ∙ hand-nobody self p input (subst (λ (g : StepInProgress). replica_of g.world p ≡ None) same h.0)

pub node-hands : (g self : StepInProgress) (after : World) (p : ℕ) (input : Input) (s : Node) → g ≡ self →
    (node_of g.world p ≡ Some s) × (is_some (running s.life) ≡ true) × ((life : NodeState) → set_life after p life ≡ set_life g.world p life) →
    stands_again (record g { world = after }) (turned s (taken input s.life)) ≡ hand self p input
node-hands g self after p input s same h = back-taken g after p input s h.0 h.1 h.2 ∙ ap (λ g. hand g p input) same

pub node-booked : (book : ActionId → Action) (g self : StepInProgress) (p : ℕ) (input : Input) (s : Node) → g ≡ self → node_of g.world p ≡ Some s →
    IfSome (replica_of self.world p) (λ r. AreBooked book r.held input) → IfSome (running s.life) (λ r. AreBooked book r.held input)
node-booked book g self p input s same there h =
    of_node (λ r. AreBooked book r.held input) self.world p s (subst (λ (g : StepInProgress). node_of g.world p ≡ Some s) same there) h
