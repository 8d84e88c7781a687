-- Where the node of a replica leads in an event in which replicas take turns: it takes its own turn, or its node stays.
use Rattle.std.proofs.Common.{◌⊎◌, ◌≡◌, ℕ, suc, ◌<◌, ◌≤◌, List, [], ◌∷◌, map, fold, find, Option, Some, None, refl, sym, ap, ◌∙◌, subst, arith, inl, inr, eq-eqb}
use Rattle.std.specs.Prelude.{◌==◌}
use Rattle.std.specs.Option.{option_map_or}
use Rattle.std.proofs.lemmas.Bool.{cases_eq, cond-true, cond-false, ne_eqb}
use Rattle.cg_wire.specs.declared.message.Msg.{Msg}
use Rattle.cg_group.specs.declared.delivery.Handed.{Handed}
use Rattle.cg_base.specs.Lists.{Each}
use Rattle.cg_client.specs.Replica.{Replica}
use Rattle.cg_states.specs.ReplicaStep.{Input, Deliveries, replica_step}
use Rattle.cg_disk_records.specs.Crash.{Disk, end_event}
use Rattle.cg_model.specs.World.{NodeState, Up, Down, Node, World, node_of}
use Rattle.cg_model.specs.Show.{StepInProgress}
use Rattle.cg_model.specs.Step.{hand, hand_over}
use Rattle.cg_model.specs.AtNode.{hand_to}
use Rattle.cg_model.specs.FactsLists.{IsRising}
use Rattle.cg_agree_lemmas.specs.ChronicleFacts.{node_of-set}
use Rattle.cg_agree_lemmas.specs.NodeFacts.{node-id}
use Rattle.cg_agree_lemmas.specs.TurnWorlds.{up_node, life_at, nodes-ended}
use Rattle.cg_agree_lemmas.specs.EventTurns.{hand-leads}

-- the replica takes a turn with such an input, from the one world to the other
pub record TakesTurn (Q : ℕ → Input → Type 0) (w v : World) (p : ℕ) : Type 0 where
  pub replica : Replica
  pub disk : Disk
  pub input : Input
  pub of : Q p input
  pub before : node_of w p ≡ Some (up_node p replica disk)
  pub behind : node_of v p ≡ Some (record { id = p; life = life_at (end_event disk replica.held (replica_step replica input)) })

abbrev pub IsBehind : (ℕ → Input → Type 0) → World → World → ℕ → Type 0
IsBehind Q w v p = (node_of v p ≡ node_of w p) ⊎ TakesTurn Q w v p

module _ (Q : ℕ → Input → Type 0) where
  -- a replica takes its turn; others stay
  pub hand-behind : (go : StepInProgress) (q : ℕ) (input : Input) → Q q input → (p : ℕ) → IsBehind Q go.world (hand go q input).world p
  unfolding hand
  hand-behind go q input of p = at (node_of go.world q) refl where
    up : (r : Replica) (disk : Disk) → node_of go.world q ≡ Some (up_node q r disk) → IsBehind Q go.world (hand go q input).world p
    up r disk node =
        let end = end_event disk r.held (replica_step r input) in
        let leads = hand-leads go q r disk input node in
        let nodes = leads.nodes ∙ nodes-ended go.world go.world.group q (replica_step r input) end in
        elim (cases_eq q p) [
          | inl same ↦ inr (subst (λ (n : ℕ). TakesTurn Q go.world (hand go q input).world n) same (record {
            replica = r;
            disk = disk;
            input = input;
            of = of;
            before = node;
            behind = ap (λ (list : List Node). find (λ s. s.id == q) list) nodes ∙ node_of-set go.world q (life_at end) q
                ∙ cond-true (q == q) (Some (record { id = q; life = life_at end })) (node_of go.world q) (eq-eqb q q refl);
          }))
          | inr apart ↦ inl (ap (λ (list : List Node). find (λ s. s.id == p) list) nodes ∙ node_of-set go.world q (life_at end) p ∙ cond-false (q == p) (Some (record { id = q; life = life_at end })) (node_of go.world p) (ne_eqb q p apart))
        ]

    at : (o : Option Node) → node_of go.world q ≡ o → IsBehind Q go.world (hand go q input).world p
    at None e = inl (ap (λ (o : Option Node). node_of (option_map_or (λ s. hand_to go q input s.life) o go).world p) e)
    at (Some s) e = life s.life refl where
      life : (life : NodeState) → s.life ≡ life → IsBehind Q go.world (hand go q input).world p
      life (Up r disk) is = up r disk (e ∙ (λ i. Some (record { id = node-id go.world q s e i; life = is i })))
      life (Down disk green) is = inl (ap (λ (o : Option Node). node_of (option_map_or (λ s. hand_to go q input s.life) o go).world p) e ∙ ap (λ (l : NodeState). node_of (hand_to go q input l).world p) is)

  pub from-same : (w v u : World) (p : ℕ) → node_of v p ≡ node_of w p → IsBehind Q v u p → IsBehind Q w u p
  from-same w v u p same is = elim is [
    | inl stays ↦ inl (stays ∙ same)
    | inr turn ↦ inr (record { replica = turn.replica; disk = turn.disk; input = turn.input; of = turn.of; before = sym same ∙ turn.before; behind = turn.behind })
  ]

  to-same : (w v u : World) (p : ℕ) → node_of u p ≡ node_of v p → IsBehind Q w v p → IsBehind Q w u p
  to-same w v u p same is = elim is [
    | inl stays ↦ inl (same ∙ stays)
    | inr turn ↦ inr (record { replica = turn.replica; disk = turn.disk; input = turn.input; of = turn.of; before = turn.before; behind = same ∙ turn.behind })
  ]

-- who isn't among them keeps its node
pub others-stay : (list : List (Handed Msg)) (go : StepInProgress) (p low : ℕ) → IsRising low (map (λ h. h.to) list) → p < low → node_of (fold hand_over go list).world p ≡ node_of go.world p
others-stay [] go p low rise less = refl
others-stay (h ∷ list) go p low rise less =
    let le = rise.0 in
    others-stay list (hand_over go h) p (suc h.to) rise.1 (omega arith)
    ∙ elim (hand-behind (λ q input. q ≡ h.to) go h.to (Deliveries h.list) refl p) [
      | inl same ↦ same
      | inr turn ↦ absurd (let same : p ≡ h.to = turn.of in omega arith)
    ]

-- replicas take their turns, ascending
pub handed-behind : (Q : ℕ → Input → Type 0) (list : List (Handed Msg)) (go : StepInProgress) (low : ℕ) → IsRising low (map (λ h. h.to) list) → Each (λ h. Q h.to (Deliveries h.list)) list →
    (p : ℕ) → IsBehind Q go.world (fold hand_over go list).world p
handed-behind Q [] go low rise each p = inl refl
handed-behind Q (h ∷ list) go low rise each p =
    let next = hand_over go h in
    elim (cases_eq p h.to) [
      | inl same ↦ to-same Q go.world next.world (fold hand_over next list).world p
          (others-stay list next p (suc h.to) rise.1 (omega arith)) (hand-behind Q go h.to (Deliveries h.list) each.0 p)
      | inr apart ↦ from-same Q go.world next.world (fold hand_over next list).world p
          (elim (hand-behind (λ q input. q ≡ h.to) go h.to (Deliveries h.list) refl p) [ inl same ↦ same | inr turn ↦ absurd (apart turn.of) ])
          (handed-behind Q list next (suc h.to) rise.1 each.1 p)
    ]

-- who takes its turn ends as the turn does
hand-ends : (go : StepInProgress) (q : ℕ) (input : Input) (r : Replica) (disk : Disk) → node_of go.world q ≡ Some (up_node q r disk) →
    node_of (hand go q input).world q ≡ Some (record { id = q; life = life_at (end_event disk r.held (replica_step r input)) })
hand-ends go q input r disk node =
    let end = end_event disk r.held (replica_step r input) in
    let leads = hand-leads go q r disk input node in
    ap (λ (list : List Node). find (λ s. s.id == q) list) (leads.nodes ∙ nodes-ended go.world go.world.group q (replica_step r input) end) ∙ node_of-set go.world q (life_at end) q
    ∙ cond-true (q == q) (Some (record { id = q; life = life_at end })) (node_of go.world q) (eq-eqb q q refl)

-- how a replica ends that is handed this
abbrev pub EndsSo : World → World → Input → ℕ → Type 0
EndsSo w u input q =
    (r : Replica) (disk : Disk) → node_of w q ≡ Some (up_node q r disk) → node_of u q ≡ Some (record { id = q; life = life_at (end_event disk r.held (replica_step r input)) })

pub alone-ends : (w : World) (go : StepInProgress) (q : ℕ) (input : Input) → node_of go.world q ≡ node_of w q → EndsSo w (hand go q input).world input q
alone-ends w go q input same r disk node = hand-ends go q input r disk (same ∙ node)

pub handed-ends : (w : World) (list : List (Handed Msg)) (go : StepInProgress) (low : ℕ) → IsRising low (map (λ h. h.to) list) → ((q : ℕ) → low ≤ q → node_of go.world q ≡ node_of w q) →
    Each (λ h. EndsSo w (fold hand_over go list).world (Deliveries h.list) h.to) list
handed-ends w [] go low rise still = tt
handed-ends w (h ∷ list) go low rise still = (
  λ r disk node. others-stay list (hand_over go h) h.to (suc h.to) rise.1 (let less : h.to < suc h.to = omega arith in less)
      ∙ hand-ends go h.to (Deliveries h.list) r disk (still h.to rise.0 ∙ node),
  handed-ends w list (hand_over go h) (suc h.to) rise.1 (λ q le. stays q le ∙ still q (let up = rise.0 in omega arith)),
)
  where
    stays : (q : ℕ) → suc h.to ≤ q → node_of (hand_over go h).world q ≡ node_of go.world q
    stays q le = elim (hand-behind (λ x input. x ≡ h.to) go h.to (Deliveries h.list) refl q) [
      | inl same ↦ same
      | inr turn ↦ absurd (let same : q ≡ h.to = turn.of in omega arith)
    ]
