-- What was shown as made counts what each replica has created, world by world: behind each event, where it does before it.
use Rattle.std.proofs.Common.{◌≡◌, ℕ, suc, ◌≤◌, max, cond, List, [], ◌∷◌, map, find, fold, Option, Some, None, refl, sym, ap, ◌∙◌, subst, inl, inr, arith, eq-eqb}
use Rattle.std.specs.Prelude.{◌==◌}
use Rattle.std.specs.Option.{option_map_or}
use Rattle.std.proofs.lemmas.Bool.{cases_eq, cond-true, cond-false, ne_eqb}
use Rattle.cg_base.specs.declared.action_id.ActionId.{ActionId}
use Rattle.cg_base.specs.declared.weighted.Weighted.{Weighted}
use Rattle.cg_base.specs.Cuts.{index_in}
use Rattle.cg_action.specs.declared.action.Action.{Action}
use Rattle.cg_queue.specs.Queue.{names_of}
use Rattle.cg_wire.specs.declared.message.Msg.{Msg}
use Rattle.cg_group.specs.declared.delivery.Handed.{Handed}
use Rattle.cg_client.specs.Replica.{Held, Replica, created, fresh}
use Rattle.cg_client.specs.Turn.{Turn}
use Rattle.cg_disk_records.specs.Stored.{stored_of, whiten}
use Rattle.cg_states.specs.ReplicaStep.{Input, Deliveries, replica_step}
use Rattle.cg_disk_records.specs.Crash.{Disk, Strike, Runs, Crashes, whitened, end_event, at_rest, new_disk, recovered, disk_recovered}
use Rattle.cg_model.specs.FactsBooks.{LifeMade, MadeFits, NodeMade}
use Rattle.cg_model.specs.World.{NodeState, Up, Down, Node, World, node_of, bring_up, set_life}
use Rattle.cg_model.specs.Show.{StepInProgress, unshown}
use Rattle.cg_model.specs.Step.{hand, hand_over, begin_replica, name_also, joiner_replica}
use Rattle.cg_model.specs.AtNode.{after_event, hand_to, arm_at, crash_at, recover_from}
use Rattle.cg_model.specs.FactsLists.{IsRising}
use Rattle.cg_model.specs.FactsReplica.{GoesOn}
use Rattle.cg_agree_lemmas.specs.ChronicleFacts.{node_of-set}
use Rattle.cg_disk_records.specs.Holds.{cut_behind, Rising}
use Rattle.cg_agree_lemmas.specs.HeldMarks.{IsOneself}
use Rattle.cg_agree_lemmas.specs.DiskEnds.{end-cases}
use Rattle.cg_agree_lemmas.specs.CreatedKept.{created-first}
use Rattle.cg_agree_lemmas.specs.WorldTurns.{hand-behind}
use Rattle.cg_agree_lemmas.specs.MadeGrows.{IsShown, step-shown}
use Rattle.cg_agree_lemmas.specs.MadeRecovered.{recovery-shown}
use Rattle.cg_agree_lemmas.specs.DiskSwaps.{Swaps}
use Rattle.cg_disk_records.specs.CutRaiseLaws.{rising-behind}
use Rattle.cg_disk_records.specs.HeldLaws.{whitened-created}

-- what a replica holds is what some greens make of it
pub record IsCoreAt (start : List Weighted) (p : ℕ) (h : Held) : Type 0 where
  pub greens : List Action
  pub is : IsOneself start h greens
  pub id : h.id ≡ p

abbrev pub LifeSound : List Weighted → ℕ → NodeState → Type 0
LifeSound start p (Up r disk) = IsCoreAt start p r.held × GoesOn r.held disk.content
LifeSound start p (Down disk green) = IsCoreAt start p disk.content

abbrev pub NodeSound : List Weighted → ℕ → Option Node → Type 0
NodeSound start p None = Unit {0}
NodeSound start p (Some s) = LifeSound start p s.life

-- ---- one node changes

pub fits-same : (w v : World) → v.nodes ≡ w.nodes → v.made ≡ w.made → MadeFits w → MadeFits v
fits-same w v nodes made fits = record {
  rising = subst (Rising 0) (sym made) fits.rising;
  nodes = λ p. subst (λ (o : Option Node). NodeMade (index_in v.made p) p o) (ap (λ (list : List Node). find (λ s. s.id == p) list) (sym nodes))
      (subst (λ (n : ℕ). NodeMade n p (node_of w p)) (ap (λ m. index_in m p) (sym made)) (fits.nodes p));
}

-- the world, with this life, and a cut that goes no further but for its replica
pub fits-set : (w v : World) (p : ℕ) (life : NodeState) → ((q : ℕ) → node_of v q ≡ cond (p == q) (Some (record { id = p; life = life })) (node_of w q)) → Rising 0 v.made →
    LifeMade (index_in v.made p) p life → ((q : ℕ) → (q ≡ p → ⊥) → index_in v.made q ≡ index_in w.made q) → MadeFits w → MadeFits v
fits-set w v p life nodes rising is others fits = record { rising = rising; nodes = each } where
  each : (q : ℕ) → NodeMade (index_in v.made q) q (node_of v q)
  each q = elim (cases_eq p q) [
    | inl same ↦ subst (λ (n : ℕ). NodeMade (index_in v.made n) n (node_of v n)) same
        (subst (NodeMade (index_in v.made p) p) (sym (nodes p ∙ cond-true (p == p) (Some (let s : Node = record { id = p; life = life } in s)) (node_of w p) (eq-eqb p p refl))) is)
    | inr apart ↦ subst (NodeMade (index_in v.made q) q) (sym (nodes q ∙ cond-false (p == q) (Some (let s : Node = record { id = p; life = life } in s)) (node_of w q) (ne_eqb p q apart)))
        (subst (λ (n : ℕ). NodeMade n q (node_of w q)) (sym (others q (λ e. apart (sym e)))) (fits.nodes q))
  ]

-- ---- a turn

whitened-green : (h : Held) → (whiten h).queue.green_cut ≡ h.queue.green_cut
unfolding whiten
whitened-green h = refl

pub green-created : (start : List Weighted) (p : ℕ) (h : Held) → IsCoreAt start p h → index_in h.queue.green_cut p ≤ created h
green-created start p h core =
    let below : index_in h.queue.green_cut p ≤ index_in h.queue.red_cut p = (created-first start h core.greens core.is).below p in
    let here : index_in h.queue.red_cut h.id ≡ index_in h.queue.red_cut p = ap (index_in h.queue.red_cut) core.id in
    omega arith

-- what stands on the disk of a replica at rest
lost-made : (start : List Weighted) (n p : ℕ) (h content disk : Held) → content ≡ disk → IsCoreAt start p h → GoesOn h disk → n ≡ created h → (n ≤ created content) × (index_in content.queue.green_cut p ≤ n)
lost-made start n p h content disk same core on is =
    let made : created h ≡ created content = on.created ∙ ap created (sym same) in
    let green : index_in h.queue.green_cut p ≡ index_in content.queue.green_cut p = ap (λ cut. index_in cut p) (on.green ∙ ap (λ (x : Held). x.queue.green_cut) (sym same)) in
    let low = green-created start p h core in
    (omega arith, omega arith)

turn-fits : (start : List Weighted) (go : StepInProgress) (p : ℕ) (r : Replica) (disk : Disk) (input : Input) → IsCoreAt start p r.held → GoesOn r.held disk.content → index_in go.world.made p ≡ created r.held →
    MadeFits go.world → MadeFits (after_event go p (replica_step r input) (end_event disk r.held (replica_step r input))).world
turn-fits start go p r disk input core on counts fits = end-cases disk r.held t (λ e. MadeFits (after_event go p t e).world)
    (λ quiet d is. runs t.replica d counted) (λ does d is. runs (whitened t.replica) d (counted ∙ sym (whitened-created t.replica.held)))
    (λ stays d green is. falls d green (stood d is)) (λ gone d green is. falls d green (lost-made start (index_in go.world.made p) p r.held d.content disk.content is core on counts)) where
      t : Turn
      t = replica_step r input

      shown : IsShown go.world.made r.held t
      shown = step-shown go.world.made start r core.greens input fits.rising core.is (ap (index_in go.world.made) core.id ∙ counts)

      counted : index_in (cut_behind go.world.made (names_of t.made)) p ≡ created t.replica.held
      counted = subst (λ (n : ℕ). index_in (cut_behind go.world.made (names_of t.made)) n ≡ created t.replica.held) core.id shown.counted

      runs : (x : Replica) (d : Disk) → index_in (cut_behind go.world.made (names_of t.made)) p ≡ created x.held → MadeFits (after_event go p t (Runs x d)).world
      runs x d is = fits-set go.world (after_event go p t (Runs x d)).world p (Up x d) (λ q. node_of-set go.world p (Up x d) q) (rising-behind go.world.made (names_of t.made) fits.rising) is
          (λ q apart. shown.others q (λ e. apart (e ∙ core.id))) fits

      falls : (d : Disk) (green : List ActionId) → LifeMade (index_in go.world.made p) p (Down d green) → MadeFits (after_event go p t (Crashes d green)).world
      falls d green is = fits-set go.world (after_event go p t (Crashes d green)).world p (Down d green) (λ q. node_of-set go.world p (Down d green) q) fits.rising is (λ q apart. refl) fits

      stood : (d : Disk) → d.content ≡ stored_of (whiten t.replica.held) → (index_in go.world.made p ≤ created d.content) × (index_in d.content.queue.green_cut p ≤ index_in go.world.made p)
      stood d is =
          let made : created d.content ≡ created t.replica.held = ap created is ∙ whitened-created t.replica.held in
          let cut : index_in d.content.queue.green_cut p ≡ index_in t.replica.held.queue.green_cut p = ap (λ (h : Held). index_in h.queue.green_cut p) is ∙ ap (λ c. index_in c p) (whitened-green t.replica.held) in
          let low : index_in t.replica.held.queue.green_cut p ≤ created r.held = subst (λ (n : ℕ). index_in t.replica.held.queue.green_cut n ≤ created r.held) core.id shown.green in
          let more = shown.more in
          (omega arith, omega arith)

-- ---- what is handed

pub hand-fits : (start : List Weighted) (go : StepInProgress) (p : ℕ) (input : Input) → NodeSound start p (node_of go.world p) → MadeFits go.world → MadeFits (hand go p input).world
unfolding hand
hand-fits start go p input sound fits = at (node_of go.world p) sound (fits.nodes p) where
  life : (l : NodeState) → LifeSound start p l → LifeMade (index_in go.world.made p) p l → MadeFits (hand_to go p input l).world
  life (Up r disk) sound made = turn-fits start go p r disk input sound.0 sound.1 made fits
  life (Down disk green) sound made = fits

  at : (o : Option Node) → NodeSound start p o → NodeMade (index_in go.world.made p) p o → MadeFits (option_map_or (λ s. hand_to go p input s.life) o go).world
  at None sound made = fits
  at (Some s) sound made = life s.life sound made

-- replicas take their turns, ascending; who hasn't yet is as it was
pub handed-fits : (start : List Weighted) (list : List (Handed Msg)) (go : StepInProgress) (low : ℕ) → IsRising low (map (λ h. h.to) list) → ((p : ℕ) → low ≤ p → NodeSound start p (node_of go.world p)) → MadeFits go.world →
    MadeFits (fold hand_over go list).world
handed-fits start [] go low rise sound fits = fits
handed-fits start (h ∷ list) go low rise sound fits =
    handed-fits start list (hand_over go h) (suc h.to) rise.1 (λ p le. (let first = rise.0 in subst (NodeSound start p) (sym (stays p le)) (sound p (omega arith))))
    (hand-fits start go h.to (Deliveries h.list) (sound h.to rise.0) fits) where
      stays : (p : ℕ) → suc h.to ≤ p → node_of (hand_over go h).world p ≡ node_of go.world p
      stays p le = elim (hand-behind (λ q input. q ≡ h.to) go h.to (Deliveries h.list) refl p) [
        | inl same ↦ same
        | inr turn ↦ absurd (let same : p ≡ h.to = turn.of in omega arith)
      ]

-- ---- who begins, and who goes down or comes up

begun-one : (set : List Weighted) (w : World) (p : ℕ) → w.made ≡ [] → MadeFits w → MadeFits (begin_replica set w p)
begun-one set w p none fits =
    let r = fresh p set in
    let is : index_in w.made p ≡ 0 = ap (λ m. index_in m p) none in
    fits-set w (begin_replica set w p) p (Up r (new_disk r.held)) (λ q. node_of-set (name_also w p) p (Up r (new_disk r.held)) q) fits.rising is (λ q apart. refl) fits

pub begun-fits : (set : List Weighted) (list : List ℕ) (w : World) → w.made ≡ [] → MadeFits w → MadeFits (fold (begin_replica set) w list)
begun-fits set [] w none fits = fits
begun-fits set (p ∷ list) w none fits = begun-fits set list (begin_replica set w p) none (begun-one set w p none fits)

module _ (start : List Weighted) (w : World) (p : ℕ) (sound : NodeSound start p (node_of w p)) (fits : MadeFits w) where
  of-node : (f : NodeState → World) → ((l : NodeState) → LifeSound start p l → LifeMade (index_in w.made p) p l → MadeFits (f l)) → MadeFits (option_map_or (λ s. f s.life) (node_of w p) w)
  of-node f each = at (node_of w p) sound (fits.nodes p) where
    at : (o : Option Node) → NodeSound start p o → NodeMade (index_in w.made p) p o → MadeFits (option_map_or (λ s. f s.life) o w)
    at None sound made = fits
    at (Some s) sound made = each s.life sound made

  pub stopped-fits : MadeFits (option_map_or (λ s. crash_at w p s.life) (node_of w p) w)
  stopped-fits = of-node (crash_at w p) life where
    life : (l : NodeState) → LifeSound start p l → LifeMade (index_in w.made p) p l → MadeFits (crash_at w p l)
    life (Up r disk) sound made = fits-set w (crash_at w p (Up r disk)) p (Down (at_rest disk) []) (λ q. node_of-set w p (Down (at_rest disk) []) q) fits.rising
        (lost-made start (index_in w.made p) p r.held disk.content disk.content refl sound.0 sound.1 made) (λ q apart. refl) fits
    life (Down disk green) sound made = fits

  pub armed-fits : (strike : Strike) → MadeFits (option_map_or (λ s. arm_at w p strike s.life) (node_of w p) w)
  armed-fits strike = of-node (arm_at w p strike) life where
    life : (l : NodeState) → LifeSound start p l → LifeMade (index_in w.made p) p l → MadeFits (arm_at w p strike l)
    life (Up r disk) sound made = fits-set w (arm_at w p strike (Up r disk)) p (Up r (record disk { armed = Some strike })) (λ q. node_of-set w p (Up r (record disk { armed = Some strike })) q) fits.rising
        made (λ q apart. refl) fits
    life (Down disk green) sound made = fits

  pub came-up : (l : NodeState) → LifeSound start p l → LifeMade (index_in w.made p) p l → MadeFits (recover_from w l).world
  came-up (Up r disk) sound made = fits
  came-up (Down disk green) sound made =
      let r = recovered disk in
      let again = recovery-shown w.made start p disk sound.greens fits.rising sound.is sound.id made.0 made.1 in
      fits-set w (recover_from w (Down disk green)).world p (Up r (disk_recovered disk))
      (λ q. node_of-set w r.held.id (Up r (disk_recovered disk)) q ∙ ap (λ n. cond (n == q) (Some (record { id = n; life = Up r (disk_recovered disk) })) (node_of w q)) again.id)
      (rising-behind w.made (names_of (unshown w.made r.held)) fits.rising) again.counted again.others fits

pub swapped-fits : (w v : World) (p : ℕ) → MadeFits w → Swaps w v p → MadeFits v
swapped-fits w v p fits is = elim is [
  | inl same ↦ subst MadeFits (sym same) fits
  | inr other ↦
      let new : NodeState = Down other.new other.green in
      let made : LifeMade (index_in w.made p) p (Down other.old other.green) = subst (NodeMade (index_in w.made p) p) other.node (fits.nodes p) in
      subst MadeFits (sym other.world)
      (fits-set w (set_life w p new) p new (λ q. node_of-set w p new q) fits.rising
      (subst (λ (h : Held). (index_in w.made p ≤ created h) × (index_in h.queue.green_cut p ≤ index_in w.made p)) (sym other.content) made) (λ q apart. refl) fits)
]

-- a joiner of which nothing is known to be made
pub joined-fits : (w others : World) (joiner : ℕ) (content : Held) → others.nodes ≡ w.nodes → others.made ≡ w.made → index_in w.made joiner ≡ 0 → index_in content.queue.green_cut joiner ≡ 0 → MadeFits w →
    (let r = joiner_replica joiner content in MadeFits (bring_up others r (new_disk r.held)))
joined-fits w others joiner content nodes made none green fits =
    let r = joiner_replica joiner content in
    let same = fits-same w others nodes made fits in
    let shown : index_in others.made joiner ≡ 0 = ap (λ m. index_in m joiner) made ∙ none in
    let is : index_in others.made joiner ≡ max (index_in content.queue.green_cut joiner) 0 = omega arith in
    fits-set others (bring_up others r (new_disk r.held)) joiner (Up r (new_disk r.held)) (λ q. node_of-set others joiner (Up r (new_disk r.held)) q) same.rising is (λ q apart. refl) same
