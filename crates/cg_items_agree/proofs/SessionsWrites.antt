-- A request at a replica that creates: one action is made, whose name is new, or the replica goes down and none is.
use Rattle.std.proofs.Common.{◌≡◌, ℕ, suc, true, false, List, [], ◌∷◌, map, Option, Some, None, IfSome, option_and_then, refl, sym, ap, subst, ◌∙◌, arith, eq-eqb}
use Rattle.std.specs.Prelude.{◌==◌}
use Rattle.std.specs.Option.{option_map_or}
use Rattle.std.proofs.lemmas.Bool.{cond-true, lt-leb}
use Rattle.cg_base.specs.declared.action_id.ActionId.{ActionId}
use Rattle.cg_base.specs.Cuts.{index_in}
use Rattle.cg_base.specs.Ids.{has_name}
use Rattle.cg_action.specs.declared.action.Action.{Action}
use Rattle.cg_action.specs.declared.action.Kind.{Kind}
use Rattle.cg_action.specs.declared.action.Kind.TheVariants.{Update}
use Rattle.cg_action.specs.declared.command.Cmd.{Cmd}
use Rattle.cg_action.specs.declared.query.Query.{Query}
use Rattle.cg_report.specs.declared.entry.Made.{Made}
use Rattle.cg_client.specs.Replica.{State, RegPrim, TransPrim, ExchangeStates, ExchangeActions, Construct, No, Un, NonPrim, Left, Replica, created}
use Rattle.cg_client.specs.Requests.{is_creating, create, request_in}
use Rattle.cg_client.specs.Turn.{Turn, begin}
use Rattle.cg_states.specs.ReplicaStep.{Asks as AsksOf, replica_step}
use Rattle.cg_disk_records.specs.Crash.{Disk, EventEnd, Runs, Crashes, end_event}
use Rattle.cg_schedule.specs.declared.event.Event.TheVariants.{Request}
use Rattle.cg_model.specs.World.{NodeState, Up, Down, Node, World, no_world, node_of, replica_of, running}
use Rattle.cg_model.specs.Show.{StepInProgress, Moved, ended}
use Rattle.cg_model.specs.Step.{quietly, hand, ask, happens, world_step}
use Rattle.cg_model.specs.AtNode.{after_event, hand_to}
use Rattle.cg_model.specs.Run.{Step, IsRunFrom}
use Rattle.cg_model.specs.Shown.{made_names}
use Rattle.cg_model.specs.Agreement.{through}
use Rattle.cg_model.specs.Chronicle.{Chronicle}
use Rattle.cg_model.specs.Making.{made_as, newly_made, made_by, AreNextOf}
use Rattle.cg_model.specs.FactsReplica.{IsModeData}
use Rattle.cg_model.specs.Places.{creates}
use Rattle.cg_model.specs.Played.{StandsBeside}
use Rattle.cg_agree_lemmas.specs.ChronicleFacts.{replica_of-set}
use Rattle.cg_agree_lemmas.specs.NodeFacts.{node-id}
use Rattle.cg_agree_lemmas.specs.TurnWorlds.{up_node}
use Rattle.cg_items_agree.proofs.SessionsBehind.{Laws, step-is, was}
use Rattle.cg_model.specs.RunLaws.{world_of, chronicle_of}

-- an action that was made, as it is shown
abbrev pub one_made : ℕ → ℕ → Kind → Made
one_made p index kind = record { id = record { creator = p; index = index }; kind = kind }

-- the replica is up behind the request, which made one action; or it is down, and none was made
pub data IsMade (p : ℕ) (kind : Kind) (v : World) (made : List Made) : Type 0 where
  MadeOne : (replica : Replica) (up : replica_of v p ≡ Some replica) (index : ℕ) (is : made ≡ one_made p index kind ∷ []) → IsMade p kind v made
  MadeNone : (down : replica_of v p ≡ None) (is : made ≡ []) → IsMade p kind v made

abbrev pub shown_made : List Action → List Made
shown_made list = map (λ a. record { id = a.id; kind = a.kind }) list

made-in : (r : Replica) (kind : Kind) → is_creating r.state ≡ true → shown_made (replica_step r (AsksOf kind)).made ≡ one_made r.held.id (suc (created r.held)) kind ∷ []
unfolding replica_step create
made-in r kind creating = at r.state creating where
  at : (state : State) → is_creating state ≡ true → shown_made (request_in state (begin r) kind).made ≡ one_made r.held.id (suc (created r.held)) kind ∷ []
  at RegPrim e = refl
  at (NonPrim true) e = refl
  at (NonPrim false) e = absurd (let clash : false ≡ true = e in cc)
  at Left e = absurd (let clash : false ≡ true = e in cc)
  at TransPrim e = absurd (let clash : false ≡ true = e in cc)
  at (ExchangeStates conf set heard) e = absurd (let clash : false ≡ true = e in cc)
  at (ExchangeActions conf heard accepted) e = absurd (let clash : false ≡ true = e in cc)
  at (Construct conf heard) e = absurd (let clash : false ≡ true = e in cc)
  at (No conf heard) e = absurd (let clash : false ≡ true = e in cc)
  at Un e = absurd (let clash : false ≡ true = e in cc)

-- the event of a request to this replica
module _ (w : World) (p : ℕ) (kind : Kind) (r : Replica) (disk : Disk) (node : node_of w p ≡ Some (up_node p r disk)) (mine : r.held.id ≡ p) (creating : is_creating r.state ≡ true) where
  abbrev t : Turn
  t = replica_step r (AsksOf kind)

  ended-made : (e : EventEnd) → (let m = ended (after_event (quietly w) p t e) in IsMade p kind m.world m.entry.made)
  unfolding ended
  ended-made (Runs x d) = MadeOne x (replica_of-set w p (Up x d)) (suc (created r.held)) (made-in r kind creating ∙ ap (λ n. one_made n (suc (created r.held)) kind ∷ []) mine)
  ended-made (Crashes d green) = MadeNone (replica_of-set w p (Down d green)) refl

  asked-made : (let m = ended (hand (quietly w) p (AsksOf kind)) in IsMade p kind m.world m.entry.made)
  unfolding hand
  asked-made =
      let is : hand (quietly w) p (AsksOf kind) ≡ after_event (quietly w) p t (end_event disk r.held t) =
      ap (λ (o : Option Node). option_map_or (λ s. hand_to (quietly w) p (AsksOf kind) s.life) o (quietly w)) node in
      subst (λ (g : StepInProgress). (let m = ended g in IsMade p kind m.world m.entry.made)) (sym is) (ended-made (end_event disk r.held t))

request-made : (c : Chronicle) (w : World) (p : ℕ) (cmds : List Cmd) (query : Option Query) → StandsBeside c w → creates w p ≡ true →
    (let m = world_step w (Request p cmds query) in IsMade p (Update cmds query) m.world m.entry.made)
unfolding world_step happens
request-made c w p cmds query stands creating = at (node_of w p) refl where
  in-state : (o : Option Node) → node_of w p ≡ o → option_map_or (λ r. is_creating r.state) (option_and_then (λ s. running s.life) o) false ≡ true
  in-state o is = ap (λ (x : Option Node). option_map_or (λ r. is_creating r.state) (option_and_then (λ s. running s.life) x) false) (sym is) ∙ creating

  up : (r : Replica) (disk : Disk) → node_of w p ≡ Some (up_node p r disk) → (let m = ended (ask w p (Update cmds query)) in IsMade p (Update cmds query) m.world m.entry.made)
  up r disk node =
      let here : replica_of c.world p ≡ Some r = sym (stands.same.running p) ∙ ap (λ (o : Option Node). option_and_then (λ s. running s.life) o) node in
      let mode = subst (λ (o : Option Replica). IfSome o (IsModeData c p)) here (stands.facts.replica.mode_data p) in
      asked-made w p (Update cmds query) r disk node mode.id (in-state (Some (up_node p r disk)) node)

  life : (s : Node) → node_of w p ≡ Some s → (l : NodeState) → s.life ≡ l → (let m = ended (ask w p (Update cmds query)) in IsMade p (Update cmds query) m.world m.entry.made)
  life s found (Up r disk) is = up r disk (found ∙ (λ i. Some (record { id = node-id w p s found i; life = is i })))
  life s found (Down disk green) is =
      absurd (let clash : false ≡ true = sym (ap (λ l. option_map_or (λ (r : Replica). is_creating r.state) (running l) false) is) ∙ in-state (Some s) found in cc)

  at : (o : Option Node) → node_of w p ≡ o → (let m = ended (ask w p (Update cmds query)) in IsMade p (Update cmds query) m.world m.entry.made)
  at None found = absurd (let clash : false ≡ true = in-state None found in cc)
  at (Some s) found = life s found s.life refl

module _ (laws : Laws) (before : List Step) (s : Step) (run : IsRunFrom no_world (through before s)) where
  -- at most one action is made, with a new name
  pub write-made : (p : ℕ) (cmds : List Cmd) (query : Option Query) → s.event ≡ Request p cmds query → creates (world_of before) p ≡ true → IsMade p (Update cmds query) s.world s.entry.made
  write-made p cmds query event creating =
      let moved = (step-is laws before s run).moved ∙ ap (world_step (world_of before)) event in
      subst (λ (m : Moved). IsMade p (Update cmds query) m.world m.entry.made) (sym moved)
      (request-made (chronicle_of before) (world_of before) p cmds query (was laws before s run).stands creating)

  pub one-fresh : (x : Made) → s.entry.made ≡ x ∷ [] → has_name (made_names before) x.id ≡ false
  one-fresh x is =
      let p = x.id.creator in
      let step = step-is laws before s run in
      let m = world_step (world_of before) s.event in
      let made = laws.made (chronicle_of before) (world_of before) s.event (was laws before s run).reached step.may step.admitted in
      let count = index_in (world_of before).made p in
      let list : m.entry.made ≡ x ∷ [] = sym (ap (λ (y : Moved). y.entry.made) step.moved) ∙ is in
      let only : made_by p (newly_made m) ≡ made_as m.world x ∷ [] =
      ap (λ xs. made_by p (map (made_as m.world) xs)) list ∙ cond-true (p == p) (made_as m.world x ∷ []) [] (eq-eqb p p refl) in
      let next = subst (AreNextOf p count) only (made.next p) in
      let index : x.id.index ≡ suc count = ap (λ (id : ActionId). id.index) next.0 in
      let told = (was laws before s run).tells.made x.id (omega arith) in
      told ∙ lt-leb x.id.index count (omega arith)
