-- Where a replica's turn stands, the small steps of its event come to a world in which it is as the turn leaves it, before its commit.
use Rattle.cg_disk_records.specs.Crash.{Disk, EventEnd, Runs, Crashes as EndsInCrash, end_event}
use Rattle.cg_model.specs.Small.{Small, Commits, Crashes}
use Rattle.cg_model.specs.World.{NodeState, Up, Down, Node, World, running, node_of, replica_of}
use Rattle.cg_agree_lemmas.specs.TurnWorlds.{up_node, hosted, node-hosted, turn-ends}
use Rattle.std.proofs.Common.{◌≡◌, ◌++◌, ◌∷◌, ◌≤◌, ◌∙◌, if◌then◌else◌, List, None, Option, Some, ap, append_assoc, arith, flat_map, option_and_then, refl, subst, suc, sym, true, ℕ, []}
use Rattle.std.proofs.lemmas.Bool.{cond-true}
use Rattle.std.specs.Option.{option_map_or}
use Rattle.cg_agree_lemmas.specs.EventTurns.{hand-leads}
use Rattle.cg_agree_lemmas.specs.GroupChanges.{down-own}
use Rattle.cg_agree_lemmas.specs.SmallWorlds.{played-append, played_in}
use Rattle.cg_agree_lemmas.specs.TogetherWorlds.{IsGoing, IsMember, IsStill, one-on, smalls_among, turns_among}
use Rattle.cg_model.specs.FactsLists.{IsRising}
use Rattle.cg_model.specs.Show.{StepInProgress}
use Rattle.cg_model.specs.Smalls.{ending, ending_as}
use Rattle.cg_model.specs.Step.{hand}
use Rattle.cg_model.specs.Turns.{Taken, stands, taken, taken_as, taken_by}
use Rattle.cg_client.specs.Replica.{Replica}
use Rattle.cg_client.specs.Turn.{Turn}
use Rattle.cg_base.specs.Lists.{Each}
use Rattle.cg_base.specs.EachLaws.{Each-weaker}
use Rattle.cg_group.specs.Events.{send_all}
use Rattle.cg_group.specs.State.{GroupState, Standing, set_standing}
use Rattle.cg_group.specs.declared.delivery.Delivery.{Delivery}
use Rattle.cg_disk_records.specs.Commit.{commits}
use Rattle.cg_states.specs.ReplicaStep.{Deliveries, Input, replica_step}
use Rattle.cg_wire.specs.declared.message.Msg.{Msg}

pub record IsReached (w : World) (smalls : List Small) (p : ℕ) (t : Turn) : Type 0 where
  pub opening : List Small
  pub rest : List Small
  pub is : smalls ≡ opening ++ rest
  pub runs : replica_of (played_in w opening) p ≡ Some t.replica

abbrev pub LifeReached : World → List Small → Input → ℕ → NodeState → Type 0
LifeReached w smalls input p (Up r disk) = stands (taken_by p r disk (replica_step r input)) ≡ true → IsReached w smalls p (replica_step r input)
LifeReached w smalls input p (Down disk green) = Unit {0}

abbrev pub NodeReached : World → List Small → Input → ℕ → Option Node → Type 0
NodeReached w smalls input p None = Unit {0}
NodeReached w smalls input p (Some s) = LifeReached w smalls input p s.life

-- steps before these
pub reached-later : (w : World) (first smalls : List Small) (input : Input) (p : ℕ) (o : Option Node) → NodeReached (played_in w first) smalls input p o → NodeReached w (first ++ smalls) input p o
reached-later w first smalls input p None is = tt
reached-later w first smalls input p (Some s) is = life s.life is where
  life : (l : NodeState) → LifeReached (played_in w first) smalls input p l → LifeReached w (first ++ smalls) input p l
  life (Up r disk) is = λ stands.
      let reached = is stands in
      record {
        opening = first ++ reached.opening;
        rest = reached.rest;
        is = ap (λ xs. first ++ xs) reached.is ∙ sym (append_assoc first reached.opening reached.rest);
        runs = ap (λ (v : World). replica_of v p) (played-append w first reached.opening) ∙ reached.runs;
      }
  life (Down disk green) is = tt

-- a turn that stands ends behind all of its steps
record EndsBehind (k : Taken) (opening : List Small) : Type 0 where
  pub rest : List Small
  pub is : ending_as k opening k.ended ≡ opening ++ rest

ends-behind : (k : Taken) (opening : List Small) → stands k ≡ true → EndsBehind k opening
ends-behind k opening stays = at k.ended refl where
  at : (e : EventEnd) → k.ended ≡ e → EndsBehind k opening
  at (Runs r disk) e = record { rest = if commits k.before.held k.turn then Commits k.id ∷ [] else []; is = ap (ending_as k opening) e }
  at (EndsInCrash disk green) e = record {
    rest = Commits k.id ∷ Crashes k.id ∷ [];
    is = ap (ending_as k opening) e ∙ cond-true (stands k) (opening ++ Commits k.id ∷ Crashes k.id ∷ []) (Crashes k.id ∷ []) stays;
  }

module _ (w : World) (p : ℕ) (r : Replica) (disk : Disk) (input : Input) where
  abbrev t : Turn
  t = replica_step r input

  abbrev k : Taken
  k = taken_by p r disk t

  -- its steps come first, and others behind its end
  reached-first : (opening others : List Small) (g : GroupState Msg) → played_in w opening ≡ hosted w p t.replica disk g → stands k ≡ true → IsReached w (ending_as k opening k.ended ++ others) p t
  reached-first opening others g opens stays =
      let ends = ends-behind k opening stays in
      record {
        opening = opening;
        rest = ends.rest ++ others;
        is = ap (λ xs. xs ++ others) ends.is ∙ append_assoc opening ends.rest others;
        runs = ap (λ (v : World). replica_of v p) opens ∙ ap (λ (o : Option Node). option_and_then (λ s. running s.life) o) (node-hosted w p t.replica disk g);
      }

  taken-here : node_of w p ≡ Some (up_node p r disk) → taken w p input ≡ k ∷ []
  taken-here node = ap (λ (o : Option Node). option_map_or (λ s. taken_as p input s.life) o []) node

  -- only it takes a turn
  pub reached-alone : (block : ℕ → List Small) (g : GroupState Msg) → node_of w p ≡ Some (up_node p r disk) → played_in w (block p) ≡ hosted w p t.replica disk g → stands k ≡ true →
      IsReached w (flat_map (ending block) (taken w p input)) p t
  reached-alone block g node opens stays =
      subst (λ (turns : List Taken). IsReached w (flat_map (ending block) turns) p t) (sym (taken-here node)) (reached-first (block p) [] g opens stays)

-- ---- several replicas take their turns

module _ (w : World) (g : GroupState Msg) (N : ℕ → Standing Msg) (named : (q : ℕ) → (N q).id ≡ q) (input : ℕ → List (Delivery Msg)) (block : ℕ → List Small) where
  pub all-reached : (rest : List ℕ) (low : ℕ) → IsRising low rest → Each (IsMember w g N named input block) rest → (v : World) (go : StepInProgress) → IsGoing w g N named input block v go.world rest low →
      Each (λ q. NodeReached v (smalls_among w g N named input block rest) (Deliveries (input q)) q (node_of w q)) rest
  all-reached [] low rise each v go on = tt
  all-reached (p ∷ rest) low rise each v go on =
      let m = each.0 in
      let here = m.here in
      let le : low ≤ p = rise.0 in
      let t = replica_step here.replica (Deliveries (input p)) in
      let k : Taken = record { id = p; before = here.replica; disk = here.disk; turn = t; ended = end_event here.disk here.replica.held t } in
      let turns : taken w p (Deliveries (input p)) ≡ k ∷ [] = ap (λ (o : Option Node). option_map_or (λ s. taken_as p (Deliveries (input p)) s.life) o []) here.node in
      let others = smalls_among w g N named input block rest in
      let steps : smalls_among w g N named input block (p ∷ rest) ≡ ending_as k (block p) k.ended ++ others = ap (λ list. flat_map (ending block) (list ++ turns_among w g N named input block rest)) turns in
      let node_v = on.still.nodes p le ∙ here.node in
      let node_u = on.nodes p le ∙ here.node in
      let now : IsStill w g N named input block v p = record {
        nodes = λ q above. on.still.nodes q (omega arith);
        standings = λ q above. on.still.standings q (omega arith);
        configurations = on.still.configurations;
        rises = on.still.rises;
        rising = on.still.rising;
      } in
      let opened = m.opens v now in
      let ends = turn-ends v (set_standing v.group (N p)) p here.replica here.disk t (block p) node_v opened.0 opened.1 (down-own v.group (N p) p (named p)) in
      let leads = hand-leads go p here.replica here.disk (Deliveries (input p)) node_u in
      let first = ending_as k (block p) k.ended in
      let next = one-on w g N named input block v go.world p low rest le rise.1 on t (played_in v first) (hand go p (Deliveries (input p))).world k.ended ends.1 leads in
      let later = all-reached rest (suc p) rise.1 each.1 (played_in v first) (hand go p (Deliveries (input p))) next in
      let mine : NodeReached v (first ++ others) (Deliveries (input p)) p (Some (up_node p here.replica here.disk)) =
      λ stays. reached-first v p here.replica here.disk (Deliveries (input p)) (block p) others (send_all (set_standing v.group (N p)) p t.sent) opened.1 stays in
      subst (λ (smalls : List Small). Each (λ q. NodeReached v smalls (Deliveries (input q)) q (node_of w q)) (p ∷ rest)) (sym steps) (
        subst (NodeReached v (first ++ others) (Deliveries (input p)) p) (sym here.node) mine,
        Each-weaker (λ q. NodeReached (played_in v first) others (Deliveries (input q)) q (node_of w q)) (λ q. NodeReached v (first ++ others) (Deliveries (input q)) q (node_of w q))
            (λ q is. reached-later v first others (Deliveries (input q)) q (node_of w q) is) rest later,
      )
