-- The step of a delivery is made of small steps: places are handed to a member, and what it kept is created.
use Rattle.std.proofs.Common.{◌≡◌, ℕ, suc, ◌+◌, ◌≤◌, true, false, not, List, [], ◌∷◌, ◌++◌, Option, Some, None, map, replicate, refl, sym, ap, ap₂, ◌∙◌, subst, is_some, is_none, append-nil, flat_map, nat_lt, arith}
use Rattle.std.specs.Prelude.{◌==◌, ◌-◌}
use Rattle.std.specs.Option.{option_map_or}
use Rattle.std.proofs.lemmas.Bool.{ltb-false, not-true}
use Rattle.cg_base.specs.Lists.{count_up, above_up_to}
use Rattle.cg_wire.specs.declared.message.Msg.{Msg}
use Rattle.cg_group.specs.declared.phase.Phase.TheVariants.{Down}
use Rattle.cg_group.specs.declared.delivery.Delivery.{Delivery}
use Rattle.cg_group.specs.State.{Standing, GroupState, standing_of, regular_in, is_up, is_regular, home, configuration, delivered_to, set_standing}
use Rattle.cg_group.specs.Ready.{ready, ready_in}
use Rattle.cg_group.specs.Refusals.{deliver_refusal, not_up, not_regular, not_ready}
use Rattle.cg_group.specs.Events.{send_all, go_down, deliver, deliveries_at, with_delivered}
use Rattle.cg_client.specs.Replica.{Replica}
use Rattle.cg_client.specs.Turn.{Turn, begin}
use Rattle.cg_states.specs.ReplicaStep.{Deliveries, replica_step}
use Rattle.cg_disk_records.specs.Crash.{Disk, EventEnd, Runs, Crashes as EndsInCrash, end_event}
use Rattle.cg_schedule.specs.declared.event.Event.TheVariants.{Deliver}
use Rattle.cg_model.specs.World.{Up, Node, World, node_of, replica_of}
use Rattle.cg_model.specs.Admission.{first_refusal, unknown}
use Rattle.cg_model.specs.Show.{ended}
use Rattle.cg_model.specs.Step.{happens, world_step, quietly, hand}
use Rattle.cg_model.specs.Turns.{Taken, turns_of, taken_as}
use Rattle.cg_model.specs.Small.{Small, Hands, Settles, take_all}
use Rattle.cg_model.specs.Smalls.{may_make, smalls_in, ending, ending_as}
use Rattle.cg_model.specs.FactsLists.{IsRising}
use Rattle.cg_agree_lemmas.specs.UnorderedKept.{first-none, refused-not}
use Rattle.cg_agree_lemmas.specs.GroupTurn.{standing-id}
use Rattle.cg_agree_lemmas.specs.GroupChanges.{DoRise, set-self, down-own, sent-waits}
use Rattle.cg_agree_lemmas.specs.NodeFacts.{node-self}
use Rattle.cg_agree_lemmas.specs.MadeQuietly.{IsMadeIn}
use Rattle.cg_agree_lemmas.specs.TurnWorlds.{hosted, up_node, runs-hosted, turn-ends, ended_in}
use Rattle.cg_agree_lemmas.specs.EventTurns.{IsUp, is-up, IsWorld, hand-leads, end-same}
use Rattle.cg_agree_lemmas.specs.HandWorlds.{standing, handed_to, hands-all, settles}
use Rattle.cg_agree_lemmas.specs.SmallWorlds.{grouped, small_in, may_in, played_in, MayIn, played-append, may-append}
use Rattle.cg_group.specs.RefusalLaws.{refuse_none}

-- who is regular stands in the group, in a phase with a number
pub record StandsRegular (g : GroupState Msg) (p : ℕ) : Type 0 where
  pub standing : Standing Msg
  pub is : standing_of g p ≡ Some standing
  pub named : standing.id ≡ p
  pub regular : (regular_in standing.phase == 0) ≡ false

pub stands-regular : (g : GroupState Msg) (p : ℕ) → is_regular g p ≡ true → StandsRegular g p
stands-regular g p e = at (standing_of g p) refl where
  at : (o : Option (Standing Msg)) → standing_of g p ≡ o → StandsRegular g p
  at None n = absurd (let clash : false ≡ true = sym (ap (λ (o : Option (Standing Msg)). not (regular_in (option_map_or (λ s. s.phase) o Down) == 0)) n) ∙ e in cc)
  at (Some s) n = record {
    standing = s;
    is = n;
    named = standing-id g p s n;
    regular = not-true (regular_in s.phase == 0) (sym (ap (λ (o : Option (Standing Msg)). not (regular_in (option_map_or (λ s. s.phase) o Down) == 0)) n) ∙ e);
  }

-- a world as its replica begins to be handed places
pub begun-handed : (w : World) (p : ℕ) (r : Replica) (disk : Disk) (s : Standing Msg) → IsRising 0 (map (λ s. s.id) w.nodes) → DoRise w.group →
    node_of w p ≡ Some (up_node p r disk) → standing_of w.group p ≡ Some s → (named : s.id ≡ p) (regular : (regular_in s.phase == 0) ≡ false) →
    w ≡ handed_to w w.group p disk s named regular (begin r) (delivered_to w.group p)
begun-handed w p r disk s rising rises node is named regular =
    let count : delivered_to w.group p ≡ s.delivered = ap (λ (o : Option (Standing Msg)). option_map_or (λ s. s.delivered) o 0) is in
    let same : set_standing w.group (standing w w.group p disk s named regular (begin r) (delivered_to w.group p)) ≡ w.group =
    ap₂ (λ n xs. set_standing w.group (record s { delivered = n; unordered = xs })) count (append-nil s.unordered) ∙ set-self w.group p s rises is in
    λ i. record w { group = sym same i; nodes = sym (node-self w.nodes p (Up r disk) node rising) i }

module _ (w : World) (p count : ℕ) (rising : IsRising 0 (map (λ s. s.id) w.nodes)) (rises : DoRise w.group) (here : IsUp w p) (in_group : StandsRegular w.group p)
    (enough : count ≤ ready w.group p) where
  abbrev r : Replica
  r = here.replica

  abbrev disk : Disk
  disk = here.disk

  abbrev s : Standing Msg
  s = in_group.standing

  abbrev g : GroupState Msg
  g = w.group

  abbrev from : ℕ
  from = delivered_to g p

  abbrev pub list : List (Delivery Msg)
  list = deliveries_at (home g p) (above_up_to from (from + count))

  abbrev t : Turn
  t = replica_step r (Deliveries list)

  abbrev pub handed : GroupState Msg
  handed = with_delivered g p (from + count)

  abbrev pub opening : List Small
  opening = replicate count (Hands p) ++ Settles p ∷ []

  handed-is : handed ≡ set_standing g (record s { delivered = from + count })
  handed-is = ap (λ (o : Option (Standing Msg)). option_map_or (λ s. set_standing g (record s { delivered = from + count })) o g) in_group.is

  home-is : home g p ≡ configuration g (regular_in s.phase)
  home-is = ap (λ (o : Option (Standing Msg)). configuration g (regular_in (option_map_or (λ s. s.phase) o Down))) in_group.is

  pub may-opens : MayIn w opening × (played_in w opening ≡ hosted w p t.replica disk (send_all handed p t.sent))
  unfolding replica_step may_in may_make
  may-opens =
      let first = begun-handed w p r disk s rising rises here.node in_group.is in_group.named in_group.regular in
      let some : count ≤ ready_in (configuration g (regular_in s.phase)) from = subst (λ c. count ≤ ready_in c from) home-is enough in
      let all = hands-all w g p disk s in_group.named in_group.regular count (begin r) from some in
      let places : take_all (deliveries_at (configuration g (regular_in s.phase)) (count_up (suc from) count)) (begin r) ≡ take_all list (begin r) =
      ap₂ (λ c n. take_all (deliveries_at c (count_up (suc from) n)) (begin r)) (sym home-is) (let same : count ≡ from + count - from = omega arith in same) in
      let leads = ap (λ v. played_in v (replicate count (Hands p))) first ∙ all.1
      ∙ ap (λ x. handed_to w g p disk s in_group.named in_group.regular x (from + count)) places in
      let last = ap (λ v. small_in v (Settles p)) leads ∙ settles w g p disk s in_group.named in_group.regular (take_all list (begin r)) (from + count) in
      let sent = sym (ap (λ h. send_all h p t.sent) handed-is ∙ sent-waits t.sent g (record s { delivered = from + count }) p in_group.named in_group.regular) in (
        may-append w (replicate count (Hands p)) (Settles p ∷ []) (subst (λ v. MayIn v (replicate count (Hands p))) (sym first) all.0) (up-there leads, tt),
        played-append w (replicate count (Hands p)) (Settles p ∷ []) ∙ last ∙ ap (hosted w p t.replica disk) sent,
      ) where
        up-there : played_in w (replicate count (Hands p)) ≡ handed_to w g p disk s in_group.named in_group.regular (take_all list (begin r)) (from + count) →
            may_in (played_in w (replicate count (Hands p))) (Settles p) ≡ true
        up-there e = ap (λ (v : World). is_some (replica_of v p)) e ∙ runs-hosted w p (take_all list (begin r)).replica disk (set_standing g (standing w g p disk s in_group.named in_group.regular (take_all list (begin r)) (from + count)))

  pub deliver-is : IsMadeIn w (Deliver p count)
  unfolding world_step happens turns_of smalls_in deliver ended
  deliver-is =
      let k : Taken = record { id = p; before = r; disk = disk; turn = t; ended = end_event disk r.held t } in
      let turns : turns_of w (Deliver p count) ≡ k ∷ [] = ap (λ (o : Option Node). option_map_or (λ s. taken_as p (Deliveries list) s.life) o [] ++ []) here.node in
      let steps : smalls_in w (Deliver p count) ≡ ending_as k opening k.ended = ap made-of turns ∙ append-nil (ending_as k opening k.ended) in
      let opens = may-opens in
      let down : go_down handed p ≡ go_down g p = ap (λ h. go_down h p) handed-is ∙ down-own g (record s { delivered = from + count }) p in_group.named in
      let ends = turn-ends w handed p r disk t opening here.node opens.0 opens.1 down in
      let leads = hand-leads (quietly (grouped w handed)) p r disk (Deliveries list) here.node in
      rw steps (ends.0, end-same w handed p t k.ended _ _ ends.1 (lined t k.ended leads)) where
        made-of : List Taken → List Small
        made-of list = flat_map (ending (λ q. replicate count (Hands q) ++ Settles q ∷ [])) list

        lined : (t : Turn) (end : EventEnd) → IsWorld (hand (quietly (grouped w handed)) p (Deliveries list)).world (ended_in (grouped w handed) handed p t end) →
            IsWorld (ended (hand (quietly (grouped w handed)) p (Deliveries list))).world (ended_in w handed p t end)
        lined t (Runs r disk) is = record { group = is.group; nodes = is.nodes; snapshots = is.snapshots }
        lined t (EndsInCrash disk green) is = record { group = is.group ∙ down; nodes = is.nodes; snapshots = is.snapshots } where
          down : go_down handed p ≡ go_down g p
          down = ap (λ h. go_down h p) handed-is ∙ down-own g (record s { delivered = from + count }) p in_group.named

-- what admits a delivery
pub record IsDelivering (w : World) (p count : ℕ) : Type 0 where
  pub here : IsUp w p
  pub in_group : StandsRegular w.group p
  pub enough : count ≤ ready w.group p

pub delivering : (w : World) (p count : ℕ) → ((q : ℕ) → is_some (replica_of w q) ≡ is_up w.group q) → first_refusal w (Deliver p count) ≡ None → IsDelivering w p count
unfolding first_refusal deliver_refusal
delivering w p count ups admitted =
    let first = first-none (unknown w p) (deliver_refusal w.group p count ∷ []) (ap is_none admitted) in
    let up = first-none (not_up w.group p) (not_regular w.group p ∷ not_ready w.group p count ∷ []) (ap is_none (first-none (deliver_refusal w.group p count) [] first.1).0) in
    let regular = first-none (not_regular w.group p) (not_ready w.group p count ∷ []) up.1 in
    let enough = refuse_none (nat_lt (ready w.group p) count) _ (first-none (not_ready w.group p count) [] regular.1).0 in
    record {
      here = is-up w p (ups p ∙ refused-not (is_up w.group p) _ up.0);
      in_group = stands-regular w.group p (refused-not (is_regular w.group p) _ regular.0);
      enough = ltb-false (ready w.group p) count enough;
    }

pub deliver-made : (w : World) (p count : ℕ) → ((q : ℕ) → is_some (replica_of w q) ≡ is_up w.group q) → IsRising 0 (map (λ s. s.id) w.nodes) → DoRise w.group →
    first_refusal w (Deliver p count) ≡ None → IsMadeIn w (Deliver p count)
deliver-made w p count ups rising rises admitted = (let d = delivering w p count ups admitted in deliver-is w p count rising rises d.here d.in_group d.enough)
