-- The lists of a world that are kept by a key ascend behind every small step, and each snapshot is one for a server.
use Rattle.std.proofs.Common.{◌≡◌, ℕ, zero, suc, pred, Bool, true, false, not, List, [], ◌∷◌, ◌++◌, Option, Some, None, map, filter, fold, sym, subst, arith}
use Rattle.std.specs.Prelude.{◌==◌}
use Rattle.std.specs.Option.{option_map_or}
use Rattle.std.proofs.lemmas.Bool.{cond_both, and_parts}
use Rattle.cg_base.specs.declared.weighted.Weighted.{Weighted}
use Rattle.cg_base.specs.Lists.{at_place}
use Rattle.cg_base.specs.Weights.{ids}
use Rattle.cg_members.specs.Servers.{is_server}
use Rattle.cg_wire.specs.declared.message.Msg.{Msg}
use Rattle.cg_group.specs.declared.phase.Phase.TheVariants.{Alone}
use Rattle.cg_group.specs.State.{Standing, Configuration, GroupState, no_configuration, standing_of, configuration, regular_in, phase_of, delivered_to, set_standing, set_configuration, changed_at}
use Rattle.cg_group.specs.Events.{send_all, order, order_from, receive, with_receipt, with_message, with_delivered, become_regular, come_up, go_down}
use Rattle.cg_client.specs.Replica.{Replica, fresh}
use Rattle.cg_client.specs.Turn.{Turn, begin}
use Rattle.cg_client.specs.Requests.{settle}
use Rattle.cg_disk_records.specs.Stored.{stored_of, whiten}
use Rattle.cg_disk_records.specs.Crash.{Disk, new_disk, at_rest, recovered, disk_recovered}
use Rattle.cg_model.specs.World.{NodeState, Up, Down, Node, TransferState, World, has_begun, node_of, replica_of, set_life, bring_up}
use Rattle.cg_model.specs.Step.{begin_replica, name_also, joiner_replica, without_snapshot}
use Rattle.cg_model.specs.Chronicle.{Chronicle}
use Rattle.cg_model.specs.Looks.{snapshot_of}
use Rattle.cg_model.specs.Small.{Small, Starts, Makes, Enters, Orders, Receives, Hands, Leaves, Asks, Settles, Commits, Crashes, Recovers, Copies, Joins, newest_conf, make_configuration, become_past, take_newest, take_next, take_parting, take_request, small_step}
use Rattle.cg_model.specs.Smalls.{may_make}
use Rattle.cg_model.specs.FactsLists.{IsRising, AreRising, AreReceived, AreForServers, ListFacts}
use Rattle.cg_agree_lemmas.specs.Standings.{rising-with_member}
use Rattle.cg_agree_lemmas.specs.GroupChanges.{DoRise, rising-set, rising-down, rising-sent, configurations-sent, configurations-down}
use Rattle.cg_agree_lemmas.specs.NodeFacts.{ids-hosted}
use Rattle.cg_agree_lemmas.specs.GatherReceipts.{rising-gets}
use Rattle.cg_agree_lemmas.specs.SmallWorlds.{grouped, turned_in, turning_in, commit_in, crash_in, recover_in, copy_in, join_in, small_in, may_in, may-of, small-world}
use Rattle.cg_agree_lemmas.specs.GatherPlaces.{rising-next}

-- ---- the group

-- its replicas ascend, and so do those who have received each place
pub record IsKeyed (g : GroupState Msg) : Type 0 where
  pub rises : DoRise g
  pub received : AreReceived g.configurations

received-at : (list : List (Configuration Msg)) (n : ℕ) → AreReceived list → AreRising (option_map_or (λ c. c) (at_place list n) no_configuration).received
received-at list zero each = tt
received-at [] (suc n) each = tt
received-at (c ∷ list) (suc zero) each = each.0
received-at (c ∷ list) (suc (suc n)) each = received-at list (suc n) each.1

received-changed : (list : List (Configuration Msg)) (n : ℕ) (c : Configuration Msg) → AreRising c.received → AreReceived list → AreReceived (changed_at (λ old. c) list n)
received-changed [] n c is each = tt
received-changed (x ∷ list) n c is each = cond_both (n == 1) (c ∷ list) (x ∷ changed_at (λ old. c) list (pred n)) AreReceived (λ y. (is, each.1)) (λ f. (each.0, received-changed list (pred n) c is each.1))

received-next : (list : List (Configuration Msg)) (c : Configuration Msg) → AreRising c.received → AreReceived list → AreReceived (list ++ c ∷ [])
received-next [] c is each = (is, tt)
received-next (x ∷ list) c is each = (each.0, received-next list c is each.1)

keyed-set : (g : GroupState Msg) (s : Standing Msg) → IsKeyed g → IsKeyed (set_standing g s)
unfolding set_standing
keyed-set g s is = record { rises = rising-set g s is.rises; received = is.received }

keyed-sent : (list : List Msg) (g : GroupState Msg) (p : ℕ) → IsKeyed g → IsKeyed (send_all g p list)
keyed-sent list g p is = record { rises = rising-sent list g p is.rises; received = subst AreReceived (sym (configurations-sent list g p)) is.received }

keyed-down : (g : GroupState Msg) (p : ℕ) → IsKeyed g → IsKeyed (go_down g p)
keyed-down g p is = record { rises = rising-down g p is.rises; received = subst AreReceived (sym (configurations-down g p)) is.received }

keyed-up : (g : GroupState Msg) (p : ℕ) → IsKeyed g → IsKeyed (come_up g p)
unfolding come_up
keyed-up g p is = keyed-set g (record { id = p; phase = Alone; delivered = 0; unordered = [] }) is

keyed-order : (g : GroupState Msg) (p : ℕ) → IsKeyed g → IsKeyed (order g p)
unfolding order order_from set_configuration configuration set_standing with_message
keyed-order g p is = at (standing_of g p) where
  from : (s : Standing Msg) (list : List Msg) → IsKeyed (order_from g s list)
  from s [] = is
  from s (m ∷ rest) = record {
    rises = rising-set g (record s { unordered = rest }) is.rises;
    received = received-changed g.configurations (regular_in s.phase) (with_message (configuration g (regular_in s.phase)) s.id m)
        (rising-next (configuration g (regular_in s.phase)).received s.id (received-at g.configurations (regular_in s.phase) is.received)) is.received;
  }

  at : (o : Option (Standing Msg)) → IsKeyed (option_map_or (λ s. order_from g s s.unordered) o g)
  at None = is
  at (Some s) = from s s.unordered

keyed-receive : (g : GroupState Msg) (p place : ℕ) → IsKeyed g → IsKeyed (receive g p place)
unfolding receive set_configuration configuration with_receipt
keyed-receive g p place is =
    let conf = regular_in (phase_of g p) in
    record {
      rises = is.rises;
      received = received-changed g.configurations conf (with_receipt (configuration g conf) p place)
          (rising-gets p place (configuration g conf).received (received-at g.configurations conf is.received)) is.received;
    }

keyed-delivered : (g : GroupState Msg) (p n : ℕ) → IsKeyed g → IsKeyed (with_delivered g p n)
keyed-delivered g p n is = at (standing_of g p) where
  at : (o : Option (Standing Msg)) → IsKeyed (option_map_or (λ s. set_standing g (record s { delivered = n })) o g)
  at None = is
  at (Some s) = keyed-set g (record s { delivered = n }) is

-- ---- the world

pub record AreLists (w : World) : Type 0 where
  pub nodes : IsRising 0 (map (λ s. s.id) w.nodes)
  pub keyed : IsKeyed w.group
  pub served : AreForServers w.snapshots

rising-node : (w : World) (p : ℕ) (life : NodeState) → IsRising 0 (map (λ s. s.id) w.nodes) → IsRising 0 (map (λ s. s.id) (set_life w p life).nodes)
rising-node w p life is = subst (IsRising 0) (sym (ids-hosted w.nodes (record { id = p; life = life }))) (rising-with_member 0 p (map (λ s. s.id) w.nodes) (omega arith) is)

served-filtered : (t : TransferState → Bool) (list : List TransferState) → AreForServers list → AreForServers (filter t list)
served-filtered t [] each = tt
served-filtered t (s ∷ list) each = cond_both (t s) (s ∷ filter t list) (filter t list) AreForServers (λ y. (each.0, served-filtered t list each.1)) (λ n. served-filtered t list each.1)

lists-up : (w : World) (r : Replica) (disk : Disk) → AreLists w → AreLists (bring_up w r disk)
lists-up w r disk is = record { nodes = rising-node w r.held.id (Up r disk) is.nodes; keyed = keyed-up w.group r.held.id is.keyed; served = is.served }

lists-turning : (w : World) (p : ℕ) (part : Turn → Turn) → AreLists w → AreLists (turning_in w p part)
lists-turning w p part is = at (node_of w p) where
  life-lists : (life : NodeState) → AreLists (turned_in w p part life)
  life-lists (Up r disk) = record { nodes = rising-node w p (Up (part (begin r)).replica disk) is.nodes; keyed = keyed-sent (part (begin r)).sent w.group p is.keyed; served = is.served }
  life-lists (Down disk green) = is

  at : (o : Option Node) → AreLists (option_map_or (λ s. turned_in w p part s.life) o w)
  at None = is
  at (Some s) = life-lists s.life

lists-grouped : (w : World) (g : GroupState Msg) → IsKeyed g → AreLists w → AreLists (grouped w g)
lists-grouped w g keyed is = record { nodes = is.nodes; keyed = keyed; served = is.served }

lists-begun : (set : List Weighted) (ps : List ℕ) (w : World) → AreLists w → AreLists (fold (begin_replica set) w ps)
lists-begun set [] w is = is
lists-begun set (p ∷ ps) w is =
    let r = fresh p set in
    lists-begun set ps (begin_replica set w p) (lists-up (name_also w p) r (new_disk r.held) record { nodes = is.nodes; keyed = is.keyed; served = is.served })

lists-in : (w : World) (s : Small) → may_in w s ≡ true → AreLists w → AreLists (small_in w s)
unfolding small_in may_in may_make become_regular
lists-in w (Starts set) may is = lists-begun set (ids set) w is
lists-in w (Makes set) may is = lists-grouped w (make_configuration w.group set)
    (record { rises = is.keyed.rises; received = received-next w.group.configurations (let c : Configuration Msg = record { members = set; ordered = []; received = [] } in c) tt is.keyed.received }) is
lists-in w (Enters p) may is =
    let g = become_regular (newest_conf w.group) w.group p in
    lists-turning (grouped w g) p (take_newest w.group) (lists-grouped w g (keyed-set w.group _ is.keyed) is)
lists-in w (Orders p) may is = lists-grouped w (order w.group p) (keyed-order w.group p is.keyed) is
lists-in w (Receives p place) may is = lists-grouped w (receive w.group p place) (keyed-receive w.group p place is.keyed) is
lists-in w (Hands p) may is =
    let g = with_delivered w.group p (suc (delivered_to w.group p)) in
    lists-turning (grouped w g) p (take_next w.group p) (lists-grouped w g (keyed-delivered w.group p (suc (delivered_to w.group p)) is.keyed) is)
lists-in w (Leaves p set own places) may is =
    let g = become_past w.group p set own in
    lists-turning (grouped w g) p (take_parting w.group p set places) (lists-grouped w g (keyed-set w.group _ is.keyed) is)
lists-in w (Asks p kind) may is = lists-turning w p (take_request kind) is
lists-in w (Settles p) may is = lists-turning w p settle is
lists-in w (Commits p) may is = at (node_of w p) where
  life-lists : (life : NodeState) → AreLists (commit_in w p life)
  life-lists (Up r disk) = record { nodes = rising-node w p (Up (record r { held = whiten r.held }) (record disk { content = stored_of (whiten r.held) })) is.nodes; keyed = is.keyed; served = is.served }
  life-lists (Down disk green) = is

  at : (o : Option Node) → AreLists (option_map_or (λ s. commit_in w p s.life) o w)
  at None = is
  at (Some s) = life-lists s.life
lists-in w (Crashes p) may is = at (node_of w p) where
  life-lists : (life : NodeState) → AreLists (crash_in w p life)
  life-lists (Up r disk) = record { nodes = rising-node w p (Down (at_rest disk) []) is.nodes; keyed = keyed-down w.group p is.keyed; served = served-filtered (λ s. not (s.giver == p)) w.snapshots is.served }
  life-lists (Down disk green) = is

  at : (o : Option Node) → AreLists (option_map_or (λ s. crash_in w p s.life) o w)
  at None = is
  at (Some s) = life-lists s.life
lists-in w (Recovers p) may is = at (node_of w p) where
  life-lists : (life : NodeState) → AreLists (recover_in w life)
  life-lists (Up r disk) = is
  life-lists (Down disk green) = lists-up w (recovered disk) (disk_recovered disk) is

  at : (o : Option Node) → AreLists (option_map_or (λ s. recover_in w s.life) o w)
  at None = is
  at (Some s) = life-lists s.life
lists-in w (Copies p joiner) may is = at (replica_of w p) (and_parts (not (has_begun w joiner)) (option_map_or (λ (r : Replica). is_server r.held.members joiner) (replica_of w p) false) may).1 where
  at : (o : Option Replica) → option_map_or (λ (r : Replica). is_server r.held.members joiner) o false ≡ true → AreLists (option_map_or (copy_in w p joiner) o w)
  at None server = is
  at (Some r) server = record { nodes = is.nodes; keyed = is.keyed; served = (server, served-filtered (λ s. not (s.joiner == joiner)) w.snapshots is.served) }
lists-in w (Joins joiner) may is = at (snapshot_of w joiner) where
  at : (o : Option TransferState) → AreLists (option_map_or (λ s. join_in w joiner s.content) o w)
  at None = is
  at (Some s) = lists-up (without_snapshot w joiner) (joiner_replica joiner s.content) (new_disk (joiner_replica joiner s.content).held)
      (record { nodes = is.nodes; keyed = is.keyed; served = served-filtered (λ s. not (s.joiner == joiner)) w.snapshots is.served })

-- behind a small step the lists are as they should be
pub lists-kept : (c : Chronicle) (s : Small) → may_make c s ≡ true → ListFacts c → ListFacts (small_step c s)
lists-kept c s may is =
    let before : AreLists c.world = record { nodes = is.nodes; keyed = record { rises = is.standings; received = is.received }; served = is.served } in
    let after = subst AreLists (sym (small-world c s)) (lists-in c.world s (may-of c s may) before) in
    record { nodes = after.nodes; standings = after.keyed.rises; received = after.keyed.received; served = after.served }
