-- Every small step keeps the fact that only who is regular has messages without a place.
use Rattle.std.proofs.Common.{◌≡◌, ℕ, suc, Bool, true, false, cond, List, [], ◌∷◌, Option, Some, None, fold, refl, not, inl}
use Rattle.std.specs.Prelude.{is_none}
use Rattle.std.specs.Option.{option_map_or}
use Rattle.cg_base.specs.declared.weighted.Weighted.{Weighted}
use Rattle.cg_base.specs.Weights.{ids}
use Rattle.cg_base.specs.Lists.{first_some}
use Rattle.cg_wire.specs.declared.message.Msg.{Msg}
use Rattle.cg_group.specs.declared.phase.Phase.TheVariants.{Alone, Regular, Transitional}
use Rattle.cg_group.specs.declared.reason.Reason.{Reason}
use Rattle.cg_group.specs.State.{GroupState, standing_of, phase_of, regular_in, is_regular, configuration, delivered_to}
use Rattle.cg_group.specs.Events.{come_up, receive, with_receipt, become_regular}
use Rattle.cg_group.specs.Refusals.{not_up, not_regular, nothing_to_order, order_refusal}
use Rattle.cg_client.specs.Turn.{Turn, begin}
use Rattle.cg_client.specs.Requests.{settle}
use Rattle.cg_disk_records.specs.Crash.{recovered}
use Rattle.cg_model.specs.World.{NodeState, Up, Down, Node, World, node_of, replica_of}
use Rattle.cg_model.specs.Step.{begin_replica}
use Rattle.cg_model.specs.Chronicle.{Chronicle}
use Rattle.cg_model.specs.Looks.{snapshot_of}
use Rattle.cg_model.specs.FactsNet.{UnorderedRegular}
use Rattle.cg_model.specs.Small.{Small, Starts, Makes, Enters, Orders, Receives, Hands, Leaves, Asks, Settles, Commits, Crashes, Recovers, Copies, Joins, small_step, turning_as, turning, make_configuration, newest_conf, commit_as, crash_as, recover_as, copy_as, join_with, coming, take_newest, handed_next, take_next, leaving, take_parting, take_request}
use Rattle.cg_model.specs.Smalls.{may_make}
use Rattle.cg_agree_lemmas.specs.Unordered.{WaitRegular, WaitRegular-set, WaitRegular-fewer, WaitRegular-down, WaitRegular-configured, WaitRegular-sent, WaitRegular-order, WaitRegular-handed}

-- what no later reason is given for no earlier one is given for
pub first-none : (o : Option Reason) (rest : List (Option Reason)) → is_none (first_some (o ∷ rest)) ≡ true → (o ≡ None) × (is_none (first_some rest) ≡ true)
first-none None rest e = (refl, e)
first-none (Some r) rest e = absurd (let clash : false ≡ true = e in cc)

pub refused-not : (b : Bool) (r : Reason) → (cond (not b) (Some r) None) ≡ None → b ≡ true
refused-not true r e = refl
refused-not false r e = absurd (let clash : Some r ≡ None = e in cc)

pub regular-where_ordered : (g : GroupState Msg) (p : ℕ) → is_none (order_refusal g p) ≡ true → is_regular g p ≡ true
unfolding order_refusal
regular-where_ordered g p e =
    let up = first-none (not_up g p) (not_regular g p ∷ nothing_to_order g p ∷ []) e in
    let regular = first-none (not_regular g p) (nothing_to_order g p ∷ []) up.1 in
    refused-not (is_regular g p) _ regular.0

pub waits-turning_as : (c : Chronicle) (p : ℕ) (part : Turn → Turn) (life : NodeState) → WaitRegular c.world.group → WaitRegular (turning_as c p part life).world.group
waits-turning_as c p part (Up r disk) w = WaitRegular-sent p (part (begin r)).sent c.world.group w
waits-turning_as c p part (Down disk green) w = w

pub waits-turning : (c : Chronicle) (p : ℕ) (part : Turn → Turn) → WaitRegular c.world.group → WaitRegular (turning c p part).world.group
waits-turning c p part w = at (node_of c.world p) where
  at : (o : Option Node) → WaitRegular (option_map_or (λ s. turning_as c p part s.life) o c).world.group
  at None = w
  at (Some s) = waits-turning_as c p part s.life w

-- at a node, where there is one
at-node : {X : Type 0} (o : Option X) (change : X → Chronicle) (c : Chronicle) → ((x : X) → WaitRegular (change x).world.group) → WaitRegular c.world.group →
    WaitRegular (option_map_or change o c).world.group
at-node None change c each w = w
at-node (Some x) change c each w = each x

waits-up : (g : GroupState Msg) (p : ℕ) → WaitRegular g → WaitRegular (come_up g p)
unfolding come_up
waits-up g p w = WaitRegular-set g (record { id = p; phase = Alone; delivered = 0; unordered = [] }) (λ out. refl) w

waits-begun : (set : List Weighted) (replicas : List ℕ) (w : World) → WaitRegular w.group → WaitRegular (fold (begin_replica set) w replicas).group
waits-begun set [] w h = h
waits-begun set (p ∷ replicas) w h = waits-begun set replicas (begin_replica set w p) (waits-up w.group p h)

waits-made : (g : GroupState Msg) (set : List ℕ) → WaitRegular g → WaitRegular (make_configuration g set)
unfolding standing_of
waits-made g set w = WaitRegular-fewer g (make_configuration g set) (λ q. inl refl) w

waits-commit_as : (c : Chronicle) (p : ℕ) (life : NodeState) → WaitRegular c.world.group → WaitRegular (commit_as c p life).world.group
waits-commit_as c p (Up r disk) w = w
waits-commit_as c p (Down disk green) w = w

waits-crash_as : (c : Chronicle) (p : ℕ) (life : NodeState) → WaitRegular c.world.group → WaitRegular (crash_as c p life).world.group
waits-crash_as c p (Up r disk) w = WaitRegular-down c.world.group p w
waits-crash_as c p (Down disk green) w = w

waits-recover_as : (c : Chronicle) (life : NodeState) → WaitRegular c.world.group → WaitRegular (recover_as c life).world.group
waits-recover_as c (Up r disk) w = w
waits-recover_as c (Down disk green) w = waits-up c.world.group (recovered disk).held.id w

waits-regular : (conf : ℕ) (g : GroupState Msg) (p : ℕ) → WaitRegular g → WaitRegular (become_regular conf g p)
unfolding become_regular
waits-regular conf g p w = WaitRegular-set g (record { id = p; phase = Regular conf; delivered = 0; unordered = [] }) (λ out. refl) w

waits-received : (g : GroupState Msg) (p place : ℕ) → WaitRegular g → WaitRegular (receive g p place)
unfolding receive
waits-received g p place w = let conf = regular_in (phase_of g p) in WaitRegular-configured g conf (with_receipt (configuration g conf) p place) w

pub unordered_regular-kept : (c : Chronicle) (s : Small) → may_make c s ≡ true → UnorderedRegular c → UnorderedRegular (small_step c s)
unfolding small_step may_make
unordered_regular-kept c (Starts set) m w = waits-begun set (ids set) c.world w
unordered_regular-kept c (Makes set) m w = waits-made c.world.group set w
unordered_regular-kept c (Enters p) m w =
    let g = c.world.group in
    waits-turning (coming c p) p (take_newest g) (waits-regular (newest_conf g) g p w)
unordered_regular-kept c (Orders p) m w = WaitRegular-order c.world.group p (regular-where_ordered c.world.group p m) w
unordered_regular-kept c (Receives p place) m w = waits-received c.world.group p place w
unordered_regular-kept c (Hands p) m w =
    let g = c.world.group in
    waits-turning (handed_next c p) p (take_next g p) (WaitRegular-handed g p (suc (delivered_to g p)) w)
unordered_regular-kept c (Leaves p set own places) m w =
    let g = c.world.group in
    waits-turning (leaving c p set own) p (take_parting g p set places)
    (WaitRegular-set g (record { id = p; phase = Transitional (regular_in (phase_of g p)) set; delivered = own; unordered = [] }) (λ out. refl) w)
unordered_regular-kept c (Asks p kind) m w = waits-turning c p (take_request kind) w
unordered_regular-kept c (Settles p) m w = waits-turning c p settle w
unordered_regular-kept c (Commits p) m w = at-node (node_of c.world p) (λ s. commit_as c p s.life) c (λ s. waits-commit_as c p s.life w) w
unordered_regular-kept c (Crashes p) m w = at-node (node_of c.world p) (λ s. crash_as c p s.life) c (λ s. waits-crash_as c p s.life w) w
unordered_regular-kept c (Recovers p) m w = at-node (node_of c.world p) (λ s. recover_as c s.life) c (λ s. waits-recover_as c s.life w) w
unordered_regular-kept c (Copies p joiner) m w = at-node (replica_of c.world p) (copy_as c p joiner) c (λ r. w) w
unordered_regular-kept c (Joins joiner) m w = at-node (snapshot_of c.world joiner) (λ s. join_with c joiner s.content) c (λ s. waits-up c.world.group joiner w) w
