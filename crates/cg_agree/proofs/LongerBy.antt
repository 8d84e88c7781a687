-- Behind an event a replica has more greens than the order had only in a primary component, or where the event recovers it.
use Rattle.std.proofs.Common.{◌⊎◌, ◌≡◌, ℕ, zero, suc, ◌+◌, ◌≤◌, min, true, false, List, [], ◌∷◌, ◌++◌, map, length, Option, Some, None, IfSome, is_some, refl, sym, ap, ◌∙◌, subst, inl, inr, arith, slice_get, option_and_then, eqb-true}
use Rattle.std.specs.Prelude.{◌==◌}
use Rattle.std.specs.Option.{option_map_or}
use Rattle.std.proofs.lemmas.Bool.{cases_Bool, cond_both, cond-true, eq-eqb}
use Rattle.cg_base.specs.EachLaws.{Each-append}
use Rattle.cg_base.specs.Lists.{above_up_to, Each}
use Rattle.cg_queue.specs.Queue.{green_count}
use Rattle.cg_wire.specs.declared.message.Msg.{Msg}
use Rattle.cg_group.specs.declared.delivery.Handed.{Handed}
use Rattle.cg_group.specs.declared.delivery.Delivery.TheVariants.{Message, Transitional as TransitionalIn, Regular as RegularIn}
use Rattle.cg_group.specs.State.{Sent, Configuration, configuration, regular_in, phase_of, delivered_to, home}
use Rattle.cg_group.specs.Events.{delivery_at, deliveries_at, transitional_places, furthest, handed_in_split, deliver, split, merge}
use Rattle.cg_client.specs.Replica.{Replica}
use Rattle.cg_disk_records.specs.Stored.{whiten}
use Rattle.cg_states.specs.ReplicaStep.{Input, Deliveries, replica_step}
use Rattle.cg_disk_records.specs.Crash.{whitened, new_disk}
use Rattle.cg_schedule.specs.declared.event.Event.{Event}
use Rattle.cg_schedule.specs.declared.event.Event.TheVariants.{Start, Split, Merge, Request, Weak, Dirty, Order, Recover, RecoverStopped, Downgrade, Show, ShowOrder, Gather, End, Receive, Deliver, Rounds, Stop, Fail, Join, Leave, Transfer}
use Rattle.cg_model.specs.World.{Up, Node, TransferState, World, running, has_begun, node_of, replica_of, bring_up}
use Rattle.cg_model.specs.Admission.{first_refusal}
use Rattle.cg_model.specs.Show.{ended}
use Rattle.cg_model.specs.Run.{MayStand}
use Rattle.cg_model.specs.Agreement.{may_move, is_recovery_of}
use Rattle.cg_model.specs.Step.{quietly, hand_out, joiner_replica, snapshot_for, without_snapshot, transfer, happens, world_step}
use Rattle.cg_model.specs.AtNode.{with_pieces, take_pieces}
use Rattle.cg_model.specs.Chronicle.{Chronicle}
use Rattle.cg_model.specs.FactsReplica.{is_primary}
use Rattle.cg_model.specs.Played.{StandsBeside}
use Rattle.cg_agree_lemmas.specs.ChronicleFacts.{node_of-set}
use Rattle.cg_agree.proofs.CountsGrow.{count_at, NodeEven, even-at, event-counts, unbegun}
use Rattle.cg_agree_lemmas.specs.DiskEnds.{end-cases}
use Rattle.cg_agree.proofs.GreensStay.{IsStill, IsHandedWithin, step-still, entry-still}
use Rattle.cg_agree.proofs.ItemsReached.{IsItemWithin, placed-within}
use Rattle.cg_agree.proofs.JoinersMadeNone.{snapshot-none}
use Rattle.cg_agree_lemmas.specs.MadeSplit.{rising-set-list}
use Rattle.cg_agree.proofs.OrderReached.{within-order}
use Rattle.cg_agree.proofs.PositionsGrow.{count-running}
use Rattle.cg_agree_lemmas.specs.RestsBehind.{handed-ids, split-to}
use Rattle.cg_agree.proofs.SnapshotsReached.{snapshot-within}
use Rattle.cg_agree_lemmas.specs.StepGreens.{step-follows, whitened-count}
use Rattle.cg_agree_lemmas.specs.TurnWorlds.{life_at}
use Rattle.cg_agree_lemmas.specs.WorldTurns.{IsBehind, from-same, hand-behind, handed-behind}
use Rattle.cg_client.specs.Joined.{piece_count}

-- ---- what is handed

module _ (n : ℕ) (C : Configuration Msg) (each : Each (λ s. IsItemWithin n s.message) C.ordered) where
  at-slice : (k : ℕ) (xs : List (Sent Msg)) → Each (λ s. IsItemWithin n s.message) xs → (o : Option (Sent Msg)) → slice_get xs k ≡ o → IfSome o (λ s. IsItemWithin n s.message)
  at-slice k xs all None e = tt
  at-slice k [] all (Some s) e = absurd (let clash : None ≡ Some s = e in cc)
  at-slice zero (x ∷ xs) all (Some s) e = subst (λ (o : Option (Sent Msg)). IfSome o (λ s. IsItemWithin n s.message)) e all.0
  at-slice (suc k) (x ∷ xs) all (Some s) e = at-slice k xs all.1 (Some s) e

  place-within : (place : ℕ) → Each (IsHandedWithin n) (delivery_at C place)
  unfolding delivery_at
  place-within zero = tt
  place-within (suc k) = at (slice_get C.ordered k) (at-slice k C.ordered each (slice_get C.ordered k) refl) where
    at : (o : Option (Sent Msg)) → IfSome o (λ s. IsItemWithin n s.message) → Each (IsHandedWithin n) (option_map_or (λ s. Message (suc k) s.from s.message ∷ []) o [])
    at None is = tt
    at (Some s) is = (is, tt)

  places-within : (places : List ℕ) → Each (IsHandedWithin n) (deliveries_at C places)
  places-within [] = tt
  places-within (place ∷ places) = Each-append (IsHandedWithin n) (delivery_at C place) (deliveries_at C places) (place-within place) (places-within places)

-- from no more than so many greens a turn leads to no more, or into a primary component
abbrev Stays : ℕ → ℕ → Input → Type 0
Stays n p input = (r : Replica) → green_count r.held.queue ≤ n → IsStill n (replica_step r input)

each-handed : (n : ℕ) (f : ℕ → Handed Msg) → ((q : ℕ) → Stays n (f q).to (Deliveries (f q).list)) → (set : List ℕ) → Each (λ h. Stays n h.to (Deliveries h.list)) (map f set)
each-handed n f each [] = tt
each-handed n f each (p ∷ set) = (each p, each-handed n f each set)

-- ---- a replica behind an event

abbrev pub IsFarBy : ℕ → Event → ℕ → Replica → Type 0
IsFarBy n e q r = (green_count r.held.queue ≤ n) ⊎ (is_primary r.state ≡ true) ⊎ (is_recovery_of q e ≡ true)

module _ (c : Chronicle) (w : World) (stands : StandsBeside c w) where
  abbrev n : ℕ
  n = length w.order

  -- where it took a turn
  of-turn : (v : World) (e : Event) (q : ℕ) → IsBehind (Stays n) w v q → (r : Replica) → replica_of v q ≡ Some r → IsFarBy n e q r
  of-turn v e q behind r runs = elim behind [
    | inl same ↦ inl (within-order c w stands q r (sym (ap (λ (o : Option Node). option_and_then (λ s. running s.life) o) same) ∙ runs))
    | inr turn ↦
        let x = turn.replica in
        let t = replica_step x turn.input in
        let low : green_count x.held.queue ≤ n = within-order c w stands q x (ap (λ (o : Option Node). option_and_then (λ s. running s.life) o) turn.before) in
        let even = subst (NodeEven c.start q) turn.before (even-at c w stands q) in
        let still : IsStill n t = turn.of x low in
        let white : green_count (whiten t.replica.held).queue ≡ green_count t.replica.held.queue = whitened-count c.start x.held t.replica.held even.greens even.is (step-follows x turn.input) in
        end-cases turn.disk x.held t (λ end. running (life_at end) ≡ Some r → IsFarBy n e q r)
        (λ quiet d is same. far t.replica r still same)
        (λ does d is same. far (whitened t.replica) r (elim still [ inl le ↦ inl (omega arith) | inr inside ↦ inr inside ]) same)
        (λ stays d green is same. absurd (let clash : None ≡ Some r = same in cc)) (λ gone d green is same. absurd (let clash : None ≡ Some r = same in cc))
        (sym (ap (λ (o : Option Node). option_and_then (λ s. running s.life) o) turn.behind) ∙ runs)
  ] where
    far : (x y : Replica) → (green_count x.held.queue ≤ n) ⊎ (is_primary x.state ≡ true) → Some x ≡ Some y → IsFarBy n e q y
    far x y is same = subst (IsFarBy n e q) (ap (λ (o : Option Replica). option_map_or (λ z. z) o x) same) (elim is [ inl le ↦ inl le | inr inside ↦ inr (inl inside) ])

  -- one that the event doesn't move
  unmoved : (e : Event) → MayStand w e → first_refusal w e ≡ None → (q : ℕ) → may_move e q ≡ false → (r : Replica) → replica_of (world_step w e).world q ≡ Some r → IsFarBy n e q r
  unmoved e may admitted q idle r runs =
      let grows = event-counts c w stands e may admitted q in
      let now : count_at (node_of (world_step w e).world q) ≡ green_count r.held.queue = count-running (world_step w e).world q r runs in
      let same : count_at (node_of (world_step w e).world q) ≡ count_at (node_of w q) = grows.still idle in
      elim (grows.up idle r runs) [
        | inl none ↦ inl (omega arith)
        | inr was ↦
            let low : green_count was.0.held.queue ≤ n = within-order c w stands q was.0 was.1 in
            let before : count_at (node_of w q) ≡ green_count was.0.held.queue = count-running w q was.0 was.1 in
            inl (omega arith)
      ]

  unbegun-down : (joiner : ℕ) → has_begun w joiner ≡ false → (r : Replica) → replica_of w joiner ≡ Some r → ⊥
  unbegun-down joiner none r runs = at (node_of w joiner) none runs where
    at : (o : Option Node) → is_some o ≡ false → option_and_then (λ s. running s.life) o ≡ Some r → ⊥
    at None e is = let clash : None ≡ Some r = is in cc
    at (Some s) e is = let clash : true ≡ false = e in cc

  -- a joiner that hasn't begun comes up with a snapshot
  joined-low : (joiner : ℕ) → has_begun w joiner ≡ false → (s : TransferState) (taken : ℕ) → s.joiner ≡ joiner → green_count s.content.queue ≤ n → (r : Replica) → replica_of (with_pieces w s taken) joiner ≡ Some r →
      green_count r.held.queue ≤ n
  joined-low joiner none s taken of low r =
      let others = without_snapshot w s.joiner in
      let x = joiner_replica s.joiner s.content in
      cond_both (taken == piece_count s.content) (bring_up others x (new_disk x.held)) (record others { snapshots = others.snapshots ++ record s { taken = taken } ∷ [] })
      (λ v. replica_of v joiner ≡ Some r → green_count r.held.queue ≤ n)
      (λ y runs. (
      let is : Some x ≡ Some r = sym (ap (λ (o : Option Node). option_and_then (λ s. running s.life) o)
      (node_of-set others s.joiner (Up x (new_disk x.held)) joiner ∙ cond-true (s.joiner == joiner) (Some (let node : Node = record { id = s.joiner; life = Up x (new_disk x.held) } in node)) (node_of w joiner) (eq-eqb s.joiner joiner of))) ∙ runs in
      subst (λ (y : Replica). green_count y.held.queue ≤ n) (ap (λ (o : Option Replica). option_map_or (λ z. z) o x) is) low
      ))
      (λ f runs. absurd (unbegun-down joiner none r runs))

  transferred : (p joiner pieces : ℕ) → has_begun w joiner ≡ false → (q : ℕ) → joiner ≡ q → (r : Replica) → replica_of (transfer w p joiner pieces).world q ≡ Some r → green_count r.held.queue ≤ n
  transferred p joiner pieces none q same r = subst (λ (m : ℕ). replica_of (transfer w p joiner pieces).world m ≡ Some r → green_count r.held.queue ≤ n) same (at (replica_of w p) refl) where
    at : (o : Option Replica) → replica_of w p ≡ o → replica_of (option_map_or (λ x. take_pieces w (snapshot_for w p joiner x) pieces) o (quietly w)).world joiner ≡ Some r → green_count r.held.queue ≤ n
    at None e runs = absurd (unbegun-down joiner none r runs)
    at (Some x) e runs =
        let s = snapshot_for w p joiner x in
        joined-low joiner none s (min (piece_count s.content) (s.taken + pieces)) (snapshot-none c w stands joiner none p x e).0 (snapshot-within c w stands joiner p x e) r runs

  split-within : (set : List ℕ) (p : ℕ) → Each (IsHandedWithin n) (handed_in_split w.group set p).list
  unfolding handed_in_split
  split-within set p =
      let conf = regular_in (phase_of w.group p) in
      let C = configuration w.group conf in
      let k = furthest w.group set in
      let each = placed-within c w stands conf in
      Each-append (IsHandedWithin n) (deliveries_at C (above_up_to (delivered_to w.group p) k)) (TransitionalIn conf set ∷ deliveries_at C (transitional_places C set k))
      (places-within n C each (above_up_to (delivered_to w.group p) k)) (tt, places-within n C each (transitional_places C set k))

  moved : (e : Event) → MayStand w e → first_refusal w e ≡ None → (q : ℕ) → may_move e q ≡ true → (r : Replica) → replica_of (happens w e).world q ≡ Some r → IsFarBy n e q r
  unfolding happens split merge deliver
  moved (Split set) may admitted q moves r runs =
      let u = record w { group = (split w.group set).group } in
      of-turn (hand_out w (split w.group set)).world (Split set) q
      (from-same (Stays n) w u (hand_out w (split w.group set)).world q refl
      (handed-behind (Stays n) (map (handed_in_split w.group set) set) (quietly u) 1
      (handed-ids (handed_in_split w.group set) (split-to w.group set) set 1 (rising-set-list 1 set may.1.ascends))
      (each-handed n (handed_in_split w.group set) (λ p r low. step-still n r (handed_in_split w.group set p).list (split-within set p) low) set) q)) r runs
  moved (Merge set) may admitted q moves r runs =
      let f : ℕ → Handed Msg = λ p. record { to = p; list = RegularIn (suc (length w.group.configurations)) set ∷ [] } in
      let u = record w { group = (merge w.group set).group } in
      of-turn (hand_out w (merge w.group set)).world (Merge set) q
      (from-same (Stays n) w u (hand_out w (merge w.group set)).world q refl
      (handed-behind (Stays n) (map f set) (quietly u) 1 (handed-ids f (λ p. refl) set 1 (rising-set-list 1 set may.1.ascends))
      (each-handed n f (λ p r low. entry-still n r (suc (length w.group.configurations)) set low) set) q)) r runs
  moved (Deliver p count) may admitted q moves r runs =
      let g = w.group in
      let from = delivered_to g p in
      let places = above_up_to from (from + count) in
      let u = record w { group = (deliver g p count).group } in
      of-turn (hand_out w (deliver g p count)).world (Deliver p count) q
      (from-same (Stays n) w u (hand_out w (deliver g p count)).world q refl
      (hand-behind (Stays n) (quietly u) p (Deliveries (deliveries_at (home g p) places))
      (λ r low. step-still n r (deliveries_at (home g p) places) (places-within n (home g p) (placed-within c w stands (regular_in (phase_of g p))) places) low) q)) r runs
  moved (Recover p) may admitted q moves r runs = inr (inr moves)
  moved (RecoverStopped p call fill) may admitted q moves r runs = inr (inr moves)
  moved (Transfer p joiner pieces) may admitted q moves r runs = inl (transferred p joiner pieces (unbegun w p joiner pieces admitted) q (eqb-true joiner q moves) r runs)
  moved (Start set) may admitted q moves r runs = absurd (let clash : false ≡ true = moves in cc)
  moved (Request p cmds query) may admitted q moves r runs = absurd (let clash : false ≡ true = moves in cc)
  moved (Weak p query) may admitted q moves r runs = absurd (let clash : false ≡ true = moves in cc)
  moved (Dirty p query) may admitted q moves r runs = absurd (let clash : false ≡ true = moves in cc)
  moved (Order p) may admitted q moves r runs = absurd (let clash : false ≡ true = moves in cc)
  moved (Downgrade p) may admitted q moves r runs = absurd (let clash : false ≡ true = moves in cc)
  moved (Show p) may admitted q moves r runs = absurd (let clash : false ≡ true = moves in cc)
  moved ShowOrder may admitted q moves r runs = absurd (let clash : false ≡ true = moves in cc)
  moved Gather may admitted q moves r runs = absurd (let clash : false ≡ true = moves in cc)
  moved End may admitted q moves r runs = absurd may
  moved (Receive p place) may admitted q moves r runs = absurd (let clash : false ≡ true = moves in cc)
  moved (Rounds count) may admitted q moves r runs = absurd may
  moved (Stop p call fill) may admitted q moves r runs = absurd (let clash : false ≡ true = moves in cc)
  moved (Fail p call) may admitted q moves r runs = absurd (let clash : false ≡ true = moves in cc)
  moved (Join p joiner weight) may admitted q moves r runs = absurd (let clash : false ≡ true = moves in cc)
  moved (Leave p server) may admitted q moves r runs = absurd (let clash : false ≡ true = moves in cc)

  pub event-far : (e : Event) → MayStand w e → first_refusal w e ≡ None → (q : ℕ) (r : Replica) → replica_of (world_step w e).world q ≡ Some r → IsFarBy n e q r
  unfolding world_step ended
  event-far e may admitted q r runs = elim (cases_Bool (may_move e q)) [
    | inl moves ↦ moved e may admitted q moves r runs
    | inr idle ↦ unmoved e may admitted q idle r runs
  ]
