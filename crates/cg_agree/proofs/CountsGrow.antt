-- Behind each event a replica has no fewer greens, as it runs or as its disk has them, and no more where the event doesn't move it.
use Rattle.std.proofs.Common.{◌⊎◌, ◌≡◌, ℕ, zero, suc, ◌+◌, ◌≤◌, min, Bool, true, false, cond, List, [], ◌∷◌, ◌++◌, map, find, fold, length, Option, Some, None, IfSome, refl, sym, ap, ap₂, ◌∙◌, subst, inl, inr, arith, eq-eqb, option_and_then, option_map, is_some, is_none}
use Rattle.std.specs.Prelude.{◌==◌}
use Rattle.std.specs.Option.{option_map_or}
use Rattle.std.proofs.lemmas.Bool.{cases_eq, cond_both, cond-true, cond-false, ne_eqb}
use Rattle.std.proofs.lemmas.List.{length-append, length-map}
use Rattle.cg_base.specs.EachLaws.{Each-has}
use Rattle.cg_base.specs.declared.action_id.ActionId.{ActionId}
use Rattle.cg_base.specs.declared.weighted.Weighted.{Weighted}
use Rattle.cg_base.specs.Lists.{above_up_to, Each}
use Rattle.cg_base.specs.Sets.{has}
use Rattle.cg_base.specs.Weights.{ids}
use Rattle.cg_action.specs.declared.action.Action.{Action}
use Rattle.cg_action.specs.declared.action.Kind.{Kind}
use Rattle.cg_action.specs.declared.action.Kind.TheVariants.{Update, Join as JoinKind, Leave as LeaveKind}
use Rattle.cg_queue.specs.Queue.{names_of, green_count}
use Rattle.cg_wire.specs.declared.message.Msg.{Msg}
use Rattle.cg_group.specs.declared.delivery.Handed.{Handed}
use Rattle.cg_group.specs.declared.delivery.Delivery.TheVariants.{Regular as RegularIn}
use Rattle.cg_group.specs.State.{delivered_to, home}
use Rattle.cg_group.specs.Events.{deliveries_at, handed_in_split, deliver, split, merge}
use Rattle.cg_client.specs.Replica.{Held, State, RegPrim, TransPrim, ExchangeStates, ExchangeActions, Construct, No, Un, NonPrim, Left, Replica, fresh}
use Rattle.cg_client.specs.Turn.{Turn, begin}
use Rattle.cg_client.specs.Requests.{request_in}
use Rattle.cg_disk_records.specs.Stored.{whiten}
use Rattle.cg_states.specs.ReplicaStep.{Input, Deliveries, Asks as AsksOf, replica_step}
use Rattle.cg_disk_records.specs.Crash.{Disk, FailOnce, StopWith, Strike, whitened, end_event, at_rest, new_disk, recovered, disk_recovered}
use Rattle.cg_schedule.specs.declared.event.Event.{Event}
use Rattle.cg_schedule.specs.declared.event.Event.TheVariants.{Start, Split, Merge, Request, Weak, Dirty, Order, Recover, RecoverStopped, Downgrade, Show, ShowOrder, Gather, End, Receive, Deliver, Rounds, Stop, Fail, Join, Leave, Transfer}
use Rattle.cg_model.specs.World.{NodeState, Up, Down, Node, TransferState, World, no_world, running, has_begun, node_of, replica_of, bring_up}
use Rattle.cg_model.specs.Admission.{first_refusal, takes_part, never_named, joiner_left, not_green}
use Rattle.cg_model.specs.AdmissionCalls.{begun_already}
use Rattle.cg_model.specs.Show.{ended}
use Rattle.cg_model.specs.Run.{MayStand}
use Rattle.cg_model.specs.Agreement.{may_move}
use Rattle.cg_model.specs.Step.{quietly, hand_out, ask, name_also, begin_replica, recover, joiner_replica, snapshot_for, without_snapshot, transfer, happens, world_step, downgrade}
use Rattle.cg_model.specs.AtNode.{arm_at, crash_at, recover_from, with_pieces, take_pieces}
use Rattle.cg_model.specs.Chronicle.{Chronicle}
use Rattle.cg_model.specs.Looks.{greens_of, stood_of, on_disk, disk_held}
use Rattle.cg_model.specs.FactsReplica.{IsCore, IsModeData}
use Rattle.cg_model.specs.Played.{StandsBeside}
use Rattle.cg_agree_lemmas.specs.ChronicleFacts.{node_of-set}
use Rattle.cg_agree_lemmas.specs.NodeFacts.{node-id}
use Rattle.cg_agree_lemmas.specs.HeldMarks.{IsOneself, counted}
use Rattle.cg_agree_lemmas.specs.HeldCommit.{recovered-oneself, recovered-id}
use Rattle.cg_agree_lemmas.specs.DiskEnds.{end-cases}
use Rattle.cg_agree_lemmas.specs.GreenMembers.{creates-same}
use Rattle.cg_agree_lemmas.specs.GreensTold.{step-noted}
use Rattle.cg_agree.proofs.JoinersMadeNone.{snapshot-none}
use Rattle.cg_agree_lemmas.specs.MadeSplit.{rising-set-list}
use Rattle.cg_agree_lemmas.specs.UnorderedKept.{first-none}
use Rattle.cg_agree_lemmas.specs.RestsBehind.{handed-ids, split-to}
use Rattle.cg_agree_lemmas.specs.StepGreens.{step-follows, whitened-count}
use Rattle.cg_agree_lemmas.specs.TurnWorlds.{life_at}
use Rattle.cg_agree_lemmas.specs.WorldTurns.{IsBehind, hand-behind, from-same, handed-behind}
use Rattle.cg_agree_lemmas.specs.DiskSwaps.{Swaps, downgrade-swaps, recover_under-cases}
use Rattle.cg_client.specs.Joined.{piece_count}
use Rattle.cg_group.specs.RefusalLaws.{refuse_none}
use Rattle.cg_model.specs.Attempts.{held_in}
use Rattle.cg_agree_lemmas.specs.Looking.{life_in}

-- the greens of a replica, as it runs or as its disk has them; none of one that hasn't begun
abbrev pub count_at : Option Node → ℕ
count_at o = option_map_or (λ s. green_count (held_in s.life).queue) o 0

-- so it is behind an event; and where the event doesn't move the replica it was up before if it is, unless it has no greens
pub record CountGrows (moved : Bool) (a b : Option Node) : Type 0 where
  pub more : count_at a ≤ count_at b
  pub still : moved ≡ false → count_at b ≡ count_at a
  pub begun : is_some b ≡ true → life_in b ≡ None → is_some a ≡ true
  pub up : moved ≡ false → (r : Replica) → life_in b ≡ Some r → (count_at b ≡ 0) ⊎ ((x : Replica) × (life_in a ≡ Some x))

same-grows : (moved : Bool) (a b : Option Node) → b ≡ a → CountGrows moved a b
same-grows moved a b e = subst (CountGrows moved a) (sym e) (record { more = (let same : count_at a ≤ count_at a = omega arith in same); still = λ none. refl; begun = λ some down. some; up = λ none r runs. inr (r, runs) })

-- what is held, and what stands on the disk with as many greens
pub record IsEven (start : List Weighted) (p : ℕ) (h disk : Held) : Type 0 where
  pub greens : List Action
  pub is : IsOneself start h greens
  pub id : h.id ≡ p
  pub same : green_count h.queue ≡ green_count disk.queue

abbrev pub LifeEven : List Weighted → ℕ → NodeState → Type 0
LifeEven start p l = IsEven start p (held_in l) (on_disk l)

abbrev pub NodeEven : List Weighted → ℕ → Option Node → Type 0
NodeEven start p o = IfSome o (λ s. LifeEven start p s.life)

-- ---- one turn

asked-same : (r : Replica) (kind : Kind) → green_count (request_in r.state (begin r) kind).replica.held.queue ≡ green_count r.held.queue
asked-same r kind = at r.state where
  made : green_count (request_in RegPrim (begin r) kind).replica.held.queue ≡ green_count r.held.queue
  made = (let is = creates-same (kind ∷ []) (begin r) in ap₂ (λ n list. n + length list) is.white is.greens)

  at : (state : State) → green_count (request_in state (begin r) kind).replica.held.queue ≡ green_count r.held.queue
  at RegPrim = made
  at (NonPrim true) = made
  at Left = refl
  at TransPrim = refl
  at (ExchangeStates conf set heard) = refl
  at (ExchangeActions conf heard accepted) = refl
  at (Construct conf heard) = refl
  at (No conf heard) = refl
  at Un = refl
  at (NonPrim false) = refl

step-more : (r : Replica) (input : Input) → green_count r.held.queue ≤ green_count (replica_step r input).replica.held.queue
step-more r input =
    let t = replica_step r input in
    let is = step-noted r input in
    let white : t.replica.held.queue.white ≡ r.held.queue.white = is.white in
    let names : length (names_of t.replica.held.queue.greens) ≡ length (names_of r.held.queue.greens) + length t.green = ap length is.greens ∙ length-append (names_of r.held.queue.greens) t.green in
    let new : length (names_of t.replica.held.queue.greens) ≡ length t.replica.held.queue.greens = length-map t.replica.held.queue.greens (λ (a : Action). a.id) in
    let old : length (names_of r.held.queue.greens) ≡ length r.held.queue.greens = length-map r.held.queue.greens (λ (a : Action). a.id) in
    omega arith

-- behind its turn
turn-counts : (start : List Weighted) (p : ℕ) (r : Replica) (disk : Disk) (input : Input) (moved : Bool) → LifeEven start p (Up r disk) →
    (moved ≡ false → green_count (replica_step r input).replica.held.queue ≡ green_count r.held.queue) →
    CountGrows moved (Some (record { id = p; life = Up r disk })) (Some (record { id = p; life = life_at (end_event disk r.held (replica_step r input)) }))
turn-counts start p r disk input moved even none =
    end-cases disk r.held t (λ e. CountGrows moved (Some (record { id = p; life = Up r disk })) (Some (record { id = p; life = life_at e })))
    (λ quiet d is. grows (Up t.replica d) refl) (λ does d is. grows (Up (whitened t.replica) d) count)
    (λ stays d green is. grows (Down d green) (ap (λ (h : Held). green_count h.queue) is ∙ count))
    (λ gone d green is. lost d green (ap (λ (h : Held). green_count h.queue) is ∙ sym even.same)) where
      t : Turn
      t = replica_step r input

      count : green_count (whiten t.replica.held).queue ≡ green_count t.replica.held.queue
      count = whitened-count start r.held t.replica.held even.greens even.is (step-follows r input)

      grows : (l : NodeState) → green_count (held_in l).queue ≡ green_count t.replica.held.queue → CountGrows moved (Some (record { id = p; life = Up r disk })) (Some (record { id = p; life = l }))
      grows l same = record { more = (let le = step-more r input in omega arith); still = λ idle. same ∙ none idle; begun = λ some down. refl; up = λ idle x runs. inr (r, refl) }

      lost : (d : Disk) (green : List ActionId) → green_count d.content.queue ≡ green_count r.held.queue → CountGrows moved (Some (record { id = p; life = Up r disk })) (Some (record { id = p; life = Down d green }))
      lost d green same = record { more = omega arith; still = λ idle. same; begun = λ some down. refl; up = λ idle x runs. inr (r, refl) }

-- ---- one node changes

set-grows : (w v : World) (p : ℕ) (life : NodeState) (moved : ℕ → Bool) → ((q : ℕ) → node_of v q ≡ cond (p == q) (Some (record { id = p; life = life })) (node_of w q)) →
    CountGrows (moved p) (node_of w p) (Some (record { id = p; life = life })) → (q : ℕ) → CountGrows (moved q) (node_of w q) (node_of v q)
set-grows w v p life moved nodes is q = elim (cases_eq p q) [
  | inl same ↦ subst (λ (n : ℕ). CountGrows (moved n) (node_of w n) (node_of v n)) same
      (subst (CountGrows (moved p) (node_of w p)) (sym (nodes p ∙ cond-true (p == p) (Some (let s : Node = record { id = p; life = life } in s)) (node_of w p) (eq-eqb p p refl))) is)
  | inr apart ↦ same-grows (moved q) (node_of w q) (node_of v q) (nodes q ∙ cond-false (p == q) (Some (let s : Node = record { id = p; life = life } in s)) (node_of w q) (ne_eqb p q apart))
]

-- ---- events

-- the event moves the replica, or it is asked for something
abbrev Moved : (ℕ → Bool) → ℕ → Input → Type 0
Moved moved q input = (moved q ≡ true) ⊎ ((kind : Kind) × (input ≡ AsksOf kind))

asked-step : (r : Replica) (input : Input) (kind : Kind) → input ≡ AsksOf kind → green_count (replica_step r input).replica.held.queue ≡ green_count r.held.queue
unfolding replica_step
asked-step r input kind e = ap (λ (x : Input). green_count (replica_step r x).replica.held.queue) e ∙ asked-same r kind

clash : true ≡ false → ⊥
clash e = cc

each-moved : (set : List ℕ) (f : ℕ → Handed Msg) → ((q : ℕ) → (f q).to ≡ q) → (xs : List ℕ) → Each (λ q. has set q ≡ true) xs → Each (λ h. Moved (has set) h.to (Deliveries h.list)) (map f xs)
each-moved set f same [] each = tt
each-moved set f same (p ∷ xs) each = (inl (ap (has set) (same p) ∙ each.0), each-moved set f same xs each.1)

begun-none : (set : List Weighted) (list : List ℕ) (w : World) → ((q : ℕ) → count_at (node_of w q) ≡ 0) → (q : ℕ) → count_at (node_of (fold (begin_replica set) w list) q) ≡ 0
begun-none set [] w none q = none q
begun-none set (p ∷ list) w none q = begun-none set list (begin_replica set w p) (one w p none) q where
  one : (w : World) (p : ℕ) → ((q : ℕ) → count_at (node_of w q) ≡ 0) → (q : ℕ) → count_at (node_of (begin_replica set w p) q) ≡ 0
  one w p none q =
      let r = fresh p set in
      let new : Option Node = Some (record { id = p; life = Up r (new_disk r.held) }) in
      ap count_at (node_of-set (name_also w p) p (Up r (new_disk r.held)) q) ∙ cond_both (p == q) new (node_of w q) (λ o. count_at o ≡ 0) (λ y. refl) (λ n. none q)

begun-up : (set : List Weighted) (list : List ℕ) (w : World) → ((q : ℕ) → is_some (node_of w q) ≡ true → life_in (node_of w q) ≡ None → ⊥) → (q : ℕ) →
    (let v = fold (begin_replica set) w list in is_some (node_of v q) ≡ true → life_in (node_of v q) ≡ None → ⊥)
begun-up set [] w none q = none q
begun-up set (p ∷ list) w none q = begun-up set list (begin_replica set w p) one q where
  one : (q : ℕ) → is_some (node_of (begin_replica set w p) q) ≡ true → life_in (node_of (begin_replica set w p) q) ≡ None → ⊥
  one q =
      let r = fresh p set in
      let new : Option Node = Some (record { id = p; life = Up r (new_disk r.held) }) in
      subst (λ (o : Option Node). is_some o ≡ true → life_in o ≡ None → ⊥) (sym (node_of-set (name_also w p) p (Up r (new_disk r.held)) q))
      (cond_both (p == q) new (node_of w q) (λ o. is_some o ≡ true → life_in o ≡ None → ⊥) (λ y some down. (let no_one : Some r ≡ None = down in cc)) (λ n. none q))

module _ (start : List Weighted) (w : World) (even : (p : ℕ) → NodeEven start p (node_of w p)) where
  Grows : World → (ℕ → Bool) → Type 0
  Grows v moved = (q : ℕ) → CountGrows (moved q) (node_of w q) (node_of v q)

  of-turn : (v : World) (moved : ℕ → Bool) → ((q : ℕ) → IsBehind (Moved moved) w v q) → Grows v moved
  unfolding Grows
  of-turn v moved behind q = elim (behind q) [
    | inl same ↦ same-grows (moved q) (node_of w q) (node_of v q) same
    | inr turn ↦
        let r = turn.replica in
        let here : Option Node = Some (record { id = q; life = Up r turn.disk }) in
        let now : LifeEven start q (Up r turn.disk) = subst (NodeEven start q) turn.before (even q) in
        subst (CountGrows (moved q) (node_of w q)) (sym turn.behind) (subst (λ (o : Option Node). CountGrows (moved q) o (Some (record { id = q; life = life_at (end_event turn.disk r.held (replica_step r turn.input)) }))) (sym turn.before)
        (turn-counts start q r turn.disk turn.input (moved q) now (λ idle. elim turn.of [ inl moves ↦ absurd (clash (sym moves ∙ idle)) | inr asks ↦ asked-step r turn.input asks.0 asks.1 ])))
  ]

  -- the world with another group
  of-group : (u v : World) (moved : ℕ → Bool) → u.nodes ≡ w.nodes → ((q : ℕ) → IsBehind (Moved moved) u v q) → Grows v moved
  of-group u v moved nodes behind =
      of-turn v moved (λ q. from-same (Moved moved) w u v q (ap (λ (list : List Node). find (λ s. s.id == q) list) nodes) (behind q))

  stays : (v : World) (moved : ℕ → Bool) → v.nodes ≡ w.nodes → Grows v moved
  unfolding Grows
  stays v moved nodes q = same-grows (moved q) (node_of w q) (node_of v q) (ap (λ (list : List Node). find (λ s. s.id == q) list) nodes)

  asked : (u : World) (p : ℕ) (kind : Kind) (moved : ℕ → Bool) → u.nodes ≡ w.nodes → Grows (ask u p kind).world moved
  asked u p kind moved nodes = of-group u (ask u p kind).world moved nodes (λ q. hand-behind (Moved moved) (quietly u) p (AsksOf kind) (inr (kind, refl)) q)

  -- a node with this life, and what becomes of it
  module _ (p : ℕ) (moved : ℕ → Bool) where
    of-node : (f : NodeState → World) → ((l : NodeState) → node_of w p ≡ Some (record { id = p; life = l }) → LifeEven start p l → Grows (f l) moved) → Grows (option_map_or (λ s. f s.life) (node_of w p) w) moved
    of-node f each = at (node_of w p) refl where
      at : (o : Option Node) → node_of w p ≡ o → Grows (option_map_or (λ s. f s.life) o w) moved
      at None e = stays w moved refl
      at (Some s) e = each s.life (e ∙ (λ i. Some (record { id = node-id w p s e i; life = s.life }))) (subst (NodeEven start p) e (even p))

    set-to : (v : World) (l new : NodeState) → node_of w p ≡ Some (record { id = p; life = l }) → ((q : ℕ) → node_of v q ≡ cond (p == q) (Some (record { id = p; life = new })) (node_of w q)) →
        CountGrows (moved p) (Some (record { id = p; life = l })) (Some (record { id = p; life = new })) → Grows v moved
    unfolding Grows
    set-to v l new node nodes is = set-grows w v p new moved nodes (subst (λ (o : Option Node). CountGrows (moved p) o (Some (record { id = p; life = new }))) (sym node) is)

    stopped : Grows (option_map_or (λ s. crash_at w p s.life) (node_of w p) w) moved
    stopped = of-node (crash_at w p) life where
      life : (l : NodeState) → node_of w p ≡ Some (record { id = p; life = l }) → LifeEven start p l → Grows (crash_at w p l) moved
      life (Up r disk) node now = set-to (crash_at w p (Up r disk)) (Up r disk) (Down (at_rest disk) []) node (λ q. node_of-set w p (Down (at_rest disk) []) q)
          (record { more = (let same = now.same in omega arith); still = λ idle. sym now.same; begun = λ some down. refl; up = λ idle x runs. inr (r, refl) })
      life (Down disk green) node now = stays w moved refl

    armed : (strike : Strike) → Grows (option_map_or (λ s. arm_at w p strike s.life) (node_of w p) w) moved
    armed strike = of-node (arm_at w p strike) life where
      life : (l : NodeState) → node_of w p ≡ Some (record { id = p; life = l }) → LifeEven start p l → Grows (arm_at w p strike l) moved
      life (Up r disk) node now = set-to (arm_at w p strike (Up r disk)) (Up r disk) (Up r (record disk { armed = Some strike })) node (λ q. node_of-set w p (Up r (record disk { armed = Some strike })) q)
          (record { more = (let same : green_count r.held.queue ≤ green_count r.held.queue = omega arith in same); still = λ idle. refl; begun = λ some down. refl; up = λ idle x runs. inr (r, refl) })
      life (Down disk green) node now = stays w moved refl

    swapped : (v : World) → Swaps w v p → Grows v moved
    swapped v is = elim is [
      | inl same ↦ stays v moved (ap (λ (x : World). x.nodes) same)
      | inr other ↦
          let new : NodeState = Down other.new other.green in
          let count : green_count other.new.content.queue ≡ green_count other.old.content.queue = ap (λ (h : Held). green_count h.queue) other.content in
          set-to v (Down other.old other.green) new other.node (λ q. ap (λ (x : World). node_of x q) other.world ∙ node_of-set w p new q)
          (record { more = omega arith; still = λ idle. count; begun = λ some down. refl; up = λ idle x runs. absurd (let no_one : None ≡ Some x = runs in cc) })
    ]

    recovered-grows : moved p ≡ true → Grows (recover w p).world moved
    recovered-grows moves = at (node_of w p) refl where
      life : (l : NodeState) → node_of w p ≡ Some (record { id = p; life = l }) → LifeEven start p l → Grows (recover_from w l).world moved
      life (Up r disk) node now = stays w moved refl
      life (Down disk green) node now =
          let r = recovered disk in
          let named : r.held.id ≡ p = recovered-id disk.content ∙ now.id in
          let count : green_count r.held.queue ≡ green_count disk.content.queue = counted start r.held now.greens (recovered-oneself start disk.content now.greens now.is) ∙ sym (counted start disk.content now.greens now.is) in
          set-to (recover_from w (Down disk green)).world (Down disk green) (Up r (disk_recovered disk)) node
          (λ q. node_of-set w r.held.id (Up r (disk_recovered disk)) q ∙ ap (λ n. cond (n == q) (Some (record { id = n; life = Up r (disk_recovered disk) })) (node_of w q)) named)
          (record { more = (let same = count in omega arith); still = λ idle. count; begun = λ some down. refl; up = λ idle x runs. absurd (clash (sym moves ∙ idle)) })

      at : (o : Option Node) → node_of w p ≡ o → Grows (option_map_or (λ s. recover_from w s.life) o (quietly w)).world moved
      at None e = stays w moved refl
      at (Some s) e = life s.life (e ∙ (λ i. Some (record { id = node-id w p s e i; life = s.life }))) (subst (NodeEven start p) e (even p))

    -- a joiner that hasn't begun comes up
    joined-grows : moved p ≡ true → has_begun w p ≡ false → (s : TransferState) (taken : ℕ) → s.joiner ≡ p → Grows (with_pieces w s taken) moved
    unfolding Grows
    joined-grows moves none s taken of =
        let others = without_snapshot w s.joiner in
        let r = joiner_replica s.joiner s.content in
        cond_both (taken == piece_count s.content) (bring_up others r (new_disk r.held)) (record others { snapshots = others.snapshots ++ record s { taken = taken } ∷ [] }) (λ v. Grows v moved)
        (λ y. set-grows w (bring_up others r (new_disk r.held)) p (Up r (new_disk r.held)) moved
        (λ q. node_of-set others s.joiner (Up r (new_disk r.held)) q ∙ ap (λ n. cond (n == q) (Some (record { id = n; life = Up r (new_disk r.held) })) (node_of w q)) of)
        (record {
          more = (let nothing : count_at (node_of w p) ≡ 0 = absent (node_of w p) none in omega arith);
          still = λ idle. absurd (clash (sym moves ∙ idle));
          begun = λ some down. absurd (let no_one : Some r ≡ None = down in cc);
          up = λ idle x runs. absurd (clash (sym moves ∙ idle));
        }))
        (λ n. stays w moved refl)
      where
        absent : (o : Option Node) → is_some o ≡ false → count_at o ≡ 0
        absent None e = refl
        absent (Some x) e = absurd (clash e)

-- ---- behind an event

-- an admitted joiner hasn't begun
pub unbegun : (w : World) (p joiner pieces : ℕ) → first_refusal w (Transfer p joiner pieces) ≡ None → has_begun w joiner ≡ false
unfolding first_refusal
unbegun w p joiner pieces admitted =
    let first = first-none (takes_part w p) (never_named w joiner ∷ begun_already w joiner ∷ joiner_left w p joiner ∷ not_green w p joiner ∷ []) (ap is_none admitted) in
    let second = first-none (never_named w joiner) (begun_already w joiner ∷ joiner_left w p joiner ∷ not_green w p joiner ∷ []) first.1 in
    let third = first-none (begun_already w joiner) (joiner_left w p joiner ∷ not_green w p joiner ∷ []) second.1 in
    refuse_none (has_begun w joiner) _ third.0

module _ (c : Chronicle) (w : World) (stands : StandsBeside c w) where
  pub even-at : (p : ℕ) → NodeEven c.start p (node_of w p)
  even-at p = at (node_of w p) refl where
    life : (l : NodeState) → replica_of w p ≡ running l → disk_held w p ≡ Some (on_disk l) → LifeEven c.start p l
    life (Up r disk) runs has_disk =
        let here : replica_of c.world p ≡ Some r = sym (stands.same.running p) ∙ runs in
        let there : disk_held c.world p ≡ Some disk.content = sym (stands.same.disk p) ∙ has_disk in
        let core = subst (λ (o : Option Replica). IfSome o (λ r. IsCore c r.held (greens_of c p))) here (stands.facts.replica.cores.memory p) in
        let core_d = subst (λ (o : Option Held). IfSome o (λ h. IsCore c h (stood_of c p))) there (stands.facts.replica.cores.disk p) in
        let mode = subst (λ (o : Option Replica). IfSome o (IsModeData c p)) here (stands.facts.replica.mode_data p) in
        let is : IsOneself c.start r.held (greens_of c p) = record { made_of = core.made_of; contiguous = core.contiguous; yellow_closed = core.yellow_closed } in
        let is_d : IsOneself c.start disk.content (stood_of c p) = record { made_of = core_d.made_of; contiguous = core_d.contiguous; yellow_closed = core_d.yellow_closed } in
        record {
          greens = greens_of c p;
          is = is;
          id = mode.id;
          same = counted c.start r.held (greens_of c p) is ∙ ap length (stands.rests.replica.disk_agrees.greens p) ∙ sym (counted c.start disk.content (stood_of c p) is_d);
        }
    life (Down disk green) runs has_disk =
        let there : disk_held c.world p ≡ Some disk.content = sym (stands.same.disk p) ∙ has_disk in
        let core = subst (λ (o : Option Held). IfSome o (λ h. IsCore c h (stood_of c p))) there (stands.facts.replica.cores.disk p) in
        record {
          greens = stood_of c p;
          is = record { made_of = core.made_of; contiguous = core.contiguous; yellow_closed = core.yellow_closed };
          id = subst (λ (o : Option Held). IfSome o (λ h. h.id ≡ p)) there (stands.facts.net.hosted.disk p);
          same = refl;
        }

    at : (o : Option Node) → node_of w p ≡ o → NodeEven c.start p o
    at None e = tt
    at (Some s) e = life s.life (ap (λ (o : Option Node). option_and_then (λ s. running s.life) o) e) (ap (λ (o : Option Node). option_map (λ s. on_disk s.life) o) e)

  transferred : (p joiner pieces : ℕ) → has_begun w joiner ≡ false → Grows c.start w even-at (transfer w p joiner pieces).world (λ q. joiner == q)
  transferred p joiner pieces none = at (replica_of w p) refl where
    at : (o : Option Replica) → replica_of w p ≡ o → Grows c.start w even-at (option_map_or (λ r. take_pieces w (snapshot_for w p joiner r) pieces) o (quietly w)).world (λ q. joiner == q)
    at None e = stays c.start w even-at w (λ q. joiner == q) refl
    at (Some r) e =
        let s = snapshot_for w p joiner r in
        joined-grows c.start w even-at joiner (λ q. joiner == q) (eq-eqb joiner joiner refl) none s (min (piece_count s.content) (s.taken + pieces)) (snapshot-none c w stands joiner none p r e).0

  started : (set : List Weighted) → w ≡ no_world → Grows c.start w even-at (fold (begin_replica set) w (ids set)) (λ q. false)
  unfolding Grows
  started set first q =
      let before : (p : ℕ) → count_at (node_of w p) ≡ 0 = (λ p. ap (λ (x : World). count_at (node_of x p)) first) in
      let behind = begun-none set (ids set) w before q in
      let none = before q in
      let first_up : (p : ℕ) → is_some (node_of w p) ≡ true → life_in (node_of w p) ≡ None → ⊥ = (λ p some down. clash (sym some ∙ ap (λ (x : World). is_some (node_of x p)) first)) in
      record { more = omega arith; still = λ idle. behind ∙ sym none; begun = λ some down. absurd (begun-up set (ids set) w first_up q some down); up = λ idle r runs. inl behind }

  happens-counts : (e : Event) → MayStand w e → first_refusal w e ≡ None → Grows c.start w even-at (happens w e).world (may_move e)
  unfolding happens split merge deliver
  happens-counts (Start set) may admitted = started set may.0
  happens-counts (Split set) may admitted =
      of-group c.start w even-at (record w { group = (split w.group set).group }) (hand_out w (split w.group set)).world (has set) refl
      (handed-behind (Moved (has set)) (map (handed_in_split w.group set) set) (quietly (record w { group = (split w.group set).group })) 1
      (handed-ids (handed_in_split w.group set) (split-to w.group set) set 1 (rising-set-list 1 set may.1.ascends))
      (each-moved set (handed_in_split w.group set) (split-to w.group set) set (Each-has set)))
  happens-counts (Merge set) may admitted =
      let f : ℕ → Handed Msg = λ p. record { to = p; list = RegularIn (suc (length w.group.configurations)) set ∷ [] } in
      of-group c.start w even-at (record w { group = (merge w.group set).group }) (hand_out w (merge w.group set)).world (has set) refl
      (handed-behind (Moved (has set)) (map f set) (quietly (record w { group = (merge w.group set).group })) 1
      (handed-ids f (λ p. refl) set 1 (rising-set-list 1 set may.1.ascends)) (each-moved set f (λ p. refl) set (Each-has set)))
  happens-counts (Request p cmds query) may admitted = asked c.start w even-at w p (Update cmds query) (λ q. false) refl
  happens-counts (Weak p query) may admitted = stays c.start w even-at w (λ q. false) refl
  happens-counts (Dirty p query) may admitted = stays c.start w even-at w (λ q. false) refl
  happens-counts (Order p) may admitted = stays c.start w even-at (happens w (Order p)).world (λ q. false) refl
  happens-counts (Recover p) may admitted = recovered-grows c.start w even-at p (λ q. p == q) (eq-eqb p p refl)
  happens-counts (RecoverStopped p call fill) may admitted =
      recover_under-cases w p (record { call = call; fault = StopWith fill }) (λ go. Grows c.start w even-at go.world (λ q. p == q))
      (λ v. swapped c.start w even-at p (λ q. p == q) v) (recovered-grows c.start w even-at p (λ q. p == q) (eq-eqb p p refl))
  happens-counts (Downgrade p) may admitted = swapped c.start w even-at p (λ q. false) (downgrade w p) (downgrade-swaps w p)
  happens-counts (Show p) may admitted = stays c.start w even-at w (λ q. false) refl
  happens-counts ShowOrder may admitted = stays c.start w even-at w (λ q. false) refl
  happens-counts Gather may admitted = stays c.start w even-at (happens w Gather).world (λ q. false) refl
  happens-counts End may admitted = absurd may
  happens-counts (Receive p place) may admitted = stays c.start w even-at (happens w (Receive p place)).world (λ q. false) refl
  happens-counts (Deliver p count) may admitted =
      let g = w.group in
      let from = delivered_to g p in
      let list = deliveries_at (home g p) (above_up_to from (from + count)) in
      let u = record w { group = (deliver g p count).group } in
      of-group c.start w even-at u (hand_out w (deliver g p count)).world (λ q. p == q) refl
      (λ q. hand-behind (Moved (λ q. p == q)) (quietly u) p (Deliveries list) (inl (eq-eqb p p refl)) q)
  happens-counts (Rounds count) may admitted = absurd may
  happens-counts (Stop p zero fill) may admitted = stopped c.start w even-at p (λ q. false)
  happens-counts (Stop p (suc call) fill) may admitted = armed c.start w even-at p (λ q. false) (record { call = suc call; fault = StopWith fill })
  happens-counts (Fail p call) may admitted = armed c.start w even-at p (λ q. false) (record { call = call; fault = FailOnce })
  happens-counts (Join p joiner weight) may admitted = asked c.start w even-at (name_also w joiner) p (JoinKind joiner weight) (λ q. false) refl
  happens-counts (Leave p server) may admitted = asked c.start w even-at w p (LeaveKind server) (λ q. false) refl
  happens-counts (Transfer p joiner pieces) may admitted = transferred p joiner pieces (unbegun w p joiner pieces admitted)

  -- Behind an event no replica has fewer greens.
  pub event-counts : (e : Event) → MayStand w e → first_refusal w e ≡ None → (q : ℕ) → CountGrows (may_move e q) (node_of w q) (node_of (world_step w e).world q)
  unfolding world_step ended Grows
  event-counts e may admitted q = happens-counts e may admitted q
