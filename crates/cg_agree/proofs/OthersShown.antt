-- While a replica is down nobody else has an action of it that wasn't shown as made: what the turns of an event make of that.
use Rattle.cg_states.specs.ReplicaStep.{Input, Deliveries, Asks, replica_step, after_delivery}
use Rattle.cg_model.specs.FactsBooks.{AreShown, HoldsFine, IsActionShown, IsMessageShown, IsNameShown, LifeShown, NodeShown}
use Rattle.cg_model.specs.Step.{hand, hand_over}
use Rattle.cg_model.specs.AtNode.{after_event, hand_to}
use Rattle.cg_agree_lemmas.specs.TurnRows.{of-deliveries}
use Rattle.cg_agree_lemmas.specs.BookedRows.{AllFine, fine-rule}
use Rattle.cg_client.specs.Turn.{Turn, begin, with_held}
use Rattle.std.proofs.Common.{◌≡◌, ◌++◌, ◌∷◌, ◌≤◌, ◌∙◌, ◌-◌, ◌+◌, Bool, List, None, Option, Some, arith, cond, drop, false, fold, inl, inr, length, map, refl, subst, suc, sym, true, zero, ℕ, []}
use Rattle.std.proofs.lemmas.Bool.{cases_eq, cond-false, cond_both, ne_eqb}
use Rattle.std.specs.Option.{option_map_or}
use Rattle.std.specs.Prelude.{◌==◌}
use Rattle.cg_action.specs.declared.action.Action.{Action}
use Rattle.cg_action.specs.declared.action.Kind.{Kind}
use Rattle.cg_agree_lemmas.specs.ChronicleFacts.{node_of-set}
use Rattle.cg_agree_lemmas.specs.CreatedKept.{StaysCreated, created-first, created-rule}
use Rattle.cg_agree_lemmas.specs.DiskEnds.{end-shown}
use Rattle.cg_agree_lemmas.specs.GreensTold.{step-noted}
use Rattle.cg_agree.proofs.GroupSays.{says-down, says-sent}
use Rattle.cg_agree_lemmas.specs.MadeWorlds.{IsCoreAt, LifeSound, NodeSound}
use Rattle.cg_agree_lemmas.specs.WorldTurns.{hand-behind}
use Rattle.cg_model.specs.FactsLists.{IsRising}
use Rattle.cg_model.specs.Show.{StepInProgress, beyond}
use Rattle.cg_model.specs.World.{Down, NodeState, Node, Up, World, bring_down, node_of}
use Rattle.cg_base.specs.declared.action_id.ActionId.{ActionId}
use Rattle.cg_base.specs.declared.weighted.Weighted.{Weighted}
use Rattle.cg_client.specs.Replica.{Construct, ExchangeActions, ExchangeStates, Held, Left, No, NonPrim, RegPrim, Replica, State, TransPrim, Un}
use Rattle.cg_client.specs.Requests.{buffer, create, create_kept, empty_buffer, is_creating, next_action, request, request_in, settle}
use Rattle.cg_client.specs.Whitening.{white_at}
use Rattle.cg_base.specs.Lists.{Each}
use Rattle.cg_base.specs.EachLaws.{Each-append, Each-drop}
use Rattle.cg_group.specs.declared.delivery.Handed.{Handed}
use Rattle.cg_queue.specs.Queue.{green_count, names_of}
use Rattle.cg_disk_records.specs.Crash.{Crashes, Disk, EventEnd, Runs, end_event, whitened}
use Rattle.cg_disk_records.specs.Stored.{stored_of, whiten}
use Rattle.cg_wire.specs.declared.message.Msg.{Msg}
use Rattle.cg_wire.specs.declared.message.Msg.TheVariants.{Action as ActionMsg}
use Rattle.cg_disk_records.specs.CutRaiseLaws.{behind-rises, rising-behind}
use Rattle.cg_model.specs.Recorded.{OfDelivery}
use Rattle.cg_model.specs.RowLaws.{any-deliveries}

module _ (p n : ℕ) where
  -- ---- lists of names

  pub names-shown : (xs : List Action) → Each (IsActionShown p n) xs → Each (IsNameShown p n) (names_of xs)
  names-shown [] each = tt
  names-shown (x ∷ xs) each = (each.0, names-shown xs each.1)

  pub later-shown : (xs ys : List ActionId) → Each (IsNameShown p n) (xs ++ ys) → Each (IsNameShown p n) ys
  later-shown [] ys each = each
  later-shown (x ∷ xs) ys each = later-shown xs ys each.1

  pub drop-shown : (k : ℕ) (xs : List ActionId) → Each (IsNameShown p n) xs → Each (IsNameShown p n) (drop k xs)
  drop-shown zero xs each = each
  drop-shown (suc k) [] each = tt
  drop-shown (suc k) (x ∷ xs) each = drop-shown k xs each.1

  -- ---- the turn of another replica

  module _ (me : ℕ) (apart : me ≡ p → ⊥) where
    record IsMine (t : Turn) : Type 0 where
      pub id : t.replica.held.id ≡ me
      pub fine : AllFine (IsActionShown p n) t

    creates-mine : (t : Turn) (kind : Kind) → IsMine t → IsMine (create t kind)
    unfolding create
    creates-mine t kind is =
        let a = next_action t.replica.held kind in
        let fine : IsActionShown p n a = λ e. absurd (apart (sym is.id ∙ e)) in
        record {
          id = is.id;
          fine = record {
            held = record {
              greens = is.fine.held.greens;
              reds = is.fine.held.reds;
              own = Each-append (IsActionShown p n) t.replica.held.own (a ∷ []) is.fine.held.own (fine, tt);
            };
            sent = Each-append (IsMessageShown p n) t.sent (ActionMsg a ∷ []) is.fine.sent (fine, tt);
          };
        }

    all-mine : (list : List Kind) (t : Turn) → IsMine t → IsMine (fold create t list)
    all-mine [] t is = is
    all-mine (kind ∷ list) t is = all-mine list (create t kind) (creates-mine t kind is)

    buffered-mine : (t : Turn) (list : List Kind) → IsMine t → (let h = t.replica.held in IsMine (with_held t (record h { buffered = list })))
    buffered-mine t list is = record {
      id = is.id;
      fine = record { held = record { greens = is.fine.held.greens; reds = is.fine.held.reds; own = is.fine.held.own }; sent = is.fine.sent };
    }

    settles-mine : (t : Turn) → IsMine t → IsMine (settle t)
    unfolding create_kept
    settles-mine t is = at (is_creating t.replica.state) where
      at : (b : Bool) → IsMine (cond b (create_kept t) t)
      at true = all-mine t.replica.held.buffered (empty_buffer t) (buffered-mine t [] is)
      at false = is

    asks-mine : (t : Turn) (kind : Kind) → IsMine t → IsMine (request t kind)
    asks-mine t kind is = at t.replica.state where
      made : IsMine (create t kind)
      made = creates-mine t kind is

      kept : IsMine (buffer t kind)
      kept = buffered-mine t (t.replica.held.buffered ++ kind ∷ []) is

      at : (state : State) → IsMine (request_in state t kind)
      at RegPrim = made
      at (NonPrim true) = made
      at Left = is
      at TransPrim = kept
      at (ExchangeStates conf set heard) = kept
      at (ExchangeActions conf heard accepted) = kept
      at (Construct conf heard) = kept
      at (No conf heard) = kept
      at Un = kept
      at (NonPrim false) = kept

    abbrev pub InputShown : Input → Type 0
    InputShown (Deliveries list) = Each (OfDelivery (IsActionShown p n)) list
    InputShown (Asks kind) = Unit {0}

    step-mine : (start : List Weighted) (r : Replica) (input : Input) → IsCoreAt start me r.held → HoldsFine (IsActionShown p n) r.held → InputShown input → IsMine (replica_step r input)
    unfolding replica_step
    step-mine start r (Deliveries list) core held come =
        let t = fold after_delivery (begin r) list in
        let stays = of-deliveries (StaysCreated r.held) (λ a. Unit {0}) (created-rule r.held) (begin r) list (any-deliveries list) (record { held = created-first start r.held core.greens core.is; made = refl }) in
        settles-mine t (record {
          id = stays.held.id ∙ core.id;
          fine = of-deliveries (AllFine (IsActionShown p n)) (IsActionShown p n) (fine-rule (IsActionShown p n)) (begin r) list come (record { held = held; sent = tt });
        })
    step-mine start r (Asks kind) core held come = asks-mine (begin r) kind (record { id = core.id; fine = record { held = held; sent = tt } })

    white-fine : (h : Held) → HoldsFine (IsActionShown p n) h → HoldsFine (IsActionShown p n) (whiten h)
    unfolding whiten
    white-fine h is = record { greens = Each-drop (IsActionShown p n) (white_at h - h.queue.white) h.queue.greens is.greens; reds = is.reds; own = is.own }

    store-fine : (h : Held) → HoldsFine (IsActionShown p n) h → HoldsFine (IsActionShown p n) (stored_of h)
    store-fine h is = record { greens = is.greens; reds = is.reds; own = is.own }

    turn-shown : (start : List Weighted) (go : StepInProgress) (r : Replica) (disk : Disk) (input : Input) → IsCoreAt start me r.held → LifeShown p n (Up r disk) → InputShown input → AreShown p n go.world →
        AreShown p n (after_event go me (replica_step r input) (end_event disk r.held (replica_step r input))).world
    turn-shown start go r disk input core held come is =
        end-shown disk r.held t (λ e. AreShown p n (after_event go me t e).world)
        (λ quiet d same. runs t.replica d mine.fine.held (subst (HoldsFine (IsActionShown p n)) (sym same) held.1))
        (λ does d same. runs (whitened t.replica) d white (subst (HoldsFine (IsActionShown p n)) (sym same) stored))
        (λ stays d same. falls d t.green (subst (HoldsFine (IsActionShown p n)) (sym same) stored) green)
        (λ gone d same. falls d [] (subst (HoldsFine (IsActionShown p n)) (sym same) held.1) tt)
      where
        t : Turn
        t = replica_step r input

        mine : IsMine t
        mine = step-mine start r input core held.0 come

        white : HoldsFine (IsActionShown p n) (whiten t.replica.held)
        white = white-fine t.replica.held mine.fine.held

        stored : HoldsFine (IsActionShown p n) (stored_of (whiten t.replica.held))
        stored = store-fine (whiten t.replica.held) white

        green : Each (IsNameShown p n) t.green
        green =
            later-shown (names_of r.held.queue.greens) t.green
            (subst (Each (IsNameShown p n)) (step-noted r input).greens (names-shown t.replica.held.queue.greens mine.fine.held.greens))

        others : (v : World) (life : NodeState) → ((q : ℕ) → node_of v q ≡ cond (me == q) (Some (record { id = me; life = life })) (node_of go.world q)) → LifeShown p n life → (q : ℕ) → (q ≡ p → ⊥) → NodeShown p n (node_of v q)
        others v life node here q other =
            let new : Node = record { id = me; life = life } in
            subst (NodeShown p n) (sym (node q)) (cond_both (me == q) (Some new) (node_of go.world q) (NodeShown p n) (λ y. here) (λ n. is.nodes q other))

        runs : (x : Replica) (d : Disk) → HoldsFine (IsActionShown p n) x.held → HoldsFine (IsActionShown p n) d.content → AreShown p n (after_event go me t (Runs x d)).world
        runs x d memory content = record {
          rising = rising-behind go.world.made (names_of t.made) is.rising;
          low = (let up = behind-rises go.world.made (names_of t.made) p is.rising in let was = is.low in omega arith);
          nodes = others (after_event go me t (Runs x d)).world (Up x d) (λ q. node_of-set go.world me (Up x d) q) (memory, content);
          group = says-sent (IsMessageShown p n) t.sent go.world.group me mine.fine.sent is.group;
          order = Each-append (IsNameShown p n) go.world.order (beyond go.world.order t.green (green_count t.replica.held.queue)) is.order
              (drop-shown (length go.world.order + length t.green - green_count t.replica.held.queue) t.green green);
        }

        falls : (d : Disk) (green : List ActionId) → HoldsFine (IsActionShown p n) d.content → Each (IsNameShown p n) green → AreShown p n (after_event go me t (Crashes d green)).world
        falls d green content names = record {
          rising = is.rising;
          low = is.low;
          nodes = others (after_event go me t (Crashes d green)).world (Down d green) (λ q. node_of-set go.world me (Down d green) q) (content, names);
          group = says-down (IsMessageShown p n) go.world.group me is.group;
          order = is.order;
        }

  -- ---- the turn of the replica itself, by which it goes down

  abbrev pub EndFalls : EventEnd → Type 0
  EndFalls (Runs r disk) = ⊥
  EndFalls (Crashes disk green) = Unit {0}

  abbrev pub LifeFalls : Input → NodeState → Type 0
  LifeFalls input (Up r disk) = EndFalls (end_event disk r.held (replica_step r input))
  LifeFalls input (Down disk green) = Unit {0}

  abbrev pub NodeFalls : Input → Option Node → Type 0
  NodeFalls input None = Unit {0}
  NodeFalls input (Some s) = LifeFalls input s.life

  pub gone-shown : (w : World) (disk : Disk) (green : List ActionId) → AreShown p n w → AreShown p n (bring_down w p (Down disk green))
  gone-shown w disk green is = record {
    rising = is.rising;
    low = is.low;
    nodes = λ q other. subst (NodeShown p n) (sym (node_of-set w p (Down disk green) q ∙ cond-false (p == q) (Some (let s : Node = record { id = p; life = Down disk green } in s)) (node_of w q) (ne_eqb p q (λ e. other (sym e))))) (is.nodes q other);
    group = says-down (IsMessageShown p n) w.group p is.group;
    order = is.order;
  }

  own-shown : (go : StepInProgress) (input : Input) → NodeFalls input (node_of go.world p) → AreShown p n go.world → AreShown p n (hand go p input).world
  unfolding hand
  own-shown go input falls is = at (node_of go.world p) falls where
    ended : (t : Turn) (e : EventEnd) → EndFalls e → AreShown p n (after_event go p t e).world
    ended t (Runs r disk) falls = absurd falls
    ended t (Crashes disk green) falls = gone-shown go.world disk green is

    life : (l : NodeState) → LifeFalls input l → AreShown p n (hand_to go p input l).world
    life (Up r disk) falls = ended (replica_step r input) (end_event disk r.held (replica_step r input)) falls
    life (Down disk green) falls = is

    at : (o : Option Node) → NodeFalls input o → AreShown p n (option_map_or (λ s. hand_to go p input s.life) o go).world
    at None falls = is
    at (Some s) falls = life s.life falls

  -- ---- turns

  other-shown : (start : List Weighted) (go : StepInProgress) (q : ℕ) (input : Input) (other : q ≡ p → ⊥) → NodeSound start q (node_of go.world q) → InputShown q other input → AreShown p n go.world →
      AreShown p n (hand go q input).world
  unfolding hand
  other-shown start go q input other sound come is = at (node_of go.world q) sound (is.nodes q other) where
    life : (l : NodeState) → LifeSound start q l → LifeShown p n l → AreShown p n (hand_to go q input l).world
    life (Up r disk) sound shown = turn-shown q other start go r disk input sound.0 shown come is
    life (Down disk green) sound shown = is

    at : (o : Option Node) → NodeSound start q o → NodeShown p n o → AreShown p n (option_map_or (λ s. hand_to go q input s.life) o go).world
    at None sound shown = is
    at (Some s) sound shown = life s.life sound shown

  pub hand-shown : (start : List Weighted) (go : StepInProgress) (q : ℕ) (input : Input) → NodeSound start q (node_of go.world q) → ((other : q ≡ p → ⊥) → InputShown q other input) →
      (q ≡ p → NodeFalls input (node_of go.world q)) → AreShown p n go.world → AreShown p n (hand go q input).world
  hand-shown start go q input sound come falls is = elim (cases_eq q p) [
    | inl same ↦ subst (λ (x : ℕ). AreShown p n (hand go x input).world) (sym same) (own-shown go input (subst (λ (x : ℕ). NodeFalls input (node_of go.world x)) same (falls same)) is)
    | inr other ↦ other-shown start go q input other sound (come other) is
  ]

  -- replicas take their turns, ascending; who hasn't yet is as it was
  pub hands-shown : (start : List Weighted) (w : World) (list : List (Handed Msg)) (go : StepInProgress) (low : ℕ) → IsRising low (map (λ h. h.to) list) → ((q : ℕ) → low ≤ q → node_of go.world q ≡ node_of w q) →
      ((q : ℕ) → NodeSound start q (node_of w q)) → Each (λ h. Each (OfDelivery (IsActionShown p n)) h.list × (h.to ≡ p → NodeFalls (Deliveries h.list) (node_of w h.to))) list → AreShown p n go.world →
      AreShown p n (fold hand_over go list).world
  hands-shown start w [] go low rise still sound each is = is
  hands-shown start w (h ∷ list) go low rise still sound each is =
      let here : node_of go.world h.to ≡ node_of w h.to = still h.to rise.0 in
      hands-shown start w list (hand_over go h) (suc h.to) rise.1 (λ q le. stays q le ∙ still q (let up = rise.0 in omega arith)) sound each.1
      (hand-shown start go h.to (Deliveries h.list) (subst (NodeSound start h.to) (sym here) (sound h.to)) (λ other. each.0.0)
      (λ same. subst (NodeFalls (Deliveries h.list)) (sym here) (each.0.1 same)) is)
    where
      stays : (q : ℕ) → suc h.to ≤ q → node_of (hand_over go h).world q ≡ node_of go.world q
      stays q le = elim (hand-behind (λ x input. x ≡ h.to) go h.to (Deliveries h.list) refl q) [
        | inl same ↦ same
        | inr turn ↦ absurd (let same : q ≡ h.to = turn.of in omega arith)
      ]
