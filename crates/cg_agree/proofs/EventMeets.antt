-- What an event brings to each replica, and what it shows of it: the replica stays, takes a turn, falls, wakes, or begins.
use Rattle.std.proofs.Common.{◌⊎◌, ◌≡◌, ℕ, ◌+◌, min, nat_lt, Bool, true, false, cond, ◌&&◌, ◌||◌, List, [], ◌∷◌, ◌++◌, map, filter, fold, Option, Some, None, IfSome, refl, sym, ap, ◌∙◌, subst, inl, inr, eq-eqb, option_and_then, option_map}
use Rattle.std.specs.Prelude.{◌==◌}
use Rattle.std.specs.Option.{option_map_or}
use Rattle.std.proofs.lemmas.Bool.{cases_eq, cases_Bool, cond-true, cond-false, ne_eqb, and_parts, eqb-true}
use Rattle.cg_base.specs.declared.action_id.ActionId.{ActionId}
use Rattle.cg_base.specs.declared.weighted.Weighted.{Weighted}
use Rattle.cg_base.specs.Cuts.{index_in}
use Rattle.cg_base.specs.Ids.{has_name}
use Rattle.cg_base.specs.IdLaws.{same_id-false}
use Rattle.cg_base.specs.Weights.{ids}
use Rattle.cg_action.specs.declared.action.Action.{Action}
use Rattle.cg_action.specs.declared.action.Kind.{Kind}
use Rattle.cg_queue.specs.Queue.{names_of}
use Rattle.cg_wire.specs.declared.message.Msg.{Msg}
use Rattle.cg_group.specs.declared.delivery.Handed.{Handed}
use Rattle.cg_base.specs.Lists.{Each}
use Rattle.cg_group.specs.State.{GroupState}
use Rattle.cg_report.specs.declared.entry.Reply.{Reply}
use Rattle.cg_client.specs.Replica.{Held, Replica, NonPrim, fresh}
use Rattle.cg_client.specs.Turn.{begin}
use Rattle.cg_disk_records.specs.Stored.{recovery_turn as recover_disk}
use Rattle.cg_states.specs.ReplicaStep.{Input, Deliveries, Asks as AsksOf, replica_step}
use Rattle.cg_disk_records.specs.Crash.{Strike, Disk, at_rest, new_disk, recovered, disk_recovered, end_event}
use Rattle.cg_schedule.specs.declared.event.Event.{Event}
use Rattle.cg_schedule.specs.declared.event.Event.TheVariants.{Start}
use Rattle.cg_model.specs.World.{NodeState, Up, Down, Node, TransferState, World, no_world, running, node_of, replica_of, set_life, bring_up, bring_down}
use Rattle.cg_model.specs.Show.{StepInProgress, unshown, news_of_recovery}
use Rattle.cg_model.specs.Agreement.{is_recovery_of}
use Rattle.cg_model.specs.Looks.{on_disk, disk_held}
use Rattle.cg_model.specs.Step.{quietly, hand, hand_over, ask, name_also, begin_replica, arm, recover, joiner_replica, without_snapshot, recover_under}
use Rattle.cg_model.specs.AtNode.{arm_at, crash_at, recover_from, take_pieces}
use Rattle.cg_model.specs.FactsLists.{IsRising}
use Rattle.cg_agree_lemmas.specs.ChronicleFacts.{node_of-set}
use Rattle.cg_agree_lemmas.specs.HeldCommit.{recovered-id}
use Rattle.cg_agree_lemmas.specs.TurnWorlds.{up_node, life_at}
use Rattle.cg_agree_lemmas.specs.TurnReplies.{owed-own}
use Rattle.cg_agree_lemmas.specs.RepliesPlaced.{IsIn, times, reply_ids, plain, ids_in}
use Rattle.cg_agree_lemmas.specs.OwedNames.{own_name}
use Rattle.cg_agree_lemmas.specs.EventInputs.{IsHanded}
use Rattle.cg_agree_lemmas.specs.EventSays.{Said, said-none, tell-said, made_ids, NodeOwes, Comes, hand-comes, handed-comes, made_by, replies_by}
use Rattle.cg_agree_lemmas.specs.DiskSwaps.{IsSwapped, Swaps, recover_under-cases}
use Rattle.cg_client.specs.Joined.{piece_count}

-- nothing was made or answered before the event
abbrev pub no_going : StepInProgress
no_going = quietly no_world

-- of a replica the event shows these own actions as made, and these replies, and no other
abbrev pub SaidOnly : StepInProgress → ℕ → List ActionId → List Reply → Type 0
SaidOnly h p made replies = Said no_going h p made replies

-- what runs, and what stands on its disk
pub record KeptIn (w v : World) (p : ℕ) : Type 0 where
  pub runs : replica_of v p ≡ replica_of w p
  pub disk : disk_held v p ≡ disk_held w p

-- it took a turn
pub record TurnsIn (w : World) (e : Event) (h : StepInProgress) (p : ℕ) : Type 0 where
  pub replica : Replica
  pub disk : Disk
  pub input : Input
  pub of : IsHanded w e p input
  pub before : node_of w p ≡ Some (up_node p replica disk)
  pub behind : (let t = replica_step replica input in node_of h.world p ≡ Some (record { id = p; life = life_at (end_event disk replica.held t) }))
  pub said : (let t = replica_step replica input in let e = end_event disk replica.held t in SaidOnly h p (made_by t e) (replies_by t e))
  pub no_recovery : is_recovery_of p e ≡ false

-- it crashed between its turns
pub record FallsIn (w : World) (h : StepInProgress) (p : ℕ) : Type 0 where
  pub fallen : Disk
  pub green : List ActionId
  pub node : node_of h.world p ≡ Some (record { id = p; life = Down fallen green })
  pub disk : disk_held h.world p ≡ disk_held w p
  pub said : SaidOnly h p [] []

-- it came up from its disk
pub record WakesIn (w : World) (e : Event) (h : StepInProgress) (p : ℕ) : Type 0 where
  pub event : is_recovery_of p e ≡ true
  pub none : replica_of w p ≡ None
  pub replica : Replica
  pub runs : replica_of h.world p ≡ Some replica
  pub owed : IfSome (disk_held w p) (λ s. s.owed ≡ []) → replica.held.owed ≡ []
  pub disk : disk_held h.world p ≡ disk_held w p
  pub made : List ActionId
  pub said : SaidOnly h p made []

-- it began
pub record BeginsIn (w : World) (h : StepInProgress) (p : ℕ) : Type 0 where
  pub none : replica_of w p ≡ None
  pub replica : Replica
  pub runs : replica_of h.world p ≡ Some replica
  pub disk : disk_held h.world p ≡ Some replica.held
  pub owed : replica.held.owed ≡ []
  pub said : SaidOnly h p [] []

pub data Meets (w : World) (e : Event) (h : StepInProgress) (p : ℕ) : Type 0 where
  Stays : (kept : KeptIn w h.world p) (said : SaidOnly h p [] []) → Meets w e h p
  Turns : (turn : TurnsIn w e h p) → Meets w e h p
  Falls : (falls : FallsIn w h p) → Meets w e h p
  Wakes : (wakes : WakesIn w e h p) → Meets w e h p
  Begins : (begins : BeginsIn w h p) → Meets w e h p

-- ---- one node changes

set-kept : (w v : World) (p : ℕ) (life : NodeState) (q : ℕ) → ((x : ℕ) → node_of v x ≡ node_of (set_life w p life) x) → (q ≡ p → ⊥) → KeptIn w v q
set-kept w v p life q nodes apart =
    let node : node_of v q ≡ node_of w q = nodes q ∙ node_of-set w p life q ∙ cond-false (p == q) (Some (let s : Node = record { id = p; life = life } in s)) (node_of w q) (ne_eqb p q (λ e. apart (sym e))) in
    record { runs = ap (λ (o : Option Node). option_and_then (λ s. running s.life) o) node; disk = ap (λ (o : Option Node). option_map (λ s. on_disk s.life) o) node }

set-here : (w v : World) (p : ℕ) (life : NodeState) → ((x : ℕ) → node_of v x ≡ node_of (set_life w p life) x) →
    (replica_of v p ≡ running life) × (disk_held v p ≡ Some (on_disk life)) × (node_of v p ≡ Some (record { id = p; life = life }))
set-here w v p life nodes =
    let node : node_of v p ≡ Some (record { id = p; life = life }) = nodes p ∙ node_of-set w p life p ∙ cond-true (p == p) (Some (let s : Node = record { id = p; life = life } in s)) (node_of w p) (eq-eqb p p refl) in
    (ap (λ (o : Option Node). option_and_then (λ s. running s.life) o) node, ap (λ (o : Option Node). option_map (λ s. on_disk s.life) o) node, node)

quiet-stays : (w v : World) (e : Event) (p : ℕ) → KeptIn w v p → Meets w e (quietly v) p
quiet-stays w v e p kept = Stays kept (said-none no_going (quietly v) p refl refl)

pub same-stays : (w : World) (e : Event) (h : StepInProgress) (p : ℕ) → h.world.nodes ≡ w.nodes → h.made ≡ [] → h.replies ≡ [] → Meets w e h p
same-stays w e h p nodes made replies =
    Stays (record { runs = ap (λ (list : List Node). replica_of (record w { nodes = list }) p) nodes; disk = ap (λ (list : List Node). disk_held (record w { nodes = list }) p) nodes }) (said-none no_going h p made replies)

-- ---- turns

module _ (start : List Weighted) (w : World) where
  pub from-comes : (e : Event) (g h : StepInProgress) (p : ℕ) → is_recovery_of p e ≡ false → node_of g.world p ≡ node_of w p → g.made ≡ [] → g.replies ≡ [] → Comes (IsHanded w e) g h p → Meets w e h p
  from-comes e g h p none node made replies is = elim is [
    | inl kept ↦
        let same : node_of h.world p ≡ node_of w p = kept.node ∙ node in
        Stays (record { runs = ap (λ (o : Option Node). option_and_then (λ s. running s.life) o) same; disk = ap (λ (o : Option Node). option_map (λ s. on_disk s.life) o) same })
        (over [] [] kept.said)
    | inr turn ↦ Turns (record {
      replica = turn.replica;
      disk = turn.disk;
      input = turn.input;
      of = turn.of;
      before = sym node ∙ turn.before;
      behind = turn.behind;
      said = over _ _ turn.said;
      no_recovery = none;
    })
  ] where
    over : (made_now : List ActionId) (replies_now : List Reply) → Said g h p made_now replies_now → SaidOnly h p made_now replies_now
    over made_now replies_now said = record {
      made = λ i. said.made i ∙ ap (λ list. has_name (made_ids list) (own_name p i) || has_name made_now (own_name p i)) made;
      count = λ i. said.count i ∙ ap (λ list. times (own_name p i) (ids_in list) + times (own_name p i) (reply_ids replies_now)) replies;
      from = λ r mine there. subst (λ list. IsIn (plain list) r ⊎ IsIn replies_now r) replies (said.from r mine there);
    }

  module _ (owes : (p : ℕ) → NodeOwes start p (node_of w p)) where
    pub asked : (e : Event) (v : World) (q : ℕ) (kind : Kind) (p : ℕ) → is_recovery_of p e ≡ false → IsHanded w e q (AsksOf kind) → v.nodes ≡ w.nodes → Meets w e (ask v q kind) p
    asked e v q kind p none of nodes =
        let node : (x : ℕ) → node_of v x ≡ node_of w x = λ x. ap (λ (list : List Node). node_of (record w { nodes = list }) x) nodes in
        from-comes e (quietly v) (ask v q kind) p none (node p) refl refl (hand-comes start (IsHanded w e) (quietly v) q (AsksOf kind) of (subst (NodeOwes start q) (sym (node q)) (owes q)) p)

    pub handed-one : (e : Event) (g : GroupState Msg) (q : ℕ) (input : Input) (p : ℕ) → is_recovery_of p e ≡ false → IsHanded w e q input → Meets w e (hand (quietly (record w { group = g })) q input) p
    handed-one e g q input p none of =
        let first = quietly (record w { group = g }) in
        from-comes e first (hand first q input) p none refl refl refl (hand-comes start (IsHanded w e) first q input of (owes q) p)

    pub handed-out : (e : Event) (g : GroupState Msg) (list : List (Handed Msg)) (p : ℕ) → is_recovery_of p e ≡ false → IsRising 1 (map (λ h. h.to) list) →
        Each (λ h. IsHanded w e h.to (Deliveries h.list)) list → Meets w e (fold hand_over (quietly (record w { group = g })) list) p
    handed-out e g list p none rise each =
        let first = quietly (record w { group = g }) in
        from-comes e first (fold hand_over first list) p none refl refl refl (handed-comes start (IsHanded w e) list first 1 rise each (λ q le. owes q) p)

-- ---- the start

begun-one : (set : List Weighted) (list : List ℕ) (w : World) (p : ℕ) → (node_of w p ≡ None) ⊎ (node_of w p ≡ Some (up_node p (fresh p set) (new_disk (fresh p set).held))) →
    (node_of (fold (begin_replica set) w list) p ≡ None) ⊎ (node_of (fold (begin_replica set) w list) p ≡ Some (up_node p (fresh p set) (new_disk (fresh p set).held)))
begun-one set [] w p is = is
begun-one set (q ∷ list) w p is = begun-one set list (begin_replica set w q) p (elim (cases_eq q p) [
  | inl same ↦ inr (nodes p ∙ cond-true (q == p) (Some new) (node_of w p) (eq-eqb q p same) ∙ ap (λ n. Some (up_node n (fresh n set) (new_disk (fresh n set).held))) same)
  | inr apart ↦ subst (λ (o : Option Node). (o ≡ None) ⊎ (o ≡ Some (up_node p (fresh p set) (new_disk (fresh p set).held)))) (sym (nodes p ∙ cond-false (q == p) (Some new) (node_of w p) (ne_eqb q p apart))) is
]) where
  new : Node
  new = up_node q (fresh q set) (new_disk (fresh q set).held)

  nodes : (x : ℕ) → node_of (begin_replica set w q) x ≡ cond (q == x) (Some new) (node_of w x)
  nodes x = node_of-set (name_also w q) q (Up (fresh q set) (new_disk (fresh q set).held)) x

pub start-meets : (w : World) (set : List Weighted) (p : ℕ) → node_of w p ≡ None → Meets w (Start set) (quietly (fold (begin_replica set) w (ids set))) p
start-meets w set p none = elim (begun-one set (ids set) w p (inl none)) [
  | inl still ↦
      let same : node_of (fold (begin_replica set) w (ids set)) p ≡ node_of w p = still ∙ sym none in
      quiet-stays w (fold (begin_replica set) w (ids set)) (Start set) p
      (record { runs = ap (λ (o : Option Node). option_and_then (λ s. running s.life) o) same; disk = ap (λ (o : Option Node). option_map (λ s. on_disk s.life) o) same })
  | inr new ↦ Begins (record {
    none = ap (λ (o : Option Node). option_and_then (λ s. running s.life) o) none;
    replica = fresh p set;
    runs = ap (λ (o : Option Node). option_and_then (λ s. running s.life) o) new;
    disk = ap (λ (o : Option Node). option_map (λ s. on_disk s.life) o) new;
    owed = refl;
    said = said-none no_going (quietly (fold (begin_replica set) w (ids set))) p refl refl;
  })
]

-- ---- crashes, faults and recoveries

pub stop-meets : (w : World) (e : Event) (q p : ℕ) → Meets w e (quietly (option_map_or (λ s. crash_at w q s.life) (node_of w q) w)) p
stop-meets w e q p = at (node_of w q) refl where
  life : (s : Node) (l : NodeState) → s.life ≡ l → node_of w q ≡ Some s → Meets w e (quietly (crash_at w q l)) p
  life s (Up r disk) is found =
      let v = bring_down w q (Down (at_rest disk) []) in
      let nodes : (x : ℕ) → node_of v x ≡ node_of (set_life w q (Down (at_rest disk) [])) x = λ x. refl in
      elim (cases_eq p q) [
        | inr apart ↦ quiet-stays w v e p (set-kept w v q (Down (at_rest disk) []) p nodes apart)
        | inl same ↦
            let here = set-here w v q (Down (at_rest disk) []) nodes in
            let was : disk_held w q ≡ Some disk.content = ap (λ (o : Option Node). option_map (λ s. on_disk s.life) o) found ∙ ap (λ l. Some (on_disk l)) is in
            Falls (record {
              fallen = at_rest disk;
              green = [];
              node = ap (node_of v) same ∙ here.2 ∙ ap (λ n. Some (record { id = n; life = Down (at_rest disk) [] })) (sym same);
              disk = ap (disk_held v) same ∙ here.1 ∙ sym was ∙ ap (disk_held w) (sym same);
              said = said-none no_going (quietly v) p refl refl;
            })
      ]
  life s (Down disk green) is found = same-stays w e (quietly w) p refl refl refl

  at : (o : Option Node) → node_of w q ≡ o → Meets w e (quietly (option_map_or (λ s. crash_at w q s.life) o w)) p
  at None found = same-stays w e (quietly w) p refl refl refl
  at (Some s) found = life s s.life refl found

pub arm-meets : (w : World) (e : Event) (q : ℕ) (strike : Strike) (p : ℕ) → Meets w e (quietly (arm w q strike)) p
arm-meets w e q strike p = at (node_of w q) refl where
  life : (s : Node) (l : NodeState) → s.life ≡ l → node_of w q ≡ Some s → Meets w e (quietly (arm_at w q strike l)) p
  life s (Up r disk) is found =
      let now : NodeState = Up r (record disk { armed = Some strike }) in
      let v = set_life w q now in
      elim (cases_eq p q) [
        | inr apart ↦ quiet-stays w v e p (set-kept w v q now p (λ x. refl) apart)
        | inl same ↦
            let here = set-here w v q now (λ x. refl) in
            let runs : replica_of w q ≡ Some r = ap (λ (o : Option Node). option_and_then (λ s. running s.life) o) found ∙ ap running is in
            let was : disk_held w q ≡ Some disk.content = ap (λ (o : Option Node). option_map (λ s. on_disk s.life) o) found ∙ ap (λ l. Some (on_disk l)) is in
            quiet-stays w v e p (record {
              runs = ap (replica_of v) same ∙ here.0 ∙ sym runs ∙ ap (replica_of w) (sym same);
              disk = ap (disk_held v) same ∙ here.1 ∙ sym was ∙ ap (disk_held w) (sym same);
            })
      ]
  life s (Down disk green) is found = same-stays w e (quietly w) p refl refl refl

  at : (o : Option Node) → node_of w q ≡ o → Meets w e (quietly (option_map_or (λ s. arm_at w q strike s.life) o w)) p
  at None found = same-stays w e (quietly w) p refl refl refl
  at (Some s) found = life s s.life refl found

pub swap-meets : (w v : World) (e : Event) (q p : ℕ) → Swaps w v q → Meets w e (quietly v) p
swap-meets w v e q p is = elim is [
  | inl same ↦ same-stays w e (quietly v) p (ap (λ (x : World). x.nodes) same) refl refl
  | inr other ↦ quiet-stays w v e p (elim (cases_eq p q) [
    | inr apart ↦ set-kept w v q (Down other.new other.green) p (nodes other) apart
    | inl same ↦
        let here = set-here w v q (Down other.new other.green) (nodes other) in
        let off : replica_of w q ≡ None = ap (λ (o : Option Node). option_and_then (λ s. running s.life) o) other.node in
        let was : disk_held w q ≡ Some other.old.content = ap (λ (o : Option Node). option_map (λ s. on_disk s.life) o) other.node in
        record {
          runs = ap (replica_of v) same ∙ here.0 ∙ sym off ∙ ap (replica_of w) (sym same);
          disk = ap (disk_held v) same ∙ here.1 ∙ ap Some other.content ∙ sym was ∙ ap (disk_held w) (sym same);
        }
  ])
] where
  nodes : (other : IsSwapped w v q) (x : ℕ) → node_of v x ≡ node_of (set_life w q (Down other.new other.green)) x
  nodes other x = ap (λ (u : World). node_of u x) other.world

recovered-owed : (disk : Disk) → disk.content.owed ≡ [] → (recovered disk).held.owed ≡ []
unfolding recover_disk
recovered-owed disk none = owed-own (begin (record { held = disk.content; state = NonPrim false })) ∙ none

none-other : (reds : List Action) (m : ℕ) (t : Action → Bool) (p i : ℕ) → (p ≡ m → ⊥) → has_name (names_of (filter (λ a. (a.id.creator == m) && t a) reds)) (own_name p i) ≡ false
none-other [] m t p i apart = refl
none-other (a ∷ reds) m t p i apart = elim (cases_Bool ((a.id.creator == m) && t a)) [
  | inl here ↦
      let creator : a.id.creator ≡ m = eqb-true a.id.creator m (and_parts (a.id.creator == m) (t a) here).0 in
      let rest = names_of (filter (λ a. (a.id.creator == m) && t a) reds) in
      ap (λ xs. has_name (names_of xs) (own_name p i)) (cond-true ((a.id.creator == m) && t a) (a ∷ filter (λ a. (a.id.creator == m) && t a) reds) (filter (λ a. (a.id.creator == m) && t a) reds) here)
      ∙ ap (λ b. b || has_name rest (own_name p i)) (same_id-false (own_name p i) a.id (inl (λ e. apart (e ∙ creator))))
      ∙ none-other reds m t p i apart
  | inr other ↦
      ap (λ xs. has_name (names_of xs) (own_name p i)) (cond-false ((a.id.creator == m) && t a) (a ∷ filter (λ a. (a.id.creator == m) && t a) reds) (filter (λ a. (a.id.creator == m) && t a) reds) other)
      ∙ none-other reds m t p i apart
]

-- what a recovery shows of another replica
unshown-other : (made : List ActionId) (h : Held) (q p i : ℕ) → h.id ≡ q → (p ≡ q → ⊥) → has_name (names_of (unshown made h)) (own_name p i) ≡ false
unshown-other made h q p i mine apart = none-other h.queue.reds h.id (λ a. nat_lt (index_in made h.id) a.id.index) p i (λ e. apart (e ∙ mine))

pub recover-meets : (w : World) (e : Event) (q p : ℕ) → is_recovery_of p e ≡ (q == p) → ((d : Disk) (green : List ActionId) (s : Node) → node_of w q ≡ Some s → s.life ≡ Down d green → d.content.id ≡ q) → Meets w e (recover w q) p
recover-meets w e q p of named = at (node_of w q) refl where
  life : (s : Node) (l : NodeState) → s.life ≡ l → node_of w q ≡ Some s → Meets w e (recover_from w l) p
  life s (Up r disk) is found = same-stays w e (quietly w) p refl refl refl
  life s (Down disk green) is found =
      let r = recovered disk in
      let id : r.held.id ≡ q = recovered-id disk.content ∙ named disk green s found is in
      let now : NodeState = Up r (disk_recovered disk) in
      let h = recover_from w (Down disk green) in
      let n = news_of_recovery w.made r.held green in
      let nodes : (x : ℕ) → node_of h.world x ≡ node_of (set_life w q now) x = λ x. ap (λ m. node_of (set_life w m now) x) id in
      let told = tell-said (quietly (bring_up w r (disk_recovered disk))) n p tt in
      elim (cases_eq p q) [
        | inr apart ↦ Stays (set-kept w h.world q now p nodes apart) (record {
          made = λ i. told.made i ∙ unshown-other w.made r.held q p i id apart;
          count = λ i. told.count i;
          from = λ r mine there. told.from r mine there;
        })
        | inl same ↦
            let here = set-here w h.world q now nodes in
            let was : disk_held w q ≡ Some disk.content = ap (λ (o : Option Node). option_map (λ s. on_disk s.life) o) found ∙ ap (λ l. Some (on_disk l)) is in
            let off : replica_of w q ≡ None = ap (λ (o : Option Node). option_and_then (λ s. running s.life) o) found ∙ ap running is in
            Wakes (record {
              event = of ∙ eq-eqb q p (sym same);
              none = ap (replica_of w) same ∙ off;
              replica = r;
              runs = ap (replica_of h.world) same ∙ here.0;
              owed = λ none. recovered-owed disk (subst (λ (o : Option Held). IfSome o (λ s. s.owed ≡ [])) (ap (disk_held w) same ∙ was) none);
              disk = ap (disk_held h.world) same ∙ here.1 ∙ sym was ∙ ap (disk_held w) (sym same);
              made = names_of (unshown w.made r.held);
              said = record { made = λ i. told.made i; count = λ i. told.count i; from = λ r mine there. told.from r mine there };
            })
      ]

  at : (o : Option Node) → node_of w q ≡ o → Meets w e (option_map_or (λ s. recover_from w s.life) o (quietly w)) p
  at None found = same-stays w e (quietly w) p refl refl refl
  at (Some s) found = life s s.life refl found

-- a recovery in which a stop is armed
pub recover_under-meets : (w : World) (e : Event) (q : ℕ) (strike : Strike) (p : ℕ) → is_recovery_of p e ≡ (q == p) →
    ((d : Disk) (green : List ActionId) (s : Node) → node_of w q ≡ Some s → s.life ≡ Down d green → d.content.id ≡ q) → Meets w e (recover_under w q strike) p
recover_under-meets w e q strike p of named = recover_under-cases w q strike (λ go. Meets w e go p) (λ v. swap-meets w v e q p) (recover-meets w e q p of named)

-- ---- a joiner

showing-stays : (w : World) (e : Event) (h : StepInProgress) (p : ℕ) → KeptIn w h.world p → h.made ≡ [] → h.replies ≡ [] → Meets w e h p
showing-stays w e h p kept made replies = Stays kept (said-none no_going h p made replies)

pub pieces-meet : (w : World) (e : Event) (s : TransferState) (pieces p : ℕ) → node_of w s.joiner ≡ None → Meets w e (take_pieces w s pieces) p
pieces-meet w e s pieces p none = at (taken == piece_count s.content) refl where
  taken : ℕ
  taken = min (piece_count s.content) (s.taken + pieces)

  others : World
  others = without_snapshot w s.joiner

  r : Replica
  r = joiner_replica s.joiner s.content

  with_end : World → StepInProgress
  with_end v = (let g = take_pieces w s pieces in record g { world = v })

  whole : World
  whole = bring_up others r (new_disk r.held)

  fewer : World
  fewer = record others { snapshots = others.snapshots ++ record s { taken = taken } ∷ [] }

  up : Meets w e (with_end whole) p
  up =
      let now : NodeState = Up r (new_disk r.held) in
      let nodes : (x : ℕ) → node_of whole x ≡ node_of (set_life w s.joiner now) x = λ x. refl in
      elim (cases_eq p s.joiner) [
        | inr apart ↦ showing-stays w e (with_end whole) p (set-kept w whole s.joiner now p nodes apart) refl refl
        | inl same ↦
            let here = set-here w whole s.joiner now nodes in
            Begins (record {
              none = ap (λ x. replica_of w x) same ∙ ap (λ (o : Option Node). option_and_then (λ s. running s.life) o) none;
              replica = r;
              runs = ap (replica_of whole) same ∙ here.0;
              disk = ap (disk_held whole) same ∙ here.1;
              owed = refl;
              said = said-none no_going (with_end whole) p refl refl;
            })
      ]

  at : (b : Bool) → (taken == piece_count s.content) ≡ b → Meets w e (take_pieces w s pieces) p
  at true is = subst (λ v. Meets w e (with_end v) p) (sym (cond-true (taken == piece_count s.content) whole fewer is)) up
  at false is = subst (λ v. Meets w e (with_end v) p) (sym (cond-false (taken == piece_count s.content) whole fewer is))
      (showing-stays w e (with_end fewer) p (record { runs = refl; disk = refl }) refl refl)
