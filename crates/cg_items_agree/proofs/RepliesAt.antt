-- Each reply that an event gives has the place of its action in the order behind the event, and they stand in the order of their places.
use Rattle.std.proofs.Common.{◌≡◌, ℕ, suc, ◌+◌, ◌-◌, ◌<◌, ◌≤◌, nat_lt, Bool, true, false, List, [], ◌∷◌, ◌++◌, map, fold, drop, length, Option, Some, None, IfSome, Contains, option_and_then, refl, sym, ap, subst, ◌∙◌, inl, inr, arith, append_assoc, length-append, is_some, if◌then◌else◌}
use Rattle.std.specs.Option.{option_map_or}
use Rattle.std.proofs.lemmas.Bool.{cases_Bool, cases_lt, cond-true, cond-false, ltb-true, lt-ltb}
use Rattle.cg_base.specs.declared.action_id.ActionId.{ActionId}
use Rattle.cg_base.specs.Ids.{same_id}
use Rattle.cg_base.specs.IdLaws.{same_id-is, same_id-self}
use Rattle.cg_base.specs.Lists.{above_up_to, Each}
use Rattle.cg_base.specs.Sets.{has}
use Rattle.cg_action.specs.declared.action.Kind.TheVariants.{Update, Join as JoinKind, Leave as LeaveKind}
use Rattle.cg_queue.specs.Queue.{green_count, names_of}
use Rattle.cg_wire.specs.declared.message.Msg.{Msg}
use Rattle.cg_group.specs.declared.delivery.Delivery.TheVariants.{Regular as RegularIn}
use Rattle.cg_group.specs.declared.delivery.Handed.{Handed}
use Rattle.cg_base.specs.EachLaws.{Each-has}
use Rattle.cg_base.specs.ElementLaws.{contains-at}
use Rattle.cg_group.specs.State.{GroupState, delivered_to, home}
use Rattle.cg_group.specs.Events.{deliveries_at, handed_in_split, deliver, split, merge}
use Rattle.cg_report.specs.declared.entry.Reply.{Reply}
use Rattle.cg_client.specs.Replica.{Replica}
use Rattle.cg_client.specs.Turn.{Turn}
use Rattle.cg_states.specs.ReplicaStep.{Input, Deliveries, Asks as AsksOf, replica_step}
use Rattle.cg_disk_records.specs.Crash.{Disk, EventEnd, Runs, Crashes, end_event, StopWith}
use Rattle.cg_schedule.specs.declared.event.Event.{Event}
use Rattle.cg_schedule.specs.declared.event.Event.TheVariants.{Start, Split, Merge, Request, Weak, Dirty, Order, Recover, RecoverStopped, Downgrade, Show, ShowOrder, Gather, End, Receive, Deliver, Rounds, Stop, Fail, Join, Leave, Transfer}
use Rattle.cg_model.specs.World.{NodeState, Up, Down, Node, World, has_begun, node_of, replica_of, running}
use Rattle.cg_model.specs.Admission.{first_refusal}
use Rattle.cg_model.specs.Show.{Answered, StepInProgress, answered_from, with_answered, ended}
use Rattle.cg_model.specs.Step.{quietly, hand, hand_over, recover, snapshot_for, transfer, happens, world_step, name_also}
use Rattle.cg_model.specs.AtNode.{after_event, hand_to, recover_from, take_pieces}
use Rattle.cg_model.specs.Run.{MayStand}
use Rattle.cg_model.specs.Chronicle.{Chronicle}
use Rattle.cg_model.specs.FactsLists.{IsRising}
use Rattle.cg_model.specs.Fronts.{Front}
use Rattle.cg_model.specs.Looks.{greens_of}
use Rattle.cg_model.specs.Noting.{chronicle_step}
use Rattle.cg_model.specs.Places.{place_of}
use Rattle.cg_model.specs.Played.{StandsBeside}
use Rattle.cg_model.specs.Smalls.{smalls_in}
use Rattle.cg_terms.specs.Linearizable.{AllDiffer}
use Rattle.cg_agree_lemmas.specs.EventInputs.{IsHanded}
use Rattle.cg_agree_lemmas.specs.FrontFacts.{split_by_Front, Front-length}
use Rattle.cg_agree_lemmas.specs.MadeSplit.{rising-set-list}
use Rattle.cg_agree_lemmas.specs.NodeFacts.{node-id}
use Rattle.cg_agree_lemmas.specs.RestsBehind.{handed-ids, split-to}
use Rattle.cg_agree_lemmas.specs.TurnGreens.{memory-count}
use Rattle.cg_agree_lemmas.specs.TurnReplies.{step-answered}
use Rattle.cg_agree_lemmas.specs.TurnWorlds.{up_node, life_at}
use Rattle.cg_agree_lemmas.specs.WorldTurns.{EndsSo, hand-behind, alone-ends, handed-ends}
use Rattle.cg_agree_lemmas.specs.EventRuns.{event-runs}
use Rattle.cg_agree_lemmas.specs.GreensBehind.{greens-through}
use Rattle.cg_agree_lemmas.specs.DiskSwaps.{recover_under-cases}
use Rattle.cg_queue.specs.NameLaws.{names-append, names-count}
use Rattle.cg_model.specs.ShowLaws.{answered_from-none}

-- ---- places

-- a name has the place behind those before it, where none stands twice
pub place-at : (before after : List ActionId) (id : ActionId) → AllDiffer (before ++ id ∷ after) → place_of (before ++ id ∷ after) id ≡ suc (length before)
place-at [] after id differ = cond-true (same_id id id) 1 (suc (place_of after id)) (same_id-self id)
place-at (x ∷ before) after id differ = elim (cases_Bool (same_id x id)) [
  | inl same ↦ absurd (differ.0 (subst (Contains (before ++ id ∷ after)) (sym (same_id-is x id same)) (contains-at before id after)))
  | inr apart ↦ cond-false (same_id x id) 1 (suc (place_of (before ++ id ∷ after) id)) apart ∙ ap suc (place-at before after id differ.1)
]

pub place-some : (order : List ActionId) (id : ActionId) → 1 ≤ place_of order id
place-some [] id = omega arith
place-some (x ∷ order) id = at (same_id x id) where
  at : (b : Bool) → 1 ≤ (if b then 1 else suc (place_of order id))
  at true = omega arith
  at false = omega arith

-- two names that have one place within the order are one
pub same-place : (order : List ActionId) (x y : ActionId) → place_of order x ≡ place_of order y → place_of order x ≤ length order → x ≡ y
same-place [] x y same within = absurd (omega arith)
same-place (z ∷ order) x y same within = at (same_id z x) refl (same_id z y) refl same within (same-place order x y) where
  at : (a : Bool) → same_id z x ≡ a → (b : Bool) → same_id z y ≡ b → (if a then 1 else suc (place_of order x)) ≡ (if b then 1 else suc (place_of order y))
      → (if a then 1 else suc (place_of order x)) ≤ suc (length order) → (place_of order x ≡ place_of order y → place_of order x ≤ length order → x ≡ y) → x ≡ y
  at true one true two same within rest = sym (same_id-is z x one) ∙ same_id-is z y two
  at true one false two same within rest = absurd (let some = place-some order y in omega arith)
  at false one true two same within rest = absurd (let some = place-some order x in omega arith)
  at false one false two same within rest = rest (omega arith) (omega arith)

-- the replies stand in the order of their places
abbrev pub Sorted : ℕ → List Answered → Type 0
Sorted low [] = Unit {0}
Sorted low (a ∷ list) = (low ≤ a.place) × Sorted a.place list

module _ (V : List ActionId) (differ : AllDiffer V) where
  -- the reply's place is that of its action
  abbrev pub IsAt : Answered → Type 0
  IsAt a = (place_of V a.reply.id ≡ a.place) × (a.place ≤ length V)

  abbrev pub Fine : List Answered → Type 0
  Fine list = Each IsAt list × Sorted 0 list

  -- ---- one more

  put-at : (list : List Answered) (new : Answered) → Each IsAt list → IsAt new → Each IsAt (with_answered list new)
  put-at [] new each is = (is, tt)
  put-at (r ∷ list) new each is = at (nat_lt new.place r.place) (put-at list new each.1 is) where
    at : (b : Bool) → Each IsAt (with_answered list new) → Each IsAt (if b then new ∷ r ∷ list else r ∷ with_answered list new)
    at true rest = (is, each)
    at false rest = (each.0, rest)

  put-sorted : (low : ℕ) (list : List Answered) (new : Answered) → low ≤ new.place → Sorted low list → Sorted low (with_answered list new)
  put-sorted low [] new le is = (le, tt)
  put-sorted low (r ∷ list) new le is = at (nat_lt new.place r.place) refl (λ more. put-sorted r.place list new more is.1) where
    at : (b : Bool) → nat_lt new.place r.place ≡ b → (r.place ≤ new.place → Sorted r.place (with_answered list new)) → Sorted low (if b then new ∷ r ∷ list else r ∷ with_answered list new)
    at true e rest = (le, (let less : new.place < r.place = ltb-true new.place r.place e in omega arith, is.1))
    at false e rest = (
      is.0,
      rest (elim (cases_lt new.place r.place) [
        | inl lt ↦ absurd (let clash : true ≡ false = sym (lt-ltb new.place r.place lt) ∙ e in cc)
        | inr more ↦ more
      ]),
    )

  put-all : (new list : List Answered) → Each IsAt new → Fine list → Fine (fold with_answered list new)
  put-all [] list each fine = fine
  put-all (a ∷ new) list each fine = put-all new (with_answered list a) each.1 (put-at list a fine.0 each.0, put-sorted 0 list a (omega arith) fine.1)

  -- ---- the replies of one turn

  -- the names that a turn made green stand in the order behind so many
  pub record IsPlaced (t : Turn) : Type 0 where
    pub shown : List ActionId
    pub front : Front (shown ++ t.green) V
    pub count : green_count t.replica.held.queue ≡ length shown + length t.green

  answered-at : (shown green : List ActionId) (replies : List Reply) → Front (shown ++ green) V → Each IsAt (answered_from (length shown) green replies)
  answered-at shown [] replies front = tt
  answered-at shown (id ∷ ids) [] front = tt
  answered-at shown (id ∷ ids) (r ∷ replies) front =
      at (same_id id r.id) refl (λ rest. subst (λ n. Each IsAt (answered_from n ids rest)) longer
      (answered-at (shown ++ id ∷ []) ids rest (subst (λ (xs : List ActionId). Front xs V) (sym (append_assoc shown (id ∷ []) ids)) front))) where
        longer : length (shown ++ id ∷ []) ≡ suc (length shown)
        longer = length-append shown (id ∷ []) ∙ (let n = length shown in let one : n + 1 ≡ suc n = omega arith in one)

        placed : same_id id r.id ≡ true → (place_of V r.id ≡ suc (length shown)) × (suc (length shown) ≤ length V)
        placed same =
            let is : V ≡ shown ++ id ∷ (ids ++ drop (length (shown ++ id ∷ ids)) V) =
            split_by_Front (shown ++ id ∷ ids) V front ∙ append_assoc shown (id ∷ ids) (drop (length (shown ++ id ∷ ids)) V) in
            let more = ids ++ drop (length (shown ++ id ∷ ids)) V in
            let at_place : place_of (shown ++ id ∷ more) id ≡ suc (length shown) = place-at shown more id (subst AllDiffer is differ) in
            let count : length (shown ++ id ∷ ids) ≡ length shown + suc (length ids) = length-append shown (id ∷ ids) in
            let low = Front-length (shown ++ id ∷ ids) V front in
            (ap (λ v. place_of v r.id) is ∙ ap (place_of (shown ++ id ∷ more)) (sym (same_id-is id r.id same)) ∙ at_place, omega arith)

        at : (b : Bool) → same_id id r.id ≡ b → ((rest : List Reply) → Each IsAt (answered_from (suc (length shown)) ids rest)) →
            Each IsAt ((if b then (let a : Answered = record { place = suc (length shown); reply = r } in a) ∷ [] else []) ++ answered_from (suc (length shown)) ids (if b then replies else r ∷ replies))
        at true same rest = (placed same, rest replies)
        at false same rest = rest (r ∷ replies)

  -- ---- turns in an event

  abbrev pub EndPlaced : Turn → EventEnd → Type 0
  EndPlaced t (Runs r disk) = IsPlaced t
  EndPlaced t (Crashes disk green) = Unit {0}

  abbrev pub LifePlaced : Input → NodeState → Type 0
  LifePlaced input (Up r disk) = EndPlaced (replica_step r input) (end_event disk r.held (replica_step r input))
  LifePlaced input (Down disk green) = Unit {0}

  abbrev pub NodePlaced : Input → Option Node → Type 0
  NodePlaced input None = Unit {0}
  NodePlaced input (Some s) = LifePlaced input s.life

  pub hand-fine : (g : StepInProgress) (q : ℕ) (input : Input) → NodePlaced input (node_of g.world q) → Fine g.replies → Fine (hand g q input).replies
  unfolding hand
  hand-fine g q input placed fine = at (node_of g.world q) placed where
    ends : (t : Turn) (e : EventEnd) → EndPlaced t e → Fine (after_event g q t e).replies
    ends t (Runs r disk) is =
        let base : green_count t.replica.held.queue - length t.green ≡ length is.shown = (let count = is.count in omega arith) in
        put-all (answered_from (green_count t.replica.held.queue - length t.green) t.green t.replies) g.replies
        (subst (λ n. Each IsAt (answered_from n t.green t.replies)) (sym base) (answered-at is.shown t.green t.replies is.front)) fine
    ends t (Crashes disk green) is = fine

    life : (l : NodeState) → LifePlaced input l → Fine (hand_to g q input l).replies
    life (Up r disk) is = ends (replica_step r input) (end_event disk r.held (replica_step r input)) is
    life (Down disk green) is = fine

    at : (o : Option Node) → NodePlaced input o → Fine (option_map_or (λ s. hand_to g q input s.life) o g).replies
    at None is = fine
    at (Some s) is = life s.life is

  pub hands-fine : (w : World) (list : List (Handed Msg)) (g : StepInProgress) (low : ℕ) → IsRising low (map (λ h. h.to) list) → ((p : ℕ) → low ≤ p → node_of g.world p ≡ node_of w p) →
      Each (λ h. NodePlaced (Deliveries h.list) (node_of w h.to)) list → Fine g.replies → Fine (fold hand_over g list).replies
  hands-fine w [] g low rise still each fine = fine
  hands-fine w (h ∷ list) g low rise still each fine =
      hands-fine w list (hand_over g h) (suc h.to) rise.1 (λ p le. stays p le ∙ still p (let up = rise.0 in omega arith)) each.1
      (hand-fine g h.to (Deliveries h.list) (subst (NodePlaced (Deliveries h.list)) (sym (still h.to rise.0)) each.0) fine) where
        stays : (p : ℕ) → suc h.to ≤ p → node_of (hand_over g h).world p ≡ node_of g.world p
        stays p le = elim (hand-behind (λ q input. q ≡ h.to) g h.to (Deliveries h.list) refl p) [
          | inl same ↦ same
          | inr turn ↦ absurd (let same : p ≡ h.to = turn.of in omega arith)
        ]

-- ---- the replies of an event

each-split : (w : World) (set list : List ℕ) → Each (λ q. has set q ≡ true) list → Each (λ h. IsHanded w (Split set) h.to (Deliveries h.list)) (map (handed_in_split w.group set) list)
each-split w set [] each = tt
each-split w set (q ∷ list) each =
    let to = split-to w.group set q in
    ((ap (has set) to ∙ each.0, ap (λ n. Deliveries (handed_in_split w.group set n).list) (sym to)), each-split w set list each.1)

each-merge : (w : World) (set list : List ℕ) → Each (λ q. has set q ≡ true) list →
    Each (λ h. IsHanded w (Merge set) h.to (Deliveries h.list)) (map (λ (p : ℕ). (let h : Handed Msg = record { to = p; list = RegularIn (suc (length w.group.configurations)) set ∷ [] } in h)) list)
each-merge w set [] each = tt
each-merge w set (q ∷ list) each = ((each.0, refl), each-merge w set list each.1)

module _ (c : Chronicle) (w : World) (e : Event) (stands : StandsBeside c w) (may : MayStand w e) (admitted : first_refusal w e ≡ None)
    (behind : StandsBeside (chronicle_step c w e) (world_step w e).world) (differ : AllDiffer (happens w e).world.order) where
  abbrev pub V : List ActionId
  V = (happens w e).world.order

  abbrev d : Chronicle
  d = chronicle_step c w e

  -- who runs on has its greens in the order, and the names of its turn are the last of them
  turn-placed : (u : World) → u ≡ (happens w e).world → (p : ℕ) (input : Input) → IsHanded w e p input → EndsSo w u input p → NodePlaced V differ input (node_of w p)
  unfolding world_step ended
  turn-placed u is p input of ends = at (node_of w p) refl where
    runs-on : (r : Replica) (disk : Disk) → node_of w p ≡ Some (up_node p r disk) → (x : Replica) (after : Disk) → end_event disk r.held (replica_step r input) ≡ Runs x after → IsPlaced V differ (replica_step r input)
    runs-on r disk node x after end =
        let t = replica_step r input in
        let says = step-answered r input in
        let was : replica_of w p ≡ Some r = ap (λ (o : Option Node). option_and_then (λ s. running s.life) o) node in
        let here : replica_of c.world p ≡ Some r = sym (stands.same.running p) ∙ was in
        let there : has_begun c.world p ≡ true = begun (node_of c.world p) here in
        let through = event-runs c w stands p input e may admitted of (record { replica = r; disk = disk; node = node; new = x; new_disk = after; ends = end }) in
        let greens : greens_of d p ≡ greens_of c p ++ says.more =
        greens-through c w (smalls_in w e) p r t says.more stands.same (stands.facts.net.hosted.past p ∙ there) here says.greens through in
        let now : replica_of (happens w e).world p ≡ Some x =
        ap (λ (v : World). replica_of v p) (sym is) ∙ ap (λ (o : Option Node). option_and_then (λ s. running s.life) o) (ends r disk node) ∙ ap (λ z. running (life_at z)) end in
        let front : Front (names_of (greens_of d p)) V = subst (λ (o : Option Replica). IfSome o (λ r. Front (names_of (greens_of d p)) V)) now (behind.rests.order_book.up p) in
        let names_are : names_of (greens_of d p) ≡ names_of (greens_of c p) ++ t.green =
        ap names_of greens ∙ names-append (greens_of c p) says.more ∙ ap (λ ids. names_of (greens_of c p) ++ ids) (sym says.green) in
        let before : green_count r.held.queue ≡ length (greens_of c p) = memory-count c stands.facts p r here in
        let long : length (names_of (greens_of c p)) ≡ length (greens_of c p) = names-count (greens_of c p) in
        let new : length t.green ≡ length says.more = ap length says.green ∙ names-count says.more in
        let kept : length t.replica.held.queue.greens ≡ length r.held.queue.greens + length says.more = ap length says.greens ∙ length-append r.held.queue.greens says.more in
        let white = says.white in
        record { shown = names_of (greens_of c p); front = subst (λ (ids : List ActionId). Front ids V) names_are front; count = omega arith } where
          begun : (o : Option Node) → option_and_then (λ s. running s.life) o ≡ Some r → is_some o ≡ true
          begun None e = absurd (let clash : None ≡ Some r = e in cc)
          begun (Some s) e = refl

    by-end : (r : Replica) (disk : Disk) → node_of w p ≡ Some (up_node p r disk) → (z : EventEnd) → end_event disk r.held (replica_step r input) ≡ z → EndPlaced V differ (replica_step r input) z
    by-end r disk node (Runs x after) end = runs-on r disk node x after end
    by-end r disk node (Crashes after green) end = tt

    life : (s : Node) → node_of w p ≡ Some s → (l : NodeState) → s.life ≡ l → LifePlaced V differ input l
    life s found (Up r disk) same = by-end r disk (found ∙ (λ i. Some (record { id = node-id w p s found i; life = same i }))) (end_event disk r.held (replica_step r input)) refl
    life s found (Down disk green) same = tt

    at : (o : Option Node) → node_of w p ≡ o → NodePlaced V differ input o
    at None found = tt
    at (Some s) found = life s found s.life refl

  none-fine : Fine V differ []
  none-fine = (tt, tt)

  -- a request, and what is handed to one alone
  asked-fine : (v : World) (q : ℕ) (input : Input) → (hand (quietly v) q input).world ≡ (happens w e).world → ((p : ℕ) → node_of v p ≡ node_of w p) → IsHanded w e q input →
      Fine V differ (hand (quietly v) q input).replies
  asked-fine v q input is nodes of =
      let ends : EndsSo w (hand (quietly v) q input).world input q = alone-ends w (quietly v) q input (nodes q) in
      hand-fine V differ (quietly v) q input (subst (NodePlaced V differ input) (sym (nodes q)) (turn-placed (hand (quietly v) q input).world is q input of ends)) none-fine

  -- several, each once
  handed-fine : (g : GroupState Msg) (list : List (Handed Msg)) → (fold hand_over (quietly (record w { group = g })) list).world ≡ (happens w e).world → IsRising 1 (map (λ h. h.to) list) →
      Each (λ h. IsHanded w e h.to (Deliveries h.list)) list → Fine V differ (fold hand_over (quietly (record w { group = g })) list).replies
  handed-fine g list is rise each =
      let go = quietly (record w { group = g }) in
      hands-fine V differ w list go 1 rise (λ q le. refl) (all list each (handed-ends w list go 1 rise (λ q le. refl))) none-fine where
        all : (list2 : List (Handed Msg)) → Each (λ h. IsHanded w e h.to (Deliveries h.list)) list2 →
            Each (λ h. EndsSo w (fold hand_over (quietly (record w { group = g })) list).world (Deliveries h.list) h.to) list2 →
            Each (λ h. NodePlaced V differ (Deliveries h.list) (node_of w h.to)) list2
        all [] of ends = tt
        all (h ∷ more) of ends =
            (turn-placed (fold hand_over (quietly (record w { group = g })) list).world is h.to (Deliveries h.list) of.0 ends.0, all more of.1 ends.1)

recovered-none : (w : World) (p : ℕ) → (recover w p).replies ≡ []
recovered-none w p = at (node_of w p) where
  life : (l : NodeState) → (recover_from w l).replies ≡ []
  life (Up r disk) = refl
  life (Down disk green) = ap (λ new. fold with_answered [] new) (answered_from-none _ green)

  at : (o : Option Node) → (option_map_or (λ s. recover_from w s.life) o (quietly w)).replies ≡ []
  at None = refl
  at (Some s) = life s.life

transferred-none : (w : World) (p joiner pieces : ℕ) → (transfer w p joiner pieces).replies ≡ []
transferred-none w p joiner pieces = at (replica_of w p) where
  at : (o : Option Replica) → (option_map_or (λ r. take_pieces w (snapshot_for w p joiner r) pieces) o (quietly w)).replies ≡ []
  at None = refl
  at (Some r) = refl

-- each reply of an admitted event is so
pub replies-fine : (c : Chronicle) (w : World) (e : Event) → StandsBeside c w → MayStand w e → first_refusal w e ≡ None →
    StandsBeside (chronicle_step c w e) (world_step w e).world → (differ : AllDiffer (happens w e).world.order) → Fine (happens w e).world.order differ (happens w e).replies
unfolding happens split merge deliver
replies-fine c w (Start set) stands may admitted behind differ = (tt, tt)
replies-fine c w (Split set) stands may admitted behind differ =
    handed-fine c w (Split set) stands may admitted behind differ (split w.group set).group (map (handed_in_split w.group set) set) refl
    (handed-ids (handed_in_split w.group set) (split-to w.group set) set 1 (rising-set-list 1 set may.1.ascends)) (each-split w set set (Each-has set))
replies-fine c w (Merge set) stands may admitted behind differ =
    let f : ℕ → Handed Msg = λ p. record { to = p; list = RegularIn (suc (length w.group.configurations)) set ∷ [] } in
    handed-fine c w (Merge set) stands may admitted behind differ (merge w.group set).group (map f set) refl (handed-ids f (λ p. refl) set 1 (rising-set-list 1 set may.1.ascends)) (each-merge w set set (Each-has set))
replies-fine c w (Request q cmds query) stands may admitted behind differ = asked-fine c w (Request q cmds query) stands may admitted behind differ w q (AsksOf (Update cmds query)) refl (λ p. refl) (refl, refl)
replies-fine c w (Weak q query) stands may admitted behind differ = (tt, tt)
replies-fine c w (Dirty q query) stands may admitted behind differ = (tt, tt)
replies-fine c w (Order q) stands may admitted behind differ = (tt, tt)
replies-fine c w (Recover q) stands may admitted behind differ = subst (Fine (happens w (Recover q)).world.order differ) (sym (recovered-none w q)) (tt, tt)
replies-fine c w (RecoverStopped q call fill) stands may admitted behind differ =
    let none = recover_under-cases w q (record { call = call; fault = StopWith fill }) (λ go. go.replies ≡ []) (λ v is. refl) (recovered-none w q) in
    subst (Fine (happens w (RecoverStopped q call fill)).world.order differ) (sym none) (tt, tt)
replies-fine c w (Downgrade q) stands may admitted behind differ = (tt, tt)
replies-fine c w (Show q) stands may admitted behind differ = (tt, tt)
replies-fine c w ShowOrder stands may admitted behind differ = (tt, tt)
replies-fine c w Gather stands may admitted behind differ = (tt, tt)
replies-fine c w End stands may admitted behind differ = (tt, tt)
replies-fine c w (Receive q place) stands may admitted behind differ = (tt, tt)
replies-fine c w (Deliver q count) stands may admitted behind differ =
    let g = w.group in
    let from = delivered_to g q in
    let list = deliveries_at (home g q) (above_up_to from (from + count)) in
    asked-fine c w (Deliver q count) stands may admitted behind differ (record w { group = (deliver g q count).group }) q (Deliveries list) refl (λ p. refl) (refl, refl)
replies-fine c w (Rounds count) stands may admitted behind differ = (tt, tt)
replies-fine c w (Stop q call fill) stands may admitted behind differ = (tt, tt)
replies-fine c w (Fail q call) stands may admitted behind differ = (tt, tt)
replies-fine c w (Join q joiner weight) stands may admitted behind differ = asked-fine c w (Join q joiner weight) stands may admitted behind differ (name_also w joiner) q (AsksOf (JoinKind joiner weight)) refl (λ p. refl) (refl, refl)
replies-fine c w (Leave q server) stands may admitted behind differ = asked-fine c w (Leave q server) stands may admitted behind differ w q (AsksOf (LeaveKind server)) refl (λ p. refl) (refl, refl)
replies-fine c w (Transfer q joiner pieces) stands may admitted behind differ = subst (Fine (happens w (Transfer q joiner pieces)).world.order differ) (sym (transferred-none w q joiner pieces)) (tt, tt)
