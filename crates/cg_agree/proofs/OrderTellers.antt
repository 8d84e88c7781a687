-- What was told counts no more greens than stand in the printed order, behind each event: only a merge lets replicas tell something, and
-- nothing becomes green in it.
use Rattle.cg_states.specs.ReplicaStep.{Input, Deliveries, replica_step}
use Rattle.cg_disk_records.specs.Crash.{Disk, EventEnd, Runs, Crashes as EndsInCrash, end_event, StopWith}
use Rattle.cg_action.specs.declared.action.Kind.TheVariants.{Update, Join as JoinKind, Leave as LeaveKind}
use Rattle.cg_schedule.specs.declared.event.Event.{Event}
use Rattle.cg_schedule.specs.declared.event.Event.TheVariants.{Start, Split, Merge, Request, Weak, Dirty, Order, Recover, RecoverStopped, Downgrade, Show, ShowOrder, Gather, End, Receive, Deliver, Rounds, Stop, Fail, Join, Leave, Transfer}
use Rattle.cg_group.specs.declared.delivery.Delivery.TheVariants.{Regular as RegularIn}
use Rattle.cg_model.specs.FactsBooks.{OrderFits}
use Rattle.cg_model.specs.Small.{Small, Starts, Makes, Enters, Orders, Receives, Hands, Leaves, Asks, Settles, Commits, Crashes, Recovers, Copies, Joins, small_step, newest_conf}
use Rattle.cg_model.specs.World.{NodeState, Up, Down, Node, World, running, node_of, replica_of}
use Rattle.cg_model.specs.Played.{IsSame, KeptBySmalls, MayBeMade, StandsBeside}
use Rattle.cg_base.specs.Lists.{Each}
use Rattle.cg_base.specs.EachLaws.{Each-append, Each-all, Each-weaker}
use Rattle.std.proofs.Common.{◌≡◌, ◌++◌, ◌∷◌, ◌≤◌, ◌∙◌, ◌⊎◌, ◌&&◌, ◌-◌, if◌then◌else◌, IfSome, List, None, Option, Some, ap, append-nil, arith, eqb-true, false, flat_map, inl, inr, is_some, length, option_and_then, option_map, refl, replicate, subst, suc, sym, true, zero, ℕ, []}
use Rattle.std.proofs.lemmas.Bool.{and_parts, cases_Bool, cond-false, cond_both}
use Rattle.std.specs.Option.{option_map_or}
use Rattle.std.specs.Prelude.{◌==◌}
use Rattle.cg_agree_lemmas.specs.DiskEnds.{end-shown}
use Rattle.cg_agree_lemmas.specs.EventTurns.{is-up}
use Rattle.cg_agree_lemmas.specs.FrontFacts.{Front-length}
use Rattle.cg_agree_lemmas.specs.GreensTold.{entry-none}
use Rattle.cg_agree.proofs.MadeOfSmalls.{gather-quiet, transfer-quiet}
use Rattle.cg_agree.proofs.OrderBehind.{IsKept, NodeStateOrder, NodeOrder}
use Rattle.cg_agree.proofs.PastKept.{enters-now, entry_told, told_in-enters}
use Rattle.cg_agree_lemmas.specs.RestFacts.{IsQuiet}
use Rattle.cg_agree_lemmas.specs.ToldKept.{IsUntold, told-same, told_in-same}
use Rattle.cg_agree_lemmas.specs.TurnWorlds.{life_at}
use Rattle.cg_agree_lemmas.specs.WorldTurns.{IsBehind}
use Rattle.cg_model.specs.Attempts.{held_in}
use Rattle.cg_model.specs.Chronicle.{Chronicle, Told}
use Rattle.cg_model.specs.Facts.{Invariant}
use Rattle.cg_model.specs.FactsExchange.{IsOutdone, IsSummary}
use Rattle.cg_model.specs.Fronts.{Front}
use Rattle.cg_model.specs.Looks.{core_of, disk_held, greens_of, on_disk, stood_of, told_in}
use Rattle.cg_model.specs.Noting.{played}
use Rattle.cg_model.specs.Smalls.{copy_steps, ending, ending_as, gather_steps, join_steps, leaving_steps, may_make, smalls_in}
use Rattle.cg_model.specs.Turns.{Taken, stands, taken, taken_as, turns_in, turns_of}
use Rattle.cg_model.specs.Step.{stays_down}
use Rattle.cg_model.specs.NodeLaws.{at_node_both}
use Rattle.cg_base.specs.declared.action_id.ActionId.{ActionId}
use Rattle.cg_base.specs.FindLaws.{found_passes}
use Rattle.cg_client.specs.Replica.{Held}
use Rattle.cg_client.specs.Turn.{Turn}
use Rattle.cg_group.specs.Events.{furthest, merge, transitional_places}
use Rattle.cg_group.specs.State.{delivered_to, home}
use Rattle.cg_group.specs.declared.delivery.Handed.{Handed}
use Rattle.cg_queue.specs.Queue.{names_of}
use Rattle.cg_disk_records.specs.Commit.{commits}
use Rattle.cg_wire.specs.declared.message.Msg.{Msg}
use Rattle.cg_queue.specs.NameLaws.{names-count}

-- ---- events in which nothing is told

untold-all : (smalls : List Small) (c : Chronicle) → Each IsUntold smalls → (played c smalls).told ≡ c.told
untold-all [] c each = refl
untold-all (s ∷ smalls) c each = untold-all smalls (small_step c s) each.1 ∙ told-same c s each.0

quiet-untold : (s : Small) → IsQuiet s → IsUntold s
quiet-untold (Enters p) is = absurd is
quiet-untold (Crashes p) is = tt
quiet-untold (Starts set) is = tt
quiet-untold (Makes set) is = tt
quiet-untold (Orders p) is = tt
quiet-untold (Receives p place) is = tt
quiet-untold (Hands p) is = tt
quiet-untold (Leaves p set own places) is = tt
quiet-untold (Asks p kind) is = tt
quiet-untold (Settles p) is = tt
quiet-untold (Commits p) is = tt
quiet-untold (Recovers p) is = tt
quiet-untold (Copies p joiner) is = tt
quiet-untold (Joins joiner) is = tt

-- what holds of the steps of turns, and of their ends
module _ (P : Small → Type 0) (block : ℕ → List Small) where
  each-ending : (k : Taken) (e : EventEnd) → P (Commits k.id) → P (Crashes k.id) → Each P (block k.id) → Each P (ending_as k (block k.id) e)
  each-ending k (Runs r disk) commit crash each =
      Each-append P (block k.id) (if commits k.before.held k.turn then Commits k.id ∷ [] else []) each
      (cond_both (commits k.before.held k.turn) (Commits k.id ∷ []) [] (Each P) (λ y. (commit, tt)) (λ n. tt))
  each-ending k (EndsInCrash disk green) commit crash each =
      cond_both (stands k) (block k.id ++ Commits k.id ∷ Crashes k.id ∷ []) (Crashes k.id ∷ []) (Each P)
      (λ y. Each-append P (block k.id) (Commits k.id ∷ Crashes k.id ∷ []) each (commit, (crash, tt))) (λ n. (crash, tt))

  each-turn : (turns : List Taken) → Each (λ k. P (Commits k.id) × P (Crashes k.id) × Each P (block k.id)) turns → Each P (flat_map (ending block) turns)
  each-turn [] each = tt
  each-turn (k ∷ turns) each =
      Each-append P (ending_as k (block k.id) k.ended) (flat_map (ending block) turns) (each-ending k k.ended each.0.0 each.0.1 each.0.2) (each-turn turns each.1)

untold-turns : (block : ℕ → List Small) → ((q : ℕ) → Each IsUntold (block q)) → (turns : List Taken) → Each IsUntold (flat_map (ending block) turns)
untold-turns block each turns = each-turn IsUntold block turns (Each-all (λ (k : Taken). IsUntold (Commits k.id) × IsUntold (Crashes k.id) × Each IsUntold (block k.id)) (λ k. (tt, tt, each k.id)) turns)

repeats : (s : Small) → IsUntold s → (n : ℕ) → Each IsUntold (replicate n s)
repeats s is zero = tt
repeats s is (suc n) = (is, repeats s is n)

abbrev pub IsNoMerge : Event → Type 0
IsNoMerge (Merge set) = ⊥
IsNoMerge _ = Unit {0}

pub untold-smalls : (w : World) (e : Event) → IsNoMerge e → Each IsUntold (smalls_in w e)
unfolding smalls_in
untold-smalls w (Start set) is = (tt, tt)
untold-smalls w (Merge set) is = absurd is
untold-smalls w (Split set) is =
    untold-turns (leaving_steps w.group set) (λ q. Each-append IsUntold (replicate (furthest w.group set - delivered_to w.group q) (Hands q))
    (Leaves q set (delivered_to w.group q) (transitional_places (home w.group q) set (furthest w.group set)) ∷ Settles q ∷ [])
    (repeats (Hands q) tt (furthest w.group set - delivered_to w.group q)) (tt, (tt, tt))) (turns_of w (Split set))
untold-smalls w (Deliver p count) is =
    untold-turns (λ q. replicate count (Hands q) ++ Settles q ∷ []) (λ q. Each-append IsUntold (replicate count (Hands q)) (Settles q ∷ []) (repeats (Hands q) tt count) (tt, tt)) (turns_of w (Deliver p count))
untold-smalls w (Order p) is = (tt, tt)
untold-smalls w (Receive p place) is = (tt, tt)
untold-smalls w Gather is = Each-weaker IsQuiet IsUntold quiet-untold (gather_steps w.group) (gather-quiet w.group)
untold-smalls w (Request p cmds query) is = untold-turns (λ q. Asks q (Update cmds query) ∷ []) (λ q. (tt, tt)) (turns_of w (Request p cmds query))
untold-smalls w (Join p joiner weight) is = untold-turns (λ q. Asks q (JoinKind joiner weight) ∷ []) (λ q. (tt, tt)) (turns_of w (Join p joiner weight))
untold-smalls w (Leave p server) is = untold-turns (λ q. Asks q (LeaveKind server) ∷ []) (λ q. (tt, tt)) (turns_of w (Leave p server))
untold-smalls w (Stop p call fill) is = cond_both (call == 0) (Crashes p ∷ []) [] (Each IsUntold) (λ y. (tt, tt)) (λ n. tt)
untold-smalls w (Recover p) is = (tt, tt)
untold-smalls w (RecoverStopped p call fill) is = at_node_both (λ (life : NodeState). []) (Recovers p ∷ []) (Each IsUntold) (λ life. tt) (tt, tt) w p (stays_down (record { call = call; fault = StopWith fill }))
untold-smalls w (Downgrade p) is = tt
untold-smalls w (Transfer p joiner pieces) is = Each-weaker IsQuiet IsUntold quiet-untold (copy_steps w p joiner ++ join_steps w p joiner pieces) (transfer-quiet w p joiner pieces)
untold-smalls w (Weak p query) is = tt
untold-smalls w (Dirty p query) is = tt
untold-smalls w (Show p) is = tt
untold-smalls w ShowOrder is = tt
untold-smalls w End is = tt
untold-smalls w (Rounds count) is = tt
untold-smalls w (Fail p call) is = tt

-- ---- a merge

abbrev pub IsEntryOf : ℕ → Small → Type 0
IsEntryOf p (Enters q) = q ≡ p
IsEntryOf p _ = ⊥

-- who has told something new has entered
told-one : (c : Chronicle) (s : Small) → Invariant c → may_make c s ≡ true → (conf p : ℕ) (t : Told) → told_in (small_step c s) conf p ≡ Some t → (told_in c conf p ≡ Some t) ⊎ IsEntryOf p s
told-one c (Enters q) i may conf p t e =
    let now = enters-now c q i.net.phase_sound (i.replica.mode_data q) may in
    let new = newest_conf c.world.group in
    elim (cases_Bool ((conf == new) && (p == q))) [
      | inl is ↦ inr (sym (eqb-true p q (and_parts (conf == new) (p == q) is).1))
      | inr isnt ↦ inl (sym (told_in-enters c q now conf p ∙ cond-false ((conf == new) && (p == q)) (Some (entry_told c q now.replica)) (told_in c conf p) isnt) ∙ e)
    ]
told-one c (Starts set) i may conf p t e = inl (sym (told_in-same c (small_step c (Starts set)) (told-same c (Starts set) tt) conf p) ∙ e)
told-one c (Makes set) i may conf p t e = inl (sym (told_in-same c (small_step c (Makes set)) (told-same c (Makes set) tt) conf p) ∙ e)
told-one c (Orders q) i may conf p t e = inl (sym (told_in-same c (small_step c (Orders q)) (told-same c (Orders q) tt) conf p) ∙ e)
told-one c (Receives q place) i may conf p t e = inl (sym (told_in-same c (small_step c (Receives q place)) (told-same c (Receives q place) tt) conf p) ∙ e)
told-one c (Hands q) i may conf p t e = inl (sym (told_in-same c (small_step c (Hands q)) (told-same c (Hands q) tt) conf p) ∙ e)
told-one c (Leaves q set own places) i may conf p t e = inl (sym (told_in-same c (small_step c (Leaves q set own places)) (told-same c (Leaves q set own places) tt) conf p) ∙ e)
told-one c (Asks q kind) i may conf p t e = inl (sym (told_in-same c (small_step c (Asks q kind)) (told-same c (Asks q kind) tt) conf p) ∙ e)
told-one c (Settles q) i may conf p t e = inl (sym (told_in-same c (small_step c (Settles q)) (told-same c (Settles q) tt) conf p) ∙ e)
told-one c (Commits q) i may conf p t e = inl (sym (told_in-same c (small_step c (Commits q)) (told-same c (Commits q) tt) conf p) ∙ e)
told-one c (Crashes q) i may conf p t e = inl (sym (told_in-same c (small_step c (Crashes q)) (told-same c (Crashes q) tt) conf p) ∙ e)
told-one c (Recovers q) i may conf p t e = inl (sym (told_in-same c (small_step c (Recovers q)) (told-same c (Recovers q) tt) conf p) ∙ e)
told-one c (Copies q joiner) i may conf p t e = inl (sym (told_in-same c (small_step c (Copies q joiner)) (told-same c (Copies q joiner) tt) conf p) ∙ e)
told-one c (Joins joiner) i may conf p t e = inl (sym (told_in-same c (small_step c (Joins joiner)) (told-same c (Joins joiner) tt) conf p) ∙ e)

told-along : KeptBySmalls → (smalls : List Small) (c : Chronicle) → Invariant c → MayBeMade c smalls → (conf p : ℕ) (t : Told) (P : Type 0) → Each (λ s. IsEntryOf p s → P) smalls →
    told_in (played c smalls) conf p ≡ Some t → (told_in c conf p ≡ Some t) ⊎ P
told-along kept [] c i may conf p t P each e = inl e
told-along kept (s ∷ smalls) c i may conf p t P each e = elim (told-along kept smalls (small_step c s) (kept c s i may.0 may.1).0 may.2 conf p t P each.1 e) [
  | inr is ↦ inr is
  | inl was ↦ elim (told-one c s i may.0 conf p t was) [
    | inl before ↦ inl before
    | inr entry ↦ inr (each.0 entry)
  ]
]

-- who takes a turn is up
taken-up : (w : World) (q : ℕ) (input : Input) → Each (λ k. is_some (replica_of w k.id) ≡ true) (taken w q input)
taken-up w q input = at (node_of w q) refl where
  life : (l : NodeState) → is_some (replica_of w q) ≡ is_some (running l) → Each (λ k. is_some (replica_of w k.id) ≡ true) (taken_as q input l)
  life (Up r disk) e = (e, tt)
  life (Down disk green) e = tt

  at : (o : Option Node) → node_of w q ≡ o → Each (λ k. is_some (replica_of w k.id) ≡ true) (option_map_or (λ s. taken_as q input s.life) o [])
  at None e = tt
  at (Some s) e = life s.life (ap (λ (o : Option Node). is_some (option_and_then (λ s. running s.life) o)) e)

takers-up : (w : World) (list : List (Handed Msg)) → Each (λ k. is_some (replica_of w k.id) ≡ true) (flat_map (λ h. taken w h.to (Deliveries h.list)) list)
takers-up w [] = tt
takers-up w (h ∷ list) =
    Each-append (λ (k : Taken). is_some (replica_of w k.id) ≡ true) (taken w h.to (Deliveries h.list)) (flat_map (λ h. taken w h.to (Deliveries h.list)) list) (taken-up w h.to (Deliveries h.list)) (takers-up w list)

pub entries-up : (w : World) (set : List ℕ) (p : ℕ) → Each (λ s. IsEntryOf p s → is_some (replica_of w p) ≡ true) (smalls_in w (Merge set))
unfolding smalls_in turns_of
entries-up w set p =
    let P : Small → Type 0 = λ s. IsEntryOf p s → is_some (replica_of w p) ≡ true in
    let block : ℕ → List Small = λ q. Enters q ∷ Settles q ∷ [] in
    let turns = turns_in w (merge w.group set) in (
      λ is. absurd is,
      each-turn P block turns (Each-weaker (λ k. is_some (replica_of w k.id) ≡ true) (λ k. P (Commits k.id) × P (Crashes k.id) × Each P (block k.id))
          (λ k up. (λ is. absurd is, λ is. absurd is, (λ is. ap (λ n. is_some (replica_of w n)) (sym is) ∙ up, (λ is. absurd is, tt)))) turns (takers-up w (merge w.group set).handed)),
    )

-- a replica that is struck in a turn in which nothing becomes green has nothing to show
abbrev EndsNone : EventEnd → Type 0
EndsNone (Runs r disk) = Unit {0}
EndsNone (EndsInCrash disk green) = green ≡ []

ends-none : (disk : Disk) (old : Held) (t : Turn) → t.green ≡ [] → EndsNone (end_event disk old t)
ends-none disk old t none = end-shown disk old t EndsNone (λ quiet d is. tt) (λ does d is. tt) (λ stays d is. none) (λ gone d is. refl)

record HasCore (d : Chronicle) (p : ℕ) : Type 0 where
  pub held : Held
  pub is : core_of d p ≡ Some held

core-in : (d : Chronicle) (p : ℕ) (o : Option Node) → node_of d.world p ≡ o → is_some (option_map (λ s. on_disk s.life) o) ≡ true → HasCore d p
core-in d p None e some = absurd (let clash : false ≡ true = some in cc)
core-in d p (Some s) e some = record { held = held_in s.life; is = ap (option_map (λ (s : Node). held_in s.life)) e }

module _ (kept : KeptBySmalls) (c : Chronicle) (w : World) (stands : StandsBeside c w) (order : OrderFits c w) (smalls : List Small) (may : MayBeMade c smalls)
    (j : Invariant (played c smalls)) (u : World) (same : IsSame u (played c smalls).world) (rest_on : (q : ℕ) → greens_of (played c smalls) q ≡ stood_of (played c smalls) q)
    (new : List ActionId) (is : IsKept kept c w stands order smalls may j u same rest_on new) where
  abbrev pub ToldWithin : Type 0
  ToldWithin = (conf p : ℕ) → IfSome (told_in (played c smalls) conf p) (λ t. t.summary.green_count ≤ length new)

  told-before : (conf p : ℕ) (t : Told) → told_in c conf p ≡ Some t → t.summary.green_count ≤ length new
  told-before conf p t e =
      let low : t.summary.green_count ≤ length w.order = subst (λ (o : Option Told). IfSome o (λ t. t.summary.green_count ≤ length w.order)) e (order.book.told conf p) in
      let more : length w.order ≤ length new = Front-length w.order new is.on in
      omega arith

  -- nothing is told
  pub told-stays : Each IsUntold smalls → ToldWithin
  told-stays each conf p = at (told_in (played c smalls) conf p) refl where
    at : (o : Option Told) → told_in (played c smalls) conf p ≡ o → IfSome o (λ t. t.summary.green_count ≤ length new)
    at None e = tt
    at (Some t) e = told-before conf p t (sym (told_in-same c (played c smalls) (untold-all smalls c each) conf p) ∙ e)

  -- or they come into a configuration
  module _ (conf : ℕ) (set : List ℕ) (behind : (p : ℕ) → IsBehind (λ q x. x ≡ Deliveries (RegularIn conf set ∷ [])) w u p) where
    short : (p : ℕ) → is_some (replica_of w p) ≡ true → length (greens_of (played c smalls) p) ≤ length new
    short p up = elim (behind p) [
      | inl stays ↦
          let here = is-up w p up in
          let front : Front (names_of (greens_of (played c smalls) p)) new = subst (NodeOrder new (names_of (greens_of (played c smalls) p))) (stays ∙ here.node) (is.nodes p) in
          fronted p front
      | inr turn ↦
          let t = replica_step turn.replica turn.input in
          let none : t.green ≡ [] = ap (λ (x : Input). (replica_step turn.replica x).green) turn.of ∙ entry-none turn.replica conf set in
          of-end p (end_event turn.disk turn.replica.held t) (ends-none turn.disk turn.replica.held t none) (subst (NodeOrder new (names_of (greens_of (played c smalls) p))) turn.behind (is.nodes p))
    ]
      where
        fronted : (p : ℕ) → Front (names_of (greens_of (played c smalls) p)) new → length (greens_of (played c smalls) p) ≤ length new
        fronted p front =
            let le = Front-length (names_of (greens_of (played c smalls) p)) new front in
            let count : length (names_of (greens_of (played c smalls) p)) ≡ length (greens_of (played c smalls) p) = names-count (greens_of (played c smalls) p) in
            omega arith

        of-end : (p : ℕ) (e : EventEnd) → EndsNone e → NodeStateOrder new (names_of (greens_of (played c smalls) p)) (life_at e) → length (greens_of (played c smalls) p) ≤ length new
        of-end p (Runs r disk) none front = fronted p front
        of-end p (EndsInCrash disk green) none show =
            let all : names_of (greens_of (played c smalls) p) ≡ show.shown = show.all ∙ ap (λ xs. show.shown ++ xs) none ∙ append-nil show.shown in
            fronted p (subst (λ (xs : List ActionId). Front xs new) (sym all) show.there)

    has-core : (p : ℕ) → is_some (replica_of w p) ≡ true → HasCore (played c smalls) p
    has-core p up = core-in (played c smalls) p (node_of (played c smalls).world p) refl (ap is_some (sym (same.disk p)) ∙ begun (behind p)) where
      begun : IsBehind (λ q x. x ≡ Deliveries (RegularIn conf set ∷ [])) w u p → is_some (disk_held u p) ≡ true
      begun is = elim is [
        | inl stays ↦ ap (λ (o : Option Node). is_some (option_map (λ s. on_disk s.life) o)) (stays ∙ (is-up w p up).node)
        | inr turn ↦ ap (λ (o : Option Node). is_some (option_map (λ s. on_disk s.life) o)) turn.behind
      ]

    -- who was up has told no more than it has
    entered-within : (at p : ℕ) (t : Told) → told_in (played c smalls) at p ≡ Some t → is_some (replica_of w p) ≡ true → t.summary.green_count ≤ length new
    entered-within at p t e up =
        let d = played c smalls in
        let fits : IsSummary d t = subst (λ (o : Option Told). IfSome o (IsSummary d)) e (j.exchange.summary_of_sender.fits at p) in
        let who : t.summary.id ≡ p = eqb-true t.summary.id p (and_parts (t.summary.conf == at) (t.summary.id == p) (found_passes (λ (t : Told). (t.summary.conf == at) && (t.summary.id == p)) d.told t e)).1 in
        let outdone : IfSome (core_of d p) (IsOutdone d t) = subst (λ (o : Option Told). IfSome o (λ t. IfSome (core_of d p) (IsOutdone d t))) e (j.exchange.summary_of_sender.outdone at p) in
        let some = has-core p up in
        let front : Front t.greens (greens_of d t.summary.id) = (subst (λ (o : Option Held). IfSome o (IsOutdone d t)) some.is outdone).greens in
        let le : length t.greens ≤ length (greens_of d p) = Front-length t.greens (greens_of d p) (subst (λ (q : ℕ). Front t.greens (greens_of d q)) who front) in
        let low = short p up in
        let count = fits.count in
        omega arith

    pub told-merged : ((p : ℕ) → Each (λ s. IsEntryOf p s → is_some (replica_of w p) ≡ true) smalls) → ToldWithin
    told-merged entries at p = each (told_in (played c smalls) at p) refl where
      each : (o : Option Told) → told_in (played c smalls) at p ≡ o → IfSome o (λ t. t.summary.green_count ≤ length new)
      each None e = tt
      each (Some t) e = elim (told-along kept smalls c stands.facts may at p t (is_some (replica_of w p) ≡ true) (entries p) e) [
        | inl was ↦ told-before at p t was
        | inr up ↦ entered-within at p t e up
      ]
