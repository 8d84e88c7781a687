-- What members hold in exchanges, behind each small step.
use Rattle.std.proofs.Common.{◌≡◌, ℕ, suc, true, false, not, List, [], ◌∷◌, ◌++◌, Option, Some, None, IfSome, refl, sym, ap, ap₂, ◌∙◌, subst, ⊎_elim, if◌then◌else◌}
use Rattle.std.proofs.lemmas.Bool.{cases_Bool, cond_both, and_parts, cond-true}
use Rattle.cg_base.specs.Sets.{has, is_within}
use Rattle.cg_base.specs.Choice.{Either}
use Rattle.cg_action.specs.declared.action.Action.{Action}
use Rattle.cg_knowledge.specs.declared.summary.Summary.{Summary}
use Rattle.cg_knowledge.specs.Summaries.{senders, gone}
use Rattle.cg_knowledge.specs.Verdict.{decides}
use Rattle.cg_plan.specs.declared.parts.Part.{Part}
use Rattle.cg_plan.specs.declared.parts.Item.{Item}
use Rattle.cg_plan.specs.declared.parts.Item.TheVariants.{Green, Red}
use Rattle.cg_plan.specs.Plan.{plan_of}
use Rattle.cg_plan.specs.Progress.{is_done, is_wanted, next_item, turn_of}
use Rattle.cg_wire.specs.declared.message.Msg.{Msg}
use Rattle.cg_wire.specs.declared.message.Msg.TheVariants.{Action as ActionMsg, State as StateMsg, GreenItem, RedItem, Cpc}
use Rattle.cg_client.specs.Replica.{State, RegPrim, ExchangeStates, ExchangeActions, Construct, NonPrim, Left, Replica}
use Rattle.cg_client.specs.Turn.{Turn, begin, go_to, with_held}
use Rattle.cg_client.specs.Requests.{empty_buffer}
use Rattle.cg_states.specs.ExchangeStates.{is_usable, with_heard}
use Rattle.cg_states.specs.ExchangeActions.{progress, take_item, send_part, go_on}
use Rattle.cg_states.specs.PlanEnd.{take_over, attempt, decide, end_plan}
use Rattle.cg_states.specs.ReplicaStep.{on_message}
use Rattle.cg_model.specs.FactsReplica.{is_exchanging}
use Rattle.cg_model.specs.World.{replica_of}
use Rattle.cg_model.specs.Chronicle.{Told, Chronicle}
use Rattle.cg_model.specs.Fronts.{IsSomeWith}
use Rattle.cg_model.specs.Looks.{greens_of, told_in, members_in, is_regular_in}
use Rattle.cg_model.specs.Talk.{Talk, hears_from, is_full, is_through, is_announced, is_due, state_behind, state_in}
use Rattle.cg_model.specs.FactsTalk.{AreTold, handed_talk}
use Rattle.cg_model.specs.FactsExchange.{IsUnmoved, IsGoingOn, IsInExchange, ExchangeProgress}
use Rattle.cg_model.specs.Facts.{Invariant}
use Rattle.cg_model.specs.Small.{Small, Starts, Makes, Enters, Orders, Receives, Hands, Leaves, Asks, Settles, Commits, Crashes, Recovers, Copies, Joins, newly_green, take_next, handed_next, small_step}
use Rattle.cg_model.specs.Smalls.{may_make}
use Rattle.cg_agree.proofs.AnswersOwn.{due-green, due-red, still}
use Rattle.cg_agree_lemmas.specs.CoresKept.{greens-turn}
use Rattle.cg_agree.proofs.ExchangeBehind.{message-now, up-now, greens-same, told-now, handed-now, at-conf, behind-kept}
use Rattle.cg_agree_lemmas.specs.ExchangeHands.{HasBuilt, HoldsThen, best-same, going-there}
use Rattle.cg_agree.proofs.ExchangeItems.{first-item, next-item, ends-first, ends-item}
use Rattle.cg_agree.proofs.ExchangeSmalls.{HandsProgress, exchange_progress-where}
use Rattle.cg_agree_lemmas.specs.ExchangeStill.{ProgressAt}
use Rattle.cg_agree.proofs.ExchangeThere.{heard_before, heard_behind, in_exchange, in-states, in-actions, best, near, best-is, behind-green, behind-red}
use Rattle.cg_agree_lemmas.specs.HandsNow.{HandsNow, hands-now, new, behind, behind-next, running-now}
use Rattle.cg_agree_lemmas.specs.PlanProgress.{IsBehind}
use Rattle.cg_agree.proofs.PlanThere.{done-all}
use Rattle.cg_agree_lemmas.specs.RecordKept.{turn-is}
use Rattle.cg_agree_lemmas.specs.TurnValues.{even-take_item}

-- ---- the greens that are kept

-- the end of a plan makes nothing green
kept-end : (t : Turn) (conf : ℕ) (heard : List Summary) → (end_plan t conf heard).replica.held.queue.greens ≡ t.replica.held.queue.greens
unfolding end_plan take_over decide attempt
kept-end t conf heard =
    let over = with_held t (take_over t.replica.held heard) in
    cond_both (has (gone heard) t.replica.held.id) (go_to (empty_buffer t) Left) (decide over conf heard) (λ u. u.replica.held.queue.greens ≡ t.replica.held.queue.greens) (λ y. refl)
    (λ no. cond_both (decides heard) (attempt over conf heard) (go_to over (NonPrim true)) (λ u. u.replica.held.queue.greens ≡ t.replica.held.queue.greens) (λ y. refl) (λ no. refl))

-- nor does a part that is sent
kept-part : (t : Turn) (o : Option Part) → (send_part t o).replica.held.queue.greens ≡ t.replica.held.queue.greens
unfolding send_part
kept-part t None = refl
kept-part t (Some part) = refl

-- nor does going on
kept-go_on : (t : Turn) (conf : ℕ) (heard : List Summary) (k : ℕ) → (go_on t conf heard k).replica.held.queue.greens ≡ t.replica.held.queue.greens
unfolding go_on
kept-go_on t conf heard k =
    let sent = send_part (go_to t (ExchangeActions conf heard k)) (turn_of (plan_of heard) t.replica.held.id k) in
    let same : sent.replica.held.queue.greens ≡ t.replica.held.queue.greens = kept-part (go_to t (ExchangeActions conf heard k)) (turn_of (plan_of heard) t.replica.held.id k) in
    cond_both (is_done (progress heard k)) (end_plan sent conf heard) sent (λ u. u.replica.held.queue.greens ≡ t.replica.held.queue.greens) (λ y. kept-end sent conf heard ∙ same) (λ no. same)

module _ (c : Chronicle) (p : ℕ) (i : Invariant c) (may : may_make c (Hands p) ≡ true) (n : HandsNow c p) where
  abbrev d : Chronicle
  d = small_step c (Hands p)

  abbrev conf : ℕ
  conf = n.conf

  abbrev r : Replica
  r = n.replica

  abbrev members : List ℕ
  members = members_in c conf

  abbrev before : Talk
  before = handed_talk c conf p

  abbrev runs : replica_of c.world p ≡ Some r
  runs = running-now c p i n

  abbrev mine : Told
  mine = (in_exchange c p i conf r n.next n.regular runs n.found).mine

  abbrev from : ℕ
  from = n.next.from

  found : told_in c conf p ≡ Some mine
  found = (in_exchange c p i conf r n.next n.regular runs n.found).found

  name : r.held.id ≡ p
  name = n.data_of.id

  -- what is to be shown of what its message makes of it
  abbrev Then : List Action → Turn → Type 0
  Then all u = HoldsThen d conf mine all u

  -- what it is then, and what it holds
  abbrev Now : Replica → Type 0
  Now x = IsInExchange d conf mine x.held (greens_of d p) x.state × HasBuilt d conf x.held (greens_of d p) x.state

  abbrev turn : Msg → State → Turn
  turn m st = on_message st from m (begin r)

  -- what the message makes of it, where its state and the message are these
  turn-now : (st : State) (m : Msg) → r.state ≡ st → n.next.message ≡ m → new c p i n ≡ (turn m st).replica
  turn-now st m at is = message-now c p i may n ∙ ap₂ (λ (x : State) y. (on_message x from y (begin r)).replica) at is

  -- its greens behind the step
  greens-now : greens_of d p ≡ greens_of c p ++ newly_green r (new c p i n)
  unfolding small_step
  greens-now =
      ap (λ (x : Chronicle). greens_of x p) (turn-is (handed_next c p) p (take_next c.world.group p) r n.disk n.node)
      ∙ greens-turn (handed_next c p) p r n.disk (take_next c.world.group p (begin r)) i.net.hosted.past n.node

  greens-kept : (st : State) (m : Msg) → r.state ≡ st → n.next.message ≡ m → (turn m st).replica.held.queue.greens ≡ r.held.queue.greens → greens_of d p ≡ greens_of c p
  greens-kept st m at is same = greens-same c p i may n (ap (λ (x : Replica). x.held.queue.greens) (turn-now st m at is) ∙ same)

  -- it is shown where it is shown of what the message makes of it
  from-turn : (st : State) (m : Msg) → r.state ≡ st → n.next.message ≡ m → Then (greens_of d p) (turn m st) → Now (new c p i n)
  from-turn st m at is held = subst Now (sym (turn-now st m at is)) held

  -- the summaries that are heard with the message
  heard-now : (m : Msg) → n.next.message ≡ m → (handed_talk d conf p).heard ≡ (hears_from before from m).heard
  heard-now m is = ap (λ (t : Talk). t.heard) (handed-now c p i may n ∙ behind-next c p i n ∙ ap (hears_from before from) is)

  -- ---- among the summaries

  kept-summary : (x : Summary) → (turn (StateMsg x) (ExchangeStates conf members before.heard)).replica.held.queue.greens ≡ r.held.queue.greens
  unfolding on_message
  kept-summary x =
      let more = before.heard ++ x ∷ [] in
      cond_both (is_usable conf before.heard from x) (with_heard (begin r) conf members more) (begin r) (λ u. u.replica.held.queue.greens ≡ r.held.queue.greens)
      (λ y. cond_both (is_within members (senders more)) (go_on (begin r) conf more 0) (go_to (begin r) (ExchangeStates conf members more)) (λ u. u.replica.held.queue.greens ≡ r.held.queue.greens)
      (λ z. kept-go_on (begin r) conf more 0) (λ no. refl)) (λ no. refl)

  -- a summary
  heard-held : (x : Summary) → n.next.message ≡ StateMsg x → r.state ≡ ExchangeStates conf members before.heard → IsUnmoved mine r.held (greens_of c p) →
      Then (greens_of c p) (turn (StateMsg x) (ExchangeStates conf members before.heard))
  unfolding on_message
  heard-held x is at old =
      let more = before.heard ++ x ∷ [] in
      let are : AreTold c conf more = subst (λ m. AreTold c conf (hears_from before from m).heard) is (heard_behind c p i conf r n.next n.regular runs n.found) in
      cond_both (is_usable conf before.heard from x) (with_heard (begin r) conf members more) (begin r) (Then (greens_of c p))
      (λ y. cond_both (is_within members (senders more)) (go_on (begin r) conf more 0) (go_to (begin r) (ExchangeStates conf members more)) (Then (greens_of c p))
      (λ full.
      let b = best c p i conf r n.next n.regular runs n.found more are full in
      going-there c d conf p mine (told-now c p i may n) more (heard-now (StateMsg x) is) (greens_of c p) (begin r) conf 0 b.best name
      (best-is c p i conf r n.next n.regular runs n.found more b) (first-item c p i conf r n.next n.regular runs n.found more are full old)
      (λ done here. ends-first c p i conf r n.next n.regular runs n.found more are full (ap (has (gone more)) (sym name) ∙ here) old (done-all more 0 done)))
      (λ few. (old, tt)))
      (λ no. subst (λ (st : State). IsInExchange d conf mine r.held (greens_of c p) st × HasBuilt d conf r.held (greens_of c p) st) (sym at) (old, tt))

  in-summaries : is_full members before ≡ false → (m : Msg) → n.next.message ≡ m → Now (new c p i n)
  unfolding on_message
  in-summaries few m is = at m is where
    state : r.state ≡ ExchangeStates conf members before.heard
    state = in-states c p i conf r n.next n.regular runs n.found few

    old : IsUnmoved mine r.held (greens_of c p)
    old = still c p i conf r n.next n.regular runs n.found few

    quiet : (m : Msg) → n.next.message ≡ m → turn m (ExchangeStates conf members before.heard) ≡ begin r → Now (new c p i n)
    quiet m is same =
        from-turn (ExchangeStates conf members before.heard) m state is
        (subst (Then (greens_of d p)) (sym same)
        (subst (λ (st : State). IsInExchange d conf mine r.held (greens_of d p) st × HasBuilt d conf r.held (greens_of d p) st) (sym state)
        (subst (IsUnmoved mine r.held) (sym (greens-kept (ExchangeStates conf members before.heard) m state is (ap (λ (u : Turn). u.replica.held.queue.greens) same))) old, tt)))

    at : (m : Msg) → n.next.message ≡ m → Now (new c p i n)
    at (StateMsg x) is =
        from-turn (ExchangeStates conf members before.heard) (StateMsg x) state is
        (subst (λ all. Then all (turn (StateMsg x) (ExchangeStates conf members before.heard)))
        (sym (greens-kept (ExchangeStates conf members before.heard) (StateMsg x) state is (kept-summary x))) (heard-held x is state old))
    at (ActionMsg a) is = quiet (ActionMsg a) is refl
    at (GreenItem place a) is = quiet (GreenItem place a) is refl
    at (RedItem a) is = quiet (RedItem a) is refl
    at (Cpc k cf) is = quiet (Cpc k cf) is refl

  -- ---- among the items

  abbrev going : State
  going = ExchangeActions conf before.heard before.accepted

  -- an item
  item-now : (m : Msg) → n.next.message ≡ m → (full : is_full members before ≡ true) → is_through before ≡ false → turn m going ≡ go_on (take_item (begin r) before.heard m) conf before.heard (suc before.accepted) →
      (hears_from before from m).heard ≡ before.heard →
      ((here : has (gone before.heard) p ≡ false) →
      IsBehind c.start before.heard (near c p i conf r n.next n.regular runs n.found before.heard (heard_before c p i conf r n.next n.regular runs n.found) full here).0 (suc before.accepted)
      (best c p i conf r n.next n.regular runs n.found before.heard (heard_before c p i conf r n.next n.regular runs n.found) full).best mine (take_item (begin r) before.heard m).replica.held) →
      Now (new c p i n)
  item-now m is full yet goes heard behind =
      let taken = take_item (begin r) before.heard m in
      let b = best c p i conf r n.next n.regular runs n.found before.heard (heard_before c p i conf r n.next n.regular runs n.found) full in
      let state : r.state ≡ going = in-actions c p i conf r n.next n.regular runs n.found full yet in
      let now = (new c p i n).held.queue.greens in
      let same : now ≡ taken.replica.held.queue.greens =
      ap (λ (x : Replica). x.held.queue.greens) (turn-now going m state is ∙ ap (λ (u : Turn). u.replica) goes) ∙ kept-go_on taken conf before.heard (suc before.accepted) in
      let id : taken.replica.held.id ≡ p = (even-take_item (begin r) before.heard m).values.id ∙ name in
      from-turn going m state is
      (subst (Then (greens_of d p)) (sym goes)
      (going-there c d conf p mine (told-now c p i may n) before.heard (heard-now m is ∙ heard) (greens_of d p) taken conf (suc before.accepted) b.best id
      (best-is c p i conf r n.next n.regular runs n.found before.heard b)
      (next-item c p i conf r n.next n.regular runs n.found m now (greens_of d p) full yet behind same (λ none. greens-same c p i may n none) greens-now)
      (λ done here. (let stays : has (gone before.heard) p ≡ false = ap (has (gone before.heard)) (sym id) ∙ here in
      ends-item c p i conf r n.next n.regular runs n.found m now (greens_of d p) full yet stays (behind stays) same greens-now (done-all before.heard (suc before.accepted) done)))))

  in-items : (full : is_full members before ≡ true) → is_through before ≡ false → (m : Msg) → n.next.message ≡ m → Now (new c p i n)
  unfolding on_message
  in-items full yet m is = at m is where
    state : r.state ≡ going
    state = in-actions c p i conf r n.next n.regular runs n.found full yet

    old : IsInExchange c conf mine r.held (greens_of c p) going
    old = subst (IsInExchange c conf mine r.held (greens_of c p)) state (in_exchange c p i conf r n.next n.regular runs n.found).holds

    quiet : (m : Msg) → n.next.message ≡ m → turn m going ≡ begin r → Now (new c p i n)
    quiet m is same =
        from-turn going m state is
        (subst (Then (greens_of d p)) (sym same)
        (subst (λ (st : State). IsInExchange d conf mine r.held (greens_of d p) st × HasBuilt d conf r.held (greens_of d p) st) (sym state) (
          subst (λ all. IsInExchange d conf mine r.held all going) (sym (greens-kept going m state is (ap (λ (u : Turn). u.replica.held.queue.greens) same)))
              (subst (λ (o : Option Told). Either (has (gone before.heard) r.held.id) (IsUnmoved mine r.held (greens_of c p)) (IsSomeWith o (λ best. IsGoingOn before.heard before.accepted best mine r.held (greens_of c p))))
              (sym (best-same c d conf before.heard (told-now c p i may n))) old),
          tt,
        )))

    wanted : (item : Item) → is_due members before from item ≡ true → is_wanted (next_item (progress before.heard before.accepted)) from item ≡ true
    wanted item due = (and_parts (is_full members before) (is_wanted (next_item (progress before.heard before.accepted)) from item) due).1

    at : (m : Msg) → n.next.message ≡ m → Now (new c p i n)
    at (GreenItem place a) is =
        let due = due-green c p i conf r n.next n.regular runs n.found place a is in
        item-now (GreenItem place a) is full yet
        (cond-true (is_wanted (next_item (progress before.heard before.accepted)) from (Green place)) (go_on (take_item (begin r) before.heard (GreenItem place a)) conf before.heard (suc before.accepted)) (begin r) (wanted (Green place) due))
        refl (λ here. behind-green c p i conf r n.next n.regular runs n.found place a is due full here)
    at (RedItem a) is =
        let due = due-red c p i conf r n.next n.regular runs n.found a is in
        item-now (RedItem a) is full yet
        (cond-true (is_wanted (next_item (progress before.heard before.accepted)) from (Red a.id)) (go_on (take_item (begin r) before.heard (RedItem a)) conf before.heard (suc before.accepted)) (begin r) (wanted (Red a.id) due))
        refl (λ here. behind-red c p i conf r n.next n.regular runs n.found a is due full here)
    at (ActionMsg a) is = quiet (ActionMsg a) is refl
    at (StateMsg x) is = quiet (StateMsg x) is refl
    at (Cpc k cf) is = quiet (Cpc k cf) is refl

  -- ---- whatever its state

  pub out-there : is_exchanging (state_behind conf before p) ≡ false
  out-there =
      cond_both (has (gone before.heard) p) Left (if not (decides before.heard) then NonPrim true else if is_announced before then RegPrim else Construct conf before.announced) (λ (st : State). is_exchanging st ≡ false) (λ y. refl)
      (λ n. cond_both (not (decides before.heard)) (NonPrim true) (if is_announced before then RegPrim else Construct conf before.announced) (λ (st : State). is_exchanging st ≡ false) (λ y. refl)
      (λ n. cond_both (is_announced before) RegPrim (Construct conf before.announced) (λ (st : State). is_exchanging st ≡ false) (λ y. refl) (λ n. refl)))

  opened : is_full members before ≡ true → is_through before ≡ true → state_in members conf before p ≡ state_behind conf before p
  opened full through = rw (full, through) refl

  pub through-state : is_full members before ≡ true → is_through before ≡ true → r.state ≡ state_behind conf before p
  through-state full through = n.state ∙ opened full through

  -- behind a message of an exchange
  pub exchanged : is_exchanging r.state ≡ true → Now (new c p i n)
  exchanged is = ⊎_elim
      (λ (full : is_full members before ≡ true). ⊎_elim
      (λ (through : is_through before ≡ true). absurd (let clash : true ≡ false = sym is ∙ ap is_exchanging (through-state full through) ∙ out-there in cc))
      (λ (yet : is_through before ≡ false). in-items full yet n.next.message refl)
      (cases_Bool (is_through before)))
      (λ (few : is_full members before ≡ false). in-summaries few n.next.message refl)
      (cases_Bool (is_full members before))

  progress-there : Now (new c p i n) → ProgressAt d conf p
  progress-there held =
      subst (λ (o : Option Replica). IfSome o (λ x. IsSomeWith (told_in d conf p) (λ t. IsInExchange d conf t x.held (greens_of d p) x.state))) (sym (up-now c p i may n))
      (subst (λ (o : Option Told). IsSomeWith o (λ t. IsInExchange d conf t (new c p i n).held (greens_of d p) (new c p i n).state)) (sym (told-now c p i may n conf p ∙ found)) held.0)

  own-progress : (k : ℕ) → is_regular_in c k p ≡ true → ProgressAt d k p
  own-progress k here = ⊎_elim
      (λ is. at-conf c p i may n (progress-there (exchanged is)) k here)
      (λ out. behind-kept c p i may n out k here)
      (cases_Bool (is_exchanging r.state))

-- the member to whom a place is handed keeps it
pub hands-progress : (c : Chronicle) (s : Small) → Invariant c → may_make c s ≡ true → HandsProgress c s
hands-progress c (Hands p) i may = own-progress c p i may (hands-now c p i may)
hands-progress c (Starts set) i may = tt
hands-progress c (Makes set) i may = tt
hands-progress c (Enters p) i may = tt
hands-progress c (Orders p) i may = tt
hands-progress c (Receives p place) i may = tt
hands-progress c (Leaves p set own places) i may = tt
hands-progress c (Asks p kind) i may = tt
hands-progress c (Settles p) i may = tt
hands-progress c (Commits p) i may = tt
hands-progress c (Crashes p) i may = tt
hands-progress c (Recovers p) i may = tt
hands-progress c (Copies p joiner) i may = tt
hands-progress c (Joins joiner) i may = tt

-- Each small step keeps what members hold in exchanges.
pub exchange_progress-kept : (c : Chronicle) (s : Small) → Invariant c → may_make c s ≡ true → ExchangeProgress (small_step c s)
exchange_progress-kept c s i may = exchange_progress-where c s i may (hands-progress c s i may)
