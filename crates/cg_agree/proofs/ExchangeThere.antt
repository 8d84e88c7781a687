-- A member in an exchange, to whom a place is handed: what it holds behind the last summary and behind each item.
use Rattle.std.proofs.Common.{◌≡◌, ℕ, suc, ◌+◌, ◌-◌, ◌≤◌, Bool, true, false, cond, not, List, [], ◌∷◌, length, min, max, take, drop, fold, Option, Some, None, IfSome, refl, sym, ap, subst, ◌∙◌, arith, eq-eqb, eqb-true, option_map, option_and_then, if◌then◌else◌}
use Rattle.std.specs.Prelude.{◌==◌, slice_get, nat_le}
use Rattle.std.specs.Option.{option_map_or}
use Rattle.std.proofs.lemmas.Bool.{cond-true, cond-false, cond_both, and_parts}
use Rattle.cg_base.specs.Cuts.{index_in}
use Rattle.cg_base.specs.Sets.{has, is_within}
use Rattle.cg_base.specs.Choice.{Either}
use Rattle.cg_action.specs.declared.action.Action.{Action}
use Rattle.cg_queue.specs.Queue.{names_of, Marks, Gaps, placed_red, marked_red}
use Rattle.cg_queue.specs.declared.mark.Mark.TheVariants.{Placed, Known}
use Rattle.cg_knowledge.specs.declared.summary.Summary.{Summary}
use Rattle.cg_knowledge.specs.Summaries.{senders, gone, remaining, leads, leader, most_updated}
use Rattle.cg_plan.specs.declared.parts.Item.{Item}
use Rattle.cg_plan.specs.declared.parts.Item.TheVariants.{Green, Red}
use Rattle.cg_plan.specs.declared.parts.SentItem.{SentItem as PlanSent}
use Rattle.cg_plan.specs.Items.{items_of_plan}
use Rattle.cg_plan.specs.contracts.parts.ItemPartialEq.TheImpl.{ghosts as same_item}
use Rattle.cg_plan.specs.Plan.{least_greens, plan_of}
use Rattle.cg_plan.specs.Progress.{next_item, is_wanted}
use Rattle.cg_plan.specs.PlanLaws.{same_item-is}
use Rattle.cg_wire.specs.declared.message.Msg.{Msg}
use Rattle.cg_wire.specs.declared.message.Msg.TheVariants.{Action as ActionMsg, State as StateMsg, GreenItem, RedItem, Cpc}
use Rattle.cg_group.specs.declared.phase.Phase.{Phase}
use Rattle.cg_group.specs.declared.phase.Phase.TheVariants.{Regular}
use Rattle.cg_group.specs.State.{Sent, phase_of, delivered_to}
use Rattle.cg_client.specs.Replica.{Held, ExchangeStates, ExchangeActions, Replica}
use Rattle.cg_client.specs.Turn.{Turn, begin}
use Rattle.cg_client.specs.Marks.{is_unmade, marked, mark_red, can_be_green, place_green, mark_green}
use Rattle.cg_states.specs.ExchangeActions.{progress, mark_item, take_item}
use Rattle.cg_model.specs.World.{Node, NodeState, Up, Down, node_of, replica_of, running}
use Rattle.cg_model.specs.Attempts.{held_in}
use Rattle.cg_model.specs.Chronicle.{Told, Chronicle}
use Rattle.cg_model.specs.Looks.{greens_of, told_in, core_of, is_regular_at, is_regular_in, members_in, ordered_in}
use Rattle.cg_model.specs.Talk.{Talk, no_talk, talk_of, hears_from, is_full, is_through, is_due, may_say, state_behind, state_in, action_in}
use Rattle.cg_model.specs.Fronts.{Front, IsSomeWith}
use Rattle.cg_model.specs.Facts.{Invariant}
use Rattle.cg_model.specs.FactsNet.{IsPhase}
use Rattle.cg_model.specs.FactsReplica.{IsMadeOf, IsModeData, IsCore, IsLined}
use Rattle.cg_model.specs.FactsExchange.{IsUnmoved, IsGoingOn, IsInExchange, greens_behind, best_told}
use Rattle.cg_model.specs.FactsTalk.{AreTold, handed_talk, IsStateIn, IsContent}
use Rattle.cg_disk_records.specs.Holds.{cut_behind}
use Rattle.cg_agree.proofs.EndReached.{best-bounds}
use Rattle.cg_agree_lemmas.specs.FrontFacts.{Front-take, Front-map, take-Front, split_by_Front}
use Rattle.cg_agree_lemmas.specs.HandNext.{take-next, talk-append, legal-at}
use Rattle.cg_agree_lemmas.specs.HandSays.{remains-unless_gone}
use Rattle.cg_agree_lemmas.specs.HeldMarks.{IsOneself}
use Rattle.cg_agree_lemmas.specs.Knowledge.{some-sender}
use Rattle.cg_agree_lemmas.specs.MessageThere.{message-made, message-content}
use Rattle.cg_agree.proofs.PartsOwn.{white-held, HoldsAll}
use Rattle.cg_agree_lemmas.specs.PlanItems.{plan-sender}
use Rattle.cg_agree_lemmas.specs.PlanProgress.{AreBeside, IsBehind, greens_there, length-taken, taken-all, item-green, item-red}
use Rattle.cg_disk_records.specs.CutRaiseLaws.{rising-behind, behind-rises}
use Rattle.cg_agree_lemmas.specs.TalkEarly.{all-member, due_parts}
use Rattle.cg_agree.proofs.ToldBeside.{told-fits, told-front, told-so_far, IsBest, best-of_heard, mine-of, beside}
use Rattle.cg_disk_records.specs.RunLaws.{cut_behind-append}

-- ---- marks discard nothing

-- a red mark discards nothing
white-red : (t : Turn) (a : Action) → (mark_red t a).replica.held.queue.white ≡ t.replica.held.queue.white
unfolding mark_red
white-red t a =
    let q = t.replica.held.queue in
    let cut = index_in q.red_cut a.id.creator in
    cond_both (is_unmade t.replica.held a) t (marked t a (marked_red q a)) (λ u. u.replica.held.queue.white ≡ q.white) (λ y. refl)
    (λ n. cond_both (nat_le a.id.index cut) (Marks Known q) (cond (a.id.index == suc cut) (Marks Placed (placed_red q a)) (Gaps cut)) (λ m. (marked t a m).replica.held.queue.white ≡ q.white) (λ y. refl)
    (λ z. cond_both (a.id.index == suc cut) (Marks Placed (placed_red q a)) (Gaps cut) (λ m. (marked t a m).replica.held.queue.white ≡ q.white) (λ y. refl) (λ w. refl)))

-- a green mark discards nothing
white-green : (t : Turn) (a : Action) → (mark_green t a).replica.held.queue.white ≡ t.replica.held.queue.white
unfolding mark_green place_green
white-green t a = cond_both (can_be_green t.replica.held a) (place_green t a) t (λ u. u.replica.held.queue.white ≡ t.replica.held.queue.white) (λ y. refl) (λ n. refl)

-- an item that is taken discards nothing
pub white-item : (t : Turn) (heard : List Summary) (m : Msg) → (take_item t heard m).replica.held.queue.white ≡ t.replica.held.queue.white
white-item t heard m = cond_both (has (gone heard) t.replica.held.id) t (mark_item t m) (λ u. u.replica.held.queue.white ≡ t.replica.held.queue.white) (λ y. refl) (λ n. at m) where
  at : (m : Msg) → (mark_item t m).replica.held.queue.white ≡ t.replica.held.queue.white
  at (GreenItem place a) = cond_both (place == suc (t.replica.held.queue.white + length t.replica.held.queue.greens)) (mark_green t a) t (λ u. u.replica.held.queue.white ≡ t.replica.held.queue.white) (λ y. white-green t a) (λ n. refl)
  at (RedItem a) = white-red t a
  at (ActionMsg a) = refl
  at (StateMsg x) = refl
  at (Cpc k conf) = refl

-- ---- fronts

-- a front of greens has no higher cut
pub front-cut : (xs ys : List Action) (creator : ℕ) → Front xs ys → index_in (cut_behind [] (names_of xs)) creator ≤ index_in (cut_behind [] (names_of ys)) creator
front-cut xs ys creator front =
    let ids = names_of xs in
    let all = names_of ys in
    let split = split_by_Front ids all (Front-map (λ (a : Action). a.id) xs ys front) in
    let rises = behind-rises (cut_behind [] ids) (drop (length ids) all) creator (rising-behind [] ids tt) in
    let same = ap (λ cut. index_in cut creator) (ap (cut_behind []) split ∙ cut_behind-append [] ids (drop (length ids) all)) in
    omega arith

-- where one has told, there is a most updated member
most-some : (heard : List Summary) (s : Summary) → (b : Summary) × (fold leader (Some s) heard ≡ Some b)
most-some [] s = (s, refl)
most-some (x ∷ heard) s = cond_both (leads x s) (Some x) (Some s) (λ o. (b : Summary) × (fold leader o heard ≡ Some b)) (λ y. most-some heard x) (λ n. most-some heard s)

-- where there is a sender, there is a most updated member
best-there : (heard : List Summary) (p : ℕ) → has (senders heard) p ≡ true → (b : Summary) × (most_updated heard ≡ Some b)
unfolding most_updated
best-there [] p sent = absurd (some-sender [] p sent refl)
best-there (s ∷ heard) p sent = most-some heard s

-- ---- the item that is due

pub record IsNextItem (heard : List Summary) (n from : ℕ) (item : Item) : Type 0 where
  pub sent : PlanSent
  pub here : slice_get (items_of_plan (plan_of heard)) n ≡ Some sent
  pub kind : sent.item ≡ item
  pub sender : sent.sender ≡ from

-- an item that is due is the plan's next
pub next-due : (heard : List Summary) (n from : ℕ) (item : Item) → is_wanted (next_item (progress heard n)) from item ≡ true → IsNextItem heard n from item
unfolding next_item
next-due heard n from item wanted = at (slice_get (items_of_plan (plan_of heard)) n) refl wanted where
  at : (o : Option PlanSent) → slice_get (items_of_plan (plan_of heard)) n ≡ o → is_wanted o from item ≡ true → IsNextItem heard n from item
  at None e w = absurd (let clash : false ≡ true = w in cc)
  at (Some x) e w =
      let parts = and_parts (x.sender == from) (same_item.eq x.item item) w in
      record { sent = x; here = e; kind = same_item-is x.item item parts.1; sender = eqb-true x.sender from parts.0 }

-- ---- the member

module _ (c : Chronicle) (p : ℕ) (i : Invariant c) (conf : ℕ) (r : Replica) (s : Sent Msg) (regular : phase_of c.world.group p ≡ Regular conf) (runs : replica_of c.world p ≡ Some r)
    (next : slice_get (ordered_in c conf) (delivered_to c.world.group p) ≡ Some s) where
  -- the members
  abbrev pub set : List ℕ
  set = members_in c conf

  -- so many places were handed to it
  abbrev pub n : ℕ
  n = delivered_to c.world.group p

  -- what was handed to it before
  abbrev pub talk_before : Talk
  talk_before = handed_talk c conf p

  -- and with the message
  abbrev pub talk_behind : Talk
  talk_behind = hears_from talk_before s.from s.message

  -- the message may be said behind what was handed
  pub may : may_say set conf talk_before s.from s.message ≡ true
  may = legal-at set conf no_talk (ordered_in c conf) n s (i.talk.talk_legal.ordered conf) next

  -- it is one of the members
  pub member : has set p ≡ true
  member = (subst (IsPhase c p n) regular (i.net.phase_sound.phase p)).0

  -- it has its name
  pub id : r.held.id ≡ p
  id = (subst (λ (o : Option Replica). IfSome o (IsModeData c p)) runs (i.replica.mode_data p)).id

  -- its state is that to which what was handed leads
  pub state : r.state ≡ state_in set conf talk_before p
  state = subst (λ (x : Phase). IsStateIn c p x r) regular (subst (λ (o : Option Replica). IfSome o (IsStateIn c p (phase_of c.world.group p))) runs (i.talk.mode_fits p))

  -- its core is sound
  pub core : IsCore c r.held (greens_of c p)
  core = subst (λ (o : Option Replica). IfSome o (λ r. IsCore c r.held (greens_of c p))) runs (i.replica.cores.memory p)

  -- so are its facts by itself
  pub oneself : IsOneself c.start r.held (greens_of c p)
  oneself = record { made_of = core.made_of; contiguous = core.contiguous; yellow_closed = core.yellow_closed }

  -- its lines are below its greens
  lined : IsLined c r.held (greens_of c p)
  lined = subst (λ (o : Option Replica). IfSome o (λ r. IsLined c r.held (greens_of c p))) runs (i.replica.lines_below.cores.memory p)

  -- it is up
  pub up : core_of c p ≡ Some r.held
  up = at (node_of c.world p) refl where
    life : (l : NodeState) → running l ≡ Some r → held_in l ≡ r.held
    life (Up x disk) e = ap (λ (o : Option Replica). option_map_or (λ y. y.held) o r.held) e
    life (Down disk green) e = absurd (let clash : None ≡ Some r = e in cc)

    at : (o : Option Node) → node_of c.world p ≡ o → core_of c p ≡ Some r.held
    at None e = absurd (let clash : None ≡ Some r = sym (ap (λ (o : Option Node). option_and_then (λ s. running s.life) o) e) ∙ runs in cc)
    at (Some x) e =
        ap (λ (o : Option Node). option_map (λ s. held_in s.life) o) e
        ∙ ap Some (life x.life (sym (ap (λ (o : Option Node). option_and_then (λ s. running s.life) o) e) ∙ runs))

  -- what it told, and what it still holds of it
  pub record InExchange : Type 0 where
    pub mine : Told
    pub found : told_in c conf p ≡ Some mine
    pub holds : IsInExchange c conf mine r.held (greens_of c p) r.state

  -- it has told something and still holds it as the exchange says
  pub in_exchange : InExchange
  in_exchange =
      let is : is_regular_in c conf p ≡ true = ap (is_regular_at conf) regular ∙ eq-eqb conf conf refl in
      at (told_in c conf p) refl (subst (λ (o : Option Replica). IfSome o (λ r. IsSomeWith (told_in c conf p) (λ t. IsInExchange c conf t r.held (greens_of c p) r.state))) runs (i.exchange.exchange_progress conf p is)) where
        at : (o : Option Told) → told_in c conf p ≡ o → IsSomeWith o (λ t. IsInExchange c conf t r.held (greens_of c p) r.state) → InExchange
        at None e is = absurd is
        at (Some t) e is = record { mine = t; found = e; holds = is }

  -- its state by cases
  opened : (full through : Bool) → is_full set talk_before ≡ full → is_through talk_before ≡ through →
      state_in set conf talk_before p ≡ (if not full then ExchangeStates conf set talk_before.heard else if not through then ExchangeActions conf talk_before.heard talk_before.accepted else state_behind conf talk_before p)
  opened full through a b = rw (a, b) refl

  -- before all have told it waits for summaries
  pub in-states : is_full set talk_before ≡ false → r.state ≡ ExchangeStates conf set talk_before.heard
  in-states few = state ∙ opened false (is_through talk_before) few refl

  -- before the end of the plan it waits for items
  pub in-actions : is_full set talk_before ≡ true → is_through talk_before ≡ false → r.state ≡ ExchangeActions conf talk_before.heard talk_before.accepted
  in-actions full yet = state ∙ opened true false full yet

  -- what was heard before was told
  pub heard_before : AreTold c conf talk_before.heard
  heard_before = told-so_far c i conf n

  -- so was what is heard with the message
  pub heard_behind : AreTold c conf talk_behind.heard
  heard_behind = subst (λ (t : Talk). AreTold c conf t.heard) (ap talk_of (take-next (ordered_in c conf) n s next) ∙ talk-append no_talk (take n (ordered_in c conf)) (s ∷ [])) (told-so_far c i conf (suc n))

  -- the most updated member, where all have told
  pub full-sent : (heard : List Summary) → is_within set (senders heard) ≡ true → has (senders heard) p ≡ true
  full-sent heard full = all-member (has (senders heard)) set p member full

  -- the most updated member of those that were heard
  pub best : (heard : List Summary) → AreTold c conf heard → is_within set (senders heard) ≡ true → IsBest c i conf heard
  best heard are full = let b = best-there heard p (full-sent heard full) in best-of_heard c i conf heard b.0 are b.1

  -- who hasn't left remains
  pub stays : (heard : List Summary) → is_within set (senders heard) ≡ true → has (gone heard) p ≡ false → has (remaining heard) p ≡ true
  stays heard full here = remains-unless_gone heard p (full-sent heard full) ∙ ap not here

  -- the most updated member and the member, where it remains
  pub near : (heard : List Summary) (are : AreTold c conf heard) (full : is_within set (senders heard) ≡ true) → has (gone heard) p ≡ false →
      (low : ℕ) × AreBeside heard low (best heard are full).best in_exchange.mine
  near heard are full here = beside c i conf p in_exchange.mine heard (best heard are full) are in_exchange.found (full-sent heard full) (stays heard full here)

  -- ---- behind the last summary

  -- a member that has changed nothing is at the first item
  pub unmoved-behind : (heard : List Summary) (are : AreTold c conf heard) (full : is_within set (senders heard) ≡ true) (here : has (gone heard) p ≡ false) →
      IsUnmoved in_exchange.mine r.held (greens_of c p) → IsBehind c.start heard (near heard are full here).0 0 (best heard are full).best in_exchange.mine r.held
  unmoved-behind heard are full here still =
      let mine = in_exchange.mine in
      let b = best heard are full in
      let low = (near heard are full here).0 in
      let beside = (near heard are full here).1 in
      let fits = told-fits c i conf p mine in_exchange.found in
      let above = beside.above in
      let count = fits.count in
      let front = told-front c i conf p b.best.summary.id mine b.best in_exchange.found b.found beside.below in
      let same : length mine.greens ≡ greens_there low 0 b.best mine = omega arith in
      let greens : greens_of c p ≡ take (greens_there low 0 b.best mine) b.best.greens = still.greens ∙ take-Front mine.greens b.best.greens front ∙ ap (λ k. take k b.best.greens) same in
      record {
        oneself = subst (IsOneself c.start r.held) greens oneself;
        red = λ creator. (
            let cut : index_in r.held.queue.red_cut creator ≡ index_in mine.summary.red_cut creator = ap (λ cut. index_in cut creator) still.red_cut in
            let green : index_in r.held.queue.green_cut creator ≡ index_in mine.summary.green_cut creator =
            ap (λ cut. index_in cut creator) (core.made_of.green_cut ∙ ap (λ xs. cut_behind [] (names_of xs)) still.greens ∙ sym fits.green_cut) in
            let le = fits.red_cut creator in
            omega arith);
      }

  -- ---- behind an item

  -- so many greens there are behind so many items
  pub greens-count : (heard : List Summary) (k : ℕ) (are : AreTold c conf heard) (full : is_within set (senders heard) ≡ true) (here : has (gone heard) p ≡ false) →
      greens_behind heard k (best heard are full).best.summary in_exchange.mine.summary ≡ greens_there (near heard are full here).0 k (best heard are full).best in_exchange.mine
  greens-count heard k are full here =
      ap (λ (o : Option ℕ). (let low = option_map_or (λ n. n) o 0 in
      max in_exchange.mine.summary.green_count (low + min k ((best heard are full).best.summary.green_count - low)))) (near heard are full here).1.least

  -- a member that goes on is behind so many items
  going-behind : (heard : List Summary) (k : ℕ) (are : AreTold c conf heard) (full : is_within set (senders heard) ≡ true) (here : has (gone heard) p ≡ false) →
      IsGoingOn heard k (best heard are full).best in_exchange.mine r.held (greens_of c p) → IsBehind c.start heard (near heard are full here).0 k (best heard are full).best in_exchange.mine r.held
  going-behind heard k are full here going =
      record {
        oneself = subst (IsOneself c.start r.held) (going.greens ∙ ap (λ x. take x (best heard are full).best.greens) (greens-count heard k are full here)) oneself;
        red = going.red;
      }

  -- the most updated member told that itself
  pub best-is : (heard : List Summary) (b : IsBest c i conf heard) → best_told c conf heard ≡ Some b.best
  best-is heard b = ap (λ (o : Option Summary). option_and_then (λ s. told_in c conf s.id) o) b.most ∙ b.found

  -- a member that has left has changed nothing
  pub unmoved-gone : is_full set talk_before ≡ true → is_through talk_before ≡ false → has (gone talk_before.heard) p ≡ true → IsUnmoved in_exchange.mine r.held (greens_of c p)
  unmoved-gone full yet left =
      let holds = subst (IsInExchange c conf in_exchange.mine r.held (greens_of c p)) (in-actions full yet) in_exchange.holds in
      subst (λ b. Either b (IsUnmoved in_exchange.mine r.held (greens_of c p)) (IsSomeWith (best_told c conf talk_before.heard) (λ best. IsGoingOn talk_before.heard talk_before.accepted best in_exchange.mine r.held (greens_of c p))))
      (ap (has (gone talk_before.heard)) id ∙ left) holds

  -- a member that remains goes on
  pub going-at : (full : is_full set talk_before ≡ true) → is_through talk_before ≡ false → has (gone talk_before.heard) p ≡ false →
      IsGoingOn talk_before.heard talk_before.accepted (best talk_before.heard heard_before full).best in_exchange.mine r.held (greens_of c p)
  going-at full yet here =
      let holds = subst (IsInExchange c conf in_exchange.mine r.held (greens_of c p)) (in-actions full yet) in_exchange.holds in
      let going = subst (λ b. Either b (IsUnmoved in_exchange.mine r.held (greens_of c p)) (IsSomeWith (best_told c conf talk_before.heard) (λ best. IsGoingOn talk_before.heard talk_before.accepted best in_exchange.mine r.held (greens_of c p))))
      (ap (has (gone talk_before.heard)) id ∙ here) holds in
      subst (λ o. IsSomeWith o (λ best. IsGoingOn talk_before.heard talk_before.accepted best in_exchange.mine r.held (greens_of c p))) (best-is talk_before.heard (best talk_before.heard heard_before full)) going

  -- before an item
  pub before-item : (full : is_full set talk_before ≡ true) → is_through talk_before ≡ false → (here : has (gone talk_before.heard) p ≡ false) →
      IsBehind c.start talk_before.heard (near talk_before.heard heard_before full here).0 talk_before.accepted (best talk_before.heard heard_before full).best in_exchange.mine r.held
  before-item full yet here = going-behind talk_before.heard talk_before.accepted heard_before full here (going-at full yet here)

  -- its greens before an item
  pub before-greens : (full : is_full set talk_before ≡ true) → is_through talk_before ≡ false → (here : has (gone talk_before.heard) p ≡ false) →
      greens_of c p ≡ take (greens_there (near talk_before.heard heard_before full here).0 talk_before.accepted (best talk_before.heard heard_before full).best in_exchange.mine) (best talk_before.heard heard_before full).best.greens
  before-greens full yet here =
      (going-at full yet here).greens ∙ ap (λ x. take x (best talk_before.heard heard_before full).best.greens)
      (greens-count talk_before.heard talk_before.accepted heard_before full here)

  -- who remains takes an item
  pub take-here : (m : Msg) → has (gone talk_before.heard) p ≡ false → take_item (begin r) talk_before.heard m ≡ mark_item (begin r) m
  take-here m here = cond-false (has (gone talk_before.heard) r.held.id) (begin r) (mark_item (begin r) m) (ap (has (gone talk_before.heard)) id ∙ here)

  -- who has left takes none
  pub take-gone : (m : Msg) → has (gone talk_before.heard) p ≡ true → take_item (begin r) talk_before.heard m ≡ begin r
  take-gone m left = cond-true (has (gone talk_before.heard) r.held.id) (begin r) (mark_item (begin r) m) (ap (has (gone talk_before.heard)) id ∙ left)

  -- behind a green item
  pub behind-green : (place : ℕ) (a : Action) → s.message ≡ GreenItem place a → is_due set talk_before s.from (Green place) ≡ true → (full : is_full set talk_before ≡ true) (here : has (gone talk_before.heard) p ≡ false) →
      IsBehind c.start talk_before.heard (near talk_before.heard heard_before full here).0 (suc talk_before.accepted) (best talk_before.heard heard_before full).best in_exchange.mine (take_item (begin r) talk_before.heard (GreenItem place a)).replica.held
  behind-green place a is due full here =
      let b = best talk_before.heard heard_before full in
      let beside = near talk_before.heard heard_before full here in
      let item = next-due talk_before.heard talk_before.accepted s.from (Green place) (and_parts (is_full set talk_before) (is_wanted (next_item (progress talk_before.heard talk_before.accepted)) s.from (Green place)) due).1 in
      let yet = (due_parts set talk_before s.from (Green place) due).1 in
      let sender : s.from ≡ b.best.summary.id = sym item.sender ∙ plan-sender talk_before.heard b.best.summary beside.0 beside.1.most beside.1.least talk_before.accepted place item.sent item.here item.kind in
      let content = subst (IsContent b.best.greens) is (message-content c conf n s b.best i.talk.content next (ap (told_in c conf) sender ∙ b.found)) in
      let made = message-made c conf n p s a r.held i.replica.made_once next (ap action_in is) up id in
      subst (λ (u : Turn). IsBehind c.start talk_before.heard beside.0 (suc talk_before.accepted) b.best in_exchange.mine u.replica.held) (sym (take-here (GreenItem place a) here))
      (item-green c.start talk_before.heard beside.0 talk_before.accepted b.best in_exchange.mine beside.1 (begin r) (before-item full yet here) item.sent item.here place a item.kind content made)

  -- behind a red item
  pub behind-red : (a : Action) → s.message ≡ RedItem a → is_due set talk_before s.from (Red a.id) ≡ true → (full : is_full set talk_before ≡ true) (here : has (gone talk_before.heard) p ≡ false) →
      IsBehind c.start talk_before.heard (near talk_before.heard heard_before full here).0 (suc talk_before.accepted) (best talk_before.heard heard_before full).best in_exchange.mine (take_item (begin r) talk_before.heard (RedItem a)).replica.held
  behind-red a is due full here =
      let b = best talk_before.heard heard_before full in
      let beside = near talk_before.heard heard_before full here in
      let item = next-due talk_before.heard talk_before.accepted s.from (Red a.id) (and_parts (is_full set talk_before) (is_wanted (next_item (progress talk_before.heard talk_before.accepted)) s.from (Red a.id)) due).1 in
      let yet = (due_parts set talk_before s.from (Red a.id) due).1 in
      let made = message-made c conf n p s a r.held i.replica.made_once next (ap action_in is) up id in
      subst (λ (u : Turn). IsBehind c.start talk_before.heard beside.0 (suc talk_before.accepted) b.best in_exchange.mine u.replica.held) (sym (take-here (RedItem a) here))
      (item-red c.start talk_before.heard beside.0 talk_before.accepted b.best in_exchange.mine beside.1 (begin r) (before-item full yet here) item.sent item.here a item.kind made)

  -- ---- its own parts

  -- the most updated member is itself
  itself : (heard : List Summary) (b : IsBest c i conf heard) → p ≡ b.best.summary.id → in_exchange.mine ≡ b.best
  itself heard b same =
      let one : Some in_exchange.mine ≡ Some b.best = sym in_exchange.found ∙ ap (told_in c conf) same ∙ b.found in
      ap (λ (o : Option Told). option_map_or (λ x. x) o in_exchange.mine) one

  -- the most updated member has discarded no more than all have
  white-of : (heard : List Summary) (b : IsBest c i conf heard) → AreTold c conf heard → (h : Held) → h.queue.white ≡ r.held.queue.white → greens_of c p ≡ b.best.greens →
      IfSome (least_greens heard) (λ low. h.queue.white ≤ low)
  white-of heard b are h white greens =
      at (least_greens heard) (white-held c i conf heard b are r.held (subst (IsLined c r.held) greens lined) (subst (IsMadeOf c.start r.held) greens core.made_of)) where
        at : (o : Option ℕ) → IfSome o (λ low. r.held.queue.white ≤ low) → IfSome o (λ low. h.queue.white ≤ low)
        at None le = tt
        at (Some low) le = subst (λ k. k ≤ low) (sym white) le

  -- what hasn't changed
  pub unmoved-holds : (heard : List Summary) (are : AreTold c conf heard) (full : is_within set (senders heard) ≡ true) → IsUnmoved in_exchange.mine r.held (greens_of c p) →
      HoldsAll c i conf p heard (best heard are full).best in_exchange.mine r.held (greens_of c p)
  unmoved-holds heard are full still =
      let mine = in_exchange.mine in
      let b = best heard are full in
      let fits = told-fits c i conf p mine in_exchange.found in
      let top = told-fits c i conf b.best.summary.id b.best b.found in
      let below = mine-of c i conf p mine heard (λ x. x.green_count ≤ b.best.summary.green_count) are in_exchange.found (full-sent heard full) (best-bounds heard b.best.summary b.most) in
      let front = told-front c i conf p b.best.summary.id mine b.best in_exchange.found b.found below in
      record {
        white = λ same. white-of heard b are r.held refl (still.greens ∙ ap (λ (t : Told). t.greens) (itself heard b same));
        count = (let a = fits.count in let e = ap (λ (xs : List Action). length xs) still.greens in omega arith);
        green = λ creator. (
            let le = front-cut mine.greens b.best.greens creator front in
            let low : index_in r.held.queue.green_cut creator ≡ index_in (cut_behind [] (names_of mine.greens)) creator =
            ap (λ cut. index_in cut creator) (core.made_of.green_cut ∙ ap (λ xs. cut_behind [] (names_of xs)) still.greens) in
            let high = ap (λ cut. index_in cut creator) top.green_cut in
            omega arith);
        red = λ creator. (let e = ap (λ cut. index_in cut creator) still.red_cut in omega arith);
      }

  -- what has gone on
  pub behind-holds : (heard : List Summary) (k : ℕ) (are : AreTold c conf heard) (full : is_within set (senders heard) ≡ true) (here : has (gone heard) p ≡ false) (h : Held) →
      h.queue.white ≡ r.held.queue.white → (p ≡ (best heard are full).best.summary.id → greens_of c p ≡ (best heard are full).best.greens) →
      IsBehind c.start heard (near heard are full here).0 k (best heard are full).best in_exchange.mine h →
      HoldsAll c i conf p heard (best heard are full).best in_exchange.mine h (take (greens_there (near heard are full here).0 k (best heard are full).best in_exchange.mine) (best heard are full).best.greens)
  behind-holds heard k are full here h white greens is =
      let mine = in_exchange.mine in
      let b = best heard are full in
      let low = (near heard are full here).0 in
      let beside = (near heard are full here).1 in
      let count = beside.count in
      let below = beside.below in
      let above = beside.above in
      let size = length-taken (greens_there low k b.best mine) b.best.greens (omega arith) in
      record {
        white = λ same. white-of heard b are h white (greens same);
        count = omega arith;
        green = λ creator. (
            let le = front-cut (take (greens_there low k b.best mine) b.best.greens) b.best.greens creator (Front-take (greens_there low k b.best mine) b.best.greens) in
            let own = ap (λ cut. index_in cut creator) is.oneself.made_of.green_cut in
            let high = ap (λ cut. index_in cut creator) beside.cut in
            omega arith);
        red = λ creator. (let e = is.red creator in omega arith);
      }

  -- the most updated member has all its greens
  pub best-greens : (heard : List Summary) (k : ℕ) (are : AreTold c conf heard) (full : is_within set (senders heard) ≡ true) (here : has (gone heard) p ≡ false) →
      greens_of c p ≡ take (greens_there (near heard are full here).0 k (best heard are full).best in_exchange.mine) (best heard are full).best.greens →
      p ≡ (best heard are full).best.summary.id → greens_of c p ≡ (best heard are full).best.greens
  best-greens heard k are full here greens same =
      let b = best heard are full in
      let beside = (near heard are full here).1 in
      let count = beside.count in
      let one = ap (λ (t : Told). t.summary.green_count) (itself heard b same) in
      greens ∙ taken-all (greens_there (near heard are full here).0 k b.best in_exchange.mine) b.best.greens (omega arith)
