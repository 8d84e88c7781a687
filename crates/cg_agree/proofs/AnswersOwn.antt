-- Where a place is handed to a member, it has what it is to send, and at the end of the plan it knows all that some member knew: both
-- follow from what holds before.
use Rattle.std.proofs.Common.{◌≡◌, ℕ, suc, ◌≤◌, true, false, not, ◌&&◌, List, [], ◌∷◌, ◌++◌, length, take, Option, Some, None, refl, sym, ap, subst, ◌∙◌, ⊎_elim, arith}
use Rattle.std.specs.Prelude.{◌==◌, slice_get}
use Rattle.std.proofs.lemmas.Bool.{cases_Bool, cond-true, cond_both, and_parts, leb-true, not-true}
use Rattle.cg_base.specs.Cuts.{index_in}
use Rattle.cg_base.specs.Sets.{has, is_within}
use Rattle.cg_action.specs.declared.action.Action.{Action}
use Rattle.cg_knowledge.specs.declared.summary.Summary.{Summary}
use Rattle.cg_knowledge.specs.Summaries.{senders, gone, remaining}
use Rattle.cg_knowledge.specs.Verdict.{decides}
use Rattle.cg_plan.specs.declared.parts.Item.{Item}
use Rattle.cg_plan.specs.declared.parts.Item.TheVariants.{Green, Red}
use Rattle.cg_plan.specs.declared.parts.Part.{Part}
use Rattle.cg_plan.specs.Items.{items_of_plan}
use Rattle.cg_plan.specs.Plan.{least_reds, plan_of}
use Rattle.cg_plan.specs.Progress.{next_item, is_wanted, is_done, turn_of}
use Rattle.cg_wire.specs.declared.message.Msg.{Msg}
use Rattle.cg_wire.specs.declared.message.Msg.TheVariants.{Action as ActionMsg, State as StateMsg, GreenItem, RedItem, Cpc}
use Rattle.cg_group.specs.declared.phase.Phase.TheVariants.{Regular}
use Rattle.cg_group.specs.State.{Sent, phase_of, delivered_to}
use Rattle.cg_client.specs.Replica.{Held, State, ExchangeStates, ExchangeActions, NonPrim, Left, Replica}
use Rattle.cg_client.specs.Turn.{Turn, begin, go_to, with_held}
use Rattle.cg_client.specs.Requests.{empty_buffer}
use Rattle.cg_states.specs.ExchangeActions.{progress, take_item, send_part, go_on}
use Rattle.cg_states.specs.ExchangeStates.{is_usable, with_heard}
use Rattle.cg_states.specs.PlanEnd.{take_over, attempt, decide, end_plan}
use Rattle.cg_states.specs.ReplicaStep.{on_message}
use Rattle.cg_model.specs.World.{replica_of}
use Rattle.cg_model.specs.Chronicle.{Told, Chronicle}
use Rattle.cg_model.specs.Looks.{greens_of, members_in, ordered_in}
use Rattle.cg_model.specs.Talk.{Talk, no_talk, hears_from, is_full, is_through, is_ended, is_due, may_say, known_up_to}
use Rattle.cg_model.specs.Fronts.{IsSomeWith}
use Rattle.cg_model.specs.Facts.{Invariant}
use Rattle.cg_model.specs.FactsExchange.{IsInExchange, IsUnmoved}
use Rattle.cg_model.specs.FactsTalk.{AreTold, handed_talk}
use Rattle.cg_agree.proofs.EndReached.{best-of}
use Rattle.cg_agree_lemmas.specs.HandMay.{HasNext}
use Rattle.cg_agree_lemmas.specs.HandNext.{legal-front}
use Rattle.cg_agree.proofs.HandsAll.{KnowsAtEnd}
use Rattle.cg_agree_lemmas.specs.HandsKept.{CanAnswer}
use Rattle.cg_agree_lemmas.specs.HandsTalk.{HasAnswer}
use Rattle.cg_agree_lemmas.specs.KnownBounds.{known-each, least-reds}
use Rattle.cg_agree_lemmas.specs.KnownEnd.{end-known}
use Rattle.cg_agree_lemmas.specs.PartHeld.{turn-held}
use Rattle.cg_agree.proofs.PartsOwn.{parts-held}
use Rattle.cg_agree_lemmas.specs.PlanProgress.{IsBehind, greens_there}
use Rattle.cg_agree_lemmas.specs.TalkEarly.{early-legal, early-none, not_full, due_parts}
use Rattle.cg_agree.proofs.ToldBeside.{told-fits, told-id, mine-of}
use Rattle.cg_agree.proofs.ExchangeThere.{may, oneself, in_exchange, in-states, in-actions, heard_before, heard_behind, full-sent, best, stays, near, unmoved-behind, unmoved-gone, before-greens, take-gone, behind-green, behind-red, unmoved-holds, behind-holds, best-greens, white-item}
use Rattle.cg_model.specs.Total.{keeps_part}

-- ---- the known cut as a plan goes on

-- the end of a plan makes nothing known
red-end : (t : Turn) (conf : ℕ) (heard : List Summary) → (end_plan t conf heard).replica.held.queue.red_cut ≡ t.replica.held.queue.red_cut
unfolding end_plan take_over decide attempt
red-end t conf heard =
    let over = with_held t (take_over t.replica.held heard) in
    cond_both (has (gone heard) t.replica.held.id) (go_to (empty_buffer t) Left) (decide over conf heard) (λ u. u.replica.held.queue.red_cut ≡ t.replica.held.queue.red_cut) (λ y. refl)
    (λ no. cond_both (decides heard) (attempt over conf heard) (go_to over (NonPrim true)) (λ u. u.replica.held.queue.red_cut ≡ t.replica.held.queue.red_cut) (λ y. refl) (λ no. refl))

-- nor does a part that is sent
red-part : (t : Turn) (o : Option Part) → (send_part t o).replica.held.queue.red_cut ≡ t.replica.held.queue.red_cut
unfolding send_part
red-part t None = refl
red-part t (Some part) = refl

-- nor does going on
red-go_on : (t : Turn) (conf : ℕ) (heard : List Summary) (k : ℕ) → (go_on t conf heard k).replica.held.queue.red_cut ≡ t.replica.held.queue.red_cut
unfolding go_on
red-go_on t conf heard k =
    let sent = send_part (go_to t (ExchangeActions conf heard k)) (turn_of (plan_of heard) t.replica.held.id k) in
    let same : sent.replica.held.queue.red_cut ≡ t.replica.held.queue.red_cut = red-part (go_to t (ExchangeActions conf heard k)) (turn_of (plan_of heard) t.replica.held.id k) in
    cond_both (is_done (progress heard k)) (end_plan sent conf heard) sent (λ u. u.replica.held.queue.red_cut ≡ t.replica.held.queue.red_cut) (λ y. red-end sent conf heard ∙ same) (λ no. same)

-- a summary makes nothing known
red-summary : (conf : ℕ) (set : List ℕ) (heard : List Summary) (from : ℕ) (x : Summary) (t : Turn) →
    (on_message (ExchangeStates conf set heard) from (StateMsg x) t).replica.held.queue.red_cut ≡ t.replica.held.queue.red_cut
unfolding on_message
red-summary conf set heard from x t =
    let all = heard ++ x ∷ [] in
    cond_both (is_usable conf heard from x) (with_heard t conf set all) t (λ u. u.replica.held.queue.red_cut ≡ t.replica.held.queue.red_cut)
    (λ y. cond_both (is_within set (senders all)) (go_on t conf all 0) (go_to t (ExchangeStates conf set all)) (λ u. u.replica.held.queue.red_cut ≡ t.replica.held.queue.red_cut) (λ z. red-go_on t conf all 0) (λ no. refl))
    (λ no. refl)

-- a green item makes known what is taken of it
red-green : (conf : ℕ) (heard : List Summary) (k from place : ℕ) (a : Action) (t : Turn) → is_wanted (next_item (progress heard k)) from (Green place) ≡ true →
    (on_message (ExchangeActions conf heard k) from (GreenItem place a) t).replica.held.queue.red_cut ≡ (take_item t heard (GreenItem place a)).replica.held.queue.red_cut
unfolding on_message
red-green conf heard k from place a t wanted =
    ap (λ (u : Turn). u.replica.held.queue.red_cut) (cond-true (is_wanted (next_item (progress heard k)) from (Green place)) (go_on (take_item t heard (GreenItem place a)) conf heard (suc k)) t wanted)
    ∙ red-go_on (take_item t heard (GreenItem place a)) conf heard (suc k)

-- so does a red item
red-red : (conf : ℕ) (heard : List Summary) (k from : ℕ) (a : Action) (t : Turn) → is_wanted (next_item (progress heard k)) from (Red a.id) ≡ true →
    (on_message (ExchangeActions conf heard k) from (RedItem a) t).replica.held.queue.red_cut ≡ (take_item t heard (RedItem a)).replica.held.queue.red_cut
unfolding on_message
red-red conf heard k from a t wanted =
    ap (λ (u : Turn). u.replica.held.queue.red_cut) (cond-true (is_wanted (next_item (progress heard k)) from (Red a.id)) (go_on (take_item t heard (RedItem a)) conf heard (suc k)) t wanted)
    ∙ red-go_on (take_item t heard (RedItem a)) conf heard (suc k)

module _ (c : Chronicle) (p : ℕ) (i : Invariant c) (conf : ℕ) (r : Replica) (s : Sent Msg) (regular : phase_of c.world.group p ≡ Regular conf) (runs : replica_of c.world p ≡ Some r)
    (next : slice_get (ordered_in c conf) (delivered_to c.world.group p) ≡ Some s) where
  -- the members
  abbrev members : List ℕ
  members = members_in c conf

  -- what was handed to it before
  abbrev before : Talk
  before = handed_talk c conf p

  -- what it told
  abbrev mine : Told
  mine = (in_exchange c p i conf r s regular runs next).mine

  -- who tells a summary finds not all told
  pub few-summary : (x : Summary) → s.message ≡ StateMsg x → is_full members before ≡ false
  few-summary x is =
      let told = subst (λ m. may_say members conf before s.from m ≡ true) is (may c p i conf r s regular runs next) in
      let outer = and_parts ((has members s.from && (x.id == s.from)) && (x.conf == conf)) (not (has (senders before.heard) s.from)) told in
      let inner = and_parts (has members s.from && (x.id == s.from)) (x.conf == conf) outer.0 in
      let first = and_parts (has members s.from) (x.id == s.from) inner.0 in
      not_full members before s.from first.0 (not-true (has (senders before.heard) s.from) outer.1)

  -- a green item is due where it is handed
  pub due-green : (place : ℕ) (a : Action) → s.message ≡ GreenItem place a → is_due members before s.from (Green place) ≡ true
  due-green place a is = subst (λ m. may_say members conf before s.from m ≡ true) is (may c p i conf r s regular runs next)

  -- so is a red item
  pub due-red : (a : Action) → s.message ≡ RedItem a → is_due members before s.from (Red a.id) ≡ true
  due-red a is = subst (λ m. may_say members conf before s.from m ≡ true) is (may c p i conf r s regular runs next)

  -- among the summaries nothing has changed at the member
  pub still : is_full members before ≡ false → IsUnmoved mine r.held (greens_of c p)
  still few = subst (IsInExchange c conf mine r.held (greens_of c p)) (in-states c p i conf r s regular runs next few) (in_exchange c p i conf r s regular runs next).holds

  -- ---- what it is to send

  -- the first part of the plan
  answers-summary : (x : Summary) → s.message ≡ StateMsg x → is_full members (hears_from before s.from (StateMsg x)) ≡ true →
      keeps_part r.held.queue (turn_of (plan_of (hears_from before s.from (StateMsg x)).heard) p 0) ≡ true
  answers-summary x is full =
      let heard = (hears_from before s.from (StateMsg x)).heard in
      let are = subst (λ m. AreTold c conf (hears_from before s.from m).heard) is (heard_behind c p i conf r s regular runs next) in
      turn-held c.start r.held (greens_of c p) heard p 0 (oneself c p i conf r s regular runs next)
      (parts-held c i conf p heard (best c p i conf r s regular runs next heard are full) mine r.held (greens_of c p) are (in_exchange c p i conf r s regular runs next).found
      (unmoved-holds c p i conf r s regular runs next heard are full (still (few-summary x is))))

  -- the part behind an item
  answers-item : (m : Msg) (item : Item) → is_due members before s.from item ≡ true →
      ((full : is_full members before ≡ true) (here : has (gone before.heard) p ≡ false) →
      IsBehind c.start before.heard (near c p i conf r s regular runs next before.heard (heard_before c p i conf r s regular runs next) full here).0 (suc before.accepted)
      (best c p i conf r s regular runs next before.heard (heard_before c p i conf r s regular runs next) full).best mine (take_item (begin r) before.heard m).replica.held) →
      HasNext (begin r) before p m
  answers-item m item due behind =
      let parts = due_parts members before s.from item due in
      let full = parts.0 in
      let are = heard_before c p i conf r s regular runs next in
      let b = best c p i conf r s regular runs next before.heard are full in
      let found = (in_exchange c p i conf r s regular runs next).found in
      ⊎_elim
      (λ left. subst (λ (u : Turn). keeps_part u.replica.held.queue (turn_of (plan_of before.heard) p (suc before.accepted)) ≡ true) (sym (take-gone c p i conf r s regular runs next m left))
      (turn-held c.start r.held (greens_of c p) before.heard p (suc before.accepted) (oneself c p i conf r s regular runs next)
      (parts-held c i conf p before.heard b mine r.held (greens_of c p) are found
      (unmoved-holds c p i conf r s regular runs next before.heard are full (unmoved-gone c p i conf r s regular runs next full parts.1 left)))))
      (λ here.
      let now = (take_item (begin r) before.heard m).replica.held in
      let low = (near c p i conf r s regular runs next before.heard are full here).0 in
      let all = take (greens_there low (suc before.accepted) b.best mine) b.best.greens in
      let is = behind full here in
      turn-held c.start now all before.heard p (suc before.accepted) is.oneself
      (parts-held c i conf p before.heard b mine now all are found
      (behind-holds c p i conf r s regular runs next before.heard (suc before.accepted) are full here now (white-item (begin r) before.heard m)
      (best-greens c p i conf r s regular runs next before.heard before.accepted are full here (before-greens c p i conf r s regular runs next full parts.1 here)) is)))
      (cases_Bool (has (gone before.heard) p))

  -- behind each message it has what it is to send
  answers : (m : Msg) → s.message ≡ m → HasAnswer members (begin r) before p s.from m
  answers (StateMsg x) is = λ full. answers-summary x is full
  answers (GreenItem place a) is =
      let due = due-green place a is in
      answers-item (GreenItem place a) (Green place) due (λ full here. behind-green c p i conf r s regular runs next place a is due full here)
  answers (RedItem a) is =
      let due = due-red a is in
      answers-item (RedItem a) (Red a.id) due (λ full here. behind-red c p i conf r s regular runs next a is due full here)
  answers (ActionMsg a) is = tt
  answers (Cpc k cf) is = tt

  -- so it has behind the message that is handed
  pub answer-there : HasAnswer members (begin r) before p s.from s.message
  answer-there = answers s.message refl

  -- ---- what it knows at the end

  -- a plan that is through has no more items than were accepted
  pub through-all : (t : Talk) → is_through t ≡ true → length (items_of_plan (plan_of t.heard)) ≤ t.accepted
  unfolding is_done
  through-all t e = leb-true (length (items_of_plan (plan_of t.heard))) t.accepted e

  -- behind all items it knows what some member knew
  pub ended-known : (heard : List Summary) (k : ℕ) (are : AreTold c conf heard) (full : is_within members (senders heard) ≡ true) (here : has (gone heard) p ≡ false) (h : Held) →
      IsBehind c.start heard (near c p i conf r s regular runs next heard are full here).0 k (best c p i conf r s regular runs next heard are full).best mine h →
      length (items_of_plan (plan_of heard)) ≤ k → (creator : ℕ) → index_in h.queue.red_cut creator ≡ known_up_to heard creator
  ended-known heard k are full here h is all creator =
      let b = best c p i conf r s regular runs next heard are full in
      let beside = near c p i conf r s regular runs next heard are full here in
      let found = (in_exchange c p i conf r s regular runs next).found in
      let sent = full-sent c p i conf r s regular runs next heard full in
      let known = known-each heard creator in
      let some = mine-of c i conf p mine heard (λ x. has (remaining heard) x.id ≡ true → IsSomeWith (least_reds heard creator) (λ l. l ≤ index_in x.red_cut creator)) are found sent (least-reds heard creator)
      (ap (has (remaining heard)) (told-id c i conf p mine found) ∙ stays c p i conf r s regular runs next heard full here) in
      end-known c.start heard beside.0 k b.best mine h creator beside.1 is all
      (mine-of c i conf p mine heard (λ x. index_in x.red_cut creator ≤ known_up_to heard creator) are found sent known)
      (best-of (λ x. index_in x.red_cut creator ≤ known_up_to heard creator) heard b.best.summary b.most known)
      ((told-fits c i conf b.best.summary.id b.best b.found).red_cut creator)
      (λ none. subst (λ o. IsSomeWith o (λ l. l ≤ index_in mine.summary.red_cut creator)) none some)

  -- behind each message that ends the plan it does
  knows : (m : Msg) → s.message ≡ m → is_ended members before ≡ false → is_ended members (hears_from before s.from m) ≡ true → has (gone (hears_from before s.from m).heard) p ≡ false → (creator : ℕ) →
      index_in (on_message r.state s.from m (begin r)).replica.held.queue.red_cut creator ≡ known_up_to (hears_from before s.from m).heard creator
  knows (StateMsg x) is yet ended here creator =
      let few = few-summary x is in
      let heard = (hears_from before s.from (StateMsg x)).heard in
      let are = subst (λ m. AreTold c conf (hears_from before s.from m).heard) is (heard_behind c p i conf r s regular runs next) in
      let parts = and_parts (is_full members (hears_from before s.from (StateMsg x))) (is_through (hears_from before s.from (StateMsg x))) ended in
      let early = early-legal members conf (take (delivered_to c.world.group p) (ordered_in c conf)) no_talk (early-none members)
      (legal-front members conf no_talk (ordered_in c conf) (delivered_to c.world.group p) (i.talk.talk_legal.ordered conf)) in
      let none : before.accepted ≡ 0 = early.none few in
      let all = through-all (hears_from before s.from (StateMsg x)) parts.1 in
      ap (λ (st : State). index_in (on_message st s.from (StateMsg x) (begin r)).replica.held.queue.red_cut creator) (in-states c p i conf r s regular runs next few)
      ∙ ap (λ cut. index_in cut creator) (red-summary conf members before.heard s.from x (begin r))
      ∙ ended-known heard 0 are parts.0 here r.held (unmoved-behind c p i conf r s regular runs next heard are parts.0 here (still few)) (omega arith) creator
  knows (GreenItem place a) is yet ended here creator =
      let due = due-green place a is in
      let parts = due_parts members before s.from (Green place) due in
      let wanted = (and_parts (is_full members before) (is_wanted (next_item (progress before.heard before.accepted)) s.from (Green place)) due).1 in
      let all = through-all (hears_from before s.from (GreenItem place a)) (and_parts (is_full members (hears_from before s.from (GreenItem place a))) (is_through (hears_from before s.from (GreenItem place a))) ended).1 in
      ap (λ (st : State). index_in (on_message st s.from (GreenItem place a) (begin r)).replica.held.queue.red_cut creator) (in-actions c p i conf r s regular runs next parts.0 parts.1)
      ∙ ap (λ cut. index_in cut creator) (red-green conf before.heard before.accepted s.from place a (begin r) wanted)
      ∙ ended-known before.heard (suc before.accepted) (heard_before c p i conf r s regular runs next) parts.0 here (take_item (begin r) before.heard (GreenItem place a)).replica.held
      (behind-green c p i conf r s regular runs next place a is due parts.0 here) all creator
  knows (RedItem a) is yet ended here creator =
      let due = due-red a is in
      let parts = due_parts members before s.from (Red a.id) due in
      let wanted = (and_parts (is_full members before) (is_wanted (next_item (progress before.heard before.accepted)) s.from (Red a.id)) due).1 in
      let all = through-all (hears_from before s.from (RedItem a)) (and_parts (is_full members (hears_from before s.from (RedItem a))) (is_through (hears_from before s.from (RedItem a))) ended).1 in
      ap (λ (st : State). index_in (on_message st s.from (RedItem a) (begin r)).replica.held.queue.red_cut creator) (in-actions c p i conf r s regular runs next parts.0 parts.1)
      ∙ ap (λ cut. index_in cut creator) (red-red conf before.heard before.accepted s.from a (begin r) wanted)
      ∙ ended-known before.heard (suc before.accepted) (heard_before c p i conf r s regular runs next) parts.0 here (take_item (begin r) before.heard (RedItem a)).replica.held
      (behind-red c p i conf r s regular runs next a is due parts.0 here) all creator
  knows (Cpc k cf) is yet ended here creator = absurd (let clash : true ≡ false = sym ended ∙ yet in cc)
  knows (ActionMsg a) is yet ended here creator = absurd (let clash : true ≡ false = sym ended ∙ yet in cc)

  -- so it does behind the message that is handed
  pub known-there : is_ended members before ≡ false → is_ended members (hears_from before s.from s.message) ≡ true → has (gone (hears_from before s.from s.message).heard) p ≡ false → (creator : ℕ) →
      index_in (on_message r.state s.from s.message (begin r)).replica.held.queue.red_cut creator ≡ known_up_to (hears_from before s.from s.message).heard creator
  known-there = knows s.message refl

-- a member to whom a place is handed has what it is to send
pub can-answer-there : (c : Chronicle) (p : ℕ) → Invariant c → CanAnswer c p
can-answer-there c p i = λ conf r s regular runs next. answer-there c p i conf r s regular runs next

-- and who comes to the plan's end by that place knows all that some member knew
pub knows-at-end : (c : Chronicle) (p : ℕ) → Invariant c → KnowsAtEnd c p
knows-at-end c p i = λ conf r s regular runs next yet ended here creator. known-there c p i conf r s regular runs next yet ended here creator
