-- What a member holds behind a message of an exchange is of actions of their names, and so are the parts of its attempt.
use Rattle.std.proofs.Common.{◌≡◌, ℕ, suc, zero, Bool, true, false, cond, not, List, [], ◌∷◌, ◌++◌, drop, filter, find, Option, Some, None, IfSome, refl, sym, ap, ap₂, ◌∙◌, subst}
use Rattle.std.specs.Prelude.{◌==◌, nat_le}
use Rattle.std.specs.Option.{option_to_list}
use Rattle.std.proofs.lemmas.Bool.{cond_both}
use Rattle.std.proofs.lemmas.Option.{same_Some}
use Rattle.cg_base.specs.declared.action_id.ActionId.{ActionId}
use Rattle.cg_base.specs.Cuts.{index_in}
use Rattle.cg_base.specs.Ids.{has_name, same_id, id_before}
use Rattle.cg_base.specs.Sets.{has, is_within}
use Rattle.cg_action.specs.declared.action.Action.{Action}
use Rattle.cg_queue.specs.Queue.{QueueView, Marks, Gaps, names_of, action_of, green_count, with_red, marked_red, placed_red}
use Rattle.cg_queue.specs.declared.mark.Mark.TheVariants.{Placed, Known}
use Rattle.cg_knowledge.specs.declared.summary.Summary.{Summary}
use Rattle.cg_knowledge.specs.Summaries.{senders, gone}
use Rattle.cg_knowledge.specs.Verdict.{decides}
use Rattle.cg_plan.specs.declared.parts.Part.{Part}
use Rattle.cg_plan.specs.Plan.{plan_of}
use Rattle.cg_plan.specs.Progress.{is_done, turn_of}
use Rattle.cg_wire.specs.declared.message.Msg.{Msg}
use Rattle.cg_wire.specs.declared.message.Msg.TheVariants.{Action as ActionMsg, State as StateMsg, GreenItem, RedItem, Cpc}
use Rattle.cg_group.specs.State.{delivered_to}
use Rattle.cg_client.specs.Replica.{Held, State, RegPrim, TransPrim, ExchangeStates, ExchangeActions, Construct, No, Un, NonPrim, Left, Replica}
use Rattle.cg_client.specs.Turn.{Turn, begin, go_to, with_held}
use Rattle.cg_client.specs.Requests.{empty_buffer}
use Rattle.cg_client.specs.Marks.{is_unmade, marked, mark_red, can_be_green, place_green, mark_green}
use Rattle.cg_client.specs.Install.{actions_named, valid_yellow}
use Rattle.cg_client.specs.Queries.{plain_reds}
use Rattle.cg_states.specs.ExchangeStates.{is_usable, with_heard}
use Rattle.cg_states.specs.ExchangeActions.{progress, is_next, mark_item, take_item, send_part, go_on}
use Rattle.cg_states.specs.PlanEnd.{take_over, attempt, decide, end_plan}
use Rattle.cg_states.specs.ReplicaStep.{on_message}
use Rattle.cg_model.specs.Chronicle.{Chronicle}
use Rattle.cg_model.specs.Looks.{greens_of, ordered_in}
use Rattle.cg_model.specs.Talk.{action_in}
use Rattle.cg_model.specs.FactsReplica.{booked, AreBooked, is_exchanging}
use Rattle.cg_model.specs.Facts.{Invariant}
use Rattle.cg_model.specs.Small.{Hands}
use Rattle.cg_model.specs.Smalls.{may_make}
use Rattle.cg_agree.proofs.ExchangeBehind.{message-now}
use Rattle.cg_agree.proofs.ExchangeThere.{core}
use Rattle.cg_agree_lemmas.specs.HandsNow.{HandsNow, new, running-now}
use Rattle.cg_agree_lemmas.specs.MessageThere.{booked-at}

-- ---- actions of names

-- of actions that are those of their names the names tell which they are
pub same-booked : (c : Chronicle) (xs ys : List Action) → AreBooked c xs → AreBooked c ys → names_of xs ≡ names_of ys → xs ≡ ys
same-booked c [] [] one two same = refl
same-booked c [] (y ∷ ys) one two same = absurd (let clash : [] ≡ y.id ∷ names_of ys = same in cc)
same-booked c (x ∷ xs) [] one two same = absurd (let clash : x.id ∷ names_of xs ≡ [] = same in cc)
same-booked c (x ∷ xs) (y ∷ ys) one two same =
    let id : x.id ≡ y.id = ap (first x.id) same in
    ap₂ (λ z zs. z ∷ zs) (same_Some x y (sym one.0 ∙ ap (booked c) id ∙ two.0)) (same-booked c xs ys one.1 two.1 (ap (drop 1) same)) where
      first : ActionId → List ActionId → ActionId
      first d [] = d
      first d (z ∷ zs) = z

pub booked-left : (c : Chronicle) (xs ys : List Action) → AreBooked c (xs ++ ys) → AreBooked c xs
booked-left c [] ys are = tt
booked-left c (x ∷ xs) ys are = (are.0, booked-left c xs ys are.1)

pub booked-right : (c : Chronicle) (xs ys : List Action) → AreBooked c (xs ++ ys) → AreBooked c ys
booked-right c [] ys are = are
booked-right c (x ∷ xs) ys are = booked-right c xs ys are.1

pub booked-both : (c : Chronicle) (xs ys : List Action) → AreBooked c xs → AreBooked c ys → AreBooked c (xs ++ ys)
booked-both c [] ys one two = two
booked-both c (x ∷ xs) ys one two = (one.0, booked-both c xs ys one.1 two)

booked-drop : (c : Chronicle) (n : ℕ) (xs : List Action) → AreBooked c xs → AreBooked c (drop n xs)
booked-drop c zero xs are = are
booked-drop c (suc n) [] are = tt
booked-drop c (suc n) (x ∷ xs) are = booked-drop c n xs are.1

booked-filter : (c : Chronicle) (t : Action → Bool) (xs : List Action) → AreBooked c xs → AreBooked c (filter t xs)
booked-filter c t [] are = tt
booked-filter c t (x ∷ xs) are = cond_both (t x) (x ∷ filter t xs) (filter t xs) (AreBooked c) (λ y. (are.0, booked-filter c t xs are.1)) (λ n. booked-filter c t xs are.1)

booked-found : (c : Chronicle) (t : Action → Bool) (xs : List Action) (a : Action) → AreBooked c xs → find t xs ≡ Some a → booked c a.id ≡ Some a
booked-found c t [] a are e = absurd (let clash : None ≡ Some a = e in cc)
booked-found c t (x ∷ xs) a are e = at (t x) e (λ rest. booked-found c t xs a are.1 rest) where
  at : (b : Bool) → cond b (Some x) (find t xs) ≡ Some a → (find t xs ≡ Some a → booked c a.id ≡ Some a) → booked c a.id ≡ Some a
  at true e rest = subst (λ (y : Action). booked c y.id ≡ Some y) (same_Some x a e) are.0
  at false e rest = rest e

booked-named : (c : Chronicle) (q : QueueView) (ids : List ActionId) → AreBooked c (q.greens ++ q.reds) → AreBooked c (actions_named q ids)
booked-named c q [] are = tt
booked-named c q (id ∷ ids) are = booked-both c (option_to_list (action_of q id)) (actions_named q ids) (at (action_of q id) refl) (booked-named c q ids are) where
  at : (o : Option Action) → action_of q id ≡ o → AreBooked c (option_to_list o)
  at None e = tt
  at (Some a) e = (booked-found c (λ (x : Action). same_id x.id id) (q.greens ++ q.reds) a are e, tt)

-- ---- what is held

pub record QueueBooked (c : Chronicle) (q : QueueView) : Type 0 where
  pub greens : AreBooked c q.greens
  pub reds : AreBooked c q.reds

-- the parts are of what is held
pub parts-booked : (c : Chronicle) (h : Held) → QueueBooked c h.queue → AreBooked c (valid_yellow h) × AreBooked c (plain_reds h.queue)
parts-booked c h is = (yellow h.yellow_valid, booked-filter c (λ a. not (has_name h.queue.yellow a.id)) h.queue.reds is.reds) where
  yellow : (b : Bool) → AreBooked c (cond b (actions_named h.queue h.queue.yellow) [])
  yellow true = booked-named c h.queue h.queue.yellow (booked-both c h.queue.greens h.queue.reds is.greens is.reds)
  yellow false = tt

module _ (c : Chronicle) where
  abbrev Are : Turn → Type 0
  Are t = QueueBooked c t.replica.held.queue

  booked-red : (reds : List Action) (a : Action) → AreBooked c reds → booked c a.id ≡ Some a → AreBooked c (with_red reds a)
  booked-red [] a are is = (is, tt)
  booked-red (b ∷ reds) a are is =
      cond_both (id_before a.id b.id) (a ∷ b ∷ reds) (b ∷ with_red reds a) (AreBooked c) (λ y. (is, are)) (λ n. (are.0, booked-red reds a are.1 is))

  are-red : (t : Turn) (a : Action) → booked c a.id ≡ Some a → Are t → Are (mark_red t a)
  unfolding mark_red
  are-red t a is are =
      let q = t.replica.held.queue in
      let cut = index_in q.red_cut a.id.creator in
      cond_both (is_unmade t.replica.held a) t (marked t a (marked_red q a)) Are (λ y. are)
      (λ n. cond_both (nat_le a.id.index cut) (Marks Known q) (cond (a.id.index == suc cut) (Marks Placed (placed_red q a)) (Gaps cut)) (λ m. Are (marked t a m)) (λ y. record { greens = are.greens; reds = are.reds })
      (λ z. cond_both (a.id.index == suc cut) (Marks Placed (placed_red q a)) (Gaps cut) (λ m. Are (marked t a m)) (λ y. record { greens = are.greens; reds = booked-red q.reds a are.reds is }) (λ w. are)))

  are-green : (t : Turn) (a : Action) → booked c a.id ≡ Some a → Are t → Are (mark_green t a)
  unfolding mark_green place_green
  are-green t a is are =
      let q = t.replica.held.queue in
      cond_both (can_be_green t.replica.held a) (place_green t a) t Are
      (λ y. record { greens = booked-both c q.greens (a ∷ []) are.greens (is, tt); reds = booked-filter c (λ x. not (same_id x.id a.id)) q.reds are.reds }) (λ n. are)

  are-item : (t : Turn) (m : Msg) → ((a : Action) → action_in m ≡ Some a → booked c a.id ≡ Some a) → Are t → Are (mark_item t m)
  are-item t (GreenItem place a) each are = cond_both (place == suc (green_count t.replica.held.queue)) (mark_green t a) t Are (λ y. are-green t a (each a refl) are) (λ n. are)
  are-item t (RedItem a) each are = are-red t a (each a refl) are
  are-item t (ActionMsg a) each are = are
  are-item t (StateMsg s) each are = are
  are-item t (Cpc k conf) each are = are

  are-end : (t : Turn) (conf : ℕ) (heard : List Summary) → Are t → Are (end_plan t conf heard)
  unfolding end_plan take_over decide attempt
  are-end t conf heard are =
      let over = with_held t (take_over t.replica.held heard) in
      let same : Are over = record { greens = are.greens; reds = are.reds } in
      cond_both (has (gone heard) t.replica.held.id) (go_to (empty_buffer t) Left) (decide over conf heard) Are (λ y. record { greens = are.greens; reds = are.reds })
      (λ no. cond_both (decides heard) (attempt over conf heard) (go_to over (NonPrim true)) Are (λ y. record { greens = are.greens; reds = are.reds }) (λ no. same))

  are-part : (t : Turn) (o : Option Part) → Are t → Are (send_part t o)
  unfolding send_part
  are-part t None are = are
  are-part t (Some part) are = are

  are-go_on : (t : Turn) (conf : ℕ) (heard : List Summary) (k : ℕ) → Are t → Are (go_on t conf heard k)
  unfolding go_on
  are-go_on t conf heard k are =
      let o = turn_of (plan_of heard) t.replica.held.id k in
      let sent = send_part (go_to t (ExchangeActions conf heard k)) o in
      let now = are-part (go_to t (ExchangeActions conf heard k)) o are in
      cond_both (is_done (progress heard k)) (end_plan sent conf heard) sent Are (λ y. are-end sent conf heard now) (λ no. now)

  are-states : (conf : ℕ) (set : List ℕ) (heard : List Summary) (from : ℕ) (m : Msg) (t : Turn) → Are t → Are (on_message (ExchangeStates conf set heard) from m t)
  unfolding on_message
  are-states conf set heard from (StateMsg x) t are =
      let more = heard ++ x ∷ [] in
      cond_both (is_usable conf heard from x) (with_heard t conf set more) t Are
      (λ y. cond_both (is_within set (senders more)) (go_on t conf more 0) (go_to t (ExchangeStates conf set more)) Are (λ z. are-go_on t conf more 0 are) (λ no. are)) (λ no. are)
  are-states conf set heard from (ActionMsg a) t are = are
  are-states conf set heard from (GreenItem place a) t are = are
  are-states conf set heard from (RedItem a) t are = are
  are-states conf set heard from (Cpc k cf) t are = are

  are-taken : (conf : ℕ) (heard : List Summary) (k from : ℕ) (m : Msg) (t : Turn) → ((a : Action) → action_in m ≡ Some a → booked c a.id ≡ Some a) → Are t →
      Are (cond (is_next heard k from m) (go_on (take_item t heard m) conf heard (suc k)) t)
  are-taken conf heard k from m t each are =
      cond_both (is_next heard k from m) (go_on (take_item t heard m) conf heard (suc k)) t Are
      (λ y. are-go_on (take_item t heard m) conf heard (suc k) (cond_both (has (gone heard) t.replica.held.id) t (mark_item t m) Are (λ y. are) (λ n. are-item t m each are))) (λ n. are)

  are-actions : (conf : ℕ) (heard : List Summary) (k from : ℕ) (m : Msg) (t : Turn) → ((a : Action) → action_in m ≡ Some a → booked c a.id ≡ Some a) → Are t → Are (on_message (ExchangeActions conf heard k) from m t)
  unfolding on_message
  are-actions conf heard k from (GreenItem place a) t each are = are-taken conf heard k from (GreenItem place a) t each are
  are-actions conf heard k from (RedItem a) t each are = are-taken conf heard k from (RedItem a) t each are
  are-actions conf heard k from (ActionMsg a) t each are = are
  are-actions conf heard k from (StateMsg x) t each are = are
  are-actions conf heard k from (Cpc i cf) t each are = are

  are-message : (st : State) (from : ℕ) (m : Msg) (t : Turn) → is_exchanging st ≡ true → ((a : Action) → action_in m ≡ Some a → booked c a.id ≡ Some a) → Are t → Are (on_message st from m t)
  are-message (ExchangeStates conf set heard) from m t ex each are = are-states conf set heard from m t are
  are-message (ExchangeActions conf heard k) from m t ex each are = are-actions conf heard k from m t each are
  are-message RegPrim from m t ex each are = absurd (let clash : false ≡ true = ex in cc)
  are-message TransPrim from m t ex each are = absurd (let clash : false ≡ true = ex in cc)
  are-message (Construct conf heard) from m t ex each are = absurd (let clash : false ≡ true = ex in cc)
  are-message (No conf heard) from m t ex each are = absurd (let clash : false ≡ true = ex in cc)
  are-message Un from m t ex each are = absurd (let clash : false ≡ true = ex in cc)
  are-message (NonPrim regular) from m t ex each are = absurd (let clash : false ≡ true = ex in cc)
  are-message Left from m t ex each are = absurd (let clash : false ≡ true = ex in cc)

-- Behind a message of an exchange a member's parts are of actions of their names.
pub new-booked : (c : Chronicle) (p : ℕ) (i : Invariant c) (may : may_make c (Hands p) ≡ true) (n : HandsNow c p) → is_exchanging n.replica.state ≡ true →
    AreBooked c (valid_yellow (new c p i n).held) × AreBooked c (plain_reds (new c p i n).held.queue)
new-booked c p i may n is =
    let r = n.replica in
    let once = i.replica.made_once in
    let made = (core c p i n.conf r n.next n.regular (running-now c p i n) n.found).made_of in
    let memory : AreBooked c (r.held.queue.reds ++ r.held.own) = subst (λ (o : Option Replica). IfSome o (λ r. AreBooked c (r.held.queue.reds ++ r.held.own))) (running-now c p i n) (once.in_memory p) in
    let before : QueueBooked c r.held.queue = record {
      greens = subst (AreBooked c) (sym made.kept) (booked-drop c r.held.queue.white (greens_of c p) (once.in_greens p));
      reds = booked-left c r.held.queue.reds r.held.own memory;
    } in
    let after = are-message c r.state n.next.from n.next.message (begin r) is (λ a e. booked-at c (ordered_in c n.conf) (delivered_to c.world.group p) n.next a (once.in_messages n.conf) n.found e) before in
    parts-booked c (new c p i n).held (subst (λ (x : Replica). QueueBooked c x.held.queue) (sym (message-now c p i may n)) after)
