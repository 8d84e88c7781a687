-- Marks keep a turn calm: an action that becomes red, yellow or green, and what is created.
use Rattle.std.proofs.Common.{◌≡◌, ℕ, suc, Bool, true, false, not, ◌&&◌, List, [], ◌∷◌, ◌++◌, fold, find, nat_le, nat_lt, Some, if◌then◌else◌}
use Rattle.std.specs.Prelude.{◌==◌}
use Rattle.std.specs.Option.{option_to_list}
use Rattle.std.proofs.lemmas.Bool.{cond_both}
use Rattle.cg_base.specs.declared.action_id.ActionId.{ActionId}
use Rattle.cg_base.specs.Ids.{same_id, id_before, has_name}
use Rattle.cg_base.specs.Cuts.{index_in}
use Rattle.cg_action.specs.declared.action.Action.{Action}
use Rattle.cg_action.specs.declared.action.Kind.{Kind}
use Rattle.cg_action.specs.declared.action.Kind.TheVariants.{Update, Join, Leave}
use Rattle.cg_members.specs.Members.{Members}
use Rattle.cg_members.specs.Servers.{was_ever, after_kind}
use Rattle.cg_queue.specs.declared.mark.Mark.TheVariants.{Placed, Known}
use Rattle.cg_queue.specs.Queue.{QueueView, Marking, Marks, Gaps, green_count, with_red, placed_red, marked_red, marked_yellow, and_yellow, with_yellow, action_of}
use Rattle.cg_base.specs.Lists.{Each}
use Rattle.cg_base.specs.EachLaws.{Each-append, Each-filter}
use Rattle.cg_client.specs.Replica.{Held, State, RegPrim, TransPrim, ExchangeStates, ExchangeActions, Construct, No, Un, NonPrim, Left}
use Rattle.cg_client.specs.Turn.{Turn}
use Rattle.cg_client.specs.Marks.{is_unmade, after_first, marked, mark_red, mark_yellow, can_be_green, place_green, mark_green, mark_green_at}
use Rattle.cg_client.specs.Requests.{is_creating, next_action, create, buffer, empty_buffer, create_kept, settle, request_in, request}
use Rattle.cg_client.specs.Summary.{redden, forget_own, own_to_red}
use Rattle.cg_client.specs.Install.{actions_named, valid_yellow, yellow_green, install}
use Rattle.cg_laws.proofs.Calm.{CalmKind, Calm, CalmQueue, CalmHeld, CalmTurn}

-- ---- queues

with_red-calm : (reds : List Action) (a : Action) → Calm a → Each Calm reds → Each Calm (with_red reds a)
with_red-calm [] a fine each = (fine, tt)
with_red-calm (b ∷ reds) a fine each =
    cond_both (id_before a.id b.id) (a ∷ b ∷ reds) (b ∷ with_red reds a) (Each Calm)
    (λ y. (fine, each)) (λ n. (each.0, with_red-calm reds a fine each.1))

after_first-calm : (own : List Action) (id : ActionId) → Each Calm own → Each Calm (after_first own id)
after_first-calm [] id each = tt
after_first-calm (a ∷ own) id each = cond_both (same_id a.id id) own (a ∷ own) (Each Calm) (λ y. each.1) (λ n. each)

pub found-calm : (test : Action → Bool) (actions : List Action) → Each Calm actions → Each Calm (option_to_list (find test actions))
found-calm test [] each = tt
found-calm test (a ∷ actions) each =
    cond_both (test a) (Some a) (find test actions) (λ o. Each Calm (option_to_list o)) (λ y. (each.0, tt)) (λ n. found-calm test actions each.1)

named-calm : (q : QueueView) (ids : List ActionId) → CalmQueue q → Each Calm (actions_named q ids)
named-calm q [] calm = tt
named-calm q (id ∷ ids) calm =
    Each-append Calm (option_to_list (action_of q id)) (actions_named q ids)
    (found-calm (λ a. same_id a.id id) (q.greens ++ q.reds) (Each-append Calm q.greens q.reds calm.0 calm.1)) (named-calm q ids calm)

-- what a marking leaves
abbrev CalmMarking : Marking → Type 0
CalmMarking (Marks mark q) = CalmQueue q
CalmMarking (Gaps cut) = Unit {0}

marked_red-calm : (q : QueueView) (a : Action) → Calm a → CalmQueue q → CalmMarking (marked_red q a)
marked_red-calm q a fine calm =
    let cut = index_in q.red_cut a.id.creator in
    cond_both (nat_le a.id.index cut) (Marks Known q) (if a.id.index == suc cut then Marks Placed (placed_red q a) else Gaps cut) CalmMarking
    (λ y. calm)
    (λ n. cond_both (a.id.index == suc cut) (Marks Placed (placed_red q a)) (Gaps cut) CalmMarking (λ y. (calm.0, with_red-calm q.reds a fine calm.1)) (λ m. tt))

with_yellow-calm : (q : QueueView) (id : ActionId) → CalmQueue q → CalmQueue (with_yellow q id)
with_yellow-calm q id calm =
    cond_both (nat_lt (index_in q.green_cut id.creator) id.index && not (has_name q.yellow id)) (record q { yellow = q.yellow ++ id ∷ [] }) q CalmQueue (λ y. calm) (λ n. calm)

and_yellow-calm : (id : ActionId) (m : Marking) → CalmMarking m → CalmMarking (and_yellow id m)
and_yellow-calm id (Marks mark q) calm = with_yellow-calm q id calm
and_yellow-calm id (Gaps cut) calm = tt

-- ---- members

after_kind-left : (m : Members) (place : ℕ) (kind : Kind) → CalmKind kind → m.left ≡ [] → (after_kind m place kind).left ≡ []
after_kind-left m place (Update cmds query) fine e = e
after_kind-left m place (Join joiner weight) fine e =
    cond_both (was_ever m joiner) m (record m { servers = _ }) (λ (n : Members). n.left ≡ []) (λ y. e) (λ n. e)
after_kind-left m place (Leave server) fine e = absurd (let clash : true ≡ false = fine in cc)

-- ---- marks

module _ (p : ℕ) where
  -- a choice
  pub choice-calm : (test : Bool) (t u : Turn) → CalmTurn p t → CalmTurn p u → CalmTurn p (if test then t else u)
  choice-calm true t u a b = a
  choice-calm false t u a b = b

  marked-calm : (t : Turn) (a : Action) (m : Marking) → CalmMarking m → CalmTurn p t → CalmTurn p (marked t a m)
  marked-calm t a (Marks Placed q) queue calm =
      let h = calm.0 in ((h.0, queue, after_first-calm t.replica.held.own a.id h.2, h.3, h.4), calm.1, calm.2)
  marked-calm t a (Marks Known q) queue calm = let h = calm.0 in ((h.0, queue, h.2, h.3, h.4), calm.1, calm.2)
  marked-calm t a (Gaps cut) queue calm = calm

  pub mark_red-calm : (t : Turn) (a : Action) → Calm a → CalmTurn p t → CalmTurn p (mark_red t a)
  unfolding mark_red
  mark_red-calm t a fine calm =
      let h = t.replica.held in
      choice-calm (is_unmade h a) t (marked t a (marked_red h.queue a)) calm
      (marked-calm t a (marked_red h.queue a) (marked_red-calm h.queue a fine calm.0.1) calm)

  pub mark_yellow-calm : (t : Turn) (a : Action) → Calm a → CalmTurn p t → CalmTurn p (mark_yellow t a)
  unfolding mark_yellow
  mark_yellow-calm t a fine calm =
      let h = t.replica.held in
      choice-calm (is_unmade h a) t (marked t a (marked_yellow h.queue a)) calm
      (marked-calm t a (marked_yellow h.queue a) (and_yellow-calm a.id (marked_red h.queue a) (marked_red-calm h.queue a fine calm.0.1)) calm)

  place_green-calm : (t : Turn) (a : Action) → Calm a → CalmTurn p t → CalmTurn p (place_green t a)
  unfolding place_green
  place_green-calm t a fine calm =
      let h = calm.0 in
      let held = t.replica.held in
      let q = held.queue in (
        (
          h.0,
          (Each-append Calm q.greens (a ∷ []) h.1.0 (fine, tt), Each-filter Calm (λ b. not (same_id b.id a.id)) q.reds h.1.1),
          after_first-calm held.own a.id h.2,
          h.3,
          after_kind-left held.members (suc (green_count q)) a.kind fine h.4,
        ),
        calm.1,
        calm.2,
      )

  pub mark_green-calm : (t : Turn) (a : Action) → Calm a → CalmTurn p t → CalmTurn p (mark_green t a)
  unfolding mark_green
  mark_green-calm t a fine calm = choice-calm (can_be_green t.replica.held a) (place_green t a) t (place_green-calm t a fine calm) calm

  pub mark_green_at-calm : (t : Turn) (place : ℕ) (a : Action) → Calm a → CalmTurn p t → CalmTurn p (mark_green_at t place a)
  mark_green_at-calm t place a fine calm =
      choice-calm (place == suc (green_count t.replica.held.queue)) (mark_green t a) t (mark_green-calm t a fine calm) calm

  greens-calm : (t : Turn) (actions : List Action) → Each Calm actions → CalmTurn p t → CalmTurn p (fold mark_green t actions)
  greens-calm t [] each calm = calm
  greens-calm t (a ∷ actions) each calm = greens-calm (mark_green t a) actions each.1 (mark_green-calm t a each.0 calm)

  valid-calm : (h : Held) → CalmHeld p h → Each Calm (valid_yellow h)
  valid-calm h calm = cond_both h.yellow_valid (actions_named h.queue h.queue.yellow) [] (Each Calm) (λ y. named-calm h.queue h.queue.yellow calm.1) (λ n. tt)

  pub install-calm : (t : Turn) → CalmTurn p t → CalmTurn p (install t)
  unfolding install
  install-calm t calm =
      let u = yellow_green t in
      let yellow = greens-calm t (valid_yellow t.replica.held) (valid-calm t.replica.held calm.0) calm in
      greens-calm u u.replica.held.queue.reds yellow.0.1.1 yellow

  -- ---- own actions

  reddened-calm : (t : Turn) (actions : List Action) → Each Calm actions → CalmTurn p t → CalmTurn p (fold redden t actions)
  reddened-calm t [] each calm = calm
  reddened-calm t (a ∷ actions) each calm =
      let q = t.replica.held.queue in
      reddened-calm (redden t a) actions each.1 (marked-calm t a (marked_red q a) (marked_red-calm q a each.0 calm.0.1) calm)

  pub own_to_red-calm : (t : Turn) → CalmTurn p t → CalmTurn p (own_to_red t)
  unfolding own_to_red
  own_to_red-calm t calm =
      let h = calm.0 in
      reddened-calm (forget_own t) t.replica.held.own h.2 ((h.0, h.1, tt, h.3, h.4), calm.1, calm.2)

  -- ---- requests

  create-calm : (t : Turn) (kind : Kind) → CalmKind kind → CalmTurn p t → CalmTurn p (create t kind)
  unfolding create
  create-calm t kind fine calm =
      let h = calm.0 in
      let a = next_action t.replica.held kind in (
        (h.0, h.1, Each-append Calm t.replica.held.own (a ∷ []) h.2 (fine, tt), h.3, h.4),
        calm.1,
        Each-append _ t.sent (_ ∷ []) calm.2 (fine, tt),
      )

  created-calm : (t : Turn) (kinds : List Kind) → Each CalmKind kinds → CalmTurn p t → CalmTurn p (fold create t kinds)
  created-calm t [] each calm = calm
  created-calm t (kind ∷ kinds) each calm = created-calm (create t kind) kinds each.1 (create-calm t kind each.0 calm)

  emptied-calm : (t : Turn) → CalmTurn p t → CalmTurn p (empty_buffer t)
  emptied-calm t calm = let h = calm.0 in ((h.0, h.1, h.2, tt, h.4), calm.1, calm.2)

  create_kept-calm : (t : Turn) → CalmTurn p t → CalmTurn p (create_kept t)
  unfolding create_kept
  create_kept-calm t calm = created-calm (empty_buffer t) t.replica.held.buffered calm.0.3 (emptied-calm t calm)

  pub settle-calm : (t : Turn) → CalmTurn p t → CalmTurn p (settle t)
  settle-calm t calm = choice-calm (is_creating t.replica.state) (create_kept t) t (create_kept-calm t calm) calm

  buffer-calm : (t : Turn) (kind : Kind) → CalmKind kind → CalmTurn p t → CalmTurn p (buffer t kind)
  buffer-calm t kind fine calm =
      let h = calm.0 in
      ((h.0, h.1, h.2, Each-append CalmKind t.replica.held.buffered (kind ∷ []) h.3 (fine, tt), h.4), calm.1, calm.2)

  asked-calm : (test : Bool) (t : Turn) (kind : Kind) → CalmKind kind → CalmTurn p t → CalmTurn p (if test then create t kind else buffer t kind)
  asked-calm test t kind fine calm = choice-calm test (create t kind) (buffer t kind) (create-calm t kind fine calm) (buffer-calm t kind fine calm)

  request_in-calm : (state : State) (t : Turn) (kind : Kind) → CalmKind kind → CalmTurn p t → CalmTurn p (request_in state t kind)
  request_in-calm Left t kind fine calm = calm
  request_in-calm RegPrim t kind fine calm = asked-calm true t kind fine calm
  request_in-calm TransPrim t kind fine calm = asked-calm false t kind fine calm
  request_in-calm (ExchangeStates conf set heard) t kind fine calm = asked-calm false t kind fine calm
  request_in-calm (ExchangeActions conf heard accepted) t kind fine calm = asked-calm false t kind fine calm
  request_in-calm (Construct conf heard) t kind fine calm = asked-calm false t kind fine calm
  request_in-calm (No conf heard) t kind fine calm = asked-calm false t kind fine calm
  request_in-calm Un t kind fine calm = asked-calm false t kind fine calm
  request_in-calm (NonPrim regular) t kind fine calm = asked-calm regular t kind fine calm

  pub request-calm : (t : Turn) (kind : Kind) → CalmKind kind → CalmTurn p t → CalmTurn p (request t kind)
  request-calm t kind fine calm = request_in-calm t.replica.state t kind fine calm
