-- What a turn leaves of the lists that a state speaks of: nothing is waited for in an exchange, and nothing is red in a primary component.
use Rattle.std.proofs.Common.{◌≡◌, ℕ, suc, Bool, true, false, cond, not, List, [], ◌∷◌, ◌++◌, filter, fold, Option, Some, None, refl, ap, ◌∙◌}
use Rattle.std.specs.Prelude.{◌==◌}
use Rattle.cg_base.specs.declared.action_id.ActionId.{ActionId}
use Rattle.cg_base.specs.Ids.{same_id}
use Rattle.cg_base.specs.Sets.{has, is_within}
use Rattle.cg_action.specs.declared.action.Action.{Action}
use Rattle.cg_action.specs.declared.action.Kind.{Kind}
use Rattle.cg_queue.specs.Queue.{Marking, Marks, Gaps, green_count, marked_red, without_action}
use Rattle.cg_queue.specs.declared.mark.Mark.TheVariants.{Placed, Known}
use Rattle.cg_knowledge.specs.declared.summary.Summary.{Summary}
use Rattle.cg_knowledge.specs.Summaries.{senders, gone}
use Rattle.cg_knowledge.specs.Verdict.{decides}
use Rattle.cg_plan.specs.declared.parts.Part.{Part}
use Rattle.cg_plan.specs.Plan.{plan_of}
use Rattle.cg_plan.specs.Progress.{is_done, turn_of}
use Rattle.cg_wire.specs.declared.message.Msg.{Msg}
use Rattle.cg_wire.specs.declared.message.Msg.TheVariants.{Action as ActionMsg, State as StateMsg, GreenItem, RedItem, Cpc}
use Rattle.cg_group.specs.State.{GroupState, configuration}
use Rattle.cg_client.specs.Replica.{Held, State, RegPrim, TransPrim, ExchangeStates, ExchangeActions, Construct, No, Un, NonPrim, Left, Replica}
use Rattle.cg_client.specs.Turn.{Turn, begin, with_held, go_to}
use Rattle.cg_client.specs.Marks.{is_unmade, marked, mark_red, can_be_green, place_green, mark_green, after_first}
use Rattle.cg_client.specs.Requests.{create, create_kept, empty_buffer, settle, is_creating, request, request_in}
use Rattle.cg_client.specs.Summary.{redden, forget_own, own_to_red, enter_exchange}
use Rattle.cg_states.specs.TransPrim.{end_prim}
use Rattle.cg_states.specs.No.{no_record}
use Rattle.cg_states.specs.ExchangeStates.{is_usable, with_heard}
use Rattle.cg_states.specs.ExchangeActions.{progress, is_next, mark_item, take_item, send_part, go_on}
use Rattle.cg_states.specs.PlanEnd.{take_over, attempt, decide, end_plan}
use Rattle.cg_states.specs.ReplicaStep.{on_message, on_regular, after_delivery}
use Rattle.cg_model.specs.FactsReplica.{is_exchanging}
use Rattle.cg_model.specs.Small.{take_newest, newest_conf}
use Rattle.cg_model.specs.Smalls.{is_between}

-- ---- own actions

abbrev pub WaitsForNone : Turn → Type 0
WaitsForNone t = t.replica.held.own ≡ []

either : (b : Bool) (u v : Turn) → WaitsForNone u → WaitsForNone v → WaitsForNone (cond b u v)
either true u v one two = one
either false u v one two = two

none-marked : (t : Turn) (a : Action) (m : Marking) → WaitsForNone t → WaitsForNone (marked t a m)
none-marked t a (Marks Placed q) none = ap (λ own. after_first own a.id) none
none-marked t a (Marks Known q) none = none
none-marked t a (Gaps cut) none = none

none-mark_red : (t : Turn) (a : Action) → WaitsForNone t → WaitsForNone (mark_red t a)
unfolding mark_red
none-mark_red t a none = either (is_unmade t.replica.held a) t (marked t a (marked_red t.replica.held.queue a)) none (none-marked t a (marked_red t.replica.held.queue a) none)

none-mark_green : (t : Turn) (a : Action) → WaitsForNone t → WaitsForNone (mark_green t a)
unfolding mark_green place_green
none-mark_green t a none = either (can_be_green t.replica.held a) (place_green t a) t (ap (λ own. after_first own a.id) none) none

none-mark_item : (t : Turn) (m : Msg) → WaitsForNone t → WaitsForNone (mark_item t m)
none-mark_item t (GreenItem place a) none = either (place == suc (green_count t.replica.held.queue)) (mark_green t a) t (none-mark_green t a none) none
none-mark_item t (RedItem a) none = none-mark_red t a none
none-mark_item t (ActionMsg a) none = none
none-mark_item t (StateMsg s) none = none
none-mark_item t (Cpc id conf) none = none

none-send : (t : Turn) (o : Option Part) → WaitsForNone t → WaitsForNone (send_part t o)
unfolding send_part
none-send t None none = none
none-send t (Some part) none = none

none-end : (t : Turn) (conf : ℕ) (heard : List Summary) → WaitsForNone t → WaitsForNone (end_plan t conf heard)
unfolding end_plan decide attempt take_over
none-end t conf heard none =
    either (has (gone heard) t.replica.held.id) (go_to (empty_buffer t) Left) (decide (with_held t (take_over t.replica.held heard)) conf heard) none
    (either (decides heard) (attempt (with_held t (take_over t.replica.held heard)) conf heard) (go_to (with_held t (take_over t.replica.held heard)) (NonPrim true)) none none)

none-go_on : (t : Turn) (conf : ℕ) (heard : List Summary) (accepted : ℕ) → WaitsForNone t → WaitsForNone (go_on t conf heard accepted)
unfolding go_on
none-go_on t conf heard accepted none =
    let going = go_to t (ExchangeActions conf heard accepted) in
    let o = turn_of (plan_of heard) t.replica.held.id accepted in
    either (is_done (progress heard accepted)) (end_plan (send_part going o) conf heard) (send_part going o) (none-end (send_part going o) conf heard (none-send going o none)) (none-send going o none)

-- nothing is waited for behind a message of an exchange
pub none-message : (state : State) (from : ℕ) (m : Msg) (t : Turn) → is_exchanging state ≡ true → WaitsForNone t → WaitsForNone (on_message state from m t)
unfolding on_message
none-message (ExchangeStates conf set heard) from (StateMsg s) t ex none =
    let more = heard ++ s ∷ [] in
    either (is_usable conf heard from s) (with_heard t conf set more) t
    (either (is_within set (senders more)) (go_on t conf more 0) (go_to t (ExchangeStates conf set more)) (none-go_on t conf more 0 none) none) none
none-message (ExchangeStates conf set heard) from (ActionMsg a) t ex none = none
none-message (ExchangeStates conf set heard) from (GreenItem place a) t ex none = none
none-message (ExchangeStates conf set heard) from (RedItem a) t ex none = none
none-message (ExchangeStates conf set heard) from (Cpc id of_conf) t ex none = none
none-message (ExchangeActions conf heard accepted) from (GreenItem place a) t ex none =
    let taken = take_item t heard (GreenItem place a) in
    either (is_next heard accepted from (GreenItem place a)) (go_on taken conf heard (suc accepted)) t
    (none-go_on taken conf heard (suc accepted) (either (has (gone heard) t.replica.held.id) t (mark_item t (GreenItem place a)) none (none-mark_item t (GreenItem place a) none))) none
none-message (ExchangeActions conf heard accepted) from (RedItem a) t ex none =
    let taken = take_item t heard (RedItem a) in
    either (is_next heard accepted from (RedItem a)) (go_on taken conf heard (suc accepted)) t
    (none-go_on taken conf heard (suc accepted) (either (has (gone heard) t.replica.held.id) t (mark_item t (RedItem a)) none (none-mark_item t (RedItem a) none))) none
none-message (ExchangeActions conf heard accepted) from (ActionMsg a) t ex none = none
none-message (ExchangeActions conf heard accepted) from (StateMsg s) t ex none = none
none-message (ExchangeActions conf heard accepted) from (Cpc id of_conf) t ex none = none
none-message RegPrim from m t ex none = absurd (let clash : false ≡ true = ex in cc)
none-message TransPrim from m t ex none = absurd (let clash : false ≡ true = ex in cc)
none-message (Construct conf heard) from m t ex none = absurd (let clash : false ≡ true = ex in cc)
none-message (No conf heard) from m t ex none = absurd (let clash : false ≡ true = ex in cc)
none-message Un from m t ex none = absurd (let clash : false ≡ true = ex in cc)
none-message (NonPrim regular) from m t ex none = absurd (let clash : false ≡ true = ex in cc)
none-message Left from m t ex none = absurd (let clash : false ≡ true = ex in cc)

-- as a replica comes all its own actions become red
none-reddens : (list : List Action) (t : Turn) → WaitsForNone t → WaitsForNone (fold redden t list)
none-reddens [] t none = none
none-reddens (a ∷ list) t none = none-reddens list (redden t a) (none-marked t a (marked_red t.replica.held.queue a) none)

none-exchange : (t : Turn) (conf : ℕ) (set : List ℕ) → WaitsForNone (enter_exchange t conf set)
unfolding enter_exchange own_to_red
none-exchange t conf set = none-reddens t.replica.held.own (forget_own t) refl

none-regular : (state : State) (r : Replica) (conf : ℕ) (set : List ℕ) → is_between state ≡ true → WaitsForNone (on_regular state conf set (begin r))
unfolding on_regular
none-regular TransPrim r conf set between = none-exchange (with_held (begin r) (end_prim r.held)) conf set
none-regular (No at heard) r conf set between = none-exchange (with_held (begin r) (no_record r.held)) conf set
none-regular Un r conf set between = none-exchange (begin r) conf set
none-regular (NonPrim regular) r conf set between = none-exchange (begin r) conf set
none-regular RegPrim r conf set between = absurd (let clash : false ≡ true = between in cc)
none-regular (ExchangeStates at all heard) r conf set between = absurd (let clash : false ≡ true = between in cc)
none-regular (ExchangeActions at heard accepted) r conf set between = absurd (let clash : false ≡ true = between in cc)
none-regular (Construct at heard) r conf set between = absurd (let clash : false ≡ true = between in cc)
none-regular Left r conf set between = absurd (let clash : false ≡ true = between in cc)

pub none-newest : (g : GroupState Msg) (r : Replica) → is_between r.state ≡ true → WaitsForNone (take_newest g (begin r))
unfolding after_delivery
none-newest g r between = none-regular r.state r (newest_conf g) (configuration g (newest_conf g)).members between

-- ---- reds and yellow names in a primary component

pub record NothingRed (t : Turn) : Type 0 where
  pub reds : t.replica.held.queue.reds ≡ []
  pub yellow : t.replica.held.queue.yellow ≡ []

none-placed : (t : Turn) (a : Action) → NothingRed t → NothingRed (place_green t a)
unfolding place_green
none-placed t a none = record { reds = ap (λ xs. without_action xs a.id) none.reds; yellow = ap (λ (xs : List ActionId). filter (λ id. not (same_id id a.id)) xs) none.yellow }

nothing-green : (t : Turn) (a : Action) → NothingRed t → NothingRed (mark_green t a)
unfolding mark_green
nothing-green t a none = at (can_be_green t.replica.held a) where
  at : (b : Bool) → NothingRed (cond b (place_green t a) t)
  at true = none-placed t a none
  at false = none

-- nothing is red behind a message in a primary component
pub nothing-message : (from : ℕ) (m : Msg) (t : Turn) → NothingRed t → NothingRed (on_message RegPrim from m t)
unfolding on_message
nothing-message from (ActionMsg a) t none = nothing-green t a none
nothing-message from (StateMsg s) t none = none
nothing-message from (GreenItem place a) t none = none
nothing-message from (RedItem a) t none = none
nothing-message from (Cpc id of_conf) t none = none

-- ---- requests change neither

pub record SameLists (old new : Held) : Type 0 where
  pub reds : new.queue.reds ≡ old.queue.reds
  pub yellow : new.queue.yellow ≡ old.queue.yellow
  pub green_cut : new.queue.green_cut ≡ old.queue.green_cut
  pub red_cut : new.queue.red_cut ≡ old.queue.red_cut

same-lists : (h : Held) → SameLists h h
same-lists h = record { reds = refl; yellow = refl; green_cut = refl; red_cut = refl }

lists-then : (a b e : Held) → SameLists a b → SameLists b e → SameLists a e
lists-then a b e one two = record { reds = two.reds ∙ one.reds; yellow = two.yellow ∙ one.yellow; green_cut = two.green_cut ∙ one.green_cut; red_cut = two.red_cut ∙ one.red_cut }

lists-create : (t : Turn) (kind : Kind) → SameLists t.replica.held (create t kind).replica.held
unfolding create
lists-create t kind = record { reds = refl; yellow = refl; green_cut = refl; red_cut = refl }

lists-creates : (list : List Kind) (t : Turn) → SameLists t.replica.held (fold create t list).replica.held
lists-creates [] t = same-lists t.replica.held
lists-creates (k ∷ list) t = lists-then t.replica.held (create t k).replica.held (fold create (create t k) list).replica.held (lists-create t k) (lists-creates list (create t k))

pub lists-settle : (t : Turn) → SameLists t.replica.held (settle t).replica.held
unfolding create_kept
lists-settle t = at (is_creating t.replica.state) where
  at : (b : Bool) → SameLists t.replica.held (cond b (create_kept t) t).replica.held
  at true = lists-then t.replica.held (empty_buffer t).replica.held (create_kept t).replica.held (record { reds = refl; yellow = refl; green_cut = refl; red_cut = refl }) (lists-creates t.replica.held.buffered (empty_buffer t))
  at false = same-lists t.replica.held

lists-request_in : (state : State) (t : Turn) (kind : Kind) → SameLists t.replica.held (request_in state t kind).replica.held
unfolding create
lists-request_in RegPrim t kind = record { reds = refl; yellow = refl; green_cut = refl; red_cut = refl }
lists-request_in TransPrim t kind = record { reds = refl; yellow = refl; green_cut = refl; red_cut = refl }
lists-request_in (ExchangeStates conf set heard) t kind = record { reds = refl; yellow = refl; green_cut = refl; red_cut = refl }
lists-request_in (ExchangeActions conf heard accepted) t kind = record { reds = refl; yellow = refl; green_cut = refl; red_cut = refl }
lists-request_in (Construct conf heard) t kind = record { reds = refl; yellow = refl; green_cut = refl; red_cut = refl }
lists-request_in (No conf heard) t kind = record { reds = refl; yellow = refl; green_cut = refl; red_cut = refl }
lists-request_in Un t kind = record { reds = refl; yellow = refl; green_cut = refl; red_cut = refl }
lists-request_in (NonPrim true) t kind = record { reds = refl; yellow = refl; green_cut = refl; red_cut = refl }
lists-request_in (NonPrim false) t kind = record { reds = refl; yellow = refl; green_cut = refl; red_cut = refl }
lists-request_in Left t kind = same-lists t.replica.held

pub lists-request : (t : Turn) (kind : Kind) → SameLists t.replica.held (request t kind).replica.held
lists-request t kind = lists-request_in t.replica.state t kind

-- in an exchange nothing is created
pub none-settle : (t : Turn) → is_exchanging t.replica.state ≡ true → WaitsForNone t → WaitsForNone (settle t)
none-settle t ex none = either-is (is_creating t.replica.state) (never t.replica.state ex) where
  never : (state : State) → is_exchanging state ≡ true → is_creating state ≡ false
  never (ExchangeStates conf set heard) e = refl
  never (ExchangeActions conf heard accepted) e = refl
  never RegPrim e = absurd (let clash : false ≡ true = e in cc)
  never TransPrim e = refl
  never (Construct conf heard) e = refl
  never (No conf heard) e = refl
  never Un e = refl
  never (NonPrim regular) e = absurd (let clash : false ≡ true = e in cc)
  never Left e = refl

  either-is : (b : Bool) → b ≡ false → WaitsForNone (cond b (create_kept t) t)
  either-is true e = absurd (let clash : true ≡ false = e in cc)
  either-is false e = none

none-request_in : (state : State) (t : Turn) (kind : Kind) → is_exchanging state ≡ true → WaitsForNone t → WaitsForNone (request_in state t kind)
none-request_in (ExchangeStates conf set heard) t kind e none = none
none-request_in (ExchangeActions conf heard accepted) t kind e none = none
none-request_in RegPrim t kind e none = absurd (let clash : false ≡ true = e in cc)
none-request_in TransPrim t kind e none = none
none-request_in (Construct conf heard) t kind e none = none
none-request_in (No conf heard) t kind e none = none
none-request_in Un t kind e none = none
none-request_in (NonPrim regular) t kind e none = absurd (let clash : false ≡ true = e in cc)
none-request_in Left t kind e none = none

pub none-request : (t : Turn) (kind : Kind) → is_exchanging t.replica.state ≡ true → WaitsForNone t → WaitsForNone (request t kind)
none-request t kind ex none = none-request_in t.replica.state t kind ex none
