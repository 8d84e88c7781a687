-- What a replica's whole step says, where it owes the replies to its own actions behind a number: it answers those of them that become
-- green, makes its next actions, and owes their replies too.
use Rattle.std.proofs.Common.{◌≡◌, ℕ, suc, ◌+◌, ◌-◌, ◌≤◌, max, Bool, true, false, cond, List, [], ◌∷◌, ◌++◌, filter, fold, refl, sym, ap, ap₂, ◌∙◌, subst, arith}
use Rattle.cg_base.specs.declared.action_id.ActionId.{ActionId}
use Rattle.cg_base.specs.declared.weighted.Weighted.{Weighted}
use Rattle.cg_base.specs.Cuts.{index_in}
use Rattle.cg_action.specs.declared.action.Action.{Action}
use Rattle.cg_action.specs.declared.action.Kind.{Kind}
use Rattle.cg_queue.specs.Queue.{names_of}
use Rattle.cg_client.specs.Replica.{Held, State, RegPrim, TransPrim, ExchangeStates, ExchangeActions, Construct, No, Un, NonPrim, Left, Replica, last_index, created}
use Rattle.cg_client.specs.Turn.{Turn, begin, with_held}
use Rattle.cg_client.specs.Requests.{is_creating, next_action, create, create_kept, empty_buffer, buffer, settle, request_in, request}
use Rattle.cg_states.specs.ReplicaStep.{Input, Deliveries, Asks, replica_step, after_delivery}
use Rattle.cg_disk_records.specs.Holds.{cut_behind}
use Rattle.cg_agree_lemmas.specs.HeldMarks.{IsOneself, rising-green}
use Rattle.cg_agree_lemmas.specs.CreatedKept.{StaysCreated, created-rule, created-first}
use Rattle.cg_agree_lemmas.specs.TurnRows.{of-deliveries}
use Rattle.cg_agree_lemmas.specs.MadeWorlds.{IsCoreAt}
use Rattle.cg_agree_lemmas.specs.RepliesPlaced.{reply_ids}
use Rattle.cg_agree_lemmas.specs.TurnReplies.{owed_behind, replies_in, IsAnswered, step-answered}
use Rattle.cg_agree_lemmas.specs.OwedNames.{own_name, own_names, own-append, is_behind, owed_names, owed-on}
use Rattle.cg_disk_records.specs.HeldLaws.{names-behind}
use Rattle.cg_model.specs.RowLaws.{any-deliveries}
use Rattle.cg_client.specs.OwnLaws.{last_index-push}

-- ---- what is made

-- the next own actions were made in the turn, so many; and no own action is green that wasn't made before it
record HasMade (old : Held) (t : Turn) : Type 0 where
  id : t.replica.held.id ≡ old.id
  count : ℕ
  reached : created t.replica.held ≡ created old + count
  made : names_of t.made ≡ own_names old.id (created old) count
  green : index_in t.replica.held.queue.green_cut old.id ≤ created old

create-makes : (old : Held) (t : Turn) (kind : Kind) → HasMade old t → HasMade old (create t kind)
unfolding create
create-makes old t kind is =
    let h = t.replica.held in
    let a = next_action h kind in
    let count = is.count in
    let before : max (index_in h.queue.red_cut h.id) (last_index h.own) ≡ created old + count = is.reached in
    let last : last_index (h.own ++ a ∷ []) ≡ suc (max (index_in h.queue.red_cut h.id) (last_index h.own)) = last_index-push h.own a in
    let now : max (index_in h.queue.red_cut h.id) (last_index (h.own ++ a ∷ [])) ≡ created old + suc count = omega arith in
    let name : a.id ≡ own_name old.id (suc (created old + count)) = (λ i. record { creator = is.id i; index = suc (is.reached i) }) in
    let sum : suc count ≡ count + 1 = omega arith in
    record {
      id = is.id;
      count = suc count;
      reached = now;
      made = names-behind t.made a ∙ ap₂ (λ (xs ys : List ActionId). xs ++ ys) is.made (ap (λ id. id ∷ []) name)
          ∙ sym (ap (own_names old.id (created old)) sum ∙ own-append old.id (created old) count 1);
      green = is.green;
    }

creates-make : (old : Held) (list : List Kind) (t : Turn) → HasMade old t → HasMade old (fold create t list)
creates-make old [] t is = is
creates-make old (kind ∷ list) t is = creates-make old list (create t kind) (create-makes old t kind is)

buffered-made : (old : Held) (t : Turn) (list : List Kind) → HasMade old t → (let h = t.replica.held in HasMade old (with_held t (record h { buffered = list })))
buffered-made old t list is = record { id = is.id; count = is.count; reached = is.reached; made = is.made; green = is.green }

settle-makes : (old : Held) (t : Turn) → HasMade old t → HasMade old (settle t)
unfolding create_kept
settle-makes old t is = at (is_creating t.replica.state) where
  at : (b : Bool) → HasMade old (cond b (create_kept t) t)
  at true = creates-make old t.replica.held.buffered (empty_buffer t) (buffered-made old t [] is)
  at false = is

request-makes : (old : Held) (t : Turn) (kind : Kind) → HasMade old t → HasMade old (request t kind)
request-makes old t kind is = at t.replica.state where
  made : HasMade old (create t kind)
  made = create-makes old t kind is

  kept : HasMade old (buffer t kind)
  kept = buffered-made old t (t.replica.held.buffered ++ kind ∷ []) is

  at : (state : State) → HasMade old (request_in state t kind)
  at RegPrim = made
  at (NonPrim true) = made
  at Left = is
  at TransPrim = kept
  at (ExchangeStates conf set heard) = kept
  at (ExchangeActions conf heard accepted) = kept
  at (Construct conf heard) = kept
  at (No conf heard) = kept
  at Un = kept
  at (NonPrim false) = kept

stays-made : (old : Held) (t : Turn) → StaysCreated old t → HasMade old t
stays-made old t stays =
    let h = t.replica.held in
    let below : index_in h.queue.green_cut old.id ≤ index_in h.queue.red_cut old.id = stays.held.below old.id in
    let here : index_in h.queue.red_cut h.id ≡ index_in h.queue.red_cut old.id = ap (index_in h.queue.red_cut) stays.held.id in
    let same : max (index_in h.queue.red_cut h.id) (last_index h.own) ≡ created old = stays.held.created in
    record { id = stays.held.id; count = 0; reached = omega arith; made = ap names_of stays.made; green = omega arith }

step-makes : (start : List Weighted) (r : Replica) (all : List Action) (input : Input) → IsOneself start r.held all → HasMade r.held (replica_step r input)
unfolding replica_step
step-makes start r all (Deliveries list) is =
    let t = fold after_delivery (begin r) list in
    settle-makes r.held t (stays-made r.held t
    (of-deliveries (StaysCreated r.held) (λ a. Unit {0}) (created-rule r.held) (begin r) list (any-deliveries list) (record { held = created-first start r.held all is; made = refl })))
step-makes start r all (Asks kind) is = request-makes r.held (begin r) kind (stays-made r.held (begin r) (record { held = created-first start r.held all is; made = refl }))

-- ---- what is owed

-- it owes the replies to its own actions behind a number, as far as they aren't green
pub record IsOwing (p base : ℕ) (h : Held) : Type 0 where
  pub low : base ≤ created h
  pub owed : h.owed ≡ owed_names p base (index_in h.queue.green_cut p) (created h)

pub record SaysSo (p base : ℕ) (old : Held) (t : Turn) : Type 0 where
  pub answered : IsAnswered old t
  pub replies : reply_ids t.replies ≡ filter (is_behind p base) (names_of answered.more)
  pub count : ℕ
  pub reached : created t.replica.held ≡ created old + count
  pub made : names_of t.made ≡ own_names p (created old) count
  pub green : index_in t.replica.held.queue.green_cut p ≤ created old
  pub owing : IsOwing p base t.replica.held

pub step-says : (start : List Weighted) (p base : ℕ) (r : Replica) (input : Input) → IsCoreAt start p r.held → IsOwing p base r.held → SaysSo p base r.held (replica_step r input)
step-says start p base r input core owing =
    let old = r.held in
    let t = replica_step r input in
    let h = t.replica.held in
    let is = step-answered r input in
    let makes = step-makes start r core.greens input core.is in
    let cut = old.queue.green_cut in
    let g = index_in cut p in
    let now = index_in h.queue.green_cut p in
    let high : now ≤ created old = subst (λ n. index_in h.queue.green_cut n ≤ created old) core.id makes.green in
    let reached : index_in (cut_behind cut (names_of is.more)) p ≡ now = ap (λ c. index_in c p) (sym is.cut) in
    let low = owing.low in
    let on = owed-on p base (created old) low is.more cut old.db (rising-green start old core.greens core.is) is.run (omega arith) in
    let count = makes.count in
    let made : names_of t.made ≡ own_names p (created old) count = makes.made ∙ ap (λ n. own_names n (created old) count) core.id in
    let first = max now base in
    let left = created old - max now base in
    let total : first + left ≡ created old = omega arith in
    let sum : created h - max now base ≡ left + count = (let more : created h ≡ created old + count = makes.reached in omega arith) in
    record {
      answered = is;
      replies = ap reply_ids is.replies ∙ ap (λ o. reply_ids (replies_in o old.db is.more)) owing.owed ∙ on.1;
      count = count;
      reached = makes.reached;
      made = made;
      green = high;
      owing = record {
        low = (let more : created h ≡ created old + count = makes.reached in omega arith);
        owed = is.owed
            ∙ ap₂ (λ (xs ys : List ActionId). xs ++ ys) (ap (λ o. owed_behind o is.more) owing.owed ∙ on.0 ∙ ap (λ n. own_names p (max n base) (created old - max n base)) reached) made
            ∙ ap (λ n. own_names p first left ++ own_names p n count) (sym total)
            ∙ sym (ap (own_names p first) sum ∙ own-append p first left count);
      };
    }
