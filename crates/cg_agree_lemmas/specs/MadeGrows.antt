-- What was shown as made, with what a replica's whole step makes, counts what it has created; and none of its own actions that it
-- created in the step is green behind it.
use Rattle.std.proofs.Common.{◌≡◌, ℕ, suc, ◌≤◌, max, Bool, true, false, cond, List, [], ◌∷◌, ◌++◌, fold, refl, sym, ap, ◌∙◌, arith}
use Rattle.cg_base.specs.declared.action_id.ActionId.{ActionId}
use Rattle.cg_base.specs.declared.weighted.Weighted.{Weighted}
use Rattle.cg_base.specs.Cuts.{index_in, raise}
use Rattle.cg_action.specs.declared.action.Action.{Action}
use Rattle.cg_action.specs.declared.action.Kind.{Kind}
use Rattle.cg_queue.specs.Queue.{names_of}
use Rattle.cg_client.specs.Replica.{Held, State, RegPrim, TransPrim, ExchangeStates, ExchangeActions, Construct, No, Un, NonPrim, Left, Replica, last_index, created}
use Rattle.cg_client.specs.Turn.{Turn, begin, with_held}
use Rattle.cg_client.specs.Requests.{is_creating, next_action, create, create_kept, empty_buffer, buffer, settle, request_in, request}
use Rattle.cg_states.specs.ReplicaStep.{Input, Deliveries, Asks, replica_step, after_delivery}
use Rattle.cg_disk_records.specs.Holds.{run_on, cut_behind, Rising}
use Rattle.cg_disk_records.specs.CutRaiseLaws.{index-same, index-other, rising-behind}
use Rattle.cg_disk_records.specs.RunLaws.{cut_behind-append, run_on-next}
use Rattle.cg_agree_lemmas.specs.HeldMarks.{IsOneself}
use Rattle.cg_disk_records.specs.HeldLaws.{names-behind, created-behind}
use Rattle.cg_agree_lemmas.specs.DiskAhead.{OwnRuns}
use Rattle.cg_agree_lemmas.specs.CreatedKept.{StaysCreated, created-rule, created-first}
use Rattle.cg_agree_lemmas.specs.TurnRows.{of-deliveries}
use Rattle.cg_disk_records.specs.HoldsValueLaws.{mine-behind}
use Rattle.cg_model.specs.RowLaws.{any-deliveries}

-- a cut, with what was made in the turn, counts what the replica has created; others' counts stay; and own greens are no more than
-- what it had created
pub record IsShown (cut : List ActionId) (old : Held) (t : Turn) : Type 0 where
  pub id : t.replica.held.id ≡ old.id
  pub counted : index_in (cut_behind cut (names_of t.made)) old.id ≡ created t.replica.held
  pub others : (q : ℕ) → (q ≡ old.id → ⊥) → index_in (cut_behind cut (names_of t.made)) q ≡ index_in cut q
  pub green : index_in t.replica.held.queue.green_cut old.id ≤ created old
  pub more : created old ≤ created t.replica.held
  pub own : OwnRuns t.replica.held

module _ (cut : List ActionId) (rising : Rising 0 cut) (old : Held) where
  pub create-shown : (t : Turn) (kind : Kind) → IsShown cut old t → IsShown cut old (create t kind)
  unfolding create
  create-shown t kind is =
      let h = t.replica.held in
      let a = next_action h kind in
      let far = cut_behind cut (names_of t.made) in
      let far_rises : Rising 0 far = rising-behind cut (names_of t.made) rising in
      let on : cut_behind cut (names_of (t.made ++ a ∷ [])) ≡ raise far a.id = ap (cut_behind cut) (names-behind t.made a) ∙ cut_behind-append cut (names_of t.made) (a.id ∷ []) in
      let reached : index_in (raise far a.id) old.id ≡ max (index_in far old.id) (suc (created h)) = index-same far a.id far_rises old.id is.id in
      let count : index_in far old.id ≡ created h = is.counted in
      let now : index_in (raise far a.id) old.id ≡ suc (created h) = omega arith in
      let own_cut : cut_behind h.queue.red_cut (names_of (h.own ++ a ∷ [])) ≡ raise (cut_behind h.queue.red_cut (names_of h.own)) a.id =
      ap (cut_behind h.queue.red_cut) (names-behind h.own a) ∙ cut_behind-append h.queue.red_cut (names_of h.own) (a.id ∷ []) in
      let behind : index_in (cut_behind h.queue.red_cut (names_of h.own)) h.id ≡ created h = created-behind h.queue.red_cut h.id h.own is.own.rising is.own.run is.own.mine in
      let runs : run_on h.queue.red_cut (names_of (h.own ++ a ∷ [])) ≡ true =
      ap (run_on h.queue.red_cut) (names-behind h.own a) ∙ run_on-next h.queue.red_cut (names_of h.own) a.id is.own.run (ap suc (sym behind)) in
      let mine = mine-behind h.id h.own a is.own.mine refl in
      let new_behind : index_in (cut_behind h.queue.red_cut (names_of (h.own ++ a ∷ []))) h.id ≡ max (index_in h.queue.red_cut h.id) (last_index (h.own ++ a ∷ [])) =
      created-behind h.queue.red_cut h.id (h.own ++ a ∷ []) is.own.rising runs mine in
      let raised : index_in (raise (cut_behind h.queue.red_cut (names_of h.own)) a.id) h.id ≡ max (index_in (cut_behind h.queue.red_cut (names_of h.own)) h.id) (suc (created h)) =
      index-same (cut_behind h.queue.red_cut (names_of h.own)) a.id (rising-behind h.queue.red_cut (names_of h.own) is.own.rising) h.id refl in
      let most : index_in (raise (cut_behind h.queue.red_cut (names_of h.own)) a.id) h.id ≡ suc (created h) = omega arith in
      let made : max (index_in h.queue.red_cut h.id) (last_index (h.own ++ a ∷ [])) ≡ suc (created h) = sym new_behind ∙ ap (λ c. index_in c h.id) own_cut ∙ most in
      record {
        id = is.id;
        counted = ap (λ c. index_in c old.id) on ∙ now ∙ sym made;
        others = λ q apart. ap (λ c. index_in c q) on ∙ index-other far a.id far_rises q (λ e. apart (sym e ∙ is.id)) ∙ is.others q apart;
        green = is.green;
        more = (let low = is.more in omega arith);
        own = record { rising = is.own.rising; run = runs; mine = mine };
      }

  creates-shown : (list : List Kind) (t : Turn) → IsShown cut old t → IsShown cut old (fold create t list)
  creates-shown [] t is = is
  creates-shown (kind ∷ list) t is = creates-shown list (create t kind) (create-shown t kind is)

  pub buffered-shown : (t : Turn) (list : List Kind) → IsShown cut old t → (let h = t.replica.held in IsShown cut old (with_held t (record h { buffered = list })))
  buffered-shown t list is = record {
    id = is.id;
    counted = is.counted;
    others = is.others;
    green = is.green;
    more = is.more;
    own = record { rising = is.own.rising; run = is.own.run; mine = is.own.mine };
  }

  settle-shown : (t : Turn) → IsShown cut old t → IsShown cut old (settle t)
  unfolding create_kept
  settle-shown t is = at (is_creating t.replica.state) where
    at : (b : Bool) → IsShown cut old (cond b (create_kept t) t)
    at true = creates-shown t.replica.held.buffered (empty_buffer t) (buffered-shown t [] is)
    at false = is

  request-shown : (t : Turn) (kind : Kind) → IsShown cut old t → IsShown cut old (request t kind)
  request-shown t kind is = at t.replica.state where
    made : IsShown cut old (create t kind)
    made = create-shown t kind is

    kept : IsShown cut old (buffer t kind)
    kept = buffered-shown t (t.replica.held.buffered ++ kind ∷ []) is

    at : (state : State) → IsShown cut old (request_in state t kind)
    at RegPrim = made
    at (NonPrim true) = made
    at Left = is
    at TransPrim = kept
    at (ExchangeStates conf set heard) = kept
    at (ExchangeActions conf heard accepted) = kept
    at (Construct conf heard) = kept
    at (No conf heard) = kept
    at Un = kept
    at (NonPrim false) = kept

  -- what was handed creates nothing
  pub stays-shown : index_in cut old.id ≡ created old → (t : Turn) → StaysCreated old t → IsShown cut old t
  stays-shown counts t stays =
      let h = t.replica.held in
      let none : cut_behind cut (names_of t.made) ≡ cut = ap (λ made. cut_behind cut (names_of made)) stays.made in
      let below : index_in h.queue.green_cut old.id ≤ index_in h.queue.red_cut old.id = stays.held.below old.id in
      let here : index_in h.queue.red_cut h.id ≡ index_in h.queue.red_cut old.id = ap (index_in h.queue.red_cut) stays.held.id in
      let same : max (index_in h.queue.red_cut h.id) (last_index h.own) ≡ created old = stays.held.created in
      record {
        id = stays.held.id;
        counted = ap (λ c. index_in c old.id) none ∙ counts ∙ sym stays.held.created;
        others = λ q apart. ap (λ c. index_in c q) none;
        green = omega arith;
        more = omega arith;
        own = stays.held.own;
      }

-- A replica's whole step.
pub step-shown : (cut : List ActionId) (start : List Weighted) (r : Replica) (all : List Action) (input : Input) → Rising 0 cut → IsOneself start r.held all →
    index_in cut r.held.id ≡ created r.held → IsShown cut r.held (replica_step r input)
unfolding replica_step
step-shown cut start r all (Deliveries list) rising is counts =
    let t = fold after_delivery (begin r) list in
    settle-shown cut rising r.held t (stays-shown cut rising r.held counts t
    (of-deliveries (StaysCreated r.held) (λ a. Unit {0}) (created-rule r.held) (begin r) list (any-deliveries list) (record { held = created-first start r.held all is; made = refl })))
step-shown cut start r all (Asks kind) rising is counts =
    request-shown cut rising r.held (begin r) kind (stays-shown cut rising r.held counts (begin r) (record { held = created-first start r.held all is; made = refl }))
