-- What a replica makes in its whole step: the last of its own actions, each the next of its creator, with its greens as its line.
use Rattle.std.proofs.Common.{◌≡◌, ℕ, suc, ◌≤◌, Bool, true, false, cond, List, [], ◌∷◌, ◌++◌, fold, refl, sym, ap, ◌∙◌, subst, arith, eqb-true, leb-true, nat_le}
use Rattle.std.specs.Prelude.{◌==◌}
use Rattle.std.proofs.lemmas.Bool.{and_parts}
use Rattle.std.proofs.lemmas.List.{append-nil, append_assoc}
use Rattle.cg_base.specs.Lists.{Each}
use Rattle.cg_base.specs.EachLaws.{Each-append}
use Rattle.cg_base.specs.declared.action_id.ActionId.{ActionId}
use Rattle.cg_base.specs.declared.weighted.Weighted.{Weighted}
use Rattle.cg_base.specs.Cuts.{index_in}
use Rattle.cg_action.specs.declared.action.Action.{Action}
use Rattle.cg_action.specs.declared.action.Kind.{Kind}
use Rattle.cg_queue.specs.Queue.{names_of, green_count}
use Rattle.cg_client.specs.Replica.{Held, State, RegPrim, TransPrim, ExchangeStates, ExchangeActions, Construct, No, Un, NonPrim, Left, Replica, created}
use Rattle.cg_client.specs.Turn.{Turn, begin, with_held}
use Rattle.cg_client.specs.Requests.{is_creating, next_action, create, create_kept, empty_buffer, buffer, settle, request_in, request}
use Rattle.cg_states.specs.ReplicaStep.{Input, Deliveries, Asks, replica_step, after_delivery}
use Rattle.cg_disk_records.specs.Holds.{run_on, cut_behind, Rising}
use Rattle.cg_disk_records.specs.RunLaws.{run_on-next}
use Rattle.cg_agree_lemmas.specs.HeldMarks.{IsOneself, are_within}
use Rattle.cg_disk_records.specs.HeldLaws.{names-behind, are_of, created-behind}
use Rattle.cg_agree_lemmas.specs.HeldAll.{run-within}
use Rattle.cg_agree_lemmas.specs.DiskAhead.{OwnRuns}
use Rattle.cg_agree_lemmas.specs.CreatedKept.{StaysCreated, created-rule, created-first}
use Rattle.cg_agree_lemmas.specs.MadeGrows.{IsShown, create-shown, buffered-shown, stays-shown}
use Rattle.cg_agree_lemmas.specs.TurnRows.{of-deliveries}
use Rattle.cg_model.specs.RowLaws.{any-deliveries}

-- an action is of that replica, made with the greens that it has
abbrev pub IsOwnNow : Held → Action → Type 0
IsOwnNow h a = (a.id.creator ≡ h.id) × (a.green_line ≡ green_count h.queue)

-- what was made in a turn of a replica that held this, where this cut was shown as made
pub record Makes (cut : List ActionId) (old : Held) (t : Turn) : Type 0 where
  pub shown : IsShown cut old t
  pub run : run_on cut (names_of t.made) ≡ true
  pub kept : List Action
  pub own : t.replica.held.own ≡ kept ++ t.made
  pub now : Each (IsOwnNow t.replica.held) t.made
  pub below : Each (λ a. a.id.index ≤ created old) kept
  pub red : index_in t.replica.held.queue.red_cut old.id ≤ created old

-- ---- own actions that were made before

within-each : (far : List ActionId) (me n : ℕ) (own : List Action) → index_in far me ≤ n → are_within far (names_of own) ≡ true → are_of me own ≡ true → Each (λ a. a.id.index ≤ n) own
within-each far me n [] le within mine = tt
within-each far me n (a ∷ own) le within mine =
    let first = and_parts (nat_le a.id.index (index_in far a.id.creator)) (are_within far (names_of own)) within in
    let of_me = and_parts (a.id.creator == me) (are_of me own) mine in
    let below : a.id.index ≤ index_in far a.id.creator = leb-true a.id.index (index_in far a.id.creator) first.0 in
    let here : index_in far a.id.creator ≡ index_in far me = ap (index_in far) (eqb-true a.id.creator me of_me.0) in
    (omega arith, within-each far me n own le first.1 of_me.1)

pub own-below : (h : Held) → OwnRuns h → Each (λ a. a.id.index ≤ created h) h.own
own-below h own =
    let far = cut_behind h.queue.red_cut (names_of h.own) in
    let behind : index_in far h.id ≡ created h = created-behind h.queue.red_cut h.id h.own own.rising own.run own.mine in
    within-each far h.id (created h) h.own (omega arith) (run-within h.queue.red_cut (names_of h.own) own.rising own.run) own.mine

-- ---- requests

module _ (cut : List ActionId) (rising : Rising 0 cut) (old : Held) where
  create-makes : (t : Turn) (kind : Kind) → Makes cut old t → Makes cut old (create t kind)
  unfolding create
  create-makes t kind is =
      let h = t.replica.held in
      let a = next_action h kind in
      let far = cut_behind cut (names_of t.made) in
      let next : a.id.index ≡ suc (index_in far a.id.creator) = ap suc (sym is.shown.counted ∙ ap (index_in far) (sym is.shown.id)) in
      record {
        shown = create-shown cut rising old t kind is.shown;
        run = ap (run_on cut) (names-behind t.made a) ∙ run_on-next cut (names_of t.made) a.id is.run next;
        kept = is.kept;
        own = ap (λ xs. xs ++ a ∷ []) is.own ∙ append_assoc is.kept t.made (a ∷ []);
        now = Each-append (IsOwnNow h) t.made (a ∷ []) is.now ((refl, refl), tt);
        below = is.below;
        red = is.red;
      }

  creates-make : (list : List Kind) (t : Turn) → Makes cut old t → Makes cut old (fold create t list)
  creates-make [] t is = is
  creates-make (kind ∷ list) t is = creates-make list (create t kind) (create-makes t kind is)

  buffered-makes : (t : Turn) (list : List Kind) → Makes cut old t → (let h = t.replica.held in Makes cut old (with_held t (record h { buffered = list })))
  buffered-makes t list is =
      record { shown = buffered-shown cut rising old t list is.shown; run = is.run; kept = is.kept; own = is.own; now = is.now; below = is.below; red = is.red }

  settle-makes : (t : Turn) → Makes cut old t → Makes cut old (settle t)
  unfolding create_kept
  settle-makes t is = at (is_creating t.replica.state) where
    at : (b : Bool) → Makes cut old (cond b (create_kept t) t)
    at true = creates-make t.replica.held.buffered (empty_buffer t) (buffered-makes t [] is)
    at false = is

  request-makes : (t : Turn) (kind : Kind) → Makes cut old t → Makes cut old (request t kind)
  request-makes t kind is = at t.replica.state where
    made : Makes cut old (create t kind)
    made = create-makes t kind is

    kept : Makes cut old (buffer t kind)
    kept = buffered-makes t (t.replica.held.buffered ++ kind ∷ []) is

    at : (state : State) → Makes cut old (request_in state t kind)
    at RegPrim = made
    at (NonPrim true) = made
    at Left = is
    at TransPrim = kept
    at (ExchangeStates conf set heard) = kept
    at (ExchangeActions conf heard accepted) = kept
    at (Construct conf heard) = kept
    at (No conf heard) = kept
    at Un = kept
    at (NonPrim false) = kept

  -- what was handed makes nothing
  stays-makes : index_in cut old.id ≡ created old → (t : Turn) → StaysCreated old t → Makes cut old t
  stays-makes counts t stays =
      let h = t.replica.held in
      let same : created h ≡ created old = stays.held.created in
      let here : index_in h.queue.red_cut h.id ≡ index_in h.queue.red_cut old.id = ap (index_in h.queue.red_cut) stays.held.id in
      record {
        shown = stays-shown cut rising old counts t stays;
        run = ap (λ made. run_on cut (names_of made)) stays.made;
        kept = h.own;
        own = sym (ap (λ made. h.own ++ made) stays.made ∙ append-nil h.own);
        now = subst (Each (IsOwnNow h)) (sym stays.made) tt;
        below = subst (λ n. Each (λ a. a.id.index ≤ n) h.own) same (own-below h stays.held.own);
        red = omega arith;
      }

-- A replica's whole step.
pub step-makes : (cut : List ActionId) (start : List Weighted) (r : Replica) (all : List Action) (input : Input) → Rising 0 cut → IsOneself start r.held all →
    index_in cut r.held.id ≡ created r.held → Makes cut r.held (replica_step r input)
unfolding replica_step
step-makes cut start r all (Deliveries list) rising is counts =
    let t = fold after_delivery (begin r) list in
    settle-makes cut rising r.held t (stays-makes cut rising r.held counts t
    (of-deliveries (StaysCreated r.held) (λ a. Unit {0}) (created-rule r.held) (begin r) list (any-deliveries list) (record { held = created-first start r.held all is; made = refl })))
step-makes cut start r all (Asks kind) rising is counts =
    request-makes cut rising r.held (begin r) kind (stays-makes cut rising r.held counts (begin r) (record { held = created-first start r.held all is; made = refl }))
