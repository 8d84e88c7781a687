-- The rows of the table for a fact of a turn of which what is held holds: each change of it keeps the fact.
use Rattle.std.proofs.Common.{◌≡◌, ℕ, suc, ◌+◌, ◌≤◌, ◌<◌, ◌≢◌, List, [], ◌∷◌, ◌++◌, max, fold, find, Bool, true, false, Option, refl, sym, ◌∙◌, subst, arith, inl, inr, nat_lt, length}
use Rattle.std.specs.Option.{option_to_list}
use Rattle.std.proofs.lemmas.Bool.{cases_eq, cases_order, cases_Bool, eq-eqb, ne_eqb, le-ltb, and_parts}
use Rattle.cg_base.specs.declared.action_id.ActionId.{ActionId}
use Rattle.cg_base.specs.Ids.{same_id, has_name}
use Rattle.cg_base.specs.Cuts.{index_in, raise}
use Rattle.cg_action.specs.declared.action.Action.{Action}
use Rattle.cg_action.specs.declared.action.Kind.{Kind}
use Rattle.cg_queue.specs.Distinct.{is_distinct}
use Rattle.cg_queue.specs.Queue.{names_of, placed_red, action_of, QueueView}
use Rattle.cg_records.specs.declared.primary.Primary.{Primary}
use Rattle.cg_records.specs.declared.vulnerable.Vulnerable.{Vulnerable}
use Rattle.cg_base.specs.Lists.{Each}
use Rattle.cg_wire.specs.declared.message.Msg.{Msg}
use Rattle.cg_group.specs.declared.delivery.Delivery.{Delivery}
use Rattle.cg_client.specs.Replica.{Held, State, Left}
use Rattle.cg_client.specs.Turn.{Turn, with_held}
use Rattle.cg_client.specs.Marks.{is_unmade, newly_known, place_green}
use Rattle.cg_client.specs.Requests.{empty_buffer, buffer}
use Rattle.cg_client.specs.Summary.{own_to_red}
use Rattle.cg_client.specs.Install.{actions_named, valid_yellow}
use Rattle.cg_states.specs.PlanEnd.{usable_names, with_name}
use Rattle.cg_states.specs.ExchangeActions.{messages_in_part}
use Rattle.cg_states.specs.ReplicaStep.{after_delivery}
use Rattle.cg_disk_records.specs.Holds.{CountsTo, Holds}
use Rattle.cg_model.specs.Recorded.{OfDelivery}
use Rattle.cg_model.specs.RowLaws.{IsRowRule, yellowed_in, of-deliveries as rows-deliveries}
use Rattle.cg_disk_records.specs.Following.{are_yellow}
use Rattle.cg_disk_records.specs.Agreeing.{indexes_of}
use Rattle.cg_base.specs.IdLaws.{same_id-false}
use Rattle.cg_base.specs.EachLaws.{Each-append}
use Rattle.cg_disk_records.specs.CutRaiseLaws.{index-same}
use Rattle.cg_disk_records.specs.RunMarkLaws.{run-names}
use Rattle.cg_disk_records.specs.HeldLaws.{each-found}
use Rattle.cg_disk_records.specs.HoldsValueLaws.{yellow-behind, with_values_of, yellowed}
use Rattle.cg_disk_records.specs.HoldsMarkLaws.{are_red, known_by, rising-red, holds-known}

-- the replica goes to a state, and messages are sent
abbrev pub quietly : Turn → State → List Msg → Turn
quietly t state sent = let r = t.replica in record t { replica = record r { state = state }; sent = sent }

-- what holds of what is held, and of each action that may come, is kept by each change
pub record IsRule (P : Turn → Type 0) (Fine : Action → Type 0) : Type 0 where
  pub holds : (t : Turn) → P t → Holds t.replica.held
  pub reds : (t : Turn) → P t → Each Fine t.replica.held.queue.reds
  pub quiet : (t : Turn) (state : State) (sent : List Msg) → P t → P (quietly t state sent)
  pub values : (t : Turn) (yellow : List ActionId) (valid : Bool) (prim : Primary) (index : ℕ) (v : Option Vulnerable) (buffered : List Kind) →
      are_yellow t.replica.held.queue yellow ≡ true → P t → P (with_held t (with_values_of t.replica.held yellow valid prim index v buffered))
  pub known : (t : Turn) (a : Action) → Fine a → a.id.index ≡ suc (index_in t.replica.held.queue.red_cut a.id.creator) → is_unmade t.replica.held a ≡ false →
      P t → P (newly_known t a (placed_red t.replica.held.queue a))
  pub green : (t : Turn) (a : Action) → Fine a → a.id.index ≡ suc (index_in t.replica.held.queue.green_cut a.id.creator) → is_unmade t.replica.held a ≡ false →
      P t → P (place_green t a)
  pub own_red : (t : Turn) → P t → P (own_to_red t)

-- ---- yellow names that may be used

usable-from : (q : QueueView) (list ids : List ActionId) → are_yellow q list ≡ true → are_yellow q (fold (with_name q) list ids) ≡ true
usable-from q list [] yellow = yellow
usable-from q list (id ∷ ids) yellow = usable-from q (with_name q list id) ids (elim (cases_Bool (has_name (names_of q.reds) id)) [
  | inl red ↦ elim (cases_Bool (has_name list id)) [
    | inl there ↦ rw (red, there) yellow
    | inr new ↦ rw (red, new) (yellow-behind q list id yellow red new)
  ]
  | inr other ↦ rw other yellow
])

pub usable-yellow : (q : QueueView) (ids : List ActionId) → are_yellow q (usable_names q ids) ≡ true
unfolding usable_names
usable-yellow q ids = usable-from q [] ids refl

-- ---- lists of fine actions

-- an action that isn't green is looked for among the reds
pub find-red : (greens reds : List Action) (id : ActionId) (last : ℕ) → CountsTo last (indexes_of greens id.creator) → last < id.index →
    find (λ a. same_id a.id id) (greens ++ reds) ≡ find (λ a. same_id a.id id) reds
find-red [] reds id last counts lt = refl
find-red (g ∷ greens) reds id last counts lt = elim (cases_eq g.id.creator id.creator) [
  | inl same ↦
      let both : CountsTo last (g.id.index ∷ indexes_of greens id.creator) = here same counts in
      let whole : g.id.index + length (indexes_of greens id.creator) ≡ last = both.1 in
      rw (same_id-false g.id id (inr (λ e. omega arith))) (find-red greens reds id last both.2 lt)
  | inr apart ↦
      rw (same_id-false g.id id (inl apart)) (find-red greens reds id last (there apart counts) lt)
]
  where
    here : g.id.creator ≡ id.creator → CountsTo last (indexes_of (g ∷ greens) id.creator) → CountsTo last (g.id.index ∷ indexes_of greens id.creator)
    here same c = rw (eq-eqb g.id.creator id.creator same) at c

    there : g.id.creator ≢ id.creator → CountsTo last (indexes_of (g ∷ greens) id.creator) → CountsTo last (indexes_of greens id.creator)
    there apart c = rw (ne_eqb g.id.creator id.creator apart) at c

-- the name of a red action is above the green cut
pub red-above : (h : Held) (id : ActionId) → Holds h → has_name (names_of h.queue.reds) id ≡ true → index_in h.queue.green_cut id.creator < id.index
red-above h id is red = elim (cases_Bool (nat_lt (index_in h.queue.green_cut id.creator) id.index)) [
  | inl above ↦ ltb-true above
  | inr below ↦ absurd (clash (sym red ∙ run-names h.queue.green_cut (names_of h.queue.reds) id is.rising is.reds ∙ rw below refl))
]
  where
    clash : true ≡ false → ⊥
    clash e = cc

    ltb-true : nat_lt (index_in h.queue.green_cut id.creator) id.index ≡ true → index_in h.queue.green_cut id.creator < id.index
    ltb-true above = elim (cases_order (index_in h.queue.green_cut id.creator) id.index) [
      | inl same ↦ absurd (clash (sym above ∙ le-ltb (index_in h.queue.green_cut id.creator) id.index (omega arith)))
      | inr apart ↦ elim apart [
        | inl lt ↦ lt
        | inr gt ↦ absurd (clash (sym above ∙ le-ltb (index_in h.queue.green_cut id.creator) id.index (omega arith)))
      ]
    ]

each-named : (Fine : Action → Type 0) (h : Held) (ids : List ActionId) → Holds h → are_red (names_of h.queue.reds) ids ≡ true → Each Fine h.queue.reds →
    Each Fine (actions_named h.queue ids)
each-named Fine h [] is red fine = tt
each-named Fine h (id ∷ ids) is red fine =
    let parts = and_parts (has_name (names_of h.queue.reds) id) (are_red (names_of h.queue.reds) ids) red in
    let found = find-red h.queue.greens h.queue.reds id (index_in h.queue.green_cut id.creator) (is.greens id.creator) (red-above h id is parts.0) in
    Each-append Fine (option_to_list (action_of h.queue id)) (actions_named h.queue ids)
    (subst (λ o. Each Fine (option_to_list o)) (sym found) (each-found Fine (λ a. same_id a.id id) h.queue.reds fine))
    (each-named Fine h ids is parts.1 fine)

-- ---- the rows

module _ (P : Turn → Type 0) (Fine : Action → Type 0) (rule : IsRule P Fine) where
  -- values change, and the yellow list stays
  other-values : (t : Turn) (valid : Bool) (prim : Primary) (index : ℕ) (v : Option Vulnerable) (buffered : List Kind) → P t →
      P (with_held t (with_values_of t.replica.held t.replica.held.queue.yellow valid prim index v buffered))
  other-values t valid prim index v buffered p =
      rule.values t t.replica.held.queue.yellow valid prim index v buffered (rule.holds t p).yellow p

  fine-yellow : (t : Turn) → P t → Each Fine (valid_yellow t.replica.held)
  fine-yellow t p =
      let h = t.replica.held in
      let is = rule.holds t p in
      elim (cases_Bool h.yellow_valid) [
        | inl valid ↦ rw valid (each-named Fine h h.queue.yellow is
            (and_parts (is_distinct h.queue.yellow) (are_red (names_of h.queue.reds) h.queue.yellow) is.yellow).1 (rule.reds t p))
        | inr none ↦ rw none tt
      ]

  known-yellow : (t : Turn) (a : Action) → Fine a → a.id.index ≡ suc (index_in t.replica.held.queue.red_cut a.id.creator) → is_unmade t.replica.held a ≡ false →
      P t → P (yellowed_in (newly_known t a (placed_red t.replica.held.queue a)) a.id)
  known-yellow t a fine next made p =
      let h = t.replica.held in
      let q = h.queue in
      let is = rule.holds t p in
      let reached : index_in (raise q.red_cut a.id) a.id.creator ≡ max (index_in q.red_cut a.id.creator) a.id.index =
      index-same q.red_cut a.id (rising-red h is) a.id.creator refl in
      let y = yellowed (known_by h a) a.id (holds-known h is a next) (omega arith) in
      let u = newly_known t a (placed_red q a) in
      subst (λ x. P (newly_known t a x)) (sym y.is)
      (rule.values u y.list h.yellow_valid h.prim h.attempt_index h.vulnerable h.buffered y.yellow (rule.known t a fine next made p))

  is-yellowed : (t : Turn) (id : ActionId) → id.index ≤ index_in t.replica.held.queue.red_cut id.creator → P t → P (yellowed_in t id)
  is-yellowed t id le p =
      let h = t.replica.held in
      let y = yellowed h id (rule.holds t p) le in
      subst (λ x. P (with_held t (record h { queue = x }))) (sym y.is)
      (rule.values t y.list h.yellow_valid h.prim h.attempt_index h.vulnerable h.buffered y.yellow p)

  row-rule : IsRowRule P Fine
  row-rule = record {
    yellow = fine-yellow;
    reds = rule.reds;
    goes = λ t state in_group p. rule.quiet t state t.sent p;
    leaves = λ t p. let h = t.replica.held in
        rule.quiet (empty_buffer t) Left t.sent (other-values t h.yellow_valid h.prim h.attempt_index h.vulnerable [] p);
    says = λ t m none p. rule.quiet t t.replica.state (t.sent ++ m ∷ []) p;
    part = λ t part p. rule.quiet t t.replica.state (t.sent ++ messages_in_part t.replica.held.queue part) p;
    records = λ t valid prim index v p. other-values t valid prim index v t.replica.held.buffered p;
    usable = λ t ids valid prim index v p. let h = t.replica.held in
        rule.values t (usable_names h.queue ids) valid prim index v h.buffered (usable-yellow h.queue ids) p;
    installs = λ t prim p. let h = t.replica.held in rule.values t [] false prim 0 h.vulnerable h.buffered refl p;
    known = rule.known;
    known_yellow = known-yellow;
    yellowed = is-yellowed;
    green = rule.green;
    own_red = rule.own_red;
  }

  pub of-deliveries : (t : Turn) (list : List (Delivery Msg)) → Each (OfDelivery Fine) list → P t → P (fold after_delivery t list)
  of-deliveries t list fine p = rows-deliveries P Fine row-rule t list fine p

  pub of-buffer : (t : Turn) (kind : Kind) → P t → P (buffer t kind)
  of-buffer t kind p =
      let h = t.replica.held in
      other-values t h.yellow_valid h.prim h.attempt_index h.vulnerable (h.buffered ++ kind ∷ []) p

  pub of-empty_buffer : (t : Turn) → P t → P (empty_buffer t)
  of-empty_buffer t p =
      let h = t.replica.held in
      other-values t h.yellow_valid h.prim h.attempt_index h.vulnerable [] p
