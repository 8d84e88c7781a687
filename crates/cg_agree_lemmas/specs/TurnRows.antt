-- The rows of the table for a fact of a turn that holds whatever the values are: each change of it keeps the fact.
use Rattle.std.proofs.Common.{◌≡◌, ℕ, suc, List, [], ◌∷◌, ◌++◌, fold, cond, Bool, true, false, not, ◌&&◌, Option, None, refl, sym, subst, inl, inr, if◌then◌else◌, nat_lt}
use Rattle.std.specs.Option.{option_to_list}
use Rattle.std.proofs.lemmas.Bool.{cases_Bool}
use Rattle.cg_base.specs.Lists.{Each}
use Rattle.cg_base.specs.EachLaws.{Each-append}
use Rattle.cg_base.specs.declared.action_id.ActionId.{ActionId}
use Rattle.cg_base.specs.Ids.{same_id, has_name}
use Rattle.cg_base.specs.Cuts.{index_in}
use Rattle.cg_action.specs.declared.action.Action.{Action}
use Rattle.cg_queue.specs.Queue.{QueueView, with_yellow, placed_red, action_of}
use Rattle.cg_records.specs.declared.primary.Primary.{Primary}
use Rattle.cg_records.specs.declared.vulnerable.Vulnerable.{Vulnerable}
use Rattle.cg_plan.specs.declared.parts.Part.{Part}
use Rattle.cg_wire.specs.declared.message.Msg.{Msg}
use Rattle.cg_group.specs.declared.delivery.Delivery.{Delivery}
use Rattle.cg_client.specs.Replica.{State, Left}
use Rattle.cg_client.specs.Turn.{Turn, with_held, go_to, send}
use Rattle.cg_client.specs.Marks.{is_unmade, newly_known, place_green}
use Rattle.cg_client.specs.Requests.{empty_buffer}
use Rattle.cg_client.specs.Summary.{own_to_red}
use Rattle.cg_client.specs.Install.{actions_named, valid_yellow}
use Rattle.cg_states.specs.PlanEnd.{usable_names}
use Rattle.cg_states.specs.ExchangeActions.{messages_in_part}
use Rattle.cg_states.specs.ReplicaStep.{after_delivery}
use Rattle.cg_model.specs.Recorded.{OfDelivery}
use Rattle.cg_model.specs.RowLaws.{IsRowRule, with_values, yellowed_in, of-deliveries as rows-deliveries}
use Rattle.cg_model.specs.World.{is_left_state}
use Rattle.cg_model.specs.Talk.{action_in}
use Rattle.cg_disk_records.specs.HeldLaws.{each-found}

-- what holds of a turn, and of each action that comes, is kept by each change
pub record IsRule (P : Turn → Type 0) (Fine : Action → Type 0) : Type 0 where
  pub greens : (t : Turn) → P t → Each Fine t.replica.held.queue.greens
  pub reds : (t : Turn) → P t → Each Fine t.replica.held.queue.reds
  pub goes : (t : Turn) (state : State) → is_left_state state ≡ false → P t → P (go_to t state)
  pub leaves : (t : Turn) → P t → P (go_to (empty_buffer t) Left)
  pub says : (t : Turn) (m : Msg) → action_in m ≡ None → P t → P (send t m)
  pub part : (t : Turn) (part : Part) → P t → P (record t { sent = t.sent ++ messages_in_part t.replica.held.queue part })
  pub values : (t : Turn) (yellow : List ActionId) (valid : Bool) (prim : Primary) (index : ℕ) (v : Option Vulnerable) → P t →
      P (with_held t (with_values t.replica.held yellow valid prim index v))
  pub known : (t : Turn) (a : Action) → Fine a → a.id.index ≡ suc (index_in t.replica.held.queue.red_cut a.id.creator) → is_unmade t.replica.held a ≡ false →
      P t → P (newly_known t a (placed_red t.replica.held.queue a))
  pub green : (t : Turn) (a : Action) → Fine a → a.id.index ≡ suc (index_in t.replica.held.queue.green_cut a.id.creator) → is_unmade t.replica.held a ≡ false →
      P t → P (place_green t a)
  pub own_red : (t : Turn) → P t → P (own_to_red t)

-- ---- lists of fine actions

pub each-named : (Fine : Action → Type 0) (q : QueueView) (ids : List ActionId) → Each Fine (q.greens ++ q.reds) → Each Fine (actions_named q ids)
each-named Fine q [] fine = tt
each-named Fine q (id ∷ ids) fine =
    Each-append Fine (option_to_list (action_of q id)) (actions_named q ids) (each-found Fine (λ a. same_id a.id id) (q.greens ++ q.reds) fine) (each-named Fine q ids fine)

-- ---- marks

-- the yellow list with a name more, where it is none
abbrev yellow_with : QueueView → ActionId → List ActionId
yellow_with q id = if nat_lt (index_in q.green_cut id.creator) id.index && not (has_name q.yellow id) then q.yellow ++ id ∷ [] else q.yellow

with_yellow-is : (q : QueueView) (id : ActionId) → with_yellow q id ≡ record q { yellow = yellow_with q id }
with_yellow-is q id = at (nat_lt (index_in q.green_cut id.creator) id.index && not (has_name q.yellow id)) where
  at : (b : Bool) → cond b (record q { yellow = q.yellow ++ id ∷ [] }) q ≡ record q { yellow = cond b (q.yellow ++ id ∷ []) q.yellow }
  at true = refl
  at false = refl

-- ---- the rows

module _ (P : Turn → Type 0) (Fine : Action → Type 0) (rule : IsRule P Fine) where
  is-yellowed : (t : Turn) (id : ActionId) → P t → P (yellowed_in t id)
  is-yellowed t id p =
      let h = t.replica.held in
      subst (λ (q : QueueView). P (with_held t (record h { queue = q }))) (sym (with_yellow-is h.queue id))
      (rule.values t (yellow_with h.queue id) h.yellow_valid h.prim h.attempt_index h.vulnerable p)

  fine-yellow : (t : Turn) → P t → Each Fine (valid_yellow t.replica.held)
  fine-yellow t p =
      let h = t.replica.held in
      elim (cases_Bool h.yellow_valid) [
        | inl valid ↦ rw valid (each-named Fine h.queue h.queue.yellow (Each-append Fine h.queue.greens h.queue.reds (rule.greens t p) (rule.reds t p)))
        | inr none ↦ rw none tt
      ]

  row-rule : IsRowRule P Fine
  row-rule = record {
    yellow = fine-yellow;
    reds = rule.reds;
    goes = rule.goes;
    leaves = rule.leaves;
    says = rule.says;
    part = rule.part;
    records = λ t valid prim index v p. rule.values t t.replica.held.queue.yellow valid prim index v p;
    usable = λ t ids valid prim index v p. rule.values t (usable_names t.replica.held.queue ids) valid prim index v p;
    installs = λ t prim p. rule.values t [] false prim 0 t.replica.held.vulnerable p;
    known = rule.known;
    known_yellow = λ t a fine next made p. is-yellowed (newly_known t a (placed_red t.replica.held.queue a)) a.id (rule.known t a fine next made p);
    yellowed = λ t id le p. is-yellowed t id p;
    green = rule.green;
    own_red = rule.own_red;
  }

  pub of-deliveries : (t : Turn) (list : List (Delivery Msg)) → Each (OfDelivery Fine) list → P t → P (fold after_delivery t list)
  of-deliveries t list fine p = rows-deliveries P Fine row-rule t list fine p
