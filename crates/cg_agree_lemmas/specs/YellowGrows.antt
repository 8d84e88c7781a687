-- What is yellow in a transitional primary component stays, in its place: more comes to the end.
use Rattle.std.proofs.Common.{◌≡◌, ℕ, suc, cond, not, ◌&&◌, List, [], ◌∷◌, ◌++◌, Option, Some, None, sym, ◌∙◌, subst, nat_lt}
use Rattle.std.specs.Prelude.{◌==◌, nat_le}
use Rattle.std.specs.Option.{option_map_or}
use Rattle.std.proofs.lemmas.Bool.{cond_both}
use Rattle.std.proofs.lemmas.List.Sums.{fold-append}
use Rattle.cg_base.specs.declared.action_id.ActionId.{ActionId}
use Rattle.cg_base.specs.Cuts.{index_in}
use Rattle.cg_base.specs.Ids.{has_name}
use Rattle.cg_base.specs.Lists.{at_place}
use Rattle.cg_action.specs.declared.action.Action.{Action}
use Rattle.cg_queue.specs.Queue.{QueueView, Marking, Marks, Gaps, marked_red, marked_yellow, and_yellow, placed_red}
use Rattle.cg_queue.specs.declared.mark.Mark.TheVariants.{Placed, Known}
use Rattle.cg_wire.specs.declared.message.Msg.{Msg}
use Rattle.cg_wire.specs.declared.message.Msg.TheVariants.{Action as ActionMsg, State as StateMsg, GreenItem, RedItem, Cpc}
use Rattle.cg_group.specs.declared.delivery.Delivery.TheVariants.{Message}
use Rattle.cg_group.specs.State.{Configuration, Sent}
use Rattle.cg_group.specs.Events.{delivery_at, deliveries_at}
use Rattle.cg_client.specs.Replica.{State, TransPrim}
use Rattle.cg_client.specs.Turn.{Turn}
use Rattle.cg_client.specs.Marks.{is_unmade, marked, mark_yellow}
use Rattle.cg_states.specs.ReplicaStep.{on_message, after_delivery as take_one}
use Rattle.cg_model.specs.Fronts.{Front}
use Rattle.cg_model.specs.Small.{take_all}
use Rattle.cg_agree_lemmas.specs.FrontFacts.{Front-refl, Front-append, Front-trans}
use Rattle.cg_agree_lemmas.specs.TurnValues.{even-mark_yellow}

abbrev KeepsYellow : List ActionId → Marking → Type 0
KeepsYellow ys (Marks mark q) = Front ys q.yellow
KeepsYellow ys (Gaps cut) = Unit {0}

red-keeps : (q : QueueView) (a : Action) → KeepsYellow q.yellow (marked_red q a)
red-keeps q a =
    let cut = index_in q.red_cut a.id.creator in
    cond_both (nat_le a.id.index cut) (Marks Known q) (cond (a.id.index == suc cut) (Marks Placed (placed_red q a)) (Gaps cut)) (KeepsYellow q.yellow) (λ y. Front-refl q.yellow)
    (λ n. cond_both (a.id.index == suc cut) (Marks Placed (placed_red q a)) (Gaps cut) (KeepsYellow q.yellow) (λ y. Front-refl q.yellow) (λ n. tt))

yellow-keeps : (ys : List ActionId) (id : ActionId) (m : Marking) → KeepsYellow ys m → KeepsYellow ys (and_yellow id m)
yellow-keeps ys id (Marks mark q) is =
    cond_both (nat_lt (index_in q.green_cut id.creator) id.index && not (has_name q.yellow id)) (record q { yellow = q.yellow ++ id ∷ [] }) q (λ (x : QueueView). Front ys x.yellow)
    (λ y. Front-trans ys q.yellow (q.yellow ++ id ∷ []) is (Front-append q.yellow (id ∷ []))) (λ n. is)
yellow-keeps ys id (Gaps cut) is = tt

marked-keeps : (t : Turn) (a : Action) (m : Marking) → KeepsYellow t.replica.held.queue.yellow m → Front t.replica.held.queue.yellow (marked t a m).replica.held.queue.yellow
marked-keeps t a (Marks Placed q) is = is
marked-keeps t a (Marks Known q) is = is
marked-keeps t a (Gaps cut) is = Front-refl t.replica.held.queue.yellow

pub yellow-grows : (t : Turn) (a : Action) → Front t.replica.held.queue.yellow (mark_yellow t a).replica.held.queue.yellow
unfolding mark_yellow
yellow-grows t a =
    let q = t.replica.held.queue in
    cond_both (is_unmade t.replica.held a) t (marked t a (marked_yellow q a)) (λ u. Front q.yellow u.replica.held.queue.yellow) (λ y. Front-refl q.yellow)
    (λ n. marked-keeps t a (marked_yellow q a) (yellow-keeps q.yellow a.id (marked_red q a) (red-keeps q a)))

-- in the transitional primary component, with these yellow names first
abbrev pub HasYellow : List ActionId → Turn → Type 0
HasYellow ys t = (t.replica.state ≡ TransPrim) × Front ys t.replica.held.queue.yellow

message-keeps : (ys : List ActionId) (from : ℕ) (m : Msg) (t : Turn) → HasYellow ys t → HasYellow ys (on_message TransPrim from m t)
unfolding on_message
message-keeps ys from (ActionMsg a) t is = ((even-mark_yellow t a).state ∙ is.0, Front-trans ys t.replica.held.queue.yellow (mark_yellow t a).replica.held.queue.yellow is.1 (yellow-grows t a))
message-keeps ys from (StateMsg s) t is = is
message-keeps ys from (GreenItem place a) t is = is
message-keeps ys from (RedItem a) t is = is
message-keeps ys from (Cpc id conf) t is = is

place-keeps : (ys : List ActionId) (conf : Configuration Msg) (place : ℕ) (t : Turn) → HasYellow ys t → HasYellow ys (take_all (delivery_at conf place) t)
unfolding delivery_at take_one
place-keeps ys conf place t is = at (at_place conf.ordered place) where
  at : (o : Option (Sent Msg)) → HasYellow ys (take_all (option_map_or (λ s. Message place s.from s.message ∷ []) o []) t)
  at None = is
  at (Some s) = subst (λ (x : State). HasYellow ys (on_message x s.from s.message t)) (sym is.0) (message-keeps ys s.from s.message t is)

-- More places leave them first.
pub places-keep : (ys : List ActionId) (conf : Configuration Msg) (places : List ℕ) (t : Turn) → HasYellow ys t → HasYellow ys (take_all (deliveries_at conf places) t)
places-keep ys conf [] t is = is
places-keep ys conf (place ∷ places) t is =
    subst (HasYellow ys) (sym (fold-append take_one t (delivery_at conf place) (deliveries_at conf places)))
    (places-keep ys conf places (take_all (delivery_at conf place) t) (place-keeps ys conf place t is))
