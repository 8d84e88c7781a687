-- Where the facts hold, all that replicas hold and all that an event hands to them stands in one book of actions.
use Rattle.std.proofs.Common.{◌≡◌, ℕ, zero, suc, List, [], ◌∷◌, ◌++◌, filter_map, map, Option, Some, None, IfSome, option_and_then, fold, refl, sym, ap, ◌∙◌, subst, inl, inr, arith, ◌+◌, ◌≤◌, length}
use Rattle.std.specs.Prelude.{slice_get}
use Rattle.std.specs.Option.{option_map_or}
use Rattle.std.specs.List.{cons_option}
use Rattle.cg_base.specs.declared.action_id.ActionId.{ActionId}
use Rattle.cg_base.specs.Lists.{above_up_to, Each}
use Rattle.cg_base.specs.Sets.{IsSet}
use Rattle.cg_base.specs.EachLaws.{Each-append, Each-rest, Each-front}
use Rattle.cg_action.specs.declared.action.Action.{Action}
use Rattle.cg_action.specs.declared.action.Kind.TheVariants.{Leave as LeaveKind}
use Rattle.cg_wire.specs.declared.message.Msg.{Msg}
use Rattle.cg_wire.specs.declared.message.Msg.TheVariants.{Action as ActionMsg, State as StateMsg, GreenItem, RedItem, Cpc}
use Rattle.cg_group.specs.declared.delivery.Delivery.TheVariants.{Message, Transitional as TransitionalIn, Regular as RegularIn}
use Rattle.cg_group.specs.declared.delivery.Handed.{Handed}
use Rattle.cg_group.specs.State.{Configuration, Sent, configuration, regular_in, phase_of, delivered_to, home}
use Rattle.cg_group.specs.Events.{delivery_at, deliveries_at, transitional_places, furthest, handed_in_split, with_delivered, become_transitional, deliver, split, merge}
use Rattle.cg_client.specs.Replica.{Replica}
use Rattle.cg_states.specs.ReplicaStep.{Input, Deliveries, Asks}
use Rattle.cg_model.specs.Recorded.{OfMessage, OfDelivery, OfInput, Named, AreBooked as AreInBook}
use Rattle.cg_model.specs.World.{Node, World, running, node_of, replica_of}
use Rattle.cg_model.specs.Show.{StepInProgress}
use Rattle.cg_model.specs.Step.{quietly, hand_over}
use Rattle.cg_model.specs.Chronicle.{Chronicle}
use Rattle.cg_model.specs.Talk.{action_in}
use Rattle.cg_model.specs.FactsLists.{IsRising}
use Rattle.cg_model.specs.FactsReplica.{booked, AreBooked}
use Rattle.cg_model.specs.Played.{StandsBeside}
use Rattle.cg_model.specs.Standing.{IsHandedBooked, AreBookedInTurn, IsHandedOutBooked, AlwaysBooked}
use Rattle.cg_agree_lemmas.specs.MadeSplit.{rising-set-list}
use Rattle.cg_agree_lemmas.specs.RestsBehind.{handed-ids, split-to}
use Rattle.cg_agree_lemmas.specs.WorldTurns.{hand-behind}

-- ---- messages

of-message : (P : Action → Type 0) (m : Msg) → IfSome (action_in m) P → OfMessage P m
of-message P (ActionMsg a) is = is
of-message P (GreenItem place a) is = is
of-message P (RedItem a) is = is
of-message P (StateMsg s) is = tt
of-message P (Cpc id conf) is = tt

message-at : (P : Action → Type 0) (list : List (Sent Msg)) (n : ℕ) (s : Sent Msg) → Each P (filter_map (λ s. action_in s.message) list) → slice_get list n ≡ Some s → IfSome (action_in s.message) P
message-at P [] n s all e = absurd (let clash : None ≡ Some s = e in cc)
message-at P (x ∷ list) zero s all e = subst (λ (y : Sent Msg). IfSome (action_in y.message) P) (ap (λ (o : Option (Sent Msg)). option_map_or (λ y. y) o x) e) (at (action_in x.message) all) where
  at : (o : Option Action) → Each P (cons_option o (filter_map (λ (s : Sent Msg). action_in s.message) list)) → IfSome o P
  at None all = tt
  at (Some a) all = all.0
message-at P (x ∷ list) (suc n) s all e = message-at P list n s (at (action_in x.message) all) e where
  at : (o : Option Action) → Each P (cons_option o (filter_map (λ (s : Sent Msg). action_in s.message) list)) → Each P (filter_map (λ (s : Sent Msg). action_in s.message) list)
  at None all = all
  at (Some a) all = all.1

module _ (P : Action → Type 0) (conf : Configuration Msg) (all : Each P (filter_map (λ s. action_in s.message) conf.ordered)) where
  at-place : (place : ℕ) → Each (OfDelivery P) (delivery_at conf place)
  unfolding delivery_at
  at-place zero = tt
  at-place (suc n) = at (slice_get conf.ordered n) (λ s e. of-message P s.message (message-at P conf.ordered n s all e)) where
    at : (o : Option (Sent Msg)) → ((s : Sent Msg) → o ≡ Some s → OfMessage P s.message) → Each (OfDelivery P) (option_map_or (λ s. Message (suc n) s.from s.message ∷ []) o [])
    at None is = tt
    at (Some s) is = (is s refl, tt)

  at-places : (places : List ℕ) → Each (OfDelivery P) (deliveries_at conf places)
  at-places [] = tt
  at-places (place ∷ places) = Each-append (OfDelivery P) (delivery_at conf place) (deliveries_at conf places) (at-place place) (at-places places)

-- ---- the book

-- the action of a name in the book of all that was made
abbrev book_of : Chronicle → ActionId → Action
book_of c id = option_map_or (λ a. a) (booked c id) (record { id = id; green_line = 0; kind = LeaveKind 0 })

each-named : (c : Chronicle) (actions : List Action) → AreBooked c actions → Each (Named (book_of c)) actions
each-named c [] are = tt
each-named c (a ∷ actions) are = (ap (λ o. option_map_or (λ x. x) o (record { id = a.id; green_line = 0; kind = LeaveKind 0 })) are.0, each-named c actions are.1)

module _ (c : Chronicle) (w : World) (stands : StandsBeside c w) where
  abbrev book : ActionId → Action
  book = book_of c

  -- whatever comes to a replica stands there, where the actions of what comes do
  input-booked : (p : ℕ) (input : Input) → OfInput (Named book) input → IfSome (replica_of w p) (λ r. AreInBook book r.held input)
  input-booked p input coming =
      subst (λ (o : Option Replica). IfSome o (λ r. AreInBook book r.held input)) (sym (stands.same.running p)) (at (replica_of c.world p) (stands.facts.replica.made_once.in_memory p)) where
        at : (o : Option Replica) → IfSome o (λ r. AreBooked c (r.held.queue.reds ++ r.held.own)) → IfSome o (λ r. AreInBook book r.held input)
        at None are = tt
        at (Some r) are =
            let all = each-named c (r.held.queue.reds ++ r.held.own) are in
            record { reds = Each-front (Named book) r.held.queue.reds r.held.own all; own = Each-rest (Named book) r.held.queue.reds r.held.own all; coming = coming }

  places-booked : (conf : ℕ) (places : List ℕ) → Each (OfDelivery (Named book)) (deliveries_at (configuration w.group conf) places)
  places-booked conf places =
      subst (λ g. Each (OfDelivery (Named book)) (deliveries_at (configuration g conf) places)) (sym stands.same.group)
      (at-places (Named book) (configuration c.world.group conf) (each-named c _ (stands.facts.replica.made_once.in_messages conf)) places)

  -- the nodes of those who are still to take their turns are as they were
  in-turn : (list : List (Handed Msg)) (g : StepInProgress) (low : ℕ) → IsRising low (map (λ h. h.to) list) → ((q : ℕ) → low ≤ q → node_of g.world q ≡ node_of w q) →
      Each (IsHandedBooked book w) list → AreBookedInTurn book g list
  in-turn [] g low rise same each = tt
  in-turn (h ∷ list) g low rise same each =
      let le = rise.0 in (
        subst (λ (o : Option Node). IfSome (option_and_then (λ s. running s.life) o) (λ r. AreInBook book r.held (Deliveries h.list))) (sym (same h.to rise.0)) each.0,
        in-turn list (hand_over g h) (suc h.to) rise.1 (λ q above. (elim (hand-behind (λ q input. q ≡ h.to) g h.to (Deliveries h.list) refl q) [
          | inl stays ↦ stays
          | inr turn ↦ absurd (let one : q ≡ h.to = turn.of in omega (arith, above, one))
        ]) ∙ same q (omega (arith, le, above))) each.1,
      )

  one-booked : (h : Handed Msg) (g : StepInProgress) → ((q : ℕ) → node_of g.world q ≡ node_of w q) → IsHandedBooked book w h → AreBookedInTurn book g (h ∷ [])
  one-booked h g same is = in-turn (h ∷ []) g 0 (omega arith, tt) (λ q above. same q) (is, tt)

  delivers : (p count : ℕ) → IsHandedOutBooked book w (deliver w.group p count)
  unfolding deliver
  delivers p count =
      let list = deliveries_at (home w.group p) (above_up_to (delivered_to w.group p) (delivered_to w.group p + count)) in
      one-booked (record { to = p; list = list }) (quietly (record w { group = with_delivered w.group p (delivered_to w.group p + count) })) (λ q. refl)
      (input-booked p (Deliveries list) (places-booked (regular_in (phase_of w.group p)) (above_up_to (delivered_to w.group p) (delivered_to w.group p + count))))

  splits-one : (set : List ℕ) (p : ℕ) → IsHandedBooked book w (handed_in_split w.group set p)
  unfolding handed_in_split
  splits-one set p =
      let g = w.group in
      let conf = regular_in (phase_of g p) in
      let k = furthest g set in
      let before = above_up_to (delivered_to g p) k in
      let later = transitional_places (configuration g conf) set k in
      input-booked p (Deliveries (deliveries_at (configuration g conf) before ++ TransitionalIn conf set ∷ deliveries_at (configuration g conf) later))
      (Each-append (OfDelivery (Named book)) (deliveries_at (configuration g conf) before) (TransitionalIn conf set ∷ deliveries_at (configuration g conf) later)
      (places-booked conf before) (tt, places-booked conf later))

  each-map : (f : ℕ → Handed Msg) → ((p : ℕ) → IsHandedBooked book w (f p)) → (set : List ℕ) → Each (IsHandedBooked book w) (map f set)
  each-map f is [] = tt
  each-map f is (p ∷ set) = (is p, each-map f is set)

  -- to each of a set
  set-booked : (f : ℕ → Handed Msg) → ((p : ℕ) → (f p).to ≡ p) → ((p : ℕ) → IsHandedBooked book w (f p)) → (set : List ℕ) → IsSet set → (g : StepInProgress) →
      ((q : ℕ) → node_of g.world q ≡ node_of w q) → AreBookedInTurn book g (map f set)
  set-booked f to is set sound g same = in-turn (map f set) g 1 (handed-ids f to set 1 (rising-set-list 1 set sound.ascends)) (λ q above. same q) (each-map f is set)

  splits : (set : List ℕ) → IsSet set → IsHandedOutBooked book w (split w.group set)
  unfolding split
  splits set sound =
      set-booked (handed_in_split w.group set) (split-to w.group set) (splits-one set) set sound (quietly (record w { group = fold (become_transitional set) w.group set })) (λ q. refl)

  merges : (set : List ℕ) → IsSet set → IsHandedOutBooked book w (merge w.group set)
  unfolding merge
  merges set sound =
      let conf = suc (length w.group.configurations) in
      set-booked (λ p. record { to = p; list = RegularIn conf set ∷ [] }) (λ p. refl) (λ p. input-booked p (Deliveries (RegularIn conf set ∷ [])) (tt, tt)) set sound
      (quietly (record w { group = (merge w.group set).group })) (λ q. refl)

-- Wherever the facts hold no two actions that are held or come have one name.
pub always-booked : AlwaysBooked
always-booked c w stands = record {
  book = book_of c;
  is = record { delivered = delivers c w stands; parted = splits c w stands; joined = merges c w stands; asked = λ p kind. input-booked c w stands p (Asks kind) tt };
}
