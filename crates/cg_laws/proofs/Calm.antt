-- What is calm: nothing of it is a leave, and nothing tells of one who has left. Generated events make updates alone.
use Rattle.std.proofs.Common.{◌≡◌, ℕ, Bool, true, false, List, [], ◌∷◌, map, fold, Option, Some, None, refl, ap, ◌∙◌}
use Rattle.std.specs.Prelude.{IfSome}
use Rattle.std.specs.Option.{option_map_or}
use Rattle.cg_base.specs.Sets.{common, has}
use Rattle.cg_action.specs.declared.action.Action.{Action}
use Rattle.cg_action.specs.declared.action.Kind.{Kind}
use Rattle.cg_action.specs.declared.action.Kind.TheVariants.{Leave}
use Rattle.cg_queue.specs.Queue.{QueueView}
use Rattle.cg_knowledge.specs.declared.summary.Summary.{Summary}
use Rattle.cg_knowledge.specs.Summaries.{senders, leads, leader, most_updated, gone}
use Rattle.cg_wire.specs.declared.message.Msg.{Msg}
use Rattle.cg_wire.specs.declared.message.Msg.TheVariants.{Action as ActionMsg, State as StateMsg, GreenItem, RedItem, Cpc}
use Rattle.cg_group.specs.declared.delivery.Delivery.{Delivery}
use Rattle.cg_group.specs.declared.delivery.Delivery.TheVariants.{Message}
use Rattle.cg_base.specs.Lists.{Each}
use Rattle.cg_base.specs.EachLaws.{Each-all, filter_none}
use Rattle.cg_client.specs.Replica.{Held, State, ExchangeStates, ExchangeActions, Left}
use Rattle.cg_client.specs.Turn.{Turn}
use Rattle.std.proofs.lemmas.Bool.{cond_both}

-- ---- actions

abbrev is_leave : Kind → Bool
is_leave (Leave server) = true
is_leave other = false

abbrev pub CalmKind : Kind → Type 0
CalmKind kind = is_leave kind ≡ false

abbrev pub Calm : Action → Type 0
Calm a = CalmKind a.kind

abbrev pub CalmQueue : QueueView → Type 0
CalmQueue q = Each Calm q.greens × Each Calm q.reds

-- ---- replicas

-- what the replica p holds: its actions and kept requests, and that it knows of nobody who has left
abbrev pub CalmHeld : ℕ → Held → Type 0
CalmHeld p h = (h.id ≡ p) × CalmQueue h.queue × Each Calm h.own × Each CalmKind h.buffered × (h.members.left ≡ [])

-- the summary tells of nobody who has left
abbrev pub TellsOfNone : Summary → Type 0
TellsOfNone s = s.left ≡ []

-- the replica hasn't left, and has heard of nobody who has
abbrev pub CalmState : State → Type 0
CalmState (ExchangeStates conf set heard) = Each TellsOfNone heard
CalmState (ExchangeActions conf heard accepted) = Each TellsOfNone heard
CalmState Left = ⊥
CalmState other = Unit {0}

-- ---- messages

abbrev pub CalmMessage : Msg → Type 0
CalmMessage (ActionMsg a) = Calm a
CalmMessage (StateMsg s) = TellsOfNone s
CalmMessage (GreenItem place a) = Calm a
CalmMessage (RedItem a) = Calm a
CalmMessage (Cpc id conf) = Unit {0}

abbrev pub CalmDelivery : Delivery Msg → Type 0
CalmDelivery (Message place from m) = CalmMessage m
CalmDelivery other = Unit {0}

-- a turn of the replica p
abbrev pub CalmTurn : ℕ → Turn → Type 0
CalmTurn p t = CalmHeld p t.replica.held × CalmState t.replica.state × Each CalmMessage t.sent

-- ---- nobody is gone

leading-none : (best : Option Summary) (summaries : List Summary) → IfSome best TellsOfNone → Each TellsOfNone summaries → IfSome (fold leader best summaries) TellsOfNone
leading-none best [] is each = is
leading-none None (s ∷ summaries) is each = leading-none (Some s) summaries each.0 each.1
leading-none (Some best) (s ∷ summaries) is each =
    leading-none (leader (Some best) s) summaries
    (cond_both (leads s best) (Some s) (Some best) (λ o. IfSome o TellsOfNone) (λ y. each.0) (λ n. is)) each.1

common-none : (set left : List ℕ) → left ≡ [] → common set left ≡ []
common-none set left e = ap (common set) e ∙ filter_none (has []) set (Each-all (λ p. has [] p ≡ false) (λ p. refl) set)

-- Who hears of nobody who has left knows of nobody who is gone.
pub gone-none : (summaries : List Summary) → Each TellsOfNone summaries → gone summaries ≡ []
unfolding gone most_updated
gone-none summaries each = at (most_updated summaries) (leading-none None summaries tt each) where
  at : (best : Option Summary) → IfSome best TellsOfNone → option_map_or (λ s. common (senders summaries) s.left) best [] ≡ []
  at None is = refl
  at (Some s) is = common-none (senders summaries) s.left is

-- ---- lists

pub Each-map : {X Y : Type 0} (f : X → Y) (P : Y → Type 0) (xs : List X) → Each (λ x. P (f x)) xs → Each P (map f xs)
Each-map f P [] each = tt
Each-map f P (x ∷ xs) each = (each.0, Each-map f P xs each.1)
