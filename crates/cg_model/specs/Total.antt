-- What makes the step of a replica total, and is never met: a message that can't be used, an action that can't be placed, and an item that
-- its sender lacks.
use Rattle.std.specs.Prelude.{◌≡◌, ℕ, suc, ◌==◌, nat_le, Bool, true, false, not, is_some, ◌&&◌, ◌||◌, List, [], ◌∷◌, ◌++◌, Option, Some, None, take, slice_get, IsTrue, IfSome}
use Rattle.std.specs.List.{list_all}
use Rattle.cg_base.specs.Cuts.{index_in}
use Rattle.cg_base.specs.Lists.{at_place}
use Rattle.cg_base.specs.Sets.{has, is_within, with_member}
use Rattle.cg_base.specs.Choice.{Either}
use Rattle.cg_action.specs.declared.action.Action.{Action}
use Rattle.cg_queue.specs.Queue.{QueueView, green_count, names_of}
use Rattle.cg_knowledge.specs.declared.summary.Summary.{Summary}
use Rattle.cg_knowledge.specs.Summaries.{senders, gone}
use Rattle.cg_knowledge.specs.Yellow.{common_yellow}
use Rattle.cg_plan.specs.declared.parts.Part.{Part}
use Rattle.cg_plan.specs.Items.{items_of}
use Rattle.cg_plan.specs.Plan.{plan_of}
use Rattle.cg_plan.specs.Progress.{is_done, turn_of}
use Rattle.cg_wire.specs.declared.message.Msg.{Msg}
use Rattle.cg_wire.specs.declared.message.Msg.TheVariants.{Action as ActionMsg, State as StateMsg, GreenItem, RedItem, Cpc}
use Rattle.cg_group.specs.declared.delivery.Delivery.{Delivery}
use Rattle.cg_group.specs.declared.delivery.Delivery.TheVariants.{Message, Transitional as TransitionalIn}
use Rattle.cg_group.specs.Events.{deliveries_at}
use Rattle.cg_group.specs.State.{Sent, configuration, home, delivered_to, phase_of, regular_in}
use Rattle.cg_client.specs.Replica.{Held, State, RegPrim, TransPrim, ExchangeStates, ExchangeActions, Construct, No, Un, NonPrim, Left}
use Rattle.cg_client.specs.Turn.{Turn, begin}
use Rattle.cg_client.specs.Marks.{is_unmade, can_be_green, mark_green}
use Rattle.cg_client.specs.Install.{valid_yellow, yellow_green, install}
use Rattle.cg_states.specs.ExchangeActions.{message_of, progress, is_next, take_item}
use Rattle.cg_states.specs.ExchangeStates.{is_usable}
use Rattle.cg_states.specs.PlanEnd.{usable_names}
use Rattle.cg_states.specs.Construct.{attempt_set, is_announced}
use Rattle.cg_states.specs.ReplicaStep.{after_delivery as take_one}
use Rattle.cg_schedule.specs.declared.event.Event.{Event}
use Rattle.cg_model.specs.World.{World, replica_of}
use Rattle.cg_model.specs.Admission.{first_refusal}
use Rattle.cg_model.specs.Run.{MayStand}
use Rattle.cg_model.specs.Chronicle.{Chronicle}
use Rattle.cg_model.specs.FactsReplica.{is_exchanging}
use Rattle.cg_model.specs.Fronts.{When}
use Rattle.cg_model.specs.Looks.{disk_held}
use Rattle.cg_model.specs.Talk.{Talk, talk_of}
use Rattle.cg_model.specs.Small.{Small, Enters, Hands, Leaves, Recovers, small_step, Makes}
use Rattle.cg_model.specs.Smalls.{smalls_in, turn_steps}
use Rattle.cg_model.specs.Played.{StandsBeside}
use Rattle.cg_model.specs.Turns.{Taken, turns_of}
use Rattle.cg_schedule.specs.declared.event.Event.TheVariants.{Merge}
use Rattle.cg_disk_records.specs.Holds.{run_on}

-- ---- messages that can be used

-- behind what was said before, a summary or an announcement is its sender's, of the configuration, and the first that its sender sent there
abbrev pub can_be_used : ℕ → Talk → ℕ → Msg → Bool
can_be_used conf t from (StateMsg s) = (s.id == from) && (s.conf == conf) && not (has (senders t.heard) from)
can_be_used conf t from (Cpc id at) = (id == from) && (at == conf) && not (has t.announced from)
can_be_used conf t from _ = true

-- every message that has a place in a configuration
abbrev pub AreUsable : World → Type 0
AreUsable w =
    (conf n : ℕ) (s : Sent Msg) → slice_get (configuration w.group conf).ordered n ≡ Some s →
    IsTrue (can_be_used conf (talk_of (take n (configuration w.group conf).ordered)) s.from s.message)

-- ---- actions that can be placed

-- the action is known, or the next of its creator; and the replica hasn't yet to create it
abbrev pub fits_red : Held → Action → Bool
fits_red h a = nat_le a.id.index (suc (index_in h.queue.red_cut a.id.creator)) && not (is_unmade h a)

-- the place has its green action, or is the next one, and the action is the next green one of its creator
abbrev pub fits_green : Held → ℕ → Action → Bool
fits_green h place a = nat_le place (green_count h.queue) || (place == suc (green_count h.queue)) && can_be_green h a

-- each can become green, one behind the other
abbrev pub all_fit : Turn → List Action → Bool
all_fit t [] = true
all_fit t (a ∷ actions) = can_be_green t.replica.held a && all_fit (mark_green t a) actions

-- all that an installation makes green: the yellow actions of all yellow names that are valid, and then the other reds
pub record CanInstall (t : Turn) : Type 0 where
  pub named : When t.replica.held.yellow_valid (names_of (valid_yellow t.replica.held) ≡ t.replica.held.queue.yellow)
  pub yellow : IsTrue (all_fit t (valid_yellow t.replica.held))
  pub reds : IsTrue (all_fit (yellow_green t) (yellow_green t).replica.held.queue.reds)

-- ---- items that are there

-- the replica keeps the actions of all items of a part, where there is one to send
abbrev pub keeps_part : QueueView → Option Part → Bool
keeps_part q None = true
keeps_part q (Some part) = list_all (λ item. is_some (message_of q item)) (items_of part)

-- a member that remains comes to the end of the plan: each name of the common yellow list is that of a red action, and none stands twice
abbrev pub TakesNames : Turn → List Summary → Type 0
TakesNames t heard =
    Either (has (gone heard) t.replica.held.id) (Unit {0}) (usable_names
    t.replica.held.queue (common_yellow heard).list ≡ (common_yellow heard).list)

-- behind so many items of the plan
pub record GoesOn (t : Turn) (heard : List Summary) (accepted : ℕ) : Type 0 where
  pub sends : IsTrue (keeps_part t.replica.held.queue (turn_of (plan_of heard) t.replica.held.id accepted))
  pub names : When (is_done (progress heard accepted)) (TakesNames t heard)

-- ---- what is handed in the regular phase

-- the item can be placed, where the member remains
abbrev pub fits_item : Held → Msg → Bool
fits_item h (GreenItem place a) = fits_green h place a
fits_item h (RedItem a) = fits_red h a
fits_item h _ = false

-- the next item of the plan comes from its sender
pub record TakesItem (t : Turn) (heard : List Summary) (accepted from : ℕ) (m : Msg) : Type 0 where
  pub next : IsTrue (is_next heard accepted from m)
  pub fits : Either (has (gone heard) t.replica.held.id) (Unit {0}) (IsTrue (fits_item t.replica.held m))
  pub goes_on : GoesOn (take_item t heard m) heard (suc accepted)

-- the state uses the message, and what is in it can be placed. One that has left uses none
abbrev pub IsUsed : State → Turn → ℕ → Msg → Type 0
IsUsed RegPrim t from (ActionMsg a) = IsTrue (can_be_green t.replica.held a)
IsUsed (NonPrim regular) t from (ActionMsg a) = IsTrue (fits_red t.replica.held a)
IsUsed (ExchangeStates conf set heard) t from (StateMsg s) =
    IsTrue (is_usable conf heard from s)
    × When (is_within set (senders (heard ++ s ∷ []))) (GoesOn t (heard ++ s ∷ []) 0)
IsUsed (ExchangeActions conf heard accepted) t from m = TakesItem t heard accepted from m
IsUsed (Construct conf heard) t from (Cpc id at) =
    IsTrue (is_announced t.replica.held conf from id at)
    × When (is_within (attempt_set t.replica.held) (with_member heard from)) (CanInstall t)
IsUsed Left t from m = Unit {0}
IsUsed _ t from m = ⊥

-- ---- what comes as a member leaves

-- an action that can become red
abbrev pub IsRedAct : Turn → Msg → Type 0
IsRedAct t (ActionMsg a) = IsTrue (fits_red t.replica.held a)
IsRedAct t m = ⊥

-- behind a primary component come actions, and so they do outside of one; behind an attempt that was cut short announcements, and behind the last
-- of them actions, by the first of which it is installed. Only behind an exchange that was cut short something is passed over: what was to be
-- learnt in it, and an action whose predecessor was to be learnt first. One that has left uses none
abbrev pub IsUsedLeaving : Bool → State → Turn → ℕ → Msg → Type 0
IsUsedLeaving ended TransPrim t from m = IsRedAct t m
IsUsedLeaving ended (No conf heard) t from (Cpc id at) = IsTrue (is_announced t.replica.held conf from id at)
IsUsedLeaving ended Un t from (ActionMsg a) = CanInstall t × IsRedAct (install t) (ActionMsg a)
IsUsedLeaving ended (NonPrim regular) t from m = When ended (IsRedAct t m)
IsUsedLeaving ended Left t from m = Unit {0}
IsUsedLeaving ended _ t from m = ⊥

abbrev pub IsTakenLeaving : Bool → Turn → Delivery Msg → Type 0
IsTakenLeaving ended t (Message place from m) = IsUsedLeaving ended t.replica.state t from m
IsTakenLeaving ended t d = Unit {0}

abbrev pub AreTakenLeaving : Bool → Turn → List (Delivery Msg) → Type 0
AreTakenLeaving ended t [] = Unit {0}
AreTakenLeaving ended t (d ∷ list) = IsTakenLeaving ended t d × AreTakenLeaving ended (take_one t d) list

-- ---- small steps

-- the own actions of which the replica doesn't know whether they were delivered are each the next of their creator as they become red
abbrev pub CanRedden : Held → Type 0
CanRedden h = IsTrue (run_on h.queue.red_cut (names_of h.own))

-- what is handed to a member in its regular phase and as it leaves, and what becomes red as a replica enters a configuration or recovers
abbrev pub MeetsNone : Chronicle → Small → Type 0
MeetsNone c (Hands p) =
    IfSome (replica_of c.world p)
    (λ r. IfSome (at_place (home c.world.group p).ordered (suc (delivered_to c.world.group p))) (λ s. IsUsed
    r.state (begin r) s.from s.message))
MeetsNone c (Leaves p set own places) =
    IfSome (replica_of c.world p) (λ r. AreTakenLeaving (not (is_exchanging r.state)) (begin r)
    (TransitionalIn (regular_in (phase_of c.world.group p)) set ∷ deliveries_at (home c.world.group p) places))
MeetsNone c (Enters p) = IfSome (replica_of c.world p) (λ r. CanRedden r.held)
MeetsNone c (Recovers p) = IfSome (disk_held c.world p) CanRedden
MeetsNone c other = Unit {0}

abbrev pub MeetNone : Chronicle → List Small → Type 0
MeetNone c [] = Unit {0}
MeetNone c (s ∷ smalls) = MeetsNone c s × MeetNone (small_step c s) smalls

-- ---- turns

-- before its turns an event may make a configuration
abbrev pub before_turns : Event → List Small
before_turns (Merge set) = Makes set ∷ []
before_turns other = []

-- a turn that is struck and doesn't stand leaves no small step but its crash: so what each turn does is looked at besides, as if it came first.
-- What others do in the event doesn't reach it
abbrev pub TurnsMeetNone : Chronicle → (ℕ → List Small) → List Taken → Type 0
TurnsMeetNone c steps [] = Unit {0}
TurnsMeetNone c steps (t ∷ turns) = MeetNone c (steps t.id) × TurnsMeetNone c steps turns

-- no event that may stand and is admitted meets any of them, in no world to which events lead
abbrev pub NeverMet : Type 0
NeverMet =
    (c : Chronicle) (w : World) (e : Event) → StandsBeside c w → MayStand w e → first_refusal w e ≡ None →
    AreUsable w × MeetNone c (smalls_in w e) × TurnsMeetNone c (λ p. before_turns e ++ turn_steps w e p) (turns_of w e)
