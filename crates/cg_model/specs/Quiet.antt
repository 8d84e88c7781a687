-- When a configuration is quiet, and what then stands in it.
use Rattle.std.specs.Prelude.{◌≡◌, ℕ, ◌==◌, nat_le, Bool, true, false, ◌&&◌, ◌||◌, ◌≤◌, List, Option, Some, None, map, filter_map, length, IsTrue}
use Rattle.std.specs.List.{list_all}
use Rattle.std.specs.Option.{option_map_or}
use Rattle.cg_base.specs.declared.action_id.ActionId.{ActionId}
use Rattle.cg_base.specs.Sets.{has}
use Rattle.cg_base.specs.Ids.{has_name}
use Rattle.cg_base.specs.Lists.{above_up_to, greatest}
use Rattle.cg_base.specs.Cuts.{index_in}
use Rattle.cg_action.specs.declared.action.Action.{Action}
use Rattle.cg_queue.specs.Queue.{green_count, names_of}
use Rattle.cg_wire.specs.declared.message.Msg.{Msg}
use Rattle.cg_wire.specs.declared.message.Msg.TheVariants.{Action as ActionMsg, State as StateMsg}
use Rattle.cg_knowledge.specs.declared.summary.Summary.{Summary}
use Rattle.cg_knowledge.specs.Summaries.{gone, remaining}
use Rattle.cg_knowledge.specs.Verdict.{decides}
use Rattle.cg_group.specs.State.{GroupState, configuration, phase_of, regular_in, delivered_to, unordered_of}
use Rattle.cg_group.specs.Ready.{all_received}
use Rattle.cg_client.specs.Replica.{State, RegPrim, NonPrim, Held, Replica}
use Rattle.cg_model.specs.World.{World, replica_of, is_left}

-- a member is regular in the configuration, has nothing to be ordered, and was handed every place
abbrev pub is_quiet_at : GroupState Msg → ℕ → ℕ → Bool
is_quiet_at g conf p =
    (regular_in (phase_of g p) == conf) && (length (unordered_of g p) == 0)
    && (delivered_to g p == length (configuration g conf).ordered)

-- so are all members, and each has received every place
abbrev pub is_quiet : World → ℕ → Bool
is_quiet w conf =
    let c = configuration w.group conf in
    list_all (is_quiet_at w.group conf) c.members && list_all (all_received c) (above_up_to 0 (length c.ordered))

-- the messages of a configuration
abbrev pub messages_of : World → ℕ → List Msg
messages_of w conf = map (λ s. s.message) (configuration w.group conf).ordered

-- the summary of a message that is one
abbrev pub summary_in : Msg → Option Summary
summary_in (StateMsg s) = Some s
summary_in _ = None

-- the action of a message that is one
abbrev pub action_in : Msg → Option Action
action_in (ActionMsg a) = Some a
action_in _ = None

-- the summaries with which the members entered
abbrev pub summaries_in : World → ℕ → List Summary
summaries_in w conf = filter_map summary_in (messages_of w conf)

-- the action was known to a member as it entered, or was delivered in the configuration since
abbrev pub is_known_in : World → ℕ → ActionId → Bool
is_known_in w conf id =
    nat_le id.index (greatest (map (λ s. index_in s.red_cut id.creator) (summaries_in w conf)))
    || has_name (names_of (filter_map action_in (messages_of w conf))) id

-- the replica knows the action
abbrev pub knows : Replica → ActionId → Bool
knows r id = nat_le id.index (index_in r.held.queue.red_cut id.creator)

-- a member that remains: where the summaries decide it is in the primary component with nothing red, yellow or kept, and else
-- outside with nothing kept
abbrev pub is_settled : Bool → State → Held → Bool
is_settled true RegPrim h = (length h.queue.reds == 0) && (length h.queue.yellow == 0) && (length h.buffered == 0)
is_settled false (NonPrim regular) h = length h.buffered == 0
is_settled decided state h = false

-- the replica is one of the members that remain in the configuration
abbrev pub Remains : World → ℕ → ℕ → Replica → Type 0
Remains w conf p r = IsTrue (has (remaining (summaries_in w conf)) p) × (replica_of w p ≡ Some r)

-- what stands in a quiet configuration: who has left is in state Left; the others are all in the primary component
-- where the summaries decide, and else all outside; they have as many greens, and know the same actions
pub record IsSettled (w : World) (conf : ℕ) : Type 0 where
  pub left : IsTrue (list_all (is_left w) (gone (summaries_in w conf)))
  pub states : IsTrue
      (list_all (λ p. option_map_or (λ r. is_settled (decides (summaries_in w conf)) r.state r.held) (replica_of w p)
      false) (remaining (summaries_in w conf)))
  pub greens : (p q : ℕ) (r s : Replica) → Remains w conf p r → Remains w conf q s →
      green_count r.held.queue ≡ green_count s.held.queue
  pub actions : (p : ℕ) (r : Replica) (id : ActionId) → Remains w conf p r → 1 ≤ id.index →
      knows r id ≡ is_known_in w conf id
