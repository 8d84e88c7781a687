-- Tests of the facts about what the members of a configuration say.
use Rattle.std.specs.Prelude.{ℕ, suc, ◌==◌, Bool, true, false, not, ◌&&◌, ◌||◌, List, [], ◌∷◌, map, filter_map, drop, length}
use Rattle.std.specs.List.{list_all}
use Rattle.std.specs.Cmp.Lexicographic.{pointwise}
use Rattle.cg_base.specs.declared.action_id.ActionId.{ActionId}
use Rattle.cg_base.specs.Cuts.{index_in}
use Rattle.cg_base.specs.Lists.{at_place, count_up}
use Rattle.cg_base.specs.Sets.{has, is_within}
use Rattle.cg_base.specs.Text.{is_nil}
use Rattle.cg_action.specs.declared.action.Action.{Action}
use Rattle.cg_knowledge.specs.Summaries.{remaining}
use Rattle.cg_plan.specs.contracts.parts.ItemPartialEq.TheImpl.{ghosts as same_item}
use Rattle.cg_wire.specs.declared.message.Msg.{Msg}
use Rattle.cg_wire.specs.declared.message.Msg.TheVariants.{GreenItem}
use Rattle.cg_group.specs.declared.phase.Phase.{Phase}
use Rattle.cg_group.specs.declared.phase.Phase.TheVariants.{Regular, Transitional}
use Rattle.cg_group.specs.State.{phase_of}
use Rattle.cg_client.specs.Replica.{Held, State, RegPrim, TransPrim, Construct, No, Un, NonPrim, Left, Replica}
use Rattle.cg_client.specs.Requests.{is_creating}
use Rattle.cg_states.specs.Construct.{attempt_set}
use Rattle.cg_model.specs.World.{replica_of}
use Rattle.cg_model.specs.Chronicle.{Chronicle}
use Rattle.cg_model.specs.Looks.{told_in, is_regular_in, members_in, ordered_in, sent_by, waiting_in, said_in}
use Rattle.cg_model.specs.Talk.{Talk, no_talk, is_ended, is_legal, state_in, summary_in, item_in, announcer_in, act_in, due_items, due_announcement, known_up_to}
use Rattle.cg_model.specs.Levels.{lacks_announcement}
use Rattle.cg_model.specs.FactsTalk.{whole_talk, handed_talk, summaries_of, of_creator, count_behind}
use Rattle.cg_model.specs.Smalls.{implies}
use Rattle.cg_agree_cases.specs.Same.{same_action, same_actions, same_numbers, same_summaries, same_state}
use Rattle.cg_agree_cases.specs.Through.{if_some, is_some_with, for_replicas, for_confs, for_both}

abbrev pub talk_legal : Chronicle → Bool
talk_legal c =
    for_confs c (λ conf. is_legal (members_in c conf) conf no_talk (ordered_in c conf)
    && for_replicas c (λ p. is_legal (members_in c conf)
    conf (whole_talk c conf) (map (sent_by p) (waiting_in c conf p))))

abbrev says_due : Chronicle → ℕ → ℕ → Talk → List Msg → Bool
says_due c conf p t said =
    same_summaries (filter_map summary_in said) (summaries_of (told_in c conf p))
    && pointwise same_item.eq (filter_map item_in said) (due_items (members_in c conf) t p)
    && same_numbers (filter_map announcer_in said) (due_announcement (members_in c conf) t p)
    && (is_creating (state_in (members_in c conf) conf t p) || is_nil (filter_map act_in said))

abbrev pub sent_iff_due : Chronicle → Bool
sent_iff_due c =
    for_both c (λ conf p. implies (is_regular_in c conf p) (says_due c conf
    p (handed_talk c conf p) (said_in c conf p)))

abbrev pub heard_is_told : Chronicle → Bool
heard_is_told c =
    for_confs c (λ conf. list_all (λ s. same_summaries (summaries_of (told_in c conf s.id)) (s ∷ []))
    (whole_talk c conf).heard)

abbrev is_transitional : Chronicle → ℕ → ℕ → Held → State → Bool
is_transitional c conf p h (NonPrim regular) = not regular
is_transitional c conf p h (No at heard) =
    (at == conf) && not (is_within (attempt_set h) heard)
    && list_all (λ q. has heard q || lacks_announcement c conf p q) (attempt_set h)
is_transitional c conf p h Left = true
is_transitional c conf p h TransPrim = true
is_transitional c conf p h Un = true
is_transitional c conf p h _ = false

abbrev is_state : Chronicle → ℕ → Phase → Replica → Bool
is_state c p (Regular conf) r = same_state r.state (state_in (members_in c conf) conf (handed_talk c conf p) p)
is_state c p (Transitional conf set) r = is_transitional c conf p r.held r.state
is_state c p _ r = same_state r.state (NonPrim false)

abbrev pub mode_fits : Chronicle → Bool
mode_fits c = for_replicas c (λ p. if_some (replica_of c.world p) (is_state c p (phase_of c.world.group p)))

abbrev is_content : List Action → Msg → Bool
is_content greens (GreenItem at a) = is_some_with (at_place greens at) (same_action a)
is_content greens _ = true

abbrev pub content : Chronicle → Bool
content c = for_both c (λ conf p. if_some (told_in c conf p) (λ t. list_all (is_content t.greens) (said_in c conf p)))

abbrev on_the_way : Chronicle → ℕ → ℕ → Held → Bool
on_the_way c conf p h =
    same_actions h.own (drop (length (of_creator p (handed_talk c conf p).acts)) (filter_map act_in (said_in c conf p)))

-- the cut goes as far as the talk that was handed to the member
abbrev is_cut_behind : Chronicle → ℕ → ℕ → List ActionId → Bool
is_cut_behind c conf p cut = for_replicas c (λ q. index_in cut q == count_behind (handed_talk c conf p) q)

abbrev is_numbered : Chronicle → ℕ → ℕ → Held → State → Bool
is_numbered c conf p h (NonPrim true) = is_cut_behind c conf p h.queue.red_cut && on_the_way c conf p h
is_numbered c conf p h RegPrim = is_cut_behind c conf p h.queue.green_cut && is_nil h.queue.reds
    && on_the_way c conf p h
is_numbered c conf p h (Construct at heard) = is_cut_behind c conf p h.queue.red_cut
is_numbered c conf p h _ = true

abbrev is_numbered_at : Chronicle → ℕ → Phase → Replica → Bool
is_numbered_at c p (Regular conf) r = is_numbered c conf p r.held r.state
is_numbered_at c p _ r = true

-- the actions of a member in a configuration go on where what some member knew ends
abbrev go_on : Chronicle → ℕ → Talk → ℕ → Bool
go_on c conf t p =
    let acts = filter_map act_in (said_in c conf p) in
    same_numbers (map (λ a. a.id.index) acts) (count_up (suc (known_up_to t.heard p)) (length acts))

abbrev pub acts_numbered : Chronicle → Bool
acts_numbered c =
    for_confs c (λ conf. (let t = whole_talk c conf in
    implies (is_ended (members_in c conf) t) (list_all (go_on c conf t) (remaining t.heard))))
    && for_replicas c (λ p. if_some (replica_of c.world p) (is_numbered_at c p (phase_of c.world.group p)))
