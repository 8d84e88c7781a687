-- Tests of the facts about what each replica holds.
use Rattle.std.specs.Prelude.{ℕ, suc, ◌-◌, ◌==◌, nat_le, Bool, true, false, not, ◌&&◌, ◌||◌, List, [], ◌++◌, Option, Some, None, filter_map, drop, length, is_some, if◌then◌else◌}
use Rattle.std.specs.List.{list_all}
use Rattle.std.specs.Bool.{beq}
use Rattle.cg_base.specs.declared.weighted.Weighted.{Weighted}
use Rattle.cg_base.specs.Cuts.{index_in}
use Rattle.cg_base.specs.Calls.{same_ids}
use Rattle.cg_base.specs.Text.{is_nil}
use Rattle.cg_action.specs.declared.action.Action.{Action}
use Rattle.cg_db.specs.Apply.{fold_actions}
use Rattle.cg_members.specs.Servers.{members_of, starting}
use Rattle.cg_queue.specs.Queue.{names_of}
use Rattle.std.specs.Option.{option_eq}
use Rattle.cg_records.specs.contracts.primary.PrimaryPartialEq.TheImpl.{ghosts as primary}
use Rattle.cg_records.specs.contracts.vulnerable.VulnerablePartialEq.TheImpl.{ghosts as vulnerable}
use Rattle.cg_group.specs.declared.phase.Phase.{Phase}
use Rattle.cg_group.specs.State.{phase_of, unordered_of}
use Rattle.cg_client.specs.Replica.{Held, State, RegPrim, TransPrim, ExchangeStates, ExchangeActions, Construct, No, Un, NonPrim, Left, Replica, created}
use Rattle.cg_model.specs.World.{has_begun, replica_of}
use Rattle.cg_model.specs.Chronicle.{Attempt, Chronicle}
use Rattle.cg_model.specs.Looks.{greens_of, stood_of, disk_held, core_of, conf_at, ordered_in, attempt_of, attempt_at}
use Rattle.cg_model.specs.Talk.{action_in}
use Rattle.cg_model.specs.Levels.{is_record_of}
use Rattle.cg_model.specs.FactsReplica.{own_record, has_entered, has_installed, is_primary, is_attempting, booked, join_from}
use Rattle.cg_agree_cases.specs.Same.{same_action, same_actions, front_actions, same_databases, same_members, same_attempt}
use Rattle.cg_agree_cases.specs.Through.{if_some, is_some_with, for_replicas, for_confs, for_cores}
use Rattle.cg_disk_records.specs.Holds.{run_on, cut_behind, ascend}

abbrev is_made_of : List Weighted → Held → List Action → Bool
is_made_of start h greens =
    nat_le h.queue.white (length greens) && same_actions h.queue.greens (drop h.queue.white greens)
    && same_ids h.queue.green_cut (cut_behind [] (names_of greens))
    && same_ids h.queue.red_cut (cut_behind h.queue.green_cut (names_of h.queue.reds))
    && same_databases h.db (fold_actions greens)
    && same_members h.members (members_of start greens)

abbrev is_contiguous : Held → List Action → Bool
is_contiguous h greens =
    run_on [] (names_of greens) && run_on h.queue.green_cut (names_of h.queue.reds) && ascend (names_of h.queue.reds)
    && run_on h.queue.red_cut (names_of h.own) && list_all (λ a. a.id.creator == h.id) h.own

abbrev pub made_of_greens : Chronicle → Bool
made_of_greens c = for_cores c (is_made_of c.start)

abbrev pub contiguous : Chronicle → Bool
contiguous c = for_cores c is_contiguous

abbrev pub yellow_closed : Chronicle → Bool
yellow_closed c =
    for_cores c (λ h greens. run_on h.queue.green_cut h.queue.yellow
    && list_all (λ id. nat_le id.index (index_in h.queue.red_cut id.creator)) h.queue.yellow)

abbrev is_in_primary : Chronicle → Held → ℕ → Bool
is_in_primary c h conf =
    let a = attempt_at c h.prim.index in
    is_some_with (attempt_of c conf) (same_attempt a) && (h.prim.conf == conf)
    && option_eq vulnerable.eq h.vulnerable (Some (own_record a h.id))
    && (h.prim.index == suc a.from) && not h.yellow_valid

abbrev is_in_attempt : Held → Option Attempt → Bool
is_in_attempt h None = false
is_in_attempt h (Some a) = option_eq vulnerable.eq h.vulnerable (Some (own_record a h.id))
    && (h.prim.index == a.from) && is_nil h.own

abbrev has_data : Chronicle → Held → Phase → State → Bool
has_data c h phase RegPrim = is_in_primary c h (conf_at phase) && is_nil h.queue.reds && is_nil h.queue.yellow
has_data c h phase TransPrim = is_in_primary c h (conf_at phase)
    && same_ids (cut_behind h.queue.green_cut h.queue.yellow) h.queue.red_cut
has_data c h phase (Construct conf heard) = is_in_attempt h (attempt_of c (conf_at phase))
has_data c h phase (No conf heard) = is_in_attempt h (attempt_of c (conf_at phase))
has_data c h phase Un = is_in_attempt h (attempt_of c (conf_at phase))
has_data c h phase (ExchangeStates conf set heard) = is_nil h.own
has_data c h phase (ExchangeActions conf summaries accepted) = is_nil h.own
has_data c h phase _ = true

abbrev is_counted : Attempt → Replica → Bool
is_counted a r =
    beq (has_entered a r.held.id) (is_attempting r.state || is_primary r.state)
    && beq (has_installed a r.held.id) (is_primary r.state)
    && not (is_record_of a.conf r.held.vulnerable && not (has_entered a r.held.id))

abbrev is_mode_data : Chronicle → ℕ → Phase → Replica → Bool
is_mode_data c p phase r = (r.held.id == p) && has_data c r.held phase r.state
    && if_some (attempt_of c (conf_at phase)) (λ a. is_counted a r)

abbrev pub mode_data : Chronicle → Bool
mode_data c = for_replicas c (λ p. if_some (replica_of c.world p) (is_mode_data c p (phase_of c.world.group p)))

abbrev goes_on : Chronicle → Held → Held → Bool
goes_on c now disk =
    (now.queue.white == disk.queue.white) && same_ids now.queue.green_cut disk.queue.green_cut
    && for_replicas c (λ q. nat_le (index_in disk.queue.red_cut q) (index_in now.queue.red_cut q))
    && same_ids now.queue.yellow disk.queue.yellow
    && beq now.yellow_valid disk.yellow_valid && primary.eq now.prim disk.prim
    && (now.attempt_index == disk.attempt_index)
    && option_eq vulnerable.eq now.vulnerable disk.vulnerable && (created now == created disk)
    && same_actions now.own (drop (length disk.own - length now.own) disk.own)

abbrev is_as_on_disk : Held → Held → State → Bool
is_as_on_disk now disk (Construct conf heard) = same_actions now.queue.reds disk.queue.reds
is_as_on_disk now disk (No conf heard) = same_actions now.queue.reds disk.queue.reds
is_as_on_disk now disk Un = same_actions now.queue.reds disk.queue.reds
is_as_on_disk now disk _ = true

-- what stands on the disk of a replica is what it holds, but for reds
abbrev pub is_written : Chronicle → ℕ → Bool
is_written c p =
    same_actions (greens_of c p) (stood_of c p)
    && if_some (replica_of c.world p) (λ r. is_some_with (disk_held c.world p) (λ disk.
    goes_on c r.held disk && is_as_on_disk r.held disk r.state))

abbrev pub disk_agrees : Chronicle → Bool
disk_agrees c = for_replicas c (is_written c)

abbrev pub disk_behind : Chronicle → Bool
disk_behind c =
    for_replicas c (λ p. front_actions (stood_of c p) (greens_of c p)
    && (is_some (replica_of c.world p) || same_actions (greens_of c p) (stood_of c p)))

abbrev is_empty_in : Held → State → Bool
is_empty_in h RegPrim = is_nil h.buffered
is_empty_in h (NonPrim true) = is_nil h.buffered
is_empty_in h Left = is_nil h.buffered
is_empty_in h _ = true

abbrev pub buffer_empty : Chronicle → Bool
buffer_empty c = for_replicas c (λ p. if_some (replica_of c.world p) (λ r. is_empty_in r.held r.state))

abbrev are_booked : Chronicle → List Action → Bool
are_booked c actions = list_all (λ a. is_some_with (booked c a.id) (same_action a)) actions

abbrev pub made_once : Chronicle → Bool
made_once c =
    run_on [] (names_of c.book)
    && for_replicas c (λ p. if_some (core_of c p) (λ h. index_in (cut_behind [] (names_of c.book)) p == created h)
    && are_booked c (greens_of c p) && are_booked c (filter_map action_in (unordered_of c.world.group p))
    && if_some (replica_of c.world p) (λ r. are_booked c (r.held.queue.reds ++ r.held.own))
    && if_some (disk_held c.world p) (λ h. are_booked c (h.queue.reds ++ h.own)))
    && for_confs c (λ conf. are_booked c (filter_map (λ s. action_in s.message) (ordered_in c conf)))

-- who is named by the book has begun, and so have the servers of the start; and the parts of attempts are booked
abbrev pub origins : Chronicle → Bool
origins c =
    list_all (λ a. has_begun c.world a.id.creator) c.book
    && list_all (λ s. has_begun c.world s.id) (starting c.start).servers
    && for_confs c (λ conf. if_some (attempt_of c conf) (λ a. are_booked c (a.yellow ++ a.reds)))

abbrev is_lined : Chronicle → Held → List Action → Bool
is_lined c h greens =
    list_all (λ s. nat_le h.queue.white s.line
    && (if has_begun c.world s.id then nat_le s.line (length (greens_of c s.id))
    else s.line == join_from 0 greens s.id))
    h.members.servers

abbrev pub lines_below : Chronicle → Bool
lines_below c = list_all (λ a. nat_le a.green_line (length (greens_of c a.id.creator))) c.book
    && for_cores c (is_lined c)
