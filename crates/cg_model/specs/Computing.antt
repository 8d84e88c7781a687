-- All that has to unfold for a schedule to compute: a case names the last of these words alone.
use Rattle.std.specs.Prelude.{⊤}
use Rattle.std.specs.Fmt.{digits}
use Rattle.std.specs.Str.{chars, is_utf8}
use Rattle.std.specs.Char.{encode_utf8}
use Rattle.cg_base.specs.Replicas.{every_replica}
use Rattle.cg_text.specs.Tokens.{tokens_from}
use Rattle.cg_codec.specs.Fields.{byte, number32, number64, signed64, truth, text as text_of_codec_fields}
use Rattle.cg_codec.specs.Reading.{take_u8, take_u32, take_u64, take_i64, take_truth, take_count, take_text, take_items, byte_between}
use Rattle.cg_action.specs.Reading.{number_from, id_reading, key_reading, value_of_tag, value_reading, want_of_tag, want_reading, amount_reading, put_reading as put_reading_of_action_reading, del_reading as del_reading_of_action_reading, inc_reading as inc_reading_of_action_reading, cas_reading as cas_reading_of_action_reading, move_reading as move_reading_of_action_reading, need_reading as need_reading_of_action_reading, command_of_tag, command_reading, query_of_tag, query_reading as query_reading_of_action_reading, commands_reading, query_behind, update_reading as update_reading_of_action_reading, heavy_join_reading, kind_of_tag, kind_reading, action_reading}
use Rattle.cg_db.specs.Apply.{run_commands}
use Rattle.cg_db.specs.Plan.{with_changes}
use Rattle.cg_vote.specs.Quorum.{is_quorum}
use Rattle.cg_queue.specs.Body.{reds_from, all_reds}
use Rattle.cg_records.specs.Bytes.{spelled_set, spelled_names, spelled_cut, spelled_weighted, spelled_weight_set, spelled_prim, spelled_vulnerable, spelled_yellow, spelled_stable}
use Rattle.cg_records.specs.Reading.{take_number, take_index, take_id_above, take_set, take_weight, take_weighted_above, take_weight_set, take_name_above, take_cut, take_names, take_prim, take_vulnerable, take_maybe_vulnerable, take_yellow, take_stable}
use Rattle.cg_knowledge.specs.Summaries.{senders, most_updated, lowest, gone, remaining}
use Rattle.cg_knowledge.specs.Primary.{newest_index, newest, known_primary, known_attempt}
use Rattle.cg_knowledge.specs.Verdict.{records_of, all_cleared, decides}
use Rattle.cg_knowledge.specs.Calls.{verdict_of}
use Rattle.cg_knowledge.specs.Vulnerable.{all_bits, is_long_past, is_overtaken, is_ended_by_one, is_ended_by_all, is_cleared}
use Rattle.cg_knowledge.specs.Yellow.{yellow_group, is_green_at_most, is_in_each, common_yellow}
use Rattle.cg_plan.specs.Items.{items_of_plan}
use Rattle.cg_plan.specs.Place.{items_before}
use Rattle.cg_plan.specs.Plan.{of_remaining, least_greens, farthest, least_reds, reds_of, creators, plan_of}
use Rattle.cg_plan.specs.Progress.{next_item, is_done, turn_of}
use Rattle.cg_wire.specs.Bytes.{spelled_summary, spelled_msg}
use Rattle.cg_wire.specs.Reading.{summary_reading, green_item_reading, red_item_reading, item_of_tag, item_reading, action_msg_reading, state_reading, cpc_reading, msg_of_tag, msg_reading}
use Rattle.cg_group.specs.Events.{come_up, go_down, send_from, send, with_receipt, with_message, order_from, order, receive, order_all, receive_all, gather, delivery_at, deliver, transitional_places, handed_in_split, become_transitional, split, become_regular, merge}
use Rattle.cg_group.specs.Ready.{all_received, ready_in}
use Rattle.cg_group.specs.Refusals.{order_refusal, receive_refusal, deliver_refusal, split_refusal, merge_refusal}
use Rattle.cg_group.specs.State.{standing_of, configuration, has_received, set_standing, set_configuration}
use Rattle.cg_schedule.specs.Command.{put_reading as put_reading_of_schedule_command, del_reading as del_reading_of_schedule_command, inc_reading as inc_reading_of_schedule_command, cas_reading as cas_reading_of_schedule_command, move_reading as move_reading_of_schedule_command, need_reading as need_reading_of_schedule_command, command_of, query_of, query_reading as query_reading_of_schedule_command, with_query, commands, update_of, update_reading as update_reading_of_schedule_command}
use Rattle.cg_schedule.specs.Line.{word_of, opening, ids, weights, start_reading, split_reading, merge_reading, request_reading, weak_reading, dirty_reading, order_reading, recover_stopped_reading, recover_reading, downgrade_reading, show_reading, receive_reading, deliver_reading, rounds_reading, stop_reading, fail_reading, join_reading, leave_reading, transfer_reading, event_reading}
use Rattle.cg_schedule.specs.Part.{number, integer, amount, weighted, text as text_of_schedule_part, value, want, fill, number_part, id_part, count_part, integer_part, amount_part, weighted_part, text_part, value_part, want_part, fill_part}
use Rattle.cg_client.specs.Install.{install}
use Rattle.cg_client.specs.Marks.{is_unmade, mark_red, mark_yellow, can_be_green, place_green, mark_green}
use Rattle.cg_client.specs.Queries.{view_of}
use Rattle.cg_client.specs.Requests.{create, create_kept}
use Rattle.cg_client.specs.Summary.{summary_of, own_to_red, enter_exchange}
use Rattle.cg_states.specs.ExchangeActions.{send_part, go_on}
use Rattle.cg_states.specs.PlanEnd.{usable_names, take_over, attempt, decide, end_plan}
use Rattle.cg_disk_records.specs.Change.{spelled_change}
use Rattle.cg_disk_records.specs.Checkpoint.{spelled_server, spelled_entry, spelled_reached, spelled_kept, spelled_parts, spelled_checkpoint}
use Rattle.cg_disk_records.specs.Stored.{whiten, recovery_turn}
use Rattle.cg_disk_records.specs.Following.{after_change}
use Rattle.cg_disk_records.specs.Commit.{same_values, commits}
use Rattle.cg_disk_records.specs.Crash.{with_change, with_checkpoint, crash_outcome, end_event}
use Rattle.cg_disk_records.specs.Recovery.{recovery_outcome}
use Rattle.cg_older.specs.Bytes.{spelled_old_prim, spelled_old_stable, spelled_old_server, spelled_old_reached, spelled_old_parts, spelled_old_checkpoint}
use Rattle.cg_older.specs.Older.{has_weights}
use Rattle.cg_states.specs.ReplicaStep.{on_message, on_transitional, on_regular, after_delivery, replica_step}
use Rattle.cg_model.specs.Admission.{first_refusal}
use Rattle.cg_model.specs.Show.{ended}
use Rattle.cg_model.specs.Step.{hand, happens, world_step}

unfoldable pub std_computes : ⊤
unfolding chars is_utf8 digits encode_utf8
std_computes = tt

unfoldable pub base_computes : ⊤
unfolding every_replica
base_computes = tt

unfoldable pub text_computes : ⊤
unfolding tokens_from
text_computes = tt

unfoldable pub codec_computes : ⊤
unfolding byte number32 number64 signed64 truth text_of_codec_fields take_u8 take_u32 take_u64 take_i64 take_truth
    take_count take_text take_items
codec_computes = tt

unfoldable pub action_computes : ⊤
unfolding byte_between number_from id_reading key_reading value_of_tag value_reading want_of_tag want_reading
    amount_reading put_reading_of_action_reading del_reading_of_action_reading inc_reading_of_action_reading
    cas_reading_of_action_reading move_reading_of_action_reading need_reading_of_action_reading command_of_tag
    command_reading query_of_tag query_reading_of_action_reading commands_reading query_behind
    update_reading_of_action_reading heavy_join_reading kind_of_tag kind_reading action_reading
action_computes = tt

unfoldable pub db_computes : ⊤
unfolding run_commands with_changes
db_computes = tt

unfoldable pub vote_computes : ⊤
unfolding is_quorum
vote_computes = tt

unfoldable pub queue_computes : ⊤
unfolding reds_from all_reds
queue_computes = tt

unfoldable pub records_computes : ⊤
unfolding spelled_set spelled_names spelled_cut spelled_weighted spelled_weight_set spelled_prim spelled_vulnerable
    spelled_yellow spelled_stable take_number take_index take_id_above take_set take_weight take_weighted_above
    take_weight_set take_name_above take_cut take_names take_prim take_vulnerable take_maybe_vulnerable take_yellow
    take_stable
records_computes = tt

unfoldable pub knowledge_computes : ⊤
unfolding senders most_updated lowest gone remaining newest_index newest known_primary known_attempt records_of
    all_cleared decides verdict_of all_bits is_long_past is_overtaken is_ended_by_one is_ended_by_all is_cleared
    yellow_group is_green_at_most is_in_each common_yellow
knowledge_computes = tt

unfoldable pub plan_computes : ⊤
unfolding items_of_plan items_before of_remaining least_greens farthest least_reds reds_of creators plan_of next_item
    is_done turn_of
plan_computes = tt

unfoldable pub wire_computes : ⊤
unfolding spelled_summary spelled_msg summary_reading green_item_reading red_item_reading item_of_tag item_reading
    action_msg_reading state_reading cpc_reading msg_of_tag msg_reading
wire_computes = tt

unfoldable pub group_computes : ⊤
unfolding come_up go_down send_from send with_receipt with_message order_from order receive order_all receive_all
    gather delivery_at deliver transitional_places handed_in_split become_transitional split become_regular merge
    all_received ready_in order_refusal receive_refusal deliver_refusal split_refusal merge_refusal standing_of
    configuration has_received set_standing set_configuration
group_computes = tt

unfoldable pub schedule_computes : ⊤
unfolding put_reading_of_schedule_command del_reading_of_schedule_command inc_reading_of_schedule_command
    cas_reading_of_schedule_command move_reading_of_schedule_command need_reading_of_schedule_command command_of
    query_of query_reading_of_schedule_command with_query commands update_of update_reading_of_schedule_command
    word_of opening ids weights start_reading split_reading merge_reading request_reading weak_reading dirty_reading
    order_reading recover_stopped_reading recover_reading downgrade_reading show_reading receive_reading
    deliver_reading rounds_reading stop_reading fail_reading join_reading leave_reading transfer_reading event_reading
    number integer amount weighted text_of_schedule_part value want fill number_part id_part count_part integer_part
    amount_part weighted_part text_part value_part want_part fill_part
schedule_computes = tt

unfoldable pub client_computes : ⊤
unfolding install is_unmade mark_red mark_yellow can_be_green place_green mark_green view_of create create_kept
    summary_of own_to_red enter_exchange
client_computes = tt

unfoldable pub exchange_computes : ⊤
unfolding send_part go_on usable_names take_over attempt decide end_plan
exchange_computes = tt

unfoldable pub stored_computes : ⊤
unfolding spelled_change after_change spelled_server spelled_entry spelled_reached spelled_kept spelled_parts
    spelled_checkpoint whiten recovery_turn
stored_computes = tt

unfoldable pub older_computes : ⊤
unfolding spelled_old_prim spelled_old_stable spelled_old_server spelled_old_reached spelled_old_parts
    spelled_old_checkpoint has_weights
older_computes = tt

unfoldable pub step_computes : ⊤
unfolding same_values commits with_change with_checkpoint crash_outcome end_event recovery_outcome on_message
    on_transitional on_regular after_delivery replica_step
step_computes = tt

unfoldable pub agree_computes : ⊤
unfolding first_refusal ended hand happens world_step
agree_computes = tt

unfoldable pub schedules_compute : ⊤
unfolding std_computes base_computes text_computes codec_computes action_computes db_computes vote_computes
    queue_computes records_computes knowledge_computes plan_computes wire_computes group_computes schedule_computes
    client_computes exchange_computes stored_computes older_computes step_computes agree_computes
schedules_compute = tt
