-- What has to unfold besides for a run to compute: a case names the last of these words alone.
use Rattle.std.specs.Prelude.{⊤}
use Rattle.json.specs.Print.{escape_byte}
use Rattle.cg_wire.specs.Reading.{message_in}
use Rattle.cg_disk_records.specs.Parts.{do_agree, change_in, checkpoint_in}
use Rattle.cg_disk_records.specs.Reading.{actions_reading, ids_reading, change_reading, server_reading, servers_reading, members_reading, key_behind_reading, entry_reading, entries_reading, reached_reading, kept_reading, checkpoint_reading}
use Rattle.cg_model.specs.Computing.{schedules_compute}
use Rattle.cg_follow.specs.Line.{word_of as word_of_follow, make_reading, feed_reading, stop_reading as stop_reading_of_follow, recover_reading as recover_reading_of_follow, weak_reading as weak_reading_of_follow, event_reading as event_reading_of_follow, follow_reading}
use Rattle.cg_session.specs.Line.{word_of as word_of_session, begin_reading, write_reading, weak_reading as weak_reading_of_session, event_reading as event_reading_of_session, session_reading}
use Rattle.cg_made_rows.specs.Line.{word_of as word_of_relaxed, one_reading, both_reading, event_reading as event_reading_of_relaxed, relaxed_reading}
use Rattle.cg_compare.specs.Lines.{word_of as word_of_log, opening as opening_of_log, read_ids, ids_part, log_reading, line_reading}
use Rattle.cg_items.specs.Followers.{follow_refusal, follow_acts}
use Rattle.cg_items.specs.Relaxing.{relaxed_refusal, relaxed_lines}
use Rattle.cg_outcome.specs.Outcome.{line_outcome}
use Rattle.cg_outcome.specs.Rounds.{happened}

unfoldable pub json_computes : ⊤
unfolding escape_byte
json_computes = tt

unfoldable pub reading_computes : ⊤
unfolding message_in do_agree change_in checkpoint_in actions_reading ids_reading change_reading server_reading
    servers_reading members_reading key_behind_reading entry_reading entries_reading reached_reading kept_reading
    checkpoint_reading
reading_computes = tt

unfoldable pub follow_computes : ⊤
unfolding word_of_follow make_reading feed_reading stop_reading_of_follow recover_reading_of_follow
    weak_reading_of_follow event_reading_of_follow follow_reading follow_refusal follow_acts
follow_computes = tt

unfoldable pub session_computes : ⊤
unfolding word_of_session begin_reading write_reading weak_reading_of_session event_reading_of_session session_reading
session_computes = tt

unfoldable pub relaxed_computes : ⊤
unfolding word_of_relaxed one_reading both_reading event_reading_of_relaxed relaxed_reading relaxed_refusal
    relaxed_lines
relaxed_computes = tt

unfoldable pub compare_computes : ⊤
unfolding word_of_log opening_of_log read_ids ids_part log_reading line_reading
compare_computes = tt

unfoldable pub run_computes : ⊤
unfolding line_outcome happened
run_computes = tt

unfoldable pub cases_compute : ⊤
unfolding schedules_compute json_computes reading_computes follow_computes session_computes relaxed_computes
    compare_computes run_computes
cases_compute = tt
