-- What a part of a run comes to. Parts follow one another: the items of the first come before those of the next, and the
-- first finding ends the run.
use Rattle.std.specs.Prelude.{ℕ, ◌+◌, nat_lt, List, [], ◌∷◌, ◌++◌, Option, Some, None, option_map, option_and_then, if◌then◌else◌}
use Rattle.std.specs.Option.{option_map_or}
use Rattle.cg_base.specs.Ascii.{LINE_FEED}
use Rattle.cg_group.specs.declared.reason.Reason.{Reason}
use Rattle.cg_schedule.specs.declared.event.Event.{Event}
use Rattle.cg_schedule.specs.declared.reader_state.ReaderState.{ReaderState}
use Rattle.cg_schedule.specs.Line.{first_state}
use Rattle.cg_model.specs.World.{World, no_world}
use Rattle.cg_model.specs.Admission.{first_refusal}
use Rattle.cg_model.specs.Show.{Moved}
use Rattle.cg_model.specs.Step.{world_step}
use Rattle.cg_model.specs.Run.{Step, Refusal, step_limit}
use Rattle.cg_json.specs.JsonText.{tail_json}
use Rattle.cg_compare.specs.declared.log.Log.{Log}
use Rattle.cg_compare.specs.Join.{join_logs}
use Rattle.cg_compare.specs.JoinText.{joined_text}
use Rattle.cg_client.specs.Replica.{Replica}
use Rattle.cg_image.specs.Inspecting.{replica_text}
use Rattle.cg_items.specs.declared.companion.Companion.{Companion}
use Rattle.cg_items.specs.declared.companion.Further.{Further}
use Rattle.cg_items.specs.Companion.{Noted, acts, event_of, follows, further_refusal}
use Rattle.cg_items.specs.Items.{Item, report_in}
use Rattle.cg_items.specs.Refused.{Refused, OfEvent, OfFurther}
use Rattle.cg_items.specs.declared.report.Report.{Report}
use Rattle.cg_items.specs.declared.report.Report.TheVariants.{Json, Joined, Inspected, Imaged}
use Rattle.cg_outcome.specs.declared.status.Status.{Status}
use Rattle.cg_outcome.specs.declared.status.Status.TheVariants as status
use Rattle.cg_outcome.specs.declared.status.Limit.TheVariants.{Steps}
use Rattle.cg_outcome.specs.declared.totals.Totals.{Totals}
use Rattle.cg_outcome.specs.Status.{tail_line, tail_text}
use Rattle.cg_outcome.specs.Totals.{no_totals, with_entry}

-- how far a run has come: the world, what its command keeps beside it, what the reader has read, how many items were made,
-- what they have shown, the logs that were read, and the replica that was seen in an image
pub record Progress : Type 0 where
  pub world : World
  pub companion : Companion
  pub reader : ReaderState
  pub count : ℕ
  pub totals : Totals
  pub logs : List Log
  pub replica : Option Replica

-- what ends a run: its status, the whole lines gone through, and the refusal, where it is one
pub record Finding : Type 0 where
  pub status : Status
  pub lines : ℕ
  pub refused : Option Refused

-- the items that a part makes, the finding that ends the run in it, if one does, and how far the run has come behind it
pub record Produced : Type 0 where
  pub items : List Item
  pub found : Option Finding
  pub progress : Progress

-- before the first line, with this beside the world
abbrev pub before_all : Companion → Progress
before_all c = record {
  world = no_world;
  companion = c;
  reader = first_state;
  count = 0;
  totals = no_totals;
  logs = [];
  replica = None;
}

-- the tail of a report
abbrev pub tail_in : Report → Status → ℕ → ℕ → List ℕ
tail_in Json status steps lines = tail_json (tail_line status steps lines)
tail_in other status steps lines = tail_text status steps lines

-- what is told of logs, as a line of its own
abbrev pub logs_text : List Log → List ℕ
logs_text logs = joined_text (join_logs logs) ++ LINE_FEED ∷ []

-- what a run puts at its end: the tail, but for what its logs come to, what is seen in an image, or nothing, where it is done
abbrev pub done_in : Report → ℕ → Progress → List ℕ
done_in Joined lines s = logs_text s.logs
done_in Inspected lines s = option_map_or replica_text s.replica []
done_in Imaged lines s = []
done_in report lines s = tail_in report status.Done s.count lines

abbrev pub end_in : Report → Status → ℕ → Progress → List ℕ
end_in report status.Done lines s = done_in report lines s
end_in report other lines s = tail_in report other s.count lines

-- what was put, with what the finding puts, where there is one
abbrev pub with_tail : Report → List ℕ → Option Finding → Progress → List ℕ
with_tail report put None s = put
with_tail report put (Some f) s = put ++ end_in report f.status f.lines s

-- what a part puts: the report of its items, and its end where it ends the run
abbrev pub text_of : Report → Produced → List ℕ
text_of report p = with_tail report (report_in report p.items) p.found p.progress

-- the status of a part that ends the run
abbrev pub status_of : Produced → Option Status
status_of p = option_map (λ f. f.status) p.found

-- the refusal that ends the run, where one does: of an event of the schedule, or of a further one
abbrev pub refused_in : Produced → Option Refused
refused_in p = option_and_then (λ f. f.refused) p.found

abbrev pub of_event : Refused → Option Refusal
of_event (OfEvent refusal) = Some refusal
of_event (OfFurther event reason) = None

abbrev pub refusal_of : Produced → Option Refusal
refusal_of p = option_and_then of_event (refused_in p)

-- nothing is found and nothing is made
abbrev pub went_on : Progress → Produced
went_on s = record { items = []; found = None; progress = s }

-- the run ends with a status, so many whole lines having been gone through
abbrev pub ended_with : Status → ℕ → Progress → Produced
ended_with status lines s =
    record { items = []; found = Some record { status = status; lines = lines; refused = None }; progress = s }

-- the event of line n isn't admitted
abbrev pub refused_with : ℕ → Refused → Reason → Progress → Produced
refused_with n refused reason s =
    let f : Finding = record { status = status.Refused n reason; lines = n; refused = Some refused } in
    record { items = []; found = Some f; progress = s }

-- these items come first
abbrev pub prepend : List Item → Produced → Produced
prepend items p = record { items = items ++ p.items; found = p.found; progress = p.progress }

-- what comes after, unless the run has ended
abbrev pub and_then : Produced → (Progress → Produced) → Produced
and_then p more = option_map_or (λ f. p) p.found (prepend p.items (more p.progress))

-- an item is made, unless there are too many; what it moves to is given, and its line's number
abbrev pub counted : ℕ → Item → Progress → Progress → Produced
counted n item next s =
    if nat_lt s.count step_limit then record { items = item ∷ []; found = None; progress = next }
    else ended_with (status.Limit n Steps) n s

-- a step of the world, which a further event may have asked for; what it moves to is given
abbrev pub stepped : ℕ → Option Further → Event → Moved → Progress → Produced
stepped n asked event m s =
    let step : Step = record { event = event; entry = m.entry; world = m.world } in
    let noted = follows s.companion asked step in
    counted n (record { number = s.count + 1; further = asked; step = Some step; lines = noted.lines })
    (record s {
      world = m.world;
      companion = noted.companion;
      count = s.count + 1;
      totals = with_entry s.totals m.entry;
    }) s

-- an event of the schedule that is admitted makes its step; another ends the run
abbrev pub unless_refused : Option Reason → ℕ → Option Further → Event → Progress → Produced
unless_refused refusal n asked event s =
    option_map_or (λ reason. refused_with n (OfEvent (record { event = event; reason = reason })) reason s) refusal
    (stepped n asked event (world_step s.world event) s)

-- one step of line n, where its event is admitted
abbrev pub one_step : ℕ → Option Further → Event → Progress → Produced
one_step n asked event s = unless_refused (first_refusal s.world event) n asked event s

-- a further event that stands for none of the schedule
abbrev pub acted : ℕ → Further → Noted → Progress → Produced
acted n e noted s =
    counted n (record { number = s.count + 1; further = Some e; step = None; lines = noted.lines })
    (record s { companion = noted.companion; count = s.count + 1 }) s

-- a further event that is admitted makes the step for which it stands, or acts beside the world; another ends the run
abbrev pub unless_further_refused : Option Reason → ℕ → Further → Progress → Produced
unless_further_refused refusal n e s =
    option_map_or (λ reason. refused_with n (OfFurther e reason) reason s) refusal
    (option_map_or (λ event. one_step n (Some e) event s) (event_of e) (acted n e (acts s.world s.companion e) s))

-- the further event of line n
abbrev pub one_further : ℕ → Further → Progress → Produced
one_further n e s = unless_further_refused (further_refusal s.world s.companion e) n e s
