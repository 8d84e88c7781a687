-- What a run comes to, as a function of its words, of the bytes taken and of how the taking ended.
use Rattle.std.specs.Prelude.{ℕ, ◌+◌, ◌-◌, nat_lt, nat_eq, take, Result, Ok, Err, if◌then◌else◌, List, [], ◌∷◌, ◌++◌, map, length, codes, Option, Some, None}
use Rattle.std.specs.Option.{option_map_or}
use Rattle.cg_base.specs.Text.{pieces_of}
use Rattle.std.specs.List.{ends_with}
use Rattle.cg_base.specs.Ascii.{LINE_FEED}
use Rattle.cg_outcome.specs.declared.limits.TheConstants.{INPUT_BYTES, LINES, LINE_BYTES}
use Rattle.cg_schedule.specs.declared.event.Event.{Event}
use Rattle.cg_schedule.specs.declared.event.Event.TheVariants.{End}
use Rattle.cg_schedule.specs.declared.fault.LineFault.{LineFault}
use Rattle.cg_schedule.specs.declared.fault.LineFault.TheVariants.{Syntax, NoMemory}
use Rattle.cg_schedule.specs.Fault.{syntax_number}
use Rattle.cg_schedule.specs.Line.{reading, state_after}
use Rattle.cg_outcome.specs.Produced.{Progress, Produced, before_all, went_on, ended_with, and_then, text_of, one_further}
use Rattle.cg_outcome.specs.declared.status.Status.TheVariants as status
use Rattle.cg_outcome.specs.declared.status.Limit.{Limit}
use Rattle.cg_outcome.specs.declared.status.Limit.TheVariants as limit
use Rattle.cg_outcome.specs.declared.command.Command.{Command}
use Rattle.cg_outcome.specs.declared.command.Command.TheVariants.{Replay, Generate, Trial, Follow, Relaxed, Sessions, Compare, Image, Inspect}
use Rattle.cg_items.specs.declared.report.Report.TheVariants.{Whole, Joined, Inspected}
use Rattle.cg_items.specs.declared.companion.Companion.{Companion}
use Rattle.cg_items.specs.declared.companion.Companion.TheVariants.{Alone, Followers, Relaxed as MadeRows, Sessions as OpenSessions, Comparing, Imaging}
use Rattle.cg_items.specs.declared.companion.Further.{Further}
use Rattle.cg_items.specs.Companion.{further_reading, in_place}
use Rattle.cg_image.specs.Inspecting.{Inspected as Seen, NotAnImage, NotAStore, Holds, inspected}
use Rattle.cg_compare.specs.declared.log_line.LogLine.{LogLine}
use Rattle.cg_compare.specs.declared.log_line.LogLine.TheVariants as log_line
use Rattle.cg_compare.specs.Lines.{reading as log_reading}
use Rattle.cg_outcome.specs.Commands.{command_of}
use Rattle.cg_gen.specs.Generated.{generated}
use Rattle.cg_gen.specs.Lines.{lines_of}
use Rattle.cg_schedule.specs.Print.{line_of}
use Rattle.cg_outcome.specs.declared.status.Status.{Status}
use Rattle.cg_outcome.specs.declared.totals.Totals.{Totals}
use Rattle.cg_outcome.specs.Status.{tail_text}
use Rattle.cg_outcome.specs.Totals.{summary_text}
use Rattle.cg_outcome.specs.Rounds.{happened}

-- how the taking of the input ended: at the input's end, by a failed take, or with bytes still to come
pub data Ending : Type 0 where
  Ended : Ending
  Failed : Ending
  Open : Ending

-- line n can't be read
abbrev pub unreadable : ℕ → LineFault → Progress → Produced
unreadable n (Syntax reason) s = ended_with (status.Syntax n (syntax_number reason)) n s
unreadable n NoMemory s = ended_with status.NoMemory n s

-- what line n comes to, which reads so
abbrev pub read_outcome : ℕ → Result (Option Event) LineFault → Progress → Produced
read_outcome n (Ok None) s = went_on s
read_outcome n (Ok (Some event)) s = happened n event (record s { reader = state_after s.reader event })
read_outcome n (Err fault) s = unreadable n fault s

-- what line n comes to, as one of the command's own events, or else as one of the schedule
abbrev pub further_outcome : ℕ → Result (Option Further) LineFault → List ℕ → Progress → Produced
further_outcome n (Ok None) line s = read_outcome n (reading s.reader line) s
further_outcome n (Ok (Some e)) line s = one_further n e s
further_outcome n (Err fault) line s = unreadable n fault s

-- what line n of logs comes to, which reads so: a log is kept, and behind the end the reader has read an end
abbrev pub log_outcome : ℕ → Result (Option LogLine) LineFault → Progress → Produced
log_outcome n (Ok None) s = went_on s
log_outcome n (Ok (Some (log_line.Log white list))) s =
    went_on (record s { logs = s.logs ++ record { line = n; white = white; list = list } ∷ [] })
log_outcome n (Ok (Some log_line.End)) s = went_on (record s { reader = state_after s.reader End })
log_outcome n (Err fault) s = unreadable n fault s

-- what line n comes to with this beside the world: as a log where logs are compared, and else as an event
abbrev pub line_beside : Companion → ℕ → List ℕ → Progress → Produced
line_beside Comparing n line s = log_outcome n (log_reading s.reader.ended line) s
line_beside c n line s = further_outcome n (in_place s.reader (further_reading c line)) line s

-- what line n comes to, without its end
unfoldable pub line_outcome : ℕ → List ℕ → Progress → Produced
line_outcome n line s = line_beside s.companion n line s

-- a line without the carriage return before its line feed
abbrev pub without_return : List ℕ → List ℕ
without_return line = if ends_with nat_eq line (codes "\r") then take (length line - 1) line else line

-- the limit that line n passes, with its length and the offset at which it ends
abbrev pub limit_of : ℕ → ℕ → ℕ → Option Limit
limit_of n len end =
    if nat_lt LINE_BYTES len then Some limit.Line
    else if nat_lt INPUT_BYTES end then Some limit.Input
    else if nat_lt LINES n then Some limit.Lines
    else None

-- unless a limit was passed
abbrev pub unless_passed : Option Limit → ℕ → Progress → Produced → Produced
unless_passed passed n s otherwise = option_map_or (λ what. ended_with (status.Limit n what) n s) passed otherwise

-- line n, which begins at an offset of the input and has its end
abbrev pub whole_line : ℕ → ℕ → List ℕ → Progress → Produced
whole_line n at line s =
    unless_passed (limit_of n (length line) (at + length line + 1)) n s (line_outcome n (without_return line) s)

-- nothing stands behind so many lines
abbrev pub at_end : ℕ → Ending → Progress → Produced
at_end lines Ended s = if s.reader.ended then ended_with status.Done lines s
    else ended_with (status.NoEnd lines) lines s
at_end lines Failed s = ended_with status.ReadFault lines s
at_end lines Open s = went_on s

-- a last line without its end
abbrev pub cut_line : ℕ → List ℕ → Ending → Progress → Produced
cut_line n line Ended s = and_then (line_outcome n line s) (at_end n Ended)
cut_line n line other s = at_end (n - 1) other s

-- what stands behind the last line's end
abbrev pub last_piece : ℕ → ℕ → List ℕ → Ending → Progress → Produced
last_piece n at [] how s = at_end (n - 1) how s
last_piece n at (b ∷ bs) how s =
    unless_passed (limit_of n (length (b ∷ bs)) (at + length (b ∷ bs))) n s (cut_line n (b ∷ bs) how s)

-- the lines from number n on, which begin at an offset of the input
abbrev pub replayed : ℕ → ℕ → List (List ℕ) → Ending → Progress → Produced
replayed n at [] how s = went_on s
replayed n at (rest ∷ []) how s = last_piece n at rest how s
replayed n at (line ∷ next ∷ more) how s =
    and_then (whole_line n at line s) (λ s'. replayed (n + 1) (at + length line + 1) (next ∷ more) how s')

-- what the lines of events come to, behind so many lines: they are replayed as those of an input, but its limits aren't theirs
abbrev pub performed : ℕ → List Event → Progress → Produced
performed gone [] s = at_end gone Ended s
performed gone (event ∷ events) s =
    and_then (line_outcome (gone + 1) (without_return (line_of event)) s) (performed (gone + 1) events)

-- the lines that spell events, and the nothing behind the last one's end
abbrev pub lines_alone : List Event → List (List ℕ)
lines_alone events = map line_of events ++ [] ∷ []

-- the lines of the schedule that a command replays
abbrev pub pieces_for : Option Command → List ℕ → List (List ℕ)
pieces_for (Some (Trial seed replicas lines)) taken = lines_alone (generated seed replicas lines)
pieces_for other taken = pieces_of LINE_FEED taken

-- what a trial puts of a finding: the summary where the run is done, else the tail
abbrev pub trial_end : Status → ℕ → ℕ → Totals → List ℕ
trial_end status.Done lines steps totals = summary_text steps totals
trial_end other lines steps totals = tail_text other steps lines

abbrev pub trial_text : Produced → List ℕ
trial_text p = option_map_or (λ f. trial_end f.status f.lines p.progress.count p.progress.totals) p.found []

-- what a command keeps beside the world at first
abbrev pub companion_for : Option Command → Companion
companion_for (Some Follow) = Followers []
companion_for (Some Relaxed) = MadeRows []
companion_for (Some Sessions) = OpenSessions []
companion_for (Some Compare) = Comparing
companion_for (Some (Image p)) = Imaging p
companion_for other = Alone

-- what is seen in all bytes of an input, as an image; and what an inspection comes to, of which these bytes were taken
abbrev pub seen_in : Seen → Produced
seen_in NotAnImage = ended_with status.NotAnImage 0 (before_all Alone)
seen_in NotAStore = ended_with status.NotAStore 0 (before_all Alone)
seen_in (Holds r) = ended_with status.Done 0 (record (before_all Alone) { replica = Some r })

abbrev pub looked_at : List ℕ → Ending → Produced
looked_at taken Ended = seen_in (inspected taken)
looked_at taken Failed = ended_with status.ReadFault 0 (before_all Alone)
looked_at taken Open = went_on (before_all Alone)

abbrev pub inspection : List ℕ → Ending → Produced
inspection taken how = if nat_lt INPUT_BYTES (length taken) then ended_with (status.Limit 0 limit.Input) 0 (before_all Alone)
    else looked_at taken how

-- what a command comes to; without one the run tells how it is used
abbrev pub outcome_of : Option Command → List ℕ → Ending → Produced
outcome_of None taken how = ended_with status.Usage 0 (before_all Alone)
outcome_of (Some (Generate seed replicas lines)) taken how = ended_with status.Done 0 (before_all Alone)
outcome_of (Some (Trial seed replicas lines)) taken how =
    performed 0 (generated seed replicas lines) (before_all Alone)
outcome_of (Some Inspect) taken how = inspection taken how
outcome_of command taken how = replayed 1 0 (pieces_of LINE_FEED taken) how (before_all (companion_for command))

-- the whole run
abbrev pub outcome : List (List ℕ) → List ℕ → Ending → Produced
outcome words taken how = outcome_of (command_of words) taken how

-- what a run puts at whose end the image of a disk is put: the image where it is done, else the tail
abbrev pub image_end : List ℕ → Status → ℕ → ℕ → List ℕ
image_end image status.Done lines steps = image
image_end image other lines steps = tail_text other steps lines

abbrev pub imaged_text : List ℕ → Produced → List ℕ
imaged_text image p = option_map_or (λ f. image_end image f.status f.lines p.progress.count) p.found []

-- what a command puts of what it comes to, where it is the image of a disk that it puts this one
abbrev pub text_put : Option Command → List ℕ → Produced → List ℕ
text_put None image p = text_of Whole p
text_put (Some (Replay report)) image p = text_of report p
text_put (Some (Generate seed replicas lines)) image p = lines_of (generated seed replicas lines)
text_put (Some (Trial seed replicas lines)) image p = trial_text p
text_put (Some Compare) image p = text_of Joined p
text_put (Some Inspect) image p = text_of Inspected p
text_put (Some (Image q)) image p = imaged_text image p
text_put (Some other) image p = text_of Whole p
