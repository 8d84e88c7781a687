-- Schedules played by small steps, with every fact tried after each.
use Rattle.std.specs.Prelude.{ℕ, zero, suc, ◌==◌, Bool, true, false, is_none, List, [], ◌∷◌, ◌++◌, fold, if◌then◌else◌}
use Rattle.cg_base.specs.Text.{is_nil}
use Rattle.cg_group.specs.Ready.{ready}
use Rattle.cg_schedule.specs.declared.event.Event.{Event}
use Rattle.cg_schedule.specs.declared.event.Event.TheVariants.{Gather, Deliver, Rounds}
use Rattle.cg_model.specs.World.{World, no_world, up_replicas}
use Rattle.cg_model.specs.Admission.{first_refusal}
use Rattle.cg_model.specs.Step.{world_step}
use Rattle.cg_model.specs.Chronicle.{Chronicle, no_chronicle}
use Rattle.cg_model.specs.Small.{Small, small_step}
use Rattle.cg_model.specs.Smalls.{may_make, smalls_in}
use Rattle.cg_agree_cases.specs.TestsLists.{nodes_rise, standings_rise, receivers_rise, joiners_are_servers}
use Rattle.cg_agree_cases.specs.TestsNet.{hosted, phase_sound, receipts_inside, sender_closed, handed_received, unordered_regular, members_begun, past_left, receipts_fixed}
use Rattle.cg_agree_cases.specs.TestsTalk.{talk_legal, sent_iff_due, heard_is_told, mode_fits, content, acts_numbered}
use Rattle.cg_agree_cases.specs.TestsReplica.{made_of_greens, contiguous, yellow_closed, mode_data, disk_behind, made_once, origins, lines_below, disk_agrees, buffer_empty}
use Rattle.cg_agree_cases.specs.TestsExchange.{summary_of_sender, summary_lines, tellers_still, exchange_progress}
use Rattle.cg_agree_cases.specs.TestsAttempts.{attempt_shape, attempt_list, yellow_valid, left_out, levels_stand, announced_entered, installed_announced, act_installed, record_of_attempt, installed_index, bits_witness, dead_evidence, one_attempt}
use Rattle.cg_agree_cases.specs.TestsGreens.{begins_with, primary_greens, installed_count, spine, one_order, trans_coverage, coverage}
use Rattle.cg_agree_cases.specs.TestsBooks.{lists_grow, order_book, made_book}
use Rattle.cg_agree_cases.specs.TestsWorlds.{is_same, at_rest, may_stand}
use Rattle.cg_agree_cases.specs.Fact.{Fact, NodesRise, StandingsRise, ReceiversRise, JoinersAreServers, Hosted, PhaseSound, ReceiptsInside, SenderClosed, HandedReceived, UnorderedRegular, MembersBegun, PastLeft, TalkLegal, SentIffDue, HeardIsTold, ModeFits, Content, ActsNumbered, MadeOfGreens, Contiguous, YellowClosed, ModeData, DiskBehind, MadeOnce, Origins, LinesBelow, SummaryOfSender, SummaryLines, TellersStill, ExchangeProgress, AttemptShape, AttemptList, YellowValid, LeftOut, LevelsStand, AnnouncedEntered, InstalledAnnounced, ActInstalled, RecordOfAttempt, InstalledIndex, BitsWitness, DeadEvidence, OneAttempt, BeginsWith, PrimaryGreens, InstalledCount, Spine, OneOrder, TransCoverage, Coverage, ReceiptsFixed, ListsGrow, DiskAgrees, BufferEmpty, OrderBook, MadeBook, MayMake, AtRest, IsSame, MayStand, IsAdmitted}

-- the fact, where its test fails
abbrev pub unless : Fact → Bool → List Fact
unless fact true = []
unless fact false = fact ∷ []

-- those of the lists of a world
abbrev failing_lists : Chronicle → List Fact
failing_lists c =
    unless NodesRise (nodes_rise c) ++ unless StandingsRise (standings_rise c)
    ++ unless ReceiversRise (receivers_rise c)
    ++ unless JoinersAreServers (joiners_are_servers c)

-- those of the group
abbrev failing_net : Chronicle → List Fact
failing_net c =
    unless Hosted (hosted c) ++ unless PhaseSound (phase_sound c) ++ unless ReceiptsInside (receipts_inside c)
    ++ unless SenderClosed (sender_closed c) ++ unless HandedReceived (handed_received c)
    ++ unless UnorderedRegular (unordered_regular c) ++ unless MembersBegun (members_begun c)
    ++ unless PastLeft (past_left c)

-- those of what members say
abbrev failing_talk : Chronicle → List Fact
failing_talk c =
    unless TalkLegal (talk_legal c) ++ unless SentIffDue (sent_iff_due c) ++ unless HeardIsTold (heard_is_told c)
    ++ unless ModeFits (mode_fits c) ++ unless Content (content c) ++ unless ActsNumbered (acts_numbered c)

-- those of what each replica holds
abbrev failing_replica : Chronicle → List Fact
failing_replica c =
    unless MadeOfGreens (made_of_greens c) ++ unless Contiguous (contiguous c) ++ unless YellowClosed (yellow_closed c)
    ++ unless ModeData (mode_data c) ++ unless DiskBehind (disk_behind c) ++ unless MadeOnce (made_once c)
    ++ unless Origins (origins c) ++ unless LinesBelow (lines_below c)

-- those of summaries and exchanges
abbrev failing_exchange : Chronicle → List Fact
failing_exchange c =
    unless SummaryOfSender (summary_of_sender c) ++ unless SummaryLines (summary_lines c)
    ++ unless TellersStill (tellers_still c) ++ unless ExchangeProgress (exchange_progress c)

-- those of attempts
abbrev failing_attempt : Chronicle → List Fact
failing_attempt c =
    unless AttemptShape (attempt_shape c) ++ unless AttemptList (attempt_list c)
    ++ unless YellowValid (yellow_valid c) ++ unless LeftOut (left_out c) ++ unless LevelsStand (levels_stand c)
    ++ unless AnnouncedEntered (announced_entered c) ++ unless InstalledAnnounced (installed_announced c)
    ++ unless ActInstalled (act_installed c) ++ unless RecordOfAttempt (record_of_attempt c)
    ++ unless InstalledIndex (installed_index c) ++ unless BitsWitness (bits_witness c)
    ++ unless DeadEvidence (dead_evidence c)
    ++ unless OneAttempt (one_attempt c)

-- those of greens
abbrev failing_green : Chronicle → List Fact
failing_green c =
    unless BeginsWith (begins_with c) ++ unless PrimaryGreens (primary_greens c)
    ++ unless InstalledCount (installed_count c)
    ++ unless Spine (spine c) ++ unless OneOrder (one_order c) ++ unless TransCoverage (trans_coverage c)
    ++ unless Coverage (coverage c)

-- the facts that fail after a small step, from the chronicle before it to that one behind it
abbrev failing_move : Chronicle → Chronicle → List Fact
failing_move c d =
    unless ReceiptsFixed (receipts_fixed c d) ++ unless ListsGrow (lists_grow c d)

abbrev pub failing : Chronicle → Chronicle → List Fact
failing c d =
    failing_lists d ++ failing_net d ++ failing_talk d ++ failing_replica d ++ failing_exchange d
    ++ failing_attempt d ++ failing_green d
    ++ failing_move c d

-- and those that fail at the end of a step
abbrev pub failing_at_end : Chronicle → List Fact
failing_at_end c =
    unless DiskAgrees (disk_agrees c) ++ unless BufferEmpty (buffer_empty c) ++ unless OrderBook (order_book c)
    ++ unless MadeBook (made_book c)

-- ---- runs

-- the chronicle so far, the world that the events lead to, which stands beside it, and the facts that failed where the first
-- ones did
pub record Tried : Type 0 where
  pub chronicle : Chronicle
  pub world : World
  pub failed : List Fact

abbrev pub untried : Tried
untried = record { chronicle = no_chronicle; world = no_world; failed = [] }

-- the first failure stays
abbrev pub first_of : List Fact → List Fact → List Fact
first_of [] more = more
first_of (fact ∷ facts) more = fact ∷ facts

abbrev pub failed_with : Tried → List Fact → Tried
failed_with t facts = record t { failed = first_of t.failed facts }

abbrev pub try_small_to : Tried → Small → Chronicle → Tried
try_small_to t s d =
    let c = t.chronicle in
    let tried = failed_with t (unless MayMake (may_make c s) ++ unless AtRest (at_rest c s) ++ failing c d) in
    record tried { chronicle = d }

abbrev pub try_small : Tried → Small → Tried
try_small t s = try_small_to t s (small_step t.chronicle s)

-- behind the small steps of an event: its own world is the one that they lead to, and in that one all rests
abbrev pub try_end : Tried → World → Tried
try_end t w =
    let c = t.chronicle in
    let tried = failed_with t (unless IsSame (is_same w c.world) ++ failing_at_end (record c { world = w })) in
    record tried { world = w }

abbrev pub try_event : Tried → Event → Tried
try_event t e =
    let w = t.world in
    let facts = unless MayStand (may_stand w e) ++ unless IsAdmitted (is_none (first_refusal w e)) in
    if is_nil facts then try_end (fold try_small t (smalls_in w e)) (world_step w e).world else failed_with t facts

abbrev pub try_ready : Tried → ℕ → Tried
try_ready t p = let k = ready t.world.group p in if k == 0 then t else try_event t (Deliver p k)

-- in a pass all is gathered, and each replica that is up is handed what is ready
abbrev pub try_pass : Tried → Tried
try_pass t = let gathered = try_event t Gather in fold try_ready gathered (up_replicas gathered.world)

abbrev pub try_passes : ℕ → Tried → Tried
try_passes zero t = t
try_passes (suc n) t = try_passes n (try_pass t)

abbrev pub try_line : Tried → Event → Tried
try_line t (Rounds n) = try_passes n t
try_line t e = try_event t e

abbrev pub tried : List Event → Tried
tried events = fold try_line untried events
