-- For each thing that the steps of a run agree on, small transcripts that don't: a definition that let one of them pass would
-- say too little.
use Rattle.std.specs.Prelude.{◌≡◌, ◌⊎◌, IsTrue, ℕ, ◌==◌, ◌≤◌, ◌<◌, Bool, true, false, List, [], ◌∷◌, ◌++◌, Option, Some, None, codes, map, option_map, is_some, pos, if◌then◌else◌}
use Rattle.std.specs.Option.{option_map_or}
use Rattle.std.proofs.Common.{refl, sym, ap, subst, inl, inr, ⊎_elim, arith, length}
use Rattle.std.proofs.lemmas.Bool.{true≢false, false≢true}
use Rattle.cg_base.specs.declared.action_id.ActionId.{ActionId}
use Rattle.cg_base.specs.declared.weighted.Weighted.{Weighted}
use Rattle.cg_action.specs.declared.action.Action.{Action}
use Rattle.cg_action.specs.declared.action.Kind.{Kind}
use Rattle.cg_action.specs.declared.action.Kind.TheVariants.{Update}
use Rattle.cg_action.specs.declared.command.Cmd.TheVariants.{Put, Need}
use Rattle.cg_action.specs.declared.query.Query.TheVariants.{Get, Count}
use Rattle.cg_action.specs.declared.value.Value.{Value}
use Rattle.cg_action.specs.declared.value.Value.TheVariants.{Int}
use Rattle.cg_action.specs.declared.answer.Answer.{Answer}
use Rattle.cg_action.specs.declared.answer.Answer.TheVariants.{Absent, Int as Number, Count as Counted}
use Rattle.cg_action.specs.declared.effect.Effect.{Effect}
use Rattle.cg_action.specs.declared.effect.Effect.TheVariants.{Done, Aborted}
use Rattle.cg_action.specs.declared.entry.DbEntry.{DbEntry}
use Rattle.cg_db.specs.Apply.{apply, fold_actions}
use Rattle.cg_db.specs.Find.{answer, query_of}
use Rattle.cg_group.specs.declared.reason.Reason.TheVariants.{NotUp}
use Rattle.cg_report.specs.NoEntry.{no_entry}
use Rattle.cg_report.specs.declared.entry.Entry.{Entry}
use Rattle.cg_report.specs.declared.entry.Placed.{Placed}
use Rattle.cg_report.specs.declared.entry.Reply.{Reply}
use Rattle.cg_report.specs.declared.entry.Shown.{Shown}
use Rattle.cg_report.specs.declared.entry.Shown.TheVariants.{Weak as ShownWeak, Dirty as ShownDirty, Greens, Database, All}
use Rattle.cg_report.specs.declared.line.Line.{Line}
use Rattle.cg_report.specs.declared.line.ShownPhase.TheVariants as shown
use Rattle.cg_report.specs.declared.line.StateName.{StateName}
use Rattle.cg_report.specs.declared.line.StateName.TheVariants as state
use Rattle.cg_report.specs.declared.line.UpLine.{UpLine}
use Rattle.cg_schedule.specs.declared.event.Event.{Event}
use Rattle.cg_schedule.specs.declared.event.Event.TheVariants.{Start, Split, Merge, Request, Rounds, Gather, Recover, Weak, Dirty, Leave}
use Rattle.cg_base.specs.Sets.{has}
use Rattle.cg_knowledge.specs.Summaries.{remaining}
use Rattle.cg_queue.specs.Queue.{green_count}
use Rattle.cg_client.specs.Replica.{Held, Replica, NonPrim, fresh_held}
use Rattle.cg_disk_records.specs.Crash.{Disk, new_disk}
use Rattle.cg_disk_records.specs.Format.{all_newer}
use Rattle.cg_model.specs.World.{NodeState, Up, Down, Node, World, no_world, replica_of}
use Rattle.cg_model.specs.Run.{Step}
use Rattle.cg_model.specs.Shown.{made_actions}
use Rattle.cg_model.specs.Agreement.{is_recovery_of, OrderGrows, Prefix, CreatorOrder, FoldAnswers, DirtyAnswers, OnePrimary, QuietSettles, MadeStays, RefusedExactly}
use Rattle.cg_model.specs.Quiet.{IsSettled, Remains, summaries_in, is_known_in, knows}
use Rattle.cg_model.specs.Schedules.{run_of}
use Rattle.cg_base.specs.Text.{is_nil}
use Rattle.cg_io.specs.Outside.{SourceView, SinkView}
use Rattle.cg_outcome.specs.declared.command.Command.TheVariants.{Replay}
use Rattle.cg_items.specs.declared.companion.Companion.TheVariants.{Alone}
use Rattle.cg_items.specs.Items.{Item}
use Rattle.cg_items.specs.Kept.{AreNoted}
use Rattle.cg_items.specs.declared.report.Report.TheVariants.{Whole}
use Rattle.cg_outcome.specs.declared.status.Status.TheVariants as status
use Rattle.cg_outcome.specs.Taking.{Completes}
use Rattle.cg_run_cases.specs.Replaying.{written}
use Rattle.cg_run_cases.specs.Computing.{cases_compute}

-- ---- steps that show little

abbrev name : ℕ → ℕ → ActionId
name creator index = record { creator = creator; index = index }

abbrev showing : Event → Entry → Step
showing event entry = record { event = event; entry = entry; world = no_world }

-- a line of a replica in a state, with so many greens, its last primary component with an index and a configuration
abbrev up_with : ℕ → StateName → ℕ → ℕ → ℕ → UpLine
up_with p state greens index conf =
    record {
      state = state;
      phase = shown.Regular conf;
      view = record {
        green_count = greens;
        white_count = 0;
        prim = record { index = index; conf = conf; set = record { id = p; weight = 1 } ∷ [] };
        attempt_index = 0;
        vulnerable = None;
        yellow = record { valid = false; list = [] };
        reds = [];
        own = [];
        left = [];
        buffered = 0;
      };
    }

abbrev line_with : ℕ → StateName → ℕ → ℕ → ℕ → Line
line_with p state greens index conf = record { id = p; up = Some (up_with p state greens index conf) }

abbrev line_of_primary : ℕ → ℕ → Line
line_of_primary p greens = line_with p state.RegPrim greens 1 1

abbrev at : ℕ → ActionId → Placed
at place id = record { place = place; id = id }

abbrev holder : Held → Replica
holder h = record { held = h; state = NonPrim false }

-- a step that shows nothing, behind which a replica holds so much
abbrev holding : Held → Step
holding h =
    record {
      event = Gather;
      entry = no_entry;
      world = record no_world { nodes = record { id = 1; life = Up (holder h) (new_disk h) } ∷ [] };
    }

abbrev servers : List Weighted
servers = record { id = 1; weight = 1 } ∷ record { id = 2; weight = 1 } ∷ []

-- a step that shows these orders and so many greens of a replica, behind which it holds so much
abbrev holding_at : List Placed → ℕ → Held → Step
holding_at orders greens h = record (holding h) { entry = record no_entry { orders = orders; lines = line_of_primary 1 greens ∷ [] } }

-- a disk that has so much
abbrev disk_with : Held → Disk
disk_with h = record { content = h; unwritten = []; size = 0; generation = 1; format = all_newer; armed = None }

-- a step that shows these orders and so many greens of a replica, behind which it is down, with so much on its disk, and these names are to
-- be shown at its recovery
abbrev fallen_at : List Placed → ℕ → Held → List ActionId → Step
fallen_at orders greens h green =
    record (holding_at orders greens h) { world = record no_world { nodes = record { id = 1; life = Down (disk_with h) green } ∷ [] } }

-- the creator of the first name
abbrev first_creator : List ActionId → ℕ
first_creator [] = 0
first_creator (id ∷ ids) = id.creator

-- the number that stands at the first key
abbrev amount : Value → ℕ
amount (Int (pos n)) = n
amount other = 0

abbrev first_amount : List DbEntry → ℕ
first_amount [] = 0
first_amount (e ∷ es) = amount e.value

-- ---- one order grows

two_at_one_place : List Step
two_at_one_place = showing Gather (record no_entry { orders = at 1 (name 1 1) ∷ at 1 (name 2 1) ∷ []; lines = line_of_primary 1 2 ∷ [] }) ∷ []

repeated_place : OrderGrows two_at_one_place → ⊥
unfolding two_at_one_place
repeated_place g = let numbers = g.numbered in cc

told_before_reached : List Step
told_before_reached = showing Gather (record no_entry { orders = at 1 (name 1 1) ∷ [] }) ∷ []

nobody_there : OrderGrows told_before_reached → ⊥
unfolding told_before_reached
nobody_there g = let count = g.in_time told_before_reached [] refl in cc

abbrev shows_other : Step
shows_other = showing Gather (record no_entry { orders = at 1 (name 1 1) ∷ []; lines = line_of_primary 1 1 ∷ []; shown = All (name 2 1 ∷ []) ∷ [] })

shows_another : OrderGrows (shows_other ∷ []) → ⊥
shows_another g =
    let same : name 2 1 ∷ [] ≡ name 1 1 ∷ [] = g.shown [] shows_other (name 2 1 ∷ []) ([], refl) (0, omega arith, refl) in
    omega (arith, ap first_creator same)

-- ---- greens are a prefix

abbrev one_green : Step
one_green = showing Gather (record no_entry { orders = at 1 (name 1 1) ∷ []; lines = line_of_primary 1 1 ∷ [] })

abbrev none_again : Step
none_again = showing Gather (record no_entry { lines = line_of_primary 1 0 ∷ [] })

count_falls : Prefix (one_green ∷ none_again ∷ []) → ⊥
count_falls g = let fall = g.never_falls (one_green ∷ []) none_again 1 ([], refl) in omega (arith, fall)

moved_by_nothing : Prefix (one_green ∷ []) → ⊥
moved_by_nothing g = let still = g.moves_only [] one_green 1 ([], refl) refl in cc

abbrev other_greens : Step
other_greens = showing Gather (record no_entry { orders = at 1 (name 1 1) ∷ []; lines = line_of_primary 1 1 ∷ []; shown = Greens 1 (name 2 1 ∷ []) ∷ [] })

greens_beside_the_order : Prefix (other_greens ∷ []) → ⊥
greens_beside_the_order g =
    let same : name 2 1 ∷ [] ≡ name 1 1 ∷ [] = g.shown [] other_greens 1 (name 2 1 ∷ []) ([], refl) (0, omega arith, refl) in
    omega (arith, ap first_creator same)

-- an action that puts 1
abbrev puts_one : Kind
puts_one = Update (Put (codes "x") (Int (pos 1)) ∷ []) (Some (Get (codes "x")))

abbrev green_action : ActionId → Action
green_action id = record { id = id; green_line = 0; kind = puts_one }

-- so many greens were discarded, and these stand behind them
abbrev held_greens : ℕ → List ActionId → Held
held_greens white ids = let h = fresh_held 1 servers in record h { queue = record h.queue { white = white; greens = map green_action ids } }

abbrev held_alone : Held
held_alone = held_greens 0 (name 1 1 ∷ [])

holds_what_no_order_has : Prefix (holding held_alone ∷ []) → ⊥
holds_what_no_order_has g = let reaches = g.held [] (holding held_alone) 1 (holder held_alone) ([], refl) refl in omega (arith, reaches.0.0)

-- as many greens as the order has, and as the line shows, but another action
abbrev held_other : Held
held_other = held_greens 0 (name 2 1 ∷ [])

abbrev holds_other : Step
holds_other = holding_at (at 1 (name 1 1) ∷ []) 1 held_other

holds_an_action_that_was_not_ordered : Prefix (holds_other ∷ []) → ⊥
holds_an_action_that_was_not_ordered g =
    let reaches = g.held [] holds_other 1 (holder held_other) ([], refl) refl in
    let same : name 2 1 ∷ [] ≡ name 1 1 ∷ [] = reaches.0.1 in
    omega (arith, ap first_creator same)

abbrev two_ordered : List Placed
two_ordered = at 1 (name 1 1) ∷ at 2 (name 2 1) ∷ []

-- both actions, the other way round
abbrev held_turned : Held
held_turned = held_greens 0 (name 2 1 ∷ name 1 1 ∷ [])

abbrev holds_turned : Step
holds_turned = holding_at two_ordered 2 held_turned

holds_greens_in_another_order : Prefix (holds_turned ∷ []) → ⊥
holds_greens_in_another_order g =
    let reaches = g.held [] holds_turned 1 (holder held_turned) ([], refl) refl in
    let same : name 2 1 ∷ name 1 1 ∷ [] ≡ name 1 1 ∷ name 2 1 ∷ [] = reaches.0.1 in
    omega (arith, ap first_creator same)

-- the first of two greens is counted as discarded, and is the one that is kept
abbrev held_at_first : Held
held_at_first = held_greens 1 (name 1 1 ∷ [])

abbrev holds_at_first : Step
holds_at_first = holding_at two_ordered 2 held_at_first

holds_the_green_before_its_place : Prefix (holds_at_first ∷ []) → ⊥
holds_the_green_before_its_place g =
    let reaches = g.held [] holds_at_first 1 (holder held_at_first) ([], refl) refl in
    let same : name 1 1 ∷ [] ≡ name 2 1 ∷ [] = reaches.0.1 in
    omega (arith, ap first_creator same)

-- the line shows one green less than is held
abbrev holds_more : Step
holds_more = holding_at (at 1 (name 1 1) ∷ []) 0 held_alone

holds_more_than_its_line : Prefix (holds_more ∷ []) → ⊥
holds_more_than_its_line g =
    let reaches = g.held [] holds_more 1 (holder held_alone) ([], refl) refl in
    let same : 0 ≡ 1 = reaches.1 in
    omega (arith, same)

-- the disk of a replica that is down has a green that no order has and no recovery will show
abbrev falls_with_one : Step
falls_with_one = fallen_at [] 0 held_alone []

keeps_what_no_recovery_shows : Prefix (falls_with_one ∷ []) → ⊥
keeps_what_no_recovery_shows g =
    let kept = g.down [] falls_with_one 1 (disk_with held_alone) [] ([], refl) refl in
    omega (arith, kept.0.0)

-- its recovery will show another action than the disk has
abbrev falls_with_other : Step
falls_with_other = fallen_at [] 0 held_other (name 1 1 ∷ [])

keeps_another_than_it_will_show : Prefix (falls_with_other ∷ []) → ⊥
keeps_another_than_it_will_show g =
    let kept = g.down [] falls_with_other 1 (disk_with held_other) (name 1 1 ∷ []) ([], refl) refl in
    let same : name 2 1 ∷ [] ≡ name 1 1 ∷ [] = kept.0.1 in
    omega (arith, ap first_creator same)

-- the disk has two greens the other way round than they stand in the order
abbrev falls_turned : Step
falls_turned = fallen_at two_ordered 2 held_turned []

keeps_greens_in_another_order : Prefix (falls_turned ∷ []) → ⊥
keeps_greens_in_another_order g =
    let kept = g.down [] falls_turned 1 (disk_with held_turned) [] ([], refl) refl in
    let same : name 2 1 ∷ name 1 1 ∷ [] ≡ name 1 1 ∷ name 2 1 ∷ [] = kept.0.1 in
    omega (arith, ap first_creator same)

-- the disk has fewer greens than the last line showed
abbrev falls_behind : Step
falls_behind = fallen_at (at 1 (name 1 1) ∷ []) 1 (fresh_held 1 servers) []

keeps_less_than_its_line : Prefix (falls_behind ∷ []) → ⊥
keeps_less_than_its_line g =
    let kept = g.down [] falls_behind 1 (disk_with (fresh_held 1 servers)) [] ([], refl) refl in
    let low : 1 ≤ 0 = kept.1 in
    omega (arith, low)

-- it has discarded what another server doesn't have
abbrev discards : UpLine
discards = let up = up_with 1 state.RegPrim 1 1 1 in record up { view = record up.view { white_count = 1 } }

abbrev discarded_early : Step
discarded_early =
    record {
      event = Start servers;
      entry = record no_entry { orders = at 1 (name 1 1) ∷ []; lines = record { id = 1; up = Some discards } ∷ line_of_primary 2 0 ∷ [] };
      world = record no_world { nodes = record { id = 2; life = Down (new_disk (fresh_held 2 servers)) [] } ∷ [] };
    }

white_above_another_server : Prefix (discarded_early ∷ []) → ⊥
white_above_another_server g = let below = g.white [] discarded_early 1 2 ([], refl) refl refl in omega (arith, below)

-- ---- each creator's actions in their order

abbrev second_alone : Step
second_alone = showing Gather (record no_entry { orders = at 1 (name 1 2) ∷ []; lines = line_of_primary 1 1 ∷ [] })

first_left_out : CreatorOrder (second_alone ∷ []) → ⊥
first_left_out g = let numbers = g.numbered 1 in cc

never_made : CreatorOrder (one_green ∷ []) → ⊥
never_made g =
    let there = g.made_before [] one_green (name 1 1) ([], refl) (0, omega arith, refl) in
    omega (arith, there.1)

-- ---- answers are those of the fold

abbrev made_and_green : List Reply → List Shown → Step
made_and_green replies shown =
    showing Gather (record {
      made = record { id = name 1 1; kind = puts_one } ∷ [];
      orders = at 1 (name 1 1) ∷ [];
      lines = line_of_primary 1 1 ∷ [];
      replies = replies;
      shown = shown;
    })

abbrev x_is : ℕ → List DbEntry
x_is n = record { key = codes "x"; value = Int (pos n) } ∷ []

abbrev shows_two : Step
shows_two = made_and_green [] (Database 1 (x_is 2) ∷ [])

database_off_by_one : FoldAnswers (shows_two ∷ []) → ⊥
unfolding cases_compute
database_off_by_one g =
    let same : x_is 2 ≡ x_is 1 = g.database [] shows_two 1 (x_is 2) ([], refl) (0, omega arith, refl) in
    omega (arith, ap first_amount same)

abbrev early : Reply
early = record { id = name 1 1; effect = Done; answer = Some Absent }

abbrev read_too_early : Step
read_too_early = made_and_green (early ∷ []) []

-- the action that was made
abbrev the_action : Action
the_action = record { id = name 1 1; green_line = 1; kind = puts_one }

-- what is answered behind an action on the fold of those before it
abbrev answered : List ActionId → Action → Option Answer
answered before a = option_map (answer (apply (fold_actions (made_actions (read_too_early ∷ []) before)) a).db) (query_of a.kind)

abbrev is_absent : Option Answer → Bool
is_absent (Some Absent) = true
is_absent other = false

never_absent : (before after : List ActionId) (a : Action) → name 1 1 ∷ [] ≡ before ++ name 1 1 ∷ after → Some the_action ≡ Some a → Some Absent ≡ answered before a → ⊥
unfolding cases_compute
never_absent [] after a place made told =
    let same : the_action ≡ a = cc in
    let here : Some Absent ≡ answered [] the_action = subst (λ (a : Action). Some Absent ≡ answered [] a) (sym same) told in
    true≢false (ap is_absent here)
never_absent (b ∷ []) after a place made told = omega (arith, ap length place)
never_absent (b ∷ c ∷ before) after a place made told = omega (arith, ap length place)

reply_from_before_its_request : FoldAnswers (read_too_early ∷ []) → ⊥
unfolding cases_compute
reply_from_before_its_request g =
    let r = g.reply [] read_too_early early ([], refl) (0, omega arith, refl) in
    never_absent r.0 r.1 r.2 r.3 r.4 r.5.1

-- a reply with this effect and this answer, to an action that does so much
abbrev reply_so : Effect → Option Answer → Reply
reply_so effect answer = record { id = name 1 1; effect = effect; answer = answer }

abbrev replied_so : Kind → Effect → Option Answer → Step
replied_so kind effect answer =
    showing Gather (record no_entry {
      made = record { id = name 1 1; kind = kind } ∷ [];
      orders = at 1 (name 1 1) ∷ [];
      lines = line_of_primary 1 1 ∷ [];
      replies = reply_so effect answer ∷ [];
    })

-- what the action does to a database of nothing
abbrev effect_alone : Kind → Effect
effect_alone kind = (apply [] (record { id = name 1 1; green_line = 1; kind = kind })).effect

-- the effect of a reply to the first action of the order
told_effect : (kind : Kind) (effect : Effect) (told : Option Answer) → FoldAnswers (replied_so kind effect told ∷ []) → effect ≡ effect_alone kind
unfolding cases_compute
told_effect kind effect told g =
    let s = replied_so kind effect told in
    let r = g.reply [] s (reply_so effect told) ([], refl) (0, omega arith, refl) in
    at_place r.0 r.1 r.2 r.3 r.4 r.5.0 where
      at_place : (before after : List ActionId) (a : Action) → name 1 1 ∷ [] ≡ before ++ name 1 1 ∷ after → Some (record { id = name 1 1; green_line = 1; kind = kind }) ≡ Some a
          → effect ≡ (apply (fold_actions (made_actions (replied_so kind effect told ∷ []) before)) a).effect → effect ≡ effect_alone kind
      at_place [] after a place made is =
          let same : record { id = name 1 1; green_line = 1; kind = kind } ≡ a = cc in
          subst (λ (b : Action). effect ≡ (apply [] b).effect) (sym same) is
      at_place (b ∷ []) after a place made is = absurd (omega (arith, ap length place))
      at_place (b ∷ c ∷ before) after a place made is = absurd (omega (arith, ap length place))

abbrev is_done : Effect → Bool
is_done Done = true
is_done other = false

-- an action that wants a key of a database that has none
abbrev needs_one : Kind
needs_one = Update (Need (codes "x") (Some (Int (pos 1))) ∷ []) None

done_where_it_aborts : FoldAnswers (replied_so needs_one Done None ∷ []) → ⊥
unfolding cases_compute
done_where_it_aborts g =
    let same : Done ≡ Aborted 1 = told_effect needs_one Done None g in
    true≢false (ap is_done same)

aborted_where_it_is_done : FoldAnswers (replied_so puts_one (Aborted 1) (Some (Number (pos 1))) ∷ []) → ⊥
unfolding cases_compute
aborted_where_it_is_done g =
    let same : Aborted 1 ≡ Done = told_effect puts_one (Aborted 1) (Some (Number (pos 1))) g in
    false≢true (ap is_done same)

-- a reply where nobody has passed its place
abbrev replied_before : Step
replied_before = showing Gather (record no_entry { replies = record { id = name 1 1; effect = Done; answer = None } ∷ []; orders = at 1 (name 1 1) ∷ []; lines = line_of_primary 2 1 ∷ [] })

reply_before_its_place : FoldAnswers (replied_before ∷ []) → ⊥
reply_before_its_place g =
    let given = g.when [] replied_before [] [] (name 1 1) ([], refl) refl in
    let due = given.0 (0, omega arith, refl) in
    omega (arith, due.0.1)

-- a reply of one who went down behind its request
abbrev made_alone : Step
made_alone = showing Gather (record no_entry { made = record { id = name 1 1; kind = puts_one } ∷ []; lines = line_of_primary 1 0 ∷ [] })

abbrev gone_down : Step
gone_down = showing Gather (record no_entry { lines = record { id = 1; up = None } ∷ [] })

abbrev replied_behind : Step
replied_behind = showing (Recover 1) (record no_entry { orders = at 1 (name 1 1) ∷ []; lines = line_of_primary 1 1 ∷ []; replies = early ∷ [] })

reply_behind_a_crash : FoldAnswers (made_alone ∷ gone_down ∷ replied_behind ∷ []) → ⊥
reply_behind_a_crash g =
    let given = g.when (made_alone ∷ gone_down ∷ []) replied_behind [] [] (name 1 1) ([], refl) refl in
    let due = given.0 (0, omega arith, refl) in
    false≢true due.1

-- its creator, who lives, passes the request's place, and nothing is replied
abbrev passed_in_silence : Step
passed_in_silence = showing Gather (record no_entry { orders = at 1 (name 1 1) ∷ []; lines = line_of_primary 1 1 ∷ [] })

reply_withheld : FoldAnswers (made_alone ∷ passed_in_silence ∷ []) → ⊥
reply_withheld g =
    let given = g.when (made_alone ∷ []) passed_in_silence [] [] (name 1 1) ([], refl) refl in
    let there = given.1 ((omega arith, omega arith), refl) in
    omega (arith, there.1)

-- a reply in the step behind the one in which its place was passed
abbrev replied_later : Step
replied_later = showing Gather (record no_entry { replies = record { id = name 1 1; effect = Done; answer = Some (Number (pos 1)) } ∷ [] })

reply_behind_its_place : FoldAnswers (made_alone ∷ passed_in_silence ∷ replied_later ∷ []) → ⊥
reply_behind_its_place g =
    let given = g.when (made_alone ∷ passed_in_silence ∷ []) replied_later [] [] (name 1 1) ([], refl) refl in
    let due = given.0 (0, omega arith, refl) in
    omega (arith, due.0.0)

-- one reply twice
abbrev replied_twice : Step
replied_twice = made_and_green (early ∷ early ∷ []) []

reply_given_twice : FoldAnswers (replied_twice ∷ []) → ⊥
reply_given_twice g = g.once replied_twice [] [] [] early early (0, omega arith, refl) refl refl

-- a database that no order makes
abbrev held_two : Held
held_two = record (fresh_held 1 servers) { db = x_is 2 }

holds_a_database_of_its_own : FoldAnswers (holding held_two ∷ []) → ⊥
holds_a_database_of_its_own g = let same : x_is 2 ≡ [] = g.held [] (holding held_two) 1 (holder held_two) ([], refl) refl in omega (arith, ap length same)

-- so has the disk of a replica that is down
abbrev falls_with_two : Step
falls_with_two = fallen_at [] 0 held_two []

keeps_a_database_of_its_own : FoldAnswers (falls_with_two ∷ []) → ⊥
keeps_a_database_of_its_own g =
    let same : x_is 2 ≡ [] = g.down [] falls_with_two 1 (disk_with held_two) [] ([], refl) refl in
    omega (arith, ap length same)

-- the disk has a green that its recovery will show, and its database is without it
abbrev falls_without : Step
falls_without =
    record (fallen_at [] 0 held_alone (name 1 1 ∷ [])) {
      entry = record no_entry { made = record { id = name 1 1; kind = puts_one } ∷ []; lines = line_of_primary 1 0 ∷ [] };
    }

keeps_a_database_without_its_last_green : FoldAnswers (falls_without ∷ []) → ⊥
unfolding cases_compute
keeps_a_database_without_its_last_green g =
    let same : [] ≡ x_is 1 = g.down [] falls_without 1 (disk_with held_alone) (name 1 1 ∷ []) ([], refl) refl in
    omega (arith, ap length same)

-- what was counted, where that was shown
abbrev counted : List Shown → ℕ
counted (ShownWeak p (Counted n) ∷ list) = n
counted (ShownDirty p (Counted n) ∷ list) = n
counted _ = 0

abbrev counts_one : Step
counts_one = showing (Weak 1 Count) (record no_entry { lines = line_of_primary 1 0 ∷ []; shown = ShownWeak 1 (Counted 1) ∷ [] })

weak_answer_off_by_one : FoldAnswers (counts_one ∷ []) → ⊥
unfolding cases_compute
weak_answer_off_by_one g =
    let same : ShownWeak 1 (Counted 1) ∷ [] ≡ ShownWeak 1 (Counted 0) ∷ [] = g.weak [] counts_one 1 Count ([], refl) refl in omega (arith, ap counted same)

-- ---- a dirty answer takes what is known

abbrev counts_one_dirty : Step
counts_one_dirty = showing (Dirty 1 Count) (record no_entry { lines = line_of_primary 1 0 ∷ []; shown = ShownDirty 1 (Counted 1) ∷ [] })

dirty_answer_off_by_one : DirtyAnswers (counts_one_dirty ∷ []) → ⊥
unfolding cases_compute
dirty_answer_off_by_one g =
    let same : ShownDirty 1 (Counted 1) ∷ [] ≡ ShownDirty 1 (Counted 0) ∷ [] = g [] counts_one_dirty 1 Count (up_with 1 state.RegPrim 0 1 1) ([], refl) refl refl in
    omega (arith, ap counted same)

-- ---- one primary component of an index

abbrev two_of_one_index : Step
two_of_one_index = showing Gather (record no_entry { lines = line_with 1 state.RegPrim 0 1 1 ∷ line_with 2 state.RegPrim 0 1 2 ∷ [] })

two_components : OnePrimary (two_of_one_index ∷ []) → ⊥
two_components g =
    let same = g.one (up_with 1 state.RegPrim 0 1 1) (up_with 2 state.RegPrim 0 1 2) (0, omega arith, refl) (1, omega arith, refl) refl in
    let clash : 1 ≡ 2 = same.0 in
    omega (arith, clash)

-- one index and one configuration, and a set of the first replica beside one of the second
abbrev two_of_one_configuration : Step
two_of_one_configuration = showing Gather (record no_entry { lines = line_with 1 state.RegPrim 0 1 1 ∷ line_with 2 state.RegPrim 0 1 1 ∷ [] })

-- the first replica of a set
abbrev first_member : List Weighted → ℕ
first_member [] = 0
first_member (m ∷ set) = m.id

two_sets : OnePrimary (two_of_one_configuration ∷ []) → ⊥
two_sets g =
    let same = g.one (up_with 1 state.RegPrim 0 1 1) (up_with 2 state.RegPrim 0 1 1) (0, omega arith, refl) (1, omega arith, refl) refl in
    omega (arith, ap first_member same.1)

abbrev longer_outside : Step
longer_outside = showing Gather (record no_entry { orders = at 1 (name 1 1) ∷ []; lines = line_with 1 state.NonPrim 1 1 1 ∷ [] })

is_outside : ((state.NonPrim ≡ state.RegPrim) ⊎ (state.NonPrim ≡ state.TransPrim)) ⊎ IsTrue (is_recovery_of 1 Gather) → ⊥
is_outside (inl (inl e)) = cc
is_outside (inl (inr e)) = cc
is_outside (inr e) = false≢true e

order_made_longer_outside : OnePrimary (longer_outside ∷ []) → ⊥
order_made_longer_outside g =
    is_outside (g.longer [] longer_outside (line_with 1 state.NonPrim 1 1 1) (up_with 1 state.NonPrim 1 1 1) ([], refl) (omega arith) (0, omega arith, refl) refl (omega arith))

-- ---- a quiet configuration is settled

-- a lone replica that has formed a primary component, and is put out of it
abbrev put_out : NodeState → NodeState
put_out (Up r disk) = Up (record r { state = NonPrim true }) disk
put_out (Down disk green) = Down disk green

abbrev waits_for_ever : World
waits_for_ever =
    let w = (run_of (Start (record { id = 1; weight = 1 } ∷ []) ∷ Merge (1 ∷ []) ∷ Rounds 2 ∷ [])).world in
    record w { nodes = map (λ (s : Node). record s { life = put_out s.life }) w.nodes }

-- a step that leads to a world
abbrev leads_to : World → Step
leads_to w = record { event = Gather; entry = no_entry; world = w }

abbrev quiet_step : Step
quiet_step = leads_to waits_for_ever

quiet_and_not_settled : QuietSettles (quiet_step ∷ []) → ⊥
unfolding cases_compute
quiet_and_not_settled g = let settled = g quiet_step 1 (0, omega arith, refl) (omega arith) (omega arith) refl in false≢true settled.states

-- a world in which a replica that is up is another one
abbrev changed_life : (Replica → Replica) → NodeState → NodeState
changed_life change (Up r disk) = Up (change r) disk
changed_life change (Down disk green) = Down disk green

abbrev changed_at : ℕ → (Replica → Replica) → World → World
changed_at p change w = record w { nodes = map (λ (s : Node). if s.id == p then record s { life = changed_life change s.life } else s) w.nodes }

-- a replica that is up
abbrev replica_in : World → ℕ → Replica
replica_in w p = option_map_or (λ r. r) (replica_of w p) (holder (fresh_held p servers))

remains : (w : World) (conf p : ℕ) → IsTrue (has (remaining (summaries_in w conf)) p) → IsTrue (is_some (replica_of w p)) → Remains w conf p (replica_in w p)
remains w conf p among is_up = (among, up (replica_of w p) is_up) where
  up : (o : Option Replica) → IsTrue (is_some o) → o ≡ Some (option_map_or (λ r. r) o (holder (fresh_held p servers)))
  up None is = absurd (false≢true is)
  up (Some r) is = refl

-- 2 comes in behind its leave, hears of it, and goes on
abbrev stays : Replica → Replica
stays r = record r { state = NonPrim true }

abbrev left_and_stays : World
left_and_stays =
    let heavier : List Weighted = record { id = 1; weight = 2 } ∷ record { id = 2; weight = 1 } ∷ [] in
    let alone = Start heavier ∷ Merge (1 ∷ []) ∷ Rounds 2 ∷ Leave 1 2 ∷ Rounds 1 ∷ [] in
    let both = Split (1 ∷ []) ∷ Merge (1 ∷ 2 ∷ []) ∷ Rounds 3 ∷ [] in
    changed_at 2 stays (run_of (alone ++ both)).world

who_has_left_goes_on : QuietSettles (leads_to left_and_stays ∷ []) → ⊥
unfolding cases_compute
who_has_left_goes_on g = let settled = g (leads_to left_and_stays) 2 (0, omega arith, refl) (omega arith) (omega arith) refl in false≢true settled.left

-- two replicas that have formed a primary component
abbrev two_inside : World
two_inside = (run_of (Start servers ∷ Merge (1 ∷ 2 ∷ []) ∷ Rounds 2 ∷ [])).world

-- 2 has a green more, which was discarded
abbrev with_white : Replica → Replica
with_white r = record r { held = record r.held { queue = record r.held.queue { white = 1 } } }

abbrev one_ahead : World
one_ahead = changed_at 2 with_white two_inside

one_has_a_green_more : QuietSettles (leads_to one_ahead ∷ []) → ⊥
unfolding cases_compute
one_has_a_green_more g =
    let settled = g (leads_to one_ahead) 1 (0, omega arith, refl) (omega arith) (omega arith) refl in
    let same : 0 ≡ 1 = as_many one_ahead 1 1 2 settled (remains one_ahead 1 1 refl refl) (remains one_ahead 1 2 refl refl) in
    omega (arith, same) where
      as_many : (w : World) (conf p q : ℕ) → IsSettled w conf → Remains w conf p (replica_in w p) → Remains w conf q (replica_in w q)
          → green_count (replica_in w p).held.queue ≡ green_count (replica_in w q).held.queue
      as_many w conf p q settled a b = settled.greens p q (replica_in w p) (replica_in w q) a b

-- it knows these actions
abbrev with_red_cut : List ActionId → Replica → Replica
with_red_cut cut r = record r { held = record r.held { queue = record r.held.queue { red_cut = cut } } }

knows_alike : (w : World) (conf p : ℕ) (id : ActionId) → IsSettled w conf → Remains w conf p (replica_in w p) → 1 ≤ id.index → knows (replica_in w p) id ≡ is_known_in w conf id
knows_alike w conf p id settled a some = settled.actions p (replica_in w p) id a some

-- 2 knows an action that nobody told
abbrev one_knows : World
one_knows = changed_at 2 (with_red_cut (name 1 1 ∷ [])) two_inside

one_knows_what_none_told : QuietSettles (leads_to one_knows ∷ []) → ⊥
unfolding cases_compute
one_knows_what_none_told g =
    let settled = g (leads_to one_knows) 1 (0, omega arith, refl) (omega arith) (omega arith) refl in
    let same : true ≡ false = knows_alike one_knows 1 2 (name 1 1) settled (remains one_knows 1 2 refl refl) (omega arith) in
    true≢false same

-- 2 doesn't know the action that was handed to both
abbrev one_forgets : World
one_forgets =
    let events = Start servers ∷ Merge (1 ∷ 2 ∷ []) ∷ Rounds 2 ∷ Request 1 (Put (codes "x") (Int (pos 1)) ∷ []) None ∷ Rounds 1 ∷ [] in
    changed_at 2 (with_red_cut []) (run_of events).world

one_forgets_what_all_were_handed : QuietSettles (leads_to one_forgets ∷ []) → ⊥
unfolding cases_compute
one_forgets_what_all_were_handed g =
    let settled = g (leads_to one_forgets) 1 (0, omega arith, refl) (omega arith) (omega arith) refl in
    let same : false ≡ true = knows_alike one_forgets 1 2 (name 1 1) settled (remains one_forgets 1 2 refl refl) (omega arith) in
    false≢true same

-- ---- a made action stays

made_and_lost : MadeStays (made_alone ∷ []) → ⊥
made_and_lost g =
    let there = g [] made_alone (name 1 1) (up_with 1 state.RegPrim 0 1 1) ([], refl) (0, omega arith, refl) refl in omega (arith, there.1)

-- ---- a run comes to what its whole input comes to

abbrev input_with_end : List ℕ
input_with_end = written ("start 1" ∷ "end" ∷ [])

abbrev full : SourceView
full = record { left = Some input_with_end; faults = 0 }

abbrev used_up : SourceView
used_up = record { left = Some []; faults = 0 }

abbrev nothing_put : SinkView
nothing_put = record { held = Some []; faults = 0 }

ended_before_its_end : Completes (Some (Replay Whole)) full used_up nothing_put nothing_put (status.NoEnd 2) → ⊥
unfolding cases_compute
ended_before_its_end g = ⊎_elim (λ (refused : status.NoEnd 2 ≡ status.NoMemory). cc) (λ told. (let is : Some status.Done ≡ Some (status.NoEnd 2) = told.0 in cc)) (g input_with_end (λ e. refl) tt refl refl)

done_without_its_report : Completes (Some (Replay Whole)) full used_up nothing_put nothing_put status.Done → ⊥
unfolding cases_compute
done_without_its_report g = ⊎_elim (λ (refused : status.Done ≡ status.NoMemory). cc) (λ told. true≢false (ap is_nil told.3.all)) (g input_with_end (λ e. refl) tt refl refl)

-- ---- refused exactly

abbrev starts_nobody : Step
starts_nobody = showing (Start []) no_entry

step_of_a_refused_event : RefusedExactly (starts_nobody ∷ []) None → ⊥
unfolding cases_compute
step_of_a_refused_event g = let admitted = g.admitted [] starts_nobody ([], refl) in cc

other_reason : RefusedExactly [] (Some record { event = Start []; reason = NotUp 1 }) → ⊥
unfolding cases_compute
other_reason g = let reason = g.reason (record { event = Start []; reason = NotUp 1 }) refl in cc

-- ---- items are numbered

abbrev item_of : ℕ → Item
item_of number = record { number = number; further = None; step = Some (showing Gather no_entry); lines = [] }

numbered_from_two : AreNoted no_world Alone 0 (item_of 2 ∷ []) → ⊥
numbered_from_two are = let first : 2 ≡ 1 = are.0 in omega (arith, first)

number_left_out : AreNoted no_world Alone 0 (item_of 1 ∷ item_of 3 ∷ []) → ⊥
number_left_out are = let second : 3 ≡ 2 = are.4.0 in omega (arith, second)

behind_the_limit : AreNoted no_world Alone 2000000 (item_of 2000001 ∷ []) → ⊥
behind_the_limit are = let below : 2000000 < 2000000 = are.1 in omega (arith, below)
