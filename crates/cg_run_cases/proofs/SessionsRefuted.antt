-- For each thing that the sessions of a run agree on, small transcripts that don't.
use Rattle.std.specs.Prelude.{ℕ, true, List, [], ◌∷◌, Option, Some, None, map, length}
use Rattle.std.proofs.Common.{refl, ap, arith}
use Rattle.cg_base.specs.declared.action_id.ActionId.{ActionId}
use Rattle.cg_action.specs.declared.action.Kind.TheVariants.{Update}
use Rattle.cg_action.specs.declared.query.Query.TheVariants.{Count}
use Rattle.cg_action.specs.declared.answer.Answer.{Answer}
use Rattle.cg_action.specs.declared.answer.Answer.TheVariants.{Count as Counted}
use Rattle.cg_action.specs.declared.effect.Effect.TheVariants.{Done}
use Rattle.cg_group.specs.declared.reason.Reason.{Reason}
use Rattle.cg_group.specs.declared.reason.Reason.TheVariants.{UnknownSession, SessionUsed}
use Rattle.cg_report.specs.NoEntry.{no_entry}
use Rattle.cg_report.specs.declared.entry.Entry.{Entry}
use Rattle.cg_schedule.specs.declared.event.Event.TheVariants.{Gather}
use Rattle.cg_client.specs.Replica.{NonPrim, fresh_held}
use Rattle.cg_disk_records.specs.Crash.{new_disk}
use Rattle.cg_model.specs.World.{World, Up, no_world}
use Rattle.cg_session.specs.declared.event.SessionEvent.{SessionEvent}
use Rattle.cg_session.specs.declared.event.SessionEvent.TheVariants.{Begin, Write, Weak}
use Rattle.cg_items.specs.declared.companion.Further.TheVariants as further
use Rattle.cg_items.specs.declared.companion.FurtherLine.TheVariants as line
use Rattle.cg_session_list.specs.declared.session_line.SessionLine.{SessionLine}
use Rattle.cg_session_list.specs.declared.session_line.SessionLine.TheVariants.{Wrote, At, Behind, Answered}
use Rattle.cg_items.specs.Items.{Item}
use Rattle.cg_items.specs.Refused.{OfFurther}
use Rattle.cg_items.specs.SessionsAgree.{SessionsAgree}

-- ---- items that show little

abbrev acting : ℕ → SessionEvent → List SessionLine → Item
acting n e lines = record { number = n; further = Some (further.Session e); step = None; lines = map line.Session lines }

-- a step of this world that shows so much, and what stands behind it
abbrev stepping : ℕ → Option SessionEvent → World → Entry → List SessionLine → Item
stepping n None w entry lines = record { number = n; further = None; step = Some record { event = Gather; entry = entry; world = w }; lines = map line.Session lines }
stepping n (Some e) w entry lines =
    record { number = n; further = Some (further.Session e); step = Some record { event = Gather; entry = entry; world = w }; lines = map line.Session lines }

abbrev name : ℕ → ℕ → ActionId
name creator index = record { creator = creator; index = index }

-- an entry with a reply to the first action
abbrev one_reply : Entry
one_reply = record no_entry {
  orders = record { place = 1; id = name 1 1 } ∷ [];
  replies = record { id = name 1 1; effect = Done; answer = None } ∷ [];
}

abbrev one_made : Entry
one_made = record no_entry { made = record { id = name 1 1; kind = Update [] (Some Count) } ∷ [] }

-- a world in which that action stands in the order
abbrev with_order : World
with_order = record no_world { order = name 1 1 ∷ [] }

-- a world with a replica
abbrev with_replica : World
with_replica =
    let h = fresh_held 1 [] in
    record no_world { nodes = record { id = 1; life = Up (record { held = h; state = NonPrim true }) (new_disk h) } ∷ [] }

abbrev writes : SessionEvent
writes = Write 1 1 [] (Some Count)

abbrev reads : SessionEvent
reads = Weak 1 1 Count

abbrev counted : Answer → ℕ
counted (Counted n) = n
counted other = 0

-- the number of lines
abbrev count_lines : List SessionLine → ℕ
count_lines lines = length lines

-- ---- an answer is that of its prefix

abbrev wrong_answer : Item
wrong_answer = acting 1 reads (Answered 1 (Counted 3) 0 ∷ [])

answers_another : SessionsAgree (wrong_answer ∷ []) None → ⊥
answers_another g = let both = g.prefix [] wrong_answer 1 1 Count (Counted 3) 0 ([], refl) refl (0, omega arith, refl) in omega (arith, ap counted both.1)

abbrev too_far : Item
too_far = acting 1 reads (Answered 1 (Counted 0) 2 ∷ [])

answers_beyond_the_order : SessionsAgree (too_far ∷ []) None → ⊥
answers_beyond_the_order g = let both = g.prefix [] too_far 1 1 Count (Counted 0) 2 ([], refl) refl (0, omega arith, refl) in omega (arith, both.0)

-- ---- what a session has seen never gets less

falling : List Item
falling = acting 1 reads (At 1 2 ∷ []) ∷ acting 2 reads (Answered 1 (Counted 0) 1 ∷ []) ∷ []

falls : SessionsAgree falling None → ⊥
unfolding falling
falls g = let less = g.never_falls 1 [] [] [] 2 1 refl in omega (arith, less)

-- ---- it holds what the session wrote and was told of

abbrev wrote_one : Item
wrote_one = stepping 1 (Some writes) no_world one_made (Wrote 1 (name 1 1) ∷ [])

abbrev told_one : Item
told_one = stepping 2 None with_order one_reply []

abbrev read_before : Item
read_before = acting 3 reads (Answered 1 (Counted 0) 0 ∷ [])

abbrev forgetful : List Item
forgetful = wrote_one ∷ told_one ∷ read_before ∷ []

reads_without_its_write : SessionsAgree forgetful None → ⊥
reads_without_its_write g =
    let there = g.own_writes (wrote_one ∷ told_one ∷ []) read_before 1 (Counted 0) 0 (name 1 1) ([], refl) (0, omega arith, refl) (0, omega arith, refl) (0, omega arith, refl) in
    omega (arith, there.1)

-- ---- the lines come as they are due

-- a reply that doesn't raise the token
reply_that_raises_nothing : SessionsAgree (wrote_one ∷ told_one ∷ []) None → ⊥
reply_that_raises_nothing g = let same = g.lines (wrote_one ∷ []) told_one ([], refl) in omega (arith, ap count_lines same)

abbrev told_stranger : Item
told_stranger = stepping 1 None with_order one_reply (At 1 1 ∷ [])

reply_to_another : SessionsAgree (told_stranger ∷ []) None → ⊥
reply_to_another g = let same = g.lines [] told_stranger ([], refl) in omega (arith, ap count_lines same)

abbrev wrote_silently : Item
wrote_silently = stepping 1 (Some writes) no_world one_made []

write_without_a_line : SessionsAgree (wrote_silently ∷ []) None → ⊥
write_without_a_line g = let same = g.lines [] wrote_silently ([], refl) in omega (arith, ap count_lines same)

abbrev first_behind : List SessionLine → ℕ
first_behind (Behind s have want ∷ lines) = 1
first_behind lines = 0

abbrev refuses_to_read : Item
refuses_to_read = acting 1 reads (Behind 1 0 0 ∷ [])

behind_nothing : SessionsAgree (refuses_to_read ∷ []) None → ⊥
behind_nothing g = let same = g.lines [] refuses_to_read ([], refl) in omega (arith, ap first_behind same)

-- ---- a write makes its action, unless it is struck

abbrev made_nothing : Item
made_nothing = stepping 1 (Some writes) with_replica no_entry []

write_that_makes_nothing : SessionsAgree (made_nothing ∷ []) None → ⊥
write_that_makes_nothing g =
    let there = g.made [] made_nothing 1 1 [] (Some Count) ([], refl) refl (λ e. cc) in
    omega (arith, ap length there.1)

struck_write_that_makes : SessionsAgree (wrote_one ∷ []) None → ⊥
struck_write_that_makes g = let none = g.struck [] wrote_one 1 1 [] (Some Count) ([], refl) refl refl in omega (arith, ap length none)

-- ---- events are refused exactly

abbrev reason_number : Option Reason → ℕ
reason_number None = 0
reason_number (Some (UnknownSession s)) = 23
reason_number (Some (SessionUsed s)) = 24
reason_number (Some other) = 1

abbrev reads_unopened : Item
reads_unopened = acting 1 reads (Answered 1 (Counted 0) 0 ∷ [])

admits_without_session : SessionsAgree (reads_unopened ∷ []) None → ⊥
admits_without_session g = let none = g.admitted [] reads_unopened reads ([], refl) refl in omega (arith, ap reason_number none)

refuses_a_new_session : SessionsAgree [] (Some (OfFurther (further.Session (Begin 1)) (SessionUsed 1))) → ⊥
refuses_a_new_session g = let used = g.reason (Begin 1) (SessionUsed 1) refl in omega (arith, ap reason_number used)
