-- For what the followers of a run agree on, small transcripts that don't.
use Rattle.std.specs.Prelude.{◌≤◌, ℕ, false, List, [], ◌∷◌, ◌++◌, Option, Some, None, map, codes, pos}
use Rattle.std.proofs.Common.{refl, arith}
use Rattle.cg_base.specs.declared.action_id.ActionId.{ActionId}
use Rattle.cg_action.specs.declared.value.Value.TheVariants.{Int as IntValue}
use Rattle.cg_action.specs.declared.command.Cmd.{Cmd}
use Rattle.cg_action.specs.declared.command.Cmd.TheVariants.{Put, Inc}
use Rattle.cg_action.specs.declared.action.Kind.TheVariants.{Update}
use Rattle.cg_action.specs.declared.query.Query.TheVariants.{Get}
use Rattle.cg_action.specs.declared.answer.Answer.TheVariants.{Int}
use Rattle.cg_report.specs.NoEntry.{no_entry}
use Rattle.cg_report.specs.declared.line.Line.{Line}
use Rattle.cg_report.specs.declared.line.StateName.TheVariants.{RegPrim}
use Rattle.cg_report.specs.declared.line.ShownPhase.TheVariants.{Regular}
use Rattle.cg_schedule.specs.declared.event.Event.TheVariants.{Gather}
use Rattle.cg_model.specs.World.{no_world}
use Rattle.cg_follow.specs.declared.event.FollowEvent.{FollowEvent}
use Rattle.cg_follow.specs.declared.event.FollowEvent.TheVariants.{Follower, Feed, Stop, Recover, Weak}
use Rattle.cg_items.specs.declared.companion.Further.TheVariants as further
use Rattle.cg_items.specs.declared.companion.FurtherLine.TheVariants as line
use Rattle.cg_follower_list.specs.declared.follow_line.FollowLine.{FollowLine}
use Rattle.cg_follower_list.specs.declared.follow_line.FollowLine.TheVariants.{At, Down, Weak as Answers}
use Rattle.cg_items.specs.Items.{Item}
use Rattle.cg_items.specs.Refused.{Refused}
use Rattle.cg_items.specs.FollowersAgree.{FollowersAgree}
use Rattle.cg_run_cases.specs.Computing.{cases_compute}

-- ---- items that show little

abbrev acting : ℕ → FollowEvent → List FollowLine → Item
acting n e lines = record { number = n; further = Some (further.Follow e); step = None; lines = map line.Follow lines }

abbrev name : ℕ → ActionId
name index = record { creator = 1; index = index }

-- a line of replica 1 with so many greens
abbrev line_with : ℕ → Line
line_with count = record {
  id = 1;
  up = Some record {
    state = RegPrim;
    phase = Regular 1;
    view = record {
      green_count = count;
      white_count = 0;
      prim = record { index = 1; conf = 1; set = [] };
      attempt_index = 0;
      vulnerable = None;
      yellow = record { valid = false; list = [] };
      reds = [];
      own = [];
      left = [];
      buffered = 0;
    };
  };
}

-- a step that makes an action of replica 1 and puts it in the order
abbrev making : ℕ → Cmd → Item
making index cmd =
    let entry = record no_entry {
      made = record { id = name index; kind = Update (cmd ∷ []) None } ∷ [];
      orders = record { place = index; id = name index } ∷ [];
      lines = line_with index ∷ [];
    } in
    record { number = index; further = None; step = Some record { event = Gather; entry = entry; world = no_world }; lines = [] }

abbrev first : Item
first = making 1 (Put (codes "x") (IntValue (pos 1)))

abbrev second : Item
second = making 2 (Inc (codes "x") (pos 4))

-- follower 7 is made of replica 1 behind its first action, which makes another one
abbrev made_at_one : List Item
made_at_one = first ∷ acting 2 (Follower 7 1) (At 7 1 ∷ []) ∷ second ∷ []

abbrev get_x : FollowEvent
get_x = Weak 7 (Get (codes "x"))

-- ---- what is not so

-- a follower that counts the actions of a feed without applying them
abbrev fed_to_two : Item
fed_to_two = acting 4 (Feed 1 7 5) (At 7 2 ∷ [])

counting_alone_is_no_feed : (refused : Option Refused) → FollowersAgree (made_at_one ++ fed_to_two ∷ acting 5 get_x (Answers 7 (Int (pos 1)) ∷ []) ∷ []) refused → ⊥
unfolding cases_compute
counting_alone_is_no_feed refused agrees =
    let wrong = agrees.lines (made_at_one ++ fed_to_two ∷ []) (acting 5 get_x (Answers 7 (Int (pos 1)) ∷ [])) ([], refl) in
    cc

-- a feed of one action that goes on by two
too_far_is_no_feed : (refused : Option Refused) → FollowersAgree (first ∷ second ∷ acting 3 (Follower 7 1) (At 7 2 ∷ []) ∷ acting 4 (Feed 1 7 1) (At 7 3 ∷ []) ∷ []) refused → ⊥
unfolding cases_compute
too_far_is_no_feed refused agrees =
    let wrong = agrees.lines (first ∷ second ∷ acting 3 (Follower 7 1) (At 7 2 ∷ []) ∷ []) (acting 4 (Feed 1 7 1) (At 7 3 ∷ [])) ([], refl) in
    cc

-- a feed that is struck with its gate closed, and stands behind the recovery
abbrev struck_closed : List Item
struck_closed = made_at_one ++ acting 4 (Stop 7 3 []) [] ∷ acting 5 (Feed 1 7 5) (Down 7 ∷ []) ∷ []

closed_gate_has_no_feed : (refused : Option Refused) → FollowersAgree (struck_closed ++ acting 6 (Recover 7) (At 7 2 ∷ []) ∷ []) refused → ⊥
unfolding cases_compute
closed_gate_has_no_feed refused agrees =
    let wrong = agrees.lines struck_closed (acting 6 (Recover 7) (At 7 2 ∷ [])) ([], refl) in
    cc

-- and one with its gate open, that doesn't
abbrev struck_open : List Item
struck_open = made_at_one ++ acting 4 (Stop 7 4 (1 ∷ [])) [] ∷ acting 5 (Feed 1 7 5) (Down 7 ∷ []) ∷ []

open_gate_has_the_feed : (refused : Option Refused) → FollowersAgree (struck_open ++ acting 6 (Recover 7) (At 7 1 ∷ []) ∷ []) refused → ⊥
unfolding cases_compute
open_gate_has_the_feed refused agrees =
    let wrong = agrees.lines struck_open (acting 6 (Recover 7) (At 7 1 ∷ [])) ([], refl) in
    cc

-- a stop in the fifth call that strikes the first feed
early_strike : (refused : Option Refused) → FollowersAgree (made_at_one ++ acting 4 (Stop 7 5 []) [] ∷ acting 5 (Feed 1 7 5) (Down 7 ∷ []) ∷ []) refused → ⊥
unfolding cases_compute
early_strike refused agrees =
    let wrong = agrees.lines (made_at_one ++ acting 4 (Stop 7 5 []) [] ∷ []) (acting 5 (Feed 1 7 5) (Down 7 ∷ [])) ([], refl) in
    cc

-- a cursor that falls, and one past the order
falling_cursor : (refused : Option Refused) → FollowersAgree (first ∷ second ∷ acting 3 (Follower 7 1) (At 7 2 ∷ []) ∷ acting 4 (Follower 7 1) (At 7 1 ∷ []) ∷ []) refused → ⊥
unfolding cases_compute
falling_cursor refused agrees =
    let wrong : 2 ≤ 1 = agrees.never_falls (first ∷ second ∷ acting 3 (Follower 7 1) (At 7 2 ∷ []) ∷ []) (acting 4 (Follower 7 1) (At 7 1 ∷ [])) 7 ([], refl) in
    absurd (omega (arith, wrong))

past_the_order : (refused : Option Refused) → FollowersAgree (first ∷ acting 2 (Follower 7 1) (At 7 2 ∷ []) ∷ []) refused → ⊥
unfolding cases_compute
past_the_order refused agrees =
    let wrong : 2 ≤ 1 = agrees.within (first ∷ []) (acting 2 (Follower 7 1) (At 7 2 ∷ [])) 7 ([], refl) in
    absurd (omega (arith, wrong))

-- a right one is none of these: what is due of it is what it shows
