-- How the steps of a run tell of the chronicle that they lead to: what was shown stands for what is.
use Rattle.std.specs.Prelude.{◌≡◌, ℕ, ◌==◌, nat_le, ◌≤◌, List, [], Option, Some, None, Contains, find, fold, if◌then◌else◌}
use Rattle.std.specs.Option.{option_or}
use Rattle.cg_base.specs.declared.action_id.ActionId.{ActionId}
use Rattle.cg_base.specs.Ids.{has_name}
use Rattle.cg_base.specs.Cuts.{index_in}
use Rattle.cg_action.specs.declared.action.Action.{Action}
use Rattle.cg_queue.specs.Queue.{green_count}
use Rattle.cg_report.specs.declared.line.Line.{Line}
use Rattle.cg_report.specs.declared.line.UpLine.{UpLine}
use Rattle.cg_client.specs.Replica.{Replica}
use Rattle.cg_model.specs.World.{Node, World, no_world, replica_of}
use Rattle.cg_model.specs.Show.{line_of}
use Rattle.cg_model.specs.Run.{Step, IsRunFrom, world_after}
use Rattle.cg_model.specs.Shown.{order_of, made_names, lines_in, position_of, white_of, made_from, start_of}
use Rattle.cg_model.specs.Chronicle.{Chronicle, no_chronicle}
use Rattle.cg_model.specs.Noting.{chronicle_after}
use Rattle.cg_model.specs.Played.{with_world}

-- the replica's line, in place of an earlier one
abbrev pub latest : ℕ → Option Line → Line → Option Line
latest p last l = if l.id == p then Some l else last

-- the last line of a replica, up or down
abbrev pub last_line : ℕ → List Step → Option Line
last_line p steps = fold (latest p) None (lines_in steps)

-- the line of a replica while it was up, in place of an earlier one
abbrev pub last_of : ℕ → Option UpLine → Line → Option UpLine
last_of p last l = if l.id == p then option_or l.up last else last

-- the printed line of a replica
abbrev pub printed : World → ℕ → Option Line
printed w p = find (λ l. l.id == p) w.lines

-- all made actions of a run
abbrev pub made_of : List Step → List Action
made_of steps = made_from [] steps

-- The order lines are the world's order; each last printed line is the last that was shown, and is the replica's line as it stands; of a
-- replica that is up the position and the white count are its own; the actions shown as made are those up to the world's cut,
-- each as it was made.
pub record Tells (steps : List Step) (c : Chronicle) : Type 0 where
  pub start : start_of steps ≡ c.start
  pub order : order_of steps ≡ c.world.order
  pub shown : (p : ℕ) → printed c.world p ≡ last_line p steps
  pub stands : (s : Node) → Contains c.world.nodes s → printed c.world s.id ≡ Some (line_of c.world.group s)
  pub position : (p : ℕ) (r : Replica) → replica_of c.world p ≡ Some r → position_of p steps ≡ green_count r.held.queue
  pub white : (p : ℕ) (r : Replica) → replica_of c.world p ≡ Some r → white_of p steps ≡ r.held.queue.white
  pub made : (id : ActionId) → 1 ≤ id.index →
      has_name (made_names steps) id ≡ nat_le id.index (index_in c.world.made id.creator)
  pub as_made : (a : Action) → Contains (made_of steps) a → Contains c.book a

-- the steps of every run tell of the world that they lead to
abbrev pub EveryRunTells : Type 0
EveryRunTells =
    (steps : List Step) → IsRunFrom no_world steps →
    Tells steps (with_world (chronicle_after no_chronicle no_world steps) (world_after no_world steps))
