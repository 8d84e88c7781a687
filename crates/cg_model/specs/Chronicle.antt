-- The chronicle of a run: the world, and beside it what no replica need keep and agreement speaks of.
use Rattle.std.specs.Prelude.{ℕ, List, []}
use Rattle.cg_base.specs.declared.weighted.Weighted.{Weighted}
use Rattle.cg_action.specs.declared.action.Action.{Action}
use Rattle.cg_knowledge.specs.declared.summary.Summary.{Summary}
use Rattle.cg_model.specs.World.{World, no_world}

-- all greens of a replica from the first one on, as it runs and as its disk has them. While it is down both are one
pub record Past : Type 0 where
  pub id : ℕ
  pub greens : List Action
  pub stood : List Action

-- what a replica told as it came into a configuration, and its greens then
pub record Told : Type 0 where
  pub summary : Summary
  pub greens : List Action

-- a member that has left an attempt's configuration, with its green count as it left
pub record Leaving : Type 0 where
  pub member : ℕ
  pub count : ℕ

-- an attempt: its configuration, the index that it was made from, its members; what its installation makes green, in three
-- parts; and the members that entered it, that installed it, and that entered it and left its configuration
pub record Attempt : Type 0 where
  pub conf : ℕ
  pub from : ℕ
  pub set : List ℕ
  pub greens : List Action
  pub yellow : List Action
  pub reds : List Action
  pub entered : List ℕ
  pub installed : List ℕ
  pub left : List Leaving

-- the greens in a snapshot under way
pub record Copy : Type 0 where
  pub joiner : ℕ
  pub giver : ℕ
  pub greens : List Action

-- the servers of the start; the world; the greens of each replica that has begun; all that was told, oldest first; the
-- attempts, in the order in which they were entered; the configurations of those that were installed, each by its first
-- member, in the order of their installation; the greens of the snapshots; and every action that was made, oldest first
pub record Chronicle : Type 0 where
  pub start : List Weighted
  pub world : World
  pub pasts : List Past
  pub told : List Told
  pub attempts : List Attempt
  pub levels : List ℕ
  pub copies : List Copy
  pub book : List Action

-- the empty world, of which there is nothing to tell
abbrev pub no_chronicle : Chronicle
no_chronicle = record {
  start = [];
  world = no_world;
  pasts = [];
  told = [];
  attempts = [];
  levels = [];
  copies = [];
  book = [];
}
