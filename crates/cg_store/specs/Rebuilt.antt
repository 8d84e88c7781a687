-- What puts actions of a checkpoint into what a replica holds.
use Rattle.std.specs.Prelude.{ℕ, false, [], ◌∷◌, ◌++◌}
use Rattle.cg_action.specs.declared.action.Action.{Action}
use Rattle.cg_queue.specs.Queue.{placed_green, placed_red}
use Rattle.cg_client.specs.Replica.{Held}
use Rattle.cg_client.specs.Marks.{after_first}
use Rattle.cg_store.specs.declared.resuming.GreenState.{GreenState}

-- a kept green action behind the others; the database has it already
abbrev pub with_kept_green : Held → Action → Held
with_kept_green h a = record h { queue = placed_green h.queue a }

-- a red action
abbrev pub with_kept_red : Held → Action → Held
with_kept_red h a = record h { queue = placed_red h.queue a; own = after_first h.own a.id }

-- an own action behind the others
abbrev pub with_kept_own : Held → Action → Held
with_kept_own h a = record h { own = h.own ++ a ∷ [] }

-- what a replica holds that has these greens, and knows no other action
abbrev pub resumed_with : ℕ → GreenState → Held
resumed_with id g =
    record {
      id = id;
      queue = record {
        white = g.reached.white;
        greens = g.greens;
        green_cut = g.reached.cut;
        red_cut = g.reached.cut;
        reds = [];
        yellow = [];
      };
      yellow_valid = false;
      own = [];
      db = g.db;
      members = g.reached.members;
      prim = g.prim;
      attempt_index = g.attempt_index;
      vulnerable = g.vulnerable;
      buffered = [];
      owed = [];
    }
