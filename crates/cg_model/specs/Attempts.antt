-- The attempts to form a primary component: each is taken from the first replica that enters it.
use Rattle.std.specs.Prelude.{ℕ, ◌==◌, Bool, List, [], ◌∷◌, ◌++◌, Option, Some, None, if◌then◌else◌}
use Rattle.std.specs.List.{list_any}
use Rattle.cg_action.specs.declared.action.Action.{Action}
use Rattle.cg_records.specs.declared.vulnerable.Vulnerable.{Vulnerable}
use Rattle.cg_client.specs.Replica.{Held}
use Rattle.cg_client.specs.Install.{valid_yellow}
use Rattle.cg_client.specs.Queries.{plain_reds}
use Rattle.cg_model.specs.Chronicle.{Attempt}
use Rattle.cg_model.specs.World.{NodeState, Up, Down}

-- what a replica holds: as it runs, or, while it is down, as its disk has it
abbrev pub held_in : NodeState → Held
held_in (Up r disk) = r.held
held_in (Down disk green) = disk.content

-- the attempt of a replica's record, as that replica enters it with these greens
abbrev pub new_attempt : List Action → Held → Vulnerable → Attempt
new_attempt greens h v =
    record {
      conf = v.attempt;
      from = v.from;
      set = v.set;
      greens = greens;
      yellow = valid_yellow h;
      reds = plain_reds h.queue;
      entered = [];
      installed = [];
      left = [];
    }

-- the attempt of that configuration is in the list
abbrev pub is_seen : List Attempt → ℕ → Bool
is_seen attempts conf = list_any (λ a. a.conf == conf) attempts

-- an attempt is taken from the first member that has a record of it
abbrev pub with_attempt_of : List Attempt → List Action → Held → Option Vulnerable → List Attempt
with_attempt_of attempts greens h None = attempts
with_attempt_of attempts greens h (Some v) = if is_seen attempts v.attempt then attempts
    else attempts ++ new_attempt greens h v ∷ []
