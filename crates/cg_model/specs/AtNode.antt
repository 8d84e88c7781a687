-- What a step makes of a world by the life of one replica's node, in short: laws go by cases on that life.
use Rattle.std.specs.Prelude.{ℕ}
use Rattle.std.specs.Option.{option_map_or}
use Rattle.cg_client.specs.Turn.{Turn}
use Rattle.cg_states.specs.ReplicaStep.{Input}
use Rattle.cg_client.specs.Replica.{Replica}
use Rattle.cg_disk_records.specs.Crash.{Disk, Strike, EventEnd}
use Rattle.cg_model.specs.World.{NodeState, TransferState, World, set_life, bring_up, bring_down}
use Rattle.cg_model.specs.Show.{EventEffects, StepInProgress, tell}
use Rattle.cg_model.specs.Step.{quietly, behind, taken, comes_back, armed, crashed, risen, downgraded, without_snapshot, handed, takes}

abbrev pub after_event : StepInProgress → ℕ → Turn → EventEnd → StepInProgress
after_event g p t e = comes_back g p (behind t e)

abbrev pub hand_to : StepInProgress → ℕ → Input → NodeState → StepInProgress
hand_to g p input life = option_map_or (comes_back g p) (taken input life) g

abbrev pub arm_at : World → ℕ → Strike → NodeState → World
arm_at w p strike life = option_map_or (set_life w p) (armed strike life) w

abbrev pub crash_at : World → ℕ → NodeState → World
crash_at w p life = option_map_or (bring_down w p) (crashed life) w

-- it comes up so
abbrev pub comes_up : World → Replica × Disk × EventEffects → StepInProgress
comes_up w up = tell (quietly (bring_up w up.0 up.1)) up.2

abbrev pub recover_from : World → NodeState → StepInProgress
recover_from w life = option_map_or (comes_up w) (risen w.made life) (quietly w)

abbrev pub downgrade_at : World → ℕ → NodeState → World
downgrade_at w p life = option_map_or (set_life w p) (downgraded life) w

-- the snapshot is taken out of the world, and stands there again with more pieces
abbrev pub take_pieces : World → TransferState → ℕ → StepInProgress
take_pieces w s pieces = takes (without_snapshot w s.joiner) s pieces

abbrev pub with_pieces : World → TransferState → ℕ → World
with_pieces w s taken = handed (without_snapshot w s.joiner) (record s { taken = taken })
