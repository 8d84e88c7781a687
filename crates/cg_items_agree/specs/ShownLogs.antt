-- That the logs of every run agree, in one sentence.
use Rattle.std.specs.Prelude.{List}
use Rattle.cg_model.specs.World.{no_world}
use Rattle.cg_model.specs.Run.{Step, IsRunFrom}
use Rattle.cg_items.specs.LogsShown.{LogsAgree}

-- the logs that the steps of a run show agree
abbrev pub ShownLogsAgree : Type 0
ShownLogsAgree = (steps : List Step) → IsRunFrom no_world steps → LogsAgree steps
