-- A replica's node stands again behind a recovery.
use Rattle.std.specs.Prelude.{Option, Some, None}
use Rattle.cg_group.specs.Events.{come_up}
use Rattle.cg_model.specs.World.{World, Node, set_life}
use Rattle.cg_model.specs.Show.{StepInProgress, EventEffects, tell}
use Rattle.cg_model.specs.Step.{quietly}

-- it has come up, and what is to be shown of that is shown; or it is down
abbrev pub put_back : World → Node × Option EventEffects → StepInProgress
put_back w (s, Some news) =
    let up = set_life w s.id s.life in tell (quietly (record up { group = come_up up.group s.id })) news
put_back w (s, None) = quietly (set_life w s.id s.life)
